-- A design that learns a floor of its area, or is given paths, keeps its floorplans and what they cost.
use Rattle.std.proofs.Common.{◌≡◌, ℕ, ◌+◌, ◌*◌, List, [], ◌∷◌, length, map, arith, refl, ap, sym, subst, ◌∙◌, ◌↔◌, pos, ◌*ℤ◌, sum_by, All, Contains}
use Rattle.sf_model.proofs.Common.{Tree, leaves, width, height, spots_of, HasEachOnce, IsLegal, Design, Pad, Pin, Net, Spot, sum_by-cons, shapes_at, IsAreaFloorIn, cost, IsAreaFloor, pad_in, pin_x, pin_y, spread, net_wire, weighed_wire, wire, Block, Outline, Weights, Paths, Routes}
use Rattle.sf_model.proofs.Determined.{same_design}
use Rattle.sf_model.specs.Floored.{HasFloor}
use Rattle.sf_model.specs.Routed.{HasPaths}
use Rattle.sf_model.specs.declared.parts.Pin.TheVariants as pin

-- the floor that a design carries is one
pub own_floor : (design : Design) → IsAreaFloor design design.area_floor
own_floor design tree legal fits = design.floored tree legal.blocks legal.listed fits.0 fits.1

-- 0 is a floor of each area
pub no_floor : (blocks : List Block) (outline : Outline) → IsAreaFloorIn blocks outline 0
no_floor blocks outline tree once listed w h = omega arith

-- functions that agree give lists that do
map-same : {X Y : Type 0} (f g : X → Y) → ((x : X) → f x ≡ g x) → (xs : List X) → map f xs ≡ map g xs
map-same f g same [] = refl
map-same f g same (x ∷ xs) = ap (λ y. y ∷ map f xs) (same x) ∙ ap (λ ys. g x ∷ ys) (map-same f g same xs)

-- and sums that do
sum_by-same : {X : Type 0} (f g : X → ℕ) → ((x : X) → f x ≡ g x) → (xs : List X) → sum_by f xs ≡ sum_by g xs
sum_by-same f g same [] = refl
sum_by-same f g same (x ∷ xs) = omega (arith, sum_by-cons f x xs, sum_by-cons g x xs, same x, sum_by-same f g same xs)

module _ (d e : Design) (pads : e.pads ≡ d.pads) (spots : List Spot) where
  -- pins lie at the same places
  pin_x-same : (p : Pin) → pin_x e spots p ≡ pin_x d spots p
  pin_x-same (pin.Block b) = refl
  pin_x-same (pin.Pad p) = ap (λ (ps : List Pad). pos 2 *ℤ (pad_in ps p).x) pads

  -- upward too
  pin_y-same : (p : Pin) → pin_y e spots p ≡ pin_y d spots p
  pin_y-same (pin.Block b) = refl
  pin_y-same (pin.Pad p) = ap (λ (ps : List Pad). pos 2 *ℤ (pad_in ps p).y) pads

  -- so each net has the same wire
  net_wire-same : (net : Net) → net_wire e spots net ≡ net_wire d spots net
  net_wire-same net = omega (
    arith,
    ap spread (map-same (pin_x e spots) (pin_x d spots) pin_x-same net.pins),
    ap spread (map-same (pin_y e spots) (pin_y d spots) pin_y-same net.pins),
  )

  -- and all nets have
  pub wire-same : e.nets ≡ d.nets → wire e spots ≡ wire d spots
  wire-same nets =
      ap (sum_by (weighed_wire e spots)) nets
      ∙ sum_by-same (weighed_wire e spots) (weighed_wire d spots) (λ net. ap (λ n. net.weight * n) (net_wire-same net)) d.nets

-- where pads, nets and weights are the same a floorplan costs the same
pub cost-of : (d e : Design) (tree : Tree) → e.pads ≡ d.pads → e.nets ≡ d.nets → e.weights ≡ d.weights → cost e tree ≡ cost d tree
cost-of d e tree pads nets weights =
    ap (λ (w : Weights). w.area * (width tree * height tree) + w.wire * wire e (spots_of tree)) weights
    ∙ ap (λ n. d.weights.area * (width tree * height tree) + d.weights.wire * n) (wire-same d e pads (spots_of tree) nets)

-- with a floor, too
pub cost-same : (old : Design) (floor : ℕ) (new : Design) (tree : Tree) → HasFloor old floor new → cost new tree ≡ cost old tree
cost-same old floor new tree h = cost-of old new tree h.pads h.nets h.weights

-- what is a floorplan of some blocks is one of the same blocks
legal-of : (d e : Design) (tree : Tree) → d.blocks ≡ e.blocks → IsLegal d tree → IsLegal e tree
legal-of d e tree same h = record {
  blocks = subst (λ (bs : List Block). HasEachOnce (length bs) tree) same h.blocks;
  listed = subst (λ (bs : List Block). All (λ leaf. Contains (shapes_at bs leaf.0) leaf.1) (leaves tree)) same h.listed;
}

-- so the floorplans are the same
both-legal : (d e : Design) (tree : Tree) → e.blocks ≡ d.blocks → IsLegal d tree ↔ IsLegal e tree
both-legal d e tree same = (legal-of d e tree (sym same), legal-of e d tree same)

-- with a floor
pub legal-same : (old : Design) (floor : ℕ) (new : Design) (tree : Tree) → HasFloor old floor new → IsLegal old tree ↔ IsLegal new tree
legal-same old floor new tree h = both-legal old new tree h.blocks

-- and with paths
pub legal-routed : (old : Design) (paths : Paths) (new : Design) (tree : Tree) → HasPaths old paths new → IsLegal old tree ↔ IsLegal new tree
legal-routed old paths new tree h = both-legal old new tree h.blocks

-- each floor makes one design
pub floor-one : (old : Design) (floor : ℕ) (a b : Design) → HasFloor old floor a → HasFloor old floor b → a ≡ b
floor-one old floor a b p q = same_design a b (p.blocks ∙ sym q.blocks) (p.pads ∙ sym q.pads) (p.nets ∙ sym q.nets) (p.outline ∙ sym q.outline) (p.weights ∙ sym q.weights) (p.floor_is ∙ sym q.floor_is) (ap (λ (r : Routes). r.paths) (p.routes ∙ sym q.routes))

-- each choice of paths makes one
pub paths-one : (old : Design) (paths : Paths) (a b : Design) → HasPaths old paths a → HasPaths old paths b → a ≡ b
paths-one old paths a b p q = same_design a b (p.blocks ∙ sym q.blocks) (p.pads ∙ sym q.pads) (p.nets ∙ sym q.nets) (p.outline ∙ sym q.outline) (p.weights ∙ sym q.weights) (p.floor ∙ sym q.floor) (p.paths_are ∙ sym q.paths_are)
