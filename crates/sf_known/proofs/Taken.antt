-- A design with paths has the floorplans that it had.
use Rattle.std.proofs.Common.{◌≡◌, ℕ, List, length, refl, ap, sym, subst, ◌∙◌}
use Rattle.sf_known.proofs.Common.{Design, Block, Outline, Fits, cost-of, legal-routed, paths-one, IsFloorplan, Expr, BoundsChoice, Standard, Strong, Pair, Fit, Both, Breaks, IsRouted, Takes}
use Rattle.sf_model.specs.declared.paths.Paths.{Paths}
use Rattle.sf_model.specs.Routed.{HasPaths}
use Rattle.sf_model.proofs.FirstWrong.{first-wrong-one, legal-unbroken}

-- a design has its own paths
pub own-paths : (design : Design) → HasPaths design design.routes.paths design
own-paths design = record { blocks = refl; pads = refl; nets = refl; outline = refl; weights = refl; floor = refl; paths_are = refl }

-- a design that is as it was is routed by any bounds
pub as-it-was : (bounds : BoundsChoice) (design : Design) → IsRouted bounds design design
as-it-was Standard design = (design.routes.paths, refl)
as-it-was Strong design = (design.routes.paths, own-paths design)
as-it-was Pair design = (design.routes.paths, refl)
as-it-was Fit design = (design.routes.paths, refl)
as-it-was Both design = (design.routes.paths, refl)

-- whatever was taken, the first design with its own paths is the second but for the paths
pub takes-paths : (bounds : BoundsChoice) (design : Design) (paths : Paths) (routed : Design) → Takes bounds design paths routed → HasPaths design routed.routes.paths routed
takes-paths Strong design paths routed h = record { blocks = h.blocks; pads = h.pads; nets = h.nets; outline = h.outline; weights = h.weights; floor = h.floor; paths_are = refl }
takes-paths Standard design paths routed h = subst (λ (d : Design). HasPaths d routed.routes.paths routed) h (own-paths routed)
takes-paths Pair design paths routed h = subst (λ (d : Design). HasPaths d routed.routes.paths routed) h (own-paths routed)
takes-paths Fit design paths routed h = subst (λ (d : Design). HasPaths d routed.routes.paths routed) h (own-paths routed)
takes-paths Both design paths routed h = subst (λ (d : Design). HasPaths d routed.routes.paths routed) h (own-paths routed)

-- the design with some paths is one
pub takes-one : (bounds : BoundsChoice) (design : Design) (paths : Paths) (a b : Design) → Takes bounds design paths a → Takes bounds design paths b → a ≡ b
takes-one Strong design paths a b p q = paths-one design paths a b p q
takes-one Standard design paths a b p q = p ∙ sym q
takes-one Pair design paths a b p q = p ∙ sym q
takes-one Fit design paths a b p q = p ∙ sym q
takes-one Both design paths a b p q = p ∙ sym q

-- so is the first wrong path
pub breaks-one : (bounds : BoundsChoice) (design : Design) (paths : Paths) (n m : ℕ) → Breaks bounds design paths n → Breaks bounds design paths m → n ≡ m
breaks-one Strong design paths n m p q = first-wrong-one design.pads design.nets paths n m p q
breaks-one Standard design paths n m p q = absurd p
breaks-one Pair design paths n m p q = absurd p
breaks-one Fit design paths n m p q = absurd p
breaks-one Both design paths n m p q = absurd p

-- and paths that are taken have no wrong one
pub takes-unbroken : (bounds : BoundsChoice) (design : Design) (paths : Paths) (routed : Design) (n : ℕ) → Takes bounds design paths routed → Breaks bounds design paths n → ⊥
takes-unbroken Strong design paths routed n h first =
    let legal = rw (h.pads, h.nets, h.paths_are) at routed.routed.legal in
    legal-unbroken design.pads design.nets paths n legal first
takes-unbroken Standard design paths routed n h first = first
takes-unbroken Pair design paths routed n h first = first
takes-unbroken Fit design paths routed n h first = first
takes-unbroken Both design paths routed n h first = first

-- with paths a design has the floorplans that it had, at their costs
pub routed-floorplan : (bounds : BoundsChoice) (design routed : Design) (expr : Expr) (z : ℕ) → IsRouted bounds design routed → IsFloorplan design expr z → IsFloorplan routed expr z
routed-floorplan bounds design routed expr z h p =
    let k = takes-paths bounds design h.0 routed h.1 in
    record {
      tree = p.tree;
      spells = p.spells;
      one_each = p.one_each ∙ ap (λ (bs : List Block). length bs) (sym k.blocks);
      legal = (legal-routed design routed.routes.paths routed p.tree k).0 p.legal;
      skewed = p.skewed;
      fits = subst (λ (o : Outline). Fits o p.tree) (sym k.outline) p.fits;
      costs = p.costs ∙ sym (cost-of design routed p.tree k.pads k.nets k.weights);
    }
