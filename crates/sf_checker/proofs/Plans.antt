-- The plan that a certificate's expression spells.
use Rattle.std.proofs.Common.{◌≡◌, ℕ, ◌≤◌, List, length, All, arith, sym, subst}
use Rattle.sf_checker.proofs.Common.{Contains, Design, HasEachOnce, IsLegal, Fits, block_count, shapes_of, Leaf, Beside, Above, leaves, leaf_count, HasSides, HasBlocksBelow, Expr, IsUnfit, AllByRecursion, All-from_recursion, recursion_from_All, each-append, each-left, each-right, IsWritable}
use Rattle.sf_model.specs.declared.parts.Shape.{Shape}
use Rattle.sf_model.specs.Limits.{IsSide}
use Rattle.sf_model.specs.Tree.{Tree}
use Rattle.sf_place.proofs.ByNumber.{plan-leaves}
use Rattle.sf_model.proofs.BlocksBelow.{once-below}
use Rattle.sf_polish.specs.Postfix.{Spells, shape_at}
use Rattle.sf_polish.proofs.Shaped.{once-of_normal}
use Rattle.sf_checker.specs.Listed.{HasListedShapes}

-- the sides of leaves that have the listed shapes keep the limit
sides-from : (n : ℕ) (shapes : List Shape) (t : Tree) → HasBlocksBelow n t → length shapes ≡ n → All (λ s. IsSide s.w × IsSide s.h) shapes → AllByRecursion (λ leaf. leaf.1 ≡ shape_at shapes leaf.0) (leaves t) → HasSides t
sides-from n shapes (Leaf b s) below e sides is =
    subst (λ (z : Shape). IsSide z.w × IsSide z.h) (sym is.0) (sides b (record { w = 0; h = 0 }) (omega (arith, below, e)))
sides-from n shapes (Beside l r) below e sides is =
    let P : ℕ × Shape → Type 0 = λ leaf. leaf.1 ≡ shape_at shapes leaf.0 in
    (sides-from n shapes l below.0 e sides (each-left P (leaves l) (leaves r) is), sides-from n shapes r below.1 e sides (each-right P (leaves l) (leaves r) is))
sides-from n shapes (Above l r) below e sides is =
    let P : ℕ × Shape → Type 0 = λ leaf. leaf.1 ≡ shape_at shapes leaf.0 in
    (sides-from n shapes l below.0 e sides (each-left P (leaves l) (leaves r) is), sides-from n shapes r below.1 e sides (each-right P (leaves l) (leaves r) is))

-- listed node by node, the shapes are those of the leaves
listed-leaves : (design : Design) (t : Tree) → HasListedShapes design t → AllByRecursion (λ leaf. Contains (shapes_of design leaf.0) leaf.1) (leaves t)
listed-leaves design (Leaf b s) h = (h, tt)
listed-leaves design (Beside l r) h = each-append (λ leaf. Contains (shapes_of design leaf.0) leaf.1) (leaves l) (leaves r) (listed-leaves design l h.0) (listed-leaves design r h.1)
listed-leaves design (Above l r) h = each-append (λ leaf. Contains (shapes_of design leaf.0) leaf.1) (leaves l) (leaves r) (listed-leaves design l h.0) (listed-leaves design r h.1)

-- and the other way
leaves-listed : (design : Design) (t : Tree) → AllByRecursion (λ leaf. Contains (shapes_of design leaf.0) leaf.1) (leaves t) → HasListedShapes design t
leaves-listed design (Leaf b s) h = h.0
leaves-listed design (Beside l r) h =
    let P : ℕ × Shape → Type 0 = λ leaf. Contains (shapes_of design leaf.0) leaf.1 in
    (leaves-listed design l (each-left P (leaves l) (leaves r) h), leaves-listed design r (each-right P (leaves l) (leaves r) h))
leaves-listed design (Above l r) h =
    let P : ℕ × Shape → Type 0 = λ leaf. Contains (shapes_of design leaf.0) leaf.1 in
    (leaves-listed design l (each-left P (leaves l) (leaves r) h), leaves-listed design r (each-right P (leaves l) (leaves r) h))

module _ (design : Design) (expr : Expr) (tree : Tree) (writable : IsWritable (block_count design) expr) (spells : Spells expr tree) where
  -- the plan has each block once
  pub once : HasEachOnce (block_count design) tree
  once = once-of_normal (block_count design) expr.tokens tree writable.normal spells.tokens

  -- all its blocks are of the design
  pub blocks-below : HasBlocksBelow (block_count design) tree
  blocks-below = once-below (block_count design) tree once

  -- it has few leaves
  pub leaves-few : leaf_count tree ≤ 320
  leaves-few = omega (arith, plan-leaves (block_count design) tree once, design.limits.few_blocks)

  -- its sides keep the limit
  pub has-sides : HasSides tree
  has-sides = sides-from (block_count design) expr.shapes tree blocks-below writable.one_each writable.sides (recursion_from_All (λ leaf. leaf.1 ≡ shape_at expr.shapes leaf.0) (leaves tree) spells.shapes)

  -- with listed shapes it is a floorplan of the design
  pub listed-legal : HasListedShapes design tree → IsLegal design tree
  listed-legal h = record { blocks = once; listed = All-from_recursion (λ leaf. Contains (shapes_of design leaf.0) leaf.1) (leaves tree) (listed-leaves design tree h) }

  -- the shapes are not all listed
  pub unlisted-unfit : (HasListedShapes design tree → ⊥) → IsUnfit design expr
  unlisted-unfit h = record { tree = tree; spells = spells; unfit = λ listed fits. h (leaves-listed design tree (recursion_from_All (λ leaf. Contains (shapes_of design leaf.0) leaf.1) (leaves tree) listed)) }

  -- the plan is too large
  pub large-unfit : (Fits design.outline tree → ⊥) → IsUnfit design expr
  large-unfit h = record { tree = tree; spells = spells; unfit = λ listed fits. h fits }
