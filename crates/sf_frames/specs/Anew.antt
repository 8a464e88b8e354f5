-- How the code goes, and nothing that the crate promises: what the curves of a subproblem's items are.
use Rattle.std.specs.Prelude.{◌≡◌, ℕ, List, [], ◌∷◌, ◌++◌, map, reverse, cond}
use Rattle.std.specs.List.{AllZip}
use Rattle.sf_model.specs.declared.design.Design.{Design}
use Rattle.sf_model.specs.declared.parts.Outline.{Outline}
use Rattle.sf_model.specs.declared.parts.Shape.{Shape}
use Rattle.sf_polish.specs.declared.expr.Token.{Token}
use Rattle.sf_polish.specs.declared.expr.Token.TheVariants as token
use Rattle.sf_node.specs.Parts.{Parts}
use Rattle.sf_curves.specs.Points.{IsCurveOf, IsCombination, beside_size, above_size}
use Rattle.sf_node.specs.Children.{is_unused}
use Rattle.sf_standard.specs.Items.{Block, items_of, unused}
use Rattle.sf_frames.specs.Curves.{IsItemCurve}

-- the top two are joined
abbrev pub IsJoined : (Shape → Shape → Shape) → Outline → List (List Shape) → List (List Shape) → Type 0
IsJoined join o old new =
    (below : List (List Shape)) × (l : List Shape) × (r : List Shape) × (c : List Shape)
    × (old ≡ (below ++ l ∷ []) ++ r ∷ []) × (new ≡ below ++ c ∷ []) × IsCombination join o l r c

-- what one token does to a stack of curves, whose last is on top
abbrev pub IsStep : (ℕ → List Shape) → Outline → Token → List (List Shape) → List (List Shape) → Type 0
IsStep shapes o (token.Block b) old new = (c : List Shape) × (new ≡ old ++ c ∷ []) × IsCurveOf o (shapes b) c
IsStep shapes o token.Beside old new = IsJoined beside_size o old new
IsStep shapes o token.Above old new = IsJoined above_size o old new

-- the curves, the last on top, are those of the subproblem's items
abbrev pub AreItemCurves : Design → Parts → List (List Shape) → Type 0
AreItemCurves design node curves = AllZip (IsItemCurve design node) (reverse curves) (items_of node)

-- the curve of a block is added where the block is unused
abbrev pub AddsUnused : Design → Parts → ℕ → List (List Shape) → List (List Shape) → Type 0
AddsUnused design node b old new =
    (added : List (List Shape)) × (new ≡ old ++ added)
    × AllZip (IsItemCurve design node) added (map (λ b. Block b) (cond (is_unused b node.tokens) (b ∷ []) []))

-- the curves of the items, the last on top, and after them those of the unused blocks
abbrev pub AreGroupCurves : Design → Parts → List (List Shape) → Type 0
AreGroupCurves design node curves =
    (front : List (List Shape)) × (others : List (List Shape)) × (curves ≡ front ++ others)
    × AreItemCurves design node front × AllZip (IsItemCurve design node) others (unused node)
