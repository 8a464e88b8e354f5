-- Trees of curves, and the plans that are chosen from them.
use Rattle.std.specs.Prelude.{◌≡◌, ℕ, List, All, AllPairs, Contains, ⊤}
use Rattle.sf_model.specs.declared.design.Design.{Design}
use Rattle.sf_model.specs.declared.parts.Shape.{Shape}
use Rattle.sf_model.specs.Tree.{Tree, Leaf, Beside, Above}
use Rattle.sf_polish.specs.Shaping.{no_shape}
use Rattle.sf_curves.specs.declared.curve_tree.CurveTree.{CurveTree}
use Rattle.sf_curves.specs.declared.curve_tree.CurveTree.TheVariants as tree
use Rattle.sf_model.specs.Spans.{shapes_in}
use Rattle.sf_curves.specs.Points.{IsSlimmer, IsCurveOf, IsCombination, IsJoinOf, IsNarrowest, IsLowest, beside_size, above_size}

-- the plan without its shapes
abbrev pub form : Tree → Tree
form (Leaf b s) = Leaf b no_shape
form (Beside l r) = Beside (form l) (form r)
form (Above l r) = Above (form l) (form r)

-- the curve of a tree
abbrev pub curve_of : CurveTree → List Shape
curve_of (tree.Leaf b c) = c
curve_of (tree.Beside' c p l q r) = c
curve_of (tree.Above' c p l q r) = c

-- the tree without its curves
abbrev pub form_of : CurveTree → Tree
form_of (tree.Leaf b c) = Leaf b no_shape
form_of (tree.Beside' c p l q r) = Beside (form_of l) (form_of r)
form_of (tree.Above' c p l q r) = Above (form_of l) (form_of r)

-- the curve of a leaf is that of its block, and that of a joined tree the combination of the two below
abbrev pub IsCurveTree : Design → List (ℕ × ℕ) → CurveTree → Type 0
IsCurveTree design spans (tree.Leaf b c) = IsCurveOf design.outline (shapes_in design spans b) c
IsCurveTree design spans (tree.Beside' c p l q r) = IsCombination beside_size design.outline (curve_of l) (curve_of r) c × IsCurveTree design spans l × IsCurveTree design spans r
IsCurveTree design spans (tree.Above' c p l q r) = IsCombination above_size design.outline (curve_of l) (curve_of r) c × IsCurveTree design spans l × IsCurveTree design spans r

-- each point of a joined tree comes from two points below
abbrev pub IsTraced : CurveTree → Type 0
IsTraced (tree.Leaf b c) = ⊤
IsTraced (tree.Beside' c p l q r) = All (IsJoinOf beside_size (curve_of l) (curve_of r)) c × IsTraced l × IsTraced r
IsTraced (tree.Above' c p l q r) = All (IsJoinOf above_size (curve_of l) (curve_of r)) c × IsTraced l × IsTraced r

-- the plan has the form of the tree, and its shapes are on the curves of the leaves
abbrev pub IsChosen : CurveTree → Tree → Type 0
IsChosen (tree.Leaf b c) (Leaf k s) = (k ≡ b) × Contains c s
IsChosen (tree.Beside' c p l q r) (Beside x y) = IsChosen l x × IsChosen r y
IsChosen (tree.Above' c p l q r) (Above x y) = IsChosen l x × IsChosen r y
IsChosen c t = ⊥

-- the narrowest point of a curve that is no higher than the limit
pub record IsNarrowestOn (curve : List Shape) (limit : ℕ) (p : Shape) : Type 0 where
  pub falls : AllPairs IsSlimmer curve
  pub narrowest : IsNarrowest limit curve p

-- the lowest point of a curve that is no wider than the limit
pub record IsLowestOn (curve : List Shape) (limit : ℕ) (p : Shape) : Type 0 where
  pub falls : AllPairs IsSlimmer curve
  pub lowest : IsLowest limit curve p

-- the plan has the form of the tree, and its shapes are those that the point leads to on the curves
abbrev pub IsSized : CurveTree → Tree → Shape → Type 0
IsSized (tree.Leaf b c) (Leaf k s) p = s ≡ p
IsSized (tree.Beside' c i l j r) (Beside x y) p =
    (q : Shape) × (t : Shape) × IsNarrowestOn (curve_of l) p.h q × IsNarrowestOn (curve_of r) p.h t × IsSized l x q × IsSized r y t
IsSized (tree.Above' c i l j r) (Above x y) p =
    (q : Shape) × (t : Shape) × IsLowestOn (curve_of l) p.w q × IsLowestOn (curve_of r) p.w t × IsSized l x q × IsSized r y t
IsSized c t p = ⊥
