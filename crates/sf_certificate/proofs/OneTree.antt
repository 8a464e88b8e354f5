-- The tags of a tree follow from its marks in any order.
use Rattle.std.proofs.Common.{◌≡◌, ℕ, List, [], ◌∷◌, map, ap, sym, ◌∙◌, false, Less, IsPermutation}
use Rattle.sf_certificate.proofs.Common.{AllByRecursion, is_lt, ordering_reverse, on_total, nat_cmp_total, lists_total, Design, EachPair-weaker, Step, Part, Parts, rank, steps_cmp, root, IsSubproblem, root-subproblem, Mark, Tag, AreTrees, marks}
use Rattle.sf_certificate.proofs.Totals.{total-permutation}
use Rattle.sf_certificate.proofs.Ascending.{marks-rising}
use Rattle.sf_certificate.proofs.Merged.{same-marks, marks-good, marks-tags}

-- the order of steps is antisymmetric
less-not_more : (xs ys : List Step) → steps_cmp xs ys ≡ Less → is_lt (steps_cmp ys xs) ≡ false
less-not_more xs ys less = ap is_lt ((lists_total (on_total rank nat_cmp_total)).antisymm ys xs ∙ ap ordering_reverse less)

-- two trees of the root with the same marks have the same tags
pub one-tree : (design : Design) (part : Parts → Part → ℕ) (cost : ℕ) (first second : List Tag)
    → AreTrees part cost (root design ∷ []) first → AreTrees part cost (root design ∷ []) second
    → IsPermutation (marks (root design ∷ []) first) (marks (root design ∷ []) second) → first ≡ second
one-tree design part cost first second one two moved =
    let nodes = root design ∷ [] in
    let subs : AllByRecursion (IsSubproblem design) nodes = (root-subproblem design, tt) in
    let same : marks nodes first ≡ marks nodes second =
    same-marks design (marks nodes first) (marks nodes second) (λ f. total-permutation (λ m. f m.node.steps m.tag) (marks nodes first) (marks nodes second) moved)
    (marks-rising nodes first (tt, tt))
    (EachPair-weaker (λ (a b : Mark). steps_cmp a.node.steps b.node.steps ≡ Less) (λ a b. is_lt (steps_cmp b.node.steps a.node.steps) ≡ false) (λ a b less. less-not_more a.node.steps b.node.steps less) (marks nodes second) (marks-rising nodes second (tt, tt)))
    (marks-good design part cost nodes first one subs) (marks-good design part cost nodes second two subs) in
    sym (marks-tags part cost nodes first one) ∙ ap (map (λ (m : Mark). m.tag)) same ∙ marks-tags part cost nodes second two
