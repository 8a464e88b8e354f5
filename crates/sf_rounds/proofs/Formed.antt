-- A plan that belongs to a subproblem has the form of a certificate's plan.
use Rattle.std.proofs.Common.{◌≡◌, ℕ, ◌<◌, ◌≤◌, ◌==◌, List, [], ◌∷◌, length, All, cond, arith, ap, subst, ◌∙◌, inl, inr, Bool}
use Rattle.sf_rounds.proofs.Common.{count_by, Contains, AllByRecursion, get_or_default, sum_by-cons, recursion_from_All, All-contains, Design, IsLegal, block_count, shapes_of, Expr, Parts, IsPlanOf, IsWritable, eqb_tells}
use Rattle.sf_model.specs.declared.parts.Shape.{Shape}
use Rattle.sf_model.specs.Limits.{IsSide}
use Rattle.sf_model.specs.Tree.{Tree, leaves}
use Rattle.sf_polish.specs.Normal.{IsNormal}
use Rattle.sf_polish.specs.Postfix.{IsSkewed, Spells, shape_at}
use Rattle.sf_polish.proofs.Normality.{postfix-normal}

-- a leaf of the block, and what holds of all leaves
pub record IsLeafOf (P : ℕ × Shape → Type 0) (b : ℕ) : Type 0 where
  pub leaf : ℕ × Shape
  pub block : leaf.0 ≡ b
  pub holds : P leaf

module _ (P : ℕ × Shape → Type 0) where
  -- a block that stands among the leaves has a leaf, of which what holds of all leaves holds
  leaf-of : (b : ℕ) (ls : List (ℕ × Shape)) → 1 ≤ count_by (λ leaf. leaf.0 == b) ls → AllByRecursion P ls → IsLeafOf P b
  leaf-of b [] h all = absurd (omega (arith, h))
  leaf-of b (l ∷ ls) h all =
      elim (eqb_tells l.0 b) [
        | inl p ↦ record { leaf = l; block = p.1; holds = all.0 }
        | inr p ↦ (let none : ◌≡◌ {A = ℕ} (cond (l.0 == b) 1 0) 0 = ap (λ (t : Bool). cond {A = ℕ} t 1 0) p.0 in
            leaf-of b ls (omega (arith, h, none, sum_by-cons (λ (leaf : ℕ × Shape). cond (leaf.0 == b) 1 0) l ls)) all.1)
      ]

module _ (design : Design) (tree : Tree) (expr : Expr) (legal : IsLegal design tree) (spells : Spells expr tree) where
  -- the leaf has the expression's shape of its block, and this is one of the block's list
  abbrev IsListed : ℕ × Shape → Type 0
  IsListed leaf = (leaf.1 ≡ shape_at expr.shapes leaf.0) × Contains (shapes_of design leaf.0) leaf.1

  -- the expression's shape of each block has sides within the limits
  side-at : (b : ℕ) → b < block_count design → IsSide (shape_at expr.shapes b).w × IsSide (shape_at expr.shapes b).h
  side-at b lt =
      let all : All IsListed (leaves tree) = λ k d h. (spells.shapes k d h, legal.listed k d h) in
      let found = leaf-of IsListed b (leaves tree) (omega (arith, legal.blocks.each_once b lt)) (recursion_from_All IsListed (leaves tree) all) in
      let list = design.limits.shapes b (record { name = []; shapes = [] }) lt in
      let listed = subst (λ n. Contains (shapes_of design n) found.leaf.1) found.block found.holds.1 in
      let same = found.holds.0 ∙ ap (shape_at expr.shapes) found.block in
      subst (λ s. IsSide s.w × IsSide s.h) same (All-contains (λ s. IsSide s.w × IsSide s.h) (shapes_of design b) found.leaf.1 list.choice.sides listed)

  -- a skewed plan is a normal expression with a shape for each block, so it can be written
  pub can-write : IsSkewed tree → length expr.shapes ≡ block_count design → IsWritable (block_count design) expr
  can-write skewed one_each = record {
    normal = subst (IsNormal (block_count design)) spells.tokens (postfix-normal (block_count design) tree legal.blocks skewed);
    one_each = one_each;
    sides = λ k d h. subst (λ s. IsSide s.w × IsSide s.h) (get_or_default expr.shapes k (record { w = 0; h = 0 }) d h) (side-at k (omega (arith, h, one_each)));
  }

-- so can a plan of a subproblem
pub plan-formed : (design : Design) (node : Parts) (expr : Expr) (z : ℕ) → IsPlanOf design node expr z → IsWritable (block_count design) expr
plan-formed design node expr z p = can-write design p.tree expr p.belongs.legal p.spells p.belongs.skewed p.one_each
