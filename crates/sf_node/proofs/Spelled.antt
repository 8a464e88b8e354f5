-- Whether a plan belongs to a subproblem, by its expression.
use Rattle.std.proofs.Common.{◌≡◌, ℕ, ◌<◌, List, All, arith, sym, subst, ◌↔◌}
use Rattle.sf_node.proofs.Common.{recursion_from_All, All-from_recursion, Design, Shape, Tree, leaves, IsLegal, block_count, Token, IsSkewed, Spells, shape_at, Parts, IsInSpan, AreInSpans, Belongs, BeginsWith}
use Rattle.sf_polish.specs.declared.expr.Expr.{Expr}
use Rattle.sf_node.proofs.Halves.{one-has, each-both}

module _ (design : Design) (node : Parts) (expr : Expr) (tree : Tree) (legal : IsLegal design tree) (spells : Spells expr tree) where
  -- where the shapes of the blocks stand in their spans, those of the leaves do
  leaves-in : AreInSpans design node expr.shapes → All (λ leaf. IsInSpan design node leaf.0 leaf.1) (leaves tree)
  leaves-in h =
      All-from_recursion (λ leaf. IsInSpan design node leaf.0 leaf.1) (leaves tree)
      (each-both (λ leaf. leaf.0 < block_count design) (λ leaf. leaf.1 ≡ shape_at expr.shapes leaf.0) (λ leaf. IsInSpan design node leaf.0 leaf.1)
      (λ leaf inside is. subst (IsInSpan design node leaf.0) (sym is) (h leaf.0 inside)) (leaves tree)
      (recursion_from_All (λ leaf. leaf.0 < block_count design) (leaves tree) legal.blocks.no_other)
      (recursion_from_All (λ leaf. leaf.1 ≡ shape_at expr.shapes leaf.0) (leaves tree) spells.shapes))

  -- and the other way, since each block is a leaf
  spans-in : All (λ leaf. IsInSpan design node leaf.0 leaf.1) (leaves tree) → AreInSpans design node expr.shapes
  spans-in h b inside =
      let both = each-both (λ leaf. IsInSpan design node leaf.0 leaf.1) (λ leaf. leaf.1 ≡ shape_at expr.shapes leaf.0) (λ leaf. IsInSpan design node leaf.0 leaf.1 × (leaf.1 ≡ shape_at expr.shapes leaf.0))
      (λ leaf p q. (p, q)) (leaves tree)
      (recursion_from_All (λ leaf. IsInSpan design node leaf.0 leaf.1) (leaves tree) h)
      (recursion_from_All (λ leaf. leaf.1 ≡ shape_at expr.shapes leaf.0) (leaves tree) spells.shapes) in
      let found = one-has (λ (leaf : ℕ × Shape). leaf.0) b (λ leaf. IsInSpan design node leaf.0 leaf.1 × (leaf.1 ≡ shape_at expr.shapes leaf.0)) (leaves tree) (omega (arith, legal.blocks.each_once b inside)) both in
      let leaf = found.0 in
      subst (λ (n : ℕ). IsInSpan design node n (shape_at expr.shapes n)) found.1 (subst (IsInSpan design node leaf.0) found.2.1 found.2.0)

  -- the plan belongs where its tokens begin with the subproblem's and its shapes stand in the spans
  pub belongs-both : IsSkewed tree → (BeginsWith expr.tokens node.tokens × AreInSpans design node expr.shapes) ↔ Belongs design node tree
  belongs-both skewed = (
    λ h. record {
      skewed = skewed;
      legal = legal;
      begins = subst (λ (ts : List Token). BeginsWith ts node.tokens) (sym spells.tokens) h.0;
      chosen = leaves-in h.1;
    },
    λ b. (subst (λ (ts : List Token). BeginsWith ts node.tokens) spells.tokens b.begins, spans-in b.chosen),
  )
