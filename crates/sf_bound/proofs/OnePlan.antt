-- One plan belongs to a complete subproblem whose spans are single, and one expression tells it.
use Rattle.std.proofs.Common.{◌≡◌, ℕ, map, arith, sym, subst, ◌∙◌, refl, true, not}
use Rattle.sf_bound.proofs.Common.{list_all, range_with_len, length-map-range_with_len, get_or-map-range_with_len, Design, block_count, Tree, Expr, normal-spelled, Parts, Belongs, is_complete, is_wide, IsSubproblem, complete-normal, subproblem-spans, IsPlanOf, Tells, first_shape, Spells}
use Rattle.sf_polish.proofs.Shaped.{one-expression}
use Rattle.sf_bound.proofs.OnlyPlan.{alone}

-- the first shapes of the spans of n blocks, listed by number, tell each block's
first-shapes : (design : Design) (node : Parts) (n : ℕ) → Tells (first_shape design node) n (map (first_shape design node) (range_with_len 0 n))
first-shapes design node n = record {
  count = length-map-range_with_len (first_shape design node) 0 n;
  each = λ b d lt. get_or-map-range_with_len (first_shape design node) 0 n b b d lt (omega arith);
}

-- at most one plan belongs to a complete subproblem whose spans have one shape each
one-belongs : (design : Design) (node : Parts) (t u : Tree) → IsSubproblem design node → is_complete node ≡ true → list_all (λ span. not (is_wide span)) node.spans ≡ true → Belongs design node t → Belongs design node u → t ≡ u
one-belongs design node t u sub complete single a b =
    let n = block_count design in
    let expr : Expr = record { tokens = node.tokens; shapes = map (first_shape design node) (range_with_len 0 n) } in
    let spelled = normal-spelled n expr (complete-normal design node sub (subproblem-spans design node sub) complete) in
    let only = (alone design node expr spelled.0 sub complete refl (first-shapes design node n) spelled.1.spells single spelled.1.skewed).only in
    only t a ∙ sym (only u b)

-- two expressions of plans of a complete subproblem whose spans have one shape each are the same
pub one-plan : (design : Design) (node : Parts) (e f : Expr) (y z : ℕ) → IsSubproblem design node → is_complete node ≡ true → list_all (λ span. not (is_wide span)) node.spans ≡ true → IsPlanOf design node e y → IsPlanOf design node f z → e ≡ f
one-plan design node e f y z sub complete single a b =
    let same = one-belongs design node b.tree a.tree sub complete single b.belongs a.belongs in
    one-expression (block_count design) e f a.tree a.belongs.legal.blocks a.one_each b.one_each a.spells (subst (Spells f) same b.spells)
