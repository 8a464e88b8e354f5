use Rattle.std.proofs.Common.{◌≡◌, ℕ, suc, ◌<◌, List, [], ◌∷◌, length, All, arith, refl, ap, sym, subst, ◌∙◌, ◌==◌, Contains, count_by, slice_index_or}
use Rattle.sf_search_tests.proofs.Common.{zero, All-from_recursion, Design, Block, Shape, Tree, leaves, IsLegal, block_count, shapes_of}
use Rattle.sf_search_tests.proofs.TwoLeaves.{only-shape}
use Rattle.sf_search_tests.proofs.node.three_blocks.Goals as goal

abbrev three : Shape → List (ℕ × Shape)
three s = (0, s) ∷ (1, s) ∷ (2, s) ∷ []

each-once : (s : Shape) (b : ℕ) → b < 3 → count_by (λ (leaf : ℕ × Shape). leaf.0 == b) (three s) ≡ 1
each-once s zero h = refl
each-once s (suc zero) h = refl
each-once s (suc (suc zero)) h = refl
each-once s (suc (suc (suc b))) h = absurd (omega (arith, h))

three-legal : (design : Design) (a b d : Block) (s : Shape) (tree : Tree) → design.blocks ≡ a ∷ b ∷ d ∷ [] → a.shapes ≡ s ∷ [] → b.shapes ≡ s ∷ [] → d.shapes ≡ s ∷ [] → leaves tree ≡ three s → IsLegal design tree
three-legal design a b d s tree e f g h is =
    let count : block_count design ≡ 3 = ap length e in
    let none : Block = record { name = []; shapes = [] } in
    record {
      blocks = record {
        each_once = λ i lt. ap (count_by (λ (leaf : ℕ × Shape). leaf.0 == i)) is ∙ each-once s i (omega (arith, lt, count));
        no_other = subst (All (λ (leaf : ℕ × Shape). leaf.0 < block_count design)) (sym is)
            (All-from_recursion (λ (leaf : ℕ × Shape). leaf.0 < block_count design) (three s) (omega (arith, count), (omega (arith, count), (omega (arith, count), tt))));
      };
      listed = subst (All (λ (leaf : ℕ × Shape). Contains (shapes_of design leaf.0) leaf.1)) (sym is)
          (All-from_recursion (λ (leaf : ℕ × Shape). Contains (shapes_of design leaf.0) leaf.1) (three s) (
            only-shape (shapes_of design 0) s (ap (λ (bs : List Block). (slice_index_or bs 0 none).shapes) e ∙ f),
            (
              only-shape (shapes_of design 1) s (ap (λ (bs : List Block). (slice_index_or bs 1 none).shapes) e ∙ g),
              (only-shape (shapes_of design 2) s (ap (λ (bs : List Block). (slice_index_or bs 2 none).shapes) e ∙ h), tt),
            ),
          ));
    }

pub returns-clause-legal : goal.returns-clause-legal
returns-clause-legal c =
    three-legal _ c.in_ok-first.first c.in_ok-second.second c.in_ok-third.third (record { w = 2; h = 3 }) _
    (c.in_ok-design.ensures ∙ c.in_ok-vec.ensures.items) c.in_ok-first.ensures c.in_ok-second.ensures c.in_ok-third.ensures c.in_ok-plan.ensures.leaves
