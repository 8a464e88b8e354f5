-- Two leaves side by side, each in a shape of its block's list, are a floorplan of two blocks.
use Rattle.std.proofs.Common.{◌≡◌, ℕ, suc, ◌<◌, List, [], ◌∷◌, arith, refl, sym, subst, ◌==◌, Contains, count_by}
use Rattle.sf_search_tests.proofs.Common.{zero, All-from_recursion, Design, Shape, Tree, Leaf, Beside, IsLegal, block_count, shapes_of}

-- the first leaf is the only one of the first block, and the second of the second
each-once : (s t : Shape) (b : ℕ) → b < 2 → count_by (λ (leaf : ℕ × Shape). leaf.0 == b) ((0, s) ∷ (1, t) ∷ []) ≡ 1
each-once s t zero h = refl
each-once s t (suc zero) h = refl
each-once s t (suc (suc b)) h = absurd (omega (arith, h))

-- a list of one shape has it
pub only-shape : (shapes : List Shape) (s : Shape) → shapes ≡ s ∷ [] → Contains shapes s
only-shape shapes s e = subst (λ (xs : List Shape). Contains xs s) (sym e) (0, omega arith, refl)

-- a list of two shapes has the second
pub second-shape : (shapes : List Shape) (s t : Shape) → shapes ≡ s ∷ t ∷ [] → Contains shapes t
second-shape shapes s t e = subst (λ (xs : List Shape). Contains xs t) (sym e) (1, omega arith, refl)

-- the plan of two leaves in listed shapes is legal
pub two-legal : (design : Design) (s t : Shape) (plan : Tree) → block_count design ≡ 2 → Contains (shapes_of design 0) s → Contains (shapes_of design 1) t → plan ≡ Beside (Leaf 0 s) (Leaf 1 t) → IsLegal design plan
two-legal design s t plan two first second is =
    let legal : IsLegal design (Beside (Leaf 0 s) (Leaf 1 t)) = record {
      blocks = record {
        each_once = λ i h. each-once s t i (omega (arith, h, two));
        no_other = All-from_recursion (λ (leaf : ℕ × Shape). leaf.0 < block_count design) ((0, s) ∷ (1, t) ∷ []) (omega (arith, two), (omega (arith, two), tt));
      };
      listed = All-from_recursion (λ (leaf : ℕ × Shape). Contains (shapes_of design leaf.0) leaf.1) ((0, s) ∷ (1, t) ∷ []) (first, (second, tt));
    } in
    subst (IsLegal design) (sym is) legal
