use Rattle.std.proofs.Common.{◌≡◌, ℕ, ◌+◌, List, [], ◌∷◌, ◌++◌, All, length, length-append, map, sym, ap, ◌∙◌, subst, arith, refl}
use Rattle.std.proofs.lemmas.List.{map-append}
use Rattle.std.proofs.lemmas.List.Elements.{All-push}
use Rattle.std.proofs.lemmas.List.FromFn.{map-range_with_len_more}
use Rattle.std.specs.List.{range_with_len}
use Rattle.sf_model.specs.declared.plan.Spot.{Spot}
use Rattle.sf_place.specs.Spots.{HasNearCorner}
use Rattle.sf_model_tests.proofs.cuts.placed.Goals as goal

-- the number of each number
same : (ns : List ℕ) → map (λ n. n) ns ≡ ns
same [] = refl
same (n ∷ ns) = ap (λ (ms : List ℕ). n ∷ ms) (same ns)

-- one number more
range_more : (n : ℕ) → range_with_len 0 n ++ n ∷ [] ≡ range_with_len 0 (n + 1)
range_more n =
    sym (sym (same (range_with_len 0 (n + 1))) ∙ map-range_with_len_more (λ k. k) 0 n n (omega arith) ∙ ap (λ (ns : List ℕ). ns ++ n ∷ []) (same (range_with_len 0 n)))

-- spots by number stay so with one more
numbered_more : (spots : List Spot) (spot : Spot) (n : ℕ) → map (λ s. s.block) spots ≡ range_with_len 0 n → spot.block ≡ n → map (λ s. s.block) (spots ++ spot ∷ []) ≡ range_with_len 0 (n + 1)
numbered_more spots spot n before is =
    map-append (λ (s : Spot). s.block) spots (spot ∷ []) ∙ ap (λ z. z ++ spot.block ∷ []) before ∙ ap (λ b. range_with_len 0 n ++ b ∷ []) is ∙ range_more n

pub loop-number-preserved : goal.loop-number-preserved
loop-number-preserved c =
    let old = c.loop-number.spots.items in
    let n = c.loop-number.number in
    let spot = c.spot_of.result in
    let was = c.loop-number.invariant in
    let more : c.push.new.self.items ≡ old ++ spot ∷ [] = c.in_ok-push.ensures.items in
    record {
      one_each = omega (arith, ap length more, length-append old (spot ∷ []), was.one_each);
      by_number = subst (λ (v : List Spot). map (λ s. s.block) v ≡ range_with_len 0 (n + 1)) (sym more) (numbered_more old spot n was.by_number c.spot_of.ensures.block);
      near = subst (All HasNearCorner) (sym more) (All-push HasNearCorner old spot was.near c.spot_of.ensures.near);
    }
