-- Lists that ascend by a number of their elements, as one more is put at their end or passed over.
use Rattle.std.proofs.Common.{◌≡◌, ℕ, ◌+◌, ◌-◌, ◌<◌, ◌≤◌, Bool, ◌==◌, List, [], ◌∷◌, ◌++◌, length, take, get_or, sym, ◌∙◌, ap, subst, arith, length-append}
use Rattle.sf_parts.proofs.Common.{IsNonDecreasingBy, pin_order, same_pin, Pin, list_any, All, AllPairs, Contains, get_or_default, All-push, Contains-get_or, nat_tests, list_any-append, list_any_more, list_any_at, common_steps}

-- an ascending list stays so with one more that is no less than a bound on the others
pub pairs_push : {X : Type 0} (f : X → ℕ) (out : List X) (x : X) (n : ℕ) → AllPairs (λ p q. f p < f q) out → All (λ p. f p < n) out → n ≤ f x → AllPairs (λ p q. f p < f q) (out ++ x ∷ [])
pairs_push f out x n up below high i j d less within =
    let p = up i j d less in
    let b = below i d in
    grind (arith, common_steps, p, b, length-append out (x ∷ []))

-- a greater bound holds of the list with one more that is below it
pub all_push : {X : Type 0} (f : X → ℕ) (out : List X) (x : X) (n m : ℕ) → All (λ p. f p < n) out → n ≤ m → f x < m → All (λ p. f p < m) (out ++ x ∷ [])
all_push f out x n m below less here k d within =
    let b = below k d in
    grind (arith, common_steps, b, length-append out (x ∷ []))

-- what passes a test among the kept ones and one more passes it among one more of the list
pub any_push : {X : Type 0} (t : X → Bool) (out xs : List X) (i : ℕ) (d : X) → i < length xs → list_any t out ≡ list_any t (take i xs) → list_any t (out ++ get_or xs i d ∷ []) ≡ list_any t (take (i + 1) xs)
any_push t out xs i d within same =
    let a = list_any-append t out (get_or xs i d ∷ []) in
    let m = list_any_more t xs i d within in
    grind (arith, a, m)

-- an element with the number of the one before it is passed over
pub any_skip : {X : Type 0} (f : X → ℕ) (p : X) (out xs : List X) (i : ℕ) (d : X) → i < length xs → 0 < i → f (get_or xs i d) ≡ f (get_or xs (i - 1) d) → list_any (λ q. f p == f q) out ≡ list_any (λ q. f p == f q) (take i xs) → list_any (λ q. f p == f q) out ≡ list_any (λ q. f p == f q) (take (i + 1) xs)
any_skip f p out xs i d within some equal same =
    let m = list_any_more (λ q. f p == f q) xs i d within in
    let at = list_any_at (λ q. f p == f q) (take i xs) (i - 1) d in
    grind (arith, nat_tests, common_steps, m, at)

-- the distinct pins among the first k of ascending pins, all of an order below next
pub record IsSetOfFirst (pins : List Pin) (k next : ℕ) (out : List Pin) : Type 0 where
  pub ascending : AllPairs (λ p q. pin_order p < pin_order q) out
  pub below : All (λ p. pin_order p < next) out
  pub same : (p : Pin) → list_any (same_pin p) out ≡ list_any (same_pin p) (take k pins)
  pub each : All (Contains pins) out
  pub few : length out ≤ k
  pub reached : (d : Pin) → 0 < k → next ≡ pin_order (get_or pins (k - 1) d) + 1
  pub start : k ≡ 0 → next ≡ 0

-- the distinct pins among the first ones, with the next where it is new
pub set_push : (pins : List Pin) (k next : ℕ) (out out' : List Pin) (next' : ℕ) (d : Pin) → IsSetOfFirst pins k next out → k < length pins → next ≤ pin_order (get_or pins k d) → out' ≡ out ++ get_or pins k d ∷ [] → next' ≡ pin_order (get_or pins k d) + 1 → IsSetOfFirst pins (k + 1) next' out'
set_push pins k next out out' next' d was within new put raised =
    let P : List Pin → Type 0 = λ o. IsSetOfFirst pins (k + 1) next' o in
    subst P (sym put) (record {
      ascending = pairs_push pin_order out (get_or pins k d) next was.ascending was.below new;
      below = all_push pin_order out (get_or pins k d) next next' was.below (omega arith) (omega arith);
      same = λ p. any_push (same_pin p) out pins k d within (was.same p);
      each = All-push (Contains pins) out (get_or pins k d) was.each (Contains-get_or pins k d within);
      few = (let f = was.few in omega (arith, length-append out (get_or pins k d ∷ [])));
      reached = λ e some. raised ∙ ap (λ p. pin_order p + 1) (get_or_default pins k d e within) ∙ ap (λ j. pin_order (get_or pins j e) + 1) (let s : k ≡ k + 1 - 1 = omega arith in s);
      start = λ none. absurd (omega arith);
    })

-- the distinct pins among the first ones, where the next is one of them
pub set_skip : (pins : List Pin) (k next : ℕ) (out : List Pin) (d : Pin) → IsSetOfFirst pins k next out → IsNonDecreasingBy pin_order pins → k < length pins → pin_order (get_or pins k d) < next → IsSetOfFirst pins (k + 1) next out
set_skip pins k next out d was up within old =
    let not_first : ¬ (k ≡ 0) = (λ z. let e = was.start z in omega arith) in
    let some : 0 < k = omega arith in
    let r = was.reached d some in
    let u = up (k - 1) k d (omega arith) within in
    let equal : pin_order (get_or pins k d) ≡ pin_order (get_or pins (k - 1) d) = omega arith in
    record {
      ascending = was.ascending;
      below = was.below;
      same = λ p. any_skip pin_order p out pins k d within some equal (was.same p);
      each = was.each;
      few = (let f = was.few in omega arith);
      reached = λ e later. r ∙ ap (λ n. n + 1) (sym equal) ∙ ap (λ p. pin_order p + 1) (get_or_default pins k d e within) ∙ ap (λ j. pin_order (get_or pins j e) + 1) (let s : k ≡ k + 1 - 1 = omega arith in s);
      start = λ none. absurd (omega arith);
    }
