-- The pins of a signal, and lists of signals without repeats.
use Rattle.std.proofs.Common.{◌≡◌, inl, inr, ℕ, suc, ◌+◌, ◌<◌, ◌≤◌, Bool, true, false, cond, List, [], ◌∷◌, ◌++◌, length, Option, Some, None, refl, sym, ap, ◌∙◌, arith, length-append, eq-eqb, ◌-◌, bytes_eq}
use Rattle.sf_yal.proofs.Common.{fold, is_some, slice_get, option_map, append-nil, cases_Bool, false_from_ne_true, ne_eqb, true≢false, RawPin, index_of, has_name, Once, with_signal, with_signals, block_pins, is_block, is_some_block, ends_with, with_pin, push_other, none_under, some_not_none}
use Rattle.std.proofs.lemmas.Slice.Eq.{bytes_eq-Decides}
use Rattle.sf_parts.proofs.Tables.{bytes_eq_sym}
use Rattle.sf_parts.specs.declared.raw.RawPin.TheVariants as pins

-- names of signals
abbrev pub Signals : Type 0
Signals = List (List ℕ)

-- ---- a name in a list

-- what is not there is none
pub none_of : (o : Option ℕ) → is_some o ≡ false → o ≡ None
none_of None e = refl
none_of (Some x) e = absurd cc

-- names that pass the test are the same
pub same_name : (a b : List ℕ) → bytes_eq a b ≡ true → a ≡ b
same_name a b e = (bytes_eq-Decides a b).0 e

-- a name passes it
pub is_same : (a : List ℕ) → bytes_eq a a ≡ true
is_same a = (bytes_eq-Decides a a).1 refl

-- a place behind one is a place
pub some_under : (o : Option ℕ) → is_some (option_map suc o) ≡ is_some o
some_under None = refl
some_under (Some x) = refl

-- a list has the name that is put behind it
pub has_push_same : (t : List ℕ) (names : Signals) → has_name t (names ++ t ∷ []) ≡ true
has_push_same t [] = rw (is_same t) refl
has_push_same t (s ∷ names) = elim (cases_Bool (bytes_eq s t)) [ inl e ↦ rw e refl | inr e ↦ rw e (some_under (index_of t (names ++ t ∷ [])) ∙ has_push_same t names) ]

-- another name behind it changes nothing
pub has_push_other : (s t : List ℕ) (names : Signals) → bytes_eq t s ≡ false → has_name s (names ++ t ∷ []) ≡ has_name s names
has_push_other s t names e = ap is_some (push_other s t names e)

-- ---- the pins of a signal

-- the pin of an instance that names the signal
abbrev pub pin_of : ℕ → List ℕ → Signals → List RawPin
pin_of n s taken = cond (has_name s taken) (pins.Block n ∷ []) []

-- the instance behind the earlier ones is the last pin, if it names the signal
pub pins_last : (s : List ℕ) (m : ℕ) (earlier : List Signals) (taken : Signals) → block_pins s m (earlier ++ taken ∷ []) ≡ block_pins s m earlier ++ pin_of (m + length earlier) s taken
pins_last s m [] taken = let k : m + 0 ≡ m = omega arith in rw k (elim (cases_Bool (has_name s taken)) [ inl e ↦ rw e refl | inr e ↦ rw e refl ])
pins_last s m (first ∷ earlier) taken =
    let k : m + 1 + length earlier ≡ m + suc (length earlier) = omega arith in
    let more = pins_last s (m + 1) earlier taken in
    elim (cases_Bool (has_name s first)) [ inl e ↦ rw (e, ← k) (ap (λ (ps : List RawPin). pins.Block m ∷ ps) more) | inr e ↦ rw (e, ← k) more ]

-- ---- the last pin

-- the last pin
get_last : (xs : List RawPin) (p : RawPin) → slice_get (xs ++ p ∷ []) (length xs) ≡ Some p
get_last [] p = refl
get_last (x ∷ xs) p = get_last xs p

-- a list ends with the pin that is put behind it
ends_push : (n : ℕ) (xs : List RawPin) (p : RawPin) → ends_with n (xs ++ p ∷ []) ≡ is_block n p
ends_push n xs p =
    let k : length (xs ++ p ∷ []) - 1 ≡ length xs = omega (arith, length-append xs (p ∷ [])) in
    ap (λ (i : ℕ). is_some_block n (slice_get (xs ++ p ∷ []) i)) k ∙ ap (is_some_block n) (get_last xs p)

-- its end is that of what follows the first
ends_cons : (n : ℕ) (p q : RawPin) (qs : List RawPin) → ends_with n (p ∷ q ∷ qs) ≡ ends_with n (q ∷ qs)
ends_cons n p q qs =
    let a : suc (suc (length qs)) - 1 ≡ suc (length qs) = omega arith in
    let b : suc (length qs) - 1 ≡ length qs = omega arith in
    ap (λ (i : ℕ). is_some_block n (slice_get (p ∷ q ∷ qs) i)) a ∙ sym (ap (λ (i : ℕ). is_some_block n (slice_get (q ∷ qs) i)) b)

-- an earlier instance before the others is not the last one
cons_low : (m k : ℕ) (rest : List RawPin) → m < k → ends_with k rest ≡ false → ends_with k (pins.Block m ∷ rest) ≡ false
cons_low m k [] lt h = ne_eqb m k (λ e. absurd (omega arith))
cons_low m k (q ∷ qs) lt h = ends_cons k (pins.Block m) q qs ∙ h

-- no earlier instance has a later number
pub low : (s : List ℕ) (m k : ℕ) (uses : List Signals) → m + length uses ≤ k → ends_with k (block_pins s m uses) ≡ false
low s m k [] le = refl
low s m k (first ∷ more) le =
    let rest = low s (m + 1) k more (omega arith) in
    elim (cases_Bool (has_name s first)) [ inl e ↦ rw e (cons_low m k (block_pins s (m + 1) more) (omega arith) rest) | inr e ↦ rw e rest ]

-- an instance that names the signal is a pin once
pub with_pin_by : (n : ℕ) (t : List ℕ) (taken : Signals) (before : List RawPin) (b : Bool) → has_name t taken ≡ b → ends_with n before ≡ false → with_pin n (before ++ pin_of n t taken) ≡ before ++ pins.Block n ∷ []
with_pin_by n t taken before true e h =
    let last : ends_with n (before ++ pins.Block n ∷ []) ≡ true = ends_push n before (pins.Block n) ∙ eq-eqb n n refl in
    rw (e, last) refl
with_pin_by n t taken before false e h = rw (e, append-nil before, h) refl

-- ---- lists without repeats

-- a name that a list lacks is neither its first nor among the others
pub none_cons : (t s : List ℕ) (more : Signals) → index_of t (s ∷ more) ≡ None → (bytes_eq s t ≡ false) × (index_of t more ≡ None)
none_cons t s more h = elim (cases_Bool (bytes_eq s t)) [ inl e ↦ absurd (some_not_none (rw e at h)) | inr e ↦ (e, none_under (index_of t more) (rw e at h)) ]

-- a fold keeps what each of its steps keeps
fold_keeps : {A X : Type 0} (P : A → Type 0) (f : A → X → A) → ((a : A) (x : X) → P a → P (f a x)) → (a : A) (xs : List X) → P a → P (fold f a xs)
fold_keeps P f step a [] h = h
fold_keeps P f step a (x ∷ xs) h = fold_keeps P f step (f a x) xs (step a x h)

-- a new name behind a list without repeats
pub once_push : (names : Signals) (t : List ℕ) → Once names → index_of t names ≡ None → Once (names ++ t ∷ [])
once_push [] t once h = (refl, tt)
once_push (s ∷ more) t once h =
    let k = none_cons t s more h in
    (push_other s t more (sym (bytes_eq_sym s t) ∙ k.0) ∙ once.0, once_push more t once.1 k.1)

-- a signal more
once_with : (seen : Signals) (t : List ℕ) → Once seen → Once (with_signal seen t)
once_with seen t once = elim (cases_Bool (has_name t seen)) [ inl e ↦ rw e once | inr e ↦ rw e (once_push seen t once (none_of (index_of t seen) e)) ]

-- the signals of all instances
pub once_uses : (seen : Signals) (uses : List Signals) → Once seen → Once (fold with_signals seen uses)
once_uses = fold_keeps Once with_signals (fold_keeps Once with_signal once_with)

-- ---- a signal that none names

-- a name that a longer list lacks
push_none : (t w : List ℕ) (seen : Signals) → index_of t (seen ++ w ∷ []) ≡ None → (index_of t seen ≡ None) × (bytes_eq w t ≡ false)
push_none t w [] h = let k = none_cons t w [] h in (refl, k.0)
push_none t w (s ∷ seen) h =
    let k = none_cons t s (seen ++ w ∷ []) h in
    let more = push_none t w seen k.1 in
    (rw (k.0, more.0) refl, more.1)

-- a name that the list has is another one
not_named : (t w : List ℕ) (seen : Signals) → has_name w seen ≡ true → index_of t seen ≡ None → bytes_eq w t ≡ false
not_named t w seen has none = false_from_ne_true (bytes_eq w t) (λ e. true≢false (sym has ∙ ap (λ (x : List ℕ). has_name x seen) (same_name w t e) ∙ ap is_some none))

-- a signal that is not noted is not named
absent_with : (t w : List ℕ) (seen : Signals) → index_of t (with_signal seen w) ≡ None → (index_of t seen ≡ None) × (bytes_eq w t ≡ false)
absent_with t w seen h = elim (cases_Bool (has_name w seen)) [
  | inl e ↦ let none : index_of t seen ≡ None = rw e at h in (none, not_named t w seen e none)
  | inr e ↦ push_none t w seen (rw e at h)
]

-- nor by some signals
pub absent_all : (t : List ℕ) (seen signals : Signals) → index_of t (with_signals seen signals) ≡ None → (index_of t seen ≡ None) × (has_name t signals ≡ false)
absent_all t seen [] h = (h, refl)
absent_all t seen (w ∷ signals) h =
    let more = absent_all t (with_signal seen w) signals h in
    let here = absent_with t w seen more.0 in
    (here.0, rw here.1 (some_under (index_of t signals) ∙ more.1))

-- nor by any instance
pub absent_uses : (t : List ℕ) (m : ℕ) (seen : Signals) (uses : List Signals) → index_of t (fold with_signals seen uses) ≡ None → (index_of t seen ≡ None) × (block_pins t m uses ≡ [])
absent_uses t m seen [] h = (h, refl)
absent_uses t m seen (signals ∷ uses) h =
    let more = absent_uses t (m + 1) (with_signals seen signals) uses h in
    let here = absent_all t seen signals more.0 in
    (here.0, rw (here.1, more.1) refl)
