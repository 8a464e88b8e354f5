-- The options that a job's words are made of, and words that are those of no options.
use Rattle.std.proofs.Common.{◌≡◌, ◌≢◌, ◌⊎◌, inl, inr, zero, suc, Bool, true, false, ◌==◌, cond, List, [], ◌∷◌, Option, Some, None, Contains, refl, sym, ap, subst, ◌∙◌, arith}
use Rattle.sf_jobs.proofs.Common.{bytes_eq, bytes_eq-Decides, Key, Plan, mode_text, key_text, is_flag, keys_of, Text, Token, spaced, attached, alone, key_of, key_word, before, words_of, IsValue, IsShaped, IsNew, AreOptions, HasForm, mode_of, HasNoMeaning, cases_Bool}
use Rattle.sf_words.proofs.Texts.{key_text-injective, mode_text-injective}
use Rattle.sf_words.proofs.Tokens.{ahead, spaced_only, heads_same, tails_same, no_more}

-- an option with its value, in front of others, where it is given
abbrev pub with_token : Key → Option Text → List Token → List Token
with_token key None more = more
with_token key (Some value) more = spaced key value ∷ more

-- the key is one of these
abbrev has : List Key → Key → Bool
has [] key = false
has (k ∷ keys) key = cond (bytes_eq (key_text k) (key_text key)) true (has keys key)

-- none of the options has the key
abbrev is_fresh : Key → List Token → Bool
is_fresh key [] = true
is_fresh key (t ∷ ts) = cond (bytes_eq (key_text key) (key_text (key_of t))) false (is_fresh key ts)

-- options of these keys, with values, each at most once
abbrev pub fits : List Key → List Token → Bool
fits keys [] = true
fits keys (spaced key value ∷ ts) = cond (is_flag key) false (cond (has keys key) (cond (is_fresh key ts) (fits keys ts) false) false)
fits keys (attached key value ∷ ts) = false
fits keys (alone key ∷ ts) = false

-- the values of the options are such
abbrev pub HaveValues : List Token → Type 0
HaveValues [] = Unit {0}
HaveValues (spaced key value ∷ ts) = IsValue value × HaveValues ts
HaveValues (attached key value ∷ ts) = IsValue value × HaveValues ts
HaveValues (alone key ∷ ts) = HaveValues ts

-- a choice that is true is that of a test that is true, and of what stands behind it
both_true : (a b : Bool) → cond a b false ≡ true → (a ≡ true) × (b ≡ true)
both_true true b e = (refl, e)
both_true false b e = cc

-- a choice that is true where the test isn't
other_true : (a b : Bool) → cond a false b ≡ true → (a ≡ false) × (b ≡ true)
other_true true b e = cc
other_true false b e = (refl, e)

-- a key that is found is one of these
contained : (keys : List Key) (key : Key) → has keys key ≡ true → Contains keys key
contained [] key e = cc
contained (k ∷ keys) key e = elim (cases_Bool (bytes_eq (key_text k) (key_text key))) [
  | inl same ↦ (zero, omega arith, key_text-injective k key ((bytes_eq-Decides (key_text k) (key_text key)).0 same))
  | inr other ↦ let rest = contained keys key (rw other at e) in (suc rest.0, let h = rest.1 in omega arith, rest.2)
]

-- a key that no option has is new
fresh : (key : Key) (ts : List Token) → is_fresh key ts ≡ true → IsNew key ts
fresh key [] e = tt
fresh key (t ∷ ts) e =
    let h = other_true (bytes_eq (key_text key) (key_text (key_of t))) (is_fresh key ts) e in (
      (λ same. let same_text = (bytes_eq-Decides (key_text key) (key_text (key_of t))).1 (ap key_text same) in cc (same_text, h.0)),
      fresh key ts h.1,
    )

-- options that fit and have values are those of the command
pub are_options : (ts : List Token) → fits (keys_of Plan) ts ≡ true → HaveValues ts → AreOptions Plan ts
are_options [] e v = tt
are_options (attached key value ∷ ts) e v = cc
are_options (alone key ∷ ts) e v = cc
are_options (spaced key value ∷ ts) e v =
    let flag = other_true (is_flag key) (cond (has (keys_of Plan) key) (cond (is_fresh key ts) (fits (keys_of Plan) ts) false) false) e in
    let known = both_true (has (keys_of Plan) key) (cond (is_fresh key ts) (fits (keys_of Plan) ts) false) flag.1 in
    let new = both_true (is_fresh key ts) (fits (keys_of Plan) ts) known.1 in
    (contained (keys_of Plan) key known.0, (flag.0, v.0), fresh key ts new.0, are_options ts new.1 v.1)

-- a word may be a value or not
pub value_or : (text : Text) → IsValue text ⊎ (IsValue text → ⊥)
value_or [] = inr (λ h. h)
value_or (b ∷ bs) = elim (cases_Bool (b == 45)) [ inl e ↦ inr (λ h. h (grind (e, arith))) | inr e ↦ inl (λ same. cc (e, same)) ]

-- words that go on with an option whose value isn't one mean nothing
pub stuck : (words : List Text) (ts : List Token) (key : Key) (value : Text) (rest : List Text) → fits (keys_of Plan) ts ≡ true → HaveValues ts → is_flag key ≡ false → (IsValue value → ⊥)
    → words ≡ mode_text Plan ∷ ahead ts (key_word key ∷ value ∷ rest) → HasNoMeaning words
stuck words ts key value rest fit values flag bad is command means = by_form means.0 means.1
  where
    r : List Text
    r = key_word key ∷ value ∷ rest

    none : (t : Token) (more : List Text) → Contains (keys_of Plan) (key_of t) → IsShaped t → r ≢ before t more
    none t more inside shaped e =
        let next = spaced_only key (value ∷ rest) t more e shaped flag in
        bad (subst IsValue (sym (heads_same next.1)) next.2)

    by_form : (us : List Token) → HasForm words (mode_of command) us → ⊥
    by_form us form =
        let e : mode_text Plan ∷ ahead ts r ≡ mode_text (mode_of command) ∷ words_of us = sym is ∙ form.words_are in
        let same = mode_text-injective Plan (mode_of command) (heads_same e) in
        no_more Plan ts r (are_options ts fit values) (λ x. cc) none us (subst (λ m. AreOptions m us) (sym same) form.options) (tails_same e)
