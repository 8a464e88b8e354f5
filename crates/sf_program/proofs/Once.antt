-- Stages that give one value or one refusal, one after another.
use Rattle.std.proofs.Common.{◌≡◌, inl, inr, ℕ, List, length, Option, Some, None, Result, Ok, Err, refl, sym, ap, subst, ◌∙◌, arith, ◌^◌}
use Rattle.sf_program.proofs.Common.{Bool, IsTrue, Contents, HoldsMore, Design, Refusal, refused, lost, Then, AtMostOne, GivesOne, IsSaid, IsTold, IfNamed, Judged, Said, TextRead, TextWithin, With}

-- what is so of one thing at most is so on each shelf
pub once : {any : Bool} {X : Type 0} (P : Result X Refusal → Type 0) → AtMostOne P → GivesOne any P
once P one r s p q told = one r s p q

-- a refusal of what tells its reason tells it
told-reason : {X : Type 0} (r : Result X Refusal) (why : Refusal) → r ≡ Err why → IsTold r → IsSaid why
told-reason r why e told = subst IsTold e told

-- a stage that gives a value does not refuse
pub no-refusal : {any : Bool} {X : Type 0} (P : Result X Refusal → Type 0) → GivesOne any P → (x : X) (why : Refusal) → (IsTrue any → IsSaid why) → P (Ok x) → P (Err why) → ⊥
no-refusal P one x why said p q = let e = one (Ok x) (Err why) p q (λ t. (tt, said t)) in absurd (cc)

-- what has one outcome has one value
pub same-value : {any : Bool} {X : Type 0} (P : Result X Refusal → Type 0) → GivesOne any P → (x y : X) → P (Ok x) → P (Ok y) → x ≡ y
same-value P one x y p q = let e : Ok x ≡ Ok y = one (Ok x) (Ok y) p q (λ t. (tt, tt)) in cc

-- and one refusal, where both are said or no load may fail
pub same-refusal : {any : Bool} {X : Type 0} (P : Result X Refusal → Type 0) → GivesOne any P → (v w : Refusal) → (IsTrue any → IsSaid v × IsSaid w) → P (Err v) → P (Err w) → v ≡ w
same-refusal {X = X} P one v w said p q = let e : ◌≡◌ {A = Result X Refusal} (Err v) (Err w) = one (Err v) (Err w) p q said in cc

-- a stage and the next that depends on its value have one outcome together
pub then-one : {any : Bool} {X Y : Type 0} (P : Result X Refusal → Type 0) (Q : X → Result Y Refusal → Type 0) → GivesOne any P → ((x : X) → GivesOne any (Q x)) → GivesOne any (Then P Q)
then-one P Q one each r s a b told =
    elim a [
      | inl m ↦ elim b [
        | inl n ↦ each n.0 r s (subst (λ x. Q x r) (same-value P one m.0 n.0 m.1 n.1) m.2) n.2 told
        | inr n ↦ absurd (no-refusal P one m.0 n.0 (λ t. told-reason s n.0 n.2 (told t).1) m.1 n.1)
      ]
      | inr m ↦ elim b [
        | inl n ↦ absurd (no-refusal P one n.0 m.0 (λ t. told-reason r m.0 m.2 (told t).0) n.1 m.1)
        | inr n ↦ m.2 ∙ ap Err (same-refusal P one m.0 n.0 (λ t. (told-reason r m.0 m.2 (told t).0, told-reason s n.0 n.2 (told t).1)) m.1 n.1) ∙ sym n.2
      ]
    ]

-- a reader of a text, which reads what the text stands for
module _ {X F : Type 0} (Stands : X → Type 0) (first : Result X F) (refusal : F → Refusal) (read : (x : X) → Stands x → first ≡ Ok x) where
  -- a text that stands for a value has no fault
  said-fault : (x : X) (fault : F) → Stands x → first ≡ Err fault → ⊥
  said-fault x fault s e = let k : Ok x ≡ Err fault = sym (read x s) ∙ e in absurd (cc)

  -- so it has one outcome
  pub said-one : AtMostOne (Said Stands first refusal)
  said-one (Ok x) (Ok y) a b = ap Ok (let e : Ok x ≡ Ok y = sym (read x a) ∙ read y b in cc)
  said-one (Ok x) (Err why) a b = absurd (said-fault x b.0 a b.1)
  said-one (Err why) (Ok y) a b = absurd (said-fault y a.0 b a.1)
  said-one (Err v) (Err w) a b =
      let same : a.0 ≡ b.0 = (let k : ◌≡◌ {A = Result X F} (Err a.0) (Err b.0) = sym a.1 ∙ b.1 in cc) in
      ap Err (a.2 ∙ ap refusal same ∙ sym b.2)

-- the outcome of a function is one
pub judged-one : {X F : Type 0} (first : Result X F) (refusal : F → Refusal) → AtMostOne (Judged first refusal)
judged-one (Ok x) refusal r s a b = a ∙ sym b
judged-one (Err fault) refusal r s a b = a ∙ sym b

-- a text that is loaded is not too long
not-long : (limit : ℕ) (contents : Contents) (name x : List ℕ) → TextWithin limit (Some contents) name (Ok x) → HoldsMore (Some contents) name limit → ⊥
not-long limit contents name x a m =
    let e : Some x ≡ Some m.0 = sym a.0 ∙ m.1 in
    let same : x ≡ m.0 = cc in
    let n : length x ≡ length m.0 = ap length same in
    let long = m.2 in
    let short = a.1 in
    omega arith

-- a text that is held is not too long, and not lost where loads fail only at names without a text
pub within-one : (limit : ℕ) (contents : Contents) (name : List ℕ) → GivesOne contents.may_fail (TextWithin limit (Some contents) name)
within-one limit contents name (Ok x) (Ok y) a b told = ap Ok (let e : Some x ≡ Some y = sym a.0 ∙ b.0 in cc)
within-one limit contents name (Ok x) (Err (refused status line)) a b told = absurd (not-long limit contents name x a b.0)
within-one limit contents name (Ok x) (Err lost) a b told = elim b [ inl f ↦ absurd ((told f).1) | inr none ↦ (let e : Some x ≡ None = sym a.0 ∙ none in absurd (cc)) ]
within-one limit contents name (Err (refused status line)) (Ok y) a b told = absurd (not-long limit contents name y b a.0)
within-one limit contents name (Err (refused status line)) (Err (refused other words)) a b told = ap Err (a.1 ∙ sym b.1)
within-one limit contents name (Err (refused status line)) (Err lost) a b told = elim b [ inl f ↦ absurd ((told f).1) | inr none ↦ (let e : Some a.0.0 ≡ None = sym a.0.1 ∙ none in absurd (cc)) ]
within-one limit contents name (Err lost) (Ok y) a b told = elim a [ inl f ↦ absurd ((told f).0) | inr none ↦ (let e : Some y ≡ None = sym b.0 ∙ none in absurd (cc)) ]
within-one limit contents name (Err lost) (Err (refused status line)) a b told = elim a [ inl f ↦ absurd ((told f).0) | inr none ↦ (let e : Some b.0.0 ≡ None = sym b.0.1 ∙ none in absurd (cc)) ]
within-one limit contents name (Err lost) (Err lost) a b told = refl

-- so is one of any file but a certificate
pub text-one : (contents : Contents) (name : List ℕ) → GivesOne contents.may_fail (TextRead (Some contents) name)
text-one contents name = within-one (2 ^ 26) contents name

-- a file that may be left out
pub named-one : {any : Bool} {X : Type 0} (P : List ℕ → Result X Refusal → Type 0) → ((name : List ℕ) → GivesOne any (P name)) → (named : Option (List ℕ)) → GivesOne any (IfNamed P named)
named-one P one None r s a b told = a ∙ sym b
named-one P one (Some name) (Ok None) s a b told = absurd a
named-one P one (Some name) (Ok (Some x)) (Ok None) a b told = absurd b
named-one P one (Some name) (Ok (Some x)) (Ok (Some y)) a b told = ap (λ z. Ok (Some z)) (same-value (P name) (one name) x y a b)
named-one P one (Some name) (Ok (Some x)) (Err w) a b told = absurd (no-refusal (P name) (one name) x w (λ t. (told t).1) a b)
named-one P one (Some name) (Err v) (Ok None) a b told = absurd b
named-one P one (Some name) (Err v) (Ok (Some y)) a b told = absurd (no-refusal (P name) (one name) y v (λ t. (told t).0) b a)
named-one P one (Some name) (Err v) (Err w) a b told = ap Err (same-refusal (P name) (one name) v w told a b)

-- a value that is kept with its design
both-same : {X : Type 0} (d e : Design) (x y : X) → d ≡ e → x ≡ y → (let p : Design × X = (d, x) in p) ≡ (let q : Design × X = (e, y) in q)
both-same {X = X} d e x y p q = ap (λ a. let r : Design × X = (a, x) in r) p ∙ ap (λ b. let r : Design × X = (e, b) in r) q

-- a stage whose value is kept with its design has one outcome
pub with-one : {any : Bool} {X : Type 0} (P : Design → Result X Refusal → Type 0) (design : Design) → GivesOne any (P design) → GivesOne any (With P design)
with-one P design one (Ok x) (Ok y) a b told = ap Ok (both-same x.0 y.0 x.1 y.1 (a.0 ∙ sym b.0) (same-value (P design) one x.1 y.1 a.1 b.1))
with-one P design one (Ok x) (Err w) a b told = absurd (no-refusal (P design) one x.1 w (λ t. (told t).1) a.1 b)
with-one P design one (Err v) (Ok y) a b told = absurd (no-refusal (P design) one y.1 v (λ t. (told t).0) b.1 a)
with-one P design one (Err v) (Err w) a b told = ap Err (same-refusal (P design) one v w told a b)

-- ---- stages whose value is not all told

-- outcomes that are one but for what f leaves out of their values
abbrev pub Alike : {X Y : Type 0} → (X → Y) → Result X Refusal → Result X Refusal → Type 0
Alike f (Ok x) (Ok y) = f x ≡ f y
Alike f (Ok x) (Err w) = ⊥
Alike f (Err v) (Ok y) = ⊥
Alike f (Err v) (Err w) = v ≡ w

-- a stage gives one thing at most, but for what f leaves out of it
abbrev pub GivesAlike : Bool → {X Y : Type 0} → (X → Y) → (Result X Refusal → Type 0) → Type 0
GivesAlike any {X} f P = (r s : Result X Refusal) → P r → P s → (IsTrue any → IsTold r × IsTold s) → Alike f r s

-- the same refusal on both sides
alike-refused : {X Y : Type 0} (f : X → Y) (r s : Result X Refusal) (v w : Refusal) → r ≡ Err v → s ≡ Err w → v ≡ w → Alike f r s
alike-refused f r s v w p q same = subst (λ x. Alike f x s) (sym p) (subst (λ y. Alike f (Err v) y) (sym q) same)

-- a stage, and the next one that gives so much for each value that the first one gives
pub then-alike : {any : Bool} {X Y Z : Type 0} (f : Y → Z) (P : Result X Refusal → Type 0) (Q : X → Result Y Refusal → Type 0) → GivesOne any P → ((x : X) → P (Ok x) → GivesAlike any f (Q x)) → GivesAlike any f (Then P Q)
then-alike f P Q one each r s a b told =
    elim a [
      | inl m ↦ elim b [
        | inl n ↦ each n.0 n.1 r s (subst (λ x. Q x r) (same-value P one m.0 n.0 m.1 n.1) m.2) n.2 told
        | inr n ↦ absurd (no-refusal P one m.0 n.0 (λ t. told-reason s n.0 n.2 (told t).1) m.1 n.1)
      ]
      | inr m ↦ elim b [
        | inl n ↦ absurd (no-refusal P one n.0 m.0 (λ t. told-reason r m.0 m.2 (told t).0) n.1 m.1)
        | inr n ↦ alike-refused f r s m.0 n.0 m.2 n.2 (same-refusal P one m.0 n.0 (λ t. (told-reason r m.0 m.2 (told t).0, told-reason s n.0 n.2 (told t).1)) m.1 n.1)
      ]
    ]

-- a next stage that looks at no more than that has one outcome
pub alike-then : {any : Bool} {X Y Z : Type 0} (f : X → Y) (P : Result X Refusal → Type 0) (Q : Y → Result Z Refusal → Type 0) → GivesAlike any f P → ((y : Y) → GivesOne any (Q y)) → GivesOne any (Then P (λ x. Q (f x)))
alike-then f P Q alike each r s a b told =
    elim a [
      | inl m ↦ elim b [
        | inl n ↦ each (f n.0) r s (subst (λ y. Q y r) (alike (Ok m.0) (Ok n.0) m.1 n.1 (λ t. (tt, tt))) m.2) n.2 told
        | inr n ↦ absurd (alike (Ok m.0) (Err n.0) m.1 n.1 (λ t. (tt, told-reason s n.0 n.2 (told t).1)))
      ]
      | inr m ↦ elim b [
        | inl n ↦ absurd (alike (Err m.0) (Ok n.0) m.1 n.1 (λ t. (told-reason r m.0 m.2 (told t).0, tt)))
        | inr n ↦ m.2 ∙ ap Err (alike (Err m.0) (Err n.0) m.1 n.1 (λ t. (told-reason r m.0 m.2 (told t).0, told-reason s n.0 n.2 (told t).1))) ∙ sym n.2
      ]
    ]

-- what may be given of any value
abbrev pub unseen : {X : Type 0} → X → Unit {0}
unseen x = tt

-- a file that may be left out, whose value is not told
pub named-alike : {any : Bool} {X : Type 0} (P : List ℕ → Result X Refusal → Type 0) → ((name : List ℕ) → GivesAlike any unseen (P name)) → (named : Option (List ℕ)) → GivesAlike any unseen (IfNamed P named)
named-alike P alike None (Ok x) (Ok y) a b told = refl
named-alike {X = X} P alike None (Ok x) (Err w) a b told = let e : ◌≡◌ {A = Result (Option X) Refusal} (Err w) (Ok None) = b in absurd (cc)
named-alike {X = X} P alike None (Err v) s a b told = let e : ◌≡◌ {A = Result (Option X) Refusal} (Err v) (Ok None) = a in absurd (cc)
named-alike P alike (Some name) (Ok None) s a b told = absurd a
named-alike P alike (Some name) (Ok (Some x)) (Ok y) a b told = refl
named-alike P alike (Some name) (Ok (Some x)) (Err w) a b told = absurd (alike name (Ok x) (Err w) a b told)
named-alike P alike (Some name) (Err v) (Ok None) a b told = absurd b
named-alike P alike (Some name) (Err v) (Ok (Some y)) a b told = absurd (alike name (Err v) (Ok y) a b told)
named-alike P alike (Some name) (Err v) (Err w) a b told = alike name (Err v) (Err w) a b told

-- what is kept with its design gives one design
pub with-alike : {any : Bool} {X : Type 0} (P : Design → Result X Refusal → Type 0) (design : Design) → GivesAlike any unseen (P design) → GivesAlike any (λ (both : Design × X). both.0) (With P design)
with-alike P design alike (Ok x) (Ok y) a b told = a.0 ∙ sym b.0
with-alike P design alike (Ok x) (Err w) a b told = alike (Ok x.1) (Err w) a.1 b told
with-alike P design alike (Err v) (Ok y) a b told = alike (Err v) (Ok y.1) a b.1 told
with-alike P design alike (Err v) (Err w) a b told = alike (Err v) (Err w) a b told
