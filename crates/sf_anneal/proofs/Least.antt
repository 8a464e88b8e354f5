-- The first of least cost among several results.
use Rattle.std.proofs.Common.{◌≡◌, ℕ, zero, suc, ◌<◌, ◌≤◌, List, [], ◌∷◌, length, Bool, true, false, refl, ap, sym, subst, ◌∙◌, inl, inr, arith, ◌⊎◌, Option, Some, None, IfSome, Contains, fold, nat_lt, slice_index_or, if◌then◌else◌}
use Rattle.sf_anneal.proofs.Common.{ltb-true, ltb-false, Contains-head, Contains-tail, Expr, IsNoDearer, first_least, lesser}

no-dearer-on : (a b c : Option (Expr × ℕ)) → IsNoDearer a b → IsNoDearer b c → IsNoDearer a c
no-dearer-on a b c h k q e =
    let p = h q e in
    let r = k p.0 p.1 in
    (r.0, r.1, omega (arith, p.2, r.2))

lesser-left : (a b : Option (Expr × ℕ)) → IsNoDearer a (lesser a b)
lesser-left None b q e = absurd cc
lesser-left (Some a) None q e = (a, refl, (let s : a ≡ q = cc in omega (arith, ap (λ (z : Expr × ℕ). z.1) s)))
lesser-left (Some a) (Some b) q e = by_test (nat_lt b.1 a.1) refl
  where
    by_test : (x : Bool) → nat_lt b.1 a.1 ≡ x → (p : Expr × ℕ) × ((if x then Some b else Some a) ≡ Some p) × (p.1 ≤ q.1)
    by_test true t = (b, refl, (let s : a ≡ q = cc in omega (arith, ltb-true b.1 a.1 t, ap (λ (z : Expr × ℕ). z.1) s)))
    by_test false t = (a, refl, (let s : a ≡ q = cc in omega (arith, ap (λ (z : Expr × ℕ). z.1) s)))

lesser-right : (a b : Option (Expr × ℕ)) → IsNoDearer b (lesser a b)
lesser-right None b q e = (q, e, omega arith)
lesser-right (Some a) None q e = absurd cc
lesser-right (Some a) (Some b) q e = by_test (nat_lt b.1 a.1) refl
  where
    by_test : (x : Bool) → nat_lt b.1 a.1 ≡ x → (p : Expr × ℕ) × ((if x then Some b else Some a) ≡ Some p) × (p.1 ≤ q.1)
    by_test true t = (b, refl, (let s : b ≡ q = cc in omega (arith, ap (λ (z : Expr × ℕ). z.1) s)))
    by_test false t = (a, refl, (let s : b ≡ q = cc in omega (arith, ltb-false b.1 a.1 t, ap (λ (z : Expr × ℕ). z.1) s)))

fold-start : (a : Option (Expr × ℕ)) (xs : List (Option (Expr × ℕ))) → IsNoDearer a (fold lesser a xs)
fold-start a [] q e = (q, e, omega arith)
fold-start a (x ∷ xs) q e = no-dearer-on a (lesser a x) (fold lesser (lesser a x) xs) (lesser-left a x) (fold-start (lesser a x) xs) q e

fold-each : (a : Option (Expr × ℕ)) (xs : List (Option (Expr × ℕ))) (k : ℕ) (d : Option (Expr × ℕ)) → k < length xs → IsNoDearer (slice_index_or xs k d) (fold lesser a xs)
fold-each a [] k d h = absurd (omega (arith, h))
fold-each a (x ∷ xs) zero d h = no-dearer-on x (lesser a x) (fold lesser (lesser a x) xs) (lesser-right a x) (fold-start (lesser a x) xs)
fold-each a (x ∷ xs) (suc k) d h = fold-each (lesser a x) xs k d (omega (arith, h))

-- the least costs at most what each result costs
pub least-each : (xs : List (Option (Expr × ℕ))) (k : ℕ) (d : Option (Expr × ℕ)) → k < length xs → IsNoDearer (slice_index_or xs k d) (first_least xs)
least-each xs k d h = fold-each None xs k d h

-- the lesser is one of both
lesser-among : (a b : Option (Expr × ℕ)) → (lesser a b ≡ a) ⊎ (lesser a b ≡ b)
lesser-among None b = inr refl
lesser-among (Some a) None = inl refl
lesser-among (Some a) (Some b) = by_test (nat_lt b.1 a.1)
  where
    by_test : (x : Bool) → ((if x then Some b else Some a) ≡ Some a) ⊎ ((if x then Some b else Some a) ≡ Some b)
    by_test true = inr refl
    by_test false = inl refl

fold-among : (a : Option (Expr × ℕ)) (xs : List (Option (Expr × ℕ))) → (fold lesser a xs ≡ a) ⊎ Contains xs (fold lesser a xs)
fold-among a [] = inl refl
fold-among a (x ∷ xs) = elim (fold-among (lesser a x) xs) [
  | inl e ↦ elim (lesser-among a x) [
    | inl f ↦ inl (e ∙ f)
    | inr f ↦ inr (subst (Contains (x ∷ xs)) (sym (e ∙ f)) (Contains-head x xs))
  ]
  | inr c ↦ inr (Contains-tail x xs (fold lesser (lesser a x) xs) c)
]

-- the least is one of the results
pub least-among : (xs : List (Option (Expr × ℕ))) (p : Expr × ℕ) → first_least xs ≡ Some p → Contains xs (Some p)
least-among xs p e = elim (fold-among None xs) [ inl f ↦ absurd (let z : None ≡ Some p = sym f ∙ e in cc) | inr c ↦ subst (Contains xs) e c ]

-- what holds of each result holds of the least
pub least-one : (P : Expr × ℕ → Type 0) (xs : List (Option (Expr × ℕ))) → ((k : ℕ) (d : Option (Expr × ℕ)) → k < length xs → IfSome (slice_index_or xs k d) P) → IfSome (first_least xs) P
least-one P xs h = by_least (first_least xs) refl
  where
    by_least : (r : Option (Expr × ℕ)) → first_least xs ≡ r → IfSome r P
    by_least None e = tt
    by_least (Some p) e = let c = least-among xs p e in subst (λ r. IfSome r P) c.2 (h c.0 (Some p) c.1)

-- what holds of two holds of the lesser
pub lesser-one : (P : Expr × ℕ → Type 0) (a b : Option (Expr × ℕ)) → IfSome a P → IfSome b P → IfSome (lesser a b) P
lesser-one P a b p q = elim (lesser-among a b) [ inl e ↦ subst (λ r. IfSome r P) (sym e) p | inr e ↦ subst (λ r. IfSome r P) (sym e) q ]

-- where results cost no more than others did, the lesser of their least and of another one doesn't either
pub least-no-dearer : (ws vs : List (Option (Expr × ℕ))) (b : Option (Expr × ℕ)) → length ws ≤ length vs → ((k : ℕ) (d e : Option (Expr × ℕ)) → k < length ws → IsNoDearer (slice_index_or ws k d) (slice_index_or vs k e)) → IsNoDearer (first_least ws) (lesser (first_least vs) b)
least-no-dearer ws vs b more h p e =
    let c = least-among ws p e in
    let q = h c.0 (Some p) None c.1 p c.2 in
    let r = least-each vs c.0 None (omega (arith, c.1, more)) q.0 q.1 in
    let s = lesser-left (first_least vs) b r.0 r.1 in
    (s.0, s.1, omega (arith, s.2, r.2, q.2))

-- the lesser costs no more than the second
pub lesser-second : (a b : Option (Expr × ℕ)) → IsNoDearer b (lesser a b)
lesser-second a b = lesser-right a b

-- none is left out
lesser-none : (a : Option (Expr × ℕ)) → lesser a None ≡ a
lesser-none None = refl
lesser-none (Some a) = refl

fold-same : (a : Option (Expr × ℕ)) (ws vs : List (Option (Expr × ℕ))) → length ws ≤ length vs → ((k : ℕ) → k < length ws → slice_index_or vs k None ≡ slice_index_or ws k None) → ((k : ℕ) → length ws ≤ k → k < length vs → slice_index_or vs k None ≡ None) → fold lesser a vs ≡ fold lesser a ws
fold-same a [] [] more same none = refl
fold-same a [] (v ∷ vs) more same none =
    ap (λ x. fold lesser (lesser a x) vs) (none 0 (omega arith) (omega arith))
    ∙ ap (λ x. fold lesser x vs) (lesser-none a)
    ∙ fold-same a [] vs (omega arith) (λ k h. absurd (omega (arith, h))) (λ k l h. none (suc k) (omega arith) (omega (arith, h)))
fold-same a (w ∷ ws) [] more same none = absurd (omega (arith, more))
fold-same a (w ∷ ws) (v ∷ vs) more same none =
    ap (λ x. fold lesser (lesser a x) vs) (same 0 (omega arith))
    ∙ fold-same (lesser a w) ws vs (omega (arith, more)) (λ k h. same (suc k) (omega (arith, h))) (λ k l h. none (suc k) (omega (arith, l)) (omega (arith, h)))

-- results behind others that are none change nothing
pub least-same : (ws vs : List (Option (Expr × ℕ))) → length ws ≤ length vs → ((k : ℕ) → k < length ws → slice_index_or vs k None ≡ slice_index_or ws k None) → ((k : ℕ) → length ws ≤ k → k < length vs → slice_index_or vs k None ≡ None) → first_least vs ≡ first_least ws
least-same ws vs more same none = fold-same None ws vs more same none
