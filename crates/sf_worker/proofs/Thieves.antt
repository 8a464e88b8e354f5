-- Tries at thieves, one after another.
use Rattle.std.proofs.Common.{◌≡◌, ℕ, zero, suc, ◌+◌, ◌<◌, ◌≤◌, List, [], ◌∷◌, ◌++◌, length, set, get_or, refl, ap, ◌∙◌, arith, sum_by, Some, None}
use Rattle.std.specs.Prelude.{⊤}
use Rattle.sf_worker.proofs.Common.{sum_by-set, sum_by-append, sum_by-cons, Stretch, ThiefView, one_more, thief_deques_of, IsStolen, thieves_weigh, NeverFell, Rose, ThievesNeverFell, ThievesRose}

-- the first i thieves were tried and had nothing
abbrev pub Tried : ℕ → List ThiefView → List ThiefView → Type 0
Tried i [] [] = ⊤
Tried i [] (u ∷ us) = ⊥
Tried i (t ∷ ts) [] = ⊥
Tried zero (t ∷ ts) (u ∷ us) = (u ≡ t) × Tried zero ts us
Tried (suc i) (t ∷ ts) (u ∷ us) = ((u.deque ≡ t.deque) × (u.taken ≡ t.taken) × Rose t.empty_takes u.empty_takes) × Tried i ts us

-- before the first try all thieves are as they were
pub tried-none : (ts : List ThiefView) → Tried zero ts ts
tried-none [] = tt
tried-none (t ∷ ts) = (refl, tried-none ts)

-- one thief more was tried and had nothing
pub tried-one_more : (i : ℕ) (ts us : List ThiefView) (old new : ThiefView) → Tried i ts us → i < length us → old ≡ get_or us i old → new ≡ record old { empty_takes = one_more old.empty_takes } → Tried (suc i) ts (set us i new)
tried-one_more i [] [] old new h below is e = absurd (omega (arith, below))
tried-one_more i [] (u ∷ us) old new h below is e = absurd h
tried-one_more i (t ∷ ts) [] old new h below is e = absurd h
tried-one_more zero (t ∷ ts) (u ∷ us) old new h below is e =
    let same : old ≡ t = is ∙ h.0 in (
      (
        ap (λ (v : ThiefView). v.deque) (e ∙ ap (λ (v : ThiefView). record v { empty_takes = one_more v.empty_takes }) same),
        ap (λ (v : ThiefView). v.taken) (e ∙ ap (λ (v : ThiefView). record v { empty_takes = one_more v.empty_takes }) same),
        (let k : new.empty_takes ≡ one_more t.empty_takes = ap (λ (v : ThiefView). v.empty_takes) (e ∙ ap (λ (v : ThiefView). record v { empty_takes = one_more v.empty_takes }) same) in omega (arith, k)),
      ),
      h.1,
    )
tried-one_more (suc i) (t ∷ ts) (u ∷ us) old new h below is e = (h.0, tried-one_more i ts us old new h.1 (omega (arith, below)) is e)

-- tries leave as many thieves as there were
pub tried-length : (i : ℕ) (ts us : List ThiefView) → Tried i ts us → length us ≡ length ts
tried-length i [] [] h = refl
tried-length i [] (u ∷ us) h = absurd h
tried-length i (t ∷ ts) [] h = absurd h
tried-length zero (t ∷ ts) (u ∷ us) h = omega (arith, tried-length zero ts us h.1)
tried-length (suc i) (t ∷ ts) (u ∷ us) h = omega (arith, tried-length i ts us h.1)

-- once all thieves were tried in vain, the counts of empty takes of all of them rose
pub tried-rose : (i : ℕ) (ts us : List ThiefView) → Tried i ts us → length us ≤ i → ThievesRose ts us
tried-rose i [] [] h all = tt
tried-rose i [] (u ∷ us) h all = absurd h
tried-rose i (t ∷ ts) [] h all = absurd h
tried-rose zero (t ∷ ts) (u ∷ us) h all = absurd (omega (arith, all))
tried-rose (suc i) (t ∷ ts) (u ∷ us) h all = (h.0.2, tried-rose i ts us h.1 (omega (arith, all)))

-- tries in vain lower no count of empty takes
pub tried-fell : (i : ℕ) (ts us : List ThiefView) → Tried i ts us → ThievesNeverFell ts us
tried-fell i [] [] h = tt
tried-fell i [] (u ∷ us) h = absurd h
tried-fell i (t ∷ ts) [] h = absurd h
tried-fell zero (t ∷ ts) (u ∷ us) h = ((let k : u.empty_takes ≡ t.empty_takes = ap (λ (v : ThiefView). v.empty_takes) h.0 in omega (arith, k)), tried-fell zero ts us h.1)
tried-fell (suc i) (t ∷ ts) (u ∷ us) h = ((let k = h.0.2 in omega (arith, k)), tried-fell i ts us h.1)

-- tries in vain leave each thief at its deque
pub tried-deques : (i : ℕ) (ts us : List ThiefView) → Tried i ts us → thief_deques_of us ≡ thief_deques_of ts
tried-deques i [] [] h = refl
tried-deques i [] (u ∷ us) h = absurd h
tried-deques i (t ∷ ts) [] h = absurd h
tried-deques zero (t ∷ ts) (u ∷ us) h = λ j. (h.0 j).deque ∷ tried-deques zero ts us h.1 j
tried-deques (suc i) (t ∷ ts) (u ∷ us) h = λ j. h.0.0 j ∷ tried-deques i ts us h.1 j

-- tries in vain leave what the thieves took
pub tried-weigh : (w : Stretch → ℕ) (i : ℕ) (ts us : List ThiefView) → Tried i ts us → thieves_weigh w us ≡ thieves_weigh w ts
tried-weigh w i [] [] h = refl
tried-weigh w i [] (u ∷ us) h = absurd h
tried-weigh w i (t ∷ ts) [] h = absurd h
tried-weigh w zero (t ∷ ts) (u ∷ us) h =
    let f : ThiefView → ℕ = λ v. sum_by w v.taken in
    let k : f u ≡ f t = ap f h.0 in
    omega (arith, k, tried-weigh w zero ts us h.1, sum_by-cons f t ts, sum_by-cons f u us)
tried-weigh w (suc i) (t ∷ ts) (u ∷ us) h =
    let f : ThiefView → ℕ = λ v. sum_by w v.taken in
    let k : f u ≡ f t = ap (sum_by w) h.0.1 in
    omega (arith, k, tried-weigh w i ts us h.1, sum_by-cons f t ts, sum_by-cons f u us)

-- where one thief changes and keeps its deque, all thieves stay at theirs
pub same_deques : (ts : List ThiefView) (i : ℕ) (old new : ThiefView) → i < length ts → old ≡ get_or ts i old → new.deque ≡ old.deque → thief_deques_of (set ts i new) ≡ thief_deques_of ts
same_deques [] i old new below is same = refl
same_deques (x ∷ xs) zero old new below is same = ap (λ d. d ∷ thief_deques_of xs) (same ∙ ap (λ (t : ThiefView). t.deque) is)
same_deques (x ∷ xs) (suc i) old new below is same = ap (λ ds. x.deque ∷ ds) (same_deques xs i old new (omega arith) is same)

-- where one thief changes and keeps its count of empty takes, no count fell that had not fallen before
pub fell_set : (ts us : List ThiefView) (i : ℕ) (old new : ThiefView) → old ≡ get_or us i old → new.empty_takes ≡ old.empty_takes → ThievesNeverFell ts us → ThievesNeverFell ts (set us i new)
fell_set [] [] i old new is same h = tt
fell_set [] (u ∷ us) i old new is same h = absurd h
fell_set (t ∷ ts) [] i old new is same h = absurd h
fell_set (t ∷ ts) (u ∷ us) zero old new is same h = ((let k : new.empty_takes ≡ u.empty_takes = same ∙ ap (λ (v : ThiefView). v.empty_takes) is in let n = h.0 in omega (arith, k, n)), h.1)
fell_set (t ∷ ts) (u ∷ us) (suc i) old new is same h = (h.0, fell_set ts us i old new is same h.1)

-- a thief that took one task more makes the thieves' tasks weigh more by that one
pub weigh_set : (w : Stretch → ℕ) (us : List ThiefView) (i : ℕ) (old new : ThiefView) (x : Stretch) → i < length us → old ≡ get_or us i old → new.taken ≡ old.taken ++ x ∷ [] → thieves_weigh w (set us i new) ≡ thieves_weigh w us + w x
weigh_set w us i old new x below is same =
    let f : ThiefView → ℕ = λ t. sum_by w t.taken in
    let s = sum_by-set f us i new old below in
    let a : f new ≡ sum_by w (old.taken ++ x ∷ []) = ap (sum_by w) same in
    let b : f old ≡ f (get_or us i old) = ap f is in
    omega (arith, s, a, b, sum_by-append w old.taken (x ∷ []))

-- a count that fell in neither of two steps did not fall over both
pub fell-trans : (n m k : ℕ) → NeverFell n m → NeverFell m k → NeverFell n k
fell-trans n m k p q = omega (arith, p, q)

-- where in neither of two steps a count of empty takes fell, none did over both
pub thieves_fell-trans : (ts us vs : List ThiefView) → ThievesNeverFell ts us → ThievesNeverFell us vs → ThievesNeverFell ts vs
thieves_fell-trans [] [] vs p q = q
thieves_fell-trans [] (u ∷ us) vs p q = absurd p
thieves_fell-trans (t ∷ ts) [] vs p q = absurd p
thieves_fell-trans (t ∷ ts) (u ∷ us) [] p q = absurd q
thieves_fell-trans (t ∷ ts) (u ∷ us) (v ∷ vs) p q = (fell-trans t.empty_takes u.empty_takes v.empty_takes p.0 q.0, thieves_fell-trans ts us vs p.1 q.1)

-- where no count of empty takes fell and then all rose, all rose over both
pub thieves_fell-rose : (ts us vs : List ThiefView) → ThievesNeverFell ts us → ThievesRose us vs → ThievesRose ts vs
thieves_fell-rose [] [] vs p q = q
thieves_fell-rose [] (u ∷ us) vs p q = absurd p
thieves_fell-rose (t ∷ ts) [] vs p q = absurd p
thieves_fell-rose (t ∷ ts) (u ∷ us) [] p q = absurd q
thieves_fell-rose (t ∷ ts) (u ∷ us) (v ∷ vs) p q = ((let a = p.0 in let b = q.0 in omega (arith, a, b)), thieves_fell-rose ts us vs p.1 q.1)

-- where nothing changes, no count of empty takes fell
pub thieves_never_fell : (ts : List ThiefView) → ThievesNeverFell ts ts
thieves_never_fell [] = tt
thieves_never_fell (t ∷ ts) = (omega arith, thieves_never_fell ts)

-- a count that stays has not fallen
pub never_fell : (n : ℕ) → NeverFell n n
never_fell n = omega arith

-- so many tries at each thief were in vain
pub record Missed (n : ℕ) (ts us : List ThiefView) : Type 0 where
  pub deques : thief_deques_of us ≡ thief_deques_of ts
  pub fell : ThievesNeverFell ts us
  pub weigh : (w : Stretch → ℕ) → thieves_weigh w us ≡ thieves_weigh w ts
  pub rose : 0 < n → ThievesRose ts us

-- before the first try
pub missed-none : (ts : List ThiefView) → Missed 0 ts ts
missed-none ts = record { deques = refl; fell = thieves_never_fell ts; weigh = λ w. refl; rose = λ h. absurd (omega (arith, h)) }

-- one try more in vain
pub missed-more : (S : Stretch → Type 0) (n : ℕ) (ts us vs : List ThiefView) → Missed n ts us → IsStolen S us vs None → Missed (n + 1) ts vs
missed-more S n ts us vs m s = record {
  deques = s.0 ∙ m.deques;
  fell = thieves_fell-trans ts us vs m.fell s.1;
  weigh = λ w. (let a = s.3 w in let b = m.weigh w in omega (arith, a, b));
  rose = λ h. thieves_fell-rose ts us vs m.fell (s.4 refl);
}

-- and one that gave a task
pub missed-found : (S : Stretch → Type 0) (n : ℕ) (ts us vs : List ThiefView) (x : Stretch) → Missed n ts us → IsStolen S us vs (Some x) → IsStolen S ts vs (Some x)
missed-found S n ts us vs x m s = (
  s.0 ∙ m.deques,
  thieves_fell-trans ts us vs m.fell s.1,
  s.2,
  (λ w. (let a = s.3 w in let b = m.weigh w in omega (arith, a, b))),
  λ e. absurd (cc),
)
