-- The team of a round stays the same, and what all workers did.
use Rattle.std.proofs.Common.{◌≡◌, ℕ, zero, suc, ◌<◌, ◌≤◌, inl, inr, List, [], ◌∷◌, ◌++◌, map, length, take, drop, All, ap, sym, ◌∙◌, subst, refl, arith}
use Rattle.sf_rounds.proofs.Common.{sum_by, Any, Some, IfSome, slice_get, slice_index_or, sum_by-cons, All-cons, All-head, All-tail, Design, MAX, Stretch, Part, Parts, Entry, Word, Knows, Deque, ThiefView, Place, IsTeam, turned, deques_of, preys_of, thief_deques_of, Solves, IsDecidedFirst, Passed, PassEnds, any-left, any-right, Job, EachTwo, IsFresh, FirstsAre, place_of, PassEnd}
use lib.Seq.{take-append_seam}
use Rattle.sf_worker.specs.declared.state.PassEnd.TheVariants.{QuotaSpent, FoundNothing}
use Rattle.sf_rounds.proofs.Whole.{Went, entries_in}

-- lists that are related place by place have the same length
pub each_two-length : {X : Type 0} (R : X → X → Type 0) (xs ys : List X) → EachTwo R xs ys → length ys ≡ length xs
each_two-length R [] [] h = refl
each_two-length R [] (y ∷ ys) h = absurd h
each_two-length R (x ∷ xs) [] h = absurd h
each_two-length R (x ∷ xs) (y ∷ ys) h = omega (arith, each_two-length R xs ys h.1)

-- the first part of what was written over a list is what was written
pub after_slice : {X : Type 0} (n : ℕ) (new items : List X) → n ≡ length new → take n (new ++ drop (length new) items) ≡ new
after_slice n new items e = ap (λ m. take m (new ++ drop (length new) items)) e ∙ take-append_seam new (drop (length new) items)

-- where no deque can be stolen from, there is no thief
no_thieves : (ts : List ThiefView) → thief_deques_of ts ≡ [] → ts ≡ []
no_thieves [] e = refl
no_thieves (t ∷ ts) e = absurd (let n = ap length e in omega (arith, n))

module _ {T : Type 0} where
  -- owners of the same deques are as many
  deques_length : (ps qs : List (Place T)) → deques_of qs ≡ deques_of ps → length qs ≡ length ps
  deques_length [] [] e = refl
  deques_length [] (q ∷ qs) e = absurd (let n = ap length e in omega (arith, n))
  deques_length (p ∷ ps) [] e = absurd (let n = ap length e in omega (arith, n))
  deques_length (p ∷ ps) (q ∷ qs) e = (let rest : deques_of qs ≡ deques_of ps = cc in omega (arith, deques_length ps qs rest))

  -- owners of the same deques have as many parts of them
  parts_all : (n : ℕ) (ps qs : List (Place T)) → deques_of qs ≡ deques_of ps → All (λ place. place.owner.deque.parts ≡ n) ps → All (λ place. place.owner.deque.parts ≡ n) qs
  parts_all n [] [] e h = h
  parts_all n [] (q ∷ qs) e h = absurd (let n = ap length e in omega (arith, n))
  parts_all n (p ∷ ps) [] e h = absurd (let n = ap length e in omega (arith, n))
  parts_all n (p ∷ ps) (q ∷ qs) e h =
      let P : Place T → Type 0 = λ place. place.owner.deque.parts ≡ n in
      let here : q.owner.deque ≡ p.owner.deque = cc in
      let rest : deques_of qs ≡ deques_of ps = cc in
      All-cons P q qs (ap (λ (d : Deque). d.parts) here ∙ All-head P p ps h) (parts_all n ps qs rest (All-tail P p ps h))

  -- workers alone with their deques stay so where the deques and the thieves' are the same
  lone_all : (ps qs : List (Place T)) → deques_of qs ≡ deques_of ps → preys_of qs ≡ preys_of ps → All (λ place. (place.owner.deque.parts ≡ 1) × (place.thieves.items ≡ [])) ps → All (λ place. (place.owner.deque.parts ≡ 1) × (place.thieves.items ≡ [])) qs
  lone_all [] [] e f h = h
  lone_all [] (q ∷ qs) e f h = absurd (let n = ap length e in omega (arith, n))
  lone_all (p ∷ ps) [] e f h = absurd (let n = ap length e in omega (arith, n))
  lone_all (p ∷ ps) (q ∷ qs) e f h =
      let P : Place T → Type 0 = λ place. (place.owner.deque.parts ≡ 1) × (place.thieves.items ≡ []) in
      let here : q.owner.deque ≡ p.owner.deque = cc in
      let rest : deques_of qs ≡ deques_of ps = cc in
      let here' : thief_deques_of q.thieves.items ≡ thief_deques_of p.thieves.items = cc in
      let rest' : preys_of qs ≡ preys_of ps = cc in
      let one = All-head P p ps h in
      All-cons P q qs (ap (λ (d : Deque). d.parts) here ∙ one.0, no_thieves q.thieves.items (here' ∙ ap thief_deques_of one.1)) (lone_all ps qs rest rest' (All-tail P p ps h))

  -- a team stays one where the deques and those on which thieves stand are the same
  pub team_same : (ps qs : List (Place T)) → deques_of qs ≡ deques_of ps → preys_of qs ≡ preys_of ps → IsTeam ps → IsTeam qs
  team_same ps qs e f team = (
    omega (arith, team.0, deques_length ps qs e),
    elim team.1 [
      | inl alone ↦ inl (omega (arith, alone.0, deques_length ps qs e), lone_all ps qs e f alone.1)
      | inr ring ↦ inr (parts_all 2 ps qs e ring.0, f ∙ (ring.1 ∙ ap (λ ds. map (λ (d : Deque). d ∷ []) (turned ds)) (sym e)))
    ],
  )

module _ {T : Type 0} (design : Design) (bound : Parts → ℕ) (part : Parts → Part → ℕ) where
  -- the workers' passes leave the deques, and those on which thieves stand
  pub all_deques : (js ks : List (Job T)) → EachTwo (Went design bound part) js ks
      → (deques_of (map place_of ks) ≡ deques_of (map place_of js)) × (preys_of (map place_of ks) ≡ preys_of (map place_of js))
  all_deques [] [] h = (refl, refl)
  all_deques [] (k ∷ ks) h = absurd h
  all_deques (j ∷ js) [] h = absurd h
  all_deques (j ∷ js) (k ∷ ks) h =
      let r = all_deques js ks h.1 in
      let d = h.0.1.passed.did.deques in
      ((λ i. d.0 i ∷ r.0 i), (λ i. d.1 i ∷ r.1 i))

  module _ (value : ℕ) (word : Word) where
    -- after the passes the seats have together as many parts as there are quotas
    pub all_parts : (given : List Stretch) (quotas : List ℕ) (js ks : List (Job T)) → EachTwo (Went design bound part) js ks → All (IsFresh value word) js → FirstsAre given quotas js
        → sum_by (λ (k : Job T). k.state.seat.parts) ks ≡ length quotas
    all_parts given [] [] [] h fs q = refl
    all_parts given [] [] (k ∷ ks) h fs q = absurd h
    all_parts given [] (j ∷ js) ks h fs q = absurd q
    all_parts given (n ∷ ns) [] ks h fs q = absurd q
    all_parts given (n ∷ ns) (j ∷ js) [] h fs q = absurd h
    all_parts [] (n ∷ ns) (j ∷ js) (k ∷ ks) h fs q =
        let F = IsFresh value word in
        let one = h.0.1.passed.did.seat.1 ∙ ap (λ (s : Knows). s.parts) (All-head F j js fs).seat in
        omega (arith, one, all_parts [] ns js ks h.1 (All-tail F j js fs) q.1, sum_by-cons (λ (i : Job T). i.state.seat.parts) k ks)
    all_parts (t ∷ ts) (n ∷ ns) (j ∷ js) (k ∷ ks) h fs q =
        let F = IsFresh value word in
        let one = h.0.1.passed.did.seat.1 ∙ ap (λ (s : Knows). s.parts) (All-head F j js fs).seat in
        omega (arith, one, all_parts ts ns js ks h.1 (All-tail F j js fs) q.1, sum_by-cons (λ (i : Job T). i.state.seat.parts) k ks)

    -- the offer of a worker, where it made one, is the bound of one of its entries
    pub all_solved : (z : ℕ) → z < MAX → (js ks : List (Job T)) (h : EachTwo (Went design bound part) js ks) → All (IsFresh value word) js
        → Any (λ (k : Job T). k.state.seat.offered ≡ z) ks → Any (Solves design bound z) (entries_in design bound part js ks h)
    all_solved z less [] [] h fs a = absurd (let b = a.2 in omega (arith, b))
    all_solved z less [] (k ∷ ks) h fs a = absurd h
    all_solved z less (j ∷ js) [] h fs a = absurd h
    all_solved z less (j ∷ js) (k ∷ ks) h fs (zero, x, below, is, e) =
        let F = IsFresh value word in
        let f = All-head F j js fs in
        let did = h.0.1.passed.did in
        let here : k.state.seat.offered ≡ z = ap (λ (i : Job T). i.state.seat.offered) is ∙ e in
        let most : j.state.seat.offered ≡ MAX = ap (λ (s : Knows). s.offered) f.seat in
        any-left (Solves design bound z) did.logged (entries_in design bound part js ks h.1)
        (subst (λ y. Any (Solves design bound y) did.logged) here (did.fell (omega (arith, here, most, less))))
    all_solved z less (j ∷ js) (k ∷ ks) h fs (suc i, x, below, is, e) =
        any-right (Solves design bound z) h.0.1.passed.did.logged (entries_in design bound part js ks h.1)
        (all_solved z less js ks h.1 (All-tail (IsFresh value word) j js fs) (i, x, omega (arith, below), is, e))

    -- a worker with a quota decided the first subproblem of its first stretch
    first_end : (j k : Job T) (p : Passed design bound part j.state k.state []) (end : PassEnd) → 0 < j.state.quota → PassEnds j.state k.state p end → IsDecidedFirst j.state.first k.state.first p.did.logged
    first_end j k p QuotaSpent some h = h.2 some
    first_end j k p FoundNothing some h = h.2

    -- the first subproblem of each given stretch whose worker has a quota was decided
    pub all_firsts : (given : List Stretch) (quotas : List ℕ) (js ks : List (Job T)) (h : EachTwo (Went design bound part) js ks) → FirstsAre given quotas js
        → (i : ℕ) (t : Stretch) → slice_get given i ≡ Some t → 1 ≤ slice_index_or quotas i 0 → Any (λ (e : Entry). e.node ≡ t.cursor.node) (entries_in design bound part js ks h)
    all_firsts given [] js ks h q i t e some = absurd (omega (arith, some))
    all_firsts given (n ∷ ns) [] ks h q i t e some = absurd q
    all_firsts given (n ∷ ns) (j ∷ js) [] h q i t e some = absurd h
    all_firsts [] (n ∷ ns) (j ∷ js) (k ∷ ks) h q i t e some = absurd (cc)
    all_firsts (u ∷ us) (n ∷ ns) (j ∷ js) (k ∷ ks) h q zero t e some =
        let same : u ≡ t = cc in
        let d = first_end j k h.0.1.passed h.0.0 (let m = q.0.1 in omega (arith, m, some)) h.0.1.ends in
        any-left (λ (f : Entry). f.node ≡ t.cursor.node) h.0.1.passed.did.logged (entries_in design bound part js ks h.1)
        (subst (λ o. IfSome o (λ s. Any (λ (f : Entry). f.node ≡ s.cursor.node) h.0.1.passed.did.logged)) (q.0.0 ∙ ap (λ s. Some s) same) d.1)
    all_firsts (u ∷ us) (n ∷ ns) (j ∷ js) (k ∷ ks) h q (suc i) t e some =
        any-right (λ (f : Entry). f.node ≡ t.cursor.node) h.0.1.passed.did.logged (entries_in design bound part js ks h.1)
        (all_firsts us ns js ks h.1 q.1 i t e some)
