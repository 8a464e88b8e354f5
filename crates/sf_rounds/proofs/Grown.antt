-- All workers of a round, with their draws, did what one pass of a larger quota does for each.
use Rattle.std.proofs.Common.{◌≡◌, ℕ, zero, suc, ◌+◌, ◌≤◌, List, [], ◌∷◌, length, map, All, ap, sym, ◌∙◌, subst, refl, arith}
use Rattle.sf_rounds.proofs.Common.{sum, sum_by, IfSome, slice_index_or, sum_by-cons, All-nil, All-cons, All-head, All-tail, Design, MAX, Stretch, Part, Parts, Knows, Word, IsTeam, IsBest, IsStretch, Job, Member, EachTwo, Ran, IsFresh, FirstsAre, Dealt, CanPass, CanStart, IsLarger, IsPooled, Worked, IsNew, has_weight, place_of, with_more}
use Rattle.sf_budget.specs.Seen.{AccountView, BudgetView}

module _ {T : Type 0} where
  -- the worker of a member
  abbrev pub job_of : Member T → Job T
  job_of m = m.job

  -- what a member has drawn
  abbrev pub drawn_by : Member T → ℕ
  drawn_by m = m.account.drawn

  -- the quota of a worker
  abbrev pub quota_of : Job T → ℕ
  quota_of j = j.state.quota

-- ---- what the members did

module _ {T : Type 0} (design : Design) (bound : Parts → ℕ) (part : Parts → Part → ℕ) where
  -- what each member did
  abbrev AllWorked : List (Member T) → List (Member T) → Type 0
  AllWorked ms ns = EachTwo (Worked design bound part) ms ns

  -- the workers, each with what it drew
  abbrev grown : (ms ns : List (Member T)) → AllWorked ms ns → List (Job T)
  grown [] [] h = []
  grown [] (n ∷ ns) h = []
  grown (m ∷ ms) [] h = []
  grown (m ∷ ms) (n ∷ ns) h = with_more m.job h.0.drawn ∷ grown ms ns h.1

  -- their quotas are larger
  grown-larger : (ms ns : List (Member T)) (h : AllWorked ms ns) → EachTwo IsLarger (map job_of ms) (grown ms ns h)
  grown-larger [] [] h = tt
  grown-larger [] (n ∷ ns) h = absurd h
  grown-larger (m ∷ ms) [] h = absurd h
  grown-larger (m ∷ ms) (n ∷ ns) h = ((h.0.drawn, refl), grown-larger ms ns h.1)

  -- by no more than what all accounts have drawn
  grown-sum : (ms ns : List (Member T)) (h : AllWorked ms ns) → sum_by quota_of (grown ms ns h) ≤ sum_by quota_of (map job_of ms) + sum_by drawn_by ns
  grown-sum [] [] h = omega arith
  grown-sum [] (n ∷ ns) h = absurd h
  grown-sum (m ∷ ms) [] h = absurd h
  grown-sum (m ∷ ms) (n ∷ ns) h =
      let drawn : n.account.drawn ≡ m.account.drawn + h.0.drawn = ap (λ (a : AccountView). a.drawn) h.0.account in
      omega (arith, grown-sum ms ns h.1, drawn, sum_by-cons quota_of (with_more m.job h.0.drawn) (grown ms ns h.1), sum_by-cons quota_of m.job (map job_of ms), sum_by-cons drawn_by n ns)

  -- and each ran
  grown-ran : (ms ns : List (Member T)) (h : AllWorked ms ns) → EachTwo (Ran design bound part) (grown ms ns h) (map job_of ns)
  grown-ran [] [] h = tt
  grown-ran [] (n ∷ ns) h = absurd h
  grown-ran (m ∷ ms) [] h = absurd h
  grown-ran (m ∷ ms) (n ∷ ns) h = (h.0.ran, grown-ran ms ns h.1)

  -- so the workers were pooled, where all accounts have drawn no more than the rest
  pub pooled : (rest : ℕ) (js ks : List (Job T)) (ms ns : List (Member T)) → map job_of ms ≡ js → ks ≡ map job_of ns → AllWorked ms ns → sum_by drawn_by ns ≤ rest → IsPooled design bound part rest js ks
  pooled rest js ks ms ns old new h within = record {
    larger = grown ms ns h;
    are = subst (λ zs. EachTwo IsLarger zs (grown ms ns h)) old (grown-larger ms ns h);
    within = omega (arith, grown-sum ms ns h, within, ap (sum_by quota_of) old);
    ran = subst (EachTwo (Ran design bound part) (grown ms ns h)) (sym new) (grown-ran ms ns h);
  }

  -- workers that can pass can start, each with a new account
  pub all_start : (word : Word) (budget : BudgetView) (js : List (Job T)) (ms : List (Member T)) → map job_of ms ≡ js → All (CanPass design bound word) js → All (λ (m : Member T). IsNew budget m.account) ms → All (CanStart design bound word budget) ms
  all_start word budget js ms same can accounts = start ms (subst (All (CanPass design bound word)) (sym same) can) accounts
    where
      start : (ms : List (Member T)) → All (CanPass design bound word) (map job_of ms) → All (λ (m : Member T). IsNew budget m.account) ms → All (CanStart design bound word budget) ms
      start [] can accounts = All-nil (CanStart design bound word budget)
      start (m ∷ ms) can accounts =
          let P : Job T → Type 0 = CanPass design bound word in
          let A : Member T → Type 0 = λ n. IsNew budget n.account in
          All-cons (CanStart design bound word budget) m ms (All-head P m.job (map job_of ms) can, ap (λ (a : AccountView). a.budget) (All-head A m ms accounts)) (start ms (All-tail P m.job (map job_of ms) can) (All-tail A m ms accounts))

  -- after their passes the accounts are still of the budget
  pub all_accounts : (budget : BudgetView) (ms ns : List (Member T)) → AllWorked ms ns → All (λ (m : Member T). IsNew budget m.account) ms → All (λ (n : Member T). n.account.budget ≡ budget.id) ns
  all_accounts budget [] [] h new = All-nil (λ (n : Member T). n.account.budget ≡ budget.id)
  all_accounts budget [] (n ∷ ns) h new = absurd h
  all_accounts budget (m ∷ ms) [] h new = absurd h
  all_accounts budget (m ∷ ms) (n ∷ ns) h new =
      let A : Member T → Type 0 = λ k. IsNew budget k.account in
      All-cons (λ (k : Member T). k.account.budget ≡ budget.id) n ns (ap (λ (a : AccountView). a.budget) h.0.account ∙ ap (λ (a : AccountView). a.budget) (All-head A m ms new))
      (all_accounts budget ms ns h.1 (All-tail A m ms new))

-- ---- workers with larger quotas

module _ {T : Type 0} (design : Design) (bound : Parts → ℕ) where
  -- a larger quota changes nothing else
  larger-fresh : (value : ℕ) (word : Word) (js ks : List (Job T)) → EachTwo IsLarger js ks → All (IsFresh value word) js → All (IsFresh value word) ks
  larger-fresh value word [] [] h fs = fs
  larger-fresh value word [] (k ∷ ks) h fs = absurd h
  larger-fresh value word (j ∷ js) [] h fs = absurd h
  larger-fresh value word (j ∷ js) (k ∷ ks) h fs =
      let F : Job T → Type 0 = IsFresh value word in
      let f = All-head F j js fs in
      All-cons F k ks (subst F (sym h.0.1) (record { log = f.log; kept = f.kept; best = f.best; seat = f.seat; taken = f.taken; stolen = f.stolen })) (larger-fresh value word js ks h.1 (All-tail F j js fs))

  -- nor the places
  larger-places : (js ks : List (Job T)) → EachTwo IsLarger js ks → map place_of ks ≡ map place_of js
  larger-places [] [] h = refl
  larger-places [] (k ∷ ks) h = absurd h
  larger-places (j ∷ js) [] h = absurd h
  larger-places (j ∷ js) (k ∷ ks) h = let here : place_of k ≡ place_of j = ap (λ (i : Job T). place_of i) h.0.1 in (λ i. here i ∷ larger-places js ks h.1 i)

  -- nor what was given
  larger-weigh : (w : Parts → ℕ) (js ks : List (Job T)) → EachTwo IsLarger js ks → sum_by (has_weight design w) ks ≡ sum_by (has_weight design w) js
  larger-weigh w [] [] h = refl
  larger-weigh w [] (k ∷ ks) h = absurd h
  larger-weigh w (j ∷ js) [] h = absurd h
  larger-weigh w (j ∷ js) (k ∷ ks) h =
      let v : Job T → ℕ = has_weight design w in
      omega (arith, larger-weigh w js ks h.1, ap v h.0.1, sum_by-cons v k ks, sum_by-cons v j js)

  -- nor the first stretches
  larger-first : (P : Stretch → Type 0) (js ks : List (Job T)) → EachTwo IsLarger js ks → All (λ (j : Job T). IfSome j.state.first P) js → All (λ (j : Job T). IfSome j.state.first P) ks
  larger-first P [] [] h fs = fs
  larger-first P [] (k ∷ ks) h fs = absurd h
  larger-first P (j ∷ js) [] h fs = absurd h
  larger-first P (j ∷ js) (k ∷ ks) h fs =
      let F : Job T → Type 0 = λ i. IfSome i.state.first P in
      All-cons F k ks (subst F (sym h.0.1) (All-head F j js fs)) (larger-first P js ks h.1 (All-tail F j js fs))

  -- each has its first stretch and its larger quota
  larger-firsts : (given : List Stretch) (qs : List ℕ) (js ks : List (Job T)) → EachTwo IsLarger js ks → FirstsAre given qs js → FirstsAre given (map quota_of ks) ks
  larger-firsts given [] [] [] h fs = tt
  larger-firsts given qs [] (k ∷ ks) h fs = absurd h
  larger-firsts given qs (j ∷ js) [] h fs = absurd h
  larger-firsts given (q ∷ qs) [] [] h fs = absurd fs
  larger-firsts given [] (j ∷ js) (k ∷ ks) h fs = absurd fs
  larger-firsts [] (q ∷ qs) (j ∷ js) (k ∷ ks) h fs = ((ap (λ (i : Job T). i.state.first) h.0.1 ∙ fs.0.0, refl), larger-firsts [] qs js ks h.1 fs.1)
  larger-firsts (t ∷ ts) (q ∷ qs) (j ∷ js) (k ∷ ks) h fs = ((ap (λ (i : Job T). i.state.first) h.0.1 ∙ fs.0.0, refl), larger-firsts ts qs js ks h.1 fs.1)

  -- workers that were dealt their stretches have been dealt them with larger quotas
  pub larger-dealt : (value : ℕ) (word : Word) (given : List Stretch) (first : List ℕ) (js ks : List (Job T)) → EachTwo IsLarger js ks → Dealt design bound value word given first js → Dealt design bound value word given (map quota_of ks) ks
  larger-dealt value word given first js ks h d = record {
    fresh = larger-fresh value word js ks h d.fresh;
    team = subst IsTeam (sym (larger-places js ks h)) d.team;
    weight = λ w. larger-weigh w js ks h ∙ d.weight w;
    firsts = larger-firsts given first js ks h d.firsts;
    first_are = larger-first (IsStretch design bound) js ks h d.first_are;
  }

  -- there are as many quotas
  pub larger-many : (given : List Stretch) (qs : List ℕ) (js ks : List (Job T)) → EachTwo IsLarger js ks → FirstsAre given qs js → length (map quota_of ks) ≡ length qs
  larger-many given [] [] [] h fs = refl
  larger-many given qs [] (k ∷ ks) h fs = absurd h
  larger-many given qs (j ∷ js) [] h fs = absurd h
  larger-many given (q ∷ qs) [] [] h fs = absurd fs
  larger-many given [] (j ∷ js) (k ∷ ks) h fs = absurd fs
  larger-many [] (q ∷ qs) (j ∷ js) (k ∷ ks) h fs = omega (arith, larger-many [] qs js ks h.1 fs.1)
  larger-many (t ∷ ts) (q ∷ qs) (j ∷ js) (k ∷ ks) h fs = omega (arith, larger-many ts qs js ks h.1 fs.1)

  -- a quota of one decision at least stays one
  pub larger-some : (given : List Stretch) (qs : List ℕ) (js ks : List (Job T)) → EachTwo IsLarger js ks → FirstsAre given qs js → (i : ℕ) → 1 ≤ slice_index_or qs i 0 → 1 ≤ slice_index_or (map quota_of ks) i 0
  larger-some given [] [] [] h fs i some = some
  larger-some given qs [] (k ∷ ks) h fs i some = absurd h
  larger-some given qs (j ∷ js) [] h fs i some = absurd h
  larger-some given (q ∷ qs) [] [] h fs i some = absurd fs
  larger-some given [] (j ∷ js) (k ∷ ks) h fs i some = absurd fs
  larger-some [] (q ∷ qs) (j ∷ js) (k ∷ ks) h fs zero some = (let e = ap quota_of h.0.1 in let is = fs.0.1 in omega (arith, some, e, is))
  larger-some (t ∷ ts) (q ∷ qs) (j ∷ js) (k ∷ ks) h fs zero some = (let e = ap quota_of h.0.1 in let is = fs.0.1 in omega (arith, some, e, is))
  larger-some [] (q ∷ qs) (j ∷ js) (k ∷ ks) h fs (suc i) some = larger-some [] qs js ks h.1 fs.1 i some
  larger-some (t ∷ ts) (q ∷ qs) (j ∷ js) (k ∷ ks) h fs (suc i) some = larger-some ts qs js ks h.1 fs.1 i some

  -- the quotas of workers, added up
  pub quotas-sum : (given : List Stretch) (qs : List ℕ) (js : List (Job T)) → FirstsAre given qs js → sum qs ≡ sum_by quota_of js
  quotas-sum given [] [] fs = refl
  quotas-sum given [] (j ∷ js) fs = absurd fs
  quotas-sum given (q ∷ qs) [] fs = absurd fs
  quotas-sum [] (q ∷ qs) (j ∷ js) fs = (let is = fs.0.1 in omega (arith, is, quotas-sum [] qs js fs.1, sum_by-cons (λ (n : ℕ). n) q qs, sum_by-cons quota_of j js))
  quotas-sum (t ∷ ts) (q ∷ qs) (j ∷ js) fs = (let is = fs.0.1 in omega (arith, is, quotas-sum ts qs js fs.1, sum_by-cons (λ (n : ℕ). n) q qs, sum_by-cons quota_of j js))

  -- workers that were dealt their stretches can pass
  pub all_pass : (value : ℕ) (word : Word) (js : List (Job T)) → All (IsFresh value word) js → All (λ (j : Job T). IfSome j.state.first (IsStretch design bound)) js → All (CanPass design bound word) js
  all_pass value word [] fresh first = All-nil (CanPass design bound word)
  all_pass value word (j ∷ js) fresh first =
      let F : Job T → Type 0 = IsFresh value word in
      let P : Job T → Type 0 = λ i. IfSome i.state.first (IsStretch design bound) in
      let f = All-head F j js fresh in
      let offered : j.state.seat.offered ≡ MAX = ap (λ (k : Knows). k.offered) f.seat in
      All-cons (CanPass design bound word) j js
      (record {
        ready = record { first = All-head P j js first; best = subst (λ b. IsBest design b j.state.seat.offered) (sym f.best) offered };
        word_is = ap (λ (k : Knows). k.word) f.seat;
        nothing_kept = f.kept;
      })
      (all_pass value word js (All-tail F j js fresh) (All-tail P j js first))
