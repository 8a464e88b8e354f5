-- What all workers of a round did.
use Rattle.std.proofs.Common.{◌≡◌, ℕ, ◌+◌, ◌≤◌, List, [], ◌∷◌, ◌++◌, map, length, All, ap, sym, ◌∙◌, subst, refl, arith, append-nil, length-append, OnOk, Result, Ok, Err}
use Rattle.sf_rounds.proofs.Common.{sum_by, sum, Option, Some, None, IfOk, IfSome, IsOk, IsPermutation, flat_map, map-append, sum_by-cons, sum_by-append, All-nil, All-cons, All-head, All-tail, All-append, All-weaker, IfOk-weaker, IsPermutation-refl, Design, Stretch, Part, Parts, Entry, unnamed_mark, children, Word, Knows, ThiefView, Place, IsFinished, stolen_by, IsStretch, IsBest, IsEntry, AreKept, AreTold, IsRead, kept-lower, mark_of, marks_in, put_of, taken_of, thieves_weigh, on_stretch, maybe_weighs, stretches_weigh, waits, nodes_weigh, children_weigh, Job, Passed, PassEnds, EachTwo, Passes, Ran, IsFresh, IsDone, FirstsAre, Dealt, place_of, log_of, open_of, as_list, has_weight, all_waits, Piece, nodes-permute, IsReady, PassEnd}
use Rattle.sf_frontier.proofs.Totals.{finished-total}
use Rattle.sf_rounds.proofs.Told.{plain-append}

-- the weight of what a function gives is the sum over the elements
pub weigh_map : {X : Type 0} (w : Parts → ℕ) (f : X → Parts) (xs : List X) → sum_by w (map f xs) ≡ sum_by (λ x. w (f x)) xs
weigh_map w f [] = refl
weigh_map w f (x ∷ xs) = omega (arith, weigh_map w f xs, sum_by-cons w (f x) (map f xs), sum_by-cons (λ y. w (f y)) x xs)

-- the weight of lists put together is the sum of the lists' weights
pub weigh_flat : {X : Type 0} (w : Parts → ℕ) (f : X → List Parts) (xs : List X) → sum_by w (flat_map f xs) ≡ sum_by (λ x. sum_by w (f x)) xs
weigh_flat w f [] = refl
weigh_flat w f (x ∷ xs) = omega (arith, weigh_flat w f xs, sum_by-append w (f x) (flat_map f xs), sum_by-cons (λ y. sum_by w (f y)) x xs)

-- a stretch that may be there weighs as the list of it does
maybe_list : (w : Stretch → ℕ) (o : Option Stretch) → sum_by w (as_list o) ≡ maybe_weighs w o
maybe_list w None = refl
maybe_list w (Some t) = omega (arith, sum_by-cons w t [])

-- what holds of a stretch that may be there holds of all of the list of it
maybe_all : (P : Stretch → Type 0) (o : Option Stretch) → IfSome o P → All P (as_list o)
maybe_all P None h = All-nil P
maybe_all P (Some t) h = All-cons P t [] h (All-nil P)

-- stretches weigh what the subproblems do that they stand for
pub stretches-weigh : (design : Design) (w : Parts → ℕ) (ss : List Stretch) → sum_by w (all_waits design ss) ≡ stretches_weigh design w ss
stretches-weigh design w ss = weigh_flat w (waits design) ss

-- what is said of a result that is one holds
pub ok-holds : {X E : Type 0} (P : X → Type 0) (r : Result X E) → IsOk r → IfOk r P → (x : X) × P x
ok-holds P (Ok x) ok h = (x, h)
ok-holds P (Err e) ok h = absurd (cc)

module _ {T : Type 0} (design : Design) (bound : Parts → ℕ) (part : Parts → Part → ℕ) where
  -- what a pass says of its worker
  pub passes-of : {E : Type 0} (old new : Job T) (r : Result PassEnd E) → OnOk r (IsReady design bound new.state) → IfOk r (λ end. (p : Passed design bound part old.state new.state []) × PassEnds old.state new.state p end) → IfOk r (Passes design bound part old new)
  passes-of old new (Ok end) ready passed = record { ready = ready; passed = passed.0; ends = passed.1 }
  passes-of old new (Err e) ready passed = tt

  -- a pass that ended otherwise than for want of memory
  abbrev pub Went : Job T → Job T → Type 0
  Went j k = (end : PassEnd) × Passes design bound part j k end

  -- where memory sufficed, each pass went so
  pub all_went : (js ks : List (Job T)) → EachTwo (Ran design bound part) js ks → All (λ (k : Job T). IsOk k.end) ks → EachTwo Went js ks
  all_went [] [] h ok = tt
  all_went [] (k ∷ ks) h ok = absurd h
  all_went (j ∷ js) [] h ok = absurd h
  all_went (j ∷ js) (k ∷ ks) h ok =
      (ok-holds (Passes design bound part j k) k.end (All-head (λ (i : Job T). IsOk i.end) k ks ok) h.0, all_went js ks h.1 (All-tail (λ (i : Job T). IsOk i.end) k ks ok))

  -- what the workers decided
  abbrev pub entries_in : (js ks : List (Job T)) → EachTwo Went js ks → List Entry
  entries_in [] [] h = []
  entries_in [] (k ∷ ks) h = []
  entries_in (j ∷ js) [] h = []
  entries_in (j ∷ js) (k ∷ ks) h = h.0.1.passed.did.logged ++ entries_in js ks h.1

module _ {T : Type 0} (design : Design) (bound : Parts → ℕ) (part : Parts → Part → ℕ) (value : ℕ) (word : Word) where
  -- what a worker logged is what its pass logged
  log_is : (j k : Job T) → IsFresh value word j → (r : Went design bound part j k) → log_of k ≡ r.1.passed.logs.pieces
  log_is j k f r = r.1.passed.logs.log ∙ ap (λ z. z ++ r.1.passed.logs.pieces) f.log

  -- what a worker kept is what its pass could not put, and the rest of its last stretch
  kept_is : (j k : Job T) → IsFresh value word j → (r : Went design bound part j k) → k.state.kept.items ≡ r.1.passed.did.refused ++ r.1.passed.rest
  kept_is j k f r = r.1.passed.kept ∙ ap (λ z. (z ++ r.1.passed.did.refused) ++ r.1.passed.rest) f.kept

  -- after their passes all workers may be gathered
  pub all_done : (js ks : List (Job T)) → EachTwo (Ran design bound part) js ks → All (IsFresh value word) js → All (IsDone design word) ks
  all_done [] [] h fs = All-nil (IsDone design word)
  all_done [] (k ∷ ks) h fs = absurd h
  all_done (j ∷ js) [] h fs = absurd h
  all_done (j ∷ js) (k ∷ ks) h fs =
      let f = All-head (IsFresh value word) j js fs in
      All-cons (IsDone design word) k ks
      (IfOk-weaker k.end (Passes design bound part j k) (λ end. (k.state.seat.word ≡ word.id) × IsBest design k.state.best k.state.seat.offered) (λ end p. (p.passed.did.seat.0 ∙ ap (λ (s : Knows). s.word) f.seat, p.ready.best)) h.0)
      (all_done js ks h.1 (All-tail (IsFresh value word) j js fs))

  -- one worker: what it took and was given, and the children of its entries, weigh as much as what it put,
  -- decided and has left
  one_weighs : (w : Parts → ℕ) (j k : Job T) → IsFresh value word j → (r : Went design bound part j k)
      → (taken_of design w k.state + has_weight design w j) + children_weigh w r.1.passed.did.logged ≡ (put_of design w k.state + nodes_weigh w r.1.passed.did.logged) + stretches_weigh design w (open_of k)
  one_weighs w j k f r =
      let p = r.1.passed in
      let v = on_stretch design w in
      let a : sum_by v j.state.place.owner.taken ≡ 0 = ap (sum_by v) f.taken in
      let b : thieves_weigh v j.state.place.thieves.items ≡ 0 = f.stolen v in
      let e : stretches_weigh design w k.state.kept.items ≡ stretches_weigh design w (p.did.refused ++ p.rest) = ap (stretches_weigh design w) (kept_is j k f r) in
      omega (arith, p.did.both w, a, b, e, stretches-weigh design w p.rest, sum_by-append v p.did.refused p.rest, sum_by-append v (as_list k.state.first) k.state.kept.items, maybe_list v k.state.first)

  -- the weight of what a worker put
  abbrev put_by : (Parts → ℕ) → Job T → ℕ
  put_by w k = put_of design w k.state

  -- the weight of what a worker took
  abbrev taken_by : (Parts → ℕ) → Job T → ℕ
  taken_by w k = taken_of design w k.state

  -- all workers: what they took and were given, and the children of their entries, weigh as much as what they
  -- put, decided and have left
  all_weigh : (w : Parts → ℕ) (js ks : List (Job T)) (h : EachTwo (Went design bound part) js ks) → All (IsFresh value word) js
      → (sum_by (taken_by w) ks + sum_by (has_weight design w) js) + children_weigh w (entries_in design bound part js ks h) ≡ (sum_by (put_by w) ks + nodes_weigh w (entries_in design bound part js ks h)) + stretches_weigh design w (flat_map open_of ks)
  all_weigh w [] [] h fs = refl
  all_weigh w [] (k ∷ ks) h fs = absurd h
  all_weigh w (j ∷ js) [] h fs = absurd h
  all_weigh w (j ∷ js) (k ∷ ks) h fs =
      let v = on_stretch design w in
      let f = All-head (IsFresh value word) j js fs in
      let here = one_weighs w j k f h.0 in
      let rest = all_weigh w js ks h.1 (All-tail (IsFresh value word) j js fs) in
      let es = h.0.1.passed.did.logged in
      let more = entries_in design bound part js ks h.1 in
      omega (
        arith,
        here,
        rest,
        sum_by-cons (taken_by w) k ks,
        sum_by-cons (put_by w) k ks,
        sum_by-cons (has_weight design w) j js,
        sum_by-append (λ (e : Entry). sum_by w (children e)) es more,
        sum_by-append (λ (e : Entry). w e.node) es more,
        sum_by-append v (open_of k) (flat_map open_of ks),
      )

  -- of all deques: what was put is what was taken and what is left
  deques_weigh : (w : Parts → ℕ) (ks : List (Job T)) (places : List (Place T)) (left : List Stretch) → places ≡ map place_of ks → IsFinished places left
      → sum_by (put_by w) ks ≡ sum_by (taken_by w) ks + stretches_weigh design w left
  deques_weigh w ks places left e h =
      let v = on_stretch design w in
      let k = finished-total v (map place_of ks) left (subst (λ (ps : List (Place T)). IsFinished ps left) e h) in
      omega (arith, k, sum_places (λ (p : Place T). sum_by v p.owner.put) ks, sum_places (λ (p : Place T). sum_by v p.owner.taken) ks, sum_places (λ (p : Place T). sum_by v (stolen_by p)) ks, taken_sum w ks)
    where
      sum_places : (f : Place T → ℕ) (ks : List (Job T)) → sum_by f (map place_of ks) ≡ sum_by (λ k. f (place_of k)) ks
      sum_places f [] = refl
      sum_places f (k ∷ ks) = omega (arith, sum_places f ks, sum_by-cons f (place_of k) (map place_of ks), sum_by-cons (λ (i : Job T). f (place_of i)) k ks)

      stolen_weigh : (v : Stretch → ℕ) (ts : List ThiefView) → sum_by v (flat_map (λ (t : ThiefView). t.taken) ts) ≡ thieves_weigh v ts
      stolen_weigh v [] = refl
      stolen_weigh v (t ∷ ts) = omega (arith, stolen_weigh v ts, sum_by-append v t.taken (flat_map (λ (u : ThiefView). u.taken) ts), sum_by-cons (λ (u : ThiefView). sum_by v u.taken) t ts)

      taken_sum : (w : Parts → ℕ) (ks : List (Job T)) → sum_by (taken_by w) ks ≡ sum_by (λ k. sum_by (on_stretch design w) k.state.place.owner.taken) ks + sum_by (λ k. sum_by (on_stretch design w) (stolen_by k.state.place)) ks
      taken_sum w [] = refl
      taken_sum w (k ∷ ks) =
          let v = on_stretch design w in
          omega (
            arith,
            taken_sum w ks,
            stolen_weigh v k.state.place.thieves.items,
            sum_by-cons (taken_by w) k ks,
            sum_by-cons (λ (i : Job T). sum_by v i.state.place.owner.taken) k ks,
            sum_by-cons (λ (i : Job T). sum_by v (stolen_by i.state.place)) k ks,
          )

  -- what the workers decided are entries of the design
  pub all_entries : (js ks : List (Job T)) (h : EachTwo (Went design bound part) js ks) → All (IsEntry design bound) (entries_in design bound part js ks h)
  all_entries [] [] h = All-nil (IsEntry design bound)
  all_entries [] (k ∷ ks) h = absurd h
  all_entries (j ∷ js) [] h = absurd h
  all_entries (j ∷ js) (k ∷ ks) h = All-append (IsEntry design bound) h.0.1.passed.did.logged (entries_in design bound part js ks h.1) h.0.1.passed.did.entries (all_entries js ks h.1)

  -- all that the workers have left are stretches of the design
  pub all_open : (js ks : List (Job T)) → EachTwo (Went design bound part) js ks → All (IsFresh value word) js → All (IsStretch design bound) (flat_map open_of ks)
  all_open [] [] h fs = All-nil (IsStretch design bound)
  all_open [] (k ∷ ks) h fs = absurd h
  all_open (j ∷ js) [] h fs = absurd h
  all_open (j ∷ js) (k ∷ ks) h fs =
      let P = IsStretch design bound in
      let p = h.0.1.passed in
      All-append P (open_of k) (flat_map open_of ks)
      (All-append P (as_list k.state.first) k.state.kept.items (maybe_all P k.state.first h.0.1.ready.first)
      (subst (All P) (sym (kept_is j k (All-head (IsFresh value word) j js fs) h.0)) (All-append P p.did.refused p.rest p.did.refused_are p.rest_are)))
      (all_open js ks h.1 (All-tail (IsFresh value word) j js fs))

  -- a value that is at most what each worker has seen is at most that of each entry
  pub all_named : (z : ℕ) (js ks : List (Job T)) (h : EachTwo (Went design bound part) js ks) → All (λ (k : Job T). z ≤ k.state.seat.seen) ks → All (λ (e : Entry). z ≤ e.value) (entries_in design bound part js ks h)
  all_named z [] [] h s = All-nil (λ (e : Entry). z ≤ e.value)
  all_named z [] (k ∷ ks) h s = absurd h
  all_named z (j ∷ js) [] h s = absurd h
  all_named z (j ∷ js) (k ∷ ks) h s =
      let low = All-head (λ (i : Job T). z ≤ i.state.seat.seen) k ks s in
      let es = h.0.1.passed.did.logged in
      All-append (λ (e : Entry). z ≤ e.value) es (entries_in design bound part js ks h.1)
      (All-weaker (λ (e : Entry). k.state.seat.seen ≤ e.value) (λ (e : Entry). z ≤ e.value) (λ e l. omega (arith, l, low)) es h.0.1.passed.did.fresh)
      (all_named z js ks h.1 (All-tail (λ (i : Job T). z ≤ i.state.seat.seen) k ks s))

  -- the workers decided together no more than the quotas allow
  pub all_few : (given : List Stretch) (quotas : List ℕ) (js ks : List (Job T)) (h : EachTwo (Went design bound part) js ks) → FirstsAre given quotas js → length (entries_in design bound part js ks h) ≤ sum quotas
  all_few given [] [] [] h q = omega arith
  all_few given [] [] (k ∷ ks) h q = absurd h
  all_few given [] (j ∷ js) ks h q = absurd q
  all_few given (n ∷ ns) [] ks h q = absurd q
  all_few given (n ∷ ns) (j ∷ js) [] h q = absurd h
  all_few [] (n ∷ ns) (j ∷ js) (k ∷ ks) h q =
      let rest = all_few [] ns js ks h.1 q.1 in
      let e = h.0.1.passed.did.quota in let m = q.0.1 in
      omega (arith, rest, e, m, length-append h.0.1.passed.did.logged (entries_in design bound part js ks h.1), sum_by-cons (λ (i : ℕ). i) n ns)
  all_few (t ∷ ts) (n ∷ ns) (j ∷ js) (k ∷ ks) h q =
      let rest = all_few ts ns js ks h.1 q.1 in
      let e = h.0.1.passed.did.quota in let m = q.0.1 in
      omega (arith, rest, e, m, length-append h.0.1.passed.did.logged (entries_in design bound part js ks h.1), sum_by-cons (λ (i : ℕ). i) n ns)

  -- the pieces of all workers tell what they decided, one after another
  all_plain : (js ks : List (Job T)) (h : EachTwo (Went design bound part) js ks) → All (IsFresh value word) js → map mark_of (entries_in design bound part js ks h) ≡ map unnamed_mark (flat_map (marks_in design) (flat_map log_of ks))
  all_plain [] [] h fs = refl
  all_plain [] (k ∷ ks) h fs = absurd h
  all_plain (j ∷ js) [] h fs = absurd h
  all_plain (j ∷ js) (k ∷ ks) h fs =
      let f = All-head (IsFresh value word) j js fs in
      let es = h.0.1.passed.did.logged in
      let here : map mark_of es ≡ map unnamed_mark (flat_map (marks_in design) (log_of k)) = h.0.1.passed.logs.told ∙ ap (λ ps. map unnamed_mark (flat_map (marks_in design) ps)) (sym (log_is j k f h.0)) in
      map-append mark_of es (entries_in design bound part js ks h.1)
      ∙ ap (λ z. z ++ map mark_of (entries_in design bound part js ks h.1)) here
      ∙ ap (λ z. map unnamed_mark (flat_map (marks_in design) (log_of k)) ++ z) (all_plain js ks h.1 (All-tail (IsFresh value word) j js fs))
      ∙ sym (plain-append design part (log_of k) (flat_map log_of ks))

  -- each tag of them stands at a subproblem
  all_read : (js ks : List (Job T)) → EachTwo (Went design bound part) js ks → All (IsFresh value word) js → All (IsRead design) (flat_map log_of ks)
  all_read [] [] h fs = All-nil (IsRead design)
  all_read [] (k ∷ ks) h fs = absurd h
  all_read (j ∷ js) [] h fs = absurd h
  all_read (j ∷ js) (k ∷ ks) h fs =
      All-append (IsRead design) (log_of k) (flat_map log_of ks)
      (subst (All (IsRead design)) (sym (log_is j k (All-head (IsFresh value word) j js fs) h.0)) h.0.1.passed.logs.read)
      (all_read js ks h.1 (All-tail (IsFresh value word) j js fs))

  -- what is kept names their parts against a value that is at most what each worker has seen
  all_kept : (z : ℕ) (js ks : List (Job T)) → EachTwo (Went design bound part) js ks → All (IsFresh value word) js → All (λ (k : Job T). z ≤ k.state.seat.seen) ks → All (λ (p : Piece). AreKept part z (marks_in design p) p.kept.items) (flat_map log_of ks)
  all_kept z [] [] h fs s = All-nil (λ (p : Piece). AreKept part z (marks_in design p) p.kept.items)
  all_kept z [] (k ∷ ks) h fs s = absurd h
  all_kept z (j ∷ js) [] h fs s = absurd h
  all_kept z (j ∷ js) (k ∷ ks) h fs s =
      let P = λ (n : ℕ) (p : Piece). AreKept part n (marks_in design p) p.kept.items in
      let low = All-head (λ (i : Job T). z ≤ i.state.seat.seen) k ks s in
      let seen = k.state.seat.seen in
      All-append (P z) (log_of k) (flat_map log_of ks)
      (subst (All (P z)) (sym (log_is j k (All-head (IsFresh value word) j js fs) h.0))
      (All-weaker (P seen) (P z) (λ p o. kept-lower part seen z (marks_in design p) p.kept.items low o) h.0.1.passed.logs.pieces h.0.1.passed.logs.kept_parts))
      (all_kept z js ks h.1 (All-tail (IsFresh value word) j js fs) (All-tail (λ (i : Job T). z ≤ i.state.seat.seen) k ks s))

  -- the pieces of all workers tell what they decided
  pub all_told : (z : ℕ) (js ks : List (Job T)) (h : EachTwo (Went design bound part) js ks) → All (IsFresh value word) js → All (λ (k : Job T). z ≤ k.state.seat.seen) ks → AreTold design part z (entries_in design bound part js ks h) [] (flat_map log_of ks)
  all_told z js ks h fs s =
      let es = map mark_of (entries_in design bound part js ks h) in
      record {
        told = subst (IsPermutation (es ++ [])) (append-nil es ∙ all_plain js ks h fs) (IsPermutation-refl (es ++ []));
        read = all_read js ks h fs;
        kept = all_kept z js ks h fs s;
      }

  -- what the stretches given stand for and the children of the entries are the subproblems of the entries and of
  -- what is left
  pub conserved : (given : List Stretch) (quotas : List ℕ) (js ks : List (Job T)) (places : List (Place T)) (left kept all : List Stretch) (h : EachTwo (Went design bound part) js ks)
      → Dealt design bound value word given quotas js → places ≡ map place_of ks → kept ≡ flat_map open_of ks → IsFinished places left → all ≡ left ++ kept
      → IsPermutation (all_waits design given ++ flat_map children (entries_in design bound part js ks h)) (map (λ (e : Entry). e.node) (entries_in design bound part js ks h) ++ all_waits design all)
  conserved given quotas js ks places left kept all h d ep ek done ea =
      let entries = entries_in design bound part js ks h in
      nodes-permute (all_waits design given ++ flat_map children entries) (map (λ (e : Entry). e.node) entries ++ all_waits design all) (λ w.
      let v = on_stretch design w in
      let k = ap (stretches_weigh design w) ek in
      let a = ap (stretches_weigh design w) ea in
      omega (
        arith,
        all_weigh w js ks h d.fresh,
        d.weight w,
        k,
        a,
        deques_weigh w ks places left ep done,
        sum_by-append w (all_waits design given) (flat_map children entries),
        sum_by-append w (map (λ (e : Entry). e.node) entries) (all_waits design all),
        stretches-weigh design w given,
        stretches-weigh design w all,
        weigh_map w (λ (e : Entry). e.node) entries,
        weigh_flat w children entries,
        sum_by-append v left kept,
      ))
