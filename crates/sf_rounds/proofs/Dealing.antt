-- How stretches are dealt to the workers of a round.
use Rattle.std.proofs.Common.{◌≡◌, ℕ, zero, suc, ◌+◌, ◌-◌, ◌<◌, List, [], ◌∷◌, ◌++◌, length, map, take, drop, set, get_or, reverse, All, ap, sym, ◌∙◌, subst, refl, arith, length-append, option_to_list}
use Rattle.sf_rounds.proofs.Common.{sum_by, Option, Some, None, IfSome, MatchOption, slice_get, nil_from_length, map-append, reverse-append, reverse-reverse, take_more, take_all, drop_all, sum_by-cons, sum_by-append, sum_by-set, All-nil, All-cons, All-head, All-tail, All-push, All-drop, All-permutation, IsPermutation-reverse, IsPermutation-sym, sum_by-IsPermutation, MAX, all_front, all_last, Design, Stretch, Parts, Word, Knows, ThiefView, Place, IsTeam, IsNewPlace, IsNewThief, deques_of, preys_of, thief_deques_of, IsStretch, first_of, put_of, on_stretch, maybe_weighs, stretches_weigh, thieves_weigh, Job, EachTwo, IsFresh, IsSeated, IsSameBut, Handed, Dealt, FirstsAre, place_of, has_weight, with_put}
use Rattle.sf_rounds.proofs.Team.{team_same}

-- the stretch at the end of the reversed list is the next one
pub next-none : (xs ts : List Stretch) (n : ℕ) → xs ≡ [] → reverse xs ≡ drop n ts → slice_get ts n ≡ None
next-none xs ts n e h = none-at ts n (sym h ∙ ap reverse e)
  where
    none-at : (ts : List Stretch) (n : ℕ) → drop n ts ≡ [] → slice_get ts n ≡ None
    none-at [] zero e = refl
    none-at [] (suc n) e = refl
    none-at (t ∷ ts) zero e = absurd (let k = ap length e in omega (arith, k))
    none-at (t ∷ ts) (suc n) e = none-at ts n e

-- the last of the stretches that are left is the next one of the reversed list, and the others stay behind it
pub next-some : (xs ys ts : List Stretch) (t : Stretch) (n : ℕ) → xs ≡ ys ++ t ∷ [] → reverse xs ≡ drop n ts → (slice_get ts n ≡ Some t) × (reverse ys ≡ drop (suc n) ts)
next-some xs ys ts t n e h = some-at ts n (sym h ∙ (ap reverse e ∙ reverse-append ys (t ∷ [])))
  where
    some-at : (ts : List Stretch) (n : ℕ) → drop n ts ≡ t ∷ reverse ys → (slice_get ts n ≡ Some t) × (reverse ys ≡ drop (suc n) ts)
    some-at [] zero e = absurd (let k = ap length e in omega (arith, k))
    some-at [] (suc n) e = absurd (let k = ap length e in omega (arith, k))
    some-at (u ∷ us) zero e = ((let k : u ≡ t = cc in ap (λ z. Some z) k), (let k : us ≡ reverse ys = cc in sym k))
    some-at (u ∷ us) (suc n) e = some-at us n e

-- new thieves have stolen nothing
none-stolen : (ts : List ThiefView) → All IsNewThief ts → (w : Stretch → ℕ) → thieves_weigh w ts ≡ 0
none-stolen [] h w = refl
none-stolen (t ∷ ts) h w =
    let e = ap (sum_by w) (All-head IsNewThief t ts h).0 in
    omega (arith, e, none-stolen ts (All-tail IsNewThief t ts h) w, sum_by-cons (λ (u : ThiefView). sum_by w u.taken) t ts)

-- the stretches that are handed out are stretches
pub left-stretches : (P : Stretch → Type 0) (given turned left : List Stretch) (n : ℕ) → turned ≡ reverse given → reverse left ≡ drop n (reverse turned) → All P given → All P left
left-stretches P given turned left n e l all =
    let back : reverse turned ≡ given = ap reverse e ∙ reverse-reverse given in
    let some : All P (reverse left) = subst (All P) (sym (l ∙ ap (drop n) back)) (All-drop P n given all) in
    All-permutation P (reverse left) left (IsPermutation-sym left (reverse left) (IsPermutation-reverse left)) some

-- what holds of all stretches holds of them reversed
pub turned-stretches : (P : Stretch → Type 0) (stretches turned : List Stretch) → turned ≡ reverse stretches → All P stretches → All P turned
turned-stretches P stretches turned e h = subst (All P) (sym e) (All-permutation P stretches (reverse stretches) (IsPermutation-reverse stretches) h)

-- the next stretch, or none
pub next-stretch : (o : Option Stretch) (xs ys ts : List Stretch) (n before after : ℕ) → xs ≡ ys ++ option_to_list o → before ≡ length xs → after ≡ length ys → MatchOption o ((before ≡ 0) × (after ≡ 0)) (λ _. after + 1 ≡ before) → reverse xs ≡ drop n ts
    → (o ≡ slice_get ts n) × (reverse ys ≡ drop (suc n) ts)
next-stretch None xs ys ts n before after e b a c h =
    let none : xs ≡ [] = nil_from_length xs (omega (arith, b, c.0)) in
    (sym (next-none xs ts n none h), ap reverse (nil_from_length ys (omega (arith, a, c.1))) ∙ sym (later ts n (sym h ∙ ap reverse none)))
  where
    later : (ts : List Stretch) (n : ℕ) → drop n ts ≡ [] → drop (suc n) ts ≡ []
    later [] n e = refl
    later (t ∷ ts) zero e = absurd (let k = ap length e in omega (arith, k))
    later (t ∷ ts) (suc n) e = later ts n e
next-stretch (Some t) xs ys ts n before after e b a c h = (let r = next-some xs ys ts t n e h in (sym r.0, r.1))

module _ {T : Type 0} where
  -- one worker more has the next stretch and the next quota
  firsts-snoc : (ts : List Stretch) (qs : List ℕ) (js : List (Job T)) (q : ℕ) (j : Job T) → FirstsAre ts qs js → j.state.first ≡ slice_get ts (length js) → j.state.quota ≡ q → FirstsAre ts (qs ++ q ∷ []) (js ++ j ∷ [])
  firsts-snoc [] [] [] q j h e k = ((e, k), tt)
  firsts-snoc (t ∷ ts) [] [] q j h e k = ((e, k), tt)
  firsts-snoc ts [] (i ∷ js) q j h e k = absurd h
  firsts-snoc ts (p ∷ qs) [] q j h e k = absurd h
  firsts-snoc [] (p ∷ qs) (i ∷ js) q j h e k = (h.0, firsts-snoc [] qs js q j h.1 e k)
  firsts-snoc (t ∷ ts) (p ∷ qs) (i ∷ js) q j h e k = (h.0, firsts-snoc ts qs js q j h.1 e k)

  -- some workers are in their places
  pub record IsSeating (value : ℕ) (word : Word) (ts : List Stretch) (quotas : List ℕ) (places : List (Place T)) (jobs : List (Job T)) (left : List Stretch) (first now : Knows) : Type 0 where
    pub seated : IsSeated value word ts (take (length jobs) quotas) places jobs
    pub left_are : reverse left ≡ drop (length jobs) ts
    pub seat : now ≡ record first { parts = first.parts - length jobs }

  -- a worker as it takes its place
  pub record TakesPlace (value : ℕ) (word : Word) (task : Option Stretch) (quota : ℕ) (place : Place T) (j : Job T) : Type 0 where
    pub place_is : place_of j ≡ place
    pub log : j.state.log.items ≡ []
    pub kept : j.state.kept.items ≡ []
    pub best : j.state.best ≡ None
    pub seat : j.state.seat ≡ record { word = word.id; seen = value; offered = MAX; parts = 1 }
    pub first : j.state.first ≡ task
    pub quota_is : j.state.quota ≡ quota

  -- a worker that takes a new place is fresh, and has put nothing
  taken-fresh : (value : ℕ) (word : Word) (task : Option Stretch) (quota : ℕ) (place : Place T) (j : Job T) → TakesPlace value word task quota place j → IsNewPlace place → IsFresh value word j × ((design : Design) (w : Parts → ℕ) → put_of design w j.state ≡ 0)
  taken-fresh value word task quota place j h new = (
    record {
      log = h.log;
      kept = h.kept;
      best = h.best;
      seat = h.seat;
      taken = ap (λ (p : Place T). p.owner.taken) h.place_is ∙ new.0.1;
      stolen = λ w. ap (λ (p : Place T). thieves_weigh w p.thieves.items) h.place_is ∙ none-stolen place.thieves.items new.1 w;
    },
    λ design w. ap (λ (p : Place T). stretches_weigh design w p.owner.put) h.place_is ∙ ap (stretches_weigh design w) new.0.0,
  )

  -- one worker more takes its place, with the next stretch and the next quota
  pub seating-more : (value : ℕ) (word : Word) (ts : List Stretch) (quotas : List ℕ) (places : List (Place T)) (place : Place T) (js ks : List (Job T)) (j : Job T) (before after : List Stretch) (first old now : Knows) (d : ℕ)
      → ks ≡ js ++ j ∷ [] → IsSeating value word ts quotas places js before first old → TakesPlace value word (slice_get ts (length js)) (get_or quotas (length js) d) place j → length js < length quotas
      → reverse after ≡ drop (suc (length js)) ts → now ≡ record old { parts = old.parts - 1 } → IsSeating value word ts quotas (places ++ place ∷ []) ks after first now
  seating-more value word ts quotas places place js ks j before after first old now d e h t below left seat =
      let n : length ks ≡ length js + 1 = omega (arith, ap length e, length-append js (j ∷ [])) in
      let m : suc (length js) ≡ length ks = omega (arith, n) in
      let s = h.seated in
      record {
        seated = record {
          places_are = ap (map place_of) e ∙ (map-append (λ (i : Job T). place_of i) js (j ∷ []) ∙ (λ i. s.places_are i ++ t.place_is i ∷ []));
          fresh = λ new.
              subst (All (IsFresh value word)) (sym e) (All-push (IsFresh value word) js j (s.fresh (all_front IsNewPlace places (place ∷ []) new)) (taken-fresh value word _ _ place j t (all_last IsNewPlace places place new)).0);
          empty = λ new design w.
              let none = (taken-fresh value word _ _ place j t (all_last IsNewPlace places place new)).1 design w in
              omega (
                arith,
                ap (sum_by (λ (i : Job T). put_of design w i.state)) e,
                s.empty (all_front IsNewPlace places (place ∷ []) new) design w,
                none,
                sum_by-append (λ (i : Job T). put_of design w i.state) js (j ∷ []),
                sum_by-cons (λ (i : Job T). put_of design w i.state) j [],
              );
          firsts =
              let more = take_more quotas (length js) d below in
              subst (λ zs. FirstsAre ts zs ks) (sym more ∙ ap (λ (k : ℕ). take k quotas) (sym n))
              (subst (FirstsAre ts (take (length js) quotas ++ get_or quotas (length js) d ∷ [])) (sym e) (firsts-snoc ts (take (length js) quotas) js (get_or quotas (length js) d) j s.firsts t.first t.quota_is));
        };
        left_are = left ∙ ap (λ (k : ℕ). drop k ts) m;
        seat = seat ∙ (ap (λ (k : Knows). record k { parts = k.parts - 1 }) h.seat ∙ ap (λ (k : ℕ). record first { parts = k }) (omega (arith, n)));
      }

  -- where there are as many workers as quotas, all are in their places
  pub seating-done : (value : ℕ) (word : Word) (ts : List Stretch) (quotas : List ℕ) (places : List (Place T)) (jobs : List (Job T)) (left : List Stretch) (first now : Knows) → length jobs ≡ length quotas → IsSeating value word ts quotas places jobs left first now
      → IsSeated value word ts quotas places jobs
  seating-done value word ts quotas places jobs left first now e h = subst (λ zs. IsSeated value word ts zs places jobs) (take_all (length jobs) quotas (omega (arith, e))) h.seated

  -- one stretch more in a deque
  same-refl : (js : List (Job T)) → EachTwo IsSameBut js js
  same-refl [] = tt
  same-refl (j ∷ js) = ((j.state.place.owner.put, j.state.place.owner.stack, refl), same-refl js)

  -- a worker that changed only in its deque, with one stretch more put, changed only in its deque
  with-put : (j k new : Job T) (t : Stretch) → IsSameBut j k → new ≡ with_put k t → IsSameBut j new
  with-put j k new t h e = (h.0 ++ t ∷ [], h.1 ++ t ∷ [], e ∙ ap (λ z. with_put z t) h.2)

  -- where one worker puts a stretch more, all changed only in their deques
  same-more : (js ks : List (Job T)) (i : ℕ) (old new : Job T) (t : Stretch) → EachTwo IsSameBut js ks → i < length ks → old ≡ get_or ks i old → new ≡ with_put old t → EachTwo IsSameBut js (set ks i new)
  same-more [] [] i old new t h below is e = absurd (omega (arith, below))
  same-more [] (k ∷ ks) i old new t h below is e = absurd h
  same-more (j ∷ js) [] i old new t h below is e = absurd h
  same-more (j ∷ js) (k ∷ ks) zero old new t h below is e = (with-put j k new t h.0 (e ∙ ap (λ z. with_put z t) is), h.1)
  same-more (j ∷ js) (k ∷ ks) (suc i) old new t h below is e = (h.0, same-more js ks i old new t h.1 (omega (arith, below)) is e)

  -- some last stretches are put
  pub record IsHanding (design : Design) (old new : List (Job T)) (all left : List Stretch) : Type 0 where
    pub same : EachTwo IsSameBut old new
    pub weight : (w : Parts → ℕ) → sum_by (has_weight design w) new + stretches_weigh design w left ≡ sum_by (has_weight design w) old + stretches_weigh design w all

  -- at first nothing is put, and all stretches are left
  pub handing-start : (design : Design) (js : List (Job T)) (all : List Stretch) → IsHanding design js js all all
  handing-start design js all = record { same = same-refl js; weight = λ w. refl }

  -- the last of the stretches that are left is put by one worker
  pub handing-more : (design : Design) (js ks : List (Job T)) (all before after : List Stretch) (t : Stretch) (i : ℕ) (old new : Job T) → IsHanding design js ks all before → before ≡ after ++ t ∷ [] → i < length ks → old ≡ get_or ks i old → new ≡ with_put old t → IsHanding design js (set ks i new) all after
  handing-more design js ks all before after t i old new h e below is put = record {
    same = same-more js ks i old new t h.same below is put;
    weight = λ w.
        let f : Job T → ℕ = has_weight design w in
        let v = on_stretch design w in
        let s = sum_by-set f ks i new old below in
        let a : f new ≡ f (with_put old t) = ap f put in
        let b : f old ≡ f (get_or ks i old) = ap f is in
        let c = sum_by-append v old.state.place.owner.put (t ∷ []) in
        omega (arith, h.weight w, s, a, b, c, ap (stretches_weigh design w) e, sum_by-append v after (t ∷ []), sum_by-cons v t []);
  }

  -- what stays as stretches are put
  same-fresh : (value : ℕ) (word : Word) (js ks : List (Job T)) → EachTwo IsSameBut js ks → All (IsFresh value word) js → All (IsFresh value word) ks
  same-fresh value word [] [] h fs = fs
  same-fresh value word [] (k ∷ ks) h fs = absurd h
  same-fresh value word (j ∷ js) [] h fs = absurd h
  same-fresh value word (j ∷ js) (k ∷ ks) h fs =
      let F = IsFresh value word in
      let f = All-head F j js fs in
      All-cons F k ks (subst F (sym h.0.2) (record { log = f.log; kept = f.kept; best = f.best; seat = f.seat; taken = f.taken; stolen = f.stolen })) (same-fresh value word js ks h.1 (All-tail F j js fs))

  -- each worker has its first stretch and its quota still as stretches are put
  same-firsts : (ts : List Stretch) (qs : List ℕ) (js ks : List (Job T)) → EachTwo IsSameBut js ks → FirstsAre ts qs js → FirstsAre ts qs ks
  same-firsts ts [] [] [] h fs = tt
  same-firsts ts qs [] (k ∷ ks) h fs = absurd h
  same-firsts ts qs (j ∷ js) [] h fs = absurd h
  same-firsts ts (q ∷ qs) [] [] h fs = absurd fs
  same-firsts ts [] (j ∷ js) (k ∷ ks) h fs = absurd fs
  same-firsts [] (q ∷ qs) (j ∷ js) (k ∷ ks) h fs = ((ap (λ (i : Job T). i.state.first) h.0.2 ∙ fs.0.0, ap (λ (i : Job T). i.state.quota) h.0.2 ∙ fs.0.1), same-firsts [] qs js ks h.1 fs.1)
  same-firsts (t ∷ ts) (q ∷ qs) (j ∷ js) (k ∷ ks) h fs = ((ap (λ (i : Job T). i.state.first) h.0.2 ∙ fs.0.0, ap (λ (i : Job T). i.state.quota) h.0.2 ∙ fs.0.1), same-firsts ts qs js ks h.1 fs.1)

  -- the deques, and those on which thieves stand, stay as stretches are put
  same-deques : (js ks : List (Job T)) → EachTwo IsSameBut js ks → (deques_of (map place_of ks) ≡ deques_of (map place_of js)) × (preys_of (map place_of ks) ≡ preys_of (map place_of js))
  same-deques [] [] h = (refl, refl)
  same-deques [] (k ∷ ks) h = absurd h
  same-deques (j ∷ js) [] h = absurd h
  same-deques (j ∷ js) (k ∷ ks) h =
      let r = same-deques js ks h.1 in
      let a : k.state.place.owner.deque ≡ j.state.place.owner.deque = ap (λ (i : Job T). i.state.place.owner.deque) h.0.2 in
      let b : thief_deques_of k.state.place.thieves.items ≡ thief_deques_of j.state.place.thieves.items = ap (λ (i : Job T). thief_deques_of i.state.place.thieves.items) h.0.2 in
      ((λ i. a i ∷ r.0 i), (λ i. b i ∷ r.1 i))

  -- the first stretches and the others are all stretches
  firsts-weigh : (design : Design) (w : Parts → ℕ) (ts : List Stretch) (qs : List ℕ) (js : List (Job T)) → FirstsAre ts qs js → sum_by (λ j. first_of design w j.state) js + stretches_weigh design w (drop (length qs) ts) ≡ stretches_weigh design w ts
  firsts-weigh design w ts [] [] h = omega arith
  firsts-weigh design w ts [] (j ∷ js) h = absurd h
  firsts-weigh design w ts (q ∷ qs) [] h = absurd h
  firsts-weigh design w [] (q ∷ qs) (j ∷ js) h =
      let v = on_stretch design w in
      let e = ap (maybe_weighs v) h.0.0 in
      let r = firsts-weigh design w [] qs js h.1 in
      omega (arith, r, e, ap (stretches_weigh design w) (drop_all (length qs) (the_none) (omega arith)), sum_by-cons (λ (i : Job T). first_of design w i.state) j js)
    where
      the_none : List Stretch
      the_none = []
  firsts-weigh design w (t ∷ ts) (q ∷ qs) (j ∷ js) h =
      let v = on_stretch design w in
      let e = ap (maybe_weighs v) h.0.0 in
      omega (arith, firsts-weigh design w ts qs js h.1, e, sum_by-cons v t ts, sum_by-cons (λ (i : Job T). first_of design w i.state) j js)

  -- what holds of all stretches holds of the workers' first ones
  firsts-stretches : (P : Stretch → Type 0) (ts : List Stretch) (qs : List ℕ) (js : List (Job T)) → FirstsAre ts qs js → All P ts → All (λ j. IfSome j.state.first P) js
  firsts-stretches P ts [] [] h all = All-nil (λ (j : Job T). IfSome j.state.first P)
  firsts-stretches P ts [] (j ∷ js) h all = absurd h
  firsts-stretches P ts (q ∷ qs) [] h all = absurd h
  firsts-stretches P [] (q ∷ qs) (j ∷ js) h all =
      All-cons (λ (i : Job T). IfSome i.state.first P) j js (subst (λ o. IfSome o P) (sym h.0.0) tt) (firsts-stretches P [] qs js h.1 all)
  firsts-stretches P (t ∷ ts) (q ∷ qs) (j ∷ js) h all =
      All-cons (λ (i : Job T). IfSome i.state.first P) j js (subst (λ o. IfSome o P) (sym h.0.0) (All-head P t ts all)) (firsts-stretches P ts qs js h.1 (All-tail P t ts all))

  -- a sum of two weights over the workers is the sum of both sums
  sum_both : (f g : Job T → ℕ) (js : List (Job T)) → sum_by (λ j. f j + g j) js ≡ sum_by f js + sum_by g js
  sum_both f g [] = refl
  sum_both f g (j ∷ js) = omega (arith, sum_both f g js, sum_by-cons (λ (i : Job T). f i + g i) j js, sum_by-cons f j js, sum_by-cons g j js)

  -- stretches may be put in reverse
  pub handed-turned : (design : Design) (js ks : List (Job T)) (stretches turned : List Stretch) → turned ≡ reverse stretches → Handed design js ks turned → Handed design js ks stretches
  handed-turned design js ks stretches turned e h = record {
    same = h.same;
    weight = λ w. omega (arith, h.weight w, sum_by-IsPermutation (on_stretch design w) stretches (reverse stretches) (IsPermutation-reverse stretches), ap (stretches_weigh design w) e);
  }

  -- workers in new places, among whom the stretches behind the first ones were put, have been dealt all stretches
  pub dealt : (design : Design) (bound : Parts → ℕ) (value : ℕ) (word : Word) (given turned left : List Stretch) (quotas : List ℕ) (places : List (Place T)) (js ks : List (Job T))
      → turned ≡ reverse given → IsSeated value word (reverse turned) quotas places js → reverse left ≡ drop (length quotas) (reverse turned) → Handed design js ks left → IsTeam places → All IsNewPlace places → All (IsStretch design bound) given
      → Dealt design bound value word given quotas ks
  dealt design bound value word given turned left quotas places js ks e s l h team new all =
      let back : reverse turned ≡ given = ap reverse e ∙ reverse-reverse given in
      let firsts : FirstsAre given quotas ks = same-firsts given quotas js ks h.same (subst (λ zs. FirstsAre zs quotas js) back s.firsts) in
      let d = same-deques js ks h.same in
      record {
        fresh = same-fresh value word js ks h.same (s.fresh new);
        team = team_same (map place_of js) (map place_of ks) d.0 d.1 (subst IsTeam (sym s.places_are) team);
        weight = λ w.
            let rest = sum_by-IsPermutation (on_stretch design w) left (reverse left) (IsPermutation-reverse left) in
            let r : stretches_weigh design w (reverse left) ≡ stretches_weigh design w (drop (length quotas) given) = ap (stretches_weigh design w) (l ∙ ap (drop (length quotas)) back) in
            omega (arith, h.weight w, sum_both (λ j. first_of design w j.state) (λ j. put_of design w j.state) js, s.empty new design w, rest, r, firsts-weigh design w given quotas js (subst (λ zs. FirstsAre zs quotas js) back s.firsts));
        firsts = firsts;
        first_are = firsts-stretches (IsStretch design bound) given quotas ks firsts all;
      }
