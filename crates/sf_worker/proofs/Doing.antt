-- What several steps of a worker did, one after another.
use Rattle.std.proofs.Common.{◌≡◌, ℕ, zero, suc, ◌+◌, ◌<◌, ◌≤◌, ◌⊎◌, inl, inr, List, [], ◌∷◌, ◌++◌, length, map, ap, sym, ◌∙◌, subst, refl, arith, true, false, Bool, All, append-nil, append_assoc, length-append, sum_by, Any, Option, Some, None, IfSome, flat_map}
use Rattle.sf_worker.proofs.Common.{cases_lt, map-append, length-map, sum_by-append, sum_by-cons, All-nil, All-cons, All-append, All-weaker, Design, Part, Parts, root, walk, pending, Mark, Tag, made, marks, tag_of, unnamed, unnamed_mark, Stretch, Path, beyond, waiting, IsStretch, waits, Knows, thief_deques_of, WorkerState, IsEntry, IsBest, Solves, AreKept, marks_in, mark_of, kept-lower, HandView, IsStart, IsVisited, left_of, whole_of, marks_of, Did, Logs, Passed, IsOver, PassEnds, IsReady, IsDecidedFirst, Walking, IsPutDown, IsWalkedInto, IsWalkedOver, rest_at, rest_waits, NeverFell, ThievesNeverFell, IsShared, on_stretch, thieves_weigh, maybe_weighs, taken_of, first_of, put_of, stretches_weigh, IsFirst, IsFound, SamePuts}
use Rattle.std.proofs.lemmas.List.Concat.{flat_map-append}
use Rattle.sf_search_core.specs.declared.entry.Entry.{Entry}
use Rattle.sf_search_core.specs.declared.entry.Kind.{Kind}
use Rattle.sf_search_core.specs.declared.entry.Kind.TheVariants as kind
use Rattle.sf_search_core.specs.Conserved.{children, branched}
use Rattle.sf_certificate.specs.declared.tag.Tag.TheVariants as tags
use Rattle.sf_pieces.specs.declared.piece.Piece.{Piece}
use Rattle.sf_worker.specs.declared.state.PassEnd.TheVariants.{QuotaSpent, FoundNothing}
use Rattle.sf_worker.proofs.Thieves.{fell-trans, thieves_fell-trans, thieves_fell-rose, thieves_never_fell, never_fell}

module _ {X : Type 0} (P : X → Type 0) where
  -- what is found in the first of two lists is found in both together
  pub any-left : (xs ys : List X) → Any P xs → Any P (xs ++ ys)
  any-left [] ys h = absurd (let b = h.2 in omega (arith, b))
  any-left (x ∷ xs) ys (zero, y, below, is, p) = (zero, y, omega arith, is, p)
  any-left (x ∷ xs) ys (suc i, y, below, is, p) =
      let r = any-left xs ys (i, y, omega (arith, below), is, p) in
      (suc r.0, r.1, (let b = r.2 in omega (arith, b)), r.3, r.4)

  -- what is found in the second of two lists is found in both together
  pub any-right : (xs ys : List X) → Any P ys → Any P (xs ++ ys)
  any-right [] ys h = h
  any-right (x ∷ xs) ys h =
      let r = any-right xs ys h in
      (suc r.0, r.1, (let b = r.2 in omega (arith, b)), r.3, r.4)

-- names change nothing of what a tag makes
made-unnamed : (t : Tag) (node : Parts) → made t node ≡ made (unnamed t) node
made-unnamed tags.Extend node = refl
made-unnamed (tags.Split b) node = refl
made-unnamed (tags.Closed p) node = refl
made-unnamed tags.Open node = refl

-- what the tag of an entry makes are its children
made-branched : (k : Kind) (node : Parts) → made (tag_of k) node ≡ branched k node
made-branched kind.Extended node = refl
made-branched (kind.Split b) node = refl
made-branched kind.Closed node = refl

-- so of a tag that tells the entry
pub made-children : (t : Tag) (e : Entry) (node : Parts) → unnamed t ≡ tag_of e.kind → e.node ≡ node → made t node ≡ children e
made-children t e node told is = made-unnamed t node ∙ ap (λ u. made u node) told ∙ made-branched e.kind node ∙ ap (branched e.kind) (sym is)

-- where one is found there are some
some-length : {X : Type 0} (P : X → Type 0) (xs : List X) → Any P xs → 0 < length xs
some-length P xs h = (let b = h.2 in omega (arith, b))

-- where a stretch was found, none is in `first` any more
first-gone : (first first' : Option Stretch) (x : Stretch) → IsFirst first first' (Some x) → first' ≡ None
first-gone None first' x h = h
first-gone (Some t) first' x h = h.0

-- where no stretch was found, none was in `first`, and none is
pub first-not : (first first' : Option Stretch) → IsFirst first first' None → (first ≡ None) × (first' ≡ None)
first-not None first' h = (refl, h)
first-not (Some t) first' h = absurd (let e = h.1 in cc)

-- what is left of the stretch in hand stands for what is not visited yet
rest-left : (design : Design) (more : Bool) (path : Path) (floor : ℕ) → waiting design floor more path.node ≡ rest_waits design (rest_at more path floor)
rest-left design true path floor = refl
rest-left design false path floor = refl

-- it is a stretch of the design
rest-is : (design : Design) (bound : Parts → ℕ) (more : Bool) (path : Path) (floor : ℕ) → (more ≡ true → IsStretch design bound (record { cursor = path; floor = floor })) → IfSome (rest_at more path floor) (IsStretch design bound)
rest-is design bound true path floor h = h refl
rest-is design bound false path floor h = tt

module _ {T : Type 0} (design : Design) (bound : Parts → ℕ) where
  -- two steps, one after another
  pub did-trans : (a b c : WorkerState T) (x y z : List Parts) → Did design bound a b x y → Did design bound b c y z → Did design bound a c x z
  did-trans a b c x y z p q = record {
    logged = p.logged ++ q.logged;
    refused = p.refused ++ q.refused;
    quota = omega (arith, p.quota, q.quota, length-append p.logged q.logged);
    seat = (q.seat.0 ∙ p.seat.0, q.seat.1 ∙ p.seat.1);
    deques = (q.deques.0 ∙ p.deques.0, q.deques.1 ∙ p.deques.1);
    offered = omega (arith, p.offered, q.offered);
    seen = omega (arith, p.seen, q.seen);
    fell = λ h. elim (cases_lt c.seat.offered b.seat.offered) [
      | inl less ↦ any-right (Solves design bound c.seat.offered) p.logged q.logged (q.fell less)
      | inr more ↦ (let e : b.seat.offered ≡ c.seat.offered = omega (arith, more, q.offered) in
          any-left (Solves design bound c.seat.offered) p.logged q.logged (subst (λ z. Any (Solves design bound z) p.logged) e (p.fell (omega (arith, h, e)))))
    ];
    undercut = λ h. elim (cases_lt c.seat.offered b.seat.offered) [
      | inl less ↦ (let k = q.undercut less in let s = p.seen in omega (arith, k, s))
      | inr more ↦ (let k = p.undercut (omega (arith, h, more, q.offered)) in omega (arith, k, more, q.offered))
    ];
    entries = All-append (IsEntry design bound) p.logged q.logged p.entries q.entries;
    fresh = All-append (λ (e : Entry). c.seat.seen ≤ e.value) p.logged q.logged (All-weaker (λ (e : Entry). b.seat.seen ≤ e.value) (λ (e : Entry). c.seat.seen ≤ e.value) (λ e h. (let s = q.seen in omega (arith, h, s))) p.logged p.fresh) q.fresh;
    refused_are = All-append (IsStretch design bound) p.refused q.refused p.refused_are q.refused_are;
    both = λ w. omega (
      arith,
      p.both w,
      q.both w,
      sum_by-append (λ (e : Entry). w e.node) p.logged q.logged,
      sum_by-append (λ (e : Entry). sum_by w (children e)) p.logged q.logged,
      sum_by-append (on_stretch design w) p.refused q.refused,
    );
    refusals = (
      fell-trans a.place.owner.refused_puts b.place.owner.refused_puts c.place.owner.refused_puts p.refusals.0 q.refusals.0,
      λ h.
          (let n = q.refusals.1 h in
          let m = p.refusals.1 (let f = q.refusals.0 in omega (arith, h, f)) in
          omega (arith, n, m, length-append p.refused q.refused)),
    );
    empty_takes = (
      fell-trans a.place.owner.empty_takes b.place.owner.empty_takes c.place.owner.empty_takes p.empty_takes.0 q.empty_takes.0,
      thieves_fell-trans a.place.thieves.items b.place.thieves.items c.place.thieves.items p.empty_takes.1 q.empty_takes.1,
    );
  }

  -- nothing was decided or refused
  pub did-none : (old new : WorkerState T) (before after : List Parts) → new.quota ≡ old.quota → new.seat ≡ old.seat → SamePuts old.place new.place
      → (thief_deques_of new.place.thieves.items ≡ thief_deques_of old.place.thieves.items)
      → ((w : Parts → ℕ) → (taken_of design w new + first_of design w old) + sum_by w before ≡ (taken_of design w old + first_of design w new) + sum_by w after)
      → NeverFell old.place.owner.empty_takes new.place.owner.empty_takes × ThievesNeverFell old.place.thieves.items new.place.thieves.items
      → Did design bound old new before after
  did-none old new before after quota seat same deques took empty = record {
    logged = [];
    refused = [];
    quota = omega (arith, quota);
    seat = (ap (λ (k : Knows). k.word) seat, ap (λ (k : Knows). k.parts) seat);
    deques = (same.0, deques);
    offered = (let o = ap (λ (k : Knows). k.offered) seat in omega (arith, o));
    seen = (let s = ap (λ (k : Knows). k.seen) seat in omega (arith, s));
    fell = λ h. absurd (let o = ap (λ (k : Knows). k.offered) seat in omega (arith, o, h));
    undercut = λ h. absurd (let o = ap (λ (k : Knows). k.offered) seat in omega (arith, o, h));
    entries = All-nil (IsEntry design bound);
    fresh = All-nil (λ (e : Entry). new.seat.seen ≤ e.value);
    refused_are = All-nil (IsStretch design bound);
    both = λ w. (let k : put_of design w new ≡ put_of design w old = ap (sum_by (on_stretch design w)) same.1 in let t = took w in omega (arith, k, t));
    refusals = (let r = same.2 in (omega (arith, r), λ h. omega (arith, r)));
    empty_takes = empty;
  }

  -- one visit
  pub did-visit : (part : Parts → Part → ℕ) (old new : WorkerState T) (hand hand' : HandView) (x : List Parts) → left_of design hand ≡ x → hand.more ≡ true → IsVisited design bound part hand old.seat hand' new.seat new.best
      → new ≡ record old { seat = new.seat; best = new.best; quota = new.quota } → new.quota + 1 ≡ old.quota → Did design bound old new x (left_of design hand')
  did-visit part old new hand hand' x same more v frame quota =
      let e = v.entry in
      let node = hand.path.node in
      let rest = beyond hand.floor (root design) node.steps in
      let place : new.place ≡ old.place = ap (λ (s : WorkerState T). s.place) frame in
      let first : new.first ≡ old.first = ap (λ (s : WorkerState T). s.first) frame in
      let before : x ≡ node ∷ rest = sym same ∙ ap (λ m. waiting design hand.floor m node) more in
      record {
        logged = e ∷ [];
        refused = [];
        quota = quota;
        seat = v.same;
        deques = (ap (λ p. p.owner.deque) place, ap (λ p. thief_deques_of p.thieves.items) place);
        offered = v.falls.1;
        seen = v.falls.0;
        fell = λ h. (0, e, omega arith, refl, v.fell h);
        undercut = v.undercut;
        entries = All-cons (IsEntry design bound) e [] v.is (All-nil (IsEntry design bound));
        fresh = All-cons (λ (e : Entry). new.seat.seen ≤ e.value) e [] v.fresh (All-nil (λ (e : Entry). new.seat.seen ≤ e.value));
        refused_are = All-nil (IsStretch design bound);
        both = λ w.
            let t : taken_of design w new ≡ taken_of design w old = ap (λ p. sum_by (on_stretch design w) p.owner.taken + thieves_weigh (on_stretch design w) p.thieves.items) place in
            let p : put_of design w new ≡ put_of design w old = ap (λ p. stretches_weigh design w p.owner.put) place in
            let f : first_of design w new ≡ first_of design w old = ap (maybe_weighs (on_stretch design w)) first in
            let n : w e.node ≡ w node = ap w v.node in
            let m : sum_by w (made v.tag node) ≡ sum_by w (children e) = ap (sum_by w) (made-children v.tag e node v.told v.node) in
            omega (arith, t, p, f, n, m, ap (sum_by w) before, sum_by-cons w node rest, ap (sum_by w) v.followed.left, sum_by-append w (made v.tag node) rest);
        refusals = (let r : new.place.owner.refused_puts ≡ old.place.owner.refused_puts = ap (λ p. p.owner.refused_puts) place in (omega (arith, r), λ h. omega (arith, r)));
        empty_takes = (
          (let r : new.place.owner.empty_takes ≡ old.place.owner.empty_takes = ap (λ p. p.owner.empty_takes) place in omega (arith, r)),
          subst (ThievesNeverFell old.place.thieves.items) (sym (ap (λ p. p.thieves.items) place)) (thieves_never_fell old.place.thieves.items),
        );
      }

  -- one cut, or none
  pub did-share : (old new : WorkerState T) (hand hand' : HandView) → IsShared design bound old hand new hand' → Did design bound old new (left_of design hand) (left_of design hand')
  did-share old new hand hand' s =
      let first : new.first ≡ old.first = ap (λ (z : WorkerState T). z.first) s.frame in
      let seat : new.seat ≡ old.seat = ap (λ (z : WorkerState T). z.seat) s.frame in
      let quota : new.quota ≡ old.quota = ap (λ (z : WorkerState T). z.quota) s.frame in
      record {
        logged = [];
        refused = s.refused;
        quota = omega (arith, quota);
        seat = (ap (λ (k : Knows). k.word) seat, ap (λ (k : Knows). k.parts) seat);
        deques = (s.deque, ap thief_deques_of s.thieves);
        offered = (let o = ap (λ (k : Knows). k.offered) seat in omega (arith, o));
        seen = (let o = ap (λ (k : Knows). k.seen) seat in omega (arith, o));
        fell = λ h. absurd (let o = ap (λ (k : Knows). k.offered) seat in omega (arith, o, h));
        undercut = λ h. absurd (let o = ap (λ (k : Knows). k.offered) seat in omega (arith, o, h));
        entries = All-nil (IsEntry design bound);
        fresh = All-nil (λ (e : Entry). new.seat.seen ≤ e.value);
        refused_are = s.refused_are;
        both = λ w.
            let t : thieves_weigh (on_stretch design w) new.place.thieves.items ≡ thieves_weigh (on_stretch design w) old.place.thieves.items = ap (thieves_weigh (on_stretch design w)) s.thieves in
            let f : first_of design w new ≡ first_of design w old = ap (maybe_weighs (on_stretch design w)) first in
            omega (arith, t, f, s.both w);
        refusals = s.refusals;
        empty_takes = (s.empty_takes, subst (ThievesNeverFell old.place.thieves.items) (sym s.thieves) (thieves_never_fell old.place.thieves.items));
      }

  -- what else changed is none of this
  pub did-also : (a b c : WorkerState T) (x y z : List Parts) → Did design bound a b x y → y ≡ z → c.quota ≡ b.quota → c.seat ≡ b.seat → c.place ≡ b.place → c.first ≡ b.first → Did design bound a c x z
  did-also a b c x y z d same quota seat place first =
      let seen : c.seat.seen ≡ b.seat.seen = ap (λ (k : Knows). k.seen) seat in
      let offered : c.seat.offered ≡ b.seat.offered = ap (λ (k : Knows). k.offered) seat in
      let count : c.place.owner.refused_puts ≡ b.place.owner.refused_puts = ap (λ p. p.owner.refused_puts) place in
      let takes : c.place.owner.empty_takes ≡ b.place.owner.empty_takes = ap (λ p. p.owner.empty_takes) place in
      record {
        logged = d.logged;
        refused = d.refused;
        quota = omega (arith, d.quota, quota);
        seat = (ap (λ (k : Knows). k.word) seat ∙ d.seat.0, ap (λ (k : Knows). k.parts) seat ∙ d.seat.1);
        deques = (ap (λ p. p.owner.deque) place ∙ d.deques.0, ap (λ p. thief_deques_of p.thieves.items) place ∙ d.deques.1);
        offered = (let k = d.offered in omega (arith, k, offered));
        seen = (let k = d.seen in omega (arith, k, seen));
        fell = λ h. subst (λ z. Any (Solves design bound z) d.logged) (sym offered) (d.fell (omega (arith, h, offered)));
        undercut = λ h. (let k = d.undercut (omega (arith, h, offered)) in omega (arith, k, offered));
        entries = d.entries;
        fresh = All-weaker (λ (e : Entry). b.seat.seen ≤ e.value) (λ (e : Entry). c.seat.seen ≤ e.value) (λ e h. omega (arith, h, seen)) d.logged d.fresh;
        refused_are = d.refused_are;
        both = λ w.
            let k = d.both w in
            let m = ap (sum_by w) same in
            let t : taken_of design w c ≡ taken_of design w b = ap (λ p. sum_by (on_stretch design w) p.owner.taken + thieves_weigh (on_stretch design w) p.thieves.items) place in
            let u : put_of design w c ≡ put_of design w b = ap (λ p. stretches_weigh design w p.owner.put) place in
            let f : first_of design w c ≡ first_of design w b = ap (maybe_weighs (on_stretch design w)) first in
            omega (arith, k, m, t, u, f);
        refusals = ((let r = d.refusals.0 in omega (arith, r, count)), λ h. (let r = d.refusals.1 (omega (arith, h, count)) in omega (arith, r, count)));
        empty_takes = ((let r = d.empty_takes.0 in omega (arith, r, takes)), subst (ThievesNeverFell a.place.thieves.items) (sym (ap (λ p. p.thieves.items) place)) d.empty_takes.1);
      }

  -- the stretch that was found is in hand
  pub did-find : (S : Stretch → Type 0) (old new : WorkerState T) (s : Stretch) → new.quota ≡ old.quota → new.seat ≡ old.seat → SamePuts old.place new.place → IsFound S old.first old.place new.first new.place (Some s) → Did design bound old new [] (waits design s)
  did-find S old new s quota seat same found =
      let gone : new.first ≡ None = first-gone old.first new.first s found.0 in
      did-none old new [] (waits design s) quota seat same same.3
      (λ w. (let k : first_of design w new ≡ 0 = ap (maybe_weighs (on_stretch design w)) gone in let f = found.4 (on_stretch design w) in omega (arith, k, f)))
      (found.2, found.3)

  -- no stretch was found
  pub did-not : (S : Stretch → Type 0) (old new : WorkerState T) → new.quota ≡ old.quota → new.seat ≡ old.seat → SamePuts old.place new.place → IsFound S old.first old.place new.first new.place None → Did design bound old new [] []
  did-not S old new quota seat same found =
      let n = first-not old.first new.first found.0 in
      did-none old new [] [] quota seat same same.3
      (λ w. (let k : first_of design w new ≡ 0 = ap (maybe_weighs (on_stretch design w)) n.1 in let f = found.4 (on_stretch design w) in omega (arith, k, f)))
      (found.2, found.3)

  module _ (part : Parts → Part → ℕ) where
    -- how a visit's entry reads as a mark
    mark-told : (old new : WorkerState T) (hand hand' : HandView) (v : IsVisited design bound part hand old.seat hand' new.seat new.best) → mark_of v.entry ≡ unnamed_mark (record { node = hand.path.node; tag = v.tag })
    mark-told old new hand hand' v = ap (λ n. record { node = n; tag = tag_of v.entry.kind }) v.node ∙ ap (λ t. record { node = hand.path.node; tag = t }) (sym v.told)

    -- the first visit of a stretch
    pub walking-start : (old new : WorkerState T) (stretch : Stretch) (hand hand' : HandView) → IsStart design bound stretch hand → IsVisited design bound part hand old.seat hand' new.seat new.best
        → new ≡ record old { seat = new.seat; best = new.best; quota = new.quota } → new.quota + 1 ≡ old.quota
        → Walking design bound part old new (waits design stretch) hand' stretch.cursor.node
    unfolding did-visit
    walking-start old new stretch hand hand' s v frame quota =
        let mark : Mark = record { node = hand.path.node; tag = v.tag } in
        let empty : marks_of design hand ≡ [] = ap (marks (whole_of design hand)) s.none in
        let marks_are : marks_of design hand' ≡ mark ∷ [] = v.followed.marks_are ∙ ap (λ ms. ms ++ mark ∷ []) empty in
        let none : AreKept part old.seat.seen (marks_of design hand) hand.kept = subst (λ ms. AreKept part old.seat.seen ms hand.kept) (sym empty) (record { values = s.kept; areas = λ i d h. absurd (omega arith) }) in
        record {
          did = did-visit part old new hand hand' (waits design stretch) s.left s.more v frame quota;
          hand_is = v.followed.hand_is;
          told = ap (λ m. m ∷ []) (mark-told old new hand hand' v) ∙ sym (ap (map unnamed_mark) marks_are);
          kept_parts = v.kept_parts none;
          decided = (0, v.entry, omega arith, refl, v.node ∙ s.node);
          log = ap (λ (z : WorkerState T). z.log.items) frame;
          kept = ap (λ (z : WorkerState T). z.kept.items) frame ∙ sym (append-nil old.kept.items);
          first = ap (λ (z : WorkerState T). z.first) frame;
          best = v.best;
        }

    -- one visit more
    pub walking-on : (old mid new : WorkerState T) (before : List Parts) (hand hand' : HandView) (node : Parts) → Walking design bound part old mid before hand node → hand.more ≡ true → IsVisited design bound part hand mid.seat hand' new.seat new.best
        → new ≡ record mid { seat = new.seat; best = new.best; quota = new.quota } → new.quota + 1 ≡ mid.quota
        → Walking design bound part old new before hand' node
    unfolding did-visit did-trans
    walking-on old mid new before hand hand' node w more v frame quota =
        let mark : Mark = record { node = hand.path.node; tag = v.tag } in
        let did = did-visit part mid new hand hand' (left_of design hand) refl more v frame quota in
        record {
          did = did-trans old mid new before (left_of design hand) (left_of design hand') w.did did;
          hand_is = v.followed.hand_is;
          told = map-append mark_of w.did.logged (v.entry ∷ []) ∙ ap (λ ms. ms ++ mark_of v.entry ∷ []) w.told ∙ ap (λ m. map unnamed_mark (marks_of design hand) ++ m ∷ []) (mark-told mid new hand hand' v)
              ∙ sym (ap (map unnamed_mark) v.followed.marks_are ∙ map-append unnamed_mark (marks_of design hand) (mark ∷ []));
          kept_parts = v.kept_parts w.kept_parts;
          decided = any-left (λ (e : Entry). e.node ≡ node) w.did.logged (v.entry ∷ []) w.decided;
          log = ap (λ (z : WorkerState T). z.log.items) frame ∙ w.log;
          kept = ap (λ (z : WorkerState T). z.kept.items) frame ∙ w.kept ∙ ap (λ z. old.kept.items ++ z) (sym (append-nil w.did.refused));
          first = ap (λ (z : WorkerState T). z.first) frame ∙ w.first;
          best = v.best;
        }

    -- one cut, or none
    pub walking-shared : (old mid new : WorkerState T) (before : List Parts) (hand hand' : HandView) (node : Parts) → Walking design bound part old mid before hand node → IsShared design bound mid hand new hand' → Walking design bound part old new before hand' node
    unfolding did-share did-trans
    walking-shared old mid new before hand hand' node w s =
        let seat : new.seat ≡ mid.seat = ap (λ (z : WorkerState T). z.seat) s.frame in
        let best : new.best ≡ mid.best = ap (λ (z : WorkerState T). z.best) s.frame in
        record {
          did = did-trans old mid new before (left_of design hand) (left_of design hand') w.did (did-share mid new hand hand' s);
          hand_is = s.hand_is;
          told = ap (map mark_of) (append-nil w.did.logged) ∙ w.told ∙ sym (ap (map unnamed_mark) s.marks_are);
          kept_parts = subst (λ ms. AreKept part new.seat.seen ms hand'.kept) (sym s.marks_are) (subst (AreKept part new.seat.seen (marks_of design hand)) (sym s.hand_kept) (subst (λ (k : Knows). AreKept part k.seen (marks_of design hand) hand.kept) (sym seat) w.kept_parts));
          decided = any-left (λ (e : Entry). e.node ≡ node) w.did.logged [] w.decided;
          log = ap (λ (z : WorkerState T). z.log.items) s.frame ∙ w.log;
          kept = s.kept ∙ ap (λ z. z ++ s.refused) w.kept ∙ append_assoc old.kept.items w.did.refused s.refused;
          first = ap (λ (z : WorkerState T). z.first) s.frame ∙ w.first;
          best = subst (λ (k : Knows). IsBest design new.best k.offered) (sym seat) (subst (λ b. IsBest design b mid.seat.offered) (sym best) w.best);
        }

    -- a walk whose piece is logged
    pub walked-into : (old mid new : WorkerState T) (stretch : Stretch) (hand : HandView) (rest : Option Stretch) → Walking design bound part old mid (waits design stretch) hand stretch.cursor.node → IsPutDown mid hand new rest → IsWalkedInto design bound part stretch old new rest
    unfolding did-also
    walked-into old mid new stretch hand rest w p =
        let seat : new.seat ≡ mid.seat = ap (λ (z : WorkerState T). z.seat) p.frame in
        let best : new.best ≡ mid.best = ap (λ (z : WorkerState T). z.best) p.frame in
        let quota : new.quota ≡ mid.quota = ap (λ (z : WorkerState T). z.quota) p.frame in
        let place : new.place ≡ mid.place = ap (λ (z : WorkerState T). z.place) p.frame in
        let first : new.first ≡ mid.first = ap (λ (z : WorkerState T). z.first) p.frame in
        let same : marks_in design p.piece ≡ marks_of design hand = ap (λ ss. marks (pending design true (walk (root design) ss)) p.piece.tags.items) p.first ∙ ap (marks (whole_of design hand)) p.tags in
        let one : flat_map (marks_in design) (p.piece ∷ []) ≡ marks_of design hand = append-nil (marks_in design p.piece) ∙ same in
        let left : left_of design hand ≡ rest_waits design rest = rest-left design hand.more hand.path hand.floor ∙ ap (rest_waits design) (sym p.rest_is) in
        record {
          did = did-also old mid new (waits design stretch) (left_of design hand) (rest_waits design rest) w.did left quota seat place first;
          logs = record {
            pieces = p.piece ∷ [];
            log = p.log ∙ ap (λ z. z ++ p.piece ∷ []) w.log;
            told = w.told ∙ sym (ap (map unnamed_mark) one);
            read = All-cons (λ q. (map (λ (m : Mark). m.tag) (marks_in design q) ≡ q.tags.items) × (0 < length q.tags.items)) p.piece [] (
              ap (map (λ (m : Mark). m.tag)) same ∙ w.hand_is.read ∙ sym p.tags,
              (let some = some-length (λ (e : Entry). e.node ≡ stretch.cursor.node) w.did.logged w.decided in
                  let a = length-map w.did.logged mark_of in
                  let b = length-map (marks_of design hand) unnamed_mark in
                  let c = length-map (marks_of design hand) (λ (m : Mark). m.tag) in
                  omega (arith, some, a, b, c, ap length w.told, ap length w.hand_is.read, ap length p.tags)),
            ) (All-nil (λ q. (map (λ (m : Mark). m.tag) (marks_in design q) ≡ q.tags.items) × (0 < length q.tags.items)));
            kept_parts = All-cons (λ q. AreKept part new.seat.seen (marks_in design q) q.kept.items) p.piece []
                (subst (λ ms. AreKept part new.seat.seen ms p.piece.kept.items) (sym same) (subst (AreKept part new.seat.seen (marks_of design hand)) (sym p.values) (subst (λ (k : Knows). AreKept part k.seen (marks_of design hand) hand.kept) (sym seat) w.kept_parts)))
                (All-nil (λ q. AreKept part new.seat.seen (marks_in design q) q.kept.items));
          };
          kept = ap (λ (z : WorkerState T). z.kept.items) p.frame ∙ w.kept;
          rest_is = subst (λ r. IfSome r (IsStretch design bound)) (sym p.rest_is) (rest-is design bound hand.more hand.path hand.floor (λ e. record { at = w.hand_is.at; above = w.hand_is.above e }));
          decided = w.decided;
          first = first ∙ w.first;
          best = subst (λ (k : Knows). IsBest design new.best k.offered) (sym seat) (subst (λ b. IsBest design b mid.seat.offered) (sym best) w.best);
        }

    -- where nothing is left the walk is over
    pub over-ended : (old new : WorkerState T) (stretch : Stretch) → IsWalkedInto design bound part stretch old new None → IsWalkedOver design bound part stretch old new
    over-ended old new stretch w = record {
      passed = record { rest = []; did = w.did; logs = w.logs; kept = w.kept ∙ sym (append-nil (old.kept.items ++ w.did.refused)); rest_are = All-nil (IsStretch design bound) };
      over = inl refl;
      decided = w.decided;
      first = w.first;
      best = w.best;
    }

    -- where the quota is spent what is left is kept
    pub over-spent : (old mid new : WorkerState T) (stretch rest : Stretch) → IsWalkedInto design bound part stretch old mid (Some rest) → new ≡ record mid { kept = new.kept } → new.kept.items ≡ mid.kept.items ++ rest ∷ [] → mid.quota ≡ 0
        → IsWalkedOver design bound part stretch old new
    unfolding did-also
    over-spent old mid new stretch rest w frame kept spent =
        let seat : new.seat ≡ mid.seat = ap (λ (z : WorkerState T). z.seat) frame in
        let quota : new.quota ≡ mid.quota = ap (λ (z : WorkerState T). z.quota) frame in
        let place : new.place ≡ mid.place = ap (λ (z : WorkerState T). z.place) frame in
        let first : new.first ≡ mid.first = ap (λ (z : WorkerState T). z.first) frame in
        let best : new.best ≡ mid.best = ap (λ (z : WorkerState T). z.best) frame in
        record {
          passed = record {
            rest = rest ∷ [];
            did = did-also old mid new (waits design stretch) (waits design rest) (flat_map (waits design) (rest ∷ [])) w.did (sym (append-nil (waits design rest))) quota seat place first;
            logs = record {
              pieces = w.logs.pieces;
              log = ap (λ (z : WorkerState T). z.log.items) frame ∙ w.logs.log;
              told = w.logs.told;
              read = w.logs.read;
              kept_parts = subst (λ (k : Knows). All (λ (p : Piece). AreKept part k.seen (marks_in design p) p.kept.items) w.logs.pieces) (sym seat) w.logs.kept_parts;
            };
            kept = kept ∙ ap (λ z. z ++ rest ∷ []) w.kept;
            rest_are = All-cons (IsStretch design bound) rest [] w.rest_is (All-nil (IsStretch design bound));
          };
          over = inr (refl, quota ∙ spent);
          decided = w.decided;
          first = first ∙ w.first;
          best = subst (λ (k : Knows). IsBest design new.best k.offered) (sym seat) (subst (λ b. IsBest design b mid.seat.offered) (sym best) w.best);
        }

-- the stretch that was in `first` is the one found
first-is : (first first' : Option Stretch) (x t : Stretch) → IsFirst first first' (Some x) → first ≡ Some t → x ≡ t
first-is None first' x t h e = absurd (cc)
first-is (Some u) first' x t h e = (let k = h.1 in cc)

-- so an entry of its first subproblem is one of that stretch
first-decided : (first first' : Option Stretch) (x : Stretch) (logged : List Entry) → IsFirst first first' (Some x) → Any (λ (e : Entry). e.node ≡ x.cursor.node) logged → IfSome first (λ t. Any (λ (e : Entry). e.node ≡ t.cursor.node) logged)
first-decided None first' x logged h a = tt
first-decided (Some t) first' x logged h a = subst (λ (s : Stretch). Any (λ (e : Entry). e.node ≡ s.cursor.node) logged) (first-is (Some t) first' x t h refl) a

-- what holds of the value that is there, if one is, may be weakened
if_some_weaker : {X : Type 0} (P Q : X → Type 0) → ((x : X) → P x → Q x) → (o : Option X) → IfSome o P → IfSome o Q
if_some_weaker P Q f None h = tt
if_some_weaker P Q f (Some x) h = f x h

module _ {T : Type 0} (design : Design) (bound : Parts → ℕ) (part : Parts → Part → ℕ) where
  -- the pieces of two steps
  logs-trans : (a b c : WorkerState T) (ls ms : List Entry) → c.seat.seen ≤ b.seat.seen → Logs design part a b ls → Logs design part b c ms → Logs design part a c (ls ++ ms)
  logs-trans a b c ls ms lower p q =
      let Read = λ (x : Piece). (map (λ (m : Mark). m.tag) (marks_in design x) ≡ x.tags.items) × (0 < length x.tags.items) in
      let Kept = λ (n : ℕ) (x : Piece). AreKept part n (marks_in design x) x.kept.items in
      record {
        pieces = p.pieces ++ q.pieces;
        log = q.log ∙ ap (λ z. z ++ q.pieces) p.log ∙ append_assoc a.log.items p.pieces q.pieces;
        told = map-append mark_of ls ms ∙ ap (λ z. z ++ map mark_of ms) p.told ∙ ap (λ z. map unnamed_mark (flat_map (marks_in design) p.pieces) ++ z) q.told
            ∙ sym (ap (map unnamed_mark) (flat_map-append (marks_in design) p.pieces q.pieces) ∙ map-append unnamed_mark (flat_map (marks_in design) p.pieces) (flat_map (marks_in design) q.pieces));
        read = All-append Read p.pieces q.pieces p.read q.read;
        kept_parts = All-append (Kept c.seat.seen) p.pieces q.pieces (All-weaker (Kept b.seat.seen) (Kept c.seat.seen) (λ x k. kept-lower part b.seat.seen c.seat.seen (marks_in design x) x.kept.items lower k) p.pieces p.kept_parts) q.kept_parts;
      }

  -- what was left is walked into as well
  pub into-on : (a b c : WorkerState T) (stretch next : Stretch) (rest : Option Stretch) → IsWalkedInto design bound part stretch a b (Some next) → IsWalkedInto design bound part next b c rest → IsWalkedInto design bound part stretch a c rest
  unfolding did-trans
  into-on a b c stretch next rest p q = record {
    did = did-trans design bound a b c (waits design stretch) (waits design next) (rest_waits design rest) p.did q.did;
    logs = logs-trans a b c p.did.logged q.did.logged q.did.seen p.logs q.logs;
    kept = q.kept ∙ (ap (λ z. z ++ q.did.refused) p.kept ∙ append_assoc a.kept.items p.did.refused q.did.refused);
    rest_is = q.rest_is;
    decided = any-left (λ (e : Entry). e.node ≡ stretch.cursor.node) p.did.logged q.did.logged p.decided;
    first = q.first ∙ p.first;
    best = q.best;
  }

  -- two passes, the first of which left nothing of its last stretch
  pub passed-trans : (a b c : WorkerState T) (x : List Parts) (p : Passed design bound part a b x) → p.rest ≡ [] → Passed design bound part b c [] → Passed design bound part a c x
  unfolding did-trans did-also
  passed-trans a b c x p none q =
      let kept : b.kept.items ≡ a.kept.items ++ p.did.refused = p.kept ∙ (ap (λ z. (a.kept.items ++ p.did.refused) ++ z) none ∙ append-nil (a.kept.items ++ p.did.refused)) in
      let first = did-also design bound a b b x (flat_map (waits design) p.rest) [] p.did (ap (flat_map (waits design)) none) refl refl refl refl in
      record {
        rest = q.rest;
        did = did-trans design bound a b c x [] (flat_map (waits design) q.rest) first q.did;
        logs = logs-trans a b c p.did.logged q.did.logged q.did.seen p.logs q.logs;
        kept = q.kept ∙ ap (λ z. z ++ q.rest) (ap (λ z. z ++ q.did.refused) kept ∙ append_assoc a.kept.items p.did.refused q.did.refused);
        rest_are = q.rest_are;
      }

  -- and what both decided
  pub passed-both : (a b c : WorkerState T) (x : List Parts) (p : Passed design bound part a b x) → p.rest ≡ [] → (q : Passed design bound part b c []) → (r : Passed design bound part a c x) × (r.rest ≡ q.rest) × (r.did.logged ≡ p.did.logged ++ q.did.logged)
  unfolding passed-trans did-trans did-also
  passed-both a b c x p none q = (passed-trans a b c x p none q, refl, refl)

  -- what a step found: the state with one stretch in hand
  pub record IsStep (S : Stretch → Type 0) (a b : WorkerState T) (found : Option Stretch) : Type 0 where
    pub log : b.log.items ≡ a.log.items
    pub kept : b.kept.items ≡ a.kept.items
    pub quota : b.quota ≡ a.quota
    pub seat : b.seat ≡ a.seat
    pub same : SamePuts a.place b.place
    pub found_is : IsFound S a.first a.place b.first b.place found

  -- a stretch found and walked over is a pass
  found-passed : (S : Stretch → Type 0) (a b c : WorkerState T) (s : Stretch) → IsStep S a b (Some s) → IsWalkedOver design bound part s b c
      → (p : Passed design bound part a c []) × IsOver a c p × IsDecidedFirst a.first c.first p.did.logged
  unfolding did-trans did-find did-none
  found-passed S a b c s f o =
      let q = o.passed in
      let gone : b.first ≡ None = first-gone a.first b.first s f.found_is.0 in (
        record {
          rest = q.rest;
          did = did-trans design bound a b c [] (waits design s) (flat_map (waits design) q.rest) (did-find design bound S a b s f.quota f.seat f.same f.found_is) q.did;
          logs = record { pieces = q.logs.pieces; log = q.logs.log ∙ ap (λ z. z ++ q.logs.pieces) f.log; told = q.logs.told; read = q.logs.read; kept_parts = q.logs.kept_parts };
          kept = q.kept ∙ ap (λ z. (z ++ q.did.refused) ++ q.rest) f.kept;
          rest_are = q.rest_are;
        },
        o.over,
        (o.first ∙ gone, first-decided a.first b.first s q.did.logged f.found_is.0 o.decided),
      )

  -- nothing found is a pass
  not-passed : (S : Stretch → Type 0) (a b : WorkerState T) → IsStep S a b None → (p : Passed design bound part a b []) × (p.rest ≡ []) × (p.did.logged ≡ [])
  unfolding did-not did-none
  not-passed S a b f = (
    record {
      rest = [];
      did = did-not design bound S a b f.quota f.seat f.same f.found_is;
      logs = record {
        pieces = [];
        log = f.log ∙ sym (append-nil a.log.items);
        told = refl;
        read = All-nil (λ q. (map (λ (m : Mark). m.tag) (marks_in design q) ≡ q.tags.items) × (0 < length q.tags.items));
        kept_parts = All-nil (λ q. AreKept part b.seat.seen (marks_in design q) q.kept.items);
      };
      kept = f.kept ∙ (sym (append-nil a.kept.items) ∙ sym (append-nil (a.kept.items ++ [])));
      rest_are = All-nil (IsStretch design bound);
    },
    refl,
    refl,
  )

  -- before the first stretch `first` is where it was, and after it is decided
  abbrev pub StageOf : (a b : WorkerState T) → Passed design bound part a b [] → Type 0
  StageOf a b p = ((b.first ≡ a.first) × (b.quota ≡ a.quota)) ⊎ ((0 < a.quota) × IsDecidedFirst a.first b.first p.did.logged)

  -- what holds between stretches
  pub record IsGoing (a b : WorkerState T) : Type 0 where
    pub passed : Passed design bound part a b []
    pub over : IsOver a b passed
    pub stage : StageOf a b passed

  -- before the first stretch nothing was done
  pub not_begun : (a : WorkerState T) → IsGoing a a
  unfolding did-none
  not_begun a = record {
    passed = record {
      rest = [];
      did = did-none design bound a a [] [] refl refl (refl, refl, refl, refl) refl (λ w. refl) (never_fell a.place.owner.empty_takes, thieves_never_fell a.place.thieves.items);
      logs = record {
        pieces = [];
        log = sym (append-nil a.log.items);
        told = refl;
        read = All-nil (λ q. (map (λ (m : Mark). m.tag) (marks_in design q) ≡ q.tags.items) × (0 < length q.tags.items));
        kept_parts = All-nil (λ q. AreKept part a.seat.seen (marks_in design q) q.kept.items);
      };
      kept = sym (append-nil a.kept.items) ∙ sym (append-nil (a.kept.items ++ []));
      rest_are = All-nil (IsStretch design bound);
    };
    over = inl refl;
    stage = inl (refl, refl);
  }

  -- while some of the quota is left, nothing is left of the last stretch
  none-left : (a b : WorkerState T) (g : IsGoing a b) → 0 < b.quota → g.passed.rest ≡ []
  none-left a b g some = elim g.over [ inl none ↦ none | inr spent ↦ absurd (let z = spent.1 in omega (arith, z, some)) ]

  -- `first` decided by one stretch, or before it
  stage-on : (a b c : WorkerState T) (g : IsGoing a b) (more : List Entry) → IsDecidedFirst b.first c.first more → IsDecidedFirst a.first c.first (g.passed.did.logged ++ more)
  stage-on a b c g more d =
      let P = λ (t : Stretch) (e : Entry). e.node ≡ t.cursor.node in
      elim g.stage [
        | inl same ↦ (d.0, if_some_weaker (λ t. Any (P t) more) (λ t. Any (P t) (g.passed.did.logged ++ more)) (λ t h. any-right (P t) g.passed.did.logged more h) a.first (subst (λ o. IfSome o (λ t. Any (P t) more)) same.0 d.1))
        | inr h ↦ (d.0, if_some_weaker (λ t. Any (P t) g.passed.did.logged) (λ t. Any (P t) (g.passed.did.logged ++ more)) (λ t k. any-left (P t) g.passed.did.logged more k) a.first h.1.1)
      ]

  -- where there is none in `first`, it was decided before, or there never was one
  stage-not : (a b c : WorkerState T) (g : IsGoing a b) (more : List Entry) → b.first ≡ None → c.first ≡ None → IsDecidedFirst a.first c.first (g.passed.did.logged ++ more)
  stage-not a b c g more none gone =
      let P = λ (t : Stretch) (e : Entry). e.node ≡ t.cursor.node in
      elim g.stage [
        | inl same ↦ (gone, subst (λ o. IfSome o (λ t. Any (P t) (g.passed.did.logged ++ more))) (sym none ∙ same.0) tt)
        | inr h ↦ (gone, if_some_weaker (λ t. Any (P t) g.passed.did.logged) (λ t. Any (P t) (g.passed.did.logged ++ more)) (λ t k. any-left (P t) g.passed.did.logged more k) a.first h.1.1)
      ]

  -- after a walk the worker is ready for another stretch
  pub ready-on : (S : Stretch → Type 0) (b m c : WorkerState T) (s : Stretch) → IsStep S b m (Some s) → IsWalkedOver design bound part s m c → IsReady design bound c
  ready-on S b m c s f o = record {
    first = subst (λ t. IfSome t (IsStretch design bound)) (sym (o.first ∙ first-gone b.first m.first s f.found_is.0)) tt;
    best = o.best;
  }

  -- one stretch more
  pub going-on : (S : Stretch → Type 0) (a b m c : WorkerState T) (s : Stretch) → IsGoing a b → 0 < b.quota → IsStep S b m (Some s) → IsWalkedOver design bound part s m c → IsGoing a c
  unfolding passed-trans did-trans did-also
  going-on S a b m c s g some f o =
      let q = found-passed S b m c s f o in
      record {
        passed = passed-trans a b c [] g.passed (none-left a b g some) q.0;
        over = q.1;
        stage = inr ((let e = g.passed.did.quota in omega (arith, e, some)), stage-on a b c g q.0.did.logged q.2);
      }

  -- where the quota is spent, the stretches so far are a pass that ends so
  pub going-spent : (a b : WorkerState T) → IsGoing a b → b.quota ≡ 0 → (p : Passed design bound part a b []) × PassEnds a b p QuotaSpent
  going-spent a b g zero_left = (
    g.passed,
    (
      zero_left,
      elim g.over [ inl none ↦ (let n = ap length none in omega (arith, n)) | inr one ↦ (let n = one.0 in omega (arith, n)) ],
      (λ some. elim g.stage [ inl same ↦ absurd (let e = same.1 in omega (arith, some, e, zero_left)) | inr d ↦ d.1 ]),
      (λ no. elim g.stage [ inl same ↦ same.0 | inr d ↦ absurd (let e = d.0 in omega (arith, no, e)) ]),
    ),
  )

  -- where none was found either
  pub going-not : (S : Stretch → Type 0) (a b c : WorkerState T) → IsGoing a b → 0 < b.quota → IsStep S b c None → (p : Passed design bound part a c []) × PassEnds a c p FoundNothing
  unfolding passed-trans did-trans did-also
  going-not S a b c g some f =
      let q = not-passed S b c f in
      let n = first-not b.first c.first f.found_is.0 in
      let rose = f.found_is.5 refl in (
        passed-trans a b c [] g.passed (none-left a b g some) q.0,
        (
          (let e = f.quota in omega (arith, e, some)),
          q.1,
          stage-not a b c g q.0.did.logged n.0 n.1,
          ((let k = g.passed.did.empty_takes.0 in let r = rose.0 in omega (arith, k, r)), thieves_fell-rose a.place.thieves.items b.place.thieves.items c.place.thieves.items g.passed.did.empty_takes.1 rose.1),
        ),
      )
