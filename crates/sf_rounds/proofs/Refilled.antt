-- A worker that has drawn goes on with what it kept, as if its quota had been so much larger from the start.
use Rattle.std.proofs.Common.{◌≡◌, ℕ, ◌+◌, ◌≤◌, inl, inr, List, [], ◌∷◌, ◌++◌, length, All, ap, sym, ◌∙◌, subst, refl, arith, append-nil, length-append}
use Rattle.sf_rounds.proofs.Common.{sum_by, Any, Option, Some, None, IfSome, IsOk, cases_lt, sum_by-append, sum_by-cons, All-nil, All-append, All-weaker, IfOk-weaker, all_front, all_last, any-left, Design, Stretch, Part, Parts, Entry, Knows, Word, IsStretch, Solves, AreKept, marks_in, Piece, on_stretch, thief_deques_of, maybe_weighs, stretches_weigh, put_of, taken_of, first_of, thieves_weigh, Passed, PassEnds, PassEnd, Job, Member, Passes, Ran, CanPass, IsLast, IsRefilled, Worked, with_more}
use Rattle.sf_budget.specs.Seen.{AccountView}
use Rattle.sf_worker.specs.declared.state.WorkerState.{WorkerState}
use Rattle.sf_worker.specs.declared.state.PassEnd.TheVariants.{QuotaSpent, FoundNothing}
use Rattle.sf_worker.specs.Took.{ThievesNeverFell}
use Rattle.sf_worker.proofs.Doing.{passed-both}
use Rattle.sf_worker.proofs.Thieves.{thieves_fell-rose}
use Rattle.sf_rounds.proofs.Whole.{ok-holds, stretches-weigh}

-- ---- the stretch that was kept last

-- it weighs what the others lack
last-weighs : (w : Stretch → ℕ) (old new : List Stretch) (o : Option Stretch) → IsLast old new o → sum_by w old ≡ sum_by w new + maybe_weighs w o
last-weighs w old new None h = omega (arith, ap (sum_by w) h.0, ap (sum_by w) h.1)
last-weighs w old new (Some s) h = omega (arith, ap (sum_by w) h, sum_by-append w new (s ∷ []), sum_by-cons w s [])

-- the others are fewer by one, or none
last-short : (n : ℕ) (old new : List Stretch) (o : Option Stretch) → IsLast old new o → length old ≤ n + 1 → length new ≤ n
last-short n old new None h few = omega (arith, ap length h.1)
last-short n old new (Some s) h few = omega (arith, few, ap length h, length-append new (s ∷ []))

-- what holds of all holds of it and of the others
last-all : (P : Stretch → Type 0) (old new : List Stretch) (o : Option Stretch) → IsLast old new o → All P old → All P new × IfSome o P
last-all P old new None h all = (subst (All P) (sym h.1) (All-nil P), tt)
last-all P old new (Some s) h all = let both = subst (All P) h all in (all_front P new (s ∷ []) both, all_last P new s both)

-- ---- one pass more

-- what was decided before is decided with more
decided-more : (o : Option Stretch) (xs ys : List Entry) → IfSome o (λ s. Any (λ (e : Entry). e.node ≡ s.cursor.node) xs) → IfSome o (λ s. Any (λ (e : Entry). e.node ≡ s.cursor.node) (xs ++ ys))
decided-more None xs ys h = tt
decided-more (Some s) xs ys h = any-left (λ (e : Entry). e.node ≡ s.cursor.node) xs ys h

module _ {T : Type 0} (design : Design) (bound : Parts → ℕ) (part : Parts → Part → ℕ) where
  -- the state with a quota of so many more
  abbrev more : WorkerState T → ℕ → WorkerState T
  more s n = record s { quota = s.quota + n }

  -- a pass that spent its quota, of a worker that then took up the stretch that it kept last, is one that left nothing of its last stretch
  taken-up : (a b c : WorkerState T) (n d : ℕ) (p : Passed design bound part (more a n) b []) → a.kept.items ≡ [] → length p.rest ≤ 1 → IsRefilled b c d
      → (r : Passed design bound part (more a (n + d)) c []) × (r.rest ≡ []) × (r.did.logged ≡ p.did.logged)
  taken-up a b c n d p none one f =
      let v : (Parts → ℕ) → Stretch → ℕ = on_stretch design in
      let P = IsStretch design bound in
      let seat : c.seat ≡ b.seat = ap (λ (s : WorkerState T). s.seat) f.frame in
      let place : c.place ≡ b.place = ap (λ (s : WorkerState T). s.place) f.frame in
      let quota : c.quota ≡ d = ap (λ (s : WorkerState T). s.quota) f.frame in
      let seen : c.seat.seen ≡ b.seat.seen = ap (λ (k : Knows). k.seen) seat in
      let offered : c.seat.offered ≡ b.seat.offered = ap (λ (k : Knows). k.offered) seat in
      let count : c.place.owner.refused_puts ≡ b.place.owner.refused_puts = ap (λ q. q.owner.refused_puts) place in
      let takes : c.place.owner.empty_takes ≡ b.place.owner.empty_takes = ap (λ q. q.owner.empty_takes) place in
      let whole : b.kept.items ≡ p.did.refused ++ p.rest = p.kept ∙ ap (λ z. (z ++ p.did.refused) ++ p.rest) none in
      let few : length b.kept.items ≤ length p.did.refused + 1 = omega (arith, ap length whole, length-append p.did.refused p.rest, one) in
      let short = last-short (length p.did.refused) b.kept.items c.kept.items c.first f.last few in
      let all = last-all P b.kept.items c.kept.items c.first f.last (subst (All P) (sym whole) (All-append P p.did.refused p.rest p.did.refused_are p.rest_are)) in (
        record {
          rest = [];
          did = record {
            logged = p.did.logged;
            refused = c.kept.items;
            quota = (let q = p.did.quota in let z = f.spent in omega (arith, q, z, quota));
            seat = (ap (λ (k : Knows). k.word) seat ∙ p.did.seat.0, ap (λ (k : Knows). k.parts) seat ∙ p.did.seat.1);
            deques = (ap (λ q. q.owner.deque) place ∙ p.did.deques.0, ap (λ q. thief_deques_of q.thieves.items) place ∙ p.did.deques.1);
            offered = (let k = p.did.offered in omega (arith, k, offered));
            seen = (let k = p.did.seen in omega (arith, k, seen));
            fell = λ h. subst (λ z. Any (Solves design bound z) p.did.logged) (sym offered) (p.did.fell (omega (arith, h, offered)));
            undercut = λ h. (let k = p.did.undercut (omega (arith, h, offered)) in omega (arith, k, offered));
            entries = p.did.entries;
            fresh = All-weaker (λ (e : Entry). b.seat.seen ≤ e.value) (λ (e : Entry). c.seat.seen ≤ e.value) (λ e h. omega (arith, h, seen)) p.did.logged p.did.fresh;
            refused_are = all.0;
            both = λ w.
                let k = p.did.both w in
                let t : taken_of design w c ≡ taken_of design w b = ap (λ q. sum_by (v w) q.owner.taken + thieves_weigh (v w) q.thieves.items) place in
                let u : put_of design w c ≡ put_of design w b = ap (λ q. stretches_weigh design w q.owner.put) place in
                let g : first_of design w b ≡ 0 = ap (maybe_weighs (v w)) f.no_first in
                omega (arith, k, t, u, g, last-weighs (v w) b.kept.items c.kept.items c.first f.last, ap (stretches_weigh design w) whole, sum_by-append (v w) p.did.refused p.rest, stretches-weigh design w p.rest);
            refusals = ((let r = p.did.refusals.0 in omega (arith, r, count)), λ h. (let r = p.did.refusals.1 (omega (arith, h, count)) in omega (arith, r, count, short)));
            empty_takes = ((let r = p.did.empty_takes.0 in omega (arith, r, takes)), subst (ThievesNeverFell a.place.thieves.items) (sym (ap (λ q. q.thieves.items) place)) p.did.empty_takes.1);
          };
          logs = record {
            pieces = p.logs.pieces;
            log = ap (λ (s : WorkerState T). s.log.items) f.frame ∙ p.logs.log;
            told = p.logs.told;
            read = p.logs.read;
            kept_parts = subst (λ (k : Knows). All (λ (q : Piece). AreKept part k.seen (marks_in design q) q.kept.items) p.logs.pieces) (sym seat) p.logs.kept_parts;
          };
          kept = sym (append-nil (a.kept.items ++ c.kept.items) ∙ ap (λ z. z ++ c.kept.items) none);
          rest_are = All-nil P;
        },
        refl,
        refl,
      )

  -- of a pass that spent its quota and left no first stretch, the first one was decided
  first-before : (a b : WorkerState T) (p : Passed design bound part a b []) → PassEnds a b p QuotaSpent → b.first ≡ None → IfSome a.first (λ s. Any (λ (e : Entry). e.node ≡ s.cursor.node) p.did.logged)
  first-before a b p e none =
      elim (cases_lt 0 a.quota) [
        | inl some ↦ (e.2 some).1
        | inr zero_left ↦ subst (λ o. IfSome o (λ s. Any (λ (e : Entry). e.node ≡ s.cursor.node) p.did.logged)) (sym none ∙ e.3 (omega (arith, zero_left))) tt
      ]

  -- the end of both passes is that of the second
  further-end : (a b c k : WorkerState T) (n d : ℕ) (p : Passed design bound part (more a n) b []) → PassEnds (more a n) b p QuotaSpent → IsRefilled b c d → (q : Passed design bound part c k [])
      → (r : Passed design bound part (more a (n + d)) k []) → r.rest ≡ q.rest → r.did.logged ≡ p.did.logged ++ q.did.logged → (end : PassEnd) → PassEnds c k q end → PassEnds (more a (n + d)) k r end
  further-end a b c k n d p e f q r rest logged QuotaSpent g =
      let quota : c.quota ≡ d = ap (λ (s : WorkerState T). s.quota) f.frame in
      let some = f.some in
      let first = g.2 (omega (arith, quota, some)) in (
        g.0,
        (let l = g.1 in omega (arith, l, ap length rest)),
        (λ _. (first.0, subst (λ es. IfSome a.first (λ s. Any (λ (x : Entry). x.node ≡ s.cursor.node) es)) (sym logged) (decided-more a.first p.did.logged q.did.logged (first-before (more a n) b p e f.no_first)))),
        (λ z. absurd (omega (arith, z, some))),
      )
  further-end a b c k n d p e f q r rest logged FoundNothing g =
      let place : c.place ≡ b.place = ap (λ (s : WorkerState T). s.place) f.frame in
      let takes : c.place.owner.empty_takes ≡ b.place.owner.empty_takes = ap (λ x. x.owner.empty_takes) place in (
        g.0,
        rest ∙ g.1,
        (g.2.0, subst (λ es. IfSome a.first (λ s. Any (λ (x : Entry). x.node ≡ s.cursor.node) es)) (sym logged) (decided-more a.first p.did.logged q.did.logged (first-before (more a n) b p e f.no_first))),
        (
          (let x = p.did.empty_takes.0 in let y = g.3.0 in omega (arith, x, y, takes)),
          thieves_fell-rose a.place.thieves.items c.place.thieves.items k.place.thieves.items (subst (ThievesNeverFell a.place.thieves.items) (sym (ap (λ x. x.thieves.items) place)) p.did.empty_takes.1) g.3.1,
        ),
      )

  -- both passes are one of the larger quota
  further : (a b c k : WorkerState T) (n d : ℕ) (p : Passed design bound part (more a n) b []) → PassEnds (more a n) b p QuotaSpent → a.kept.items ≡ [] → IsRefilled b c d → (q : Passed design bound part c k [])
      → (end : PassEnd) → PassEnds c k q end → (r : Passed design bound part (more a (n + d)) k []) × PassEnds (more a (n + d)) k r end
  further a b c k n d p e none f q end g =
      let t = taken-up a b c n d p none e.1 f in
      let r = passed-both design bound part (more a (n + d)) c k [] t.0 t.1 q in
      (r.0, further-end a b c k n d p e f q r.0 r.1 (r.2 ∙ ap (λ es. es ++ q.did.logged) t.2) end g)

  -- a pass after which no quota is left ended for that
  spent-end : (a b : WorkerState T) (p : Passed design bound part a b []) (end : PassEnd) → PassEnds a b p end → b.quota ≡ 0 → PassEnds a b p QuotaSpent
  spent-end a b p QuotaSpent e z = e
  spent-end a b p FoundNothing e z = absurd (let some = e.0 in omega (arith, some, z))

  -- so with how they ended
  passes-further : (j mid next new : Job T) (n d : ℕ) (end end' : PassEnd) → j.state.kept.items ≡ [] → Passes design bound part (with_more j n) mid end → IsRefilled mid.state next.state d → Passes design bound part next new end'
      → Passes design bound part (with_more j (n + d)) new end'
  passes-further j mid next new n d end end' none p f q =
      let both = further j.state mid.state next.state new.state n d p.passed (spent-end (more j.state n) mid.state p.passed end p.ends f.spent) none f q.passed end' q.ends in
      record { ready = q.ready; passed = both.0; ends = both.1 }

  -- ---- workers with their accounts

  -- before the first draw
  pub worked-first : (old new : Member T) → new.account ≡ old.account → Ran design bound part old.job new.job → Worked design bound part old new
  worked-first old new account ran =
      let same : old.job.state.quota ≡ old.job.state.quota + 0 = omega arith in record {
        drawn = 0;
        account = account ∙ (let e : old.account.drawn ≡ old.account.drawn + 0 = omega arith in ap (λ (n : ℕ). record old.account { drawn = n }) e);
        ran = subst (λ (j : Job T). Ran design bound part j new.job) (ap (λ (n : ℕ). record old.job { state = record old.job.state { quota = n } }) same) ran;
      }

  -- one draw and one pass more
  pub worked-on : (word : Word) (old now new : Member T) (next : Job T) (d : ℕ) → CanPass design bound word old.job → Worked design bound part old now → IsOk now.job.end → IsRefilled now.job.state next.state d
      → new.account ≡ record now.account { drawn = now.account.drawn + d } → Ran design bound part next new.job → Worked design bound part old new
  worked-on word old now new next d can w ok f account ran =
      let p = ok-holds (Passes design bound part (with_more old.job w.drawn) now.job) now.job.end ok w.ran in
      record {
        drawn = w.drawn + d;
        account = account ∙ ap (λ (a : AccountView). record a { drawn = a.drawn + d }) w.account ∙ (let e : (old.account.drawn + w.drawn) + d ≡ old.account.drawn + (w.drawn + d) = omega arith in ap (λ (n : ℕ). record old.account { drawn = n }) e);
        ran = IfOk-weaker new.job.end (Passes design bound part next new.job) (Passes design bound part (with_more old.job (w.drawn + d)) new.job)
            (λ end q. passes-further old.job now.job next new.job w.drawn d p.0 end can.nothing_kept p.1 f q) ran;
      }
