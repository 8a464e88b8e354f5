-- What a round leaves, from what its workers did.
use Rattle.std.proofs.Common.{◌≡◌, ℕ, zero, suc, ◌<◌, ◌≤◌, ◌⊎◌, inl, inr, min, List, [], ◌∷◌, ◌++◌, All, ap, sym, ◌∙◌, subst, arith}
use Rattle.sf_rounds.proofs.Common.{Any, Option, Some, None, MatchOption, IsTrue, slice_index_or, sum, cases_lt, All-append, All-weaker, All-nil, All-cons, All-head, All-tail, Design, MAX, Expr, Stretch, Part, Parts, is_solved, Entry, Kind, IsDecided, Word, Knows, Place, IsFinished, IsStretch, IsPlan, IsEntry, Solves, IsBest, Job, RoundOut, AreTold, EachTwo, IsFresh, Dealt, Gathers, IsRound, Piece}
use Rattle.sf_search_core.specs.declared.entry.Kind.TheVariants.{Closed}
use Rattle.sf_rounds.proofs.Whole.{Went, entries_in, conserved, all_entries, all_open, all_named, all_few, all_told}
use Rattle.sf_rounds.proofs.Team.{all_solved, all_firsts}

module _ (design : Design) (bound : Parts → ℕ) (part : Parts → Part → ℕ) where
  -- a round of smaller quotas is one of these, where one that has a decision is one that has
  pub round-within : (given : List Stretch) (quotas smaller : List ℕ) (value : ℕ) (r : RoundOut) → sum smaller ≤ sum quotas → ((i : ℕ) → 1 ≤ slice_index_or quotas i 0 → 1 ≤ slice_index_or smaller i 0)
      → IsRound design bound part given smaller value r → IsRound design bound part given quotas value r
  round-within given quotas smaller value r within some h = record {
    entries = h.entries;
    told = h.told;
    conserved = h.conserved;
    left = h.left;
    value_is = h.value_is;
    best = h.best;
    few = (let f = h.few in omega (arith, f, within));
    entries_are = h.entries_are;
    firsts = λ i s e one. h.firsts i s e (some i one);
  }

  -- a number that is at most a closed entry's value is at most its subproblem's bound
  below-closed : (z : ℕ) (k : Kind) (node : Parts) (v : ℕ) → z ≤ v → IsDecided k node (bound node) v → k ≡ Closed → z ≤ bound node
  below-closed z k node v low d e = (let h = subst (λ i. IsDecided i node (bound node) v) e d in omega (arith, low, h))

  -- a number that is at most all values is at most the bound of each closed and solved entry
  all-below : (z : ℕ) (es : List Entry) → All (λ (e : Entry). z ≤ e.value) es → All (IsEntry design bound) es → All (λ (e : Entry). e.kind ≡ Closed → IsTrue (is_solved design e.node) → z ≤ bound e.node) es
  all-below z [] low h = All-nil (λ (e : Entry). e.kind ≡ Closed → IsTrue (is_solved design e.node) → z ≤ bound e.node)
  all-below z (e ∷ es) low h =
      All-cons (λ (e : Entry). e.kind ≡ Closed → IsTrue (is_solved design e.node) → z ≤ bound e.node) e es
      (λ closed solved. below-closed z e.kind e.node e.value (All-head (λ (x : Entry). z ≤ x.value) e es low) (All-head (IsEntry design bound) e es h).0 closed)
      (all-below z es (All-tail (λ (x : Entry). z ≤ x.value) e es low) (All-tail (IsEntry design bound) e es h))

  -- a plan below the value costs the lesser of the value and the offer, or there is none and that is the
  -- value
  best-least : (best : Option Expr) (value o z : ℕ) → z ≡ min value o → MatchOption best (value ≤ o) (λ e. (o < value) × IsPlan design e o) → MatchOption best (z ≡ value) (λ e. (z < value) × IsPlan design e z)
  best-least None value o z e h = omega (arith, e, h)
  best-least (Some expr) value o z e h = (let same : o ≡ z = omega (arith, e, h.0) in (omega (arith, same, h.0), subst (IsPlan design expr) same h.1))

  -- the plan of an offer, where each offer lies below the value
  plan-below : (best : Option (Expr × ℕ)) (plan : Option Expr) (value o : ℕ) → MatchOption best (plan ≡ None) (λ b. plan ≡ Some b.0) → IsBest design best o → (o < MAX → o < value) → value ≤ MAX
      → MatchOption plan (value ≤ o) (λ e. (o < value) × IsPlan design e o)
  plan-below None plan value o e h below most = subst (λ p. MatchOption p (value ≤ o) (λ x. (o < value) × IsPlan design x o)) (sym e) (omega (arith, h, most))
  plan-below (Some b) plan value o e h below most = subst (λ p. MatchOption p (value ≤ o) (λ x. (o < value) × IsPlan design x o)) (sym e) (below h.2, subst (IsPlan design b.0) h.1 h.0)

  module _ {T : Type 0} (value : ℕ) (word : Word) where
    -- what the worker offered, if anything, lies below the value that was handed in
    abbrev Undercuts : Job T → Type 0
    Undercuts j = j.state.seat.offered < MAX → j.state.seat.offered < value

    -- an offer lies below the value that was handed in
    undercuts : (js ks : List (Job T)) → EachTwo (Went design bound part) js ks → All (IsFresh value word) js → All Undercuts ks
    undercuts [] [] h fs = All-nil Undercuts
    undercuts [] (k ∷ ks) h fs = absurd h
    undercuts (j ∷ js) [] h fs = absurd h
    undercuts (j ∷ js) (k ∷ ks) h fs =
        let seat = (All-head (IsFresh value word) j js fs).seat in
        let offered : j.state.seat.offered ≡ MAX = ap (λ (s : Knows). s.offered) seat in
        let seen : j.state.seat.seen ≡ value = ap (λ (s : Knows). s.seen) seat in
        All-cons Undercuts k ks (λ small. (let u = h.0.1.passed.did.undercut (omega (arith, small, offered)) in omega (arith, u, seen))) (undercuts js ks h.1 (All-tail (IsFresh value word) j js fs))

    -- an offer of one of the workers lies below the value that was handed in
    any-undercuts : (o : ℕ) (ks : List (Job T)) → All Undercuts ks → Any (λ k. k.state.seat.offered ≡ o) ks → o < MAX → o < value
    any-undercuts o [] all some small = absurd (let b = some.2 in omega (arith, b))
    any-undercuts o (k ∷ ks) all (zero, x, below, is, e) small =
        let same : k.state.seat.offered ≡ o = ap (λ (j : Job T). j.state.seat.offered) is ∙ e in
        let u = All-head Undercuts k ks all (omega (arith, small, same)) in omega (arith, u, same)
    any-undercuts o (k ∷ ks) all (suc i, x, below, is, e) small = any-undercuts o ks (All-tail Undercuts k ks all) (i, x, omega (arith, below), is, e) small

    -- the least offer, where there is one, lies below the value that was handed in
    least-undercuts : (o o0 : ℕ) (js ks : List (Job T)) → o0 ≡ MAX → EachTwo (Went design bound part) js ks → All (IsFresh value word) js → (o ≡ o0) ⊎ Any (λ k. k.state.seat.offered ≡ o) ks → o < MAX → o < value
    least-undercuts o o0 js ks none h fs how small =
        elim how [
          | inl same ↦ absurd (omega (arith, same, none, small))
          | inr some ↦ any-undercuts o ks (undercuts js ks h fs) some small
        ]

    -- the lesser of the value and the least offer is the value, or the bound of a solved entry
    least-is : (z o o0 : ℕ) (js ks : List (Job T)) (h : EachTwo (Went design bound part) js ks) → value ≤ MAX → o0 ≡ MAX → z ≡ min value o → All (IsFresh value word) js → (o ≡ o0) ⊎ Any (λ k. k.state.seat.offered ≡ o) ks
        → (z ≡ value) ⊎ Any (Solves design bound z) (entries_in design bound part js ks h)
    least-is z o o0 js ks h most none e fs how =
        elim (cases_lt o value) [
          | inl less ↦ elim how [
            | inl same ↦ absurd (omega (arith, same, none, less, most))
            | inr some ↦ (let is : o ≡ z = omega (arith, e, less) in
                inr (all_solved design bound part value word z (omega (arith, e, less, most)) js ks h fs (subst (λ y. Any (λ (k : Job T). k.state.seat.offered ≡ y) ks) is some)))
          ]
          | inr more ↦ inl (omega (arith, e, more))
        ]

    -- what the workers did, gathered, is a round of the stretches given
    pub rounded : (given : List Stretch) (quotas : List ℕ) (js ks : List (Job T)) (places : List (Place T)) (pieces : List Piece) (left kept : List Stretch) (best : Option (Expr × ℕ)) (first last : Knows) (r : RoundOut)
        → EachTwo (Went design bound part) js ks → Dealt design bound value word given quotas js → Gathers design ks first last places pieces kept best → first.offered ≡ MAX → value ≤ MAX
        → IsFinished places left → All (IsStretch design bound) left → r.left.items ≡ left ++ kept → r.pieces.items ≡ pieces → r.value ≡ min value last.offered → r.value ≤ last.seen
        → MatchOption best (r.best ≡ None) (λ b. r.best ≡ Some b.0)
        → IsRound design bound part given quotas value r
    rounded given quotas js ks places pieces left kept best first last r h d g none most fin stretches el ep ev es plan =
        let entries = entries_in design bound part js ks h in
        let all = all_entries design bound part value word js ks h in
        let seen = All-weaker (λ (k : Job T). last.seen ≤ k.state.seat.seen) (λ (k : Job T). r.value ≤ k.state.seat.seen) (λ k l. omega (arith, l, es)) ks g.seen in
        let low = all_named design bound part value word r.value js ks h seen in
        record {
          entries = entries;
          told = subst (AreTold design part r.value entries []) (sym (ep ∙ g.pieces_are)) (all_told design bound part value word r.value js ks h d.fresh seen);
          conserved = record {
            same = conserved design bound part value word given quotas js ks places left kept r.left.items h d g.places_are g.left_are fin el;
            decided = All-weaker (IsEntry design bound) (λ (e : Entry). IsDecided e.kind e.node (bound e.node) e.value) (λ e i. i.0) entries all;
          };
          left = subst (All (IsStretch design bound)) (sym el) (All-append (IsStretch design bound) left kept stretches (subst (All (IsStretch design bound)) (sym g.left_are) (all_open design bound part value word js ks h d.fresh)));
          value_is = record {
            fell = omega (arith, ev);
            named = low;
            below = all-below r.value entries low all;
            is = least-is r.value last.offered first.offered js ks h most none ev d.fresh g.offered;
          };
          best = best-least r.best value last.offered r.value ev (plan-below best r.best value last.offered plan g.best_is (least-undercuts last.offered first.offered js ks none h d.fresh g.offered) most);
          few = all_few design bound part value word given quotas js ks h d.firsts;
          entries_are = all;
          firsts = λ i t e some. all_firsts design bound part value word given quotas js ks h d.firsts i t e some;
        }
