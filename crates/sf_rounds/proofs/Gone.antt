-- A round goes on from what was decided before.
use Rattle.std.proofs.Common.{◌≡◌, ℕ, ◌+◌, ◌<◌, ◌≤◌, ◌⊎◌, inl, inr, List, [], ◌∷◌, ◌++◌, map, length, All, ap, sym, ◌∙◌, subst, refl, arith, append-nil, length-append}
use Rattle.sf_rounds.proofs.Common.{sum_by, Any, Option, Some, None, MatchOption, IsPermutation, slice_get, flat_map, sum_by-append, sum_by-IsPermutation, IsPermutation-refl, All-nil, All-append, All-weaker, Design, block_count, Expr, IsWritable, Stretch, Part, Parts, Entry, IsDecided, children, HasCost, BranchesFirst, IsStretch, IsPlan, IsEntry, Solves, any-left, any-right, AreTold, RoundOut, all_waits, IsGone, IsLeg, IsStep, IsAbsorbed, AreParts, newer, tags_in, nodes-permute}
use Rattle.sf_rounds.specs.Run.{IsBest}
use Rattle.sf_rounds.specs.declared.legs.Leg.{Leg}
use Rattle.sf_rounds.proofs.Formed.{plan-formed}
use Rattle.sf_rounds.proofs.Told.{told-none, told-lower, told-both, told-count}
use Rattle.sf_rounds.proofs.Whole.{weigh_map, weigh_flat}

-- the subproblem of an entry
abbrev node_of : Entry → Parts
node_of e = e.node

-- a list that is not empty has a first element
first-of : {X : Type 0} (xs : List X) → 0 < length xs → (x : X) × (slice_get xs 0 ≡ Some x)
first-of [] h = absurd (omega (arith, h))
first-of (x ∷ xs) h = (x, refl)

-- where one is found there are some
some-length : {X : Type 0} (P : X → Type 0) (xs : List X) → Any P xs → 0 < length xs
some-length P xs h = (let b = h.2 in omega (arith, b))

module _ (design : Design) (bound : Parts → ℕ) where
  -- what was given to a part of the search is decided or left by it
  conserved-on : (start open' given left : List Parts) (entries more : List Entry) → IsPermutation (start ++ flat_map children entries) (map node_of entries ++ open') → IsPermutation open' given → IsPermutation (given ++ flat_map children more) (map node_of more ++ left)
      → IsPermutation (start ++ flat_map children (entries ++ more)) (map node_of (entries ++ more) ++ left)
  conserved-on start open' given left entries more p o q =
      nodes-permute (start ++ flat_map children (entries ++ more)) (map node_of (entries ++ more) ++ left) (λ w.
      let c : Entry → ℕ = λ e. sum_by w (children e) in
      let n : Entry → ℕ = λ e. w e.node in
      omega (
        arith,
        sum_by-IsPermutation w (start ++ flat_map children entries) (map node_of entries ++ open') p,
        sum_by-IsPermutation w open' given o,
        sum_by-IsPermutation w (given ++ flat_map children more) (map node_of more ++ left) q,
        sum_by-append w start (flat_map children entries),
        sum_by-append w (map node_of entries) open',
        sum_by-append w given (flat_map children more),
        sum_by-append w (map node_of more) left,
        sum_by-append w start (flat_map children (entries ++ more)),
        sum_by-append w (map node_of (entries ++ more)) left,
        weigh_flat w children entries,
        weigh_flat w children more,
        weigh_flat w children (entries ++ more),
        weigh_map w node_of entries,
        weigh_map w node_of more,
        weigh_map w node_of (entries ++ more),
        sum_by-append c entries more,
        sum_by-append n entries more,
      ))

  -- the expression of a plan costs what the plan does, and can be written
  plan-best : (expr : Expr) (z : ℕ) → IsPlan design expr z → HasCost design expr z × IsWritable (block_count design) expr
  plan-best expr z p = (record { tree = p.1.tree; spells = p.1.spells; legal = p.1.belongs.legal; fits = p.1.fits; costs = p.1.costs }, plan-formed design p.0 expr z p.1)

  -- after a round the newer plan is the best: it costs the value, or there is none and the value is none
  best-newer : (new old : Option Expr) (before after : ℕ) → MatchOption new (after ≡ before) (λ e. (after < before) × IsPlan design e after) → IsBest design before old → IsBest design after (newer new old)
  best-newer None old before after e h = subst (λ z. IsBest design z old) (sym e) h
  best-newer (Some expr) old before after e h = plan-best expr after e.1

  -- the value after more entries is the start, or the bound of a solved subproblem among all
  found-more : (start before after : ℕ) (entries more : List Entry) → (before ≡ start) ⊎ Any (Solves design bound before) entries → (after ≡ before) ⊎ Any (Solves design bound after) more → (after ≡ start) ⊎ Any (Solves design bound after) (entries ++ more)
  found-more start before after entries more old new =
      elim new [
        | inl same ↦ elim old [
          | inl none ↦ inl (same ∙ none)
          | inr some ↦ inr (any-left (Solves design bound after) entries more (subst (λ z. Any (Solves design bound z) entries) (sym same) some))
        ]
        | inr some ↦ inr (any-right (Solves design bound after) entries more some)
      ]

  module _ (part : Parts → Part → ℕ) where
    -- a round decides one subproblem at least
    pub one-at-least : (parts : List Stretch) (value budget : ℕ) (out : RoundOut) (s : IsStep design bound part parts value budget out) → 0 < length parts → 0 < length s.round.entries
    one-at-least parts value budget out s some =
        let first = first-of parts some in
        some-length (λ (e : Entry). e.node ≡ first.0.cursor.node) s.round.entries (s.round.firsts 0 first.0 first.1 s.some)

    -- its pieces tell no more than the budget allows
    pub step-few : (parts : List Stretch) (value budget : ℕ) (out : RoundOut) (s : IsStep design bound part parts value budget out) → tags_in out.pieces.items ≤ budget
    step-few parts value budget out s =
        let n = told-count design part out.value s.round.entries [] out.pieces.items s.round.told in
        omega (arith, n, s.round.few, s.few)

    module _ (given : List Stretch) (value : ℕ) where
      -- before the first round nothing is decided
      pub gone-none : (leg : Leg) → leg.left.items ≡ given → leg.pieces.items ≡ [] → leg.value ≡ value → All (IsStretch design bound) given → IsBest design value leg.best → (g : IsGone design bound part given value leg) × (length g.entries ≡ 0)
      gone-none leg left pieces same all best = (
        record {
          entries = [];
          told = subst (AreTold design part leg.value [] []) (sym pieces) (told-none design part leg.value);
          conserved = record {
            same = subst (λ ss. IsPermutation (all_waits design given ++ []) (all_waits design ss)) (sym left) (subst (λ z. IsPermutation z (all_waits design given)) (sym (append-nil (all_waits design given))) (IsPermutation-refl (all_waits design given)));
            decided = All-nil (λ (e : Entry). IsDecided e.kind e.node (bound e.node) e.value);
          };
          left = subst (All (IsStretch design bound)) (sym left) all;
          best = subst (λ z. IsBest design z leg.best) (sym same) best;
          fell = omega (arith, same);
          found = inl same;
          fresh = All-nil (λ (e : Entry). leg.value ≤ e.value);
          splits = All-nil (λ (e : Entry). BranchesFirst design e.kind e.node);
        },
        refl,
      )

      -- what is left, cut into parts, is decided in one round more
      pub gone-on : (old mid new : Leg) (parts : List Stretch) (budget : ℕ) (out : RoundOut) (g : IsGone design bound part given value old) → AreParts design bound old.left.items parts
          → (s : IsStep design bound part parts old.value budget out) → mid.pieces.items ≡ old.pieces.items → mid.best ≡ old.best → IsAbsorbed out mid new
          → (n : IsGone design bound part given value new) × (length n.entries ≡ length g.entries + length s.round.entries)
      gone-on old mid new parts budget out g cut s pieces best a =
          let r = s.round in
          let es = g.entries in
          let fs = r.entries in
          let low : new.value ≤ old.value = (let e = a.value in omega (arith, e, r.value_is.fell)) in
          let told : AreTold design part out.value (es ++ fs) [] (old.pieces.items ++ out.pieces.items) =
          told-both design part out.value es [] old.pieces.items fs [] out.pieces.items (told-lower design part old.value out.value es [] old.pieces.items r.value_is.fell g.told) r.told in (
            record {
              entries = es ++ fs;
              told = subst (AreTold design part new.value (es ++ fs) []) (sym (a.pieces ∙ ap (λ ps. ps ++ out.pieces.items) pieces)) (subst (λ z. AreTold design part z (es ++ fs) [] (old.pieces.items ++ out.pieces.items)) (sym a.value) told);
              conserved = record {
                same = subst (λ ss. IsPermutation (all_waits design given ++ flat_map children (es ++ fs)) (map node_of (es ++ fs) ++ all_waits design ss)) (sym a.left)
                    (conserved-on (all_waits design given) (all_waits design old.left.items) (all_waits design parts) (all_waits design out.left.items) es fs g.conserved.same cut.same r.conserved.same);
                decided = All-append (λ (e : Entry). IsDecided e.kind e.node (bound e.node) e.value) es fs g.conserved.decided r.conserved.decided;
              };
              left = subst (All (IsStretch design bound)) (sym a.left) r.left;
              best = subst (IsBest design new.value) (sym (a.best ∙ ap (newer out.best) best)) (subst (λ z. IsBest design z (newer out.best old.best)) (sym a.value) (best-newer out.best old.best old.value out.value r.best g.best));
              fell = (let f = g.fell in omega (arith, low, f));
              found = subst (λ z. (z ≡ value) ⊎ Any (Solves design bound z) (es ++ fs)) (sym a.value) (found-more value old.value out.value es fs g.found r.value_is.is);
              fresh = All-append (λ (e : Entry). new.value ≤ e.value) es fs (All-weaker (λ (e : Entry). old.value ≤ e.value) (λ (e : Entry). new.value ≤ e.value) (λ e l. omega (arith, l, low)) es g.fresh)
                  (All-weaker (λ (e : Entry). out.value ≤ e.value) (λ (e : Entry). new.value ≤ e.value) (λ e l. (let k = a.value in omega (arith, l, k))) fs r.value_is.named);
              splits = All-append (λ (e : Entry). BranchesFirst design e.kind e.node) es fs g.splits (All-weaker (IsEntry design bound) (λ (e : Entry). BranchesFirst design e.kind e.node) (λ e i. i.1) fs r.entries_are);
            },
            length-append es fs,
          )

      -- what holds between two rounds: so much of the budget is left
      abbrev pub Goes : ℕ → ℕ → Leg → Type 0
      Goes nodes budget leg = (g : IsGone design bound part given value leg) × (length g.entries + budget ≡ nodes)

      -- one round more: each subproblem that its pieces tell takes one of the budget
      pub goes-on : (nodes budget budget' : ℕ) (old mid new : Leg) (parts : List Stretch) (out : RoundOut) → Goes nodes budget old → AreParts design bound old.left.items parts → IsStep design bound part parts old.value budget out
          → mid.pieces.items ≡ old.pieces.items → mid.best ≡ old.best → IsAbsorbed out mid new → budget' + tags_in out.pieces.items ≡ budget → Goes nodes budget' new
      goes-on nodes budget budget' old mid new parts out g cut s pieces best a left =
          let n = gone-on old mid new parts budget out g.0 cut s pieces best a in
          let told = told-count design part out.value s.round.entries [] out.pieces.items s.round.told in
          (n.0, (let e = g.1 in let m = n.1 in omega (arith, e, m, told, left)))

      -- so less of the budget is left
      pub goes-less : (budget budget' : ℕ) (old : Leg) (parts : List Stretch) (out : RoundOut) → AreParts design bound old.left.items parts → 0 < length old.left.items → IsStep design bound part parts old.value budget out → budget' + tags_in out.pieces.items ≡ budget → budget' < budget
      goes-less budget budget' old parts out cut some s left =
          let told = told-count design part out.value s.round.entries [] out.pieces.items s.round.told in
          let one = one-at-least parts old.value budget out s (omega (arith, cut.many, some)) in
          omega (arith, told, one, left)

      -- where nothing is left, or the budget is spent, the search is at its end
      pub leg-is : (nodes budget : ℕ) (leg : Leg) → Goes nodes budget leg → (leg.left.items ≡ []) ⊎ (budget ≡ 0) → IsLeg design bound part given value nodes leg
      leg-is nodes budget leg g end = record {
        gone = g.0;
        few = (let e = g.1 in omega (arith, e));
        spent = λ some. elim end [
          | inl none ↦ absurd (some none)
          | inr zero_left ↦ (let e = g.1 in omega (arith, e, zero_left))
        ];
      }
