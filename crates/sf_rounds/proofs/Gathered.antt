-- What is gathered, one worker after another.
use Rattle.std.proofs.Common.{◌≡◌, ◌+◌, ◌≤◌, inl, inr, min, List, [], ◌∷◌, ◌++◌, ap, sym, ◌∙◌, subst, refl, arith}
use Rattle.sf_rounds.proofs.Common.{Any, IsOk, cases_lt, map-append, flat_map_more, sum_by_push, All-push, All-weaker, Design, Knows, any-left, any-right, Job, Gathers, Adds, place_of, log_of, open_of}
use Rattle.sf_rounds.specs.declared.job.Gathering.{Gathering}

module _ {T : Type 0} where
  -- what one worker adds is gathered behind what the others left
  pub gathers-one_more : (design : Design) (js : List (Job T)) (j : Job T) (seat0 old new : Knows) (a b : Gathering T)
      → Gathers design js seat0 old a.places.items a.pieces.items a.left.items a.best → Adds design j old new a b
      → Gathers design (js ++ j ∷ []) seat0 new b.places.items b.pieces.items b.left.items b.best
  gathers-one_more design js j seat0 old new a b g h =
      let offered : new.offered ≡ min old.offered j.state.seat.offered = ap (λ (k : Knows). k.offered) h.seat in
      let seen : new.seen ≡ min old.seen j.state.seat.seen = ap (λ (k : Knows). k.seen) h.seat in
      let parts : new.parts ≡ old.parts + j.state.seat.parts = ap (λ (k : Knows). k.parts) h.seat in record {
        places_are = h.places ∙ (ap (λ z. z ++ place_of j ∷ []) g.places_are ∙ sym (map-append (λ (k : Job T). place_of k) js (j ∷ [])));
        pieces_are = h.pieces ∙ (ap (λ z. z ++ log_of j) g.pieces_are ∙ flat_map_more (λ (k : Job T). log_of k) [] js j);
        left_are = h.left ∙ (ap (λ z. z ++ open_of j) g.left_are ∙ flat_map_more (λ (k : Job T). open_of k) [] js j);
        word = ap (λ (k : Knows). k.word) h.seat ∙ g.word;
        parts = omega (arith, parts, g.parts, sum_by_push (λ (k : Job T). k.state.seat.parts) js j);
        least = (
          (let l = g.least.0 in omega (arith, offered, l)),
          All-push (λ (k : Job T). new.offered ≤ k.state.seat.offered) js j
              (All-weaker (λ (k : Job T). old.offered ≤ k.state.seat.offered) (λ (k : Job T). new.offered ≤ k.state.seat.offered) (λ k l. omega (arith, l, offered)) js g.least.1) (omega (arith, offered)),
        );
        offered = elim (cases_lt j.state.seat.offered old.offered) [
          | inl less ↦ inr (any-right (λ (k : Job T). k.state.seat.offered ≡ new.offered) js (j ∷ []) (0, j, omega arith, refl, omega (arith, less, offered)))
          | inr more ↦ (let same : new.offered ≡ old.offered = omega (arith, more, offered) in elim g.offered [
            | inl e ↦ inl (same ∙ e)
            | inr some ↦ inr (any-left (λ (k : Job T). k.state.seat.offered ≡ new.offered) js (j ∷ []) (subst (λ z. Any (λ (k : Job T). k.state.seat.offered ≡ z) js) (sym same) some))
          ])
        ];
        seen = All-push (λ (k : Job T). new.seen ≤ k.state.seat.seen) js j
            (All-weaker (λ (k : Job T). old.seen ≤ k.state.seat.seen) (λ (k : Job T). new.seen ≤ k.state.seat.seen) (λ k l. omega (arith, l, seen)) js g.seen) (omega (arith, seen));
        best_is = h.best;
        ends = All-push (λ (k : Job T). IsOk k.end) js j g.ends h.end;
      }
