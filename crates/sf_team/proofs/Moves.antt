-- Each step keeps the rule.
use Rattle.std.proofs.Common.{◌≡◌, ◌≢◌, ◌⊎◌, ℕ, zero, suc, true, false, true≢false, List, [], ◌∷◌, ◌++◌, set, sym, refl, ap, ◌∙◌, subst, ⊎_elim, inl, inr, arith, Contains}
use Rattle.sf_team.proofs.Common.{Contains-append_left, Contains-append_right, Contains-append_cases, Message, Hand, hand, AreAmong, Fits, OneSends}
use mathlib.Core.Option.{some, some-injective, some-ne-none}
use lib.ListN.{get_elem?}
use Rattle.crossbeam_channel.specs.Fifo.{Pushes, Pops, Forks, Merges, Learns}

module _ {J : Type 0} where
  -- what stands in a list where one place changed
  at_set : (l : List (Hand J)) (i j : ℕ) (a b : Hand J) → get_elem? (set l i a) j ≡ some b → ((j ≡ i) × (a ≡ b)) ⊎ ((j ≢ i) × (get_elem? l j ≡ some b))
  at_set [] i j a b e = absurd (some-ne-none b (sym e))
  at_set (x ∷ xs) zero zero a b e = inl (refl, some-injective a b e)
  at_set (x ∷ xs) zero (suc j) a b e = inr ((λ h. omega arith), e)
  at_set (x ∷ xs) (suc i) zero a b e = inr ((λ h. omega arith), e)
  at_set (x ∷ xs) (suc i) (suc j) a b e = ⊎_elim (λ t. inl (ap suc t.0, t.1)) (λ t. let n = t.0 in inr ((λ h. n (omega arith)), t.1)) (at_set xs i j a b e)

  -- what stands in a list with one more at its end
  at_snoc : (l : List (Hand J)) (a b : Hand J) (j : ℕ) → get_elem? (l ++ a ∷ []) j ≡ some b → (get_elem? l j ≡ some b) ⊎ (a ≡ b)
  at_snoc [] a b zero e = inr (some-injective a b e)
  at_snoc [] a b (suc j) e = absurd (some-ne-none b (sym e))
  at_snoc (x ∷ xs) a b zero e = inl e
  at_snoc (x ∷ xs) a b (suc j) e = at_snoc xs a b j e

  -- a fact of the pass that changed, and of all others
  set_fits : (F : ℕ → Hand J → Type 0) (views : List (Hand J)) (pass : ℕ) (w : Hand J) → F pass w → ((j : ℕ) (u : Hand J) → j ≢ pass → get_elem? views j ≡ some u → F j u)
      → (j : ℕ) (u : Hand J) → get_elem? (set views pass w) j ≡ some u → F j u
  set_fits F views pass w mine others j u e = ⊎_elim (λ (x : (j ≡ pass) × (w ≡ u)). subst (λ (y : ℕ × Hand J). F y.0 y.1) (λ i. (sym x.0 i, x.1 i)) mine)
      (λ (x : (j ≢ pass) × (get_elem? views j ≡ some u)). others j u x.0 x.1) (at_set views pass j w u e)

  -- no message is among any
  none_among : (xs : List (Message J)) → AreAmong [] xs
  none_among xs x c = let h = c.1 in absurd (omega arith)

  -- two lists of messages are among others
  both_among : (xs ys zs : List (Message J)) → AreAmong xs zs → AreAmong ys zs → AreAmong (xs ++ ys) zs
  both_among xs ys zs a b x c = ⊎_elim (λ h. a x h) (λ h. b x h) (Contains-append_cases xs ys x c)

  -- others more change nothing
  more_among : (xs ys zs : List (Message J)) → AreAmong xs ys → AreAmong xs (ys ++ zs)
  more_among xs ys zs a x c = Contains-append_left ys zs x (a x c)

  -- a pass that did nothing fits
  idle_fits : (caller : ℕ) (sent : List (Message J)) (pass : ℕ) → Fits caller sent pass (hand false [] [])
  idle_fits caller sent pass = record { sends = λ p. absurd (true≢false (sym p)); took = none_among sent }

  -- so does the first pass
  begin_fits : (pass : ℕ) (v : Hand J) → get_elem? (hand true [] [] ∷ []) pass ≡ some v → Fits 0 [] pass v
  begin_fits zero v e = subst (Fits 0 [] 0) (some-injective (hand true [] []) v e) (record { sends = λ _. (refl, refl); took = none_among [] })
  begin_fits (suc j) v e = absurd (some-ne-none v (sym e))

  -- the rule holds at the beginning
  pub begins : OneSends {J = J} [] (hand true [] [] ∷ [])
  begins = record { caller = 0; sent = []; held = none_among []; fits = begin_fits }

  -- a send by the caller keeps it
  pub sends : (n pass : ℕ) (v : Hand J) (x : Message J) → v.sends ≡ true → Pushes OneSends n pass v x (λ w. w ≡ hand v.sends (v.sent ++ x ∷ []) v.taken)
  sends n pass v x may items views room h at =
      let w = hand v.sends (v.sent ++ x ∷ []) v.taken in
      let sent = h.sent ++ x ∷ [] in
      let mine = h.fits pass v at in (
        w,
        record {
          caller = h.caller;
          sent = sent;
          held = both_among items (x ∷ []) sent (more_among items h.sent (x ∷ []) h.held) (λ y c. Contains-append_right h.sent (x ∷ []) y c);
          fits = set_fits (Fits h.caller sent) views pass w
              (record { sends = λ _. ((mine.sends may).0, ap (λ l. l ++ x ∷ []) (mine.sends may).1); took = more_among v.taken h.sent (x ∷ []) mine.took })
              (λ j u other e. record {
                sends = λ p. absurd (other (((h.fits j u e).sends p).0 ∙ sym (mine.sends may).0));
                took = more_among u.taken h.sent (x ∷ []) (h.fits j u e).took;
              });
        },
        refl,
      )

  -- so does a receive by anyone
  pub takes : (pass : ℕ) (v : Hand J) → Pops OneSends pass v (λ x w. w ≡ hand v.sends v.sent (v.taken ++ x ∷ []))
  takes pass v x items views h at =
      let w = hand v.sends v.sent (v.taken ++ x ∷ []) in
      let mine = h.fits pass v at in (
        w,
        record {
          caller = h.caller;
          sent = h.sent;
          held = λ y c. h.held y (Contains-append_right (x ∷ []) items y c);
          fits = set_fits (Fits h.caller h.sent) views pass w
              (record { sends = mine.sends; took = both_among v.taken (x ∷ []) h.sent mine.took (λ y c. h.held y (Contains-append_left (x ∷ []) items y c)) })
              (λ j u other e. h.fits j u e);
        },
        refl,
      )

  -- so does a new pass
  pub forks : (pass : ℕ) (v : Hand J) → Forks OneSends pass v v (hand false [] [])
  forks pass v items views h at = record {
    caller = h.caller;
    sent = h.sent;
    held = h.held;
    fits = λ j u e. ⊎_elim (λ x. set_fits (Fits h.caller h.sent) views pass v (h.fits pass v at) (λ k y other f. h.fits k y f) j u x)
        (λ (is : hand false [] [] ≡ u). subst (Fits h.caller h.sent j) is (idle_fits h.caller h.sent j)) (at_snoc (set views pass v) (hand false [] []) u j e);
  }

  -- so does a pass that is joined
  pub merges : (pass : ℕ) (v : Hand J) (other : ℕ) (u : Hand J) → Merges OneSends pass v other u (hand v.sends v.sent (v.taken ++ u.taken)) (hand false [] [])
  merges pass v other u items views h at apart at' =
      let both = hand v.sends v.sent (v.taken ++ u.taken) in
      let mine = h.fits pass v at in
      let was : get_elem? views other ≡ some u = ⊎_elim (λ x. absurd (apart x.0)) (λ x. x.1) (at_set views pass other both u at') in
      let theirs = h.fits other u was in record {
        caller = h.caller;
        sent = h.sent;
        held = h.held;
        fits = set_fits (Fits h.caller h.sent) (set views pass both) other (hand false [] []) (idle_fits h.caller h.sent other)
            (λ j y _ e. set_fits (Fits h.caller h.sent) views pass both
            (record { sends = mine.sends; took = both_among v.taken u.taken h.sent mine.took theirs.took })
            (λ k z _ f. h.fits k z f) j y e);
      }

  -- the caller learns that it sent all that it took and joined
  pub knows : (pass : ℕ) (v : Hand J) → v.sends ≡ true → Learns OneSends pass v (λ items. AreAmong v.taken v.sent)
  knows pass v may items views h at x c = let mine = h.fits pass v at in subst (λ (l : List (Message J)). Contains l x) (sym (mine.sends may).1) (mine.took x c)
