-- The first wrong path is one, and legal paths have none.
use Rattle.std.proofs.Common.{◌≡◌, ℕ, zero, suc, ◌+◌, ◌-◌, ◌≤◌, inl, inr, List, [], ◌∷◌, length, take, drop, arith, refl, ap, sym, subst, ◌∙◌, cond, ◌==◌, ℤ}
use Rattle.sf_model.proofs.Common.{sum_by, flat_map, Net, Pad, Pin, cases_lt, flat_map-append, take-append-drop, All-take, sum_by-append, AreLegal, ArePathsOfAxis, IsFirstWrong, IsPath, first_paths, pad_x, pad_y, uses, Path, Paths, Step}

-- the first of the first items are the first
take-take : {X : Type 0} (n m : ℕ) (xs : List X) → n ≤ m → take n (take m xs) ≡ take n xs
take-take zero m xs le = refl
take-take (suc n) zero xs le = absurd (omega arith)
take-take (suc n) (suc m) [] le = refl
take-take (suc n) (suc m) (x ∷ xs) le = ap (λ ys. x ∷ ys) (take-take n m xs (omega arith))

-- the first paths and the others use what all use
uses-parts : (i n : ℕ) (paths : List Path) → uses i (take n paths) + uses i (drop n paths) ≡ uses i paths
uses-parts i n paths =
    let hit : Step → ℕ = λ s. cond (s.net == i) 1 0 in
    let steps : List Path → List Step = flat_map (λ (p : Path). p.steps) in
    sym (sum_by-append hit (steps (take n paths)) (steps (drop n paths)))
    ∙ ap (sum_by hit) (sym (flat_map-append (λ (p : Path). p.steps) (take n paths) (drop n paths)))
    ∙ ap (uses i) (take-append-drop n paths)

module _ (pads : List Pad) (nets : List Net) where
  module _ (at : Pin → ℤ) where
    -- the first paths of an axis are legal where all are
    axis-taken : (n : ℕ) (paths : List Path) → ArePathsOfAxis at pads nets paths → ArePathsOfAxis at pads nets (take n paths)
    axis-taken n paths h = record { each = All-take (IsPath at pads nets) n paths h.each; spare = λ i low. omega (arith, h.spare i low, uses-parts i n paths) }

    -- fewer first paths are legal where more are
    axis-fewer : (n m : ℕ) (paths : List Path) → n ≤ m → ArePathsOfAxis at pads nets (take m paths) → ArePathsOfAxis at pads nets (take n paths)
    axis-fewer n m paths le h = subst (ArePathsOfAxis at pads nets) (take-take n m paths le) (axis-taken n (take m paths) h)

  -- so are those of both axes
  fewer-legal : (n m : ℕ) (paths : Paths) → n ≤ m → AreLegal pads nets (first_paths m paths) → AreLegal pads nets (first_paths n paths)
  fewer-legal n m paths le h = record {
    across = axis-fewer (pad_x pads) n m paths.across le h.across;
    upward = axis-fewer (pad_y pads) (n - length paths.across) (m - length paths.across) paths.upward (omega arith) h.upward;
  }

  -- legal paths have no first wrong one
  pub legal-unbroken : (paths : Paths) (n : ℕ) → AreLegal pads nets paths → IsFirstWrong pads nets paths n → ⊥
  legal-unbroken paths n h first = first.wrong (record {
    across = axis-taken (pad_x pads) (n + 1) paths.across h.across;
    upward = axis-taken (pad_y pads) (n + 1 - length paths.across) paths.upward h.upward;
  })

  -- the first wrong path is one
  pub first-wrong-one : (paths : Paths) (n m : ℕ) → IsFirstWrong pads nets paths n → IsFirstWrong pads nets paths m → n ≡ m
  first-wrong-one paths n m p q =
      elim (cases_lt n m) [
        | inl lower ↦ absurd (p.wrong (fewer-legal (n + 1) m paths (omega (arith, lower)) q.before))
        | inr same ↦ elim (cases_lt m n) [
          | inl lower ↦ absurd (q.wrong (fewer-legal (m + 1) n paths (omega (arith, lower)) p.before))
          | inr equal ↦ omega (arith, same, equal)
        ]
      ]
