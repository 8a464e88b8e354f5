-- Pieces of a text, taken off its front.
use Rattle.std.proofs.Common.{◌≡◌, inl, inr, ℕ, suc, ◌≤◌, Bool, List, [], ◌∷◌, length, refl, arith}
use Rattle.sf_yal.proofs.Common.{slice_split, position_or_len, cases_Bool}
use Rattle.std.proofs.Math.Numerals.{one-add}

module _ (p : ℕ → Bool) where
  -- bytes without a mark are one piece
  pub split_whole : (xs : List ℕ) → length xs ≤ position_or_len p xs → slice_split p xs ≡ xs ∷ []
  split_whole [] h = refl
  split_whole (x ∷ xs) h = elim (cases_Bool (p x)) [
    | inl e ↦ let none : position_or_len p (x ∷ xs) ≡ 0 = rw e refl in absurd (omega arith)
    | inr e ↦
        let one : position_or_len p (x ∷ xs) ≡ suc (position_or_len p xs) = rw e (one-add (position_or_len p xs)) in
        rw (e, split_whole xs (omega arith)) refl
  ]
