-- One step through a text with comments.
use Rattle.std.proofs.Common.{◌≡◌, inl, inr, ℕ, suc, ◌<◌, Bool, true, false, List, [], ◌∷◌, ◌++◌, length, get_or, drop, refl, sym, ap, ◌∙◌, append_assoc, arith}
use Rattle.sf_yal.proofs.Common.{not, cases_Bool, has_mark, is_mark_of, shown, hide, ends_inside}

-- a mark is two blanks, and behind it it is the other way round
pub at_mark : (inside : Bool) (rest : List ℕ) → has_mark inside rest ≡ true → (hide inside rest ≡ 32 ∷ 32 ∷ hide (not inside) (drop 2 rest)) × (ends_inside inside rest ≡ ends_inside (not inside) (drop 2 rest))
at_mark inside (b ∷ c ∷ rest) e = (rw e refl, rw e refl)
at_mark inside rest e = absurd cc

-- another byte is shown, and behind it all is as before
pub at_other : (inside : Bool) (rest : List ℕ) → 0 < length rest → has_mark inside rest ≡ false → (hide inside rest ≡ shown inside (get_or rest 0 0) ∷ hide inside (drop 1 rest)) × (ends_inside inside rest ≡ ends_inside inside (drop 1 rest))
at_other inside [] h e = absurd (omega arith)
at_other inside (b ∷ []) h e = (refl, refl)
at_other inside (b ∷ c ∷ rest) h e = (rw e refl, rw e refl)

-- what is hidden so far, and what is left
pub record IsHiding (out : List ℕ) (inside : Bool) (rest text : List ℕ) : Type 0 where
  pub bytes : out ++ hide inside rest ≡ hide false text
  pub ends : ends_inside inside rest ≡ ends_inside false text

-- these bytes in place of what they stand for
pub hides : (out front : List ℕ) (inside next : Bool) (rest after text : List ℕ) → IsHiding out inside rest text → (hide inside rest ≡ front ++ hide next after) × (ends_inside inside rest ≡ ends_inside next after)
    → IsHiding (out ++ front) next after text
hides out front inside next rest after text h at = record {
  bytes = append_assoc out front (hide next after) ∙ ap (λ (xs : List ℕ). out ++ xs) (sym at.0) ∙ h.bytes;
  ends = sym at.1 ∙ h.ends;
}

-- a text keeps its length
pub length_hide : (inside : Bool) (rest : List ℕ) → length (hide inside rest) ≡ length rest
length_hide inside [] = refl
length_hide inside (b ∷ []) = refl
length_hide inside (b ∷ c ∷ rest) = elim (cases_Bool (is_mark_of inside b c)) [
  | inl e ↦ rw e (ap (λ (n : ℕ). suc (suc n)) (length_hide (not inside) rest))
  | inr e ↦ rw e (ap suc (length_hide inside (c ∷ rest)))
]
