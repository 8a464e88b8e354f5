-- The lines of a text that goes on byte by byte.
use Rattle.std.proofs.Common.{◌≡◌, ℕ, zero, suc, ◌≤◌, List, [], ◌∷◌, ◌++◌, ◌-◌, length, take, drop, arith, refl, ap, sym, subst, ◌∙◌, Bool, true, false, cond, Some, None, append_assoc, length-append}
use Rattle.sf_cert_text.proofs.Common.{AllByRecursion, count_by, eqb-true, sum_by-cons, is_line_feed, has_none, lines, lines-written, codes, word_in, IsHeader, IsOther, IsPart, IsTree, ended_from, open_from, drop_all, length-drop}
use Rattle.sf_cert_text.proofs.WrittenBack.{line-append}

-- what a byte more does to the lines of a text
record GoesOn (text : List ℕ) : Type 0 where
  ended : (begun : List ℕ) (b : ℕ) → is_line_feed b ≡ false → ended_from begun (text ++ b ∷ []) ≡ ended_from begun text
  begins : (begun : List ℕ) (b : ℕ) → is_line_feed b ≡ false → open_from begun (text ++ b ∷ []) ≡ open_from begun text ++ b ∷ []
  ended-line : (begun : List ℕ) → ended_from begun (text ++ 10 ∷ []) ≡ ended_from begun text ++ open_from begun text ∷ []
  fresh : (begun : List ℕ) → open_from begun (text ++ 10 ∷ []) ≡ []
  count : (begun : List ℕ) → length (ended_from begun text) ≡ count_by is_line_feed text

-- with one byte more in front
goes-step : (c : ℕ) (text : List ℕ) (t : Bool) → is_line_feed c ≡ t → GoesOn text → GoesOn (c ∷ text)
goes-step c text true e g =
    let lines : count_by is_line_feed (c ∷ text) ≡ suc (count_by is_line_feed text) = sum_by-cons (λ (k : ℕ). cond (is_line_feed k) 1 0) c text ∙ rw e (omega arith) in
    record {
      ended = λ begun b h. rw e (ap (λ (ls : List (List ℕ)). begun ∷ ls) (g.ended [] b h));
      begins = λ begun b h. rw e (g.begins [] b h);
      ended-line = λ begun. rw e (ap (λ (ls : List (List ℕ)). begun ∷ ls) (g.ended-line []));
      fresh = λ begun. rw e (g.fresh []);
      count = λ begun. rw lines (rw e (ap suc (g.count [])));
    }
goes-step c text false e g =
    let lines : count_by is_line_feed (c ∷ text) ≡ count_by is_line_feed text = sum_by-cons (λ (k : ℕ). cond (is_line_feed k) 1 0) c text ∙ rw e (omega arith) in
    record {
      ended = λ begun b h. rw e (g.ended (begun ++ c ∷ []) b h);
      begins = λ begun b h. rw e (g.begins (begun ++ c ∷ []) b h);
      ended-line = λ begun. rw e (g.ended-line (begun ++ c ∷ []));
      fresh = λ begun. rw e (g.fresh (begun ++ c ∷ []));
      count = λ begun. rw lines (rw e (g.count (begun ++ c ∷ [])));
    }

-- so each text goes on
goes : (text : List ℕ) → GoesOn text
goes [] = record {
  ended = λ begun b h. rw h refl;
  begins = λ begun b h. rw h refl;
  ended-line = λ begun. refl;
  fresh = λ begun. refl;
  count = λ begun. refl;
}
goes (c ∷ text) = goes-step c text (is_line_feed c) refl (goes text)

-- what is left behind some bytes, and one more
drop-more : (n : ℕ) (text : List ℕ) (b : ℕ) → n ≤ length text → drop n (text ++ b ∷ []) ≡ drop n text ++ b ∷ []
drop-more zero text b h = refl
drop-more (suc n) [] b h = absurd (omega (arith, h))
drop-more (suc n) (c ∷ text) b h = drop-more n text b (omega (arith, h))

-- the open line begins here
abbrev pub BeginsAt : ℕ → List ℕ → Type 0
BeginsAt line text = (line ≤ length text) × (drop line text ≡ open_from [] text)

-- it goes on by a byte
pub begins-more : (line : ℕ) (text : List ℕ) (b : ℕ) → is_line_feed b ≡ false → BeginsAt line text → BeginsAt line (text ++ b ∷ [])
begins-more line text b h at =
    (omega (arith, at.0, length-append text (b ∷ [])), drop-more line text b at.0 ∙ ap (λ (l : List ℕ). l ++ b ∷ []) at.1 ∙ sym ((goes text).begins [] b h))

-- behind a LF it begins at the end
pub begins-new : (line : ℕ) (text : List ℕ) → line ≡ length (text ++ 10 ∷ []) → BeginsAt line (text ++ 10 ∷ [])
begins-new line text e = (omega (arith, e), drop_all line (text ++ 10 ∷ []) (omega (arith, e)) ∙ sym ((goes text).fresh []))

-- a first part is what it is
take-front : (xs ys : List ℕ) → take (length xs) (xs ++ ys) ≡ xs
take-front [] ys = refl
take-front (x ∷ xs) ys = ap (λ (l : List ℕ). x ∷ l) (take-front xs ys)

-- the open line, in the text that goes on behind it
pub open-is : (line end : ℕ) (text : List ℕ) → BeginsAt line text → end ≡ length text → take (end - line) (drop line (text ++ 10 ∷ [])) ≡ open_from [] text
open-is line end text at e =
    let size : end - line ≡ length (drop line text) = omega (arith, e, length-drop line text) in
    ap (take (end - line)) (drop-more line text 10 at.0) ∙ ap (λ n. take n (drop line text ++ 10 ∷ [])) size ∙ take-front (drop line text) (10 ∷ []) ∙ at.1

-- the test of a line for the word `tree`
abbrev pub Tests : Bool → List ℕ → Type 0
Tests r line = cond r (Some (codes "tree")) None ≡ word_in (codes "tree") line

-- where it holds
pub tests-tree : (r : Bool) (line : List ℕ) → Tests r line → r ≡ true → IsTree line
tests-tree true line e h = sym e
tests-tree false line e h = absurd cc

-- where it does not
pub tests-other : (r : Bool) (line : List ℕ) → Tests r line → r ≡ false → IsOther line
tests-other true line e h = absurd cc
tests-other false line e h = sym e

-- ---- the header

-- a header that has not ended goes on
pub part-more : (text : List ℕ) (b : ℕ) → is_line_feed b ≡ false → IsPart text → IsPart (text ++ b ∷ [])
part-more text b h part = subst (λ (ls : List (List ℕ)). AllByRecursion IsOther ls) (sym ((goes text).ended [] b h)) part

-- others and one more
other-more : (ls : List (List ℕ)) (line : List ℕ) → AllByRecursion IsOther ls → IsOther line → AllByRecursion IsOther (ls ++ line ∷ [])
other-more [] line h k = (k, tt)
other-more (l ∷ ls) line h k = (h.0, other-more ls line h.1 k)

-- by a line that is another
pub part-line : (text : List ℕ) → IsPart text → IsOther (open_from [] text) → IsPart (text ++ 10 ∷ [])
part-line text part k = subst (λ (ls : List (List ℕ)). AllByRecursion IsOther ls) (sym ((goes text).ended-line [])) (other-more (ended_from [] text) (open_from [] text) part k)

-- the lines of a text that LF ends, and those of what follows
lines-step : (begun : List ℕ) (c : ℕ) (text rest : List ℕ) (t : Bool) → is_line_feed c ≡ t → has_none is_line_feed begun ≡ true
    → ((b : List ℕ) → has_none is_line_feed b ≡ true → lines (b ++ (text ++ 10 ∷ rest)) ≡ ended_from b text ++ open_from b text ∷ lines rest)
    → lines (begun ++ c ∷ (text ++ 10 ∷ rest)) ≡ ended_from begun (c ∷ text) ++ open_from begun (c ∷ text) ∷ lines rest
lines-step begun c text rest true e h on =
    rw e (ap (λ b. lines (begun ++ b ∷ (text ++ 10 ∷ rest))) (eqb-true c 10 e) ∙ lines-written begun (text ++ 10 ∷ rest) h ∙ ap (λ (ls : List (List ℕ)). begun ∷ ls) (on [] refl))
lines-step begun c text rest false e h on =
    rw e (ap lines (sym (append_assoc begun (c ∷ []) (text ++ 10 ∷ rest))) ∙ on (begun ++ c ∷ []) (line-append begun (c ∷ []) h (rw e refl)))

-- for each beginning
lines-from : (text rest begun : List ℕ) → has_none is_line_feed begun ≡ true → lines (begun ++ (text ++ 10 ∷ rest)) ≡ ended_from begun text ++ open_from begun text ∷ lines rest
lines-from [] rest begun h = lines-written begun rest h
lines-from (c ∷ text) rest begun h = lines-step begun c text rest (is_line_feed c) refl h (λ b k. lines-from text rest b k)

-- the line `tree` ends the header
pub header-ended : (text : List ℕ) → IsPart text → IsTree (open_from [] text) → IsHeader (text ++ 10 ∷ [])
header-ended text part tree = record {
  before = ended_from [] text;
  tree = open_from [] text;
  apart = λ rest. ap lines (append_assoc text (10 ∷ []) rest) ∙ lines-from text rest [] refl;
  others = part;
  ended = tree;
  count = sym ((goes (text ++ 10 ∷ [])).count []) ∙ ap length ((goes text).ended-line []);
}
