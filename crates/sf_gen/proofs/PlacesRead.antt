-- The text of the places is read again.
use Rattle.std.proofs.Common.{◌≡◌, ℕ, ◌≤◌, true, List, [], ◌∷◌, ◌++◌, refl, arith}
use Rattle.sf_gen.proofs.Common.{pos, Ok, codes, decimal, words, is_not_empty, numbered, is_gap, first_word, after_word, decimal_read, signed_read, Blanks, Sizes, is_title, coordinate_in_word, place_at, places_out, square, pl_text}
use Rattle.sf_gsrc.specs.PlaceLine.{place_said, sides_said, size_in_words, spot_said}
use Rattle.sf_gsrc.specs.Places.{SaysPlace, PlacesStandFor}
use Rattle.sf_gen.proofs.TextLines.{IsLines, none, ended, piece, content_is, each_numbered}
use Rattle.sf_gen.proofs.TextWords.{decimal_no_feed, number_first, number_after, number_last, number_ends, number_filled, signed_written}

-- three words, two of them coordinates, and nothing behind them
said_as : (line name x y one two three : List ℕ) (a b : ℕ)
    → first_word Blanks line ≡ name → after_word Blanks line ≡ one
    → first_word Blanks one ≡ x → after_word Blanks one ≡ two
    → first_word Blanks two ≡ y → after_word Blanks two ≡ three
    → words (is_gap Sizes) three ≡ [] → is_not_empty y ≡ true → coordinate_in_word 1 x ≡ Ok (pos a) → coordinate_in_word 1 y ≡ Ok (pos b) → place_said 1 line ≡ Ok (place_at name a b)
unfolding place_said sides_said spot_said size_in_words
said_as line name x y one two three a b e1 e2 e3 e4 e5 e6 e7 some p q = rw (e1, e2, e3, e4, e5, e6, e7, some, p, q) refl

-- the word 0 is the coordinate 0
zero_coordinate : coordinate_in_word 1 (codes "0") ≡ Ok (pos 0)
unfolding signed_read decimal_read
zero_coordinate = refl

module _ (q : ℕ) (low : q ≤ 1_000_000) where
  -- a small number that was written is the coordinate that it says
  number_coordinate : coordinate_in_word 1 (decimal q) ≡ Ok (pos q)
  number_coordinate = rw (signed_written q 9_000_000_000_000_000 (omega arith) (omega arith)) refl

  -- the line of the first pad places it at (0, 0)
  origin : place_said 1 (codes "p0 0 0") ≡ Ok (place_at (codes "p0") 0 0)
  origin =
      said_as (codes "p0 0 0") (codes "p0") (codes "0") (codes "0") (codes " 0 0") (codes " 0") [] 0 0
      refl refl refl refl refl refl refl refl zero_coordinate zero_coordinate

  -- the line of the second pad places it at (q, 0)
  right : place_said 1 (codes "p1 " ++ (decimal q ++ codes " 0")) ≡ Ok (place_at (codes "p1") q 0)
  right =
      said_as (codes "p1 " ++ (decimal q ++ codes " 0")) (codes "p1") (decimal q) (codes "0") (32 ∷ (decimal q ++ codes " 0")) (codes " 0") [] q 0
      refl refl (number_first q (omega arith) (codes "0")) (number_after q (omega arith) (codes "0")) refl refl refl refl
      number_coordinate zero_coordinate

  -- the line of the third pad places it at (0, q)
  above : place_said 1 (codes "p2 0 " ++ (decimal q ++ [])) ≡ Ok (place_at (codes "p2") 0 q)
  above =
      said_as (codes "p2 0 " ++ (decimal q ++ [])) (codes "p2") (codes "0") (decimal q) (codes " 0 " ++ (decimal q ++ [])) (32 ∷ (decimal q ++ [])) [] 0 q
      refl refl refl refl (number_last q (omega arith)) (number_ends q (omega arith)) refl (number_filled q (omega arith))
      zero_coordinate number_coordinate

  -- the line of the fourth pad places it at (q, q)
  across : place_said 1 (codes "p3 " ++ (decimal q ++ (codes " " ++ (decimal q ++ [])))) ≡ Ok (place_at (codes "p3") q q)
  across =
      let last : List ℕ = decimal q ++ [] in
      said_as (codes "p3 " ++ (decimal q ++ (codes " " ++ last))) (codes "p3") (decimal q) (decimal q) (32 ∷ (decimal q ++ (32 ∷ last))) (32 ∷ last) [] q q
      refl refl (number_first q (omega arith) last) (number_after q (omega arith) last) (number_last q (omega arith)) (number_ends q (omega arith)) refl (number_filled q (omega arith))
      number_coordinate number_coordinate

-- the text of the places stands for the four pads at their places
pub places_stand : (n : ℕ) → n ≤ 320 → PlacesStandFor 1 (pl_text n) (places_out n)
unfolding pl_text is_title
places_stand n high =
    let q = square n in
    let low : q ≤ 1_000_000 = omega (arith, high) in
    let d = decimal_no_feed q (omega (arith, high)) in
    let title : List ℕ = codes "UCLA pl 1.0" in
    let bytes : List (List ℕ) =
    codes "p0 0 0" ∷ (codes "p1 " ++ (decimal q ++ codes " 0")) ∷ (codes "p2 0 " ++ (decimal q ++ [])) ∷ (codes "p3 " ++ (decimal q ++ (codes " " ++ (decimal q ++ [])))) ∷ [] in
    let lines_of : IsLines (pl_text n) (title ∷ bytes) =
    piece title refl (ended (piece (codes "p0 0 0") refl (ended (piece (codes "p1 ") refl (piece (decimal q) d (piece (codes " 0") refl (ended
    (piece (codes "p2 0 ") refl (piece (decimal q) d (ended (piece (codes "p3 ") refl (piece (decimal q) d (piece (codes " ") refl (piece (decimal q) d (ended none))))))))))))))) in
    record {
      title = record { number = 1; bytes = title };
      others = numbered 2 bytes;
      lines_are = content_is (pl_text n) title bytes lines_of refl (refl, (refl, (refl, (refl, tt))));
      titled = refl;
      each = each_numbered (SaysPlace 1) 2 bytes (places_out n).places ((λ k. origin q low), ((λ k. right q low), ((λ k. above q low), ((λ k. across q low), tt))));
    }
