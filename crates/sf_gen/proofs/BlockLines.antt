-- The line of a block is read again.
use Rattle.std.proofs.Common.{◌≡◌, ℕ, ◌*◌, ◌<◌, ◌≤◌, ◌^◌, ◌==◌, true, false, List, [], ◌∷◌, ◌++◌, refl, ap, ◌∙◌, arith, ◌-ℤ◌}
use Rattle.sf_gen.proofs.Common.{pos, unsigned_abs, Some, None, Ok, codes, decimal, le-ltb, lt-ltb, nat_tests, decimal_nonempty, words, is_gap, first_word, after_word, decimal_read, signed_read, Blanks, Points, words-written, RawBlock, is_content_word, is_colon, counted_of, form_of, Item, BlockIs, counted_by, hard_said, soft_said, plain_said, form_said, Size, block_name, hard_line, soft_line, mul-le-mul, Gap}
use Rattle.std.proofs.lemmas.Int.{ints}
use Rattle.sf_parts.specs.declared.raw.Kind.TheVariants as kind
use Rattle.sf_lex.specs.Vertices.{coordinate_of, extent, vertex_of, vertices_of}
use Rattle.sf_gsrc.specs.declared.keywords.Form.{Form}
use Rattle.sf_gsrc.specs.declared.keywords.Form.TheVariants as forms
use Rattle.sf_gen.proofs.TextLines.{IsLines, none, ended, piece}
use Rattle.sf_gen.proofs.TextWords.{decimal_no_feed, decimal_no_gap, decimal_no_colon, before_none, first_written, after_written, signed_written, area_written}

-- ---- the box of the corners

-- the distance from 0 to a natural number is the number
from_zero : (w : ℕ) → unsigned_abs (pos w -ℤ pos 0) ≡ w
from_zero w = omega (arith, ints)

-- corners at 0, 0, w and w span w
across : (w : ℕ) → extent (pos 0 ∷ pos 0 ∷ pos w ∷ pos w ∷ []) ≡ w
across w = let zero_first = le-ltb w 0 (omega arith) in rw (zero_first, le-ltb w w (omega arith), zero_first) (from_zero w)

-- corners at 0, h, h and 0 span h
upward : (h : ℕ) → 0 < h → extent (pos 0 ∷ pos h ∷ pos h ∷ pos 0 ∷ []) ≡ h
upward h low = let zero_first = le-ltb h 0 (omega arith) in rw (zero_first, le-ltb h h (omega arith), lt-ltb 0 h low, zero_first) (from_zero h)

-- ---- the words of the corners

-- at most a million
abbrev small : ℕ → Type 0
small n = n ≤ 1_000_000

module _ (gap : Gap) (n : ℕ) (low : small n) where
  -- a number before a gap is the next word
  number_word : (b : ℕ) (rest : List ℕ) → is_gap gap b ≡ true → words (is_gap gap) (decimal n ++ b ∷ rest) ≡ decimal n ∷ words (is_gap gap) rest
  number_word b rest e = words-written (is_gap gap) (decimal n) rest b (decimal_nonempty n (omega arith)) (decimal_no_gap n (omega arith) gap) e

-- the part of a hard block's line behind the word of its form: the count of corners, and the four corners
abbrev pub corners : ℕ → ℕ → List ℕ
corners w h = codes " 4 (0, 0) (0, " ++ (decimal h ++ (codes ") (" ++ (decimal w ++ (codes ", " ++ (decimal h ++ (codes ") (" ++ (decimal w ++ codes ", 0)")))))))

-- the words of the corners are the count 4 and the eight coordinates in turn
corner_words : (w h : ℕ) → small w → small h
    → words (is_gap Points) (corners w h) ≡ codes "4" ∷ codes "0" ∷ codes "0" ∷ codes "0" ∷ decimal h ∷ decimal w ∷ decimal h ∷ decimal w ∷ codes "0" ∷ []
corner_words w h sw sh =
    ap (λ (ws : List (List ℕ)). codes "4" ∷ codes "0" ∷ codes "0" ∷ codes "0" ∷ ws)
    (number_word Points h sh 41 _ refl ∙ ap (λ (ws : List (List ℕ)). decimal h ∷ ws) (number_word Points w sw 44 _ refl
    ∙ ap (λ (ws : List (List ℕ)). decimal w ∷ ws) (number_word Points h sh 41 _ refl ∙ ap (λ (ws : List (List ℕ)). decimal h ∷ ws) (number_word Points w sw 44 _ refl))))

-- a small number that was written is read as that coordinate
place_written : (n : ℕ) → small n → coordinate_of 1 (decimal n) ≡ Ok (pos n)
place_written n low = rw (signed_written n 9_000_000_000_000_000 (omega arith) (omega arith)) refl

-- the eight coordinates are read as the corners (0, 0), (0, h), (w, h) and (w, 0)
corner_places : (w h : ℕ) → small w → small h
    → vertices_of 1 4 (codes "0" ∷ codes "0" ∷ codes "0" ∷ decimal h ∷ decimal w ∷ decimal h ∷ decimal w ∷ codes "0" ∷ [])
    ≡ Ok ((pos 0, pos 0) ∷ (pos 0, pos h) ∷ (pos w, pos h) ∷ (pos w, pos 0) ∷ [])
unfolding vertices_of vertex_of signed_read decimal_read
corner_places w h sw sh =
    rw (place_written h sh, place_written w sw, place_written h sh, place_written w sw) refl

-- a positive number is not 0
not_zero : (n : ℕ) → 0 < n → (n == 0) ≡ false
not_zero n h = grind (arith, nat_tests)

-- both sides of the size are from 1 to 100
pub record IsSmall (s : Size) : Type 0 where
  pub wide : 0 < s.w
  pub high : 0 < s.h
  pub width : s.w ≤ 100
  pub height : s.h ≤ 100

-- the hard block number i of this size
abbrev pub hard_block : ℕ → Size → RawBlock
hard_block i s = record { name = block_name i; kind = kind.Hard s.w s.h }

-- the corners that were written say the hard block of these sides
hard_box : (name : List ℕ) (s : Size) → IsSmall s → hard_said 1 name (words (is_gap Points) (corners s.w s.h)) ≡ Ok (BlockIs (record { name = name; kind = kind.Hard s.w s.h }))
unfolding hard_said decimal_read
hard_box name s f =
    let sw : small s.w = omega (arith, f.width) in
    let sh : small s.h = omega (arith, f.height) in
    ap (hard_said 1 name) (corner_words s.w s.h sw sh)
    ∙ rw (corner_places s.w s.h sw sh, across s.w, upward s.h f.high, not_zero s.w f.wide, not_zero s.h f.high) refl

-- ---- the line behind the name

module _ (i : ℕ) (h : i < 2 ^ 64) (rest : List ℕ) where
  -- the first word of a block's line is the block's name
  name_first : first_word Blanks (block_name i ++ 32 ∷ rest) ≡ block_name i
  name_first = first_written Blanks (98 ∷ decimal i) (omega arith) (decimal_no_gap i h Blanks) rest 32 refl

  -- behind the name stands the blank and the rest
  name_after : after_word Blanks (block_name i ++ 32 ∷ rest) ≡ 32 ∷ rest
  name_after = after_written Blanks (98 ∷ decimal i) (omega arith) (decimal_no_gap i h Blanks) rest 32 refl

  -- the line of a block is no count line
  pub no_count : counted_by (block_name i ++ 32 ∷ rest) ≡ None
  unfolding counted_of
  no_count = rw (name_first, before_none is_colon (98 ∷ decimal i) (decimal_no_colon i h)) refl

  -- the line of a block has content
  pub name_filled : is_content_word (first_word Blanks (block_name i ++ 32 ∷ rest)) ≡ true
  name_filled = rw name_first refl

  -- the line of a block says what its form says of the name and of what follows
  said_by : (form : Form) (more : List ℕ) (item : Item) → form_of (first_word Blanks (32 ∷ rest)) ≡ Some form → after_word Blanks (32 ∷ rest) ≡ more
      → form_said 1 (block_name i) more (Some form) ≡ Ok item → plain_said 1 (block_name i ++ 32 ∷ rest) ≡ Ok item
  unfolding plain_said
  said_by form more item is after says =
      let line : List ℕ = block_name i ++ 32 ∷ rest in
      ap (λ name. form_said 1 name (after_word Blanks (after_word Blanks line)) (form_of (first_word Blanks (after_word Blanks line)))) name_first
      ∙ ap (λ (l : List ℕ). form_said 1 (block_name i) (after_word Blanks l) (form_of (first_word Blanks l))) name_after
      ∙ ap (λ o. form_said 1 (block_name i) (after_word Blanks (32 ∷ rest)) o) is
      ∙ ap (λ m. form_said 1 (block_name i) m (Some form)) after
      ∙ says

-- ---- the two lines

-- what stands in a hard block's line behind the name and the blank
abbrev pub hard_rest : Size → List ℕ
hard_rest s = codes "hardrectilinear" ++ corners s.w s.h

-- the line of a hard block says this hard block
pub hard_plain : (i : ℕ) (s : Size) → i < 2 ^ 64 → IsSmall s → plain_said 1 (block_name i ++ 32 ∷ hard_rest s) ≡ Ok (BlockIs (hard_block i s))
unfolding form_of
hard_plain i s h f = said_by i h (hard_rest s) forms.Hard (corners s.w s.h) (BlockIs (hard_block i s)) refl refl (hard_box (block_name i) s f)

-- what stands in a soft block's line behind the name and the blank
abbrev pub soft_rest : Size → List ℕ
soft_rest s = codes "softrectangular " ++ (decimal (s.w * s.h) ++ codes " 0.5 2")

-- the soft block number i: the area of this size, and aspects from 0.5 to 2
abbrev pub soft_block : ℕ → Size → RawBlock
soft_block i s = record { name = block_name i; kind = kind.Soft (s.w * s.h) 500_000 2_000_000 }

-- a small size has an area of at least 1
pub area_low : (s : Size) → IsSmall s → 0 < s.w * s.h
area_low s f = omega (arith, mul-le-mul f.wide f.high)

-- a small size has an area of at most 10,000
pub area_high : (s : Size) → IsSmall s → s.w * s.h ≤ 10_000
area_high s f = omega (arith, mul-le-mul f.width f.height)

-- the words of a soft block's line behind its form are the area and the two aspects
soft_words : (s : Size) → IsSmall s → words (is_gap Blanks) (32 ∷ (decimal (s.w * s.h) ++ codes " 0.5 2")) ≡ decimal (s.w * s.h) ∷ codes "0.5" ∷ codes "2" ∷ []
soft_words s f = number_word Blanks (s.w * s.h) (omega (arith, area_high s f)) 32 (codes "0.5 2") refl

-- the area and the aspects that were written say the soft block of that area
soft_box : (name : List ℕ) (s : Size) → IsSmall s → soft_said 1 name (words (is_gap Blanks) (32 ∷ (decimal (s.w * s.h) ++ codes " 0.5 2"))) ≡ Ok (BlockIs (record { name = name; kind = kind.Soft (s.w * s.h) 500_000 2_000_000 }))
unfolding soft_said decimal_read
soft_box name s f =
    ap (soft_said 1 name) (soft_words s f)
    ∙ rw (area_written (s.w * s.h) 9_000_000_000_000_000 (omega (arith, area_high s f)) (omega (arith, area_high s f)), not_zero (s.w * s.h) (area_low s f)) refl

-- the line of a soft block says this soft block
pub soft_plain : (i : ℕ) (s : Size) → i < 2 ^ 64 → IsSmall s → plain_said 1 (block_name i ++ 32 ∷ soft_rest s) ≡ Ok (BlockIs (soft_block i s))
unfolding form_of
soft_plain i s h f = said_by i h (soft_rest s) forms.Soft (32 ∷ (decimal (s.w * s.h) ++ codes " 0.5 2")) (BlockIs (soft_block i s)) refl refl (soft_box (block_name i) s f)

-- ---- their bytes

-- what is written of a hard block is one line: its name, a blank, and the rest
pub hard_lines : (i : ℕ) (s : Size) → i < 2 ^ 64 → IsSmall s → IsLines (hard_line i s) ((block_name i ++ 32 ∷ hard_rest s) ∷ [])
hard_lines i s h f =
    let w = decimal_no_feed s.w (omega (arith, f.width)) in
    let v = decimal_no_feed s.h (omega (arith, f.height)) in
    piece (block_name i) (decimal_no_feed i h) (piece (codes " hardrectilinear 4 (0, 0) (0, ") refl
    (piece (decimal s.h) v (piece (codes ") (") refl (piece (decimal s.w) w (piece (codes ", ") refl
    (piece (decimal s.h) v (piece (codes ") (") refl (piece (decimal s.w) w (piece (codes ", 0)") refl (ended none))))))))))

-- what is written of a soft block is one line: its name, a blank, and the rest
pub soft_lines : (i : ℕ) (s : Size) → i < 2 ^ 64 → IsSmall s → IsLines (soft_line i s) ((block_name i ++ 32 ∷ soft_rest s) ∷ [])
soft_lines i s h f =
    piece (block_name i) (decimal_no_feed i h) (piece (codes " softrectangular ") refl (piece (decimal (s.w * s.h)) (decimal_no_feed (s.w * s.h) (omega (arith, area_high s f))) (piece (codes " 0.5 2") refl (ended none))))
