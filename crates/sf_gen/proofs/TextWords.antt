-- The words of a line that was written.
use Rattle.std.proofs.Common.{◌≡◌, ℕ, ◌+◌, ◌<◌, ◌≤◌, ◌^◌, Bool, true, false, List, [], ◌∷◌, ◌++◌, length, take, drop, refl, ap, ◌∙◌, arith, mul-one, ◌*◌, ◌==◌}
use Rattle.sf_gen.proofs.Common.{nat_lt, Ok, Some, pos, codes, decimal, list_all, prefix_len, position_or_len, before_first, after_first, nat_tests, decimal_nonempty, append-nil, drop_all, words, is_line_feed, is_not_empty, has_none, is_gap, without_gap, first_word, after_word, is_digit, is_point, number_of, scaled, decimal_of, decimal_read, area_read, signed_read, with_value, Blanks, Colons, Points, Sizes, and_parts, words-last, first_fails, is_content_word, is_colon, count_said, div_ceil, Gap}
use Rattle.std.proofs.Math.Numerals.{one-add}
use Rattle.std.proofs.Math.Seq.{take-append_seam, drop-append_seam, take-length, drop-length}
use Rattle.sf_lex.proofs.WrittenNumbers.{digits_written, number_written, decimal_written, no_point_in_digit, filled}
use Rattle.sf_gen.proofs.TextLines.{Reads, none, ended, piece, reads_line}

-- ---- digits are no blanks

-- where digits all fail a test, digits have none that passes it
none_of : (test : ℕ → Bool) → ((b : ℕ) → is_digit b ≡ true → test b ≡ false) → (ds : List ℕ) → list_all is_digit ds ≡ true → has_none test ds ≡ true
none_of test fails [] h = refl
none_of test fails (d ∷ ds) h =
    let f = and_parts (is_digit d) (list_all is_digit ds) h in
    rw (fails d f.0) (none_of test fails ds f.1)

-- a digit is no gap between words
no_gap : (gap : Gap) (b : ℕ) → is_digit b ≡ true → is_gap gap b ≡ false
no_gap Blanks b e = grind (arith, nat_tests)
no_gap Colons b e = grind (arith, nat_tests)
no_gap Points b e = grind (arith, nat_tests)
no_gap Sizes b e = grind (arith, nat_tests)

module _ (n : ℕ) (h : n < 2 ^ 64) where
  -- a number that was written has no line feed
  pub decimal_no_feed : has_none is_line_feed (decimal n) ≡ true
  decimal_no_feed = none_of is_line_feed (λ b e. grind (arith, nat_tests)) (decimal n) (digits_written n h)

  -- a number that was written has no gap between words
  pub decimal_no_gap : (gap : Gap) → has_none (is_gap gap) (decimal n) ≡ true
  decimal_no_gap gap = none_of (is_gap gap) (no_gap gap) (decimal n) (digits_written n h)

  -- a number that was written has no colon
  pub decimal_no_colon : has_none is_colon (decimal n) ≡ true
  decimal_no_colon = none_of is_colon (λ b e. grind (arith, nat_tests)) (decimal n) (digits_written n h)

  -- a number that was written is one word
  pub decimal_alone : (gap : Gap) → words (is_gap gap) (decimal n ++ []) ≡ decimal n ∷ []
  decimal_alone gap = ap (words (is_gap gap)) (append-nil (decimal n)) ∙ words-last (is_gap gap) (decimal n) (decimal_nonempty n h) (decimal_no_gap gap)

-- the number behind a count word
pub number_said : (word : List ℕ) (n : ℕ) → n ≤ 9_000_000_000_000_000 → count_said (word ∷ words (is_gap Colons) (decimal n ++ [])) ≡ Ok n
unfolding count_said
number_said word n le =
    let h : n < 2 ^ 64 = omega arith in
    rw (decimal_alone n h Colons, decimal_written n 9_000_000_000_000_000 h le) refl

-- a count word with its number is read as what they say
pub count_read : {S : Type 0} (Says : List ℕ → S → Type 0) (d : ℕ) → d ≤ 9_000_000_000_000_000 → (word : List ℕ) (said : S) → has_none is_line_feed word ≡ true
    → is_content_word (first_word Blanks (word ++ (decimal d ++ []))) ≡ true → Says (word ++ (decimal d ++ [])) said → Reads Says (word ++ (decimal d ++ codes "\n")) (said ∷ [])
count_read Says d le word said clean filled says =
    reads_line Says (word ++ (decimal d ++ codes "\n")) (word ++ (decimal d ++ [])) said (piece word clean (piece (decimal d) (decimal_no_feed d (omega arith)) (ended none))) filled says

-- ---- the first word

-- the first byte that passes stands right behind a word of bytes that do not
run_len : (p : ℕ → Bool) (w rest : List ℕ) (b : ℕ) → has_none p w ≡ true → p b ≡ true → position_or_len p (w ++ b ∷ rest) ≡ length w
run_len p [] rest b n e = rw e refl
run_len p (x ∷ w) rest b n e =
    let f = first_fails p x w n in
    rw (f.0, run_len p w rest b f.1 e) (one-add (length w))

-- in a word of bytes that do not pass, the first that passes is sought up to the end
run_all : (p : ℕ → Bool) (w : List ℕ) → has_none p w ≡ true → position_or_len p w ≡ length w
run_all p [] n = refl
run_all p (x ∷ w) n =
    let f = first_fails p x w n in
    rw (f.0, run_all p w f.1) (one-add (length w))

-- what stands before the first byte that passes is all, where none passes
pub before_none : (p : ℕ → Bool) (w : List ℕ) → has_none p w ≡ true → before_first p w ≡ w
before_none p w n = ap (λ k. take k w) (run_all p w n) ∙ take-length w

-- a text that begins with a word loses nothing at its front
no_gap_first : (p : ℕ → Bool) (ds rest : List ℕ) → 0 < length ds → has_none p ds ≡ true → drop (prefix_len p (ds ++ rest)) (ds ++ rest) ≡ ds ++ rest
no_gap_first p [] rest some n = absurd (omega arith)
no_gap_first p (c ∷ w) rest some n = rw (first_fails p c w n).0 refl

module _ (gap : Gap) (ds : List ℕ) (some : 0 < length ds) (n : has_none (is_gap gap) ds ≡ true) where
  -- the first word of a text that begins with a word ends at the next gap
  pub first_written : (rest : List ℕ) (b : ℕ) → is_gap gap b ≡ true → first_word gap (ds ++ b ∷ rest) ≡ ds
  first_written rest b e =
      ap (before_first (is_gap gap)) (no_gap_first (is_gap gap) ds (b ∷ rest) some n)
      ∙ ap (λ k. take k (ds ++ b ∷ rest)) (run_len (is_gap gap) ds rest b n e) ∙ take-append_seam ds (b ∷ rest)

  -- behind that first word stands the gap and the rest
  pub after_written : (rest : List ℕ) (b : ℕ) → is_gap gap b ≡ true → after_word gap (ds ++ b ∷ rest) ≡ b ∷ rest
  after_written rest b e =
      ap (λ l. drop (position_or_len (is_gap gap) l) l) (no_gap_first (is_gap gap) ds (b ∷ rest) some n)
      ∙ ap (λ k. drop k (ds ++ b ∷ rest)) (run_len (is_gap gap) ds rest b n e) ∙ drop-append_seam ds (b ∷ rest)

  -- a word that nothing follows is the first word
  first_last : first_word gap (ds ++ []) ≡ ds
  first_last = ap (before_first (is_gap gap)) (no_gap_first (is_gap gap) ds [] some n ∙ append-nil ds) ∙ before_none (is_gap gap) ds n

  -- and nothing is left behind it
  after_last : after_word gap (ds ++ []) ≡ []
  after_last =
      ap (λ l. drop (position_or_len (is_gap gap) l) l) (no_gap_first (is_gap gap) ds [] some n ∙ append-nil ds)
      ∙ ap (λ k. drop k ds) (run_all (is_gap gap) ds n) ∙ drop-length ds

-- ---- numbers in words

-- digits without a sign are read as the natural number
signed_digits : (limit : ℕ) (ds : List ℕ) → 0 < length ds → list_all is_digit ds ≡ true → signed_read 1 limit ds ≡ with_value pos (decimal_read 1 limit ds)
unfolding signed_read
signed_digits limit [] some h = absurd (omega arith)
signed_digits limit (d ∷ ds) some h =
    let digit = (and_parts (is_digit d) (list_all is_digit ds) h).0 in
    let minus : (d == 45) ≡ false = grind (arith, nat_tests) in
    let plus : (d == 43) ≡ false = grind (arith, nat_tests) in
    rw (minus, plus) refl

-- a coordinate
pub signed_written : (n limit : ℕ) → n < 2 ^ 64 → n ≤ limit → signed_read 1 limit (decimal n) ≡ Ok (pos n)
signed_written n limit h le =
    signed_digits limit (decimal n) (decimal_nonempty n h) (digits_written n h) ∙ ap (with_value pos) (decimal_written n limit h le)

-- a natural number that was written is a decimal without a fraction
whole_number : (n : ℕ) → n < 2 ^ 64 → decimal_of (decimal n) ≡ Some (record { whole = decimal n; fraction = [] })
whole_number n h =
    let ds = decimal n in
    let none = none_of is_point no_point_in_digit ds (digits_written n h) in
    let before : before_first is_point ds ≡ ds = before_none is_point ds none in
    let after : after_first is_point ds ≡ [] = drop_all (position_or_len is_point ds + 1) ds (omega (arith, run_all is_point ds none)) in
    rw (before, after, digits_written n h, filled ds (decimal_nonempty n h)) refl

-- an area
pub area_written : (n limit : ℕ) → n < 2 ^ 64 → n ≤ limit → area_read 1 limit (decimal n) ≡ Ok n
unfolding area_read
area_written n limit h le =
    let whole : scaled 1 (record { whole = decimal n; fraction = [] }) ≡ n = ap (λ (k : ℕ). k * 1) (ap number_of (append-nil (decimal n)) ∙ number_written n h) ∙ mul-one n in
    let fits : nat_lt limit n ≡ false = grind (arith, nat_tests) in
    let up : div_ceil n 1 ≡ n = omega arith in
    rw (whole_number n h, whole, up, fits) refl

-- ---- a number behind a blank

-- a blank at the front is passed over
past_blank : (t : List ℕ) → without_gap Blanks (32 ∷ t) ≡ without_gap Blanks t
past_blank t = ap (λ k. drop k (32 ∷ t)) (one-add (prefix_len (is_gap Blanks) t))

module _ (n : ℕ) (h : n < 2 ^ 64) where
  -- the first word behind a blank is the number that was written there, up to the next blank
  pub number_first : (rest : List ℕ) → first_word Blanks (32 ∷ (decimal n ++ 32 ∷ rest)) ≡ decimal n
  number_first rest = ap (before_first (is_gap Blanks)) (past_blank (decimal n ++ 32 ∷ rest)) ∙ first_written Blanks (decimal n) (decimal_nonempty n h) (decimal_no_gap n h Blanks) rest 32 refl

  -- behind that number stands the next blank and the rest
  pub number_after : (rest : List ℕ) → after_word Blanks (32 ∷ (decimal n ++ 32 ∷ rest)) ≡ 32 ∷ rest
  number_after rest = ap (λ l. drop (position_or_len (is_gap Blanks) l) l) (past_blank (decimal n ++ 32 ∷ rest)) ∙ after_written Blanks (decimal n) (decimal_nonempty n h) (decimal_no_gap n h Blanks) rest 32 refl

  -- the first word behind a blank is the number that was written there, where nothing follows
  pub number_last : first_word Blanks (32 ∷ (decimal n ++ [])) ≡ decimal n
  number_last = ap (before_first (is_gap Blanks)) (past_blank (decimal n ++ [])) ∙ first_last Blanks (decimal n) (decimal_nonempty n h) (decimal_no_gap n h Blanks)

  -- behind the last number nothing is left
  pub number_ends : after_word Blanks (32 ∷ (decimal n ++ [])) ≡ []
  number_ends = ap (λ l. drop (position_or_len (is_gap Blanks) l) l) (past_blank (decimal n ++ [])) ∙ after_last Blanks (decimal n) (decimal_nonempty n h) (decimal_no_gap n h Blanks)

  -- a number that was written is not empty
  pub number_filled : is_not_empty (decimal n) ≡ true
  number_filled = filled (decimal n) (decimal_nonempty n h)
