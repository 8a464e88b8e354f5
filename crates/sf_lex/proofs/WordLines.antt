-- Words with the numbers of their lines, taken off the front of a text.
use Rattle.std.proofs.Common.{◌≡◌, ℕ, ◌+◌, ◌<◌, Bool, true, false, cond, List, [], ◌∷◌, ◌++◌, length, take, drop, refl, sym, ap, ◌∙◌, arith, subst}
use Rattle.sf_lex.proofs.Common.{filter, slice_split, onto_first, count_by, prefix_len, position_or_len, before_first, append-nil, take-append-drop, drop-drop, take_all, sum_by-cons, one-add, words, is_not_empty, lines, is_line_feed, is_blank_byte, line_at, numbered, LineWord, words_of_lines}
use Rattle.sf_lex.proofs.Pieces.{CutWord, length_text, line_after_word, text_filled, not_line_feed}

-- the words of a text whose first line has this number
abbrev pub words_from : ℕ → List ℕ → List LineWord
words_from n text = words_of_lines (numbered n (lines text))

-- all bytes are blanks
abbrev pub IsGap : List ℕ → Type 0
IsGap [] = Unit {0}
IsGap (b ∷ bytes) = (is_blank_byte b ≡ true) × IsGap bytes

-- no byte is a blank
abbrev pub IsRun : List ℕ → Type 0
IsRun [] = Unit {0}
IsRun (b ∷ bytes) = (is_blank_byte b ≡ false) × IsRun bytes

-- empty, or a blank is first
abbrev pub IsEnded : List ℕ → Type 0
IsEnded [] = Unit {0}
IsEnded (b ∷ bytes) = is_blank_byte b ≡ true

-- with one byte more in front
gap_step : (b : ℕ) (xs : List ℕ) (t : Bool) → is_blank_byte b ≡ t → IsGap (take (prefix_len is_blank_byte xs) xs) → IsGap (take (prefix_len is_blank_byte (b ∷ xs)) (b ∷ xs))
gap_step b xs true e h = rw (e, one-add (prefix_len is_blank_byte xs)) (e, h)
gap_step b xs false e h = rw e tt

-- the bytes before the first word are blanks
pub gap_of : (xs : List ℕ) → IsGap (take (prefix_len is_blank_byte xs) xs)
gap_of [] = tt
gap_of (b ∷ xs) = gap_step b xs (is_blank_byte b) refl (gap_of xs)

-- with one byte more in front
run_step : (b : ℕ) (xs : List ℕ) (t : Bool) → is_blank_byte b ≡ t → IsRun (before_first is_blank_byte xs) → IsRun (before_first is_blank_byte (b ∷ xs))
run_step b xs true e h = rw e tt
run_step b xs false e h = rw (e, one-add (position_or_len is_blank_byte xs)) (e, h)

-- the bytes of the first word are no blanks
pub run_of : (xs : List ℕ) → IsRun (before_first is_blank_byte xs)
run_of [] = tt
run_of (b ∷ xs) = run_step b xs (is_blank_byte b) refl (run_of xs)

-- with one byte more in front
ended_step : (b : ℕ) (xs : List ℕ) (t : Bool) → is_blank_byte b ≡ t → IsEnded (drop (position_or_len is_blank_byte xs) xs) → IsEnded (drop (position_or_len is_blank_byte (b ∷ xs)) (b ∷ xs))
ended_step b xs true e h = rw e e
ended_step b xs false e h = rw (e, one-add (position_or_len is_blank_byte xs)) h

-- behind the first word the text is ended
pub ended_of : (xs : List ℕ) → IsEnded (drop (position_or_len is_blank_byte xs) xs)
ended_of [] = tt
ended_of (b ∷ xs) = ended_step b xs (is_blank_byte b) refl (ended_of xs)

-- ---- a run before the first part

-- the bytes before the first part
abbrev onto : List ℕ → List (List ℕ) → List (List ℕ)
onto [] parts = parts
onto (b ∷ run) parts = onto_first b (onto run parts)

-- a run before parts is joined to the first
onto-cons : (run part : List ℕ) (parts : List (List ℕ)) → onto run (part ∷ parts) ≡ (run ++ part) ∷ parts
onto-cons [] part parts = refl
onto-cons (b ∷ run) part parts = rw (onto-cons run part parts) refl

-- a run before none is one part
onto-nil : (b : ℕ) (run : List ℕ) → onto (b ∷ run) [] ≡ (b ∷ run) ∷ []
onto-nil b [] = refl
onto-nil b (c ∷ run) = ap (onto_first b) (onto-nil c run)

-- a run is joined to the first line
lines-run : (run rest : List ℕ) → IsRun run → lines (run ++ rest) ≡ onto run (lines rest)
lines-run [] rest h = refl
lines-run (b ∷ run) rest h = rw (not_line_feed b h.0, lines-run run rest h.1) refl

-- a run is joined to the first part
split-run : (run rest : List ℕ) → IsRun run → slice_split is_blank_byte (run ++ rest) ≡ onto run (slice_split is_blank_byte rest)
split-run [] rest h = refl
split-run (b ∷ run) rest h = rw (h.0, split-run run rest h.1) refl

-- a run that is ended is the first word
words-run : (b : ℕ) (run rest : List ℕ) → IsRun (b ∷ run) → IsEnded rest → words is_blank_byte ((b ∷ run) ++ rest) ≡ (b ∷ run) ∷ words is_blank_byte rest
words-run b run [] h e = ap (filter is_not_empty) (split-run (b ∷ run) [] h ∙ onto-cons (b ∷ run) [] []) ∙ ap (λ (w : List ℕ). w ∷ []) (append-nil (b ∷ run))
words-run b run (c ∷ rest) h e =
    let parts : slice_split is_blank_byte (c ∷ rest) ≡ [] ∷ slice_split is_blank_byte rest = rw e refl in
    let all : slice_split is_blank_byte ((b ∷ run) ++ (c ∷ rest)) ≡ ((b ∷ run) ++ []) ∷ slice_split is_blank_byte rest =
    split-run (b ∷ run) (c ∷ rest) h ∙ ap (onto (b ∷ run)) parts ∙ onto-cons (b ∷ run) [] (slice_split is_blank_byte rest) in
    ap (filter is_not_empty) all ∙ rw (append-nil (b ∷ run), parts) refl

-- ---- lines

-- the first line, or none
abbrev head : List (List ℕ) → List ℕ
head [] = []
head (line ∷ more) = line

-- a blank before the first line ends it
onto_first_ended : (c : ℕ) (ls : List (List ℕ)) → is_blank_byte c ≡ true → IsEnded (head (onto_first c ls))
onto_first_ended c [] e = e
onto_first_ended c (line ∷ ls) e = e

-- by whether the first byte is a line feed
lines_ended_step : (c : ℕ) (rest : List ℕ) (t : Bool) → is_line_feed c ≡ t → is_blank_byte c ≡ true → IsEnded (head (lines (c ∷ rest)))
lines_ended_step c rest true f e = rw f tt
lines_ended_step c rest false f e = rw f (onto_first_ended c (lines rest) e)

-- the first line of an ended text is ended
lines_ended : (rest : List ℕ) → IsEnded rest → IsEnded (head (lines rest))
lines_ended [] h = tt
lines_ended (c ∷ rest) h = lines_ended_step c rest (is_line_feed c) refl h

-- a run joined to lines is their first word
words-onto : (n b : ℕ) (run : List ℕ) (ls : List (List ℕ)) → IsRun (b ∷ run) → IsEnded (head ls)
    → words_of_lines (numbered n (onto (b ∷ run) ls)) ≡ record { line = n; text = b ∷ run } ∷ words_of_lines (numbered n ls)
words-onto n b run [] h e =
    let alone : words is_blank_byte (b ∷ run) ≡ (b ∷ run) ∷ [] = ap (words is_blank_byte) (sym (append-nil (b ∷ run))) ∙ words-run b run [] h tt in
    rw (onto-nil b run, alone) refl
words-onto n b run (line ∷ ls) h e = rw (onto-cons (b ∷ run) line ls, words-run b run line h e) refl

-- a word that begins the text
pub words_from-run : (n : ℕ) (run rest : List ℕ) → 0 < length run → IsRun run → IsEnded rest → words_from n (run ++ rest) ≡ record { line = n; text = run } ∷ words_from n rest
words_from-run n [] rest some h e = absurd (omega arith)
words_from-run n (b ∷ run) rest some h e = ap (λ (ls : List (List ℕ)). words_of_lines (numbered n ls)) (lines-run (b ∷ run) rest h) ∙ words-onto n b run (lines rest) h (lines_ended rest e)

-- ---- blanks before the text

-- a blank before the first line changes no words
blank_before_lines : (n b : ℕ) (ls : List (List ℕ)) → is_blank_byte b ≡ true → words_of_lines (numbered n (onto_first b ls)) ≡ words_of_lines (numbered n ls)
blank_before_lines n b [] e = rw e refl
blank_before_lines n b (line ∷ ls) e = rw e refl

-- a blank before the text moves its words by a line where it is a line feed
gap_before : (n b : ℕ) (rest : List ℕ) (t : Bool) → is_line_feed b ≡ t → is_blank_byte b ≡ true → words_from n (b ∷ rest) ≡ words_from (n + cond (is_line_feed b) 1 0) rest
gap_before n b rest true f e = rw f refl
gap_before n b rest false f e =
    let same : n ≡ n + 0 = omega arith in
    rw f (blank_before_lines n b (lines rest) e ∙ ap (λ (k : ℕ). words_from k rest) same)

-- blanks before the text move its words by their line feeds
pub words_from-gap : (n : ℕ) (gap rest : List ℕ) → IsGap gap → words_from n (gap ++ rest) ≡ words_from (n + count_by is_line_feed gap) rest
words_from-gap n [] rest h = let same : n ≡ n + 0 = omega arith in ap (λ (k : ℕ). words_from k rest) same
words_from-gap n (b ∷ gap) rest h =
    let more : n + cond (is_line_feed b) 1 0 + count_by is_line_feed gap ≡ n + count_by is_line_feed (b ∷ gap) = omega (arith, sum_by-cons (λ (c : ℕ). cond (is_line_feed c) 1 0) b gap) in
    gap_before n b (gap ++ rest) (is_line_feed b) refl h.0 ∙ words_from-gap (n + cond (is_line_feed b) 1 0) gap rest h.1 ∙ ap (λ (k : ℕ). words_from k rest) more

-- a text of blanks has no words
pub words_from-none : (n : ℕ) (xs : List ℕ) → prefix_len is_blank_byte xs ≡ length xs → words_from n xs ≡ []
words_from-none n xs all =
    let whole : take (prefix_len is_blank_byte xs) xs ≡ xs = take_all (prefix_len is_blank_byte xs) xs (omega arith) in
    let gap : IsGap xs = subst IsGap whole (gap_of xs) in
    ap (words_from n) (sym (append-nil xs)) ∙ words_from-gap n xs [] gap

-- ---- the next word of a scan

module _ (s : List ℕ) (from skipped len : ℕ) (rest blanks after text : List ℕ) (cut : CutWord s from skipped len rest blanks after text) where
  -- the words of the rest: the word that was cut off, and those behind it
  word_then : (n : ℕ) → words_from n rest ≡ record { line = n + count_by is_line_feed blanks; text = text } ∷ words_from (n + count_by is_line_feed blanks) (drop len after)
  word_then n =
      let blanks_are : blanks ≡ take (prefix_len is_blank_byte rest) rest = cut.blanks_is ∙ ap (λ (n : ℕ). take n rest) cut.skipped_is in
      let gap : IsGap blanks = subst IsGap (sym blanks_are) (gap_of rest) in
      let text_is_run : text ≡ before_first is_blank_byte after = cut.text_is ∙ ap (λ (n : ℕ). take n after) cut.len_is in
      let run : IsRun text = subst IsRun (sym text_is_run) (run_of after) in
      let left_is : drop len after ≡ drop (position_or_len is_blank_byte after) after = ap (λ (n : ℕ). drop n after) cut.len_is in
      let ended : IsEnded (drop len after) = subst IsEnded (sym left_is) (ended_of after) in
      let filled : 0 < length text = text_filled _ _ _ _ _ _ _ _ cut in
      let parts : blanks ++ after ≡ rest = rw (cut.blanks_is, cut.after_is) (take-append-drop skipped rest) in
      let halves : text ++ drop len after ≡ after = rw cut.text_is (take-append-drop len after) in
      ap (words_from n) (sym parts)
      ∙ words_from-gap n blanks after gap
      ∙ ap (words_from (n + count_by is_line_feed blanks)) (sym halves)
      ∙ words_from-run (n + count_by is_line_feed blanks) text (drop len after) filled run ended

  -- the word stands in its line, and the other words in theirs
  pub words_from_is : (line feeds : ℕ) → line ≡ line_at s from → feeds ≡ count_by is_line_feed blanks
      → words_from (line_at s from) (drop from s) ≡ record { line = line + feeds; text = text } ∷ words_from (line_at s (from + skipped + length text)) (drop (from + skipped + length text) s)
  words_from_is line feeds e f =
      let place : drop len after ≡ drop (from + skipped + length text) s = ap (drop len) (cut.after_is ∙ ap (drop skipped) cut.rest_is ∙ drop-drop skipped from s) ∙ drop-drop len (from + skipped) s ∙ ap (λ (n : ℕ). drop (from + skipped + n) s) (sym (length_text _ _ _ _ _ _ _ _ cut)) in
      let next = line_after_word _ _ _ _ _ _ _ _ cut line feeds e f in
      rw (← cut.rest_is, ← place, ← next, ← e, f) (word_then line)
