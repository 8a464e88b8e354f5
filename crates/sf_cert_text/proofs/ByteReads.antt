-- The tree of a text, read byte by byte.
use Rattle.std.proofs.Common.{◌≡◌, ℕ, ◌+◌, ◌≤◌, List, [], ◌∷◌, ◌++◌, length, take, drop, arith, refl, ap, sym, subst, ◌∙◌, Bool, true, false, append_assoc, length-append, Option, Some, None, Result, Ok, Err, ◌≢◌}
use Rattle.sf_cert_text.proofs.Common.{IfOk, IfErr, count_by, position_or_len, slice_get, nat_tests, take-append-drop, is_blank_byte, is_line_feed, has_none, LineWord, last_word_line, first_fails, CertFault, NoMemory, Tag, Version, letter_of, part_of, by_letter, split_by, closed_by, second_by, tags_said, tree_from, Reader, read_on, with_some, Bytewise, begun_word, bytes_on, past_blank, words_on, whole_read, words_from, IsRun, IsEnded, run_of, ended_of, words_from-run, words_from-gap, HalfTag, Second}
use Rattle.std.proofs.Math.Seq.{take-add}
use Rattle.sf_cert_text.specs.declared.letter.Second.TheVariants as second

-- a word without a blank is a run
pub run-of : (w : List ℕ) → has_none is_blank_byte w ≡ true → IsRun w
run-of [] h = tt
run-of (b ∷ w) h = let first = first_fails is_blank_byte b w h in (first.0, run-of w first.1)

-- a run goes on by a byte that is no blank
pub run-more : (w : List ℕ) (b : ℕ) → IsRun w → is_blank_byte b ≡ false → IsRun (w ++ b ∷ [])
run-more [] b h e = (e, tt)
run-more (c ∷ w) b h e = (h.0, run-more w b h.1 e)

-- ---- the end of a word

-- a blank ends the word that was begun
pub begun-blank : (n b : ℕ) (w rest : List ℕ) → IsRun w → is_blank_byte b ≡ true → words_from n (w ++ b ∷ rest) ≡ begun_word n w ++ words_from (n + count_by is_line_feed (b ∷ [])) rest
begun-blank n b [] rest run blank = words_from-gap n (b ∷ []) rest (blank, tt)
begun-blank n b (c ∷ w) rest run blank =
    words_from-run n (c ∷ w) (b ∷ rest) (omega arith) run blank ∙ ap (λ ws. record { line = n; text = c ∷ w } ∷ ws) (words_from-gap n (b ∷ []) rest (blank, tt))

-- and so does the end of the text
pub begun-end : (n : ℕ) (w : List ℕ) → IsRun w → words_from n (w ++ []) ≡ begun_word n w ++ []
begun-end n [] run = refl
begun-end n (c ∷ w) run = words_from-run n (c ∷ w) [] (omega arith) run tt

-- the last line that holds a word, of two lists one after the other
pub last-append : (n : ℕ) (first second : List LineWord) → last_word_line n (first ++ second) ≡ last_word_line (last_word_line n first) second
last-append n [] second = refl
last-append n (w ∷ first) second = last-append w.line first second

-- ---- words that are too long

-- a word that is too long is no letter
long-letter : (version : Version) (w : List ℕ) → 21 ≤ length w → letter_of version w ≡ None
long-letter version w h = grind arith

-- nor the name of a part
long-part : (w : List ℕ) → 21 ≤ length w → part_of w ≡ None
long-part w h = grind arith

-- nor a number
long-number : (w : List ℕ) → 21 ≤ length w → whole_read 65535 w ≡ None
unfolding whole_read
long-number w h = grind (arith, nat_tests)

-- so second words that are too long say the same
long-second : (second : Second) (line : ℕ) (w v : List ℕ) → 21 ≤ length w → 21 ≤ length v → second_by second line w ≡ second_by second line v
long-second second.Block line w v h k = ap (split_by line) (long-number w h ∙ sym (long-number v k))
long-second second.Part line w v h k = ap (closed_by line) (long-part w h ∙ sym (long-part v k))

-- all such words say the same
long-said : (version : Version) (last line : ℕ) (half : Option HalfTag) (w v : List ℕ) (others : List LineWord) → 21 ≤ length w → 21 ≤ length v
    → tags_said version last half (record { line = line; text = w } ∷ others) ≡ tags_said version last half (record { line = line; text = v } ∷ others)
unfolding tags_said
long-said version last line None w v others h k =
    ap (λ l. by_letter line l (tags_said version last None others) (λ second. tags_said version last (Some (record { second = second; line = line })) others)) (long-letter version w h ∙ sym (long-letter version v k))
long-said version last line (Some at) w v others h k = ap (λ t. record { line = at.line; tag = t } ∷ tags_said version last None others) (long-second at.second at.line w v h k)

module _ (n line last : ℕ) (tree : Reader) where
  -- what the words are read as, where they are these
  by-words : (w bytes : List ℕ) (ws : List LineWord) → words_from line (w ++ bytes) ≡ ws → bytes_on n (record { tree = tree; word = w; line = line; last = last }) bytes ≡ read_on n (last_word_line last ws) tree ws
  by-words w bytes ws e = ap (λ (z : List LineWord). read_on n (last_word_line last z) tree z) e

  -- words that are too long at the front are read as each other
  long-first : (w v : List ℕ) (others : List LineWord) → 21 ≤ length w → 21 ≤ length v → read_on n (last_word_line last (begun_word line w ++ others)) tree (begun_word line w ++ others) ≡ read_on n (last_word_line last (begun_word line v ++ others)) tree (begun_word line v ++ others)
  long-first [] v others h k = absurd (omega arith)
  long-first (b ∷ w) [] others h k = absurd (omega arith)
  long-first (b ∷ w) (c ∷ v) others h k = ap (tree_from n (last_word_line line others) tree.places) (long-said tree.version (last_word_line line others) line tree.half (b ∷ w) (c ∷ v) others h k)

  -- a word that is too long stays so
  grown-length : (w : List ℕ) (b : ℕ) → 21 ≤ length w → 21 ≤ length (w ++ b ∷ [])
  grown-length w b h = omega (arith, length-append w (b ∷ []))

  -- words that are too long say the same before a blank
  long-blank : (b : ℕ) (w v rest : List ℕ) → IsRun w → IsRun v → 21 ≤ length w → 21 ≤ length v → is_blank_byte b ≡ true
      → bytes_on n (record { tree = tree; word = w; line = line; last = last }) (b ∷ rest) ≡ bytes_on n (record { tree = tree; word = v; line = line; last = last }) (b ∷ rest)
  long-blank b w v rest run too h k blank =
      let others = words_from (line + count_by is_line_feed (b ∷ [])) rest in
      by-words w (b ∷ rest) (begun_word line w ++ others) (begun-blank line b w rest run blank)
      ∙ long-first w v others h k
      ∙ sym (by-words v (b ∷ rest) (begun_word line v ++ others) (begun-blank line b v rest too blank))

  -- a byte more of a word may be kept or still to come
  pub more-word : (w rest : List ℕ) (b : ℕ) → bytes_on n (record { tree = tree; word = w; line = line; last = last }) (b ∷ rest) ≡ bytes_on n (record { tree = tree; word = w ++ b ∷ []; line = line; last = last }) rest
  more-word w rest b = ap (λ (z : List ℕ). read_on n (last_word_line last (words_from line z)) tree (words_from line z)) (sym (append_assoc w (b ∷ []) rest))

  -- words that are too long say the same before any byte
  long-byte : (rest w v : List ℕ) (b : ℕ) (t : Bool) → is_blank_byte b ≡ t → IsRun w → IsRun v → 21 ≤ length w → 21 ≤ length v
      → ((x y : List ℕ) → IsRun x → IsRun y → 21 ≤ length x → 21 ≤ length y → bytes_on n (record { tree = tree; word = x; line = line; last = last }) rest ≡ bytes_on n (record { tree = tree; word = y; line = line; last = last }) rest)
      → bytes_on n (record { tree = tree; word = w; line = line; last = last }) (b ∷ rest) ≡ bytes_on n (record { tree = tree; word = v; line = line; last = last }) (b ∷ rest)
  long-byte rest w v b true e run too h k more = long-blank b w v rest run too h k e
  long-byte rest w v b false e run too h k more =
      more-word w rest b ∙ more (w ++ b ∷ []) (v ++ b ∷ []) (run-more w b run e) (run-more v b too e) (grown-length w b h) (grown-length v b k) ∙ sym (more-word v rest b)

  -- so of a word that is too long no more bytes need be kept
  long-same : (rest w v : List ℕ) → IsRun w → IsRun v → 21 ≤ length w → 21 ≤ length v
      → bytes_on n (record { tree = tree; word = w; line = line; last = last }) rest ≡ bytes_on n (record { tree = tree; word = v; line = line; last = last }) rest
  long-same [] w v run too h k =
      by-words w [] (begun_word line w ++ []) (begun-end line w run) ∙ long-first w v [] h k ∙ sym (by-words v [] (begun_word line v ++ []) (begun-end line v too))
  long-same (b ∷ rest) w v run too h k = long-byte rest w v b (is_blank_byte b) refl run too h k (λ x y p q i j. long-same rest x y p q i j)

  -- a byte of a word that is too long need not be kept
  pub long-kept : (w rest : List ℕ) (b : ℕ) → IsRun w → is_blank_byte b ≡ false → 21 ≤ length w → bytes_on n (record { tree = tree; word = w; line = line; last = last }) (b ∷ rest) ≡ bytes_on n (record { tree = tree; word = w; line = line; last = last }) rest
  long-kept w rest b run e h = more-word w rest b ∙ long-same rest (w ++ b ∷ []) w (run-more w b run e) run (grown-length w b h) h

-- ---- one byte

-- how a reader stands after the end of a word
abbrev pub IsEndOf : Bytewise → Bytewise → Type 0
IsEndOf old new = new ≡ record { tree = new.tree; word = []; line = old.line; last = last_word_line old.last (begun_word old.line old.word) }

module _ (n : ℕ) (old : Bytewise) (run : has_none is_blank_byte old.word ≡ true) where
  -- the words that are left, where the first of them was begun
  by-begun : (bytes : List ℕ) (others : List LineWord) → words_on old bytes ≡ begun_word old.line old.word ++ others
      → bytes_on n old bytes ≡ read_on n (last_word_line (last_word_line old.last (begun_word old.line old.word)) others) old.tree (begun_word old.line old.word ++ others)
  by-begun bytes others e =
      ap (λ (z : List LineWord). read_on n (last_word_line old.last z) old.tree z) e
      ∙ ap (λ l. read_on n l old.tree (begun_word old.line old.word ++ others)) (last-append old.last (begun_word old.line old.word) others)

  -- the words that are left where a blank ends the first
  left : (b : ℕ) (rest : List ℕ) → is_blank_byte b ≡ true → bytes_on n old (b ∷ rest) ≡ (let others = words_from (old.line + count_by is_line_feed (b ∷ [])) rest in
      read_on n (last_word_line (last_word_line old.last (begun_word old.line old.word)) others) old.tree (begun_word old.line old.word ++ others))
  left b rest blank = by-begun (b ∷ rest) (words_from (old.line + count_by is_line_feed (b ∷ [])) rest) (begun-blank old.line b old.word rest (run-of old.word run) blank)

  -- a blank behind the word, where the word ends a tag or none
  pub past-tag : (new : Bytewise) (tag : Option Tag) → ((last : ℕ) (others : List LineWord) → read_on n last old.tree (begun_word old.line old.word ++ others) ≡ with_some tag (read_on n last new.tree others)) → IsEndOf old new
      → (b : ℕ) (rest : List ℕ) → is_blank_byte b ≡ true → bytes_on n old (b ∷ rest) ≡ with_some tag (bytes_on n (past_blank b new) rest)
  past-tag new tag f end b rest blank =
      left b rest blank ∙ f _ (words_from (old.line + count_by is_line_feed (b ∷ [])) rest) ∙ ap (λ (at : Bytewise). with_some tag (bytes_on n (past_blank b at) rest)) (sym end)

  -- a blank behind the word, where the word is at fault
  pub past-fault : (e : CertFault) → ((last : ℕ) (others : List LineWord) → read_on n last old.tree (begun_word old.line old.word ++ others) ≡ Err e) → (b : ℕ) (rest : List ℕ) → is_blank_byte b ≡ true → bytes_on n old (b ∷ rest) ≡ Err e
  past-fault e f b rest blank = left b rest blank ∙ f _ (words_from (old.line + count_by is_line_feed (b ∷ [])) rest)

  -- the end of the text behind the word, where it ends a tag or none
  pub end-tag : (new : Bytewise) (tag : Option Tag) (r : Result (List Tag) CertFault) → ((last : ℕ) (others : List LineWord) → read_on n last old.tree (begun_word old.line old.word ++ others) ≡ with_some tag (read_on n last new.tree others)) → IsEndOf old new
      → read_on n new.last new.tree [] ≡ r → bytes_on n old [] ≡ with_some tag r
  end-tag new tag r f end e =
      by-begun [] [] (begun-end old.line old.word (run-of old.word run)) ∙ f _ []
      ∙ ap (λ (at : Bytewise). with_some tag (read_on n at.last new.tree [])) (sym end) ∙ ap (with_some tag) e

  -- the end of the text behind the word, where it is at fault
  pub end-fault : (e : CertFault) → ((last : ℕ) (others : List LineWord) → read_on n last old.tree (begun_word old.line old.word ++ others) ≡ Err e) → bytes_on n old [] ≡ Err e
  end-fault e f = by-begun [] [] (begun-end old.line old.word (run-of old.word run)) ∙ f _ []

-- a fault stays one behind a tag
pub some-fault : (tag : Option Tag) (e : CertFault) → with_some tag (Err e) ≡ Err e
some-fault None e = refl
some-fault (Some tag) e = refl

-- a blank behind a word of which nothing was kept: its bytes are these
module _ (n line last : ℕ) (tree : Reader) (w : List ℕ) (run : has_none is_blank_byte w ≡ true) where
  -- a word of which there is a byte was begun
  begun-some : (w : List ℕ) → (length w ≡ 0 → ⊥) → begun_word line w ≡ record { line = line; text = w } ∷ []
  begun-some [] some = absurd (some refl)
  begun-some (b ∷ w) some = refl

  -- the reader with the word kept whole
  abbrev kept-whole : Bytewise
  kept-whole = record { tree = tree; word = w; line = line; last = last }

  -- where the word ends a tag or none
  pub run-tag : (new : Reader) (tag : Option Tag) → (length w ≡ 0 → ⊥) → ((last : ℕ) (others : List LineWord) → read_on n last tree (record { line = line; text = w } ∷ others) ≡ with_some tag (read_on n last new others))
      → (b : ℕ) (rest : List ℕ) → is_blank_byte b ≡ true → bytes_on n (record { tree = tree; word = []; line = line; last = last }) (w ++ b ∷ rest) ≡ with_some tag (bytes_on n (past_blank b (record { tree = new; word = []; line = line; last = line })) rest)
  run-tag new tag some f =
      let e = begun-some w some in
      past-tag n kept-whole run (record { tree = new; word = []; line = line; last = line }) tag
      (λ last others. ap (λ (ws : List LineWord). read_on n last tree (ws ++ others)) e ∙ f last others)
      (ap (λ (ws : List LineWord). record { tree = new; word = []; line = line; last = last_word_line last ws }) (sym e))

  -- where the word is at fault
  pub run-fault : (e : CertFault) → (length w ≡ 0 → ⊥) → ((last : ℕ) (others : List LineWord) → read_on n last tree (record { line = line; text = w } ∷ others) ≡ Err e)
      → (b : ℕ) (rest : List ℕ) → is_blank_byte b ≡ true → bytes_on n (record { tree = tree; word = []; line = line; last = last }) (w ++ b ∷ rest) ≡ Err e
  run-fault e some f = past-fault n kept-whole run e (λ last others. ap (λ (ws : List LineWord). read_on n last tree (ws ++ others)) (begun-some w some) ∙ f last others)

-- a blank behind more of a word
module _ (first mid new : Bytewise) (w : List ℕ) (n : ℕ) (run : has_none is_blank_byte mid.word ≡ true) (keeps : (n : ℕ) (rest : List ℕ) → bytes_on n first (w ++ rest) ≡ bytes_on n mid rest) where
  -- where the word ends a tag or none
  pub kept-tag : (r : Result (Option Tag) CertFault) → IfOk r (λ tag. (last : ℕ) (others : List LineWord) → read_on n last mid.tree (begun_word mid.line mid.word ++ others) ≡ with_some tag (read_on n last new.tree others)) → IfOk r (λ tag. IsEndOf mid new)
      → IfOk r (λ tag. (b : ℕ) (rest : List ℕ) → is_blank_byte b ≡ true → bytes_on n first (w ++ b ∷ rest) ≡ with_some tag (bytes_on n (past_blank b new) rest))
  kept-tag (Ok tag) f end = λ b rest blank. keeps n (b ∷ rest) ∙ past-tag n mid run new tag f end b rest blank
  kept-tag (Err e) f end = tt

  -- where the word is at fault
  pub kept-fault : (r : Result (Option Tag) CertFault) → IfErr r (λ e. e ≢ NoMemory → (last : ℕ) (others : List LineWord) → read_on n last mid.tree (begun_word mid.line mid.word ++ others) ≡ Err e)
      → IfErr r (λ e. e ≢ NoMemory → (b : ℕ) (rest : List ℕ) → is_blank_byte b ≡ true → bytes_on n first (w ++ b ∷ rest) ≡ Err e)
  kept-fault (Ok tag) f = tt
  kept-fault (Err e) f = λ ne b rest blank. keeps n (b ∷ rest) ∙ past-fault n mid run e (f ne) b rest blank

-- ---- a piece up to its first blank

-- a run has no blank
none-of : (w : List ℕ) → IsRun w → has_none is_blank_byte w ≡ true
none-of [] run = refl
none-of (b ∷ w) run = rw (run.0, none-of w run.1) refl

-- what stands before the first blank has none
pub none-before : (piece run : List ℕ) (k : ℕ) → k ≡ position_or_len is_blank_byte piece → run ≡ take k piece → has_none is_blank_byte run ≡ true
none-before piece run k value front = ap (has_none is_blank_byte) (front ∙ ap (λ i. take i piece) value) ∙ none-of (take (position_or_len is_blank_byte piece) piece) (run_of piece)

-- a list whose first item is told begins with it
first-of : (xs : List ℕ) (b : ℕ) → Some b ≡ slice_get xs 0 → (rest : List ℕ) × (xs ≡ b ∷ rest)
first-of [] b e = absurd (cc)
first-of (x ∷ xs) b e = (xs, cc)

module _ (piece run tail : List ℕ) (k b : ℕ) (value : k ≡ position_or_len is_blank_byte piece) (front : run ≡ take k piece) (back : tail ≡ drop k piece) (first : Some b ≡ slice_get tail 0) where
  -- the rest begins with the blank
  cut : (rest : List ℕ) × (tail ≡ b ∷ rest)
  cut = first-of tail b first

  -- what stands there is a blank
  blank : is_blank_byte b ≡ true
  blank = subst IsEnded (ap (λ i. drop i piece) (sym value) ∙ sym back ∙ cut.1) (ended_of piece)

  -- the piece is what stands before the blank, the blank, and the rest
  whole : piece ≡ run ++ b ∷ cut.0
  whole = sym (take-append-drop k piece) ∙ ap (λ z. z ++ drop k piece) (sym front) ∙ ap (λ z. run ++ z) (sym back ∙ cut.1)

  -- what is taken ends with the blank
  taken : take (k + 1) piece ≡ run ++ b ∷ []
  taken = take-add k 1 piece ∙ ap (λ z. z ++ take 1 (drop k piece)) (sym front) ∙ ap (λ z. run ++ take 1 z) (sym back ∙ cut.1)

  -- a piece up to its first blank, where that ends a tag or none
  pub piece-tag : (n : ℕ) (old new : Bytewise) (tag : Option Tag) → ((b : ℕ) (rest : List ℕ) → is_blank_byte b ≡ true → bytes_on n old (run ++ b ∷ rest) ≡ with_some tag (bytes_on n (past_blank b new) rest))
      → (rest : List ℕ) → bytes_on n old (take (k + 1) piece ++ rest) ≡ with_some tag (bytes_on n (past_blank b new) rest)
  piece-tag n old new tag f rest = ap (λ p. bytes_on n old (p ++ rest)) taken ∙ ap (bytes_on n old) (append_assoc run (b ∷ []) rest) ∙ f b rest blank

  -- a piece up to its first blank, where the word is at fault
  pub piece-fault : (n : ℕ) (old : Bytewise) (e : CertFault) → ((b : ℕ) (rest : List ℕ) → is_blank_byte b ≡ true → bytes_on n old (run ++ b ∷ rest) ≡ Err e) → (rest : List ℕ) → bytes_on n old (piece ++ rest) ≡ Err e
  piece-fault n old e f rest = ap (λ p. bytes_on n old (p ++ rest)) whole ∙ ap (bytes_on n old) (append_assoc run (b ∷ cut.0) rest) ∙ f b (cut.0 ++ rest) blank
