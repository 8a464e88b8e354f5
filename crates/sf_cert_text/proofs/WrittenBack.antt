-- Lines, words and tags that were written are read as they were.
use Rattle.std.proofs.Common.{◌≡◌, ℕ, ◌+◌, ◌^◌, ◌<◌, List, [], ◌∷◌, ◌++◌, length, map, arith, refl, ap, ◌∙◌, true, cond, not, None, Result, Ok, Err, append_assoc}
use Rattle.sf_cert_text.proofs.Common.{nat_lt, AllByRecursion, decimal, nat_tests, decimal_nonempty, lines, words, is_line_feed, is_blank_byte, has_none, LineWord, numbered, words_of_line, words_of_lines, and_parts, lines-written, words-written, words-last, CertFault, TooDeep, Place, Part, Area, Range, Pair, Hull, Full, Tag, Extend, Split, Closed, Open, Two, places_under, spell_trees, tag_text, text_of_lines, FitsTag, tags_said, split_by, with_tag, tree_from, is_digit, digits_written, whole_written, all-weaker, TagSaid}
use Rattle.std.proofs.lemmas.List.Folds.{list_all-append}

-- ---- lines

-- lines that LF ends are the lines of the text
pub lines-ended : (ls : List (List ℕ)) (rest : List ℕ) → AllByRecursion (λ l. has_none is_line_feed l ≡ true) ls → lines (text_of_lines ls ++ rest) ≡ ls ++ lines rest
lines-ended [] rest h = refl
lines-ended (l ∷ ls) rest h =
    ap lines (append_assoc (l ++ 10 ∷ []) (text_of_lines ls) rest ∙ append_assoc l (10 ∷ []) (text_of_lines ls ++ rest))
    ∙ lines-written l (text_of_lines ls ++ rest) h.0
    ∙ ap (λ (x : List (List ℕ)). l ∷ x) (lines-ended ls rest h.1)

-- two texts without a line feed have none together
pub line-append : (xs ys : List ℕ) → has_none is_line_feed xs ≡ true → has_none is_line_feed ys ≡ true → has_none is_line_feed (xs ++ ys) ≡ true
line-append xs ys h k = list_all-append (λ b. not (is_line_feed b)) xs ys ∙ rw (h, k) refl

-- a digit is no line feed
digit-line : (d : ℕ) → is_digit d ≡ true → not (is_line_feed d) ≡ true
digit-line d e = grind (arith, nat_tests)

-- a digit is no blank
digit-solid : (d : ℕ) → is_digit d ≡ true → not (is_blank_byte d) ≡ true
digit-solid d e = grind (arith, nat_tests)

-- a number has no line feed
pub decimal-line : (n : ℕ) → n < 2 ^ 64 → has_none is_line_feed (decimal n) ≡ true
decimal-line n h = all-weaker is_digit (λ b. not (is_line_feed b)) digit-line (decimal n) (digits_written n h)

-- a number has no blank
pub decimal-solid : (n : ℕ) → n < 2 ^ 64 → has_none is_blank_byte (decimal n) ≡ true
decimal-solid n h = all-weaker is_digit (λ b. not (is_blank_byte b)) digit-solid (decimal n) (digits_written n h)

-- ---- a label and a value

-- a label and a value are two words
pub words-labelled : (label value : List ℕ) → 0 < length label → has_none is_blank_byte label ≡ true → 0 < length value → has_none is_blank_byte value ≡ true → words is_blank_byte (label ++ 32 ∷ value) ≡ label ∷ value ∷ []
words-labelled label value a b c d = words-written is_blank_byte label value 32 a b refl ∙ ap (λ (ws : List (List ℕ)). label ∷ ws) (words-last is_blank_byte value c d)

-- ---- the tree

-- what a tag says of a part has no line feed
part-line : (p : Part) → has_none is_line_feed (tag_text (Closed p)) ≡ true
part-line p = grind arith

-- what a tag says has no line feed
tag-line : (tag : Tag) → FitsTag tag → has_none is_line_feed (tag_text tag) ≡ true
tag-line (Split b) h = line-append (83 ∷ 32 ∷ []) (decimal b) refl (decimal-line b (omega (arith, h)))
tag-line Extend h = refl
tag-line (Closed p) h = part-line p
tag-line Open h = refl

-- nor has what any of the tags says
pub tags-lines : (tags : List Tag) → AllByRecursion FitsTag tags → AllByRecursion (λ l. has_none is_line_feed l ≡ true) (map tag_text tags)
tags-lines [] h = tt
tags-lines (tag ∷ tags) h = (tag-line tag h.0, tags-lines tags h.1)

-- a place that is not too deep takes its tag
deep-enough : (place : Place) (line : ℕ) (next : Result (List Tag) CertFault) → nat_lt place.depth 3200 ≡ true → cond (nat_lt place.depth 3200) next (Err (TooDeep line)) ≡ next
deep-enough place line next e = ap (λ b. cond b next (Err (TooDeep line))) e

-- the words of a split
split-words : (k b : ℕ) → b < 2 ^ 16 → words_of_line (record { number = k; bytes = 83 ∷ 32 ∷ decimal b }) ≡ record { line = k; text = 83 ∷ [] } ∷ record { line = k; text = decimal b } ∷ []
split-words k b h =
    ap (map (λ w. record { line = k; text = w }))
    (words-labelled (83 ∷ []) (decimal b) (omega arith) refl (decimal_nonempty b (omega (arith, h))) (decimal-solid b (omega (arith, h))))

-- the words of a tag say it
step-said : (last k : ℕ) (tag : Tag) (others : List LineWord) → FitsTag tag → tags_said Two last None (words_of_line (record { number = k; bytes = tag_text tag }) ++ others) ≡ record { line = k; tag = Ok tag } ∷ tags_said Two last None others
unfolding tags_said
step-said last k Extend others h = refl
step-said last k (Split b) others h =
    ap (λ ws. tags_said Two last None (ws ++ others)) (split-words k b h)
    ∙ ap (λ r. record { line = k; tag = split_by k r } ∷ tags_said Two last None others) (whole_written b 65535 (omega (arith, h)) (omega (arith, h)))
step-said last k (Closed Area) others h = refl
step-said last k (Closed Range) others h = refl
step-said last k (Closed Pair) others h = refl
step-said last k (Closed Hull) others h = refl
step-said last k (Closed Full) others h = refl
step-said last k Open others h = refl

-- one tag at its place, and those that follow
tree-step : (n last k : ℕ) (tag : Tag) (tags : List Tag) (place : Place) (places : List Place) (others : List TagSaid) → nat_lt place.depth 3200 ≡ true → tree_from n last (places_under n tag place ++ places) others ≡ Ok tags → tree_from n last (place ∷ places) (record { line = k; tag = Ok tag } ∷ others) ≡ Ok (tag ∷ tags)
unfolding tree_from
tree-step n last k tag tags place places others d e =
    deep-enough place k (with_tag tag (tree_from n last (places_under n tag place ++ places) others)) d ∙ ap (with_tag tag) e

-- the lines of the tags are read as the tags
pub tags-back : (n last k : ℕ) (tags : List Tag) (places : List Place) → AllByRecursion FitsTag tags → spell_trees n places tags ≡ true → tree_from n last places (tags_said Two last None (words_of_lines (numbered k (map tag_text tags)))) ≡ Ok tags
unfolding tags_said tree_from
tags-back n last k [] [] h s = refl
tags-back n last k [] (place ∷ places) h s = absurd (cc)
tags-back n last k (tag ∷ tags) [] h s = absurd (cc)
tags-back n last k (tag ∷ tags) (place ∷ places) h s =
    let both = and_parts (nat_lt place.depth 3200) (spell_trees n (places_under n tag place ++ places) tags) s in
    let more = tags-back n last (k + 1) tags (places_under n tag place ++ places) h.1 both.1 in
    ap (tree_from n last (place ∷ places)) (step-said last k tag (words_of_lines (numbered (k + 1) (map tag_text tags))) h.0)
    ∙ tree-step n last k tag tags place places (tags_said Two last None (words_of_lines (numbered (k + 1) (map tag_text tags)))) both.0 more
