-- The tree of a text, read tag by tag.
use Rattle.std.proofs.Common.{◌≡◌, ℕ, ◌<◌, ◌≤◌, List, [], ◌∷◌, ◌++◌, arith, refl, ap, sym, subst, ◌∙◌, Bool, true, false, cond, append_assoc, append-nil, ◌&&◌, Option, Some, None, Result, Ok, Err}
use Rattle.sf_cert_text.proofs.Common.{nat_lt, nat_tests, LineWord, CertFault, TooDeep, Truncated, Trailing, Place, Tag, Version, places_under, spell_trees, letter_of, by_letter, tag_by, tags_said, with_tag, tag_at, tree_from, Reader, read_on, with_tags, HalfTag, Letter, TagSaid}

-- one tag more before what follows
pub with_tags-more : (tags : List Tag) (tag : Tag) (r : Result (List Tag) CertFault) → with_tags tags (with_tag tag r) ≡ with_tags (tags ++ tag ∷ []) r
with_tags-more tags tag (Ok more) = ap Ok (sym (append_assoc tags (tag ∷ []) more))
with_tags-more tags tag (Err fault) = refl

-- no tag before what follows
pub with_tags-none : (r : Result (List Tag) CertFault) → with_tags [] r ≡ r
with_tags-none (Ok more) = refl
with_tags-none (Err fault) = refl

-- what the whole words are read as is known from the tags so far and the words that are left
abbrev pub IsReading : ℕ → ℕ → Result (List Tag) CertFault → List Tag → Reader → List LineWord → Type 0
IsReading n last whole tags reader words = whole ≡ with_tags tags (read_on n last reader words)

-- no further word
pub reading-done : (n last : ℕ) (whole : Result (List Tag) CertFault) (tags : List Tag) (reader : Reader) (words : List LineWord) → IsReading n last whole tags reader words → words ≡ [] → read_on n last reader [] ≡ Ok [] → whole ≡ Ok tags
reading-done n last whole tags reader words e none end = e ∙ ap (λ ws. with_tags tags (read_on n last reader ws)) none ∙ ap (with_tags tags) end ∙ ap Ok (append-nil tags)

-- ---- one word

-- a tag at the first place, or its fault
module _ (n : ℕ) (places : List Place) (line : ℕ) (said : Result Tag CertFault) where
  -- a tag where no place waits is trailing
  pub put-trailing : places ≡ [] → (last : ℕ) (others : List TagSaid) → tree_from n last places (record { line = line; tag = said } ∷ others) ≡ Err (Trailing line)
  unfolding tree_from
  put-trailing none last others = ap (λ ps. tree_from n last ps (record { line = line; tag = said } ∷ others)) none

  module _ (place : Place) (more : List Place) (is : places ≡ place ∷ more) where
    -- a tag comes to the first place that waits
    put-at : (last : ℕ) (others : List TagSaid) → tree_from n last places (record { line = line; tag = said } ∷ others) ≡ tag_at place line said (λ tag. with_tag tag (tree_from n last (places_under n tag place ++ more) others))
    unfolding tree_from
    put-at last others = ap (λ ps. tree_from n last ps (record { line = line; tag = said } ∷ others)) is

    -- a tag at fault
    pub put-fault : (fault : CertFault) → said ≡ Err fault → (last : ℕ) (others : List TagSaid) → tree_from n last places (record { line = line; tag = said } ∷ others) ≡ Err fault
    put-fault fault e last others = put-at last others ∙ ap (λ r. tag_at place line r (λ tag. with_tag tag (tree_from n last (places_under n tag place ++ more) others))) e

    -- a tag too deep
    pub put-deep : (tag : Tag) → said ≡ Ok tag → 3200 ≤ place.depth → (last : ℕ) (others : List TagSaid) → tree_from n last places (record { line = line; tag = said } ∷ others) ≡ Err (TooDeep line)
    put-deep tag e deep last others =
        let next = with_tag tag (tree_from n last (places_under n tag place ++ more) others) in
        let test : nat_lt place.depth 3200 ≡ false = grind (arith, nat_tests) in
        put-at last others ∙ ap (λ r. tag_at place line r (λ tag. with_tag tag (tree_from n last (places_under n tag place ++ more) others))) e
        ∙ ap (λ b. cond b next (Err (TooDeep line))) test

    -- a tag at its place
    pub put-tag : (tag : Tag) (new : List Place) → said ≡ Ok tag → place.depth < 3200 → new ≡ places_under n tag place ++ more → (last : ℕ) (others : List TagSaid) → tree_from n last places (record { line = line; tag = said } ∷ others) ≡ with_tag tag (tree_from n last new others)
    put-tag tag new e shallow below last others =
        let next = with_tag tag (tree_from n last (places_under n tag place ++ more) others) in
        let test : nat_lt place.depth 3200 ≡ true = grind (arith, nat_tests) in
        put-at last others ∙ ap (λ r. tag_at place line r (λ tag. with_tag tag (tree_from n last (places_under n tag place ++ more) others))) e
        ∙ ap (λ b. cond b next (Err (TooDeep line))) test
        ∙ ap (λ ps. with_tag tag (tree_from n last ps others)) (sym below)

-- what is said where a word comes next
module _ (version : Version) (half : Option HalfTag) (word : LineWord) where
  -- the second word of a tag
  pub second-said : (at : HalfTag) → half ≡ Some at → (last : ℕ) (others : List LineWord) → tags_said version last half (word ∷ others) ≡ record { line = at.line; tag = tag_by at word.text } ∷ tags_said version last None others
  unfolding tags_said
  second-said at is last others = ap (λ h. tags_said version last h (word ∷ others)) is

  -- the first word of a tag
  pub letter-said : (l : Option Letter) → half ≡ None → letter_of version word.text ≡ l → (last : ℕ) (others : List LineWord)
      → tags_said version last half (word ∷ others) ≡ by_letter word.line l (tags_said version last None others) (λ second. tags_said version last (Some (record { second = second; line = word.line })) others)
  unfolding tags_said
  letter-said l none is last others =
      ap (λ h. tags_said version last h (word ∷ others)) none
      ∙ ap (λ k. by_letter word.line k (tags_said version last None others) (λ second. tags_said version last (Some (record { second = second; line = word.line })) others)) is

-- ---- after the last word

module _ (n last : ℕ) (reader : Reader) where
  -- no place waits and no tag is cut: the tree is whole
  pub read-done : reader.places ≡ [] → reader.half ≡ None → read_on n last reader [] ≡ Ok []
  unfolding tree_from tags_said
  read-done none whole = ap (λ s. tree_from n last reader.places (tags_said reader.version last s [])) whole ∙ ap (λ ps. tree_from n last ps []) none

  -- a tag that is cut where no place waits is trailing
  pub read-trailing : (at : HalfTag) → reader.places ≡ [] → reader.half ≡ Some at → read_on n last reader [] ≡ Err (Trailing at.line)
  unfolding tree_from tags_said
  read-trailing at none half = ap (λ s. tree_from n last reader.places (tags_said reader.version last s [])) half ∙ ap (λ ps. tree_from n last ps (tags_said reader.version last (Some at) [])) none

  -- a place waits, and a tag may be cut: the text ends inside the tree
  cut-by : (place : Place) (more : List Place) (half : Option HalfTag) → tree_from n last (place ∷ more) (tags_said reader.version last half []) ≡ Err (Truncated last)
  unfolding tree_from tags_said
  cut-by place more None = refl
  cut-by place more (Some at) = refl

  -- the same of any reader in which a place waits
  pub read-cut : (place : Place) (more : List Place) → reader.places ≡ place ∷ more → read_on n last reader [] ≡ Err (Truncated last)
  read-cut place more is = ap (λ ps. tree_from n last ps (tags_said reader.version last reader.half [])) is ∙ cut-by place more reader.half

-- ---- what is read spells a tree

-- tags that are read begin with the tag in front
with-ok : (tag : Tag) (r : Result (List Tag) CertFault) (tags : List Tag) → with_tag tag r ≡ Ok tags → (more : List Tag) × (r ≡ Ok more) × (tags ≡ tag ∷ more)
with-ok tag (Ok more) tags e = (more, refl, (let same : tag ∷ more ≡ tags = cc in sym same))
with-ok tag (Err fault) tags e = absurd (cc)

-- a tag that is read stands no deeper than the limit
at-ok : (n last line : ℕ) (place : Place) (places : List Place) (others : List TagSaid) (tag : Tag) (b : Bool) (tags : List Tag) → nat_lt place.depth 3200 ≡ b
    → ((more : List Tag) → tree_from n last (places_under n tag place ++ places) others ≡ Ok more → spell_trees n (places_under n tag place ++ places) more ≡ true)
    → cond b (with_tag tag (tree_from n last (places_under n tag place ++ places) others)) (Err (TooDeep line)) ≡ Ok tags → spell_trees n (place ∷ places) tags ≡ true
at-ok n last line place places others tag true tags d more e =
    let p = with-ok tag (tree_from n last (places_under n tag place ++ places) others) tags e in
    let inner : nat_lt place.depth 3200 && spell_trees n (places_under n tag place ++ places) p.0 ≡ true = ap (λ x. x && spell_trees n (places_under n tag place ++ places) p.0) d ∙ more p.0 p.1 in
    subst (λ ts. spell_trees n (place ∷ places) ts ≡ true) (sym p.2) inner
at-ok n last line place places others tag false tags d more e = absurd (cc)

-- a tag that is read is one
tag-ok : (n last line : ℕ) (place : Place) (places : List Place) (others : List TagSaid) (r : Result Tag CertFault) (tags : List Tag)
    → ((tag : Tag) (more : List Tag) → tree_from n last (places_under n tag place ++ places) others ≡ Ok more → spell_trees n (places_under n tag place ++ places) more ≡ true)
    → tag_at place line r (λ tag. with_tag tag (tree_from n last (places_under n tag place ++ places) others)) ≡ Ok tags → spell_trees n (place ∷ places) tags ≡ true
tag-ok n last line place places others (Err fault) tags more e = absurd (cc)
tag-ok n last line place places others (Ok tag) tags more e = at-ok n last line place places others tag (nat_lt place.depth 3200) tags refl (more tag) e

-- no tags are no tags
nil-same : (tags : List Tag) → ◌≡◌ {A = Result (List Tag) CertFault} (Ok []) (Ok tags) → tags ≡ []
nil-same tags e = let same : [] ≡ tags = cc in sym same

-- tags that are read for places spell trees for them
pub read-spells : (n last : ℕ) (says : List TagSaid) (places : List Place) (tags : List Tag) → tree_from n last places says ≡ Ok tags → spell_trees n places tags ≡ true
unfolding tree_from
read-spells n last [] [] tags e = ap (λ ts. spell_trees n [] ts) (nil-same tags e)
read-spells n last [] (place ∷ places) tags e = absurd (cc)
read-spells n last (said ∷ others) [] tags e = absurd (cc)
read-spells n last (said ∷ others) (place ∷ places) tags e =
    tag-ok n last said.line place places others said.tag tags (λ tag more h. read-spells n last others (places_under n tag place ++ places) more h) e
