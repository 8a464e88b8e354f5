-- Trees whose closed subproblems name other parts.
use Rattle.std.proofs.Common.{◌≡◌, ℕ, ◌≤◌, List, [], ◌∷◌, ◌++◌, map, arith, refl, ap, sym, subst, ◌∙◌, ◌&&◌}
use Rattle.sf_certificate.proofs.Common.{nat_lt, AllByRecursion, nat_tests, recursion_from_All, Design, each-append, Part, Full, Parts, root, IsSubproblem, root-subproblem, Mark, Place, Tag, made, marks, waiting_after, IsFair, first_place, places_under, spell_trees, spell_tree, AreTrees, left_open, decided, ArePartsOf, first_part}
use Rattle.sf_certificate.specs.Named.{NamesFirst, AllNameFirst, unnamed, unnamed_mark}
use Rattle.sf_certificate.proofs.Growth.{made-subproblems, trees-first, trees-step}

-- ---- what names change nothing of

-- a tag without its part makes the same
pub unnamed-made : (tag : Tag) (node : Parts) → made (unnamed tag) node ≡ made tag node
unnamed-made tag node = grind arith

-- and the same places
unnamed-places : (n : ℕ) (tag : Tag) (place : Place) → places_under n (unnamed tag) place ≡ places_under n tag place
unnamed-places n tag place = grind arith

-- tags without their parts leave the same open
pub unnamed-open : (nodes : List Parts) (tags : List Tag) → left_open nodes (map unnamed tags) ≡ left_open nodes tags
unnamed-open [] tags = refl
unnamed-open (node ∷ nodes) [] = refl
unnamed-open (node ∷ nodes) (tag ∷ tags) = grind (arith, unnamed-open (made tag node ++ nodes) tags)

-- and the same waiting
pub unnamed-waiting : (nodes : List Parts) (tags : List Tag) → waiting_after nodes (map unnamed tags) ≡ waiting_after nodes tags
unnamed-waiting [] [] = refl
unnamed-waiting (node ∷ nodes) [] = refl
unnamed-waiting [] (tag ∷ tags) = refl
unnamed-waiting (node ∷ nodes) (tag ∷ tags) = ap (λ ns. waiting_after (ns ++ nodes) (map unnamed tags)) (unnamed-made tag node) ∙ unnamed-waiting (made tag node ++ nodes) tags

-- the marks are the same but for the parts
pub unnamed-marks : (nodes : List Parts) (tags : List Tag) → marks nodes (map unnamed tags) ≡ map unnamed_mark (marks nodes tags)
unnamed-marks [] tags = refl
unnamed-marks (node ∷ nodes) [] = refl
unnamed-marks (node ∷ nodes) (tag ∷ tags) =
    let first : Mark = record { node = node; tag = unnamed tag } in
    ap (λ ns. first ∷ marks (ns ++ nodes) (map unnamed tags)) (unnamed-made tag node) ∙ ap (λ (ms : List Mark). first ∷ ms) (unnamed-marks (made tag node ++ nodes) tags)

-- as many are decided
pub unnamed-decided : (tags : List Tag) → decided (map unnamed tags) ≡ decided tags
unnamed-decided [] = refl
unnamed-decided (tag ∷ tags) = grind (arith, unnamed-decided tags)

-- they spell the same trees
unnamed-spell : (n : ℕ) (places : List Place) (tags : List Tag) → spell_trees n places (map unnamed tags) ≡ spell_trees n places tags
unnamed-spell n [] [] = refl
unnamed-spell n (place ∷ places) [] = refl
unnamed-spell n [] (tag ∷ tags) = refl
unnamed-spell n (place ∷ places) (tag ∷ tags) =
    ap (λ ps. nat_lt place.depth 3200 && spell_trees n (ps ++ places) (map unnamed tags)) (unnamed-places n tag place)
    ∙ ap (λ b. nat_lt place.depth 3200 && b) (unnamed-spell n (places_under n tag place ++ places) tags)

-- they spell one tree just as before
pub unnamed-tree : (n : ℕ) (tags : List Tag) → spell_tree n (map unnamed tags) ≡ spell_tree n tags
unnamed-tree n tags = unnamed-spell n (first_place ∷ []) tags

-- ---- full parts

module _ (design : Design) (value : Parts → ℕ) (part : Parts → Part → ℕ) (cost : ℕ) (parts : ArePartsOf design value part) where
  -- a tag stays fair where it names the full part
  full-fair : (tag : Tag) (node : Parts) → IsSubproblem design node → IsFair part cost tag node → IsFair part cost (unnamed tag) node
  full-fair tag node sub fair = grind (arith, λ (p : Part). parts.below node p sub, parts.full node)

  -- trees stay such where the full part is named everywhere
  full-trees : (tags : List Tag) (nodes : List Parts) → AllByRecursion (IsSubproblem design) nodes → AreTrees part cost nodes tags → AreTrees part cost nodes (map unnamed tags)
  full-trees [] [] subs trees = tt
  full-trees [] (node ∷ nodes) subs trees = trees
  full-trees (tag ∷ tags) [] subs trees = trees
  full-trees (tag ∷ tags) (node ∷ nodes) subs trees =
      let first = trees-first part cost node nodes tag tags trees in
      let below = each-append (IsSubproblem design) (made tag node) nodes (made-subproblems design part cost tag node subs.0 first.0) subs.1 in
      trees-step part cost (unnamed tag) node nodes (map unnamed tags) (full-fair tag node subs.0 first.0)
      (subst (λ ns. AreTrees part cost (ns ++ nodes) (map unnamed tags)) (sym (unnamed-made tag node)) (full-trees tags (made tag node ++ nodes) below first.1))

-- where any parts close the subproblems, the full one does
pub full-close : (design : Design) (value : Parts → ℕ) (part : Parts → Part → ℕ) (cost : ℕ) (tags : List Tag)
    → ArePartsOf design value part → AreTrees part cost (root design ∷ []) tags → AreTrees part cost (root design ∷ []) (map unnamed tags)
full-close design value part cost tags parts trees = full-trees design value part cost parts tags (root design ∷ []) (root-subproblem design, tt) trees

-- ---- first parts

-- where the full part is at least the cost, so is the first one
first-closes : (f : Part → ℕ) (cost : ℕ) → cost ≤ f Full → cost ≤ f (first_part f cost)
first-closes f cost h = grind (arith, nat_tests)

module _ (part : Parts → Part → ℕ) (cost : ℕ) where
  -- the mark names the first part
  abbrev First : Mark → Type 0
  First mark = NamesFirst part cost mark.tag mark.node

  -- a tag that names the first part is fair, where it is with the full one
  first-fair : (tag : Tag) (node : Parts) → IsFair part cost (unnamed tag) node → NamesFirst part cost tag node → IsFair part cost tag node
  first-fair tag node fair named = grind (arith, first-closes (part node) cost)

  -- a first tag and what it makes
  tree-rest : (tag : Tag) (tags : List Tag) (node : Parts) (nodes : List Parts) → AreTrees part cost (node ∷ nodes) (map unnamed (tag ∷ tags)) → AreTrees part cost (made tag node ++ nodes) (map unnamed tags)
  tree-rest tag tags node nodes trees = grind arith

  -- trees whose marks name the first parts are such, where they are with the full one
  first-trees : (tags : List Tag) (nodes : List Parts) → AreTrees part cost nodes (map unnamed tags) → AllByRecursion First (marks nodes tags) → AreTrees part cost nodes tags
  first-trees [] [] trees named = tt
  first-trees [] (node ∷ nodes) trees named = trees
  first-trees (tag ∷ tags) [] trees named = trees
  first-trees (tag ∷ tags) (node ∷ nodes) trees named =
      let more = first-trees tags (made tag node ++ nodes) (tree-rest tag tags node nodes trees) named.1 in
      trees-step part cost tag node nodes tags (first-fair tag node (trees-first part cost node nodes (unnamed tag) (map unnamed tags) trees).0 named.0) more

  -- two tags that are alike but for names and name the first parts are the same
  one-tag : (x y : Tag) (node : Parts) → unnamed x ≡ unnamed y → NamesFirst part cost x node → NamesFirst part cost y node → x ≡ y
  one-tag x y node e f g = grind arith

  -- tags that are alike but for names and name the first parts are the same
  one-naming : (first second : List Tag) (nodes : List Parts) → AreTrees part cost nodes (map unnamed first) → map unnamed first ≡ map unnamed second
      → AllByRecursion First (marks nodes first) → AllByRecursion First (marks nodes second) → first ≡ second
  one-naming [] [] nodes trees same f g = refl
  one-naming [] (y ∷ ys) nodes trees same f g = absurd (cc)
  one-naming (x ∷ xs) [] nodes trees same f g = absurd (cc)
  one-naming (x ∷ xs) (y ∷ ys) [] trees same f g = absurd trees
  one-naming (x ∷ xs) (y ∷ ys) (node ∷ nodes) trees same f g =
      let head : unnamed x ≡ unnamed y = cc in
      let rest : map unnamed xs ≡ map unnamed ys = cc in
      let tag : x ≡ y = one-tag x y node head f.0 g.0 in
      let more = one-naming xs ys (made x node ++ nodes) (tree-rest x xs node nodes trees) rest f.1 (subst (λ (t : Tag). AllByRecursion First (marks (made t node ++ nodes) ys)) (sym tag) g.1) in
      ap (λ (t : Tag). t ∷ xs) tag ∙ ap (λ (ts : List Tag). y ∷ ts) more

-- the first parts close all subproblems that the full one closes
pub first-close : (design : Design) (part : Parts → Part → ℕ) (cost : ℕ) (tags : List Tag)
    → AreTrees part cost (root design ∷ []) (map unnamed tags) → AllNameFirst design part cost tags → AreTrees part cost (root design ∷ []) tags
first-close design part cost tags trees named =
    first-trees part cost tags (root design ∷ []) trees (recursion_from_All (λ (mark : Mark). NamesFirst part cost mark.tag mark.node) (marks (root design ∷ []) tags) named)

-- there is one naming by first parts
pub first-one : (design : Design) (part : Parts → Part → ℕ) (cost : ℕ) (first second : List Tag)
    → AreTrees part cost (root design ∷ []) (map unnamed first) → map unnamed first ≡ map unnamed second
    → AllNameFirst design part cost first → AllNameFirst design part cost second → first ≡ second
first-one design part cost first second trees same f g =
    let nodes = root design ∷ [] in
    one-naming part cost first second nodes trees same
    (recursion_from_All (λ (mark : Mark). NamesFirst part cost mark.tag mark.node) (marks nodes first) f)
    (recursion_from_All (λ (mark : Mark). NamesFirst part cost mark.tag mark.node) (marks nodes second) g)
