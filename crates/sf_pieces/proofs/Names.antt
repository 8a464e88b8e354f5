-- The names that the search puts down, and those that it hands over.
use Rattle.std.proofs.Common.{◌≡◌, ℕ, ◌≤◌, List, [], ◌∷◌, ◌++◌, map, All, refl, ap, sym, subst, ◌∙◌, arith, append_assoc, append-nil, cond, leb, inl, inr}
use Rattle.sf_pieces.proofs.Common.{AllByRecursion, flat_map, cases_Bool, leb-true, le-leb, cond-false, cond_both, flat_map_more, All-nil, All-cons, All-append, All-weaker, All-from_recursion, recursion_from_All, Part, Area, Range, Pair, Hull, Full, Parts, Mark, Tag, Extend, Split, Closed, Open, made, marks, with_first_part, kept_for, AreKept, renamed, first_part, NamesFirst, unnamed}
use Rattle.sf_node.specs.declared.part.PartValues.{PartValues}

-- ---- what is kept of a closed subproblem

-- ---- what the names are

-- only names change
pub renamed-alike : (cost : ℕ) (tags : List Tag) (kept : List PartValues) → map unnamed (renamed cost tags kept) ≡ map unnamed tags
renamed-alike cost [] kept = refl
renamed-alike cost (Extend ∷ tags) kept = ap (λ ts. Extend ∷ ts) (renamed-alike cost tags kept)
renamed-alike cost (Split b ∷ tags) kept = ap (λ ts. Split b ∷ ts) (renamed-alike cost tags kept)
renamed-alike cost (Open ∷ tags) kept = ap (λ ts. Open ∷ ts) (renamed-alike cost tags kept)
renamed-alike cost (Closed Area ∷ tags) kept = ap (λ ts. Closed Full ∷ ts) (renamed-alike cost tags kept)
renamed-alike cost (Closed p ∷ tags) [] = ap (λ ts. Closed Full ∷ ts) (renamed-alike cost tags [])
renamed-alike cost (Closed p ∷ tags) (values ∷ kept) = ap (λ ts. Closed Full ∷ ts) (renamed-alike cost tags kept)

-- where nothing is kept, nothing is named anew
pub renamed-none : (cost : ℕ) (tags : List Tag) → tags ≡ renamed cost tags []
renamed-none cost [] = refl
renamed-none cost (Extend ∷ tags) = ap (λ ts. Extend ∷ ts) (renamed-none cost tags)
renamed-none cost (Split b ∷ tags) = ap (λ ts. Split b ∷ ts) (renamed-none cost tags)
renamed-none cost (Open ∷ tags) = ap (λ ts. Open ∷ ts) (renamed-none cost tags)
renamed-none cost (Closed Area ∷ tags) = ap (λ ts. Closed Area ∷ ts) (renamed-none cost tags)
renamed-none cost (Closed p ∷ tags) = ap (λ ts. Closed p ∷ ts) (renamed-none cost tags)

-- naming the first part changes nothing of a tag but the name
pub named-alike : (part : Part → ℕ) (cost : ℕ) (tag : Tag) → unnamed (with_first_part part cost tag) ≡ unnamed tag
named-alike part cost Extend = refl
named-alike part cost (Split b) = refl
named-alike part cost (Closed p) = refl
named-alike part cost Open = refl

-- the area comes first where it is at least the cost, and nowhere else
area-first : (part : Part → ℕ) (cost : ℕ) → cost ≤ part Area → Area ≡ first_part part cost
area-first part cost h = let e = le-leb cost (part Area) h in grind (arith, e)

-- the first part but for the area
abbrev later : (Part → ℕ) → ℕ → Part
later part cost = cond (leb cost (part Range)) Range (cond (leb cost (part Pair)) Pair (cond (leb cost (part Hull)) Hull Full))

-- the part is not the area
abbrev IsOther : Part → Type 0
IsOther p = p ≡ Area → ⊥

-- the first part but for the area is not the area
not-area : (part : Part → ℕ) (cost : ℕ) → IsOther (later part cost)
not-area part cost =
    cond_both (leb cost (part Range)) Range (cond (leb cost (part Pair)) Pair (cond (leb cost (part Hull)) Hull Full)) IsOther (λ _ e. cc)
    (λ _. cond_both (leb cost (part Pair)) Pair (cond (leb cost (part Hull)) Hull Full) IsOther (λ _ e. cc)
    (λ _. cond_both (leb cost (part Hull)) Hull Full IsOther (λ _ e. cc) (λ _ e. cc)))

-- where the area is the first part that is at least the cost, it is at least the cost
first-area : (part : Part → ℕ) (cost : ℕ) → first_part part cost ≡ Area → cost ≤ part Area
first-area part cost e =
    elim (cases_Bool (leb cost (part Area))) [
      | inl t ↦ leb-true cost (part Area) t
      | inr f ↦ absurd (not-area part cost (sym (cond-false (leb cost (part Area)) Area (later part cost) f) ∙ e))
    ]

module _ (part : Parts → Part → ℕ) (cost : ℕ) where
  -- the values that are kept for a mark
  abbrev values_for : Mark → List PartValues
  values_for mark = kept_for (part mark.node) mark.tag

  -- where the mark names the area, that is at least the cost
  abbrev IsArea : Mark → Type 0
  IsArea mark = mark.tag ≡ Closed Area → cost ≤ part mark.node Area

  -- the mark names the first part that is at least the cost
  abbrev IsNamed : Mark → Type 0
  IsNamed mark = NamesFirst part cost mark.tag mark.node

  -- what the pass leaves names the first parts
  all-first : (nodes : List Parts) (tags : List Tag) → AllByRecursion IsArea (marks nodes tags) → AllByRecursion IsNamed (marks nodes (renamed cost tags (flat_map values_for (marks nodes tags))))
  all-first [] [] areas = tt
  all-first [] (tag ∷ tags) areas = tt
  all-first (node ∷ nodes) [] areas = tt
  all-first (node ∷ nodes) (Extend ∷ tags) areas = (tt, all-first (made Extend node ++ nodes) tags areas.1)
  all-first (node ∷ nodes) (Split b ∷ tags) areas = (tt, all-first (made (Split b) node ++ nodes) tags areas.1)
  all-first (node ∷ nodes) (Open ∷ tags) areas = (tt, all-first nodes tags areas.1)
  all-first (node ∷ nodes) (Closed Area ∷ tags) areas = (area-first (part node) cost (areas.0 refl), all-first nodes tags areas.1)
  all-first (node ∷ nodes) (Closed p ∷ tags) areas = (refl, all-first nodes tags areas.1)

  -- one visit more
  module _ (before : ℕ) (old : List Mark) (node : Parts) (tag : Tag) (lower : cost ≤ before) where
    -- the subproblem with its tag, which names the first part that is at least the cost
    abbrev mark : Mark
    mark = record { node = node; tag = with_first_part (part node) cost tag }

    -- a tag that names the area as the first part names one that is at least the cost
    tag-area : (t : Tag) → with_first_part (part node) cost t ≡ Closed Area → cost ≤ part node Area
    tag-area Extend e = absurd cc
    tag-area (Split b) e = absurd cc
    tag-area Open e = absurd cc
    tag-area (Closed p) e = let same : first_part (part node) cost ≡ Area = cc in first-area (part node) cost same

    -- with one mark more the values of its parts are kept, also for a lower cost
    pub kept-more : (kept : List PartValues) → AreKept part before old kept → AreKept part cost (old ++ mark ∷ []) (kept ++ kept_for (part node) (with_first_part (part node) cost tag))
    kept-more kept k = record {
      values = ap (λ vs. vs ++ values_for mark) k.values ∙ flat_map_more values_for [] old mark;
      areas = All-append IsArea old (mark ∷ []) (All-weaker (λ (m : Mark). m.tag ≡ Closed Area → before ≤ part m.node Area) IsArea (λ m h e. (let now = h e in omega (arith, now, lower))) old k.areas) (All-cons IsArea mark [] (tag-area tag) (All-nil IsArea));
    }

  -- nothing is kept of what stays open
  pub kept-open : (old : List Mark) (kept : List PartValues) (nodes : List Parts) → AreKept part cost old kept → AreKept part cost (old ++ map (λ node. record { node = node; tag = Open }) nodes) kept
  kept-open old kept [] k = subst (λ ms. AreKept part cost ms kept) (sym (append-nil old)) k
  kept-open old kept (node ∷ nodes) k =
      let one = kept-more cost old node Open (omega arith) kept k in
      let same : kept ++ [] ≡ kept = append-nil kept in
      subst (λ ms. AreKept part cost ms kept) (append_assoc old (record { node = node; tag = Open } ∷ []) (map (λ node. record { node = node; tag = Open }) nodes))
      (kept-open (old ++ record { node = node; tag = Open } ∷ []) kept nodes (subst (AreKept part cost (old ++ record { node = node; tag = Open } ∷ [])) same one))

  -- tags that are named by the kept values name the first parts
  pub name-first : (nodes : List Parts) (tags : List Tag) (kept : List PartValues) → AreKept part cost (marks nodes tags) kept → All IsNamed (marks nodes (renamed cost tags kept))
  name-first nodes tags kept k =
      subst (λ vs. All IsNamed (marks nodes (renamed cost tags vs))) (sym k.values)
      (All-from_recursion IsNamed (marks nodes (renamed cost tags (flat_map values_for (marks nodes tags)))) (all-first nodes tags (recursion_from_All IsArea (marks nodes tags) k.areas)))

-- what is kept stays good for a lower cost
pub kept-lower : (part : Parts → Part → ℕ) (c d : ℕ) (ms : List Mark) (kept : List PartValues) → d ≤ c → AreKept part c ms kept → AreKept part d ms kept
kept-lower part c d ms kept h k = record {
  values = k.values;
  areas = All-weaker (λ (m : Mark). m.tag ≡ Closed Area → c ≤ part m.node Area) (λ (m : Mark). m.tag ≡ Closed Area → d ≤ part m.node Area) (λ m f e. (let n = f e in omega (arith, n, h))) ms k.areas;
}
