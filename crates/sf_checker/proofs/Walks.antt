-- What the walk keeps and finds.
use Rattle.std.proofs.Common.{◌≡◌, ℕ, ◌+◌, ◌<◌, ◌≤◌, min, List, [], ◌∷◌, ◌++◌, length, map, arith, refl, ap, sym, subst, ◌∙◌, Bool, true, false, cond, ◌&&◌, inl, inr, ◌⊎◌, Option, Some, None, Result, Ok, Err}
use Rattle.sf_checker.proofs.Common.{nat_lt, map-append, Design, block_count, Part, Parts, is_complete, is_wide, span_of, Tag, Extend, Split, Closed, Open, place_of, places_under, spell_trees, AreTrees, left_open, least, decided, one_decided, Why, NotClosed, BadSplit, BadChildren, Progress, fault_at, low_after, walk_past, unless, visited, walked, and_then, AllByRecursion, each-append, made, IsFair, least-min, made-subproblems, trees-first}
use Rattle.std.proofs.lemmas.Bool.Decides.{nat_tests}
use Rattle.sf_node.specs.Children.{extended, split, can_split, IsSubproblem}
use Rattle.sf_certificate.proofs.Places.{places-made}

-- a choice of a failure that gives none was not taken
some-else : (b : Bool) (why : Why) → cond b (Some why) None ≡ None → b ≡ false
some-else true why e = absurd (cc)
some-else false why e = refl

-- a choice of none that gives none was taken
none-else : (b : Bool) (why : Why) → cond b None (Some why) ≡ None → b ≡ true
none-else true why e = refl
none-else false why e = absurd (cc)

-- a choice of a failure that gives one was taken
is-some : (b : Bool) (why other : Why) → cond b (Some why) None ≡ Some other → b ≡ true
is-some true why other e = refl
is-some false why other e = absurd (cc)

-- a choice of none that gives a failure was not taken
is-none : (b : Bool) (why other : Why) → cond b None (Some why) ≡ Some other → b ≡ false
is-none true why other e = absurd (cc)
is-none false why other e = refl

-- two tests that hold together hold
and-both : (a b : Bool) → (a && b) ≡ true → (a ≡ true) × (b ≡ true)
and-both true true e = (refl, refl)
and-both true false e = absurd (cc)
and-both false b e = absurd (cc)

-- two tests that fail together don't both hold
and-not : (a b : Bool) → (a && b) ≡ false → a ≡ true → b ≡ true → ⊥
and-not true true e p q = cc
and-not true false e p q = cc
and-not false b e p q = cc

-- a number that is found less is less
less-true : (a b : ℕ) → nat_lt a b ≡ true → a < b
less-true a b e = grind (arith, nat_tests)

-- a lesser number is found less
true-less : (a b : ℕ) → a < b → nat_lt a b ≡ true
true-less a b h = grind (arith, nat_tests)

-- a number that is found not to be less is no less
less-false : (a b : ℕ) → nat_lt a b ≡ false → b ≤ a
less-false a b e = grind (arith, nat_tests)

-- what one tag did
pub record IsVisit (bound : Parts → ℕ) (part : Parts → Part → ℕ) (cost : ℕ) (walk : Progress) (node : Parts) (nodes : List Parts) (tag : Tag) (next : Progress) : Type 0 where
  pub fair : IsFair part cost tag node
  pub waiting : made tag node ++ nodes ≡ next.waiting
  pub low : low_after tag walk.low (bound node) ≡ next.low
  pub decided : walk.decided + one_decided tag ≡ next.decided
  pub number : walk.number + 1 ≡ next.number

-- a tag that may not stand is no fair one, and the other way round
no-fault : (part : Parts → Part → ℕ) (cost number : ℕ) (node : Parts) (tag : Tag) → fault_at (part node) cost number node tag ≡ None → IsFair part cost tag node
no-fault part cost number node Extend e = some-else (is_complete node) (BadChildren number) e
no-fault part cost number node (Split b) e =
    let both = and-both (nat_lt b (length node.spans)) (is_wide (span_of node b)) (none-else (can_split node b) (BadSplit number) e) in
    (less-true b (length node.spans) both.0, both.1)
no-fault part cost number node (Closed p) e = less-false (part node p) cost (some-else (nat_lt (part node p) cost) (NotClosed number (part node p) cost) e)
no-fault part cost number node Open e = tt

-- and a tag at fault is no fair one
a-fault : (part : Parts → Part → ℕ) (cost number : ℕ) (node : Parts) (tag : Tag) (why : Why) → fault_at (part node) cost number node tag ≡ Some why → IsFair part cost tag node → ⊥
a-fault part cost number node Extend why e fair = let no : false ≡ true = sym fair ∙ is-some (is_complete node) (BadChildren number) why e in cc
a-fault part cost number node (Split b) why e fair =
    and-not (nat_lt b (length node.spans)) (is_wide (span_of node b)) (is-none (can_split node b) (BadSplit number) why e) (true-less b (length node.spans) fair.0) fair.1
a-fault part cost number node (Closed p) why e fair =
    let less = less-true (part node p) cost (is-some (nat_lt (part node p) cost) (NotClosed number (part node p) cost) why e) in
    omega (arith, fair, less)
a-fault part cost number node Open why e fair = cc

-- a walk that goes on had no failure
unless-ok : (o : Option Why) (walk next : Progress) → unless o walk ≡ Ok next → (o ≡ None) × (walk ≡ next)
unless-ok None walk next e = (refl, cc)
unless-ok (Some why) walk next e = absurd (cc)

-- a walk that ends had that failure
unless-err : (o : Option Why) (walk : Progress) (why : Why) → unless o walk ≡ Err why → o ≡ Some why
unless-err None walk why e = absurd (cc)
unless-err (Some other) walk why e = let same : other ≡ why = cc in ap Some same

-- what one tag did, where it may stand
visit-fact : (bound : Parts → ℕ) (part : Parts → Part → ℕ) (cost : ℕ) (walk : Progress) (node : Parts) (nodes : List Parts) (tag : Tag) (next : Progress) → visited bound part cost walk (node ∷ nodes) tag ≡ Ok next → IsVisit bound part cost walk node nodes tag next
visit-fact bound part cost walk node nodes tag next e =
    let r = unless-ok (fault_at (part node) cost walk.number node tag) (walk_past bound walk (node ∷ nodes) node tag) next e in
    record {
      fair = no-fault part cost walk.number node tag r.0;
      waiting = ap (λ (w : Progress). w.waiting) r.1;
      low = ap (λ (w : Progress). w.low) r.1;
      decided = ap (λ (w : Progress). w.decided) r.1;
      number = ap (λ (w : Progress). w.number) r.1;
    }

-- where a tag is refused, it may not stand there
visit-fault : (bound : Parts → ℕ) (part : Parts → Part → ℕ) (cost : ℕ) (walk : Progress) (node : Parts) (nodes : List Parts) (tag : Tag) (why : Why) → visited bound part cost walk (node ∷ nodes) tag ≡ Err why → IsFair part cost tag node → ⊥
visit-fault bound part cost walk node nodes tag why e fair =
    a-fault part cost walk.number node tag why (unless-err (fault_at (part node) cost walk.number node tag) (walk_past bound walk (node ∷ nodes) node tag) why e) fair

-- ---- tags one after another

-- one step after others, whatever came of them
step-append : (r : Result Progress Why) (f g h : Progress → Result Progress Why) → ((walk : Progress) → f walk ≡ and_then (g walk) h) → and_then r f ≡ and_then (and_then r g) h
step-append (Ok walk) f g h e = e walk
step-append (Err why) f g h e = refl

-- the walk goes on from where it came to
pub walked-append : (bound : Parts → ℕ) (part : Parts → Part → ℕ) (cost : ℕ) (first more : List Tag) (walk : Progress) → walked bound part cost walk (first ++ more) ≡ and_then (walked bound part cost walk first) (λ next. walked bound part cost next more)
unfolding walked
walked-append bound part cost [] more walk = refl
walked-append bound part cost (tag ∷ first) more walk =
    step-append (visited bound part cost walk walk.waiting tag) (λ next. walked bound part cost next (first ++ more)) (λ next. walked bound part cost next first) (λ next. walked bound part cost next more) (λ next. walked-append bound part cost first more next)

-- one tag
pub walked-one : (bound : Parts → ℕ) (part : Parts → Part → ℕ) (cost : ℕ) (walk : Progress) (tag : Tag) (r : Result Progress Why) → visited bound part cost walk walk.waiting tag ≡ r → walked bound part cost walk (tag ∷ []) ≡ r
unfolding walked
walked-one bound part cost walk tag (Ok next) e = ap (λ r. and_then r (λ next. walked bound part cost next [])) e
walked-one bound part cost walk tag (Err why) e = ap (λ r. and_then r (λ next. walked bound part cost next [])) e

-- ---- what the end of the walk says of the tags

-- the tags from here on are trees, and the walk has their least bound and their number
pub record IsSeen (bound : Parts → ℕ) (part : Parts → Part → ℕ) (cost : ℕ) (walk : Progress) (tags : List Tag) (last : Progress) : Type 0 where
  pub trees : AreTrees part cost walk.waiting tags
  pub low : last.low ≡ least walk.low (map bound (left_open walk.waiting tags))
  pub count : last.decided ≡ walk.decided + decided tags

-- a tag more
seen-more : (bound : Parts → ℕ) (part : Parts → Part → ℕ) (cost : ℕ) (walk next last : Progress) (node : Parts) (nodes : List Parts) (tag : Tag) (tags : List Tag) → walk.waiting ≡ node ∷ nodes → IsVisit bound part cost walk node nodes tag next → IsSeen bound part cost next tags last → IsSeen bound part cost walk (tag ∷ tags) last
seen-more bound part cost walk next last node nodes Extend tags w v s =
    let e : next.waiting ≡ extended node ++ nodes = sym v.waiting in
    record {
      trees = subst (λ z. AreTrees part cost z (Extend ∷ tags)) (sym w) (v.fair, subst (λ z. AreTrees part cost z tags) e s.trees);
      low = s.low ∙ ap (λ n. least n (map bound (left_open next.waiting tags))) (sym v.low) ∙ ap (λ z. least walk.low (map bound (left_open z tags))) e ∙ ap (λ z. least walk.low (map bound (left_open z (Extend ∷ tags)))) (sym w);
      count = omega (arith, s.count, v.decided);
    }
seen-more bound part cost walk next last node nodes (Split b) tags w v s =
    let e : next.waiting ≡ split node b ++ nodes = sym v.waiting in
    record {
      trees = subst (λ z. AreTrees part cost z (Split b ∷ tags)) (sym w) (v.fair, subst (λ z. AreTrees part cost z tags) e s.trees);
      low = s.low ∙ ap (λ n. least n (map bound (left_open next.waiting tags))) (sym v.low) ∙ ap (λ z. least walk.low (map bound (left_open z tags))) e ∙ ap (λ z. least walk.low (map bound (left_open z (Split b ∷ tags)))) (sym w);
      count = omega (arith, s.count, v.decided);
    }
seen-more bound part cost walk next last node nodes (Closed p) tags w v s =
    let e : next.waiting ≡ nodes = sym v.waiting in
    record {
      trees = subst (λ z. AreTrees part cost z (Closed p ∷ tags)) (sym w) (v.fair, subst (λ z. AreTrees part cost z tags) e s.trees);
      low = s.low ∙ ap (λ n. least n (map bound (left_open next.waiting tags))) (sym v.low) ∙ ap (λ z. least walk.low (map bound (left_open z tags))) e ∙ ap (λ z. least walk.low (map bound (left_open z (Closed p ∷ tags)))) (sym w);
      count = omega (arith, s.count, v.decided);
    }
seen-more bound part cost walk next last node nodes Open tags w v s =
    let e : next.waiting ≡ nodes = sym v.waiting in
    record {
      trees = subst (λ z. AreTrees part cost z (Open ∷ tags)) (sym w) (subst (λ z. AreTrees part cost z tags) e s.trees);
      low = s.low ∙ ap (λ n. least n (map bound (left_open next.waiting tags))) (sym v.low) ∙ ap (λ z. least (min walk.low (bound node)) (map bound (left_open z tags))) e
          ∙ least-min walk.low (bound node) (map bound (left_open nodes tags)) ∙ ap (λ z. least walk.low (map bound (left_open z (Open ∷ tags)))) (sym w);
      count = omega (arith, s.count, v.decided);
    }

-- what came first, and what came of it
record IsThen (r : Result Progress Why) (f : Progress → Result Progress Why) (last : Progress) : Type 0 where
  next : Progress
  first : r ≡ Ok next
  later : f next ≡ Ok last

-- where two steps come to something, so did the first
then-ok : (r : Result Progress Why) (f : Progress → Result Progress Why) (last : Progress) → and_then r f ≡ Ok last → IsThen r f last
then-ok (Ok next) f last e = record { next = next; first = refl; later = e }
then-ok (Err why) f last e = absurd (cc)

-- of two tests that hold together the second holds
and-second : (a b : Bool) → (a && b) ≡ true → b ≡ true
and-second true b e = e
and-second false b e = absurd (cc)

-- where the walk comes to the end of tags that spell trees, it saw them
pub seen : (design : Design) (bound : Parts → ℕ) (part : Parts → Part → ℕ) (cost : ℕ) (tags : List Tag) (walk : Progress) (waiting : List Parts) (last : Progress) → walk.waiting ≡ waiting → walked bound part cost walk tags ≡ Ok last → spell_trees (block_count design) (map place_of waiting) tags ≡ true → AllByRecursion (IsSubproblem design) waiting → IsSeen bound part cost walk tags last
unfolding walked
seen design bound part cost [] walk [] last w e spelled subs =
    let same : walk ≡ last = cc in
    record {
      trees = subst (λ z. AreTrees part cost z []) (sym w) tt;
      low = ap (λ (z : Progress). z.low) (sym same) ∙ ap (λ z. least walk.low (map bound (left_open z []))) (sym w);
      count = omega (arith, ap (λ (z : Progress). z.decided) same);
    }
seen design bound part cost (tag ∷ tags) walk [] last w e spelled subs = absurd (cc)
seen design bound part cost [] walk (node ∷ nodes) last w e spelled subs = absurd (cc)
seen design bound part cost (tag ∷ tags) walk (node ∷ nodes) last w e spelled subs =
    let n = block_count design in
    let r = then-ok (visited bound part cost walk walk.waiting tag) (λ next. walked bound part cost next tags) last e in
    let v = visit-fact bound part cost walk node nodes tag r.next (subst (λ z. visited bound part cost walk z tag ≡ Ok r.next) w r.first) in
    let later : spell_trees n (places_under n tag (place_of node) ++ map place_of nodes) tags ≡ true = and-second (nat_lt (length node.steps) 3200) (spell_trees n (places_under n tag (place_of node) ++ map place_of nodes) tags) spelled in
    let places : map place_of (made tag node ++ nodes) ≡ places_under n tag (place_of node) ++ map place_of nodes =
    map-append place_of (made tag node) nodes ∙ ap (λ z. z ++ map place_of nodes) (places-made design part cost tag node subs.0 v.fair) in
    seen-more bound part cost walk r.next last node nodes tag tags w v
    (seen design bound part cost tags r.next (made tag node ++ nodes) last (sym v.waiting) r.later
    (subst (λ z. spell_trees n z tags ≡ true) (sym places) later)
    (each-append (IsSubproblem design) (made tag node) nodes (made-subproblems design part cost tag node subs.0 v.fair) subs.1))

-- where two steps fail, the first did, or the second after it
then-err : (r : Result Progress Why) (f : Progress → Result Progress Why) (why : Why) → and_then r f ≡ Err why → (r ≡ Err why) ⊎ ((next : Progress) × (r ≡ Ok next) × (f next ≡ Err why))
then-err (Ok next) f why e = inr (next, refl, e)
then-err (Err other) f why e = inl e

-- where the walk finds a fault, the tags are no trees
pub faulty : (bound : Parts → ℕ) (part : Parts → Part → ℕ) (cost : ℕ) (tags : List Tag) (walk : Progress) (waiting : List Parts) (why : Why) → walk.waiting ≡ waiting → walked bound part cost walk tags ≡ Err why → AreTrees part cost waiting tags → ⊥
unfolding walked
faulty bound part cost [] walk waiting why w e trees = cc
faulty bound part cost (tag ∷ tags) walk [] why w e trees = trees
faulty bound part cost (tag ∷ tags) walk (node ∷ nodes) why w e trees =
    let first = trees-first part cost node nodes tag tags trees in
    elim (then-err (visited bound part cost walk walk.waiting tag) (λ next. walked bound part cost next tags) why e) [
      | inl here ↦ visit-fault bound part cost walk node nodes tag why (subst (λ z. visited bound part cost walk z tag ≡ Err why) w here) first.0
      | inr there ↦ (let v = visit-fact bound part cost walk node nodes tag there.0 (subst (λ z. visited bound part cost walk z tag ≡ Ok there.0) w there.1) in
          faulty bound part cost tags there.0 (made tag node ++ nodes) why (sym v.waiting) there.2 first.1)
    ]
