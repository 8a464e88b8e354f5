-- Names in maps.
use Rattle.std.proofs.Common.{◌≡◌, ℕ, suc, ◌+◌, ◌<◌, Bool, true, false, cond, List, [], ◌∷◌, ◌++◌, length, map, take, drop, get_or, Option, Some, None, refl, sym, ap, ◌∙◌, add-one, ℤ, ◌||◌}
use Rattle.sf_gsrc.proofs.Common.{is_some, not, filter, list_any, bytes_eq, Place, map-append, append-nil, filter-append, RawBlock, RawPad, names_of, has_name, place_of, pads_at, is_known, strangers_of, first_again, PlacesByName, IsNameSet, update, or_assoc, list_any_more}
use Rattle.sf_names.specs.Values.{value_in}
use Rattle.std.proofs.Math.Seq.{drop-cons}

-- ---- places, from the last to the first

-- the places from an index on begin with the one there
cut : (places : List Place) (i : ℕ) (p : Place) → i < length places → p ≡ get_or places i p → drop i places ≡ p ∷ drop (i + 1) places
cut places i p lt is = drop-cons places i p lt ∙ ap (λ (q : Place). q ∷ drop (suc i) places) (sym is) ∙ ap (λ (n : ℕ). p ∷ drop n places) (sym (add-one i))

-- a name has a place exactly where it is one of the names
pub has_place : (places : List Place) (name : List ℕ) → is_some (place_of places name) ≡ has_name (names_of places) name
has_place [] name = refl
has_place (p ∷ places) name =
    elim (bytes_eq p.name name) as (λ b. is_some (cond b (Some (p.x, p.y)) (place_of places name)) ≡ (b || has_name (names_of places) name)) [ true ↦ refl | false ↦ has_place places name ]

-- the places from an index on are known by their names, and so is the first name that stands again
pub record AreKnown (places : List Place) (i : ℕ) (m : List (List ℕ × (ℤ × ℤ))) (twice : Option (List ℕ)) : Type 0 where
  pub by_name : PlacesByName m (drop i places)
  pub twice_is : twice ≡ first_again (names_of (drop i places))

-- one place more, before the others, whose name may be one of theirs
pub one_place_more : (places : List Place) (i j : ℕ) (p : Place) (key : List ℕ) (at : ℤ × ℤ) (m n : List (List ℕ × (ℤ × ℤ))) (later : Option (ℤ × ℤ)) (twice : Option (List ℕ)) → i < length places → j ≡ i + 1 → p ≡ get_or places i p → key ≡ p.name → at ≡ (p.x, p.y)
    → ((other : List ℕ) → value_in n other ≡ update bytes_eq (value_in m) key (Some at) other) → later ≡ value_in m key → AreKnown places j m twice → AreKnown places i n (cond (is_some later) (Some p.name) twice)
one_place_more places i j p key at m n later twice lt next is named there updates found known =
    let again : is_some later ≡ has_name (names_of (drop (i + 1) places)) p.name = rw (found, named, known.by_name p.name, next) (has_place (drop (i + 1) places) p.name) in
    record {
      by_name = λ name. rw (cut places i p lt is) (updates name ∙ rw (known.by_name name, next, named, there) refl);
      twice_is = rw (cut places i p lt is, ← again, known.twice_is, next) refl;
    }

-- ---- sets of names

-- one of two choices is there where the first is taken or the second is there
or_is : {X : Type 0} (a : Bool) (x : X) (o : Option X) → is_some (cond a (Some x) o) ≡ (is_some o || a)
or_is true x (Some y) = refl
or_is true x None = refl
or_is false x (Some y) = refl
or_is false x None = refl

-- what the map says of a name
pub known_is : (m : List (List ℕ × Unit {0})) (has : List ℕ → Bool) (key name : List ℕ) (b : Bool) → IsNameSet m has → key ≡ name → b ≡ is_some (value_in m key) → has name ≡ b
known_is m has key name b known is found = sym (known name) ∙ ap (λ (n : List ℕ). is_some (value_in m n)) (sym is) ∙ sym found

-- one name more
pub one_name_more : (m n : List (List ℕ × Unit {0})) (key : List ℕ) (has : List ℕ → Bool) → ((other : List ℕ) → value_in n other ≡ update bytes_eq (value_in m) key (Some tt) other) → IsNameSet m has
    → IsNameSet n (λ name. has name || bytes_eq key name)
one_name_more m n key has updates known name =
    ap is_some (updates name) ∙ or_is (bytes_eq key name) tt (value_in m name) ∙ ap (λ b. b || bytes_eq key name) (known name)

-- a name is one of those of a list where some element has it
has_name-map : {X : Type 0} (f : X → List ℕ) (xs : List X) (name : List ℕ) → has_name (map f xs) name ≡ list_any (λ x. bytes_eq (f x) name) xs
has_name-map f [] name = refl
has_name-map f (x ∷ xs) name = ap (λ (b : Bool). bytes_eq (f x) name || b) (has_name-map f xs name)

-- a name is one of those of one element more where it was one before or is the new one
pub has_name-more : {X : Type 0} (f : X → List ℕ) (xs : List X) (i : ℕ) (x : X) (key name : List ℕ) → i < length xs → x ≡ get_or xs i x → key ≡ f x
    → has_name (map f (take (i + 1) xs)) name ≡ (has_name (map f (take i xs)) name || bytes_eq key name)
has_name-more f xs i x key name lt is named =
    has_name-map f (take (i + 1) xs) name ∙ list_any_more (λ y. bytes_eq (f y) name) xs i x lt ∙ rw (← is, ← named, has_name-map f (take i xs) name) refl

-- the disjunction of three, where the last two are known together
pub or_more : (a b c d : Bool) → d ≡ (b || c) → ((a || b) || c) ≡ (a || d)
or_more a b c d e = or_assoc a b c ∙ ap (λ (x : Bool). a || x) (sym e)

-- ---- pads

-- one pad more, at its place
pub one_pad_more : (places : List Place) (pads : List (List ℕ)) (name : List ℕ) (place : Option (ℤ × ℤ)) (old new : List RawPad) → old ≡ pads_at places pads → new ≡ old ++ record { name = name; place = place } ∷ [] → place ≡ place_of places name
    → new ≡ pads_at places (pads ++ name ∷ [])
one_pad_more places pads name place old new before more is =
    more ∙ rw (before, is) (sym (map-append (λ (n : List ℕ). record { name = n; place = place_of places n }) pads (name ∷ [])))

-- ---- strangers

-- of one place more, the strangers are those so far, and the name that is placed where it is not known
strangers-push : (blocks : List RawBlock) (pads : List (List ℕ)) (places : List Place) (p : Place)
    → strangers_of blocks pads (places ++ p ∷ []) ≡ strangers_of blocks pads places ++ filter (λ name. not (is_known blocks pads name)) (p.name ∷ [])
strangers-push blocks pads places p =
    ap (filter (λ name. not (is_known blocks pads name))) (map-append (λ (q : Place). q.name) places (p ∷ []))
    ∙ filter-append (λ name. not (is_known blocks pads name)) (names_of places) (p.name ∷ [])

-- a known name is no stranger
pub no_stranger : (blocks : List RawBlock) (pads : List (List ℕ)) (places : List Place) (p : Place) → is_known blocks pads p.name ≡ true
    → strangers_of blocks pads places ≡ strangers_of blocks pads (places ++ p ∷ [])
no_stranger blocks pads places p is =
    let none : filter (λ name. not (is_known blocks pads name)) (p.name ∷ []) ≡ [] = rw is refl in
    sym (strangers-push blocks pads places p ∙ ap (λ (ns : List (List ℕ)). strangers_of blocks pads places ++ ns) none ∙ append-nil (strangers_of blocks pads places))

-- and any other is one
pub one_stranger_more : (blocks : List RawBlock) (pads : List (List ℕ)) (places : List Place) (p : Place) → is_known blocks pads p.name ≡ false
    → strangers_of blocks pads places ++ p.name ∷ [] ≡ strangers_of blocks pads (places ++ p ∷ [])
one_stranger_more blocks pads places p is =
    let one : filter (λ name. not (is_known blocks pads name)) (p.name ∷ []) ≡ p.name ∷ [] = rw is refl in
    sym (strangers-push blocks pads places p ∙ ap (λ (ns : List (List ℕ)). strangers_of blocks pads places ++ ns) one)
