-- What the curves of the groups say of the value of a subproblem that is not solved.
use Rattle.std.proofs.Common.{◌≡◌, ◌≢◌, ℕ, suc, ◌+◌, ◌-◌, ◌≤◌, List, [], ◌∷◌, ◌++◌, length, map, reverse, refl, sym, ap, ◌∙◌, subst, arith, Bool, true, false, All, length-append, ◌||◌}
use Rattle.sf_frames.proofs.Common.{zero, Any, Option, Some, None, MatchOption, filter, AllZip, AllByRecursion, list_any, range_with_len, reverse-append, length-reverse, length-map, true≢false, cond_both, recursion_from_All, All-from_recursion, Design, Shape, block_count, length-at_most_once, each-append, each-left, each-right, Token, numbers, length-numbers, count-numbers, numbers-below, Parts, IsSubproblem, is_unused, subproblem-begun, subproblem-spans, Item, read, items_of, unused, fitting, has_none, AreGroupCurves, IsItemCurve, AllSmall, IsAreaPart}
use Rattle.sf_polish.specs.declared.expr.Token.TheVariants as token
use Rattle.sf_polish.proofs.Stack.{Reads, Reads-counts}
use Rattle.sf_standard.specs.Items as item
use Rattle.sf_frames.specs.Groups.{group_plans, IsNeeded, IsNeededOrNone}
use Rattle.sf_frames.proofs.AreaLink.{area-link}
use Rattle.sf_frames.proofs.ItemLeasts.{item-some, item-none}

-- where each pair is related and each element on the left has P, each one on the right has what follows, Q
zip-left : {A B : Type 0} (R : A → B → Type 0) (P : A → Type 0) (Q : B → Type 0) → ((a : A) (b : B) → R a b → P a → Q b) → (xs : List A) (ys : List B) → AllZip R xs ys → AllByRecursion P xs → AllByRecursion Q ys
zip-left R P Q f [] [] h p = tt
zip-left R P Q f [] (y ∷ ys) h p = elim h [ ]
zip-left R P Q f (x ∷ xs) [] h p = elim h [ ]
zip-left R P Q f (x ∷ xs) (y ∷ ys) h p = (f x y h.0 p.0, zip-left R P Q f xs ys h.1 p.1)

-- lists that are related place by place have the same length
length-zip : {A B : Type 0} (R : A → B → Type 0) (xs : List A) (ys : List B) → AllZip R xs ys → length xs ≡ length ys
length-zip R [] [] h = refl
length-zip R [] (y ∷ ys) h = elim h [ ]
length-zip R (x ∷ xs) [] h = elim h [ ]
length-zip R (x ∷ xs) (y ∷ ys) h = omega (arith, length-zip R xs ys h.1)

-- where each pair is related and each element on the right has Q, each one on the left has what follows, P
zip-right : {A B : Type 0} (R : A → B → Type 0) (P : A → Type 0) (Q : B → Type 0) → ((a : A) (b : B) → R a b → Q b → P a) → (xs : List A) (ys : List B) → AllZip R xs ys → AllByRecursion Q ys → AllByRecursion P xs
zip-right R P Q f [] [] h p = tt
zip-right R P Q f [] (y ∷ ys) h p = elim h [ ]
zip-right R P Q f (x ∷ xs) [] h p = elim h [ ]
zip-right R P Q f (x ∷ xs) (y ∷ ys) h p = (f x y h.0 p.0, zip-right R P Q f xs ys h.1 p.1)

-- what holds of each element holds of each one of the list reversed
each-reverse : {X : Type 0} (P : X → Type 0) (xs : List X) → AllByRecursion P xs → AllByRecursion P (reverse xs)
each-reverse P [] h = tt
each-reverse P (x ∷ xs) h = subst (AllByRecursion P) (sym (reverse-append (x ∷ []) xs)) (each-append P (reverse xs) (x ∷ []) (each-reverse P xs h.1) (h.0, tt))

-- what holds of each element of the list reversed holds of each one of the list
each-unreverse : {X : Type 0} (P : X → Type 0) (xs : List X) → AllByRecursion P (reverse xs) → AllByRecursion P xs
each-unreverse P [] h = tt
each-unreverse P (x ∷ xs) h =
    let k : AllByRecursion P (reverse xs ++ x ∷ []) = subst (AllByRecursion P) (reverse-append (x ∷ []) xs) h in
    ((each-right P (reverse xs) (x ∷ []) k).0, each-unreverse P xs (each-left P (reverse xs) (x ∷ []) k))

-- tokens leave as many items as are counted along them
length-read : (items : List Item) (ts : List Token) (h g : ℕ) → length items ≡ h → Reads h ts g → length (read items ts) ≡ g
length-read items [] h g e r = e ∙ r
length-read [] (token.Block b ∷ ts) h g e r = length-read (item.Block b ∷ []) ts (h + 1) g (omega (arith, e)) r
length-read (i ∷ items) (token.Block b ∷ ts) h g e r = length-read (item.Block b ∷ i ∷ items) ts (h + 1) g (omega (arith, e)) r
length-read [] (token.Beside ∷ ts) h g e r = absurd (omega (arith, e, r.0))
length-read (i ∷ []) (token.Beside ∷ ts) h g e r = absurd (omega (arith, e, r.0))
length-read (j ∷ i ∷ items) (token.Beside ∷ ts) h g e r = length-read (item.Beside i j ∷ items) ts (h - 1) g (omega (arith, e)) r.1
length-read [] (token.Above ∷ ts) h g e r = absurd (omega (arith, e, r.0))
length-read (i ∷ []) (token.Above ∷ ts) h g e r = absurd (omega (arith, e, r.0))
length-read (j ∷ i ∷ items) (token.Above ∷ ts) h g e r = length-read (item.Above i j ∷ items) ts (h - 1) g (omega (arith, e)) r.1

-- a range of n numbers has length n
length-range : (a n : ℕ) → length (range_with_len a n) ≡ n
length-range a zero = refl
length-range a (suc n) = omega (arith, length-range (a + 1) n)

-- the elements that pass a test are not more than all
length-filter : (p : ℕ → Bool) (xs : List ℕ) → length (filter p xs) ≤ length xs
length-filter p [] = omega arith
length-filter p (x ∷ xs) = cond_both (p x) (x ∷ filter p xs) (filter p xs) (λ v. length v ≤ suc (length xs)) (λ _. omega (arith, length-filter p xs)) (λ _. omega (arith, length-filter p xs))

-- a subproblem has at most 1000 groups
pub few_groups : (design : Design) (node : Parts) (curves : List (List Shape)) → IsSubproblem design node → AreGroupCurves design node curves → length curves ≤ 1000
few_groups design node curves sub g =
    let i = subproblem-begun design node sub in
    let ts = node.tokens in
    let n = block_count design in
    let items = length-read [] ts 0 i.count refl i.reads in
    let most : length (numbers ts) ≤ n = length-at_most_once (λ (m : ℕ). m) n (numbers ts) (λ b. omega (arith, count-numbers b ts, i.once b)) (numbers-below n ts i.below) in
    omega (
      arith,
      ap length g.2,
      length-append g.0 g.1,
      length-reverse g.0,
      length-zip (IsItemCurve design node) (reverse g.0) (items_of node) g.3,
      length-zip (IsItemCurve design node) g.1 (unused node) g.4,
      items,
      Reads-counts ts 0 i.count i.reads,
      most,
      length-numbers ts,
      design.limits.few_blocks,
      subproblem-spans design node sub,
      length-map (filter (λ b. is_unused b ts) (range_with_len 0 (length node.spans))) (λ b. item.Block b),
      length-filter (λ b. is_unused b ts) (range_with_len 0 (length node.spans)),
      length-range 0 (length node.spans),
    )

-- no shape on the curve of an item has a side beyond the limit
curve-small : (design : Design) (node : Parts) (c : List Shape) (i : Item) → IsItemCurve design node c i → AllSmall c
curve-small design node c i k j d lt = let w = k.within j d lt in (omega (arith, w.0, design.limits.width.1), omega (arith, w.1, design.limits.height.1))

module _ (design : Design) (node : Parts) (curves : List (List Shape)) (g : AreGroupCurves design node curves) where
  -- what follows for each curve from its item
  each-curve : (P : List Shape → Type 0) (Q : Item → Type 0) → ((c : List Shape) (i : Item) → IsItemCurve design node c i → Q i → P c) → AllByRecursion Q (items_of node ++ unused node) → AllByRecursion P curves
  each-curve P Q f h =
      subst (AllByRecursion P) (sym g.2)
      (each-append P g.0 g.1
      (each-unreverse P g.0 (zip-right (IsItemCurve design node) P Q f (reverse g.0) (items_of node) g.3 (each-left Q (items_of node) (unused node) h)))
      (zip-right (IsItemCurve design node) P Q f g.1 (unused node) g.4 (each-right Q (items_of node) (unused node) h)))

  -- what follows for each item from its curve
  each-item : (P : List Shape → Type 0) (Q : Item → Type 0) → ((c : List Shape) (i : Item) → IsItemCurve design node c i → P c → Q i) → AllByRecursion P curves → AllByRecursion Q (items_of node ++ unused node)
  each-item P Q f h =
      let k : AllByRecursion P (g.0 ++ g.1) = subst (AllByRecursion P) g.2 h in
      each-append Q (items_of node) (unused node)
      (zip-left (IsItemCurve design node) P Q f (reverse g.0) (items_of node) g.3 (each-reverse P g.0 (each-left P g.0 g.1 k)))
      (zip-left (IsItemCurve design node) P Q f g.1 (unused node) g.4 (each-right P g.0 g.1 k))

  -- a number for each item
  trivial : (is : List Item) → AllByRecursion (λ i. ℕ) is
  trivial [] = tt
  trivial (i ∷ is) = (0, trivial is)

  -- no shape on a group's curve has a side beyond the limit
  pub small_groups : All AllSmall curves
  small_groups = All-from_recursion AllSmall curves (each-curve AllSmall (λ i. ℕ) (λ c i k _. curve-small design node c i k) (trivial (items_of node ++ unused node)))

  -- where each item has a plan that fits, none of them has none
  any-from : (is : List Item) → AllByRecursion (λ i. has_none (fitting design node i) ≡ false) is → list_any has_none (map (fitting design node) is) ≡ false
  any-from [] h = refl
  any-from (i ∷ is) h = ap (λ b. b || list_any has_none (map (fitting design node) is)) h.0 ∙ any-from is h.1

  -- both parts of a disjunction that is false are false
  or-false : (a b : Bool) → (a || b) ≡ false → (a ≡ false) × (b ≡ false)
  or-false true b h = absurd (true≢false h)
  or-false false b h = (refl, h)

  -- where none of the items has no plan that fits, each has one
  any-to : (is : List Item) → list_any has_none (map (fitting design node) is) ≡ false → AllByRecursion (λ i. has_none (fitting design node i) ≡ false) is
  any-to [] h = tt
  any-to (i ∷ is) h = let k = or-false (has_none (fitting design node i)) (list_any has_none (map (fitting design node) is)) h in (k.0, any-to is k.1)

  -- the area part of the curves is the area that the groups need at least
  all-have : (a : ℕ) → IsAreaPart curves a → IsNeeded design node a
  all-have a part = record {
    some = any-from (items_of node ++ unused node) (each-item (λ c. c ≢ []) (λ i. has_none (fitting design node i) ≡ false) (λ c i k ne. item-some design node c i k ne) (recursion_from_All (λ c. c ≢ []) curves part.some));
    value = area-link design node curves a g part;
  }

  -- where a curve is empty, a group has no plan that fits
  none-has : Any (λ c. c ≡ []) curves → list_any has_none (group_plans design node) ≡ true
  none-has any = go (list_any has_none (group_plans design node)) refl
    where
      go : (b : Bool) → list_any has_none (group_plans design node) ≡ b → list_any has_none (group_plans design node) ≡ true
      go true e = e
      go false e = absurd (clash (each-curve (λ c. c ≢ []) (λ i. has_none (fitting design node i) ≡ false) (λ c i k h nil. true≢false (sym (item-none design node c i k nil) ∙ h)) (any-to (items_of node ++ unused node) e)) any)
        where
          clash : AllByRecursion (λ c. c ≢ []) curves → Any (λ c. c ≡ []) curves → ⊥
          clash all any = (All-from_recursion (λ c. c ≢ []) curves all any.0 any.1 any.2) (any.3 ∙ any.4)

  -- the area part of the curves is the area needed at least, and where a curve is empty some group has no
  -- plan
  pub needed_or_none : (found : Option ℕ) → MatchOption found (Any (λ c. c ≡ []) curves) (IsAreaPart curves) → IsNeededOrNone design node found
  needed_or_none None h = none-has h
  needed_or_none (Some a) h = all-have a h
