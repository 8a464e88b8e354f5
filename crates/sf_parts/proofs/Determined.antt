-- A design is determined by what it is built from.
use Rattle.std.proofs.Common.{◌≡◌, ℕ, zero, suc, ◌<◌, List, [], ◌∷◌, map, drop, length, get_or, ◌⊎◌, inl, inr, refl, ap, sym, ◌∙◌, arith}
use Rattle.sf_parts.proofs.Common.{AllByRecursion, AllPairs, Contains, zip, All-contains, recursion_from_All, IsDesignOf, IsNetOf, pin_order, Design, Net, Pin, Shape, Parts, RawNet, Outline, Weights}
use Rattle.sf_model.proofs.Determined.{same_design}

-- an empty list contains nothing
none : {X : Type 0} (y : X) → Contains [] y → ⊥
none y h = let low = h.1 in absurd (omega arith)

-- a list contains its first element
head_in : {X : Type 0} (x : X) (xs : List X) → Contains (x ∷ xs) x
head_in x xs = (0, omega arith, refl)

-- a list contains what its tail contains
later_in : {X : Type 0} (x : X) (xs : List X) (y : X) → Contains xs y → Contains (x ∷ xs) y
later_in x xs y h = (suc h.0, (let low = h.1 in let l : suc h.0 < length (x ∷ xs) = omega arith in l), h.2)

-- an element at a place of a list is the first, or one of the tail
member_cases : {X : Type 0} (x : X) (xs : List X) (y : X) (k : ℕ) → k < length (x ∷ xs) → get_or (x ∷ xs) k y ≡ y → (x ≡ y) ⊎ Contains xs y
member_cases x xs y zero low is = inl is
member_cases x xs y (suc k) low is = inr (k, (let l : k < length xs = omega arith in l), is)

-- what a list contains is its first element, or in its tail
in_cases : {X : Type 0} (x : X) (xs : List X) (y : X) → Contains (x ∷ xs) y → (x ≡ y) ⊎ Contains xs y
in_cases x xs y h = member_cases x xs y h.0 h.1 h.2

-- the pins ascend by their order
abbrev IsAscending : List Pin → Type 0
IsAscending pins = AllPairs (λ p q. pin_order p < pin_order q) pins

-- in an ascending list the first element is below all later ones
head_below : (x : Pin) (xs : List Pin) → IsAscending (x ∷ xs) → (y : Pin) → Contains xs y → pin_order x < pin_order y
head_below x xs up y h = All-contains (λ q. pin_order x < pin_order q) xs y (λ k d low. up 0 (suc k) d (omega arith) (omega arith)) h

-- the tail of an ascending list ascends
tail_up : (x : Pin) (xs : List Pin) → IsAscending (x ∷ xs) → IsAscending xs
tail_up x xs up i j d less within = up (suc i) (suc j) d (omega arith) (omega arith)

-- with the same first element, what one tail contains the other does
tail_in : (x y : Pin) (xs ys : List Pin) → IsAscending (x ∷ xs) → x ≡ y → ((p : Pin) → Contains (x ∷ xs) p → Contains (y ∷ ys) p) → (p : Pin) → Contains xs p → Contains ys p
tail_in x y xs ys up head to p h =
    let less : pin_order x < pin_order p = head_below x xs up p h in
    elim (in_cases y ys p (to p (later_in x xs p h))) [
      | inl e ↦ (let same : pin_order x ≡ pin_order p = ap pin_order (head ∙ e) in absurd (omega arith))
      | inr q ↦ q
    ]

-- two ascending lists of the same pins begin with the same
heads : (x y : Pin) (xs ys : List Pin) → IsAscending (x ∷ xs) → IsAscending (y ∷ ys) → Contains (y ∷ ys) x → Contains (x ∷ xs) y → x ≡ y
heads x y xs ys up up' a b =
    elim (in_cases y ys x a) [
      | inl e ↦ sym e
      | inr q ↦ elim (in_cases x xs y b) [ inl e ↦ e | inr r ↦ (let f : pin_order y < pin_order x = head_below y ys up' x q in let g : pin_order x < pin_order y = head_below x xs up y r in absurd (omega arith)) ]
    ]

-- ascending lists of the same pins are the same
same_sets : (xs ys : List Pin) → IsAscending xs → IsAscending ys → ((p : Pin) → Contains xs p → Contains ys p) → ((p : Pin) → Contains ys p → Contains xs p) → xs ≡ ys
same_sets [] [] up up' to from = refl
same_sets [] (y ∷ ys) up up' to from = absurd (none y (from y (head_in y ys)))
same_sets (x ∷ xs) [] up up' to from = absurd (none x (to x (head_in x xs)))
same_sets (x ∷ xs) (y ∷ ys) up up' to from =
    let head : x ≡ y = heads x y xs ys up up' (to x (head_in x xs)) (from y (head_in y ys)) in
    let rest : xs ≡ ys = same_sets xs ys (tail_up x xs up) (tail_up y ys up') (tail_in x y xs ys up head to) (tail_in y x ys xs up' (sym head) from) in
    ap (λ (z : Pin). z ∷ xs) head ∙ ap (λ (zs : List Pin). y ∷ zs) rest

-- two nets made of one that was read, with one weight, are the same
same_net : (parts : Parts) (read : RawNet) (n m : Net) → IsNetOf parts read n → IsNetOf parts read m → n.weight ≡ m.weight → n ≡ m
same_net parts read n m a b w =
    let f : List Pin → Net = λ ps. record { pins = ps; weight = n.weight } in
    let g : ℕ → Net = λ k. record { pins = m.pins; weight = k } in
    ap f (same_sets n.pins m.pins a.ascending b.ascending (λ p h. (b.same p).1 ((a.same p).0 h)) (λ p h. (a.same p).1 ((b.same p).0 h))) ∙ ap g w

-- the weights of nets
abbrev weights_of : List Net → List ℕ
weights_of nets = map (λ n. n.weight) nets

-- the first weights of lists with the same weights are the same
head_weight : (n m : Net) (ns ms : List Net) → weights_of (n ∷ ns) ≡ weights_of (m ∷ ms) → n.weight ≡ m.weight
head_weight n m ns ms e = ap (λ ws. get_or ws 0 0) e

-- the later weights of lists with the same weights are the same
tail_weights : (n m : Net) (ns ms : List Net) → weights_of (n ∷ ns) ≡ weights_of (m ∷ ms) → weights_of ns ≡ weights_of ms
tail_weights n m ns ms e = ap (λ ws. drop 1 ws) e

-- two lists of nets made of those that were read, with the same weights, are the same
same_nets : (parts : Parts) (read : List RawNet) (ns ms : List Net) → length ns ≡ length read → length ms ≡ length read → AllByRecursion (λ n. IsNetOf parts n.0 n.1) (zip read ns) → AllByRecursion (λ n. IsNetOf parts n.0 n.1) (zip read ms) → weights_of ns ≡ weights_of ms → ns ≡ ms
same_nets parts [] [] [] i j a b w = refl
same_nets parts [] [] (m ∷ ms) i j a b w = absurd (omega arith)
same_nets parts [] (n ∷ ns) ms i j a b w = absurd (omega arith)
same_nets parts (r ∷ rs) [] ms i j a b w = absurd (omega arith)
same_nets parts (r ∷ rs) (n ∷ ns) [] i j a b w = absurd (omega arith)
same_nets parts (r ∷ rs) (n ∷ ns) (m ∷ ms) i j a b w =
    ap (λ (z : Net). z ∷ ns) (same_net parts r n m a.0 b.0 (head_weight n m ns ms w)) ∙ ap (λ (zs : List Net). m ∷ zs) (same_nets parts rs ns ms (omega arith) (omega arith) a.1 b.1 (tail_weights n m ns ms w))

-- two designs of the same parts, lists and weights are the same
pub determined : (parts : Parts) (lists : List (List Shape)) (outline : Outline) (weights : Weights) (net_weights : List ℕ) (d e : Design) → IsDesignOf parts lists outline weights net_weights d → IsDesignOf parts lists outline weights net_weights e → d ≡ e
determined parts lists outline weights net_weights d e a b = same_design d e
    (a.blocks ∙ sym b.blocks)
    (a.pads ∙ sym b.pads)
    (same_nets parts parts.nets d.nets e.nets a.net_count b.net_count (recursion_from_All (λ (n : RawNet × Net). IsNetOf parts n.0 n.1) (zip parts.nets d.nets) a.nets) (recursion_from_All (λ (n : RawNet × Net). IsNetOf parts n.0 n.1) (zip parts.nets e.nets) b.nets) (a.net_weights_are ∙ sym b.net_weights_are))
    (a.outline_is ∙ sym b.outline_is)
    (a.weights_are ∙ sym b.weights_are)
    (a.no_floor ∙ sym b.no_floor)
    (a.unrouted ∙ sym b.unrouted)
