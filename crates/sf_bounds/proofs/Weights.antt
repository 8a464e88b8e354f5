-- The nets that count: those whose weight is above 0.
use Rattle.std.proofs.Common.{◌≡◌, ℕ, zero, suc, ◌+◌, ◌*◌, ◌<◌, ◌≤◌, List, [], ◌∷◌, ◌++◌, length, take, map, get_or, refl, sym, ap, ◌∙◌, arith, append_assoc}
use Rattle.sf_bounds.proofs.Common.{nat_lt, sum_by, range_with_len, cond-true, cond-false, cond_both, ltb-false, lt-ltb, le-ltb, take_more, map-append, length-map, get_or-map, filter-append, All-filter, sum_by-cons, Design, Net, Cell, IsNet, of_weight, weighed_nets, weights_of}

-- the nets that count of two lists are those of the first and then those of the second
pub of_weight-append : (ns ms : List Net) → of_weight (ns ++ ms) ≡ of_weight ns ++ of_weight ms
of_weight-append ns ms = filter-append (λ n. nat_lt 0 n.weight) ns ms

-- a net by itself
pub one-counts : (n : Net) → 0 < n.weight → of_weight (n ∷ []) ≡ n ∷ []
one-counts n h = cond-true (nat_lt 0 n.weight) (n ∷ []) [] (lt-ltb 0 n.weight h)

-- a net of weight 0 does not count
pub one-free : (n : Net) → n.weight ≤ 0 → of_weight (n ∷ []) ≡ []
one-free n h = cond-false (nat_lt 0 n.weight) (n ∷ []) [] (le-ltb 0 n.weight h)

-- nets of weight 0 add nothing
pub sum-of_weight : (f : Net → ℕ) (nets : List Net) → sum_by (λ n. n.weight * f n) (of_weight nets) ≡ sum_by (λ n. n.weight * f n) nets
sum-of_weight f [] = refl
sum-of_weight f (n ∷ ns) =
    let g = λ (m : Net). m.weight * f m in
    let rest = sum-of_weight f ns in
    cond_both (nat_lt 0 n.weight) (n ∷ of_weight ns) (of_weight ns) (λ v. sum_by g v ≡ sum_by g (n ∷ ns))
    (λ _. omega (arith, sum_by-cons g n (of_weight ns), sum_by-cons g n ns, rest))
    (λ e. (let z : n.weight ≡ 0 = omega (arith, ltb-false 0 n.weight e) in
    let none : n.weight * f n ≡ 0 * f n = ap (λ v. v * f n) z in
    omega (arith, none, sum_by-cons g n ns, rest)))

-- the nets that count are not more than all
pub few-kept : (nets : List Net) → length (of_weight nets) ≤ length nets
few-kept [] = omega arith
few-kept (n ∷ ns) =
    cond_both (nat_lt 0 n.weight) (n ∷ of_weight ns) (of_weight ns) (λ v. length v ≤ length (n ∷ ns))
    (λ _. omega (arith, few-kept ns)) (λ _. omega (arith, few-kept ns))

-- at most 65,536 nets of a design count
pub few-weighed : (design : Design) → length (weighed_nets design) ≤ 65536
few-weighed design = omega (arith, few-kept design.nets, design.limits.few_nets)

-- there are as many weights as nets that count
pub length-weights : (nets : List Net) → length (weights_of nets) ≡ length (of_weight nets)
length-weights nets = length-map (of_weight nets) (λ n. n.weight)

-- the weight at a place is that of the net that counts there
pub weight-at : (nets : List Net) (j : ℕ) (d : Net) → j < length (of_weight nets) → get_or (weights_of nets) j 0 ≡ (get_or (of_weight nets) j d).weight
weight-at nets j d lt = get_or-map (λ n. n.weight) (of_weight nets) j d 0 lt

-- the pins of a net that counts are there
pub weighed-inside : (design : Design) (j : ℕ) (d : Net) → j < length (weighed_nets design) → IsNet design (get_or (weighed_nets design) j d).pins
weighed-inside design j d lt = All-filter (λ n. nat_lt 0 n.weight) (λ n. IsNet design n.pins) design.nets (λ i e h. (design.limits.pins i e h).in_range) j d lt

-- a sum over numbers, with one more
pub sum-more : (f : ℕ → ℕ) (a n : ℕ) → sum_by f (range_with_len a (n + 1)) ≡ sum_by f (range_with_len a n) + f (a + n)
sum-more f a zero =
    let e : a + 0 ≡ a = omega arith in
    omega (arith, sum_by-cons f a [], ap f e)
sum-more f a (suc n) =
    let e : suc n + 1 ≡ suc (n + 1) = omega arith in
    let g : a + 1 + n ≡ a + suc n = omega arith in
    omega (
      arith,
      ap (λ (k : ℕ). sum_by f (range_with_len a k)) e,
      sum_by-cons f a (range_with_len (a + 1) (n + 1)),
      sum_by-cons f a (range_with_len (a + 1) n),
      sum-more f (a + 1) n,
      ap f g,
    )

-- the nets that count, with one net more
pub of_weight-more : (nets : List Net) (i : ℕ) (net : Net) → net ≡ get_or nets i net → i < length nets → of_weight (take (i + 1) nets) ≡ of_weight (take i nets) ++ of_weight (net ∷ [])
of_weight-more nets i net at lt =
    ap of_weight (take_more nets i net lt ∙ ap (λ v. take i nets ++ v ∷ []) (sym at)) ∙ of_weight-append (take i nets) (net ∷ [])

-- the weights with one net more are those before, and its own where it counts
pub weights_of-more : (nets : List Net) (i : ℕ) (net : Net) → net ≡ get_or nets i net → i < length nets → weights_of (take (i + 1) nets) ≡ weights_of (take i nets) ++ weights_of (net ∷ [])
weights_of-more nets i net at lt =
    let weight = λ (n : Net). n.weight in
    ap (map weight) (of_weight-more nets i net at lt) ∙ map-append weight (of_weight (take i nets)) (of_weight (net ∷ []))

-- the cells of one net more
pub row-step : (f : Net → Cell) (old cur new : List Cell) (nets : List Net) (i : ℕ) (net : Net) → cur ≡ old ++ map f (of_weight (take i nets)) → new ≡ cur ++ map f (of_weight (net ∷ [])) → net ≡ get_or nets i net → i < length nets → new ≡ old ++ map f (of_weight (take (i + 1) nets))
row-step f old cur new nets i net is_cur is_new at lt =
    let one = of_weight (net ∷ []) in
    let before = of_weight (take i nets) in
    is_new ∙ ap (λ v. v ++ map f one) is_cur ∙ append_assoc old (map f before) (map f one)
    ∙ ap (λ v. old ++ v) (sym (ap (map f) (of_weight-more nets i net at lt) ∙ map-append f before one))
