-- What paths leave of the nets that count.
use Rattle.std.proofs.Common.{◌≡◌, ℕ, suc, ◌+◌, ◌*◌, ◌<◌, ◌≤◌, List, [], ◌∷◌, ◌++◌, length, take, map, get_or, refl, sym, ap, ◌∙◌, arith, Bool, true, false, filter, zip}
use Rattle.sf_bounds.proofs.Common.{nat_lt, sum_by, cond-true, cond-false, cond_both, ltb-false, lt-ltb, le-ltb, take_more, length-map, get_or-map, filter-append, AllByRecursion, sum_by-cons, sum_by_more, Design, Net, of_weight, weighed_nets, weighed_lefts, lefts_of, get_or-zip, length-zip, lefts-count, lefts-most}

-- the net counts
abbrev counts : ℕ × Net → Bool
counts n = nat_lt 0 n.1.weight

-- beside what is left of them stand the nets that count
nets-beside : (ls : List ℕ) (ns : List Net) → length ls ≡ length ns → map (λ (n : ℕ × Net). n.1) (filter counts (zip ls ns)) ≡ of_weight ns
nets-beside [] [] same = refl
nets-beside [] (n ∷ ns) same = absurd (omega (arith, same))
nets-beside (l ∷ ls) [] same = absurd (omega (arith, same))
nets-beside (l ∷ ls) (n ∷ ns) same = by (nets-beside ls ns (omega (arith, same))) (nat_lt 0 n.weight) refl
  where
    by : map (λ (m : ℕ × Net). m.1) (filter counts (zip ls ns)) ≡ of_weight ns → (t : Bool) → nat_lt 0 n.weight ≡ t
        → map (λ (m : ℕ × Net). m.1) (filter counts ((l, n) ∷ zip ls ns)) ≡ of_weight (n ∷ ns)
    by rest true e =
        ap (map (λ (m : ℕ × Net). m.1)) (cond-true (nat_lt 0 n.weight) ((l, n) ∷ filter counts (zip ls ns)) (filter counts (zip ls ns)) e)
        ∙ ap (λ (ms : List Net). n ∷ ms) rest
        ∙ sym (cond-true (nat_lt 0 n.weight) (n ∷ of_weight ns) (of_weight ns) e)
    by rest false e =
        ap (map (λ (m : ℕ × Net). m.1)) (cond-false (nat_lt 0 n.weight) ((l, n) ∷ filter counts (zip ls ns)) (filter counts (zip ls ns)) e)
        ∙ rest
        ∙ sym (cond-false (nat_lt 0 n.weight) (n ∷ of_weight ns) (of_weight ns) e)

-- those of a design
weighed-beside : (design : Design) → map (λ (n : ℕ × Net). n.1) (weighed_lefts design) ≡ weighed_nets design
weighed-beside design = nets-beside design.routes.left design.nets (lefts-count design)

-- there are as many as nets that count
pub length-lefts : (design : Design) → length (weighed_lefts design) ≡ length (weighed_nets design)
length-lefts design = sym (length-map (weighed_lefts design) (λ (n : ℕ × Net). n.1)) ∙ ap (λ (ns : List Net). length ns) (weighed-beside design)

-- and as many numbers
pub length-lefts_of : (design : Design) → length (lefts_of design) ≡ length (weighed_nets design)
length-lefts_of design = length-map (weighed_lefts design) (λ (n : ℕ × Net). n.0) ∙ length-lefts design

-- nets of weight 0 add nothing
sum-counted : (f : Net → ℕ) (ls : List ℕ) (ns : List Net) → AllByRecursion (λ n. n.0 ≤ n.1.weight) (zip ls ns) → sum_by (λ n. n.0 * f n.1) (filter counts (zip ls ns)) ≡ sum_by (λ n. n.0 * f n.1) (zip ls ns)
sum-counted f [] ns few = refl
sum-counted f (l ∷ ls) [] few = refl
sum-counted f (l ∷ ls) (n ∷ ns) few =
    let g = λ (m : ℕ × Net). m.0 * f m.1 in
    let rest = sum-counted f ls ns few.1 in
    cond_both (nat_lt 0 n.weight) ((l, n) ∷ filter counts (zip ls ns)) (filter counts (zip ls ns)) (λ v. sum_by g v ≡ sum_by g ((l, n) ∷ zip ls ns))
    (λ _. omega (arith, sum_by-cons g (l, n) (filter counts (zip ls ns)), sum_by-cons g (l, n) (zip ls ns), rest))
    (λ e. (let z : l ≡ 0 = omega (arith, few.0, ltb-false 0 n.weight e) in
    let none : l * f n ≡ 0 * f n = ap (λ v. v * f n) z in
    omega (arith, none, sum_by-cons g (l, n) (zip ls ns), rest)))

-- of no net more is left than its weight
few-left : (ls : List ℕ) (ns : List Net) → ((k : ℕ) → k < length ns → get_or ls k 0 ≤ (get_or ns k (record { pins = []; weight = 0 })).weight) → AllByRecursion (λ n. n.0 ≤ n.1.weight) (zip ls ns)
few-left [] ns few = tt
few-left (l ∷ ls) [] few = tt
few-left (l ∷ ls) (n ∷ ns) few = (few 0 (omega arith), few-left ls ns (λ k lt. few (suc k) (omega (arith, lt))))

-- so the sum over those that count is that over all
pub sum-lefts : (design : Design) (f : Net → ℕ) → sum_by (λ n. n.0 * f n.1) (weighed_lefts design) ≡ sum_by (λ n. n.0 * f n.1) (zip design.routes.left design.nets)
sum-lefts design f = sum-counted f design.routes.left design.nets (few-left design.routes.left design.nets (lefts-most design))

-- the sum with one of them more
module _ (design : Design) (f : Net → ℕ) (j : ℕ) (lt : j < length (weighed_nets design)) where
  -- a net that has no pins
  abbrev nothing : Net
  nothing = record { pins = []; weight = 0 }

  -- what is left of it, and the net
  abbrev here : ℕ × Net
  here = get_or (weighed_lefts design) j (0, nothing)

  left-here : here.0 ≡ get_or (lefts_of design) j 0
  left-here = sym (get_or-map (λ (n : ℕ × Net). n.0) (weighed_lefts design) j (0, nothing) 0 (omega (arith, lt, length-lefts design)))

  net-here : here.1 ≡ get_or (weighed_nets design) j nothing
  net-here =
      sym (get_or-map (λ (n : ℕ × Net). n.1) (weighed_lefts design) j (0, nothing) nothing (omega (arith, lt, length-lefts design)))
      ∙ ap (λ (ns : List Net). get_or ns j nothing) (weighed-beside design)

  pub rest-more : (rest left value : ℕ) → left ≡ get_or (lefts_of design) j 0 → value ≡ f (get_or (weighed_nets design) j nothing) → rest ≡ sum_by (λ n. n.0 * f n.1) (take j (weighed_lefts design))
      → rest + left * value ≡ sum_by (λ n. n.0 * f n.1) (take (j + 1) (weighed_lefts design))
  rest-more rest left value is_left is_value before =
      let one : left * value ≡ here.0 * f here.1 = ap (λ n. n * value) (is_left ∙ sym left-here) ∙ ap (λ n. here.0 * n) (is_value ∙ ap f (sym net-here)) in
      omega (arith, before, one, sum_by_more (λ (n : ℕ × Net). n.0 * f n.1) (weighed_lefts design) j (0, nothing) (omega (arith, lt, length-lefts design)))

-- The list of what is left, net by net.

-- those that count, with one net more
pub lefts-more : (design : Design) (i : ℕ) (net : Net) → net ≡ get_or design.nets i net → i < length design.nets
    → filter counts (take (i + 1) (zip design.routes.left design.nets)) ≡ filter counts (take i (zip design.routes.left design.nets)) ++ filter counts ((get_or design.routes.left i 0, net) ∷ [])
lefts-more design i net at lt =
    let all = zip design.routes.left design.nets in
    let here : get_or all i (0, net) ≡ (get_or design.routes.left i 0, net) =
    get_or-zip design.routes.left design.nets i (0, net) (omega (arith, lt, lefts-count design)) lt ∙ ap (λ (n : Net). (get_or design.routes.left i 0, n)) (sym at) in
    ap (filter counts) (take_more all i (0, net) (omega (arith, lt, length-zip design.routes.left design.nets, lefts-count design)) ∙ ap (λ n. take i all ++ n ∷ []) here)
    ∙ filter-append counts (take i all) ((get_or design.routes.left i 0, net) ∷ [])

-- a net by itself
pub left-counts : (l : ℕ) (n : Net) → 0 < n.weight → filter counts ((l, n) ∷ []) ≡ (l, n) ∷ []
left-counts l n h = cond-true (nat_lt 0 n.weight) ((l, n) ∷ []) [] (lt-ltb 0 n.weight h)

-- a net of weight 0 does not count
pub left-free : (l : ℕ) (n : Net) → n.weight ≤ 0 → filter counts ((l, n) ∷ []) ≡ []
left-free l n h = cond-false (nat_lt 0 n.weight) ((l, n) ∷ []) [] (le-ltb 0 n.weight h)
