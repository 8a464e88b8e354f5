-- Least areas and their sums are machine numbers.
use Rattle.std.proofs.Common.{◌≡◌, ℕ, suc, ◌+◌, ◌*◌, ◌≤◌, List, [], ◌∷◌, ◌++◌, length, take, drop, map, refl, ap, subst, arith, true, false, length-append, ◌||◌}
use Rattle.sf_frames.proofs.Common.{sum_by, filter, Contains, Bool, cond, Option, Some, None, list_any, range_with_len, mul-le-mul, cond_both, length-map, take-append-drop, sum_by-cons, sum_by-append, sum-map, Design, block_count, Tree, Token, is_operand, operands, Parts, root, is_unused, IsSubproblem, subproblem-begun, Contains-head, Item, read, unused, plans, area, least_of, has_none, least_of-le, Least, Sums, path, items_at, ways, groups_at, IsLeastFor, IsLeastOrNone, AreSums, AreSumsOrNone, AreWithin, length-at_most_once, numbers, length-numbers, count-numbers, numbers-below}
use Rattle.std.proofs.lemmas.List.FromFn.{length-range_with_len}
use Rattle.sf_polish.specs.declared.expr.Token.TheVariants as token
use Rattle.sf_standard.specs.Items as item
use Rattle.sf_frames.proofs.Summing.{others, groups-before}
use Rattle.sf_frames.proofs.Joining.{sizes-within}

-- the least area of some plans, each of at most 2^40, is at most 2^40
least-of-some : (ts : List Tree) → has_none ts ≡ false → ((t : Tree) → Contains ts t → area t ≤ 1099511627776) → least_of area ts ≤ 1099511627776
least-of-some [] e h = absurd (let k : true ≡ false = e in cc)
least-of-some (t ∷ ts) e h = omega (arith, h t (Contains-head t ts), least_of-le area (t ∷ ts) t (Contains-head t ts))

-- a plan in the outline has an area of at most 2^40
way-small : (design : Design) (i : Item) (t : Tree) → Contains (ways design i) t → area t ≤ 1099511627776
way-small design i t c =
    let w = sizes-within design (root design) i t c in
    omega (arith, mul-le-mul w.0 w.1, mul-le-mul design.limits.width.1 design.limits.height.1)

-- the least area of an item that has a plan is at most 2^40
pub least-small : (design : Design) (i : Item) (l : Least) → IsLeastFor (ways design i) l → l.area ≤ 1099511627776
least-small design i l m = omega (arith, m.area, least-of-some (ways design i) m.some (way-small design i))

-- the least areas of items that have plans add up to at most 2^40 for each
sum-small : (design : Design) (is : List Item) → list_any has_none (map (ways design) is) ≡ false → sum_by (least_of area) (map (ways design) is) ≤ 1099511627776 * length is
sum-small design [] e = omega arith
sum-small design (i ∷ is) e =
    let k = both-false (has_none (ways design i)) (list_any has_none (map (ways design) is)) e in
    omega (arith, sum_by-cons (least_of area) (ways design i) (map (ways design) is), least-of-some (ways design i) k.0 (way-small design i), sum-small design is k.1)
  where
    both-false : (a b : Bool) → (a || b) ≡ false → (a ≡ false) × (b ≡ false)
    both-false false b e = (refl, e)
    both-false true b e = absurd (let h : true ≡ false = e in cc)

-- an operand in front counts one more, an operator nothing
count-cons : (t : Token) (ts : List Token) → operands (t ∷ ts) ≡ cond (is_operand t) 1 0 + operands ts
count-cons t ts = sum_by-cons (λ t. cond {A = ℕ} (is_operand t) 1 0) t ts

-- there are no more items than stood there before and operands together
length-read : (items : List Item) (ts : List Token) → length (read items ts) ≤ length items + operands ts
length-read items [] = omega arith
length-read [] (token.Block b ∷ ts) = omega (arith, length-read (item.Block b ∷ []) ts, count-cons (token.Block b) ts)
length-read (i ∷ items) (token.Block b ∷ ts) = omega (arith, length-read (item.Block b ∷ i ∷ items) ts, count-cons (token.Block b) ts)
length-read [] (token.Beside ∷ ts) = omega (arith, length-read [] ts, count-cons token.Beside ts)
length-read (i ∷ []) (token.Beside ∷ ts) = omega (arith, length-read (i ∷ []) ts, count-cons token.Beside ts)
length-read (j ∷ i ∷ items) (token.Beside ∷ ts) = omega (arith, length-read (item.Beside i j ∷ items) ts, count-cons token.Beside ts)
length-read [] (token.Above ∷ ts) = omega (arith, length-read [] ts, count-cons token.Above ts)
length-read (i ∷ []) (token.Above ∷ ts) = omega (arith, length-read (i ∷ []) ts, count-cons token.Above ts)
length-read (j ∷ i ∷ items) (token.Above ∷ ts) = omega (arith, length-read (item.Above i j ∷ items) ts, count-cons token.Above ts)

-- a filter leaves no more than there was
length-filter : (p : ℕ → Bool) (xs : List ℕ) → length (filter p xs) ≤ length xs
length-filter p [] = omega arith
length-filter p (x ∷ xs) = cond_both (p x) (x ∷ filter p xs) (filter p xs) (λ v. length v ≤ suc (length xs)) (λ _. omega (arith, length-filter p xs)) (λ _. omega (arith, length-filter p xs))

-- there are at most 640 items and unused blocks
groups-few : (design : Design) (node : Parts) (k : ℕ) → IsSubproblem design node → length (items_at node.tokens k ++ unused (path design (take k node.tokens))) ≤ 640
groups-few design node k sub =
    let i = subproblem-begun design node sub in
    let ts = node.tokens in
    let n = block_count design in
    let spans = (root design).spans in
    let free = λ (b : ℕ). is_unused b (take k ts) in
    let most : length (numbers ts) ≤ n = length-at_most_once (λ (m : ℕ). m) n (numbers ts) (λ b. omega (arith, count-numbers b ts, i.once b)) (numbers-below n ts i.below) in
    omega (
      arith,
      length-append (items_at ts k) (unused (path design (take k ts))),
      length-read [] (take k ts),
      sum_by-append (λ t. cond {A = ℕ} (is_operand t) 1 0) (take k ts) (drop k ts),
      ap operands (take-append-drop k ts),
      most,
      length-numbers ts,
      design.limits.few_blocks,
      length-map {B = ℕ × ℕ} design.blocks (λ block. (0, length block.shapes)),
      length-map (filter free (range_with_len 0 (length spans))) (λ b. item.Block b),
      length-filter free (range_with_len 0 (length spans)),
      length-range_with_len 0 (length spans),
    )

-- the sum of the least areas is a machine number
sums-within : (design : Design) (node : Parts) (k : ℕ) (s : Sums) → IsSubproblem design node → AreSums (groups_at design node.tokens k) s → s.area ≤ 1099511627776000
sums-within design node k s sub m =
    let is = items_at node.tokens k ++ unused (path design (take k node.tokens)) in
    omega (arith, m.total, sum-map (least_of area) (map (ways design) is), sum-small design is m.all, groups-few design node k sub)

-- the least areas of two of the groups are in the sum
both-in : (R L : List Tree) (X : List (List Tree)) (s : Sums) (a b : Least) → AreSums (R ∷ L ∷ X) s → IsLeastFor L a → IsLeastFor R b → a.area + b.area ≤ s.area
both-in R L X s a b m il ir =
    omega (arith, m.total, il.area, ir.area, sum-map (least_of area) (R ∷ L ∷ X), sum_by-cons (least_of area) R (L ∷ X), sum_by-cons (least_of area) L X)

-- the sums allow for joining the two items on top
pub can-join : (design : Design) (node : Parts) (k : ℕ) (l r made : Item) (rest : List Item) (s : Option Sums) (a b m : Option Least) → IsSubproblem design node → items_at node.tokens k ≡ r ∷ l ∷ rest → AreSumsOrNone (groups_at design node.tokens k) s → IsLeastOrNone (ways design l) a → IsLeastOrNone (ways design r) b → IsLeastOrNone (ways design made) m
    → AreWithin s a b m
can-join design node k l r made rest None a b m sub top is il ir im = tt
can-join design node k l r made rest (Some s) None b m sub top is il ir im = tt
can-join design node k l r made rest (Some s) (Some a) None m sub top is il ir im = tt
can-join design node k l r made rest (Some s) (Some a) (Some b) None sub top is il ir im = tt
can-join design node k l r made rest (Some s) (Some a) (Some b) (Some m) sub top is il ir im = (
  both-in (ways design r) (ways design l) (others design node.tokens k rest) s a b (subst (λ v. AreSums v s) (groups-before design node.tokens k l r rest top) is) il ir,
  sums-within design node k s sub is,
  least-small design made m im,
)
