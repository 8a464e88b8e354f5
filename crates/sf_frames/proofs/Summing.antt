-- The sums over the groups after two items became one.
use Rattle.std.proofs.Common.{◌≡◌, ℕ, suc, ◌+◌, ◌-◌, ◌≤◌, max, List, [], ◌∷◌, ◌++◌, length, map, take, refl, sym, ap, ◌∙◌, subst, arith, Bool, true, false, ◌==◌, ◌||◌}
use Rattle.sf_frames.proofs.Common.{Contains, filter, count_by, cond, Option, Some, None, list_any, range_with_len, eqb-true, true≢false, sum_by-cons, sum_by-append, sum-map, Design, Tree, width, height, Token, is_block, root, is_unused, size_of, IsNoLarger, not_in_nil, Contains-head, Contains-tail, shapes_in, Item, fits, plans, unused, item_in, area, least_of, has_none, Contains-filter, Contains-from_filter, Contains-from_pairs, fits-true, least_of-le, Direction, Least, Sums, token_in, plan_in, size_in, path, items_at, ways, groups_at, IsNext, IsLeastFor, IsLeastOrNone, AreSums, AreSumsOrNone, joined, MAX, fits-from}
use Rattle.sf_polish.specs.declared.expr.Token.TheVariants as token
use Rattle.sf_standard.specs.Items as item
use Rattle.sf_curves.specs.declared.direction.Direction.TheVariants.{Beside, Above}
use Rattle.sf_frames.proofs.Topping.{take-next, items-joined}
use Rattle.sf_frames.proofs.Ways.{way_in}

-- the least value is at most MAX
least_of-most : (f : Tree → ℕ) (ts : List Tree) → least_of f ts ≤ MAX
least_of-most f [] = omega arith
least_of-most f (t ∷ ts) = omega (arith, least_of-most f ts)

-- a number that is at most the value of each plan is at most the least value
least_of-greatest : (f : Tree → ℕ) (m : ℕ) (ts : List Tree) → m ≤ MAX → ((t : Tree) → Contains ts t → m ≤ f t) → m ≤ least_of f ts
least_of-greatest f m [] le h = le
least_of-greatest f m (t ∷ ts) le h = omega (arith, h t (Contains-head t ts), least_of-greatest f m ts le (λ u c. h u (Contains-tail t ts u c)))

-- no plan of the one where there is none of the other, from which each comes
none-from : (N L : List Tree) → ((t : Tree) → Contains N t → (p : Tree) × Contains L p) → has_none L ≡ true → has_none N ≡ true
none-from [] L f e = refl
none-from (t ∷ ts) [] f e = let k = f t (Contains-head t ts) in absurd (not_in_nil k.0 k.1)
none-from (t ∷ ts) (p ∷ ps) f e = absurd (omega (arith, eqb-true (suc (length ps)) 0 e))

module _ (design : Design) (d : Direction) (l r : Item) where
  -- the parts of a plan of both fit too, and are no larger
  record AreParts (t : Tree) : Type 0 where
    p : Tree
    q : Tree
    left : Contains (ways design l) p
    right : Contains (ways design r) q
    left_size : IsNoLarger (size_of p) (size_of t)
    right_size : IsNoLarger (size_of q) (size_of t)

  -- each plan of the joined item has such parts
  parts-of : (t : Tree) → Contains (ways design (item_in d l r)) t → AreParts t
  parts-of t c =
      let shapes = shapes_in design (root design).spans in
      let o = design.outline in
      let way = way_in d in
      let f = Contains-from_filter (fits o) (plans shapes (item_in d l r)) t c in
      let j = Contains-from_pairs (plan_in d) (plans shapes l) (plans shapes r) t (subst (λ v. Contains v t) (way.listed shapes l r) f.0) in
      let size : size_in d (size_of j.0) (size_of j.1) ≡ size_of t = sym (way.sized j.0 j.1) ∙ ap size_of j.4 in
      let le_l = subst (IsNoLarger (size_of j.0)) size (way.left (size_of j.0) (size_of j.1)) in
      let le_r = subst (IsNoLarger (size_of j.1)) size (way.right (size_of j.0) (size_of j.1)) in
      let fit = fits-from o t f.1 in
      record {
        p = j.0;
        q = j.1;
        left = Contains-filter (fits o) (plans shapes l) j.0 j.2 (fits-true o j.0 (omega (arith, le_l.0, fit.0)) (omega (arith, le_l.1, fit.1)));
        right = Contains-filter (fits o) (plans shapes r) j.1 j.3 (fits-true o j.1 (omega (arith, le_r.0, fit.0)) (omega (arith, le_r.1, fit.1)));
        left_size = le_l;
        right_size = le_r;
      }

  -- a joined item has no plan where its left or lower part has none
  left-none : has_none (ways design l) ≡ true → has_none (ways design (item_in d l r)) ≡ true
  left-none = none-from (ways design (item_in d l r)) (ways design l) (λ t c. let k = parts-of t c in (k.p, k.left))

  -- a joined item has no plan where its right or upper part has none
  right-none : has_none (ways design r) ≡ true → has_none (ways design (item_in d l r)) ≡ true
  right-none = none-from (ways design (item_in d l r)) (ways design r) (λ t c. let k = parts-of t c in (k.q, k.right))

  -- no side is less than before
  record Grows : Type 0 where
    wide_left : least_of width (ways design l) ≤ least_of width (ways design (item_in d l r))
    wide_right : least_of width (ways design r) ≤ least_of width (ways design (item_in d l r))
    high_left : least_of height (ways design l) ≤ least_of height (ways design (item_in d l r))
    high_right : least_of height (ways design r) ≤ least_of height (ways design (item_in d l r))

  -- the joined item is no narrower and no lower than either part
  grows : Grows
  grows =
      let N = ways design (item_in d l r) in
      let L = ways design l in
      let R = ways design r in record {
        wide_left = least_of-greatest width (least_of width L) N (least_of-most width L) (λ t c. let k = parts-of t c in omega (arith, least_of-le width L k.p k.left, k.left_size.0));
        wide_right = least_of-greatest width (least_of width R) N (least_of-most width R) (λ t c. let k = parts-of t c in omega (arith, least_of-le width R k.q k.right, k.right_size.0));
        high_left = least_of-greatest height (least_of height L) N (least_of-most height L) (λ t c. let k = parts-of t c in omega (arith, least_of-le height L k.p k.left, k.left_size.1));
        high_right = least_of-greatest height (least_of height R) N (least_of-most height R) (λ t c. let k = parts-of t c in omega (arith, least_of-le height R k.q k.right, k.right_size.1));
      }

  -- of an or that is false the last part is false
  rest-false : (a b c : Bool) → (a || (b || c)) ≡ false → c ≡ false
  rest-false false false c e = e
  rest-false false true c e = absurd (true≢false e)
  rest-false true b c e = absurd (true≢false e)

  -- two of the groups become one that is no less either way
  sums-joined : (X : List (List Tree)) (s : Sums) (a b made : Least) → AreSums (ways design r ∷ ways design l ∷ X) s → IsLeastFor (ways design l) a → IsLeastFor (ways design r) b → IsLeastFor (ways design (item_in d l r)) made
      → AreSums (ways design (item_in d l r) ∷ X) (record { area = s.area - (a.area + b.area) + made.area; w = max s.w made.w; h = max s.h made.h })
  sums-joined X s a b made m il ir im =
      let N = ways design (item_in d l r) in
      let L = ways design l in
      let R = ways design r in
      let g = grows in record {
        all = ap (λ v. v || list_any has_none X) im.some ∙ rest-false (has_none R) (has_none L) (list_any has_none X) m.all;
        total = omega (
          arith,
          m.total,
          il.area,
          ir.area,
          im.area,
          sum-map (least_of area) (R ∷ L ∷ X),
          sum_by-cons (least_of area) R (L ∷ X),
          sum_by-cons (least_of area) L X,
          sum-map (least_of area) (N ∷ X),
          sum_by-cons (least_of area) N X,
        );
        wide = omega (arith, m.wide, im.width, g.wide_left, g.wide_right);
        high = omega (arith, m.high, im.height, g.high_left, g.high_right);
      }

  -- an item without a plan in front is found
  none-here : (X : List (List Tree)) → has_none (ways design (item_in d l r)) ≡ true → list_any has_none (ways design (item_in d l r) ∷ X) ≡ true
  none-here X e = ap (λ v. v || list_any has_none X) e

  -- an or with true is true
  or-right : (a : Bool) → (a || true) ≡ true
  or-right true = refl
  or-right false = refl

  -- none had a plan before: none after
  none-after : (X : List (List Tree)) → list_any has_none (ways design r ∷ ways design l ∷ X) ≡ true → list_any has_none (ways design (item_in d l r) ∷ X) ≡ true
  none-after X e = by-cases (has_none (ways design r)) (has_none (ways design l)) refl refl
    where
      by-cases : (a b : Bool) → has_none (ways design r) ≡ a → has_none (ways design l) ≡ b → list_any has_none (ways design (item_in d l r) ∷ X) ≡ true
      by-cases true b ea eb = none-here X (right-none ea)
      by-cases false true ea eb = none-here X (left-none eb)
      by-cases false false ea eb =
          let rest : list_any has_none X ≡ true = sym (ap (λ v. v || (has_none (ways design l) || list_any has_none X)) ea ∙ ap (λ v. v || list_any has_none X) eb) ∙ e in
          ap (λ v. has_none (ways design (item_in d l r)) || v) rest ∙ or-right (has_none (ways design (item_in d l r)))

  -- the same where any of the three may have no plan
  pub joined-or-none : (X : List (List Tree)) (s : Option Sums) (a b made : Option Least) → AreSumsOrNone (ways design r ∷ ways design l ∷ X) s → IsLeastOrNone (ways design l) a → IsLeastOrNone (ways design r) b → IsLeastOrNone (ways design (item_in d l r)) made
      → AreSumsOrNone (ways design (item_in d l r) ∷ X) (joined s a b made)
  joined-or-none X None a b made m il ir im = none-after X m
  joined-or-none X (Some s) None b made m il ir im = none-here X (left-none il)
  joined-or-none X (Some s) (Some a) None made m il ir im = none-here X (right-none ir)
  joined-or-none X (Some s) (Some a) (Some b) None m il ir im = none-here X im
  joined-or-none X (Some s) (Some a) (Some b) (Some made) m il ir im = sums-joined X s a b made m il ir im

-- an operator leaves the same blocks unused
count-operator : (d : Direction) (k : ℕ) (ts : List Token) → count_by (is_block k) (ts ++ token_in d ∷ []) ≡ count_by (is_block k) ts
count-operator Beside k ts = omega (arith, sum_by-append (λ t. cond {A = ℕ} (is_block k t) 1 0) ts (token.Beside ∷ []), sum_by-cons (λ t. cond {A = ℕ} (is_block k t) 1 0) token.Beside [])
count-operator Above k ts = omega (arith, sum_by-append (λ t. cond {A = ℕ} (is_block k t) 1 0) ts (token.Above ∷ []), sum_by-cons (λ t. cond {A = ℕ} (is_block k t) 1 0) token.Above [])

-- two tests that agree leave the same
filter-same : (p q : ℕ → Bool) → ((k : ℕ) → p k ≡ q k) → (ks : List ℕ) → filter p ks ≡ filter q ks
filter-same p q h [] = refl
filter-same p q h (k ∷ ks) = ap (λ t. cond t (k ∷ filter p ks) (filter p ks)) (h k) ∙ ap (λ v. cond (q k) (k ∷ v) v) (filter-same p q h ks)

-- an operator leaves the same unused blocks
unused-operator : (design : Design) (d : Direction) (ts : List Token) → unused (path design (ts ++ token_in d ∷ [])) ≡ unused (path design ts)
unused-operator design d ts =
    ap (map (λ b. item.Block b)) (filter-same (λ b. is_unused b (ts ++ token_in d ∷ [])) (λ b. is_unused b ts) (λ k. ap (λ n. n == 0) (count-operator d k ts)) (range_with_len 0 (length (root design).spans)))

-- the groups before and after an operator
abbrev pub others : Design → List Token → ℕ → List Item → List (List Tree)
others design tokens k rest = map (ways design) (rest ++ unused (path design (take k tokens)))

-- the groups before an operator: both items, and the others
pub groups-before : (design : Design) (tokens : List Token) (k : ℕ) (l r : Item) (rest : List Item) → items_at tokens k ≡ r ∷ l ∷ rest → groups_at design tokens k ≡ ways design r ∷ ways design l ∷ others design tokens k rest
groups-before design tokens k l r rest top = ap (λ v. map (ways design) (v ++ unused (path design (take k tokens)))) top

-- the groups after it: the joined item, and the same others
pub groups-after : (design : Design) (tokens : List Token) (k : ℕ) (d : Direction) (l r : Item) (rest : List Item) → IsNext tokens k (token_in d) → items_at tokens k ≡ r ∷ l ∷ rest → groups_at design tokens (k + 1) ≡ ways design (item_in d l r) ∷ others design tokens k rest
groups-after design tokens k d l r rest next top =
    ap (λ v. map (ways design) (v ++ unused (path design (take (k + 1) tokens)))) (items-joined tokens k d l r rest next top)
    ∙ ap (λ v. map (ways design) ((item_in d l r ∷ rest) ++ unused (path design v))) (take-next tokens k (token_in d) next)
    ∙ ap (λ v. map (ways design) ((item_in d l r ∷ rest) ++ v)) (unused-operator design d (take k tokens))

-- the sums after an operator
pub sums-after : (design : Design) (tokens : List Token) (k : ℕ) (d : Direction) (l r : Item) (rest : List Item) (s : Option Sums) (a b made : Option Least) → IsNext tokens k (token_in d) → items_at tokens k ≡ r ∷ l ∷ rest → AreSumsOrNone (groups_at design tokens k) s → IsLeastOrNone (ways design l) a → IsLeastOrNone (ways design r) b → IsLeastOrNone (ways design (item_in d l r)) made
    → AreSumsOrNone (groups_at design tokens (k + 1)) (joined s a b made)
sums-after design tokens k d l r rest s a b made next top m il ir im =
    subst (λ v. AreSumsOrNone v (joined s a b made)) (sym (groups-after design tokens k d l r rest next top))
    (joined-or-none design d l r (others design tokens k rest) s a b made (subst (λ v. AreSumsOrNone v s) (groups-before design tokens k l r rest top) m) il ir im)
