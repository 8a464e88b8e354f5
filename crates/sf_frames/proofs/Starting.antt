-- The sums over all blocks.
use Rattle.std.proofs.Common.{◌≡◌, ℕ, suc, ◌+◌, ◌-◌, ◌*◌, ◌<◌, ◌≤◌, max, List, [], ◌∷◌, ◌++◌, length, map, get_or, refl, sym, ap, ◌∙◌, subst, arith, Bool, true, false, ◌||◌}
use Rattle.sf_frames.proofs.Common.{filter, cond, list_any, range_with_len, length-map, sum_by-cons, sum-map, Design, Shape, block_count, Tree, Token, root, is_unused, area, least_of, has_none, Kept, Least, ways, groups_at, AreWhole, IsLeastFor, IsLeastOrNone, AreSums, zero}
use Rattle.sf_standard.specs.Items as item

-- the groups of the blocks from the number b on, of which there are n
abbrev pub blocks_from : Design → ℕ → ℕ → List (List Tree)
blocks_from design b n = map (ways design) (map (λ k. item.Block k) (range_with_len b n))

-- a filter that all numbers pass leaves the list
filter-all : (p : ℕ → Bool) → ((k : ℕ) → p k ≡ true) → (ks : List ℕ) → filter p ks ≡ ks
filter-all p h [] = refl
filter-all p h (k ∷ ks) = ap (λ t. cond t (k ∷ filter p ks) (filter p ks)) (h k) ∙ ap (λ v. k ∷ v) (filter-all p h ks)

-- before the first token all blocks are unused
pub groups-start : (design : Design) (tokens : List Token) → groups_at design tokens 0 ≡ blocks_from design 0 (block_count design)
groups-start design tokens =
    ap (λ v. map (ways design) (map (λ k. item.Block k) v)) (filter-all (λ b. is_unused b []) (λ k. refl) (range_with_len 0 (length (root design).spans)))
    ∙ ap (λ (n : ℕ). blocks_from design 0 n) (length-map {B = ℕ × ℕ} design.blocks (λ block. (0, length block.shapes)))

-- the sums with one group more in front
pub sums-more : (x : List Tree) (groups : List (List Tree)) (a w h w' h' : ℕ) (l : Least) → AreSums groups (record { area = a; w = w; h = h }) → IsLeastFor x l → w' ≡ max l.w w → h' ≡ max l.h h → AreSums (x ∷ groups) (record { area = a + l.area; w = w'; h = h' })
sums-more x groups a w h w' h' l m i ew eh = record {
  all = ap (λ v. v || list_any has_none groups) i.some ∙ m.all;
  total = omega (arith, m.total, i.area, sum-map (least_of area) (x ∷ groups), sum-map (least_of area) groups, sum_by-cons (least_of area) x groups);
  wide = omega (arith, m.wide, i.width, ew);
  high = omega (arith, m.high, i.height, eh);
}

-- what the loop over the blocks keeps, backwards
pub record AreSummed (design : Design) (blocks : List Kept) (rest a w h : ℕ) : Type 0 where
  pub below : rest ≤ length blocks
  pub sums : AreSums (blocks_from design rest (length blocks - rest)) (record { area = a; w = w; h = h })
  pub few : a + rest * 1099511627776 ≤ length blocks * 1099511627776

-- one side of an or is enough: the first
or-first : (a b : Bool) → a ≡ true → (a || b) ≡ true
or-first true b e = refl
or-first false b e = absurd (let h : false ≡ true = e in cc)

-- the blocks before b, and those from it on
range-split : (a b n : ℕ) → b ≤ n → range_with_len a n ≡ range_with_len a b ++ range_with_len (a + b) (n - b)
range-split a zero n le = ap (λ (k : ℕ). range_with_len k n) (omega arith) ∙ ap (λ (k : ℕ). range_with_len (a + 0) k) (omega arith)
range-split a (suc b) zero le = absurd (omega arith)
range-split a (suc b) (suc n) le =
    ap (λ v. a ∷ v) (range-split (a + 1) b n (omega arith) ∙ ap (λ (k : ℕ). range_with_len (a + 1) b ++ range_with_len k (n - b)) (omega arith) ∙ ap (λ (k : ℕ). range_with_len (a + 1) b ++ range_with_len (a + suc b) k) (omega arith))

-- a block without a plan is found among all blocks
any-range : (design : Design) (ks : List ℕ) (ls : List ℕ) (b : ℕ) → has_none (ways design (item.Block b)) ≡ true → list_any has_none (map (ways design) (map (λ k. item.Block k) (ks ++ b ∷ ls))) ≡ true
any-range design [] ls b e = or-first (has_none (ways design (item.Block b))) (list_any has_none (map (ways design) (map (λ k. item.Block k) ls))) e
any-range design (k ∷ ks) ls b e = second (has_none (ways design (item.Block k))) (list_any has_none (map (ways design) (map (λ k. item.Block k) (ks ++ b ∷ ls)))) (any-range design ks ls b e)
  where
    second : (a c : Bool) → c ≡ true → (a || c) ≡ true
    second true c e = refl
    second false c e = e

-- a block without a plan is one of the groups
pub start-none : (design : Design) (tokens : List Token) (n b : ℕ) → n ≡ block_count design → b < n → has_none (ways design (item.Block b)) ≡ true → list_any has_none (groups_at design tokens 0) ≡ true
start-none design tokens n b e lt none =
    ap (list_any has_none) (groups-start design tokens ∙ ap (λ (k : ℕ). blocks_from design 0 k) (sym e))
    ∙ ap (λ v. list_any has_none (map (ways design) (map (λ k. item.Block k) v))) (range-split 0 b n (omega arith) ∙ ap (λ (k : ℕ). range_with_len 0 b ++ range_with_len (0 + b) k) here ∙ ap (λ (k : ℕ). range_with_len 0 b ++ k ∷ range_with_len (0 + b + 1) (n - b - 1)) zero-first)
    ∙ any-range design (range_with_len 0 b) (range_with_len (0 + b + 1) (n - b - 1)) b none
  where
    here : n - b ≡ suc (n - b - 1)
    here = omega arith

    zero-first : 0 + b ≡ b
    zero-first = omega arith

module _ (design : Design) (points : List Shape) (blocks : List Kept) (whole : ℕ) (m : AreWhole design points blocks whole) where
  -- the least values of a block that has a plan
  pub block-least : (b : ℕ) (d : Kept) → b < length blocks → IsLeastOrNone (ways design (item.Block b)) (get_or blocks b d).least
  block-least b d lt = (m.each b d lt).0.least

-- one turn of the loop counts the block before
pub summed-more : (design : Design) (blocks : List Kept) (rest before a w h w' h' : ℕ) (l : Least) → before + 1 ≡ rest → AreSummed design blocks rest a w h → IsLeastFor (ways design (item.Block before)) l → l.area ≤ 1099511627776 → w' ≡ max l.w w → h' ≡ max l.h h → AreSummed design blocks before (a + l.area) w' h'
summed-more design blocks rest before a w h w' h' l e m i small ew eh =
    let n : suc (length blocks - rest) ≡ length blocks - before = omega (arith, e, m.below) in
    record {
      below = omega (arith, e, m.below);
      sums = subst (λ (k : ℕ). AreSums (blocks_from design before k) (record { area = a + l.area; w = w'; h = h' })) n
          (sums-more (ways design (item.Block before)) (blocks_from design (before + 1) (length blocks - rest)) a w h w' h' l
          (subst (λ (k : ℕ). AreSums (blocks_from design k (length blocks - rest)) (record { area = a; w = w; h = h })) (sym e) m.sums) i ew eh);
      few = omega (arith, m.few, e, small);
    }

-- after the loop all blocks are counted
pub summed-all : (design : Design) (tokens : List Token) (blocks : List Kept) (rest a w h : ℕ) → rest ≡ 0 → length blocks ≡ block_count design → AreSummed design blocks rest a w h → AreSums (groups_at design tokens 0) (record { area = a; w = w; h = h })
summed-all design tokens blocks rest a w h none all m =
    let n : length blocks - rest ≡ block_count design = omega (arith, none, all) in
    subst (λ v. AreSums v (record { area = a; w = w; h = h })) (sym (groups-start design tokens))
    (subst (λ (k : ℕ). AreSums (blocks_from design 0 k) (record { area = a; w = w; h = h })) n
    (subst (λ (k : ℕ). AreSums (blocks_from design k (length blocks - rest)) (record { area = a; w = w; h = h })) none m.sums))
