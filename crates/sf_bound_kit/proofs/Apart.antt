-- Of two blocks of a floorplan one lies beside the other or above it, so that no plan costs less than what two blocks need.
use Rattle.std.proofs.Common.{◌≡◌, ℕ, ◌*◌, ◌<◌, ◌≤◌, min, map, All, arith, ap, inl, inr, true}
use Rattle.sf_bound_kit.proofs.Common.{mul-le-mul_left, cond_both, ints, AllByRecursion, list_any, range_with_len, EachPair-map, each-map, each-weaker, Design, MAX, cost, Fits, block_count, Tree, width, height, spots_of, spot_of, subproblem-spans, IsSubproblem, Parts, Belongs, IsBelowAll, greatest, area_of_two, each_two, first_sides, sides_in, have_no_room, pair_area, pair_fit, each-any}
use Rattle.std.proofs.lemmas.List.Elements.{All-from_recursion}
use Rattle.sf_standard.proofs.Listed.{EachPair-of}
use Rattle.sf_standard.proofs.NetWires.{extent-of}
use Rattle.sf_standard.proofs.Placed.{IsFirst, placed, spots-first}
use Rattle.sf_standard.proofs.Sides.{span-small}
use Rattle.sf_bound_kit.proofs.EachTwo.{each-two, greatest-le, none-passes, range-pairs}
use Rattle.sf_bound_kit.proofs.Sizes.{times, HaveRoom, area-le, room-found, IsSmall, area-small}

module _ (design : Design) (node : Parts) (tree : Tree) (sub : IsSubproblem design node) (belongs : Belongs design node tree) (fit : Fits design.outline tree) where
  -- two blocks have room by their least sides
  blocks-apart : (a b : ℕ) → a < b → b < block_count design → HaveRoom (width tree) (height tree) (sides_in design node a, sides_in design node b)
  blocks-apart a b lt below =
      let spans = subproblem-spans design node sub in
      let s = spot_of a (spots_of tree) in
      let t = spot_of b (spots_of tree) in
      let i = placed design tree belongs.legal a (omega (arith, lt, below)) in
      let j = placed design tree belongs.legal b below in
      let d = extent-of design node tree spans belongs fit a (omega (arith, lt, below)) in
      let e = extent-of design node tree spans belongs fit b below in
      record {
        first = (omega (arith, ints, i.inside.left, i.inside.right, d.wide), omega (arith, ints, i.inside.below, i.inside.above, d.high));
        second = (omega (arith, ints, j.inside.left, j.inside.right, e.wide), omega (arith, ints, j.inside.below, j.inside.above, e.high));
        apart = elim (EachPair-of IsFirst (spots_of tree) s t (spots-first 0 0 tree) i.found j.found (λ same. absurd (omega (arith, lt, i.block, j.block, ap (λ v. v.block) same)))) [
          | inl f ↦ elim f [
            | inl g ↦ inl (omega (arith, ints, g, i.inside.left, j.inside.right, d.wide, e.wide))
            | inr g ↦ inr (omega (arith, ints, g, i.inside.below, j.inside.above, d.high, e.high))
          ]
          | inr f ↦ elim f [
            | inl g ↦ inl (omega (arith, ints, g, j.inside.left, i.inside.right, d.wide, e.wide))
            | inr g ↦ inr (omega (arith, ints, g, j.inside.below, i.inside.above, d.high, e.high))
          ]
        ];
      }

  -- so have each two of the first blocks
  pairs-apart : AllByRecursion (HaveRoom (width tree) (height tree)) (each_two (first_sides design node))
  pairs-apart =
      each-two (HaveRoom (width tree) (height tree)) (first_sides design node)
      (EachPair-map (λ s t. HaveRoom (width tree) (height tree) (s, t)) (sides_in design node) (range_with_len 0 (min 16 (block_count design)))
      (range-pairs (λ a b. HaveRoom (width tree) (height tree) (sides_in design node a, sides_in design node b)) 0 (min 16 (block_count design)) (block_count design) (omega arith) blocks-apart))

  -- what a pair needs costs no more than the plan
  area-below : pair_area design node ≤ cost design tree
  area-below =
      let most : greatest (map area_of_two (each_two (first_sides design node))) ≤ width tree * height tree =
      greatest-le (width tree * height tree) (map area_of_two (each_two (first_sides design node)))
      (each-map (λ n. n ≤ width tree * height tree) area_of_two (each_two (first_sides design node)) (each-weaker (HaveRoom (width tree) (height tree)) (λ two. area_of_two two ≤ width tree * height tree) (area-le (width tree) (height tree)) (each_two (first_sides design node)) pairs-apart)) in
      omega (arith, mul-le-mul_left design.weights.area most)

  -- no pair is without room
  fit-below : pair_fit design node ≤ cost design tree
  fit-below =
      cond_both (list_any (have_no_room design.outline) (each_two (first_sides design node))) MAX 0 (λ v. v ≤ cost design tree)
      (λ e. absurd (none-passes (have_no_room design.outline) (each_two (first_sides design node)) (each-weaker (HaveRoom (width tree) (height tree)) (λ two. have_no_room design.outline two ≡ true → ⊥) (λ two r. room-found design.outline (width tree) (height tree) two fit.0 fit.1 r) (each_two (first_sides design node)) pairs-apart) e))
      (λ _. omega arith)

-- the sides of a block are small
pub sides-small : (design : Design) (node : Parts) (b : ℕ) → IsSmall (sides_in design node b)
sides-small design node b = let k = span-small design node b in (k.least_w, k.least_h)

-- so are those of the first blocks
pub firsts-small : (design : Design) (node : Parts) → All IsSmall (first_sides design node)
firsts-small design node =
    let blocks = range_with_len 0 (min 16 (block_count design)) in
    All-from_recursion IsSmall (first_sides design node) (each-map IsSmall (sides_in design node) blocks (each-any (λ b. IsSmall (sides_in design node b)) (sides-small design node) blocks))

-- no two of the first blocks need more than 2^41
pub pairs-small : (design : Design) (node : Parts) → greatest (map area_of_two (each_two (first_sides design node))) ≤ 2199023255552
pairs-small design node =
    greatest-le 2199023255552 (map area_of_two (each_two (first_sides design node)))
    (each-map (λ n. n ≤ 2199023255552) area_of_two (each_two (first_sides design node))
    (each-two (λ two. area_of_two two ≤ 2199023255552) (first_sides design node)
    (EachPair-map (λ s t. area_of_two (s, t) ≤ 2199023255552) (sides_in design node) (range_with_len 0 (min 16 (block_count design)))
    (range-pairs (λ a b. area_of_two (sides_in design node a, sides_in design node b) ≤ 2199023255552) 0 (min 16 (block_count design)) (block_count design) (omega arith)
    (λ a b lt below. area-small (sides_in design node a, sides_in design node b) (sides-small design node a) (sides-small design node b))))))

-- the value of `pair_area` is at most MAX
area-most : (design : Design) (node : Parts) → pair_area design node ≤ MAX
area-most design node = omega (arith, times design.weights.area (greatest (map area_of_two (each_two (first_sides design node)))) 65535 2199023255552 (omega (arith, design.limits.area_weight)) (pairs-small design node))

-- so is that of `pair_fit`
fit-most : (design : Design) (node : Parts) → pair_fit design node ≤ MAX
fit-most design node = cond_both (list_any (have_no_room design.outline) (each_two (first_sides design node))) MAX 0 (λ v. v ≤ MAX) (λ _. omega arith) (λ _. omega arith)

-- no plan costs less than `pair_area` says
pub pair-area-below : (design : Design) (node : Parts) → IsSubproblem design node → (pair_area design node ≤ MAX) × IsBelowAll design node (pair_area design node)
pair-area-below design node sub = (area-most design node, λ tree belongs fit. area-below design node tree sub belongs fit)

-- nor than `pair_fit` says
pub pair-fit-below : (design : Design) (node : Parts) → IsSubproblem design node → (pair_fit design node ≤ MAX) × IsBelowAll design node (pair_fit design node)
pair-fit-below design node sub = (fit-most design node, λ tree belongs fit. fit-below design node tree sub belongs fit)
