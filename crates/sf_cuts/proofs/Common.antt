-- The imports that the proof files of this crate share.
pub use Prim.Native.Nat.{zero}
pub use Rattle.sf_cuts.specs.Cuts.{Cuts, IsCut, IsCutBetween, IsSlicing, begin_on, end_on, extent, side_on, size_of}
pub use Rattle.sf_cuts.specs.Parting.{AreAmong, AreDistinct, AreParts, ArePartsOf, CanBeCut, Covers, IsCutOf, IsCutPlace, IsLastPlace, IsNoLater, NoneCuts, has_leaf, joined, leaf_of}
pub use Rattle.sf_cuts.specs.declared.axis.Axis.{Axis}
pub use Rattle.sf_cuts.specs.declared.axis.Axis.TheVariants.{Across, Upward}
pub use Rattle.sf_cuts.specs.declared.parting.Parts.{Parts}
pub use Rattle.sf_model.specs.Tree.{Above, Beside, HasEachOnce, Leaf, Tree, height, leaves, tree_of, width}
pub use Rattle.sf_model.specs.Wire.{spot_of, spread}
pub use Rattle.sf_model.specs.declared.parts.Shape.{Shape}
pub use Rattle.sf_model.specs.declared.plan.Spot.{Spot}
pub use Rattle.sf_place.specs.Spots.{HasNearCorner, IsByNumber}
pub use Rattle.sf_polish.specs.Postfix.{IsSkewed, is_above, is_beside}
pub use Rattle.std.proofs.lemmas.Bool.Decides.{nat_tests}
pub use Rattle.std.proofs.lemmas.Int.{by_lt_z, clamps, ints}
pub use Rattle.std.specs.Int.{int_max}
pub use Rattle.std.proofs.lemmas.List.{get_or-drop, get_or-take, get_or_default, length-drop, length-take-le, map-append, take-append-drop}
pub use Rattle.std.proofs.lemmas.List.Elements.{All-append, All-contains, All-drop, All-from_recursion, All-map, All-take, All-weaker, Contains-append_left, Contains-append_right, Contains-get_or, recursion_from_All}
pub use Rattle.std.proofs.lemmas.List.Sorted.{All-permutation, Contains-permutation, IsPermutation-append, IsPermutation-filter_both, IsPermutation-map, IsPermutation-sym, IsPermutation-trans, length_permutation, sum_by-IsPermutation}
pub use Rattle.std.proofs.lemmas.List.Sums.{count_by-le-length, length-filter, sum_by-append, sum_by-cons}
pub use Rattle.std.specs.List.{AllByRecursion, AllPairs, filter, range_with_len}
pub use Rattle.std.specs.List.Sorted.{IsPermutation}
pub use Rattle.std.specs.Prelude.{Contains, count_by, pos, sum_by, ℤ, ◌+ℤ◌, ◌<ℤ◌, ◌≤ℤ◌, not}
