-- The imports that the proof files of this crate share.
pub use Prim.Native.Nat.{zero}
pub use Rattle.sf_model.proofs.Each.{EachPair, each-append, each-left, each-right, each-weaker}
pub use Rattle.sf_model.specs.Cost.{cost, right_end, spots_cost, upper_end}
pub use Rattle.sf_model.specs.Legal.{Fits, IsLegal, block_count, shapes_of}
pub use Rattle.sf_model.specs.Tree.{Above, Beside, HasBlocksBelow, HasEachOnce, HasSides, IsInside, Leaf, Overlaps, Tree, height, leaf_count, leaves, spots_at, spots_of, tree_of, width}
pub use Rattle.sf_model.specs.Wire.{net_wire, pin_x, pin_y, spot_of, spread, weighed_wire, wire}
pub use Rattle.sf_model.specs.declared.design.Design.{Design}
pub use Rattle.sf_model.specs.declared.plan.Spot.{Spot}
pub use Rattle.sf_place.specs.Spots.{IsByNumber, by_number, with_spots}
pub use Rattle.sf_place.specs.Verdict.{AreLegal, IsFirstOverlapping, IsFirstWithout, IsLeastPair, IsListed, IsVerdict, LiesIn, OverlapsNoLater}
pub use Rattle.std.proofs.lemmas.Bool.{cases_lt, cond_both}
pub use Rattle.std.proofs.lemmas.Bool.Decides.{nat_tests}
pub use Rattle.std.proofs.lemmas.Int.{ints}
pub use Rattle.std.proofs.lemmas.List.{get_or-set_other, get_or-set_same, get_or_default, length-set}
pub use Rattle.std.proofs.lemmas.List.Sums.{sum_by-append, sum_by-cons}
pub use Rattle.std.specs.List.{AllByRecursion, range_with_len}
pub use Rattle.std.specs.Prelude.{Contains, count_by, nat_abs, pos, slice_set, sum_by}
