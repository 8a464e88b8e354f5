use Rattle.std.proofs.Common.{◌≡◌, All, length, map}
use Rattle.std.specs.List.{range_with_len}
use Rattle.sf_place.specs.Spots.{HasNearCorner}
use Rattle.sf_model_tests.proofs.cuts.placed.Given as goal

abbrev pub invariant-loop-number : goal.invariant-loop-number
invariant-loop-number l = record {
  one_each : length l.spots.items ≡ l.number;
  by_number : map (λ s. s.block) l.spots.items ≡ range_with_len 0 l.number;
  near : All HasNearCorner l.spots.items;
}
