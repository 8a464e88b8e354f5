use Rattle.std.proofs.Common.{◌≡◌, map, length, drop}
use Rattle.sf_measuring.proofs.Common.{All, range_with_len, HasNearCorner, spots_said}
use Rattle.sf_measuring.proofs.Placing.{after}
use Rattle.sf_measuring.proofs.placed_lines.place_blocks.Given as goal

abbrev pub invariant-loop-number : goal.invariant-loop-number
invariant-loop-number l = record {
  said : spots_said 0 l.blocks l.lines ≡ after l.spots.items (spots_said l.number (drop l.number l.blocks) l.lines);
  one_each : length l.spots.items ≡ l.number;
  by_number : map (λ s. s.block) l.spots.items ≡ range_with_len 0 l.number;
  near : All HasNearCorner l.spots.items;
}
