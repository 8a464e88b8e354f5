use Rattle.std.proofs.Common.{◌≡◌, ℕ, ◌≤◌, ◌<◌, length, false, slice_index_or}
use Rattle.sf_anneal.proofs.Common.{HaveRoom, chosen_curve, kept_in}
use Rattle.sf_anneal.proofs.keeping.Kept.keep.Given as goal

abbrev pub invariant-loop-part : goal.invariant-loop-part
invariant-loop-part l = record {
  room : HaveRoom (length l.fn.self.known.before.items) l.self.known l.self.moved;
  before : l.self.known.before.items ≡ l.fn.self.moved.before.items;
  fresh : l.self.moved.fresh.items ≡ l.fn.self.moved.fresh.items;
  blocks : l.self.blocks ≡ l.fn.self.blocks;
  done : (k : ℕ) → k < l.part → kept_in l.self.known.curves.items k ≡ chosen_curve l.fn.self.known l.fn.self.moved (slice_index_or l.fn.self.moved.fresh.items k false) k;
  left : (k : ℕ) → l.part ≤ k → kept_in l.self.known.curves.items k ≡ kept_in l.fn.self.known.curves.items k;
  others : (k : ℕ) → l.part ≤ k → kept_in l.self.moved.curves.items k ≡ kept_in l.fn.self.moved.curves.items k;
}
