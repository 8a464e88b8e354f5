-- Stages that only read the shelf, one after another.
use Rattle.std.proofs.Common.{◌∙◌, arith}
use Rattle.sf_batch.proofs.Common.{ShelfSeen, Reads}

-- two stages, one after the other
pub reads_both : (a b c : ShelfSeen) → Reads a b → Reads b c → Reads a c
reads_both a b c first second = record {
  unchanged = second.unchanged ∙ first.unchanged;
  later = let h = first.later in let k = second.later in omega arith;
  no_store = second.no_store ∙ first.no_store;
}
