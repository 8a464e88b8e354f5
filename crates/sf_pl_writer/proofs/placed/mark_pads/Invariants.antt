use Rattle.std.proofs.Common.{◌≡◌, ℕ, ◌<◌, false, ◌||◌, length, get_or, take}
use Rattle.sf_pl_writer.proofs.Common.{list_any, is_pad}
use Rattle.sf_pl_writer.proofs.placed.mark_pads.Given as goal

abbrev pub invariant-loop-pin : goal.invariant-loop-pin
invariant-loop-pin l = (p : ℕ) → p < length l.initial.flags → get_or l.flags p false ≡ (get_or l.initial.flags p false || list_any (is_pad p) (take l.pin-index l.pin-items))
