use Rattle.std.proofs.Common.{◌≡◌, ℕ, ◌<◌, ◌||◌, false, length, get_or, take}
use Rattle.sf_parts.proofs.Common.{list_any, pad_of, is_index, RawPin}
use Rattle.sf_parts.proofs.pad_places.mark_wired.Given as goal

abbrev pub invariant-loop-pin : goal.invariant-loop-pin
invariant-loop-pin l = (i : ℕ) → i < length l.wired → get_or l.wired i false ≡ (get_or l.initial.wired i false || list_any (λ (p : RawPin). is_index i (pad_of l.index.parts.now.pads p)) (take l.pin-index l.pins))
