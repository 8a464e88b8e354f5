use Rattle.std.proofs.Common.{◌≡◌, ℕ, ◌<◌, false, length, vec_len, get_or, take}
use Rattle.sf_parts.proofs.Common.{list_any, flat_map, pad_of, is_index, RawNet, RawPin}
use Rattle.sf_parts.proofs.pad_places.wired_pads.Given as goal

abbrev pub invariant-loop-net : goal.invariant-loop-net
invariant-loop-net l = (vec_len l.wired ≡ length l.index.parts.now.pads) × ((i : ℕ) → i < length l.index.parts.now.pads → get_or l.wired.items i false ≡ list_any (λ (p : RawPin). is_index i (pad_of l.index.parts.now.pads p)) (flat_map (λ (n : RawNet). n.pins) (take l.net-index l.index.parts.now.nets)))
