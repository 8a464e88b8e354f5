use Rattle.std.proofs.Common.{◌≡◌, ℕ, ◌<◌, ◌≤◌, vec_len, get_or, take, is_some}
use Rattle.sf_parts.proofs.Common.{count_by, RawPad}
use Rattle.sf_parts.proofs.nets.pad_numbers.Given as goal

abbrev pub invariant-loop-pad : goal.invariant-loop-pad
invariant-loop-pad l = (vec_len l.numbers ≡ l.pad-index) × (l.number ≤ l.pad-index) × (l.number ≡ count_by (λ (p : RawPad). is_some p.place) (take l.pad-index l.pads)) × ((i : ℕ) → i < l.pad-index → get_or l.numbers.items i 0 ≡ count_by (λ (p : RawPad). is_some p.place) (take i l.pads))
