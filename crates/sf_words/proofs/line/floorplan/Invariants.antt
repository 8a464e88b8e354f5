use Rattle.std.proofs.Common.{◌≡◌, take}
use Rattle.sf_words.proofs.Common.{app_of, modes, bare, with_modes}
use Rattle.sf_words.proofs.line.floorplan.Given as goal

abbrev pub invariant-loop-mode : goal.invariant-loop-mode
invariant-loop-mode l = (app_of l.command ≡ with_modes bare (take l.mode-index l.mode-items)) × (l.mode-items ≡ modes)
