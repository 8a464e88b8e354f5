use Rattle.std.proofs.Common.{◌≡◌, take}
use Rattle.sf_model.proofs.Common.{sum_by, place_on, pull}
use Rattle.sf_model.proofs.routing.pulled.Given as goal

abbrev pub invariant-loop-path : goal.invariant-loop-path
invariant-loop-path l = l.sum ≡ sum_by (pull (place_on l.axis l.design.pads)) (take l.path-index l.paths)
