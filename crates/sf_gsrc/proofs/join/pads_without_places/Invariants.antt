use Rattle.std.proofs.Common.{◌≡◌, []}
use Rattle.sf_gsrc.proofs.Common.{pads_at}
use Rattle.sf_gsrc.proofs.join.pads_without_places.Given as goal

abbrev pub invariant-loop-name : goal.invariant-loop-name
invariant-loop-name l = l.all.items ≡ pads_at [] l.yielded
