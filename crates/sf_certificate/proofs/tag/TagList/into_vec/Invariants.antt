use Rattle.std.proofs.Common.{◌≡◌}
use Rattle.sf_certificate.proofs.Common.{flat_map}
use Rattle.sf_certificate.proofs.tag.TagList.into_vec.Given as goal

abbrev pub invariant-loop-run : goal.invariant-loop-run
invariant-loop-run l = l.tags.items ≡ flat_map (λ run. run.items) l.yielded
