use Rattle.std.proofs.Common.{◌≡◌, length, min, take}
use Rattle.sf_certificate.proofs.Common.{flat_map}
use Rattle.sf_certificate.proofs.tag.TagList.len.Given as goal

abbrev pub invariant-loop-run : goal.invariant-loop-run
invariant-loop-run l = l.len ≡ min (length (flat_map (λ run. run.items) (take l.run-index l.run-items))) 18446744073709551615
