use Rattle.std.proofs.Common.{◌≡◌, ◌≤◌, take}
use Rattle.sf_resume.proofs.Common.{decided}
use Rattle.sf_resume.proofs.resuming.decided_in.Given as goal

abbrev pub invariant-loop-tag : goal.invariant-loop-tag
invariant-loop-tag l = record {
  count : l.count ≡ decided (take l.tag-index l.run);
  few : l.count ≤ l.tag-index;
}
