use Rattle.std.proofs.Common.{◌≡◌, ◌≤◌, ◌++◌, All, take}
use Rattle.sf_cert_text.proofs.Common.{tags_text, FitsTag}
use Rattle.sf_cert_text.proofs.writing.put_run.Given as goal

abbrev pub invariant-loop-tag : goal.invariant-loop-tag
invariant-loop-tag l = record {
  text : l.text.items ++ take l.end l.row ≡ (l.initial.text.items ++ take l.start l.initial.row) ++ tags_text (take l.tag-index l.run);
  fits : All FitsTag (take l.tag-index l.run);
  room : l.end ≤ 4096;
}
