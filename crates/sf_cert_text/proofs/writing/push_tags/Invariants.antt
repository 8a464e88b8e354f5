use Rattle.std.proofs.Common.{◌≡◌, ◌≤◌, ◌++◌, All, take}
use Rattle.sf_cert_text.proofs.Common.{flat_map, tags_text, FitsTag}
use Rattle.sf_cert_text.proofs.writing.push_tags.Given as goal

abbrev pub invariant-loop-run : goal.invariant-loop-run
invariant-loop-run l = record {
  text : l.text.items ++ take l.end l.row ≡ l.initial.text.items ++ tags_text (flat_map (λ run. run.items) (take l.run-index l.run-items));
  fits : All FitsTag (flat_map (λ run. run.items) (take l.run-index l.run-items));
  room : l.end ≤ 4096;
}
