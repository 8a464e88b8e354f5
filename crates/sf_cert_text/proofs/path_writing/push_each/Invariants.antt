use Rattle.std.proofs.Common.{◌≡◌, ◌++◌, All, map, take, string_bytes}
use Rattle.sf_cert_text.proofs.Common.{FitsPath, path_text, text_of_lines}
use Rattle.sf_cert_text.proofs.path_writing.push_each.Given as goal

abbrev pub invariant-loop-path : goal.invariant-loop-path
invariant-loop-path l = record {
  text : string_bytes l.text ≡ string_bytes l.initial.text ++ text_of_lines (map path_text (take l.path-index l.paths));
  fits : All FitsPath (take l.path-index l.paths);
}
