use Rattle.std.proofs.Common.{◌≡◌, ◌+◌, ◌++◌, take}
use Rattle.sf_cert_text.proofs.writing.put.Given as goal

abbrev pub invariant-loop-byte : goal.invariant-loop-byte
invariant-loop-byte l = record {
  end : l.end ≡ l.at + l.byte-index;
  bytes : take l.end l.row ≡ take l.at l.initial.row ++ take l.byte-index l.bytes;
}
