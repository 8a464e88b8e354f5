use Rattle.std.proofs.Common.{◌≡◌, ℕ, List, ◌++◌, take}
use Rattle.sf_cert_text.proofs.Common.{bytes_on}
use Rattle.sf_cert_text.proofs.bytes.ByteReader.keep_run.Given as goal

abbrev pub invariant-loop-byte : goal.invariant-loop-byte
invariant-loop-byte l = (n : ℕ) (rest : List ℕ) → bytes_on n l.fn.self (take l.byte-index l.run ++ rest) ≡ bytes_on n l.self rest
