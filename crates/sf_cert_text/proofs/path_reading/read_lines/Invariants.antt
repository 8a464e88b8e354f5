use Rattle.sf_cert_text.proofs.Common.{last_line_of, numbered_rest}
use Rattle.sf_cert_text.proofs.PathReads.{IsReading}
use Rattle.sf_cert_text.proofs.path_reading.read_lines.Given as goal

abbrev pub invariant-loop-path : goal.invariant-loop-path
invariant-loop-path l = IsReading (last_line_of l.text) l.count (numbered_rest l.fn.scan) l.paths.items l._path (numbered_rest l.scan)
