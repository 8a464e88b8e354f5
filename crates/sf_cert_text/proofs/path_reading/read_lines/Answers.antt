use Rattle.std.proofs.Common.{◌≡◌, ◌+◌, arith, sym, subst, List}
use Rattle.sf_cert_text.proofs.Common.{err_from_is_err_and, last_line_of, numbered_rest, Path}
use Rattle.sf_cert_text.proofs.PathReads.{IsReading, reading-more, reading-fault, reading-done}
use Rattle.sf_cert_text.proofs.path_reading.read_lines.Goals as goal

pub returns-in_err-path-clause-fault : goal.returns-in_err-path-clause-fault
returns-in_err-path-clause-fault c =
    let p = err_from_is_err_and c.from_residual.result c.from_residual.ensures.1 in
    rw (p.1, p.2) (λ ne. reading-fault (last_line_of c.args.text.now) c.args.count (numbered_rest c.args.scan.now) c.loop-path.paths.items c.loop-path._path (numbered_rest c.loop-path.scan) c.loop-path.invariant
    c.in_err-path.field-0.0 c.loop-path-test.true (c.in_err-path.ensures.fault ne))

pub loop-path-preserved : goal.loop-path-preserved
loop-path-preserved c =
    let last = last_line_of c.args.text.now in
    let all = numbered_rest c.args.scan.now in
    let rest = numbered_rest c.read_path.new.scan in
    subst (λ (paths : List Path). IsReading last c.args.count all paths (c.loop-path._path + 1) rest) (sym c.in_ok-push.ensures.items)
    (reading-more last c.args.count all c.loop-path.paths.items c.loop-path._path (numbered_rest c.loop-path.scan) c.loop-path.invariant c.in_ok-path.path rest c.loop-path-test.true c.in_ok-path.ensures.path)

pub returns-clause-paths : goal.returns-clause-paths
returns-clause-paths c =
    let done : c.loop-path._path ≡ c.args.count = omega (arith, c.loop-path-test.false, c.loop-path.auto._path-end) in
    reading-done (last_line_of c.args.text.now) c.args.count (numbered_rest c.args.scan.now) c.loop-path.paths.items c.loop-path._path (numbered_rest c.loop-path.scan) c.loop-path.invariant done
