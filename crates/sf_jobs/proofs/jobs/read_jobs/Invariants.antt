use Rattle.std.proofs.Common.{map, option_map, length}
use Rattle.sf_jobs.proofs.Common.{numbered_rest, content, content_of, plan_seen}
use Rattle.sf_jobs.proofs.Lines.{IsReading}
use Rattle.sf_jobs.proofs.jobs.read_jobs.Given as goal

abbrev pub invariant-loop-line : goal.invariant-loop-line
invariant-loop-line l = IsReading (content_of l.text) (content (numbered_rest l.scan)) l.found (map (option_map plan_seen) l.jobs.items)

abbrev pub decreases-loop-line : goal.decreases-loop-line
decreases-loop-line l = length (content (numbered_rest l.scan))
