use Rattle.std.proofs.Common.{◌<◌, ℕ, List, All, Option, length, map, vec_len}
use Rattle.sf_batch.proofs.Common.{AllZip, ForSome, Contents, Line, told_seen, BuiltJob, IsFound, IsUnderWay}
use Rattle.sf_batch.proofs.Tables.{IsFoundOf}
use Rattle.sf_batch.proofs.doing.note_found.Given as goal

abbrev pub invariant-loop-found : goal.invariant-loop-found
invariant-loop-found l =
    All (λ found. ForSome found (λ f. f.number < length l.table)) l.all.items
    × ((held : Option Contents) (lines : List Line) (faults faults_then : ℕ) (given : List BuiltJob) → AllZip IsFound given l.fn.all.items
    → IsUnderWay held lines faults faults_then (map told_seen l.fn.table) given
    → IsUnderWay held lines faults faults_then (map told_seen l.table) given × All (IsFoundOf given) l.all.items)

abbrev pub decreases-loop-found : goal.decreases-loop-found
decreases-loop-found l = vec_len l.all
