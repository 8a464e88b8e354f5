use Rattle.std.proofs.Common.{◌∙◌, refl, ap, map, option_map, arith, ◌∷◌, []}
use Rattle.sf_jobs.proofs.Common.{map-append, plan_seen}
use Rattle.sf_jobs.proofs.Lines.{goes_on, bounded, few_lines, all_stand, all_many}
use Rattle.sf_jobs.proofs.jobs.read_jobs.Goals.{then-found-lt-MOST_JOBS+in_ok-push, else-found-lt-MOST_JOBS}
use Rattle.sf_jobs.proofs.jobs.read_jobs.Goals as goal

pub overflow_add-found : goal.overflow_add-found
overflow_add-found c =
    let one = bounded _ _ _ _ _ _ c.loop-line.invariant c.in-Some.ensures.lines in
    let all = few_lines c.args.text.now in grind (arith, one, all, c.type_inv.text)

pub loop-line-preserved : goal.loop-line-preserved
loop-line-preserved c = elim c.if-found-lt-MOST_JOBS.branch [
  | then-found-lt-MOST_JOBS+in_ok-push w ↦ rw w.jobs-is (goes_on _ _ _ _ _ _ _ _ _ c.loop-line.invariant c.in-Some.ensures.lines c.in-Some-read_job.ensures.job refl
      (λ few. ap (map (option_map plan_seen)) w.in_ok-push.ensures.items ∙ map-append (option_map plan_seen) c.loop-line.jobs.items (c.in-Some-read_job.job ∷ [])))
  | else-found-lt-MOST_JOBS w ↦ rw w.jobs-is (goes_on _ _ _ _ _ _ _ _ _ c.loop-line.invariant c.in-Some.ensures.lines c.in-Some-read_job.ensures.job refl
      (λ few. absurd (grind (arith, few, w.if-found-lt-MOST_JOBS.false))))
]

pub returns-then-found-gt-MOST_JOBS-clause-refused : goal.returns-then-found-gt-MOST_JOBS-clause-refused
returns-then-found-gt-MOST_JOBS-clause-refused c =
    let many = all_many c.args.text.now _ _ _ c.loop-line.invariant c.in_default.ensures.lines in (many.0, many.1, grind (arith, c.if-found-gt-MOST_JOBS.true))

pub returns-clause-jobs : goal.returns-clause-jobs
returns-clause-jobs c = all_stand c.args.text.now _ _ _ c.loop-line.invariant c.in_default.ensures.lines (grind (arith, c.if-found-gt-MOST_JOBS.false))
