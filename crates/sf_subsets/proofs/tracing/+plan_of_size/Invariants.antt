use Rattle.sf_subsets.proofs.tracing.+plan_of_size.Given as goal

abbrev pub decreases-plan_of_size : goal.decreases-plan_of_size
decreases-plan_of_size l = l.set
