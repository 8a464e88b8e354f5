use Rattle.sf_search.proofs.walk.Walk.leave_open.Goals as goal
