use Rattle.sf_anneal.proofs.keeping.Kept.+place.Given as goal

abbrev pub decreases-place : goal.decreases-place
decreases-place l = l.part
