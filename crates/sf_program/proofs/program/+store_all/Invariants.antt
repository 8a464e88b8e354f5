use Rattle.std.proofs.Common.{length}
use Rattle.sf_program.proofs.program.+store_all.Given as goal

abbrev pub decreases-store_all : goal.decreases-store_all
decreases-store_all g l = length l.stores.now
