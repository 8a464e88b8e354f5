use Rattle.std.proofs.Common.{arith}
use Rattle.sf_gsrc.proofs.StandingLaws.{read_from_stands}
use Rattle.sf_gen.proofs.Common.{sizes, blocks_out, blocks_text}
use Rattle.sf_gen.proofs.BlocksRead.{blocks_stand}
use Rattle.sf_gen.proofs.EndsDrawn.{length-sizes, sizes_small}
use Rattle.sf_gen.proofs.laws.blocks_are_read.Goals as goal

pub returns : goal.returns
unfolding blocks_text
returns c = λ kinds seed n low high.
    read_from_stands 1 (blocks_text kinds (sizes seed n)) (blocks_out kinds (sizes seed n))
    (blocks_stand kinds (sizes seed n) (omega (arith, length-sizes seed n)) (sizes_small seed n))
