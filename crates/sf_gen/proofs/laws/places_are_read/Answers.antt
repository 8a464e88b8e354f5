use Rattle.sf_gsrc.proofs.PlaceLaws.{read_from_stands}
use Rattle.sf_gen.proofs.Common.{places_out, pl_text}
use Rattle.sf_gen.proofs.PlacesRead.{places_stand}
use Rattle.sf_gen.proofs.laws.places_are_read.Goals as goal

pub returns : goal.returns
returns c = λ n high. read_from_stands 1 (pl_text n) (places_out n) (places_stand n high)
