use Rattle.sf_anneal.proofs.Least.{least-among, least-each}
use Rattle.sf_anneal.proofs.OneWalk.{starts-one, walk-one}
use Rattle.sf_anneal.proofs.laws.walks_are_one.Goals as goal

pub returns : goal.returns
returns c = record {
  walk = walk-one;
  starts = starts-one;
  least = λ results i d q h e. least-each results i d h q e;
  among = least-among;
}
