use Rattle.std.proofs.Common.{refl, ◌∙◌}
use Rattle.sf_bounds.proofs.net_frames.follow.Goals as goal

pub returns-clause-all : goal.returns-clause-all
returns-clause-all c = record {
  nets = c.extend.new.nets;
  some = refl;
  are = c.in_ok-extend.ensures.kept;
  all = c.in_ok-extend.ensures.count ∙ c.framed-count.ensures.is;
}
