use Rattle.sf_known.proofs.knowing.know.Goals as goal

pub plan_found-requires : goal.plan_found-requires
plan_found-requires c = (c.args.design, c.requires)
