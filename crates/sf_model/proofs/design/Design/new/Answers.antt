use Rattle.std.proofs.Common.{subst, List}
use Rattle.sf_model.proofs.Common.{Net, AreRoutes}
use Rattle.sf_model.proofs.Floored.{no_floor}
use Rattle.sf_model.proofs.design.Design.new.Goals as goal

pub invariant_of-result : goal.invariant_of-result
invariant_of-result c = record {
  limits = c.requires;
  floored = no_floor c.args.blocks c.args.outline;
  routed = subst (λ (nets : List Net). AreRoutes c.args.pads nets c.in_ok-routes.routes) c.as_slice.ensures (c.in_ok-routes.ensures.legal c.args.pads);
}
