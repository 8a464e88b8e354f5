use Rattle.sf_model.proofs.Used.{legal-leads}
use Rattle.sf_model.proofs.laws.legal_paths_lead.Goals as goal

pub returns : goal.returns
returns c = record {
  lead = legal-leads;
  own = λ design. legal-leads design.pads design.nets design.routes.paths design.routed.legal;
}
