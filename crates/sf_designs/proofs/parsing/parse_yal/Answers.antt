use Rattle.sf_yal.specs.Parts.{yal_read}
use Rattle.sf_yal.specs.Standing.{StandsFor}
use Rattle.sf_designs.proofs.Common.{yal_refusal}
use Rattle.sf_designs.proofs.YalRefused.{yal-stops, refused-tells}
use Rattle.sf_designs.proofs.parsing.parse_yal.Goals as goal

pub returns-in_ok-yal_fault-in-Err : goal.returns-in_ok-yal_fault-in-Err
returns-in_ok-yal_fault-in-Err c =
    let scale = c.args.scale.per_unit in
    let text = c.args.text.now in
    let stop = c.in_ok-yal_fault-in-Err.field-0 in
    let fault = c.in-Err.fault in
    record {
      tells = refused-tells stop (yal_refusal fault) c.in_ok-yal_fault-in-Err.ensures.refused;
      said = yal-stops (StandsFor scale text) (yal_read scale text) fault c.read_yal.result stop c.in_ok-yal_fault-in-Err.ensures.real c.in-Err.is c.read_yal.ensures.exact c.in_ok-yal_fault-in-Err.ensures.refused;
    }
