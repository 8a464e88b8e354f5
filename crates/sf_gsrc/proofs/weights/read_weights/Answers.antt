use Rattle.std.proofs.Common.{◌≡◌, List, ℕ, length, Result, Ok, Err, subst}
use Rattle.sf_gsrc.proofs.Common.{IfOk, WeightFault, GivesWeights, WeightsStandFor}
use Rattle.std.specs.Global.{Vec}
use Rattle.sf_gsrc.proofs.WeightLaws.{stands_from_read, read_from_stands, weights_each}
use Rattle.sf_gsrc.proofs.weights.read_weights.Goals as goal

holds_if_given : (P : List ℕ → Type 0) (read : Result (List ℕ) WeightFault) (r : Result (Vec ℕ) WeightFault) → ((out : List ℕ) → read ≡ Ok out → P out) → GivesWeights r read → IfOk r (λ weights. P weights.items)
holds_if_given P read (Ok weights) h given = h weights.items given
holds_if_given P read (Err e) h given = tt

pub returns-clause-stands : goal.returns-clause-stands
returns-clause-stands c = holds_if_given (WeightsStandFor c.args.text.now c.args.nets) _ c.read_exactly.result (stands_from_read c.args.text.now c.args.nets) c.read_exactly.ensures

pub returns-clause-one_each : goal.returns-clause-one_each
returns-clause-one_each c =
    holds_if_given (λ out. length out ≡ c.args.nets) _ c.read_exactly.result
    (λ out read. weights_each c.args.text.now c.args.nets out (stands_from_read c.args.text.now c.args.nets out read)) c.read_exactly.ensures

pub returns-clause-only : goal.returns-clause-only
returns-clause-only c = λ out stands.
    subst (λ (read : Result (List ℕ) WeightFault). GivesWeights c.read_exactly.result read) (read_from_stands c.args.text.now c.args.nets out stands) c.read_exactly.ensures
