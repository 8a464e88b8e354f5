use Rattle.std.proofs.Common.{◌≡◌, ◌⊎◌, inl, inr, Result, Ok, Err, refl, subst}
use Rattle.sf_yal.proofs.Common.{IfOk, IfErr, Parts, YalFault, Gives, Fails, yal_read, StandsFor, HasFault}
use Rattle.sf_yal.specs.declared.fault.YalFault.TheVariants as faults
use Rattle.sf_yal.proofs.Standing.{stands_from_read, read_from_stands, fault_from_read, read_from_fault}
use Rattle.sf_yal.proofs.read.read_yal.Goals as goal

is_found : (scale : _) (text : _) (r : Result Parts YalFault) → Gives r (yal_read scale text) → IfOk r (StandsFor scale text)
is_found scale text (Ok out) given = stands_from_read scale text out given
is_found scale text (Err e) given = tt

has_fault : (scale : _) (text : _) (f : YalFault) → Fails f (yal_read scale text) → (f ≡ faults.NoMemory) ⊎ HasFault scale text f
has_fault scale text faults.NoMemory given = inl refl
has_fault scale text fault given = inr (fault_from_read scale text fault given)

is_refused : (scale : _) (text : _) (r : Result Parts YalFault) → Gives r (yal_read scale text) → IfErr r (λ f. (f ≡ faults.NoMemory) ⊎ HasFault scale text f)
is_refused scale text (Ok out) given = tt
is_refused scale text (Err f) given = has_fault scale text f given

pub returns-clause-found : goal.returns-clause-found
returns-clause-found c = is_found c.args.scale c.args.text.now c.read_exactly.result c.read_exactly.ensures

pub returns-clause-only : goal.returns-clause-only
returns-clause-only c = λ out stands. subst (λ (read : Result Parts YalFault). Gives c.read_exactly.result read) (read_from_stands c.args.scale c.args.text.now out stands) c.read_exactly.ensures

pub returns-clause-refused : goal.returns-clause-refused
returns-clause-refused c = is_refused c.args.scale c.args.text.now c.read_exactly.result c.read_exactly.ensures

pub returns-clause-faulty : goal.returns-clause-faulty
returns-clause-faulty c = λ fault has. subst (λ (read : Result Parts YalFault). Gives c.read_exactly.result read) (read_from_fault c.args.scale c.args.text.now fault has) c.read_exactly.ensures
