-- A YAL text that is refused.
use Rattle.std.proofs.Common.{◌≡◌, Result, Err, refl, subst}
use Rattle.sf_designs.proofs.Common.{Parts, Stop, IsNoLoad, Refusal, Refuses, Stops, Said, yal_refusal, Refused, ReadFault, NoMemory}
use Rattle.sf_yal.specs.declared.fault.YalFault.{YalFault}
use Rattle.sf_yal.specs.declared.fault.YalFault.TheVariants as yal
use Rattle.sf_yal.specs.Reading.{Gives}
use Rattle.sf_designs.proofs.Stages.{refused-stops}

module _ (Stands : Parts → Type 0) (first : Result Parts YalFault) where
  -- the fault that is answered is the one that the text has
  told-fault : (fault : YalFault) → (fault ≡ yal.NoMemory → ⊥) → Gives (Err fault) first → first ≡ Err fault
  told-fault (yal.Truncated line) real told = told
  told-fault (yal.BadStatement line) real told = told
  told-fault (yal.BadNumber line number) real told = told
  told-fault (yal.ZeroSide line) real told = told
  told-fault yal.NoParent real told = told
  told-fault (yal.TwoParents line) real told = told
  told-fault (yal.UnknownModule line name) real told = told
  told-fault yal.NoMemory real told = absurd (real refl)

  -- so the call stops for it
  pub yal-stops : (fault : YalFault) (read : Result Parts YalFault) (stop : Stop) → (fault ≡ yal.NoMemory → ⊥) → read ≡ Err fault → Gives read first → Refuses stop (yal_refusal fault) → Stops stop (λ why. Said Stands first yal_refusal (Err why))
  yal-stops fault read stop real is told refused =
      refused-stops (λ why. Said Stands first yal_refusal (Err why)) (yal_refusal fault)
      (fault, told-fault fault real (subst (λ r. Gives r first) is told), refl) stop refused

-- a refusal tells of no load
pub refused-tells : (stop : Stop) (why : Refusal) → Refuses stop why → IsNoLoad stop
refused-tells (Refused status line) why h = tt
refused-tells ReadFault why h = absurd h
refused-tells NoMemory why h = tt
