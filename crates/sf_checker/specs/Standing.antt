-- How the check stands between two tags. These are words of its loop over the tags; what it answers stands in Answers.
use Rattle.std.specs.Prelude.{◌≡◌, ℕ, Bool, List, Option, Some, None, MatchOption, Ok}
use Rattle.sf_model.specs.declared.design.Design.{Design}
use Rattle.sf_node.specs.declared.part.Part.{Part}
use Rattle.sf_node.specs.Parts.{Parts}
use Rattle.sf_node.specs.Later.{pending}
use Rattle.sf_node.specs.Subproblem.{root}
use Rattle.sf_certificate.specs.declared.cert.Cert.{Cert}
use Rattle.sf_certificate.specs.declared.tag.Tag.{Tag}
use Rattle.sf_certificate.specs.declared.tag.Tag.TheVariants.{Extend, Split, Closed, Open}
use Rattle.sf_cursor.specs.Path.{Path, IsPath}
use Rattle.sf_checker.specs.declared.answer.Why.{Why}
use Rattle.sf_checker.specs.Answers.{IsPlanRight, IsFirst}
use Rattle.sf_checker.specs.Walking.{Progress, walked, start}

-- the number that a tag asks for: of a closed subproblem the value of the part that it names, of an open one its own
abbrev pub asked_value : ℕ → (Part → ℕ) → Tag → Option ℕ
asked_value value part Extend = None
asked_value value part (Split b) = None
asked_value value part (Closed p) = Some (part p)
asked_value value part Open = Some value

-- what a walk keeps: where it stands, whether anything is not visited yet, and the rest as it is
pub record Stand : Type 0 where
  pub path : Path
  pub more : Bool
  pub low : ℕ
  pub decided : ℕ
  pub number : ℕ

-- the progress of a walk that stands so: what waits is where it stands and what is behind that
abbrev pub progress_of : Design → Stand → Progress
progress_of design walk = record { waiting = pending design walk.more walk.path.node; low = walk.low; decided = walk.decided; number = walk.number }

-- where the walk stands, and the first failure so far
pub record Judged : Type 0 where
  pub walk : Stand
  pub found : Option Why

-- the walk can go on
abbrev pub IsSteady : Design → (Parts → ℕ) → Judged → Type 0
IsSteady design bound judge = IsPath design bound judge.walk.path

-- the plan is right and the walk went over these tags, the first of the certificate; or this is what fails first
abbrev pub IsFound : Design → (Parts → ℕ) → (Parts → Part → ℕ) → Cert → List Tag → Judged → Type 0
IsFound design bound part cert tags judge = MatchOption judge.found
    (IsPlanRight design cert × (walked bound part cert.cost (start (root design) cert.cost) tags ≡ Ok (progress_of design judge.walk)))
    (IsFirst design bound part cert)
