-- What `measure` answers: where a placed file puts the blocks, whether that is a floorplan, and what it costs.
use Rattle.std.specs.Prelude.{◌≡◌, ℕ, ◌+◌, ◌*◌, min, List, [], ◌∷◌, ◌++◌, filter, codes, Option, Some, None, Result, Ok, Err}
use Rattle.std.specs.Fmt.{decimal}
use Rattle.std.specs.Str.{bytes_eq}
use Rattle.sf_io.specs.Outside.{Contents}
use Rattle.sf_io.specs.declared.status.Status.{Status}
use Rattle.sf_io.specs.declared.status.Status.TheVariants.{Done, No}
use Rattle.sf_model.specs.declared.design.Design.{Design}
use Rattle.sf_model.specs.declared.parts.Block.{Block}
use Rattle.sf_model.specs.declared.plan.Spot.{Spot}
use Rattle.sf_model.specs.Cost.{right_end, upper_end, spots_cost}
use Rattle.sf_model.specs.Wire.{wire}
use Rattle.sf_gsrc.specs.declared.output.GsrcPlaces.{GsrcPlaces}
use Rattle.sf_gsrc.specs.declared.output.Place.{Place}
use Rattle.sf_lex.specs.Results.{◌>>=◌}
use Rattle.sf_place.specs.declared.verdict.Verdict.{Verdict}
use Rattle.sf_place.specs.declared.verdict.Verdict.TheVariants.{Legal, Unlisted, Outside, Overlap}
use Rattle.sf_place.specs.Verdict.{IsVerdict}
use Rattle.sf_options.specs.Options.{MeasureOptions}
use Rattle.sf_designs.specs.declared.stop.Stop.{Stop}
use Rattle.sf_designs.specs.declared.work.Work.{Work}
use Rattle.sf_designs.specs.Outcome.{Refusal, Then}
use Rattle.sf_designs.specs.Reading.{PlacesRead, DesignRead, With}
use Rattle.sf_designs.specs.Refusals.{design_fault, line_of}
use Rattle.sf_designs.specs.Stores.{Obeyed}

-- the lines of a placed file that have this name
abbrev pub lines_named : List ℕ → List Place → List Place
lines_named name lines = filter (λ line. bytes_eq line.name name) lines

-- a side past the greatest side stands as one more than that, which no list has
abbrev pub side_in_spot : ℕ → ℕ
side_in_spot side = min side 1_048_577

-- the block of this number and name at a line's place, in the line's size
abbrev pub sized_spot : ℕ → List ℕ → Place → Option (ℕ × ℕ) → Result Spot Refusal
sized_spot b name line None = Err (design_fault (codes "MissingPlace" ∷ name ∷ []))
sized_spot b name line (Some size) = Ok (record { block = b; x = line.x; y = line.y; w = side_in_spot size.0; h = side_in_spot size.1 })

-- the same where these are the lines that have the name
abbrev pub spot_said : ℕ → List ℕ → List Place → Result Spot Refusal
spot_said b name [] = Err (design_fault (codes "MissingPlace" ∷ name ∷ []))
spot_said b name (line ∷ []) = sized_spot b name line line.size
spot_said b name (line ∷ other ∷ more) = Err (design_fault (codes "DuplicateName" ∷ name ∷ []))

-- the spots of blocks, numbered from b, or the fault of the first block that has none; other names are passed over
abbrev pub spots_said : ℕ → List Block → List Place → Result (List Spot) Refusal
spots_said b [] lines = Ok []
spots_said b (block ∷ blocks) lines = do
  spot ← spot_said b block.name (lines_named block.name lines)
  others ← spots_said (b + 1) blocks lines
  Ok (spot ∷ others)

-- the spots of a design's blocks by a placed file
abbrev pub SpotsPlaced : Design → GsrcPlaces → Result (List Spot) Refusal → Type 0
SpotsPlaced design places r = r ≡ spots_said 0 design.blocks places.places

-- the spots that the placed file of this name gives the blocks of a design
abbrev pub SpotsRead : Option Contents → ℕ → List ℕ → Design → Result (List Spot) Refusal → Type 0
SpotsRead held scale name design = Then (PlacesRead held (codes "placed") scale name) (SpotsPlaced design)

-- the design, and then the spots of its blocks
abbrev pub MeasureRead : Option Contents → MeasureOptions → Result (Design × List Spot) Refusal → Type 0
MeasureRead held o = Then (DesignRead held o.design o.weights) (With (SpotsRead held o.design.per_unit o.placed))

-- the status that goes with a verdict
abbrev pub verdict_status : Verdict → Status
verdict_status Legal = Done
verdict_status (Unlisted b) = No
verdict_status (Outside b) = No
verdict_status (Overlap a b) = No

-- what a legal placement costs, how large it is, and the length of its wires without the weight
abbrev pub legal_text : ℕ → ℕ → ℕ → ℕ → List ℕ
legal_text cost w h wires = line_of (codes "status" ∷ codes "Legal" ∷ [])
    ++ (line_of (codes "cost" ∷ decimal cost ∷ [])
    ++ (line_of (codes "size" ∷ decimal w ∷ decimal h ∷ [])
    ++ (line_of (codes "area" ∷ decimal (w * h) ∷ [])
    ++ line_of (codes "wire" ∷ decimal wires ∷ []))))

-- the lines of a verdict
abbrev pub verdict_text : Design → List Spot → Verdict → List ℕ
verdict_text design spots Legal = legal_text (spots_cost design spots) (right_end spots) (upper_end spots) (wire design spots)
verdict_text design spots (Unlisted b) = line_of (codes "status" ∷ codes "Unlisted" ∷ decimal b ∷ [])
verdict_text design spots (Outside b) = line_of (codes "status" ∷ codes "Outside" ∷ decimal b ∷ [])
verdict_text design spots (Overlap a b) = line_of (codes "status" ∷ codes "Overlap" ∷ decimal a ∷ decimal b ∷ [])

-- the files give a design and a spot for each block, and what is printed is the verdict on them
pub record IsMeasured (o : MeasureOptions) (before : Option Contents) (status : Status) (printed : List ℕ) : Type 0 where
  pub design : Design
  pub spots : List Spot
  pub reads : MeasureRead before o (Ok (design, spots))
  pub verdict : Verdict
  pub judged : IsVerdict design spots verdict
  pub status_is : status ≡ verdict_status verdict
  pub text_is : printed ≡ verdict_text design spots verdict

-- what `measure` answers: the verdict, and nothing to store
abbrev pub MeasureAnswers : MeasureOptions → Option Contents → Result Work Stop → Type 0
MeasureAnswers o before = Obeyed (λ status stored printed. IsMeasured o before status printed × (stored ≡ [])) (λ why. MeasureRead before o (Err why))
