-- What is read behind a design within its budget.
use Rattle.std.proofs.Common.{inl, Option, Ok, Err, refl}
use Rattle.sf_program.proofs.Common.{Beginning, BeginRead, BudgetedDesign, Contents, Design, PartsAdmitted, PlanInput, PlanOptions, Stop, Stops, WeighedParts, stops-map}

module _ (held : Option Contents) (o : PlanOptions) (read : WeighedParts) (admitted : PartsAdmitted held o.design o.weights (Ok read)) (design : Design) (made : BudgetedDesign o read (Ok design)) where
  -- what is refused there ends the reading
  pub begun-stops : (stop : Stop) → Stops stop (λ why. BeginRead held o read.parts design (Err why)) → Stops stop (λ why. PlanInput held o (Err why))
  begun-stops = stops-map (λ why. BeginRead held o read.parts design (Err why)) (λ why. PlanInput held o (Err why)) (λ why h. inl (read, admitted, inl (design, made, h)))

  -- what is read there is kept with the design
  pub begun-read : (begin : Option Beginning) → BeginRead held o read.parts design (Ok begin) → PlanInput held o (Ok (design, begin))
  begun-read begin h = inl (read, admitted, inl (design, made, (refl, h)))
