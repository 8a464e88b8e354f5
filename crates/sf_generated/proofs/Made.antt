-- Generated texts are never refused.
use Rattle.std.proofs.Common.{◌≡◌, inl, inr, Result, Ok, Err, sym, subst, ◌∙◌}
use Rattle.sf_designs.proofs.Stages.{stops-map}
use Rattle.sf_designs.specs.Outcome.{Refusal, IsFault, Stops}
use Rattle.sf_designs.specs.Reading.{Judged, Said}
use Rattle.sf_designs.specs.declared.stop.Stop.{Stop}
use Rattle.sf_model.specs.declared.design.Design.{Design}
use Rattle.sf_options.specs.Options.{DesignOptions, WeightOptions}
use Rattle.std.specs.Prelude.{IfErr, IfOk}
use Rattle.sf_generated.proofs.Common.{HasNoneFor, Ends, DesignMade, WeighedParts, BuildFault}

module _ {X F : Type 0} (first : Result X F) (refusal : F → Refusal) (out : X) (read : first ≡ Ok out) where
  -- what reads as a value has no fault
  no-fault : (fault : F) → first ≡ Err fault → ⊥
  no-fault fault e = let k : Ok out ≡ Err fault = sym read ∙ e in absurd (cc)

  -- a reader of a text that is read
  pub said-is : (Stands : X → Type 0) → ((x : X) → Stands x → x ≡ out) → (r : Result X Stop) → Ends (λ x. x) r (Said Stands first refusal) → IfOk r (λ x. x ≡ out)
  said-is Stands once (Ok x) h = once x h
  said-is Stands once (Err stop) h = tt

  -- such a text is never refused
  pub said-never : (Stands : X → Type 0) → (r : Result X Stop) → Ends (λ x. x) r (Said Stands first refusal) → IfErr r IsFault
  said-never Stands (Ok x) h = tt
  said-never Stands (Err stop) h = stops-map (λ why. Said Stands first refusal (Err why)) (λ why. ⊥) (λ why s. no-fault s.0 s.1) stop h

  -- a value that is there
  judged-same : (r : Result X Refusal) → Judged first refusal r → r ≡ Ok out
  judged-same r h = subst (λ f. Judged f refusal r) read h

  -- the value is the one that is there
  pub judged-is : {A : Type 0} (seen : A → X) (r : Result A Stop) → Ends seen r (Judged first refusal) → IfOk r (λ a. seen a ≡ out)
  judged-is seen (Ok a) h = let k : Ok (seen a) ≡ Ok out = judged-same (Ok (seen a)) h in cc
  judged-is seen (Err stop) h = tt

  -- and is never refused
  pub judged-never : {A : Type 0} (seen : A → X) (r : Result A Stop) → Ends seen r (Judged first refusal) → IfErr r IsFault
  judged-never seen (Ok a) h = tt
  judged-never seen (Err stop) h = stops-map (λ why. Judged first refusal (Err why)) (λ why. ⊥) (λ why s. let k : Err why ≡ Ok out = judged-same (Err why) s in absurd (cc)) stop h

-- each block has a shape
module _ (o : DesignOptions) (w : WeightOptions) (read : WeighedParts) (shaped : (fault : BuildFault) → HasNoneFor o.shapes o.is_fixed read.parts.blocks fault → ⊥) where
  -- where each block has a shape the design is not refused
  no-refusal : (why : Refusal) → DesignMade o w read (Err why) → ⊥
  no-refusal why d = elim d [ inl m ↦ m.2 | inr m ↦ shaped m.1.0 m.1.1 ]

  -- nor does its making stop for a refusal
  pub made-never : (r : Result Design Stop) → Ends (λ x. x) r (DesignMade o w read) → IfErr r IsFault
  made-never (Ok x) h = tt
  made-never (Err stop) h = stops-map (λ why. DesignMade o w read (Err why)) (λ why. ⊥) no-refusal stop h

-- a design that is made of some options is made of the same ones
pub made-same : (o p : DesignOptions) (w v : WeightOptions) (read : WeighedParts) (r : Result Design Stop) → o ≡ p → w ≡ v → Ends (λ x. x) r (DesignMade o w read) → Ends (λ x. x) r (DesignMade p v read)
made-same o p w v read r same alike h = subst (λ (u : WeightOptions). Ends (λ x. x) r (DesignMade p u read)) alike (subst (λ (q : DesignOptions). Ends (λ x. x) r (DesignMade q w read)) same h)

-- a design that is made stands beside what else is known
pub made-ok : (o : DesignOptions) (w : WeightOptions) (read : WeighedParts) (S : Type 0) → S → (r : Result Design Stop) → Ends (λ x. x) r (DesignMade o w read) → IfOk r (λ d. S × DesignMade o w read (Ok d))
made-ok o w read S s (Ok d) h = (s, h)
made-ok o w read S s (Err stop) h = tt

-- what is never refused stops for no refusal
pub never-stops : (P : Refusal → Type 0) (stop : Stop) → IsFault stop → Stops stop P
never-stops P stop h = stops-map (λ why. ⊥) P (λ why k. absurd k) stop h
