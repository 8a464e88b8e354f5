-- What is made of a number: the texts, the parts that they say, and the design of these.
use Rattle.std.specs.Prelude.{◌≡◌, ℕ, List, [], ◌∷◌, ◌++◌, codes, None, Some, Result, Ok, Err}
use Rattle.sf_model.specs.declared.design.Design.{Design}
use Rattle.sf_parts.specs.declared.raw.Parts.{Parts}
use Rattle.sf_parts.specs.Admitted.{IsAdmitted}
use Rattle.sf_gsrc.specs.declared.output.GsrcBlocks.{GsrcBlocks}
use Rattle.sf_gsrc.specs.declared.output.GsrcNets.{GsrcNets}
use Rattle.sf_gsrc.specs.declared.output.GsrcPlaces.{GsrcPlaces}
use Rattle.sf_gsrc.specs.Standing.{StandsFor}
use Rattle.sf_gsrc.specs.NetsStanding.{NetsStandFor}
use Rattle.sf_gsrc.specs.Places.{PlacesStandFor}
use Rattle.sf_gsrc.specs.Join.{joined}
use Rattle.sf_gen.specs.declared.design.Kinds.{Kinds as GenKinds}
use Rattle.sf_gen.specs.declared.design.Kinds.TheVariants as made
use Rattle.sf_gen.specs.Designs.{blocks_out, nets_out, parts_of, places_out}
use Rattle.sf_gen.specs.Drawn.{ends, sizes}
use Rattle.sf_gen.specs.Texts.{blocks_text, nets_text, pl_text}
use Rattle.sf_options.specs.declared.command.Kinds.{Kinds}
use Rattle.sf_options.specs.declared.command.Kinds.TheVariants.{Hard, Mixed}
use Rattle.sf_options.specs.Defaults.{default_design, weights_by_wire}
use Rattle.sf_options.specs.Options.{gsrc, DesignOptions, GenOptions, WeightOptions}
use Rattle.sf_designs.specs.Outcome.{Refusal}
use Rattle.sf_designs.specs.Reading.{DesignMade}
use Rattle.sf_designs.specs.Stores.{Stored}
use Rattle.sf_designs.specs.Weighed.{alike}

-- the kinds of blocks that the words name
abbrev pub kinds_of : Kinds → GenKinds
kinds_of Hard = made.Hard
kinds_of Mixed = made.Mixed

-- the names of the files begin with the base
abbrev pub blocks_name : GenOptions → List ℕ
blocks_name o = o.out ++ codes ".blocks"

-- the name of the nets
abbrev pub nets_name : GenOptions → List ℕ
nets_name o = o.out ++ codes ".nets"

-- the name of the places
abbrev pub pl_name : GenOptions → List ℕ
pl_name o = o.out ++ codes ".pl"

-- the three texts
abbrev pub blocks_made : GenOptions → List ℕ
blocks_made o = blocks_text (kinds_of o.kinds) (sizes o.seed o.count)

-- the nets file of a number
abbrev pub nets_made : GenOptions → List ℕ
nets_made o = nets_text (ends o.seed o.count)

-- the pl file of a number
abbrev pub pl_made : GenOptions → List ℕ
pl_made o = pl_text o.count

-- what the three texts say, and the parts to which that is joined
abbrev pub blocks_said : GenOptions → GsrcBlocks
blocks_said o = blocks_out (kinds_of o.kinds) (sizes o.seed o.count)

-- the nets for which its text stands
abbrev pub nets_said : GenOptions → GsrcNets
nets_said o = nets_out (ends o.seed o.count)

-- the places for which its text stands
abbrev pub places_said : GenOptions → GsrcPlaces
places_said o = places_out o.count

-- the parts to which the three are joined
abbrev pub parts_made : GenOptions → Parts
parts_made o = parts_of (kinds_of o.kinds) o.seed o.count

-- the design options of `plan` where none is given
abbrev pub by_default : DesignOptions
by_default = default_design (gsrc [] None None)

-- an area weight and a wire weight of 1, and no weights of nets named
abbrev pub both_weights : WeightOptions
both_weights = weights_by_wire 1

-- the three texts stand for the parts, which may become a design
pub record TextsStand (o : GenOptions) : Type 0 where
  pub blocks : StandsFor 1 (blocks_made o) (blocks_said o)
  pub nets : NetsStandFor (nets_made o) (nets_said o)
  pub places : PlacesStandFor 1 (pl_made o) (places_said o)
  pub joins : joined (blocks_said o) (Some (nets_said o)) (Some (places_said o)) ≡ Ok (parts_made o)
  pub admitted : IsAdmitted (parts_made o)

-- the design of the generated texts, which are never refused
abbrev pub DesignGenerated : GenOptions → Result Design Refusal → Type 0
DesignGenerated o (Ok design) = TextsStand o × DesignMade by_default both_weights (alike (parts_made o)) (Ok design)
DesignGenerated o (Err why) = ⊥

-- the three texts are stored in this order, before the certificate
abbrev pub texts_stored : GenOptions → List Stored
texts_stored o = (blocks_name o, blocks_made o) ∷ (nets_name o, nets_made o) ∷ (pl_name o, pl_made o) ∷ []
