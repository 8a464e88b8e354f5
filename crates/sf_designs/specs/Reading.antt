-- How the texts under the named files become a design, stage by stage, in the order of the work.
use Rattle.std.specs.Prelude.{◌≡◌, ℕ, ◌+◌, ◌^◌, ◌≤◌, List, length, replicate, codes, Option, None, Some, Result, Ok, Err}
use Rattle.sf_io.specs.Outside.{Contents, Holds, HoldsMore, MayFail}
use Rattle.sf_model.specs.declared.design.Design.{Design}
use Rattle.sf_parts.specs.declared.fault.BuildFault.{BuildFault}
use Rattle.sf_model.specs.declared.parts.Outline.{Outline}
use Rattle.sf_model.specs.declared.parts.Shape.{Shape}
use Rattle.sf_model.specs.declared.parts.Weights.{Weights}
use Rattle.sf_parts.specs.declared.raw.Parts.{Parts}
use Rattle.sf_parts.specs.Admitted.{IsAdmitted, first_refusal}
use Rattle.sf_parts.specs.Built.{IsDesignOf}
use Rattle.sf_soft_shapes.specs.Listed.{AreListsOf, HasNoneFor}
use Rattle.sf_gsrc.specs.declared.output.GsrcBlocks.{GsrcBlocks}
use Rattle.sf_gsrc.specs.declared.output.GsrcNets.{GsrcNets}
use Rattle.sf_gsrc.specs.declared.output.GsrcPlaces.{GsrcPlaces}
use Rattle.sf_gsrc.specs.Standing.{StandsFor}
use Rattle.sf_gsrc.specs.Blocks.{blocks_read}
use Rattle.sf_gsrc.specs.Nets.{nets_read}
use Rattle.sf_gsrc.specs.NetsStanding.{NetsStandFor}
use Rattle.sf_gsrc.specs.Places.{places_read, PlacesStandFor}
use Rattle.sf_gsrc.specs.Weights.{weights_read, WeightsStandFor}
use Rattle.sf_gsrc.specs.Join.{joined, nets_in}
use Rattle.sf_yal.specs.Standing as yals
use Rattle.sf_yal.specs.Parts.{yal_read}
use Rattle.sf_options.specs.Options.{Input, gsrc, yal, DesignOptions, WeightOptions}
use Rattle.sf_designs.specs.Outcome.{Refusal, refused, lost, Then}
use Rattle.sf_designs.specs.Refusals.{over_limit, gsrc_refusal, weight_refusal, yal_refusal, join_refusal, build_refusal}
use Rattle.sf_designs.specs.Weighed.{WeighedParts}

-- the text under a name, of at most so many bytes; or no text, where a load of the name may fail
abbrev pub TextWithin : ℕ → Option Contents → List ℕ → Result (List ℕ) Refusal → Type 0
TextWithin limit held name (Ok text) = Holds held name text × (length text ≤ limit)
TextWithin limit held name (Err (refused status line)) = HoldsMore held name limit × (refused status line ≡ over_limit (codes "file") (limit + 1) limit)
TextWithin limit held name (Err lost) = MayFail held name

-- the text under a name, of at most 64 MiB
abbrev pub TextRead : Option Contents → List ℕ → Result (List ℕ) Refusal → Type 0
TextRead = TextWithin (2 ^ 26)

-- what a reader makes of a text: what the text stands for, or else its first fault
abbrev pub Said : {X F : Type 0} → (X → Type 0) → Result X F → (F → Refusal) → Result X Refusal → Type 0
Said Stands first refusal (Ok x) = Stands x
Said {X} {F} Stands first refusal (Err why) = (fault : F) × (first ≡ Err fault) × (why ≡ refusal fault)

-- the blocks for which the file of this name stands
abbrev pub BlocksRead : Option Contents → ℕ → List ℕ → Result GsrcBlocks Refusal → Type 0
BlocksRead held scale name = Then (TextRead held name) (λ text. Said (StandsFor scale text) (blocks_read scale text) (gsrc_refusal (codes "blocks")))

-- the nets for which one stands
abbrev pub NetsRead : Option Contents → List ℕ → Result GsrcNets Refusal → Type 0
NetsRead held name = Then (TextRead held name) (λ text. Said (NetsStandFor text) (nets_read text) (gsrc_refusal (codes "nets")))

-- the places for which one stands, whose faults are told under this word
abbrev pub PlacesRead : Option Contents → List ℕ → ℕ → List ℕ → Result GsrcPlaces Refusal → Type 0
PlacesRead held source scale name = Then (TextRead held name) (λ text. Said (PlacesStandFor scale text) (places_read scale text) (gsrc_refusal source))

-- a file that may be left out
abbrev pub IfNamed : {X : Type 0} → (List ℕ → Result X Refusal → Type 0) → Option (List ℕ) → Result (Option X) Refusal → Type 0
IfNamed P None r = r ≡ Ok None
IfNamed P (Some name) (Ok None) = ⊥
IfNamed P (Some name) (Ok (Some x)) = P name (Ok x)
IfNamed P (Some name) (Err why) = P name (Err why)

-- a value or its fault
abbrev pub Judged : {X F : Type 0} → Result X F → (F → Refusal) → Result X Refusal → Type 0
Judged (Ok x) refusal r = r ≡ Ok x
Judged (Err fault) refusal r = r ≡ Err (refusal fault)

-- the parts for which a YAL file stands
abbrev pub YalRead : Option Contents → ℕ → List ℕ → Result Parts Refusal → Type 0
YalRead held scale name = Then (TextRead held name) (λ text. Said (yals.StandsFor scale text) (yal_read scale text) yal_refusal)

-- a weight for each of so many nets: 1, or what the text under the name gives it
abbrev pub WeightsRead : Option Contents → Option (List ℕ) → ℕ → Result (List ℕ) Refusal → Type 0
WeightsRead held None nets r = r ≡ Ok (replicate nets 1)
WeightsRead held (Some name) nets r = Then (TextRead held name) (λ text. Said (WeightsStandFor text nets) (weights_read nets text) weight_refusal) r

-- the parts, with these weights of their nets
abbrev pub Weighed : List ℕ → Parts → Result WeighedParts Refusal → Type 0
Weighed net_weights parts r = r ≡ Ok (record { parts = parts; net_weights = net_weights })

-- all of it joined, with these weights
abbrev pub JoinedRead : GsrcBlocks → Option GsrcNets → Option GsrcPlaces → List ℕ → Result WeighedParts Refusal → Type 0
JoinedRead blocks nets places net_weights = Then (Judged (joined blocks nets places) join_refusal) (Weighed net_weights)

-- the blocks, then the nets, the places and the weights of the nets, and all of it joined
abbrev pub GsrcRead : Option Contents → ℕ → List ℕ → Option (List ℕ) → Option (List ℕ) → Option (List ℕ) → Result WeighedParts Refusal → Type 0
GsrcRead held scale blocks nets pl weights =
    Then (BlocksRead held scale blocks) (λ its_blocks.
    Then (IfNamed (NetsRead held) nets) (λ its_nets.
    Then (IfNamed (PlacesRead held (codes "pl") scale) pl) (λ its_places.
    Then (WeightsRead held weights (length (nets_in its_nets))) (JoinedRead its_blocks its_nets its_places))))

-- what a YAL text says, and then the weights of its nets
abbrev pub YalWeighed : Option Contents → ℕ → List ℕ → Option (List ℕ) → Result WeighedParts Refusal → Type 0
YalWeighed held scale file weights = Then (YalRead held scale file) (λ parts. Then (WeightsRead held weights (length parts.nets)) (λ net_weights. Weighed net_weights parts))

-- all that the texts say
abbrev pub PartsRead : Option Contents → ℕ → Input → Option (List ℕ) → Result WeighedParts Refusal → Type 0
PartsRead held scale (gsrc blocks nets pl) weights = GsrcRead held scale blocks nets pl weights
PartsRead held scale (yal file) weights = YalWeighed held scale file weights

-- which parts may become a design
abbrev pub Admitted : WeighedParts → Result WeighedParts Refusal → Type 0
Admitted read (Ok same) = (same ≡ read) × IsAdmitted read.parts
Admitted read (Err why) = (fault : BuildFault) × (first_refusal read.parts ≡ Some fault) × (why ≡ build_refusal fault)

-- the shapes that each block may take
abbrev pub ListsMade : DesignOptions → Parts → Result (List (List Shape)) Refusal → Type 0
ListsMade o parts (Ok lists) = AreListsOf o.shapes o.is_fixed parts.blocks lists
ListsMade o parts (Err why) = (fault : BuildFault) × HasNoneFor o.shapes o.is_fixed parts.blocks fault × (why ≡ build_refusal fault)

-- the outline that the words name
abbrev pub outline_of : DesignOptions → Outline
outline_of o = record { w = o.width; h = o.height }

-- the weights that the words name
abbrev pub weights_of : WeightOptions → Weights
weights_of w = record { area = w.area; wire = w.wire }

-- the parts with their lists are this design
abbrev pub Built : DesignOptions → WeightOptions → WeighedParts → List (List Shape) → Result Design Refusal → Type 0
Built o w read lists (Ok design) = IsDesignOf read.parts lists (outline_of o) (weights_of w) read.net_weights design
Built o w read lists (Err why) = ⊥

-- the parts of the files, where they may become a design
abbrev pub PartsAdmitted : Option Contents → DesignOptions → WeightOptions → Result WeighedParts Refusal → Type 0
PartsAdmitted held o w = Then (PartsRead held o.per_unit o.input w.net_weights) Admitted

-- the design of admitted parts, or the block that has no shape
abbrev pub DesignMade : DesignOptions → WeightOptions → WeighedParts → Result Design Refusal → Type 0
DesignMade o w read = Then (ListsMade o read.parts) (Built o w read)

-- the design for which the files stand
abbrev pub DesignRead : Option Contents → DesignOptions → WeightOptions → Result Design Refusal → Type 0
DesignRead held o w = Then (PartsAdmitted held o w) (DesignMade o w)

-- a stage whose value is kept with the design that it is for
abbrev pub With : {X : Type 0} → (Design → Result X Refusal → Type 0) → Design → Result (Design × X) Refusal → Type 0
With P design (Ok both) = (both.0 ≡ design) × P design (Ok both.1)
With P design (Err why) = P design (Err why)
