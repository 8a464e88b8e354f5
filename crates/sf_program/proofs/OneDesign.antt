-- The texts stand for one design, or are refused for one reason.
use Rattle.std.proofs.Common.{◌≡◌, ◌≤◌, inl, inr, ℕ, suc, List, [], ◌∷◌, map, length, Option, Some, None, Result, Ok, Err, refl, sym, ap, subst, ◌∙◌, arith, All, option_map}
use Rattle.sf_gsrc.specs.Blocks.{blocks_read}
use Rattle.sf_gsrc.specs.Join.{first_twice, joined, names_of, nets_in, numbered, placed_once, placed_parts, unplaced_parts}
use Rattle.sf_gsrc.specs.Nets.{nets_read}
use Rattle.sf_gsrc.specs.NetsStanding.{NetsStandFor}
use Rattle.sf_gsrc.specs.Places.{places_read, PlacesStandFor}
use Rattle.sf_gsrc.specs.Standing.{StandsFor}
use Rattle.sf_gsrc.specs.declared.output.GsrcBlocks.{GsrcBlocks}
use Rattle.sf_gsrc.specs.declared.output.GsrcNets.{GsrcNets}
use Rattle.sf_gsrc.specs.declared.output.GsrcPlaces.{GsrcPlaces}
use Rattle.sf_parts.specs.declared.raw.Parts.{Parts}
use Rattle.sf_soft_shapes.specs.Listed.{AreListsOf}
use Rattle.sf_program.proofs.Common.{Bool, codes, Contents, Design, Block, Input, gsrc, yal, DesignOptions, PlanOptions, WeightOptions, AtMostOne, GivesOne, HasBlocksOf, Refusal, Then, BudgetTested, BudgetedDesign, CountTested, budget_of, Admitted, BlocksRead, Built, DesignMade, DesignRead, GsrcRead, IfNamed, JoinedRead, Judged, ListsMade, NetsRead, PartsAdmitted, PartsRead, PlacesRead, Said, TextRead, Weighed, WeightsRead, YalRead, YalWeighed, outline_of, weights_of, build_refusal, gsrc_refusal, join_refusal, weight_refusal, yal_refusal, WeighedParts, Shape, RawBlock, PlacedRead, WeighedRead, WiredRead}
use Rattle.sf_parts.specs.declared.fault.BuildFault.TheVariants.{NoShape}
use Rattle.sf_parts.specs.Built.{design_blocks, first_shapeless}
use Rattle.sf_parts.proofs.Determined.{determined}
use Rattle.sf_soft_shapes.proofs.Determined.{all-lists, one-fault, fault-empty}
use Rattle.sf_gsrc.specs.Weights.{weights_read, WeightsStandFor}
use Rattle.sf_gsrc.proofs.StandingLaws as block_laws
use Rattle.sf_gsrc.proofs.NetLaws as net_laws
use Rattle.sf_gsrc.proofs.PlaceLaws as place_laws
use Rattle.sf_gsrc.proofs.WeightLaws as weight_laws
use Rattle.sf_yal.specs.Standing as yals
use Rattle.sf_yal.specs.Parts.{yal_read}
use Rattle.sf_yal.proofs.Standing as yal_laws
use Rattle.sf_program.proofs.Once.{once, then-one, said-one, judged-one, text-one, named-one, same-value}

-- ---- the parts

module _ (contents : Contents) where
  -- a blocks file stands for one list of blocks, or has one fault
  blocks-one : (scale : ℕ) (name : List ℕ) → GivesOne contents.may_fail (BlocksRead (Some contents) scale name)
  blocks-one scale name =
      then-one (TextRead (Some contents) name) (λ text. Said (StandsFor scale text) (blocks_read scale text) (gsrc_refusal (codes "blocks"))) (text-one contents name)
      (λ text. once (Said (StandsFor scale text) (blocks_read scale text) (gsrc_refusal (codes "blocks"))) (said-one (StandsFor scale text) (blocks_read scale text) (gsrc_refusal (codes "blocks")) (block_laws.read_from_stands scale text)))

  -- so does a nets file for nets
  nets-one : (name : List ℕ) → GivesOne contents.may_fail (NetsRead (Some contents) name)
  nets-one name =
      then-one (TextRead (Some contents) name) (λ text. Said (NetsStandFor text) (nets_read text) (gsrc_refusal (codes "nets"))) (text-one contents name)
      (λ text. once (Said (NetsStandFor text) (nets_read text) (gsrc_refusal (codes "nets"))) (said-one (NetsStandFor text) (nets_read text) (gsrc_refusal (codes "nets")) (net_laws.read_from_stands text)))

  -- and a file of places for places
  pub places-one : (source : List ℕ) (scale : ℕ) (name : List ℕ) → GivesOne contents.may_fail (PlacesRead (Some contents) source scale name)
  places-one source scale name =
      then-one (TextRead (Some contents) name) (λ text. Said (PlacesStandFor scale text) (places_read scale text) (gsrc_refusal source)) (text-one contents name)
      (λ text. once (Said (PlacesStandFor scale text) (places_read scale text) (gsrc_refusal source)) (said-one (PlacesStandFor scale text) (places_read scale text) (gsrc_refusal source) (place_laws.read_from_stands scale text)))

  -- and a YAL file for parts
  yal-one : (scale : ℕ) (name : List ℕ) → GivesOne contents.may_fail (YalRead (Some contents) scale name)
  yal-one scale name =
      then-one (TextRead (Some contents) name) (λ text. Said (yals.StandsFor scale text) (yal_read scale text) yal_refusal) (text-one contents name)
      (λ text. once (Said (yals.StandsFor scale text) (yal_read scale text) yal_refusal) (said-one (yals.StandsFor scale text) (yal_read scale text) yal_refusal (yal_laws.read_from_stands scale text)))

  -- the weights of so many nets are one list
  weights-one : (weights : Option (List ℕ)) (nets : ℕ) → GivesOne contents.may_fail (WeightsRead (Some contents) weights nets)
  weights-one None nets r s a b told = a ∙ sym b
  weights-one (Some name) nets r s a b told =
      then-one (TextRead (Some contents) name) (λ text. Said (WeightsStandFor text nets) (weights_read nets text) weight_refusal) (text-one contents name)
      (λ text. once (Said (WeightsStandFor text nets) (weights_read nets text) weight_refusal) (said-one (WeightsStandFor text nets) (weights_read nets text) weight_refusal (weight_laws.read_from_stands text nets))) r s a b told

  -- parts with weights are one value
  weighed-one : (net_weights : List ℕ) (parts : Parts) → GivesOne contents.may_fail (Weighed net_weights parts)
  weighed-one net_weights parts r s a b told = a ∙ sym b

  -- GSRC files that are joined give one value with these weights, or have one fault
  joined-one : (blocks : GsrcBlocks) (nets : Option GsrcNets) (places : Option GsrcPlaces) (net_weights : List ℕ) → GivesOne contents.may_fail (JoinedRead blocks nets places net_weights)
  joined-one blocks nets places net_weights =
      then-one (Judged (joined blocks nets places) join_refusal) (Weighed net_weights) (once (Judged (joined blocks nets places) join_refusal) (judged-one (joined blocks nets places) join_refusal)) (weighed-one net_weights)

  -- so they do with the weights that are read
  weighed-read-one : (weights : Option (List ℕ)) (blocks : GsrcBlocks) (nets : Option GsrcNets) (places : Option GsrcPlaces) → GivesOne contents.may_fail (WeighedRead (Some contents) weights blocks nets places)
  weighed-read-one weights blocks nets places =
      then-one (WeightsRead (Some contents) weights (length (nets_in nets))) (JoinedRead blocks nets places) (weights-one weights (length (nets_in nets))) (joined-one blocks nets places)

  -- with the places that are read before
  placed-one : (scale : ℕ) (pl weights : Option (List ℕ)) (blocks : GsrcBlocks) (nets : Option GsrcNets) → GivesOne contents.may_fail (PlacedRead (Some contents) scale pl weights blocks nets)
  placed-one scale pl weights blocks nets =
      then-one (IfNamed (PlacesRead (Some contents) (codes "pl") scale) pl) (WeighedRead (Some contents) weights blocks nets)
      (named-one (PlacesRead (Some contents) (codes "pl") scale) (places-one (codes "pl") scale) pl) (weighed-read-one weights blocks nets)

  -- and with the nets that are read before these
  wired-one : (scale : ℕ) (nets pl weights : Option (List ℕ)) (blocks : GsrcBlocks) → GivesOne contents.may_fail (WiredRead (Some contents) scale nets pl weights blocks)
  wired-one scale nets pl weights blocks =
      then-one (IfNamed (NetsRead (Some contents)) nets) (PlacedRead (Some contents) scale pl weights blocks) (named-one (NetsRead (Some contents)) nets-one nets) (placed-one scale pl weights blocks)

  -- a YAL file with weights gives one value
  yal-weighed-one : (scale : ℕ) (file : List ℕ) (weights : Option (List ℕ)) → GivesOne contents.may_fail (YalWeighed (Some contents) scale file weights)
  yal-weighed-one scale file weights =
      then-one (YalRead (Some contents) scale file) (λ parts. Then (WeightsRead (Some contents) weights (length parts.nets)) (λ net_weights. Weighed net_weights parts)) (yal-one scale file)
      (λ parts. then-one (WeightsRead (Some contents) weights (length parts.nets)) (λ net_weights. Weighed net_weights parts) (weights-one weights (length parts.nets)) (λ net_weights. weighed-one net_weights parts))

  -- so the files of a design give one value, whatever their format is
  parts-one : (scale : ℕ) (input : Input) (weights : Option (List ℕ)) → GivesOne contents.may_fail (PartsRead (Some contents) scale input weights)
  parts-one scale (gsrc blocks nets pl) weights =
      then-one (BlocksRead (Some contents) scale blocks) (WiredRead (Some contents) scale nets pl weights) (blocks-one scale blocks) (wired-one scale nets pl weights)
  parts-one scale (yal file) weights = yal-weighed-one scale file weights

  -- parts are admitted, or refused for one fault
  admitted-one : (read : WeighedParts) → AtMostOne (Admitted read)
  admitted-one read (Ok x) (Ok y) a b = ap Ok (a.0 ∙ sym b.0)
  admitted-one read (Ok x) (Err w) a b = let e : None ≡ Some b.0 = sym a.1 ∙ b.1 in absurd (cc)
  admitted-one read (Err v) (Ok y) a b = let e : None ≡ Some a.0 = sym b.1 ∙ a.1 in absurd (cc)
  admitted-one read (Err v) (Err w) a b =
      let same : a.0 ≡ b.0 = (let e : Some a.0 ≡ Some b.0 = sym a.1 ∙ b.1 in cc) in
      ap Err (a.2 ∙ ap build_refusal same ∙ sym b.2)

  -- so the files give one value that is admitted
  pub parts-admitted-one : (o : DesignOptions) (w : WeightOptions) → GivesOne contents.may_fail (PartsAdmitted (Some contents) o w)
  parts-admitted-one o w =
      then-one (PartsRead (Some contents) o.per_unit o.input w.net_weights) Admitted (parts-one o.per_unit o.input w.net_weights) (λ read. once (Admitted read) (admitted-one read))

-- ---- the design

-- a design has a shape for each block
no-empty : (blocks : List RawBlock) (lists : List (List Shape)) → All (λ (b : Block). 1 ≤ length b.shapes) (design_blocks blocks lists) → first_shapeless blocks lists ≡ None
no-empty [] lists all = refl
no-empty (b ∷ bs) [] all = refl
no-empty (b ∷ bs) ([] ∷ ls) all = let some = all 0 (record { name = []; shapes = [] }) (omega arith) in absurd (omega arith)
no-empty (b ∷ bs) ((s ∷ ss) ∷ ls) all = no-empty bs ls (λ i d low. all (suc i) d (omega arith))

module _ (o : DesignOptions) (w : WeightOptions) (read : WeighedParts) where
  -- each block of a design that is built has a shape
  shaped : (lists : List (List Shape)) (design : Design) → Built o w read lists (Ok design) → first_shapeless read.parts.blocks lists ≡ None
  shaped lists design built =
      let each : All (λ (b : Block). 1 ≤ length b.shapes) design.blocks = λ i d low. (design.limits.shapes i d low).some in
      no-empty read.parts.blocks lists (subst (λ (bs : List Block). All (λ (b : Block). 1 ≤ length b.shapes) bs) built.blocks each)

  -- lists of which a design is built leave no block without a shape
  not-both : (lists : List (List Shape)) (design : Design) (why : Refusal) → AreListsOf o.shapes o.is_fixed read.parts.blocks lists → Built o w read lists (Ok design) → ListsMade o read.parts (Err why) → ⊥
  not-both lists design why all built none =
      let empty = fault-empty o.shapes o.is_fixed read.parts.blocks lists none.0 all none.1 in
      let full : option_map NoShape (first_shapeless read.parts.blocks lists) ≡ None = ap (option_map NoShape) (shaped lists design built) in
      let e : None ≡ Some none.0 = sym full ∙ empty in absurd (cc)

  -- the same lists give the same design
  built-one : (r s : Result Design Refusal) (xs ys : List (List Shape)) → xs ≡ ys → Built o w read xs r → Built o w read ys s → r ≡ s
  built-one (Ok d) (Ok e) xs ys same p q = ap Ok (determined read.parts ys (outline_of o) (weights_of w) read.net_weights d e (subst (λ (ls : List (List Shape)). Built o w read ls (Ok d)) same p) q)
  built-one (Ok d) (Err why) xs ys same p q = absurd q
  built-one (Err why) s xs ys same p q = absurd p

  -- so admitted parts are not built and refused at once
  clash : (r : Result Design Refusal) (lists : List (List Shape)) (why : Refusal) → AreListsOf o.shapes o.is_fixed read.parts.blocks lists → Built o w read lists r → ListsMade o read.parts (Err why) → ⊥
  clash (Ok d) lists why all built none = not-both lists d why all built none
  clash (Err v) lists why all built none = built

  -- admitted parts become one design, or are refused for one block
  pub made-one : AtMostOne (DesignMade o w read)
  made-one r s a b =
      elim a [
        | inl m ↦ elim b [
          | inl n ↦ built-one r s m.0 n.0 (all-lists o.shapes o.is_fixed read.parts.blocks m.0 n.0 m.1 n.1) m.2 n.2
          | inr n ↦ absurd (clash r m.0 n.0 m.1 m.2 n.1)
        ]
        | inr m ↦ elim b [
          | inl n ↦ absurd (clash s n.0 m.0 n.1 n.2 m.1)
          | inr n ↦ (let same = one-fault o.shapes o.is_fixed read.parts.blocks m.1.0 n.1.0 m.1.1 n.1.1 in
              m.2 ∙ ap Err (m.1.2 ∙ ap build_refusal same ∙ sym n.1.2) ∙ sym n.2)
        ]
      ]

  -- a block for each block that was read
  names-kept : (blocks : List RawBlock) (lists : List (List Shape)) → length lists ≡ length blocks → map (λ (b : Block). b.name) (design_blocks blocks lists) ≡ map (λ (b : RawBlock). b.name) blocks
  names-kept [] lists e = refl
  names-kept (b ∷ bs) [] e = absurd (omega arith)
  names-kept (b ∷ bs) (l ∷ ls) e = ap (λ ns. b.name ∷ ns) (names-kept bs ls (omega arith))

  -- the design has the blocks of the parts
  pub made-blocks : (design : Design) → DesignMade o w read (Ok design) → HasBlocksOf read.parts.blocks design
  made-blocks design made =
      elim made [
        | inl m ↦ record { count = m.2.block_count; names = ap (map (λ (b : Block). b.name)) m.2.blocks ∙ names-kept read.parts.blocks m.0 m.1.one_each }
        | inr m ↦ (let e = m.2 in absurd (cc))
      ]

-- the files stand for one design, or are refused for one reason
pub design-one : (contents : Contents) (o : DesignOptions) (w : WeightOptions) → GivesOne contents.may_fail (DesignRead (Some contents) o w)
design-one contents o w = then-one (PartsAdmitted (Some contents) o w) (DesignMade o w) (parts-admitted-one contents o w) (λ read. once (DesignMade o w read) (made-one o w read))

-- a count is within its limit or past it
pub count-one : (is_long : Bool) (count blocks : ℕ) → AtMostOne (CountTested is_long count blocks)
count-one is_long count blocks (Ok x) (Ok y) a b = ap Ok (a.0 ∙ sym b.0)
count-one is_long count blocks (Ok x) (Err w) a b = let within = a.1 b.0 in let over = b.1 in absurd (omega arith)
count-one is_long count blocks (Err v) (Ok y) a b = let within = b.1 a.0 in let over = a.1 in absurd (omega arith)
count-one is_long count blocks (Err v) (Err w) a b = ap Err (a.2 ∙ sym b.2)

-- so admitted parts become one design within its budget, or are refused for one reason
pub budgeted-one : {any : Bool} (o : PlanOptions) (read : WeighedParts) → GivesOne any (BudgetedDesign o read)
budgeted-one o read =
    then-one (BudgetTested o.is_long o.nodes (length read.parts.blocks)) (λ budget. DesignMade o.design o.weights read)
    (once (BudgetTested o.is_long o.nodes (length read.parts.blocks)) (count-one o.is_long (budget_of o.nodes (length read.parts.blocks)) (length read.parts.blocks)))
    (λ budget. once (DesignMade o.design o.weights read) (made-one o.design o.weights read))

-- ---- the blocks

-- parts that are admitted are those that were read
pub admitted-parts : (contents : Contents) (o : DesignOptions) (w : WeightOptions) (read other : WeighedParts) → PartsRead (Some contents) o.per_unit o.input w.net_weights (Ok read) → PartsAdmitted (Some contents) o w (Ok other) → other ≡ read
admitted-parts contents o w read other said admitted =
    elim admitted [
      | inl m ↦ m.2.0 ∙ same-value (PartsRead (Some contents) o.per_unit o.input w.net_weights) (parts-one contents o.per_unit o.input w.net_weights) m.0 read m.1 said
      | inr m ↦ (let e = m.2 in absurd (cc))
    ]

-- a design that is read has the blocks that its files name
pub design-blocks : (contents : Contents) (o : DesignOptions) (w : WeightOptions) (read : WeighedParts) (design : Design) → PartsRead (Some contents) o.per_unit o.input w.net_weights (Ok read) → DesignRead (Some contents) o w (Ok design)
    → HasBlocksOf read.parts.blocks design
design-blocks contents o w read design said stands =
    elim stands [
      | inl m ↦ subst (λ (p : WeighedParts). HasBlocksOf p.parts.blocks design) (admitted-parts contents o w read m.0 said m.1) (made-blocks o w m.0 design m.2)
      | inr m ↦ (let e = m.2 in absurd (cc))
    ]

-- a design within its budget is made
pub budgeted-made : (o : PlanOptions) (read : WeighedParts) (design : Design) → BudgetedDesign o read (Ok design) → DesignMade o.design o.weights read (Ok design)
budgeted-made o read design h = elim h [ inl m ↦ m.2 | inr m ↦ (let e = m.2 in absurd (cc)) ]

-- joining keeps the blocks
placed-by : (twice : Option (List ℕ)) (made parts : Parts) → placed_once twice made ≡ Ok parts → parts ≡ made
placed-by None made parts e = cc
placed-by (Some name) made parts e = absurd (cc)

-- whatever is joined to them, the blocks stay
kept-by : (out : GsrcBlocks) (nets : Option GsrcNets) (places : Option GsrcPlaces) (parts : Parts) → joined out nets places ≡ Ok parts → parts.blocks ≡ out.blocks
kept-by out nets None parts e = let same = placed-by None (numbered (unplaced_parts out (nets_in nets))) parts e in ap (λ (p : Parts). p.blocks) same
kept-by out nets (Some places) parts e =
    ap (λ (p : Parts). p.blocks) (placed-by (first_twice (names_of places.places)) (numbered (placed_parts out (nets_in nets) places.places)) parts e)

-- a value that is judged is the function's
judged-ok : {X F : Type 0} (first : Result X F) (refusal : F → Refusal) (x : X) → Judged first refusal (Ok x) → first ≡ Ok x
judged-ok (Ok y) refusal x h = ap Ok (let e : Ok x ≡ Ok y = h in cc)
judged-ok (Err fault) refusal x h = absurd (cc)

-- so does weighing
joined-kept : (out : GsrcBlocks) (nets : Option GsrcNets) (places : Option GsrcPlaces) (net_weights : List ℕ) (read : WeighedParts) → JoinedRead out nets places net_weights (Ok read) → read.parts.blocks ≡ out.blocks
joined-kept out nets places net_weights read stands =
    elim stands [
      | inl m ↦ (let same : read ≡ record { parts = m.0; net_weights = net_weights } = (let e = m.2 in cc) in
          ap (λ (p : WeighedParts). p.parts.blocks) same ∙ kept-by out nets places m.0 (judged-ok (joined out nets places) join_refusal m.0 m.1))
      | inr m ↦ (let e = m.2 in absurd (cc))
    ]

-- the blocks of GSRC files are those of the blocks file
pub joined-blocks : (contents : Contents) (scale : ℕ) (name : List ℕ) (nets pl weights : Option (List ℕ)) (out : GsrcBlocks) (read : WeighedParts)
    → BlocksRead (Some contents) scale name (Ok out) → GsrcRead (Some contents) scale name nets pl weights (Ok read) → read.parts.blocks ≡ out.blocks
joined-blocks contents scale name nets pl weights out read said stands =
    elim stands [
      | inl m ↦ elim m.2 [
        | inl n ↦ elim n.2 [
          | inl k ↦ elim k.2 [
            | inl j ↦ joined-kept m.0 n.0 k.0 j.0 read j.2
                ∙ ap (λ (b : GsrcBlocks). b.blocks) (same-value (BlocksRead (Some contents) scale name) (blocks-one contents scale name) m.0 out m.1 said)
            | inr j ↦ (let e = j.2 in absurd (cc))
          ]
          | inr k ↦ (let e = k.2 in absurd (cc))
        ]
        | inr n ↦ (let e = n.2 in absurd (cc))
      ]
      | inr m ↦ (let e = m.2 in absurd (cc))
    ]
