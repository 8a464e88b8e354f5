-- The commands and their options: what each takes, and how it is written.
use Rattle.std.specs.Prelude.{Bool, true, false, List, [], ◌∷◌, ◌++◌, codes}
use Rattle.sf_words.specs.declared.options.Mode.{Mode}
use Rattle.sf_words.specs.declared.options.Mode.TheVariants.{Plan, Check, Resume, Measure, Shape, Gen}
use Rattle.sf_words.specs.declared.options.Key.{Key}
use Rattle.sf_words.specs.declared.options.Key.TheVariants.{Format, Blocks, Nets, Pl, Yal, PerUnit, Fixed, Shapes, Outline, AreaWeight, WireWeight, NetWeights, Cert, CertOut, PlOut, Rewrite, Workers, Nodes, Long, Starts, Moves, StartSeed, Improve, Begin, Bounds, Placed, Expr, Seed, Count, Kinds, Out}
use Rattle.sf_options.specs.Options.{Text}

-- the word that names a command
unfoldable pub mode_text : Mode → Text
mode_text Plan = codes "plan"
mode_text Check = codes "check"
mode_text Resume = codes "resume"
mode_text Measure = codes "measure"
mode_text Shape = codes "shape"
mode_text Gen = codes "gen"

-- the commands
unfoldable pub modes : List Mode
modes = Plan ∷ Check ∷ Resume ∷ Measure ∷ Shape ∷ Gen ∷ []

-- an option's name, without its hyphens
unfoldable pub key_text : Key → Text
key_text Format = codes "format"
key_text Blocks = codes "blocks"
key_text Nets = codes "nets"
key_text Pl = codes "pl"
key_text Yal = codes "yal"
key_text PerUnit = codes "per-unit"
key_text Fixed = codes "fixed"
key_text Shapes = codes "shapes"
key_text Outline = codes "outline"
key_text AreaWeight = codes "area-weight"
key_text WireWeight = codes "wire-weight"
key_text NetWeights = codes "net-weights"
key_text Cert = codes "cert"
key_text CertOut = codes "cert-out"
key_text PlOut = codes "pl-out"
key_text Rewrite = codes "rewrite"
key_text Workers = codes "workers"
key_text Nodes = codes "nodes"
key_text Long = codes "long"
key_text Starts = codes "starts"
key_text Moves = codes "moves"
key_text StartSeed = codes "start-seed"
key_text Improve = codes "improve"
key_text Begin = codes "begin"
key_text Bounds = codes "bounds"
key_text Placed = codes "placed"
key_text Expr = codes "expr"
key_text Seed = codes "seed"
key_text Count = codes "count"
key_text Kinds = codes "kinds"
key_text Out = codes "out"

-- the options that take no value
unfoldable pub is_flag : Key → Bool
is_flag Fixed = true
is_flag Long = true
is_flag key = false

-- the options that tell a design
abbrev pub design_keys : List Key
design_keys = Format ∷ Blocks ∷ Nets ∷ Pl ∷ Yal ∷ PerUnit ∷ Fixed ∷ Shapes ∷ Outline ∷ []

-- the options that tell what counts in a cost
abbrev pub weight_keys : List Key
weight_keys = AreaWeight ∷ WireWeight ∷ NetWeights ∷ []

-- the options of each command
unfoldable pub keys_of : Mode → List Key
keys_of Plan = design_keys ++ (weight_keys ++ (Cert ∷ PlOut ∷ Workers ∷ Nodes ∷ Long ∷ Starts ∷ Moves ∷ StartSeed ∷ Improve ∷ Begin ∷ Bounds ∷ []))
keys_of Check = design_keys ++ (weight_keys ++ (Cert ∷ Rewrite ∷ Long ∷ Bounds ∷ []))
keys_of Resume = design_keys ++ (weight_keys ++ (Cert ∷ CertOut ∷ PlOut ∷ Workers ∷ Nodes ∷ Long ∷ Bounds ∷ []))
keys_of Measure = design_keys ++ (weight_keys ++ (Placed ∷ []))
keys_of Shape = design_keys ++ (Expr ∷ [])
keys_of Gen = Nodes ∷ Seed ∷ Count ∷ Kinds ∷ Out ∷ []
