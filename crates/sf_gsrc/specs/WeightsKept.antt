-- What the reader keeps of the lines of a weights file.
use Rattle.std.specs.Prelude.{◌≡◌, ℕ, List, [], ◌∷◌, ◌++◌, map, Option, Result, Ok, Err}
use Rattle.std.specs.List.{range_with_len}
use Rattle.sf_gsrc.specs.declared.fault.WeightFault.{WeightFault}
use Rattle.sf_gsrc.specs.Weights.{NetWeight, weight_said, weight_after, weights_from}
use Rattle.sf_lex.specs.Scan.{Line}

-- for each net the weight that a line says of it
abbrev pub KeepsWeights : ℕ → List (Option ℕ) → List NetWeight → Type 0
KeepsWeights nets kept said = kept ≡ map (weight_said said) (range_with_len 0 nets)

-- a line was read, and its weight is kept; or it has this fault
abbrev pub TakesWeight : {T : Type 0} → Result T WeightFault → ℕ → List (Option ℕ) → List (Option ℕ) → Line → Type 0
TakesWeight (Ok x) nets old new line = (earlier : List NetWeight) → KeepsWeights nets old earlier
    → (said : NetWeight) × (weight_after nets earlier line ≡ Ok said) × KeepsWeights nets new (earlier ++ said ∷ [])
TakesWeight (Err fault) nets old new line = (earlier : List NetWeight) → KeepsWeights nets old earlier → weight_after nets earlier line ≡ Err fault

-- so are all lines, and what they say with what was said before is kept; or they have this fault
abbrev pub TakesWeights : {T : Type 0} → Result T WeightFault → ℕ → List (Option ℕ) → List (Option ℕ) → List Line → Type 0
TakesWeights (Ok x) nets old new lines = (earlier : List NetWeight) → KeepsWeights nets old earlier
    → (said : List NetWeight) × (weights_from nets earlier lines ≡ Ok said) × KeepsWeights nets new said
TakesWeights (Err fault) nets old new lines = (earlier : List NetWeight) → KeepsWeights nets old earlier → weights_from nets earlier lines ≡ Err fault
