-- The nets: one for each distinct signal.
use Rattle.std.specs.Prelude.{ℕ, ◌+◌, List, [], ◌∷◌, ◌++◌, map, fold, Option, Some, None, if◌then◌else◌}
use Rattle.sf_parts.specs.declared.raw.RawNet.{RawNet}
use Rattle.sf_parts.specs.declared.raw.RawPin.{RawPin}
use Rattle.sf_parts.specs.declared.raw.RawPin.TheVariants as pins
use Rattle.sf_names.specs.Names.{index_of, has_name}

-- the signals in the order of their first use, each once
abbrev pub with_signal : List (List ℕ) → List ℕ → List (List ℕ)
with_signal seen signal = if has_name signal seen then seen else seen ++ signal ∷ []

-- the same of some signals
abbrev pub with_signals : List (List ℕ) → List (List ℕ) → List (List ℕ)
with_signals seen signals = fold with_signal seen signals

-- all signals of the instances
abbrev pub signals_of : List (List (List ℕ)) → List (List ℕ)
signals_of uses = fold with_signals [] uses

-- the instances from number n on that name the signal
abbrev pub block_pins : List ℕ → ℕ → List (List (List ℕ)) → List RawPin
block_pins signal n [] = []
block_pins signal n (signals ∷ more) = if has_name signal signals then pins.Block n ∷ block_pins signal (n + 1) more else block_pins signal (n + 1) more

-- the pad of the signal's name
abbrev pub pad_pins : Option ℕ → List RawPin
pad_pins None = []
pad_pins (Some j) = pins.Pad j ∷ []

-- the net of a signal: the instances that name it, and the pad of its name
abbrev pub net_of : List (List (List ℕ)) → List (List ℕ) → List ℕ → RawNet
net_of uses pad_names signal = record { pins = block_pins signal 0 uses ++ pad_pins (index_of signal pad_names) }

-- a net for each distinct signal
abbrev pub nets_of : List (List (List ℕ)) → List (List ℕ) → List RawNet
nets_of uses pad_names = map (net_of uses pad_names) (signals_of uses)
