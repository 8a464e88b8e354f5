-- The nets as the code finds them, signal by signal.
use Rattle.std.specs.Prelude.{ℕ, zero, suc, ◌+◌, ◌-◌, Bool, false, ◌==◌, List, [], ◌∷◌, ◌++◌, length, map, fold, Option, Some, None, if◌then◌else◌, slice_get}
use Rattle.sf_lex.specs.Text.{words, is_blank_byte}
use Rattle.sf_parts.specs.declared.raw.RawNet.{RawNet}
use Rattle.sf_parts.specs.declared.raw.RawPin.{RawPin}
use Rattle.sf_parts.specs.declared.raw.RawPin.TheVariants as pins
use Rattle.sf_yal.specs.declared.instance.Instance as code
use Rattle.sf_yal.specs.declared.nets.Used as kept
use Rattle.sf_names.specs.Names.{index_of}
use Rattle.sf_yal.specs.Nets.{pad_pins}

-- the signals so far, and the net of each
pub record Uses : Type 0 where
  pub signals : List (List ℕ)
  pub nets : List RawNet

-- no signals
abbrev pub nothing_used : Uses
nothing_used = record { signals = []; nets = [] }

-- the pin is this instance
abbrev pub is_block : ℕ → RawPin → Bool
is_block n (pins.Named name) = false
is_block n (pins.Block m) = m == n
is_block n (pins.Pad m) = false

-- there is a pin, and it is this instance
abbrev pub is_some_block : ℕ → Option RawPin → Bool
is_some_block n None = false
is_some_block n (Some pin) = is_block n pin

-- the last pin is this instance
abbrev pub ends_with : ℕ → List RawPin → Bool
ends_with n some = is_some_block n (slice_get some (length some - 1))

-- the instance is a pin, once
abbrev pub with_pin : ℕ → List RawPin → List RawPin
with_pin n some = if ends_with n some then some else some ++ pins.Block n ∷ []

-- the same of a net
abbrev pub with_net_pin : ℕ → RawNet → RawNet
with_net_pin n net = record { pins = with_pin n net.pins }

-- the same of the net at a place
abbrev pub with_pin_at : ℕ → ℕ → List RawNet → List RawNet
with_pin_at n k [] = []
with_pin_at n zero (net ∷ more) = with_net_pin n net ∷ more
with_pin_at n (suc k) (net ∷ more) = net ∷ with_pin_at n k more

-- a net more, which begins with this instance
abbrev pub net_opened : ℕ → List ℕ → Uses → Uses
net_opened n signal u = record { signals = u.signals ++ signal ∷ []; nets = u.nets ++ record { pins = pins.Block n ∷ [] } ∷ [] }

-- instance n names the signal, which stands at this place or is new
abbrev pub used_at : ℕ → Uses → List ℕ → Option ℕ → Uses
used_at n u signal None = net_opened n signal u
used_at n u signal (Some k) = record { signals = u.signals; nets = with_pin_at n k u.nets }

-- instance n names the signal
abbrev pub used_once : ℕ → Uses → List ℕ → Uses
used_once n u signal = used_at n u signal (index_of signal u.signals)

-- it names these signals
abbrev pub used_all : ℕ → Uses → List (List ℕ) → Uses
used_all n u signals = fold (used_once n) u signals

-- the instances from number n on name these signals
abbrev pub used_by : ℕ → Uses → List (List (List ℕ)) → Uses
used_by n u [] = u
used_by n u (signals ∷ more) = used_by (n + 1) (used_all n u signals) more

-- a net with the pad of its signal's name
abbrev pub with_pad : List (List ℕ) → List ℕ → RawNet → RawNet
with_pad pad_names signal net = record { pins = net.pins ++ pad_pins (index_of signal pad_names) }

-- the same, where there is such a signal
abbrev pub with_pad_of : List (List ℕ) → Option (List ℕ) → RawNet → RawNet
with_pad_of pad_names None net = net
with_pad_of pad_names (Some signal) net = with_pad pad_names signal net

-- the nets of these signals with their pads; further nets stay
abbrev pub with_pads : List (List ℕ) → List (List ℕ) → List RawNet → List RawNet
with_pads pad_names [] nets = nets
with_pads pad_names (signal ∷ more) [] = []
with_pads pad_names (signal ∷ more) (net ∷ nets) = with_pad pad_names signal net ∷ with_pads pad_names more nets

-- ---- what the code keeps

-- the signals and nets that the code keeps
abbrev pub used_in : kept.Used → Uses
used_in used = record { signals = used.signals; nets = used.nets.items }

-- the signals of the instances that it keeps
abbrev pub signals_in : List code.Instance → List (List (List ℕ))
signals_in items = map (λ (i : code.Instance). words is_blank_byte i.signals.now) items
