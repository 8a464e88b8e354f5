-- Paths from pad to pad by way of nets and blocks: which are legal, how far their ends are apart, and what they leave of the nets.
use Rattle.std.specs.Prelude.{◌≡◌, ℕ, ◌+◌, ◌-◌, ◌<◌, ◌≤◌, max, Bool, true, false, not, ◌&&◌, ◌==◌, nat_lt, IsTrue, List, [], ◌∷◌, length, map, take, zip, All, sum_by, count_by, flat_map, slice_index_or, ℤ, pos, negsuc, ◌-ℤ◌, ◌*ℤ◌, ◌≤ℤ◌}
use Rattle.std.specs.List.{list_all, list_any}
use Rattle.sf_model.specs.declared.parts.Net.{Net}
use Rattle.sf_model.specs.declared.parts.Pad.{Pad}
use Rattle.sf_model.specs.declared.parts.Pin.{Pin}
use Rattle.sf_model.specs.declared.parts.Pin.TheVariants as pin
use Rattle.sf_model.specs.declared.paths.Path.{Path}
use Rattle.sf_model.specs.declared.paths.Paths.{Paths}
use Rattle.sf_model.specs.declared.paths.Routes.{Routes}
use Rattle.sf_model.specs.declared.paths.Step.{Step}

-- the pad of a number
abbrev pub pad_in : List Pad → ℕ → Pad
pad_in pads p = slice_index_or pads p (record { name = []; x = pos 0; y = pos 0 })

-- the net of a number, and one without pins past the last
abbrev pub net_in : List Net → ℕ → Net
net_in nets i = slice_index_or nets i (record { pins = []; weight = 0 })

-- both are the same block, or the same pad
abbrev pub is_pin : Pin → Pin → Bool
is_pin (pin.Block b) (pin.Block c) = b == c
is_pin (pin.Pad p) (pin.Pad q) = p == q
is_pin (pin.Block b) (pin.Pad q) = false
is_pin (pin.Pad p) (pin.Block c) = false

-- the pin is among the pins
abbrev pub has_pin : List Pin → Pin → Bool
has_pin pins p = list_any (is_pin p) pins

-- the pin is that of a pad which is there
abbrev pub is_pad : List Pad → Pin → Bool
is_pad pads (pin.Block b) = false
is_pad pads (pin.Pad p) = nat_lt p (length pads)

-- the pin is that of a pad, whether it is there or not
abbrev pub names_pad : Pin → Bool
names_pad (pin.Block b) = false
names_pad (pin.Pad p) = true

-- the steps go by way of blocks to a pad
abbrev pub reach_pad : List Step → Bool
reach_pad [] = false
reach_pad (s ∷ []) = names_pad s.to
reach_pad (s ∷ t ∷ steps) = not (names_pad s.to) && reach_pad (t ∷ steps)

-- a path leads from a pad by way of blocks to a pad
abbrev pub leads : Path → Bool
leads path = names_pad path.first && reach_pad path.steps

-- each path of both axes does
abbrev pub all_lead : Paths → Bool
all_lead paths = list_all leads paths.across && list_all leads paths.upward

-- the pin before each step, with the step
abbrev pub hops : Path → List (Pin × Step)
hops path = zip (path.first ∷ map (λ s. s.to) path.steps) path.steps

-- the step's net is there, and has the pin before the step and the pin behind it
pub record IsHop (nets : List Net) (hop : Pin × Step) : Type 0 where
  pub there : hop.1.net < length nets
  pub before : IsTrue (has_pin (net_in nets hop.1.net).pins hop.0)
  pub behind : IsTrue (has_pin (net_in nets hop.1.net).pins hop.1.to)

-- where a walk from a pin ends
abbrev pub last_of : Pin → List Step → Pin
last_of p [] = p
last_of p (s ∷ ss) = last_of s.to ss

-- the pin where a path ends
abbrev pub end_of : Path → Pin
end_of path = last_of path.first path.steps

-- the path walks from a pad by way of blocks to a pad that doesn't stand before the first one, where pins stand along an axis as `at` says
pub record IsPath (at : Pin → ℤ) (pads : List Pad) (nets : List Net) (path : Path) : Type 0 where
  pub walked : All (IsHop nets) (hops path)
  pub leads : IsTrue (leads path)
  pub first : IsTrue (is_pad pads path.first)
  pub last : IsTrue (is_pad pads (end_of path))
  pub ahead : at path.first ≤ℤ at (end_of path)

-- how often paths use net i
abbrev pub uses : ℕ → List Path → ℕ
uses i paths = count_by (λ s. s.net == i) (flat_map (λ path. path.steps) paths)

-- the paths of one axis: each walks ahead from pad to pad, and they use no net more often than its weight
pub record ArePathsOfAxis (at : Pin → ℤ) (pads : List Pad) (nets : List Net) (paths : List Path) : Type 0 where
  pub each : All (IsPath at pads nets) paths
  pub spare : (i : ℕ) → i < length nets → uses i paths ≤ (net_in nets i).weight

-- where a pad stands across, doubled
abbrev pub pad_x : List Pad → Pin → ℤ
pad_x pads (pin.Block b) = pos 0
pad_x pads (pin.Pad p) = pos 2 *ℤ (pad_in pads p).x

-- the same upward
abbrev pub pad_y : List Pad → Pin → ℤ
pad_y pads (pin.Block b) = pos 0
pad_y pads (pin.Pad p) = pos 2 *ℤ (pad_in pads p).y

-- legal paths
pub record AreLegal (pads : List Pad) (nets : List Net) (paths : Paths) : Type 0 where
  pub across : ArePathsOfAxis (pad_x pads) pads nets paths.across
  pub upward : ArePathsOfAxis (pad_y pads) pads nets paths.upward

-- the first n paths, those across first
abbrev pub first_paths : ℕ → Paths → Paths
first_paths n paths = record { across = take n paths.across; upward = take (n - length paths.across) paths.upward }

-- the paths before number n are legal, and with it they are not
pub record IsFirstWrong (pads : List Pad) (nets : List Net) (paths : Paths) (n : ℕ) : Type 0 where
  pub before : AreLegal pads nets (first_paths n paths)
  pub wrong : ¬ (AreLegal pads nets (first_paths (n + 1) paths))

-- the number, or 0 below 0
abbrev pub to_nat : ℤ → ℕ
to_nat (pos n) = n
to_nat (negsuc n) = 0

-- how far a path's end lies behind its beginning, or 0 where it lies before it
abbrev pub pull : (Pin → ℤ) → Path → ℕ
pull at path = to_nat (at (end_of path) -ℤ at path.first)

-- how far the ends of all paths are apart, each along its axis, doubled
abbrev pub path_wires : List Pad → Paths → ℕ
path_wires pads paths = sum_by (pull (pad_x pads)) paths.across + sum_by (pull (pad_y pads)) paths.upward

-- of nets from number i on, what neither axis uses of the weight of each
abbrev pub left_from : ℕ → Paths → List Net → List ℕ
left_from i paths [] = []
left_from i paths (net ∷ nets) = (net.weight - max (uses i paths.across) (uses i paths.upward)) ∷ left_from (i + 1) paths nets

-- no paths
abbrev pub no_paths : Paths
no_paths = record { across = []; upward = [] }

-- legal paths, with what follows from them
pub record AreRoutes (pads : List Pad) (nets : List Net) (routes : Routes) : Type 0 where
  pub legal : AreLegal pads nets routes.paths
  pub left_is : routes.left ≡ left_from 0 routes.paths nets
  pub wires_are : routes.wires ≡ path_wires pads routes.paths
