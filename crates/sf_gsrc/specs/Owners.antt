-- Of what each name is.
use Rattle.std.specs.Prelude.{◌≡◌, ℕ, List, Option, Some, None}
use Rattle.std.specs.List.{position_from}
use Rattle.std.specs.Str.{bytes_eq}
use Rattle.sf_names.specs.Values.{value_in}
use Rattle.sf_gsrc.specs.declared.owners.Owner.{Owner}
use Rattle.sf_gsrc.specs.declared.owners.Owner.TheVariants.{Block, Pad, Both}
use Rattle.sf_gsrc.specs.declared.owners.Owners.{Owners}

-- the owner of the name of the block and of the pad at these places
abbrev pub owner_of : Option ℕ → Option ℕ → Option Owner
owner_of (Some b) None = Some (Block b)
owner_of None (Some p) = Some (Pad p)
owner_of (Some b) (Some p) = Some Both
owner_of None None = None

-- what is found under a name
abbrev pub owner_found : Owners → List ℕ → Option Owner
owner_found owners name = value_in owners.by_name name

-- of these blocks the first has the number i, and of these pads the first the number j
abbrev pub AreOwnersFrom : Owners → ℕ → List (List ℕ) → ℕ → List (List ℕ) → Type 0
AreOwnersFrom owners i blocks j pads = (name : List ℕ) → owner_found owners name ≡ owner_of (position_from (bytes_eq name) i blocks) (position_from (bytes_eq name) j pads)

-- the owner of each name, of all blocks and pads
abbrev pub AreOwners : Owners → List (List ℕ) → List (List ℕ) → Type 0
AreOwners owners blocks pads = AreOwnersFrom owners 0 blocks 0 pads
