-- The two directions are ways to join.
use Rattle.std.proofs.Common.{◌≡◌, List, ◌∷◌, [], refl}
use Rattle.sf_frames.proofs.Common.{Item, read, item_in, Direction, token_in, plan_in, size_in}
use Rattle.sf_curves.specs.declared.direction.Direction.TheVariants.{Beside, Above}
use Rattle.sf_frames.proofs.Joining.{IsWay, beside-way, above-way}

-- each direction is a way to join two rooms, on plans and on sizes
pub way_in : (d : Direction) → IsWay (item_in d) (plan_in d) (size_in d)
way_in Beside = beside-way
way_in Above = above-way

-- the operator joins the two items on top
pub read-joined : (d : Direction) (l r : Item) (rest : List Item) → read (r ∷ l ∷ rest) (token_in d ∷ []) ≡ item_in d l r ∷ rest
read-joined Beside l r rest = refl
read-joined Above l r rest = refl
