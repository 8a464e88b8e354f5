-- Writing the spots of two plans one after the other.
use Rattle.std.proofs.Common.{◌≡◌, List, [], ◌∷◌, ◌++◌, refl}
use Rattle.sf_place.proofs.Common.{slice_set, Spot, with_spots}

-- spots are written one list after the other
pub placed_append : (old xs ys : List Spot) → with_spots old (xs ++ ys) ≡ with_spots (with_spots old xs) ys
placed_append old [] ys = refl
placed_append old (s ∷ ss) ys = placed_append (slice_set old s.block s) ss ys
