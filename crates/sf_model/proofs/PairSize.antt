-- The size of two blocks side by side, worked out by hand: one of 2 by 3 beside one of 3 by 2.
use Rattle.std.proofs.Common.{◌≡◌, ℕ, ◌*◌, refl}
use Rattle.sf_model.proofs.Common.{Shape, Tree, Leaf, Beside, width, height}

-- the shape of these sides
abbrev shape : ℕ → ℕ → Shape
shape w h = record { w = w; h = h }

-- the two blocks side by side
abbrev pair : Tree
pair = Beside (Leaf 0 (shape 2 3)) (Leaf 1 (shape 3 2))

-- 2 and 3 make a width of 5
pair-width : width pair ≡ 5
pair-width = refl

-- both are at most 3 high
pair-height : height pair ≡ 3
pair-height = refl

-- 5 by 3 make an area of 15
pair-area : width pair * height pair ≡ 15
pair-area = refl
