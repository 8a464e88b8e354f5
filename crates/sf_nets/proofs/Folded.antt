-- The extent of some shapes, shape by shape.
use Rattle.std.proofs.Common.{◌≡◌, List, [], ◌∷◌, refl}
use Rattle.sf_nets.proofs.Common.{fold, Shape, Extent, extent_of, single_extent, with_shape, min, max}

-- the extent with more shapes has the least and greatest sides of all, one number after another
extent-from : (e : Extent) (ss : List Shape) → fold with_shape e ss ≡ (record {
  least_w = fold (λ n t. min n t.w) e.least_w ss;
  most_w = fold (λ n t. max n t.w) e.most_w ss;
  least_h = fold (λ n t. min n t.h) e.least_h ss;
  most_h = fold (λ n t. max n t.h) e.most_h ss;
})
extent-from e [] = refl
extent-from e (s ∷ ss) = extent-from (with_shape e s) ss

-- the extent of one shape, taken on by the others one after another, is the extent of all
pub extent_folded : (s : Shape) (ss : List Shape) → fold with_shape (single_extent s) ss ≡ extent_of (s ∷ ss)
extent_folded s ss = extent-from (single_extent s) ss
