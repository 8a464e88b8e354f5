-- A floorplan has few leaves, of which no side is too long.
use Rattle.std.proofs.Common.{◌<◌, ◌≤◌, ℕ, [], arith}
use Rattle.sf_subsets.proofs.Common.{All-contains, Contains, Design, Shape, Tree, block_count, leaves, shapes_of, AllByRecursion, recursion_from_All, each-left, each-right, IsSide, Leaf, Beside, Above, HasSides, leaf_count, IsLegal}
use Rattle.sf_place.proofs.ByNumber.{plan-leaves}

-- it has few leaves
pub legal-few : (design : Design) (tree : Tree) → IsLegal design tree → leaf_count tree ≤ 320
legal-few design tree h = omega (arith, plan-leaves (block_count design) tree h.blocks, design.limits.few_blocks)

-- leaves of the design's blocks, in shapes of their lists, have sides that keep the limit
sided : (design : Design) (t : Tree) → AllByRecursion (λ leaf. leaf.0 < block_count design) (leaves t) → AllByRecursion (λ leaf. Contains (shapes_of design leaf.0) leaf.1) (leaves t) → HasSides t
sided design (Leaf b s) below listed =
    All-contains (λ z. IsSide z.w × IsSide z.h) (shapes_of design b) s (design.limits.shapes b (record { name = []; shapes = [] }) below.0).choice.sides listed.0
sided design (Beside l r) below listed =
    let P : ℕ × Shape → Type 0 = λ leaf. leaf.0 < block_count design in
    let Q : ℕ × Shape → Type 0 = λ leaf. Contains (shapes_of design leaf.0) leaf.1 in
    (sided design l (each-left P (leaves l) (leaves r) below) (each-left Q (leaves l) (leaves r) listed), sided design r (each-right P (leaves l) (leaves r) below) (each-right Q (leaves l) (leaves r) listed))
sided design (Above l r) below listed =
    let P : ℕ × Shape → Type 0 = λ leaf. leaf.0 < block_count design in
    let Q : ℕ × Shape → Type 0 = λ leaf. Contains (shapes_of design leaf.0) leaf.1 in
    (sided design l (each-left P (leaves l) (leaves r) below) (each-left Q (leaves l) (leaves r) listed), sided design r (each-right P (leaves l) (leaves r) below) (each-right Q (leaves l) (leaves r) listed))

-- so has a floorplan
pub legal-sides : (design : Design) (tree : Tree) → IsLegal design tree → HasSides tree
legal-sides design tree h =
    sided design tree (recursion_from_All (λ leaf. leaf.0 < block_count design) (leaves tree) h.blocks.no_other)
    (recursion_from_All (λ leaf. Contains (shapes_of design leaf.0) leaf.1) (leaves tree) h.listed)
