-- What pieces name that name no part but the area.
use Rattle.std.proofs.Common.{◌≡◌, ℕ, List, [], ◌∷◌, ◌++◌, All, arith, true, false, IsFalse}
use Rattle.sf_resume.proofs.Common.{AllByRecursion, recursion_from_All, Design, Part, Parts, root, walk, pending, Mark, Tag, Extend, Split, Closed, Open, IsFair, made, marks, Piece, marks_in, told_by, le-leb, each-both, NamesFirst, is_late, each-flat_map, IsEarly}
use Rattle.sf_node.specs.declared.part.Part.TheVariants.{Area, Range, Pair, Hull, Full}

-- the area is the first part of all
names-first : (part : Parts → Part → ℕ) (cost : ℕ) (tag : Tag) (node : Parts) → is_late tag ≡ false → IsFair part cost tag node → NamesFirst part cost tag node
names-first part cost Extend node early fair = tt
names-first part cost (Split b) node early fair = tt
names-first part cost (Closed Area) node early fair = let e = le-leb cost (part node Area) fair in grind (arith, e)
names-first part cost (Closed Range) node early fair = absurd cc
names-first part cost (Closed Pair) node early fair = absurd cc
names-first part cost (Closed Hull) node early fair = absurd cc
names-first part cost (Closed Full) node early fair = absurd cc
names-first part cost Open node early fair = tt

-- no mark is late where no tag is
marks-early : (nodes : List Parts) (tags : List Tag) → AllByRecursion (λ t. IsFalse (is_late t)) tags → AllByRecursion (λ m. IsFalse (is_late m.tag)) (marks nodes tags)
marks-early [] tags h = tt
marks-early (node ∷ nodes) [] h = tt
marks-early (node ∷ nodes) (tag ∷ tags) h = (h.0, marks-early (made tag node ++ nodes) tags h.1)

-- the marks of each early piece
each-early : (design : Design) (pieces : List Piece) → AllByRecursion IsEarly pieces → AllByRecursion (λ p. AllByRecursion (λ m. IsFalse (is_late m.tag)) (marks_in design p)) pieces
each-early design [] h = tt
each-early design (p ∷ ps) h =
    (marks-early (pending design true (walk (root design) p.first.items)) p.tags.items (recursion_from_All (λ t. IsFalse (is_late t)) p.tags.items h.0), each-early design ps h.1)

-- where what early pieces say is fair, each closed subproblem names the first part
pub early-first : (design : Design) (part : Parts → Part → ℕ) (cost : ℕ) (pieces : List Piece) → All IsEarly pieces → AllByRecursion (λ m. IsFair part cost m.tag m.node) (told_by design pieces)
    → AllByRecursion (λ m. NamesFirst part cost m.tag m.node) (told_by design pieces)
early-first design part cost pieces early fair =
    let Early : Mark → Type 0 = λ m. IsFalse (is_late m.tag) in
    each-both Early (λ (m : Mark). IsFair part cost m.tag m.node) (λ m. NamesFirst part cost m.tag m.node) (λ m e f. names-first part cost m.tag m.node e f) (told_by design pieces)
    (each-flat_map Early (marks_in design) pieces (each-early design pieces (recursion_from_All IsEarly pieces early))) fair
