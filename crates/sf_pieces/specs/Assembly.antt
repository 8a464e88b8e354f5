-- The law of pieces.
use Rattle.std.specs.Prelude.{◌≡◌, List, [], ◌∷◌, All, IsPermutation, IsSortedBy}
use Rattle.std.specs.Ordering.{is_lt}
use Rattle.sf_model.specs.declared.design.Design.{Design}
use Rattle.sf_node.specs.Children.{IsSubproblem}
use Rattle.sf_node.specs.Order.{steps_cmp}
use Rattle.sf_node.specs.Subproblem.{root}
use Rattle.sf_certificate.specs.declared.mark.Mark.{Mark}
use Rattle.sf_certificate.specs.declared.tag.Tag.{Tag}
use Rattle.sf_certificate.specs.Marks.{marks, MaySplit}
use Rattle.sf_pieces.specs.declared.piece.Piece.{Piece}
use Rattle.sf_pieces.specs.Told.{told_by}

-- a subproblem of the design, with a tag that may stand there
abbrev pub IsGood : Design → Mark → Type 0
IsGood design m = IsSubproblem design m.node × MaySplit m.tag m.node

-- pieces in the order of their first paths
abbrev pub AreInOrder : List Piece → Type 0
AreInOrder pieces = IsSortedBy (λ p q. is_lt (steps_cmp p.first.items q.first.items)) pieces

-- pieces with just the subproblems of a tree, each with its tag, are the tree in preorder when they stand in the order of their first paths
abbrev pub PiecesMakeTrees : Type 0
PiecesMakeTrees =
    (design : Design) (tags : List Tag) (pieces : List Piece)
    → All (IsGood design) (marks (root design ∷ []) tags) → All (IsGood design) (told_by design pieces)
    → AreInOrder pieces → IsPermutation (marks (root design ∷ []) tags) (told_by design pieces)
    → told_by design pieces ≡ marks (root design ∷ []) tags
