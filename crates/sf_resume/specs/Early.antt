-- Pieces that name no part but the area.
use Rattle.std.specs.Prelude.{All, IsFalse}
use Rattle.sf_pieces.specs.Naming.{is_late}
use Rattle.sf_pieces.specs.declared.piece.Piece.{Piece}

-- no tag of the piece names another part than the area
abbrev pub IsEarly : Piece → Type 0
IsEarly piece = All (λ t. IsFalse (is_late t)) piece.tags.items
