-- A certificate's tree, cut into what is decided and what is open.
use Rattle.std.specs.Prelude.{◌≡◌, ◌≢◌, ℕ, ◌<◌, List, [], ◌∷◌, ◌++◌, length, map, All, IsPermutation}
use Rattle.std.specs.List.{flat_map}
use Rattle.sf_model.specs.declared.design.Design.{Design}
use Rattle.sf_node.specs.Parts.{Parts}
use Rattle.sf_node.specs.Subproblem.{root}
use Rattle.sf_certificate.specs.declared.tag.Tag.{Tag}
use Rattle.sf_certificate.specs.declared.tag.Tag.TheVariants.{Open}
use Rattle.sf_certificate.specs.Marks.{marks}
use Rattle.sf_certificate.specs.Valid.{left_open}
use Rattle.sf_cursor.specs.declared.stretch.Stretch.{Stretch}
use Rattle.sf_cursor.specs.Stretches.{IsStretch, waits}
use Rattle.sf_pieces.specs.declared.piece.Piece.{Piece}
use Rattle.sf_pieces.specs.Told.{IsRead, open_mark, told_by}
use Rattle.sf_resume.specs.declared.cutting.Apart.{Apart}
use Rattle.sf_resume.specs.declared.reading.Reading.{Reading}
use Rattle.sf_resume.specs.Reading.{IsReadOn, opens}

-- the piece has the tags that were read, from the subproblem on that was next; none of them is open
pub record IsDecidedRun (design : Design) (bound : Parts → ℕ) (tags : List Tag) (old : Reading) (piece : Piece) (new : Reading) : Type 0 where
  pub read : IsReadOn design bound tags old piece.tags.items new
  pub first : piece.first.items ≡ old.cursor.node.steps
  pub some : 0 < length piece.tags.items
  pub decided : All (λ t. t ≢ Open) piece.tags.items

-- the stretch stands for the subproblems that were read, all of which are open
pub record IsOpenRun (design : Design) (bound : Parts → ℕ) (tags : List Tag) (old : Reading) (stretch : Stretch) (new : Reading) : Type 0 where
  pub stretch_is : IsStretch design bound stretch
  pub node : stretch.cursor.node ≡ old.cursor.node
  pub read : IsReadOn design bound tags old (opens (waits design stretch)) new

-- the stretches stand for the subproblems that the tree leaves open, in its order, and the pieces tell the others: with the open ones they are those of the tree with their tags
pub record IsApart (design : Design) (bound : Parts → ℕ) (tags : List Tag) (apart : Apart) : Type 0 where
  pub stretches : All (IsStretch design bound) apart.stretches.items
  pub open_are : flat_map (waits design) apart.stretches.items ≡ left_open (root design ∷ []) tags
  pub read : All (IsRead design) apart.pieces.items
  pub told : IsPermutation (told_by design apart.pieces.items ++ map open_mark (left_open (root design ∷ []) tags)) (marks (root design ∷ []) tags)
