-- A stretch in hand, and the piece that it makes.
use Rattle.std.specs.Prelude.{◌≡◌, ℕ, ◌≤◌, ◌<◌, List, [], ◌∷◌, ◌++◌, length, map, Bool, true, Option}
use Rattle.sf_model.specs.declared.design.Design.{Design}
use Rattle.sf_polish.specs.declared.expr.Expr.{Expr}
use Rattle.sf_node.specs.declared.part.Part.{Part}
use Rattle.sf_node.specs.declared.part.PartValues.{PartValues}
use Rattle.sf_node.specs.declared.step.Step.{Step}
use Rattle.sf_node.specs.Parts.{Parts}
use Rattle.sf_node.specs.Subproblem.{root}
use Rattle.sf_node.specs.Children.{walk, IsSubproblem}
use Rattle.sf_node.specs.Later.{pending}
use Rattle.sf_search_core.specs.declared.entry.Entry.{Entry}
use Rattle.sf_certificate.specs.declared.mark.Mark.{Mark}
use Rattle.sf_certificate.specs.declared.tag.Tag.{Tag}
use Rattle.sf_certificate.specs.Marks.{made, marks, tag_of, waiting_after}
use Rattle.sf_certificate.specs.Named.{unnamed}
use Rattle.sf_certificate.specs.Valid.{least}
use Rattle.sf_cursor.specs.declared.stretch.Stretch.{Stretch}
use Rattle.sf_cursor.specs.Path.{Path, IsPath, beyond, waiting}
use Rattle.sf_cursor.specs.Stretches.{IsStretch, waits}
use Rattle.sf_incumbent.specs.Seen.{Knows}
use Rattle.sf_worker.specs.Tasks.{IsEntry, IsBest, Solves}
use Rattle.sf_pieces.specs.Naming.{AreKept}
use Rattle.sf_pieces.specs.Told.{open_mark}

-- where the walk stands, its floor, whether anything is not visited yet, the path to the first subproblem of the piece, the tags from there on, and what is kept to name their parts by
pub record HandView : Type 0 where
  pub path : Path
  pub floor : ℕ
  pub more : Bool
  pub first : List Step
  pub tags : List Tag
  pub kept : List PartValues

-- the subproblems that are not visited yet
abbrev pub left_of : Design → HandView → List Parts
left_of design hand = waiting design hand.floor hand.more hand.path.node

-- all that waits from the first subproblem on, also what is not the stretch's own
abbrev pub whole_of : Design → HandView → List Parts
whole_of design hand = pending design true (walk (root design) hand.first)

-- the subproblems that are visited, with their tags
abbrev pub marks_of : Design → HandView → List Mark
marks_of design hand = marks (whole_of design hand) hand.tags

-- the cursor is on the way, above the floor, the tags lead to it from the first subproblem on, and each stands at a subproblem
pub record IsHand (design : Design) (bound : Parts → ℕ) (hand : HandView) : Type 0 where
  pub at : IsPath design bound hand.path
  pub sub : IsSubproblem design (walk (root design) hand.first)
  pub above : hand.more ≡ true → hand.floor ≤ length hand.path.node.steps
  pub then : hand.more ≡ true → waiting_after (whole_of design hand) hand.tags ≡ pending design true hand.path.node
  pub read : map (λ (m : Mark). m.tag) (marks_of design hand) ≡ hand.tags

-- before the first visit
pub record IsStart (design : Design) (bound : Parts → ℕ) (stretch : Stretch) (hand : HandView) : Type 0 where
  pub hand_is : IsHand design bound hand
  pub left : left_of design hand ≡ waits design stretch
  pub node : hand.path.node ≡ stretch.cursor.node
  pub none : hand.tags ≡ []
  pub kept : hand.kept ≡ []
  pub more : hand.more ≡ true
  pub same : (hand.first ≡ stretch.cursor.node.steps) × (hand.floor ≡ stretch.floor)

-- the tag was put down, and what it makes comes next
pub record IsFollowed (design : Design) (bound : Parts → ℕ) (old : HandView) (tag : Tag) (new : HandView) : Type 0 where
  pub hand_is : IsHand design bound new
  pub marks_are : marks_of design new ≡ marks_of design old ++ record { node = old.path.node; tag = tag } ∷ []
  pub left : left_of design new ≡ made tag old.path.node ++ beyond old.floor (root design) old.path.node.steps
  pub same : (new.first ≡ old.first) × (new.floor ≡ old.floor)

-- what was left is what is left, and behind it what is given away
pub record IsParted (design : Design) (bound : Parts → ℕ) (old new : HandView) (given : Stretch) : Type 0 where
  pub hand_is : IsHand design bound new
  pub marks_are : marks_of design new ≡ marks_of design old
  pub kept : new.kept ≡ old.kept
  pub more : new.more ≡ true
  pub given_is : IsStretch design bound given
  pub cut : left_of design old ≡ left_of design new ++ waits design given

-- the subproblem that was next was visited: it is an entry, and its tag, but for the part that it names, tells that entry
pub record IsVisited (design : Design) (bound : Parts → ℕ) (part : Parts → Part → ℕ) (old : HandView) (seat : Knows) (new : HandView) (seat' : Knows) (best' : Option (Expr × ℕ)) : Type 0 where
  pub entry : Entry
  pub tag : Tag
  pub node : entry.node ≡ old.path.node
  pub is : IsEntry design bound entry
  pub fresh : seat'.seen ≤ entry.value
  pub told : unnamed tag ≡ tag_of entry.kind
  pub followed : IsFollowed design bound old tag new
  pub kept_parts : AreKept part seat.seen (marks_of design old) old.kept → AreKept part seat'.seen (marks_of design new) new.kept
  pub same : (seat'.word ≡ seat.word) × (seat'.parts ≡ seat.parts)
  pub falls : (seat'.seen ≤ seat.seen) × (seat'.offered ≤ seat.offered)
  pub best : IsBest design best' seat'.offered
  pub fell : seat'.offered < seat.offered → Solves design bound seat'.offered entry
  pub undercut : seat'.offered < seat.offered → seat'.offered < seat.seen

-- what was not visited is left open, and this is the least of a number and of the values there
pub record IsLeftOpen (design : Design) (bound : Parts → ℕ) (low : ℕ) (old new : HandView) (least_is : ℕ) : Type 0 where
  pub hand_is : IsHand design bound new
  pub marks_are : marks_of design new ≡ marks_of design old ++ map open_mark (left_of design old)
  pub kept : new.kept ≡ old.kept
  pub lowest : least_is ≡ least low (map bound (left_of design old))
