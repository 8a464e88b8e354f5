-- What the frames of a path of tokens tell.
use Rattle.std.specs.Prelude.{◌≡◌, ◌≢◌, ℕ, ◌+◌, ◌-◌, ◌<◌, ◌≤◌, List, [], ◌∷◌, length, take, map, AllPairs, Option, sum_by, slice_index_or, slice_range}
use Rattle.sf_model.specs.declared.design.Design.{Design}
use Rattle.sf_model.specs.declared.parts.Shape.{Shape}
use Rattle.sf_model.specs.Legal.{block_count}
use Rattle.sf_model.specs.Tree.{Tree}
use Rattle.sf_polish.specs.declared.expr.Token.{Token}
use Rattle.sf_polish.specs.declared.expr.Token.TheVariants as token
use Rattle.sf_node.specs.Parts.{Parts}
use Rattle.sf_node.specs.Subproblem.{root}
use Rattle.sf_curves.specs.Points.{IsSlimmer}
use Rattle.sf_standard.specs.Items.{Item, Block, read, fitting}
use Rattle.sf_frames.specs.declared.frame.Frame.{Frame}
use Rattle.sf_frames.specs.declared.frame.Kept.{Kept}
use Rattle.sf_frames.specs.declared.least.Least.{Least}
use Rattle.sf_frames.specs.declared.stored.Stored.{Stored}
use Rattle.sf_frames.specs.Curves.{IsItemCurve}
use Rattle.sf_standard.specs.Standard.{plans_of}
use Rattle.sf_frames.specs.Sums.{IsLeastOrNone, AreSumsOrNone}

-- the subproblem of these tokens in which each block has its whole span
abbrev pub path : Design → List Token → Parts
path design tokens = record (root design) { tokens = tokens }

-- the items after the first k tokens, the last first
abbrev pub items_at : List Token → ℕ → List Item
items_at tokens k = read [] (take k tokens)

-- the fitting plans of an item with any of the blocks' shapes
abbrev pub ways : Design → Item → List Tree
ways design i = fitting design (root design) i

-- the plans of each item and unused block after the first k tokens
abbrev pub groups_at : Design → List Token → ℕ → List (List Tree)
groups_at design tokens k = plans_of design (path design (take k tokens))

-- the points of a curve that lies in the list of all points
abbrev pub points_of : List Shape → Kept → List Shape
points_of points k = slice_range points k.from k.to

-- how many points a kept curve has
abbrev pub point_count : Kept → ℕ
point_count k = k.to - k.from

-- these points are the curve of the item, and its least values are told
pub record IsKept (design : Design) (points : List Shape) (i : Item) (k : Kept) : Type 0 where
  pub order : k.from ≤ k.to
  pub inside : k.to ≤ length points
  pub curve : IsItemCurve design (root design) (points_of points k) i
  pub falls : AllPairs IsSlimmer (points_of points k)
  pub least : IsLeastOrNone (ways design i) k.least

-- each block's whole curve is kept among the first points
pub record AreWhole (design : Design) (points : List Shape) (blocks : List Kept) (whole : ℕ) : Type 0 where
  pub few : length blocks ≤ block_count design
  pub room : whole ≤ length points
  pub tight : whole ≡ sum_by point_count blocks
  pub each : (b : ℕ) (d : Kept) → b < length blocks → IsKept design points (Block b) (slice_index_or blocks b d) × ((slice_index_or blocks b d).to ≤ whole)

-- the frame of the k-th token tells the item on top after k tokens; what lies under it are the items after fewer tokens
pub record IsFrame (design : Design) (tokens : List Token) (points : List Shape) (whole k : ℕ) (f : Frame) : Type 0 where
  pub item : Item
  pub top : items_at tokens k ≡ item ∷ items_at tokens f.below
  pub fewer : f.below < k
  pub kept : IsKept design points item f.curve
  pub inside : f.curve.to ≤ f.end
  pub after : whole ≤ f.end
  pub end : f.end ≤ length points
  pub sums : AreSumsOrNone (groups_at design tokens k) f.sums

-- the token that made a frame
abbrev pub token_of : Frame → Token
token_of f = f.token

-- how many points were made for a token: none for a block, whose curve is there
abbrev pub made_for : Token → Kept → ℕ
made_for (token.Block b) k = 0
made_for token.Beside k = point_count k
made_for token.Above k = point_count k

-- how many points a frame added
abbrev pub added : Frame → ℕ
added f = made_for f.token f.curve

-- how many points the whole curves and these frames have
abbrev pub needed : ℕ → List Frame → ℕ
needed whole frames = whole + sum_by added frames

-- the frames of the first tokens, in their order, with no point between theirs
pub record AreFrames (design : Design) (tokens : List Token) (points : List Shape) (whole : ℕ) (frames : List Frame) : Type 0 where
  pub few : length frames ≤ length tokens
  pub are : map token_of frames ≡ take (length frames) tokens
  pub each : (k : ℕ) (d : Frame) → k < length frames → IsFrame design tokens points whole (k + 1) (slice_index_or frames k d)
  pub ends : AllPairs (λ f g. f.end ≤ g.end) frames
  pub tight : (k : ℕ) (d : Frame) → k < length frames → (slice_index_or frames k d).end ≡ needed whole (take (k + 1) frames)

-- the whole curves and the frames
pub record IsStored (design : Design) (tokens : List Token) (points : List Shape) (blocks : List Kept) (whole : ℕ) (frames : List Frame) : Type 0 where
  pub wholes : AreWhole design points blocks whole
  pub frames_are : AreFrames design tokens points whole frames

-- the same, as the code holds it
abbrev pub IsStoredIn : Design → List Token → Stored → Type 0
IsStoredIn design tokens s = IsStored design tokens s.points.items s.blocks.items s.whole s.frames.items

-- and of the path whose tokens have frames
abbrev pub IsStoredPath : Design → Stored → Type 0
IsStoredPath design s = IsStoredIn design (map token_of s.frames.items) s

-- no point is there but those that the whole curves and the frames need
abbrev pub IsTight : Stored → Type 0
IsTight s = length s.points.items ≡ needed s.whole s.frames.items

-- what stands for a token past the end of a list
abbrev pub no_token : Token
no_token = token.Beside

-- the first n tokens are those of both paths, and no more
pub record IsCommon (kept tokens : List Token) (n : ℕ) : Type 0 where
  pub within_kept : n ≤ length kept
  pub within_tokens : n ≤ length tokens
  pub same : take n kept ≡ take n tokens
  pub most : n < length kept → n < length tokens → slice_index_or kept n no_token ≢ slice_index_or tokens n no_token

-- the token that comes next after the first k
pub record IsNext (tokens : List Token) (k : ℕ) (t : Token) : Type 0 where
  pub more : k < length tokens
  pub token_is : slice_index_or tokens k no_token ≡ t

-- points that are put at the end
abbrev pub at_end : List Shape → List Shape → Option Least → Kept
at_end points made least = record { from = length points; to = length points + length made; least = least }

-- how many points the first frames need, beside the whole curves
pub record IsEndOf (frames : List Frame) (whole count e : ℕ) : Type 0 where
  pub none : count ≡ 0 → e ≡ whole
  pub last : (d : Frame) → 0 < count → (slice_index_or frames (count - 1) d).end ≡ e
