-- How much is kept of a path, and how much its tokens need.
use Rattle.std.specs.Prelude.{◌≡◌, ℕ, ◌+◌, ◌<◌, ◌≤◌, List, [], ◌∷◌, length, sum_by, AllPairs, slice_index_or}
use Rattle.sf_model.specs.declared.design.Design.{Design}
use Rattle.sf_model.specs.declared.parts.Shape.{Shape}
use Rattle.sf_model.specs.Legal.{block_count}
use Rattle.sf_polish.specs.declared.expr.Token.{Token}
use Rattle.sf_polish.specs.declared.expr.Token.TheVariants as token
use Rattle.sf_node.specs.Subproblem.{root}
use Rattle.sf_curves.specs.Points.{IsSlimmer}
use Rattle.sf_standard.specs.Items.{Item, Block}
use Rattle.sf_frames.specs.declared.limits.TheConstants.{MOST_FRAMES, MOST_POINTS}
use Rattle.sf_frames.specs.Curves.{IsItemCurve}
use Rattle.sf_frames.specs.declared.stored.Stored.{Stored}
use Rattle.sf_frames.specs.Kept.{items_at, no_token, IsStoredIn}

-- no more is kept than may be
pub record IsWithinRoom (s : Stored) : Type 0 where
  pub few_points : length s.points.items ≤ MOST_POINTS
  pub few_frames : length s.frames.items ≤ MOST_FRAMES

-- the curves of all blocks and the frames of the first of these tokens are there, and no more points than may be
pub record HasFrames (design : Design) (tokens : List Token) (s : Stored) : Type 0 where
  pub stored : IsStoredIn design tokens s
  pub all : length s.blocks.items ≡ block_count design
  pub few : length s.points.items ≤ MOST_POINTS

-- these are the points of the curve of the item on top, in their order
pub record IsTopCurve (design : Design) (items : List Item) (c : List Shape) : Type 0 where
  pub item : Item
  pub under : List Item
  pub top : items ≡ item ∷ under
  pub curve : IsItemCurve design (root design) c item
  pub falls : AllPairs IsSlimmer c

-- what a token adds that leaves these items: the curve of the item that an operator makes, and for a block no point, since its curve is there
abbrev pub Adds : Design → Token → List Item → List Shape → Type 0
Adds design (token.Block b) items c = c ≡ []
Adds design token.Beside items c = IsTopCurve design items c
Adds design token.Above items c = IsTopCurve design items c

-- the curve of each block in its whole span, and what each of the first tokens adds
pub record AreCurves (design : Design) (tokens : List Token) (wholes made : List (List Shape)) : Type 0 where
  pub all : length wholes ≡ block_count design
  pub of_blocks : (b : ℕ) (d : List Shape) → b < length wholes → IsTopCurve design (Block b ∷ []) (slice_index_or wholes b d)
  pub few : length made ≤ length tokens
  pub of_tokens : (k : ℕ) (d : List Shape) → k < length made → Adds design (slice_index_or tokens k no_token) (items_at tokens (k + 1)) (slice_index_or made k d)

-- how many points these are
abbrev pub total : List (List Shape) → List (List Shape) → ℕ
total wholes made = sum_by length wholes + sum_by length made

-- the first of the tokens already need more points than are kept
pub record NeedsMore (design : Design) (tokens : List Token) : Type 0 where
  pub wholes : List (List Shape)
  pub made : List (List Shape)
  pub curves : AreCurves design tokens wholes made
  pub more : MOST_POINTS < total wholes made

-- all tokens together need no more
pub record HasRoom (design : Design) (tokens : List Token) : Type 0 where
  pub wholes : List (List Shape)
  pub made : List (List Shape)
  pub curves : AreCurves design tokens wholes made
  pub each : length made ≡ length tokens
  pub fits : total wholes made ≤ MOST_POINTS
