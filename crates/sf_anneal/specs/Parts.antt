-- The parts of an expression and their curves, as contracts see what a walk keeps, and nothing that the crate promises. Part k ends with token k, counted from 1.
use Rattle.std.specs.Prelude.{◌≡◌, ℕ, ◌+◌, ◌-◌, ◌*◌, ◌<◌, ◌≤◌, List, [], length, take, drop, slice_index, slice_index_or, AllPairs, Bool, false, if◌then◌else◌}
use Rattle.sf_model.specs.declared.design.Design.{Design}
use Rattle.sf_model.specs.declared.parts.Outline.{Outline}
use Rattle.sf_model.specs.declared.parts.Shape.{Shape}
use Rattle.sf_model.specs.declared.plan.Spot.{Spot}
use Rattle.sf_model.specs.Legal.{block_count}
use Rattle.sf_model.specs.Spans.{shapes_in}
use Rattle.sf_model.specs.Tree.{Tree, spots_at}
use Rattle.sf_polish.specs.declared.expr.Token.{Token}
use Rattle.sf_polish.specs.declared.expr.Token.TheVariants.{Beside, Above, Block}
use Rattle.sf_polish.specs.Normal.{operands, operators}
use Rattle.sf_place.specs.Spots.{with_spots}
use Rattle.sf_curves.specs.Choices.{IsChoice, TakesFrom, size_of}
use Rattle.sf_curves.specs.Points.{IsCombination, IsCurveOf, IsSlimmer, beside_size, above_size}
use Rattle.sf_anneal.specs.declared.keeping.Kept.{Kept}
use Rattle.sf_anneal.specs.declared.parts.Moved.{Moved}
use Rattle.sf_anneal.specs.declared.parts.Parts.{Parts}
use Rattle.sf_anneal.specs.Measured.{whole_spans}

-- the points are the curve of a block
pub record IsBlockCurve (design : Design) (b : ℕ) (points : List Shape) : Type 0 where
  pub sizes : IsCurveOf design.outline (shapes_in design (whole_spans design) b) points
  pub falls : AllPairs IsSlimmer points

-- each block has its curve
abbrev pub AreBlockCurves : Design → List (List Shape) → Type 0
AreBlockCurves design blocks = (b : ℕ) → b < block_count design → IsBlockCurve design b (slice_index_or blocks b [])

-- a block behind so many tokens: these stand before its part
pub record IsBlockPart (design : Design) (b before here : ℕ) (points : List Shape) : Type 0 where
  pub stands : here ≡ before
  pub curve : IsBlockCurve design b points

-- a joint of the part with this number and of the one behind it: before it stand as many tokens as before the first
pub record IsJointPart (join : Shape → Shape → Shape) (outline : Outline) (left before here : ℕ) (first second points : List Shape) : Type 0 where
  pub some : 1 ≤ left
  pub stands : here ≡ before
  pub sizes : IsCombination join outline first second points
  pub falls : AllPairs IsSlimmer points

-- what part k + 1 is, by the token that it ends with: `before` says how many tokens stand before a part
abbrev pub IsPart : Design → (ℕ → ℕ) → (ℕ → List Shape) → ℕ → Token → Type 0
IsPart design before curve k Beside = IsJointPart beside_size design.outline (before k) (before (before k)) (before (k + 1)) (curve (before k)) (curve k) (curve (k + 1))
IsPart design before curve k Above = IsJointPart above_size design.outline (before k) (before (before k)) (before (k + 1)) (curve (before k)) (curve k) (curve (k + 1))
IsPart design before curve k (Block b) = IsBlockPart design b k (before (k + 1)) (curve (k + 1))

-- the token behind k others
abbrev pub token_at : List Token → ℕ → Token
token_at tokens k = slice_index_or tokens k Beside

-- the first parts of the tokens, up to this one
pub record AreParts (design : Design) (tokens : List Token) (count : ℕ) (before : ℕ → ℕ) (curve : ℕ → List Shape) : Type 0 where
  pub lower : (k : ℕ) → k ≤ count → before k ≤ k - 1
  pub each : (k : ℕ) → k < count → IsPart design before curve k (token_at tokens k)

-- the curve of a part that ends with this token, where this one is kept for it
abbrev pub curve_by : List (List Shape) → Token → List Shape → List Shape
curve_by blocks Beside points = points
curve_by blocks Above points = points
curve_by blocks (Block b) points = slice_index_or blocks b []

-- the kept curve of a part
abbrev pub kept_in : List (List Shape) → ℕ → List Shape
kept_in curves k = slice_index_or curves k []

-- the curve of a part of the known tokens
abbrev pub known_curve : List (List Shape) → Parts → List Token → ℕ → List Shape
known_curve blocks now known k = curve_by blocks (token_at known (k - 1)) (kept_in now.curves.items k)

-- the kept curve that a flag chooses
abbrev pub chosen_curve : Parts → Moved → Bool → ℕ → List Shape
chosen_curve now next fresh k = if fresh then kept_in next.curves.items k else kept_in now.curves.items k

-- the curve of a part of the moved tokens
abbrev pub moved_curve : List (List Shape) → Parts → Moved → List Token → ℕ → List Shape
moved_curve blocks now next tokens k = curve_by blocks (token_at tokens (k - 1)) (chosen_curve now next (slice_index_or next.fresh.items k false) k)

-- how many tokens stand before a part
abbrev pub before_in : List ℕ → ℕ → ℕ
before_in list k = slice_index list k

-- how many parts so many tokens leave
abbrev pub level : List Token → ℕ → ℕ
level tokens k = operands (take k tokens) - operators (take k tokens)

-- all lists have so many places
pub record HaveRoom (count : ℕ) (now : Parts) (next : Moved) : Type 0 where
  pub before : length now.before.items ≡ count
  pub curves : length now.curves.items ≡ count
  pub next_before : length next.before.items ≡ count
  pub next_curves : length next.curves.items ≡ count
  pub fresh : length next.fresh.items ≡ count
  pub first : before_in next.before.items 0 ≡ 0

-- the parts of the known tokens are right
abbrev pub AreKnown : Design → List (List Shape) → Parts → List Token → Type 0
AreKnown design blocks now known = AreParts design known (length known) (before_in now.before.items) (known_curve blocks now known)

-- a part that isn't fresh has the curve of the known one
abbrev pub IsAsKnown : List (List Shape) → Parts → Moved → List Token → List Token → ℕ → Type 0
IsAsKnown blocks now next known tokens k = (k ≤ length known) × (moved_curve blocks now next tokens k ≡ known_curve blocks now known k)

-- the first parts of the moved tokens are right
pub record AreRenewed (design : Design) (blocks : List (List Shape)) (now : Parts) (next : Moved) (known tokens : List Token) (count : ℕ) : Type 0 where
  pub parts : AreParts design tokens count (before_in next.before.items) (moved_curve blocks now next tokens)
  pub same : (k : ℕ) → 1 ≤ k → k ≤ count → slice_index_or next.fresh.items k false ≡ false → IsAsKnown blocks now next known tokens k
  pub levels : (k : ℕ) → 1 ≤ k → k ≤ count → level tokens k ≡ level tokens (before_in next.before.items k) + 1

-- the parts of the moved tokens are right
abbrev pub AreMoved : Design → List (List Shape) → Parts → Moved → List Token → Type 0
AreMoved design blocks now next tokens = AreParts design tokens (length tokens) (before_in next.before.items) (moved_curve blocks now next tokens)

-- the plan has these tokens, shapes of its blocks and this size, and takes its shapes from the size as a trace does
pub record IsTaken (design : Design) (tokens : List Token) (size : Shape) (plan : Tree) : Type 0 where
  pub choice : IsChoice design tokens (whole_spans design) plan
  pub sized : size_of plan ≡ size
  pub takes : TakesFrom design (whole_spans design) plan size

-- the tokens behind so many others up to the last of a part
abbrev pub stretch : List Token → ℕ → ℕ → List Token
stretch tokens from to = take (to - from) (drop from tokens)

-- the spots of such a plan were written
pub record IsLaid (design : Design) (tokens : List Token) (size : Shape) (x y : ℕ) (old new : List Spot) : Type 0 where
  pub plan : Tree
  pub taken : IsTaken design tokens size plan
  pub placed : new ≡ with_spots old (spots_at x y plan)

-- what is kept fits these tokens
pub record IsReady (design : Design) (kept : Kept) (tokens : List Token) : Type 0 where
  pub blocks : length kept.blocks.items ≡ block_count design
  pub curves : AreBlockCurves design kept.blocks.items
  pub known : AreKnown design kept.blocks.items kept.known tokens
  pub room : HaveRoom (2 * block_count design) kept.known kept.moved

-- what was found fits these
abbrev pub IsFound : Design → Kept → List Token → Type 0
IsFound design kept tokens = AreMoved design kept.blocks.items kept.known kept.moved tokens
