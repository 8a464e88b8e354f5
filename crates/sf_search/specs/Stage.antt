-- A search in preorder beside the machine whose turns it makes: it keeps the tags so far, and knows which subproblems are not visited yet.
use Rattle.std.specs.Prelude.{◌≡◌, ℕ, List, [], ◌∷◌, ◌++◌, map, reverse, Option, None}
use Rattle.sf_model.specs.declared.design.Design.{Design}
use Rattle.sf_model.specs.declared.TheConstants.{MAX}
use Rattle.sf_polish.specs.declared.expr.Expr.{Expr}
use Rattle.sf_node.specs.declared.task.Task.{Task}
use Rattle.sf_node.specs.declared.part.Part.{Part}
use Rattle.sf_node.specs.Parts.{Parts}
use Rattle.sf_node.specs.Subproblem.{root}
use Rattle.sf_search_core.specs.State.{State}
use Rattle.sf_search_core.specs.Core.{IsCoreState}
use Rattle.sf_search_core.specs.Outcome.{opening}
use Rattle.sf_certificate.specs.declared.tag.Tag.{Tag}
use Rattle.sf_certificate.specs.Marks.{marks, tag_of, waiting_after}
use Rattle.sf_certificate.specs.Named.{unnamed}
use Rattle.sf_count.specs.Few.{AllBranchFirst}
use Rattle.sf_pieces.specs.Naming.{kept_for}
use Rattle.sf_pieces.specs.Told.{mark_of}
use Rattle.sf_worker.specs.declared.visit.Visit.{Visit}
use Rattle.sf_worker.specs.Decided.{IsVisit, cost_at, tag_after}
use Rattle.sf_worker.specs.InHand.{HandView, IsFollowed, IsHand, IsLeftOpen as LeavesOpen, left_of}
use Rattle.sf_rounds.specs.Run.{IsBest}
use Rattle.sf_search.specs.Found.{IsFirst}
use Rattle.sf_search.specs.Turns.{IsIdle, best_after, turns, TurnsAreAccepted}

-- a subproblem as the machine keeps it
abbrev pub task_at : (Parts → ℕ) → Parts → Task
task_at bound node = record { node = node; bound = bound node }

-- the tags so far are those of the machine's entries, and these subproblems are its open tasks, the first of them last
pub record IsStage (design : Design) (bound : Parts → ℕ) (state : State) (tags : List Tag) (left : List Parts) : Type 0 where
  pub idle : IsIdle state
  pub waiting : state.waiting ≡ reverse (map (task_at bound) left)
  pub kinds : tags ≡ map (λ entry. tag_of entry.kind) state.entries
  pub marked : map mark_of state.entries ≡ marks (root design ∷ []) tags
  pub then : waiting_after (root design ∷ []) tags ≡ left

-- what the search holds: the whole tree in hand, the least cost found and its plan
pub record WalkView : Type 0 where
  pub hand : HandView
  pub word : ℕ
  pub best : Option Expr

-- what is in hand begins at the root, and all of it is the search's own
abbrev pub IsWhole : Design → (Parts → ℕ) → HandView → Type 0
IsWhole design bound hand = IsHand design bound hand × (hand.first ≡ []) × (hand.floor ≡ 0)

-- nothing is visited yet, and the root is next
pub record IsAtRoot (design : Design) (bound : Parts → ℕ) (walk : WalkView) : Type 0 where
  pub whole : IsWhole design bound walk.hand
  pub left : left_of design walk.hand ≡ root design ∷ []
  pub tags : walk.hand.tags ≡ []
  pub kept : walk.hand.kept ≡ []
  pub word : walk.word ≡ MAX
  pub best : walk.best ≡ None

-- the subproblem that was next was visited
pub record IsMove (design : Design) (bound : Parts → ℕ) (part : Parts → Part → ℕ) (old : WalkView) (seen : Visit) (new : WalkView) : Type 0 where
  pub visit : IsVisit design bound old.hand.path.node old.word seen
  pub followed : IsFollowed design bound old.hand (tag_after bound part old.hand.path.node seen old.word) new.hand
  pub kept : new.hand.kept ≡ old.hand.kept ++ kept_for (part old.hand.path.node) (tag_after bound part old.hand.path.node seen old.word)
  pub word : new.word ≡ cost_at bound old.hand.path.node seen old.word
  pub best : new.best ≡ best_after seen old.best

-- what was not visited is left open, and this is the least of the cost found and of the values there
pub record IsLeftOpen (design : Design) (bound : Parts → ℕ) (old new : WalkView) (low : ℕ) : Type 0 where
  pub hand : LeavesOpen design bound old.word old.hand new.hand low
  pub word : new.word ≡ old.word
  pub best : new.best ≡ old.best

-- the search beside the machine in this state, which names no part
pub record IsBeside (design : Design) (bound : Parts → ℕ) (state : State) (walk : WalkView) : Type 0 where
  pub whole : IsWhole design bound walk.hand
  pub stage : IsStage design bound state (map unnamed walk.hand.tags) (left_of design walk.hand)
  pub core : IsCoreState design bound state
  pub word : state.word ≡ walk.word
  pub best : IsBest design walk.word walk.best
  pub first : IsFirst design state walk.best
  pub splits : AllBranchFirst design state.entries

-- the search after k visits, which are the machine's turns
pub record IsRun (design : Design) (bound : Parts → ℕ) (k : ℕ) (walk : WalkView) : Type 0 where
  pub beside : IsBeside design bound (turns design bound k (opening design bound 1)) walk
  pub accepted : TurnsAreAccepted design bound k (opening design bound 1)
