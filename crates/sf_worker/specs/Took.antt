-- What a worker took, put and decided.
use Rattle.std.specs.Prelude.{◌≡◌, ℕ, ◌+◌, ◌<◌, ◌≤◌, ◌⊎◌, ⊤, min, List, [], ◌∷◌, ◌++◌, length, map, sum_by, All, Any, Bool, true, false, Option, Some, None, IfSome}
use Rattle.std.specs.List.{flat_map}
use Rattle.sf_model.specs.declared.design.Design.{Design}
use Rattle.sf_model.specs.declared.TheConstants.{MAX}
use Rattle.sf_node.specs.declared.part.Part.{Part}
use Rattle.sf_node.specs.Parts.{Parts}
use Rattle.sf_search_core.specs.declared.entry.Entry.{Entry}
use Rattle.sf_search_core.specs.Conserved.{children}
use Rattle.sf_certificate.specs.declared.mark.Mark.{Mark}
use Rattle.sf_certificate.specs.Named.{unnamed_mark}
use Rattle.sf_cursor.specs.declared.stretch.Stretch.{Stretch}
use Rattle.sf_cursor.specs.Path.{Path}
use Rattle.sf_cursor.specs.Stretches.{IsStretch, waits}
use Rattle.sf_frontier.specs.Ends.{ThiefView, one_more}
use Rattle.sf_frontier.specs.Team.{thief_deques_of}
use Rattle.sf_pieces.specs.declared.piece.Piece.{Piece}
use Rattle.sf_worker.specs.declared.state.WorkerState.{WorkerState}
use Rattle.sf_worker.specs.declared.state.PassEnd.{PassEnd}
use Rattle.sf_worker.specs.declared.state.PassEnd.TheVariants.{QuotaSpent, FoundNothing}
use Rattle.sf_worker.specs.Tasks.{IsEntry, IsBest, Solves}
use Rattle.sf_worker.specs.InHand.{HandView, IsHand, marks_of, left_of}
use Rattle.sf_pieces.specs.Naming.{AreKept}
use Rattle.sf_pieces.specs.Told.{IsRead, marks_in, mark_of}

-- a count that stays at the greatest u64 is no less than before; it rose, or stands there
abbrev pub NeverFell : ℕ → ℕ → Type 0
NeverFell n m = min n MAX ≤ m

-- a count that stays at the greatest u64 has risen, or stands there
abbrev pub Rose : ℕ → ℕ → Type 0
Rose n m = one_more n ≤ m

-- a count that stays at the greatest u64 has risen by as many as these stretches, or stands there
abbrev pub CountsAll : ℕ → ℕ → List Stretch → Type 0
CountsAll n m refused = NeverFell n m × (m < MAX → length refused + n ≤ m)

-- the counts of empty takes of all thieves
abbrev pub ThievesNeverFell : List ThiefView → List ThiefView → Type 0
ThievesNeverFell [] [] = ⊤
ThievesNeverFell [] (u ∷ us) = ⊥
ThievesNeverFell (t ∷ ts) [] = ⊥
ThievesNeverFell (t ∷ ts) (u ∷ us) = NeverFell t.empty_takes u.empty_takes × ThievesNeverFell ts us

-- the counts of empty takes of all thieves rose
abbrev pub ThievesRose : List ThiefView → List ThiefView → Type 0
ThievesRose [] [] = ⊤
ThievesRose [] (u ∷ us) = ⊥
ThievesRose (t ∷ ts) [] = ⊥
ThievesRose (t ∷ ts) (u ∷ us) = Rose t.empty_takes u.empty_takes × ThievesRose ts us

-- the weight of what thieves took
abbrev pub thieves_weigh : (Stretch → ℕ) → List ThiefView → ℕ
thieves_weigh w ts = sum_by (λ (t : ThiefView). sum_by w t.taken) ts

-- a stretch weighs what the subproblems that it stands for weigh
abbrev pub on_stretch : Design → (Parts → ℕ) → Stretch → ℕ
on_stretch design w s = sum_by w (waits design s)

-- the weight of a stretch that may be there
abbrev pub maybe_weighs : (Stretch → ℕ) → Option Stretch → ℕ
maybe_weighs w (Some s) = w s
maybe_weighs w None = 0

-- the weight of stretches
abbrev pub stretches_weigh : Design → (Parts → ℕ) → List Stretch → ℕ
stretches_weigh design w ss = sum_by (on_stretch design w) ss

module _ (w : Parts → ℕ) where
  -- the weight of the subproblems that the entries decide
  abbrev pub nodes_weigh : List Entry → ℕ
  nodes_weigh es = sum_by (λ (e : Entry). w e.node) es

  -- the weight of the children of the entries
  abbrev pub children_weigh : List Entry → ℕ
  children_weigh es = sum_by (λ (e : Entry). sum_by w (children e)) es

-- the stretch of `first` is where it was, or its first subproblem was decided
abbrev pub IsDecidedFirst : Option Stretch → Option Stretch → List Entry → Type 0
IsDecidedFirst first first' logged = (first' ≡ None) × IfSome first (λ s. Any (λ (e : Entry). e.node ≡ s.cursor.node) logged)

-- the stretches that the team serves are those of the design
abbrev pub Serves : (Stretch → Type 0) → Design → (Parts → ℕ) → Type 0
Serves S design bound = (s : Stretch) → (S s → IsStretch design bound s) × (IsStretch design bound s → S s)

-- what is left of the stretch in hand
abbrev pub rest_at : Bool → Path → ℕ → Option Stretch
rest_at true path floor = Some (record { cursor = path; floor = floor })
rest_at false path floor = None

-- the subproblems that what is left of a stretch stands for
abbrev pub rest_waits : Design → Option Stretch → List Parts
rest_waits design (Some s) = waits design s
rest_waits design None = []

module _ {T : Type 0} where
  -- the weight of what a worker took, from its own deque and by its thieves
  abbrev pub taken_of : Design → (Parts → ℕ) → WorkerState T → ℕ
  taken_of design w s = sum_by (on_stretch design w) s.place.owner.taken + thieves_weigh (on_stretch design w) s.place.thieves.items

  -- the weight of what a worker put
  abbrev pub put_of : Design → (Parts → ℕ) → WorkerState T → ℕ
  put_of design w s = stretches_weigh design w s.place.owner.put

  -- the weight of the stretch in `first`
  abbrev pub first_of : Design → (Parts → ℕ) → WorkerState T → ℕ
  first_of design w s = maybe_weighs (on_stretch design w) s.first

  -- the owner and the thieves stand at the deques at which they stood
  abbrev pub SameDeques : WorkerState T → WorkerState T → Type 0
  SameDeques old new = (new.place.owner.deque ≡ old.place.owner.deque) × (thief_deques_of new.place.thieves.items ≡ thief_deques_of old.place.thieves.items)

  -- the seat is at the same word, with the same parts
  abbrev pub SameSeat : WorkerState T → WorkerState T → Type 0
  SameSeat old new = (new.seat.word ≡ old.seat.word) × (new.seat.parts ≡ old.seat.parts)

  -- the conditions of a pass
  pub record IsReady (design : Design) (bound : Parts → ℕ) (s : WorkerState T) : Type 0 where
    pub first : IfSome s.first (IsStretch design bound)
    pub best : IsBest design s.best s.seat.offered

  -- what was decided, and the stretches that the deque refused. As multisets, what was taken, what was in hand and the children of what was decided are what was decided,
  -- what was put, what was refused and what is in hand
  pub record Did (design : Design) (bound : Parts → ℕ) (old new : WorkerState T) (before after : List Parts) : Type 0 where
    pub logged : List Entry
    pub refused : List Stretch
    pub quota : new.quota + length logged ≡ old.quota
    pub seat : SameSeat old new
    pub deques : SameDeques old new
    pub offered : new.seat.offered ≤ old.seat.offered
    pub seen : new.seat.seen ≤ old.seat.seen
    pub fell : new.seat.offered < old.seat.offered → Any (Solves design bound new.seat.offered) logged
    pub undercut : new.seat.offered < old.seat.offered → new.seat.offered < old.seat.seen
    pub entries : All (IsEntry design bound) logged
    pub fresh : All (λ (e : Entry). new.seat.seen ≤ e.value) logged
    pub refused_are : All (IsStretch design bound) refused
    pub both : (w : Parts → ℕ) → (((taken_of design w new + first_of design w old) + put_of design w old) + sum_by w before) + children_weigh w logged
        ≡ ((((taken_of design w old + first_of design w new) + put_of design w new) + nodes_weigh w logged) + sum_by w after) + stretches_weigh design w refused
    pub refusals : CountsAll old.place.owner.refused_puts new.place.owner.refused_puts refused
    pub empty_takes : NeverFell old.place.owner.empty_takes new.place.owner.empty_takes × ThievesNeverFell old.place.thieves.items new.place.thieves.items

  -- the pieces that were logged tell the entries, but for the parts that they name
  pub record Logs (design : Design) (part : Parts → Part → ℕ) (old new : WorkerState T) (logged : List Entry) : Type 0 where
    pub pieces : List Piece
    pub log : new.log.items ≡ old.log.items ++ pieces
    pub told : map mark_of logged ≡ map unnamed_mark (flat_map (marks_in design) pieces)
    pub read : All (IsRead design) pieces
    pub kept_parts : All (λ p. AreKept part new.seat.seen (marks_in design p) p.kept.items) pieces

  -- what a pass did, or a walk over what was in hand before it: also what is left of the last stretch, which is kept
  pub record Passed (design : Design) (bound : Parts → ℕ) (part : Parts → Part → ℕ) (old new : WorkerState T) (before : List Parts) : Type 0 where
    pub rest : List Stretch
    pub did : Did design bound old new before (flat_map (waits design) rest)
    pub logs : Logs design part old new did.logged
    pub kept : new.kept.items ≡ (old.kept.items ++ did.refused) ++ rest
    pub rest_are : All (IsStretch design bound) rest

  -- a walk that goes on: nothing of it is logged yet, and its piece so far tells the entries, the first of which decided this subproblem
  pub record Walking (design : Design) (bound : Parts → ℕ) (part : Parts → Part → ℕ) (old new : WorkerState T) (before : List Parts) (hand : HandView) (node : Parts) : Type 0 where
    pub did : Did design bound old new before (left_of design hand)
    pub hand_is : IsHand design bound hand
    pub told : map mark_of did.logged ≡ map unnamed_mark (marks_of design hand)
    pub kept_parts : AreKept part new.seat.seen (marks_of design hand) hand.kept
    pub decided : Any (λ (e : Entry). e.node ≡ node) did.logged
    pub log : new.log.items ≡ old.log.items
    pub kept : new.kept.items ≡ old.kept.items ++ did.refused
    pub first : new.first ≡ old.first
    pub best : IsBest design new.best new.seat.offered

  -- some of the stretch in hand may have been given away, and what was put before may have been taken out and put again
  pub record IsShared (design : Design) (bound : Parts → ℕ) (old : WorkerState T) (hand : HandView) (new : WorkerState T) (hand' : HandView) : Type 0 where
    pub refused : List Stretch
    pub hand_is : IsHand design bound hand'
    pub marks_are : marks_of design hand' ≡ marks_of design hand
    pub hand_kept : hand'.kept ≡ hand.kept
    pub more : hand'.more ≡ true
    pub frame : new ≡ record old { place = new.place; kept = new.kept }
    pub kept : new.kept.items ≡ old.kept.items ++ refused
    pub refused_are : All (IsStretch design bound) refused
    pub deque : new.place.owner.deque ≡ old.place.owner.deque
    pub thieves : new.place.thieves.items ≡ old.place.thieves.items
    pub both : (w : Parts → ℕ) → (sum_by (on_stretch design w) new.place.owner.taken + put_of design w old) + sum_by w (left_of design hand)
        ≡ ((sum_by (on_stretch design w) old.place.owner.taken + put_of design w new) + sum_by w (left_of design hand')) + stretches_weigh design w refused
    pub refusals : CountsAll old.place.owner.refused_puts new.place.owner.refused_puts refused
    pub empty_takes : NeverFell old.place.owner.empty_takes new.place.owner.empty_takes

  -- the piece is logged, and what is left of the stretch is handed back
  pub record IsPutDown (old : WorkerState T) (hand : HandView) (new : WorkerState T) (rest : Option Stretch) : Type 0 where
    pub piece : Piece
    pub log : new.log.items ≡ old.log.items ++ piece ∷ []
    pub first : piece.first.items ≡ hand.first
    pub tags : piece.tags.items ≡ hand.tags
    pub values : piece.kept.items ≡ hand.kept
    pub rest_is : rest ≡ rest_at hand.more hand.path hand.floor
    pub frame : new ≡ record old { log = new.log }

  -- all counts of empty takes rose, or stand at the greatest
  abbrev pub NothingFound : WorkerState T → WorkerState T → Type 0
  NothingFound old new = Rose old.place.owner.empty_takes new.place.owner.empty_takes × ThievesRose old.place.thieves.items new.place.thieves.items

  module _ {design : Design} {bound : Parts → ℕ} {part : Parts → Part → ℕ} {before : List Parts} where
    -- nothing is left of the last stretch, or the quota is spent
    abbrev pub IsOver : (old new : WorkerState T) → Passed design bound part old new before → Type 0
    IsOver old new p = (p.rest ≡ []) ⊎ ((length p.rest ≡ 1) × (new.quota ≡ 0))

    -- what a pass's answer says
    abbrev pub PassEnds : (old new : WorkerState T) → Passed design bound part old new before → PassEnd → Type 0
    PassEnds old new p QuotaSpent = (new.quota ≡ 0) × (length p.rest ≤ 1) × (0 < old.quota → IsDecidedFirst old.first new.first p.did.logged) × (old.quota ≡ 0 → new.first ≡ old.first)
    PassEnds old new p FoundNothing = (0 < new.quota) × (p.rest ≡ []) × IsDecidedFirst old.first new.first p.did.logged × NothingFound old new

  -- a walk over the first part of a stretch: its first subproblem was decided, and what is left of it is neither decided nor kept
  pub record IsWalkedInto (design : Design) (bound : Parts → ℕ) (part : Parts → Part → ℕ) (stretch : Stretch) (old new : WorkerState T) (rest : Option Stretch) : Type 0 where
    pub did : Did design bound old new (waits design stretch) (rest_waits design rest)
    pub logs : Logs design part old new did.logged
    pub kept : new.kept.items ≡ old.kept.items ++ did.refused
    pub rest_is : IfSome rest (IsStretch design bound)
    pub decided : Any (λ (e : Entry). e.node ≡ stretch.cursor.node) did.logged
    pub first : new.first ≡ old.first
    pub best : IsBest design new.best new.seat.offered

  -- a walk over a stretch: its first subproblem was decided, and it ended at the stretch's end or the quota's
  pub record IsWalkedOver (design : Design) (bound : Parts → ℕ) (part : Parts → Part → ℕ) (stretch : Stretch) (old new : WorkerState T) : Type 0 where
    pub passed : Passed design bound part old new (waits design stretch)
    pub over : IsOver old new passed
    pub decided : Any (λ (e : Entry). e.node ≡ stretch.cursor.node) passed.did.logged
    pub first : new.first ≡ old.first
    pub best : IsBest design new.best new.seat.offered
