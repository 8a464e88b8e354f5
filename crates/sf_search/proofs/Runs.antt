-- A search beside the machine, from its start on and over one visit.
use Rattle.std.proofs.Common.{◌≡◌, ℕ, suc, ◌+◌, ◌<◌, ◌≤◌, List, [], ◌∷◌, ◌++◌, map, reverse, length, arith, refl, ap, sym, subst, ◌∙◌, Option, None, true, false, length-append}
use Rattle.sf_search.proofs.Common.{map-append, Design, MAX, Expr, Part, PartValues, Parts, root, behind, IsPlanOf, State, opening, Mark, Tag, made, marks, waiting_after, unnamed, marks-more, unnamed-waiting, named-alike, kept-more, Solved, Extended, turn, turns, turn_events, AreAccepted, TurnsAreAccepted, IsFirst, kept_for, AreKept, best_after, task_at, IsStage, IsVisit, tag_at, tag_after, cost_at, WalkView, IsMove, IsBeside, IsRun, IsWhole, waiting, beyond, Visit, IsPlain, HandView, IsFollowed, IsHand, left_of, marks_of, IsBest}
use Rattle.sf_search_core.proofs.Outcome.{opening-core}
use Rattle.sf_worker.specs.declared.visit.Visit.TheVariants.{Closed, Split}
use Rattle.sf_search.proofs.Settled.{taken-is, turned-is, first-is, accepted-is, plan-cost, turns-still, accepted-still}
use Rattle.sf_rounds.proofs.Formed.{plan-formed}
use Rattle.sf_search.proofs.Stage.{mid, some, taken, turn-is, next-is, stage-next}

-- at the start the root is the one open task, and no tag is put down
pub stage-start : (design : Design) (bound : Parts → ℕ) → IsStage design bound (opening design bound 1) [] (root design ∷ [])
stage-start design bound = record { idle = refl; waiting = refl; kinds = refl; marked = refl; then = refl }

-- a search with the root before it, no tags and no plan is the one after no visits
pub run-start : (design : Design) (bound : Parts → ℕ) (walk : WalkView) → IsWhole design bound walk.hand → left_of design walk.hand ≡ root design ∷ [] → walk.hand.tags ≡ [] → walk.word ≡ MAX → walk.best ≡ None → IsRun design bound 0 walk
run-start design bound walk whole l t w b = record {
  beside = record {
    whole = whole;
    stage = subst (λ ts. IsStage design bound (opening design bound 1) (map unnamed ts) (left_of design walk.hand)) (sym t) (subst (IsStage design bound (opening design bound 1) []) (sym l) (stage-start design bound));
    core = opening-core design bound 1;
    word = sym w;
    best = subst (IsBest design walk.word) (sym b) w;
    first = subst (IsFirst design (opening design bound 1)) (sym b) tt;
    splits = λ k d h. absurd (omega arith);
  };
  accepted = tt;
}

-- where there are no tags nothing is marked
marks-none : (one : List Parts) → marks one [] ≡ []
marks-none [] = refl
marks-none (node ∷ nodes) = refl

-- nothing is kept before the first visit
pub kept-start : (part : Parts → Part → ℕ) (one : List Parts) (cost : ℕ) (tags : List Tag) (kept : List PartValues) → tags ≡ [] → kept ≡ [] → AreKept part cost (marks one tags) kept
kept-start part one cost tags kept t k =
    let none : marks one tags ≡ [] = ap (marks one) t ∙ marks-none one in
    subst (λ ms. AreKept part cost ms kept) (sym none) (record { values = k; areas = λ i d h. absurd (omega arith) })

-- the tag of a visit, but for the part that it names
unnamed-tag : (seen : Visit) → unnamed (tag_at seen) ≡ tag_at seen
unnamed-tag Closed = refl
unnamed-tag (Solved expr) = refl
unnamed-tag Extended = refl
unnamed-tag (Split b) = refl

-- what a tag makes, but for the part that it names
made-after : (bound : Parts → ℕ) (part : Parts → Part → ℕ) (node : Parts) (seen : Visit) (word : ℕ) → made (tag_after bound part node seen word) node ≡ made (tag_at seen) node
made-after bound part node Closed word = refl
made-after bound part node (Solved expr) word = refl
made-after bound part node Extended word = refl
made-after bound part node (Split b) word = refl

-- one tag more was put down
pub followed-tags : (design : Design) (bound : Parts → ℕ) (old new : HandView) (tag : Tag) → IsHand design bound old → IsFollowed design bound old tag new → new.tags ≡ old.tags ++ tag ∷ []
followed-tags design bound old new tag h f =
    let tag_of_mark : Mark → Tag = λ m. m.tag in
    sym f.hand_is.read ∙ ap (map tag_of_mark) f.marks_are ∙ map-append tag_of_mark (marks_of design old) (record { node = old.path.node; tag = tag } ∷ []) ∙ ap (λ ts. ts ++ tag ∷ []) h.read

-- what is kept changes nothing else that is in hand
keeps-followed : (design : Design) (bound : Parts → ℕ) (old new : HandView) (tag : Tag) (kept : List PartValues) → IsFollowed design bound (record old { kept = kept }) tag new → IsFollowed design bound old tag new
keeps-followed design bound old new tag kept f = record { hand_is = f.hand_is; marks_are = f.marks_are; left = f.left; same = f.same }

-- a visit that solved nothing leaves the word
pub plain-word : (bound : Parts → ℕ) (node : Parts) (seen : Visit) (word : ℕ) → IsPlain seen → cost_at bound node seen word ≡ word
plain-word bound node Closed word p = refl
plain-word bound node (Solved expr) word p = absurd p
plain-word bound node Extended word p = refl
plain-word bound node (Split b) word p = refl

-- and the best plan
pub plain-best : (seen : Visit) (best : Option Expr) → IsPlain seen → best_after seen best ≡ best
plain-best Closed best p = refl
plain-best (Solved expr) best p = absurd p
plain-best Extended best p = refl
plain-best (Split b) best p = refl

-- a visit whose tag was put down where the search was
pub moved : (design : Design) (bound : Parts → ℕ) (part : Parts → Part → ℕ) (old new : WalkView) (tagged : HandView) (seen : Visit) (tag : Tag) → IsVisit design bound old.hand.path.node old.word seen → tag ≡ tag_after bound part old.hand.path.node seen old.word
    → tagged ≡ record old.hand { kept = old.hand.kept ++ kept_for (part old.hand.path.node) tag } → IsFollowed design bound tagged tag new.hand → new.hand.kept ≡ tagged.kept → new.word ≡ cost_at bound old.hand.path.node seen old.word → new.best ≡ best_after seen old.best
    → IsMove design bound part old seen new
moved design bound part old new tagged seen tag v t m f k w b = record {
  visit = v;
  followed = subst (λ x. IsFollowed design bound old.hand x new.hand) t (keeps-followed design bound old.hand new.hand tag (old.hand.kept ++ kept_for (part old.hand.path.node) tag) (subst (λ h. IsFollowed design bound h tag new.hand) m f));
  kept = k ∙ ap (λ (h : HandView). h.kept) m ∙ ap (λ x. old.hand.kept ++ kept_for (part old.hand.path.node) x) t;
  word = w;
  best = b;
}

-- a visit never raises the word
word-lower : (design : Design) (bound : Parts → ℕ) (node : Parts) (seen : Visit) (word : ℕ) → IsVisit design bound node word seen → cost_at bound node seen word ≤ word
word-lower design bound node Closed word d = omega arith
word-lower design bound node (Solved expr) word d = let less : bound node < word = d.below in omega arith
word-lower design bound node Extended word d = omega arith
word-lower design bound node (Split b) word d = omega arith

-- the best plan after a visit costs the word after it, or there is none and the word is none
best-next : (design : Design) (bound : Parts → ℕ) (node : Parts) (seen : Visit) (word : ℕ) (best : Option Expr) → IsVisit design bound node word seen → IsBest design word best → IsBest design (cost_at bound node seen word) (best_after seen best)
best-next design bound node Closed word best d b = b
best-next design bound node (Solved expr) word best d b =
    let plan : IsPlanOf design node expr (bound node) = d.plan in
    (plan-cost design node expr (bound node) plan, plan-formed design node expr (bound node) plan)
best-next design bound node Extended word best d b = b
best-next design bound node (Split i) word best d b = b

-- one visit more
module _ (design : Design) (bound : Parts → ℕ) (part : Parts → Part → ℕ) (state : State) (old new : WalkView) (seen : Visit) (b : IsBeside design bound state old) (more : old.hand.more ≡ true) (m : IsMove design bound part old seen new) where
  -- the subproblem that is next
  abbrev node : Parts
  node = old.hand.path.node

  -- the subproblems that come behind it and what it makes
  abbrev rest : List Parts
  rest = behind (root design) node.steps

  -- the tags without the parts that they name
  abbrev plain : List Tag
  plain = map unnamed old.hand.tags

  -- the tag of the visit
  abbrev tag : Tag
  tag = tag_after bound part node seen old.word

  -- the machine's open tasks are the next subproblem and those behind it
  stage : IsStage design bound state plain (node ∷ rest)
  stage = subst (λ f. IsStage design bound state plain (node ∷ beyond f (root design) node.steps)) b.whole.2 (subst (λ x. IsStage design bound state plain (waiting design old.hand.floor x node)) more b.stage)

  -- the tags after the visit
  pub tags-next : new.hand.tags ≡ old.hand.tags ++ tag_after bound part old.hand.path.node seen old.word ∷ []
  tags-next = followed-tags design bound old.hand new.hand tag b.whole.0 m.followed

  -- what is left after the visit
  left-next : left_of design new.hand ≡ made (tag_at seen) node ++ rest
  left-next = m.followed.left ∙ ap (λ ns. ns ++ beyond old.hand.floor (root design) node.steps) (made-after bound part node seen old.word) ∙ ap (λ f. made (tag_at seen) node ++ beyond f (root design) node.steps) b.whole.2

  -- it is the whole tree still
  whole-next : IsWhole design bound new.hand
  whole-next = (m.followed.hand_is, m.followed.same.0 ∙ b.whole.1, m.followed.same.1 ∙ b.whole.2)

  -- without names the tags after the visit are those before, and that of the visit
  plain-next : map unnamed new.hand.tags ≡ plain ++ tag_at seen ∷ []
  plain-next =
      ap (map unnamed) tags-next ∙ map-append unnamed old.hand.tags (tag ∷ [])
      ∙ ap (λ t. plain ++ t ∷ []) (named-alike (part node) (cost_at bound node seen old.word) (tag_at seen) ∙ unnamed-tag seen)

  -- what is kept after the visit is kept for all marks, also for the word after it
  pub kept-next : AreKept part old.word (marks (root design ∷ []) old.hand.tags) old.hand.kept → AreKept part new.word (marks (root design ∷ []) new.hand.tags) new.hand.kept
  kept-next k =
      let one = root design ∷ [] in
      let then : waiting_after one old.hand.tags ≡ node ∷ rest = sym (unnamed-waiting one old.hand.tags) ∙ stage.then in
      let more_marks : marks one new.hand.tags ≡ marks one old.hand.tags ++ record { node = node; tag = tag } ∷ [] = ap (marks one) tags-next ∙ marks-more one old.hand.tags node rest tag then in
      let word = cost_at bound node seen old.word in
      subst (λ w. AreKept part w (marks one new.hand.tags) new.hand.kept) (sym m.word)
      (subst (AreKept part word (marks one new.hand.tags)) (sym m.kept)
      (subst (λ ms. AreKept part word ms (old.hand.kept ++ kept_for (part node) tag)) (sym more_marks)
      (kept-more part word old.word (marks one old.hand.tags) node (tag_at seen) (word-lower design bound node seen old.word m.visit) old.hand.kept k)))

  -- the visit decides the subproblem against the machine's word
  decided : IsVisit design bound node state.word seen
  decided = subst (λ w. IsVisit design bound node w seen) (sym b.word) m.visit

  -- the machine's state in which the worker holds the next subproblem
  abbrev held : State
  held = mid design bound state plain node rest stage

  -- after the visit the search is beside the machine after one turn
  pub beside-next : IsBeside design bound (turn design bound state) new
  beside-next =
      let n = next-is design bound state plain node rest stage b.core seen decided in
      let s = stage-next design bound state plain node rest stage b.core seen decided in
      let took = taken-is design state held stage.idle (some design bound state plain node rest stage) (taken design bound state plain node rest stage) in
      let made_so = turn-is design bound state plain node rest stage in
      let t = turned-is design bound state held (turn design bound state) (task_at bound node) seen took refl refl b.core.not_stale decided made_so in
      record {
        whole = whole-next;
        stage = subst (λ ts. IsStage design bound (turn design bound state) ts (left_of design new.hand)) (sym plain-next)
            (subst (IsStage design bound (turn design bound state) (plain ++ tag_at seen ∷ [])) (sym left-next) s);
        core = n.core;
        word = n.word ∙ ap (cost_at bound node seen) b.word ∙ sym m.word;
        best = subst (IsBest design new.word) (sym m.best) (subst (λ w. IsBest design w (best_after seen old.best)) (sym m.word)
            (best-next design bound node seen old.word old.best m.visit b.best));
        first = subst (IsFirst design (turn design bound state)) (sym m.best)
            (first-is design bound state held (turn design bound state) (task_at bound node) seen took refl refl b.core.not_stale decided made_so old.best b.first);
        splits = t.splits b.splits;
      }

  -- the machine accepts the events of the turn
  pub accepted-next : AreAccepted design state (turn_events design bound state)
  accepted-next =
      let took = taken-is design state held stage.idle (some design bound state plain node rest stage) (taken design bound state plain node rest stage) in
      accepted-is design bound state held (turn design bound state) (task_at bound node) seen took refl refl b.core.not_stale decided (turn-is design bound state plain node rest stage)
      stage.idle (some design bound state plain node rest stage) (taken design bound state plain node rest stage)

-- one more visit makes of the search after k visits that after k + 1
pub run-next : (design : Design) (bound : Parts → ℕ) (part : Parts → Part → ℕ) (k : ℕ) (old new : WalkView) (seen : Visit) → IsRun design bound k old → old.hand.more ≡ true → IsMove design bound part old seen new → IsRun design bound (k + 1) new
run-next design bound part k old new seen run more m =
    let first = opening design bound 1 in
    let one : suc k ≡ k + 1 = omega arith in
    record {
      beside = subst (λ j. IsBeside design bound (turns design bound j first) new) one (beside-next design bound part (turns design bound k first) old new seen run.beside more m);
      accepted = subst (λ j. TurnsAreAccepted design bound j first) one (run.accepted, accepted-next design bound part (turns design bound k first) old new seen run.beside more m);
    }

-- where nothing is left, the machine has no open task, and further turns change nothing
pub run-still : (design : Design) (bound : Parts → ℕ) (k n : ℕ) (walk : WalkView) → k ≤ n → walk.hand.more ≡ false → IsRun design bound k walk → IsRun design bound n walk
run-still design bound k n walk h none run =
    let first = opening design bound 1 in
    let left : left_of design walk.hand ≡ [] = ap (λ x. waiting design walk.hand.floor x walk.hand.path.node) none in
    let empty : (turns design bound k first).waiting ≡ [] = run.beside.stage.waiting ∙ ap (λ ns. reverse (map (task_at bound) ns)) left in
    record {
      beside = subst (λ s. IsBeside design bound s walk) (sym (turns-still design bound k n first h empty)) run.beside;
      accepted = accepted-still design bound k n first h empty run.accepted;
    }

-- one more visit puts down one more tag
pub count-next : (design : Design) (bound : Parts → ℕ) (part : Parts → Part → ℕ) (k : ℕ) (old new : WalkView) (seen : Visit) → IsHand design bound old.hand → length old.hand.tags ≡ k → IsMove design bound part old seen new → length new.hand.tags ≡ k + 1
count-next design bound part k old new seen h e m =
    let tag = tag_after bound part old.hand.path.node seen old.word in
    omega (arith, ap length (followed-tags design bound old.hand new.hand tag h m.followed), length-append old.hand.tags (tag ∷ []), e)
