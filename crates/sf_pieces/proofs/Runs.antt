-- Pieces as runs of tags: the law of pieces.
use Rattle.std.proofs.Common.{◌≡◌, ℕ, suc, ◌<◌, List, [], ◌∷◌, ◌++◌, length, get_or, All, arith, refl, ap, sym, subst, ◌∙◌, Bool, true, false, Bor, IsPermutation, Ordering}
use Rattle.sf_pieces.proofs.Common.{IsSortedBy, AllByRecursion, is_lt, recursion_from_All, ranks_by, sorted_far, Design, EachPair, Parts, root, walk, pending, rank, steps_cmp, Mark, Tag, marks, total, total-permutation, Piece, AreInOrder, IsGood, marks_in, told_by, on_total, nat_cmp_total, lists_total}
use Rattle.std.specs.Cmp.{IsStrictWeakOrder}
use Rattle.std.specs.Fn.{Called, ComparesAs}
use Rattle.std.proofs.lemmas.Fn.{always_returns_same}
use denote.Param.Members.{Mut}
use Rattle.sf_pieces.proofs.Branching.{steps-walk}
use Rattle.sf_pieces.proofs.Assembled.{Run, all_marks, assembled}

-- the run of tags from a subproblem on, or none where there is no tag
abbrev run_from : Parts → List Tag → List Run
run_from n [] = []
run_from n (t ∷ ts) = (n, t, ts) ∷ []

-- the second piece does not begin before the first
abbrev pub IsNotBefore : Piece → Piece → Type 0
IsNotBefore p q = is_lt (steps_cmp q.first.items p.first.items) ≡ false

-- nor does the second run
abbrev RunNotBefore : Run → Run → Type 0
RunNotBefore r s = is_lt (steps_cmp s.0.steps r.0.steps) ≡ false

module _ (design : Design) where
  -- where a piece begins
  abbrev start_of : Piece → Parts
  start_of p = walk (root design) p.first.items

  -- the runs of pieces
  abbrev runs : List Piece → List Run
  runs [] = []
  runs (p ∷ ps) = run_from (start_of p) p.tags.items ++ runs ps

  -- a run in front of others
  run-marks : (n : Parts) (ts : List Tag) (rest : List Run) → all_marks design (run_from n ts ++ rest) ≡ marks (pending design true n) ts ++ all_marks design rest
  run-marks n [] rest = refl
  run-marks n (t ∷ ts) rest = refl

  -- the subproblems of the runs are those of the pieces
  runs-marks : (ps : List Piece) → all_marks design (runs ps) ≡ told_by design ps
  runs-marks [] = refl
  runs-marks (p ∷ ps) = run-marks (start_of p) p.tags.items (runs ps) ∙ ap (λ z. marks_in design p ++ z) (runs-marks ps)

  -- what holds of the runs that are there holds of one more
  run-each : (P : Run → Type 0) (n : Parts) (ts : List Tag) (rest : List Run) → ((t : Tag) (us : List Tag) → P (n, t, us)) → AllByRecursion P rest → AllByRecursion P (run_from n ts ++ rest)
  run-each P n [] rest h k = k
  run-each P n (t ∷ ts) rest h k = (h t ts, k)

  -- runs of pieces that do not begin before a run do not, either
  runs-each : (r : Run) (ps : List Piece) → AllByRecursion (λ p. is_lt (steps_cmp p.first.items r.0.steps) ≡ false) ps → AllByRecursion (RunNotBefore r) (runs ps)
  runs-each r [] h = tt
  runs-each r (p ∷ ps) h =
      run-each (RunNotBefore r) (start_of p) p.tags.items (runs ps)
      (λ t us. subst (λ ss. is_lt (steps_cmp ss r.0.steps) ≡ false) (sym (steps-walk p.first.items (root design))) h.0)
      (runs-each r ps h.1)

  -- one run more in front
  run-pairs : (n : Parts) (ts : List Tag) (rest : List Run) → ((t : Tag) (us : List Tag) → AllByRecursion (RunNotBefore (n, t, us)) rest) → EachPair RunNotBefore rest → EachPair RunNotBefore (run_from n ts ++ rest)
  run-pairs n [] rest h k = k
  run-pairs n (t ∷ ts) rest h k = (h t ts, k)

  -- runs stand as their pieces do
  runs-pairs : (ps : List Piece) → EachPair IsNotBefore ps → EachPair RunNotBefore (runs ps)
  runs-pairs [] h = tt
  runs-pairs (p ∷ ps) h =
      run-pairs (start_of p) p.tags.items (runs ps)
      (λ t us. runs-each (start_of p, t, us) ps (subst (λ ss. AllByRecursion (λ (q : Piece). is_lt (steps_cmp q.first.items ss) ≡ false) ps) (sym (steps-walk p.first.items (root design))) h.0))
      (runs-pairs ps h.1)

  -- pieces with just the subproblems of a tree, in the order of their first paths, are the tree in preorder
  pub pieces-tree : (tags : List Tag) (ps : List Piece) → AllByRecursion (IsGood design) (marks (root design ∷ []) tags) → AllByRecursion (IsGood design) (told_by design ps)
      → EachPair IsNotBefore ps → ((f : Mark → ℕ) → total f (marks (root design ∷ []) tags) ≡ total f (told_by design ps)) → told_by design ps ≡ marks (root design ∷ []) tags
  pieces-tree [] ps good goods sorted same = none (told_by design ps) (sym (same (λ m. 1)))
    where
      none : (ms : List Mark) → total (λ (m : Mark). 1) ms ≡ 0 → ms ≡ []
      none [] h = refl
      none (m ∷ ms) h = absurd (omega arith)
  pieces-tree (tag ∷ tags) ps good goods sorted same =
      let is = runs-marks ps in
      sym is ∙ assembled design tag tags (runs ps) good (subst (AllByRecursion (IsGood design)) (sym is) goods) (runs-pairs ps sorted)
      (λ f. same f ∙ ap (total f) (sym is))

-- what holds of each two places holds of each two, by recursion
each-pair_index : {X : Type 0} (R : X → X → Type 0) (xs : List X) → ((i j : ℕ) (d : X) → i < j → j < length xs → R (get_or xs i d) (get_or xs j d)) → EachPair R xs
each-pair_index R [] h = tt
each-pair_index R (x ∷ xs) h = (
  recursion_from_All (R x) xs (λ i d k. h 0 (suc i) d (omega arith) (omega arith)),
  each-pair_index R xs (λ i j d k l. h (suc i) (suc j) d (omega arith) (omega arith)),
)

-- of pieces that are in order none begins before an earlier one
pub order-pairs : (ps : List Piece) → AreInOrder ps → EachPair IsNotBefore ps
order-pairs ps sorted =
    each-pair_index IsNotBefore ps (λ i j d h k.
    sorted_far (λ (p q : Piece). is_lt (steps_cmp p.first.items q.first.items)) (ranks_by (lists_total (on_total rank nat_cmp_total)) (λ (p : Piece). p.first.items)) ps sorted i j d (omega arith) k)

-- the law of pieces
pub pieces-law : (design : Design) (tags : List Tag) (pieces : List Piece) → All (IsGood design) (marks (root design ∷ []) tags) → All (IsGood design) (told_by design pieces)
    → AreInOrder pieces → IsPermutation (marks (root design ∷ []) tags) (told_by design pieces) → told_by design pieces ≡ marks (root design ∷ []) tags
pieces-law design tags pieces good goods order same =
    pieces-tree design tags pieces (recursion_from_All (IsGood design) (marks (root design ∷ []) tags) good) (recursion_from_All (IsGood design) (told_by design pieces) goods)
    (order-pairs pieces order) (λ f. total-permutation f (marks (root design ∷ []) tags) (told_by design pieces) same)

-- what a sort by first paths gives is in order
pub from_sort_by : {F : Type 0} {g : Mut F (Bor Piece × (Bor Piece × Unit {0})) Ordering} {f : F} (ps : List Piece)
    → ((lt : Piece → Piece → Bool) → IsStrictWeakOrder lt → ComparesAs g lt f → IsSortedBy lt ps)
    → ((a : Bor Piece × (Bor Piece × Unit {0})) (r : Ordering) (f' : F) → Called g f a r f' → (r ≡ steps_cmp a.0.now.first.items a.1.0.now.first.items) × (f' ≡ f))
    → AreInOrder ps
from_sort_by {g = g} {f = f} ps up h =
    up (λ p q. is_lt (steps_cmp p.first.items q.first.items)) (ranks_by (lists_total (on_total rank nat_cmp_total)) (λ (p : Piece). p.first.items))
    (always_returns_same g (λ a r. is_lt r ≡ is_lt (steps_cmp a.0.now.first.items a.1.0.now.first.items)) f (λ a r f' k. (ap is_lt (h a r f' k).0, (h a r f' k).1)))
