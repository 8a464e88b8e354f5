-- Runs with just the marks of a tree, in the order of their first paths, are the tree in preorder.
use Rattle.std.proofs.Common.{◌≡◌, ℕ, min, List, [], ◌∷◌, ◌++◌, map, arith, refl, ap, sym, subst, ◌∙◌, true, false, Bool, Less, Ordering}
use Rattle.sf_pieces.proofs.Common.{AllByRecursion, is_lt, ordering_reverse, map-append, Design, EachPair, EachPair-map, EachPair-weaker, each-map, total, total-map, Parts, root, after, CanStep, IsSubproblem, later, behind, pending, rank, steps_cmp, root-subproblem, Mark, Tag, made, marks, MaySplit, tags_alike, tags_alike-refl, tags_alike-same, IsGood, on_total, nat_cmp_total, lists_total, tied_itself, alike, alike-refl, alike-same, same-node}
use Rattle.sf_certificate.proofs.Ascending.{marks-rising}
use Rattle.sf_pieces.proofs.Pieces.{laid}
use Rattle.sf_pieces.proofs.Preorder as line
use Rattle.sf_pieces.proofs.Tree.{marked, IsOrder, pieces-assemble}
use Rattle.sf_pieces.proofs.Branching.{firsts, firsts-made, same-behind, subproblems-branch}
use Rattle.sf_pieces.proofs.Ahead.{next-ahead}

-- a run of tags: its first subproblem, the tag there, and the tags behind it
abbrev pub Run : Type 0
Run = Parts × Tag × List Tag

-- the subproblems of a run with their tags
abbrev pub run_marks : Design → Run → List Mark
run_marks design r = marks (pending design true r.0) (r.1 ∷ r.2)

-- those of all runs
abbrev pub all_marks : Design → List Run → List Mark
all_marks design [] = []
all_marks design (r ∷ rs) = run_marks design r ++ all_marks design rs

-- a mark as a pair, and back
abbrev pair : Mark → Parts × Tag
pair m = (m.node, m.tag)

abbrev unpair : Parts × Tag → Mark
unpair p = record { node = p.0; tag = p.1 }

unpaired : (ms : List Mark) → map unpair (map pair ms) ≡ ms
unpaired [] = refl
unpaired (m ∷ ms) = ap (λ z. m ∷ z) (unpaired ms)

-- marks of both kinds are the same
pairs : (ns : List Parts) (ts : List Tag) → line.marks after later firsts ns ts ≡ map pair (marks ns ts)
pairs [] ts = refl
pairs (n ∷ ns) [] = refl
pairs (n ∷ ns) (t ∷ ts) = ap (λ z. (n, t) ∷ line.marks after later firsts (z ++ ns) ts) (firsts-made t n) ∙ ap (λ z. (n, t) ∷ z) (pairs (made t n ++ ns) ts)

lt-less : (o : Ordering) → is_lt o ≡ true → o ≡ Less
lt-less o h = grind (arith, h)

module _ (design : Design) where
  -- the order of the tree's subproblems
  abbrev less : Parts → Parts → Bool
  less a b = is_lt (steps_cmp a.steps b.steps)

  abbrev same_marks : Parts × Tag → Parts × Tag → ℕ
  same_marks a b = min (tags_alike a.1 b.1) (alike a.0.steps b.0.steps)

  ordered : IsOrder after later firsts (root design) (λ n. n.steps) (IsSubproblem design) CanStep MaySplit (subproblems-branch design) less same_marks
  ordered = record {
    apart = λ a b h. ap is_lt ((lists_total (on_total rank nat_cmp_total)).antisymm b.steps a.steps ∙ ap ordering_reverse (lt-less (steps_cmp a.steps b.steps) h));
    never = λ a. ap is_lt (tied_itself (lists_total (on_total rank nat_cmp_total)) a.steps);
    ahead = λ n t y rest sub may e. ap is_lt (next-ahead design t n y rest sub (sym (ap (λ z. z ++ line.behind after later firsts (root design) n.steps) (firsts-made t n) ∙ ap (λ z. made t n ++ z) (same-behind (root design) n.steps)) ∙ e));
    self = λ a. omega (arith, tags_alike-refl a.1, alike-refl a.0.steps);
    same = λ a b g k h. both a b (same-node design a.0 b.0 g.0 k.0 (alike-same a.0.steps b.0.steps (omega (arith, h)))) (tags_alike-same a.1 b.1 (omega (arith, h)));
  }
    where
      both : (a b : Parts × Tag) → a.0 ≡ b.0 → a.1 ≡ b.1 → a ≡ b
      both a b p q = ap (λ (x : Parts). (x, a.1)) p ∙ ap (λ (y : Tag). (b.0, y)) q

  -- a piece's marks, as pairs
  abbrev marked_of : Run → (Parts × Tag) × List (Parts × Tag)
  marked_of p = marked after later firsts (root design) (λ n. n.steps) (IsSubproblem design) CanStep MaySplit (subproblems-branch design) p

  laid-pairs : (ps : List Run) → laid (map marked_of ps) ≡ map pair (all_marks design ps)
  laid-pairs [] = refl
  laid-pairs (p ∷ ps) =
      let n = p.0 in
      let t = p.1 in
      let here : line.marks after later firsts (map (after n) (firsts t n) ++ line.behind after later firsts (root design) n.steps) p.2 ≡ map pair (marks (made t n ++ behind (root design) n.steps) p.2) =
      ap (λ z. line.marks after later firsts (z ++ line.behind after later firsts (root design) n.steps) p.2) (firsts-made t n) ∙ ap (λ z. line.marks after later firsts (made t n ++ z) p.2) (same-behind (root design) n.steps) ∙ pairs (made t n ++ behind (root design) n.steps) p.2 in
      ap (λ z. (n, t) ∷ (z ++ laid (map marked_of ps))) here ∙ ap (λ z. (n, t) ∷ (map pair (marks (made t n ++ behind (root design) n.steps) p.2) ++ z)) (laid-pairs ps)
      ∙ sym (map-append pair (run_marks design p) (all_marks design ps))

  sorted-pairs : (ps : List Run) → EachPair (λ (p q : Run). is_lt (steps_cmp q.0.steps p.0.steps) ≡ false) ps → EachPair (λ a b. less b.0.0 a.0.0 ≡ false) (map marked_of ps)
  sorted-pairs [] h = tt
  sorted-pairs (p ∷ ps) h = (one p ps h.0, sorted-pairs ps h.1)
    where
      one : (a : Run) (qs : List Run) → AllByRecursion (λ (q : Run). is_lt (steps_cmp q.0.steps a.0.steps) ≡ false) qs → AllByRecursion (λ b. less b.0.0 a.0 ≡ false) (map marked_of qs)
      one a [] k = tt
      one a (q ∷ qs) k = (k.0, one a qs k.1)

  -- runs with just the marks of a tree, in the order of their first paths, are the tree in preorder
  pub assembled : (tag : Tag) (tags : List Tag) (pieces : List Run) → AllByRecursion (IsGood design) (marks (root design ∷ []) (tag ∷ tags)) → AllByRecursion (IsGood design) (all_marks design pieces)
      → EachPair (λ (p q : Run). is_lt (steps_cmp q.0.steps p.0.steps) ≡ false) pieces → ((f : Mark → ℕ) → total f (marks (root design ∷ []) (tag ∷ tags)) ≡ total f (all_marks design pieces))
      → all_marks design pieces ≡ marks (root design ∷ []) (tag ∷ tags)
  assembled tag tags pieces good goods sorted same =
      let tree = marks (root design ∷ []) (tag ∷ tags) in
      let is = pairs (root design ∷ []) (tag ∷ tags) in
      let of = laid-pairs pieces in
      let whole : laid (map marked_of pieces) ≡ line.marks after later firsts (root design ∷ []) (tag ∷ tags) =
      pieces-assemble after later firsts (root design) (λ n. n.steps) (IsSubproblem design) CanStep MaySplit (subproblems-branch design) less same_marks ordered tag tags pieces refl (root-subproblem design)
      (subst (AllByRecursion (λ m. IsSubproblem design m.0 × MaySplit m.1 m.0)) (sym is) (each-map (λ m. IsSubproblem design m.0 × MaySplit m.1 m.0) pair tree good))
      (subst (AllByRecursion (λ m. IsSubproblem design m.0 × MaySplit m.1 m.0)) (sym of) (each-map (λ m. IsSubproblem design m.0 × MaySplit m.1 m.0) pair (all_marks design pieces) goods))
      (subst (EachPair (λ a b. less a.0 b.0 ≡ true)) (sym is) (EachPair-map (λ a b. less a.0 b.0 ≡ true) pair tree (EachPair-weaker (λ (a b : Mark). steps_cmp a.node.steps b.node.steps ≡ Less) (λ a b. less a.node b.node ≡ true) (λ a b h. ap is_lt h) tree (marks-rising (root design ∷ []) (tag ∷ tags) (tt, tt)))))
      (sorted-pairs pieces sorted)
      (λ f. ap (total f) is ∙ total-map f pair tree ∙ same (λ m. f (pair m)) ∙ sym (total-map f pair (all_marks design pieces)) ∙ ap (total f) (sym of)) in
      sym (unpaired (all_marks design pieces)) ∙ ap (map unpair) (sym of ∙ whole ∙ is) ∙ unpaired tree
