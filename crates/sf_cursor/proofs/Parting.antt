-- A stretch is cut at the shallowest level that has later siblings.
use Rattle.std.proofs.Common.{◌≡◌, ℕ, suc, ◌+◌, ◌-◌, ◌<◌, ◌≤◌, List, [], ◌∷◌, ◌++◌, map, take, get_or, length, append_assoc, append-nil, length-append, arith, ap, sym, subst, ◌∙◌, true, inl, inr, IfSome}
use Rattle.sf_cursor.proofs.Common.{zero, take_more, length-take-le, Design, Step, Parts, root, after, walk, CanStep, CanWalk, later, behind, steps-after, Level, Path, AreLevels, IsPath, IsParted, beyond, waiting}
use Rattle.std.proofs.lemmas.Bool.{cases_eq}
use Rattle.sf_cursor.proofs.Ways.{beyond-after, beyond-none, over, farther}

-- a cursor on the way to another one's subproblem, with nothing beyond the floor
pub record IsOnWay (design : Design) (bound : Parts → ℕ) (floor : ℕ) (old part : Path) (level : ℕ) : Type 0 where
  pub at : IsPath design bound part
  pub steps : part.node.steps ≡ take level old.node.steps
  pub none : beyond floor (root design) part.node.steps ≡ []

-- a stretch is cut in two at any level
beyond-cut : (floor level : ℕ) (node : Parts) (ss : List Step) → floor ≤ level → level ≤ length ss → beyond floor node ss ≡ beyond level node ss ++ beyond floor node (take level ss)
beyond-cut zero zero node ss h k = sym (append-nil (behind node ss))
beyond-cut zero (suc l) node [] h k = absurd (omega (arith, k))
beyond-cut zero (suc l) node (s ∷ ss) h k =
    ap (λ z. z ++ map (after node) (later node s)) (beyond-cut zero l (after node s) ss (omega arith) (omega (arith, k)))
    ∙ append_assoc (beyond l (after node s) ss) (behind (after node s) (take l ss)) (map (after node) (later node s))
beyond-cut (suc f) zero node ss h k = absurd (omega (arith, h))
beyond-cut (suc f) (suc l) node [] h k = absurd (omega (arith, k))
beyond-cut (suc f) (suc l) node (s ∷ ss) h k = beyond-cut f l (after node s) ss (omega (arith, h)) (omega (arith, k))

-- each step of a way can be taken where those before it lead
can-at : (node : Parts) (ss : List Step) (i : ℕ) (d : Step) → CanWalk node ss → i < length ss → CanStep (walk node (take i ss)) (get_or ss i d)
can-at node [] i d can h = absurd (omega (arith, h))
can-at node (s ∷ ss) zero d can h = can.0
can-at node (s ∷ ss) (suc i) d can h = can-at (after node s) ss i d can.1 (omega (arith, h))

-- the value of a level is that of the subproblem there
level-at : (bound : Parts → ℕ) (node : Parts) (ss : List Step) (ls : List Level) (i : ℕ) (level : Level) → AreLevels bound node ss ls → i < length ss → level ≡ get_or ls i level → IfSome level.value (λ value. value ≡ bound (walk node (take i ss)))
level-at bound node [] ls i level all h e = absurd (omega (arith, h))
level-at bound node (s ∷ ss) [] i level all h e = absurd all
level-at bound node (s ∷ ss) (l ∷ ls) zero level all h e = subst (λ z. IfSome z.value (λ value. value ≡ bound node)) (sym e) all.0.worth
level-at bound node (s ∷ ss) (l ∷ ls) (suc i) level all h e = level-at bound (after node s) ss ls i level all.1 (omega (arith, h)) e

module _ (design : Design) (bound : Parts → ℕ) (floor : ℕ) (old part : Path) (level : ℕ) (ss : List Step) (d : Step) (at : IsPath design bound old) (on : IsOnWay design bound floor old part level) (same : ss ≡ old.node.steps) (less : level < length ss) where
  -- the next step of the way
  abbrev step : Step
  step = get_or ss level d

  is : step ≡ get_or old.node.steps level d
  is = ap (λ xs. get_or xs level d) same

  lt : level < length old.node.steps
  lt = omega (arith, less, ap length same)

  -- the cursor stands where the first steps of the way lead
  stands : part.node ≡ walk (root design) (take level old.node.steps)
  stands = on.at.sub.is ∙ ap (walk (root design)) on.steps

  -- a level that is kept there has its value
  pub way-value : (levels : List Level) (kept : Level) → levels ≡ old.levels → kept ≡ get_or levels level kept → IfSome kept.value (λ value. value ≡ bound part.node)
  way-value levels kept kept-in e =
      subst (λ n. IfSome kept.value (λ value. value ≡ bound n)) (sym stands)
      (level-at bound (root design) old.node.steps old.levels level kept at.levels lt (subst (λ ls. kept ≡ get_or ls level kept) kept-in e))

  -- so the next step of the way can be taken
  pub way-can : CanStep part.node step
  way-can = subst (λ n. CanStep n step) (sym stands) (subst (CanStep (walk (root design) (take level old.node.steps))) (sym is) (can-at (root design) old.node.steps level d at.sub.reached lt))

  -- the way up to there
  way-more : take (level + 1) old.node.steps ≡ part.node.steps ++ step ∷ []
  way-more = take_more old.node.steps level d lt ∙ ap (λ s. take level old.node.steps ++ s ∷ []) (sym is) ∙ ap (λ ss. ss ++ step ∷ []) (sym on.steps)

  -- how far the cursor is
  far : length part.node.steps ≡ level
  far = ap length on.steps ∙ length-take-le level old.node.steps (omega (arith, lt))

  -- one step on, where no later one is beyond the floor
  pub way-on : (new : Path) → IsPath design bound new → new.node ≡ after part.node step → ((floor ≤ level) → later part.node step ≡ []) → IsOnWay design bound floor old new (level + 1)
  way-on new path e last =
      let steps : new.node.steps ≡ part.node.steps ++ step ∷ [] = ap (λ (n : Parts). n.steps) e ∙ steps-after part.node step in
      let none : beyond floor (root design) new.node.steps ≡ [] = elim (cases_eq (floor - level) 0) [
        | inl z ↦ (let low : floor ≤ level = omega (arith, z) in
            ap (beyond floor (root design)) (ap (λ (n : Parts). n.steps) e) ∙ beyond-after design floor part.node step on.at.sub (omega (arith, far, low))
            ∙ ap (λ z. map (after part.node) z ++ beyond floor (root design) part.node.steps) (last low) ∙ on.none)
        | inr z ↦ beyond-none floor (root design) new.node.steps (omega (arith, z, far, ap length steps, length-append part.node.steps (step ∷ [])))
      ] in
      record { at = path; steps = steps ∙ sym way-more; none = none }

  -- the siblings that come later are given away
  pub way-parts : (next : Step) (new : Path) → floor ≤ level → later part.node step ≡ next ∷ later part.node next → IsPath design bound new → new.node ≡ after part.node next → IsParted design bound floor old new (level + 1)
  way-parts next new low e path is_next =
      let longer : beyond floor (root design) (take (level + 1) old.node.steps) ≡ waiting design floor true new.node =
      ap (beyond floor (root design)) (way-more ∙ sym (steps-after part.node step)) ∙ beyond-after design floor part.node step on.at.sub (omega (arith, far, low))
      ∙ over design floor part.node next (later part.node step) on.at.sub (omega (arith, far, low)) e ∙ ap (waiting design floor true) (sym is_next) in
      record {
        at = path;
        lower = farther floor part.node new.node next (omega (arith, far, low)) is_next;
        keeps = omega (arith, lt);
        cut = ap (λ z. old.node ∷ z) (beyond-cut floor (level + 1) (root design) old.node.steps (omega (arith, low)) (omega (arith, lt)) ∙ ap (λ z. beyond (level + 1) (root design) old.node.steps ++ z) longer);
      }
