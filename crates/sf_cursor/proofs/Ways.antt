-- The levels of a way, one step on and one step back.
use Rattle.std.proofs.Common.{◌≡◌, ℕ, suc, ◌+◌, ◌-◌, ◌<◌, ◌≤◌, List, [], ◌∷◌, ◌++◌, map, take, length, length-append, arith, refl, ap, sym, subst, ◌∙◌, true, false, Option, Some, slice_get, IfSome}
use Rattle.sf_cursor.proofs.Common.{zero, same_from_push, nil_from_length, length_push, Design, operands, Step, Left, Parts, root, after, walk, extended, split, CanStep, IsSubproblem, later, extending, halved, HalvesOne, IsChildOf, subproblem-shallow, steps-after, after-subproblem, subproblem-spans, spans-after, came-from, behind-append, later-can, extending-can, extending-is, Level, Path, IsLevel, AreLevels, AreUsed, flags_after, step_blocks, NamesOne, IsPath, IsBack, IsOneWay, most_steps, beyond, waiting}
use Rattle.std.specs.List.{AllByRecursion}
use Rattle.std.proofs.lemmas.Option.{IfSome_then}
use Rattle.sf_cursor.proofs.Flags.{used-on, used-back, operands-after, names-one}

-- one step more
levels-on : (bound : Parts → ℕ) (node : Parts) (ss : List Step) (ls : List Level) (s : Step) (level : Level) → AreLevels bound node ss ls → IsLevel bound (walk node ss) s level → AreLevels bound node (ss ++ s ∷ []) (ls ++ level ∷ [])
levels-on bound node [] [] s level all here = (here, tt)
levels-on bound node [] (l ∷ ls) s level all here = absurd all
levels-on bound node (x ∷ ss) [] s level all here = absurd all
levels-on bound node (x ∷ ss) (l ∷ ls) s level all here = (all.0, levels-on bound (after node x) ss ls s level all.1 here)

-- one step fewer
record AreBefore (bound : Parts → ℕ) (node : Parts) (ss : List Step) (ls : List Level) (s : Step) (level : Level) : Type 0 where
  levels : AreLevels bound node ss ls
  last : IsLevel bound (walk node ss) s level

-- a way of no step has no level
none-left : (bound : Parts → ℕ) (node : Parts) (ls : List Level) (level : Level) → AreLevels bound node [] (ls ++ level ∷ []) → ⊥
none-left bound node [] level all = all
none-left bound node (l ∷ ls) level all = all

-- a way of some steps has levels
some-left : (bound : Parts → ℕ) (node : Parts) (ss : List Step) (s : Step) → AreLevels bound node (ss ++ s ∷ []) [] → ⊥
some-left bound node [] s all = all
some-left bound node (x ∷ ss) s all = all

-- without the last step and the last level the others are left
levels-back : (bound : Parts → ℕ) (node : Parts) (ss : List Step) (ls : List Level) (s : Step) (level : Level) → AreLevels bound node (ss ++ s ∷ []) (ls ++ level ∷ []) → AreBefore bound node ss ls s level
levels-back bound node [] [] s level all = record { levels = tt; last = all.0 }
levels-back bound node [] (l ∷ ls) s level all = absurd (none-left bound (after node s) ls level all.1)
levels-back bound node (x ∷ ss) [] s level all = absurd (some-left bound (after node x) ss s all.1)
levels-back bound node (x ∷ ss) (l ∷ ls) s level all =
    let before = levels-back bound (after node x) ss ls s level all.1 in
    record { levels = (all.0, before.levels); last = before.last }

-- there are as many levels as steps
pub levels-many : (bound : Parts → ℕ) (node : Parts) (ss : List Step) (ls : List Level) → AreLevels bound node ss ls → length ls ≡ length ss
levels-many bound node [] [] all = refl
levels-many bound node [] (l ∷ ls) all = absurd all
levels-many bound node (s ∷ ss) [] all = absurd all
levels-many bound node (s ∷ ss) (l ∷ ls) all = omega (arith, levels-many bound (after node s) ss ls all.1)

-- a way keeps as many levels as it has steps, and those are few
pub one-way : (design : Design) (bound : Parts → ℕ) (path : Path) → IsPath design bound path → IsOneWay design path
one-way design bound path at =
    record { sub = at.sub; few = omega (arith, subproblem-shallow design path.node at.sub); each = levels-many bound (root design) path.node.steps path.levels at.levels }

-- with one level more they are still few, where one more step can be taken
pub few-on : (design : Design) (bound : Parts → ℕ) (path : Path) (s : Step) (old new : List Level) (level : Level) → IsPath design bound path → CanStep path.node s → old ≡ path.levels → new ≡ old ++ level ∷ [] → length new ≤ most_steps
few-on design bound path s old new level at can same more =
    omega (
      arith,
      levels-many bound (root design) path.node.steps path.levels at.levels,
      ap length (steps-after path.node s),
      length-append path.node.steps (s ∷ []),
      subproblem-shallow design (after path.node s) (after-subproblem design path.node s at.sub can),
      ap length same,
      ap length more,
      length_push old level,
    )

-- one step on, with its level
pub path-on : (design : Design) (bound : Parts → ℕ) (old new : Path) (s : Step) (level : Level) → IsPath design bound old → CanStep old.node s → IsLevel bound old.node s level → new.node ≡ after old.node s → new.levels ≡ old.levels ++ level ∷ []
    → new.used ≡ flags_after old.used s true → new.operands ≡ old.operands + step_blocks s → IsPath design bound new
path-on design bound old new s level at can l n ls u o =
    let steps : new.node.steps ≡ old.node.steps ++ s ∷ [] = ap (λ (m : Parts). m.steps) n ∙ steps-after old.node s in
    record {
      sub = subst (IsSubproblem design) (sym n) (after-subproblem design old.node s at.sub can);
      levels = subst (AreLevels bound (root design) new.node.steps) (sym ls)
          (subst (λ ss. AreLevels bound (root design) ss (old.levels ++ level ∷ [])) (sym steps)
          (levels-on bound (root design) old.node.steps old.levels s level at.levels (subst (λ m. IsLevel bound m s level) at.sub.is l)));
      used = subst (λ m. AreUsed m new.used) (sym n) (subst (AreUsed (after old.node s)) (sym u) (used-on old.node s old.used can at.used));
      operands = omega (arith, o, at.operands, operands-after old.node s, ap (λ (m : Parts). operands m.tokens) n);
    }

-- the level that is taken off is that of the last step
pub path-back : (design : Design) (bound : Parts → ℕ) (old new : Path) (front : List Step) (s : Step) (level : Level) → IsPath design bound old → old.node.steps ≡ front ++ s ∷ [] → old.levels ≡ new.levels ++ level ∷ []
    → ((before : Parts) → old.node ≡ after before s → level.span ≡ halved before s → new.node ≡ before)
    → new.used ≡ flags_after old.used s false → new.operands ≡ old.operands - step_blocks s → IsBack design bound old.node s level.value new
path-back design bound old new front s level at e ls leaves u o =
    let from = came-from design old.node front s at.sub e in
    let before = walk (root design) front in
    let both : AreLevels bound (root design) (front ++ s ∷ []) (new.levels ++ level ∷ []) =
    subst (AreLevels bound (root design) (front ++ s ∷ [])) ls (subst (λ ss. AreLevels bound (root design) ss old.levels) e at.levels) in
    let parts = levels-back bound (root design) front new.levels s level both in
    let here : new.node ≡ before = leaves before from.is parts.last.span in
    let steps : before.steps ≡ front = (same_from_push before.steps front s s (sym (steps-after before s) ∙ ap (λ (n : Parts). n.steps) (sym from.is) ∙ e)).0 in
    record {
      at = record {
        sub = subst (IsSubproblem design) (sym here) from.sub;
        levels = subst (λ ss. AreLevels bound (root design) ss new.levels) (sym (ap (λ (n : Parts). n.steps) here ∙ steps)) parts.levels;
        used = subst (λ m. AreUsed m new.used) (sym here) (subst (AreUsed before) (sym u) (used-back before s old.used from.can (subst (λ m. AreUsed m old.used) from.is at.used)));
        operands = omega (arith, o, at.operands, ap (λ (m : Parts). operands m.tokens) from.is, operands-after before s, ap (λ (m : Parts). operands m.tokens) here);
      };
      can = subst (λ n. CanStep n s) (sym here) from.can;
      is = from.is ∙ ap (λ n. after n s) (sym here);
      worth = subst (λ n. IfSome level.value (λ v. v ≡ bound n)) (sym here) parts.last.worth;
    }

-- what is beyond a longer way: the later steps at its end, and what was beyond before
pub beyond-append : (floor : ℕ) (node : Parts) (ss : List Step) (s : Step) → floor ≤ length ss → beyond floor node (ss ++ s ∷ []) ≡ map (after (walk node ss)) (later (walk node ss) s) ++ beyond floor node ss
beyond-append zero node ss s h = behind-append node ss s
beyond-append (suc k) node [] s h = absurd (omega (arith, h))
beyond-append (suc k) node (x ∷ ss) s h = beyond-append k (after node x) ss s (omega (arith, h))

-- what is beyond a child: its later siblings, and what is beyond the subproblem itself
pub beyond-after : (design : Design) (floor : ℕ) (node : Parts) (s : Step) → IsSubproblem design node → floor ≤ length node.steps → beyond floor (root design) (after node s).steps ≡ map (after node) (later node s) ++ beyond floor (root design) node.steps
beyond-after design floor node s sub h =
    ap (beyond floor (root design)) (steps-after node s) ∙ beyond-append floor (root design) node.steps s h
    ∙ ap (λ n. map (after n) (later n s) ++ beyond floor (root design) node.steps) (sym sub.is)

-- nothing is beyond a way that ends at the floor
pub beyond-none : (floor : ℕ) (node : Parts) (ss : List Step) → length ss ≤ floor → beyond floor node ss ≡ []
beyond-none zero node [] h = refl
beyond-none zero node (s ∷ ss) h = absurd (omega (arith, h))
beyond-none (suc k) node [] h = refl
beyond-none (suc k) node (s ∷ ss) h = beyond-none k (after node s) ss (omega (arith, h))

-- entering the first of some steps
pub over : (design : Design) (floor : ℕ) (node : Parts) (s : Step) (steps : List Step) → IsSubproblem design node → floor ≤ length node.steps → steps ≡ s ∷ later node s → map (after node) steps ++ beyond floor (root design) node.steps ≡ waiting design floor true (after node s)
over design floor node s steps sub h e =
    ap (λ z. map (after node) z ++ beyond floor (root design) node.steps) e ∙ ap (λ z. after node s ∷ z) (sym (beyond-after design floor node s sub h))

-- past a subproblem whose last step has no later one
pub passed : (design : Design) (bound : Parts → ℕ) (floor : ℕ) (old : Parts) (s : Step) (value : Option ℕ) (new : Path) → IsBack design bound old s value new → floor ≤ length new.node.steps → later new.node s ≡ [] → beyond floor (root design) old.steps ≡ beyond floor (root design) new.node.steps
passed design bound floor old s value new back h none =
    ap (λ (n : Parts). beyond floor (root design) n.steps) back.is ∙ beyond-after design floor new.node s back.at.sub h ∙ ap (λ z. map (after new.node) z ++ beyond floor (root design) new.node.steps) none

-- past a subproblem, over to the step that comes next
pub turned : (design : Design) (bound : Parts → ℕ) (floor : ℕ) (old : Parts) (s next : Step) (value : Option ℕ) (new : Path) (child : Parts) → IsBack design bound old s value new → floor ≤ length new.node.steps → later new.node s ≡ next ∷ later new.node next → child ≡ after new.node next → waiting design floor true child ≡ beyond floor (root design) old.steps
turned design bound floor old s next value new child back h e is =
    ap (waiting design floor true) is ∙ sym (over design floor new.node next (later new.node s) back.at.sub h e) ∙ sym (beyond-after design floor new.node s back.at.sub h) ∙ ap (λ (n : Parts). beyond floor (root design) n.steps) (sym back.is)

-- one step on is no less far from the floor
pub farther : (floor : ℕ) (node child : Parts) (s : Step) → floor ≤ length node.steps → child ≡ after node s → floor ≤ length child.steps
farther floor node child s h is = omega (arith, h, ap (λ (n : Parts). length n.steps) is, ap length (steps-after node s), length-append node.steps (s ∷ []))

-- the step that comes next after one that can be taken can be
pub next-can : (node : Parts) (s next : Step) → CanStep node s → later node s ≡ next ∷ later node next → CanStep node next
next-can node s next can e = let all = subst (AllByRecursion (CanStep node)) e (later-can node s can) in all.0

-- the first step by which a subproblem is extended can be taken
pub first-can : (node : Parts) (next : Step) → extending node ≡ next ∷ later node next → CanStep node next
first-can node next e = let all = subst (AllByRecursion (CanStep node)) e (extending-can node) in all.0

-- over to the first child by extending
pub extended-first : (design : Design) (floor : ℕ) (node child : Parts) (next : Step) → IsSubproblem design node → floor ≤ length node.steps → extending node ≡ next ∷ later node next → child ≡ after node next → waiting design floor true child ≡ extended node ++ beyond floor (root design) node.steps
extended-first design floor node child next sub h e is =
    ap (waiting design floor true) is ∙ sym (over design floor node next (extending node) sub h e) ∙ ap (λ z. z ++ beyond floor (root design) node.steps) (extending-is node)

-- past a subproblem that has no child by extending
pub extended-none : (design : Design) (floor : ℕ) (node : Parts) → extending node ≡ [] → beyond floor (root design) node.steps ≡ extended node ++ beyond floor (root design) node.steps
extended-none design floor node e = ap (λ z. z ++ beyond floor (root design) node.steps) (sym (ap (map (after node)) e) ∙ extending-is node)

-- over to the first half of a span
pub split-first : (design : Design) (floor : ℕ) (node child : Parts) (b : ℕ) → IsSubproblem design node → floor ≤ length node.steps → child ≡ after node (Left b) → waiting design floor true child ≡ split node b ++ beyond floor (root design) node.steps
split-first design floor node child b sub h is = ap (waiting design floor true) is ∙ sym (over design floor node (Left b) (Left b ∷ later node (Left b)) sub h refl)

-- there are few spans
pub few-spans : (design : Design) (bound : Parts → ℕ) (path : Path) → IsPath design bound path → length path.node.spans ≤ 320
few-spans design bound path at = omega (arith, subproblem-spans design path.node at.sub, design.limits.few_blocks)

-- a list that has a last item
last-at : {X : Type 0} (xs : List X) (i : ℕ) (x : X) → i + 1 ≡ length xs → Some x ≡ slice_get xs i → xs ≡ take i xs ++ x ∷ []
last-at [] i x h e = absurd (omega (arith, h))
last-at (y ∷ xs) zero x h e =
    let none : xs ≡ [] = nil_from_length xs (omega (arith, h)) in
    let same : y ≡ x = cc in
    ap (λ z. y ∷ z) none ∙ ap (λ z. z ∷ []) same
last-at (y ∷ xs) (suc i) x h e = ap (λ z. y ∷ z) (last-at xs i x (omega (arith, h)) e)

-- a list whose last item this is
last-of : {X : Type 0} (xs : List X) (x : X) → Some x ≡ slice_get xs (length xs - 1) → xs ≡ take (length xs - 1) xs ++ x ∷ []
last-of [] x e = absurd (cc)
last-of (y ∷ xs) x e = last-at (y ∷ xs) (length (y ∷ xs) - 1) x (omega arith) e

-- the same of a list that is equal
pub last-as : {X : Type 0} (xs ys : List X) (x : X) → xs ≡ ys → Some x ≡ slice_get xs (length xs - 1) → ys ≡ take (length ys - 1) ys ++ x ∷ []
last-as xs ys x same e = subst (λ zs. zs ≡ take (length zs - 1) zs ++ x ∷ []) same (last-of xs x e)

-- a step that halves a span halves one of a block that is there
halves-after : (before : Parts) (s : Step) → CanStep before s → HalvesOne (after before s) s
halves-after before s can = grind (arith, can, spans-after before s)

-- the last step of a way halves a span of a block that is there, if it halves one
pub halves-one : (design : Design) (bound : Parts → ℕ) (path : Path) (front : List Step) (s : Step) → IsPath design bound path → path.node.steps ≡ front ++ s ∷ [] → HalvesOne path.node s
halves-one design bound path front s at e =
    let from = came-from design path.node front s at.sub e in
    subst (λ n. HalvesOne n s) (sym from.is) (halves-after (walk (root design) front) s from.can)

-- some steps, the last of them apart
record HasLast (xs : List Step) : Type 0 where
  front : List Step
  last : Step
  is : xs ≡ front ++ last ∷ []

-- where there is a step there is a last one
has-last : (xs : List Step) → 0 < length xs → HasLast xs
has-last [] h = absurd (omega arith)
has-last (x ∷ []) h = record { front = []; last = x; is = refl }
has-last (x ∷ y ∷ ys) h =
    let more = has-last (y ∷ ys) (omega arith) in
    record { front = x ∷ more.front; last = more.last; is = ap (λ z. x ∷ z) more.is }

-- the last level has the value of the subproblem one step before, where it has one
pub level-above : (design : Design) (bound : Parts → ℕ) (path : Path) (levels : List Level) (level : Level) → IsPath design bound path → levels ≡ path.levels → Some level ≡ slice_get levels (length levels - 1) → IfSome level.value (λ value. IsChildOf design bound value path.node)
level-above design bound path levels level at same e =
    let all = last-of levels level e in
    let many : length path.node.steps ≡ length levels = sym (levels-many bound (root design) path.node.steps path.levels at.levels) ∙ sym (ap length same) in
    let here : length levels ≡ length (take (length levels - 1) levels) + 1 = ap length all ∙ length_push (take (length levels - 1) levels) level in
    let h = has-last path.node.steps (omega (arith, many, here)) in
    let from = came-from design path.node h.front h.last at.sub h.is in
    let before = walk (root design) h.front in
    let both : AreLevels bound (root design) (h.front ++ h.last ∷ []) (take (length levels - 1) levels ++ level ∷ []) =
    subst (AreLevels bound (root design) (h.front ++ h.last ∷ [])) (sym same ∙ all) (subst (λ ss. AreLevels bound (root design) ss path.levels) h.is at.levels) in
    let parts = levels-back bound (root design) h.front (take (length levels - 1) levels) h.last level both in
    IfSome_then level.value parts.last.worth (λ value worth. record { parent = before; step = h.last; sub = from.sub; can = from.can; is = from.is; worth = worth })

-- a block that the last step names has a flag
pub names-back : (design : Design) (bound : Parts → ℕ) (path : Path) (front : List Step) (s : Step) → IsPath design bound path → path.node.steps ≡ front ++ s ∷ [] → NamesOne s path.used
names-back design bound path front s at e =
    let from = came-from design path.node front s at.sub e in
    let before = walk (root design) front in
    names-one before s path.used from.can (at.used.each ∙ ap (λ (n : Parts). length n.spans) from.is ∙ spans-after before s)

-- the last step names no more blocks than are there
pub names-few : (design : Design) (bound : Parts → ℕ) (path : Path) (front : List Step) (s : Step) → IsPath design bound path → path.node.steps ≡ front ++ s ∷ [] → step_blocks s ≤ path.operands
names-few design bound path front s at e =
    let from = came-from design path.node front s at.sub e in
    let before = walk (root design) front in
    omega (arith, at.operands, ap (λ (n : Parts). operands n.tokens) from.is, operands-after before s)
