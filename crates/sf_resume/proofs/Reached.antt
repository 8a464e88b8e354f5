-- How far a stretch over open subproblems reaches: up to the next subproblem that is less deep than all before it.
use Rattle.std.proofs.Common.{◌≡◌, ℕ, suc, ◌+◌, ◌<◌, ◌≤◌, min, List, [], ◌∷◌, ◌++◌, length, map, take, drop, arith, refl, ap, sym, subst, ◌∙◌, Bool, true, false, Option, Some, None, append_assoc, append-nil, length-append, cond}
use Rattle.sf_resume.proofs.Common.{zero, nat_lt, unwrap_or, AllByRecursion, ltb-true, map-append, Design, each-any, each-append, each-map, each-weaker, Parts, root, after, behind, later, pending, steps-after, Tag, Open, waiting_after, waiting-more, beyond, waiting, Reading, IsReach, floor_of, IsReading, IsReadOn, opens, Step}
use Rattle.sf_cursor.proofs.Ways.{beyond-none}
use Rattle.sf_resume.proofs.Readings.{read-then}

-- how deep a subproblem is
abbrev depth : Parts → ℕ
depth node = length node.steps

-- a child is one step deeper
after-deeper : (node : Parts) (s : Step) → depth (after node s) ≡ suc (depth node)
after-deeper node s = omega (arith, ap length (steps-after node s), length-append node.steps (s ∷ []))

-- where later steps lead to is one step deeper
later-depth : (node : Parts) (ss : List Step) → AllByRecursion (λ n. depth n ≡ suc (depth node)) (map (after node) ss)
later-depth node ss = each-map (λ n. depth n ≡ suc (depth node)) (after node) ss (each-any (λ s. depth (after node s) ≡ suc (depth node)) (λ s. after-deeper node s) ss)

-- what is beyond a floor is deeper than it
deep-beyond : (k : ℕ) (node : Parts) (ss : List Step) → AllByRecursion (λ n. depth node + k < depth n) (beyond k node ss)
deep-beyond zero node [] = tt
deep-beyond zero node (s ∷ ss) =
    each-append (λ n. depth node + 0 < depth n) (behind (after node s) ss) (map (after node) (later node s))
    (each-weaker (λ n. depth (after node s) + 0 < depth n) (λ n. depth node + 0 < depth n) (λ n h. omega (arith, h, after-deeper node s)) (behind (after node s) ss) (deep-beyond zero (after node s) ss))
    (each-weaker (λ n. depth n ≡ suc (depth node)) (λ n. depth node + 0 < depth n) (λ n h. omega (arith, h)) (map (after node) (later node s)) (later-depth node (later node s)))
deep-beyond (suc k) node [] = tt
deep-beyond (suc k) node (s ∷ ss) =
    each-weaker (λ n. depth (after node s) + k < depth n) (λ n. depth node + suc k < depth n) (λ n h. omega (arith, h, after-deeper node s)) (beyond k (after node s) ss) (deep-beyond k (after node s) ss)

-- what is behind a way is at most as deep as that
shallow-behind : (node : Parts) (ss : List Step) → AllByRecursion (λ n. depth n ≤ depth node + length ss) (behind node ss)
shallow-behind node [] = tt
shallow-behind node (s ∷ ss) =
    each-append (λ n. depth n ≤ depth node + suc (length ss)) (behind (after node s) ss) (map (after node) (later node s))
    (each-weaker (λ n. depth n ≤ depth (after node s) + length ss) (λ n. depth n ≤ depth node + suc (length ss)) (λ n h. omega (arith, h, after-deeper node s)) (behind (after node s) ss) (shallow-behind (after node s) ss))
    (each-weaker (λ n. depth n ≡ suc (depth node)) (λ n. depth n ≤ depth node + suc (length ss)) (λ n h. omega (arith, h)) (map (after node) (later node s)) (later-depth node (later node s)))

-- what is behind a way is what is beyond a floor, and then what is behind the way up to there
pub behind-cut : (level : ℕ) (node : Parts) (ss : List Step) → behind node ss ≡ beyond level node ss ++ behind node (take level ss)
behind-cut zero node ss = sym (append-nil (behind node ss))
behind-cut (suc l) node [] = refl
behind-cut (suc l) node (s ∷ ss) =
    ap (λ z. z ++ map (after node) (later node s)) (behind-cut l (after node s) ss)
    ∙ append_assoc (beyond l (after node s) ss) (behind (after node s) (take l ss)) (map (after node) (later node s))

-- the first part of a list, all of which pass a test that the next one fails, is its longest such part
split-one : {X : Type 0} (P : X → Type 0) (xs us : List X) (y : X) (ys vs : List X) → xs ++ y ∷ ys ≡ us ++ vs → AllByRecursion P xs → (P y → ⊥) → AllByRecursion P us → AllByRecursion (λ v. P v → ⊥) vs → xs ≡ us
split-one P [] [] y ys vs e p n q m = refl
split-one P [] (u ∷ us) y ys vs e p n q m = (let same : u ≡ y = cc in absurd (n (subst P same q.0)))
split-one P (x ∷ xs) [] y ys [] e p n q m = absurd (cc)
split-one P (x ∷ xs) [] y ys (v ∷ vs) e p n q m = (let same : x ≡ v = cc in absurd (m.0 (subst P same p.0)))
split-one P (x ∷ xs) (u ∷ us) y ys vs e p n q m =
    let head : x ≡ u = cc in
    let rest : xs ++ y ∷ ys ≡ us ++ vs = cc in
    ap (λ z. z ∷ xs) head ∙ ap (λ z. u ∷ z) (split-one P xs us y ys vs rest p.1 n q.1 m)

module _ (design : Design) (bound : Parts → ℕ) (tags : List Tag) where
  -- these open subproblems were read from some one on, none of them less deep than this
  pub record IsAhead (old : Reading) (low : ℕ) (new : Reading) : Type 0 where
    pub nodes : List Parts
    pub read : IsReadOn design bound tags old (opens nodes) new
    pub passed : pending design true old.cursor.node ≡ nodes ++ pending design new.more new.cursor.node
    pub deep : AllByRecursion (λ n. low ≤ depth n) nodes
    pub above : low ≤ depth old.cursor.node

  -- what is next after an open tag is what was behind it
  open-next : (old new : Reading) → IsReading design bound tags old → old.more ≡ true → IsReadOn design bound tags old (Open ∷ []) new → pending design new.more new.cursor.node ≡ behind (root design) old.cursor.node.steps
  open-next old new r more one =
      sym one.reading.waiting ∙ ap (waiting_after (root design ∷ [])) one.on
      ∙ waiting-more (root design ∷ []) (take old.at tags) old.cursor.node (behind (root design) old.cursor.node.steps) Open (r.waiting ∙ ap (λ b. pending design b old.cursor.node) more)

  -- one open subproblem was read
  pub ahead-one : (old new : Reading) → IsReading design bound tags old → old.more ≡ true → IsReadOn design bound tags old (Open ∷ []) new → IsAhead old (depth old.cursor.node) new
  ahead-one old new r more one = record {
    nodes = old.cursor.node ∷ [];
    read = one;
    passed = ap (λ ns. old.cursor.node ∷ ns) (sym (open-next old new r more one));
    deep = (omega arith, tt);
    above = omega arith;
  }

  -- one more was read
  pub ahead-more : (old mid new : Reading) (low less : ℕ) → IsAhead old low mid → mid.more ≡ true → IsReadOn design bound tags mid (Open ∷ []) new → less ≡ min low (depth mid.cursor.node) → IsAhead old less new
  ahead-more old mid new low less a more one e =
      let node = mid.cursor.node in
      record {
        nodes = a.nodes ++ node ∷ [];
        read = subst (λ ts. IsReadOn design bound tags old ts new) (sym (map-append (λ n. Open) a.nodes (node ∷ []))) (read-then design bound tags old mid new (opens a.nodes) (Open ∷ []) a.read one);
        passed = a.passed ∙ ap (λ b. a.nodes ++ pending design b node) more ∙ sym (append_assoc a.nodes (node ∷ []) (behind (root design) node.steps))
            ∙ ap (λ ns. (a.nodes ++ node ∷ []) ++ ns) (sym (open-next mid new a.read.reading more one));
        deep = each-append (λ n. less ≤ depth n) a.nodes (node ∷ []) (each-weaker (λ n. low ≤ depth n) (λ n. less ≤ depth n) (λ n h. omega (arith, h, e)) a.nodes a.deep) (omega (arith, e), tt);
        above = omega (arith, e, a.above);
      }

  -- the subproblems that were read are what waits down to the depth of the next one
  nodes-waiting : (old new : Reading) (low : ℕ) (a : IsAhead old low new) → new.more ≡ true → depth new.cursor.node < low → a.nodes ≡ waiting design (depth new.cursor.node) true old.cursor.node
  nodes-waiting old new low a more less =
      let x = old.cursor.node in
      let y = new.cursor.node in
      let m = depth y in
      let rest = behind (root design) (take m x.steps) in
      let whole : a.nodes ++ y ∷ behind (root design) y.steps ≡ waiting design m true x ++ rest =
      sym (a.passed ∙ ap (λ b. a.nodes ++ pending design b y) more) ∙ ap (λ ns. x ∷ ns) (behind-cut m (root design) x.steps) in
      split-one (λ n. m < depth n) a.nodes (waiting design m true x) y (behind (root design) y.steps) rest whole
      (each-weaker (λ n. low ≤ depth n) (λ n. m < depth n) (λ n h. omega (arith, h, less)) a.nodes a.deep)
      (λ h. omega (arith, h))
      (omega (arith, less, a.above), each-weaker (λ n. 0 + m < depth n) (λ n. m < depth n) (λ n h. omega (arith, h)) (beyond m (root design) x.steps) (deep-beyond m (root design) x.steps))
      (each-weaker (λ n. depth n ≤ 0 + length (take m x.steps)) (λ n. m < depth n → ⊥) (λ n h k. omega (arith, h, k, length-take-few m x.steps)) rest (shallow-behind (root design) (take m x.steps)))
    where
      length-take-few : (n : ℕ) (ss : List Step) → length (take n ss) ≤ n
      length-take-few zero ss = omega arith
      length-take-few (suc n) [] = omega arith
      length-take-few (suc n) (s ∷ ss) = omega (arith, length-take-few n ss)

  -- a stretch ends here
  pub reach-here : (old new : Reading) (low floor : ℕ) → IsAhead old low new → floor_of new.more (depth new.cursor.node) low ≡ Some floor → IsReach design bound tags old floor new
  reach-here old new low floor a e = by_more new.more refl e
    where
      by_test : (less : Bool) → nat_lt (depth new.cursor.node) low ≡ less → new.more ≡ true → cond less (Some (depth new.cursor.node)) None ≡ Some floor → IsReach design bound tags old floor new
      by_test true t more k =
          let same : depth new.cursor.node ≡ floor = cc in
          let less : depth new.cursor.node < low = ltb-true (depth new.cursor.node) low t in
          record {
            above = omega (arith, same, less, a.above);
            read = subst (λ ns. IsReadOn design bound tags old (opens ns) new) (nodes-waiting old new low a more less ∙ ap (λ n. waiting design n true old.cursor.node) same) a.read;
          }
      by_test false t more k = absurd (cc)

      by_more : (more : Bool) → new.more ≡ more → floor_of more (depth new.cursor.node) low ≡ Some floor → IsReach design bound tags old floor new
      by_more true more k = by_test (nat_lt (depth new.cursor.node) low) refl more k
      by_more false more k =
          let same : 0 ≡ floor = cc in
          record {
            above = omega (arith, same);
            read = subst (λ ns. IsReadOn design bound tags old (opens ns) new)
                (sym (append-nil a.nodes) ∙ ap (λ b. a.nodes ++ pending design b new.cursor.node) (sym more) ∙ sym a.passed ∙ ap (λ n. waiting design n true old.cursor.node) same) a.read;
          }

  -- a stretch of one subproblem
  pub reach-single : (old new : Reading) → IsReadOn design bound tags old (Open ∷ []) new → IsReach design bound tags old (depth old.cursor.node) new
  reach-single old new one = record {
    above = omega arith;
    read = subst (λ ns. IsReadOn design bound tags old (opens (old.cursor.node ∷ ns)) new) (sym (beyond-none (depth old.cursor.node) (root design) old.cursor.node.steps (omega arith))) one;
  }

  -- the first subproblem alone, where the way goes on beside it
  pub reach-first : (old new : Reading) (floor : ℕ) → IsReading design bound tags old → old.more ≡ true → IsReadOn design bound tags old (Open ∷ []) new
      → floor ≡ unwrap_or (floor_of new.more (depth new.cursor.node) (depth old.cursor.node)) (depth old.cursor.node) → IsReach design bound tags old floor new
  reach-first old new floor r more one e = by_floor (floor_of new.more (depth new.cursor.node) (depth old.cursor.node)) refl e
    where
      by_floor : (o : Option ℕ) → floor_of new.more (depth new.cursor.node) (depth old.cursor.node) ≡ o → floor ≡ unwrap_or o (depth old.cursor.node) → IsReach design bound tags old floor new
      by_floor (Some f) is k = reach-here old new (depth old.cursor.node) floor (ahead-one old new r more one) (is ∙ ap (λ n. Some n) (sym k))
      by_floor None is k = subst (λ n. IsReach design bound tags old n new) (sym k) (reach-single old new one)

  -- the reading behind it may be another one at the same place
  pub reach-copy : (old mid new : Reading) (floor : ℕ) → IsReach design bound tags old floor mid → IsReading design bound tags new → new.at ≡ mid.at → IsReach design bound tags old floor new
  reach-copy old mid new floor r is at = record {
    above = r.above;
    read = record {
      reading = is;
      on = ap (λ n. take n tags) at ∙ r.read.on;
      rest = r.read.rest ∙ ap (λ n. opens (waiting design floor true old.cursor.node) ++ drop n tags) (sym at);
      many = at ∙ r.read.many;
    };
  }
