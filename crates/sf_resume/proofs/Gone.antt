-- What a search decided that went on from open subproblems.
use Rattle.std.proofs.Common.{◌≡◌, ℕ, suc, ◌+◌, ◌<◌, ◌≤◌, List, [], ◌∷◌, ◌++◌, length, map, arith, subst, inl, inr}
use Rattle.sf_resume.proofs.Common.{zero, sum_by, AllByRecursion, flat_map, cases_lt, All-from_recursion, recursion_from_All, Design, each-any, each-append, each-left, each-weaker, Part, Parts, IsSubproblem, IsConserved, IsDecided, branched, children, Tag, Extend, Split, Closed, Open, IsFair, made, tag_of, AreTrees, decided, left_open, one_decided, made-deeper, made-subproblems, total, All-permutation, each-both, Entry, full_of, each-flat_map, each-unmap}
use Rattle.sf_model.proofs.Each as each
use Rattle.sf_search_core.specs.declared.entry.Kind.{Kind}
use Rattle.sf_count.specs.Few.{AllBranchFirst}
use Rattle.sf_count.proofs.Given.{given-few}

-- ---- counts

-- one tag more
pub decided-more : (tags : List Tag) (tag : Tag) → decided (tags ++ tag ∷ []) ≡ decided tags + one_decided tag
decided-more [] tag = grind arith
decided-more (t ∷ tags) tag = grind (arith, decided-more tags tag)

-- tags of two lists
pub decided-append : (tags more : List Tag) → decided (tags ++ more) ≡ decided tags + decided more
decided-append [] more = omega arith
decided-append (t ∷ tags) more = grind (arith, decided-append tags more)

-- a tag decides one subproblem at most
pub one-few : (tag : Tag) → one_decided tag ≤ 1
one-few tag = grind arith

-- ---- subproblems

-- what the tag of an entry makes is what the entry made
made-branched : (k : Kind) (node : Parts) → made (tag_of k) node ≡ branched k node
made-branched k node = grind arith

-- the tag of an entry may stand at its subproblem
fair-tag : (k : Kind) (node : Parts) (bound value : ℕ) → IsDecided k node bound value → IsFair (λ n p. 0) 0 (tag_of k) node
fair-tag k node bound value d = grind (arith, d)

-- what holds of each holds of one of them
each-some : {X : Type 0} (P : X → Type 0) (x : X) (xs : List X) → AllByRecursion P xs → each.Some (λ y. y ≡ x) xs → P x
each-some P x [] all here = absurd here
each-some P x (y ∷ ys) all here = elim here [ inl e ↦ subst P e all.0 | inr there ↦ each-some P x ys all.1 there ]

module _ (design : Design) (bound : Parts → ℕ) (given : List Parts) (entries : List Entry) (left : List Parts) (subs : AllByRecursion (IsSubproblem design) given) (c : IsConserved bound given entries left) where
  -- what was decided and what is left
  abbrev nodes : List Parts
  nodes = map (λ (e : Entry). e.node) entries ++ left

  -- the children of an entry are subproblems up to a depth, where it is one up to the depth before
  kids : (d : ℕ) (e : Entry) → IsDecided e.kind e.node (bound e.node) e.value → (length e.node.steps < d → IsSubproblem design e.node) → AllByRecursion (λ child. length child.steps < suc d → IsSubproblem design child) (children e)
  kids d e f h =
      let P : Parts → Type 0 = λ child. length child.steps < suc d → IsSubproblem design child in
      let fair = fair-tag e.kind e.node (bound e.node) e.value f in
      subst (AllByRecursion P) (made-branched e.kind e.node)
      (elim (cases_lt (length e.node.steps) d) [
        | inl less ↦ each-weaker (IsSubproblem design) P (λ child s _. s) (made (tag_of e.kind) e.node) (made-subproblems design (λ n p. 0) 0 (tag_of e.kind) e.node (h less) fair)
        | inr more ↦ each-weaker (λ child. length child.steps ≡ suc (length e.node.steps)) P (λ child l k. absurd (omega arith)) (made (tag_of e.kind) e.node) (made-deeper (tag_of e.kind) e.node)
      ])

  -- each is a subproblem, up to any depth
  shallow : (d : ℕ) → AllByRecursion (λ node. length node.steps < d → IsSubproblem design node) nodes
  shallow zero = each-any (λ node. length node.steps < 0 → IsSubproblem design node) (λ node h. absurd (omega arith)) nodes
  shallow (suc d) =
      let P : Parts → Type 0 = λ node. length node.steps < suc d → IsSubproblem design node in
      let Q : Parts → Type 0 = λ node. length node.steps < d → IsSubproblem design node in
      let all = given ++ flat_map children entries in
      let own : AllByRecursion (λ (e : Entry). Q e.node) entries = each-unmap Q (λ (e : Entry). e.node) entries (each-left Q (map (λ (e : Entry). e.node) entries) left (shallow d)) in
      let are = recursion_from_All (λ (e : Entry). IsDecided e.kind e.node (bound e.node) e.value) entries c.decided in
      let below : AllByRecursion P (flat_map children entries) =
      each-flat_map P children entries (each-both (λ (e : Entry). IsDecided e.kind e.node (bound e.node) e.value) (λ e. Q e.node) (λ e. AllByRecursion P (children e)) (λ e f q. kids d e f q) entries are own) in
      recursion_from_All P nodes
      (All-permutation P all nodes c.same (All-from_recursion P all (each-append P given (flat_map children entries) (each-weaker (IsSubproblem design) P (λ node s _. s) given subs) below)))

  -- what holds of all that are shallow holds of each that is so
  within : (d : ℕ) (ns : List Parts) → total (λ node. length node.steps) ns < d → AllByRecursion (λ node. length node.steps < d → IsSubproblem design node) ns → AllByRecursion (IsSubproblem design) ns
  within d [] h all = tt
  within d (node ∷ ns) h all = (all.0 (omega arith), within d ns (omega arith) all.1)

  -- each is a subproblem
  conserved-subs : AllByRecursion (IsSubproblem design) nodes
  conserved-subs = let d = suc (total (λ node. length node.steps) nodes) in within d nodes (omega arith) (shallow d)

  -- with what is left there are at most as many as the full counts of what was given
  pub gone-few : AllBranchFirst design entries → length entries + length left ≤ sum_by (full_of design) given
  gone-few first =
      let own = each-left (IsSubproblem design) (map (λ (e : Entry). e.node) entries) left conserved-subs in
      given-few design bound given entries left c first (λ n here. each-some (IsSubproblem design) n (map (λ (e : Entry). e.node) entries) own here)

-- what a tree leaves open are subproblems
pub left-subs : (design : Design) (part : Parts → Part → ℕ) (cost : ℕ) (ns : List Parts) (tags : List Tag) → AreTrees part cost ns tags → AllByRecursion (IsSubproblem design) ns → AllByRecursion (IsSubproblem design) (left_open ns tags)
left-subs design part cost [] tags trees subs = tt
left-subs design part cost (n ∷ ns) [] trees subs = tt
left-subs design part cost (n ∷ ns) (Extend ∷ tags) trees subs =
    left-subs design part cost (made Extend n ++ ns) tags trees.1 (each-append (IsSubproblem design) (made Extend n) ns (made-subproblems design part cost Extend n subs.0 trees.0) subs.1)
left-subs design part cost (n ∷ ns) (Split b ∷ tags) trees subs =
    left-subs design part cost (made (Split b) n ++ ns) tags trees.1 (each-append (IsSubproblem design) (made (Split b) n) ns (made-subproblems design part cost (Split b) n subs.0 trees.0) subs.1)
left-subs design part cost (n ∷ ns) (Closed p ∷ tags) trees subs = left-subs design part cost ns tags trees.1 subs.1
left-subs design part cost (n ∷ ns) (Open ∷ tags) trees subs = (subs.0, left-subs design part cost ns tags trees subs.1)
