-- From some subproblems on there are at most as many entries as their full counts.
use Rattle.std.proofs.Common.{◌≡◌, ℕ, ◌+◌, ◌*◌, ◌≤◌, List, [], ◌∷◌, ◌++◌, length, map, arith, refl, ap, inl, inr, false, sum_by, ◌&&◌, ◌||◌, ◌==◌, not, flat_map}
use Rattle.sf_count.proofs.Common.{AllByRecursion, list_all, cond-true, cond-false, sum_by-append, sum_by-cons, Design, Some, Step, Parts, root, is_complete, is_solved, is_wide, after, extended, split, CanWalk, walk, IsSubproblem, first_wide_from, Entry, BranchesFirst, AllBranchFirst, full_of}
use Rattle.std.proofs.lemmas.List.Sorted.{sum_by-IsPermutation}
use Rattle.std.proofs.lemmas.List.Elements.{recursion_from_All}
use Rattle.std.proofs.lemmas.List.{length-map}
use Rattle.sf_model.specs.declared.parts.Block.{Block}
use Rattle.sf_search_core.specs.declared.entry.Kind.{Kind}
use Rattle.sf_search_core.specs.declared.entry.Kind.TheVariants.{Extended, Split, Closed}
use Rattle.sf_search_core.specs.Conserved.{IsConserved, IsDecided, branched, children}
use Rattle.sf_count.proofs.Depths.{left, left-after, unused-most, size_of, full-branches, full-positive}

-- after a walk no more steps lead on than before it
left-walk : (ss : List Step) (node : Parts) → CanWalk node ss → left (walk node ss) ≤ left node
left-walk [] node can = omega arith
left-walk (s ∷ ss) node can = omega (arith, left-after node s can.0, left-walk ss (after node s) can.1)

-- the spans at the root have as many shapes as the blocks
sizes-root : (bs : List Block) → sum_by size_of (map (λ block. (0, length block.shapes)) bs) ≡ sum_by (λ block. length block.shapes) bs
sizes-root [] = refl
sizes-root (b ∷ bs) =
    omega (arith, sum_by-cons size_of (0, length b.shapes) (map (λ (block : Block). (0, length block.shapes)) bs), sum_by-cons (λ (block : Block). length block.shapes) b bs, sizes-root bs)

-- how deep a subproblem may lie: twice the blocks, and all their shapes
abbrev depth : Design → ℕ
depth design = 2 * length design.blocks + sum_by (λ block. length block.shapes) design.blocks

-- no more steps than that lead on from the root
left-root : (design : Design) → left (root design) ≤ depth design
left-root design =
    omega (arith, unused-most (length (root design).spans) [], length-map {B = ℕ × ℕ} design.blocks (λ (block : Block). (0, length block.shapes)), sizes-root design.blocks)

-- no more steps than that lead on from any subproblem
left-subproblem : (design : Design) (node : Parts) → IsSubproblem design node → left node ≤ depth design
left-subproblem design node sub = omega (arith, ap left sub.is, left-walk node.steps (root design) sub.reached, left-root design)

module _ (design : Design) where
  -- a subproblem weighs its full count
  abbrev weight : Parts → ℕ
  weight node = full_of design node

  -- subproblems weigh together at least as much as there are
  each-counts : (ns : List Parts) → length ns ≤ sum_by weight ns
  each-counts [] = omega arith
  each-counts (n ∷ ns) = omega (arith, sum_by-cons weight n ns, full-positive design (depth design) n, each-counts ns)

  -- an incomplete subproblem is not solved
  unsolved : (node : Parts) → is_complete node ≡ false → is_solved design node ≡ false
  unsolved node e = ap (λ b. b && (design.weights.wire == 0 || list_all (λ span. not (is_wide span)) node.spans)) e

  -- an entry's branches weigh at least 1 less than its subproblem
  entry-weighs : (way : Kind) (node : Parts) (b v : ℕ) → IsDecided way node b v → BranchesFirst design way node → left node ≤ depth design → sum_by weight (branched way node) + 1 ≤ weight node
  entry-weighs Extended node b v d first h =
      omega (
        arith,
        full-branches design (depth design) node h (unsolved node d.1),
        ap (sum_by weight) (cond-false (is_complete node) (split node (first_wide_from 0 node.spans)) (extended node) d.1),
      )
  entry-weighs (Split i) node b v d first h =
      omega (
        arith,
        full-branches design (depth design) node h first.1,
        ap (sum_by weight) (cond-true (is_complete node) (split node (first_wide_from 0 node.spans)) (extended node) first.0),
        ap (λ j. sum_by weight (split node j)) first.2,
      )
  entry-weighs Closed node b v d first h = omega (arith, full-positive design (depth design) node)

  -- the children of the entries weigh less than their subproblems, at least by the number of entries
  entries-weigh : (bound : Parts → ℕ) (es : List Entry) → AllByRecursion (λ entry. IsDecided entry.kind entry.node (bound entry.node) entry.value) es → AllByRecursion (λ entry. BranchesFirst design entry.kind entry.node) es → ((n : Parts) → Some (λ m. m ≡ n) (map (λ entry. entry.node) es) → IsSubproblem design n) → sum_by weight (flat_map children es) + length es ≤ sum_by weight (map (λ entry. entry.node) es)
  entries-weigh bound [] decided first subs = omega arith
  entries-weigh bound (e ∷ es) decided first subs =
      omega (
        arith,
        sum_by-append weight (children e) (flat_map children es),
        sum_by-cons weight e.node (map (λ (entry : Entry). entry.node) es),
        entry-weighs e.kind e.node (bound e.node) e.value decided.0 first.0 (left-subproblem design e.node (subs e.node (inl refl))),
        entries-weigh bound es decided.1 first.1 (λ n i. subs n (inr i)),
      )

-- from some subproblems on, the entries and what is left are together at most as many as the full counts of those
pub given-few : (design : Design) (bound : Parts → ℕ) (given : List Parts) (entries : List Entry) (left : List Parts) → IsConserved bound given entries left → AllBranchFirst design entries
    → ((n : Parts) → Some (λ m. m ≡ n) (map (λ entry. entry.node) entries) → IsSubproblem design n) → length entries + length left ≤ sum_by (full_of design) given
given-few design bound given entries left c first subs =
    let nodes = map (λ (entry : Entry). entry.node) entries in
    let weighed = entries-weigh design bound entries (recursion_from_All _ entries c.decided) (recursion_from_All _ entries first) subs in
    omega (
      arith,
      weighed,
      sum_by-IsPermutation (weight design) (given ++ flat_map children entries) (nodes ++ left) c.same,
      sum_by-append (weight design) given (flat_map children entries),
      sum_by-append (weight design) nodes left,
      each-counts design left,
    )
