-- The splits of the entries are those of the tree.
use Rattle.std.proofs.Common.{List, [], ◌∷◌, ◌++◌, map, All}
use Rattle.sf_search.proofs.Common.{IsPermutation, AllByRecursion, recursion_from_All, All-from_recursion, All-permutation, Design, each-append, Task, Parts, Entry, Kind, Mark, Open, given_marks, tag_of, BranchesFirst, AllBranchFirst, SplitsFirst, mark_of, open_mark}
use Rattle.sf_search_core.specs.declared.entry.Kind.TheVariants as kind

module _ (design : Design) where
  -- a split that is marked is of the first block whose span is not single
  abbrev IsFirst : Mark → Type 0
  IsFirst mark = SplitsFirst design mark.tag mark.node

  -- an entry that splits at the first such block has a tag that does
  by-kind : (k : Kind) (node : Parts) → BranchesFirst design k node → SplitsFirst design (tag_of k) node
  by-kind kind.Extended node first = tt
  by-kind (kind.Split b) node first = first
  by-kind kind.Closed node first = tt

  -- open marks split nothing
  open-each : (left : List Task) → AllByRecursion IsFirst (map (λ task. record { node = task.node; tag = Open }) left)
  open-each [] = tt
  open-each (task ∷ left) = (tt, open-each left)

  -- entries that split at the first such blocks have marks that do
  entry-each : (entries : List Entry) → AllByRecursion (λ entry. BranchesFirst design entry.kind entry.node) entries → AllByRecursion IsFirst (map (λ entry. record { node = entry.node; tag = tag_of entry.kind }) entries)
  entry-each [] all = tt
  entry-each (entry ∷ entries) all = (by-kind entry.kind entry.node all.0, entry-each entries all.1)

  -- open subproblems split nothing
  opens-each : (left : List Parts) → AllByRecursion IsFirst (map open_mark left)
  opens-each [] = tt
  opens-each (node ∷ left) = (tt, opens-each left)

  -- all marks of entries and of others that split nothing, in any order, split at the first such blocks
  marks-with : (entries : List Entry) (opens found : List Mark) → AllByRecursion IsFirst opens → AllBranchFirst design entries → IsPermutation (map mark_of entries ++ opens) found → All IsFirst found
  marks-with entries opens found none all same =
      let given = each-append IsFirst _ _ (entry-each entries (recursion_from_All (λ (entry : Entry). BranchesFirst design entry.kind entry.node) entries all)) none in
      All-permutation IsFirst (map mark_of entries ++ opens) found same (All-from_recursion IsFirst (map mark_of entries ++ opens) given)

  -- so do those of entries and open tasks
  pub marks-first : (entries : List Entry) (left : List Task) (found : List Mark) → AllBranchFirst design entries → IsPermutation (given_marks entries left) found → All IsFirst found
  marks-first entries left found all same = marks-with entries (map (λ task. record { node = task.node; tag = Open }) left) found (open-each left) all same

  -- and of entries and open subproblems
  pub told-first : (entries : List Entry) (left : List Parts) (found : List Mark) → AllBranchFirst design entries → IsPermutation (map mark_of entries ++ map open_mark left) found → All IsFirst found
  told-first entries left found all same = marks-with entries (map open_mark left) found (opens-each left) all same
