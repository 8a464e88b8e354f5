-- What cuts some blocks cuts any of them: where a tree cuts two spots or more, they can be parted across or upward.
use Rattle.std.proofs.Common.{◌≡◌, ℕ, ◌+◌, ◌<◌, ◌≤◌, List, [], ◌∷◌, ◌++◌, length, All, refl, sym, ◌∙◌, subst, arith, ◌⊎◌, inl, inr, Bool, true, false, true≢false, cond, length-append, ◌==◌, ◌||◌}
use Rattle.std.proofs.lemmas.Bool.{cases_lt, cond_both, eqb-true, or_cases}
use Rattle.sf_model.proofs.Each.{each-left, each-right}
use Rattle.sf_cuts.proofs.Common.{AllByRecursion, All-from_recursion, recursion_from_All, All-permutation, Across, Axis, Spot, Tree, Leaf, Beside, Above, leaves, begin_on, end_on, spot_of, Cuts, IsCutBetween, CanBeCut, AreParts, AreAmong, AreDistinct, Covers, NoneCuts, has_leaf, Upward, IsPermutation-filter_both, count_by, filter, length_permutation, nat_tests, not, sum_by-IsPermutation, sum_by-append, sum_by-cons, ◌≤ℤ◌}

-- what holds of each leaf's block holds of a block that is a leaf
of_leaf : (P : ℕ → Type 0) (b : ℕ) (t : Tree) → has_leaf b t ≡ true → AllByRecursion (λ leaf. P leaf.0) (leaves t) → P b
of_leaf P b (Leaf c s) h all = subst P (eqb-true c b h) all.0
of_leaf P b (Beside l r) h all =
    elim (or_cases (has_leaf b l) (has_leaf b r) h) [
      | inl k ↦ of_leaf P b l k (each-left (λ leaf. P leaf.0) (leaves l) (leaves r) all)
      | inr k ↦ of_leaf P b r k (each-right (λ leaf. P leaf.0) (leaves l) (leaves r) all)
    ]
of_leaf P b (Above l r) h all =
    elim (or_cases (has_leaf b l) (has_leaf b r) h) [
      | inl k ↦ of_leaf P b l k (each-left (λ leaf. P leaf.0) (leaves l) (leaves r) all)
      | inr k ↦ of_leaf P b r k (each-right (λ leaf. P leaf.0) (leaves l) (leaves r) all)
    ]

-- a fact of each that passes a test holds of each that is kept
each-kept : (P Q : Spot → Type 0) (test : Spot → Bool) → ((s : Spot) → test s ≡ true → P s → Q s) → (spots : List Spot) → AllByRecursion P spots → AllByRecursion Q (filter test spots)
each-kept P Q test f [] h = tt
each-kept P Q test f (s ∷ ss) h =
    cond_both (test s) (s ∷ filter test ss) (filter test ss) (AllByRecursion Q)
    (λ e. (f s e h.0, each-kept P Q test f ss h.1)) (λ e. each-kept P Q test f ss h.1)

-- two facts of each together
each-both : (P Q : Spot → Type 0) (spots : List Spot) → AllByRecursion P spots → AllByRecursion Q spots → AllByRecursion (λ s. P s × Q s) spots
each-both P Q [] h k = tt
each-both P Q (s ∷ ss) h k = ((h.0, k.0), each-both P Q ss h.1 k.1)

-- where none is kept, each that has P has Q
each-dropped : (P Q : Spot → Type 0) (test : Spot → Bool) → ((s : Spot) → test s ≡ false → P s → Q s) → (spots : List Spot) → length (filter test spots) ≡ 0 → AllByRecursion P spots → AllByRecursion Q spots
each-dropped P Q test f [] none h = tt
each-dropped P Q test f (s ∷ ss) none h =
    cond_both (test s) (s ∷ filter test ss) (filter test ss) (λ kept. length kept ≡ 0 → AllByRecursion Q (s ∷ ss))
    (λ e n. absurd (omega (arith, n))) (λ e n. (f s e h.0, each-dropped P Q test f ss n h.1)) none

-- tests and their opposites
not_true : (b : Bool) → not b ≡ true → b ≡ false
not_true true e = sym e
not_true false e = refl

not_false : (b : Bool) → not b ≡ false → b ≡ true
not_false true e = refl
not_false false e = sym e

second_of : (a b : Bool) → a ≡ false → (a || b) ≡ true → b ≡ true
second_of true b e h = absurd (true≢false e)
second_of false b e h = h

-- where a tree is cut between two parts, the spots' blocks are all in one part, or the spots can be parted
parted_between : (axis : Axis) (placed : List Spot) (l r : Tree) (spots : List Spot) → IsCutBetween axis placed l r
    → AllByRecursion (λ s. spot_of s.block placed ≡ s) spots → AllByRecursion (λ s. (has_leaf s.block l || has_leaf s.block r) ≡ true) spots
    → Covers l spots ⊎ (Covers r spots ⊎ CanBeCut axis spots)
parted_between axis placed l r spots cut among covers =
    let f : Spot → Bool = λ s. has_leaf s.block l in
    let g : Spot → Bool = λ s. not (f s) in
    let Among : Spot → Type 0 = λ s. spot_of s.block placed ≡ s in
    let Either : Spot → Type 0 = λ s. (has_leaf s.block l || has_leaf s.block r) ≡ true in
    let at = cut.at in
    elim (cases_lt (length (filter g spots)) 1) [
      | inl none ↦ inl (All-from_recursion (λ s. has_leaf s.block l ≡ true) spots
          (each-dropped Either (λ s. has_leaf s.block l ≡ true) g (λ s e h. not_false (f s) e) spots (omega (arith, none)) covers))
      | inr some_second ↦ elim (cases_lt (length (filter f spots)) 1) [
        | inl none ↦ inr (inl (All-from_recursion (λ s. has_leaf s.block r ≡ true) spots
            (each-dropped Either (λ s. has_leaf s.block r ≡ true) f (λ s e h. second_of (f s) (has_leaf s.block r) e h) spots (omega (arith, none)) covers)))
        | inr some_first ↦ inr (inr record {
          first = filter f spots;
          second = filter g spots;
          parts = record {
            all = IsPermutation-filter_both f g (λ s. refl) spots;
            some_first = some_first;
            some_second = some_second;
            at = at;
            before = All-from_recursion (λ s. end_on axis s ≤ℤ at) (filter f spots)
                (each-kept Among (λ s. end_on axis s ≤ℤ at) f
                (λ s e h. subst (λ t. end_on axis t ≤ℤ at) h
                (of_leaf (λ b. end_on axis (spot_of b placed) ≤ℤ at) s.block l e
                (recursion_from_All (λ leaf. end_on axis (spot_of leaf.0 placed) ≤ℤ at) (leaves l) cut.before)))
                spots among);
            after = All-from_recursion (λ s. at ≤ℤ begin_on axis s) (filter g spots)
                (each-kept (λ s. Among s × Either s) (λ s. at ≤ℤ begin_on axis s) g
                (λ s e h. subst (λ t. at ≤ℤ begin_on axis t) h.0
                (of_leaf (λ b. at ≤ℤ begin_on axis (spot_of b placed)) s.block r (second_of (f s) (has_leaf s.block r) (not_true (f s) e) h.1)
                (recursion_from_All (λ leaf. at ≤ℤ begin_on axis (spot_of leaf.0 placed)) (leaves r) cut.after)))
                spots (each-both Among Either spots among covers));
          };
        })
      ]
    ]

-- spots of one block alone
all_of_block : (b : ℕ) (spots : List Spot) → AllByRecursion (λ s. (b == s.block) ≡ true) spots → count_by (λ s. s.block == b) spots ≡ length spots
all_of_block b [] h = refl
all_of_block b (s ∷ ss) h =
    let e : b ≡ s.block = eqb-true b s.block h.0 in
    grind (arith, nat_tests, e, sum_by-cons (λ (t : Spot). cond (t.block == b) 1 0) s ss, all_of_block b ss h.1)

-- a tree that cuts a placement, of the blocks of two spots or more, and maybe of others, parts these spots
pub covered_parts : (placed : List Spot) (t : Tree) → Cuts placed t → (spots : List Spot) → AllByRecursion (λ s. spot_of s.block placed ≡ s) spots → AreDistinct spots
    → 2 ≤ length spots → Covers t spots → CanBeCut Across spots ⊎ CanBeCut Upward spots
covered_parts placed (Leaf b s) cuts spots among distinct two covers =
    absurd (omega (arith, two, distinct b, all_of_block b spots (recursion_from_All (λ s. (b == s.block) ≡ true) spots covers)))
covered_parts placed (Beside l r) cuts spots among distinct two covers =
    elim (parted_between Across placed l r spots cuts.0 among (recursion_from_All (λ s. (has_leaf s.block l || has_leaf s.block r) ≡ true) spots covers)) [
      | inl left ↦ covered_parts placed l cuts.1 spots among distinct two left
      | inr other ↦ elim other [ inl right ↦ covered_parts placed r cuts.2 spots among distinct two right | inr parts ↦ inl parts ]
    ]
covered_parts placed (Above l r) cuts spots among distinct two covers =
    elim (parted_between Upward placed l r spots cuts.0 among (recursion_from_All (λ s. (has_leaf s.block l || has_leaf s.block r) ≡ true) spots covers)) [
      | inl left ↦ covered_parts placed l cuts.1 spots among distinct two left
      | inr other ↦ elim other [ inl right ↦ covered_parts placed r cuts.2 spots among distinct two right | inr parts ↦ inr parts ]
    ]

-- where neither direction parts two spots or more, no tree cuts them
pub none_cuts : (placed spots : List Spot) → AreAmong placed spots → AreDistinct spots → 2 ≤ length spots → (¬ (CanBeCut Across spots)) × (¬ (CanBeCut Upward spots)) → NoneCuts placed spots
none_cuts placed spots among distinct two none tree covers cuts =
    elim (covered_parts placed tree cuts spots (recursion_from_All (λ s. spot_of s.block placed ≡ s) spots among) distinct two covers) [ inl across ↦ none.0 across | inr upward ↦ none.1 upward ]

-- what holds of each spot holds of each of either part
pub all_of_parts : (P : Spot → Type 0) (axis : Axis) (spots first second : List Spot) → AreParts axis spots first second → All P spots → All P first × All P second
all_of_parts P axis spots first second p all =
    let both : AllByRecursion P (first ++ second) = recursion_from_All P (first ++ second) (All-permutation P spots (first ++ second) p.all all) in
    (All-from_recursion P first (each-left P first second both), All-from_recursion P second (each-right P first second both))

-- a block has as many spots in both parts as in the whole
count_parts : (axis : Axis) (spots first second : List Spot) → AreParts axis spots first second → (b : ℕ)
    → count_by (λ s. s.block == b) first + count_by (λ s. s.block == b) second ≡ count_by (λ s. s.block == b) spots
count_parts axis spots first second p b =
    let one : Spot → ℕ = λ s. cond (s.block == b) 1 0 in
    sym (sum_by-append one first second) ∙ sum_by-IsPermutation one spots (first ++ second) p.all

-- parts of distinct spots are distinct
pub distinct_parts : (axis : Axis) (spots first second : List Spot) → AreParts axis spots first second → AreDistinct spots → AreDistinct first × AreDistinct second
distinct_parts axis spots first second p distinct = (
  λ b. omega (arith, count_parts axis spots first second p b, distinct b),
  λ b. omega (arith, count_parts axis spots first second p b, distinct b),
)

-- where no tree cuts the first part, none cuts the whole
pub none_cuts_by_first : (axis : Axis) (placed spots first second : List Spot) → AreParts axis spots first second → NoneCuts placed first → NoneCuts placed spots
none_cuts_by_first axis placed spots first second p none tree covers cuts = none tree (all_of_parts (λ s. has_leaf s.block tree ≡ true) axis spots first second p covers).0 cuts

-- the same of the second part
pub none_cuts_by_second : (axis : Axis) (placed spots first second : List Spot) → AreParts axis spots first second → NoneCuts placed second → NoneCuts placed spots
none_cuts_by_second axis placed spots first second p none tree covers cuts = none tree (all_of_parts (λ s. has_leaf s.block tree ≡ true) axis spots first second p covers).1 cuts

-- both parts have fewer spots than the whole
pub shorter_parts : (axis : Axis) (spots first second : List Spot) → AreParts axis spots first second → (length first < length spots) × (length second < length spots)
shorter_parts axis spots first second p =
    let n = length_permutation spots (first ++ second) p.all in
    (omega (arith, n, length-append first second, p.some_first, p.some_second), omega (arith, n, length-append first second, p.some_first, p.some_second))
