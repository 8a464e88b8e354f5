-- Two certificates of one state are the same.
use Rattle.std.proofs.Common.{◌≡◌, ℕ, ◌<◌, List, [], ◌∷◌, ◌++◌, map, arith, refl, ap, sym, subst, ◌∙◌, Option, Some, None, true}
use Rattle.sf_search.proofs.Common.{AllByRecursion, All-from_recursion, recursion_from_All, All-permutation, IsPermutation-sym, Design, each-left, each-right, Expr, Task, Part, Parts, root, is_solved, IsSubproblem, IsPlanOf, IsLeastTrace, Entry, State, Mark, Open, no_plan, given_marks, marks, tag_of, unnamed, AreTrees, marks-good, each-unmap, IsCertOf, IsFirst, IsOfFirst, root-subproblem, Cert}
use Rattle.sf_search_core.specs.declared.entry.Kind.TheVariants as kind

-- the entry of a closed subproblem
abbrev closed : Parts → ℕ → Entry
closed node word = record { node = node; kind = kind.Closed; value = word }

-- equal lists have the same first entry and the same others
heads : (x y : Entry) (xs ys : List Entry) → x ∷ xs ≡ y ∷ ys → (x ≡ y) × (xs ≡ ys)
heads x y xs ys e = (cc, cc)

-- the first entry of a value is one
first-same : (word : ℕ) (m n : Parts) (xs ys us vs : List Entry) → xs ++ closed m word ∷ us ≡ ys ++ closed n word ∷ vs → AllByRecursion (λ entry. word < entry.value) xs → AllByRecursion (λ entry. word < entry.value) ys → m ≡ n
first-same word m n [] [] us vs e above over = ap (λ (entry : Entry). entry.node) (heads (closed m word) (closed n word) us vs e).0
first-same word m n [] (y ∷ ys) us vs e above over =
    let same : word ≡ y.value = ap (λ (entry : Entry). entry.value) (heads (closed m word) y us (ys ++ closed n word ∷ vs) e).0 in
    absurd (omega (arith, over.0))
first-same word m n (x ∷ xs) [] us vs e above over =
    let same : x.value ≡ word = ap (λ (entry : Entry). entry.value) (heads x (closed n word) (xs ++ closed m word ∷ us) vs e).0 in
    absurd (omega (arith, above.0))
first-same word m n (x ∷ xs) (y ∷ ys) us vs e above over =
    first-same word m n xs ys us vs (heads x y (xs ++ closed m word ∷ us) (ys ++ closed n word ∷ vs) e).1 above.1 over.1

-- the subproblem that brought the word is one
pub same-first : (design : Design) (entries : List Entry) (word : ℕ) (e f : Expr) (a : IsOfFirst design entries word e) (b : IsOfFirst design entries word f) → a.node ≡ b.node
same-first design entries word e f a b =
    first-same word a.node b.node a.before b.before a.after b.after (sym a.at ∙ b.at)
    (recursion_from_All (λ (entry : Entry). word < entry.value) a.before a.first) (recursion_from_All (λ (entry : Entry). word < entry.value) b.before b.first)

-- the entries stand at subproblems
pub entries-good : (design : Design) (part : Parts → Part → ℕ) (state : State) (cert : Cert) → AreTrees part cert.cost (root design ∷ []) (map unnamed cert.tags) → IsCertOf design state cert → AllByRecursion (λ entry. IsSubproblem design entry.node) state.entries
entries-good design part state cert trees of =
    let Good : Mark → Type 0 = λ m. IsSubproblem design m.node in
    let one = root design ∷ [] in
    let given = given_marks state.entries state.waiting in
    let all : AllByRecursion Good given =
    recursion_from_All Good given (All-permutation Good (marks one (map unnamed cert.tags)) given (IsPermutation-sym given (marks one (map unnamed cert.tags)) of.placed)
    (All-from_recursion Good (marks one (map unnamed cert.tags)) (marks-good design part cert.cost one (map unnamed cert.tags) trees (root-subproblem design, tt)))) in
    each-unmap Good (λ (entry : Entry). record { node = entry.node; tag = tag_of entry.kind }) state.entries
    (each-left Good (map (λ (entry : Entry). record { node = entry.node; tag = tag_of entry.kind }) state.entries) (map (λ (task : Task). record { node = task.node; tag = Open }) state.waiting) all)

-- where the entries stand at subproblems, the one that brought the word is a subproblem
pub first-good : (design : Design) (entries : List Entry) (word : ℕ) (e : Expr) (a : IsOfFirst design entries word e) → AllByRecursion (λ entry. IsSubproblem design entry.node) entries → IsSubproblem design a.node
first-good design entries word e a good =
    (each-right (λ (entry : Entry). IsSubproblem design entry.node) a.before (closed a.node word ∷ a.after) (subst (AllByRecursion (λ (entry : Entry). IsSubproblem design entry.node)) a.at good)).0

-- the law of solved subproblems
abbrev OnePlanEach : Design → Type 0
OnePlanEach design = (node : Parts) (first second : Expr) (y z : ℕ) → IsSubproblem design node → is_solved design node ≡ true → IsPlanOf design node first y → IsPlanOf design node second z
    → (design.weights.wire ≡ 0 → IsLeastTrace design node first) → (design.weights.wire ≡ 0 → IsLeastTrace design node second) → first ≡ second

-- the plans that were found first are one
pub same-plan : (design : Design) (state : State) → OnePlanEach design → AllByRecursion (λ entry. IsSubproblem design entry.node) state.entries → (p q : Option Expr) → no_plan p ≡ no_plan q → IsFirst design state p → IsFirst design state q → p ≡ q
same-plan design state law good None None e a b = refl
same-plan design state law good None (Some f) e a b = absurd cc
same-plan design state law good (Some x) None e a b = absurd cc
same-plan design state law good (Some x) (Some y) e a b =
    let node : b.node ≡ a.node = sym (same-first design state.entries state.word x y a b) in
    ap (λ expr. Some expr) (law a.node x y state.word state.word (first-good design state.entries state.word x a good) a.solved a.plan
    (subst (λ n. IsPlanOf design n y state.word) node b.plan) a.traced (λ zero. subst (λ n. IsLeastTrace design n y) node (b.traced zero)))
