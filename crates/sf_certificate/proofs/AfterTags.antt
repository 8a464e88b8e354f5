-- Tags, the subproblems that they are read against, and those that wait after them.
use Rattle.std.proofs.Common.{◌≡◌, ℕ, min, List, [], ◌∷◌, ◌++◌, map, arith, refl, ap, ◌∙◌}
use Rattle.sf_certificate.proofs.Common.{Parts, Tag, Open, made, marks, waiting_after, left_open, least}

-- an open tag for each of the subproblems
abbrev pub opens : List Parts → List Tag
opens nodes = map (λ node. Open) nodes

-- no tag makes no mark
marks-nil : (nodes : List Parts) → marks nodes [] ≡ []
marks-nil [] = refl
marks-nil (node ∷ nodes) = refl

-- one tag more is read against the first subproblem that waits
pub marks-more : (nodes : List Parts) (tags : List Tag) (node : Parts) (rest : List Parts) (tag : Tag) → waiting_after nodes tags ≡ node ∷ rest → marks nodes (tags ++ tag ∷ []) ≡ marks nodes tags ++ record { node = node; tag = tag } ∷ []
marks-more [] [] node rest tag e = absurd (cc)
marks-more (n ∷ ns) [] node rest tag e =
    let same : n ≡ node = cc in
    ap (λ ms. record { node = n; tag = tag } ∷ ms) (marks-nil (made tag n ++ ns)) ∙ ap (λ m. record { node = m; tag = tag } ∷ []) same
marks-more [] (x ∷ tags) node rest tag e = absurd (cc)
marks-more (n ∷ ns) (x ∷ tags) node rest tag e = ap (λ ms. record { node = n; tag = x } ∷ ms) (marks-more (made x n ++ ns) tags node rest tag e)

-- and what it makes waits before the others
pub waiting-more : (nodes : List Parts) (tags : List Tag) (node : Parts) (rest : List Parts) (tag : Tag) → waiting_after nodes tags ≡ node ∷ rest → waiting_after nodes (tags ++ tag ∷ []) ≡ made tag node ++ rest
waiting-more [] [] node rest tag e = absurd (cc)
waiting-more (n ∷ ns) [] node rest tag e =
    let same : n ≡ node = cc in
    let others : ns ≡ rest = cc in
    ap (λ m. made tag m ++ ns) same ∙ ap (λ z. made tag node ++ z) others
waiting-more [] (x ∷ tags) node rest tag e = absurd (cc)
waiting-more (n ∷ ns) (x ∷ tags) node rest tag e = waiting-more (made x n ++ ns) tags node rest tag e

-- further tags are read against those that wait after the first ones
pub marks-then : (nodes : List Parts) (tags more : List Tag) → marks nodes (tags ++ more) ≡ marks nodes tags ++ marks (waiting_after nodes tags) more
marks-then [] [] more = refl
marks-then (node ∷ nodes) [] more = refl
marks-then [] (tag ∷ tags) more = refl
marks-then (node ∷ nodes) (tag ∷ tags) more = ap (λ ms. record { node = node; tag = tag } ∷ ms) (marks-then (made tag node ++ nodes) tags more)

-- where all that waits is tagged open, it is what is left open
pub open-all : (nodes : List Parts) → left_open nodes (opens nodes) ≡ nodes
open-all [] = refl
open-all (node ∷ nodes) = ap (λ ns. node ∷ ns) (open-all nodes)

-- the least with a number more is the lesser of that number and the least
pub least-min : (n x : ℕ) (xs : List ℕ) → least (min n x) xs ≡ min x (least n xs)
least-min n x [] = omega arith
least-min n x (y ∷ ys) = omega (arith, least-min n x ys)
