-- The preorder line of a tree that is given by its steps, and how a tree of steps branches.
use Rattle.std.proofs.Common.{◌≡◌, List, [], ◌∷◌, ◌++◌, map, ◌⊎◌}
use Rattle.sf_pieces.proofs.Common.{AllByRecursion}

module _ {N S T : Type 0} (after : N → S → N) (later : N → S → List S) (firsts : T → N → List S) where
  -- where steps lead
  abbrev pub walk : N → List S → N
  walk n [] = n
  walk n (s ∷ ss) = walk (after n s) ss

  -- what comes after the way: where the later steps lead to, those of the last step first
  abbrev pub behind : N → List S → List N
  behind n [] = []
  behind n (s ∷ ss) = behind (after n s) ss ++ map (after n) (later n s)

  -- the children that a tag makes
  abbrev pub made : T → N → List N
  made t n = map (after n) (firsts t n)

  -- each tag with its subproblem
  abbrev pub marks : List N → List T → List (N × T)
  marks [] ts = []
  marks (n ∷ ns) [] = []
  marks (n ∷ ns) (t ∷ ts) = (n, t) ∷ marks (made t n ++ ns) ts

-- the steps are that one and those that come after it, or none
pub record Begins {N S : Type 0} (later : N → S → List S) (n : N) (ss : List S) : Type 0 where
  pub step : S
  pub is : ss ≡ step ∷ later n step

-- where the last step came from
pub record CameFrom {N S : Type 0} (Sub : N → Type 0) (Can : N → S → Type 0) (before : N) (s : S) : Type 0 where
  pub sub : Sub before
  pub can : Can before s

-- how a tree branches
pub record IsBranching {N S T : Type 0} (after : N → S → N) (later : N → S → List S) (firsts : T → N → List S) (root : N) (steps : N → List S) (Sub : N → Type 0) (Can : N → S → Type 0) (May : T → N → Type 0) : Type 0 where
  pub longer : (n : N) (s : S) → steps (after n s) ≡ steps n ++ s ∷ []
  pub leads : (ss : List S) → steps (walk after later firsts root ss) ≡ ss
  pub on : (n : N) (s : S) → Sub n → Can n s → Sub (after n s)
  pub is : (n : N) → Sub n → n ≡ walk after later firsts root (steps n)
  pub from : (n : N) (ss : List S) (s : S) → Sub n → steps n ≡ ss ++ s ∷ [] → CameFrom Sub Can (walk after later firsts root ss) s
  pub next : (n : N) (s : S) → (later n s ≡ []) ⊎ Begins later n (later n s)
  pub begin : (t : T) (n : N) → (firsts t n ≡ []) ⊎ Begins later n (firsts t n)
  pub later_can : (n : N) (s : S) → Can n s → AllByRecursion (Can n) (later n s)
  pub may : (t : T) (n : N) → May t n → AllByRecursion (Can n) (firsts t n)
