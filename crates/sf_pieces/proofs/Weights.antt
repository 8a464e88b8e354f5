-- Lists that weigh the same, however their subproblems are weighed, are permutations.
use Rattle.std.proofs.Common.{◌≡◌, ℕ, zero, suc, ◌<◌, ◌≤◌, List, [], ◌∷◌, length, get_or, arith, refl, ap, sym, ◌∙◌, Bool, true, false, ◌==◌, ◌&&◌}
use Rattle.sf_pieces.proofs.Common.{sum_by, IsPermutation, remove, eqb-true, eq-eqb, IsPermutation-refl, IsPermutation-sym, IsPermutation-trans, IsPermutation-cons, IsPermutation-remove, sum_by-IsPermutation, Area, Range, Pair, Hull, Full, Step, Parts, Mark, Tag, total, total-same}
use Rattle.std.proofs.lemmas.List.Sums.{sum_by-cons}
use Rattle.sf_certificate.specs.declared.tag.Tag.TheVariants as tag
use Rattle.sf_polish.specs.declared.expr.Token.{Token}
use Rattle.sf_polish.specs.declared.expr.Token.TheVariants as token
use Rattle.sf_node.specs.declared.step.Step.TheVariants as step

-- a test that tells whether two values are equal
pub record IsTest {X : Type 0} (same : X → X → Bool) : Type 0 where
  pub self : (x : X) → same x x ≡ true
  pub tells : (x y : X) → same x y ≡ true → x ≡ y

-- 1 where the test passes, and else 0
abbrev pub one_if : Bool → ℕ
one_if true = 1
one_if false = 0

-- x stands at some place of the list
abbrev pub Place : {X : Type 0} → X → List X → Type 0
Place x ys = (i : ℕ) × (i < length ys) × (x ≡ get_or ys i x)

module _ {X : Type 0} where
  -- with one element more in front, an element that weighs something still stands in the list
  first_place : (same : X → X → Bool) → IsTest same → (x y : X) (ys : List X) (b : Bool) → same x y ≡ b → (1 ≤ sum_by (λ z. one_if (same x z)) ys → Place x ys) → 1 ≤ sum_by (λ z. one_if (same x z)) (y ∷ ys) → Place x (y ∷ ys)
  first_place same test x y ys true e later h = (0, omega arith, test.tells x y e)
  first_place same test x y ys false e later h =
      let w : X → ℕ = λ z. one_if (same x z) in
      let k : w y ≡ 0 = ap one_if e in
      let r = later (omega (arith, h, k, sum_by-cons w y ys)) in
      (suc r.0, omega (arith, r.1), r.2)

  -- an element that weighs something stands in the list
  pub some_place : (same : X → X → Bool) → IsTest same → (x : X) (ys : List X) → 1 ≤ sum_by (λ y. one_if (same x y)) ys → Place x ys
  some_place same test x [] h = absurd (omega (arith, h))
  some_place same test x (y ∷ ys) h = first_place same test x y ys (same x y) refl (some_place same test x ys) h

  -- lists that weigh the same, however their elements are weighed, are permutations
  pub weights-permute : (same : X → X → Bool) → IsTest same → (xs ys : List X) → ((w : X → ℕ) → sum_by w xs ≡ sum_by w ys) → IsPermutation xs ys
  weights-permute same test [] [] h = IsPermutation-refl []
  weights-permute same test [] (y ∷ ys) h = absurd (omega (arith, h (λ _. 1), sum_by-cons (λ (_ : X). 1) y ys))
  weights-permute same test (x ∷ xs) ys h =
      let w : X → ℕ = λ y. one_if (same x y) in
      let k : one_if (same x x) ≡ 1 = ap one_if (test.self x) in
      let at = some_place same test x ys (omega (arith, h w, k, sum_by-cons w x xs)) in
      let rest = remove ys at.0 in
      let p = IsPermutation-remove ys at.0 x at.1 at.2 in
      IsPermutation-trans (x ∷ xs) (x ∷ rest) ys
      (IsPermutation-cons x xs rest (weights-permute same test xs rest (λ v. omega (arith, h v, sum_by-cons v x xs, sum_by-cons v x rest, sum_by-IsPermutation v ys (x ∷ rest) p))))
      (IsPermutation-sym ys (x ∷ rest) p)

-- both parts of a conjunction that is true are true
both_true : (a b : Bool) → (a && b) ≡ true → (a ≡ true) × (b ≡ true)
both_true true b h = (refl, h)
both_true false b h = absurd (cc)

-- pairs of numbers, lists, and what is told by its code
abbrev same_pair : ℕ × ℕ → ℕ × ℕ → Bool
same_pair p q = (p.0 == q.0) && (p.1 == q.1)

-- comparing both numbers tells whether pairs are equal
pair_test : IsTest same_pair
pair_test = record {
  self = λ p. ap (λ b. b && (p.1 == p.1)) (eq-eqb p.0 p.0 refl) ∙ eq-eqb p.1 p.1 refl;
  tells = λ p q h.
      let b = both_true (p.0 == q.0) (p.1 == q.1) h in
      λ i. (eqb-true p.0 q.0 b.0 i, eqb-true p.1 q.1 b.1 i);
}

module _ {X : Type 0} (same : X → X → Bool) (test : IsTest same) where
  -- two lists are the same element by element
  abbrev same_list : List X → List X → Bool
  same_list [] [] = true
  same_list [] (y ∷ ys) = false
  same_list (x ∷ xs) [] = false
  same_list (x ∷ xs) (y ∷ ys) = same x y && same_list xs ys

  -- a list compares as the same as itself
  list_self : (xs : List X) → same_list xs xs ≡ true
  list_self [] = refl
  list_self (x ∷ xs) = ap (λ b. b && same_list xs xs) (test.self x) ∙ list_self xs

  -- lists that compare as the same are equal
  list_tells : (xs ys : List X) → same_list xs ys ≡ true → xs ≡ ys
  list_tells [] [] h = refl
  list_tells [] (y ∷ ys) h = absurd (cc)
  list_tells (x ∷ xs) [] h = absurd (cc)
  list_tells (x ∷ xs) (y ∷ ys) h =
      let b = both_true (same x y) (same_list xs ys) h in
      λ i. test.tells x y b.0 i ∷ list_tells xs ys b.1 i

-- values that are got back from their codes are compared by comparing these
by_code : {X Y : Type 0} (code : X → Y) (decode : Y → X) → ((x : X) → decode (code x) ≡ x) → (same : Y → Y → Bool) → IsTest same → IsTest (λ x y. same (code x) (code y))
by_code code decode back same test = record {
  self = λ x. test.self (code x);
  tells = λ x y h. sym (back x) ∙ (ap decode (test.tells (code x) (code y) h) ∙ back y);
}

-- a token as two numbers
abbrev token_code : Token → ℕ × ℕ
token_code token.Beside = (0, 0)
token_code token.Above = (1, 0)
token_code (token.Block b) = (2, b)

-- the token of two numbers
abbrev token_decode : ℕ × ℕ → Token
token_decode (zero, b) = token.Beside
token_decode (suc zero, b) = token.Above
token_decode (suc (suc n), b) = token.Block b

-- a token is got back from its numbers
token_back : (t : Token) → token_decode (token_code t) ≡ t
token_back token.Beside = refl
token_back token.Above = refl
token_back (token.Block b) = refl

-- a step as two numbers
abbrev step_code : Step → ℕ × ℕ
step_code step.Beside = (0, 0)
step_code step.Above = (1, 0)
step_code (step.Block b) = (2, b)
step_code (step.Left b) = (3, b)
step_code (step.Right b) = (4, b)

-- the step of two numbers
abbrev step_decode : ℕ × ℕ → Step
step_decode (zero, b) = step.Beside
step_decode (suc zero, b) = step.Above
step_decode (suc (suc zero), b) = step.Block b
step_decode (suc (suc (suc zero)), b) = step.Left b
step_decode (suc (suc (suc (suc n))), b) = step.Right b

-- a step is got back from its numbers
step_back : (s : Step) → step_decode (step_code s) ≡ s
step_back step.Beside = refl
step_back step.Above = refl
step_back (step.Block b) = refl
step_back (step.Left b) = refl
step_back (step.Right b) = refl

-- comparing their numbers tells whether tokens are equal
token_test : IsTest (λ s t. same_pair (token_code s) (token_code t))
token_test = by_code token_code token_decode token_back same_pair pair_test

-- comparing their numbers tells whether steps are equal
step_test : IsTest (λ s t. same_pair (step_code s) (step_code t))
step_test = by_code step_code step_decode step_back same_pair pair_test

-- two paths are the same step by step
abbrev same_steps : List Step → List Step → Bool
same_steps = same_list (λ s t. same_pair (step_code s) (step_code t)) step_test

-- two lists of tokens are the same token by token
abbrev same_tokens : List Token → List Token → Bool
same_tokens = same_list (λ s t. same_pair (token_code s) (token_code t)) token_test

-- two lists of spans are the same span by span
abbrev same_spans : List (ℕ × ℕ) → List (ℕ × ℕ) → Bool
same_spans = same_list same_pair pair_test

-- two subproblems have the same steps, tokens and spans
abbrev same_parts : Parts → Parts → Bool
same_parts n m = same_steps n.steps m.steps && (same_tokens n.tokens m.tokens && same_spans n.spans m.spans)

-- comparing steps, tokens and spans tells whether subproblems are equal
parts_test : IsTest same_parts
parts_test = record {
  self = λ n.
      ap (λ b. b && (same_tokens n.tokens n.tokens && same_spans n.spans n.spans)) (list_self (λ s t. same_pair (step_code s) (step_code t)) step_test n.steps)
      ∙ (ap (λ b. b && same_spans n.spans n.spans) (list_self (λ s t. same_pair (token_code s) (token_code t)) token_test n.tokens) ∙ list_self same_pair pair_test n.spans);
  tells = λ n m h.
      let a = both_true (same_steps n.steps m.steps) (same_tokens n.tokens m.tokens && same_spans n.spans m.spans) h in
      let b = both_true (same_tokens n.tokens m.tokens) (same_spans n.spans m.spans) a.1 in
      λ i. record {
        steps = list_tells (λ s t. same_pair (step_code s) (step_code t)) step_test n.steps m.steps a.0 i;
        tokens = list_tells (λ s t. same_pair (token_code s) (token_code t)) token_test n.tokens m.tokens b.0 i;
        spans = list_tells same_pair pair_test n.spans m.spans b.1 i;
      };
}

-- subproblems that weigh the same, however they are weighed, are the same in some order
pub nodes-permute : (xs ys : List Parts) → ((w : Parts → ℕ) → sum_by w xs ≡ sum_by w ys) → IsPermutation xs ys
nodes-permute = weights-permute same_parts parts_test

-- a tag as two numbers
abbrev tag_code : Tag → ℕ × ℕ
tag_code tag.Extend = (0, 0)
tag_code (tag.Split b) = (1, b)
tag_code tag.Open = (2, 0)
tag_code (tag.Closed Area) = (3, 0)
tag_code (tag.Closed Range) = (4, 0)
tag_code (tag.Closed Pair) = (5, 0)
tag_code (tag.Closed Hull) = (6, 0)
tag_code (tag.Closed Full) = (7, 0)

-- the tag of two numbers
abbrev tag_decode : ℕ × ℕ → Tag
tag_decode (zero, b) = tag.Extend
tag_decode (suc zero, b) = tag.Split b
tag_decode (suc (suc zero), b) = tag.Open
tag_decode (suc (suc (suc zero)), b) = tag.Closed Area
tag_decode (suc (suc (suc (suc zero))), b) = tag.Closed Range
tag_decode (suc (suc (suc (suc (suc zero)))), b) = tag.Closed Pair
tag_decode (suc (suc (suc (suc (suc (suc zero))))), b) = tag.Closed Hull
tag_decode (suc (suc (suc (suc (suc (suc (suc n)))))), b) = tag.Closed Full

-- a tag is got back from its numbers
tag_back : (t : Tag) → tag_decode (tag_code t) ≡ t
tag_back tag.Extend = refl
tag_back (tag.Split b) = refl
tag_back tag.Open = refl
tag_back (tag.Closed Area) = refl
tag_back (tag.Closed Range) = refl
tag_back (tag.Closed Pair) = refl
tag_back (tag.Closed Hull) = refl
tag_back (tag.Closed Full) = refl

-- comparing their numbers tells whether tags are equal
tag_test : IsTest (λ s t. same_pair (tag_code s) (tag_code t))
tag_test = by_code tag_code tag_decode tag_back same_pair pair_test

-- two marks have the same subproblem and the same tag
abbrev same_mark : Mark → Mark → Bool
same_mark m n = same_parts m.node n.node && same_pair (tag_code m.tag) (tag_code n.tag)

-- comparing subproblems and tags tells whether marks are equal
mark_test : IsTest same_mark
mark_test = record {
  self = λ m. ap (λ b. b && same_pair (tag_code m.tag) (tag_code m.tag)) (parts_test.self m.node) ∙ tag_test.self m.tag;
  tells = λ m n h.
      let b = both_true (same_parts m.node n.node) (same_pair (tag_code m.tag) (tag_code n.tag)) h in
      λ i. record { node = parts_test.tells m.node n.node b.0 i; tag = tag_test.tells m.tag n.tag b.1 i };
}

-- marks that weigh the same, however they are weighed, are the same in some order
pub marks-permute : (xs ys : List Mark) → ((w : Mark → ℕ) → total w xs ≡ total w ys) → IsPermutation xs ys
marks-permute xs ys h = weights-permute same_mark mark_test xs ys (λ w. sym (total-same w xs) ∙ h w ∙ total-same w ys)
