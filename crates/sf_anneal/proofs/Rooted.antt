-- The parts of an expression have their root curves, and plans of each size on them.
use Rattle.std.proofs.Common.{◌≡◌, ℕ, zero, suc, ◌+◌, ◌-◌, ◌<◌, ◌≤◌, List, [], ◌∷◌, ◌++◌, length, take, drop, get_or, arith, refl, ap, sym, subst, ◌∙◌, Contains}
use Rattle.sf_anneal.proofs.Common.{drop-cons, drop-nil, take-add, take-suc, get_or-drop, length-drop, All-contains, Design, Shape, Tree, Leaf, Token, Direction, IsJoinOf, plan_in, shared_fit, size_in, token_in, AreParts, IsJointPart, IsPart, IsTaken, stretch, token_at}
use Rattle.sf_polish.specs.declared.expr.Token.TheVariants as token
use Rattle.sf_curves.specs.declared.direction.Direction.TheVariants as way
use Rattle.sf_anneal.proofs.Joined.{IsRight, joined_tokens, right-block, right-joined, fitting-found, some-fitting, taken-block, taken-joined}

-- what is dropped in two steps
drop-twice : {X : Type 0} (a m : ℕ) (l : List X) → drop (a + m) l ≡ drop m (drop a l)
drop-twice zero m l = let e : 0 + m ≡ m = omega arith in ap (λ n. drop n l) e
drop-twice (suc a) m [] = drop-nil (suc a + m) ∙ sym (drop-nil m)
drop-twice (suc a) m (x ∷ l) = let e : suc a + m ≡ suc (a + m) = omega arith in ap (λ n. drop n (x ∷ l)) e ∙ drop-twice a m l

-- the stretch of one token
pub stretch-one : (ts : List Token) (k from : ℕ) → k < length ts → from ≡ k → stretch ts from (k + 1) ≡ token_at ts k ∷ []
stretch-one ts k from lt e =
    let one : k + 1 - k ≡ 1 = omega arith in
    ap (λ v. stretch ts v (k + 1)) e ∙ ap (λ n. take n (drop k ts)) one ∙ ap (take 1) (drop-cons ts k token.Beside lt)

-- two stretches one behind the other, and the token behind them
pub stretch-two : (ts : List Token) (a b k : ℕ) → a ≤ b → b ≤ k → k < length ts → stretch ts a b ++ stretch ts b k ++ token_at ts k ∷ [] ≡ stretch ts a (k + 1)
stretch-two ts a b k ab bk lt =
    let u = drop a ts in
    let m : ℕ = b - a in
    let n : ℕ = k - b in
    let to_b : a + m ≡ b = omega (arith, ab) in
    let to_k : a + (m + n) ≡ k = omega (arith, ab, bk) in
    let all : suc (m + n) ≡ k + 1 - a = omega (arith, ab, bk) in
    let rest : drop b ts ≡ drop m u = ap (λ v. drop v ts) (sym to_b) ∙ drop-twice a m ts in
    let last : get_or u (m + n) token.Beside ≡ token_at ts k = get_or-drop a ts (m + n) token.Beside ∙ ap (token_at ts) to_k in
    ap (λ v. take m u ++ take n v ++ token_at ts k ∷ []) rest
    ∙ ap (λ v. v ++ token_at ts k ∷ []) (sym (take-add m n u))
    ∙ ap (λ v. take (m + n) u ++ v ∷ []) (sym last)
    ∙ sym (take-suc u (m + n) token.Beside (omega (arith, length-drop a ts, lt, to_k)))
    ∙ ap (λ v. take v u) all

module _ (design : Design) (tokens : List Token) (count : ℕ) (before : ℕ → ℕ) (curve : ℕ → List Shape) (parts : AreParts design tokens count before curve) (few : count ≤ length tokens) where
  -- the tokens of a part
  abbrev pub own : ℕ → List Token
  own k = stretch tokens (before k) k

  -- the tokens of a joint
  pub own-joint : (d : Direction) (k : ℕ) → k < count → before (k + 1) ≡ before (before k) → token_at tokens k ≡ token_in d → joined_tokens d (own (before k)) (own k) ≡ own (k + 1)
  own-joint d k lt stands at =
      let low = parts.lower k (omega (arith, lt)) in
      let lower = parts.lower (before k) (omega (arith, lt, low)) in
      ap (λ t. own (before k) ++ own k ++ t ∷ []) (sym at) ∙ stretch-two tokens (before (before k)) (before k) k (omega (arith, lower)) (omega (arith, low)) (omega (arith, lt, few)) ∙ ap (λ v. stretch tokens v (k + 1)) (sym stands)

  pub own-block : (k b : ℕ) → k < count → before (k + 1) ≡ k → token_at tokens k ≡ token.Block b → token.Block b ∷ [] ≡ own (k + 1)
  own-block k b lt stands at = sym (stretch-one tokens k (before (k + 1)) (omega (arith, lt, few)) stands ∙ ap (λ t. t ∷ []) at)

  -- the joint of a part and the one behind it
  abbrev IsJoint : Direction → ℕ → Type 0
  IsJoint d k = IsJointPart (size_in d) design.outline (before k) (before (before k)) (before (k + 1)) (curve (before k)) (curve k) (curve (k + 1))

  -- a part has its root curve where all before it have
  right-joint : (d : Direction) (k : ℕ) → k < count → ((i : ℕ) → 1 ≤ i → i ≤ k → IsRight design (own i) (curve i)) → token_at tokens k ≡ token_in d → IsJoint d k → IsRight design (own (k + 1)) (curve (k + 1))
  right-joint d k lt each at p =
      let low = parts.lower k (omega (arith, lt)) in
      subst (λ ts. IsRight design ts (curve (k + 1))) (own-joint d k lt p.stands at)
      (right-joined design d (own (before k)) (own k) (curve (before k)) (curve k) (curve (k + 1)) (each (before k) p.some (omega (arith, low))) (each k (omega (arith, low, p.some)) (omega arith)) p.sizes p.falls)

  right-behind : (k : ℕ) → k < count → ((i : ℕ) → 1 ≤ i → i ≤ k → IsRight design (own i) (curve i)) → (t : Token) → token_at tokens k ≡ t → IsPart design before curve k t → IsRight design (own (k + 1)) (curve (k + 1))
  right-behind k lt each token.Beside at p = right-joint way.Beside k lt each at p
  right-behind k lt each token.Above at p = right-joint way.Above k lt each at p
  right-behind k lt each (token.Block b) at p =
      subst (λ ts. IsRight design ts (curve (k + 1))) (own-block k b lt p.stands at) (right-block design b (curve (k + 1)) p.curve)

  -- what holds of a part where it holds of all before it holds of each
  each-part : (P : ℕ → Type 0) → ((k : ℕ) → k < count → ((i : ℕ) → 1 ≤ i → i ≤ k → P i) → P (k + 1)) → (f k : ℕ) → k ≤ f → 1 ≤ k → k ≤ count → P k
  each-part P next zero k le some h = absurd (omega (arith, le, some))
  each-part P next (suc f) zero le some h = absurd (omega (arith, some))
  each-part P next (suc f) (suc k) le some h =
      let one : k + 1 ≡ suc k = omega arith in
      subst P one (next k (omega (arith, h)) (λ i some' le'. each-part P next f i (omega (arith, le, le')) some' (omega (arith, le', h))))

  -- each part has its root curve
  pub part-right : (k : ℕ) → 1 ≤ k → k ≤ count → IsRight design (own k) (curve k)
  part-right k some h = each-part (λ v. IsRight design (own v) (curve v)) (λ i lt each. right-behind i lt each (token_at tokens i) refl (parts.each i lt)) k k (omega arith) some h

  -- some plan of a part has this size
  abbrev pub HasTaken : ℕ → Shape → Type 0
  HasTaken k p = (t : Tree) × IsTaken design (own k) p t

  -- a part has a plan of each size on its curve where all before it have
  taken-joint : (d : Direction) (k : ℕ) (p : Shape) → k < count → Contains (curve (k + 1)) p → ((i : ℕ) (q : Shape) → 1 ≤ i → i ≤ k → Contains (curve i) q → HasTaken i q) → token_at tokens k ≡ token_in d → IsJoint d k → HasTaken (k + 1) p
  taken-joint d k p lt here each at part =
      let low = parts.lower k (omega (arith, lt)) in
      let ls = curve (before k) in
      let rs = curve k in
      let first = part-right (before k) part.some (omega (arith, low, lt)) in
      let second = part-right k (omega (arith, low, part.some)) (omega (arith, lt)) in
      let j = All-contains (IsJoinOf (size_in d) ls rs) (curve (k + 1)) p part.sizes.traced here in
      let fit = shared_fit d j.0 j.1 p j.4 in
      let q = some-fitting d p ls j.0 j.2 fit.0 in
      let t = some-fitting d p rs j.1 j.3 fit.1 in
      let l = each (before k) q.0 part.some (omega (arith, low)) (fitting-found d p ls q.0 q.1) in
      let r = each k t.0 (omega (arith, low, part.some)) (omega arith) (fitting-found d p rs t.0 t.1) in (
        plan_in d l.0 r.0,
        subst (λ ts. IsTaken design ts p (plan_in d l.0 r.0)) (own-joint d k lt part.stands at)
            (taken-joined design d (own (before k)) (own k) ls rs (curve (k + 1)) p q.0 t.0 l.0 r.0 first second part.sizes part.falls here q.1 t.1 l.1 r.1),
      )

  taken-behind : (k : ℕ) (p : Shape) → k < count → Contains (curve (k + 1)) p → ((i : ℕ) (q : Shape) → 1 ≤ i → i ≤ k → Contains (curve i) q → HasTaken i q) → (t : Token) → token_at tokens k ≡ t → IsPart design before curve k t → HasTaken (k + 1) p
  taken-behind k p lt here each token.Beside at part = taken-joint way.Beside k p lt here each at part
  taken-behind k p lt here each token.Above at part = taken-joint way.Above k p lt here each at part
  taken-behind k p lt here each (token.Block b) at part =
      (Leaf b p, subst (λ ts. IsTaken design ts p (Leaf b p)) (own-block k b lt part.stands at) (taken-block design b (curve (k + 1)) p part.curve here))

  -- each part has a plan of each size on its curve
  pub part-taken : (k : ℕ) (p : Shape) → 1 ≤ k → k ≤ count → Contains (curve k) p → HasTaken k p
  part-taken k p some h here =
      each-part (λ v. (q : Shape) → Contains (curve v) q → HasTaken v q) (λ i lt each q there. taken-behind i q lt there (λ j r some' le'. each j some' le' r) (token_at tokens i) refl (parts.each i lt)) k k (omega arith) some h p here
