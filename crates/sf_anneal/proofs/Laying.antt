-- The rooms of joined parts, and the spots of their blocks.
use Rattle.std.proofs.Common.{◌≡◌, ℕ, ◌+◌, ◌<◌, ◌≤◌, List, ◌++◌, length, arith, ap, refl, sym, subst, ◌∙◌, Any, Contains, pos, slice_set}
use Rattle.sf_anneal.proofs.Common.{Design, Shape, Spot, Token, Direction, IsFitting, IsNoLarger, plan_in, rooms_fit, rooms_small, shared, size_in, size_of, token_in, AreParts, IsBlockPart, IsJointPart, IsLaid, IsPart, IsTaken, token_at}
use Rattle.sf_model.specs.Tree.{Tree, Leaf, spots_at}
use Rattle.sf_polish.specs.declared.expr.Token.TheVariants as token
use Rattle.sf_curves.specs.declared.direction.Direction.TheVariants as way
use Rattle.sf_place.proofs.Writes.{placed_append}
use Rattle.sf_place.specs.Spots.{with_spots}
use Rattle.sf_anneal.proofs.Joined.{taken-block, taken-joined}
use Rattle.sf_anneal.proofs.Renewing.{part-joint}
use Rattle.sf_anneal.proofs.Rooted.{own, own-block, own-joint, part-right}

-- where the second of two rooms stands
abbrev pub second_x : Direction → Shape → ℕ → ℕ
second_x way.Beside q x = x + q.w
second_x way.Above q x = x

abbrev pub second_y : Direction → Shape → ℕ → ℕ
second_y way.Beside q y = y
second_y way.Above q y = y + q.h

joined-spots : (d : Direction) (l r : Tree) (x y : ℕ) → spots_at x y (plan_in d l r) ≡ spots_at x y l ++ spots_at (second_x d (size_of l) x) (second_y d (size_of l) y) r
joined-spots way.Beside l r x y = refl
joined-spots way.Above l r x y = refl

module _ (design : Design) (tokens : List Token) (count : ℕ) (before : ℕ → ℕ) (curve : ℕ → List Shape) (parts : AreParts design tokens count before curve) where
  -- a part that ends with an operator is a joint
  joint : (d : Direction) (k : ℕ) → k < count → token_at tokens k ≡ token_in d → IsJointPart (size_in d) design.outline (before k) (before (before k)) (before (k + 1)) (curve (before k)) (curve k) (curve (k + 1))
  joint d k lt at = part-joint design before curve k d (subst (IsPart design before curve k) at (parts.each k lt))

  -- two rooms that a joint of this size takes
  pub record AreJoined (d : Direction) (left k : ℕ) (p : Shape) : Type 0 where
    pub first : Any (λ q. shared d q ≤ shared d p) (curve left)
    pub second : Any (λ q. shared d q ≤ shared d p) (curve k)
    pub small : (q t : Shape) → IsFitting d p (curve left) q → IsFitting d p (curve k) t → IsNoLarger (size_in d q t) p

  pub are-joined : (d : Direction) (part left k : ℕ) (p : Shape) → part ≡ k + 1 → left ≡ before k → k < count → token_at tokens k ≡ token_in d → Contains (curve part) p → AreJoined d left k p
  are-joined d part left k p one stands lt at on =
      let here = subst (λ v. Contains (curve v) p) one on in
      let j = joint d k lt at in
      let both = rooms_fit d (curve (before k)) (curve k) (curve (k + 1)) p j.sizes.traced here in
      subst (λ v. AreJoined d v k p) (sym stands)
      (record {
        first = both.0;
        second = both.1;
        small = λ q t a b. rooms_small d (curve (before k)) (curve k) (curve (k + 1)) p q t q t j.sizes.traced here a b (omega arith, omega arith) (omega arith, omega arith);
      })

  module _ (few : count ≤ length tokens) where
    -- the tokens of a part
    abbrev mine : ℕ → List Token
    mine = own design tokens count before curve parts few

    -- a block is written at its number
    pub laid-block : (part k b : ℕ) (p : Shape) (x y : ℕ) (old new : List Spot) → part ≡ k + 1 → k < count → token_at tokens k ≡ token.Block b → Contains (curve part) p → new ≡ slice_set old b (record { block = b; x = pos x; y = pos y; w = p.w; h = p.h }) → IsLaid design (mine part) p x y old new
    laid-block part k b p x y old new one lt at on e =
        let here = subst (λ v. Contains (curve v) p) one on in
        let j : IsBlockPart design b k (before (k + 1)) (curve (k + 1)) = subst (IsPart design before curve k) at (parts.each k lt) in
        subst (λ v. IsLaid design (mine v) p x y old new) (sym one)
        (record {
          plan = Leaf b p;
          taken = subst (λ ts. IsTaken design ts p (Leaf b p)) (own-block design tokens count before curve parts few k b lt j.stands at) (taken-block design b (curve (k + 1)) p j.curve here);
          placed = e;
        })

    -- two rooms are written one after the other
    pub laid-joined : (d : Direction) (part left k : ℕ) (p q t : Shape) (x y : ℕ) (old mid new : List Spot) → part ≡ k + 1 → left ≡ before k → k < count → token_at tokens k ≡ token_in d → Contains (curve part) p → IsFitting d p (curve left) q → IsFitting d p (curve k) t
        → IsLaid design (mine left) q x y old mid → IsLaid design (mine k) t (second_x d q x) (second_y d q y) mid new → IsLaid design (mine part) p x y old new
    laid-joined d part left k p q t x y old mid new one stands lt at on fit fr laid r =
        let here = subst (λ v. Contains (curve v) p) one on in
        let fl = subst (λ v. IsFitting d p (curve v) q) stands fit in
        let l = subst (λ v. IsLaid design (mine v) q x y old mid) stands laid in
        let j = joint d k lt at in
        let low = parts.lower k (omega (arith, lt)) in
        let first = part-right design tokens count before curve parts few (before k) j.some (omega (arith, low, lt)) in
        let second = part-right design tokens count before curve parts few k (omega (arith, low, j.some)) (omega (arith, lt)) in
        subst (λ v. IsLaid design (mine v) p x y old new) (sym one)
        (record {
          plan = plan_in d l.plan r.plan;
          taken = subst (λ ts. IsTaken design ts p (plan_in d l.plan r.plan)) (own-joint design tokens count before curve parts few d k lt j.stands at)
              (taken-joined design d (mine (before k)) (mine k) (curve (before k)) (curve k) (curve (k + 1)) p q t l.plan r.plan first second j.sizes j.falls here fl fr l.taken r.taken);
          placed = r.placed ∙ ap (λ v. with_spots v (spots_at (second_x d q x) (second_y d q y) r.plan)) l.placed
              ∙ ap (λ v. with_spots (with_spots old (spots_at x y l.plan)) (spots_at (second_x d v x) (second_y d v y) r.plan)) (sym l.taken.sized)
              ∙ sym (placed_append old (spots_at x y l.plan) (spots_at (second_x d (size_of l.plan) x) (second_y d (size_of l.plan) y) r.plan))
              ∙ ap (with_spots old) (sym (joined-spots d l.plan r.plan x y));
        })
