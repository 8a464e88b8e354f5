-- Children by a block: they keep the standard bound of their parent.
use Rattle.std.proofs.Common.{◌≡◌, ℕ, List, [], ◌∷◌, ◌++◌, length, ap, sym, subst, ◌∙◌, false, ◌-◌, refl, arith, length-append}
use Rattle.sf_bounds.proofs.Common.{slice_get, Some, Design, Parts, is_complete, CanStep, after, steps-after, standard, block_keeps}
use Rattle.sf_node.specs.declared.step.Step.{Step}
use Rattle.sf_node.specs.declared.step.Step.TheVariants.{Block}
use Rattle.sf_node.specs.Later.{IsChildOf}

-- the last place of a list holds what was put behind the others
get-last : {X : Type 0} (xs : List X) (x : X) (i : ℕ) → i ≡ length xs → slice_get (xs ++ x ∷ []) i ≡ Some x
get-last [] x i e = ap (slice_get (x ∷ [])) e
get-last (y ∷ xs) x i e = ap (slice_get (y ∷ (xs ++ x ∷ []))) e ∙ get-last xs x (length xs) refl

module _ (design : Design) (bound : Parts → ℕ) (value : ℕ) (child : Parts) (c : IsChildOf design bound value child) where
  -- the last step of the child is the one by which it came
  last_step : (steps : List Step) (s : Step) → steps ≡ child.steps → Some s ≡ slice_get steps (length steps - 1) → c.step ≡ s
  last_step steps s e k =
      let all : steps ≡ c.parent.steps ++ c.step ∷ [] = e ∙ ap (λ n. n.steps) c.is ∙ steps-after c.parent c.step in
      let place : length steps - 1 ≡ length c.parent.steps = omega (arith, ap length all, length-append c.parent.steps (c.step ∷ [])) in
      let got : Some s ≡ Some c.step = k ∙ ap (λ xs. slice_get xs (length steps - 1)) all ∙ get-last c.parent.steps c.step (length steps - 1) place in
      cc

-- a child by a block that is not complete has the value of its parent
pub block_child : (design : Design) (value b : ℕ) (child : Parts) (steps : List Step) (s : Step) → IsChildOf design (standard design) value child → steps ≡ child.steps → Some s ≡ slice_get steps (length steps - 1) → s ≡ Block b → is_complete child ≡ false → value ≡ standard design child
block_child design value b child steps s c e k is incomplete =
    let step : c.step ≡ Block b = last_step design (standard design) value child c steps s e k ∙ is in
    let after_block : child ≡ after c.parent (Block b) = c.is ∙ ap (after c.parent) step in
    let can : CanStep c.parent (Block b) = subst (CanStep c.parent) step c.can in
    c.worth ∙ sym (ap (standard design) after_block ∙ block_keeps design c.parent b c.sub can (ap is_complete (sym after_block) ∙ incomplete))
