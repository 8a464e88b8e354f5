-- Children that keep their parent's value.
use Rattle.std.proofs.Common.{◌≡◌, ℕ, refl, sym, arith}
use Rattle.sf_bound_kit.proofs.Common.{Design, Parts, IsSubproblem, after, standard, greater, Keeps, kit_value}
use Rattle.sf_node.specs.Later.{IsChildOf}
use Rattle.sf_node.specs.declared.step.Step.{Step}
use Rattle.sf_bound.proofs.ChildOf.{child_of}

-- a child, with the value of its parent by another bound
child-by : (design : Design) (f g : Parts → ℕ) (value : ℕ) (child : Parts) (c : IsChildOf design f value child) → IsChildOf design g (g c.parent) child
child-by design f g value child c = record { parent = c.parent; step = c.step; sub = c.sub; can = c.can; is = c.is; worth = refl }

-- what keeps two values keeps the greater one
pub both-keep : (design : Design) (f g : Parts → ℕ) (value : ℕ) (child : Parts) → ((v : ℕ) → IsChildOf design f v child → v ≡ f child) → ((v : ℕ) → IsChildOf design g v child → v ≡ g child) → IsChildOf design (greater f g) value child → value ≡ greater f g child
both-keep design f g value child a b c =
    let p = a (f c.parent) (child-by design (greater f g) f value child c) in
    let q = b (g c.parent) (child-by design (greater f g) g value child c) in
    omega (arith, p, q, c.worth)

module _ {F : Type 0} (may : F → Design → Parts → Type 0) (gives : F → Design → Parts → ℕ → Type 0) (own : Design → Parts → ℕ) (f : F) (keeps : Keeps may gives own f) (reads : (design : Design) (a b : Parts) (r : ℕ) → a.spans ≡ b.spans → gives f design a r → gives f design b r) (design : Design) where
  -- what reads the spans alone says the same where these are the same
  pub own-same : (a b : Parts) → IsSubproblem design a → IsSubproblem design b → a.spans ≡ b.spans → own design a ≡ own design b
  own-same a b sub sub' spans =
      (keeps.answers design b (own design a) sub').0 (reads design a b (own design a) spans ((keeps.answers design a (own design a) sub).1 refl))

  -- so a child with its parent's spans keeps the value of a kit where it keeps the standard bound
  pub kit-keep : (value : ℕ) (child : Parts) → ((parent : Parts) (step : Step) → child ≡ after parent step → child.spans ≡ parent.spans) → ((v : ℕ) → IsChildOf design (standard design) v child → v ≡ standard design child) → IsChildOf design (kit_value own design) value child → value ≡ kit_value own design child
  kit-keep value child stays a c =
      let p = a (standard design c.parent) (child-by design (kit_value own design) (standard design) value child c) in
      let q = own-same c.parent child c.sub (child_of design (kit_value own design) value child c) (sym (stays c.parent c.step c.is)) in
      omega (arith, p, q, c.worth)
