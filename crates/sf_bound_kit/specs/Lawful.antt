-- The greater of two bounds keeps the laws of a bound. An impl's law cites of its own crate definitions alone, so these proofs stand here.
use Rattle.std.specs.Prelude.{max}
use Rattle.std.proofs.Common.{ℕ, ◌≤◌, refl, arith, inl, inr}
use Rattle.sf_model.specs.declared.design.Design.{Design}
use Rattle.sf_model.specs.declared.TheConstants.{MAX}
use Rattle.sf_node.specs.declared.part.Part.{Part}
use Rattle.sf_node.specs.declared.part.Part.TheVariants as by
use Rattle.sf_node.specs.Parts.{Parts}
use Rattle.sf_node.specs.Bounds.{IsBelowAll, IsReached, IsLeastCost, IsSound, IsExactAtEnd}
use Rattle.sf_node.specs.ByPart.{ArePartsOf}
use Rattle.sf_standard.specs.Standard.{standard, part_value}
use Rattle.sf_bound_kit.specs.Greater.{greater, greater_part}
use Rattle.sf_bound_kit.specs.Keeping.{IsBelow, kit_value, kit_part}

-- where no plan costs less than either of two numbers, none costs less than the greater one
pub greater-below : (design : Design) (node : Parts) (y z : ℕ) → IsBelowAll design node y → IsBelowAll design node z → IsBelowAll design node (max y z)
greater-below design node y z a b tree belongs fits = omega (arith, a tree belongs fits, b tree belongs fits)

-- a cost that is reached stays so beside a number that no plan undercuts
greater-reached : (design : Design) (node : Parts) (y z : ℕ) → IsBelowAll design node z → IsReached design node y → IsReached design node (max y z)
greater-reached design node y z below r = record {
  tree = r.tree;
  belongs = r.belongs;
  fits = r.fits;
  costs = omega (arith, r.costs, below r.tree r.belongs r.fits);
}

-- the same on the other side
reached-greater : (design : Design) (node : Parts) (y z : ℕ) → IsBelowAll design node y → IsReached design node z → IsReached design node (max y z)
reached-greater design node y z below r = record {
  tree = r.tree;
  belongs = r.belongs;
  fits = r.fits;
  costs = omega (arith, r.costs, below r.tree r.belongs r.fits);
}

-- a least cost stays one beside such a number of at most MAX
greater-least : (design : Design) (node : Parts) (y z : ℕ) → IsLeastCost design node y → IsBelowAll design node z → z ≤ MAX → IsLeastCost design node (max y z)
greater-least design node y z least below few = record {
  below = greater-below design node y z least.below below;
  reached = elim least.reached [ inl e ↦ inl (omega (arith, e, few)) | inr r ↦ inr (greater-reached design node y z below r) ];
}

-- of two least costs the greater is one
both-least : (design : Design) (node : Parts) (y z : ℕ) → IsLeastCost design node y → IsLeastCost design node z → IsLeastCost design node (max y z)
both-least design node y z a b = record {
  below = greater-below design node y z a.below b.below;
  reached = elim a.reached [
    | inr r ↦ inr (greater-reached design node y z b.below r)
    | inl e ↦ elim b.reached [ inr r ↦ inr (reached-greater design node y z a.below r) | inl k ↦ inl (omega (arith, e, k)) ]
  ];
}

module _ (own : Design → Parts → ℕ) (is_below : IsBelow own) (design : Design) where
  -- a kit is sound
  pub kit_is_sound : IsSound design (standard design) → IsSound design (kit_value own design)
  kit_is_sound sound node sub = greater-below design node (standard design node) (own design node) (sound node sub) (is_below design node sub).1

  -- and exact at the end
  pub kit_is_exact : IsExactAtEnd design (standard design) → IsExactAtEnd design (kit_value own design)
  kit_is_exact exact node sub solved =
      let k = is_below design node sub in
      greater-least design node (standard design node) (own design node) (exact node sub solved) k.1 k.0

-- no part of a kit is above its value
part-below : (own : Design → Parts → ℕ) (design : Design) (node : Parts) (p : Part) → part_value design node p ≤ standard design node → kit_part own design node p ≤ kit_value own design node
part-below own design node by.Area h = omega (arith, h)
part-below own design node by.Range h = omega (arith, h)
part-below own design node by.Pair h = omega (arith, h)
part-below own design node by.Hull h = omega (arith, h)
part-below own design node by.Full h = omega arith

-- the parts of a kit are parts of its value
pub kit_parts : (own : Design → Parts → ℕ) (design : Design) → ArePartsOf design (standard design) (part_value design) → ArePartsOf design (kit_value own design) (kit_part own design)
kit_parts own design parts = record { below = λ node p sub. part-below own design node p (parts.below node p sub); full = λ node. refl }

module _ (design : Design) (f g : Parts → ℕ) where
  -- the greater of two sound bounds is sound
  pub both_are_sound : IsSound design f → IsSound design g → IsSound design (greater f g)
  both_are_sound a b node sub = greater-below design node (f node) (g node) (a node sub) (b node sub)

  -- of two that are exact at the end it is exact there
  pub both_are_exact : IsExactAtEnd design f → IsExactAtEnd design g → IsExactAtEnd design (greater f g)
  both_are_exact a b node sub solved = both-least design node (f node) (g node) (a node sub solved) (b node sub solved)

  -- the greater of their parts are its parts
  pub both_parts : (p q : Parts → Part → ℕ) → ArePartsOf design f p → ArePartsOf design g q → ArePartsOf design (greater f g) (greater_part p q)
  both_parts p q a b = record {
    below = λ node part sub. omega (arith, a.below node part sub, b.below node part sub);
    full = λ node. omega (arith, a.full node, b.full node);
  }
