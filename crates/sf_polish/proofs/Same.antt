-- A plan with the same leaves, size and spots is as legal, fits as well and costs the same.
use Rattle.std.proofs.Common.{◌≡◌, ◌<◌, All, arith, ap, sym, subst, ◌∙◌, ◌==◌}
use Rattle.sf_polish.proofs.Common.{count_by, Contains, Tree, leaves, width, height, spots_of, IsLegal, Fits, block_count, shapes_of, IsSamePlace, cost, weighed}
use Rattle.sf_model.specs.declared.design.Design.{Design}

-- a plan with the leaves of a legal one is legal
pub same-legal : (design : Design) (s t : Tree) → leaves s ≡ leaves t → IsLegal design t → IsLegal design s
same-legal design s t e legal = record {
  blocks = record {
    each_once = λ b h. ap (count_by (λ leaf. leaf.0 == b)) e ∙ legal.blocks.each_once b h;
    no_other = subst (All (λ leaf. leaf.0 < block_count design)) (sym e) legal.blocks.no_other;
  };
  listed = subst (All (λ leaf. Contains (shapes_of design leaf.0) leaf.1)) (sym e) legal.listed;
}

-- a plan of the size of one that fits fits
pub same-fits : (design : Design) (s t : Tree) → IsSamePlace s t → Fits design.outline t → Fits design.outline s
same-fits design s t same fits = (omega (arith, same.wide, fits.0), omega (arith, same.high, fits.1))

-- plans of one size with the same spots cost the same
pub same-cost : (design : Design) (s t : Tree) → IsSamePlace s t → cost design s ≡ cost design t
same-cost design s t same =
    ap (λ w. weighed design w (height s) (spots_of s)) same.wide ∙ ap (λ h. weighed design (width t) h (spots_of s)) same.high ∙ ap (weighed design (width t) (height t)) (same.places 0 0)
