-- Each plan has a skewed plan with the same leaves and the same spots: a right child with its parent's operator is taken apart.
use Rattle.std.proofs.Common.{◌≡◌, ℕ, ◌+◌, max, ◌++◌, append_assoc, arith, refl, ap, ◌∙◌}
use Rattle.sf_polish.proofs.Common.{Tree, Leaf, Beside, Above, width, height, leaves, spots_at, IsSkewed, beside, above, skewed_plan, IsSamePlace}

-- t is the plan of l and r side by side
pub record JoinsBeside (l r t : Tree) : Type 0 where
  pub skewed : IsSkewed t
  pub same_leaves : leaves t ≡ leaves l ++ leaves r
  pub wide : width t ≡ width l + width r
  pub high : height t ≡ max (height l) (height r)
  pub same_spots : (x y : ℕ) → spots_at x y t ≡ spots_at x y l ++ spots_at (x + width l) y r

-- t is the plan of l with r above it
pub record JoinsAbove (l r t : Tree) : Type 0 where
  pub skewed : IsSkewed t
  pub same_leaves : leaves t ≡ leaves l ++ leaves r
  pub wide : width t ≡ max (width l) (width r)
  pub high : height t ≡ height l + height r
  pub same_spots : (x y : ℕ) → spots_at x y t ≡ spots_at x y l ++ spots_at x (y + height l) r

-- two skewed plans side by side, made skewed, are the plan of both
pub beside-joins : (l r : Tree) → IsSkewed l → IsSkewed r → JoinsBeside l r (beside l r)
beside-joins l (Leaf b s) h k = record { skewed = (h, k, refl); same_leaves = refl; wide = refl; high = refl; same_spots = λ x y. refl }
beside-joins l (Above r q) h k = record { skewed = (h, k, refl); same_leaves = refl; wide = refl; high = refl; same_spots = λ x y. refl }
beside-joins l (Beside r q) h k =
    let j = beside-joins l r h k.0 in
    record {
      skewed = (j.skewed, k.1, k.2);
      same_leaves = ap (λ z. z ++ leaves q) j.same_leaves ∙ append_assoc (leaves l) (leaves r) (leaves q);
      wide = omega (arith, j.wide);
      high = omega (arith, j.high);
      same_spots = λ x y.
          let e : x + width (beside l r) ≡ (x + width l) + width r = omega (arith, j.wide) in
          ap (λ z. z ++ spots_at (x + width (beside l r)) y q) (j.same_spots x y)
          ∙ ap (λ n. (spots_at x y l ++ spots_at (x + width l) y r) ++ spots_at n y q) e
          ∙ append_assoc (spots_at x y l) (spots_at (x + width l) y r) (spots_at ((x + width l) + width r) y q);
    }

-- two skewed plans one above the other, made skewed, are the plan of both
pub above-joins : (l r : Tree) → IsSkewed l → IsSkewed r → JoinsAbove l r (above l r)
above-joins l (Leaf b s) h k = record { skewed = (h, k, refl); same_leaves = refl; wide = refl; high = refl; same_spots = λ x y. refl }
above-joins l (Beside r q) h k = record { skewed = (h, k, refl); same_leaves = refl; wide = refl; high = refl; same_spots = λ x y. refl }
above-joins l (Above r q) h k =
    let j = above-joins l r h k.0 in
    record {
      skewed = (j.skewed, k.1, k.2);
      same_leaves = ap (λ z. z ++ leaves q) j.same_leaves ∙ append_assoc (leaves l) (leaves r) (leaves q);
      wide = omega (arith, j.wide);
      high = omega (arith, j.high);
      same_spots = λ x y.
          let e : y + height (above l r) ≡ (y + height l) + height r = omega (arith, j.high) in
          ap (λ z. z ++ spots_at x (y + height (above l r)) q) (j.same_spots x y)
          ∙ ap (λ n. (spots_at x y l ++ spots_at x (y + height l) r) ++ spots_at x n q) e
          ∙ append_assoc (spots_at x y l) (spots_at x (y + height l) r) (spots_at x ((y + height l) + height r) q);
    }

-- the skewed plan of a plan is skewed
pub IsSkewed-skewed_plan : (t : Tree) → IsSkewed (skewed_plan t)
IsSkewed-skewed_plan (Leaf b s) = tt
IsSkewed-skewed_plan (Beside l r) = (beside-joins (skewed_plan l) (skewed_plan r) (IsSkewed-skewed_plan l) (IsSkewed-skewed_plan r)).skewed
IsSkewed-skewed_plan (Above l r) = (above-joins (skewed_plan l) (skewed_plan r) (IsSkewed-skewed_plan l) (IsSkewed-skewed_plan r)).skewed

-- a plan's skewed plan has its leaves, its size and its spots
pub IsSamePlace-skewed_plan : (t : Tree) → IsSamePlace (skewed_plan t) t
IsSamePlace-skewed_plan (Leaf b s) = record { order = refl; wide = refl; high = refl; places = λ x y. refl }
IsSamePlace-skewed_plan (Beside l r) =
    let j = beside-joins (skewed_plan l) (skewed_plan r) (IsSkewed-skewed_plan l) (IsSkewed-skewed_plan r) in
    let a = IsSamePlace-skewed_plan l in
    let b = IsSamePlace-skewed_plan r in
    record {
      order = j.same_leaves ∙ cc (a.order, b.order);
      wide = omega (arith, j.wide, a.wide, b.wide);
      high = omega (arith, j.high, a.high, b.high);
      places = λ x y. j.same_spots x y ∙ cc (a.places x y, a.wide, b.places (x + width l) y);
    }
IsSamePlace-skewed_plan (Above l r) =
    let j = above-joins (skewed_plan l) (skewed_plan r) (IsSkewed-skewed_plan l) (IsSkewed-skewed_plan r) in
    let a = IsSamePlace-skewed_plan l in
    let b = IsSamePlace-skewed_plan r in
    record {
      order = j.same_leaves ∙ cc (a.order, b.order);
      wide = omega (arith, j.wide, a.wide, b.wide);
      high = omega (arith, j.high, a.high, b.high);
      places = λ x y. j.same_spots x y ∙ cc (a.places x y, a.high, b.places x (y + height l));
    }
