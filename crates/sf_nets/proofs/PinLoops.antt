-- What the loops over the pins of a net keep.
use Rattle.std.proofs.Common.{◌≡◌, ℕ, ◌<◌, ◌≤◌, max, List, [], ◌∷◌, length, take, get_or, arith, refl, ap, ◌∙◌, subst, sym, All, ◌==◌, Bool, true, false}
use Rattle.sf_nets.proofs.Common.{fold, Option, Some, None, IfSome, pos, AllByRecursion, ints, clamps, cond_both, take_all, recursion_from_All, All-from_recursion, Design, Pin, block_count, pin_number, pin_count, each-weaker, Interval, Home, Standing, Reach, IsFitInterval, IsFitReach, shared, met, anywhere, reach_gap, IsNet, IsReadyAt, IsReady, standing_at, pad_reach, pin_range, pin_home, narrowed, narrowed_in, shared_in, home_gap, greatest_gap, shared_ranges, shared_homes}
use Rattle.sf_model.specs.declared.parts.Pin.TheVariants as pin

-- a fold over all pins is one over the first k, where there are no more than k
pub fold_whole : {A B : Type 0} (f : B → A → B) (b : B) (xs : List A) (k : ℕ) → length xs ≤ k → fold f b (take k xs) ≡ fold f b xs
fold_whole f b xs k h = ap (fold f b) (take_all k xs h)

-- what two near intervals share is near
near-shared : (i j : Interval) → IsFitInterval i → IsFitInterval j → IsFitInterval (shared i j)
near-shared i j h k = (
  (omega (arith, ints, clamps, h.0.0, k.0.0), omega (arith, ints, clamps, h.0.1, k.0.1)),
  (omega (arith, ints, clamps, h.1.0, k.1.0), omega (arith, ints, clamps, h.1.1, k.1.1)),
)

-- what two near reaches share is near
pub near_met : (r s : Reach) → IsFitReach r → IsFitReach s → IsFitReach (met r s)
near_met r s h k = (near-shared r.across s.across h.0 k.0, near-shared r.upward s.upward h.1 k.1)

-- the reach that no interval narrows is near
pub near_anywhere : IsFitReach anywhere
near_anywhere = (((omega (arith, ints), omega (arith, ints)), (omega (arith, ints), omega (arith, ints))), ((omega (arith, ints), omega (arith, ints)), (omega (arith, ints), omega (arith, ints))))

-- what holds of what is there
pub if-some : {X : Type 0} (P Q : X → Type 0) (o : Option X) → ((x : X) → P x → Q x) → IfSome o P → IfSome o Q
if-some P Q None f h = tt
if-some P Q (Some x) f h = f x h

-- a near reach stays so when it is narrowed by a near home
near-narrowed : (r : Reach) (o : Option Home) → IsFitReach r → IfSome o (λ h. IsFitReach h.reach) → IsFitReach (narrowed r o)
near-narrowed r None h k = h
near-narrowed r (Some x) h k = near_met r x.reach h k

-- a near reach stays so when it is narrowed by a near home in one item
near-narrowed_in : (i : ℕ) (r : Reach) (o : Option Home) → IsFitReach r → IfSome o (λ h. IsFitReach h.reach) → IsFitReach (narrowed_in i r o)
near-narrowed_in i r None h k = h
near-narrowed_in i r (Some x) h k = cond_both (x.item == i) (met r x.reach) r IsFitReach (λ _. near_met r x.reach h k) (λ _. h)

-- a fold over the pins stays near
near-fold : (P : Pin → Type 0) (f : Reach → Pin → Reach) → ((r : Reach) (p : Pin) → P p → IsFitReach r → IsFitReach (f r p)) → (r : Reach) (pins : List Pin) → IsFitReach r → AllByRecursion P pins → IsFitReach (fold f r pins)
near-fold P f step r [] h all = h
near-fold P f step r (p ∷ pins) h all = near-fold P f step (f r p) pins (step r p all.0 h) all.1

-- the place of a pad is near
pub near_pad : (design : Design) (p : ℕ) → p < length design.pads → IsFitReach (pad_reach design p)
near_pad design p h =
    let k = design.limits.places p (record { name = []; x = pos 0; y = pos 0 }) h in (
      ((omega (arith, ints, k.0.0), omega (arith, ints, k.0.1)), (omega (arith, ints, k.0.0), omega (arith, ints, k.0.1))),
      ((omega (arith, ints, k.1.0), omega (arith, ints, k.1.1)), (omega (arith, ints, k.1.0), omega (arith, ints, k.1.1))),
    )

module _ (design : Design) (items : ℕ) (table : List Standing) (ready : IsReady design items table) where
  -- the block or pad of the pin is there
  abbrev pub IsThere : Pin → Type 0
  IsThere p = pin_number p < pin_count (length design.blocks) (length design.pads) p

  -- the standing of each block has numbers that fit, and an item that is there
  pub standing_ready : (b : ℕ) → b < block_count design → IsReadyAt items (standing_at table b)
  standing_ready b h = ready.each b (record { side = 0; range = anywhere; home = None }) (omega (arith, h, ready.count))

  -- the range of each pin is near
  pub near_range : (p : Pin) → pin_number p < pin_count (length design.blocks) (length design.pads) p → IsFitReach (pin_range design table p)
  near_range (pin.Block b) h = (standing_ready b h).range
  near_range (pin.Pad p) h = near_pad design p h

  -- the home of each pin, where it has one, is near
  pub near_home : (complete : Bool) (p : Pin) → pin_number p < pin_count (length design.blocks) (length design.pads) p → IfSome (pin_home design table complete p) (λ h. IsFitReach h.reach)
  near_home complete (pin.Block b) h = if-some (λ v. (v.item < items) × IsFitReach v.reach) (λ v. IsFitReach v.reach) (standing_at table b).home (λ v k. k.1) (standing_ready b h).home
  near_home true (pin.Pad p) h = near_pad design p h
  near_home false (pin.Pad p) h = tt

  -- what all pins share anywhere in the outline is near
  pub near_ranges : (pins : List Pin) → IsNet design pins → IsFitReach (shared_ranges design table pins)
  near_ranges pins net = near-fold IsThere (λ r p. met r (pin_range design table p)) (λ r p there h. near_met r (pin_range design table p) h (near_range p there)) anywhere pins near_anywhere (recursion_from_All IsThere pins net)

  -- what all pins share in the one item is near
  pub near_homes : (pins : List Pin) → IsNet design pins → IsFitReach (shared_homes design table pins)
  near_homes pins net = near-fold IsThere (λ r p. narrowed r (pin_home design table true p)) (λ r p there h. near-narrowed r (pin_home design table true p) h (near_home true p there)) anywhere pins near_anywhere (recursion_from_All IsThere pins net)

  -- what the pins share in each item is near
  pub near_shared : (complete : Bool) (i : ℕ) (pins : List Pin) → IsNet design pins → IsFitReach (shared_in design table complete pins i)
  near_shared complete i pins net = near-fold IsThere (λ r p. narrowed_in i r (pin_home design table complete p)) (λ r p there h. near-narrowed_in i r (pin_home design table complete p) h (near_home complete p there)) anywhere pins near_anywhere (recursion_from_All IsThere pins net)

-- the reaches that were cleared and gathered tell what the pins share
module _ (design : Design) (table : List Standing) (pins : List Pin) (clear gathered : List Reach) where
  -- nothing narrows yet what is kept for the item of the pin's home
  abbrev IsClear : Pin → Type 0
  IsClear p = IfSome (pin_home design table false p) (λ h. get_or clear h.item anywhere ≡ anywhere)

  -- what was gathered where nothing narrowed it is what the pins share in the item
  gathered-at : ((i : ℕ) → get_or gathered i anywhere ≡ fold (λ r p. narrowed_in i r (pin_home design table false p)) (get_or clear i anywhere) pins) → (i : ℕ) → get_or clear i anywhere ≡ anywhere → get_or gathered i anywhere ≡ shared_in design table false pins i
  gathered-at g i e = g i ∙ ap (λ r. fold (λ r p. narrowed_in i r (pin_home design table false p)) r pins) e

  -- what was gathered in the item of each pin's home is near
  pub gathered_near : (items : ℕ) → IsReady design items table → IsNet design pins → All IsClear pins → ((i : ℕ) → get_or gathered i anywhere ≡ fold (λ r p. narrowed_in i r (pin_home design table false p)) (get_or clear i anywhere) pins) → All (λ p. IfSome (pin_home design table false p) (λ h. IsFitReach (get_or gathered h.item anywhere))) pins
  gathered_near items ready net none g =
      All-from_recursion (λ p. IfSome (pin_home design table false p) (λ h. IsFitReach (get_or gathered h.item anywhere))) pins
      (each-weaker IsClear (λ p. IfSome (pin_home design table false p) (λ h. IsFitReach (get_or gathered h.item anywhere)))
      (λ p k. if-some (λ h. get_or clear h.item anywhere ≡ anywhere) (λ h. IsFitReach (get_or gathered h.item anywhere)) (pin_home design table false p)
      (λ h e. subst IsFitReach (sym (gathered-at g h.item e)) (near_shared design items table ready false h.item pins net)) k)
      pins (recursion_from_All IsClear pins none))

  -- the gap of a home's item is the same by what was gathered as by what the pins share
  home-gap-same : ((i : ℕ) → get_or gathered i anywhere ≡ fold (λ r p. narrowed_in i r (pin_home design table false p)) (get_or clear i anywhere) pins) → (o : Option Home) → IfSome o (λ h. get_or clear h.item anywhere ≡ anywhere) → home_gap (λ i. get_or gathered i anywhere) o ≡ home_gap (shared_in design table false pins) o
  home-gap-same g None k = refl
  home-gap-same g (Some h) k = ap reach_gap (gathered-at g h.item k)

  -- along some pins the greatest gap is the same by what was gathered as by what all pins share
  gaps-same : (n : ℕ) (ps : List Pin) → ((i : ℕ) → get_or gathered i anywhere ≡ fold (λ r p. narrowed_in i r (pin_home design table false p)) (get_or clear i anywhere) pins) → AllByRecursion IsClear ps → fold (λ n p. max n (home_gap (λ i. get_or gathered i anywhere) (pin_home design table false p))) n ps ≡ fold (λ n p. max n (home_gap (shared_in design table false pins) (pin_home design table false p))) n ps
  gaps-same n [] g h = refl
  gaps-same n (p ∷ ps) g h =
      gaps-same (max n (home_gap (λ i. get_or gathered i anywhere) (pin_home design table false p))) ps g h.1
      ∙ ap (λ m. fold (λ n p. max n (home_gap (shared_in design table false pins) (pin_home design table false p))) (max n m) ps) (home-gap-same g (pin_home design table false p) h.0)

  -- the greatest of the gaps of the pins' items is the same by what was gathered as by what they share
  pub gaps_same : All IsClear pins → ((i : ℕ) → get_or gathered i anywhere ≡ fold (λ r p. narrowed_in i r (pin_home design table false p)) (get_or clear i anywhere) pins) → greatest_gap design table false (λ i. get_or gathered i anywhere) pins ≡ greatest_gap design table false (shared_in design table false pins) pins
  gaps_same none g = gaps-same 0 pins g (recursion_from_All IsClear pins none)

-- the same table where more items are allowed
pub ready_more : (design : Design) (items more : ℕ) (table : List Standing) → items ≤ more → IsReady design items table → IsReady design more table
ready_more design items more table le ready = record {
  count = ready.count;
  each = λ i d lt. (let k = ready.each i d lt in
      record { side = k.side; range = k.range; home = if-some (λ h. (h.item < items) × IsFitReach h.reach) (λ h. (h.item < more) × IsFitReach h.reach) (get_or table i d).home (λ h v. (omega (arith, v.0, le), v.1)) k.home });
}
