-- Items one after another, as a loop takes them.
use Rattle.std.proofs.Common.{◌≡◌, ℕ, suc, ◌+◌, ◌<◌, ◌≤◌, List, [], ◌∷◌, ◌++◌, length, drop, get_or, Result, Ok, refl, sym, ap, ◌∙◌, add-one, drop-cons, subst}
use Rattle.sf_yal.proofs.Common.{drop_all, RawBlock, YalFault, BoxSize, Option, ◌>>=◌, instance_in, instances_in, Fails, block_of, blocks_from}
use Rattle.sf_yal.specs.declared.fault.YalFault.TheVariants as faults
use Rattle.sf_yal.specs.declared.instance.Instance as code

-- the item at a place, and those behind it
pub cut : {X : Type 0} (xs : List X) (i : ℕ) (x : X) → i < length xs → x ≡ get_or xs i x → drop i xs ≡ x ∷ drop (i + 1) xs
cut xs i x lt is = drop-cons xs i x lt ∙ ap (λ y. y ∷ drop (suc i) xs) (sym is) ∙ rw (add-one i) refl

-- a fault of the first reading is the fault of both
pub Fails-then : {X Y : Type 0} (f : X → Result Y YalFault) (fault : YalFault) (read : Result X YalFault) → Fails fault read → Fails fault (read >>= f)
Fails-then f faults.NoMemory read h = tt
Fails-then f fault read h = rw h refl

module _ (names : List (List ℕ)) (sizes : List (Option BoxSize)) (parent : ℕ) (xs : List code.Instance) (total : Result (List RawBlock) YalFault) where
  -- a block that is read leaves what is read in all
  pub goes_on : (earlier after : List RawBlock) (i : ℕ) (x : code.Instance) (b : RawBlock) → i < length xs → x ≡ get_or xs i x → block_of names sizes parent (instance_in x) ≡ Ok b → after ≡ earlier ++ b ∷ []
      → blocks_from names sizes parent earlier (instances_in (drop i xs)) ≡ total → blocks_from names sizes parent after (instances_in (drop (i + 1) xs)) ≡ total
  unfolding blocks_from
  goes_on earlier after i x b lt is read more so_far =
      let here : blocks_from names sizes parent earlier (instances_in (drop i xs)) ≡ blocks_from names sizes parent (earlier ++ b ∷ []) (instances_in (drop (i + 1) xs)) = rw (cut xs i x lt is, read) refl in
      rw more (sym here ∙ so_far)

  -- a fault is the fault of all
  pub fails : (earlier : List RawBlock) (i : ℕ) (x : code.Instance) (f : YalFault) → i < length xs → x ≡ get_or xs i x → Fails f (block_of names sizes parent (instance_in x))
      → blocks_from names sizes parent earlier (instances_in (drop i xs)) ≡ total → Fails f total
  unfolding blocks_from
  fails earlier i x f lt is failed so_far =
      let rest = instances_in (drop (i + 1) xs) in
      let here : blocks_from names sizes parent earlier (instances_in (drop i xs)) ≡ (block_of names sizes parent (instance_in x) >>= λ b. blocks_from names sizes parent (earlier ++ b ∷ []) rest) = rw (cut xs i x lt is) refl in
      subst (λ (r : Result (List RawBlock) YalFault). Fails f r) (sym here ∙ so_far) (Fails-then (λ b. blocks_from names sizes parent (earlier ++ b ∷ []) rest) f (block_of names sizes parent (instance_in x)) failed)

  -- where no instance is left, all blocks are read
  pub is_done : (earlier : List RawBlock) (i : ℕ) → length xs ≤ i → blocks_from names sizes parent earlier (instances_in (drop i xs)) ≡ total → total ≡ Ok earlier
  unfolding blocks_from
  is_done earlier i le so_far =
      let here : blocks_from names sizes parent earlier (instances_in (drop i xs)) ≡ Ok earlier = rw (drop_all i xs le) refl in
      sym so_far ∙ here
