-- The blocks of instances, and the first fault of one, as reading finds them.
use Rattle.std.proofs.Common.{◌≡◌, ◌≢◌, ◌⊎◌, inl, inr, ℕ, ◌<◌, Bool, true, false, List, [], ◌∷◌, ◌++◌, map, Option, Some, None, Result, Ok, Err, refl, sym, ap, ◌∙◌, arith, append_assoc, append-nil, ◌==◌}
use Rattle.sf_yal.proofs.Common.{slice_get, AllZip, option_map, cases_Bool, eqb-true, eqb-false, eq-eqb, ne_eqb, nat_tests, RawBlock, index_of, YalFault, BoxSize, Instance, Module, name_of, box_of, box_if, box_at, IsBlockOf, SizeFault, PlaceFault, InstanceFault, FirstInstanceFault, size_or_none, size_at, boxed, block_by, block_of, blocks_from, slice_get-map}
use Rattle.sf_yal.specs.declared.fault.YalFault.TheVariants as faults
use Rattle.sf_yal.proofs.Results.{done, failed, Tells, then_tells, tells_as}

-- a side that is not 0
some_side : (n : ℕ) → (n == 0) ≡ false → 0 < n
some_side n e = grind (arith, nat_tests)

-- is not 0
no_side : (n : ℕ) → 0 < n → (n == 0) ≡ false
no_side n lt = grind (arith, nat_tests)

module _ (scale : ℕ) (all : List Module) (parent : ℕ) where
  -- the names of the modules
  abbrev names : List (List ℕ)
  names = map name_of all

  -- their boxes
  abbrev sizes : List (Option BoxSize)
  sizes = map (box_of scale) all

  -- the box of a module, if there is one
  box_there : (o : Option Module) → size_or_none (option_map (box_of scale) o) ≡ box_if scale o
  box_there None = refl
  box_there (Some m) = refl

  -- the box at a place
  size_there : (k : ℕ) → size_at sizes k ≡ box_at scale all k
  size_there k = ap size_or_none (slice_get-map (box_of scale) all k) ∙ box_there (slice_get all k)

  module _ (i : Instance) where
    -- what is read of an instance is its block, or its fault
    abbrev Told : Option ℕ → Result RawBlock YalFault → Type 0
    Told o = Tells (IsBlockOf scale all parent i) (PlaceFault scale all parent i o)

    -- with a box, by the tests of its sides
    sized : (k : ℕ) (size : BoxSize) (w h : Bool) → index_of i.module_name names ≡ Some k → k ≢ parent → box_at scale all k ≡ Some size → (size.w == 0) ≡ w → (size.h == 0) ≡ h
        → Told (Some k) (boxed i (Some size))
    sized k size true h known child at ew eh = rw ew (inr (child, rw at (inl (eqb-true size.w 0 ew), refl)))
    sized k size false true known child at ew eh = rw (ew, eh) (inr (child, rw at (inr (eqb-true size.h 0 eh), refl)))
    sized k size false false known child at ew eh =
        rw (ew, eh) (record {
          place = k;
          size = size;
          known = known;
          child = child;
          boxed = at;
          wide = some_side size.w ew;
          high = some_side size.h eh;
          block_is = refl;
        })

    -- with a box or without one
    box_told : (k : ℕ) (o : Option BoxSize) → index_of i.module_name names ≡ Some k → k ≢ parent → box_at scale all k ≡ o → Told (Some k) (boxed i o)
    box_told k None known child at = inr (child, rw at refl)
    box_told k (Some size) known child at = sized k size (size.w == 0) (size.h == 0) known child at refl refl

    -- where its module is known or not
    place_told : (o : Option ℕ) → index_of i.module_name names ≡ o → Told o (block_by sizes parent i o)
    place_told None known = refl
    place_told (Some k) known = elim (cases_Bool (k == parent)) [
      | inl e ↦ rw e (inl (eqb-true k parent e, refl))
      | inr e ↦ rw e (box_told k (size_at sizes k) known (eqb-false k parent e) (sym (size_there k)))
    ]

    -- whatever its module
    told : Told (index_of i.module_name names) (block_of names sizes parent i)
    unfolding block_of
    told = place_told (index_of i.module_name names) refl

    -- the block of the instance is read
    from_block : (b : RawBlock) → IsBlockOf scale all parent i b → block_of names sizes parent i ≡ Ok b
    unfolding block_of
    from_block b is =
        let box : size_at sizes is.place ≡ Some is.size = size_there is.place ∙ is.boxed in
        rw (is.known, ne_eqb is.place parent is.child, box, no_side is.size.w is.wide, no_side is.size.h is.high) (ap done (sym is.block_is))

    -- a side of 0 is read as a fault
    from_sides : (size : BoxSize) (f : YalFault) (w : Bool) → (size.w == 0) ≡ w → (size.w ≡ 0) ⊎ (size.h ≡ 0) → f ≡ faults.ZeroSide i.line → boxed i (Some size) ≡ Err f
    from_sides size f true e side is = rw e (ap failed (sym is))
    from_sides size f false e (inl side) is = absurd (let no : true ≡ false = sym (eq-eqb size.w 0 side) ∙ e in cc)
    from_sides size f false e (inr side) is = rw (e, eq-eqb size.h 0 side) (ap failed (sym is))

    -- a fault of the box is read
    from_size_fault : (o : Option BoxSize) (f : YalFault) → SizeFault i.line o f → boxed i o ≡ Err f
    from_size_fault None f is = ap failed (sym is)
    from_size_fault (Some size) f is = from_sides size f (size.w == 0) refl is.0 is.1

    -- a fault of the module is read
    from_place_fault : (o : Option ℕ) (f : YalFault) → PlaceFault scale all parent i o f → block_by sizes parent i o ≡ Err f
    from_place_fault None f is = ap failed (sym is)
    from_place_fault (Some k) f (inl is) = rw (eq-eqb k parent is.0) (ap failed (sym is.1))
    from_place_fault (Some k) f (inr is) = rw (ne_eqb k parent is.0, size_there k) (from_size_fault (box_at scale all k) f is.1)

    -- the fault of the instance is read
    from_fault : (f : YalFault) → InstanceFault scale all parent i f → block_of names sizes parent i ≡ Err f
    unfolding block_of
    from_fault f is = from_place_fault (index_of i.module_name names) f is

  -- all of them

  -- the blocks that are read behind earlier ones are those of the instances, and the fault that is read is the first
  pub blocks_told : (earlier : List RawBlock) (instances : List Instance)
      → Tells (λ blocks. (new : List RawBlock) × (blocks ≡ earlier ++ new) × AllZip (IsBlockOf scale all parent) instances new) (FirstInstanceFault scale all parent instances) (blocks_from names sizes parent earlier instances)
  unfolding blocks_from
  blocks_told earlier [] = ([], sym (append-nil earlier), tt)
  blocks_told earlier (i ∷ more) =
      then_tells _ _ _ _ (block_of names sizes parent i) (λ b. blocks_from names sizes parent (earlier ++ b ∷ []) more) (told i)
      (λ f is. record { before = []; i = i; after = more; instances_are = refl; blocks = []; sound = tt; faulty = is })
      (λ b is. tells_as _ _ _ _ (blocks_from names sizes parent (earlier ++ b ∷ []) more) (blocks_told (earlier ++ b ∷ []) more)
      (λ blocks k. (b ∷ k.0, k.1 ∙ append_assoc earlier (b ∷ []) k.0, (is, k.2)))
      (λ f k. record { before = i ∷ k.before; i = k.i; after = k.after; instances_are = ap (λ (xs : List Instance). i ∷ xs) k.instances_are; blocks = b ∷ k.blocks; sound = (is, k.sound); faulty = k.faulty }))

  -- the blocks of some instances are read before the others
  blocks_on : (earlier : List RawBlock) (before after : List Instance) (blocks : List RawBlock) → AllZip (IsBlockOf scale all parent) before blocks
      → blocks_from names sizes parent earlier (before ++ after) ≡ blocks_from names sizes parent (earlier ++ blocks) after
  unfolding blocks_from
  blocks_on earlier [] after [] each = ap (λ xs. blocks_from names sizes parent xs after) (sym (append-nil earlier))
  blocks_on earlier [] after (b ∷ blocks) each = absurd each
  blocks_on earlier (i ∷ before) after [] each = absurd each
  blocks_on earlier (i ∷ before) after (b ∷ blocks) each =
      rw (from_block i b each.0) (blocks_on (earlier ++ b ∷ []) before after blocks each.1 ∙ ap (λ xs. blocks_from names sizes parent xs after) (append_assoc earlier (b ∷ []) blocks))

  -- the blocks of the instances are read
  pub all_read : (instances : List Instance) (blocks : List RawBlock) → AllZip (IsBlockOf scale all parent) instances blocks → blocks_from names sizes parent [] instances ≡ Ok blocks
  unfolding blocks_from
  all_read instances blocks each = ap (blocks_from names sizes parent []) (sym (append-nil instances)) ∙ blocks_on [] instances [] blocks each

  -- the first fault is read
  pub first_instance : (instances : List Instance) (f : YalFault) → FirstInstanceFault scale all parent instances f → blocks_from names sizes parent [] instances ≡ Err f
  unfolding blocks_from
  first_instance instances f is = ap (blocks_from names sizes parent []) is.instances_are ∙ blocks_on [] is.before (is.i ∷ is.after) is.blocks is.sound ∙ rw (from_fault is.i f is.faulty) refl
