-- The owners of names, as names come to stand before those that are there.
use Rattle.std.proofs.Common.{◌≡◌, ℕ, ◌+◌, Bool, true, false, cond, subst, List, ◌∷◌, Option, Some, None, refl, ap, sym, ◌∙◌}
use Rattle.sf_gsrc.proofs.Common.{position_from, bytes_eq, RawPin, by_number, owner_of, update, bytes_eq-Decides, bytes_eq_sym}
use Rattle.sf_parts.specs.declared.raw.RawPin.TheVariants as raw
use Rattle.sf_gsrc.specs.declared.owners.Owner.{Owner}
use Rattle.sf_gsrc.specs.declared.owners.Owner.TheVariants.{Block, Pad, Both}

-- ---- one name more

-- a block stands before the others, while no pad is there
pub block_put : (old new : List ℕ → Option Owner) (key : List ℕ) (i : ℕ) (blocks : List (List ℕ)) → ((n : List ℕ) → new n ≡ update bytes_eq old key (Some (Block i)) n)
    → ((n : List ℕ) → old n ≡ owner_of (position_from (bytes_eq n) (i + 1) blocks) None) → (n : List ℕ) → new n ≡ owner_of (position_from (bytes_eq n) i (key ∷ blocks)) None
block_put old new key i blocks sets found n =
    sets n ∙ ap (λ b. cond b (Some (Block i)) (old n)) (bytes_eq_sym key n)
    ∙ elim (bytes_eq n key) as (λ b. cond b (Some (Block i)) (old n) ≡ owner_of (cond b (Some i) (position_from (bytes_eq n) (i + 1) blocks)) None) [ true ↦ refl | false ↦ found n ]

-- a pad stands before the others
pub pad_put : (old new : List ℕ → Option Owner) (key : List ℕ) (w : Owner) (i : ℕ) (blocks pads : List (List ℕ)) → ((n : List ℕ) → new n ≡ update bytes_eq old key (Some w) n)
    → ((n : List ℕ) → old n ≡ owner_of (position_from (bytes_eq n) 0 blocks) (position_from (bytes_eq n) (i + 1) pads))
    → ((block other : Option ℕ) → old key ≡ owner_of block other → Some w ≡ owner_of block (Some i))
    → (n : List ℕ) → new n ≡ owner_of (position_from (bytes_eq n) 0 blocks) (position_from (bytes_eq n) i (key ∷ pads))
pad_put old new key w i blocks pads sets found beside n =
    let here : Some w ≡ owner_of (position_from (bytes_eq key) 0 blocks) (Some i) = beside (position_from (bytes_eq key) 0 blocks) (position_from (bytes_eq key) (i + 1) pads) (found key) in
    let P : Bool → Type 0 = λ b. bytes_eq n key ≡ b → cond b (Some w) (old n) ≡ owner_of (position_from (bytes_eq n) 0 blocks) (cond b (Some i) (position_from (bytes_eq n) (i + 1) pads)) in
    sets n ∙ ap (λ b. cond b (Some w) (old n)) (bytes_eq_sym key n)
    ∙ (elim (bytes_eq n key) as P [
      | true ↦ (λ e. subst (λ (m : List ℕ). Some w ≡ owner_of (position_from (bytes_eq m) 0 blocks) (Some i)) (sym ((bytes_eq-Decides n key).0 e)) here)
      | false ↦ (λ e. found n)
    ]) refl

-- ---- pins by their owners

-- the pin that an owner stands for, where it is a block or a pad alone
abbrev pub owned : Option Owner → RawPin → RawPin
owned (Some (Block x)) pin = raw.Block x
owned (Some (Pad x)) pin = raw.Pad x
owned (Some Both) pin = pin
owned None pin = pin

-- a pin by its number is the pin of the owner that was found
pub by_owner : (b p : Option ℕ) (pin : RawPin) (found : Option Owner) → found ≡ owner_of b p → by_number b p pin ≡ owned found pin
by_owner (Some b) None pin found e = rw e refl
by_owner (Some b) (Some p) pin found e = rw e refl
by_owner None (Some p) pin found e = rw e refl
by_owner None None pin found e = rw e refl
