-- Over all deques of a team, however tasks are weighed: what was put is what was taken and what is left.
use Rattle.std.proofs.Common.{◌≡◌, ℕ, ◌+◌, List, [], ◌∷◌, ◌++◌, map, arith, ap, refl, sum_by}
use Rattle.sf_frontier.proofs.Common.{sum_by-append, sum_by-cons, Stretch, OwnerView, turned, owners_of, stolen_by, AreSettled, IsFinished, Place}

-- a sum over what a function gives is the sum over the elements
sum_map : {X Y : Type 0} (f : Y → ℕ) (g : X → Y) (xs : List X) → sum_by f (map g xs) ≡ sum_by (λ x. f (g x)) xs
sum_map f g [] = refl
sum_map f g (x ∷ xs) = omega (arith, sum_map f g xs, sum_by-cons f (g x) (map g xs), sum_by-cons (λ y. f (g y)) x xs)

-- a sum is the same where the first element comes last
sum_turned : {X : Type 0} (f : X → ℕ) (xs : List X) → sum_by f (turned xs) ≡ sum_by f xs
sum_turned f [] = refl
sum_turned f (x ∷ xs) = omega (arith, sum_by-append f xs (x ∷ []), sum_by-cons f x xs, sum_by-cons f x [])

module _ (w : Stretch → ℕ) where
  -- the weight of what an owner put
  abbrev put_by : OwnerView → ℕ
  put_by o = sum_by w o.put

  -- the weight of what an owner took
  abbrev taken_by : OwnerView → ℕ
  taken_by o = sum_by w o.taken

  -- over settled deques what was put weighs as much as what owners and thieves took, and the rests
  settled-total : (os : List OwnerView) (ss rs : List (List Stretch)) → AreSettled os ss rs → sum_by put_by os ≡ (sum_by taken_by os + sum_by (λ s. sum_by w s) ss) + sum_by (λ r. sum_by w r) rs
  settled-total [] [] [] h = refl
  settled-total [] [] (r ∷ rs) h = absurd h
  settled-total [] (s ∷ ss) rs h = absurd h
  settled-total (o ∷ os) [] rs h = absurd h
  settled-total (o ∷ os) (s ∷ ss) [] h = absurd h
  settled-total (o ∷ os) (s ∷ ss) (r ∷ rs) h =
      omega (
        arith,
        h.0.0 w,
        settled-total os ss rs h.1,
        sum_by-append w (o.taken ++ s) r,
        sum_by-append w o.taken s,
        sum_by-cons put_by o os,
        sum_by-cons taken_by o os,
        sum_by-cons (λ (x : List Stretch). sum_by w x) s ss,
        sum_by-cons (λ (x : List Stretch). sum_by w x) r rs,
      )

  -- over a finished team what was put weighs as much as what owners and thieves took, and what is left
  pub finished-total : {T : Type 0} (places : List (Place T)) (left : List Stretch) → IsFinished places left
      → sum_by (λ place. sum_by w place.owner.put) places ≡ (sum_by (λ place. sum_by w place.owner.taken) places + sum_by (λ place. sum_by w (stolen_by place)) places) + sum_by w left
  finished-total {T} places left h =
      let all = λ (xs : List Stretch). sum_by w xs in
      omega (
        arith,
        settled-total (owners_of places) h.stolen h.rests h.settled,
        sum_map put_by (λ (place : Place T). place.owner) places,
        sum_map taken_by (λ (place : Place T). place.owner) places,
        sum_map all stolen_by places,
        ap (sum_by all) h.thieves,
        sum_turned all h.stolen,
        h.left_are w,
      )
