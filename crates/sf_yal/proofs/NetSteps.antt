-- Nets signal by signal, as the code keeps them.
use Rattle.std.proofs.Common.{◌≡◌, ℕ, zero, suc, ◌≤◌, ◌<◌, ◌+◌, List, [], ◌∷◌, ◌++◌, length, get_or, take, Option, Some, None, refl, ap, ◌∙◌, arith}
use Rattle.sf_yal.proofs.Common.{slice_set, slice_get, append-nil, set-get_or, RawNet, RawPin, index_of, with_pin, with_pin_at, with_pad, with_pad_of, with_pads}
use Rattle.std.proofs.Math.Seq.{take-nil, take-append_seam}

-- the net at a place with a pin more
pub set_pins : (n : ℕ) (nets : List RawNet) (k : ℕ) (net new : RawNet) → net ≡ get_or nets k net → new.pins ≡ with_pin n net.pins → slice_set nets k new ≡ with_pin_at n k nets
set_pins n [] k net new is pins = refl
set_pins n (m ∷ nets) zero net new is pins = ap (λ (ps : List RawPin). record { pins = ps } ∷ nets) (pins ∙ ap (λ (x : RawNet). with_pin n x.pins) is)
set_pins n (m ∷ nets) (suc k) net new is pins = ap (λ (xs : List RawNet). m ∷ xs) (set_pins n nets k net new is pins)

-- no net stands at such a place
pub none_there : (n : ℕ) (nets : List RawNet) (k : ℕ) → length nets ≤ k → nets ≡ with_pin_at n k nets
none_there n [] k le = refl
none_there n (m ∷ nets) zero le = absurd (omega arith)
none_there n (m ∷ nets) (suc k) le = ap (λ (xs : List RawNet). m ∷ xs) (none_there n nets k (omega arith))

-- ---- the pads, net by net

-- a signal without a pad
pub no_pad : (pads : List (List ℕ)) (o : Option (List ℕ)) (signal : List ℕ) (net : RawNet) → o ≡ Some signal → index_of signal pads ≡ None → net ≡ with_pad_of pads o net
no_pad pads o signal net at none = rw (at, none, append-nil net.pins) refl

-- an item that stays
set_same : (nets : List RawNet) (k : ℕ) (net d : RawNet) → k < length nets → net ≡ get_or nets k d → slice_set nets k net ≡ nets
set_same nets k net d lt is = rw is (set-get_or nets k d)

-- the net at a place, with its pad
pad_step : (pads signals : List (List ℕ)) (nets : List RawNet) (k : ℕ) (net d : RawNet) → k < length nets → net ≡ get_or (with_pads pads (take k signals) nets) k d
    → slice_set (with_pads pads (take k signals) nets) k (with_pad_of pads (slice_get signals k) net) ≡ with_pads pads (take (suc k) signals) nets
pad_step pads [] nets k net d lt is = rw (take-nil k) (set_same nets k net d lt (rw (take-nil k) at is))
pad_step pads (s ∷ signals) [] k net d lt is = absurd (omega arith)
pad_step pads (s ∷ signals) (m ∷ nets) zero net d lt is = ap (λ (x : RawNet). with_pad pads s x ∷ nets) is
pad_step pads (s ∷ signals) (m ∷ nets) (suc k) net d lt is = ap (λ (xs : List RawNet). with_pad pads s m ∷ xs) (pad_step pads signals nets k net d (omega arith) is)

-- the nets up to a place, with their pads
pub pad_more : (pads signals : List (List ℕ)) (nets now : List RawNet) (k : ℕ) (net new d : RawNet) → k < length nets → now ≡ with_pads pads (take k signals) nets → net ≡ get_or now k d
    → new ≡ with_pad_of pads (slice_get signals k) net → slice_set now k new ≡ with_pads pads (take (k + 1) signals) nets
pad_more pads signals nets now k net new d lt at is made =
    let next : k + 1 ≡ suc k = omega arith in
    rw (at, made, next) (pad_step pads signals nets k net d lt (rw at at is))

-- all nets, with their pads
pub pads_all : (pads signals : List (List ℕ)) (nets : List RawNet) → with_pads pads (take (length nets) signals) nets ≡ with_pads pads signals nets
pads_all pads [] nets = rw (take-nil (length nets)) refl
pads_all pads (s ∷ signals) [] = refl
pads_all pads (s ∷ signals) (m ∷ nets) = ap (λ (xs : List RawNet). with_pad pads s m ∷ xs) (pads_all pads signals nets)

-- the front of so many
pub front_of : (n : ℕ) (xs ys : List RawNet) → n ≡ length xs → take n (xs ++ ys) ≡ xs
front_of n xs ys is = rw is (take-append_seam xs ys)
