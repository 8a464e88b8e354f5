-- The offsets and the points that a list of pins picks.
use Rattle.std.proofs.Common.{◌≡◌, ℕ, List, [], ◌∷◌, refl, ap, sym, subst, ◌∙◌, inl, inr, true, ◌==◌}
use Rattle.sf_standard.proofs.Common.{Contains, cases_eq, ne_eqb, eq-eqb, cond-true, cond-false, cond_both, true≢false, Pin, Contains-cons_cases, Contains-head, Contains-tail, not_in_nil, Interval, Offset, contains_pin, of_pins}
use Rattle.sf_model.specs.declared.parts.Pin.TheVariants as pin

-- a block is among the pins where it is found there
pub pin-found : (b : ℕ) (pins : List Pin) → Contains pins (pin.Block b) → contains_pin b pins ≡ true
pin-found b [] c = absurd (not_in_nil (pin.Block b) c)
pin-found b (pin.Block k ∷ pins) c =
    elim (Contains-cons_cases (pin.Block k) pins (pin.Block b) c) [
      | inl e ↦ (let same : k ≡ b = cc in cond-true (k == b) true (contains_pin b pins) (eq-eqb k b same))
      | inr d ↦ (let rest = pin-found b pins d in cond_both (k == b) true (contains_pin b pins) (λ v. v ≡ true) (λ _. refl) (λ _. rest))
    ]
pin-found b (pin.Pad k ∷ pins) c =
    elim (Contains-cons_cases (pin.Pad k) pins (pin.Block b) c) [
      | inl e ↦ cc
      | inr d ↦ pin-found b pins d
    ]

-- a block that is found among the pins is there
pub pin-from : (b : ℕ) (pins : List Pin) → contains_pin b pins ≡ true → Contains pins (pin.Block b)
pin-from b [] e = absurd (true≢false (sym e))
pin-from b (pin.Block k ∷ pins) e =
    elim (cases_eq k b) [
      | inl same ↦ subst (λ v. Contains (pin.Block k ∷ pins) (pin.Block v)) same (Contains-head (pin.Block k) pins)
      | inr ne ↦ Contains-tail (pin.Block k) pins (pin.Block b) (pin-from b pins (sym (cond-false (k == b) true (contains_pin b pins) (ne_eqb k b ne)) ∙ e))
    ]
pin-from b (pin.Pad k ∷ pins) e = Contains-tail (pin.Pad k) pins (pin.Block b) (pin-from b pins e)

-- an offset is listed where its block is among the pins
pub offset-found : (pins : List Pin) (os : List Offset) (o : Offset) → Contains os o → contains_pin o.block pins ≡ true → Contains (of_pins pins os) o
offset-found pins [] o c e = absurd (not_in_nil o c)
offset-found pins (x ∷ os) o c e =
    elim (Contains-cons_cases x os o c) [
      | inl same ↦ subst (λ v. Contains v o) (sym (cond-true (contains_pin x.block pins) (x ∷ of_pins pins os) (of_pins pins os) (ap (λ v. contains_pin v.block pins) same ∙ e))) (subst (Contains (x ∷ of_pins pins os)) same (Contains-head x (of_pins pins os)))
      | inr d ↦ (let k = offset-found pins os o d e in
          cond_both (contains_pin x.block pins) (x ∷ of_pins pins os) (of_pins pins os) (λ v. Contains v o) (λ _. Contains-tail x (of_pins pins os) o k) (λ _. k))
    ]

-- a picked offset is listed, and its block is among the pins
pub offset-from : (pins : List Pin) (os : List Offset) (o : Offset) → Contains (of_pins pins os) o → Contains os o × (contains_pin o.block pins ≡ true)
offset-from pins [] o c = absurd (not_in_nil o c)
offset-from pins (x ∷ os) o c =
    cond_both (contains_pin x.block pins) (x ∷ of_pins pins os) (of_pins pins os) (λ v. Contains v o → Contains (x ∷ os) o × (contains_pin o.block pins ≡ true))
    (λ is d. elim (Contains-cons_cases x (of_pins pins os) o d) [
      | inl e ↦ (subst (Contains (x ∷ os)) e (Contains-head x os), ap (λ v. contains_pin v.block pins) (sym e) ∙ is)
      | inr k ↦ (let r = offset-from pins os o k in (Contains-tail x os o r.0, r.1))
    ])
    (λ is d. let r = offset-from pins os o d in (Contains-tail x os o r.0, r.1)) c

-- the points of the pads among the pins
module _ (place : ℕ → Interval) (pads : List Pin → List Interval)
    (none : pads [] ≡ []) (skips : (b : ℕ) (pins : List Pin) → pads (pin.Block b ∷ pins) ≡ pads pins) (takes : (p : ℕ) (pins : List Pin) → pads (pin.Pad p ∷ pins) ≡ place p ∷ pads pins) where
  -- the point of a pad among the pins is picked
  pub pads-found : (pins : List Pin) (q : ℕ) → Contains pins (pin.Pad q) → Contains (pads pins) (place q)
  pads-found [] q c = absurd (not_in_nil (pin.Pad q) c)
  pads-found (pin.Block b ∷ pins) q c =
      elim (Contains-cons_cases (pin.Block b) pins (pin.Pad q) c) [
        | inl e ↦ absurd (cc)
        | inr d ↦ subst (λ v. Contains v (place q)) (sym (skips b pins)) (pads-found pins q d)
      ]
  pads-found (pin.Pad p ∷ pins) q c =
      subst (λ v. Contains v (place q)) (sym (takes p pins)) (elim (Contains-cons_cases (pin.Pad p) pins (pin.Pad q) c) [
        | inl e ↦ (let same : p ≡ q = cc in subst (λ v. Contains (place p ∷ pads pins) (place v)) same (Contains-head (place p) (pads pins)))
        | inr d ↦ Contains-tail (place p) (pads pins) (place q) (pads-found pins q d)
      ])

  -- a picked point is that of a pad among the pins
  pub pads-from : (pins : List Pin) (z : Interval) → Contains (pads pins) z → (q : ℕ) × Contains pins (pin.Pad q) × (place q ≡ z)
  pads-from [] z c = absurd (not_in_nil z (subst (λ v. Contains v z) none c))
  pads-from (pin.Block b ∷ pins) z c =
      let k = pads-from pins z (subst (λ v. Contains v z) (skips b pins) c) in
      (k.0, Contains-tail (pin.Block b) pins (pin.Pad k.0) k.1, k.2)
  pads-from (pin.Pad p ∷ pins) z c =
      elim (Contains-cons_cases (place p) (pads pins) z (subst (λ v. Contains v z) (takes p pins) c)) [
        | inl e ↦ (p, Contains-head (pin.Pad p) pins, e)
        | inr d ↦ (let k = pads-from pins z d in (k.0, Contains-tail (pin.Pad p) pins (pin.Pad k.0) k.1, k.2))
      ]
