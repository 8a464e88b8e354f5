-- The nets that are kept signal by signal are those of the distinct signals.
use Rattle.std.proofs.Common.{◌≡◌, inl, inr, ℕ, suc, ◌+◌, true, false, List, [], ◌∷◌, ◌++◌, length, Option, Some, None, refl, sym, ap, ◌∙◌, arith, append_assoc, length-append, bytes_eq}
use Rattle.sf_yal.proofs.Common.{map, is_some, fold-append, option_map, cases_Bool, append-nil, map-append, RawNet, RawPin, Once, index_of, has_name, with_signal, with_signals, signals_of, block_pins, net_of, nets_of, Uses, nothing_used, with_pin, with_pin_at, used_at, used_once, used_all, used_by, with_pads}
use Rattle.sf_parts.specs.declared.raw.RawPin.TheVariants as pins
use Rattle.sf_parts.proofs.Tables.{bytes_eq_sym}
use Rattle.sf_yal.proofs.SignalPins.{Signals, same_name, has_push_same, has_push_other, pin_of, pins_last, low, with_pin_by, none_cons, once_uses, absent_uses}

-- the net of a signal without its pad
abbrev net_use : List Signals → List ℕ → RawNet
net_use uses s = record { pins = block_pins s 0 uses }

-- those of some signals
abbrev nets_for : List Signals → Signals → List RawNet
nets_for uses signals = map (net_use uses) signals

-- what is kept once these instances were used
abbrev kept : List Signals → Uses
kept uses = record { signals = signals_of uses; nets = nets_for uses (signals_of uses) }

-- the front of an empty list
front_empty : (xs ys : List RawPin) → xs ++ ys ≡ [] → xs ≡ []
front_empty [] ys h = refl
front_empty (x ∷ xs) ys h = absurd cc

-- a place that is not the first lies behind one
under : (o : Option ℕ) (k : ℕ) → option_map suc o ≡ Some k → (j : ℕ) × (o ≡ Some j) × (k ≡ suc j)
under None k h = absurd cc
under (Some j) k h = (j, refl, cc)

-- one signal more of the last instance
module _ (earlier : List Signals) (taken : Signals) (t : List ℕ) where
  -- the instances so far
  abbrev old : List Signals
  old = earlier ++ taken ∷ []

  -- the same with one signal more of the last
  abbrev new : List Signals
  new = earlier ++ (taken ++ t ∷ []) ∷ []

  -- the number of the last
  abbrev number : ℕ
  number = 0 + length earlier

  -- other signals keep their nets
  same_net : (s : List ℕ) → bytes_eq t s ≡ false → net_use old s ≡ net_use new s
  same_net s e =
      let has : has_name s (taken ++ t ∷ []) ≡ has_name s taken = has_push_other s t taken e in
      ap (λ (ps : List RawPin). record { pins = ps }) (pins_last s 0 earlier taken ∙ sym (pins_last s 0 earlier (taken ++ t ∷ []) ∙ rw has refl))

  -- the signal has the last instance as its last pin
  new_pins : block_pins t 0 new ≡ block_pins t 0 earlier ++ pins.Block number ∷ []
  new_pins = pins_last t 0 earlier (taken ++ t ∷ []) ∙ rw (has_push_same t taken) refl

  -- it is a pin once
  pinned : with_pin number (block_pins t 0 old) ≡ block_pins t 0 new
  pinned = ap (with_pin number) (pins_last t 0 earlier taken) ∙ with_pin_by number t taken (block_pins t 0 earlier) (has_name t taken) refl (low t 0 number earlier (omega arith)) ∙ sym new_pins

  -- the nets of other signals stay
  others : (signals : Signals) → index_of t signals ≡ None → nets_for old signals ≡ nets_for new signals
  others [] h = refl
  others (s ∷ more) h =
      let k = none_cons t s more h in
      let rest = others more k.1 in
      ap (λ (x : RawNet). x ∷ nets_for old more) (same_net s (sym (bytes_eq_sym s t) ∙ k.0)) ∙ ap (λ (xs : List RawNet). net_use new s ∷ xs) rest

  -- the net of a signal that is noted
  found : (signals : Signals) (k : ℕ) → Once signals → index_of t signals ≡ Some k → with_pin_at number k (nets_for old signals) ≡ nets_for new signals
  found [] k once h = absurd cc
  found (s ∷ more) k once h = elim (cases_Bool (bytes_eq s t)) [
    | inl e ↦
        let same = same_name s t e in
        let here : Some 0 ≡ Some k = rw e at h in
        let first : k ≡ 0 = cc in
        rw (first, same) (ap (λ (ps : List RawPin). record { pins = ps } ∷ nets_for old more) pinned ∙ ap (λ (xs : List RawNet). net_use new t ∷ xs) (others more (rw same at once.0)))
    | inr e ↦
        let u = under (index_of t more) k (rw e at h) in
        rw u.2 (ap (λ (x : RawNet). x ∷ with_pin_at number u.0 (nets_for old more)) (same_net s (sym (bytes_eq_sym s t) ∙ e)) ∙ ap (λ (xs : List RawNet). net_use new s ∷ xs) (found more u.0 once.1 u.1))
  ]

  -- the signals so far
  signals_old : signals_of old ≡ with_signals (signals_of earlier) taken
  signals_old = fold-append with_signals [] earlier (taken ∷ [])

  -- and with one more
  signals_new : signals_of new ≡ with_signal (signals_of old) t
  signals_new = fold-append with_signals [] earlier ((taken ++ t ∷ []) ∷ []) ∙ fold-append with_signal (signals_of earlier) taken (t ∷ []) ∙ ap (λ (x : Signals). with_signal x t) (sym signals_old)

  -- a signal that is noted, or is not
  step_by : (o : Option ℕ) → index_of t (signals_of old) ≡ o → used_at number (kept old) t o ≡ kept new
  step_by None e =
      let has : has_name t (signals_of old) ≡ false = ap is_some e in
      let same : signals_of new ≡ signals_of old ++ t ∷ [] = signals_new ∙ rw has refl in
      let none = absent_uses t 0 [] old e in
      let nothing : block_pins t 0 earlier ++ pin_of number t taken ≡ [] = sym (pins_last t 0 earlier taken) ∙ none.1 in
      let alone : block_pins t 0 new ≡ pins.Block number ∷ [] = new_pins ∙ ap (λ (ps : List RawPin). ps ++ pins.Block number ∷ []) (front_empty (block_pins t 0 earlier) (pin_of number t taken) nothing) in
      let nets : nets_for old (signals_of old) ++ record { pins = pins.Block number ∷ [] } ∷ [] ≡ nets_for new (signals_of new) =
      ap (λ (xs : List RawNet). xs ++ record { pins = pins.Block number ∷ [] } ∷ []) (others (signals_of old) e)
      ∙ ap (λ (ps : List RawPin). nets_for new (signals_of old) ++ record { pins = ps } ∷ []) (sym alone)
      ∙ sym (map-append (net_use new) (signals_of old) (t ∷ []))
      ∙ ap (nets_for new) (sym same) in
      λ i. record { signals = sym same i; nets = nets i }
  step_by (Some k) e =
      let has : has_name t (signals_of old) ≡ true = ap is_some e in
      let same : signals_of new ≡ signals_of old = signals_new ∙ rw has refl in
      let nets : with_pin_at number k (nets_for old (signals_of old)) ≡ nets_for new (signals_of new) = found (signals_of old) k (once_uses [] old tt) e ∙ ap (nets_for new) (sym same) in
      λ i. record { signals = sym same i; nets = nets i }

  -- one signal more
  step : used_once number (kept old) t ≡ kept new
  step = step_by (index_of t (signals_of old)) refl

-- all signals of the last instance
all_used : (earlier : List Signals) (taken more : Signals) → used_all (0 + length earlier) (kept (earlier ++ taken ∷ [])) more ≡ kept (earlier ++ (taken ++ more) ∷ [])
all_used earlier taken [] = ap (λ (x : Signals). kept (earlier ++ x ∷ [])) (sym (append-nil taken))
all_used earlier taken (t ∷ more) =
    ap (λ (u : Uses). used_all (0 + length earlier) u more) (step earlier taken t)
    ∙ all_used earlier (taken ++ t ∷ []) more
    ∙ ap (λ (x : Signals). kept (earlier ++ x ∷ [])) (append_assoc taken (t ∷ []) more)

-- an instance without signals changes nothing
same_nets : (earlier : List Signals) (signals : Signals) → nets_for earlier signals ≡ nets_for (earlier ++ [] ∷ []) signals
same_nets earlier [] = refl
same_nets earlier (s ∷ more) =
    let here : block_pins s 0 earlier ≡ block_pins s 0 (earlier ++ [] ∷ []) = sym (pins_last s 0 earlier [] ∙ append-nil (block_pins s 0 earlier)) in
    ap (λ (ps : List RawPin). record { pins = ps } ∷ nets_for earlier more) here ∙ ap (λ (xs : List RawNet). net_use (earlier ++ [] ∷ []) s ∷ xs) (same_nets earlier more)

-- so the nets and signals stay
idle : (earlier : List Signals) → kept earlier ≡ kept (earlier ++ [] ∷ [])
idle earlier =
    let same : signals_of earlier ≡ signals_of (earlier ++ [] ∷ []) = sym (fold-append with_signals [] earlier ([] ∷ [])) in
    let nets : nets_for earlier (signals_of earlier) ≡ nets_for (earlier ++ [] ∷ []) (signals_of (earlier ++ [] ∷ [])) = same_nets earlier (signals_of earlier) ∙ ap (nets_for (earlier ++ [] ∷ [])) same in
    λ i. record { signals = same i; nets = nets i }

-- all instances
by_all : (n : ℕ) (earlier more : List Signals) → n ≡ 0 + length earlier → used_by n (kept earlier) more ≡ kept (earlier ++ more)
by_all n earlier [] at = ap kept (sym (append-nil earlier))
by_all n earlier (signals ∷ more) at =
    let one : used_all n (kept earlier) signals ≡ kept (earlier ++ signals ∷ []) = ap (λ (k : ℕ). used_all k (kept earlier) signals) at ∙ ap (λ (u : Uses). used_all (0 + length earlier) u signals) (idle earlier) ∙ all_used earlier [] signals in
    let next : n + 1 ≡ 0 + length (earlier ++ signals ∷ []) = omega (arith, length-append earlier (signals ∷ [])) in
    ap (λ (u : Uses). used_by (n + 1) u more) one ∙ by_all (n + 1) (earlier ++ signals ∷ []) more next ∙ ap kept (append_assoc earlier (signals ∷ []) more)

-- the nets with their pads
with_all : (uses : List Signals) (pad_names signals : Signals) → with_pads pad_names signals (nets_for uses signals) ≡ map (net_of uses pad_names) signals
with_all uses pad_names [] = refl
with_all uses pad_names (s ∷ more) = ap (λ (xs : List RawNet). net_of uses pad_names s ∷ xs) (with_all uses pad_names more)

-- what is kept is the nets of all signals
pub nets_are : (uses : List Signals) (pad_names : Signals) (u : Uses) → u ≡ used_by 0 nothing_used uses → with_pads pad_names u.signals u.nets ≡ nets_of uses pad_names
nets_are uses pad_names u is =
    let all : u ≡ kept uses = is ∙ by_all 0 [] uses (omega arith) in
    ap (λ (v : Uses). with_pads pad_names v.signals v.nets) all ∙ with_all uses pad_names (signals_of uses)
