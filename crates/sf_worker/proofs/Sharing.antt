-- What a worker shares of the stretch in hand.
use Rattle.std.proofs.Common.{◌≡◌, ℕ, ◌+◌, ◌≤◌, List, [], ◌∷◌, ◌++◌, ap, sym, ◌∙◌, refl, arith, true, append-nil, sum_by}
use Rattle.sf_worker.proofs.Common.{sum_by-append, All-nil, All-weaker, Design, Parts, Stretch, IsStretch, waits, OwnerView, one_more, WorkerState, HandView, IsHand, IsParted, left_of, marks_of, IsShared, NeverFell, Serves, on_stretch, PutsAll}

-- the owner between what it took and what it puts
pub record IsTaken (old mid : OwnerView) (took : List Stretch) : Type 0 where
  pub deque : mid.deque ≡ old.deque
  pub put : mid.put ≡ old.put
  pub taken : mid.taken ≡ old.taken ++ took
  pub refused_puts : mid.refused_puts ≡ old.refused_puts
  pub empty_takes : NeverFell old.empty_takes mid.empty_takes

-- it took one
pub taken-one : (old mid : OwnerView) (x : Stretch) → mid ≡ record old { taken = old.taken ++ x ∷ []; stack = mid.stack } → IsTaken old mid (x ∷ [])
taken-one old mid x e = record {
  deque = ap (λ (o : OwnerView). o.deque) e;
  put = ap (λ (o : OwnerView). o.put) e;
  taken = ap (λ (o : OwnerView). o.taken) e;
  refused_puts = ap (λ (o : OwnerView). o.refused_puts) e;
  empty_takes = (let k : mid.empty_takes ≡ old.empty_takes = ap (λ (o : OwnerView). o.empty_takes) e in omega (arith, k));
}

-- it found none
pub taken-none : (old mid : OwnerView) → mid ≡ record old { empty_takes = one_more old.empty_takes } → IsTaken old mid []
taken-none old mid e = record {
  deque = ap (λ (o : OwnerView). o.deque) e;
  put = ap (λ (o : OwnerView). o.put) e;
  taken = ap (λ (o : OwnerView). o.taken) e ∙ sym (append-nil old.taken);
  refused_puts = ap (λ (o : OwnerView). o.refused_puts) e;
  empty_takes = (let k : mid.empty_takes ≡ one_more old.empty_takes = ap (λ (o : OwnerView). o.empty_takes) e in omega (arith, k));
}

-- what a cut takes from what is left
pub cut-weighs : (design : Design) (bound : Parts → ℕ) (old new : HandView) (given : Stretch) → IsParted design bound old new given → (w : Parts → ℕ) → sum_by w (left_of design old) + sum_by (on_stretch design w) [] ≡ sum_by w (left_of design new) + sum_by (on_stretch design w) (given ∷ [])
cut-weighs design bound old new given p w = omega (arith, ap (sum_by w) p.cut, sum_by-append w (left_of design new) (waits design given))

module _ {T : Type 0} (design : Design) (bound : Parts → ℕ) where
  -- nothing was shared
  pub shared-none : (s : WorkerState T) (hand : HandView) → IsHand design bound hand → hand.more ≡ true → IsShared design bound s hand s hand
  shared-none s hand is more = record {
    refused = [];
    hand_is = is;
    marks_are = refl;
    hand_kept = refl;
    more = more;
    frame = refl;
    kept = sym (append-nil s.kept.items);
    refused_are = All-nil (IsStretch design bound);
    deque = refl;
    thieves = refl;
    both = λ w. omega arith;
    refusals = (omega arith, λ h. omega arith);
    empty_takes = omega arith;
  }

  -- these were taken, and those were put or kept
  pub shared : (S : Stretch → Type 0) → Serves S design bound → (old new : WorkerState T) (hand hand' : HandView) (took xs kept : List Stretch) (mid : OwnerView)
      → IsHand design bound hand' → marks_of design hand' ≡ marks_of design hand → hand'.kept ≡ hand.kept → hand'.more ≡ true → new ≡ record old { place = new.place; kept = new.kept } → kept ≡ old.kept.items
      → IsTaken old.place.owner mid took → PutsAll S mid new.place.owner kept new.kept.items xs → new.place.thieves.items ≡ old.place.thieves.items
      → ((w : Parts → ℕ) → sum_by w (left_of design hand) + sum_by (on_stretch design w) took ≡ sum_by w (left_of design hand') + sum_by (on_stretch design w) xs)
      → IsShared design bound old hand new hand'
  shared S team old new hand hand' took xs kept mid is marks_are hand_kept more frame same t p thieves left = record {
    refused = p.refused;
    hand_is = is;
    marks_are = marks_are;
    hand_kept = hand_kept;
    more = more;
    frame = frame;
    kept = p.kept_are ∙ ap (λ z. z ++ p.refused) same;
    refused_are = All-weaker S (IsStretch design bound) (λ s h. (team s).0 h) p.refused p.served;
    deque = p.deque ∙ t.deque;
    thieves = thieves;
    both = λ w.
        let on = on_stretch design w in
        let a : sum_by on new.place.owner.taken ≡ sum_by on (old.place.owner.taken ++ took) = ap (sum_by on) (p.taken ∙ t.taken) in
        let b : sum_by on mid.put ≡ sum_by on old.place.owner.put = ap (sum_by on) t.put in
        omega (arith, a, b, sum_by-append on old.place.owner.taken took, p.put on, left w);
    refusals = ((let r = p.refusals.0 in let m = t.refused_puts in omega (arith, r, m)), λ h. (let r = p.refusals.1 h in let m = t.refused_puts in omega (arith, r, m)));
    empty_takes = (let e = p.empty_takes in let m = t.empty_takes in omega (arith, e, m));
  }
