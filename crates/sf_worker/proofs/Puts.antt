-- What is put or kept, one task after another.
use Rattle.std.proofs.Common.{◌≡◌, List, [], ◌∷◌, ◌++◌, refl, sym, ap, ◌∙◌, arith, append-nil, sum_by}
use Rattle.sf_worker.proofs.Common.{sum_by-append, All-nil, Stretch, OwnerView, with_put, PutsAll}

module _ (S : Stretch → Type 0) where
  -- where there is no task to put, nothing changes
  pub puts-none : (old : OwnerView) (kept : List Stretch) → PutsAll S old old kept kept []
  puts-none old kept = record {
    refused = [];
    kept_are = sym (append-nil kept);
    served = All-nil S;
    deque = refl;
    taken = refl;
    empty_takes = refl;
    put = λ w. refl;
    refusals = (omega arith, λ h. omega arith);
  }

  -- an owner that has put one task more has kept none of it
  pub puts-one : (old new : OwnerView) (kept : List Stretch) (x : Stretch) → new ≡ with_put old x → PutsAll S old new kept kept (x ∷ [])
  puts-one old new kept x e =
      let r : new.refused_puts ≡ old.refused_puts = ap (λ (o : OwnerView). o.refused_puts) e in record {
        refused = [];
        kept_are = sym (append-nil kept);
        served = All-nil S;
        deque = ap (λ (o : OwnerView). o.deque) e;
        taken = ap (λ (o : OwnerView). o.taken) e;
        empty_takes = ap (λ (o : OwnerView). o.empty_takes) e;
        put = λ w. (let k : sum_by w new.put ≡ sum_by w (old.put ++ x ∷ []) = ap (λ (o : OwnerView). sum_by w o.put) e in omega (arith, k, sum_by-append w old.put (x ∷ [])));
        refusals = (omega (arith, r), λ h. omega (arith, r));
      }
