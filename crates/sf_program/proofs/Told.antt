-- What is told of a search is its answer.
use Rattle.std.proofs.Common.{◌≡◌, ◌≤◌, ℕ, List, [], ◌∷◌, map, Option, Result, Ok, Err, arith, subst}
use Rattle.sf_program.proofs.Common.{IfOk, Design, root, Expr, Cert, least, left_open, BoundsChoice, chosen_value, chosen_part, Outcome, IsAnswered, IsEnding, IsReported, IsSearched, IsGood, IsGoneOn, IsSearchedOn, outcome_status, stored_in, Work}
use Rattle.sf_certificate.proofs.Floor.{certificate-floor}
use Rattle.sf_program.proofs.ByChoice.{good-yes}
use Rattle.sf_program.specs.Planned.{IsTold}
use Rattle.sf_program.proofs.ChosenLaws.{chosen-parts, chosen-sound}

-- the least of numbers from a first one is at most that
least-below : (n : ℕ) (xs : List ℕ) → least n xs ≤ n
least-below n [] = omega arith
least-below n (x ∷ xs) = omega (arith, least-below n xs)

-- the bound of a valid certificate is at most its cost
pub bound-below : (bounds : BoundsChoice) (design : Design) (cert : Cert) → IsGood bounds design cert → cert.bound ≤ cert.cost
bound-below bounds design cert valid =
    omega (arith, valid.stated, least-below cert.cost (map (chosen_value bounds design) (left_open (root design ∷ []) cert.tags)))

module _ {E : Type 0} (bounds : BoundsChoice) (design : Design) (scale : ℕ) (name : List ℕ) (pl : Option (List ℕ)) where
  -- what is told of a valid certificate is its report
  pub told-reported : (said : Outcome) (cert : Cert) (plan : Option Expr) → IsGood bounds design cert → plan ≡ cert.plan → IsEnding cert.cost cert.bound said → (r : Result Work E)
      → IfOk r (λ w. IsTold design scale name pl said cert plan (stored_in w.stores.items) w.text.items)
      → IfOk r (λ w. w.status ≡ outcome_status said)
      → IfOk r (λ w. IsReported bounds design scale name pl cert w.status (stored_in w.stores.items) w.text.items)
  told-reported said cert plan valid same ending (Ok w) told status = record {
    floor = certificate-floor design (chosen_value bounds design) (chosen_part bounds design) cert (chosen-sound bounds design) (chosen-parts bounds design) valid;
    accepted = λ read answer takes so. good-yes bounds read cert (design, takes, valid) answer so;
    said = said;
    ending = ending;
    status_is = status;
    told = subst (λ p. IsTold design scale name pl said cert p (stored_in w.stores.items) w.text.items) same told;
  }
  told-reported said cert plan valid same ending (Err e) told status = tt

  -- with its report the certificate of a search from the root is the search's answer
  pub searched-answered : (workers budget : ℕ) (start : Option (Expr × ℕ)) (cert : Cert) → IsSearched bounds design workers budget start cert → (r : Result Work E)
      → IfOk r (λ w. IsReported bounds design scale name pl cert w.status (stored_in w.stores.items) w.text.items)
      → IfOk r (λ w. IsAnswered bounds design workers budget start scale name pl w.status (stored_in w.stores.items) w.text.items)
  searched-answered workers budget start cert searched (Ok w) reported = record { cert = cert; searched = searched; reported = reported }
  searched-answered workers budget start cert searched (Err e) reported = tt

  -- so is that of one that went on from another
  pub gone-on : (old : Cert) (budget : ℕ) (cert : Cert) → IsGood bounds design old → IsSearchedOn bounds design old budget cert → (r : Result Work E)
      → IfOk r (λ w. IsReported bounds design scale name pl cert w.status (stored_in w.stores.items) w.text.items)
      → IfOk r (λ w. IsGoneOn bounds design old budget scale name pl w.status (stored_in w.stores.items) w.text.items)
  gone-on old budget cert good searched (Ok w) reported = record { good = good; cert = cert; searched = searched; reported = reported }
  gone-on old budget cert good searched (Err e) reported = tt
