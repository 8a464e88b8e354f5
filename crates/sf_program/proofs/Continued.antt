-- A certificate that is read, and what is answered to it.
use Rattle.std.proofs.Common.{◌≡◌, inl, inr, Bool, ℕ, ◌+◌, List, [], Option, Result, Ok, Err, IfOk, refl, ap, sym, subst, ◌∙◌}
use Rattle.sf_program.proofs.Common.{IfErr, BoundsChoice, Contents, CountTested, Design, IsGoneOn, IsRejected, answer_status, answer_text, block_count, decided, Cert, ResumeOptions, resume, Stop, Stops, Ends, KnownRead, Judged, TextWithin, Obeys, cert_limit, cert_refusal, CertLoaded, IsTakenUp, ResumeRead, SumTested, stored_in, said_by, cert_read, Work, stops-map, Why, Takes, IsChosenAnswer, IsGoodWithPaths}
use Rattle.sf_checker.specs.declared.answer.Answer.{Answer}
use Rattle.sf_checker.specs.declared.answer.Answer.TheVariants.{No}
use Rattle.sf_program.proofs.ByChoice.{no-good}

-- what a text says, or its first fault, is what the file of the text says
pub cert-loaded : (is_long : Bool) (held : Option Contents) (name text said : List ℕ) (design : Design) → TextWithin (cert_limit is_long) held name (Ok text) → said ≡ text → (r : Result Cert Stop)
    → IfOk r (λ c. cert_read (block_count design) said ≡ Ok (said_by c))
    → IfErr r (λ stop. Stops stop (λ why. Judged (cert_read (block_count design) said) cert_refusal (Err why))) → Ends (λ c. c) r (CertLoaded is_long held name design)
cert-loaded is_long held name text said design read same (Ok c) told stopped =
    inl (text, read, subst (λ r. Judged r cert_refusal (Ok (said_by c))) (sym (subst (λ t. cert_read (block_count design) t ≡ Ok (said_by c)) same told)) refl)
cert-loaded is_long held name text said design read same (Err stop) told stopped =
    stops-map (λ why. Judged (cert_read (block_count design) said) cert_refusal (Err why)) (λ why. CertLoaded is_long held name design (Err why))
    (λ why p. inl (text, read, subst (λ t. Judged (cert_read (block_count design) t) cert_refusal (Err why)) same p)) stop stopped

-- the design comes before the certificate, and the certificate before its sum
module _ (held : Option Contents) (o : ResumeOptions) (design : Design) (read : KnownRead held o.design o.weights o.bounds (Ok design)) where
  -- a file that says no certificate ends the command
  pub resume-stops : (stop : Stop) → Stops stop (λ why. CertLoaded o.is_long held o.cert design (Err why)) → Stops stop (λ why. ResumeRead held o (Err why))
  resume-stops = stops-map (λ why. CertLoaded o.is_long held o.cert design (Err why)) (λ why. ResumeRead held o (Err why)) (λ why p. inl (design, read, inr (why, p, refl)))

  -- what is answered to the certificate is what `resume` answers
  pub resume-obeyed : (cert : Cert) → CertLoaded o.is_long held o.cert design (Ok cert) → (r : Result Work Stop) → IfOk r (λ w. IsTakenUp o design cert w.status (stored_in w.stores.items) w.text.items)
      → IfOk r (λ w. SumTested o.bounds o.is_long o.nodes design cert (Ok cert)) → IfErr r (λ stop. Stops stop (λ why. SumTested o.bounds o.is_long o.nodes design cert (Err why))) → Obeys (resume o) held r
  resume-obeyed cert loaded (Ok w) told within stopped = record { design = design; cert = cert; reads = inl (design, read, (refl, inl (cert, loaded, within))); taken_up = told }
  resume-obeyed cert loaded (Err stop) told within stopped =
      stops-map (λ why. SumTested o.bounds o.is_long o.nodes design cert (Err why)) (λ why. ResumeRead held o (Err why)) (λ why p. inl (design, read, inl (cert, loaded, p))) stop stopped

-- a search that went on for the design that took the certificate's paths is what is answered to the certificate
pub taken-up : {E : Type 0} (o : ResumeOptions) (design routed : Design) (cert : Cert) (r : Result Work E) → Takes o.bounds design cert.paths routed
    → IfOk r (λ w. IsGoneOn o.bounds routed cert o.nodes o.design.per_unit o.cert_out o.pl_out w.status (stored_in w.stores.items) w.text.items)
    → IfOk r (λ w. IsTakenUp o design cert w.status (stored_in w.stores.items) w.text.items)
taken-up o design routed cert (Ok w) takes h = inr (record { routed = routed; takes = takes; gone_on = h })
taken-up o design routed cert (Err e) takes h = tt

-- a sum past the limit, of a certificate that is valid, is refused
pub sum-past : {A : Type 0} (o : ResumeOptions) (design routed : Design) (cert : Cert) (r : Result A Stop) → IsGoodWithPaths o.bounds design cert → block_count routed ≡ block_count design
    → IfErr r (λ stop. Stops stop (λ why. CountTested o.is_long (decided cert.tags + o.nodes) (block_count routed) (Err why))) → IfErr r (λ stop. Stops stop (λ why. SumTested o.bounds o.is_long o.nodes design cert (Err why)))
sum-past o design routed cert (Ok a) good count h = tt
sum-past o design routed cert (Err stop) good count h =
    stops-map (λ why. CountTested o.is_long (decided cert.tags + o.nodes) (block_count routed) (Err why)) (λ why. SumTested o.bounds o.is_long o.nodes design cert (Err why))
    (λ why p. (good, subst (λ n. CountTested o.is_long (decided cert.tags + o.nodes) n (Err why)) count p)) stop h

-- a certificate that is not answered by Yes is rejected
pub rejected : (bounds : BoundsChoice) (design : Design) (cert : Cert) (answer : Answer) (why : Why) (work : Work) → answer ≡ No why → IsChosenAnswer bounds design cert answer
    → work.status ≡ answer_status answer → stored_in work.stores.items ≡ [] → work.text.items ≡ answer_text answer → IsRejected bounds design cert work.status (stored_in work.stores.items) work.text.items
rejected bounds design cert answer why work is so status stores printed = record {
  invalid = no-good bounds design cert answer why is so;
  why = why;
  answered = subst (IsChosenAnswer bounds design cert) is so;
  status_is = status ∙ ap answer_status is;
  unstored = stores;
  prints = printed ∙ ap answer_text is;
}
