-- A text that is fed in pieces: its answer, and what its fault says.
use Rattle.std.proofs.Common.{◌≡◌, inl, ℕ, List, [], ◌∷◌, length, arith, refl, subst, sym, Option, None, Result, Ok, Err, IfOk, Bool}
use Rattle.sf_program.proofs.Common.{IfErr, Contents, Design, block_count, BoundsChoice, chosen_part, CheckOptions, Command, check, Stop, Refuses, Stops, KnownRead, Judged, TextWithin, Cert, cert_text, CommandRefuses, IsOwnAnswer, Obeys, CertRead, CheckRead, IsJudged, IsRewritten, IsStoredAnew, JudgedFile, JudgedText, answer_status, answer_text, cert_limit, cert_refusal, Stored, stored_in, CertFault, cert_read, Takes, IsChosenAnswer, IsTextAnswer, IsGood, Work, AllNameFirst, AreAlikeButNames, refused-stops, stops-map}
use Rattle.sf_certificate.specs.Said.{Said, said_by}
use Rattle.sf_checker.specs.declared.answer.Answer.{Answer}
use Rattle.sf_program.proofs.ByChoice.{good-yes}

-- a text of no length has no bytes
pub no-bytes : (bytes : List ℕ) → length bytes ≡ 0 → bytes ≡ []
no-bytes [] e = refl
no-bytes (b ∷ bytes) e = absurd (omega (arith, e))

-- a stop with the line of a text's fault
pub cert-stops : (read : Result Said CertFault) (fault : CertFault) (stop : Stop) → read ≡ Err fault → Refuses stop (cert_refusal fault) → Stops stop (λ why. Judged read cert_refusal (Err why))
cert-stops read fault stop e r =
    refused-stops (λ why. Judged read cert_refusal (Err why)) (cert_refusal fault) (subst (λ x. Judged x cert_refusal (Err (cert_refusal fault))) (sym e) refl) stop r

-- an answer that stores nothing
pub told-text : (bounds : BoundsChoice) (design : Design) (text : List ℕ) (answer : Answer) (work : Work) → IsTextAnswer bounds design text answer
    → work.status ≡ answer_status answer → stored_in work.stores.items ≡ [] → work.text.items ≡ answer_text answer
    → JudgedText bounds design text None work.status (stored_in work.stores.items) work.text.items
told-text bounds design text answer work a status stores printed = record {
  cert = a.cert;
  reads = a.reads;
  judged = record { answer = answer; answered = a.answered; status_is = status; rewritten = stores; prints = printed };
}

-- a certificate that is valid for the design that took its paths, and names the first parts, is stored in place of one that it is like
pub stored-anew : {A E : Type 0} (bounds : BoundsChoice) (routed : Design) (old new : Cert) (name : List ℕ) → AreAlikeButNames old new → AllNameFirst routed (chosen_part bounds routed) new.cost new.tags → IsGood bounds routed new
    → (stores : A → List Stored) (r : Result A E) → IfOk r (λ a. stores a ≡ (name, cert_text new) ∷ []) → IfOk r (λ a. (design : Design) → Takes bounds design old.paths routed → IsStoredAnew bounds design old name (stores a))
stored-anew bounds routed old new name alike first valid stores (Ok a) h = λ design takes.
    let again = subst (λ ps. Takes bounds design ps routed) (sym alike.paths) takes in
    (new, record { alike = alike; routed = routed; takes = takes; named = first; accepted = good-yes bounds design new (routed, again, valid) }, h)
stored-anew bounds routed old new name alike first valid stores (Err e) h = tt

-- an answer with what is stored of its certificate
pub told-cert : {E : Type 0} (bounds : BoundsChoice) (design : Design) (cert : Cert) (rewrite : Option (List ℕ)) (answer : Answer) (all : List Stored) → IsChosenAnswer bounds design cert answer → IsRewritten bounds design cert rewrite answer all
    → (r : Result Work E) → IfOk r (λ w. w.status ≡ answer_status answer) → IfOk r (λ w. stored_in w.stores.items ≡ all) → IfOk r (λ w. w.text.items ≡ answer_text answer)
    → IfOk r (λ w. IsJudged bounds design cert rewrite w.status (stored_in w.stores.items) w.text.items)
told-cert bounds design cert rewrite answer all so kept (Ok w) status stores printed = record {
  answer = answer;
  answered = so;
  status_is = status;
  rewritten = subst (IsRewritten bounds design cert rewrite answer) (sym stores) kept;
  prints = printed;
}
told-cert bounds design cert rewrite answer all so kept (Err e) status stores printed = tt

-- what is told of the text that is read under a name
pub told-file : (bounds : BoundsChoice) (is_long : Bool) (held : Option Contents) (name text said : List ℕ) (design : Design) (rewrite named : Option (List ℕ)) → TextWithin (cert_limit is_long) held name (Ok text) → said ≡ text → named ≡ rewrite → (r : Result Work Stop)
    → IfOk r (λ w. JudgedText bounds design said rewrite w.status (stored_in w.stores.items) w.text.items) → IfOk r (λ w. JudgedFile bounds is_long held name design named w.status (stored_in w.stores.items) w.text.items)
told-file bounds is_long held name text said design rewrite named read same given (Ok w) h = record {
  cert = h.cert;
  reads = inl (text, read, subst (λ r. Judged r cert_refusal (Ok (said_by h.cert))) (sym (subst (λ t. cert_read (block_count design) t ≡ Ok (said_by h.cert)) same h.reads)) refl);
  judged = subst (λ n. IsJudged bounds design h.cert n w.status (stored_in w.stores.items) w.text.items) (sym given) h.judged;
}
told-file bounds is_long held name text said design rewrite named read same given (Err stop) h = tt

-- the design comes before the certificate
module _ (held : Option Contents) (o : CheckOptions) (design : Design) (read : KnownRead held o.design o.weights o.bounds (Ok design)) where
  -- what is told of the certificate's file, and a fault of it, is what `check` tells of the design
  pub check-obeyed : (r : Result Work Stop) → IfOk r (λ w. JudgedFile o.bounds o.is_long held o.cert design o.rewrite w.status (stored_in w.stores.items) w.text.items)
      → IfErr r (λ stop. Stops stop (λ why. CertRead o.is_long held o.cert (block_count design) (Err why))) → Obeys (check o) held r
  check-obeyed (Ok w) told stopped = record { design = design; reads = read; file = told }
  check-obeyed (Err stop) told stopped = stops-map (λ why. CertRead o.is_long held o.cert (block_count design) (Err why)) (λ why. CheckRead held o (Err why)) (λ why p. inl (design, read, p)) stop stopped

-- an answer of the command's own, or a stop where it refuses, obeys it
pub obeyed : (command : Command) (held : Option Contents) (r : Result Work Stop) → IfOk r (λ w. IsOwnAnswer command held w.status (stored_in w.stores.items) w.text.items)
    → IfErr r (λ stop. Stops stop (CommandRefuses command held)) → Obeys command held r
obeyed command held (Ok w) answered stopped = answered
obeyed command held (Err stop) answered stopped = stopped
