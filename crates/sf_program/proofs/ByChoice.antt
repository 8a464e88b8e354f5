-- Certificates judged for the design that takes their paths: each has one answer, which is Yes where it is valid.
use Rattle.std.proofs.Common.{◌≡◌, ℕ, inl, inr, refl, ap, sym, subst, ◌∙◌, true, List, length, Option, Some, None, Result, Ok, IfNone, IfOk, IfSome}
use Rattle.sf_program.proofs.Common.{Block, Design, BoundsChoice, Cert, IsGood, block_count, chosen_part, chosen_value, CertFault, cert_read, breaks-one, takes-one, takes-paths, takes-unbroken, Breaks, Takes, Paths, Why, IsChosenAnswer, IsAnswerWithPaths, IsTextAnswer, IsGoodWithPaths}
use Rattle.sf_certificate.specs.Said.{Said, said_by}
use Rattle.sf_checker.specs.Feeding.{IsAnswerTo}
use Rattle.sf_checker.specs.declared.answer.Answer.{Answer}
use Rattle.sf_checker.specs.declared.answer.Answer.TheVariants.{Yes, No}
use Rattle.sf_checker.specs.declared.answer.Why.TheVariants.{BadPlan, CostDiffers, NotClosed, BoundDiffers, BadSplit, BadChildren, BadPath}
use Rattle.sf_checker.specs.Answers.{IsAnswer, is_yes, with_bad_path}
use Rattle.sf_checker.proofs.Answered.{answered}
use Rattle.sf_checker.proofs.OneAnswer.{one-answer}

-- where a path is not legal the answer is No
broken-no : (n : ℕ) (found : Answer) → is_yes (with_bad_path n found) ≡ true → ⊥
broken-no n (Yes z low count) e = absurd (cc)
broken-no n (No BadPlan) e = absurd (cc)
broken-no n (No (CostDiffers said is)) e = absurd (cc)
broken-no n (No (NotClosed node bound cost)) e = absurd (cc)
broken-no n (No (BoundDiffers said is)) e = absurd (cc)
broken-no n (No (BadSplit node)) e = absurd (cc)
broken-no n (No (BadChildren node)) e = absurd (cc)
broken-no n (No (BadPath path)) e = absurd (cc)

module _ (bounds : BoundsChoice) (design : Design) (cert : Cert) where
  -- so where it is Yes the paths were taken
  pub yes-with-paths : (answer : Answer) → is_yes answer ≡ true → IsChosenAnswer bounds design cert answer → IsAnswerWithPaths bounds design cert answer
  yes-with-paths answer e (inl p) = p
  yes-with-paths answer e (inr b) = absurd (broken-no b.path b.found (subst (λ a. is_yes a ≡ true) b.is e))

  -- and the certificate is valid with them
  pub yes-good : (answer : Answer) → is_yes answer ≡ true → IsChosenAnswer bounds design cert answer → IsGoodWithPaths bounds design cert
  yes-good answer e so =
      let p = yes-with-paths answer e so in
      (p.routed, p.takes, (answered p.routed (chosen_value bounds p.routed) (chosen_part bounds p.routed) cert answer p.answered).0 e)

  -- a certificate that is valid with its paths is answered by Yes
  pub good-yes : IsGoodWithPaths bounds design cert → (answer : Answer) → IsChosenAnswer bounds design cert answer → is_yes answer ≡ true
  good-yes good answer (inl p) =
      let same = takes-one bounds design cert.paths good.0 p.routed good.1 p.takes in
      (answered p.routed (chosen_value bounds p.routed) (chosen_part bounds p.routed) cert answer p.answered).1 (subst (λ (d : Design). IsGood bounds d cert) same good.2)
  good-yes good answer (inr b) = absurd (takes-unbroken bounds design cert.paths good.0 b.path good.1 b.breaks)

  -- a certificate has one answer
  pub chosen-one : (a b : Answer) → IsChosenAnswer bounds design cert a → IsChosenAnswer bounds design cert b → a ≡ b
  chosen-one a b (inl p) (inl q) =
      let same = takes-one bounds design cert.paths p.routed q.routed p.takes q.takes in
      let first = subst (λ (d : Design). IsAnswer d (chosen_value bounds d) (chosen_part bounds d) cert a) same p.answered in
      one-answer q.routed (chosen_value bounds q.routed) (chosen_part bounds q.routed) cert a b first q.answered
  chosen-one a b (inl p) (inr q) = absurd (takes-unbroken bounds design cert.paths p.routed q.path p.takes q.breaks)
  chosen-one a b (inr p) (inl q) = absurd (takes-unbroken bounds design cert.paths q.routed p.path q.takes p.breaks)
  chosen-one a b (inr p) (inr q) =
      let path = breaks-one bounds design cert.paths p.path q.path p.breaks q.breaks in
      let found = one-answer design (chosen_value bounds design) (chosen_part bounds design) cert p.found q.found p.answered q.answered in
      p.is ∙ ap (λ n. with_bad_path n p.found) path ∙ ap (with_bad_path q.path) found ∙ sym q.is

-- what is answered once the design has taken paths, or has stayed as it was since one is not legal
pub behind : (bounds : BoundsChoice) (design routed : Design) (cert : Cert) (found answer : Answer) (wrong : Option ℕ) → (wrong ≡ None → Takes bounds design cert.paths routed) → IfSome wrong (Breaks bounds design cert.paths) → IfSome wrong (λ n. routed ≡ design)
    → IsAnswer routed (chosen_value bounds routed) (chosen_part bounds routed) cert found → IfSome wrong (λ n. answer ≡ with_bad_path n found) → IfNone wrong (answer ≡ found) → IsChosenAnswer bounds design cert answer
behind bounds design routed cert found answer None takes breaks kept so bad is =
    inl (record { routed = routed; takes = takes refl; answered = subst (IsAnswer routed (chosen_value bounds routed) (chosen_part bounds routed) cert) (sym is) so })
behind bounds design routed cert found answer (Some n) takes breaks kept so bad is =
    inr (record { path = n; breaks = breaks; found = found; answered = subst (λ (d : Design). IsAnswer d (chosen_value bounds d) (chosen_part bounds d) cert found) kept so; is = bad })

-- what is not answered by Yes is not valid
pub no-good : (bounds : BoundsChoice) (design : Design) (cert : Cert) (answer : Answer) (why : Why) → answer ≡ No why → IsChosenAnswer bounds design cert answer → IsGoodWithPaths bounds design cert → ⊥
no-good bounds design cert answer why is so good =
    let e : is_yes (No why) ≡ true = subst (λ a. is_yes a ≡ true) is (good-yes bounds design cert good answer so) in
    absurd (cc)

-- a design that takes paths, or stays as it was, keeps its blocks
kept-count : (bounds : BoundsChoice) (design routed : Design) (paths : Paths) (wrong : Option ℕ) → (wrong ≡ None → Takes bounds design paths routed) → IfSome wrong (λ n. routed ≡ design) → block_count routed ≡ block_count design
kept-count bounds design routed paths None takes kept = let h = takes-paths bounds design paths routed (takes refl) in ap (λ (bs : List Block). length bs) h.blocks
kept-count bounds design routed paths (Some n) takes kept = ap block_count kept

-- the answer to a text whose header says the paths
pub text-answer : (bounds : BoundsChoice) (design routed : Design) (text : List ℕ) (paths : Paths) (found answer : Answer) (wrong : Option ℕ) → IfOk (cert_read (block_count design) text) (λ (said : Said). said.paths ≡ paths)
    → (wrong ≡ None → Takes bounds design paths routed) → IfSome wrong (Breaks bounds design paths) → IfSome wrong (λ n. routed ≡ design)
    → IsAnswerTo routed (chosen_value bounds routed) (chosen_part bounds routed) text found → IfSome wrong (λ n. answer ≡ with_bad_path n found) → IfNone wrong (answer ≡ found) → IsTextAnswer bounds design text answer
text-answer bounds design routed text paths found answer wrong header takes breaks kept a bad is =
    let count = kept-count bounds design routed paths wrong takes kept in
    let reads = subst (λ n. cert_read n text ≡ Ok (said_by a.cert)) count a.reads in
    let same : a.cert.paths ≡ paths = subst (λ (r : Result Said CertFault). IfOk r (λ (said : Said). said.paths ≡ paths)) reads header in
    record {
      cert = a.cert;
      reads = reads;
      answered = behind bounds design routed a.cert found answer wrong (λ none. subst (λ ps. Takes bounds design ps routed) (sym same) (takes none))
          (subst (λ ps. IfSome wrong (Breaks bounds design ps)) (sym same) breaks) kept a.answered bad is;
    }
