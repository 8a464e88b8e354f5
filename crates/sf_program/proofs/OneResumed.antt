-- What `resume` reads is one design and one certificate, or is refused for one reason.
use Rattle.std.proofs.Common.{Bool, ℕ, ◌+◌, List, Some, Ok, Err, ap, sym, ◌∙◌, arith}
use Rattle.sf_program.proofs.Common.{BoundsChoice, Contents, Design, block_count, Cert, decided, ResumeOptions, AtMostOne, GivesOne, Refusal, KnownRead, With, CertLoaded, CertRead, CertTaken, CountTested, ResumeRead, SumTested, said_by}
use Rattle.sf_program.proofs.Once.{no-refusal, once, same-refusal, same-value, then-one, with-one}
use Rattle.sf_program.proofs.OneChecked.{cert-one, said-cert}
use Rattle.sf_program.proofs.OneKnown.{known-one}

-- a file says one certificate, or has one fault
loaded-one : (is_long : Bool) (contents : Contents) (name : List ℕ) (design : Design) → GivesOne contents.may_fail (CertLoaded is_long (Some contents) name design)
loaded-one is_long contents name design (Ok c) (Ok d) a b told =
    ap Ok (said-cert c d (same-value (CertRead is_long (Some contents) name (block_count design)) (cert-one is_long contents name (block_count design)) (said_by c) (said_by d) a b))
loaded-one is_long contents name design (Ok c) (Err w) a b told =
    absurd (no-refusal (CertRead is_long (Some contents) name (block_count design)) (cert-one is_long contents name (block_count design)) (said_by c) w (λ t. (told t).1) a b)
loaded-one is_long contents name design (Err v) (Ok d) a b told =
    absurd (no-refusal (CertRead is_long (Some contents) name (block_count design)) (cert-one is_long contents name (block_count design)) (said_by d) v (λ t. (told t).0) b a)
loaded-one is_long contents name design (Err v) (Err w) a b told =
    ap Err (same-refusal (CertRead is_long (Some contents) name (block_count design)) (cert-one is_long contents name (block_count design)) v w told a b)

-- no count is within the limit and past it
within-past : (is_long : Bool) (count blocks : ℕ) (why : Refusal) → CountTested is_long count blocks (Ok count) → CountTested is_long count blocks (Err why) → ⊥
within-past is_long count blocks why a b = let within = a.1 b.0 in let past = b.1 in omega arith

-- what a certificate decides and the budget are together within the limit, or past it
sum-one : (bounds : BoundsChoice) (is_long : Bool) (nodes : ℕ) (design : Design) (cert : Cert) → AtMostOne (SumTested bounds is_long nodes design cert)
sum-one bounds is_long nodes design cert (Ok c) (Ok d) a b = ap Ok (a.0 ∙ sym b.0)
sum-one bounds is_long nodes design cert (Ok c) (Err w) a b = absurd (within-past is_long (decided cert.tags + nodes) (block_count design) w (a.1 b.0) b.1)
sum-one bounds is_long nodes design cert (Err v) (Ok d) a b = absurd (within-past is_long (decided cert.tags + nodes) (block_count design) v (b.1 a.0) a.1)
sum-one bounds is_long nodes design cert (Err v) (Err w) a b = ap Err (a.1.2 ∙ sym b.1.2)

-- so the design and the certificate that are read are one
pub resume-read-one : (contents : Contents) (o : ResumeOptions) → GivesOne contents.may_fail (ResumeRead (Some contents) o)
resume-read-one contents o =
    then-one (KnownRead (Some contents) o.design o.weights o.bounds) (With (CertTaken (Some contents) o)) (known-one contents o.design o.weights o.bounds)
    (λ design. with-one (CertTaken (Some contents) o) design
    (then-one (CertLoaded o.is_long (Some contents) o.cert design) (SumTested o.bounds o.is_long o.nodes design) (loaded-one o.is_long contents o.cert design) (λ cert. once (SumTested o.bounds o.is_long o.nodes design cert) (sum-one o.bounds o.is_long o.nodes design cert))))
