-- What the line of a job comes to.
use Rattle.std.proofs.Common.{◌≡◌, ◌⊎◌, inl, inr, ℕ, List, [], ◌∷◌, Option, Some, None, Ok, Err, refl, sym, subst, arith}
use Rattle.sf_batch.proofs.Common.{Contents, Status, Usage, Line, Outcome, Text, PlanOptions, plan, IsPlain, SaysJob, with_cert, Told, usage_line, Stops, refused, lost, IsAnswered, IsTold, PlanDesign, budget_of, Stop, Refused, ReadFault, NoMemory, BuiltJob, LacksMemory, LineComesTo, told_of, StandsFor}
use Rattle.sf_model.specs.declared.design.Design.{Design}
use Rattle.sf_model.specs.Legal.{block_count}
use Rattle.sf_polish.specs.declared.expr.Expr.{Expr}
use Rattle.sf_certificate.specs.declared.cert.Cert.{Cert}
use Rattle.sf_cert_text.specs.Text.{cert_text}
use Rattle.sf_options.specs.declared.command.BoundsChoice.TheVariants.{Standard}
use Rattle.sf_known.specs.Initial.{IsInitialPlan}
use Rattle.sf_known.specs.Known.{IsKnownBy, Knows}
use Rattle.sf_known.proofs.Taken.{as-it-was}
use Rattle.sf_designs.specs.Stores.{Stored}
use Rattle.sf_program.proofs.PlainInput.{design-alone, refused-first}

-- words that mean nothing
pub meaningless : (held : Option Contents) (line : Line) (told : Told) → SaysJob line None → ((told.status ≡ Usage) × (told.text ≡ usage_line)) ⊎ LacksMemory told → LineComesTo held line told
meaningless held line told says ends = (
  says.job,
  says.is_job,
  elim ends [
    | inl h ↦ inl (λ cert v. ([], inl (says.asks cert v, h.0, refl, h.1)))
    | inr h ↦ inr (inr h)
  ],
)

-- a job whose design can't be built
pub stopped : (held : Option Contents) (line : Line) (o : PlanOptions) (stop : Stop) → SaysJob line (Some o) → Stops stop (λ why. PlanDesign held o (Err why)) → LineComesTo held line (told_of stop)
stopped held line o (Refused status text) says why =
    (says.job, says.is_job, inl (λ cert v. ([], inr (plan (with_cert o cert), says.asks cert v, inr (why.0, inr (refused status text.items, refused-first held (with_cert o cert) (refused status text.items) why.1, refl), refl)))))
stopped held line o ReadFault says why =
    (says.job, says.is_job, inr (inl (record { status_is = refl; silent = refl; loses = λ cert v. (plan (with_cert o cert), says.asks cert v, inr (lost, refused-first held (with_cert o cert) lost why, refl)) })))
stopped held line o NoMemory says why = (says.job, says.is_job, inr (inr (refl, refl)))

-- what is stored of a search has the name of its certificate, and nothing of what is printed does
retold : (design : Design) (said : Outcome) (cert : Cert) (expr : Option Expr) (name : Text) (stored : List Stored) (printed : List ℕ)
    → IsTold design 1 [] None said cert expr stored printed → (stored_so : List Stored) × IsTold design 1 name None said cert expr stored_so printed
retold design said cert None name stored printed told = ((name, cert_text cert) ∷ [], (refl, told.1))
retold design said cert (Some expr) name stored printed told = ((name, cert_text cert) ∷ [], (told.0, told.1, told.2, told.3, told.4, refl, told.6))

-- the same of a whole answer
renamed : (design : Design) (budget : ℕ) (name : Text) (status : Status) (stored : List Stored) (printed : List ℕ)
    → IsAnswered Standard design 1 budget None 1 [] None status stored printed → (stored_so : List Stored) × IsAnswered Standard design 1 budget None 1 name None status stored_so printed
renamed design budget name status stored printed a =
    let r = a.reported in
    let told = retold design r.said a.cert a.cert.plan name stored printed r.told in (
      told.0,
      record {
        cert = a.cert;
        searched = a.searched;
        reported = record { floor = r.floor; accepted = r.accepted; said = r.said; ending = r.ending; status_is = r.status_is; told = told.1 };
      },
    )

-- the standard bounds let a design know nothing more
known : (o : PlanOptions) (design : Design) → IsPlain o → Knows o.bounds design design
known o design p = subst (λ b. Knows b design design) (sym p.bounds) refl

-- a plain search begins with no plan
from_nothing : (o : PlanOptions) (design : Design) → IsPlain o → IsInitialPlan o.starts o.bounds design None design None
from_nothing o design p = record {
  walked = None;
  least = None;
  walks = record {
    walked = None;
    starts = record { results = []; many = sym p.starts; walks = λ i d below. absurd (let e = p.starts in omega arith); least = refl };
    floorplan = tt;
    no_dearer = λ q e. absurd (cc);
    no_dearer_begun = λ q e. absurd (cc);
    unimproved = λ z. refl;
    none = λ count begin. refl;
  };
  knows = subst (λ b. IsKnownBy b design None) (sym p.bounds) refl;
  is = refl;
}

-- a job whose design is built
pub built : (held : Option Contents) (line : Line) (o : PlanOptions) (job : BuiltJob) → SaysJob line (Some o) → PlanDesign held o (Ok job.design) → job.nodes ≡ o.nodes → StandsFor held line job
built held line o job says reads nodes = λ told tells. (
  says.job,
  says.is_job,
  inl (λ cert v.
      let design = job.design in
      let p = says.plain in
      let named = renamed design (budget_of job.nodes (block_count design)) cert told.status tells.0 told.text tells.1 in (
        named.0,
        inr (
          plan (with_cert o cert),
          says.asks cert v,
          inl (record {
            read = design;
            begin = None;
            stands = design-alone held (with_cert o cert) p.begin design reads;
            design = design;
            start = None;
            begun = record {
              known = design;
              knows = known o design p;
              routes = as-it-was o.bounds design;
              begun = from_nothing (with_cert o cert) design (record { per_unit = p.per_unit; pl_out = p.pl_out; workers = p.workers; starts = p.starts; begin = p.begin; bounds = p.bounds });
            };
            answered = rw (p.bounds, p.workers, p.per_unit, p.pl_out, sym nodes) named.1;
            no_dearer = tt;
          }),
        ),
      )),
)
