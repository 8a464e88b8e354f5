-- An answer of `plan` says what the headline says.
use Rattle.std.proofs.Common.{◌≡◌, inl, inr, Bool, true, false, ℕ, ◌+◌, ◌*◌, ◌<◌, ◌≤◌, MatchOption, List, length, Option, Some, None, Result, Ok, refl, sym, ap, subst, ◌∙◌, arith}
use Rattle.sf_program.proofs.Common.{BoundsChoice, nat_lt, nat_tests, Contents, Status, Done, NoneFits, Usage, Open, No, BadInput, OverLimit, ReadFault, WriteFault, NoMemory, Block, Design, Spot, block_count, cost, IsFloor, width, height, spots_of, wire, Expr, spells-one, Cert, HasCost, decided, Outcome, Command, GenOptions, Means, PlanOptions, ResumeOptions, gen, plan, resume, meaning_unique, Answers, CommandAnswer, IsAnswer, IsDone, GenRead, cert_name, Refusal, IsRefusal, IsAnswered, IsEnding, IsReported, IsGood, AreMeasures, PlanRead, budget_of, outcome_status, AfterStores, Stored, full, full_open, Report, report_text, HasSearched, IsEnd, IsFinding, IsHeadline, IsHeadlineOn, IsPlanOf, first_line, IsRouted, as-it-was, takes-paths, Paths, HasPaths, Standard}
use Rattle.std.specs.Io.{StartsWith}
use Rattle.std.specs.Io.KnownBytes.{Appends}
use Rattle.sf_model.specs.declared.TheConstants.{MAX}
use Rattle.sf_model.proofs.Bounded.{floor-none}
use Rattle.sf_pl_writer.specs.declared.report.Outcome.TheVariants as word
use Rattle.sf_program.specs.Planned.{IsTold}
use Rattle.sf_program.proofs.Routed.{finding-back, full-same, open-same}

-- the report of a certificate, with what is measured of its plan
abbrev report_of : Outcome → Cert → ℕ × ℕ → ℕ → ℕ → Option Expr → Report
report_of said cert size area wires expr = record { word = said; cost = cert.cost; bound = cert.bound; decided = decided cert.tags; size = size; area = area; wire = wires; plan = expr }

-- its first line is that of the status
begins-with : (said : Outcome) (cert : Cert) (size : ℕ × ℕ) (area wires : ℕ) (expr : Option Expr) → StartsWith (report_text (report_of said cert size area wires expr)) (first_line (outcome_status said))
begins-with word.Optimal cert size area wires expr = refl
begins-with word.NoneFits cert size area wires expr = refl
begins-with word.Open cert size area wires expr = refl

-- what is not at most another number is greater
smaller : (m n : ℕ) (b : Bool) → nat_lt m n ≡ b → (n ≤ m → ⊥) → m < n
smaller m n true t never = grind (arith, nat_tests)
smaller m n false t never = absurd (never (grind (arith, nat_tests)))

-- a bound below the cost shows a budget below the count of all subproblems
unfinished : (budget all : ℕ) (report : Report) → (all ≤ budget → report.bound ≡ report.cost) → report.bound < report.cost → budget < all
unfinished budget all report ended below = smaller budget all (nat_lt budget all) refl (λ large. let e = ended large in omega (arith, below, e))

-- how a search ended, as its status says it
ends-as : (design : Design) (budget all : ℕ) (report : Report) (said : Outcome) → IsFloor design report.bound → (report.bound < report.cost → report.decided ≡ budget) → (all ≤ budget → report.bound ≡ report.cost)
    → IsEnding report.cost report.bound said → IsEnd design budget all report (outcome_status said)
ends-as design budget all report word.Optimal floor spent ended e = (e.0, e.1, λ tree legal fits. subst (λ n. n ≤ cost design tree) e.1 (floor tree legal fits))
ends-as design budget all report word.NoneFits floor spent ended e = (e.1, (floor-none design).0 (subst (IsFloor design) e.1 floor))
ends-as design budget all report word.Open floor spent ended e = (e, spent e, unfinished budget all report ended e)

-- a plan whose cost is stated, and of which these are measured
measured-plan : (design : Design) (cert : Cert) (said : Outcome) (expr : Expr) (spots : List Spot) (w h wires : ℕ) → AreMeasures design expr spots w h wires → HasCost design expr cert.cost
    → IsPlanOf design (report_of said cert (w, h) (w * h) wires (Some expr)) expr
measured-plan design cert said expr spots w h wires m v =
    let same = spells-one expr m.tree v.tree m.spells v.spells in
    let wide = m.wide ∙ ap width same in
    let high = m.high ∙ ap height same in
    record {
      tree = v.tree;
      spells = v.spells;
      legal = v.legal;
      fits = v.fits;
      costs = v.costs;
      size = λ i. (wide i, high i);
      area = λ i. wide i * high i;
      wires = m.wired ∙ ap (λ t. wire design (spots_of t)) same;
    }

-- a report of what was found
abbrev Finds : Design → ℕ → ℕ → Status → List ℕ → Type 0
Finds design budget all status printed = (report : Report) × IsFinding design budget all status report × (printed ≡ report_text report)

module _ (design : Design) (budget all scale : ℕ) (name : List ℕ) (pl : Option (List ℕ)) (said : Outcome) (cert : Cert) (few : decided cert.tags ≤ budget) (spent : cert.bound < cert.cost → decided cert.tags ≡ budget) (ended : all ≤ budget → cert.bound ≡ cert.cost)
    (floor : IsFloor design cert.bound) (ending : IsEnding cert.cost cert.bound said) where
  -- what is told of a certificate is what its report says
  told-finds : (plan : Option Expr) (stored : List Stored) (printed : List ℕ) → MatchOption plan (cert.cost ≡ MAX) (λ expr. HasCost design expr cert.cost) → IsTold design scale name pl said cert plan stored printed
      → Finds design budget all (outcome_status said) printed
  told-finds None stored printed v t =
      let report = report_of said cert (0, 0) 0 0 None in
      (report, record { plan = v; floor = floor; few = few; end = ends-as design budget all report said floor spent ended ending; begins = begins-with said cert (0, 0) 0 0 None }, t.1)
  told-finds (Some expr) stored printed v t =
      let report = report_of said cert (t.1, t.2) (t.1 * t.2) t.3 (Some expr) in
      (report, record { plan = measured-plan design cert said expr t.0 t.1 t.2 t.3 t.4 v; floor = floor; few = few; end = ends-as design budget all report said floor spent ended ending; begins = begins-with said cert (t.1, t.2) (t.1 * t.2) t.3 (Some expr) }, t.6)

-- the report of a valid certificate that keeps its budget says what was found
reported-finds : (bounds : BoundsChoice) (design : Design) (budget all scale : ℕ) (name : List ℕ) (pl : Option (List ℕ)) (cert : Cert) (status : Status) (stored : List Stored) (printed : List ℕ) → IsGood bounds design cert → decided cert.tags ≤ budget
    → (cert.bound < cert.cost → decided cert.tags ≡ budget) → (all ≤ budget → cert.bound ≡ cert.cost) → IsReported bounds design scale name pl cert status stored printed → Finds design budget all status printed
reported-finds bounds design budget all scale name pl cert status stored printed valid few spent ended a =
    subst (λ s. Finds design budget all s printed) (sym a.status_is)
    (told-finds design budget all scale name pl a.said cert few spent ended a.floor a.ending cert.plan stored printed valid.plan a.told)

-- what is refused has searched nothing
no-search : (status : Status) → IsRefusal status → HasSearched status → ⊥
no-search status is h = elim is [ inl e ↦ subst HasSearched e h | inr e ↦ subst HasSearched e h ]

-- what was found of a design with paths was found of the design without them
finds-back : (design : Design) (paths : Paths) (routed : Design) (budget budget_then all all_then : ℕ) (status : Status) (printed : List ℕ) → HasPaths design paths routed → budget ≡ budget_then → all ≡ all_then
    → Finds routed budget all status printed → Finds design budget_then all_then status printed
finds-back design paths routed budget budget_then all all_then status printed h same whole f =
    (f.0, subst (λ n. IsFinding design n all_then status f.0) same (subst (λ n. IsFinding design budget n status f.0) whole (finding-back design paths routed h budget all status f.0 f.1)), f.2)

-- an answered search, with the design that was read or generated
answered-headline : (Stands : Result Design Refusal → Type 0) (nodes : Option ℕ) (taken taken_then : Option (List ℕ)) (status : Status) (bounds : BoundsChoice) (read design : Design) (workers : ℕ) (start : Option (Expr × ℕ)) (scale : ℕ) (name : List ℕ) (pl : Option (List ℕ)) (stored : List Stored) (printed : List ℕ)
    → Stands (Ok read) → IsRouted bounds read design → IsAnswered bounds design workers (budget_of nodes (block_count design)) start scale name pl status stored printed → Appends taken taken_then printed → IsHeadline Stands nodes taken taken_then status
answered-headline Stands nodes taken taken_then status bounds read design workers start scale name pl stored printed stands routes answered prints =
    let s = answered.searched in
    let h = takes-paths bounds read routes.0 design routes.1 in
    let found = reported-finds bounds design (budget_of nodes (block_count design)) (full design) scale name pl answered.cert status stored printed s.valid s.few s.spent s.ended answered.reported in
    let budget = ap (λ (bs : List Block). budget_of nodes (length bs)) h.blocks in
    let back = finds-back read design.routes.paths design (budget_of nodes (block_count design)) (budget_of nodes (block_count read)) (full design) (full read) status printed h budget (full-same read design.routes.paths design h) found in
    record { design = read; stands = stands; report = back.0; finding = back.1; prints = subst (Appends taken taken_then) back.2 prints }

module _ (before : Option Contents) (taken taken_then : Option (List ℕ)) (status : Status) (searched : HasSearched status) where
  -- an answer of `plan` by a status of a search has the headline
  plan-headline : (o : PlanOptions) (stored : List Stored) (printed : List ℕ) → CommandAnswer (plan o) before status stored printed → Appends taken taken_then printed → IsHeadline (PlanRead before o) o.nodes taken taken_then status
  plan-headline o stored printed (inl p) prints =
      answered-headline (PlanRead before o) o.nodes taken taken_then status o.bounds p.begun.known p.design o.workers p.start o.design.per_unit o.cert o.pl_out stored printed (inl ((p.read, p.begin), p.stands, p.begun.knows)) p.begun.routes p.answered prints
  plan-headline o stored printed (inr r) prints = absurd (no-search status r.0 searched)

  -- so has one of `gen`
  gen-headline : (o : GenOptions) (stored : List Stored) (printed : List ℕ) → CommandAnswer (gen o) before status stored printed → Appends taken taken_then printed → IsHeadline (GenRead o) o.nodes taken taken_then status
  gen-headline o stored printed (inl p) prints =
      answered-headline (GenRead o) o.nodes taken taken_then status Standard p.design p.design 1 None 1 (cert_name o) None p.searched printed p.made (as-it-was Standard p.design) p.answered prints
  gen-headline o stored printed (inr r) prints = absurd (no-search status r.0 searched)

  -- so has one of `resume`, which is an answer of a search where the certificate is valid
  resume-headline : (o : ResumeOptions) (stored : List Stored) (printed : List ℕ) → CommandAnswer (resume o) before status stored printed → Appends taken taken_then printed → IsHeadlineOn o before taken taken_then status
  resume-headline o stored printed (inl p) prints = elim p.taken_up [
    | inl r ↦ absurd (subst HasSearched r.status_is searched)
    | inr w ↦ (let g = w.gone_on in
        let s = g.searched in
        let old = p.cert in
        let design = p.design in
        let routed = w.routed in
        let h = takes-paths o.bounds design old.paths routed w.takes in
        let budget = decided old.tags + o.nodes in
        let found = reported-finds o.bounds routed budget (decided old.tags + full_open routed old) o.design.per_unit o.cert_out o.pl_out g.cert status stored printed s.valid s.few s.spent (λ large. s.ended (omega (arith, large))) g.reported in
        let back = finds-back design routed.routes.paths routed budget budget (decided old.tags + full_open routed old) (decided old.tags + full_open design old) status printed h refl (ap (λ n. decided old.tags + n) (open-same design routed.routes.paths routed h old)) found in
        record { design = design; old = old; stands = p.reads; good = (routed, w.takes, g.good); report = back.0; finding = back.1; prints = subst (Appends taken taken_then) back.2 prints })
  ]
  resume-headline o stored printed (inr r) prints = absurd (no-search status r.0 searched)

-- the answer of a run that is done, where its words mean this command
module _ (words : List (List ℕ)) (before after taken taken_then : _) (status : Status) (done : IsDone words before after taken taken_then status) (searched : HasSearched status) where
  -- the answer is one of the command that the words mean
  answer-to : (command : Command) → Means words command → CommandAnswer command before status done.stored done.printed
  answer-to command means =
      elim done.answer [
        | inl u ↦ absurd (subst HasSearched u.1 searched)
        | inr m ↦ subst (λ c. CommandAnswer c before status done.stored done.printed) (meaning_unique words m.0 command m.1 means) m.2
      ]

  -- what was done for words of `plan`, by a status of a search, has the headline
  pub planned-headline : (o : PlanOptions) → Means words (plan o) → IsHeadline (PlanRead before o) o.nodes taken taken_then status
  planned-headline o means = plan-headline before taken taken_then status searched o done.stored done.printed (answer-to (plan o) means) done.prints

  -- what was done for words of `gen`, by a status of a search, has the headline
  pub generated-headline : (o : GenOptions) → Means words (gen o) → IsHeadline (GenRead o) o.nodes taken taken_then status
  generated-headline o means = gen-headline before taken taken_then status searched o done.stored done.printed (answer-to (gen o) means) done.prints

  -- what was done for words of `resume`, by a status of a search, has the headline
  pub resumed-headline : (o : ResumeOptions) → Means words (resume o) → IsHeadlineOn o before taken taken_then status
  resumed-headline o means = resume-headline before taken taken_then status searched o done.stored done.printed (answer-to (resume o) means) done.prints

-- what was stored and printed of an answer is done, where reading has left the shelf as it was
pub done-of : (words : List (List ℕ)) (before held after taken taken_then : _) (status result : Status) (stored : List Stored) (printed : List ℕ)
    → held ≡ before → Answers words before status stored printed → (result ≡ status) × AfterStores held stored after × Appends taken taken_then printed → IsDone words before after taken taken_then result
done-of words before held after taken taken_then status result stored printed same answer done = record {
  stored = stored;
  printed = printed;
  answer = subst (λ s. Answers words before s stored printed) (sym done.0) answer;
  stores = subst (λ h. AfterStores h stored after) same done.1;
  prints = done.2;
}

-- the statuses of a search are answers
pub searched-answer : (status : Status) → HasSearched status → IsAnswer status
searched-answer Done h = tt
searched-answer NoneFits h = tt
searched-answer Open h = tt
searched-answer Usage h = absurd h
searched-answer No h = absurd h
searched-answer BadInput h = absurd h
searched-answer OverLimit h = absurd h
searched-answer ReadFault h = absurd h
searched-answer WriteFault h = absurd h
searched-answer NoMemory h = absurd h
