-- A search by one worker has one answer, where its certificate is the only one.
use Rattle.std.proofs.Common.{◌≡◌, inl, ℕ, ◌*◌, Bool, false, List, [], ◌∷◌, ◌++◌, length, Option, Some, None, Ok, Err, refl, sym, ap, subst, ◌∙◌, arith}
use Rattle.sf_generated.specs.Made.{DesignGenerated, by_default, both_weights, parts_made, texts_stored}
use Rattle.sf_program.proofs.Common.{Beginning, Contents, Design, Spot, block_count, Tree, width, height, spots_of, wire, Expr, spells-one, by_number, Cert, decided, cert_text, Outcome, GenOptions, PlanOptions, GenRead, IsGenerated, cert_name, Answer, AtMostOne, GivesOne, BudgetTested, IsAnswered, IsEnding, AreMeasures, IsPlanned, IsReported, IsSearched, PlanRead, budget_of, outcome_status, placement_stores, Stored, alike, BoundsChoice, Standard, Strong, Pair, Fit, Both, IsRouted, report_text}
use Rattle.sf_known.specs.Known.{IsKnownBy, cheaper}
use Rattle.sf_known.specs.Initial.{IsInitialPlan}
use Rattle.sf_pl_writer.specs.declared.report.Outcome.TheVariants as word
use Rattle.sf_program.specs.Planned.{IsTold}
use Rattle.sf_program.proofs.Once.{once, then-one, same-value}
use Rattle.sf_program.proofs.OneKnown.{plan-one}
use Rattle.sf_program.proofs.PlainInput.{nothing-beside}
use Rattle.sf_program.proofs.OneDesign.{count-one, made-one}

-- a cost and a bound have one ending
ending-one : (cost bound : ℕ) (s t : Outcome) → IsEnding cost bound s → IsEnding cost bound t → s ≡ t
ending-one cost bound word.Optimal word.Optimal p q = refl
ending-one cost bound word.Optimal word.NoneFits p q = let low = p.0 in let most = q.0 in absurd (omega arith)
ending-one cost bound word.Optimal word.Open p q = let closed = p.1 in absurd (omega arith)
ending-one cost bound word.NoneFits word.Optimal p q = let low = q.0 in let most = p.0 in absurd (omega arith)
ending-one cost bound word.NoneFits word.NoneFits p q = refl
ending-one cost bound word.NoneFits word.Open p q = let most = p.0 in let high = p.1 in absurd (omega arith)
ending-one cost bound word.Open word.Optimal p q = let closed = q.1 in absurd (omega arith)
ending-one cost bound word.Open word.NoneFits p q = let most = q.0 in let high = q.1 in absurd (omega arith)
ending-one cost bound word.Open word.Open p q = refl

-- what is measured of a tree
abbrev Measures : Type 0
Measures = List Spot × ℕ × ℕ × ℕ

-- spots by number, width, height and wire of a tree
abbrev measures_of : Design → Tree → Measures
measures_of design tree = (by_number (block_count design) (spots_of tree), width tree, height tree, wire design (spots_of tree))

-- what is told of an expression is measured of its tree
measures-are : (design : Design) (expr : Expr) (spots : List Spot) (w h wires : ℕ) (m : AreMeasures design expr spots w h wires) → (let found : Measures = (spots, w, h, wires) in found) ≡ measures_of design m.tree
measures-are design expr spots w h wires m = λ i. (m.spots_are i, m.wide i, m.high i, m.wired i)

module _ (design : Design) (scale : ℕ) (name : List ℕ) (pl : Option (List ℕ)) (said : Outcome) (cert : Cert) where
  -- what is stored of a certificate and of what is measured
  stored_of : Measures → List Stored
  stored_of m = (name, cert_text cert) ∷ placement_stores design scale pl m.0

  -- and what is printed
  printed_of : Expr → Measures → List ℕ
  printed_of expr m = report_text (record { word = said; cost = cert.cost; bound = cert.bound; decided = decided cert.tags; size = (m.1, m.2); area = m.1 * m.2; wire = m.3; plan = Some expr })

  -- what is told of a certificate is one
  told-one : (plan : Option Expr) (ss ts : List Stored) (xs ys : List ℕ) → IsTold design scale name pl said cert plan ss xs → IsTold design scale name pl said cert plan ts ys → (ss ≡ ts) × (xs ≡ ys)
  unfolding stored_of printed_of
  told-one None ss ts xs ys p q = (p.0 ∙ sym q.0, p.1 ∙ sym q.1)
  told-one (Some expr) ss ts xs ys p q =
      let a = p.4 in
      let b = q.4 in
      let tree = spells-one expr a.tree b.tree a.spells b.spells in
      let same = measures-are design expr p.0 p.1 p.2 p.3 a ∙ ap (measures_of design) tree ∙ sym (measures-are design expr q.0 q.1 q.2 q.3 b) in
      (p.5 ∙ ap stored_of same ∙ sym q.5, p.6 ∙ ap (printed_of expr) same ∙ sym q.6)

-- the design of generated texts
generated-design : (o : GenOptions) → AtMostOne (DesignGenerated o)
generated-design o (Ok d) (Ok e) p q = made-one by_default both_weights (alike (parts_made o)) (Ok d) (Ok e) p.1 q.1
generated-design o (Ok d) (Err w) p q = absurd q
generated-design o (Err v) s p q = absurd p

-- `gen` makes one design, or refuses for one reason
pub gen-one : (any : Bool) (o : GenOptions) → GivesOne any (GenRead o)
gen-one any o =
    then-one (BudgetTested false o.nodes o.count) (λ budget. DesignGenerated o) (once (BudgetTested false o.nodes o.count) (count-one false (budget_of o.nodes o.count) o.count)) (λ budget. once (DesignGenerated o) (generated-design o))

-- none is known by other bounds than the strong ones
none-known : (bounds : BoundsChoice) (design : Design) (known : Option (Expr × ℕ)) → (bounds ≡ Strong → ⊥) → IsKnownBy bounds design known → known ≡ None
none-known Standard design known plain h = h
none-known Strong design known plain h = absurd (plain refl)
none-known Pair design known plain h = h
none-known Fit design known plain h = h
none-known Both design known plain h = h

-- and it has no paths but its own
plain-routes : (bounds : BoundsChoice) (design routed : Design) → (bounds ≡ Strong → ⊥) → IsRouted bounds design routed → routed ≡ design
plain-routes Standard design routed plain h = h.1
plain-routes Strong design routed plain h = absurd (plain refl)
plain-routes Pair design routed plain h = h.1
plain-routes Fit design routed plain h = h.1
plain-routes Both design routed plain h = h.1

-- a search that asks for neither, and to which no placement is given, begins with no plan
none-first : (o : PlanOptions) (design : Design) (begin : Option Beginning) (known : Design) (start : Option (Expr × ℕ)) → o.starts.count ≡ 0 → (o.bounds ≡ Strong → ⊥) → begin ≡ None → IsInitialPlan o.starts o.bounds design begin known start → start ≡ None
none-first o design begin known start bare plain alone b =
    let walked = b.walks.none bare alone in
    let least = none-known o.bounds known b.least plain b.knows in
    b.is ∙ ap (λ w. cheaper w b.least) walked ∙ least

-- only one certificate is that of a search by one worker that begins with no plan
abbrev pub HasOneCert : Type 0
HasOneCert = (bounds : BoundsChoice) (design : Design) (budget : ℕ) → AtMostOne (IsSearched bounds design 1 budget None)

module _ (certs : HasOneCert) where
  -- the answers of a search by one worker are one
  pub answered-one : (bounds : BoundsChoice) (design : Design) (budget scale : ℕ) (name : List ℕ) (pl : Option (List ℕ)) (a b : Answer)
      → IsAnswered bounds design 1 budget None scale name pl a.0 a.1 a.2 → IsAnswered bounds design 1 budget None scale name pl b.0 b.1 b.2 → (a.0 ≡ b.0) × (a.1 ≡ b.1) × (a.2 ≡ b.2)
  answered-one bounds design budget scale name pl a b p q =
      let cert = certs bounds design budget p.cert q.cert p.searched q.searched in
      let r = subst (λ (c : Cert). IsReported bounds design scale name pl c a.0 a.1 a.2) cert p.reported in
      let s = q.reported in
      let said = ending-one q.cert.cost q.cert.bound r.said s.said r.ending s.ending in
      let told = subst (λ (w : Outcome). IsTold design scale name pl w q.cert q.cert.plan a.1 a.2) said r.told in
      let both = told-one design scale name pl s.said q.cert q.cert.plan a.1 b.1 a.2 b.2 told s.told in
      (r.status_is ∙ ap outcome_status said ∙ sym s.status_is, both.0, both.1)

  -- so are those of `plan`
  pub planned-one : (contents : Contents) (o : PlanOptions) → o.workers ≡ 1 → o.starts.count ≡ 0 → (o.bounds ≡ Strong → ⊥) → o.begin ≡ None → (a b : Answer) → IsPlanned o (Some contents) a.0 a.1 a.2 → IsPlanned o (Some contents) b.0 b.1 b.2 → (a.0 ≡ b.0) × (a.1 ≡ b.1) × (a.2 ≡ b.2)
  planned-one contents o single bare plain none a b p q =
      let known = same-value (PlanRead (Some contents) o) (plan-one contents o) p.begun.known q.begun.known (inl ((p.read, p.begin), p.stands, p.begun.knows)) (inl ((q.read, q.begin), q.stands, q.begun.knows)) in
      let design = plain-routes o.bounds p.begun.known p.design plain p.begun.routes ∙ known ∙ sym (plain-routes o.bounds q.begun.known q.design plain q.begun.routes) in
      let By : ℕ → Option (Expr × ℕ) → Design → Answer → Type 0 = λ n s d x. IsAnswered o.bounds d n (budget_of o.nodes (block_count d)) s o.design.per_unit o.cert o.pl_out x.0 x.1 x.2 in
      let first = none-first o p.read p.begin p.begun.known p.start bare plain (nothing-beside (Some contents) o none (p.read, p.begin) p.stands) p.begun.begun in
      let second = none-first o q.read q.begin q.begun.known q.start bare plain (nothing-beside (Some contents) o none (q.read, q.begin) q.stands) q.begun.begun in
      answered-one o.bounds q.design (budget_of o.nodes (block_count q.design)) o.design.per_unit o.cert o.pl_out a b
      (subst (λ n. By n None q.design a) single (subst (λ (d : Design). By o.workers None d a) design (subst (λ s. By o.workers s p.design a) first p.answered)))
      (subst (λ n. By n None q.design b) single (subst (λ s. By o.workers s q.design b) second q.answered))

  -- and those of `gen`
  pub generated-one : (o : GenOptions) (a b : Answer) → IsGenerated o a.0 a.1 a.2 → IsGenerated o b.0 b.1 b.2 → (a.0 ≡ b.0) × (a.1 ≡ b.1) × (a.2 ≡ b.2)
  generated-one o a b p q =
      let design = same-value (GenRead o) (gen-one false o) p.design q.design p.made q.made in
      let answered = subst (λ (d : Design). IsAnswered Standard d 1 (budget_of o.nodes (block_count d)) None 1 (cert_name o) None a.0 p.searched a.2) design p.answered in
      let same = answered-one Standard q.design (budget_of o.nodes (block_count q.design)) 1 (cert_name o) None (a.0, p.searched, a.2) (b.0, q.searched, b.2) answered q.answered in
      (same.0, p.stored_is ∙ ap (λ (ss : List Stored). texts_stored o ++ ss) same.1 ∙ sym q.stored_is, same.2)
