-- The commands that search nothing have one answer each.
use Rattle.std.proofs.Common.{◌≡◌, inl, inr, ℕ, ◌+◌, suc, List, [], ◌∷◌, ◌++◌, map, length, Option, Some, None, Result, Ok, Err, refl, sym, ap, subst, ◌∙◌, arith}
use Rattle.sf_program.proofs.Common.{Bool, codes, flat_map, range_with_len, Contents, Design, Block, Spot, block_count, root, IsRootCurve, ◌>>=◌, Place, IsByNumber, IsVerdict, BoundsChoice, chosen_part, Cert, cert_text, AreTrees, CheckOptions, MeasureOptions, ShapeOptions, CertRead, CheckRead, IsChecked, IsJudged, IsRenamed, IsRewritten, JudgedFile, answer_status, answer_text, cert_limit, cert_refusal, IsMeasured, MeasureRead, SpotsPlaced, SpotsRead, lines_named, sized_spot, spot_said, spots_said, verdict_status, verdict_text, Answer, AtMostOne, GivesOne, Refusal, DesignRead, KnownRead, Judged, PlacesRead, Said, TextRead, TextWithin, With, Stored, IsCurveText, IsLeast, IsShaped, ShapeRead, TokensRead, areas_alone, expr_refusal, least_line, point_line, Shape, SpellsTokens, AllNameFirst, unnamed, cert_read, takes-one, IsChosenAnswer, IsGoodWithPaths}
use Rattle.sf_polish.specs.declared.expr.Token.{Token}
use Rattle.sf_expr_text.specs.Reading.{tokens_read}
use Rattle.sf_expr_text.proofs.TextLaws.{spelled-tokens}
use Rattle.sf_curves.proofs.OneTrace.{one-curve, one-least}
use Rattle.sf_place.proofs.OneVerdict.{one-verdict}
use Rattle.sf_certificate.specs.declared.tag.Tag.{Tag}
use Rattle.sf_certificate.specs.Said.{Said as CertSaid, said_by}
use Rattle.sf_certificate.proofs.OneCert.{same-cert}
use Rattle.sf_checker.specs.declared.answer.Answer.{Answer as Checked}
use Rattle.sf_checker.specs.declared.answer.Answer.TheVariants.{Yes, No}
use Rattle.sf_program.proofs.ByChoice.{chosen-one, yes-good}
use Rattle.sf_program.proofs.Once.{once, then-one, said-one, judged-one, text-one, within-one, with-one, same-value}
use Rattle.sf_program.proofs.OneKnown.{known-one}
use Rattle.sf_program.proofs.PlacedSpots.{spots-one, spots-stand}
use Rattle.sf_program.proofs.OneDesign.{design-one}

-- ---- check

-- the text under a name says one certificate, or has one fault
pub cert-one : (is_long : Bool) (contents : Contents) (name : List ℕ) (blocks : ℕ) → GivesOne contents.may_fail (CertRead is_long (Some contents) name blocks)
cert-one is_long contents name blocks =
    then-one (TextWithin (cert_limit is_long) (Some contents) name) (λ text. Judged (cert_read blocks text) cert_refusal) (within-one (cert_limit is_long) contents name) (λ text. once (Judged (cert_read blocks text) cert_refusal) (judged-one (cert_read blocks text) cert_refusal))

-- so the design and the certificate that are read are one
pub check-read-one : (contents : Contents) (o : CheckOptions) → GivesOne contents.may_fail (CheckRead (Some contents) o)
check-read-one contents o =
    then-one (KnownRead (Some contents) o.design o.weights o.bounds) (λ design. CertRead o.is_long (Some contents) o.cert (block_count design)) (known-one contents o.design o.weights o.bounds) (λ design. cert-one o.is_long contents o.cert (block_count design))

-- certificates of which a text says the same are one
pub said-cert : (c d : Cert) → said_by c ≡ said_by d → c ≡ d
said-cert c d e = same-cert c d (ap (λ (s : CertSaid). s.blocks) e) (ap (λ (s : CertSaid). s.plan) e) (ap (λ (s : CertSaid). s.cost) e) (ap (λ (s : CertSaid). s.bound) e) (ap (λ (s : CertSaid). s.paths) e) (ap (λ (s : CertSaid). s.tags) e)

-- a valid certificate is renamed in one way
abbrev pub HasOneName : Type 0
HasOneName = (bounds : BoundsChoice) (design : Design) (old : Cert) → IsGoodWithPaths bounds design old → AtMostOne (IsRenamed bounds design old)

-- the laws of trees by which it is so: the full values close what any part closes, and the first parts follow from the tree
abbrev pub FullClose : Type 0
FullClose = (bounds : BoundsChoice) (design : Design) (tags : List Tag) (cost : ℕ) → AreTrees (chosen_part bounds design) cost (root design ∷ []) tags → AreTrees (chosen_part bounds design) cost (root design ∷ []) (map unnamed tags)

-- two lists of tags with the same tree, which both name the first parts, are one
abbrev pub FirstAreOne : Type 0
FirstAreOne = (bounds : BoundsChoice) (design : Design) (cost : ℕ) (first second : List Tag) → AreTrees (chosen_part bounds design) cost (root design ∷ []) (map unnamed first) → map unnamed first ≡ map unnamed second
    → AllNameFirst design (chosen_part bounds design) cost first → AllNameFirst design (chosen_part bounds design) cost second → first ≡ second

-- by both laws a valid certificate is renamed in one way
pub one-name : FullClose → FirstAreOne → HasOneName
one-name close ones bounds design old good c d p q =
    let routed = good.0 in
    let same : (x : Cert) (h : IsRenamed bounds design old x) → h.routed ≡ routed = λ x h. takes-one bounds design old.paths h.routed routed h.takes good.1 in
    let first : (x : Cert) (h : IsRenamed bounds design old x) → AllNameFirst routed (chosen_part bounds routed) x.cost x.tags = λ x h. subst (λ (e : Design). AllNameFirst e (chosen_part bounds e) x.cost x.tags) (same x h) h.named in
    let named : (x : Cert) → IsRenamed bounds design old x → AllNameFirst routed (chosen_part bounds routed) old.cost x.tags = λ x h. subst (λ z. AllNameFirst routed (chosen_part bounds routed) z x.tags) h.alike.cost (first x h) in
    let trees = subst (AreTrees (chosen_part bounds routed) old.cost (root routed ∷ [])) (sym p.alike.tags) (close bounds routed old.tags old.cost good.2.tree) in
    let tags = ones bounds routed old.cost c.tags d.tags trees (p.alike.tags ∙ sym q.alike.tags) (named c p) (named d q) in
    same-cert c d (p.alike.blocks ∙ sym q.alike.blocks) (p.alike.plan ∙ sym q.alike.plan) (p.alike.cost ∙ sym q.alike.cost) (p.alike.bound ∙ sym q.alike.bound) (p.alike.paths ∙ sym q.alike.paths) tags

module _ (names : HasOneName) (bounds : BoundsChoice) (design : Design) (cert : Cert) where
  -- what is stored of a certificate with one answer is one
  rewritten-one : (rewrite : Option (List ℕ)) (answer : Checked) (ss ts : List Stored) → IsChosenAnswer bounds design cert answer
      → IsRewritten bounds design cert rewrite answer ss → IsRewritten bounds design cert rewrite answer ts → ss ≡ ts
  rewritten-one None answer ss ts right p q = p ∙ sym q
  rewritten-one (Some name) (No why) ss ts right p q = p ∙ sym q
  rewritten-one (Some name) (Yes cost bound decided) ss ts right p q =
      let same = names bounds design cert (yes-good bounds design cert (Yes cost bound decided) refl right) p.0 q.0 p.1 q.1 in
      p.2 ∙ ap (λ (c : Cert). let all : List Stored = (name, cert_text c) ∷ [] in all) same ∙ sym q.2

  -- what is told and stored of a certificate is one
  judged-one-way : (rewrite : Option (List ℕ)) (a b : Answer) → IsJudged bounds design cert rewrite a.0 a.1 a.2 → IsJudged bounds design cert rewrite b.0 b.1 b.2 → (a.0 ≡ b.0) × (a.1 ≡ b.1) × (a.2 ≡ b.2)
  judged-one-way rewrite a b p q =
      let answer = chosen-one bounds design cert p.answer q.answer p.answered q.answered in
      let stored = subst (λ (x : Checked). IsRewritten bounds design cert rewrite x a.1) answer p.rewritten in
      (p.status_is ∙ ap answer_status answer ∙ sym q.status_is, rewritten-one rewrite q.answer a.1 b.1 q.answered stored q.rewritten, p.prints ∙ ap answer_text answer ∙ sym q.prints)

module _ (contents : Contents) (o : CheckOptions) where
  -- so is what is told and stored of the certificate under a name
  file-one : HasOneName → (design : Design) (a b : Answer) → JudgedFile o.bounds o.is_long (Some contents) o.cert design o.rewrite a.0 a.1 a.2 → JudgedFile o.bounds o.is_long (Some contents) o.cert design o.rewrite b.0 b.1 b.2
      → (a.0 ≡ b.0) × (a.1 ≡ b.1) × (a.2 ≡ b.2)
  file-one names design a b p q =
      let same = said-cert p.cert q.cert (same-value (CertRead o.is_long (Some contents) o.cert (block_count design)) (cert-one o.is_long contents o.cert (block_count design)) (said_by p.cert) (said_by q.cert) p.reads q.reads) in
      judged-one-way names o.bounds design q.cert o.rewrite a b (subst (λ (c : Cert). IsJudged o.bounds design c o.rewrite a.0 a.1 a.2) same p.judged) q.judged

  -- the answers of `check` are one
  pub checked-one : HasOneName → (a b : Answer) → IsChecked o (Some contents) a.0 a.1 a.2 → IsChecked o (Some contents) b.0 b.1 b.2 → (a.0 ≡ b.0) × (a.1 ≡ b.1) × (a.2 ≡ b.2)
  checked-one names a b p q =
      let design = same-value (KnownRead (Some contents) o.design o.weights o.bounds) (known-one contents o.design o.weights o.bounds) p.design q.design p.reads q.reads in
      file-one names q.design a b (subst (λ (d : Design). JudgedFile o.bounds o.is_long (Some contents) o.cert d o.rewrite a.0 a.1 a.2) design p.file) q.file

  -- what is checked was read
  pub checked-reads : (a : Answer) → IsChecked o (Some contents) a.0 a.1 a.2 → (said : CertSaid) × CheckRead (Some contents) o (Ok said)
  checked-reads a p = (said_by p.file.cert, inl (p.design, p.reads, p.file.reads))

-- ---- measure

-- so the design and the spots that are read are one
pub measure-read-one : (contents : Contents) (o : MeasureOptions) → GivesOne contents.may_fail (MeasureRead (Some contents) o)
measure-read-one contents o =
    then-one (DesignRead (Some contents) o.design o.weights) (With (SpotsRead (Some contents) o.design.per_unit o.placed)) (design-one contents o.design o.weights) (λ design. with-one (SpotsRead (Some contents) o.design.per_unit o.placed) design (spots-one contents o.design.per_unit o.placed design))

module _ (contents : Contents) (o : MeasureOptions) where
  -- the spots that are read beside a design are read for it
  spots-read : (design : Design) (spots : List Spot) → MeasureRead (Some contents) o (Ok (design, spots)) → SpotsRead (Some contents) o.design.per_unit o.placed design (Ok spots)
  spots-read design spots read =
      elim read [
        | inl m ↦ subst (λ (d : Design). SpotsRead (Some contents) o.design.per_unit o.placed d (Ok spots)) (sym m.2.0) m.2.1
        | inr m ↦ (let e = m.2 in absurd (cc))
      ]

  -- the answers of `measure` are one
  pub measured-one : (a b : Answer) → IsMeasured o (Some contents) a.0 a.2 → IsMeasured o (Some contents) b.0 b.2 → (a.0 ≡ b.0) × (a.2 ≡ b.2)
  measured-one a b p q =
      let both = same-value (MeasureRead (Some contents) o) (measure-read-one contents o) (p.design, p.spots) (q.design, q.spots) p.reads q.reads in
      let design : p.design ≡ q.design = ap (λ (x : Design × List Spot). x.0) both in
      let spots : p.spots ≡ q.spots = ap (λ (x : Design × List Spot). x.1) both in
      let judged = subst (λ (ss : List Spot). IsVerdict q.design ss p.verdict) spots (subst (λ (d : Design). IsVerdict d p.spots p.verdict) design p.judged) in
      let verdict = one-verdict q.design q.spots (spots-stand contents o.design.per_unit o.placed q.design q.spots (spots-read q.design q.spots q.reads)).0 p.verdict q.verdict judged q.judged in (
        p.status_is ∙ ap verdict_status verdict ∙ sym q.status_is,
        p.text_is ∙ ap (λ (d : Design). verdict_text d p.spots p.verdict) design ∙ ap (λ (ss : List Spot). verdict_text q.design ss p.verdict) spots ∙ ap (verdict_text q.design q.spots) verdict ∙ sym q.text_is,
      )

  -- what is measured was read
  pub measured-reads : (a : Answer) → IsMeasured o (Some contents) a.0 a.2 → (read : Design × List Spot) × MeasureRead (Some contents) o (Ok read)
  measured-reads a p = ((p.design, p.spots), p.reads)

-- ---- shape

-- the text under a name spells one list of tokens, or has one fault
tokens-one : (contents : Contents) (name : List ℕ) (design : Design) → GivesOne contents.may_fail (TokensRead (Some contents) name (block_count design))
tokens-one contents name design =
    let blocks = block_count design in
    then-one (TextRead (Some contents) name) (λ text. Said (SpellsTokens blocks text) (tokens_read blocks text) expr_refusal) (text-one contents name)
    (λ text. once (Said (SpellsTokens blocks text) (tokens_read blocks text) expr_refusal) (said-one (SpellsTokens blocks text) (tokens_read blocks text) expr_refusal (λ tokens s. spelled-tokens blocks (omega (arith, design.limits.few_blocks)) text tokens s)))

-- so the design and the tokens that are read are one
pub shape-read-one : (contents : Contents) (o : ShapeOptions) → GivesOne contents.may_fail (ShapeRead (Some contents) o)
shape-read-one contents o =
    let Tokens : Design → Result (List Token) Refusal → Type 0 = λ design. TokensRead (Some contents) o.expr (block_count design) in
    then-one (DesignRead (Some contents) o.design areas_alone) (With Tokens) (design-one contents o.design areas_alone) (λ design. with-one Tokens design (tokens-one contents o.expr design))

module _ (design : Design) (tokens : List Token) (points : List Shape) (curve : IsRootCurve design tokens (root design).spans points) where
  -- a curve without points has no least area
  no-least : (y : Shape) → points ≡ [] → IsLeast points (Some y) → ⊥
  no-least y e least = let low = least.found.1 in let n : length points ≡ 0 = ap length e in omega arith

  -- the point of least area is one
  least-one : (a b : Option Shape) → IsLeast points a → IsLeast points b → a ≡ b
  least-one None None p q = refl
  least-one None (Some y) p q = absurd (no-least y p q)
  least-one (Some x) None p q = absurd (no-least x q p)
  least-one (Some x) (Some y) p q = ap Some (one-least design tokens (root design).spans points x y curve p q)

  -- so a curve has one text
  text-is-one : (s t : List ℕ) → IsCurveText points s → IsCurveText points t → s ≡ t
  text-is-one s t a b = a.2 ∙ ap (λ (l : Option Shape). flat_map point_line points ++ least_line l) (least-one a.0 b.0 a.1 b.1) ∙ sym b.2

module _ (contents : Contents) (o : ShapeOptions) where
  -- and so has an expression over a design
  same-shaped : (design : Design) (tokens : List Token) (ps qs : List Shape) (s t : List ℕ) → IsRootCurve design tokens (root design).spans ps → IsRootCurve design tokens (root design).spans qs → IsCurveText ps s → IsCurveText qs t → s ≡ t
  same-shaped design tokens ps qs s t c d a b =
      let same = one-curve design tokens (root design).spans ps qs c d in
      text-is-one design tokens qs d s t (subst (λ (xs : List Shape). IsCurveText xs s) same a) b

  -- the answers of `shape` are one
  pub shaped-one : (a b : Answer) → IsShaped o (Some contents) a.0 a.2 → IsShaped o (Some contents) b.0 b.2 → (a.0 ≡ b.0) × (a.2 ≡ b.2)
  shaped-one a b p q =
      let both = same-value (ShapeRead (Some contents) o) (shape-read-one contents o) (p.design, p.tokens) (q.design, q.tokens) p.reads q.reads in
      let design : p.design ≡ q.design = ap (λ (x : Design × List Token). x.0) both in
      let tokens : p.tokens ≡ q.tokens = ap (λ (x : Design × List Token). x.1) both in
      let curve = subst (λ (ts : List Token). IsRootCurve q.design ts (root q.design).spans p.points) tokens (subst (λ (d : Design). IsRootCurve d p.tokens (root d).spans p.points) design p.curve) in
      (p.status_is ∙ sym q.status_is, same-shaped q.design q.tokens p.points q.points a.2 b.2 curve q.curve p.text_is q.text_is)

  -- what `shape` tells was read
  pub shaped-reads : (a : Answer) → IsShaped o (Some contents) a.0 a.2 → (read : Design × List Token) × ShapeRead (Some contents) o (Ok read)
  shaped-reads a p = ((p.design, p.tokens), p.reads)
