-- A list of words has at most one meaning.
use Rattle.std.proofs.Common.{◌≡◌, ℕ, List, Bool, Option, Some, None, MatchOption, codes, length, ◌+◌, ◌==◌, refl, sym, ap, subst, ◌∙◌, if◌then◌else◌, slice_index_or}
use Rattle.sf_words.proofs.Common.{Mode, Key, PerUnit, Shapes, Outline, AreaWeight, WireWeight, Workers, Starts, Moves, StartSeed, Seed, Count, Text, Token, HasForm, Values, value_in, Input, gsrc, yal, InputSays, DesignOptions, DesignSays, WeightOptions, WeightsSay, StartOptions, StartsSay, BoundsSay, bounds_text, PlanOptions, PlanSays, CheckOptions, CheckSays, ResumeOptions, ResumeSays, MeasureOptions, MeasureSays, ShapeOptions, ShapeSays, KindsSay, GenOptions, GenSays, Command, plan, check, resume, measure, shape, gen, mode_of, Says, Means, IsWithin, SaysNumber, SaysIfGiven, SaysNodes, range, nodes_range}
use Rattle.sf_options.specs.declared.command.BoundsChoice.{BoundsChoice}
use Rattle.sf_options.specs.declared.command.BoundsChoice.TheVariants.{Standard, Strong, Pair, Fit, Both}
use Rattle.sf_options.specs.declared.command.Kinds.{Kinds}
use Rattle.sf_options.specs.declared.command.Kinds.TheVariants.{Hard, Mixed}
use Rattle.sf_words.specs.Outline.{OutlineSays}
use Rattle.sf_words.proofs.Texts.{mode_text-injective}
use Rattle.sf_words.proofs.Tokens.{options_unique, heads_same, tails_same}

-- a text is at most one number of a range
within_unique : (range : Option (ℕ × ℕ)) (text : Text) (m n : ℕ) → MatchOption range ⊥ (IsWithin text m) → MatchOption range ⊥ (IsWithin text n) → m ≡ n
within_unique None text m n g h = absurd h
within_unique (Some range) text m n g h = cc (g.value, h.value)

-- an option says at most one number
pub number_unique : (key : Key) (text : Option Text) (m n : ℕ) → SaysNumber key text m → SaysNumber key text n → m ≡ n
number_unique key None m n g h = cc
number_unique key (Some text) m n g h = within_unique (range key) text m n g h

-- an option without a default says at most one number, and never both one and none
given_unique : (a b : ℕ × ℕ) (text : Option Text) (m n : Option ℕ) → a ≡ b → SaysIfGiven a text m → SaysIfGiven b text n → m ≡ n
given_unique a b None None None e g h = refl
given_unique a b (Some text) (Some m) (Some n) e g h = cc (e, g.value, h.value)
given_unique a b None None (Some n) e g h = absurd h
given_unique a b None (Some m) n e g h = absurd g
given_unique a b (Some text) None n e g h = absurd g
given_unique a b (Some text) (Some m) None e g h = absurd h

-- the budget's option says at most one number
pub nodes_unique : (a b : Bool) (text : Option Text) (m n : Option ℕ) → a ≡ b → SaysNodes a text m → SaysNodes b text n → m ≡ n
nodes_unique a b text m n e g h = given_unique _ _ text m n (ap nodes_range e) g h

-- an option has at most one text
texts_same : (r : Option Text) (x y : Text) → r ≡ Some x → r ≡ Some y → x ≡ y
texts_same r x y g h = cc

-- the options say at most one set of files that tell a design
input_unique : (v : Values) (a b : Input) → InputSays v a → InputSays v b → a ≡ b
input_unique v (gsrc blocks nets pl) (gsrc blocks' nets' pl') g h =
    let first = texts_same _ _ _ g.1 h.1 in let second = sym g.2 ∙ h.2 in let third = sym g.3 ∙ h.3 in cc
input_unique v (gsrc blocks nets pl) (yal file) g h = let bad : Some (codes "gsrc") ≡ Some (codes "yal") = sym g.0 ∙ h.0 in cc
input_unique v (yal file) (gsrc blocks nets pl) g h = let bad : Some (codes "gsrc") ≡ Some (codes "yal") = sym h.0 ∙ g.0 in cc
input_unique v (yal file) (yal file') g h = ap yal (texts_same _ _ _ g.1 h.1)

-- the option says at most one outline
outline_unique : (unit : ℕ) (text : Option Text) (w h w' h' : ℕ) → OutlineSays unit text w h → OutlineSays unit text w' h' → (w ≡ w') × (h ≡ h')
outline_unique unit None w h w' h' p q = (p.0 ∙ sym q.0, p.1 ∙ sym q.1)
outline_unique unit (Some text) w h w' h' p q = (cc (p.width_is.value, q.width_is.value), cc (p.height_is.value, q.height_is.value))

-- the options say a design in at most one way
design_unique : (v : Values) (a b : DesignOptions) → DesignSays v a → DesignSays v b → a ≡ b
design_unique v a b g h =
    let input = input_unique v _ _ g.input h.input in
    let unit = number_unique PerUnit _ _ _ g.per_unit h.per_unit in
    let fixed = g.is_fixed ∙ sym h.is_fixed in
    let shapes = number_unique Shapes _ _ _ g.shapes h.shapes in
    let Sides : ℕ → Type 0 = λ u. OutlineSays u (v Outline) b.width b.height in
    let sides = outline_unique a.per_unit (v Outline) a.width a.height b.width b.height g.outline (subst Sides (sym unit) h.outline) in
    λ i. record { input = input i; per_unit = unit i; is_fixed = fixed i; shapes = shapes i; width = sides.0 i; height = sides.1 i }

-- the options say the weights in at most one way
weights_unique : (v : Values) (a b : WeightOptions) → WeightsSay v a → WeightsSay v b → a ≡ b
weights_unique v a b g h =
    let area = number_unique AreaWeight _ _ _ g.area h.area in
    let wire = number_unique WireWeight _ _ _ g.wire h.wire in
    let net_weights = sym g.net_weights ∙ h.net_weights in
    λ i. record { area = area i; wire = wire i; net_weights = net_weights i }

-- the options say the walks in at most one way
starts_unique : (v : Values) (a b : StartOptions) → StartsSay v a → StartsSay v b → a ≡ b
starts_unique v a b g h =
    let count = number_unique Starts _ _ _ g.count h.count in
    let moves = number_unique Moves _ _ _ g.moves h.moves in
    let seed = number_unique StartSeed _ _ _ g.seed h.seed in
    let improve = given_unique _ _ _ _ _ refl g.improve h.improve in
    λ i. record { count = count i; moves = moves i; seed = seed i; improve = improve i }

-- the bound of a text, by its length and its second letter
bounds_back : Text → BoundsChoice
bounds_back text =
    let n = length text + slice_index_or text 1 0 in
    if n == 124 then Standard else (if n == 122 then Strong else (if n == 101 then Pair else (if n == 108 then Fit else Both)))

-- each text leads back to its bound
bounds_told : (bounds : BoundsChoice) → bounds_back (bounds_text bounds) ≡ bounds
unfolding bounds_back
bounds_told Standard = refl
bounds_told Strong = refl
bounds_told Pair = refl
bounds_told Fit = refl
bounds_told Both = refl

-- the option says at most one bound
bounds_unique : (text : Option Text) (a b : BoundsChoice) → BoundsSay text a → BoundsSay text b → a ≡ b
bounds_unique None a b g h = g ∙ sym h
bounds_unique (Some text) a b g h = sym (bounds_told a) ∙ ap bounds_back (sym g ∙ h) ∙ bounds_told b

-- the options say at most one `plan`
plan_unique : (v : Values) (a b : PlanOptions) → PlanSays v a → PlanSays v b → a ≡ b
plan_unique v a b g h =
    let design = design_unique v _ _ g.design h.design in
    let weights = weights_unique v _ _ g.weights h.weights in
    let cert = texts_same _ _ _ g.cert h.cert in
    let pl_out = sym g.pl_out ∙ h.pl_out in
    let workers = number_unique Workers _ _ _ g.workers h.workers in
    let long = g.is_long ∙ sym h.is_long in
    let nodes = nodes_unique _ _ _ _ _ long g.nodes h.nodes in
    let starts = starts_unique v _ _ g.starts h.starts in
    let begin = sym g.begin ∙ h.begin in
    let bounds = bounds_unique _ _ _ g.bounds h.bounds in
    λ i. record { design = design i; weights = weights i; cert = cert i; pl_out = pl_out i; workers = workers i; nodes = nodes i; is_long = long i; starts = starts i; begin = begin i; bounds = bounds i }

-- the options say at most one `check`
check_unique : (v : Values) (a b : CheckOptions) → CheckSays v a → CheckSays v b → a ≡ b
check_unique v a b g h =
    let design = design_unique v _ _ g.design h.design in
    let weights = weights_unique v _ _ g.weights h.weights in
    let cert = texts_same _ _ _ g.cert h.cert in
    let rewrite = sym g.rewrite ∙ h.rewrite in
    let long = g.is_long ∙ sym h.is_long in
    let bounds = bounds_unique _ _ _ g.bounds h.bounds in
    λ i. record { design = design i; weights = weights i; cert = cert i; rewrite = rewrite i; is_long = long i; bounds = bounds i }

-- a number that is there is one
some_same : (m n : ℕ) → Some m ≡ Some n → m ≡ n
some_same m n e = cc

-- the options say at most one `resume`
resume_unique : (v : Values) (a b : ResumeOptions) → ResumeSays v a → ResumeSays v b → a ≡ b
resume_unique v a b g h =
    let design = design_unique v _ _ g.design h.design in
    let weights = weights_unique v _ _ g.weights h.weights in
    let cert = texts_same _ _ _ g.cert h.cert in
    let cert_out = texts_same _ _ _ g.cert_out h.cert_out in
    let pl_out = sym g.pl_out ∙ h.pl_out in
    let workers = number_unique Workers _ _ _ g.workers h.workers in
    let long = g.is_long ∙ sym h.is_long in
    let nodes = some_same _ _ (nodes_unique _ _ _ _ _ long g.nodes h.nodes) in
    let bounds = bounds_unique _ _ _ g.bounds h.bounds in
    λ i. record { design = design i; weights = weights i; cert = cert i; cert_out = cert_out i; pl_out = pl_out i; workers = workers i; nodes = nodes i; is_long = long i; bounds = bounds i }

-- the options say at most one `measure`
measure_unique : (v : Values) (a b : MeasureOptions) → MeasureSays v a → MeasureSays v b → a ≡ b
measure_unique v a b g h =
    let design = design_unique v _ _ g.design h.design in
    let weights = weights_unique v _ _ g.weights h.weights in
    let placed = texts_same _ _ _ g.placed h.placed in
    λ i. record { design = design i; weights = weights i; placed = placed i }

-- the options say at most one `shape`
shape_unique : (v : Values) (a b : ShapeOptions) → ShapeSays v a → ShapeSays v b → a ≡ b
shape_unique v a b g h =
    let design = design_unique v _ _ g.design h.design in
    let expr = texts_same _ _ _ g.expr h.expr in
    λ i. record { design = design i; expr = expr i }

-- the option says at most one choice of kinds
kinds_unique : (text : Option Text) (a b : Kinds) → KindsSay text a → KindsSay text b → a ≡ b
kinds_unique None a b g h = g ∙ sym h
kinds_unique (Some text) Hard Hard g h = refl
kinds_unique (Some text) Mixed Mixed g h = refl
kinds_unique (Some text) Mixed Hard g h = let bad : codes "mixed" ≡ codes "hard" = sym g ∙ h in cc
kinds_unique (Some text) Hard Mixed g h = let bad : codes "mixed" ≡ codes "hard" = sym h ∙ g in cc

-- the options say at most one `gen`
gen_unique : (v : Values) (a b : GenOptions) → GenSays v a → GenSays v b → a ≡ b
gen_unique v a b g h =
    let seed = number_unique Seed _ _ _ g.seed h.seed in
    let count = number_unique Count _ _ _ g.count h.count in
    let kinds = kinds_unique _ _ _ g.kinds h.kinds in
    let nodes = nodes_unique _ _ _ _ _ refl g.nodes h.nodes in
    let out = texts_same _ _ _ g.out h.out in
    λ i. record { seed = seed i; count = count i; kinds = kinds i; nodes = nodes i; out = out i }

-- the options say at most one command of a mode
says_unique : (v : Values) (c d : Command) → mode_of c ≡ mode_of d → Says v c → Says v d → c ≡ d
says_unique v (plan a) (plan b) e g h = ap plan (plan_unique v a b g h)
says_unique v (check a) (check b) e g h = ap check (check_unique v a b g h)
says_unique v (resume a) (resume b) e g h = ap resume (resume_unique v a b g h)
says_unique v (measure a) (measure b) e g h = ap measure (measure_unique v a b g h)
says_unique v (shape a) (shape b) e g h = ap shape (shape_unique v a b g h)
says_unique v (gen a) (gen b) e g h = ap gen (gen_unique v a b g h)
says_unique v c d e g h = cc

-- words have at most one form: one command, and one list of options
pub form_unique : (words : List Text) (m n : Mode) (ts us : List Token) → HasForm words m ts → HasForm words n us → (m ≡ n) × (ts ≡ us)
form_unique words m n ts us g h =
    let both = sym g.words_are ∙ h.words_are in
    (mode_text-injective m n (heads_same both), options_unique m n ts us g.options h.options (tails_same both))

-- words mean at most one command
pub meaning_unique : (words : List Text) (c d : Command) → Means words c → Means words d → c ≡ d
meaning_unique words c d g h =
    let form = form_unique words (mode_of c) (mode_of d) g.0 h.0 g.1 h.1 in
    let P : List Token → Type 0 = λ ts. Says (value_in ts) d in
    says_unique (value_in g.0) c d form.0 g.2 (subst P (sym form.1) h.2)
