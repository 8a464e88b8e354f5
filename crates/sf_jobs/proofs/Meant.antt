-- What a job's words mean.
use Rattle.std.proofs.Common.{◌≡◌, ◌⊎◌, inl, inr, ℕ, true, false, List, [], ◌∷◌, Option, Some, None, IfSome, IfNone, option_map, codes, refl, sym, subst, arith}
use Rattle.sf_lex.specs.Whole.{whole_read}
use Rattle.sf_jobs.proofs.Common.{ForSome, Key, Format, Blocks, Nets, Pl, WireWeight, Nodes, Cert, Plan, mode_text, modes, key_text, is_flag, keys_of, Text, Token, spaced, words_of, IsValue, Values, value_in, PlanOptions, PlanSays, plan, Means, HasNoMeaning, Job, given, IsWire, IsBudget, with_option, words_of_job, with_cert, Asks, IsPlain, AreValues, options_of, range, nodes_range, default_of, SaysNodes, plan_seen}
use Rattle.sf_options.specs.declared.command.PlanWords.{PlanWords}
use Rattle.sf_jobs.proofs.Tokens.{with_token, fits, HaveValues, are_options, value_or, stuck}

-- the words, by what their fields say
abbrev words_with : (blocks : Text) (nets pl : Option Text) (wire : Text) (nodes : Option Text) (cert : Text) → List Text
words_with blocks nets pl wire nodes cert =
    codes "plan" ∷ codes "--format" ∷ codes "gsrc" ∷ codes "--blocks" ∷ blocks
    ∷ with_option (codes "--nets") nets (with_option (codes "--pl") pl
    (codes "--wire-weight" ∷ wire ∷ with_option (codes "--nodes") nodes (codes "--cert" ∷ cert ∷ [])))

-- the options of which they are made
abbrev tokens : (blocks : Text) (nets pl : Option Text) (wire : Text) (nodes : Option Text) (cert : Text) → List Token
tokens blocks nets pl wire nodes cert =
    spaced Format (codes "gsrc") ∷ spaced Blocks blocks
    ∷ with_token Nets nets (with_token Pl pl
    (spaced WireWeight wire ∷ with_token Nodes nodes (spaced Cert cert ∷ [])))

-- the text that each of these options has
abbrev texts : (blocks : Text) (nets pl : Option Text) (wire : Text) (nodes : Option Text) (cert : Text) → Values
texts blocks nets pl wire nodes cert Format = Some (codes "gsrc")
texts blocks nets pl wire nodes cert Blocks = Some blocks
texts blocks nets pl wire nodes cert Nets = nets
texts blocks nets pl wire nodes cert Pl = pl
texts blocks nets pl wire nodes cert WireWeight = Some wire
texts blocks nets pl wire nodes cert Nodes = nodes
texts blocks nets pl wire nodes cert Cert = Some cert
texts blocks nets pl wire nodes cert key = None

words_are : (b : Text) (nets pl : Option Text) (w : Text) (nodes : Option Text) (c : Text) → words_with b nets pl w nodes c ≡ mode_text Plan ∷ words_of (tokens b nets pl w nodes c)
unfolding mode_text key_text
words_are b None None w None c = refl
words_are b None None w (Some n) c = refl
words_are b None (Some p) w None c = refl
words_are b None (Some p) w (Some n) c = refl
words_are b (Some m) None w None c = refl
words_are b (Some m) None w (Some n) c = refl
words_are b (Some m) (Some p) w None c = refl
words_are b (Some m) (Some p) w (Some n) c = refl

fit : (b : Text) (nets pl : Option Text) (w : Text) (nodes : Option Text) (c : Text) → fits (keys_of Plan) (tokens b nets pl w nodes c) ≡ true
unfolding key_text is_flag keys_of
fit b None None w None c = refl
fit b None None w (Some n) c = refl
fit b None (Some p) w None c = refl
fit b None (Some p) w (Some n) c = refl
fit b (Some m) None w None c = refl
fit b (Some m) None w (Some n) c = refl
fit b (Some m) (Some p) w None c = refl
fit b (Some m) (Some p) w (Some n) c = refl

texts_are : (b : Text) (nets pl : Option Text) (w : Text) (nodes : Option Text) (c : Text) (key : Key) → value_in (tokens b nets pl w nodes c) key ≡ texts b nets pl w nodes c key
unfolding key_text
texts_are b None None w None c Format = refl
texts_are b None None w None c key = refl
texts_are b None None w (Some n) c Format = refl
texts_are b None None w (Some n) c key = refl
texts_are b None (Some p) w None c Format = refl
texts_are b None (Some p) w None c key = refl
texts_are b None (Some p) w (Some n) c Format = refl
texts_are b None (Some p) w (Some n) c key = refl
texts_are b (Some m) None w None c Format = refl
texts_are b (Some m) None w None c key = refl
texts_are b (Some m) None w (Some n) c Format = refl
texts_are b (Some m) None w (Some n) c key = refl
texts_are b (Some m) (Some p) w None c Format = refl
texts_are b (Some m) (Some p) w None c key = refl
texts_are b (Some m) (Some p) w (Some n) c Format = refl
texts_are b (Some m) (Some p) w (Some n) c key = refl

-- a whole number may be a value
whole_value : (limit n : ℕ) (text : Text) → whole_read limit text ≡ Some n → IsValue text
unfolding whole_read
whole_value limit n [] e = cc
whole_value limit n (b ∷ bs) e = λ same. let bad : whole_read limit (45 ∷ bs) ≡ Some n = subst (λ (x : ℕ). whole_read limit (x ∷ bs) ≡ Some n) same e in cc

-- so may a budget
budget_value : (nodes : Option Text) (n : Option ℕ) → IsBudget nodes n → (text : Text) → nodes ≡ Some text → IsValue text
budget_value None n h text e = cc
budget_value (Some t) None h text e = absurd h
budget_value (Some t) (Some n) h text e = let same : t ≡ text = cc in subst IsValue same (whole_value 4_000_000 n t h.value)

-- an option with a value, in front of others with values
with_value : (key : Key) (o : Option Text) (more : List Token) → ForSome o IsValue → HaveValues more → HaveValues (with_token key o more)
with_value key None more h v = v
with_value key (Some text) more h v = (h text refl, v)

-- the values of all options
values : (b : Text) (nets pl : Option Text) (w : Text) (nodes : Option Text) (c : Text) (wire : ℕ) (n : Option ℕ) → AreValues b nets pl → IsWire w wire → IsBudget nodes n → IsValue c → HaveValues (tokens b nets pl w nodes c)
values b nets pl w nodes c wire n are iw ib ic = (
  (λ e. absurd (grind arith)),
  (are.blocks_is, with_value Nets nets _ are.nets_is (with_value Pl pl _ are.pl_is (whole_value 65_535 wire w iw, with_value Nodes nodes _ (budget_value nodes n ib) (ic, tt)))),
)

-- what the budget says
budget_said : (nodes : Option Text) (n : Option ℕ) → IsBudget nodes n → SaysNodes false nodes n
unfolding nodes_range
budget_said None None h = tt
budget_said None (Some n) h = cc
budget_said (Some t) None h = h
budget_said (Some t) (Some n) h = h

-- what the options say
says : (b : Text) (nets pl : Option Text) (w : Text) (nodes : Option Text) (c : Text) (wire : ℕ) (n : Option ℕ) → IsWire w wire → IsBudget nodes n
    → PlanSays (texts b nets pl w nodes c) (with_cert (options_of b nets pl wire n) c)
unfolding range default_of
says b nets pl w nodes c wire n iw ib = record {
  design = record { input = (refl, refl, refl, refl, refl); per_unit = refl; is_unit = inl refl; is_fixed = refl; shapes = refl; outline = (refl, refl) };
  weights = record { area = refl; wire = record { value = iw; low = omega arith }; some = omega arith; net_weights = refl };
  cert = refl;
  pl_out = refl;
  workers = refl;
  nodes = budget_said nodes n ib;
  is_long = refl;
  starts = record { count = refl; moves = refl; seed = refl; improve = tt; asked = λ e f. refl };
  begin = refl;
  bounds = refl;
}

-- the words of names that may be values mean these options
meant : (b : Text) (nets pl : Option Text) (w : Text) (nodes : Option Text) (c : Text) (wire : ℕ) (n : Option ℕ) → AreValues b nets pl → IsWire w wire → IsBudget nodes n → IsValue c
    → Means (words_with b nets pl w nodes c) (plan (with_cert (options_of b nets pl wire n) c))
unfolding modes
meant b nets pl w nodes c wire n are iw ib ic =
    let ts = tokens b nets pl w nodes c in
    let options = are_options ts (fit b nets pl w nodes c) (values b nets pl w nodes c wire n are iw ib ic) in (
      ts,
      record { known = (0, omega arith, refl); words_are = words_are b nets pl w nodes c; options = options },
      subst (λ (v : Values). PlanSays v (with_cert (options_of b nets pl wire n) c)) (λ i key. sym (texts_are b nets pl w nodes c key) i) (says b nets pl w nodes c wire n iw ib),
    )

-- the words of a name that may be no value mean nothing: of the blocks
no_blocks : (b : Text) (nets pl : Option Text) (w : Text) (nodes : Option Text) (c : Text) → (IsValue b → ⊥) → HasNoMeaning (words_with b nets pl w nodes c)
unfolding mode_text key_text is_flag keys_of
no_blocks b nets pl w nodes c bad = stuck _ (spaced Format (codes "gsrc") ∷ []) Blocks b _ refl ((λ e. absurd (grind arith)), tt) refl bad refl

-- of the nets
no_nets : (b m : Text) (pl : Option Text) (w : Text) (nodes : Option Text) (c : Text) → IsValue b → (IsValue m → ⊥) → HasNoMeaning (words_with b (Some m) pl w nodes c)
unfolding mode_text key_text is_flag keys_of
no_nets b m pl w nodes c is bad = stuck _ (spaced Format (codes "gsrc") ∷ spaced Blocks b ∷ []) Nets m _ refl ((λ e. absurd (grind arith)), (is, tt)) refl bad refl

-- of the places
no_pl : (b : Text) (nets : Option Text) (p w : Text) (nodes : Option Text) (c : Text) → IsValue b → ForSome nets IsValue → (IsValue p → ⊥) → HasNoMeaning (words_with b nets (Some p) w nodes c)
unfolding mode_text key_text is_flag keys_of
no_pl b None p w nodes c is h bad = stuck _ (spaced Format (codes "gsrc") ∷ spaced Blocks b ∷ []) Pl p _ refl ((λ e. absurd (grind arith)), (is, tt)) refl bad refl
no_pl b (Some m) p w nodes c is h bad = stuck _ (spaced Format (codes "gsrc") ∷ spaced Blocks b ∷ spaced Nets m ∷ []) Pl p _ refl ((λ e. absurd (grind arith)), (is, (h m refl, tt))) refl bad refl

-- a name that may be left out is a value, or it is given and is none
given_or : (o : Option Text) → ForSome o IsValue ⊎ ((text : Text) × (o ≡ Some text) × (IsValue text → ⊥))
given_or None = inl (λ text e. cc)
given_or (Some text) = elim (value_or text) [ inl v ↦ inl (λ t e. let same : text ≡ t = cc in subst IsValue same v) | inr bad ↦ inr (text, refl, bad) ]

-- of any of the three
no_values : (b : Text) (nets pl : Option Text) (w : Text) (nodes : Option Text) (c : Text) → (AreValues b nets pl → ⊥) → HasNoMeaning (words_with b nets pl w nodes c)
no_values b nets pl w nodes c none = elim (value_or b) [
  | inr bad ↦ no_blocks b nets pl w nodes c bad
  | inl is ↦ elim (given_or nets) [
    | inr m ↦ subst (λ (o : Option Text). HasNoMeaning (words_with b o pl w nodes c)) (sym m.1) (no_nets b m.0 pl w nodes c is m.2)
    | inl h ↦ elim (given_or pl) [
      | inr p ↦ subst (λ (o : Option Text). HasNoMeaning (words_with b nets o w nodes c)) (sym p.1) (no_pl b nets p.0 w nodes c is h p.2)
      | inl g ↦ absurd (none (record { blocks_is = is; nets_is = h; pl_is = g }))
    ]
  ]
]

-- the options of a job are plain
pub plain : (b : Text) (nets pl : Option Text) (wire : ℕ) (n : Option ℕ) (r : Option PlanWords) → IfSome r (λ w. plan_seen w ≡ options_of b nets pl wire n) → IfSome (option_map plan_seen r) IsPlain
plain b nets pl wire n None same = tt
plain b nets pl wire n (Some w) same = subst IsPlain (sym same) (record { per_unit = refl; pl_out = refl; workers = refl; starts = refl; begin = refl; bounds = refl })

-- what was read of a job is what its words ask for
pub asks : (job : Job) (b : Text) (nets pl : Option Text) (wire : ℕ) (n : Option ℕ) (r : Option PlanWords) → b ≡ job.blocks → nets ≡ given job.nets → pl ≡ given job.pl
    → IsWire job.wire wire → IsBudget (given job.nodes) n
    → IfSome r (λ w. plan_seen w ≡ options_of b nets pl wire n) → IfSome r (λ w. AreValues b nets pl) → IfNone r (AreValues b nets pl → ⊥)
    → Asks job (option_map plan_seen r)
asks job b nets pl wire n None eb en ep iw ib same are none = λ cert v.
    let here : AreValues job.blocks (given job.nets) (given job.pl) → ⊥ = rw (eb, en, ep) at none in
    no_values job.blocks (given job.nets) (given job.pl) job.wire (given job.nodes) cert here
asks job b nets pl wire n (Some w) eb en ep iw ib same are none = λ cert v.
    let here : AreValues job.blocks (given job.nets) (given job.pl) = rw (eb, en, ep) at are in
    let options : plan_seen w ≡ options_of job.blocks (given job.nets) (given job.pl) wire n = rw (eb, en, ep) at same in
    subst (λ (o : PlanOptions). Means (words_of_job job cert) (plan (with_cert o cert))) (sym options)
    (meant job.blocks (given job.nets) (given job.pl) job.wire (given job.nodes) cert wire n here iw ib v)
