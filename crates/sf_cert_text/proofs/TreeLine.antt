-- No line of a header but its last is the word `tree`, so that it is read alike whatever stands behind that.
use Rattle.std.proofs.Common.{◌≡◌, ℕ, zero, suc, List, [], ◌∷◌, ◌++◌, length, arith, refl, ap, sym, ◌∙◌, Bool, true, false, cond, Option, Some, None, Result, Ok, Err, inl, inr, option_and_then, bytes_eq}
use Rattle.std.proofs.lemmas.Slice.Eq.{bytes_eq-Decides}
use Rattle.sf_lex.specs.Results.{◌>>=◌}
use Rattle.sf_lex.specs.Gap.{first_word}
use Rattle.sf_lex.specs.declared.field.Gap.TheVariants.{Blanks}
use Rattle.sf_lex.proofs.Pieces.{words_none, words_some}
use Rattle.sf_cert_text.proofs.Common.{codes, AllByRecursion, is_blank_byte, words, Line, Expr, CertFault, Version, Two, Header, Path, Paths, value_after, value_in, version_of_word, version_in, exactly, number_in, cost_of_word, cost_in, count_in, only_word, word_in, plan_in, path_by, path_said, path_in, line_by, line_read, paths_read, axis_read, both_read, header_read, IsTree, IsOther, cases_lt, plain_read, BadHeader, One, Three}

-- ---- the line itself

-- by whether the word is that
only-tree-by : (w : List ℕ) (b : Bool) → bytes_eq w (codes "tree") ≡ b → cond b (Some (codes "tree")) None ≡ Some (codes "tree") → (w ∷ []) ≡ codes "tree" ∷ []
only-tree-by w true is e = ap (λ (v : List ℕ). v ∷ []) ((bytes_eq-Decides w (codes "tree")).0 is)
only-tree-by w false is e = absurd cc

-- where the only one of some words is `tree`, that is all of them
only-tree : (ws : List (List ℕ)) → only_word (codes "tree") ws ≡ Some (codes "tree") → ws ≡ codes "tree" ∷ []
only-tree [] e = absurd cc
only-tree (w ∷ []) e = only-tree-by w (bytes_eq w (codes "tree")) refl e
only-tree (w ∷ v ∷ ws) e = absurd cc

module _ (line : List ℕ) (is : IsTree line) where
  -- its only word
  tree-words : words is_blank_byte line ≡ codes "tree" ∷ []
  tree-words = only-tree (words is_blank_byte line) is

  -- it has no label and value
  no-value : (label : List ℕ) → value_in label line ≡ None
  no-value label = ap (value_after label) tree-words

  -- it names no version
  no-version : (label : List ℕ) → version_in label line ≡ None
  no-version label = ap (option_and_then version_of_word) (no-value label)

  -- it has no number
  no-number : (label : List ℕ) (n : ℕ) → number_in label n line ≡ None
  no-number label n = ap (λ o. exactly n (option_and_then (plain_read n) o)) (no-value label)

  -- it has no cost
  no-cost : (label : List ℕ) → cost_in label line ≡ None
  no-cost label = ap (option_and_then cost_of_word) (no-value label)

  -- it has no count
  no-count : (label : List ℕ) → count_in label line ≡ None
  no-count label = ap (option_and_then (plain_read 18446744073709551615)) (no-value label)

  -- its first word
  first-is : (first : List ℕ) (others : List (List ℕ)) → words is_blank_byte line ≡ first ∷ others → bytes_eq first (codes "plan") ≡ false
  first-is first others e =
      let same : (first ∷ others) ≡ codes "tree" ∷ [] = sym e ∙ tree-words in
      let word : first ≡ codes "tree" = cc in
      ap (λ w. bytes_eq w (codes "plan")) word

  -- it does not begin with the word `plan`
  not-plan : bytes_eq (first_word Blanks line) (codes "plan") ≡ false
  not-plan =
      elim (cases_lt 0 (length (first_word Blanks line))) [
        | inl lt ↦ first-is (first_word Blanks line) _ (words_some is_blank_byte line lt)
        | inr le ↦ let none = words_none is_blank_byte line (omega (arith, le)) in absurd cc
      ]

  -- it has no plan
  no-plan : (blocks cost : ℕ) → plan_in blocks cost line ≡ None
  no-plan blocks cost = rw not-plan refl

  -- a path has a step at least
  no-steps : (o : Option ℕ) → path_by o (Some []) ≡ None
  no-steps None = refl
  no-steps (Some pad) = refl

  -- it has no path
  no-path : path_in line ≡ None
  no-path = ap path_said tree-words ∙ no-steps (plain_read 65535 (codes "tree"))

-- ---- a part of the header

-- the header, with these lines behind it
abbrev pub with_lines : List Line → Result Header CertFault → Result Header CertFault
with_lines more (Ok h) = Ok (record { version = h.version; plan = h.plan; cost = h.cost; bound = h.bound; paths = h.paths; others = more })
with_lines more (Err e) = Err e

module _ (t : Line) (is : IsTree t.bytes) where
  -- none of the lines is the word `tree`
  abbrev Others : List Line → Type 0
  Others all = AllByRecursion (λ (l : Line). IsOther l.bytes) all

  -- a reading of lines, of which none is `tree`, answers so, whatever stands behind the line `tree` that follows them; the lines
  -- that it leaves are some of them
  abbrev Answers : {X : Type 0} → (ℕ → List Line → Result (X × List Line) CertFault) → List Line → Result (X × List Line) CertFault → Type 0
  Answers read all (Ok r) = Others r.1 × ((last : ℕ) (more : List Line) → read last (all ++ t ∷ more) ≡ Ok (r.0, r.1 ++ t ∷ more))
  Answers read all (Err e) = (last : ℕ) (more : List Line) → read last (all ++ t ∷ more) ≡ Err e

  -- of all such lines
  abbrev Stays : {X : Type 0} → (ℕ → List Line → Result (X × List Line) CertFault) → Type 0
  Stays {X} read = (all : List Line) → Others all → (r : Result (X × List Line) CertFault) × Answers read all r

  -- a line by a rule, by what the rule makes of it
  line-by : {X : Type 0} (rule : List ℕ → Option X) (l : Line) (all : List Line) (o : Option X) → rule l.bytes ≡ o → Others all → (r : Result (X × List Line) CertFault) × Answers (λ last ls. line_read last rule ls) (l ∷ all) r
  line-by rule l all None e h = (Err (BadHeader l.number), λ last more. ap (line_by l.number (all ++ t ∷ more)) e)
  line-by rule l all (Some x) e h = (Ok (x, all), (h, λ last more. ap (line_by l.number (all ++ t ∷ more)) e))

  -- a line by a rule that the line `tree` does not keep
  line-stays : {X : Type 0} (rule : List ℕ → Option X) → rule t.bytes ≡ None → Stays (λ last ls. line_read last rule ls)
  line-stays rule refused [] h = (Err (BadHeader t.number), λ last more. ap (line_by t.number more) refused)
  line-stays rule refused (l ∷ all) h = line-by rule l all (rule l.bytes) refl h.1

  -- nothing is read
  nothing-stays : {X : Type 0} (x : X) → Stays (λ last ls. Ok (x, ls))
  nothing-stays x all h = (Ok (x, all), (h, λ last more. refl))

  module _ {X Y : Type 0} (read : ℕ → List Line → Result (X × List Line) CertFault) (then : X → ℕ → List Line → Result (Y × List Line) CertFault) where
    -- one reading after another
    abbrev both-of : ℕ → List Line → Result (Y × List Line) CertFault
    both-of last ls = read last ls >>= λ r. then r.0 last r.1

    -- by what the second answers
    second-by : (all : List Line) (x : X) (rest : List Line) → ((last : ℕ) (more : List Line) → read last (all ++ t ∷ more) ≡ Ok (x, rest ++ t ∷ more)) → (s : Result (Y × List Line) CertFault) → Answers (then x) rest s
        → (r : Result (Y × List Line) CertFault) × Answers both-of all r
    second-by all x rest first (Ok s) g = (Ok s, (g.0, λ last more. ap (λ q. q >>= λ r. then r.0 last r.1) (first last more) ∙ g.1 last more))
    second-by all x rest first (Err e) g = (Err e, λ last more. ap (λ q. q >>= λ r. then r.0 last r.1) (first last more) ∙ g last more)

    -- by what the first answers
    first-by : (all : List Line) (q : Result (X × List Line) CertFault) → Answers read all q → ((x : X) → Stays (then x)) → (r : Result (Y × List Line) CertFault) × Answers both-of all r
    first-by all (Ok q) g h = let s = h q.0 q.1 g.0 in second-by all q.0 q.1 g.1 s.0 s.1
    first-by all (Err e) g h = (Err e, λ last more. ap (λ q. q >>= λ r. then r.0 last r.1) (g last more))

    -- both stay
    both-stay : Stays read → ((x : X) → Stays (then x)) → Stays both-of
    both-stay g h all o = let q = g all o in first-by all q.0 q.1 h

  -- so many paths
  paths-stay : (n : ℕ) → Stays (λ last ls. paths_read last n ls)
  unfolding paths_read
  paths-stay zero = nothing-stays {X = List Path} []
  paths-stay (suc n) =
      both-stay (λ last ls. line_read last path_in ls) (λ path last ls. paths_read last n ls >>= λ others. Ok (path ∷ others.0, others.1)) (line-stays path_in (no-path t.bytes is))
      (λ path. both-stay (λ last ls. paths_read last n ls) (λ others last ls. Ok (path ∷ others, ls)) (paths-stay n) (λ others. nothing-stays (path ∷ others)))

  -- the paths of an axis
  axis-stays : (label : List ℕ) → Stays (λ last ls. axis_read last label ls)
  axis-stays label = both-stay (λ last ls. line_read last (count_in label) ls) (λ n last ls. paths_read last n ls) (line-stays (count_in label) (no-count t.bytes is label)) paths-stay

  -- the paths of both
  both-axes-stay : (version : Version) → Stays (λ last ls. both_read version last ls)
  both-axes-stay One = nothing-stays (record { across = []; upward = [] })
  both-axes-stay Two = nothing-stays (record { across = []; upward = [] })
  both-axes-stay Three =
      both-stay (λ last ls. axis_read last (codes "across") ls) (λ across last ls. axis_read last (codes "upward") ls >>= λ upward. Ok (record { across = across; upward = upward.0 }, upward.1)) (axis-stays (codes "across"))
      (λ across. both-stay (λ last ls. axis_read last (codes "upward") ls) (λ upward last ls. Ok (record { across = across; upward = upward }, ls)) (axis-stays (codes "upward")) (λ upward. nothing-stays (record { across = across; upward = upward })))

  -- ---- the whole header

  -- a reading to the end of a header answers so, whatever stands behind it
  abbrev Ends : (ℕ → List Line → Result Header CertFault) → List Line → Result Header CertFault → Type 0
  Ends read all r = (last : ℕ) (more : List Line) → read last (all ++ t ∷ more) ≡ with_lines more r

  -- at all such lines
  abbrev pub EndsAlike : (ℕ → List Line → Result Header CertFault) → Type 0
  EndsAlike read = (all : List Line) → Others all → (r : Result Header CertFault) × Ends read all r

  module _ {X : Type 0} (read : ℕ → List Line → Result (X × List Line) CertFault) (then : X → ℕ → List Line → Result Header CertFault) where
    -- by what the first part answers
    then-by : (all : List Line) (q : Result (X × List Line) CertFault) → Answers read all q → ((x : X) → EndsAlike (then x)) → (r : Result Header CertFault) × Ends (λ last ls. read last ls >>= λ r. then r.0 last r.1) all r
    then-by all (Ok q) g h = let s = h q.0 q.1 g.0 in (s.0, λ last more. ap (λ q. q >>= λ r. then r.0 last r.1) (g.1 last more) ∙ s.1 last more)
    then-by all (Err e) g h = (Err e, λ last more. ap (λ q. q >>= λ r. then r.0 last r.1) (g last more))

    -- a part and the rest of the header
    then-ends : Stays read → ((x : X) → EndsAlike (then x)) → EndsAlike (λ last ls. read last ls >>= λ r. then r.0 last r.1)
    then-ends g h all o = let q = g all o in then-by all q.0 q.1 h

  -- the last line
  abbrev at_tree : Version → ℕ → ℕ → Option Expr → Paths → ℕ → List Line → Result Header CertFault
  at_tree version cost bound plan paths last ls = line_read last (word_in (codes "tree")) ls >>= λ e. Ok (record { version = version; plan = plan; cost = cost; bound = bound; paths = paths; others = e.1 })

  -- ends it
  tree-ends : (version : Version) (cost bound : ℕ) (plan : Option Expr) (paths : Paths) → EndsAlike (at_tree version cost bound plan paths)
  tree-ends version cost bound plan paths [] h = (Ok (record { version = version; plan = plan; cost = cost; bound = bound; paths = paths; others = [] }), λ last more. ap (λ o. line_by t.number more o >>= λ e. Ok (record { version = version; plan = plan; cost = cost; bound = bound; paths = paths; others = e.1 })) is)
  tree-ends version cost bound plan paths (l ∷ all) h = (Err (BadHeader l.number), λ last more. ap (λ o. line_by l.number (all ++ t ∷ more) o >>= λ e. Ok (record { version = version; plan = plan; cost = cost; bound = bound; paths = paths; others = e.1 })) h.0)

  -- from the paths on
  abbrev at_paths : Version → ℕ → ℕ → Option Expr → ℕ → List Line → Result Header CertFault
  at_paths version cost bound plan last ls = both_read version last ls >>= λ p. at_tree version cost bound plan p.0 last p.1

  -- from the plan on
  abbrev at_plan : ℕ → Version → ℕ → ℕ → ℕ → List Line → Result Header CertFault
  at_plan blocks version cost bound last ls = line_read last (plan_in blocks cost) ls >>= λ p. at_paths version cost bound p.0 last p.1

  -- from the bound on
  abbrev at_bound : ℕ → Version → ℕ → ℕ → List Line → Result Header CertFault
  at_bound blocks version cost last ls = line_read last (cost_in (codes "bound")) ls >>= λ b. at_plan blocks version cost b.0 last b.1

  -- from the cost on
  abbrev at_cost : ℕ → Version → ℕ → List Line → Result Header CertFault
  at_cost blocks version last ls = line_read last (cost_in (codes "cost")) ls >>= λ c. at_bound blocks version c.0 last c.1

  -- from the blocks on
  abbrev at_blocks : ℕ → Version → ℕ → List Line → Result Header CertFault
  at_blocks blocks version last ls = line_read last (number_in (codes "blocks") blocks) ls >>= λ n. at_cost blocks version last n.1

  -- all of it
  abbrev at_title : ℕ → ℕ → List Line → Result Header CertFault
  at_title blocks last ls = line_read last (version_in (codes "slicing-certificate")) ls >>= λ v. at_blocks blocks v.0 last v.1

  -- the header is read alike
  title-ends : (blocks : ℕ) → EndsAlike (at_title blocks)
  title-ends blocks =
      then-ends (λ last ls. line_read last (version_in (codes "slicing-certificate")) ls) (λ v. at_blocks blocks v) (line-stays _ (no-version t.bytes is (codes "slicing-certificate")))
      (λ v. then-ends (λ last ls. line_read last (number_in (codes "blocks") blocks) ls) (λ n. at_cost blocks v) (line-stays _ (no-number t.bytes is (codes "blocks") blocks))
      (λ n. then-ends (λ last ls. line_read last (cost_in (codes "cost")) ls) (λ c. at_bound blocks v c) (line-stays _ (no-cost t.bytes is (codes "cost")))
      (λ c. then-ends (λ last ls. line_read last (cost_in (codes "bound")) ls) (λ b. at_plan blocks v c b) (line-stays _ (no-cost t.bytes is (codes "bound")))
      (λ b. then-ends (λ last ls. line_read last (plan_in blocks c) ls) (λ p. at_paths v c b p) (line-stays _ (no-plan t.bytes is blocks c))
      (λ p. then-ends (λ last ls. both_read v last ls) (λ paths. at_tree v c b p paths) (both-axes-stay v)
      (λ paths. tree-ends v c b p paths))))))

  -- so the lines of a header are read
  pub header-ends : (blocks : ℕ) → EndsAlike (λ last ls. header_read blocks last ls)
  unfolding header_read
  header-ends = title-ends
