-- The paths of a certificate that was read lead from pads to pads.
use Rattle.std.proofs.Common.{◌≡◌, ℕ, zero, suc, List, [], ◌∷◌, refl, subst, true, Option, Some, None, Result, Ok, Err, option_map}
use Rattle.sf_lex.specs.Results.{◌>>=◌}
use Rattle.sf_cert_text.proofs.Common.{and_from, list_all, is_blank_byte, words, Line, Path, count_in, path_by, path_said, path_in, pin_before, step_by, with_step, steps_said, line_by, line_read, paths_read, axis_read, plain_read, Step, leads, reach_pad}

-- one reading after another gives what the second gives of the first
bind_ok : {A B E : Type 0} (r : Result A E) (f : A → Result B E) (y : B) → (r >>= f) ≡ Ok y → (x : A) × (r ≡ Ok x) × (f x ≡ Ok y)
bind_ok (Ok x) f y e = (x, refl, e)
bind_ok (Err d) f y e = absurd cc

-- ---- a line

-- words say no steps at all
some-step : (net to : Option ℕ) (behind : List (List ℕ)) (more : Option (List Step)) → with_step (step_by net (option_map (pin_before behind) to)) more ≡ Some [] → ⊥
some-step None to behind more e = absurd cc
some-step (Some n) None behind more e = absurd cc
some-step (Some n) (Some p) behind None e = absurd cc
some-step (Some n) (Some p) behind (Some steps) e = absurd cc

-- where there are words there are steps
words-say : (w : List ℕ) (ws : List (List ℕ)) → steps_said (w ∷ ws) ≡ Some [] → ⊥
words-say w [] e = absurd cc
words-say w (v ∷ ws) e = some-step (plain_read 4294967295 w) (plain_read 65535 v) ws (steps_said ws) e

-- the last step leads to a pad
last-reaches : (net to : Option ℕ) (s : Step) (steps : List Step) → with_step (step_by net (option_map (pin_before []) to)) (Some []) ≡ Some (s ∷ steps) → reach_pad (s ∷ steps) ≡ true
last-reaches None to s steps e = absurd cc
last-reaches (Some n) None s steps e = absurd cc
last-reaches (Some n) (Some p) s steps e =
    let last : Step = record { net = n; to = pin_before [] p } in
    let same : (last ∷ []) ≡ s ∷ steps = cc in
    subst (λ (ss : List Step). reach_pad ss ≡ true) same refl

-- one before it leads to a block
inner-reaches : (net to : Option ℕ) (w : List ℕ) (ws : List (List ℕ)) (more : Option (List Step)) → ((t : Step) (ts : List Step) → more ≡ Some (t ∷ ts) → reach_pad (t ∷ ts) ≡ true) → (more ≡ Some [] → ⊥) → (s : Step) (steps : List Step)
    → with_step (step_by net (option_map (pin_before (w ∷ ws)) to)) more ≡ Some (s ∷ steps) → reach_pad (s ∷ steps) ≡ true
inner-reaches None to w ws more h k s steps e = absurd cc
inner-reaches (Some n) None w ws more h k s steps e = absurd cc
inner-reaches (Some n) (Some p) w ws None h k s steps e = absurd cc
inner-reaches (Some n) (Some p) w ws (Some []) h k s steps e = absurd (k refl)
inner-reaches (Some n) (Some p) w ws (Some (t ∷ ts)) h k s steps e =
    let one : Step = record { net = n; to = pin_before (w ∷ ws) p } in
    let same : (one ∷ t ∷ ts) ≡ s ∷ steps = cc in
    subst (λ (ss : List Step). reach_pad ss ≡ true) same (h t ts refl)

-- the steps of words lead to a pad
steps-reach : (ws : List (List ℕ)) (s : Step) (steps : List Step) → steps_said ws ≡ Some (s ∷ steps) → reach_pad (s ∷ steps) ≡ true
steps-reach [] s steps e = absurd cc
steps-reach (net ∷ []) s steps e = absurd cc
steps-reach (net ∷ to ∷ []) s steps e = last-reaches (plain_read 4294967295 net) (plain_read 65535 to) s steps e
steps-reach (net ∷ to ∷ w ∷ ws) s steps e = inner-reaches (plain_read 4294967295 net) (plain_read 65535 to) w ws (steps_said (w ∷ ws)) (λ t ts k. steps-reach (w ∷ ws) t ts k) (words-say w ws) s steps e

-- a path of words, by its first and its steps
path-by-leads : (pad : Option ℕ) (steps : Option (List Step)) → ((s : Step) (ss : List Step) → steps ≡ Some (s ∷ ss) → reach_pad (s ∷ ss) ≡ true) → (path : Path) → path_by pad steps ≡ Some path → leads path ≡ true
path-by-leads None steps h path e = absurd cc
path-by-leads (Some n) None h path e = absurd cc
path-by-leads (Some n) (Some []) h path e = absurd cc
path-by-leads (Some n) (Some (s ∷ ss)) h path e =
    let one : Path = record { first = pin_before [] n; steps = s ∷ ss } in
    let same : one ≡ path = cc in
    subst (λ (p : Path). leads p ≡ true) same (h s ss refl)

-- the path of words leads from a pad to a pad
said-leads : (ws : List (List ℕ)) (path : Path) → path_said ws ≡ Some path → leads path ≡ true
said-leads [] path e = absurd cc
said-leads (w ∷ ws) path e = path-by-leads (plain_read 65535 w) (steps_said ws) (steps-reach ws) path e

-- ---- lines

-- a line that is read says its path
line-leads : (last : ℕ) (all : List Line) (r : Path × List Line) → line_read last path_in all ≡ Ok r → leads r.0 ≡ true
line-leads last [] r e = absurd cc
line-leads last (l ∷ all) r e = by (path_in l.bytes) refl e
  where
    by : (o : Option Path) → path_in l.bytes ≡ o → line_by l.number all o ≡ Ok r → leads r.0 ≡ true
    by None k f = absurd cc
    by (Some path) k f =
        let same : (path, all) ≡ r = cc in
        subst (λ (p : Path × List Line). leads p.0 ≡ true) same (said-leads (words is_blank_byte l.bytes) path k)

-- so many lines
paths-lead : (last n : ℕ) (all : List Line) (r : List Path × List Line) → paths_read last n all ≡ Ok r → list_all leads r.0 ≡ true
unfolding paths_read
paths-lead last zero all r e =
    let none : List Path × List Line = ([], all) in
    let same : none ≡ r = cc in
    subst (λ (p : List Path × List Line). list_all leads p.0 ≡ true) same refl
paths-lead last (suc n) all r e =
    let one = bind_ok (line_read last path_in all) (λ path. paths_read last n path.1 >>= λ others. Ok (path.0 ∷ others.0, others.1)) r e in
    let more = bind_ok (paths_read last n one.0.1) (λ others. Ok (one.0.0 ∷ others.0, others.1)) r one.2 in
    let both : List Path × List Line = (one.0.0 ∷ more.0.0, more.0.1) in
    let same : both ≡ r = cc in
    subst (λ (p : List Path × List Line). list_all leads p.0 ≡ true) same (and_from (leads one.0.0) (list_all leads more.0.0) (line-leads last all one.0 one.1) (paths-lead last n one.0.1 more.0 more.1))

-- the lines of an axis
pub axis-leads : (last : ℕ) (label : List ℕ) (all : List Line) (r : List Path × List Line) → axis_read last label all ≡ Ok r → list_all leads r.0 ≡ true
axis-leads last label all r e =
    let count = bind_ok (line_read last (count_in label) all) (λ count. paths_read last count.0 count.1) r e in
    paths-lead last count.0.0 count.0.1 r count.2
