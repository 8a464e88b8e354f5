-- Lines of paths, and the words of a line, read one after another.
use Rattle.std.proofs.Common.{◌≡◌, ℕ, suc, ◌+◌, ◌-◌, ◌<◌, List, [], ◌∷◌, ◌++◌, arith, refl, ap, sym, ◌∙◌, append_assoc, append-nil, Option, Some, None, Result, Ok, Err}
use Rattle.sf_lex.specs.Results.{◌>>=◌}
use Rattle.sf_cert_text.proofs.Common.{words, is_blank_byte, Line, CertFault, Path, path_in, step_in, with_step, steps_said, line_read, paths_read, Step}

-- steps in front of those that words say
abbrev pub steps_before : List Step → Option (List Step) → Option (List Step)
steps_before done None = None
steps_before done (Some steps) = Some (done ++ steps)

-- one step more in front
step-moved : (done : List Step) (s : Step) (more : Option (List Step)) → steps_before done (with_step (Some s) more) ≡ steps_before (done ++ s ∷ []) more
step-moved done s None = refl
step-moved done s (Some steps) = ap (λ (ss : List Step). Some ss) (sym (append_assoc done (s ∷ []) steps))

-- a line whose steps are read in turn
abbrev pub IsSaying : List ℕ → List Step → List ℕ → Type 0
IsSaying line done rest = steps_before done (steps_said (words is_blank_byte rest)) ≡ steps_said (words is_blank_byte line)

module _ (line : List ℕ) (done : List Step) (rest : List ℕ) (saying : IsSaying line done rest) where
  -- a net and a pin more
  pub saying-more : (net to after behind : List ℕ) (s : Step) → words is_blank_byte rest ≡ net ∷ words is_blank_byte after → words is_blank_byte after ≡ to ∷ words is_blank_byte behind → Some s ≡ step_in net to (words is_blank_byte behind) → IsSaying line (done ++ s ∷ []) behind
  saying-more net to after behind s e f g =
      sym (step-moved done s (steps_said (words is_blank_byte behind)))
      ∙ ap (λ o. steps_before done (with_step o (steps_said (words is_blank_byte behind)))) g
      ∙ sym (ap (λ ws. steps_before done (steps_said ws)) (e ∙ ap (λ (ws : List (List ℕ)). net ∷ ws) f))
      ∙ saying

-- ---- lines

-- paths in front of those that lines say
abbrev pub paths_before : List Path → Result (List Path × List Line) CertFault → Result (List Path × List Line) CertFault
paths_before done (Ok r) = Ok (done ++ r.0, r.1)
paths_before done (Err e) = Err e

-- so many lines are read, of which so many are
abbrev pub IsReading : ℕ → ℕ → List Line → List Path → ℕ → List Line → Type 0
IsReading last count all done at rest = paths_before done (paths_read last (count - at) rest) ≡ paths_read last count all

-- one path more in front
path-moved : (done : List Path) (path : Path) (r : Result (List Path × List Line) CertFault) → paths_before done (r >>= λ others. Ok (path ∷ others.0, others.1)) ≡ paths_before (done ++ path ∷ []) r
path-moved done path (Ok r) = ap (λ (ps : List Path). Ok (ps, r.1)) (sym (append_assoc done (path ∷ []) r.0))
path-moved done path (Err e) = refl

-- the lines of one path and of those behind it
paths-one : (last n : ℕ) (all : List Line) (path : Path) (rest : List Line) → line_read last path_in all ≡ Ok (path, rest) → paths_read last (suc n) all ≡ (paths_read last n rest >>= λ others. Ok (path ∷ others.0, others.1))
unfolding paths_read
paths-one last n all path rest e = rw e refl

-- a line at fault
paths-fault : (last n : ℕ) (all : List Line) (e : CertFault) → line_read last path_in all ≡ Err e → paths_read last (suc n) all ≡ Err e
unfolding paths_read
paths-fault last n all e h = rw h refl

-- none is left
paths-none : (last : ℕ) (all : List Line) → paths_read last 0 all ≡ Ok ([], all)
unfolding paths_read
paths-none last all = refl

module _ (last count : ℕ) (all : List Line) (done : List Path) (at : ℕ) (rest : List Line) (reading : IsReading last count all done at rest) where
  -- a line more
  pub reading-more : (path : Path) (behind : List Line) → at < count → line_read last path_in rest ≡ Ok (path, behind) → IsReading last count all (done ++ path ∷ []) (at + 1) behind
  reading-more path behind lt e =
      let next : count - at ≡ suc (count - (at + 1)) = omega (arith, lt) in
      sym (path-moved done path (paths_read last (count - (at + 1)) behind))
      ∙ ap (paths_before done) (sym (paths-one last (count - (at + 1)) rest path behind e))
      ∙ ap (λ n. paths_before done (paths_read last n rest)) (sym next)
      ∙ reading

  -- a line at fault
  pub reading-fault : (e : CertFault) → at < count → line_read last path_in rest ≡ Err e → paths_read last count all ≡ Err e
  reading-fault e lt h =
      let next : count - at ≡ suc (count - (at + 1)) = omega (arith, lt) in
      sym reading ∙ ap (λ n. paths_before done (paths_read last n rest)) next ∙ ap (paths_before done) (paths-fault last (count - (at + 1)) rest e h)

  -- no line more
  pub reading-done : at ≡ count → paths_read last count all ≡ Ok (done, rest)
  reading-done e =
      let none : count - at ≡ 0 = omega (arith, e) in
      sym reading ∙ ap (λ n. paths_before done (paths_read last n rest)) none ∙ ap (paths_before done) (paths-none last rest) ∙ ap (λ (ps : List Path). Ok (ps, rest)) (append-nil done)
