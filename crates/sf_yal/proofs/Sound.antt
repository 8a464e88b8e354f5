-- Statements without a fault, and the first fault, as reading finds them.
use Rattle.std.proofs.Common.{◌≡◌, ℕ, List, [], ◌∷◌, ◌++◌, Option, Some, None, Result, Ok, Err, refl, sym, ap, subst, ◌∙◌, append_assoc}
use Rattle.sf_yal.proofs.Common.{fold, fold-append, YalFault, ◌>>=◌, Statement, Worded, worded_in, worded, Cut, fault_at, AreSound, FirstFault, Reading, after_words, after_statements}
use Rattle.sf_yal.proofs.Cuts.{step, nothing_cut, cut_of, are_cut, is_the_cut}
use Rattle.sf_yal.proofs.Views.{view, answer, says}
use Rattle.sf_yal.proofs.Results.{Tells, tells_as}

module _ (scale : ℕ) where
  -- what is said after statements that have words
  abbrev pub after_all : Reading → List Worded → Result Reading YalFault
  after_all r [] = Ok r
  after_all r (s ∷ more) = after_words scale r s.line (s.first ∷ s.more) >>= λ next. after_all next more

  -- a statement with or without words, and those that follow
  words_then : (r : Reading) (line : ℕ) (words : List (List ℕ)) (more : List Statement) → ((next : Reading) → after_statements scale next more ≡ after_all next (worded more))
      → (after_words scale r line words >>= λ next. after_statements scale next more) ≡ after_all r (worded_in line words ++ worded more)
  words_then r line [] more same = same r
  words_then r line (first ∷ words) more same = λ i. after_words scale r line (first ∷ words) >>= λ next. same next i

  -- the others say nothing
  pub words_alone : (r : Reading) (all : List Statement) → after_statements scale r all ≡ after_all r (worded all)
  unfolding after_statements
  words_alone r [] = refl
  words_alone r (s ∷ more) = words_then r s.line s.words more (λ next. words_alone next more)

  -- none of the statements behind a cut has a fault
  abbrev pub Sound : Cut → List Worded → Type 0
  Sound c [] = Unit {0}
  Sound c (s ∷ more) = (fault_at scale c s ≡ None) × Sound (step c s) more

  -- the first fault of the statements behind a cut
  pub record Fails (c : Cut) (all : List Worded) (fault : YalFault) : Type 0 where
    pub before : List Worded
    pub s : Worded
    pub after : List Worded
    pub all_are : all ≡ before ++ s ∷ after
    pub sound : Sound c before
    pub faulty : fault_at scale (fold step c before) s ≡ Some fault

  -- a statement is read by its fault
  first_read : (c : Cut) (s : Worded) (more : List Worded) (f : Option YalFault) → fault_at scale c s ≡ f → after_all (view scale c) (s ∷ more) ≡ (answer f (view scale (step c s)) >>= λ next. after_all next more)
  first_read c s more f e = ap (λ (read : Result Reading YalFault). read >>= λ next. after_all next more) (says scale c s ∙ ap (λ (f : Option YalFault). answer f (view scale (step c s))) e)

  -- what is read of statements without a fault is seen in their cut, and the fault that is read is the first
  abbrev Told : Cut → List Worded → Result Reading YalFault → Type 0
  Told c all = Tells (λ r. Sound c all × (r ≡ view scale (fold step c all))) (Fails c all)

  -- by the fault of the first
  told_by : (c : Cut) (s : Worded) (more : List Worded) (f : Option YalFault) → fault_at scale c s ≡ f
      → Told (step c s) more (after_all (view scale (step c s)) more) → Told c (s ∷ more) (after_all (view scale c) (s ∷ more))
  told_by c s more None e rest =
      subst (Told c (s ∷ more)) (sym (first_read c s more None e)) (tells_as _ _ _ _ (after_all (view scale (step c s)) more) rest (λ r sound. ((e, sound.0), sound.1))
      (λ g k. record { before = s ∷ k.before; s = k.s; after = k.after; all_are = ap (λ (xs : List Worded). s ∷ xs) k.all_are; sound = (e, k.sound); faulty = k.faulty }))
  told_by c s more (Some f) e rest =
      subst (Told c (s ∷ more)) (sym (first_read c s more (Some f) e)) (record { before = []; s = s; after = more; all_are = refl; sound = tt; faulty = e })

  -- so it is of all
  pub all_told : (c : Cut) (all : List Worded) → Told c all (after_all (view scale c) all)
  all_told c [] = (tt, refl)
  all_told c (s ∷ more) = told_by c s more (fault_at scale c s) refl (all_told (step c s) more)

  -- statements without a fault are read before the others
  pub sound_on : (c : Cut) (before after : List Worded) → Sound c before → after_all (view scale c) (before ++ after) ≡ after_all (view scale (fold step c before)) after
  sound_on c [] after sound = refl
  sound_on c (s ∷ before) after sound = first_read c s (before ++ after) None sound.0 ∙ sound_on (step c s) before after sound.1

  -- ---- by any cut of them

  -- no fault at a place
  sound_at : (c : Cut) (before : List Worded) (s : Worded) (after : List Worded) → Sound c (before ++ s ∷ after) → fault_at scale (fold step c before) s ≡ None
  sound_at c [] s after sound = sound.0
  sound_at c (x ∷ before) s after sound = sound_at (step c x) before s after sound.1

  -- statements read without a fault have none by any cut
  pub are_sound : (all : List Worded) → Sound nothing_cut all → AreSound scale all
  are_sound all sound before after s c text cut =
      subst (λ (c : Cut). fault_at scale c s ≡ None) (is_the_cut before c cut) (sound_at nothing_cut before s after (subst (λ (xs : List Worded). Sound nothing_cut xs) text sound))

  -- and the other way round
  pub sound_behind : (before more : List Worded) → AreSound scale (before ++ more) → Sound (cut_of before) more
  sound_behind before [] sound = tt
  sound_behind before (s ∷ more) sound = (
    sound before more s (cut_of before) refl (are_cut before),
    subst (λ (c : Cut). Sound c more) (fold-append step nothing_cut before (s ∷ []))
        (sound_behind (before ++ s ∷ []) more (subst (λ (xs : List Worded). AreSound scale xs) (sym (append_assoc before (s ∷ []) more)) sound)),
  )

  -- the first fault that is read is the first by a cut
  pub first_fault : (all : List Worded) (f : YalFault) → Fails nothing_cut all f → FirstFault scale all f
  first_fault all f fails = record {
    before = fails.before;
    s = fails.s;
    after = fails.after;
    statements_are = fails.all_are;
    sound = are_sound fails.before fails.sound;
    cut = cut_of fails.before;
    are_cut = are_cut fails.before;
    faulty = fails.faulty;
  }

  -- and the other way round
  pub first_fault_read : (all : List Worded) (f : YalFault) → FirstFault scale all f → after_all (view scale nothing_cut) all ≡ Err f
  first_fault_read all f first =
      ap (after_all (view scale nothing_cut)) first.statements_are ∙ sound_on nothing_cut first.before (first.s ∷ first.after) (sound_behind [] first.before first.sound)
      ∙ first_read (cut_of first.before) first.s first.after (Some f) (ap (λ (c : Cut). fault_at scale c first.s) (is_the_cut first.before first.cut first.are_cut) ∙ first.faulty)
