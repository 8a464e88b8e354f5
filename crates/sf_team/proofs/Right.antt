-- Answers to messages, and what the caller knows of them.
use Rattle.std.proofs.Common.{◌≡◌, ℕ, zero, suc, List, [], ◌∷◌, ◌++◌, refl, ap, ◌∙◌, sym, subst, ⊎_elim, arith, length, Contains, slice_get, Some, Option, slice_index_or, MatchResult, Result, Ok, Err}
use Rattle.sf_team.proofs.Common.{Contains-append_left, Contains-append_right, Contains-append_cases, arc_value, Message, Work, Stop, Done, Hand, IsMessageOf, IsAnswerTo, AreAnswers, ComesTo, AreRight, AreAmong, IsCaller, hand}
use Rattle.sf_team.specs.declared.message.Numbered.{Numbered}

-- what is in a list of one element
only : {X : Type 0} (P : X → Type 0) (x y : X) → P x → Contains (x ∷ []) y → P y
only P x y p c = let e : c.0 ≡ 0 = let h = c.1 in omega arith in subst P (ap (λ k. slice_index_or (x ∷ []) k y) (sym e) ∙ c.2) p

module _ {J D : Type 0} (gives : J → Option D → Type 0) where
  -- messages more behind
  pub answers_wider : (taken more : List (Message J)) (all : List (Done D)) → AreAnswers gives taken all → AreAnswers gives (taken ++ more) all
  answers_wider taken more all h d c = let a = h d c in (a.0, Contains-append_left taken more a.0 a.1, a.2)

  -- messages more in front
  answers_wider_right : (taken more : List (Message J)) (all : List (Done D)) → AreAnswers gives more all → AreAnswers gives (taken ++ more) all
  answers_wider_right taken more all h d c = let a = h d c in (a.0, Contains-append_right taken more a.0 a.1, a.2)

  -- a message and its answer more
  answers_more : (taken : List (Message J)) (all : List (Done D)) (x : Message J) (done : Done D) → AreAnswers gives taken all → IsAnswerTo gives x done → AreAnswers gives (taken ++ x ∷ []) (all ++ done ∷ [])
  answers_more taken all x done h a d c = ⊎_elim (λ b. answers_wider taken (x ∷ []) all h d b)
      (λ b. (x, Contains-append_right taken (x ∷ []) x (0, omega arith, refl), only (IsAnswerTo gives x) done d a b)) (Contains-append_cases all (done ∷ []) d c)

  -- an answer to a message of these jobs says what its job comes to
  right_one : (jobs : List J) (x : Message J) (d : Done D) → IsMessageOf jobs x → IsAnswerTo gives x d → ComesTo gives jobs d.number d.answer
  right_one jobs (Work numbered) d m a = (arc_value numbered.job, ap (slice_get jobs) a.0 ∙ m, a.1)
  right_one jobs Stop d m a = absurd a

  -- what the caller joins is right
  pub joined_right : (jobs : List J) (v w : Hand J) (all : List (Done D)) → IsCaller jobs v → AreAnswers gives w.taken all → AreAmong (v.taken ++ w.taken) v.sent → AreRight gives jobs all
  joined_right jobs v w all is h among d c =
      let a = answers_wider_right v.taken w.taken all h d c in right_one jobs a.0 d (is.sent a.0 (among a.0 a.1)) a.2

  -- what a worker holds after a message without an answer
  pub stopped : (v w : Hand J) (x : Message J) (old mid : List (Done D)) → AreAnswers gives v.taken old → w ≡ hand v.sends v.sent (v.taken ++ x ∷ []) → mid ≡ old → AreAnswers gives w.taken mid
  stopped v w x old mid h e is =
      subst (λ (u : Hand J). AreAnswers gives u.taken mid) (sym e) (subst (AreAnswers gives (v.taken ++ x ∷ [])) (sym is) (answers_wider v.taken (x ∷ []) old h))

  -- and after one with it
  pub worked : (v w : Hand J) (x : Message J) (numbered : Numbered J) (done : Done D) (old mid new : List (Done D)) → AreAnswers gives v.taken old → w ≡ hand v.sends v.sent (v.taken ++ x ∷ [])
      → x ≡ Work numbered → done.number ≡ numbered.number → gives (arc_value numbered.job) (Some done.answer) → mid ≡ old → new ≡ mid ++ done ∷ [] → AreAnswers gives w.taken new
  worked v w x numbered done old mid new h e is number answer same more =
      let one : IsAnswerTo gives x done = subst (λ (y : Message J). IsAnswerTo gives y done) (sym is) (number, answer) in
      let all : AreAnswers gives (v.taken ++ x ∷ []) (mid ++ done ∷ []) = subst (λ (l : List (Done D)). AreAnswers gives (v.taken ++ x ∷ []) (l ++ done ∷ [])) (sym same) (answers_more v.taken old x done h one) in
      subst (λ (u : Hand J). AreAnswers gives u.taken new) (sym e) (subst (AreAnswers gives (v.taken ++ x ∷ [])) (sym more) all)

module _ {J : Type 0} where
  -- the caller after one message more
  caller_sent : (jobs : List J) (v : Hand J) (x : Message J) → IsCaller jobs v → IsMessageOf jobs x → IsCaller jobs (hand v.sends (v.sent ++ x ∷ []) v.taken)
  caller_sent jobs v x is of = record { sends = is.sends; sent = λ y c. ⊎_elim (λ b. is.sent y b) (λ b. only (IsMessageOf jobs) x y of b) (Contains-append_cases v.sent (x ∷ []) y c) }

  -- the caller after a join
  pub caller_joined : (jobs : List J) (v w : Hand J) → IsCaller jobs v → IsCaller jobs (hand v.sends v.sent (v.taken ++ w.taken))
  caller_joined jobs v w is = record { sends = is.sends; sent = is.sent }

  -- a send that may have failed leaves the caller as one
  pub after_send : {U E : Type 0} (jobs : List J) (v w : Hand J) (x : Message J) (Q : E → Type 0) (r : Result U E) → IsCaller jobs v → IsMessageOf jobs x
      → MatchResult r (λ _. w ≡ hand v.sends (v.sent ++ x ∷ []) v.taken) (λ e. Q e × (w ≡ v)) → IsCaller jobs w
  after_send jobs v w x Q (Ok u) is of h = subst (IsCaller jobs) (sym h) (caller_sent jobs v x is of)
  after_send jobs v w x Q (Err e) is of h = subst (IsCaller jobs) (sym h.1) is

  -- a place of a list is there in a longer one
  got_more : (jobs more : List J) (k : ℕ) (j : J) → slice_get jobs k ≡ Some j → slice_get (jobs ++ more) k ≡ Some j
  got_more [] more k j e = cc
  got_more (x ∷ xs) more zero j e = e
  got_more (x ∷ xs) more (suc k) j e = got_more xs more k j e

  -- a message of some jobs is one of more jobs
  of_more : (jobs more : List J) (x : Message J) → IsMessageOf jobs x → IsMessageOf (jobs ++ more) x
  of_more jobs more (Work numbered) h = got_more jobs more numbered.number (arc_value numbered.job) h
  of_more jobs more Stop h = tt

  -- the caller of some jobs is that of more jobs
  pub caller_more : (jobs more : List J) (v : Hand J) → IsCaller jobs v → IsCaller (jobs ++ more) v
  caller_more jobs more v is = record { sends = is.sends; sent = λ x c. of_more jobs more x (is.sent x c) }

  -- the last of a list is at the place that is its length without it
  pub last_got : (jobs : List J) (j : J) → slice_get (jobs ++ j ∷ []) (length jobs) ≡ Some j
  last_got [] j = refl
  last_got (x ∷ xs) j = last_got xs j
