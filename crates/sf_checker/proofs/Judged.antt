-- What is found, tag by tag.
use Rattle.std.proofs.Common.{◌≡◌, ◌⊎◌, inl, inr, ℕ, suc, ◌+◌, ◌<◌, length, false, List, [], ◌∷◌, ◌++◌, take, drop, get_or, arith, refl, ap, sym, subst, ◌∙◌, append_assoc, Option, Some, None, Result, Ok, Err, ◌≢◌}
use Rattle.sf_checker.proofs.Common.{drop-cons, take-suc, take-append-drop, MatchOption, is_some, Design, block_count, Part, Parts, root, Cert, Tag, Why, BadPlan, CostDiffers, BoundDiffers, IsPlanRight, IsBadPlan, IsOtherCost, IsFirst, IsRight, Progress, visited, walked, and_then, start, Stand, Judged, IsFound, progress_of}
use Rattle.sf_checker.proofs.Answered.{answer-yes, answer-bound}
use Rattle.sf_checker.proofs.Walks.{walked-append, walked-one}

-- where nothing failed, the plan is right and the walk went over the tags
pub found-none : (design : Design) (bound : Parts → ℕ) (part : Parts → Part → ℕ) (cert : Cert) (tags : List Tag) (judge : Judged) → judge.found ≡ None → IsFound design bound part cert tags judge
    → IsPlanRight design cert × (walked bound part cert.cost (start (root design) cert.cost) tags ≡ Ok (progress_of design judge.walk))
found-none design bound part cert tags judge none found =
    subst (λ o. MatchOption o (IsPlanRight design cert × (walked bound part cert.cost (start (root design) cert.cost) tags ≡ Ok (progress_of design judge.walk))) (IsFirst design bound part cert)) none found

module _ (design : Design) (bound : Parts → ℕ) (part : Parts → Part → ℕ) (cert : Cert) (tags more : List Tag) (tag : Tag) (old : Judged) (found : IsFound design bound part cert tags old) where
  module _ (cost : ℕ) (none : old.found ≡ None) (same : cert.cost ≡ cost) (is : cert.tags ≡ tags ++ tag ∷ more) where
    -- so far the plan is right and the walk went over the tags
    so-far : IsPlanRight design cert × (walked bound part cert.cost (start (root design) cert.cost) tags ≡ Ok (progress_of design old.walk))
    so-far = found-none design bound part cert tags old none found

    -- the walk over one tag more
    one-more : (r : Result Progress Why) → visited bound part cost (progress_of design old.walk) (progress_of design old.walk).waiting tag ≡ r → walked bound part cert.cost (start (root design) cert.cost) (tags ++ tag ∷ []) ≡ r
    one-more r e =
        walked-append bound part cert.cost tags (tag ∷ []) (start (root design) cert.cost)
        ∙ ap (λ w. and_then w (λ next. walked bound part cert.cost next (tag ∷ []))) so-far.1
        ∙ walked-one bound part cert.cost (progress_of design old.walk) tag r (subst (λ z. visited bound part z (progress_of design old.walk) (progress_of design old.walk).waiting tag ≡ r) (sym same) e)

    -- the tag may stand where it stands
    pub found-next : (new : Judged) → new.found ≡ None → visited bound part cost (progress_of design old.walk) (progress_of design old.walk).waiting tag ≡ Ok (progress_of design new.walk) → IsFound design bound part cert (tags ++ tag ∷ []) new
    found-next new f e =
        subst (λ o. MatchOption o (IsPlanRight design cert × (walked bound part cert.cost (start (root design) cert.cost) (tags ++ tag ∷ []) ≡ Ok (progress_of design new.walk))) (IsFirst design bound part cert)) (sym f)
        (so-far.0, one-more (Ok (progress_of design new.walk)) e)

    -- the tag is the first failure
    pub found-fault : (why : Why) → visited bound part cost (progress_of design old.walk) (progress_of design old.walk).waiting tag ≡ Err why → IsFirst design bound part cert why
    found-fault why e =
        let all : cert.tags ≡ (tags ++ tag ∷ []) ++ more = is ∙ sym (append_assoc tags (tag ∷ []) more) in
        inr (inr (inl (record {
          plan = so-far.0;
          found = ap (walked bound part cert.cost (start (root design) cert.cost)) all
              ∙ walked-append bound part cert.cost (tags ++ tag ∷ []) more (start (root design) cert.cost)
              ∙ ap (λ w. and_then w (λ next. walked bound part cert.cost next more)) (one-more (Err why) e);
        })))

-- ---- the plan

-- ---- the answer

module _ (design : Design) (bound : Parts → ℕ) (part : Parts → Part → ℕ) (cert : Cert) (judge : Judged) (blocks : cert.blocks ≡ block_count design) (none : judge.found ≡ None) (found : IsFound design bound part cert cert.tags judge)
    (cost stated : ℕ) (cost_is : cert.cost ≡ cost) (stated_is : cert.bound ≡ stated) where
  -- the walk ended with the stated bound
  pub judged-yes : (count : ℕ) → judge.walk.low ≡ stated → count ≡ judge.walk.decided → IsRight design bound part cert cost stated count
  judged-yes count low is =
      let f = found-none design bound part cert cert.tags judge none found in
      let right = answer-yes design bound part cert (progress_of design judge.walk) count blocks f.0 f.1 (low ∙ sym stated_is) is in
      record { valid = right.valid; cost = sym cost_is; bound_is = sym stated_is; count_is = right.count_is }

  -- the walk ended with another bound
  pub judged-bound : (is : ℕ) → is ≡ judge.walk.low → stated ≢ is → IsFirst design bound part cert (BoundDiffers stated is)
  judged-bound is low differs =
      let f = found-none design bound part cert cert.tags judge none found in
      inr (inr (inr (is, ap (λ b. BoundDiffers b is) (sym stated_is), answer-bound design bound part cert (progress_of design judge.walk) is blocks f.0 f.1 low (λ e. differs (sym stated_is ∙ e)))))

-- ---- before the first tag and after the next

-- a walk over no tags stays where it is
walked-none : (bound : Parts → ℕ) (part : Parts → Part → ℕ) (cost : ℕ) (walk : Progress) → walked bound part cost walk [] ≡ Ok walk
unfolding walked
walked-none bound part cost walk = refl

-- before the first tag: what is found of the plan
pub found-start : (design : Design) (bound : Parts → ℕ) (part : Parts → Part → ℕ) (cert : Cert) (walk : Stand) (cost : ℕ) (fault : Option Why)
    → MatchOption fault (IsPlanRight design cert) (λ why. ((why ≡ BadPlan) × IsBadPlan design cert) ⊎ ((is : ℕ) × (why ≡ CostDiffers cert.cost is) × IsOtherCost design cert is))
    → progress_of design walk ≡ start (root design) cost → cert.cost ≡ cost
    → MatchOption fault (IsPlanRight design cert × (walked bound part cert.cost (start (root design) cert.cost) [] ≡ Ok (progress_of design walk))) (IsFirst design bound part cert)
found-start design bound part cert walk cost None right e same =
    (right, walked-none bound part cert.cost (start (root design) cert.cost) ∙ ap Ok (ap (start (root design)) same ∙ sym e))
found-start design bound part cert walk cost (Some why) (inl bad) e same = inl bad
found-start design bound part cert walk cost (Some why) (inr other) e same = inr (inl other)

-- what is found not to be there is not
pub none-of : (o : Option Why) → is_some o ≡ false → o ≡ None
none-of None e = refl
none-of (Some why) e = absurd (cc)

-- among the tags before a run, those of the run and those behind it: the tags before a place of the run, the tag there and those behind it
pub at-tag : (before tags after : List Tag) (i : ℕ) (d : Tag) → i < length tags → before ++ (tags ++ after) ≡ (before ++ take i tags) ++ get_or tags i d ∷ (drop (suc i) tags ++ after)
at-tag before tags after i d h =
    let here : tags ≡ take i tags ++ get_or tags i d ∷ drop (suc i) tags = sym (take-append-drop i tags) ∙ ap (λ ts. take i tags ++ ts) (drop-cons tags i d h) in
    ap (λ ts. before ++ (ts ++ after)) here ∙ ap (λ ts. before ++ ts) (append_assoc (take i tags) (get_or tags i d ∷ drop (suc i) tags) after)
    ∙ sym (append_assoc before (take i tags) (get_or tags i d ∷ (drop (suc i) tags ++ after)))

-- the tags up to a place of the run and the one there
pub past-tag : (before tags : List Tag) (i : ℕ) (d : Tag) → i < length tags → (before ++ take i tags) ++ get_or tags i d ∷ [] ≡ before ++ take (i + 1) tags
past-tag before tags i d h =
    let more : suc i ≡ i + 1 = omega arith in
    append_assoc before (take i tags) (get_or tags i d ∷ []) ∙ ap (λ ts. before ++ ts) (sym (take-suc tags i d h) ∙ ap (λ k. take k tags) more)
