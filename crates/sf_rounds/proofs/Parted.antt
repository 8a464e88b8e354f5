-- Stretches and their parts.
use Rattle.std.proofs.Common.{◌≡◌, ℕ, ◌≤◌, List, [], ◌∷◌, ◌++◌, length, All, ap, sym, ◌∙◌, subst, refl, arith, append-nil, append_assoc, length-append}
use Rattle.sf_rounds.proofs.Common.{Some, None, IsPermutation, flat_map-append, length_permutation, sum_by-IsPermutation, All-nil, All-cons, All-append, All-head, All-tail, Design, Stretch, Parts, IsStretch, on_stretch, waits, all_waits, AddsParts, AreParts, IsCut, nodes-permute}
use Rattle.sf_rounds.proofs.Whole.{stretches-weigh}

module _ (design : Design) (bound : Parts → ℕ) where
  -- stretches in another order stand for the same subproblems
  waits-permuted : (old new : List Stretch) → IsPermutation old new → IsPermutation (all_waits design old) (all_waits design new)
  waits-permuted old new p =
      nodes-permute (all_waits design old) (all_waits design new)
      (λ w. omega (arith, stretches-weigh design w old, stretches-weigh design w new, sum_by-IsPermutation (on_stretch design w) old new p))

  -- a stretch that can't be cut stays one
  pub cut-none : (s : Stretch) → IsStretch design bound s → IsCut design bound s s None
  cut-none s is = record { are = All-cons (IsStretch design bound) s [] is (All-nil (IsStretch design bound)); same = sym (append-nil (waits design s)) }

  -- these are some first ones, cut into parts
  pub record IsParting (done : List Stretch) (parts : List Stretch) : Type 0 where
    pub are : All (IsStretch design bound) parts
    pub many : length done ≤ length parts
    pub same : all_waits design done ≡ all_waits design parts

  -- before the first
  pub parting-none : (parts : List Stretch) → parts ≡ [] → IsParting [] parts
  parting-none parts e = subst (IsParting []) (sym e) (record { are = All-nil (IsStretch design bound); many = omega arith; same = refl })

  -- one more
  pub parting-more : (done parts new : List Stretch) (s : Stretch) → IsParting done parts → AddsParts design bound s parts new → IsParting (done ++ s ∷ []) new
  parting-more done parts new s h a =
      subst (IsParting (done ++ s ∷ [])) (sym a.added)
      (record {
        are = All-append (IsStretch design bound) parts a.parts h.are a.are;
        many = omega (arith, h.many, a.some, length-append done (s ∷ []), length-append parts a.parts);
        same = flat_map-append (waits design) done (s ∷ []) ∙ ap (λ z. all_waits design done ++ z) (append-nil (waits design s) ∙ a.same) ∙ ap (λ z. z ++ all_waits design a.parts) h.same
            ∙ sym (flat_map-append (waits design) parts a.parts);
      })

  -- all of them, which were sorted before
  pub parting-done : (old sorted parts : List Stretch) → IsPermutation old sorted → IsParting sorted parts → AreParts design bound old parts
  parting-done old sorted parts p h = record {
    are = h.are;
    many = omega (arith, h.many, length_permutation old sorted p);
    same = subst (IsPermutation (all_waits design old)) h.same (waits-permuted old sorted p);
  }

  -- some parts of the stretch are added, and this is the rest
  pub record IsAdding (stretch : Stretch) (old now : List Stretch) (rest : Stretch) : Type 0 where
    pub parts : List Stretch
    pub added : now ≡ old ++ parts
    pub are : All (IsStretch design bound) parts
    pub rest_is : IsStretch design bound rest
    pub same : waits design stretch ≡ all_waits design parts ++ waits design rest

  -- one cut more
  pub adding-more : (stretch : Stretch) (old now new : List Stretch) (rest first other : Stretch) → IsAdding stretch old now rest → IsCut design bound rest first (Some other) → new ≡ now ++ first ∷ [] → IsAdding stretch old new other
  adding-more stretch old now new rest first other h c e =
      let P = IsStretch design bound in
      record {
        parts = h.parts ++ first ∷ [];
        added = e ∙ ap (λ z. z ++ first ∷ []) h.added ∙ append_assoc old h.parts (first ∷ []);
        are = All-append P h.parts (first ∷ []) h.are (All-cons P first [] (All-head P first (other ∷ []) c.are) (All-nil P));
        rest_is = second first other c.are;
        same = h.same ∙ ap (λ z. all_waits design h.parts ++ z) c.same ∙ ap (λ z. all_waits design h.parts ++ (waits design first ++ z)) (append-nil (waits design other))
            ∙ sym (append_assoc (all_waits design h.parts) (waits design first) (waits design other))
            ∙ ap (λ z. (all_waits design h.parts ++ z) ++ waits design other) (sym (append-nil (waits design first)))
            ∙ ap (λ z. z ++ waits design other) (sym (flat_map-append (waits design) h.parts (first ∷ [])));
      }
    where
      second : (x y : Stretch) → All (IsStretch design bound) (x ∷ y ∷ []) → IsStretch design bound y
      second x y all = All-head (IsStretch design bound) y [] (All-tail (IsStretch design bound) x (y ∷ []) all)

  -- the rest is added as it is
  pub adding-done : (stretch : Stretch) (old now new : List Stretch) (rest : Stretch) → IsAdding stretch old now rest → new ≡ now ++ rest ∷ [] → AddsParts design bound stretch old new
  adding-done stretch old now new rest h e =
      let P = IsStretch design bound in
      record {
        parts = h.parts ++ rest ∷ [];
        added = e ∙ ap (λ z. z ++ rest ∷ []) h.added ∙ append_assoc old h.parts (rest ∷ []);
        are = All-append P h.parts (rest ∷ []) h.are (All-cons P rest [] h.rest_is (All-nil P));
        some = omega (arith, length-append h.parts (rest ∷ []));
        same = h.same ∙ ap (λ z. all_waits design h.parts ++ z) (sym (append-nil (waits design rest))) ∙ sym (flat_map-append (waits design) h.parts (rest ∷ []));
      }

  -- so is what could not be cut
  pub adding-whole : (stretch : Stretch) (old now new : List Stretch) (rest first : Stretch) → IsAdding stretch old now rest → IsCut design bound rest first None → new ≡ now ++ first ∷ [] → AddsParts design bound stretch old new
  adding-whole stretch old now new rest first h c e =
      adding-done stretch old now new first (record {
        parts = h.parts;
        added = h.added;
        are = h.are;
        rest_is = All-head (IsStretch design bound) first [] c.are;
        same = h.same ∙ ap (λ z. all_waits design h.parts ++ z) (c.same ∙ append-nil (waits design first));
      }) e
