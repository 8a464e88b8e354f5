-- What a search of teams hands over.
use Rattle.std.proofs.Common.{◌≡◌, ◌≢◌, ℕ, ◌+◌, ◌<◌, ◌≤◌, inl, inr, List, [], ◌∷◌, ◌++◌, map, length, arith, ap, sym, subst, ◌∙◌, append-nil}
use Rattle.sf_search.proofs.Common.{AllByRecursion, All-from_recursion, recursion_from_All, IsPermutation-sym, All-permutation, cases_lt, nil_from_length, sum_by-cons, Design, Stretch, Part, Parts, root, IsSubproblem, ArePartsOf, each-left, each-map, Entry, IsConserved, Mark, marks, AllNameFirst, IsValid, unnamed, unnamed_mark, unnamed-marks, marks-good, each-unmap, least, decided, SplitsFirst, AllSplitFirst, mark_of, open_mark, AreTold, waits, all_waits, IsLeg, AreLeftOpen, tags_in, full, root-subproblem, Cert, IsFound}
use Rattle.sf_model.proofs.Each.{Some}
use Rattle.sf_count.specs.Given.{full_of}
use Rattle.sf_count.proofs.Given.{given-few}
use Rattle.sf_pieces.specs.declared.piece.Piece.{Piece}
use Rattle.sf_pieces.specs.Searched.{IsAssembled, IsSearched}
use Rattle.sf_rounds.specs.declared.leaving.Opened.{Opened}
use Rattle.sf_rounds.specs.declared.legs.Leg.{Leg}
use Rattle.sf_rounds.specs.declared.found.Found.{Found}
use Rattle.sf_search.proofs.Handed.{splits-named}
use Rattle.sf_search.proofs.SplitMarks.{told-first}
use Rattle.sf_rounds.proofs.Told.{told-both, told-count}

-- where the least of a number and of bounds lies below it, there is one
some-below : (bound : Parts → ℕ) (n : ℕ) (left : List Parts) → least n (map bound left) < n → left ≢ []
some-below bound n [] h e = absurd (omega (arith, h))
some-below bound n (x ∷ xs) h e = absurd (let k = ap length e in omega (arith, k))

-- what holds of each holds of one of them
each-some : (P : Parts → Type 0) (x : Parts) (xs : List Parts) → AllByRecursion P xs → Some (λ y. y ≡ x) xs → P x
each-some P x [] all here = absurd here
each-some P x (y ∷ ys) all here = elim here [ inl e ↦ subst P e all.0 | inr there ↦ each-some P x ys all.1 there ]

module _ (design : Design) (bound : Parts → ℕ) (part : Parts → Part → ℕ) (parts : ArePartsOf design bound part) where
  -- the pieces of what was decided have as many tags as there are entries
  pub counted : (given : List Stretch) (value nodes : ℕ) (leg : Leg) (h : IsLeg design bound part given value nodes leg) → tags_in leg.pieces.items ≡ length h.gone.entries
  counted given value nodes leg h = (let n = told-count design part leg.value h.gone.entries [] leg.pieces.items h.gone.told in omega (arith, n))

  -- so they are no more than the budget
  pub few-tags : (given : List Stretch) (value nodes : ℕ) (leg : Leg) → IsLeg design bound part given value nodes leg → tags_in leg.pieces.items ≤ nodes
  few-tags given value nodes leg h = (let f = h.few in omega (arith, counted given value nodes leg h, f))

  module _ (whole : Stretch) (value nodes : ℕ) (leg : Leg) (opened : Opened) (pieces : List Piece) (one : waits design whole ≡ root design ∷ []) (h : IsLeg design bound part (whole ∷ []) value nodes leg)
      (o : AreLeftOpen design bound part leg.value leg.left.items opened) (e : pieces ≡ leg.pieces.items ++ opened.pieces.items) where
    -- what is left open
    abbrev left : List Parts
    left = all_waits design leg.left.items

    -- what was decided
    abbrev entries : List Entry
    entries = h.gone.entries

    -- the search was from the root
    from-root : IsConserved bound (root design ∷ []) entries left
    from-root = subst (λ ns. IsConserved bound ns entries left) (append-nil (waits design whole) ∙ one) h.gone.conserved

    -- the pieces of both tell what was decided and what is left open
    pub searched : IsSearched design bound part leg.value opened.bound pieces entries left
    searched = record {
      parts = parts;
      conserved = from-root;
      told = subst (AreTold design part leg.value entries left) (sym e) (subst (λ es. AreTold design part leg.value es left (leg.pieces.items ++ opened.pieces.items)) (append-nil entries)
          (told-both design part leg.value entries [] leg.pieces.items [] left opened.pieces.items h.gone.told (o.told leg.value)));
      fresh = h.gone.fresh;
      lowest = o.lowest;
    }

    module _ (cert : Cert) (made : IsAssembled design bound part entries left leg.best leg.value opened.bound cert) where
      -- what was decided are subproblems
      decided-good : AllByRecursion (IsSubproblem design) (map (λ (e : Entry). e.node) entries)
      decided-good =
          let Good : Mark → Type 0 = λ m. IsSubproblem design m.node in
          let top = root design ∷ [] in
          let ms = marks top (map unnamed cert.tags) in
          let given = map mark_of entries ++ map open_mark left in
          let all : AllByRecursion Good ms = subst (AllByRecursion Good) (sym (unnamed-marks top cert.tags)) (each-map Good unnamed_mark (marks top cert.tags) (marks-good design part cert.cost top cert.tags made.valid.tree (root-subproblem design, tt))) in
          each-map (IsSubproblem design) (λ (e : Entry). e.node) entries
          (each-unmap Good mark_of entries
          (each-left Good (map mark_of entries) (map open_mark left)
          (recursion_from_All Good given (All-permutation Good ms given (IsPermutation-sym given ms made.placed) (All-from_recursion Good ms all)))))

      -- these and what is left open are no more than there are subproblems
      few-all : length entries + length left ≤ full design
      few-all =
          let few = given-few design bound (root design ∷ []) entries left from-root h.gone.splits (λ n some. each-some (IsSubproblem design) n (map (λ (e : Entry). e.node) entries) decided-good some) in
          omega (arith, few, sum_by-cons (full_of design) (root design) [])

      -- where something is left open, the budget is spent
      spent-open : left ≢ [] → length entries ≡ nodes
      spent-open some = h.spent (λ none. some (ap (all_waits design) none))

      -- a budget of all subproblems leaves nothing open
      none-open : full design ≤ nodes → left ≡ []
      none-open large = elim (cases_lt 0 (length left)) [
        | inl some ↦ absurd (omega (arith, some, large, few-all, spent-open (λ none. absurd (let n = ap length none in omega (arith, some, n)))))
        | inr none ↦ nil_from_length left (omega (arith, none))
      ]

      -- what the search hands over
      pub found-is : (found : Found) → found.cert ≡ cert → found.plan ≡ leg.best → found.cost ≡ leg.value → found.bound ≡ opened.bound → found.decided ≡ length entries → IsFound design bound part nodes found
      found-is found same plan cost low count =
          let top = root design ∷ [] in
          let P : Mark → Type 0 = λ mark. SplitsFirst design mark.tag mark.node in
          record {
            valid = subst (IsValid design bound part) (sym same) made.valid;
            blocks = ap (λ (c : Cert). c.blocks) same ∙ made.blocks;
            plan_is = plan ∙ sym (ap (λ (c : Cert). c.plan) same ∙ made.plan_is);
            cost_is = cost ∙ sym (ap (λ (c : Cert). c.cost) same ∙ made.cost_is);
            bound_is = low ∙ sym (ap (λ (c : Cert). c.bound) same ∙ made.bound_is);
            paths_is = ap (λ (c : Cert). c.paths) same ∙ made.paths_is;
            decided_is = count ∙ sym (ap (λ (c : Cert). decided c.tags) same ∙ made.counted);
            few = omega (arith, count, h.few);
            spent = λ below. count ∙ spent-open (some-below bound leg.value left (subst (λ n. n < leg.value) o.lowest (subst (λ n. opened.bound < n) cost (subst (λ n. n < found.cost) low below))));
            splits = subst (λ (c : Cert). AllSplitFirst design c.tags) (sym same)
                (All-from_recursion P (marks top cert.tags) (splits-named design top cert.tags (recursion_from_All P (marks top (map unnamed cert.tags)) (told-first design entries left (marks top (map unnamed cert.tags)) h.gone.splits made.placed))));
            full_is = omega (arith, count, few-all);
            ended = λ large. low ∙ o.lowest ∙ ap (λ (ns : List Parts). least leg.value (map bound ns)) (none-open large) ∙ sym cost;
            named = subst (λ (c : Cert). AllNameFirst design part c.cost c.tags) (sym same) (subst (λ z. AllNameFirst design part z cert.tags) (sym made.cost_is) made.named);
          }
