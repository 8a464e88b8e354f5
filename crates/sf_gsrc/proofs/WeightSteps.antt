-- Lines of a weights file one after another, as the loop takes them.
use Rattle.std.proofs.Common.{◌≡◌, ◌≢◌, ℕ, ◌<◌, ◌==◌, Bool, true, false, List, [], ◌∷◌, ◌++◌, length, map, replicate, get_or, set, take, drop, is_some, if◌then◌else◌, Option, Some, None, Result, Ok, Err, refl, sym, ap, subst, ◌∙◌, inl, inr, arith, lt-ltb, eq-eqb, ne_eqb, unwrap_or}
use Rattle.sf_gsrc.proofs.Common.{range_with_len, eqb_tells, ext_get_or, length-set, length-replicate, get_or-replicate, get_or-set_same, get_or-set_other, is_gap, Line, words, Blanks, WeightFault, content_of, or_else, ◌>>=◌, GivesWeights, NetWeight, net_in_word, number_on, two_words, weight_after, weight_in_word, weight_of, weight_said, weights_from, weights_of, weights_read, length-map-range_with_len, get_or-map-range_with_len, KeepsWeights}
use Rattle.std.proofs.lemmas.Grind.{common_steps}
use Rattle.sf_gsrc.specs.declared.fault.WeightFault.TheVariants.{BadLine, BadNumber, UnknownNet, RepeatedNet, NoMemory}
use Rattle.sf_gsrc.proofs.Results.{none_of, or_else-None}

-- ---- what is kept

-- one line more says the weight of its own net alone
weight_said-push : (earlier : List NetWeight) (s : NetWeight) (net : ℕ) → weight_said (earlier ++ s ∷ []) net ≡ or_else (weight_said earlier net) (if s.net == net then Some s.weight else None)
weight_said-push [] s net = refl
weight_said-push (e ∷ earlier) s net = by_test (e.net == net) (weight_said-push earlier s net)
  where
    by_test : (b : Bool) → weight_said (earlier ++ s ∷ []) net ≡ or_else (weight_said earlier net) (if s.net == net then Some s.weight else None)
        → (if b then Some e.weight else weight_said (earlier ++ s ∷ []) net) ≡ or_else (if b then Some e.weight else weight_said earlier net) (if s.net == net then Some s.weight else None)
    by_test true ih = refl
    by_test false ih = ih

-- the weight that is said of a net last is its weight, where none was said before
said_here : (earlier : List NetWeight) (net weight : ℕ) → weight_said earlier net ≡ None → weight_said (earlier ++ record { net = net; weight = weight } ∷ []) net ≡ Some weight
said_here earlier net weight none = weight_said-push earlier (record { net = net; weight = weight }) net ∙ rw (none, eq-eqb net net refl) refl

-- a weight that is said of another net changes nothing
said_elsewhere : (earlier : List NetWeight) (s : NetWeight) (net : ℕ) → s.net ≢ net → weight_said (earlier ++ s ∷ []) net ≡ weight_said earlier net
said_elsewhere earlier s net ne = weight_said-push earlier s net ∙ rw (ne_eqb s.net net ne) (or_else-None (weight_said earlier net))

-- what is kept of a net is what the lines say of it
pub kept_is : (nets : ℕ) (kept : List (Option ℕ)) (earlier : List NetWeight) (net : ℕ) (d : Option ℕ) → KeepsWeights nets kept earlier → net < nets → get_or kept net d ≡ weight_said earlier net
kept_is nets kept earlier net d keeps low = rw keeps (get_or-map-range_with_len (weight_said earlier) 0 nets net net d low (omega arith))

-- there is one place for each net
kept_length : (nets : ℕ) (kept : List (Option ℕ)) (earlier : List NetWeight) → KeepsWeights nets kept earlier → length kept ≡ nets
kept_length nets kept earlier keeps = ap length keeps ∙ length-map-range_with_len (weight_said earlier) 0 nets

-- before the first line
pub none_kept : (nets : ℕ) → KeepsWeights nets (replicate nets None) []
none_kept nets = ext_get_or None _ _ (length-replicate nets None ∙ sym (length-map-range_with_len (weight_said []) 0 nets))
    (λ i low. let below : i < nets = omega (arith, length-replicate {A = Option ℕ}) in
    get_or-replicate nets i None None below ∙ sym (get_or-map-range_with_len (weight_said []) 0 nets i i None below (omega arith)))

-- and with one line more
pub keeps_more : (nets : ℕ) (kept : List (Option ℕ)) (earlier : List NetWeight) (net weight : ℕ) (d : Option ℕ) → KeepsWeights nets kept earlier → net < nets → is_some (get_or kept net d) ≡ false
    → KeepsWeights nets (set kept net (Some weight)) (earlier ++ record { net = net; weight = weight } ∷ [])
keeps_more nets kept earlier net weight d keeps low new =
    let s : NetWeight = record { net = net; weight = weight } in
    let long : length kept ≡ nets = kept_length nets kept earlier keeps in
    ext_get_or None _ _ (length-set {A = Option ℕ} kept net (Some weight) ∙ long ∙ sym (length-map-range_with_len (weight_said (earlier ++ s ∷ [])) 0 nets))
    (λ i below. at i (omega (arith, long, length-set {A = Option ℕ} kept net (Some weight))))
  where
    at : (i : ℕ) → i < nets → get_or (set kept net (Some weight)) i None ≡ get_or (map (weight_said (earlier ++ record { net = net; weight = weight } ∷ [])) (range_with_len 0 nets)) i None
    at i below =
        let long : length kept ≡ nets = kept_length nets kept earlier keeps in
        let s : NetWeight = record { net = net; weight = weight } in
        let none = none_of (weight_said earlier net) (ap is_some (sym (kept_is nets kept earlier net d keeps low)) ∙ new) in
        let there = get_or-map-range_with_len (weight_said (earlier ++ s ∷ [])) 0 nets i i None below (omega arith) in
        elim (eqb_tells net i) [
          | inl e ↦ subst (λ (j : ℕ). get_or (set kept net (Some weight)) j None ≡ weight_said (earlier ++ s ∷ []) j) e.1
              (get_or-set_same kept net (Some weight) None (omega (arith, long)) ∙ sym (said_here earlier net weight none)) ∙ sym there
          | inr e ↦ let other : i ≢ net = (λ same. e.1 (sym same)) in
              get_or-set_other kept net i (Some weight) None other ∙ kept_is nets kept earlier i None keeps below ∙ sym (said_elsewhere earlier s i e.1) ∙ sym there
        ]

-- ---- one line

-- a line of two words that begins with the number of a net gives its weight, unless one is kept of the net
pub net_line : (nets : ℕ) (kept : List (Option ℕ)) (earlier : List NetWeight) (line : Line) (number weight : List ℕ) (net : ℕ) (d : Option ℕ) (b : Bool) (value : Result ℕ WeightFault) → KeepsWeights nets kept earlier
    → Some (number, weight) ≡ two_words (words (is_gap Blanks) line.bytes) → Ok net ≡ number_on line.number (net_in_word number) → net < nets → is_some (get_or kept net d) ≡ b → value ≡ number_on line.number (weight_in_word weight)
    → weight_after nets earlier line ≡ ((if b then Err (RepeatedNet line.number net) else Ok net) >>= λ n. value >>= λ w. Ok (record { net = n; weight = w }))
net_line nets kept earlier line number weight net d b value keeps two number_is low there weight_is =
    rw (← two, ← number_is, lt-ltb net nets low, ← kept_is nets kept earlier net d keeps low, there, ← weight_is) refl

-- ---- the whole text

-- the weights at the end
weights_kept : (nets : ℕ) (kept : List (Option ℕ)) (said : List NetWeight) → KeepsWeights nets kept said → map (λ o. unwrap_or o 1) kept ≡ weights_of nets said
weights_kept nets kept said keeps = rw keeps (map_twice (range_with_len 0 nets))
  where
    map_twice : (ns : List ℕ) → map (λ o. unwrap_or o 1) (map (weight_said said) ns) ≡ map (weight_of said) ns
    map_twice [] = refl
    map_twice (n ∷ ns) = ap (λ (ws : List ℕ). weight_of said n ∷ ws) (map_twice ns)

-- what is kept when all lines were taken is what the text is read as
pub gives : (nets : ℕ) (text : List ℕ) (lines : List Line) (first kept : List (Option ℕ)) (weights : List ℕ) → lines ≡ content_of text → first ≡ replicate nets None
    → ((earlier : List NetWeight) → KeepsWeights (length first) first earlier → (said : List NetWeight) × (weights_from (length first) earlier lines ≡ Ok said) × KeepsWeights (length first) kept said)
    → weights ≡ map (λ o. unwrap_or o 1) kept → weights_read nets text ≡ Ok weights
unfolding weights_read
gives nets text lines first kept weights all none takes are =
    let long : length first ≡ nets = ap length none ∙ length-replicate nets None in
    let read = (rw long at takes) [] (none ∙ none_kept nets) in
    rw (← all, read.1) (ap (λ (ws : List ℕ). Ok ws) (sym (weights_kept nets kept read.0 read.2) ∙ sym are))

-- the fault with which a text is refused is given
given_fault : (fault : WeightFault) (read : Result (List ℕ) WeightFault) → read ≡ Err fault → GivesWeights (Err fault) read
given_fault NoMemory read e = tt
given_fault (BadLine n) read e = e
given_fault (BadNumber n f) read e = e
given_fault (UnknownNet n k) read e = e
given_fault (RepeatedNet n k) read e = e

-- the fault of the lines is that of the text
pub refuses : (nets : ℕ) (text : List ℕ) (lines : List Line) (first : List (Option ℕ)) (fault : WeightFault) → lines ≡ content_of text → first ≡ replicate nets None
    → ((earlier : List NetWeight) → KeepsWeights (length first) first earlier → weights_from (length first) earlier lines ≡ Err fault)
    → GivesWeights (Err fault) (weights_read nets text)
unfolding weights_read
refuses nets text lines first fault all none fails =
    let long : length first ≡ nets = ap length none ∙ length-replicate nets None in
    given_fault fault _ (rw (← all, (rw long at fails) [] (none ∙ none_kept nets)) refl)

-- a slice that is written back whole
pub written_back : (len : ℕ) (old new : List (Option ℕ)) → length old ≡ len → length new ≡ length old → take len (new ++ drop (length new) old) ≡ new
written_back len old new long same = grind (arith, common_steps)
