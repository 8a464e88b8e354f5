-- A weights file stands for weights exactly where reading gives them.
use Rattle.std.proofs.Common.{◌≡◌, ℕ, ◌<◌, ◌==◌, Bool, true, false, List, [], ◌∷◌, ◌++◌, length, map, is_some, if◌then◌else◌, nat_lt, Option, Some, None, Result, Ok, Err, refl, sym, ap, subst, ◌∙◌, lt-ltb, ltb-true}
use Rattle.sf_gsrc.proofs.Common.{AllByRecursion, IsDistinct, is_gap, Line, words, Blanks, WeightFault, content_of, ◌>>=◌, NetWeight, SaysWeight, WeightsStandFor, net_in_word, new_net, number_on, pair_after, two_words, weight_after, weight_in_word, weight_of, weight_said, weights_from, weights_of, weights_read, length-map-range_with_len}
use Rattle.sf_lex.specs.declared.number.NumberFault.{NumberFault}
use Rattle.sf_gsrc.specs.declared.fault.WeightFault.TheVariants.{BadLine}
use Rattle.sf_gsrc.proofs.Results.{bind_ok, err_not_ok, if_ok, ok_is, unless_ok}
use Rattle.sf_gsrc.proofs.LineSteps.{said_if_read, read_if_said}

-- ---- a line that says a weight

-- some of the weights is that of the net
abbrev is_named : List NetWeight → ℕ → Bool
is_named earlier net = is_some (weight_said earlier net)

-- a number that is taken at a line is the one that was read
number_is : (n : ℕ) (r : Result ℕ NumberFault) (x : ℕ) → number_on n r ≡ Ok x → r ≡ Ok x
number_is n (Ok y) x e = ap (λ z. Ok z) (ok_is {E = WeightFault} y x e)
number_is n (Err f) x e = absurd cc

-- a line with two words has just these
two_are : (ws : List (List ℕ)) (pair : List ℕ × List ℕ) → two_words ws ≡ Some pair → ws ≡ pair.0 ∷ pair.1 ∷ []
unfolding two_words
two_are [] pair e = absurd cc
two_are (a ∷ []) pair e = absurd cc
two_are (a ∷ b ∷ []) pair e = let same : (a, b) ≡ pair = cc in ap (λ (p : List ℕ × List ℕ). p.0 ∷ p.1 ∷ []) same
two_are (a ∷ b ∷ d ∷ ws) pair e = absurd cc

-- a net that is taken is there and was not named before
net_is_new : (nets : ℕ) (earlier : List NetWeight) (n number net : ℕ) → new_net nets earlier n number ≡ Ok net → (number ≡ net) × (net < nets) × (is_named earlier net ≡ false)
net_is_new nets earlier n number net e =
    let low = if_ok (nat_lt number nets) _ _ net e in
    let new = unless_ok (is_named earlier number) _ _ net low.1 in
    let same : number ≡ net = ok_is {E = WeightFault} number net new.1 in
    (same, subst (λ (k : ℕ). k < nets) same (ltb-true number nets low.0), ap (is_named earlier) (sym same) ∙ new.0)

-- a line that is taken says its weight, and its net was not named before
line_says : (nets : ℕ) (earlier : List NetWeight) (line : Line) (said : NetWeight) → weight_after nets earlier line ≡ Ok said → SaysWeight nets line said × (is_named earlier said.net ≡ false)
line_says nets earlier line said e = by_words (two_words (words (is_gap Blanks) line.bytes)) refl e
  where
    by_words : (pair : Option (List ℕ × List ℕ)) → two_words (words (is_gap Blanks) line.bytes) ≡ pair → pair_after nets earlier line.number pair ≡ Ok said → SaysWeight nets line said × (is_named earlier said.net ≡ false)
    by_words None are e = absurd (err_not_ok (BadLine line.number) said e)
    by_words (Some pair) are e =
        let n = line.number in
        let number = bind_ok (number_on n (net_in_word pair.0)) (λ number. new_net nets earlier n number >>= λ net. number_on n (weight_in_word pair.1) >>= λ weight. Ok (record { net = net; weight = weight })) said e in
        let net = bind_ok (new_net nets earlier n number.0) (λ net. number_on n (weight_in_word pair.1) >>= λ weight. Ok (record { net = net; weight = weight })) said number.2 in
        let weight = bind_ok (number_on n (weight_in_word pair.1)) (λ weight. Ok (record { net = net.0; weight = weight })) said net.2 in
        let is : record { net = net.0; weight = weight.0 } ≡ said = ok_is {E = WeightFault} (record { net = net.0; weight = weight.0 }) said weight.2 in
        let new = net_is_new nets earlier n number.0 net.0 net.1 in
        let Told : NetWeight → Type 0 = λ s. SaysWeight nets line s × (is_named earlier s.net ≡ false) in
        subst Told is (
          record {
            number = pair.0;
            weight = pair.1;
            words_are = two_are (words (is_gap Blanks) line.bytes) pair are;
            net_is = number_is n (net_in_word pair.0) number.0 number.1 ∙ ap (λ (k : ℕ). Ok k) new.0;
            is_known = new.1;
            weight_is = number_is n (weight_in_word pair.1) weight.0 weight.1;
          },
          new.2,
        )

-- a line that says a weight of a net that was not named before is taken
says_line : (nets : ℕ) (earlier : List NetWeight) (line : Line) (said : NetWeight) → SaysWeight nets line said → is_named earlier said.net ≡ false → weight_after nets earlier line ≡ Ok said
unfolding two_words
says_line nets earlier line said s new = rw (s.words_are, s.net_is, lt-ltb said.net nets s.is_known, new, s.weight_is) refl

-- ---- no net is named twice

-- each names a net of its own
abbrev AreApart : List NetWeight → Type 0
AreApart said = IsDistinct (λ a b. a == b) (map (λ s. s.net) said)

-- what none of two says is said neither by the one nor by the other
none_of_two : {X : Type 0} (b : Bool) (x : X) (o : Option X) → is_some (if b then Some x else o) ≡ false → (b ≡ false) × (is_some o ≡ false)
none_of_two true x o e = absurd cc
none_of_two false x o e = (refl, e)

-- what holds of the nets of weights and of one more holds of all of them
all_more : (P : ℕ → Type 0) (said : List NetWeight) (s : NetWeight) → AllByRecursion P (map (λ t. t.net) said) → P s.net → AllByRecursion P (map (λ t. t.net) (said ++ s ∷ []))
all_more P [] s h one = (one, tt)
all_more P (t ∷ said) s h one = (h.0, all_more P said s h.1 one)

-- and what holds of all of them holds of each
all_at : (P : ℕ → Type 0) (earlier : List NetWeight) (s : NetWeight) (new : List NetWeight) → AllByRecursion P (map (λ t. t.net) (earlier ++ s ∷ new)) → P s.net
all_at P [] s new h = h.0
all_at P (t ∷ earlier) s new h = all_at P earlier s new h.1

-- a net that was not named before is apart from the others
apart_more : (earlier : List NetWeight) (s : NetWeight) → is_named earlier s.net ≡ false → AreApart earlier → AreApart (earlier ++ s ∷ [])
unfolding IsDistinct
apart_more [] s new h = (tt, tt)
apart_more (t ∷ earlier) s new h =
    let k = none_of_two (t.net == s.net) t.weight (weight_said earlier s.net) new in
    (all_more (λ n. (t.net == n) ≡ false) earlier s h.0 k.0, apart_more earlier s k.1 h.1)

-- and a net that is apart from the others was not named before
apart_new : (earlier : List NetWeight) (s : NetWeight) (new : List NetWeight) → AreApart (earlier ++ s ∷ new) → is_named earlier s.net ≡ false
unfolding IsDistinct
apart_new [] s new h = refl
apart_new (t ∷ earlier) s new h = rw (all_at (λ n. (t.net == n) ≡ false) earlier s new h.0) (apart_new earlier s new h.1)

-- ---- the whole text

-- a text stands for the weights that are read from it
pub stands_from_read : (text : List ℕ) (nets : ℕ) (out : List ℕ) → weights_read nets text ≡ Ok out → WeightsStandFor text nets out
unfolding weights_read IsDistinct
stands_from_read text nets out e =
    let read = bind_ok (weights_from nets [] (content_of text)) (λ said. Ok (weights_of nets said)) out e in
    let said =
    said_if_read (weight_after nets) (SaysWeight nets) AreApart (λ earlier line s e apart. let one = line_says nets earlier line s e in (one.0, apart_more earlier s one.1 apart))
    (content_of text) read.0 read.1 tt in
    record { said = read.0; each = said.0; once = said.1; weights = sym (ok_is {E = WeightFault} (weights_of nets read.0) out read.2) }

-- a text that stands for weights is read as them
pub read_from_stands : (text : List ℕ) (nets : ℕ) (out : List ℕ) → WeightsStandFor text nets out → weights_read nets text ≡ Ok out
unfolding weights_read
read_from_stands text nets out s =
    rw (read_if_said (weight_after nets) (SaysWeight nets) AreApart (λ earlier line t new says apart. says_line nets earlier line t says (apart_new earlier t new apart)) [] (content_of text) s.said s.each s.once)
    (ap (λ (ws : List ℕ). Ok ws) (sym s.weights))

-- a text stands for at most one list of weights
pub stands_once_only : (text : List ℕ) (nets : ℕ) (a b : List ℕ) → WeightsStandFor text nets a → WeightsStandFor text nets b → a ≡ b
stands_once_only text nets a b p q = ok_is {E = WeightFault} a b (sym (read_from_stands text nets a p) ∙ read_from_stands text nets b q)

-- a text stands for one weight for each net
pub weights_each : (text : List ℕ) (nets : ℕ) (out : List ℕ) → WeightsStandFor text nets out → length out ≡ nets
weights_each text nets out s = ap length s.weights ∙ length-map-range_with_len (weight_of s.said) 0 nets
