-- The text of the nets is read again.
use Rattle.std.proofs.Common.{◌≡◌, ℕ, ◌<◌, ◌≤◌, ◌^◌, true, List, [], ◌∷◌, ◌++◌, length, refl, sym, ap, subst, ◌∙◌, arith, append_assoc}
use Rattle.sf_gen.proofs.Common.{map, sum_by, None, codes, decimal, AllByRecursion, flat_map, filter_map, length-map, filter_map-append, Line, numbered, first_word, Blanks, content_of, is_content_word, is_title, is_colon, net_word_of, net_word_by, net_lines, nets_head, pin_lines}
use Rattle.sf_gsrc.specs.Nets.{NetSaid, NetsAre, PinsAre, DegreeIs, PinIs}
use Rattle.sf_gsrc.specs.NetsStanding.{SaysNetBy, SaysNet, nets_count, net_part, NetsStandFor}
use Rattle.sf_gsrc.specs.NetsStanding as standing
use Rattle.sf_gen.proofs.TextLines.{IsLines, Reads, none, ended, piece, reads_none, reads_line, reads_both, reads_each, content_is, each_numbered}
use Rattle.sf_gen.proofs.TextWords.{count_read, decimal_no_feed, decimal_no_gap, decimal_no_colon, number_said, before_none, first_written}

-- whatever its number, the line says this
abbrev pub SaysHere : List ℕ → NetSaid → Type 0
SaysHere bytes said = (n : ℕ) → SaysNet (record { number = n; bytes = bytes }) said

-- ---- the line of a pin

-- a name of a block or of a pad
pub data IsName : List ℕ → Type 0 where
  of_block : (i : ℕ) → i < 2 ^ 64 → IsName (98 ∷ decimal i)
  of_pad : (p : ℕ) → p < 2 ^ 64 → IsName (112 ∷ decimal p)

-- the first word of a pin's line is the name
pin_first : (name : List ℕ) → IsName name → first_word Blanks (name ++ 32 ∷ 66 ∷ []) ≡ name
pin_first _ (of_block i h) = first_written Blanks (98 ∷ decimal i) (omega arith) (decimal_no_gap i h Blanks) (66 ∷ []) 32 refl
pin_first _ (of_pad p h) = first_written Blanks (112 ∷ decimal p) (omega arith) (decimal_no_gap p h Blanks) (66 ∷ []) 32 refl

-- the line of a pin begins with no keyword of nets
no_keyword : (name : List ℕ) → IsName name → net_word_by (name ++ 32 ∷ 66 ∷ []) ≡ None
unfolding net_word_of
no_keyword _ (of_block i h) = rw (pin_first (98 ∷ decimal i) (of_block i h), before_none is_colon (98 ∷ decimal i) (decimal_no_colon i h)) refl
no_keyword _ (of_pad p h) = rw (pin_first (112 ∷ decimal p) (of_pad p h), before_none is_colon (112 ∷ decimal p) (decimal_no_colon p h)) refl

-- the line of a pin has content
pin_filled : (name : List ℕ) → IsName name → is_content_word (first_word Blanks (name ++ 32 ∷ 66 ∷ [])) ≡ true
pin_filled _ (of_block i h) = rw (pin_first (98 ∷ decimal i) (of_block i h)) refl
pin_filled _ (of_pad p h) = rw (pin_first (112 ∷ decimal p) (of_pad p h)) refl

-- the line of a pin says the pin of this name
pin_says : (name : List ℕ) → IsName name → SaysHere (name ++ 32 ∷ 66 ∷ []) (PinIs name)
pin_says name h n =
    let line : Line = record { number = n; bytes = name ++ 32 ∷ 66 ∷ [] } in
    subst (λ o. SaysNetBy line (PinIs name) o) (sym (no_keyword name h)) (ap PinIs (sym (pin_first name h)))

-- a name put in front of a text goes in front of its first line
name_no_feed : {t l : List ℕ} {ls : List (List ℕ)} (name : List ℕ) → IsName name → IsLines t (l ∷ ls) → IsLines (name ++ t) ((name ++ l) ∷ ls)
name_no_feed _ (of_block i h) k = piece (98 ∷ decimal i) (decimal_no_feed i h) k
name_no_feed _ (of_pad p h) k = piece (112 ∷ decimal p) (decimal_no_feed p h) k

-- what is written of a pin is read as this pin
pin_read : (name : List ℕ) → IsName name → Reads SaysHere (name ++ 32 ∷ 66 ∷ 10 ∷ []) (PinIs name ∷ [])
pin_read name h =
    reads_line SaysHere (name ++ 32 ∷ 66 ∷ 10 ∷ []) (name ++ 32 ∷ 66 ∷ []) (PinIs name)
    (name_no_feed name h (piece (32 ∷ 66 ∷ []) refl (ended none))) (pin_filled name h) (pin_says name h)

-- what is written of the pins is read as these pins
pins_read : (pins : List (List ℕ)) → AllByRecursion IsName pins → Reads SaysHere (pin_lines pins) (map PinIs pins)
pins_read [] ok = reads_none SaysHere
pins_read (name ∷ more) ok =
    let shape : (name ++ 32 ∷ 66 ∷ 10 ∷ []) ++ pin_lines more ≡ name ++ 32 ∷ 66 ∷ 10 ∷ pin_lines more = append_assoc name (32 ∷ 66 ∷ 10 ∷ []) (pin_lines more) in
    subst (λ (t : List ℕ). Reads SaysHere t (map PinIs (name ∷ more))) shape
    (reads_both SaysHere (name ++ 32 ∷ 66 ∷ 10 ∷ []) (pin_lines more) (PinIs name ∷ []) (map PinIs more) (pin_read name ok.0) (pins_read more ok.1))

-- ---- the lines of a net

-- at most three pins, and each has a name of a block or of a pad
pub record IsNet (pins : List (List ℕ)) : Type 0 where
  pub names : AllByRecursion IsName pins
  pub few : length pins ≤ 3

-- what is written of a net is read as its degree and its pins
net_read : (pins : List (List ℕ)) → IsNet pins → Reads SaysHere (net_lines pins) (standing.net_lines pins)
unfolding net_word_of
net_read pins h =
    let d = length pins in
    let le : d ≤ 9_000_000_000_000_000 = omega (arith, h.few) in
    let head : List ℕ = codes "NetDegree : " ++ (decimal d ++ codes "\n") in
    let shape : head ++ pin_lines pins ≡ net_lines pins = ap (λ v. codes "NetDegree : " ++ v) (append_assoc (decimal d) (codes "\n") (pin_lines pins)) in
    subst (λ (t : List ℕ). Reads SaysHere t (standing.net_lines pins)) shape
    (reads_both SaysHere head (pin_lines pins) (DegreeIs d ∷ []) (map PinIs pins)
    (count_read SaysHere d le (codes "NetDegree : ") (DegreeIs d) refl refl (λ n. (d, number_said (codes "NetDegree") d le, refl)))
    (pins_read pins h.names))

-- ---- the whole text

-- lines that say pins are all parts of nets
parts_of_pins : (names : List (List ℕ)) → filter_map net_part (map PinIs names) ≡ map PinIs names
parts_of_pins [] = refl
parts_of_pins (name ∷ names) = ap (λ l. PinIs name ∷ l) (parts_of_pins names)

-- the lines of the nets are all parts of nets
parts_of_nets : (nets : List (List (List ℕ))) → filter_map net_part (flat_map standing.net_lines nets) ≡ flat_map standing.net_lines nets
parts_of_nets [] = refl
parts_of_nets (pins ∷ nets) =
    filter_map-append net_part (standing.net_lines pins) (flat_map standing.net_lines nets)
    ∙ ap (λ l. (DegreeIs (length pins) ∷ l) ++ filter_map net_part (flat_map standing.net_lines nets)) (parts_of_pins pins)
    ∙ ap (λ l. standing.net_lines pins ++ l) (parts_of_nets nets)

-- lines that say pins say no count of nets
no_count_of_pins : (names : List (List ℕ)) → filter_map nets_count (map PinIs names) ≡ []
no_count_of_pins [] = refl
no_count_of_pins (name ∷ names) = no_count_of_pins names

-- the lines of the nets say no count of nets
no_count_of_nets : (nets : List (List (List ℕ))) → filter_map nets_count (flat_map standing.net_lines nets) ≡ []
no_count_of_nets [] = refl
no_count_of_nets (pins ∷ nets) =
    filter_map-append nets_count (standing.net_lines pins) (flat_map standing.net_lines nets)
    ∙ ap (λ l. l ++ filter_map nets_count (flat_map standing.net_lines nets)) (no_count_of_pins pins)
    ∙ no_count_of_nets nets

module _ (nets : List (List (List ℕ))) (fine : AllByRecursion IsNet nets) (few : length nets ≤ 1_000_000) (small : sum_by length nets ≤ 9_000_000_000_000_000) where
  -- what the lines behind the title say: both counts, and then the nets
  abbrev said_of : List NetSaid
  said_of = NetsAre (length nets) ∷ PinsAre (sum_by length nets) ∷ flat_map standing.net_lines nets

  -- the text behind the title, line by line
  abbrev behind_title : List ℕ
  behind_title =
      (codes "NumNets : " ++ (decimal (length nets) ++ codes "\n"))
      ++ ((codes "NumPins : " ++ (decimal (sum_by length nets) ++ codes "\n")) ++ flat_map net_lines nets)

  -- the title and what stands behind it are the text of the nets
  shape : codes "UCLA nets 1.0\n" ++ behind_title ≡ nets_head nets ++ flat_map net_lines nets
  shape = simp append_assoc refl

  -- the text behind the title is read as the counts and the nets
  all_read : Reads SaysHere behind_title said_of
  unfolding net_word_of
  all_read =
      let low : length nets ≤ 9_000_000_000_000_000 = omega (arith, few) in
      let pins = sum_by length nets in
      reads_both SaysHere _ _ _ _
      (count_read SaysHere (length nets) low (codes "NumNets : ") (NetsAre (length nets)) refl refl (λ n. (length nets, number_said (codes "NumNets") (length nets) low, refl)))
      (reads_both SaysHere _ _ _ _
      (count_read SaysHere pins small (codes "NumPins : ") (PinsAre pins) refl refl (λ n. (pins, number_said (codes "NumPins") pins small, refl)))
      (reads_each SaysHere IsNet net_lines standing.net_lines net_read nets fine))

  -- the text of the nets stands for these nets
  pub nets_stand : NetsStandFor (nets_head nets ++ flat_map net_lines nets) (record { nets = map standing.net_of nets })
  unfolding is_title
  nets_stand =
      let title : List ℕ = codes "UCLA nets 1.0" in
      record {
        title = record { number = 1; bytes = title };
        others = numbered 2 all_read.bytes;
        said = said_of;
        names = nets;
        lines_are = ap content_of (sym shape) ∙ content_is (codes "UCLA nets 1.0\n" ++ behind_title) title all_read.bytes (piece title refl (ended all_read.are)) refl all_read.filled;
        titled = refl;
        each = each_numbered SaysNet 2 all_read.bytes said_of all_read.each;
        lines_of_nets = parts_of_nets nets;
        nets = refl;
        count = ap (λ l. length nets ∷ l) (no_count_of_nets nets) ∙ ap (λ k. k ∷ []) (sym (length-map nets standing.net_of));
      }
