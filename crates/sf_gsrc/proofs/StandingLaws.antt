-- A text stands for an output exactly where reading gives it.
use Rattle.std.proofs.Common.{◌≡◌, ℕ, ◌+◌, ◌≤◌, Bool, true, false, List, [], ◌∷◌, ◌++◌, length, Option, Some, None, Result, Ok, Err, refl, sym, ap, subst, ◌∙◌, arith, eq-eqb}
use Rattle.sf_gsrc.proofs.Common.{is_some, not, codes, count_by, cons_option, length-append, filter_map-append, Line, words, GsrcFault, LineFault, Colons, Counted, Count, GsrcBlocks, is_gap, Item, counted_by, count_said, plain_said, content_of, Entry, Said, CountIs, ItemIs, or_else, is_same, count_at, count_in, count_after, entry_at, entry_by, entry_after, entries_from, last_of, is_soft, finished_by, out_of, finished, blocks_read, blocks_in, pads_in, SaysBy, SaysEntry, counts_of, StandsOnce, StandsFor, first}
use Rattle.sf_gsrc.specs.declared.keywords.Counted.TheVariants as counts
use Rattle.sf_gsrc.proofs.Results.{bind_ok, ok_is, compared_ok, opened_ok, unless_ok}
use Rattle.sf_gsrc.proofs.LineSteps.{said_if_read, read_if_said}

-- ---- the first count, and the counts

-- what may stand in front of a list, or else its first, is the first of both
first_step : {X : Type 0} (o : Option X) (xs : List X) → or_else o (first xs) ≡ first (cons_option o xs)
first_step None xs = refl
first_step (Some x) xs = refl

-- a count is the first one that the entries say
count_is_first : (which : Counted) (es : List Entry) → count_in which es ≡ first (counts_of which es)
count_is_first which [] = refl
count_is_first which (e ∷ es) = ap (or_else (count_at which e.number e.said)) (count_is_first which es) ∙ first_step (count_at which e.number e.said) (counts_of which es)

-- a list without a first element is empty
none_there : {X : Type 0} (xs : List X) → is_some (first xs) ≡ false → length xs ≡ 0
none_there [] e = refl
none_there (x ∷ xs) e = absurd cc

-- an empty list has no first element
none_said : {X : Type 0} (xs : List X) → length xs ≡ 0 → is_some (first xs) ≡ false
none_said [] e = refl
none_said (x ∷ xs) e = absurd (omega arith)

-- a list of at most one element with a first one is this one
one_there : {X : Type 0} (xs : List X) (x : X) → first xs ≡ Some x → length xs ≤ 1 → xs ≡ x ∷ []
one_there [] x e h = absurd cc
one_there (y ∷ []) x e h = cc
one_there (y ∷ z ∷ xs) x e h = absurd (omega arith)

-- each count is said at most once
abbrev AtMostOne : List Entry → Type 0
AtMostOne es = (which : Counted) → length (counts_of which es) ≤ 1

-- a count is the same as itself
is_same_self : (which : Counted) → is_same which which ≡ true
is_same_self counts.Soft = refl
is_same_self counts.Hard = refl
is_same_self counts.Terminals = refl

-- counts that are the same are equal
same_is : (a b : Counted) → is_same a b ≡ true → a ≡ b
same_is counts.Soft counts.Soft e = refl
same_is counts.Hard counts.Hard e = refl
same_is counts.Terminals counts.Terminals e = refl
same_is counts.Soft counts.Hard e = absurd cc
same_is counts.Soft counts.Terminals e = absurd cc
same_is counts.Hard counts.Soft e = absurd cc
same_is counts.Hard counts.Terminals e = absurd cc
same_is counts.Terminals counts.Soft e = absurd cc
same_is counts.Terminals counts.Hard e = absurd cc

-- one entry more has one count more, of its own kind alone
counts-push : (which : Counted) (es : List Entry) (e : Entry) → length (counts_of which (es ++ e ∷ [])) ≡ length (counts_of which es) + length (cons_option (count_at which e.number e.said) [])
counts-push which es e = ap length (filter_map-append (λ (e : Entry). count_at which e.number e.said) es (e ∷ [])) ∙ length-append (counts_of which es) (cons_option (count_at which e.number e.said) [])

-- a count that was not said before is said once with its line, and the others as often as before
count_step : (which k : Counted) (es : List Entry) (n said : ℕ) (b : Bool) → is_same which k ≡ b → length (counts_of k es) ≡ 0 → length (counts_of which es) ≤ 1
    → length (counts_of which (es ++ record { number = n; said = CountIs k said } ∷ [])) ≤ 1
count_step which k es n said true e none le =
    let e1 : Entry = record { number = n; said = CountIs k said } in
    let one : length (cons_option (count_at which n (CountIs k said)) []) ≡ 1 = rw e refl in
    let same : length (counts_of which es) ≡ 0 = subst (λ (c : Counted). length (counts_of c es) ≡ 0) (sym (same_is which k e)) none in
    omega (arith, counts-push which es e1, one, same)
count_step which k es n said false e none le =
    let e1 : Entry = record { number = n; said = CountIs k said } in
    let zero' : length (cons_option (count_at which n (CountIs k said)) []) ≡ 0 = rw e refl in
    omega (arith, counts-push which es e1, zero')

-- a block or a pad says no count
item_step : (es : List Entry) (n : ℕ) (item : Item) → AtMostOne es → AtMostOne (es ++ record { number = n; said = ItemIs item } ∷ [])
item_step es n item most which = let m = most which in omega (arith, counts-push which es (record { number = n; said = ItemIs item }))

-- ---- from reading to the relation

-- an entry of a line that was read has the line's number and its value
entry_ok : {A : Type 0} (n : ℕ) (says : A → Said) (r : Result A LineFault) (e : Entry) → entry_at n says r ≡ Ok e → (x : A) × (r ≡ Ok x) × (e ≡ record { number = n; said = says x })
entry_ok n says (Ok x) e h = (x, refl, sym (ok_is {E = GsrcFault} (record { number = n; said = says x }) e h))
entry_ok n says (Err f) e h = absurd cc

-- a line that was read says its entry, whether it counts or not, and no kind of count stands twice
was_read : (scale : ℕ) (es : List Entry) (line : Line) (e : Entry) (o : Option Counted) → counted_by line.bytes ≡ o → entry_by scale es line o ≡ Ok e → AtMostOne es
    → SaysEntry scale line e × AtMostOne (es ++ e ∷ [])
unfolding count_after
was_read scale es line e None is h most =
    let k = entry_ok line.number ItemIs (plain_said scale line.bytes) e h in
    subst (λ (x : Entry). SaysEntry scale line x × AtMostOne (es ++ x ∷ [])) (sym k.2) ((refl, rw is (k.0, k.1, refl)), item_step es line.number k.0 most)
was_read scale es line e (Some which) is h most =
    let new = unless_ok (is_some (count_in which es)) _ _ e h in
    let k = entry_ok line.number (CountIs which) (count_said (words (is_gap Colons) line.bytes)) e new.1 in
    let none = none_there (counts_of which es) (ap is_some (sym (count_is_first which es)) ∙ new.0) in
    subst (λ (x : Entry). SaysEntry scale line x × AtMostOne (es ++ x ∷ [])) (sym k.2)
    ((refl, rw is (k.0, k.1, refl)), λ kind. count_step kind which es line.number k.0 (is_same kind which) refl none (most kind))

-- a count that was said at most once and is what was found stands once
stands_once : (which : Counted) (es : List Entry) (c : Count) (found : ℕ) → count_in which es ≡ Some c → length (counts_of which es) ≤ 1 → c.said ≡ found → StandsOnce which es found
stands_once which es c found is most said = record {
  line = c.line;
  once = one_there (counts_of which es) c (sym (count_is_first which es) ∙ is) most ∙ ap (λ (n : ℕ). record { line = c.line; said = n } ∷ []) said;
}

-- each count stands once and says what was found
abbrev CountsStand : List Entry → GsrcBlocks → Type 0
CountsStand es out = StandsOnce counts.Soft es (count_by is_soft out.blocks) × StandsOnce counts.Hard es (count_by (λ b. not (is_soft b)) out.blocks) × StandsOnce counts.Terminals es (length out.pads)

-- where a text ends well, all three counts are there and are what was found
finished_ok : (last : ℕ) (es : List Entry) (s h t : Option Count) (out : GsrcBlocks) → count_in counts.Soft es ≡ s → count_in counts.Hard es ≡ h → count_in counts.Terminals es ≡ t → AtMostOne es
    → finished_by last s h t (out_of es) ≡ Ok out → CountsStand es out × (out_of es ≡ out)
finished_ok last es (Some s) (Some h) (Some t) out soft hard terminals most e =
    let a = compared_ok s (count_by is_soft (blocks_in es)) _ out e in
    let b = compared_ok h (count_by (λ b. not (is_soft b)) (blocks_in es)) _ out a.1 in
    let c = compared_ok t (length (pads_in es)) _ out b.1 in
    let same = ok_is {E = GsrcFault} (out_of es) out c.1 in
    let all : CountsStand es (out_of es) = (stands_once counts.Soft es s _ soft (most counts.Soft) a.0, stands_once counts.Hard es h _ hard (most counts.Hard) b.0, stands_once counts.Terminals es t _ terminals (most counts.Terminals) c.0) in
    (subst (CountsStand es) same all, same)
finished_ok last es None h t out soft hard terminals most e = absurd cc
finished_ok last es (Some s) None t out soft hard terminals most e = absurd cc
finished_ok last es (Some s) (Some h) None out soft hard terminals most e = absurd cc

-- a text stands for the blocks and pads that are read from it
pub stands_from_read : (scale : ℕ) (text : List ℕ) (out : GsrcBlocks) → blocks_read scale text ≡ Ok out → StandsFor scale text out
unfolding blocks_read
stands_from_read scale text out h =
    opened_ok (codes "blocks") (content_of text) _ out (StandsFor scale text out) h
    (λ title others are titled read.
    let last = last_of title.number others in
    let k = bind_ok (entries_from scale [] others) (finished last) out read in
    let all = said_if_read (entry_after scale) (SaysEntry scale) AtMostOne (λ es line e h most. was_read scale es line e (counted_by line.bytes) refl h most) others k.0 k.1 (λ which. omega arith) in
    let f = finished_ok last k.0 _ _ _ out refl refl refl all.1 k.2 in
    record {
      title = title;
      others = others;
      entries = k.0;
      lines_are = are;
      titled = titled;
      each = all.0;
      soft = f.0.0;
      hard = f.0.1;
      terminals = f.0.2;
      blocks = ap (λ (o : GsrcBlocks). o.blocks) (sym f.1);
      pads = ap (λ (o : GsrcBlocks). o.pads) (sym f.1);
    })

-- ---- from the relation to reading

-- a count that stands at most once among all entries stands nowhere before its own
counts_around : (which : Counted) (earlier : List Entry) (e : Entry) (new : List Entry) (n : ℕ) → e.said ≡ CountIs which n → length (counts_of which (earlier ++ e ∷ new)) ≤ 1 → length (counts_of which earlier) ≡ 0
counts_around which earlier e new n is most =
    let parts = ap length (filter_map-append (λ (e : Entry). count_at which e.number e.said) earlier (e ∷ new)) ∙ length-append (counts_of which earlier) (counts_of which (e ∷ new)) in
    let own : counts_of which (e ∷ new) ≡ record { line = e.number; said = n } ∷ counts_of which new = rw (is, is_same_self which) refl in
    omega (arith, parts, ap length own)

-- a line that says an entry is read as it, where each count is said at most once
said_then : (scale : ℕ) (earlier : List Entry) (line : Line) (e : Entry) (new : List Entry) (o : Option Counted) → e.number ≡ line.number → SaysBy scale line e.said o → AtMostOne (earlier ++ e ∷ new)
    → entry_by scale earlier line o ≡ Ok e
unfolding count_after
said_then scale earlier line e new None p says most = rw says.1 (λ i. Ok (record { number = sym p i; said = sym says.2 i }))
said_then scale earlier line e new (Some which) p says most =
    let none = none_said (counts_of which earlier) (counts_around which earlier e new says.0 says.2 (most which)) in
    rw (ap is_some (count_is_first which earlier) ∙ none, says.1) (λ i. Ok (record { number = sym p i; said = sym says.2 i }))

-- a count that stands once is there, with its line
count_stands : (which : Counted) (es : List Entry) (found : ℕ) → (once : StandsOnce which es found) → count_in which es ≡ Some (record { line = once.line; said = found })
count_stands which es found once = count_is_first which es ∙ ap first once.once

-- where all three counts stand once, the text ends well
finished_stands : (last : ℕ) (es : List Entry) (out : GsrcBlocks) → CountsStand es out → out_of es ≡ out → finished last es ≡ Ok out
finished_stands last es out c same =
    subst (λ (o : GsrcBlocks). finished_by last (count_in counts.Soft es) (count_in counts.Hard es) (count_in counts.Terminals es) o ≡ Ok out) (sym same)
    (rw (
      count_stands counts.Soft es _ c.0,
      count_stands counts.Hard es _ c.1,
      count_stands counts.Terminals es _ c.2,
      eq-eqb (count_by is_soft out.blocks) _ refl,
      eq-eqb (count_by (λ b. not (is_soft b)) out.blocks) _ refl,
      eq-eqb (length out.pads) _ refl,
    ) refl)

-- and each is said at most once
at_most_one : (es : List Entry) (out : GsrcBlocks) → CountsStand es out → AtMostOne es
at_most_one es out c counts.Soft = omega (arith, ap length c.0.once)
at_most_one es out c counts.Hard = omega (arith, ap length c.1.once)
at_most_one es out c counts.Terminals = omega (arith, ap length c.2.once)

-- a text that stands for blocks and pads is read as them
pub read_from_stands : (scale : ℕ) (text : List ℕ) (out : GsrcBlocks) → StandsFor scale text out → blocks_read scale text ≡ Ok out
unfolding blocks_read
read_from_stands scale text out s =
    let all : CountsStand s.entries out = (s.soft, s.hard, s.terminals) in
    let read =
    read_if_said (entry_after scale) (SaysEntry scale) AtMostOne (λ earlier line e new says most. said_then scale earlier line e new (counted_by line.bytes) says.0 says.1 most)
    [] s.others s.entries s.each (at_most_one s.entries out all) in
    rw (s.lines_are, s.titled, read) (finished_stands (last_of s.title.number s.others) s.entries out all (λ i. record { blocks = sym s.blocks i; pads = sym s.pads i }))

-- a text stands for at most one list of blocks and pads
pub stands_once_only : (scale : ℕ) (text : List ℕ) (a b : GsrcBlocks) → StandsFor scale text a → StandsFor scale text b → a ≡ b
stands_once_only scale text a b p q = ok_is {E = GsrcFault} a b (sym (read_from_stands scale text a p) ∙ read_from_stands scale text b q)
