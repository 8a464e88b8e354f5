-- A nets file stands for nets exactly where reading gives them.
use Rattle.std.proofs.Common.{◌≡◌, ℕ, ◌+◌, ◌≤◌, true, List, [], ◌∷◌, ◌++◌, length, map, Option, Some, None, Result, Ok, Err, refl, sym, ap, subst, ◌∙◌, append_assoc, arith, eq-eqb, ◌==◌, flat_map}
use Rattle.sf_gsrc.proofs.Common.{codes, is_some, AllZip, filter_map, eqb-true, length-append, append-nil, Line, RawNet, RawPin, Named, GsrcFault, LineFault, Count, net_word_by, content_of, read_from, last_of, NetEntry, NetSaid, NetsAre, PinsAre, DegreeIs, PinIs, nets_said, degree_said, last_pins, earlier_nets, with_last, nets_of, degree_kept, net_entry_at, number_of_line, net_entry_by, net_entry_after, net_entries_from, nets_counted, nets_finished, nets_read, SaysNetBy, SaysNet, nets_count, net_part, net_lines, net_of, NetsStandFor, GsrcNets}
use Rattle.sf_gsrc.specs.declared.fault.GsrcFault.TheVariants as faults
use Rattle.sf_gsrc.specs.declared.net_words.NetWord.{NetWord}
use Rattle.sf_gsrc.specs.declared.net_words.NetWord.TheVariants as net_words
use Rattle.sf_gsrc.proofs.LineSteps.{holds_of_read}
use Rattle.sf_gsrc.proofs.Results.{bind_ok, ok_is, err_not_ok, if_ok, unless_ok, none_of, compared_ok, opened_ok}

-- ---- what earlier lines leave open

-- how many nets were said, as a list of at most one number
abbrev counts_of : Option Count → List ℕ
counts_of None = []
counts_of (Some count) = count.said ∷ []

-- the last net wants the pins `more`; and without one, none is wanted
abbrev Wants : Option Count → ℕ → List (List ℕ) → Type 0
Wants None found more = more ≡ []
Wants (Some degree) found more = degree.said ≡ found + length more

-- the last net has what it wants
abbrev IsFull : Option Count → ℕ → Type 0
IsFull o found = Wants o found []

-- the nets so far, the last one with the pins `more`
abbrev nets_with : List NetEntry → List (List ℕ) → List RawNet
nets_with past more = with_last (earlier_nets past) (degree_said past) (last_pins past ++ map Named more)

-- the lines that follow the past say these pins of its last net, and then these nets
pub record Follows (past final : List NetEntry) (said : List NetSaid) (more : List (List ℕ)) (names : List (List (List ℕ))) : Type 0 where
  pub parts : filter_map net_part said ≡ map PinIs more ++ flat_map net_lines names
  pub wants : Wants (degree_said past) (length (last_pins past)) more
  pub nets : nets_of final ≡ nets_with past more ++ map net_of names
  pub counts : counts_of (nets_said final) ≡ counts_of (nets_said past) ++ filter_map nets_count said
  pub full : IsFull (degree_said final) (length (last_pins final))

-- with no more pins the nets are those of the lines so far
nets_with-nil : (past : List NetEntry) → nets_with past [] ≡ nets_of past
nets_with-nil past = ap (with_last (earlier_nets past) (degree_said past)) (append-nil (last_pins past))

-- ---- a line of each form, before lines that follow it

-- the past lets a line say this
abbrev Fits : List NetEntry → NetSaid → Type 0
Fits past (NetsAre n) = nets_said past ≡ None
Fits past (PinsAre n) = Unit {0}
Fits past (DegreeIs d) = IsFull (degree_said past) (length (last_pins past))
Fits past (PinIs name) = is_some (degree_said past) ≡ true

-- the pins of the last net that a line and those behind it say
abbrev more_with : NetSaid → List (List ℕ) → List (List ℕ)
more_with (NetsAre n) more = more
more_with (PinsAre n) more = more
more_with (DegreeIs d) more = []
more_with (PinIs name) more = name ∷ more

-- and the nets behind it
abbrev names_with : NetSaid → List (List ℕ) → List (List (List ℕ)) → List (List (List ℕ))
names_with (NetsAre n) more names = names
names_with (PinsAre n) more names = names
names_with (DegreeIs d) more names = more ∷ names
names_with (PinIs name) more names = names

-- a net that wants pins wanted one more before this one
wants_more : (o : Option Count) (found found' : ℕ) (name : List ℕ) (more : List (List ℕ)) → is_some o ≡ true → found' ≡ found + 1 → Wants o found' more → Wants o found (name ∷ more)
wants_more None found found' name more some e h = absurd cc
wants_more (Some d) found found' name more some e h = omega (arith, h, e)

-- a line that fits, before lines that follow it
step : (s : NetSaid) (k : ℕ) (past final : List NetEntry) (said : List NetSaid) (more : List (List ℕ)) (names : List (List (List ℕ))) → Fits past s
    → Follows (record { number = k; said = s } ∷ past) final said more names → Follows past final (s ∷ said) (more_with s more) (names_with s more names)
step (NetsAre n) k past final said more names none f = record { parts = f.parts; wants = f.wants; nets = f.nets; counts = f.counts ∙ rw none refl; full = f.full }
step (PinsAre n) k past final said more names fits f = record { parts = f.parts; wants = f.wants; nets = f.nets; counts = f.counts; full = f.full }
step (DegreeIs d) k past final said more names full f =
    let said_is : d ≡ length more = omega (arith, f.wants) in
    record {
      parts = ap (λ (ps : List NetSaid). DegreeIs d ∷ ps) f.parts ∙ ap (λ (n : ℕ). DegreeIs n ∷ (map PinIs more ++ flat_map net_lines names)) said_is;
      wants = full;
      nets = f.nets ∙ append_assoc (nets_of past) (net_of more ∷ []) (map net_of names) ∙ ap (λ (ns : List RawNet). ns ++ (net_of more ∷ map net_of names)) (sym (nets_with-nil past));
      counts = f.counts;
      full = f.full;
    }
step (PinIs name) k past final said more names some f = record {
  parts = ap (λ (ps : List NetSaid). PinIs name ∷ ps) f.parts;
  wants = wants_more (degree_said past) (length (last_pins past)) (length (last_pins past ++ Named name ∷ [])) name more some (length-append (last_pins past) (Named name ∷ [])) f.wants;
  nets = f.nets ∙ ap (λ (pins : List RawPin). with_last (earlier_nets past) (degree_said past) pins ++ map net_of names) (append_assoc (last_pins past) (Named name ∷ []) (map Named more));
  counts = f.counts;
  full = f.full;
}

-- no lines follow where the last net is full
none_step : (past : List NetEntry) → IsFull (degree_said past) (length (last_pins past)) → Follows past past [] [] []
none_step past full = record {
  parts = refl;
  wants = full;
  nets = sym (nets_with-nil past) ∙ sym (append-nil (nets_with past []));
  counts = sym (append-nil (counts_of (nets_said past)));
  full = full;
}

-- ---- from reading to the relation

-- what the lines that were read say, and that it follows from what was read before
pub record WereRead (past final : List NetEntry) (ls : List Line) : Type 0 where
  pub said : List NetSaid
  pub more : List (List ℕ)
  pub names : List (List (List ℕ))
  pub each : AllZip SaysNet ls said
  pub follows : Follows past final said more names

-- an entry of a line that was read has its value
entry_ok : (n : ℕ) (says : ℕ → NetSaid) (r : Result ℕ LineFault) (e : NetEntry) → net_entry_at n says r ≡ Ok e → (x : ℕ) × (r ≡ Ok x) × (e.said ≡ says x)
entry_ok n says (Ok x) e h = (x, refl, ap (λ (d : NetEntry). d.said) (sym (ok_is {E = GsrcFault} (record { number = n; said = says x }) e h)))
entry_ok n says (Err f) e h = absurd cc

-- where reading goes on behind a net, the net is full and the rest is what was read
pub kept_ok : {X : Type 0} (o : Option Count) (found : ℕ) (next : Result X GsrcFault) (x : X) → degree_kept o found next ≡ Ok x → IsFull o found × (next ≡ Ok x)
kept_ok None found next x h = (refl, h)
kept_ok (Some d) found next x h = let k = if_ok (d.said == found) _ next x h in (omega (arith, eqb-true d.said found k.0), k.1)

-- a line that was read says its part, which fits, whatever its first word is
line_read : (past : List NetEntry) (line : Line) (e : NetEntry) (o : Option NetWord) → net_entry_by past line o ≡ Ok e → SaysNetBy line e.said o × Fits past e.said
line_read past line e (Some net_words.Nets) h =
    let new = unless_ok (is_some (nets_said past)) _ _ e h in
    let k = entry_ok line.number NetsAre (number_of_line line) e new.1 in
    (k, subst (Fits past) (sym k.2) (none_of (nets_said past) new.0))
line_read past line e (Some net_words.Pins) h = let k = entry_ok line.number PinsAre (number_of_line line) e h in (k, subst (Fits past) (sym k.2) tt)
line_read past line e (Some net_words.Degree) h =
    let kept = kept_ok (degree_said past) (length (last_pins past)) _ e h in
    let k = entry_ok line.number DegreeIs (number_of_line line) e kept.1 in
    (k, subst (Fits past) (sym k.2) kept.0)
line_read past line e None h =
    let some = if_ok (is_some (degree_said past)) _ _ e h in
    let same = ap (λ (d : NetEntry). d.said) (sym (ok_is {E = GsrcFault} _ e some.1)) in
    (same, subst (Fits past) (sym same) some.0)

-- the lines that were read, with the last net full
lines_read : (past final : List NetEntry) (ls : List Line) → net_entries_from past ls ≡ Ok final → IsFull (degree_said final) (length (last_pins final)) → WereRead past final ls
lines_read =
    holds_of_read net_entry_after (λ past e. e ∷ past) (λ past ls final. IsFull (degree_said final) (length (last_pins final)) → WereRead past final ls)
    (λ past full. record { said = []; more = []; names = []; each = tt; follows = none_step past full })
    (λ past final line ls e read later full.
    let one = line_read past line e (net_word_by line.bytes) read in
    let r = later full in
    record {
      said = e.said ∷ r.said;
      more = more_with e.said r.more;
      names = names_with e.said r.more r.names;
      each = (one.0, r.each);
      follows = step e.said e.number past final r.said r.more r.names one.1 r.follows;
    })

-- the count was said once, and is that of the nets
counted_ok : (last : ℕ) (o : Option Count) (nets : List RawNet) (out : GsrcNets) → nets_counted last o nets ≡ Ok out → (counts_of o ≡ length nets ∷ []) × (nets ≡ out.nets)
counted_ok last None nets out h = absurd (err_not_ok (faults.Truncated last) out h)
counted_ok last (Some count) nets out h =
    let k = compared_ok count (length nets) (Ok (record { nets = nets })) out h in
    (ap (λ (n : ℕ). n ∷ []) k.0, ap (λ (o : GsrcNets). o.nets) (ok_is {E = GsrcFault} (record { nets = nets }) out k.1))

-- a text stands for the nets that are read from it
pub stands_from_read : (text : List ℕ) (out : GsrcNets) → nets_read text ≡ Ok out → NetsStandFor text out
unfolding nets_read
stands_from_read text out h =
    opened_ok (codes "nets") (content_of text) _ out (NetsStandFor text out) h
    (λ title others are titled read.
    let last = last_of title.number others in
    let k = bind_ok (net_entries_from [] others) (nets_finished last) out read in
    let kept = kept_ok (degree_said k.0) (length (last_pins k.0)) (nets_counted last (nets_said k.0) (nets_of k.0)) out k.2 in
    let r = lines_read [] k.0 others k.1 kept.0 in
    let counted = counted_ok last (nets_said k.0) (nets_of k.0) out kept.1 in
    record {
      title = title;
      others = others;
      said = r.said;
      names = r.names;
      lines_are = are;
      titled = titled;
      each = r.each;
      lines_of_nets = r.follows.parts ∙ ap (λ (more : List (List ℕ)). map PinIs more ++ flat_map net_lines r.names) r.follows.wants;
      nets = sym counted.1 ∙ r.follows.nets;
      count = sym r.follows.counts ∙ counted.0 ∙ ap (λ (ns : List RawNet). length ns ∷ []) counted.1;
    })

-- ---- from the relation to reading

-- lines that say this are read, and what they say follows from what was read before
record WillRead (past : List NetEntry) (ls : List Line) (said : List NetSaid) (more : List (List ℕ)) (names : List (List (List ℕ))) : Type 0 where
  final : List NetEntry
  read : net_entries_from past ls ≡ Ok final
  follows : Follows past final said more names

-- behind a full net reading goes on
pub full_kept : {X : Type 0} (o : Option Count) (found : ℕ) (next : Result X GsrcFault) → IsFull o found → degree_kept o found next ≡ next
full_kept None found next h = refl
full_kept (Some d) found next h = rw (eq-eqb d.said found (omega (arith, h))) refl

-- only an open net wants a pin, and behind it the others alone
wants_less : (o : Option Count) (found found' : ℕ) (name : List ℕ) (more : List (List ℕ)) → found' ≡ found + 1 → Wants o found (name ∷ more) → (is_some o ≡ true) × Wants o found' more
wants_less None found found' name more e h = absurd cc
wants_less (Some d) found found' name more e h = (refl, omega (arith, h, e))

-- where a count is said at most once and stands ahead, none was said before
not_said_yet : (o : Option Count) (n : ℕ) (ns : List ℕ) → length (counts_of o ++ (n ∷ ns)) ≤ 1 → o ≡ None
not_said_yet None n ns h = refl
not_said_yet (Some count) n ns h = absurd (omega arith)

-- the lines are left to say these pins of the last net and then these nets
record IsLeft (past : List NetEntry) (said : List NetSaid) (more : List (List ℕ)) (names : List (List (List ℕ))) : Type 0 where
  parts : filter_map net_part said ≡ map PinIs more ++ flat_map net_lines names
  wants : Wants (degree_said past) (length (last_pins past)) more
  once : length (counts_of (nets_said past) ++ filter_map nets_count said) ≤ 1

-- the first line fits, and this is left behind it
record Begins (k : ℕ) (past : List NetEntry) (s : NetSaid) (said : List NetSaid) (more : List (List ℕ)) (names : List (List (List ℕ))) : Type 0 where
  others : List (List ℕ)
  later : List (List (List ℕ))
  more_is : more_with s others ≡ more
  names_is : names_with s others later ≡ names
  fits : Fits past s
  left : IsLeft (record { number = k; said = s } ∷ past) said others later

-- what the first line says begins what is left
begins : (s : NetSaid) (k : ℕ) (past : List NetEntry) (said : List NetSaid) (more : List (List ℕ)) (names : List (List (List ℕ))) → filter_map net_part (s ∷ said) ≡ map PinIs more ++ flat_map net_lines names
    → IsLeft past (s ∷ said) more names → Begins k past s said more names
begins (NetsAre n) k past said more names parts l =
    let none = not_said_yet (nets_said past) n (filter_map nets_count said) l.once in
    record { others = more; later = names; more_is = refl; names_is = refl; fits = none; left = record { parts = parts; wants = l.wants; once = rw none at l.once } }
begins (PinsAre n) k past said more names parts l = record { others = more; later = names; more_is = refl; names_is = refl; fits = tt; left = record { parts = parts; wants = l.wants; once = l.once } }
begins (DegreeIs d) k past said [] [] parts l = absurd cc
begins (DegreeIs d) k past said [] (m ∷ names) parts l =
    let same : d ≡ length m = cc in
    record { others = m; later = names; more_is = refl; names_is = refl; fits = l.wants; left = record { parts = cc; wants = omega (arith, same); once = l.once } }
begins (DegreeIs d) k past said (m ∷ more) names parts l = absurd cc
begins (PinIs name) k past said [] [] parts l = absurd cc
begins (PinIs name) k past said [] (m ∷ names) parts l = absurd cc
begins (PinIs name) k past said (m ∷ more) names parts l =
    let same : name ≡ m = cc in
    let w = wants_less (degree_said past) (length (last_pins past)) (length (last_pins past ++ Named name ∷ [])) m more (length-append (last_pins past) (Named name ∷ [])) l.wants in
    record { others = more; later = names; more_is = ap (λ (n : List ℕ). n ∷ more) same; names_is = refl; fits = w.0; left = record { parts = cc; wants = w.1; once = l.once } }

-- a line that says what fits is read so
abbrev IsRead : List NetEntry → Line → Option NetWord → NetSaid → Type 0
IsRead past line o s = Fits past s → net_entry_by past line o ≡ Ok (record { number = line.number; said = s })

-- a line is read as what it says, whatever its first word is
line_said : (past : List NetEntry) (line : Line) (s : NetSaid) (o : Option NetWord) → SaysNetBy line s o → IsRead past line o s
line_said past line s (Some net_words.Nets) says = subst (IsRead past line (Some net_words.Nets)) (sym says.2) (λ none. rw (none, says.1) refl)
line_said past line s (Some net_words.Pins) says = subst (IsRead past line (Some net_words.Pins)) (sym says.2) (λ any. rw says.1 refl)
line_said past line s (Some net_words.Degree) says = subst (IsRead past line (Some net_words.Degree)) (sym says.2) (λ full. rw says.1 (full_kept (degree_said past) (length (last_pins past)) _ full))
line_said past line s None says = subst (IsRead past line None) (sym says) (λ some. rw some refl)

-- lines that each say something are read as it, whatever came before
all_said : (ls : List Line) (said : List NetSaid) (past : List NetEntry) (more : List (List ℕ)) (names : List (List (List ℕ))) → AllZip SaysNet ls said → IsLeft past said more names → WillRead past ls said more names
unfolding read_from
all_said [] [] past [] [] each l = record { final = past; read = refl; follows = none_step past l.wants }
all_said [] [] past [] (m ∷ names) each l = absurd (let parts : [] ≡ map PinIs [] ++ flat_map net_lines (m ∷ names) = l.parts in cc)
all_said [] [] past (m ∷ more) names each l = absurd (let parts : [] ≡ map PinIs (m ∷ more) ++ flat_map net_lines names = l.parts in cc)
all_said [] (s ∷ said) past more names each l = absurd each
all_said (line ∷ ls) [] past more names each l = absurd each
all_said (line ∷ ls) (s ∷ said) past more names each l =
    let b = begins s line.number past said more names l.parts l in
    let r = all_said ls said (record { number = line.number; said = s } ∷ past) b.others b.later each.1 b.left in
    let one : net_entry_after past line ≡ Ok (record { number = line.number; said = s }) = line_said past line s (net_word_by line.bytes) each.0 b.fits in
    let f = step s line.number past r.final said b.others b.later b.fits r.follows in
    record {
      final = r.final;
      read = rw one r.read;
      follows = subst (λ (m : List (List ℕ)). Follows past r.final (s ∷ said) m names) b.more_is (subst (λ (ns : List (List (List ℕ))). Follows past r.final (s ∷ said) (more_with s b.others) ns) b.names_is f);
    }

-- the count of the nets is said once
counted : (last n : ℕ) (o : Option Count) (nets : List RawNet) (out : GsrcNets) → counts_of o ≡ n ∷ [] → n ≡ length nets → nets ≡ out.nets → nets_counted last o nets ≡ Ok out
counted last n None nets out h e same = absurd cc
counted last n (Some count) nets out h e same =
    let said : count.said ≡ n = cc in
    rw (eq-eqb count.said (length nets) (said ∙ e)) (λ i. Ok (record { nets = same i }))

-- a text that stands for nets is read as them
pub read_from_stands : (text : List ℕ) (out : GsrcNets) → NetsStandFor text out → nets_read text ≡ Ok out
unfolding nets_read
read_from_stands text out s =
    let once : length (filter_map nets_count s.said) ≤ 1 = omega (arith, ap length s.count) in
    let r = all_said s.others s.said [] [] s.names s.each (record { parts = s.lines_of_nets; wants = refl; once = once }) in
    let nets : nets_of r.final ≡ out.nets = r.follows.nets ∙ sym s.nets in
    let counts : counts_of (nets_said r.final) ≡ length out.nets ∷ [] = r.follows.counts ∙ s.count in
    let end : nets_counted (last_of s.title.number s.others) (nets_said r.final) (nets_of r.final) ≡ Ok out =
    counted (last_of s.title.number s.others) (length out.nets) (nets_said r.final) (nets_of r.final) out counts (ap length (sym nets)) nets in
    rw (s.lines_are, s.titled, r.read) (full_kept (degree_said r.final) (length (last_pins r.final)) _ r.follows.full ∙ end)

-- a text stands for at most one list of nets
pub stands_once_only : (text : List ℕ) (a b : GsrcNets) → NetsStandFor text a → NetsStandFor text b → a ≡ b
stands_once_only text a b p q = ok_is {E = GsrcFault} a b (sym (read_from_stands text a p) ∙ read_from_stands text b q)
