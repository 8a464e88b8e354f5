-- What a walk makes of options in any order and both spellings.
use Rattle.std.proofs.Common.{◌≡◌, inl, inr, true, false, ◌==◌, List, [], ◌∷◌, ◌++◌, Some, Contains, map, fold, refl, sym, ap, ◌∙◌, arith, codes, append_assoc}
use Rattle.sf_words.proofs.Common.{cases_Bool, or_parts, append-nil, bytes_eq, Row, Walk, Held, walked, reacted, settled, with_values, without, at_row, has_row, more_values, settle_passes, walk_passes, Key, Mode, key_text, keys_of, Token, attached, spaced, alone, key_of, before, words_of, IsShaped, IsNew, AreOptions, full, row, row_of, CommandLine, AsWritten}
use Rattle.clap.specs.Words.{Text}
use Rattle.sf_words.proofs.Lookup.{other_text}
use Rattle.sf_words.proofs.Steps.{between, valued, flag, leaf, value_by_id, attached_word, first_word, flag_word, second_word, attached_passes, first_passes, flag_passes, second_passes, value_settles}

-- where no row has the id, a change at it adds the missing row
pub at_row-absent : (id : Text) (change : Row → List Row) (missing : List Row) (rows : List Row) → has_row id rows ≡ false → at_row id change missing rows ≡ rows ++ missing
at_row-absent id change missing [] h = refl
at_row-absent id change missing (r ∷ rows) h = elim (cases_Bool (bytes_eq r.id id)) [
  | inl e ↦ let bad : true ≡ false = rw e at h in cc
  | inr e ↦ rw e (ap (λ (xs : List Row). r ∷ xs) (at_row-absent id change missing rows (rw e at h)))
]

-- a new option adds its row
added : (k : Key) (v : Text) (rows : List Row) → has_row (key_text k) rows ≡ false
    → with_values (key_text k) AsWritten CommandLine (v ∷ []) (without (key_text k) rows) ≡ rows ++ row k v ∷ []
added k v rows fresh =
    ap (with_values (key_text k) AsWritten CommandLine (v ∷ [])) (at_row-absent (key_text k) (λ _. []) [] rows fresh ∙ append-nil rows)
    ∙ at_row-absent (key_text k) (more_values CommandLine (v ∷ [])) _ rows fresh

-- what the words of one option do to what is held
pub record Moves (name : Text) (keys : List Key) (t : Token) (h : Held) : Type 0 where
  pub after : Held
  pub walks : (more : List Text) → fold (walked (map full keys) []) (between h) (before t more) ≡ fold (walked (map full keys) []) (between after) more
  pub rows : (settled (map full keys) after).rows ≡ (settled (map full keys) h).rows ++ row_of t ∷ []
  pub settles : settle_passes (map full keys) false after ≡ true
  pub passes : (more : List Text) → walk_passes (leaf name keys) [] (between h) (before t more) ≡ walk_passes (leaf name keys) [] (between after) more

-- the words of an option of the command that has no row yet move the walk past them
pub moves : (name : Text) (keys : List Key) (t : Token) (h : Held) → Contains keys (key_of t) → IsShaped t → has_row (key_text (key_of t)) (settled (map full keys) h).rows ≡ false
    → settle_passes (map full keys) false h ≡ true → Moves name keys t h
unfolding walk_passes
moves name keys (attached k v) h inside shaped fresh settles = record {
  after = reacted (map full keys) (valued k) (v ∷ []) h;
  walks = λ more. ap (λ (w : Walk). fold (walked (map full keys) []) w more) (attached_word keys k inside shaped.0 h v);
  rows = added k v _ fresh;
  settles = refl;
  passes = λ more. rw (attached_passes keys k inside shaped.0 name h v settles fresh, attached_word keys k inside shaped.0 h v) refl;
}
moves name keys (spaced k []) h inside shaped fresh settles = absurd shaped.1
moves name keys (spaced k (x ∷ v)) h inside shaped fresh settles =
    let c = map full keys in
    let ne : (x == 45) ≡ false = grind arith in
    record {
      after = record (settled c h) { pending = Some (key_text k, (x ∷ v) ∷ []) };
      walks = λ more. ap (λ (w : Walk). fold (walked c []) (walked c [] w (x ∷ v)) more) (first_word keys k inside shaped.0 h)
          ∙ ap (λ (w : Walk). fold (walked c []) w more) (second_word keys k inside shaped.0 (settled c h) x v ne);
      rows = rw (value_by_id keys k inside shaped.0) (added k (x ∷ v) _ fresh);
      settles = value_settles keys k inside shaped.0 (settled c h) (x ∷ v) fresh;
      passes = λ more. rw (first_passes keys k inside shaped.0 name h settles, first_word keys k inside shaped.0 h, second_passes keys k inside name (settled c h) x v ne, second_word keys k inside shaped.0 (settled c h) x v ne) refl;
    }
moves name keys (alone k) h inside shaped fresh settles = record {
  after = reacted (map full keys) (flag k) [] h;
  walks = λ more. ap (λ (w : Walk). fold (walked (map full keys) []) w more) (flag_word keys k inside shaped h);
  rows = added k (codes "true") _ fresh;
  settles = refl;
  passes = λ more. rw (flag_passes keys k inside shaped name h settles fresh, flag_word keys k inside shaped h) refl;
}

-- no row has the key of one of these
abbrev pub Absent : List Row → List Token → Type 0
Absent rows [] = Unit {0}
Absent rows (t ∷ ts) = (has_row (key_text (key_of t)) rows ≡ false) × Absent rows ts

-- at first no option has a row
pub absent_at_first : (ts : List Token) → Absent [] ts
absent_at_first [] = tt
absent_at_first (t ∷ ts) = (refl, absent_at_first ts)

-- one more row of another id gives an id no row that had none
has_row-push : (id : Text) (rows : List Row) (r : Row) → has_row id rows ≡ false → bytes_eq r.id id ≡ false → has_row id (rows ++ r ∷ []) ≡ false
has_row-push id [] r h e = rw e refl
has_row-push id (x ∷ rows) r h e = let apart = or_parts (bytes_eq x.id id) (has_row id rows) h in rw (apart.0, has_row-push id rows r apart.1 e) refl

-- after the row of one option, the others that differ from it have no row still
absent-push : (rows : List Row) (t : Token) (ts : List Token) → Absent rows ts → IsNew (key_of t) ts → Absent (rows ++ row_of t ∷ []) ts
absent-push rows t [] h new = tt
absent-push rows t (u ∷ ts) h new =
    (has_row-push (key_text (key_of u)) rows (row_of t) h.0 (other_text (key_of t) (key_of u) new.0), absent-push rows t ts h.1 new.1)

-- what the words of all options do
pub record Walked (name : Text) (keys : List Key) (ts : List Token) (h : Held) : Type 0 where
  pub end : Held
  pub walks : fold (walked (map full keys) []) (between h) (words_of ts) ≡ between end
  pub rows : (settled (map full keys) end).rows ≡ (settled (map full keys) h).rows ++ map row_of ts
  pub settles : settle_passes (map full keys) false end ≡ true
  pub passes : walk_passes (leaf name keys) [] (between h) (words_of ts) ≡ true

-- the words of all options that have no row yet are walked to their end
pub walked_all : (name : Text) (m : Mode) (ts : List Token) (h : Held) → AreOptions m ts → Absent (settled (map full (keys_of m)) h).rows ts
    → settle_passes (map full (keys_of m)) false h ≡ true → Walked name (keys_of m) ts h
unfolding walk_passes
walked_all name m [] h options absent settles = record { end = h; walks = refl; rows = sym (append-nil (settled (map full (keys_of m)) h).rows); settles = settles; passes = refl }
walked_all name m (t ∷ ts) h options absent settles =
    let step = moves name (keys_of m) t h options.0 options.1 absent.0 settles in
    let still = absent-push (settled (map full (keys_of m)) h).rows t ts absent.1 options.2 in
    let next = walked_all name m ts step.after options.3 (rw step.rows still) step.settles in
    record {
      end = next.end;
      walks = step.walks (words_of ts) ∙ next.walks;
      rows = next.rows ∙ (ap (λ (xs : List Row). xs ++ map row_of ts) step.rows ∙ append_assoc (settled (map full (keys_of m)) h).rows _ _);
      settles = next.settles;
      passes = step.passes (words_of ts) ∙ next.passes;
    }
