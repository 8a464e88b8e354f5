-- The texts of options in the rows that clap keeps.
use Rattle.std.proofs.Common.{◌≡◌, ◌⊎◌, inl, inr, Bool, true, false, cond, List, [], ◌∷◌, ◌++◌, Some, None, map, fold, refl, sym, ap, ◌∙◌, codes, subst}
use Rattle.sf_words.proofs.Common.{bytes_eq, cases_Bool, Row, first_of, with_default, has_row, more_values, Key, key_text, is_flag, Mode, Token, attached, spaced, alone, key_of, value_of, IsShaped, AreOptions, value_in, full, row_of, text_in_row, flag_text, texts_in, DefaultValue, AsWritten}
use Rattle.clap.specs.Words.{Text}
use Rattle.sf_words.proofs.Lookup.{named_same}
use Rattle.sf_words.proofs.Walks.{at_row-absent}

-- a flag's default
abbrev pub default_row : Key → Row
default_row k = record { id = key_text k; values = codes "false" ∷ []; count = None; source = Some DefaultValue; reading = AsWritten }

-- a choice between the same rows is these rows
same_rows : (b : Bool) (rows : List Row) → cond b rows rows ≡ rows
same_rows true rows = refl
same_rows false rows = refl

-- an option's default changes no row, or the option is a flag and its default row is put at the end
pub defaulted : (rows : List Row) (j : Key) → (with_default rows (full j) ≡ rows) ⊎ ((with_default rows (full j) ≡ rows ++ default_row j ∷ []) × (is_flag j ≡ true))
defaulted rows j = elim (cases_Bool (is_flag j)) [
  | inl f ↦ elim (cases_Bool (has_row (key_text j) rows)) [
    | inl h ↦ inl (rw (f, h) refl)
    | inr h ↦ inr (rw (f, h) (at_row-absent (key_text j) (more_values DefaultValue (codes "false" ∷ [])) _ rows h), f)
  ]
  | inr f ↦ inl (rw f (same_rows (has_row (key_text j) rows) rows))
]

-- what flags' defaults keep holds at the end
pub kept : (P : List Row → Type 0) (keys : List Key) (rows : List Row) → ((rows : List Row) (j : Key) → is_flag j ≡ true → P rows → P (rows ++ default_row j ∷ [])) → P rows
    → P (fold with_default rows (map full keys))
kept P [] rows keeps h = h
kept P (j ∷ keys) rows keeps h =
    kept P keys (with_default rows (full j)) keeps (elim (defaulted rows j) [ inl e ↦ subst P (sym e) h | inr e ↦ subst P (sym e.0) (keeps rows j e.1 h) ])

-- one more row
first_of-more : (id : Text) (rows : List Row) (r : Row) → (first_of id (rows ++ r ∷ []) ≡ first_of id rows)
    ⊎ ((bytes_eq r.id id ≡ true) × (first_of id rows ≡ None) × (first_of id (rows ++ r ∷ []) ≡ first_of id (r ∷ [])))
first_of-more id [] r = elim (cases_Bool (bytes_eq r.id id)) [ inl e ↦ inr (e, refl, refl) | inr e ↦ inl (rw e refl) ]
first_of-more id (x ∷ rows) r = elim (cases_Bool (bytes_eq x.id id)) [
  | inl e ↦ inl (rw e refl)
  | inr e ↦ elim (first_of-more id rows r) [ inl g ↦ inl (rw e g) | inr g ↦ inr (g.0, rw e g.1, rw e g.2) ]
]

-- the defaults of flags leave each option its text
pub texts_kept : (k : Key) (keys : List Key) (rows : List Row) → texts_in (fold with_default rows (map full keys)) k ≡ texts_in rows k
texts_kept k keys rows = kept (λ xs. texts_in xs k ≡ texts_in rows k) keys rows
    (λ xs j flag h. elim (first_of-more (key_text k) xs (default_row j)) [
      | inl g ↦ rw g h
      | inr g ↦
          let same : is_flag k ≡ true = sym (ap is_flag (named_same j k g.0)) ∙ flag in
          let text : first_of (key_text k) (default_row j ∷ []) ≡ Some (codes "false") = rw g.0 refl in
          rw (same, g.2 ∙ text) (rw (same, g.1) at h)
    ]) refl

-- each option has in the rows of the words the text that it has in the words
pub texts_in_rows : (m : Mode) (k : Key) (ts : List Token) → AreOptions m ts → texts_in (map row_of ts) k ≡ value_in ts k
texts_in_rows m k [] options = elim (cases_Bool (is_flag k)) [ inl f ↦ rw f refl | inr f ↦ rw f refl ]
texts_in_rows m k (t ∷ ts) options = elim (cases_Bool (bytes_eq (key_text (key_of t)) (key_text k))) [
  | inl h ↦ rw h (text t options.1 (named_same (key_of t) k h))
  | inr h ↦ rw h (texts_in_rows m k ts options.3)
]
  where
    text : (t : Token) → IsShaped t → key_of t ≡ k → cond (is_flag k) (flag_text (Some (text_in_row t))) (Some (text_in_row t)) ≡ Some (value_of t)
    text (attached j v) shaped same = let f : is_flag k ≡ false = sym (ap is_flag same) ∙ shaped.0 in rw f refl
    text (spaced j v) shaped same = let f : is_flag k ≡ false = sym (ap is_flag same) ∙ shaped.0 in rw f refl
    text (alone j) shaped same = let f : is_flag k ≡ true = sym (ap is_flag same) ∙ shaped in rw f refl
