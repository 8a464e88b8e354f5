-- What clap keeps is what the options have.
use Rattle.std.proofs.Common.{◌≡◌, ◌≢◌, true, false, List, Option, Some, None, map, refl, ap, ◌∙◌, codes}
use Rattle.sf_words.proofs.Common.{bytes_eq, Row, first_of, Key, Mode, key_text, is_flag, keys_of, Token, AreOptions, value_in, flag_text, texts_in, row_of, rows_for}
use Rattle.clap.specs.Words.{Text}
use Rattle.sf_words.proofs.Lookup.{bytes_eq-other}
use Rattle.sf_words.proofs.Rows.{texts_kept, texts_in_rows}

-- a flag whose text is not `true` is not given
pub not_true : (o : Option Text) → o ≢ Some (codes "true") → flag_text o ≡ None
not_true None ne = refl
not_true (Some text) ne = let other : bytes_eq text (codes "true") ≡ false = bytes_eq-other (λ e. ne (ap (λ (t : Text). Some t) e)) in rw other refl

-- all options have in the rows of a command the texts that they have in the words
pub texts_are : (m : Mode) (ts : List Token) → AreOptions m ts → texts_in (rows_for m ts) ≡ value_in ts
texts_are m ts options = λ i k. (texts_kept k (keys_of m) (map row_of ts) ∙ texts_in_rows m k ts options) i

-- the text of an option that takes a value is that of its row
pub texts_in_value : (rows : List Row) (k : Key) → is_flag k ≡ false → texts_in rows k ≡ first_of (key_text k) rows
texts_in_value rows k e = rw e refl

-- a flag is given where its row has the text `true`
pub texts_in_flag : (rows : List Row) (k : Key) {o : Option Text} → is_flag k ≡ true → first_of (key_text k) rows ≡ o → texts_in rows k ≡ flag_text o
texts_in_flag rows k e h = rw (e, h) refl
