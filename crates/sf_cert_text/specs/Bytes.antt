-- How a reader stands between two bytes of a text. These are words of the loops that read a text in pieces; what a text says stands in Reading.
use Rattle.std.specs.Prelude.{◌≡◌, ℕ, ◌+◌, List, [], ◌∷◌, ◌++◌, length, codes, Some, None, Result, Ok, Err, if◌then◌else◌}
use Rattle.std.specs.List.{AllByRecursion, count_by}
use Rattle.sf_lex.specs.Text.{is_line_feed, lines}
use Rattle.sf_lex.specs.Scan.{LineWord, numbered, words_of_lines, last_word_line}
use Rattle.sf_cert_text.specs.declared.fault.CertFault.{CertFault}
use Rattle.sf_cert_text.specs.declared.header.Header.{Header}
use Rattle.sf_certificate.specs.declared.tag.Tag.{Tag}
use Rattle.sf_cert_text.specs.declared.version.Version.{Version}
use Rattle.sf_certificate.specs.Said.{Said}
use Rattle.sf_cert_text.specs.Reading.{word_in}
use Rattle.sf_cert_text.specs.Reader.{Reader, first_reader, read_on}

-- a reader of a tree between two bytes: what it was between two words, the word that isn't ended yet, the line in which the
-- next byte stands, and the last line that holds a word
pub record Bytewise : Type 0 where
  pub tree : Reader
  pub word : List ℕ
  pub line : ℕ
  pub last : ℕ

-- before the first byte of a tree, which stands in this line, where the last line that holds a word is that
abbrev pub first_byte : Version → ℕ → ℕ → Bytewise
first_byte version line last = record { tree = first_reader version; word = []; line = line; last = last }

-- behind a blank that no word stands before
abbrev pub past_blank : ℕ → Bytewise → Bytewise
past_blank b at = record at { line = at.line + count_by is_line_feed (b ∷ []) }

-- the words from here on: the first of them may have begun
abbrev pub words_on : Bytewise → List ℕ → List LineWord
words_on at bytes = words_of_lines (numbered at.line (lines (at.word ++ bytes)))

-- the word that was begun, if one was
abbrev pub begun_word : ℕ → List ℕ → List LineWord
begun_word line [] = []
begun_word line (b ∷ bytes) = record { line = line; text = b ∷ bytes } ∷ []

-- the tags that the bytes from here on spell
abbrev pub bytes_on : ℕ → Bytewise → List ℕ → Result (List Tag) CertFault
bytes_on n at bytes = read_on n (last_word_line at.last (words_on at bytes)) at.tree (words_on at bytes)

-- a line is the word `tree`
abbrev pub IsTree : List ℕ → Type 0
IsTree line = word_in (codes "tree") line ≡ Some (codes "tree")

-- a line is another one
abbrev pub IsOther : List ℕ → Type 0
IsOther line = word_in (codes "tree") line ≡ None

-- the lines that LF ends, where the first has begun with some bytes
abbrev pub ended_from : List ℕ → List ℕ → List (List ℕ)
ended_from begun [] = []
ended_from begun (b ∷ bytes) = if is_line_feed b then begun ∷ ended_from [] bytes else ended_from (begun ++ b ∷ []) bytes

-- the line that no LF has ended
abbrev pub open_from : List ℕ → List ℕ → List ℕ
open_from begun [] = begun
open_from begun (b ∷ bytes) = if is_line_feed b then open_from [] bytes else open_from (begun ++ b ∷ []) bytes

-- the header has not ended yet: it ends with the line `tree`
abbrev pub IsPart : List ℕ → Type 0
IsPart text = AllByRecursion IsOther (ended_from [] text)

-- the last line is the first that is `tree`, LF ends each, and what follows stands in further ones
pub record IsHeader (text : List ℕ) : Type 0 where
  pub before : List (List ℕ)
  pub tree : List ℕ
  pub apart : (rest : List ℕ) → lines (text ++ rest) ≡ before ++ tree ∷ lines rest
  pub others : AllByRecursion IsOther before
  pub ended : IsTree tree
  pub count : count_by is_line_feed text ≡ length (before ++ tree ∷ [])

-- the certificate of a header and of a tree that is read
abbrev pub said_with : ℕ → Header → Result (List Tag) CertFault → Result Said CertFault
said_with n header (Ok tags) = Ok (record { blocks = n; plan = header.plan; cost = header.cost; bound = header.bound; paths = header.paths; tags = tags })
said_with n header (Err fault) = Err fault
