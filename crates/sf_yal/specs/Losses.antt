-- What of a text gets no place in the parts of a design, and what may be meant otherwise, counted statement by statement.
use Rattle.std.specs.Prelude.{ℕ, ◌+◌, Bool, true, false, not, ◌&&◌, ◌||◌, is_some, List, [], ◌∷◌, Option, Some, None}
use Rattle.sf_yal.specs.declared.keyword.Keyword.{Keyword}
use Rattle.sf_yal.specs.declared.keyword.Keyword.TheVariants as keys
use Rattle.sf_yal.specs.declared.open_module.Section.{Section}
use Rattle.sf_yal.specs.declared.open_module.Section.TheVariants as sections
use Rattle.sf_yal.specs.declared.losses.At.{At}
use Rattle.sf_yal.specs.declared.losses.Counting.{Counting}
use Rattle.sf_yal.specs.declared.losses.YalLosses.{YalLosses}
use Rattle.sf_yal.specs.Words.{keyword_of, is_parent_word, is_pad_word}
use Rattle.sf_yal.specs.Statements.{Statement, statements_of}
use Rattle.sf_yal.specs.Box.{length_read}
use Rattle.sf_yal.specs.Numbers.{has_form}
use Rattle.sf_yal.specs.Modules.{point_behind}

-- the first of the words is such a one
abbrev pub names : (List ℕ → Bool) → List (List ℕ) → Bool
names is_such [] = false
names is_such (word ∷ more) = is_such word

-- the word has the form of a length
abbrev pub is_length_word : ℕ → List ℕ → Bool
is_length_word scale word = has_form (length_read scale word)

-- ---- where a statement stands

-- outside of all modules
abbrev pub outside : At
outside = record { section = None; is_parent = false }

-- in this section of the same module
abbrev pub in_section : At → Section → At
in_section at section = record { section = Some section; is_parent = at.is_parent }

-- behind a statement outside of all modules
abbrev pub behind_outside : Keyword → At
behind_outside keys.Module = in_section outside sections.Body
behind_outside _ = outside

-- behind one of a module outside of its lists
abbrev pub behind_in_body : At → Keyword → List (List ℕ) → At
behind_in_body at keys.EndModule more = outside
behind_in_body at keys.Type more = record { section = at.section; is_parent = at.is_parent || names is_parent_word more }
behind_in_body at keys.IoList more = in_section at sections.Terminals
behind_in_body at keys.Network more = in_section at sections.Network
behind_in_body at _ more = at

-- behind one in a list of terminals
abbrev pub behind_in_terminals : At → Keyword → At
behind_in_terminals at keys.EndIoList = in_section at sections.Body
behind_in_terminals at _ = at

-- behind one in a network
abbrev pub behind_in_network : At → Keyword → At
behind_in_network at keys.EndNetwork = in_section at sections.Body
behind_in_network at _ = at

-- behind a statement, by the section in which it stands
abbrev pub behind : At → Option Section → Keyword → List (List ℕ) → At
behind at None key more = behind_outside key
behind at (Some sections.Body) key more = behind_in_body at key more
behind at (Some sections.Terminals) key more = behind_in_terminals at key
behind at (Some sections.Network) key more = behind_in_network at key

-- ---- what is counted

-- in a list of terminals every statement but the one that closes it is a terminal
abbrev pub is_not_end : Keyword → Bool
is_not_end keys.EndIoList = false
is_not_end _ = true

-- the statement is a terminal of the parent
abbrev pub is_terminal : Bool → Option Section → Keyword → Bool
is_terminal is_parent (Some sections.Terminals) key = is_parent && is_not_end key
is_terminal is_parent _ key = false

-- a terminal of the parent without coordinates
abbrev pub is_unplaced : ℕ → At → Keyword → List (List ℕ) → Bool
is_unplaced scale at key more = is_terminal at.is_parent at.section key && not (is_some (point_behind scale more))

-- the statement is TYPE
abbrev pub is_pad_key : Keyword → List (List ℕ) → Bool
is_pad_key keys.Type more = names is_pad_word more
is_pad_key _ more = false

-- it says that the module is of the type PAD
abbrev pub is_pad_type : Option Section → Keyword → List (List ℕ) → Bool
is_pad_type (Some sections.Body) key more = is_pad_key key more
is_pad_type _ key more = false

-- one more where it holds
abbrev pub one_if : Bool → ℕ
one_if true = 1
one_if false = 0

-- before the first statement
abbrev pub begun : Counting
begun = record { at = outside; losses = record { unplaced = 0; pad_modules = 0 } }

-- with a statement more of this first word and these behind it
abbrev pub counted_key : ℕ → Counting → Keyword → List (List ℕ) → Counting
counted_key scale c key more = record {
  at = behind c.at c.at.section key more;
  losses = record {
    unplaced = c.losses.unplaced + one_if (is_unplaced scale c.at key more);
    pad_modules = c.losses.pad_modules + one_if (is_pad_type c.at.section key more);
  };
}

-- with a statement more of these words; one without words is passed over
abbrev pub counted : ℕ → Counting → List (List ℕ) → Counting
counted scale c [] = c
counted scale c (word ∷ more) = counted_key scale c (keyword_of word) more

-- with all of these
unfoldable pub counted_all : ℕ → Counting → List Statement → Counting
counted_all scale c [] = c
counted_all scale c (s ∷ more) = counted_all scale (counted scale c s.words) more

-- of a whole text: the terminals of the parent that have no coordinates, and the modules of the type PAD
abbrev pub losses_of : ℕ → List ℕ → YalLosses
losses_of scale text = (counted_all scale begun (statements_of text)).losses
