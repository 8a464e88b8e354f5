-- How the reader goes through the statements, one after another: a step of its proofs. What a text stands for, and
-- which fault it has, is said without it in Standing.
use Rattle.std.specs.Prelude.{◌≡◌, ℕ, true, false, ◌||◌, ◌&&◌, not, List, [], ◌∷◌, ◌++◌, length, Option, Some, None, is_some, Result, Ok, Err, if◌then◌else◌, ℤ}
use denote.Ref.{Bor}
use Rattle.sf_lex.specs.declared.number.NumberFault.{NumberFault}
use Rattle.sf_parts.specs.declared.raw.RawPad.{RawPad}
use Rattle.sf_yal.specs.declared.fault.YalFault.{YalFault}
use Rattle.sf_yal.specs.declared.fault.YalFault.TheVariants as faults
use Rattle.sf_yal.specs.declared.keyword.Keyword.{Keyword}
use Rattle.sf_yal.specs.declared.keyword.Keyword.TheVariants as keys
use Rattle.sf_yal.specs.declared.open_module.OpenModule.{OpenModule}
use Rattle.sf_yal.specs.declared.open_module.Section.{Section}
use Rattle.sf_yal.specs.declared.open_module.Section.TheVariants as sections
use Rattle.sf_yal.specs.declared.found.Found.{Found}
use Rattle.sf_lex.specs.declared.vertices.BoxSize.{BoxSize}
use Rattle.sf_yal.specs.Words.{keyword_of, is_parent_word}
use Rattle.sf_yal.specs.Statements.{Statement}
use Rattle.sf_yal.specs.Box.{◌>>=◌, length_read, number_in, dimensions_said}
use Rattle.sf_yal.specs.Numbers.{has_form}
use Rattle.sf_names.specs.Names.{has_name}
use Rattle.sf_yal.specs.Instances.{Instance, instances_in}

-- what has been said so far: of the module that is open; the names of all modules, and the boxes of those that are
-- closed; the place of the parent among them, and its pads and instances
pub record Reading : Type 0 where
  pub current : Option OpenModule
  pub names : List (List ℕ)
  pub sizes : List (Option BoxSize)
  pub parent : Option ℕ
  pub pad_names : List (List ℕ)
  pub pads : List RawPad
  pub instances : List Instance

-- before the first statement
abbrev pub start : Reading
start = record { current = None; names = []; sizes = []; parent = None; pad_names = []; pads = []; instances = [] }

-- ---- outside and in a module

-- a module of which nothing is said
abbrev pub module_begun : OpenModule
module_begun = record { section = sections.Body; is_typed = false; is_parent = false; has_list = false; size = None }

-- the module of this name is open
abbrev pub module_opened : Reading → List ℕ → Reading
module_opened r name = record r { current = Some module_begun; names = r.names ++ name ∷ [] }

-- MODULE name
unfoldable pub module_said : Reading → ℕ → List (List ℕ) → Result Reading YalFault
module_said r line [] = Err (faults.BadStatement line)
module_said r line (name ∷ more) = if has_name name r.names then Err (faults.BadStatement line) else Ok (module_opened r name)

-- the type of a module that isn't the parent
abbrev pub type_taken : Reading → OpenModule → Reading
type_taken r o = record r { current = Some (record o { is_typed = true }) }

-- that of the parent
abbrev pub parent_taken : Reading → OpenModule → Reading
parent_taken r o = record r { current = Some (record o { is_typed = true; is_parent = true }); parent = Some (length r.sizes) }

-- TYPE word
unfoldable pub type_said : Reading → OpenModule → ℕ → List (List ℕ) → Result Reading YalFault
type_said r o line [] = Err (faults.BadStatement line)
type_said r o line (word ∷ more) = if o.is_typed || o.has_list then Err (faults.BadStatement line)
    else if is_parent_word word
    then (if is_some r.parent then Err (faults.TwoParents line) else Ok (parent_taken r o))
    else Ok (type_taken r o)

-- the box of the module
abbrev pub size_taken : Reading → OpenModule → BoxSize → Reading
size_taken r o size = record r { current = Some (record o { size = Some size }) }

-- DIMENSIONS x y x y ..
unfoldable pub box_said : ℕ → Reading → OpenModule → ℕ → List (List ℕ) → Result Reading YalFault
box_said scale r o line places = if is_some o.size then Err (faults.BadStatement line)
    else (dimensions_said scale line places >>= λ size. Ok (size_taken r o size))

-- a list of the module is open
abbrev pub list_opened : Reading → OpenModule → Section → Reading
list_opened r o section = record r { current = Some (record o { section = section; has_list = true }) }

-- its list is closed
abbrev pub list_closed : Reading → OpenModule → Reading
list_closed r o = record r { current = Some (record o { section = sections.Body }) }

-- the module is closed
abbrev pub module_closed : Reading → OpenModule → Reading
module_closed r o = record r { current = None; sizes = r.sizes ++ o.size ∷ [] }

-- a statement outside of all modules
abbrev pub outside_said : Reading → ℕ → Keyword → List (List ℕ) → Result Reading YalFault
outside_said r line keys.Module more = module_said r line more
outside_said r line keys.EndModule more = Err (faults.BadStatement line)
outside_said r line _ more = Ok r

-- a statement of a module outside of its lists
abbrev pub in_body_said : ℕ → Reading → OpenModule → ℕ → Keyword → List (List ℕ) → Result Reading YalFault
in_body_said scale r o line keys.Module more = Err (faults.BadStatement line)
in_body_said scale r o line keys.EndModule more = Ok (module_closed r o)
in_body_said scale r o line keys.Type more = type_said r o line more
in_body_said scale r o line keys.Dimensions more = box_said scale r o line more
in_body_said scale r o line keys.IoList more = Ok (list_opened r o sections.Terminals)
in_body_said scale r o line keys.Network more = Ok (list_opened r o sections.Network)
in_body_said scale r o line _ more = Ok r

-- ---- in a list

-- a pad at this place
abbrev pub pad_taken : Reading → List ℕ → ℤ × ℤ → Reading
pad_taken r name place = record r { pad_names = r.pad_names ++ name ∷ []; pads = r.pads ++ record { name = name; place = Some place } ∷ [] }

-- a terminal of the parent is a pad where no earlier one has its name and its third and fourth words are numbers
unfoldable pub placed_said : Reading → ℕ → List ℕ → Result ℤ NumberFault → Result ℤ NumberFault → Result Reading YalFault
placed_said r line name x y = if has_name name r.pad_names || not (has_form x && has_form y) then Ok r
    else do
      a ← number_in line x
      b ← number_in line y
      Ok (pad_taken r name (a, b))

-- a terminal of the parent
unfoldable pub terminal_said : ℕ → Reading → ℕ → List (List ℕ) → Result Reading YalFault
terminal_said scale r line (name ∷ kind ∷ x ∷ y ∷ more) = placed_said r line name (length_read scale x) (length_read scale y)
terminal_said scale r line _ = Ok r

-- an instance more
abbrev pub instance_taken : Reading → Instance → Reading
instance_taken r one = record r { instances = r.instances ++ one ∷ [] }

-- an instance of the parent: its name, its module and its signals
unfoldable pub instance_said : Reading → ℕ → List (List ℕ) → Result Reading YalFault
instance_said r line (name ∷ module_name ∷ signals) = Ok (instance_taken r (record { line = line; name = name; module_name = module_name; signals = signals }))
instance_said r line _ = Err (faults.BadStatement line)

-- a statement of a list IOLIST
abbrev pub in_terminals_said : ℕ → Reading → OpenModule → ℕ → Keyword → List (List ℕ) → Result Reading YalFault
in_terminals_said scale r o line keys.EndIoList all = Ok (list_closed r o)
in_terminals_said scale r o line _ all = if o.is_parent then terminal_said scale r line all else Ok r

-- a statement of a list NETWORK
abbrev pub in_network_said : Reading → OpenModule → ℕ → Keyword → List (List ℕ) → Result Reading YalFault
in_network_said r o line keys.EndNetwork all = Ok (list_closed r o)
in_network_said r o line _ all = if o.is_parent then instance_said r line all else Ok r

-- ---- the statements one after another

-- a statement of the module that is open, by the section in which it stands
abbrev pub said_in : ℕ → Reading → OpenModule → ℕ → Section → List ℕ → List (List ℕ) → Result Reading YalFault
said_in scale r o line sections.Body word more = in_body_said scale r o line (keyword_of word) more
said_in scale r o line sections.Terminals word more = in_terminals_said scale r o line (keyword_of word) (word ∷ more)
said_in scale r o line sections.Network word more = in_network_said r o line (keyword_of word) (word ∷ more)

-- a statement, by the module that is open
abbrev pub said_at : ℕ → Reading → ℕ → Option OpenModule → List ℕ → List (List ℕ) → Result Reading YalFault
said_at scale r line None word more = outside_said r line (keyword_of word) more
said_at scale r line (Some o) word more = said_in scale r o line o.section word more

-- what is said after a statement; an empty one is passed over
abbrev pub after_words : ℕ → Reading → ℕ → List (List ℕ) → Result Reading YalFault
after_words scale r line [] = Ok r
after_words scale r line (word ∷ more) = said_at scale r line r.current word more

-- the same, of the words of a statement in its line
abbrev pub after_statement : ℕ → Reading → Statement → Result Reading YalFault
after_statement scale r s = after_words scale r s.line s.words

-- what is said after all of them
unfoldable pub after_statements : ℕ → Reading → List Statement → Result Reading YalFault
after_statements scale r [] = Ok r
after_statements scale r (s ∷ more) = do
  next ← after_statement scale r s
  after_statements scale next more

-- ---- what the code keeps

-- what the reader keeps, as lists
abbrev pub reading_in : Found → Reading
reading_in f = record { current = f.current; names = f.names; sizes = f.sizes.items; parent = f.parent; pad_names = f.pad_names; pads = f.pads.items; instances = instances_in f.instances.items }

-- The fault is that of the reading, unless memory ran out.
abbrev pub Fails : {X : Type 0} → YalFault → Result X YalFault → Type 0
Fails faults.NoMemory read = Unit {0}
Fails fault read = read ≡ Err fault

-- What a function returned is what reading gives, unless memory ran out.
abbrev pub Gives : {X : Type 0} → Result X YalFault → Result X YalFault → Type 0
Gives (Ok x) read = read ≡ Ok x
Gives (Err fault) read = Fails fault read

-- What a function keeps is what reading gives, unless memory ran out.
abbrev pub Keeps : {T : Type 0} → Result T YalFault → Found → Result Reading YalFault → Type 0
Keeps (Ok x) new read = read ≡ Ok (reading_in new)
Keeps (Err fault) new read = Fails fault read

-- All statements were read, and what they say is kept with what stands behind them; or they have this fault
abbrev pub ReadsAll : Result (Found × Bor (List ℕ)) YalFault → Result Reading YalFault → List ℕ → Type 0
ReadsAll (Ok r) read last = (read ≡ Ok (reading_in r.0)) × (r.1.now ≡ last)
ReadsAll (Err fault) read last = Fails fault read
