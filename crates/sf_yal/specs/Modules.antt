-- A text's statements, cut into modules and their sections; and what a module says.
use Rattle.std.specs.Prelude.{◌≡◌, ⊤, ℕ, suc, Bool, true, false, ◌&&◌, List, [], ◌∷◌, ◌++◌, map, fold, flat_map, All, Option, Some, None, Result, Ok, Err, if◌then◌else◌, ℤ}
use Rattle.std.specs.List.{list_any}
use Rattle.std.specs.Option.{option_map, option_or}
use Rattle.sf_lex.specs.declared.number.NumberFault.{NumberFault}
use Rattle.sf_parts.specs.declared.raw.RawPad.{RawPad}
use Rattle.sf_names.specs.Names.{has_name}
use Rattle.sf_yal.specs.declared.fault.YalFault.{YalFault}
use Rattle.sf_yal.specs.declared.keyword.Keyword.{Keyword}
use Rattle.sf_yal.specs.declared.keyword.Keyword.TheVariants as keys
use Rattle.sf_lex.specs.declared.vertices.BoxSize.{BoxSize}
use Rattle.sf_yal.specs.Words.{keyword_of, is_parent_word}
use Rattle.sf_yal.specs.Statements.{Statement}
use Rattle.sf_yal.specs.Box.{length_read, dimensions_said}
use Rattle.sf_yal.specs.Numbers.{has_form}
use Rattle.sf_yal.specs.Instances.{Instance}

-- a statement that has words: its line, its first word, and the words behind that
pub record Worded : Type 0 where
  pub line : ℕ
  pub first : List ℕ
  pub more : List (List ℕ)

-- it, or nothing where there are no words
abbrev pub worded_in : ℕ → List (List ℕ) → List Worded
worded_in line [] = []
worded_in line (first ∷ more) = record { line = line; first = first; more = more } ∷ []

-- the statements that have words; the others are passed over
abbrev pub worded : List Statement → List Worded
worded statements = flat_map (λ s. worded_in s.line s.words) statements

-- what its first word means
abbrev pub key : Worded → Keyword
key s = keyword_of s.first

-- ---- the cut

-- a module has lists of terminals, and networks, which are lists of instances
pub data ListKind : Type 0 where
  Terminals : ListKind
  Network : ListKind

-- a list: its kind, the statement that opens it, and those that stand in it
pub record Listing : Type 0 where
  pub kind : ListKind
  pub opening : Worded
  pub inside : List Worded

-- a section of a module: a statement by itself, or a list with the statement that closes it
pub data Section : Type 0 where
  Single : Worded → Section
  Listed : Listing → Worded → Section

-- a module: the statement that opens it, and its sections
pub record Module : Type 0 where
  pub opening : Worded
  pub sections : List Section

-- what a text is made of: statements outside of all modules, and modules, each with the statement that closes it
pub data Item : Type 0 where
  Stray : Worded → Item
  Whole : Module → Worded → Item

-- what is open at the end
pub data Rest : Type 0 where
  Nothing : Rest
  InModule : Module → Rest
  InList : Module → Listing → Rest

-- a text that is cut: what it is made of, and what is open at its end
pub record Cut : Type 0 where
  pub items : List Item
  pub rest : Rest

-- the statements of a list, in their order
abbrev pub listing_text : Listing → List Worded
listing_text l = l.opening ∷ l.inside

-- those of a section
abbrev pub section_text : Section → List Worded
section_text (Single s) = s ∷ []
section_text (Listed l closing) = listing_text l ++ closing ∷ []

-- those of a module that is not closed
abbrev pub module_text : Module → List Worded
module_text m = m.opening ∷ flat_map section_text m.sections

-- those of a module that is closed, or the one that stands by itself
abbrev pub item_text : Item → List Worded
item_text (Stray s) = s ∷ []
item_text (Whole m closing) = module_text m ++ closing ∷ []

-- those of what is open
abbrev pub rest_text : Rest → List Worded
rest_text Nothing = []
rest_text (InModule m) = module_text m
rest_text (InList m l) = module_text m ++ listing_text l

-- all of them
abbrev pub cut_text : Cut → List Worded
cut_text c = flat_map item_text c.items ++ rest_text c.rest

-- outside of all modules MODULE opens one
abbrev pub opens_module : Keyword → Bool
opens_module keys.Module = true
opens_module _ = false

-- in a module IOLIST and NETWORK open lists
abbrev pub opener : ListKind → Keyword
opener Terminals = keys.IoList
opener Network = keys.Network

-- ENDMODULE closes the module, and all else stands by itself
abbrev pub stands_alone : Keyword → Bool
stands_alone keys.IoList = false
stands_alone keys.Network = false
stands_alone keys.EndModule = false
stands_alone _ = true

-- in a list nothing has a meaning but the word that closes it
abbrev pub closes : ListKind → Keyword → Bool
closes Terminals keys.EndIoList = true
closes Network keys.EndNetwork = true
closes _ _ = false

-- a list begins with the word that opens it, and nothing in it closes it
abbrev pub IsListing : Listing → Type 0
IsListing l = (key l.opening ≡ opener l.kind) × All (λ s. closes l.kind (key s) ≡ false) l.inside

-- a section stands alone, or is a list that is closed
abbrev pub IsSection : Section → Type 0
IsSection (Single s) = stands_alone (key s) ≡ true
IsSection (Listed l closing) = IsListing l × (closes l.kind (key closing) ≡ true)

-- a module begins with MODULE, and has sections
abbrev pub IsModule : Module → Type 0
IsModule m = (opens_module (key m.opening) ≡ true) × All IsSection m.sections

-- outside of modules nothing opens one, and ENDMODULE closes it
abbrev pub IsItem : Item → Type 0
IsItem (Stray s) = opens_module (key s) ≡ false
IsItem (Whole m closing) = IsModule m × (key closing ≡ keys.EndModule)

-- what is open is such a module, or such a list of it
abbrev pub IsRest : Rest → Type 0
IsRest Nothing = ⊤
IsRest (InModule m) = IsModule m
IsRest (InList m l) = IsModule m × IsListing l

-- these statements are cut so
pub record AreCut (statements : List Worded) (c : Cut) : Type 0 where
  pub text : statements ≡ cut_text c
  pub items : All IsItem c.items
  pub rest : IsRest c.rest

-- ---- what a module says

-- the word behind the first one
abbrev pub word_of : List (List ℕ) → List ℕ
word_of [] = []
word_of (word ∷ more) = word

-- its name is the word behind MODULE
abbrev pub name_of : Module → List ℕ
name_of m = word_of m.opening.more

-- the section is a list
abbrev pub is_list : Section → Bool
is_list (Single s) = false
is_list (Listed l closing) = true

-- the first word is TYPE
abbrev pub is_type_key : Keyword → Bool
is_type_key keys.Type = true
is_type_key _ = false

-- the section is the statement TYPE
abbrev pub is_type : Section → Bool
is_type (Single s) = is_type_key (key s)
is_type (Listed l closing) = false

-- it is TYPE PARENT
abbrev pub is_parent_type : Section → Bool
is_parent_type (Single s) = is_type_key (key s) && is_parent_word (word_of s.more)
is_parent_type (Listed l closing) = false

-- the module is of the type PARENT
abbrev pub is_parent : Module → Bool
is_parent m = list_any is_parent_type m.sections

-- the box that is read, if it can be read
abbrev pub ok_of : Result BoxSize YalFault → Option BoxSize
ok_of (Ok size) = Some size
ok_of (Err fault) = None

-- the box of the vertices behind DIMENSIONS
abbrev pub box_behind : ℕ → Worded → Keyword → Option BoxSize
box_behind scale s keys.Dimensions = ok_of (dimensions_said scale s.line s.more)
box_behind scale s _ = None

-- the box of a section
abbrev pub section_box : ℕ → Section → Option BoxSize
section_box scale (Single s) = box_behind scale s (key s)
section_box scale (Listed l closing) = None

-- the first box of these sections
abbrev pub box_in : ℕ → List Section → Option BoxSize
box_in scale [] = None
box_in scale (s ∷ more) = option_or (section_box scale s) (box_in scale more)

-- the box of a module
abbrev pub box_of : ℕ → Module → Option BoxSize
box_of scale m = box_in scale m.sections

-- two kinds are the same
abbrev pub is_same : ListKind → ListKind → Bool
is_same Terminals Terminals = true
is_same Network Network = true
is_same _ _ = false

-- the statements in a list, where it is of this kind
abbrev pub in_listing : ListKind → Listing → List Worded
in_listing kind l = if is_same kind l.kind then l.inside else []

-- those in a section
abbrev pub in_section : ListKind → Section → List Worded
in_section kind (Single s) = []
in_section kind (Listed l closing) = in_listing kind l

-- those in all lists of a module
abbrev pub in_module : ListKind → Module → List Worded
in_module kind m = flat_map (in_section kind) m.sections

-- those of the parent alone count
abbrev pub if_parent : Module → List Worded → List Worded
if_parent m all = if is_parent m then all else []

-- ---- what the modules say together

-- the module of an item, if it is one
abbrev pub modules_in : Item → List Module
modules_in (Stray s) = []
modules_in (Whole m closing) = m ∷ []

-- the modules that are closed
abbrev pub closed : Cut → List Module
closed c = flat_map modules_in c.items

-- the module that is open
abbrev pub open_module : Rest → List Module
open_module Nothing = []
open_module (InModule m) = m ∷ []
open_module (InList m l) = m ∷ []

-- all modules in their order
abbrev pub modules : Cut → List Module
modules c = closed c ++ open_module c.rest

-- the place of the first module of the type PARENT; a second one is a fault
abbrev pub parent_place : List Module → Option ℕ
parent_place [] = None
parent_place (m ∷ more) = if is_parent m then Some 0 else option_map suc (parent_place more)

-- what stands in the lists of the module that is open, where it is the parent
abbrev pub in_rest : ListKind → Rest → List Worded
in_rest kind Nothing = []
in_rest kind (InModule m) = if_parent m (in_module kind m)
in_rest kind (InList m l) = if_parent m (in_module kind m ++ in_listing kind l)

-- the parent's terminals, or its instances
abbrev pub in_parent : ListKind → Cut → List Worded
in_parent kind c = flat_map (λ m. if_parent m (in_module kind m)) (closed c) ++ in_rest kind c.rest

-- two numbers, or their faults
abbrev pub Point : Type 0
Point = Result ℤ NumberFault × Result ℤ NumberFault

-- two words that have the form of numbers
abbrev pub point_of : Result ℤ NumberFault → Result ℤ NumberFault → Option Point
point_of x y = if has_form x && has_form y then Some (x, y) else None

-- the third and the fourth word of a terminal, where they have it
abbrev pub point_behind : ℕ → List (List ℕ) → Option Point
point_behind scale (direction ∷ x ∷ y ∷ more) = point_of (length_read scale x) (length_read scale y)
point_behind scale _ = None

-- the pad of a terminal
abbrev pub pad_at : List ℕ → Option Point → List RawPad
pad_at name (Some (Ok x, Ok y)) = record { name = name; place = Some (x, y) } ∷ []
pad_at name _ = []

-- the pads, and that of one more terminal where none of them has its name
abbrev pub with_pad : ℕ → List RawPad → Worded → List RawPad
with_pad scale pads s = if has_name s.first (map (λ p. p.name) pads) then pads else pads ++ pad_at s.first (point_behind scale s.more)

-- the pads of the parent
abbrev pub pads_of : ℕ → Cut → List RawPad
pads_of scale c = fold (with_pad scale) [] (in_parent Terminals c)

-- an instance has a name, a module and signals
abbrev pub instance_at : Worded → List (List ℕ) → List Instance
instance_at s [] = []
instance_at s (module_name ∷ signals) = record { line = s.line; name = s.first; module_name = module_name; signals = signals } ∷ []

-- the instances of the parent
abbrev pub instances_of : Cut → List Instance
instances_of c = flat_map (λ s. instance_at s s.more) (in_parent Network c)
