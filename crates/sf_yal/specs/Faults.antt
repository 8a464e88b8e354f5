-- The fault of a statement, by where it stands, and that of an instance.
use Rattle.std.specs.Prelude.{◌≡◌, ◌≢◌, ◌⊎◌, ℕ, ◌<◌, ◌&&◌, ◌||◌, List, [], ◌∷◌, ◌++◌, map, Option, Some, None, is_some, Result, Ok, Err, if◌then◌else◌, slice_get}
use Rattle.std.specs.List.{AllZip, list_any}
use Rattle.sf_parts.specs.declared.raw.Kind.TheVariants as kinds
use Rattle.sf_parts.specs.declared.raw.RawBlock.{RawBlock}
use Rattle.sf_parts.specs.declared.raw.RawPad.{RawPad}
use Rattle.sf_names.specs.Names.{has_name, index_of}
use Rattle.sf_yal.specs.declared.fault.YalFault.{YalFault}
use Rattle.sf_yal.specs.declared.fault.YalFault.TheVariants.{BadStatement, BadNumber, TwoParents, UnknownModule, ZeroSide}
use Rattle.sf_yal.specs.declared.keyword.Keyword.{Keyword}
use Rattle.sf_yal.specs.declared.keyword.Keyword.TheVariants as keys
use Rattle.sf_lex.specs.declared.vertices.BoxSize.{BoxSize}
use Rattle.sf_yal.specs.Box.{dimensions_said}
use Rattle.sf_yal.specs.Instances.{Instance}
use Rattle.sf_yal.specs.Modules.{Worded, key, ListKind, Terminals, Network, Listing, Module, Rest, Nothing, InModule, InList, Cut, closes, name_of, is_type, is_list, is_parent, box_of, modules, parent_place, Point, point_behind, pads_of}
use Rattle.sf_yal.specs.Words.{is_parent_word}

-- ---- of a statement

-- MODULE has a name, which no earlier module has
abbrev pub name_fault : List (List ℕ) → ℕ → List (List ℕ) → Option YalFault
name_fault names line [] = Some (BadStatement line)
name_fault names line (name ∷ more) = if has_name name names then Some (BadStatement line) else None

-- TYPE has a word, is the only one of its module, and stands before its lists; no two modules are of the type PARENT
abbrev pub type_fault : Option ℕ → Module → ℕ → List (List ℕ) → Option YalFault
type_fault parent m line [] = Some (BadStatement line)
type_fault parent m line (word ∷ more) = if list_any is_type m.sections || list_any is_list m.sections then Some (BadStatement line)
    else if is_parent_word word && is_some parent then Some (TwoParents line)
    else None

-- the fault of a box that can't be read
abbrev pub err_of : Result BoxSize YalFault → Option YalFault
err_of (Ok size) = None
err_of (Err fault) = Some fault

-- DIMENSIONS is the only one of its module, and has vertices
abbrev pub box_fault : ℕ → Module → Worded → Option YalFault
box_fault scale m s = if is_some (box_of scale m) then Some (BadStatement s.line) else err_of (dimensions_said scale s.line s.more)

-- two numbers can be read
abbrev pub point_fault : ℕ → Option Point → Option YalFault
point_fault line None = None
point_fault line (Some (Err fault, y)) = Some (BadNumber line fault)
point_fault line (Some (Ok x, Err fault)) = Some (BadNumber line fault)
point_fault line (Some (Ok x, Ok y)) = None

-- the two numbers of a terminal can be read, where no earlier pad has its name
abbrev pub terminal_fault : ℕ → List RawPad → Worded → Option YalFault
terminal_fault scale pads s = if has_name s.first (map (λ p. p.name) pads) then None else point_fault s.line (point_behind scale s.more)

-- an instance names its module
abbrev pub instance_fault : ℕ → List (List ℕ) → Option YalFault
instance_fault line [] = Some (BadStatement line)
instance_fault line (module_name ∷ more) = None

-- outside of all modules ENDMODULE may not stand
abbrev pub outside_fault : Cut → Worded → Keyword → Option YalFault
outside_fault c s keys.Module = name_fault (map name_of (modules c)) s.line s.more
outside_fault c s keys.EndModule = Some (BadStatement s.line)
outside_fault c s _ = None

-- in a module MODULE may not stand
abbrev pub body_fault : ℕ → Cut → Module → Worded → Keyword → Option YalFault
body_fault scale c m s keys.Module = Some (BadStatement s.line)
body_fault scale c m s keys.Type = type_fault (parent_place (modules c)) m s.line s.more
body_fault scale c m s keys.Dimensions = box_fault scale m s
body_fault scale c m s _ = None

-- a statement in a list of the parent
abbrev pub listed_fault : ℕ → Cut → ListKind → Worded → Option YalFault
listed_fault scale c Terminals s = terminal_fault scale (pads_of scale c) s
listed_fault scale c Network s = instance_fault s.line s.more

-- the lists of the parent alone have faults
abbrev pub list_fault : ℕ → Cut → Module → Listing → Worded → Option YalFault
list_fault scale c m l s = if closes l.kind (key s) then None else if is_parent m then listed_fault scale c l.kind s else None

-- the fault of a statement where this is open
abbrev pub fault_in : ℕ → Cut → Rest → Worded → Option YalFault
fault_in scale c Nothing s = outside_fault c s (key s)
fault_in scale c (InModule m) s = body_fault scale c m s (key s)
fault_in scale c (InList m l) s = list_fault scale c m l s

-- the fault of a statement behind those that are cut so
abbrev pub fault_at : ℕ → Cut → Worded → Option YalFault
fault_at scale c s = fault_in scale c c.rest s

-- ---- of an instance

-- the box of a module, if there is one
abbrev pub box_if : ℕ → Option Module → Option BoxSize
box_if scale None = None
box_if scale (Some m) = box_of scale m

-- the box of the module at a place
abbrev pub box_at : ℕ → List Module → ℕ → Option BoxSize
box_at scale all k = box_if scale (slice_get all k)

-- its block has the box of its module, which is one of the text and not the parent
pub record IsBlockOf (scale : ℕ) (all : List Module) (parent : ℕ) (i : Instance) (block : RawBlock) : Type 0 where
  pub place : ℕ
  pub size : BoxSize
  pub known : index_of i.module_name (map name_of all) ≡ Some place
  pub child : place ≢ parent
  pub boxed : box_at scale all place ≡ Some size
  pub wide : 0 < size.w
  pub high : 0 < size.h
  pub block_is : block ≡ record { name = i.name; kind = kinds.Hard size.w size.h }

-- its module has no box, or one with a side of 0
abbrev pub SizeFault : ℕ → Option BoxSize → YalFault → Type 0
SizeFault line None fault = fault ≡ BadStatement line
SizeFault line (Some size) fault = ((size.w ≡ 0) ⊎ (size.h ≡ 0)) × (fault ≡ ZeroSide line)

-- its module is none of the text, or the parent; or has such a box
abbrev pub PlaceFault : ℕ → List Module → ℕ → Instance → Option ℕ → YalFault → Type 0
PlaceFault scale all parent i None fault = fault ≡ UnknownModule i.line i.module_name
PlaceFault scale all parent i (Some k) fault = ((k ≡ parent) × (fault ≡ UnknownModule i.line i.module_name)) ⊎ ((k ≢ parent) × SizeFault i.line (box_at scale all k) fault)

-- the fault of an instance
abbrev pub InstanceFault : ℕ → List Module → ℕ → Instance → YalFault → Type 0
InstanceFault scale all parent i fault = PlaceFault scale all parent i (index_of i.module_name (map name_of all)) fault

-- the first instance that has a fault
pub record FirstInstanceFault (scale : ℕ) (all : List Module) (parent : ℕ) (instances : List Instance) (fault : YalFault) : Type 0 where
  pub before : List Instance
  pub i : Instance
  pub after : List Instance
  pub instances_are : instances ≡ before ++ i ∷ after
  pub blocks : List RawBlock
  pub sound : AllZip (IsBlockOf scale all parent) before blocks
  pub faulty : InstanceFault scale all parent i fault
