-- An instance of a module.
use Rattle.std.specs.Prelude.{ℕ, List, map}
use Rattle.sf_lex.specs.Text.{words, is_blank_byte}
use Rattle.sf_yal.specs.declared.instance.Instance as code

-- its statement's line, its name, its module and its signals
pub record Instance : Type 0 where
  pub line : ℕ
  pub name : List ℕ
  pub module_name : List ℕ
  pub signals : List (List ℕ)

-- the instance that the code keeps
abbrev pub instance_in : code.Instance → Instance
instance_in i = record { line = i.line; name = i.name; module_name = i.module_name; signals = words is_blank_byte i.signals.now }

-- all that it keeps
abbrev pub instances_in : List code.Instance → List Instance
instances_in items = map instance_in items
