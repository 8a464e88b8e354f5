-- The bound that is chosen by its name, and its parts.
use Rattle.std.specs.Prelude.{ℕ}
use Rattle.sf_model.specs.declared.design.Design.{Design}
use Rattle.sf_node.specs.declared.part.Part.{Part}
use Rattle.sf_node.specs.Parts.{Parts}
use Rattle.sf_standard.specs.Standard.{standard, part_value}
use Rattle.sf_bound_kit.specs.Greater.{greater, greater_part}
use Rattle.sf_bound_kit.specs.Keeping.{kit_value, kit_part}
use Rattle.sf_bound_kit.specs.Pairs.{pair_area, pair_fit}
use Rattle.sf_options.specs.declared.command.BoundsChoice.{BoundsChoice}
use Rattle.sf_options.specs.declared.command.BoundsChoice.TheVariants as by

-- the value of a subproblem; what strong bounds add is known by the design itself
abbrev pub chosen_value : BoundsChoice → Design → Parts → ℕ
chosen_value by.Standard design = standard design
chosen_value by.Strong design = standard design
chosen_value by.Pair design = kit_value pair_area design
chosen_value by.Fit design = kit_value pair_fit design
chosen_value by.Both design = greater (kit_value pair_area design) (kit_value pair_fit design)

-- the value of each of its parts
abbrev pub chosen_part : BoundsChoice → Design → Parts → Part → ℕ
chosen_part by.Standard design = part_value design
chosen_part by.Strong design = part_value design
chosen_part by.Pair design = kit_part pair_area design
chosen_part by.Fit design = kit_part pair_fit design
chosen_part by.Both design = greater_part (kit_part pair_area design) (kit_part pair_fit design)
