-- The chosen bound is sound, and its parts are parts of it.
use Rattle.sf_program.proofs.Common.{Design, BoundsChoice, chosen_part, chosen_value}
use Rattle.sf_node.specs.Bounds.{IsSound}
use Rattle.sf_node.specs.ByPart.{ArePartsOf}
use Rattle.sf_standard.proofs.ByPart.{parts_are_below}
use Rattle.sf_standard.proofs.Soundness.{standard_is_sound}
use Rattle.sf_bound_kit.proofs.Apart.{pair-area-below, pair-fit-below}
use Rattle.sf_bound_kit.specs.Keeping.{kit_part, kit_value}
use Rattle.sf_bound_kit.specs.Lawful.{both_are_sound, both_parts, kit_is_sound, kit_parts}
use Rattle.sf_bound_kit.specs.Pairs.{pair_area, pair_fit}
use Rattle.sf_options.specs.declared.command.BoundsChoice.TheVariants as by

-- no plan costs less than the chosen bound
pub chosen-sound : (bounds : BoundsChoice) (design : Design) → IsSound design (chosen_value bounds design)
chosen-sound by.Standard design = standard_is_sound design
chosen-sound by.Strong design = standard_is_sound design
chosen-sound by.Pair design = kit_is_sound pair_area pair-area-below design (standard_is_sound design)
chosen-sound by.Fit design = kit_is_sound pair_fit pair-fit-below design (standard_is_sound design)
chosen-sound by.Both design =
    both_are_sound design (kit_value pair_area design) (kit_value pair_fit design) (kit_is_sound pair_area pair-area-below design (standard_is_sound design)) (kit_is_sound pair_fit pair-fit-below design (standard_is_sound design))

-- no part of it is above it
pub chosen-parts : (bounds : BoundsChoice) (design : Design) → ArePartsOf design (chosen_value bounds design) (chosen_part bounds design)
chosen-parts by.Standard design = parts_are_below design
chosen-parts by.Strong design = parts_are_below design
chosen-parts by.Pair design = kit_parts pair_area design (parts_are_below design)
chosen-parts by.Fit design = kit_parts pair_fit design (parts_are_below design)
chosen-parts by.Both design =
    both_parts design (kit_value pair_area design) (kit_value pair_fit design) (kit_part pair_area design) (kit_part pair_fit design) (kit_parts pair_area design (parts_are_below design)) (kit_parts pair_fit design (parts_are_below design))
