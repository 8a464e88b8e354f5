-- The imports that the proof files of this crate share.
pub use Prim.Native.Nat.{zero}
pub use Rattle.sf_cursor.specs.Path.{AreLevels, AreUsed, IsBack, IsLevel, IsOneWay, IsParted, IsPath, NamesOne, Path, beyond, flags_after, most_steps, step_blocks, waiting}
pub use Rattle.sf_cursor.specs.declared.level.Level.{Level}
pub use Rattle.sf_model.specs.declared.design.Design.{Design}
pub use Rattle.sf_node.proofs.Depth.{count-more, subproblem-shallow}
pub use Rattle.sf_node.proofs.Later.{behind-append, blocks-unused, blocks-used, came-from, extending-can, extending-is, later-can}
pub use Rattle.sf_node.proofs.Reached.{after-subproblem, spans-after, steps-after, subproblem-spans}
pub use Rattle.sf_node.specs.Children.{CanStep, CanWalk, IsSubproblem, after, extended, is_unused, may_join, split, walk}
pub use Rattle.sf_node.specs.Later.{HalvesOne, IsChildOf, behind, blocks_from, extending, halved, later, pending}
pub use Rattle.sf_node.specs.Parts.{Parts}
pub use Rattle.sf_node.specs.Subproblem.{root}
pub use Rattle.sf_node.specs.declared.step.Step.{Step}
pub use Rattle.sf_node.specs.declared.step.Step.TheVariants.{Above, Beside, Block, Left, Right}
pub use Rattle.sf_polish.specs.Normal.{ends_in, is_block, is_operand, operands}
pub use Rattle.std.proofs.lemmas.List.{get_or-set_other, get_or-set_same, get_or_default, length-take-le, length_push, nil_from_length, same_from_push, take_more}
