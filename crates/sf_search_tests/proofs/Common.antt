-- The imports that the proof files of this crate share.
pub use Prim.Native.Nat.{zero}
pub use Rattle.sf_model.specs.Legal.{IsLegal, block_count, shapes_of}
pub use Rattle.sf_model.specs.Tree.{Beside, Leaf, Tree, leaves}
pub use Rattle.sf_model.specs.declared.design.Design.{Design}
pub use Rattle.sf_model.specs.declared.parts.Block.{Block}
pub use Rattle.sf_model.specs.declared.parts.Shape.{Shape}
pub use Rattle.sf_node.proofs.Reached.{extended-subproblems, root-subproblem, split-subproblems, subproblem-spans}
pub use Rattle.sf_node.specs.Children.{CanSplit, IsSubproblem, extended}
pub use Rattle.std.proofs.lemmas.List.Elements.{All-from_recursion, All-get_or}
pub use Rattle.std.specs.List.{AllByRecursion}
