-- The imports that the proof files of this crate share.
pub use Rattle.sf_anneal.specs.Measured.{IsFloorplan}
pub use Rattle.sf_anneal.specs.Starts.{IsNoDearer, begun_plan}
pub use Rattle.sf_anneal.specs.declared.beginning.Beginning.{Beginning}
pub use Rattle.sf_known.specs.Initial.{IsSearchInput}
pub use Rattle.sf_known.specs.Known.{Knows, cheaper}
pub use Rattle.sf_known.specs.Routed.{Breaks, IsRouted, Takes}
pub use Rattle.sf_model.proofs.Floored.{cost-of, cost-same, legal-routed, legal-same, paths-one}
pub use Rattle.sf_model.specs.Legal.{Fits, IsLegal, block_count, shapes_of}
pub use Rattle.sf_model.specs.Tree.{HasEachOnce, Tree, height, leaves, tree_of, width}
pub use Rattle.sf_model.specs.declared.design.Design.{Design}
pub use Rattle.sf_model.specs.declared.parts.Block.{Block}
pub use Rattle.sf_model.specs.declared.parts.Outline.{Outline}
pub use Rattle.sf_polish.specs.declared.expr.Expr.{Expr}
pub use Rattle.sf_options.specs.Options.{StartOptions}
pub use Rattle.sf_options.specs.declared.command.BoundsChoice.{BoundsChoice}
pub use Rattle.sf_options.specs.declared.command.BoundsChoice.TheVariants.{Both, Fit, Pair, Standard, Strong}
pub use Rattle.std.proofs.lemmas.Bool.{cases_Bool, cases_lt}
pub use Rattle.std.proofs.lemmas.Bool.Decides.{nat_tests}
