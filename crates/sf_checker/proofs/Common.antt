-- The imports that the proof files of this crate share.
pub use Rattle.sf_cert_text.specs.Reading.{cert_read, with_tag}
pub use Rattle.sf_certificate.proofs.AfterTags.{least-min, marks-more, waiting-more}
pub use Rattle.sf_certificate.proofs.Growth.{made-subproblems, trees-first}
pub use Rattle.sf_certificate.specs.Form.{IsFormed, no_plan}
pub use Rattle.sf_certificate.specs.Marks.{IsFair, made, marks, waiting_after}
pub use Rattle.sf_certificate.specs.Named.{AllNameFirst, NamesFirst, unnamed}
pub use Rattle.sf_certificate.specs.Places.{place_of, places_under, spell_tree, spell_trees}
pub use Rattle.sf_certificate.specs.Valid.{AreTrees, HasCost, IsValid, decided, least, left_open, one_decided}
pub use Rattle.sf_certificate.specs.declared.cert.Cert.{Cert}
pub use Rattle.sf_certificate.specs.declared.tag.Tag.{Tag}
pub use Rattle.sf_certificate.specs.declared.tag.Tag.TheVariants.{Closed, Extend, Open, Split}
pub use Rattle.sf_checker.specs.Answers.{IsAnswer, IsBadPlan, IsBadTree, IsFirst, IsOtherBound, IsOtherCost, IsPlanRight, IsRight, IsUnfit, is_yes}
pub use Rattle.sf_checker.specs.Feeding.{IsAnswerTo, IsFed}
pub use Rattle.sf_checker.specs.Stages.{HoldsOneWay, IsBody, IsFaulty, IsOutside, IsReady, IsStage}
pub use Rattle.sf_checker.specs.Standing.{IsFound, IsSteady, Judged, Stand, progress_of}
pub use Rattle.sf_checker.specs.Walking.{Progress, and_then, fault_at, low_after, start, unless, visited, walk_past}
unfoldable pub use Rattle.sf_checker.specs.Walking.{walked}
pub use Rattle.sf_checker.specs.declared.answer.Answer.{Answer}
pub use Rattle.sf_checker.specs.declared.answer.Answer.TheVariants.{No, Yes}
pub use Rattle.sf_checker.specs.declared.answer.Why.{Why}
pub use Rattle.sf_checker.specs.declared.answer.Why.TheVariants.{BadChildren, BadPlan, BadSplit, BoundDiffers, CostDiffers, NotClosed}
pub use Rattle.sf_checker.specs.declared.stage.Body.{Body}
pub use Rattle.sf_checker.specs.declared.stage.Stage.TheVariants.{Fault, Opening, Tree}
pub use Rattle.sf_model.proofs.Each.{each-append, each-left, each-right}
pub use Rattle.sf_model.specs.Legal.{Fits, IsLegal, block_count, shapes_of}
pub use Rattle.sf_model.specs.Tree.{Above, Beside, HasBlocksBelow, HasEachOnce, HasSides, Leaf, leaf_count, leaves, tree_of}
pub use Rattle.sf_model.specs.declared.TheConstants.{MAX}
pub use Rattle.sf_model.specs.declared.design.Design.{Design}
pub use Rattle.sf_node.specs.Parts.{Parts}
pub use Rattle.sf_node.specs.Subproblem.{is_complete, is_wide, root, span_of}
pub use Rattle.sf_node.specs.declared.part.Part.{Part}
pub use Rattle.sf_polish.specs.Writable.{IsWritable}
pub use Rattle.sf_polish.specs.declared.expr.Expr.{Expr}
pub use Rattle.std.proofs.Math.Seq.{drop-cons, map-set_same, take-add, take-suc}
pub use Rattle.std.proofs.lemmas.List.{drop-set-lt, drop_all, length-drop, map-append, take-append-drop, take_all, take_more_set}
pub use Rattle.std.proofs.lemmas.List.Elements.{All-append, All-from_recursion, recursion_from_All}
pub use Rattle.std.proofs.lemmas.Result.{err_from_is_err_and}
pub use Rattle.std.specs.List.{AllByRecursion, flat_map}
pub use Rattle.std.specs.Prelude.{All, Contains, IfErr, MatchOption, OnOk, is_some, nat_lt, slice_set, ⊤}
