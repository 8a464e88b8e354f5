-- The imports that the proof files of this crate share.
pub use Prim.Native.Nat.{zero}
pub use Rattle.sf_certificate.proofs.AfterTags.{marks-then, waiting-more}
pub use Rattle.sf_certificate.proofs.Growth.{made-deeper, made-subproblems, trees-first, trees-step}
pub use Rattle.sf_certificate.proofs.Totals.{total, total-append, total-flat_map, total-map, total-permutation, total-same}
pub use Rattle.sf_certificate.specs.Marks.{IsFair, MaySplit, made, marks, tag_of, waiting_after}
pub use Rattle.sf_certificate.specs.Named.{AllNameFirst, AreAlikeButNames, NamesFirst}
pub use Rattle.sf_certificate.specs.Valid.{AreTrees, HasCost, IsValid, decided, least, left_open, one_decided}
pub use Rattle.sf_certificate.specs.declared.cert.Cert.{Cert}
pub use Rattle.sf_certificate.specs.declared.mark.Mark.{Mark}
pub use Rattle.sf_certificate.specs.declared.tag.Tag.{Tag}
pub use Rattle.sf_certificate.specs.declared.tag.Tag.TheVariants.{Closed, Extend, Open, Split}
pub use Rattle.sf_count.specs.Given.{full_of}
pub use Rattle.sf_cursor.specs.Path.{IsPath, Path, beyond, waiting}
pub use Rattle.sf_cursor.specs.declared.stretch.Stretch.{Stretch}
pub use Rattle.sf_model.proofs.Each.{each-any, each-append, each-left, each-map, each-right, each-weaker}
pub use Rattle.sf_model.specs.declared.design.Design.{Design}
pub use Rattle.sf_node.proofs.Halves.{each-both}
pub use Rattle.sf_node.proofs.Reached.{root-subproblem, steps-after, walk-append}
pub use Rattle.sf_node.specs.Children.{CanStep, CanWalk, IsSubproblem, after, walk}
pub use Rattle.sf_node.specs.Later.{behind, later, pending}
pub use Rattle.sf_node.specs.Parts.{Parts}
pub use Rattle.sf_node.specs.Subproblem.{root}
pub use Rattle.sf_node.specs.declared.part.Part.{Part}
pub use Rattle.sf_node.specs.declared.step.Step.{Step}
pub use Rattle.sf_pieces.proofs.Laid.{each-flat_map, each-unmap, open-in-total}
pub use Rattle.sf_pieces.proofs.Weights.{marks-permute, nodes-permute}
pub use Rattle.sf_pieces.specs.Laid.{HoldTree, IsLaid, open_in}
pub use Rattle.sf_pieces.specs.Naming.{AreNamed, is_late}
pub use Rattle.sf_pieces.specs.Told.{AreTold, IsRead, marks_in, open_mark, told_by}
pub use Rattle.sf_pieces.specs.declared.piece.Piece.{Piece}
pub use Rattle.sf_polish.specs.declared.expr.Expr.{Expr}
pub use Rattle.sf_resume.specs.Apart.{IsApart, IsDecidedRun, IsOpenRun}
pub use Rattle.sf_resume.specs.Early.{IsEarly}
pub use Rattle.sf_resume.specs.Grafted.{CanGraft, IsGrafted}
pub use Rattle.sf_resume.specs.Reach.{IsReach, floor_of}
pub use Rattle.sf_resume.specs.Reading.{AreSomeTree, AreTreesOf, IsReadOn, IsReading, opens}
pub use Rattle.sf_resume.specs.declared.cutting.Apart.{Apart}
pub use Rattle.sf_resume.specs.declared.reading.Reading.{Reading}
pub use Rattle.sf_rounds.specs.Rounds.{all_waits}
pub use Rattle.sf_search_core.specs.Conserved.{IsConserved, IsDecided, branched, children}
pub use Rattle.sf_search_core.specs.declared.entry.Entry.{Entry}
pub use Rattle.std.proofs.lemmas.Bool.{cases_Bool, cases_lt, cond-false, cond-true, le-leb, ltb-true}
pub use Rattle.std.proofs.lemmas.List.{drop_all, map-append, take_all, take_more}
pub use Rattle.std.proofs.lemmas.List.Concat.{flat_map-append}
pub use Rattle.std.proofs.lemmas.List.Elements.{All-append, All-cons, All-from_recursion, All-nil, recursion_from_All}
pub use Rattle.std.proofs.lemmas.List.Sorted.{All-permutation, IsPermutation-sym}
pub use Rattle.std.specs.List.{AllByRecursion, flat_map}
pub use Rattle.std.specs.Prelude.{MatchOption, nat_lt, sum_by, unwrap_or, ⊤}
