-- The imports that the proof files of this crate share.
pub use Prim.Native.Nat.{zero}
pub use Rattle.sf_certificate.proofs.Growth.{IsBalanced, IsGrown, alike, alike-refl, alike-same, grown, made-deeper, made-subproblems, same-node}
pub use Rattle.sf_certificate.proofs.Merged.{decided-total, if_open, least-same, marks-good, marks-tags, open-total, tags_alike, tags_alike-refl, tags_alike-same}
pub use Rattle.sf_certificate.proofs.Totals.{total, total-append, total-each, total-flat_map, total-map, total-permutation, total-same}
pub use Rattle.sf_certificate.specs.Marks.{IsFair, MaySplit, made, marks, tag_of}
pub use Rattle.sf_certificate.specs.Named.{NamesFirst, unnamed, unnamed_mark}
pub use Rattle.sf_certificate.specs.Valid.{AreTrees, HasCost, least, left_open, one_decided}
pub use Rattle.sf_certificate.specs.declared.cert.Cert.{Cert}
pub use Rattle.sf_certificate.specs.declared.mark.Mark.{Mark}
pub use Rattle.sf_certificate.specs.declared.tag.Tag.{Tag}
pub use Rattle.sf_certificate.specs.declared.tag.Tag.TheVariants.{Closed, Extend, Open, Split}
pub use Rattle.sf_model.proofs.Each.{EachPair, EachPair-map, EachPair-weaker, Some, each-any, each-append, each-left, each-map, each-right, each-weaker}
pub use Rattle.sf_model.specs.declared.design.Design.{Design}
pub use Rattle.sf_node.proofs.Halves.{each-both}
pub use Rattle.sf_node.proofs.Later.{behind-append, blocks-unused, blocks-used, came-from, extending-can, extending-is, later-can}
pub use Rattle.sf_node.proofs.Reached.{after-subproblem, root-subproblem, steps-after}
pub use Rattle.sf_node.specs.ByPart.{first_part}
pub use Rattle.sf_node.specs.Children.{CanStep, IsSubproblem, after, is_unused, may_join, walk}
pub use Rattle.sf_node.specs.Later.{behind, blocks_from, extending, later, pending, when_step}
pub use Rattle.sf_node.specs.Order.{rank, step_cmp, steps_cmp}
pub use Rattle.sf_node.specs.Parts.{Parts}
pub use Rattle.sf_node.specs.Subproblem.{root}
pub use Rattle.sf_node.specs.declared.part.Part.{Part}
pub use Rattle.sf_node.specs.declared.part.Part.TheVariants.{Area, Full, Hull, Pair, Range}
pub use Rattle.sf_node.specs.declared.step.Step.{Step}
pub use Rattle.sf_node.specs.declared.step.Step.TheVariants.{Above, Beside, Block, Left, Right}
pub use Rattle.sf_pieces.specs.Assembly.{AreInOrder, IsGood}
pub use Rattle.sf_pieces.specs.Laid.{HoldTree, IsLaid, open_at, open_in}
pub use Rattle.sf_pieces.specs.Naming.{AreKept, AreNamed, kept_for, renamed, shape_named, shape_of, value_in, with_first_part}
pub use Rattle.sf_pieces.specs.Told.{AreTold, IsRead, mark_of, marks_in, open_mark, told_by}
pub use Rattle.sf_pieces.specs.declared.piece.Piece.{Piece}
pub use Rattle.sf_polish.specs.declared.expr.Expr.{Expr}
pub use Rattle.std.proofs.lemmas.Bool.{cases_Bool, cases_eq, cases_lt, cond-false, cond_both, eq-eqb, eqb-true, le-leb, leb-true}
pub use Rattle.std.proofs.lemmas.Bool.Decides.{nat_tests}
pub use Rattle.std.proofs.lemmas.Cmp.{lists_total, nat_cmp_total, on_total, tied_itself}
pub use Rattle.std.proofs.lemmas.List.{flat_map_more, length-map, map-append, nil_from_length}
pub use Rattle.std.proofs.lemmas.List.Elements.{All-append, All-cons, All-from_recursion, All-nil, All-weaker, recursion_from_All}
pub use Rattle.std.proofs.lemmas.List.Sorted.{All-permutation, IsPermutation-cons, IsPermutation-map, IsPermutation-refl, IsPermutation-remove, IsPermutation-sym, IsPermutation-trans, ranks_by, sorted_far, sum_by-IsPermutation}
pub use Rattle.std.specs.List.{AllByRecursion, flat_map, range_with_len, remove}
pub use Rattle.std.specs.Ordering.{is_lt, ordering_reverse, ordering_then}
pub use Rattle.std.specs.Prelude.{IsPermutation, IsSortedBy, MatchOption, filter, sum_by, ⊤}
