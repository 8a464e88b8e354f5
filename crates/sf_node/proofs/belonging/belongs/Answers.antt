use Rattle.std.proofs.Common.{List, sym, subst}
use Rattle.sf_node.proofs.Common.{tree_of, Token, AreInSpans, BeginsWith}
use Rattle.sf_node.proofs.Spelled.{belongs-both}
use Rattle.sf_node.proofs.belonging.belongs.Goals as goal

pub returns : goal.returns
returns c =
    let design = c.args.design.now in
    let node = c.args.node.now in
    let expr = c.in_ok-expr.expr in
    let both = belongs-both design node expr (tree_of c.args.plan.now) c.requires.legal c.in_ok-expr.ensures.spelled c.requires.skewed in
    let begins = subst (λ (ts : List Token). BeginsWith expr.tokens ts) c.tokens.ensures (subst (λ (ts : List Token). BeginsWith ts c.tokens.result.now) c.as_slice.ensures (c.begins_with.ensures.0 c.if-not-begins_with.false)) in
    record {
      belongs = (
        λ h. both.0 (begins, subst (AreInSpans design node) c.as_slice-2.ensures (c.are_in_spans.ensures.0 h)),
        λ b. c.are_in_spans.ensures.1 (subst (AreInSpans design node) (sym c.as_slice-2.ensures) (both.1 b).1),
      );
    }
