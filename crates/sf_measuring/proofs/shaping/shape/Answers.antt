use Rattle.std.proofs.Common.{List, Option, Ok, Err, inl, refl, subst, sym}
use Rattle.sf_measuring.proofs.Common.{err_from_is_err_and, Contents, block_count, IsRootCurve, root, shape_seen, IsCurveText, ShapeRead, TokensRead, Stops, stops-map}
use Rattle.sf_polish.specs.declared.expr.Token.{Token}
use Rattle.sf_measuring.proofs.shaping.shape.Goals as goal

pub returns-in_err-tokens-clause-answer : goal.returns-in_err-tokens-clause-answer
returns-in_err-tokens-clause-answer g c =
    let held = (g.S.Shelf.seen c.args.shelf.now).holds in
    let o = shape_seen c.args.words.now in
    let design = c.in_ok-design.design in
    let stop = c.in_err-tokens.field-0.0 in
    let tokens : Stops stop (λ why. TokensRead held o.expr (block_count design) (Err why)) =
    subst (λ (h : Option Contents). Stops stop (λ why. TokensRead h o.expr (block_count design) (Err why))) c.in_ok-design.ensures.shelf.0.unchanged c.in_err-tokens.ensures.tokens in
    let p = err_from_is_err_and c.from_residual-in_err-tokens.result c.from_residual-in_err-tokens.ensures.1 in
    rw (p.1, p.2) (stops-map (λ why. TokensRead held o.expr (block_count design) (Err why)) (λ why. ShapeRead held o (Err why)) (λ why q. inl (design, c.in_ok-design.ensures.design, q)) stop tokens)

pub returns-clause-answer : goal.returns-clause-answer
returns-clause-answer g c =
    let held = (g.S.Shelf.seen c.args.shelf.now).holds in
    let o = shape_seen c.args.words.now in
    let design = c.in_ok-design.design in
    let tokens = c.in_ok-tokens.tokens.items in
    let points = c.in_ok-curve.curve in
    let read : TokensRead held o.expr (block_count design) (Ok tokens) =
    subst (λ (h : Option Contents). TokensRead h o.expr (block_count design) (Ok tokens)) c.in_ok-design.ensures.shelf.0.unchanged c.in_ok-tokens.ensures.tokens in (
      record {
        design = design;
        tokens = tokens;
        reads = inl (design, c.in_ok-design.ensures.design, (refl, read));
        points = points;
        curve = subst (λ (ts : List Token). IsRootCurve design ts (root design).spans points) c.deref.ensures.value c.in_ok-curve.ensures;
        status_is = c.printed.ensures.status;
        text_is = subst (IsCurveText points) (sym c.printed.ensures.text) c.in_ok-text.ensures;
      },
      c.printed.ensures.stores,
    )
