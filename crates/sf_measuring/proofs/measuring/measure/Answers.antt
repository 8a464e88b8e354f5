use Rattle.std.proofs.Common.{List, Option, Ok, Err, ap, inl, refl, subst, ◌∙◌}
use Rattle.sf_measuring.proofs.Common.{err_from_is_err_and, Contents, Spot, IsVerdict, measure_seen, SpotsRead, MeasureRead, verdict_text, Stops, stops-map}
use Rattle.sf_measuring.proofs.measuring.measure.Goals as goal

pub returns-in_err-spots-clause-answer : goal.returns-in_err-spots-clause-answer
returns-in_err-spots-clause-answer g c =
    let held = (g.S.Shelf.seen c.args.shelf.now).holds in
    let o = measure_seen c.args.words.now in
    let design = c.in_ok-design.design in
    let stop = c.in_err-spots.field-0.0 in
    let spots : Stops stop (λ why. SpotsRead held o.design.per_unit o.placed design (Err why)) =
    subst (λ (h : Option Contents). Stops stop (λ why. SpotsRead h o.design.per_unit o.placed design (Err why))) c.in_ok-design.ensures.shelf.0.unchanged c.in_err-spots.ensures.spots in
    let p = err_from_is_err_and c.from_residual-in_err-spots.result c.from_residual-in_err-spots.ensures.1 in
    rw (p.1, p.2) (stops-map (λ why. SpotsRead held o.design.per_unit o.placed design (Err why)) (λ why. MeasureRead held o (Err why)) (λ why q. inl (design, c.in_ok-design.ensures.design, q)) stop spots)

pub returns-clause-answer : goal.returns-clause-answer
returns-clause-answer g c =
    let held = (g.S.Shelf.seen c.args.shelf.now).holds in
    let o = measure_seen c.args.words.now in
    let design = c.in_ok-design.design in
    let spots = c.in_ok-spots.spots.items in
    let verdict = c.check_spots-verdict.result in
    let read : SpotsRead held o.design.per_unit o.placed design (Ok spots) =
    subst (λ (h : Option Contents). SpotsRead h o.design.per_unit o.placed design (Ok spots)) c.in_ok-design.ensures.shelf.0.unchanged c.in_ok-spots.ensures.spots in (
      record {
        design = design;
        spots = spots;
        reads = inl (design, c.in_ok-design.ensures.design, (refl, read));
        verdict = verdict;
        judged = subst (λ (ss : List Spot). IsVerdict design ss verdict) c.deref.ensures.value c.check_spots-verdict.ensures.verdict;
        status_is = c.printed.ensures.status ∙ c.verdict_status.ensures;
        text_is = c.printed.ensures.text ∙ c.in_ok-text.ensures ∙ ap (λ (ss : List Spot). verdict_text design ss verdict) c.deref-2.ensures.value;
      },
      c.printed.ensures.stores,
    )
