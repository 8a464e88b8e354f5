use Rattle.std.proofs.Common.{◌≡◌, ◌∷◌, [], All, ap, arith, sym, subst, true}
use Rattle.sf_search.proofs.Common.{All-cons, All-nil, IsLeg, IsStretch, Stretch, waiting}
use Rattle.sf_search.proofs.searching.search_below.Goals as goal

pub go_on-requires-clause-stretches : goal.go_on-requires-clause-stretches
go_on-requires-clause-stretches g c κs within =
    let P = IsStretch c.args.design.now (g.B.Values.value c.args.bounds.now c.args.design.now) in
    let s : Stretch = record { cursor = c.in_ok-cursor.cursor; floor = 0 } in
    subst (All P) (sym c.in_ok-whole.ensures.items) (All-cons P s [] (record { at = c.in_ok-cursor.ensures.at; above = omega arith }) (All-nil P))

pub certified-requires-clause-searched : goal.certified-requires-clause-searched
certified-requires-clause-searched g c κs within =
    let design = c.args.design.now in
    let bound = g.B.Values.value c.args.bounds.now design in
    let part = g.B.Bounds.part_value c.args.bounds.now design in
    let s : Stretch = record { cursor = c.in_ok-cursor.cursor; floor = 0 } in
    let leg = subst (λ given. IsLeg design bound part given c.args.value c.args.options.nodes c.in_ok-leg.leg) c.in_ok-whole.ensures.items c.in_ok-leg.ensures in
    (s, c.args.value, ap (λ n. waiting design 0 true n) c.in_ok-cursor.ensures.root, leg)
