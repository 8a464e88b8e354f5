use Rattle.std.proofs.Common.{◌∙◌, codes, length, Ok, Err, subst}
use Rattle.sf_designs.proofs.Common.{err_from_is_err_and, nets_in, text_of, Stops, IfNamed, JoinedRead, NetsRead, PlacesRead, WeightsRead, weighed_in}
use Rattle.sf_designs.proofs.Stages.{PlacedRead, WeighedRead, behind-blocks, behind-nets, behind-places, reads-then, then-ends, then-stops, uncounted}
use Rattle.sf_designs.proofs.reading.read_gsrc_files.Goals as goal

pub returns-in_err-nets-clause-parts : goal.returns-in_err-nets-clause-parts
returns-in_err-nets-clause-parts g c =
    let held = (g.S.Shelf.seen c.args.shelf.now).holds in
    let nets = text_of c.args.nets in
    let pl = text_of c.args.pl in
    let weights = text_of c.args.weights in
    let stop = c.in_err-nets.field-0.0 in
    let p = err_from_is_err_and c.from_residual-in_err-nets.result c.from_residual-in_err-nets.ensures.1 in
    let failed = subst (λ h. Stops stop (λ why. IfNamed (NetsRead h) nets (Err why))) c.in_ok-blocks.ensures.shelf.0.unchanged c.in_err-nets.ensures.nets in
    rw (p.1, p.2)
    (behind-blocks held c.args.scale.per_unit c.args.blocks.now nets pl weights (Err stop) c.in_ok-blocks.blocks c.in_ok-blocks.ensures.blocks
    (then-stops (IfNamed (NetsRead held) nets) (PlacedRead held c.args.scale.per_unit pl weights c.in_ok-blocks.blocks) stop failed))

pub returns-in_err-places-clause-parts : goal.returns-in_err-places-clause-parts
returns-in_err-places-clause-parts g c =
    let held = (g.S.Shelf.seen c.args.shelf.now).holds in
    let nets = text_of c.args.nets in
    let pl = text_of c.args.pl in
    let weights = text_of c.args.weights in
    let blocks = c.in_ok-blocks.blocks in
    let stop = c.in_err-places.field-0.0 in
    let p = err_from_is_err_and c.from_residual-in_err-places.result c.from_residual-in_err-places.ensures.1 in
    let same = c.in_ok-nets.ensures.shelf.0.unchanged ∙ c.in_ok-blocks.ensures.shelf.0.unchanged in
    let wired = subst (λ h. IfNamed (NetsRead h) nets (Ok c.in_ok-nets.nets)) c.in_ok-blocks.ensures.shelf.0.unchanged c.in_ok-nets.ensures.nets in
    let failed = subst (λ h. Stops stop (λ why. IfNamed (PlacesRead h (codes "pl") c.args.scale.per_unit) pl (Err why))) same c.in_err-places.ensures.places in
    rw (p.1, p.2)
    (behind-nets held c.args.scale.per_unit c.args.blocks.now nets pl weights (Err stop) blocks c.in_ok-blocks.ensures.blocks c.in_ok-nets.nets wired
    (then-stops (IfNamed (PlacesRead held (codes "pl") c.args.scale.per_unit) pl) (WeighedRead held weights blocks c.in_ok-nets.nets) stop failed))

pub returns-in_err-net_weights-clause-parts : goal.returns-in_err-net_weights-clause-parts
returns-in_err-net_weights-clause-parts g c =
    let held = (g.S.Shelf.seen c.args.shelf.now).holds in
    let nets = text_of c.args.nets in
    let pl = text_of c.args.pl in
    let weights = text_of c.args.weights in
    let blocks = c.in_ok-blocks.blocks in
    let stop = c.in_err-net_weights.field-0.0 in
    let p = err_from_is_err_and c.from_residual-in_err-net_weights.result c.from_residual-in_err-net_weights.ensures.1 in
    let before = c.in_ok-nets.ensures.shelf.0.unchanged ∙ c.in_ok-blocks.ensures.shelf.0.unchanged in
    let wired = subst (λ h. IfNamed (NetsRead h) nets (Ok c.in_ok-nets.nets)) c.in_ok-blocks.ensures.shelf.0.unchanged c.in_ok-nets.ensures.nets in
    let placed = subst (λ h. IfNamed (PlacesRead h (codes "pl") c.args.scale.per_unit) pl (Ok c.in_ok-places.places)) before c.in_ok-places.ensures.places in
    let here = subst (λ h. Stops stop (λ why. WeightsRead h weights c.net_count.result (Err why))) (c.in_ok-places.ensures.shelf.0.unchanged ∙ before) c.in_err-net_weights.ensures.weights in
    let failed = subst (λ n. Stops stop (λ why. WeightsRead held weights n (Err why))) c.net_count.ensures here in
    rw (p.1, p.2)
    (behind-places held c.args.scale.per_unit c.args.blocks.now nets pl weights (Err stop) blocks c.in_ok-blocks.ensures.blocks c.in_ok-nets.nets wired c.in_ok-places.places placed
    (then-stops (WeightsRead held weights (length (nets_in c.in_ok-nets.nets))) (JoinedRead blocks c.in_ok-nets.nets c.in_ok-places.places) stop failed))

pub returns-clause-parts : goal.returns-clause-parts
returns-clause-parts g c =
    let held = (g.S.Shelf.seen c.args.shelf.now).holds in
    let nets = text_of c.args.nets in
    let pl = text_of c.args.pl in
    let weights = text_of c.args.weights in
    let blocks = c.in_ok-blocks.blocks in
    let before = c.in_ok-nets.ensures.shelf.0.unchanged ∙ c.in_ok-blocks.ensures.shelf.0.unchanged in
    let wired = subst (λ h. IfNamed (NetsRead h) nets (Ok c.in_ok-nets.nets)) c.in_ok-blocks.ensures.shelf.0.unchanged c.in_ok-nets.ensures.nets in
    let placed = subst (λ h. IfNamed (PlacesRead h (codes "pl") c.args.scale.per_unit) pl (Ok c.in_ok-places.places)) before c.in_ok-places.ensures.places in
    let here = subst (λ h. WeightsRead h weights c.net_count.result (Ok c.in_ok-net_weights.net_weights.items)) (c.in_ok-places.ensures.shelf.0.unchanged ∙ before) c.in_ok-net_weights.ensures.weights in
    let weighed = subst (λ n. WeightsRead held weights n (Ok c.in_ok-net_weights.net_weights.items)) c.net_count.ensures here in
    behind-places held c.args.scale.per_unit c.args.blocks.now nets pl weights c.join_weighed.result blocks c.in_ok-blocks.ensures.blocks c.in_ok-nets.nets wired c.in_ok-places.places placed
    (then-ends (WeightsRead held weights (length (nets_in c.in_ok-nets.nets))) (JoinedRead blocks c.in_ok-nets.nets c.in_ok-places.places) weighed_in c.in_ok-net_weights.net_weights.items weighed c.join_weighed.result c.join_weighed.ensures.parts)

pub returns-clause-shelf : goal.returns-clause-shelf
returns-clause-shelf g c =
    let nets = reads-then _ _ _ c.in_ok-blocks.ensures.shelf.0 c.in_ok-nets.ensures.shelf.0 in
    let places = reads-then _ _ _ nets c.in_ok-places.ensures.shelf.0 in
    (reads-then _ _ _ places c.in_ok-net_weights.ensures.shelf.0, uncounted c.join_weighed.result _ _ c.join_weighed.ensures.tells)
