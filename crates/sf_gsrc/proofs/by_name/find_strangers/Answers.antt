use Rattle.std.proofs.Common.{map, ◌∙◌}
use Rattle.sf_gsrc.proofs.Common.{is_known}
use Rattle.sf_gsrc.proofs.Names.{known_is, no_stranger, one_stranger_more}
use Rattle.sf_gsrc.proofs.by_name.find_strangers.Goals as goal

pub loop-place-preserved-in-Continue-branch-2 : goal.loop-place-preserved-in-Continue-branch-2
loop-place-preserved-in-Continue-branch-2 c =
    let names = map (λ p. p.name) c.args.pads.now in
    let known = known_is c.in_ok-known.known (is_known c.args.blocks.now names) c.as_bytes.result.now c.in-Some.place.name c.has.result c.in_ok-known.ensures c.as_bytes.ensures.value c.has.ensures in
    c.in_ok-push.ensures.items ∙ rw c.loop-place.invariant (one_stranger_more c.args.blocks.now names c.loop-place.yielded c.in-Some.place (known ∙ c.if-not-has.true))

pub loop-place-preserved : goal.loop-place-preserved
loop-place-preserved c =
    let names = map (λ p. p.name) c.args.pads.now in
    let known = known_is c.in_ok-known.known (is_known c.args.blocks.now names) c.as_bytes.result.now c.in-Some.place.name c.has.result c.in_ok-known.ensures c.as_bytes.ensures.value c.has.ensures in
    c.loop-place.invariant ∙ no_stranger c.args.blocks.now names c.loop-place.yielded c.in-Some.place (known ∙ c.if-not-has.false)
