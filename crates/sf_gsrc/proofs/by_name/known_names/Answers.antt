use Rattle.std.proofs.Common.{map, take, sym, ◌∙◌}
use Rattle.sf_gsrc.proofs.Common.{bytes_eq, has_name}
use Rattle.sf_gsrc.proofs.Names.{one_name_more, has_name-more, or_more}
use Rattle.sf_gsrc.proofs.by_name.known_names.Goals as goal

pub loop-block-preserved : goal.loop-block-preserved
loop-block-preserved c = λ name.
    one_name_more _ _ c.as_bytes.result.now _ c.in_ok-insert.ensures.updates c.loop-block.invariant name
    ∙ sym (has_name-more (λ b. b.name) c.args.blocks.now c.loop-block.block-index c.block-item.result c.as_bytes.result.now name c.loop-block-test.true c.block-item.is c.as_bytes.ensures.value)

pub loop-pad-preserved : goal.loop-pad-preserved
loop-pad-preserved c = λ name.
    one_name_more _ _ c.as_bytes-in-loop-pad.result.now _ c.in_ok-insert-2.ensures.updates c.loop-pad.invariant name
    ∙ or_more (has_name (map (λ b. b.name) c.args.blocks.now) name) (has_name (map (λ p. p.name) (take c.loop-pad.pad-index c.args.pads.now)) name) (bytes_eq c.as_bytes-in-loop-pad.result.now name) _
    (has_name-more (λ p. p.name) c.args.pads.now c.loop-pad.pad-index c.pad-item.result c.as_bytes-in-loop-pad.result.now name c.loop-pad-test.true c.pad-item.is c.as_bytes-in-loop-pad.ensures.value)
