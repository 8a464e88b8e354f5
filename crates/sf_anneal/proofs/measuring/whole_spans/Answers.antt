use Rattle.std.proofs.Common.{◌∙◌, length, map, ap}
use Rattle.sf_anneal.proofs.Common.{take_all}
use Rattle.sf_anneal.proofs.measuring.whole_spans.Goals as goal

pub returns : goal.returns
returns c =
    let blocks = c.as_slice-block-items.result.now in
    c.loop-block.invariant ∙ ap (map (λ block. (0, length block.shapes))) (take_all c.loop-block.block-index blocks c.loop-block-test.false ∙ c.as_slice-block-items.ensures)
