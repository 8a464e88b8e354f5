use Rattle.std.proofs.Common.{◌<◌, length, arith, ap, ◌∙◌, true, false}
use Rattle.sf_cursor.proofs.Common.{blocks-used, blocks-unused}
use Rattle.sf_cursor.proofs.Flags.{flag-of}
use Rattle.sf_cursor.proofs.Ways.{few-spans}
use Rattle.sf_cursor.proofs.cursor.Cursor.block_from.Goals as goal

pub overflow_cast-blocks : goal.overflow_cast-blocks
overflow_cast-blocks g c =
    let now = c.args.self.now in
    omega (arith, c.len-blocks.ensures, ap (λ p. length p.used) c.self.view_is, c.requires.used.each, few-spans c.args.design.now (g.V.Values.value c.args.values.now c.args.design.now) now c.requires)

pub returns-then-not-index : goal.returns-then-not-index
returns-then-not-index g c =
    let now = c.args.self.now in
    let b = c.loop-block.block in
    let flagged : b < length now.used = omega (arith, c.loop-block-test.true, c.len-blocks.ensures, ap (λ p. length p.used) c.self.view_is) in
    c.loop-block.invariant ∙ blocks-unused now.node b (omega (arith, flagged, c.requires.used.each))
    (flag-of now.node now.used c.self.inside.used.items b c.index.result.now false c.requires.used (ap (λ p. p.used) c.self.view_is) flagged c.index.ensures c.if-not-index.true)

pub loop-block-preserved : goal.loop-block-preserved
loop-block-preserved g c =
    let now = c.args.self.now in
    let b = c.loop-block.block in
    let flagged : b < length now.used = omega (arith, c.loop-block-test.true, c.len-blocks.ensures, ap (λ p. length p.used) c.self.view_is) in
    c.loop-block.invariant ∙ blocks-used now.node b (omega (arith, flagged, c.requires.used.each))
    (flag-of now.node now.used c.self.inside.used.items b c.index.result.now true c.requires.used (ap (λ p. p.used) c.self.view_is) flagged c.index.ensures c.if-not-index.false)
