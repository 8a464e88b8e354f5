use Rattle.std.proofs.Common.{[], ◌∷◌, ◌++◌, ap, ◌∙◌, length, arith}
use Rattle.sf_polish.specs.declared.expr.Token.TheVariants as token
use Rattle.sf_frames.proofs.Common.{Frame, Kept}
use Rattle.sf_frames.proofs.Topping.{block-inside}
use Rattle.sf_frames.proofs.Pushing.{block-pushed}
use Rattle.sf_frames.proofs.push.push_block.Goals as goal

pub index-requires : goal.index-requires
index-requires c =
    omega (arith, block-inside c.args.design.now c.args.node.now (length c.args.stored.now.frames.items) c.args.block c.requires.subproblem c.requires.next, c.requires.frames.all, c.from.ensures)

pub returns-clause-frames : goal.returns-clause-frames
returns-clause-frames c =
    let s = c.args.stored.now in
    let f : Kept → Frame = λ k. record { token = token.Block c.args.block; curve = k; below = c.len-below.result; end = c.len.result; sums = c.sums_now-sums.result } in
    record {
      stored = block-pushed c.args.design.now c.args.node.now s.points.items s.blocks.items s.whole s.frames.items c.push.new.self.items c.args.block c.from.result c.len-below.result c.len.result c.index.result.now c.sums_now-sums.result c.requires.subproblem c.requires.frames.all c.requires.frames.stored c.requires.tight c.requires.next c.from.ensures (omega (arith, c.len-below.ensures)) (omega (arith, c.len.ensures)) c.sums_now-sums.ensures
          (c.in_ok-push.ensures.items ∙ ap (λ k. s.frames.items ++ f k ∷ []) c.index.ensures);
      all = c.requires.frames.all;
      few = c.requires.frames.few;
    }
