use Rattle.std.proofs.Common.{length, sym, ap, subst, arith}
use Rattle.sf_frames.proofs.Common.{IsTight, HasFrames}
use Rattle.sf_frames.proofs.Rooms.{has-room}
use Rattle.sf_frames.proofs.Topping.{no_frame}
use Rattle.sf_frames.proofs.push.extend.Goals.{in-Block+in_ok-push_block-in-Block, in-Beside+in_ok-pushed-in-Beside, in-Above+in_ok-pushed-in-Above}
use Rattle.sf_frames.proofs.push.extend.Goals as goal

pub returns-then-not-pushed-clause-frames : goal.returns-then-not-pushed-clause-frames
returns-then-not-pushed-clause-frames c =
    elim c.match-tokens-len.branch [
      | in-Block+in_ok-push_block-in-Block w ↦ subst (HasFrames c.args.design.now c.args.node.now.tokens) (sym w.stored-is) w.in_ok-push_block-in-Block.ensures.frames
      | in-Beside+in_ok-pushed-in-Beside w ↦ subst (HasFrames c.args.design.now c.args.node.now.tokens) (sym w.stored-is) w.in_ok-pushed-in-Beside.ensures.frames
      | in-Above+in_ok-pushed-in-Above w ↦ subst (HasFrames c.args.design.now c.args.node.now.tokens) (sym w.stored-is) w.in_ok-pushed-in-Above.ensures.frames
    ]

pub loop-tokens-preserved : goal.loop-tokens-preserved
loop-tokens-preserved c =
    let Has = HasFrames c.args.design.now c.args.node.now.tokens in
    elim c.match-tokens-len.branch [
      | in-Block+in_ok-push_block-in-Block w ↦ (let e = w.in_ok-push_block-in-Block.ensures in record { frames = subst Has (sym w.stored-is) e.frames; tight = subst IsTight (sym w.stored-is) e.tight })
      | in-Beside+in_ok-pushed-in-Beside w ↦ (let e = w.in_ok-pushed-in-Beside.ensures in record { frames = subst Has (sym w.stored-is) e.frames; tight = subst IsTight (sym w.stored-is) e.tight })
      | in-Above+in_ok-pushed-in-Above w ↦ (let e = w.in_ok-pushed-in-Above.ensures in record { frames = subst Has (sym w.stored-is) e.frames; tight = subst IsTight (sym w.stored-is) e.tight })
    ]

pub returns-clause-fits : goal.returns-clause-fits
returns-clause-fits c _ =
    let s = c.loop-tokens.stored in
    let i = c.loop-tokens.invariant in
    has-room c.args.design.now c.args.node.now.tokens s.points.items s.blocks.items s.whole s.frames.items no_frame no_frame.curve i.frames.all i.frames.stored i.tight (omega (arith, i.frames.stored.frames_are.few, c.loop-tokens-test.false, c.len.ensures, ap length c.tokens-tokens.ensures)) i.frames.few
