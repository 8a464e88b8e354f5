use Rattle.std.proofs.Common.{arith}
use Rattle.sf_cert_text.proofs.Common.{All-more, Extend, FitsTag, common_steps}
use Rattle.sf_cert_text.proofs.writing.put_run.Goals as goal

pub loop-tag-preserved : goal.loop-tag-preserved
loop-tag-preserved c = record {
  text = grind (arith, common_steps);
  fits = All-more FitsTag c.args.run.now c.loop-tag.tag-index Extend c.loop-tag-test.true c.loop-tag.invariant.fits c.put_tag-end.ensures.fits;
  room = omega (arith, c.in_ok-at.ensures.room, c.put_tag-end.ensures.end);
}
