use Rattle.std.proofs.Common.{get_or, take, arith, ap, ◌∙◌}
use Rattle.sf_resume.proofs.Common.{take_more, Extend, decided}
use Rattle.sf_resume.proofs.Gone.{decided-more, one-few}
use Rattle.sf_resume.proofs.resuming.decided_in.Goals as goal

pub loop-tag-preserved : goal.loop-tag-preserved
loop-tag-preserved c =
    let tags = c.args.run.now in
    let at = c.loop-tag.tag-index in
    let tag = get_or tags at Extend in
    let longer = ap decided (take_more tags at Extend c.loop-tag-test.true) ∙ decided-more (take at tags) tag in
    record {
      count = omega (arith, longer, c.loop-tag.invariant.count, c.one_decided-count.ensures);
      few = omega (arith, c.loop-tag.invariant.few, c.one_decided-count.ensures, one-few tag);
    }
