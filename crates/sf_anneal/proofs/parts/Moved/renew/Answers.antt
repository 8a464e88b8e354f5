use Rattle.std.proofs.Common.{◌≡◌, ◌≤◌, ◌∙◌, length, ap, subst, arith}
use Rattle.sf_anneal.proofs.Common.{block_count, AreRenewed, before_in}
use Rattle.sf_anneal.proofs.Levels.{none-before}
use Rattle.sf_anneal.proofs.Renewing.{front-renewed}
use Rattle.sf_anneal.proofs.parts.Moved.renew.Goals as goal

pub loop-place-init : goal.loop-place-init
loop-place-init c =
    let all = c.begin_as.ensures in
    let front = c.common_front-place.ensures in
    record {
      room = record {
        before = c.requires.room.before;
        curves = c.requires.room.curves;
        next_before = ap length all.before ∙ c.requires.room.before;
        next_curves = ap length all.curves ∙ c.requires.room.next_curves;
        fresh = all.many ∙ c.requires.room.fresh;
        first = ap (λ v. before_in v 0) all.before ∙ (omega (arith, c.requires.known.lower 0 (omega arith)));
      };
      renewed = front-renewed c.args.design.now c.args.blocks.now c.args.now.now c.args.known.now c.args.tokens.now (block_count c.args.design.now) c.begin_as.new.self c.common_front-place.result c.requires.normal
          front.inside front.known front.same c.requires.known all.before all.fresh;
    }

pub returns-clause-whole : goal.returns-clause-whole
returns-clause-whole c =
    let tokens = c.args.tokens.now in
    let all : c.loop-place.place ≡ length tokens = omega (arith, c.loop-place-test.false, c.loop-place.auto.place-end) in
    let r = subst (AreRenewed c.args.design.now c.args.blocks.now c.args.now.now c.loop-place.self c.args.known.now tokens) all c.loop-place.invariant.renewed in
    let some : 1 ≤ length tokens = omega (arith, c.requires.normal.whole, c.args.design.now.limits.some_block) in
    none-before _ tokens c.requires.normal (before_in c.loop-place.self.before.items (length tokens)) (omega (arith, r.parts.lower (length tokens) (omega arith))) (r.levels (length tokens) some (omega arith))
