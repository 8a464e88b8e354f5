use Rattle.std.proofs.Common.{◌≤◌, map, length, ap, sym, subst, arith, ◌∙◌}
use Rattle.sf_frames.proofs.Common.{length-map, length-take-le, IsCommon, IsEndOf, token_of, needed}
use Rattle.sf_frames.proofs.Keeping.{end-there, end-tight}
use Rattle.sf_frames.proofs.Switching.{stored-back}
use Rattle.sf_frames.proofs.Topping.{no_frame}
use Rattle.sf_frames.proofs.cut.back_to.Goals as goal

pub returns-clause-stored : goal.returns-clause-stored
returns-clause-stored c =
    let s = c.args.stored.now in
    let n = c.common-count.result in
    let shared = subst (λ v. IsCommon (map token_of v) c.args.tokens.now n) c.deref.ensures.value c.common-count.ensures in
    let last = subst (λ v. IsEndOf v s.whole n c.end_of-end.result) c.deref-2.ensures.value c.end_of-end.ensures in
    stored-back c.args.design.now c.args.tokens.now s.points.items c.truncate-2.new.self.items s.blocks.items s.whole s.frames.items c.truncate.new.self.items n c.end_of-end.result no_frame c.requires.stored
    (omega (arith, shared.within_kept, length-map s.frames.items token_of)) shared.within_tokens shared.same last c.truncate-2.ensures.items c.truncate.ensures.items

pub returns-clause-rest : goal.returns-clause-rest
returns-clause-rest c =
    let s = c.args.stored.now in
    let n = c.common-count.result in
    let e = c.end_of-end.result in
    let F = s.frames.items in
    let shared = subst (λ v. IsCommon (map token_of v) c.args.tokens.now n) c.deref.ensures.value c.common-count.ensures in
    let last = subst (λ v. IsEndOf v s.whole n e) c.deref-2.ensures.value c.end_of-end.ensures in
    let few : n ≤ length F = omega (arith, shared.within_kept, length-map F token_of) in
    let inside = end-there c.args.design.now (map token_of F) s.points.items s.blocks.items s.whole F n e c.requires.stored few last no_frame in
    ap length c.truncate-2.ensures.items ∙ length-take-le e s.points.items inside.1
    ∙ end-tight c.args.design.now (map token_of F) s.points.items s.blocks.items s.whole F n e no_frame c.requires.stored few last
    ∙ ap (needed s.whole) (sym c.truncate.ensures.items)
