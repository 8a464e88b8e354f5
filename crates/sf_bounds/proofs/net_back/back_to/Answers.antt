use Rattle.std.proofs.Common.{◌≡◌, ◌≤◌, take, map, length, ap, subst, arith}
use Rattle.sf_bounds.proofs.Common.{length-take-le, token_of, begins-same}
use Rattle.sf_bounds.proofs.NetKept.{no_frame, stored-back}
use Rattle.sf_bounds.proofs.net_back.back_to.Goals as goal

pub returns-clause-kept : goal.returns-clause-kept
returns-clause-kept c =
    let N = c.args.nets.now in
    let n = c.min-count.result in
    let fewer : n ≤ c.common.result = omega (arith, c.min-count.ensures) in
    let common = subst (λ v. take c.common.result (map token_of v) ≡ take c.common.result c.args.tokens.now) c.deref.ensures.value c.common.ensures.same in
    let same = begins-same (map token_of N.frames.items) c.args.tokens.now c.common.result common n fewer in
    record {
      weights = c.requires.weights;
      lefts = c.requires.lefts;
      ranges = c.requires.ranges;
      pairs = c.requires.pairs;
      stored = stored-back c.args.design.now c.args.tokens.now N.cells.items c.truncate-2.new.self.items N.blocks.items N.start N.frames.items c.truncate.new.self.items n c.end_of-end.result no_frame c.requires.stored
          (omega (arith, fewer, c.common.ensures.within_kept, ap length c.deref.ensures.value)) (omega (arith, fewer, c.common.ensures.within_tokens)) same c.end_of-end.ensures c.truncate-2.ensures.items c.truncate.ensures.items;
    }

pub returns-clause-few : goal.returns-clause-few
returns-clause-few c =
    let N = c.args.nets.now in
    let n = c.min-count.result in
    let fewer : n ≤ length N.frames.items = omega (arith, c.min-count.ensures, c.common.ensures.within_kept, ap length c.deref.ensures.value) in
    omega (arith, c.min-count.ensures, ap length c.truncate.ensures.items, length-take-le n N.frames.items fewer)
