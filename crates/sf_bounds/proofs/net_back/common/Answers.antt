use Rattle.std.proofs.Common.{◌≡◌, map, get_or, arith, rules, ◌∙◌}
use Rattle.sf_bounds.proofs.Common.{take_more_same, get_or-map, length-map, no_token, token_of}
use Rattle.sf_bounds.proofs.NetKept.{no_frame}
use Rattle.sf_bounds.proofs.net_back.common.Goals as goal

pub loop-count-preserved : goal.loop-count-preserved
loop-count-preserved c =
    let n = c.loop-count.count in
    let e : (get_or c.args.frames.now n no_frame).token ≡ get_or c.args.tokens.now n no_token = search rules in
    (omega arith, omega arith, take_more_same (map token_of c.args.frames.now) c.args.tokens.now n no_token (omega (arith, length-map c.args.frames.now token_of)) (omega arith) c.loop-count.invariant.2 (get_or-map token_of c.args.frames.now n no_frame no_token (omega arith) ∙ e))
