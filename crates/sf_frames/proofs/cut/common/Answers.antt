use Rattle.std.proofs.Common.{◌≡◌, ◌≢◌, map, get_or, arith, rules, sym, ◌∙◌}
use Rattle.sf_frames.proofs.Common.{take_more_same, get_or-map, length-map, token_of, no_token}
use Rattle.sf_frames.proofs.Topping.{no_frame}
use Rattle.sf_frames.proofs.cut.common.Goals as goal

pub loop-count-preserved : goal.loop-count-preserved
loop-count-preserved c =
    let n = c.loop-count.count in
    let e : (get_or c.args.frames.now n no_frame).token ≡ get_or c.args.tokens.now n no_token = search rules in
    (omega arith, omega arith, take_more_same (map token_of c.args.frames.now) c.args.tokens.now n no_token (omega (arith, length-map c.args.frames.now token_of)) (omega arith) c.loop-count.invariant.2 (get_or-map token_of c.args.frames.now n no_frame no_token (omega arith) ∙ e))

pub returns-then-ne : goal.returns-then-ne
returns-then-ne c =
    let n = c.loop-count.count in
    let e : (get_or c.args.frames.now n no_frame).token ≢ get_or c.args.tokens.now n no_token = search rules in
    record {
      within_kept = omega (arith, length-map c.args.frames.now token_of, c.loop-count.invariant.0);
      within_tokens = c.loop-count.invariant.1;
      same = c.loop-count.invariant.2;
      most = λ lt lo k. e (sym (get_or-map token_of c.args.frames.now n no_frame no_token (omega arith)) ∙ k);
    }

pub returns-else-count-tokens : goal.returns-else-count-tokens
returns-else-count-tokens c = record {
  within_kept = omega (arith, length-map c.args.frames.now token_of, c.loop-count.invariant.0);
  within_tokens = c.loop-count.invariant.1;
  same = c.loop-count.invariant.2;
  most = λ lt lo. absurd (omega (arith, lo));
}

pub returns-after-loop-count : goal.returns-after-loop-count
returns-after-loop-count c = record {
  within_kept = omega (arith, length-map c.args.frames.now token_of, c.loop-count.invariant.0);
  within_tokens = c.loop-count.invariant.1;
  same = c.loop-count.invariant.2;
  most = λ lt lo. absurd (omega (arith, lt, length-map c.args.frames.now token_of));
}
