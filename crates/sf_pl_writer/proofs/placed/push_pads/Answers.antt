use Rattle.std.proofs.Common.{◌≡◌, ◌<◌, ◌≤◌, ◌++◌, false, length, get_or, ap, sym, ◌∙◌, arith}
use Rattle.sf_pl_writer.proofs.Common.{flat_map, range_with_len, take_all, get_or_default, pad_lines_of, stands_in}
use Rattle.std.proofs.lemmas.List.FromFn.{length-range_with_len, get_or-range_with_len}
use Rattle.sf_pl_writer.proofs.Lines.{lines_more}
use Rattle.sf_pl_writer.proofs.Pads.{written, left_out}
use Rattle.sf_pl_writer.proofs.placed.push_pads.Goals as goal
use Rattle.sf_pl_writer.proofs.placed.push_pads.Goals.{then-index+in_ok-push_pad, else-index}

pub loop-index-preserved : goal.loop-index-preserved
loop-index-preserved c =
    let design = c.args.design.now in
    let scale = c.args.scale in
    let i = c.loop-index.index in
    let n = length design.pads in
    let before = c.loop-index.text.items in
    let h : i < n = omega (arith, c.loop-index-test.true, ap length c.as_slice-pad-items.ensures) in
    let flags = c.in_ok-standing.standing.items in
    let low : i < length flags = omega (arith, h, c.in_ok-standing.ensures.len) in
    let flag : c.index.result.now ≡ stands_in design.nets i =
    c.index.ensures ∙ get_or_default flags i c.index.result.now false low ∙ c.in_ok-standing.ensures.standing i h in
    let pad = c.pad-item.result in
    let at : pad ≡ get_or design.pads i pad = c.pad-item.is ∙ ap (λ v. get_or v i pad) c.as_slice-pad-items.ensures in
    let step : c.if-index.text.items ≡ before ++ pad_lines_of scale design i = elim c.if-index.branch [
      | then-index+in_ok-push_pad w ↦ written scale design i pad before c.if-index.text.items h at (sym flag ∙ w.if-index.true) (ap (λ v. v.items) w.text-is ∙ w.in_ok-push_pad.ensures)
      | else-index w ↦ left_out scale design i before c.if-index.text.items (sym flag ∙ w.if-index.false) (ap (λ v. v.items) w.text-is)
    ] in
    let place : get_or (range_with_len 0 n) i 0 ≡ i = omega (arith, get_or-range_with_len 0 n i 0 h) in
    lines_more (pad_lines_of scale design) (range_with_len 0 n) i 0 c.args.text.now.items before c.if-index.text.items
    (omega (arith, h, length-range_with_len 0 n)) c.loop-index.invariant (step ∙ ap (λ v. before ++ pad_lines_of scale design v) (sym place))

pub returns : goal.returns
returns c =
    let n = length c.args.design.now.pads in
    let all : length (range_with_len 0 n) ≤ c.loop-index.index = omega (arith, length-range_with_len 0 n, c.loop-index-test.false, ap length c.as_slice-pad-items.ensures) in
    c.loop-index.invariant ∙ ap (λ v. c.args.text.now.items ++ flat_map (pad_lines_of c.args.scale c.args.design.now) v) (take_all c.loop-index.index (range_with_len 0 n) all)
