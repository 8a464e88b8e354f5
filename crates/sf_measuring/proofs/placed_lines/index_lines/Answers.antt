use Rattle.std.proofs.Common.{◌-◌, List, Some, ap, arith, subst, sym, ◌∙◌, bytes_eq}
use Rattle.sf_measuring.proofs.Common.{value_in, Place, IsIndex, update, Lines, drop-length}
use Rattle.sf_measuring.proofs.Placing.{indexed_before, passed_over}
use Rattle.sf_measuring.proofs.placed_lines.index_lines.Goals as goal

pub loop-i-init : goal.loop-i-init
loop-i-init c = subst (λ (rest : List Place). IsIndex c.in_ok-index.index c.args.blocks.now c.args.lines.now rest) (sym (drop-length c.args.lines.now)) (c.in_ok-index.ensures c.args.lines.now)

pub loop-i-preserved-in_ok-insert : goal.loop-i-preserved-in_ok-insert
loop-i-preserved-in_ok-insert c =
    indexed_before c.args.blocks.now c.args.lines.now (c.loop-i.i - 1) c.loop-i.i c.index-lines-i.result c.as_bytes-name.result.now c.in-Some.known c.loop-i.index c.insert.new.self (omega arith) (omega arith) c.index-lines-i.is c.as_bytes-name.ensures.value (sym c.in-Some.is ∙ c.get.ensures) (λ name. c.in_ok-insert.ensures.updates name ∙ ap (λ (said : Lines). update bytes_eq (value_in c.loop-i.index) c.as_bytes-name.result.now (Some said) name) c.with_line.ensures) c.loop-i.invariant

pub loop-i-preserved : goal.loop-i-preserved
loop-i-preserved c =
    passed_over c.args.blocks.now c.args.lines.now (c.loop-i.i - 1) c.loop-i.i c.index-lines-i.result c.as_bytes-name.result.now c.loop-i.index (omega arith) (omega arith) c.index-lines-i.is c.as_bytes-name.ensures.value (sym c.in_default.is ∙ c.get.ensures) c.loop-i.invariant
