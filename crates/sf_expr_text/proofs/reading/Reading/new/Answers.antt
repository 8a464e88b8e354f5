use Rattle.sf_expr_text.proofs.Named.{flags-none}
use Rattle.sf_expr_text.proofs.reading.Reading.new.Goals as goal

pub invariant_of-result-clause-flags : goal.invariant_of-result-clause-flags
invariant_of-result-clause-flags c = flags-none c.args.blocks c.in_ok-vec.field-0.items _ c.new.ensures.items (c.in_ok-vec.ensures.items_if_clones_equal (λ y h. h))
