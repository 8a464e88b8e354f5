use Rattle.std.proofs.Common.{◌≡◌, ◌∙◌, ap, length, refl, sym}
use Rattle.sf_gsrc.proofs.Common.{err_from_is_err_and}
use Rattle.sf_gsrc.proofs.WeightSteps.{gives, refuses, written_back}
use Rattle.sf_gsrc.proofs.weights.read_exactly.Goals as goal

pub returns-in_err-take_lines : goal.returns-in_err-take_lines
returns-in_err-take_lines c =
    let p = err_from_is_err_and c.from_residual-in_err-take_lines.result c.from_residual-in_err-take_lines.ensures.1 in
    rw (p.1, p.2) (refuses c.args.nets c.args.text.now _ c.deref_mut.result.now _ (rw (c.new-scan.ensures.source, c.new-scan.ensures.from) refl) (c.deref_mut.ensures.value ∙ c.in_ok-kept.ensures) c.in_err-take_lines.ensures)

pub returns : goal.returns
returns c =
    let long : length c.in_ok-kept.kept.items ≡ c.in_ok-kept.kept.len = sym (ap length c.deref_mut.ensures.value) ∙ c.deref_mut.ensures.len in
    let same = written_back c.in_ok-kept.kept.len c.in_ok-kept.kept.items c.take_lines.new.kept long (c.take_lines.auto.kept ∙ ap length c.deref_mut.ensures.value) in
    gives c.args.nets c.args.text.now _ c.deref_mut.result.now c.take_lines.new.kept _ (rw (c.new-scan.ensures.source, c.new-scan.ensures.from) refl) (c.deref_mut.ensures.value ∙ c.in_ok-kept.ensures) c.in_ok-take_lines.ensures
    (c.in_ok-weights.ensures ∙ rw (c.deref.ensures.value, same) refl)
