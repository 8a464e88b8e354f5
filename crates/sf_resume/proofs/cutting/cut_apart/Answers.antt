use Rattle.std.proofs.Common.{sym, subst}
use Rattle.sf_resume.proofs.Cut.{IsCut, cut-all, cut-piece, cut-stretch, decided-shorter, open-shorter}
use Rattle.sf_resume.proofs.cutting.cut_apart.Goals as goal

pub loop-tag-smaller-then-eq : goal.loop-tag-smaller-then-eq
loop-tag-smaller-then-eq g c =
    open-shorter c.args.design.now (g.V.Values.value c.args.values.now c.args.design.now) c.args.tags.now c.loop-tag.reading c.open_run.new.reading c.in_ok-stretch.stretch c.loop-tag.invariant.reading c.in-Some.ensures.0 c.in_ok-stretch.ensures

pub loop-tag-preserved-then-eq : goal.loop-tag-preserved-then-eq
loop-tag-preserved-then-eq g c =
    let design = c.args.design.now in
    let bound = g.V.Values.value c.args.values.now design in
    subst (IsCut design bound c.args.tags.now c.open_run.new.reading c.loop-tag.pieces.items) (sym c.in_ok-push.ensures.items)
    (cut-stretch design bound c.args.tags.now c.loop-tag.reading c.open_run.new.reading c.loop-tag.pieces.items c.loop-tag.stretches.items c.in_ok-stretch.stretch c.loop-tag.invariant c.in-Some.ensures.0 c.in_ok-stretch.ensures)

pub loop-tag-smaller : goal.loop-tag-smaller
loop-tag-smaller g c =
    decided-shorter c.args.design.now (g.V.Values.value c.args.values.now c.args.design.now) c.args.tags.now c.loop-tag.reading c.decided_run.new.reading c.in_ok-piece.piece c.loop-tag.invariant.reading c.in-Some.ensures.0 c.in_ok-piece.ensures

pub loop-tag-preserved : goal.loop-tag-preserved
loop-tag-preserved g c =
    let design = c.args.design.now in
    let bound = g.V.Values.value c.args.values.now design in
    subst (λ ps. IsCut design bound c.args.tags.now c.decided_run.new.reading ps c.loop-tag.stretches.items) (sym c.in_ok-push-2.ensures.items)
    (cut-piece design bound c.args.tags.now c.loop-tag.reading c.decided_run.new.reading c.loop-tag.pieces.items c.loop-tag.stretches.items c.in_ok-piece.piece c.loop-tag.invariant c.in-Some.ensures.0 c.in_ok-piece.ensures)

pub returns : goal.returns
returns g c =
    cut-all c.args.design.now (g.V.Values.value c.args.values.now c.args.design.now) c.args.tags.now c.loop-tag.reading _ c.loop-tag.invariant c.in_default.ensures
