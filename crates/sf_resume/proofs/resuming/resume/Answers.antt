use Rattle.std.proofs.Common.{◌∷◌, [], refl, sym, subst, ◌∙◌}
use Rattle.sf_resume.proofs.Common.{IsApart, AreSomeTree, root, all_waits}
use Rattle.sf_resume.proofs.Readings.{trees-any}
use Rattle.sf_resume.proofs.Whole.{best-planned, can-graft, resumed}
use Rattle.sf_resume.proofs.resuming.resume.Goals as goal

pub cut_apart-requires : goal.cut_apart-requires
cut_apart-requires g c =
    let cert = c.args.cert in
    subst (AreSomeTree c.args.design.now) (sym (c.deref.ensures.value ∙ c.in_ok-into_vec.ensures))
    (trees-any (g.B.Bounds.part_value c.args.bounds.now c.args.design.now) cert.cost (root c.args.design.now ∷ []) cert.tags c.requires.valid.tree)

pub graft-requires-clause-can : goal.graft-requires-clause-can
graft-requires-clause-can g c κs within =
    let design = c.args.design.now in
    let value = g.B.Values.value c.args.bounds.now design in
    let part = g.B.Bounds.part_value c.args.bounds.now design in
    let cert = c.args.cert in
    let apart = c.in_ok-old.field-0 in
    let leg = c.in_ok-left.field-0 in
    let opened = c.in_ok-open.field-0 in
    let cut = subst (λ ts. IsApart design value ts apart) (c.deref.ensures.value ∙ c.in_ok-into_vec.ensures) c.in_ok-old.ensures in
    let gone = c.in_ok-left.ensures in (
      cert.tags,
      cert.cost,
      gone.gone.entries,
      all_waits design leg.left.items,
      can-graft design value part cert c.requires.valid c.args.options.nodes apart cut leg gone opened c.in_ok-open.ensures c.append.new.self.items c.in_ok-append.ensures.items,
    )

pub graft-requires-clause-planned : goal.graft-requires-clause-planned
graft-requires-clause-planned g c κs within = best-planned c.args.design.now c.in_ok-left.field-0.value c.in_ok-left.field-0.best c.in_ok-left.ensures.gone.best

pub returns : goal.returns
returns g c =
    let design = c.args.design.now in
    let value = g.B.Values.value c.args.bounds.now design in
    let part = g.B.Bounds.part_value c.args.bounds.now design in
    let cert = c.args.cert in
    let apart = c.in_ok-old.field-0 in
    let leg = c.in_ok-left.field-0 in
    let opened = c.in_ok-open.field-0 in
    let cut = subst (λ ts. IsApart design value ts apart) (c.deref.ensures.value ∙ c.in_ok-into_vec.ensures) c.in_ok-old.ensures in
    let gone = c.in_ok-left.ensures in
    let can = can-graft design value part cert c.requires.valid c.args.options.nodes apart cut leg gone opened c.in_ok-open.ensures c.append.new.self.items c.in_ok-append.ensures.items in
    record {
      resumed = resumed design value part cert c.requires.valid c.args.options.nodes apart cut leg gone opened c.in_ok-open.ensures _ (c.in_ok-cert.ensures cert.tags cert.cost gone.gone.entries (all_waits design leg.left.items) can)
          c.in_ok-plan.ensures refl refl c.in_ok-decided.ensures;
    }
