use Rattle.std.proofs.Common.{ℕ, ap, subst, ◌∙◌}
use Rattle.sf_checker.proofs.Common.{Part, Parts, Open, NamesFirst, unnamed}
use Rattle.sf_checker.proofs.Names.{naming-next, naming-end}
use Rattle.sf_checker.proofs.naming.name_tags.Goals as goal

pub loop-more-preserved : goal.loop-more-preserved
loop-more-preserved g c =
    let design = c.args.design.now in
    let value : Parts → ℕ = g.B.Values.value c.args.bounds.now c.args.design.now in
    let part : Parts → Part → ℕ = g.B.Bounds.part_value c.args.bounds.now c.args.design.now in
    record {
      naming = naming-next design value part c.args.cost c.args.tags.now.items c.loop-more.at c.loop-more.cursor c.loop-more.tags.items c.index.result.now c.loop-more.more c.loop-more-test.true c.loop-more.invariant.naming
          c.in_ok-tag.tag c.in_ok-more.more c.follow.new.self (subst (NamesFirst part c.args.cost c.in_ok-tag.tag) c.node.ensures c.in_ok-tag.ensures.named) (c.in_ok-tag.ensures.alike ∙ ap unnamed c.index.ensures)
          c.in_ok-more.ensures.at c.in_ok-more.ensures.next;
      serves = c.in_ok-tag.ensures.serves;
    }

pub returns-clause-named : goal.returns-clause-named
returns-clause-named g c =
    naming-end c.args.design.now (g.B.Values.value c.args.bounds.now c.args.design.now) (g.B.Bounds.part_value c.args.bounds.now c.args.design.now) c.args.cost c.args.tags.now.items c.loop-more.at c.loop-more.cursor c.loop-more.tags.items
    Open c.loop-more.more c.loop-more-test.false c.loop-more.invariant.naming
