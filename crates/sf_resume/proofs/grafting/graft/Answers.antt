use Rattle.std.proofs.Common.{All, subst, sym}
use Rattle.sf_resume.proofs.Common.{HoldTree, IsEarly}
use Rattle.sf_resume.proofs.Joined.{grafted-cert, grafted-laid, grafted-named, grafted-tree}
use Rattle.sf_resume.proofs.grafting.graft.Goals as goal

pub lay-requires-clause-tree : goal.lay-requires-clause-tree
lay-requires-clause-tree g c =
    let part = g.B.Bounds.part_value c.args.bounds.now c.args.design.now in
    let parts = (g.met.B.Bounds g.world.𝓛 g.world.𝓜 g.world.𝓡 ((λ s x. x), (λ x. x), (λ x. x), λ x. x)).parts_below c.args.bounds.now c.args.design.now in
    (part, subst (HoldTree c.args.design.now part c.args.cost) (sym c.in_ok-append.ensures.items) (grafted-tree _ _ _ parts _ _ _ _ _ _ _ _ c.requires.can.4 _ c.in_ok-named.ensures))

pub name_parts-requires-clause-blocks : goal.name_parts-requires-clause-blocks
name_parts-requires-clause-blocks g c κs within =
    let parts = (g.met.B.Bounds g.world.𝓛 g.world.𝓜 g.world.𝓡 ((λ s x. x), (λ x. x), (λ x. x), λ x. x)).parts_below c.args.bounds.now c.args.design.now in
    (grafted-laid _ _ _ parts _ _ _ _ _ _ _ _ c.requires.can.4 _ c.in_ok-named.ensures c.append.new.self.items c.args.plan c.in_ok-laid.laid c.in_ok-append.ensures.items c.in_ok-laid.ensures).blocks

pub name_parts-requires-clause-valid : goal.name_parts-requires-clause-valid
name_parts-requires-clause-valid g c κs within =
    let parts = (g.met.B.Bounds g.world.𝓛 g.world.𝓜 g.world.𝓡 ((λ s x. x), (λ x. x), (λ x. x), λ x. x)).parts_below c.args.bounds.now c.args.design.now in
    (grafted-laid _ _ _ parts _ _ _ _ _ _ _ _ c.requires.can.4 _ c.in_ok-named.ensures c.append.new.self.items c.args.plan c.in_ok-laid.laid c.in_ok-append.ensures.items c.in_ok-laid.ensures).valid

pub returns-then-is_named : goal.returns-then-is_named
returns-then-is_named g c = λ tags before entries left can.
    let parts = (g.met.B.Bounds g.world.𝓛 g.world.𝓜 g.world.𝓡 ((λ s x. x), (λ x. x), (λ x. x), λ x. x)).parts_below c.args.bounds.now c.args.design.now in
    let laid = grafted-laid _ _ _ parts _ _ _ _ _ _ _ _ can _ c.in_ok-named.ensures c.append.new.self.items c.args.plan c.in_ok-laid.laid c.in_ok-append.ensures.items c.in_ok-laid.ensures in
    grafted-named _ _ _ parts _ _ _ _ _ _ _ _ can _ c.in_ok-named.ensures c.args.plan c.in_ok-laid.laid laid (subst (All IsEarly) c.deref.ensures.value (c.are_early-is_named.ensures.0 c.if-is_named.true))

pub returns : goal.returns
returns g c = λ tags before entries left can.
    let parts = (g.met.B.Bounds g.world.𝓛 g.world.𝓜 g.world.𝓡 ((λ s x. x), (λ x. x), (λ x. x), λ x. x)).parts_below c.args.bounds.now c.args.design.now in
    let laid = grafted-laid _ _ _ parts _ _ _ _ _ _ _ _ can _ c.in_ok-named.ensures c.append.new.self.items c.args.plan c.in_ok-laid.laid c.in_ok-append.ensures.items c.in_ok-laid.ensures in
    let e = c.in_ok-cert.ensures in
    grafted-cert _ _ _ parts _ _ _ _ _ _ _ _ can _ c.in_ok-named.ensures c.args.plan c.in_ok-laid.laid c.in_ok-cert.cert laid e.alike e.valid e.named
