use Rattle.std.proofs.Common.{◌∷◌, [], ap, refl, arith}
use Rattle.sf_search.proofs.Common.{all_waits, tags_in}
use Rattle.sf_search.proofs.Ended.{planned}
use Rattle.sf_search.proofs.Teamed.{searched, counted, few-tags, found-is}
use Rattle.sf_search.proofs.searching.certified.Goals as goal

pub left_of-requires : goal.left_of-requires
left_of-requires g c =
    let design = c.args.design.now in
    let bound = g.B.Values.value c.args.bounds.now design in
    let part = g.B.Bounds.part_value c.args.bounds.now design in
    let parts = (g.met.B.Bounds g.world.𝓛 g.world.𝓜 g.world.𝓡 ((λ s x. x), (λ x. x), (λ x. x), λ x. x)).parts_below c.args.bounds.now design in
    let few = few-tags design bound part parts (c.requires.searched.0 ∷ []) c.requires.searched.1 c.args.nodes c.args.leg c.requires.searched.3 in
    record { few = omega (arith, few, ap tags_in c.deref.ensures.value) }

pub assemble-requires-clause-searched : goal.assemble-requires-clause-searched
assemble-requires-clause-searched g c =
    let design = c.args.design.now in
    let bound = g.B.Values.value c.args.bounds.now design in
    let part = g.B.Bounds.part_value c.args.bounds.now design in
    let parts = (g.met.B.Bounds g.world.𝓛 g.world.𝓜 g.world.𝓡 ((λ s x. x), (λ x. x), (λ x. x), λ x. x)).parts_below c.args.bounds.now design in (
      bound,
      part,
      c.requires.searched.3.gone.entries,
      all_waits design c.args.leg.left.items,
      searched design bound part parts c.requires.searched.0 c.requires.searched.1 c.args.nodes c.args.leg c.in_ok-open.field-0 c.append.new.self.items c.requires.searched.2 c.requires.searched.3 c.in_ok-open.ensures c.in_ok-append.ensures.items,
    )

pub assemble-requires-clause-planned : goal.assemble-requires-clause-planned
assemble-requires-clause-planned g c = planned c.args.design.now c.args.leg.value c.args.leg.best c.requires.searched.3.gone.best

pub returns-clause-found : goal.returns-clause-found
returns-clause-found g c =
    let design = c.args.design.now in
    let bound = g.B.Values.value c.args.bounds.now design in
    let part = g.B.Bounds.part_value c.args.bounds.now design in
    let parts = (g.met.B.Bounds g.world.𝓛 g.world.𝓜 g.world.𝓡 ((λ s x. x), (λ x. x), (λ x. x), λ x. x)).parts_below c.args.bounds.now design in
    let value = c.requires.searched.1 in
    let h = c.requires.searched.3 in
    let open' = c.in_ok-open.field-0 in
    let pieces = c.append.new.self.items in
    let all = searched design bound part parts c.requires.searched.0 value c.args.nodes c.args.leg open' pieces c.requires.searched.2 h c.in_ok-open.ensures c.in_ok-append.ensures.items in
    let made = c.in_ok-cert.ensures bound part h.gone.entries (all_waits design c.args.leg.left.items) all in
    let tags = counted design bound part parts (c.requires.searched.0 ∷ []) value c.args.nodes c.args.leg h in
    found-is design bound part parts c.requires.searched.0 value c.args.nodes c.args.leg open' pieces c.requires.searched.2 h c.in_ok-open.ensures c.in_ok-append.ensures.items c.in_ok-cert.cert made _ refl c.in_ok-plan.ensures refl refl (omega (arith, tags, c.left_of.ensures.left, ap tags_in c.deref.ensures.value))
