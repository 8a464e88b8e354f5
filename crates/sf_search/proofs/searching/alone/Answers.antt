use Rattle.std.proofs.Common.{refl, rules, sym, ◌∙◌, arith, map}
use Rattle.sf_search.proofs.Common.{opening, unnamed, turns}
use Rattle.sf_search.proofs.Ended.{few, merged-as, stated-by-word, first-as, ended-as, spent-as}
use Rattle.sf_search.proofs.Handed.{same-renamed, plain-is, form-is, plan-is, low-is, splits-are, decided-are, names-are, tree-is, left-open-tags}
use Rattle.sf_search.proofs.searching.alone.Goals as goal

pub invariant_of-cert : goal.invariant_of-cert
invariant_of-cert g c =
    let design = c.args.design.now in
    let bound = g.B.Values.value c.args.bounds.now design in
    let part = g.B.Bounds.part_value c.args.bounds.now design in
    let parts = (g.met.B.Bounds g.world.𝓛 g.world.𝓜 g.world.𝓡 ((λ s x. x), (λ x. x), (λ x. x), λ x. x)).parts_below c.args.bounds.now design in
    let state = turns design bound c.args.nodes (opening design bound 1) in
    let walk = c.in_ok-walk.walk in
    let b = c.in_ok-walk.ensures.run.beside in
    let low = c.in_ok-bound.ensures.left in
    let tags = c.in_ok-tags.ensures ∙ c.into_named-tags.ensures.tags ∙ same-renamed low.word (left-open-tags design bound walk c.leave_open.new.self c.in_ok-bound.bound b low) low.hand.kept in
    let plan = c.into_named-tags.ensures.best ∙ low.best in
    record { form = form-is design bound part parts state walk b c.word-cost.result c.in_ok-bound.bound c.in_ok-tags.tags c.into_named-tags.result.1 c.word-cost.ensures low.hand.lowest tags plan c.block_count-blocks.result c.block_count-blocks.ensures }

pub returns : goal.returns
returns g c =
    let design = c.args.design.now in
    let bound = g.B.Values.value c.args.bounds.now design in
    let part = g.B.Bounds.part_value c.args.bounds.now design in
    let parts = (g.met.B.Bounds g.world.𝓛 g.world.𝓜 g.world.𝓡 ((λ s x. x), (λ x. x), (λ x. x), λ x. x)).parts_below c.args.bounds.now design in
    let state = turns design bound c.args.nodes (opening design bound 1) in
    let walk = c.in_ok-walk.walk in
    let b = c.in_ok-walk.ensures.run.beside in
    let low = c.in_ok-bound.ensures.left in
    let tags = c.in_ok-tags.ensures ∙ c.into_named-tags.ensures.tags ∙ same-renamed low.word (left-open-tags design bound walk c.leave_open.new.self c.in_ok-bound.bound b low) low.hand.kept in
    let plan = c.into_named-tags.ensures.best ∙ low.best in
    let kept = c.in_ok-walk.ensures.kept in
    let plain = plain-is design bound part parts state walk b c.word-cost.result c.in_ok-bound.bound c.in_ok-tags.tags c.into_named-tags.result.1 c.word-cost.ensures low.hand.lowest tags plan in
    record {
      found = record {
        valid = record {
          plan = plan-is design bound part parts state walk b c.word-cost.result c.in_ok-bound.bound c.in_ok-tags.tags c.into_named-tags.result.1 c.word-cost.ensures low.hand.lowest tags plan;
          tree = tree-is design bound part parts state walk b c.word-cost.result c.in_ok-bound.bound c.in_ok-tags.tags c.into_named-tags.result.1 c.word-cost.ensures low.hand.lowest tags plan kept;
          stated = low-is design bound part parts state walk b c.word-cost.result c.in_ok-bound.bound c.in_ok-tags.tags c.into_named-tags.result.1 c.word-cost.ensures low.hand.lowest tags plan;
        };
        blocks = c.block_count-blocks.ensures;
        plan_is = search rules;
        cost_is = refl;
        bound_is = refl;
        paths_is = c.in_ok-paths.ensures;
        decided_is = c.count-decided.ensures ∙ sym (decided-are design bound part parts state walk b c.word-cost.result c.in_ok-bound.bound c.in_ok-tags.tags c.into_named-tags.result.1 c.word-cost.ensures low.hand.lowest tags plan);
        few = omega (arith, c.count-decided.ensures, c.in_ok-walk.ensures.few);
        spent = λ below. c.count-decided.ensures ∙ spent-as design bound state walk b part parts.full c.word-cost.result c.in_ok-bound.bound (map unnamed c.in_ok-tags.tags) c.into_named-tags.result.1 c.word-cost.ensures low.hand.lowest plain plan c.args.nodes c.in_ok-walk.ensures.spent below;
        splits = splits-are design bound part parts state walk b c.word-cost.result c.in_ok-bound.bound c.in_ok-tags.tags c.into_named-tags.result.1 c.word-cost.ensures low.hand.lowest tags plan;
        full_is = omega (arith, c.count-decided.ensures, few design bound state c.in_ok-walk.walk b);
        ended = ended-as design bound state walk b part parts.full c.word-cost.result c.in_ok-bound.bound (map unnamed c.in_ok-tags.tags) c.into_named-tags.result.1 c.word-cost.ensures low.hand.lowest plain plan c.args.nodes c.in_ok-walk.ensures.spent;
        named = names-are design bound part parts state walk b c.word-cost.result c.in_ok-bound.bound c.in_ok-tags.tags c.into_named-tags.result.1 c.word-cost.ensures low.hand.lowest tags plan kept;
      };
      run = record {
        placed = (merged-as design bound state walk b part parts.full c.word-cost.result c.in_ok-bound.bound (map unnamed c.in_ok-tags.tags) c.into_named-tags.result.1 c.word-cost.ensures low.hand.lowest plain plan).placed;
        cost = c.word-cost.ensures ∙ sym b.word;
        bound = stated-by-word design bound state walk b part parts.full c.word-cost.result c.in_ok-bound.bound (map unnamed c.in_ok-tags.tags) c.into_named-tags.result.1 c.word-cost.ensures low.hand.lowest plain plan;
        paths = c.in_ok-paths.ensures;
        plan = first-as design bound state walk b part parts.full c.word-cost.result c.in_ok-bound.bound (map unnamed c.in_ok-tags.tags) c.into_named-tags.result.1 c.word-cost.ensures low.hand.lowest plain plan;
      };
      accepted = c.in_ok-walk.ensures.run.accepted;
    }
