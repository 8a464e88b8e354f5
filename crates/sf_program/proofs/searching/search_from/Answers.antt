use Rattle.sf_program.proofs.Searched.{begun-searched, floorplan-costs, fresh-searched, own-count, own-plan}
use Rattle.sf_program.proofs.searching.search_from.Goals as goal

pub search_below-requires-clause-best : goal.search_below-requires-clause-best
search_below-requires-clause-best g c κs within = floorplan-costs c.args.design.now c.in-Some.plan c.in-Some.cost (rw c.in-Some.is at c.requires.start)

pub returns-in-None : goal.returns-in-None
returns-in-None g c =
    let design = c.args.design.now in
    let o = c.args.options in
    let value = g.B.Values.value c.args.bounds.now design in
    let part = g.B.Bounds.part_value c.args.bounds.now design in
    record {
      searched = rw c.in-None.is (fresh-searched value part design o.workers o.nodes c.search.result c.search.ensures.found c.search.ensures.run);
      plan = own-plan value part design o.nodes c.search.result c.search.ensures.found;
      decided = own-count value part design o.nodes c.search.result c.search.ensures.found;
    }

pub returns-in-Some : goal.returns-in-Some
returns-in-Some g c =
    let design = c.args.design.now in
    let o = c.args.options in
    let value = g.B.Values.value c.args.bounds.now design in
    let part = g.B.Bounds.part_value c.args.bounds.now design in
    record {
      searched = rw c.in-Some.is (begun-searched value part design o.workers o.nodes c.in-Some.plan c.in-Some.cost c.search_below.result c.search_below.ensures.found c.search_below.ensures.lower);
      plan = own-plan value part design o.nodes c.search_below.result c.search_below.ensures.found;
      decided = own-count value part design o.nodes c.search_below.result c.search_below.ensures.found;
    }
