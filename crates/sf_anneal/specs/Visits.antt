-- How contracts see what a walk visits, and nothing that the crate promises.
use Rattle.sf_anneal.specs.declared.walking.Visit.{Visit as Visited}
use Rattle.sf_anneal.specs.Walk.{Visit}

-- the tokens and their cost
abbrev pub visit_of : Visited → Visit
visit_of v = (v.tokens.items, v.cost)
