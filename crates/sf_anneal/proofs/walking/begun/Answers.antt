use Rattle.std.proofs.Common.{[]}
use Rattle.sf_anneal.proofs.KeptParts.{kept-ready, now-found, still-ready}
use Rattle.sf_anneal.proofs.walking.begun.Goals as goal

pub returns-clause-ready : goal.returns-clause-ready
returns-clause-ready c =
    let d = c.args.design.now in
    let made = c.in_ok-parts.parts in
    let tried = c.cost_of_moved.new.self in
    let tokens = c.args.tokens.now in
    let ready = still-ready d made tried [] (record { blocks = c.in_ok-parts.ensures.blocks; curves = c.in_ok-parts.ensures.curves; known = c.in_ok-parts.ensures.known; room = c.in_ok-parts.ensures.room }) c.cost_of_moved.ensures.blocks c.cost_of_moved.ensures.known c.in_ok-cost.ensures.room in
    let found = now-found d made tried tokens c.cost_of_moved.ensures.blocks c.cost_of_moved.ensures.known c.in_ok-cost.ensures.moved in
    kept-ready d tried c.keep.new.self [] tokens c.requires.normal.whole ready found c.keep.ensures.room c.keep.ensures.blocks c.keep.ensures.before c.keep.ensures.curves
