use Rattle.sf_anneal.proofs.KeptParts.{still-ready}
use Rattle.sf_anneal.proofs.walking.try_move.Goals as goal

pub returns-clause-ready : goal.returns-clause-ready
returns-clause-ready c = still-ready c.args.design.now c.args.parts.now c.cost_of_moved.new.self c.args.now.now.tokens.items c.requires.ready c.cost_of_moved.ensures.blocks c.cost_of_moved.ensures.known c.in_ok-next.ensures.room
