use Rattle.std.proofs.Common.{subst}
use Rattle.sf_pool.proofs.Common.{Take, Replace, Close, Offer, CanCome}
use Rattle.sf_pool.proofs.Core.{answers-core}
use Rattle.sf_pool.proofs.pool.Pool.apply.Goals as goal

pub returns-in-Take-clause-core : goal.returns-in-Take-clause-core
returns-in-Take-clause-core g c =
    let bound = g.V.Values.value c.args.values.now c.args.design.now in
    answers-core c.args.design.now bound c.args.self.now (Take c.in-Take.worker c.in-Take.place) c.take.result c.take.new.self c.take.ensures c.requires.core (subst (CanCome bound c.args.self.now) c.in-Take.is c.requires.can)

pub returns-in-Replace-clause-core : goal.returns-in-Replace-clause-core
returns-in-Replace-clause-core g c =
    let bound = g.V.Values.value c.args.values.now c.args.design.now in
    answers-core c.args.design.now bound c.args.self.now (Replace c.in-Replace.worker c.in-Replace.how c.in-Replace.value c.in-Replace.costs) c.replace.result c.replace.new.self c.replace.ensures c.requires.core (subst (CanCome bound c.args.self.now) c.in-Replace.is c.requires.can)

pub returns-in-Close-clause-core : goal.returns-in-Close-clause-core
returns-in-Close-clause-core g c =
    let bound = g.V.Values.value c.args.values.now c.args.design.now in
    answers-core c.args.design.now bound c.args.self.now (Close c.in-Close.worker c.in-Close.value) c.close.result c.close.new.self c.close.ensures c.requires.core (subst (CanCome bound c.args.self.now) c.in-Close.is c.requires.can)

pub returns-in-Offer-clause-core : goal.returns-in-Offer-clause-core
returns-in-Offer-clause-core g c =
    let bound = g.V.Values.value c.args.values.now c.args.design.now in
    answers-core c.args.design.now bound c.args.self.now (Offer c.in-Offer.worker c.in-Offer.cost) c.offer.result c.offer.new.self c.offer.ensures c.requires.core (subst (CanCome bound c.args.self.now) c.in-Offer.is c.requires.can)
