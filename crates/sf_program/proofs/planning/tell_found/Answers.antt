use Rattle.std.proofs.Common.{sym, ◌∙◌}
use Rattle.sf_program.proofs.Common.{text_of}
use Rattle.sf_program.proofs.Told.{bound-below, told-reported}
use Rattle.sf_program.proofs.planning.tell_found.Goals as goal

pub ending_of-requires : goal.ending_of-requires
ending_of-requires c = bound-below c.args.bounds c.args.design.now c.args.found.cert c.requires.valid

pub returns-in-None : goal.returns-in-None
returns-in-None c =
    told-reported c.args.bounds c.args.design.now c.args.names.scale c.args.names.cert.now (text_of c.args.names.pl) c.ending_of.result c.args.found.cert _ c.requires.valid (sym c.in-None.is ∙ c.requires.plan) c.ending_of.ensures c.tell_none.result c.tell_none.ensures.told c.tell_none.ensures.status

pub returns : goal.returns
returns c =
    told-reported c.args.bounds c.args.design.now c.args.names.scale c.args.names.cert.now (text_of c.args.names.pl) c.ending_of.result c.args.found.cert _ c.requires.valid (sym c.in-Some.is ∙ c.requires.plan) c.ending_of.ensures c.tell_plan.result c.tell_plan.ensures.told c.tell_plan.ensures.status
