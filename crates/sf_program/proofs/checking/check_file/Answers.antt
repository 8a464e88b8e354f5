use Rattle.std.proofs.Common.{None, ap}
use Rattle.sf_program.proofs.Common.{text_of}
use Rattle.sf_program.proofs.Pieces.{told-file}
use Rattle.sf_program.proofs.checking.check_file.Goals as goal

pub returns-in-None-clause-answer : goal.returns-in-None-clause-answer
returns-in-None-clause-answer g c =
    told-file c.args.bounds c.args.is_long (g.S.Shelf.seen c.args.shelf.now).holds c.args.name.now c.in_ok-text.text.items c.deref.result.now c.args.design.now None (text_of c.args.rewrite) c.in_ok-text.ensures.text c.deref.ensures.value (ap text_of c.in-None.is)
    c.judge_text.result c.judge_text.ensures.answer

pub returns-clause-answer : goal.returns-clause-answer
returns-clause-answer g c =
    told-file c.args.bounds c.args.is_long (g.S.Shelf.seen c.args.shelf.now).holds c.args.name.now c.in_ok-text.text.items c.deref-in-Some.result.now c.args.design.now _ (text_of c.args.rewrite) c.in_ok-text.ensures.text c.deref-in-Some.ensures.value (ap text_of c.in-Some.is)
    c.rewrite_text.result c.rewrite_text.ensures.answer
