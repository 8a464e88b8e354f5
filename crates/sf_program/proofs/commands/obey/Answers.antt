use Rattle.std.proofs.Common.{arith, refl}
use Rattle.sf_program.proofs.Common.{gen, gen_seen, uncounted}
use Rattle.sf_program.proofs.Pieces.{obeyed}
use Rattle.sf_program.proofs.commands.obey.Goals as goal

pub returns-in-Gen-clause-answer : goal.returns-in-Gen-clause-answer
returns-in-Gen-clause-answer g c =
    rw c.in-Gen.is (obeyed (gen (gen_seen c.in-Gen.words)) (g.S.Shelf.seen c.args.shelf.now).holds c.generate.result c.generate.ensures.answer c.generate.ensures.refused)

pub returns-in-Gen-clause-shelf : goal.returns-in-Gen-clause-shelf
returns-in-Gen-clause-shelf g c = (record { unchanged = refl; later = omega arith; no_store = refl }, uncounted c.generate.result _ _ c.generate.ensures.tells)
