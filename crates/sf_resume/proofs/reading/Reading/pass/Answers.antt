use Rattle.std.proofs.Common.{refl}
use Rattle.sf_resume.proofs.Readings.{read-may, read-one}
use Rattle.sf_resume.proofs.reading.Reading.pass.Goals as goal

pub follow-requires-clause-may : goal.follow-requires-clause-may
follow-requires-clause-may g c =
    read-may c.args.design.now (g.V.Values.value c.args.values.now c.args.design.now) c.args.tags.now c.args.self.now c.requires.reading c.requires.more c.args.tag c.requires.next

pub returns : goal.returns
returns g c =
    read-one c.args.design.now (g.V.Values.value c.args.values.now c.args.design.now) c.args.tags.now c.args.self.now c.requires.reading c.requires.more c.args.tag c.requires.next _ refl
    c.in_ok-self.ensures.at c.in_ok-self.ensures.next
