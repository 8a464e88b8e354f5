use Rattle.sf_rounds.proofs.Whole.{passes-of}
use Rattle.sf_rounds.proofs.run.pass_once.Goals as goal

pub returns : goal.returns
returns g c =
    let design = c.args.design.now in
    passes-of design (g.B.Values.value c.args.bounds.now design) (g.B.Bounds.part_value c.args.bounds.now design) c.args.job.now (record { state = c.pass-job.new.state; end = c.pass-job.result }) c.pass-job.result c.pass-job.ensures.ready c.pass-job.ensures.passed
