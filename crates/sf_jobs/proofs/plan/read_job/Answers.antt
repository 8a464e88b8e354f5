use Rattle.std.proofs.Common.{sym, ap, ◌∙◌}
use Rattle.sf_jobs.proofs.Common.{given, job_of}
use Rattle.sf_jobs.proofs.Meant.{asks, plain}
use Rattle.sf_jobs.proofs.plan.read_job.Goals as goal

pub returns-clause-job : goal.returns-clause-job
returns-clause-job c =
    let fields = c.in_ok-fields.fields in
    let said = c.plan_words.ensures in record {
      job = job_of fields;
      is_job = record { words_are = sym c.in_ok-fields.ensures; blocks = c.in_ok-blocks.ensures.text; nets = c.in_ok-nets.ensures.text; pl = c.in_ok-pl.ensures.text; wire = (c.in_ok-wire.wire, c.in_ok-wire.ensures.wire); nodes = (c.in_ok-nodes.nodes, c.in_ok-nodes.ensures.nodes) };
      asks = asks (job_of fields) _ _ _ _ _ c.plan_words.result c.in_ok-blocks.ensures.name (c.given.ensures ∙ ap given c.in_ok-nets.ensures.name) (c.given-2.ensures ∙ ap given c.in_ok-pl.ensures.name)
          c.in_ok-wire.ensures.wire c.in_ok-nodes.ensures.nodes said.options said.values said.none;
      plain = plain _ _ _ _ _ c.plan_words.result said.options;
    }
