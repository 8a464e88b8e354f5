use Rattle.std.proofs.Common.{◌<◌, ◌≤◌, ◌+◌, sym, subst, ◌∙◌}
use Rattle.sf_program.proofs.Common.{decided, resume_seen}
use Rattle.sf_program.proofs.Told.{gone-on}
use Rattle.sf_program.proofs.resuming.go_on.Goals as goal

pub returns : goal.returns
returns g c =
    let o = resume_seen c.args.words.now in
    let found = c.in_ok-found.found in
    let e = c.in_ok-found.ensures in
    gone-on o.bounds c.args.design.now o.design.per_unit o.cert_out o.pl_out c.args.cert o.nodes found.cert c.requires.good
    (record {
      valid = e.valid;
      named = e.named;
      blocks = e.blocks;
      paths = e.paths_is;
      lower = subst (λ z. z ≤ c.args.cert.cost) e.cost_is e.lower;
      few = subst (λ k. k ≤ decided c.args.cert.tags + o.nodes) e.decided_is e.few;
      spent = λ below. sym e.decided_is ∙ e.spent (subst (λ b. b < found.cost) (sym e.bound_is) (subst (λ z. found.cert.bound < z) (sym e.cost_is) below));
      ended = λ large. sym e.bound_is ∙ e.ended large ∙ e.cost_is;
    }) c.tell_found.result c.tell_found.ensures
