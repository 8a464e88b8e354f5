use Rattle.std.proofs.Common.{arith, rules, IsTrue}
use Rattle.sf_polish.proofs.normal.is_normal.Goals as goal

pub returns : goal.returns
returns c =
    let once : IsTrue c.has_each_once.result = search rules in
    let inside : IsTrue c.has_no_other.result = search rules in
    let leads : IsTrue c.is_ballot.result = search rules in (
      λ last. record {
        each_once = c.has_each_once.ensures.0 once;
        no_other = c.has_no_other.ensures.0 inside;
        ballot = c.is_ballot.ensures.0 leads;
        whole = omega arith;
        alternates = c.alternates.ensures.0 last;
      },
      λ normal. c.alternates.ensures.1 normal.alternates,
    )
