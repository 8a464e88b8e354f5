use Rattle.std.proofs.Common.{subst}
use Rattle.sf_worker.proofs.Common.{IsVisit}
use Rattle.sf_worker.proofs.Visited.{plain-of, offered-small, visited-plain, visited-solved}
use Rattle.sf_worker.proofs.one_visit.visit_next.Goals as goal

pub returns-in-Solved-clause-visited : goal.returns-in-Solved-clause-visited
returns-in-Solved-clause-visited g c =
    let design = c.args.design.now in
    let bound = g.B.Values.value c.args.bounds.now design in
    let part = g.B.Bounds.part_value c.args.bounds.now design in
    let old = c.args.hand.now in
    let r = c.read-value.ensures in
    let visit = subst (λ n. IsVisit design bound n c.read-value.result c.in_ok-seen.seen) c.node.ensures c.in_ok-seen.ensures in
    visited-solved design bound part old c.tag.new.self c.follow.new.self c.args.seat.now c.in_ok-seen.seen c.in_ok-tag.tag c.read-value.result
    r.fresh.0 visit c.in_ok-tag.ensures.tag c.in_ok-tag.ensures.kept c.in_ok-follow.ensures.followed c.in_ok-follow.ensures.kept
    c.in-Solved.expr c.in_ok-valued.valued.value c.offer.result c.read-value.new.seat c.offer.new.seat c.in-Solved.is c.in_ok-valued.ensures.valued.value r.seat r.fresh.1
    (offered-small design c.args.best.now c.args.seat.now.offered c.requires.best) c.offer.ensures.seat c.offer.ensures.fresh.0

pub returns-in_default : goal.returns-in_default
returns-in_default g c =
    let design = c.args.design.now in
    let bound = g.B.Values.value c.args.bounds.now design in
    let part = g.B.Bounds.part_value c.args.bounds.now design in
    let old = c.args.hand.now in
    let r = c.read-value.ensures in
    let visit = subst (λ n. IsVisit design bound n c.read-value.result c.in_ok-seen.seen) c.node.ensures c.in_ok-seen.ensures in
    record {
      visited = visited-plain design bound part old c.tag.new.self c.follow.new.self c.args.seat.now c.in_ok-seen.seen c.in_ok-tag.tag c.read-value.result
          r.fresh.0 visit c.in_ok-tag.ensures.tag c.in_ok-tag.ensures.kept c.in_ok-follow.ensures.followed c.in_ok-follow.ensures.kept
          c.read-value.new.seat c.args.best.now (plain-of c.in_ok-seen.seen c.in_default.not-Solved) r.seat c.requires.best;
      serves = c.in_ok-tag.ensures.serves;
    }
