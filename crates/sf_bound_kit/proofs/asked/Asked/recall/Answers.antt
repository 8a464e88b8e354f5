use Rattle.std.proofs.Common.{rules, ◌≡◌, length, sym}
use Rattle.sf_bound_kit.proofs.Common.{root}
use Rattle.sf_frames.proofs.WholeSpans.{whole-spans}
use Rattle.sf_bound_kit.proofs.asked.Asked.recall.Goals as goal
use Rattle.sf_bound_kit.proofs.asked.Asked.recall.Goals.{then-reads_spans, else-reads_spans}

pub returns-in-Some-clause-gives : goal.returns-in-Some-clause-gives
returns-in-Some-clause-gives g c =
    elim c.if-reads_spans.branch [
      | then-reads_spans w ↦
          let whole : length c.args.node.now.steps ≡ length c.args.node.now.tokens = search rules in
          let kept : g.Self.Asked.gives c.args.self.now c.args.design.now (root c.args.design.now) c.in-Some.own = search rules in
          c.reads_spans.ensures w.if-reads_spans.true c.args.design.now (root c.args.design.now) c.args.node.now c.in-Some.own (sym (whole-spans c.args.design.now c.args.node.now c.requires.subproblem whole)) kept
      | else-reads_spans w ↦ absurd (search rules)
    ]

pub returns-then-is_kept-2-clause-kept : goal.returns-then-is_kept-2-clause-kept
returns-then-is_kept-2-clause-kept g c =
    elim c.if-reads_spans.branch [
      | then-reads_spans w ↦
          let whole : length c.args.node.now.steps ≡ length c.args.node.now.tokens = search rules in
          c.reads_spans.ensures w.if-reads_spans.true c.args.design.now c.args.node.now (root c.args.design.now) c.ask-own.result (whole-spans c.args.design.now c.args.node.now c.requires.subproblem whole) c.ask-own.ensures
      | else-reads_spans w ↦ absurd (search rules)
    ]
