use Rattle.std.proofs.Common.{◌∙◌, refl, subst, arith, map, length, ◌<◌}
use Rattle.sf_team.proofs.Common.{arc_value, says_at, length-map}
use Rattle.sf_team.proofs.Tables.{filled_set, filled_kept, filled_all, job_of}
use Rattle.sf_team.proofs.join.fill.Goals.{then-is_none+in-Some-1, then-is_none+in-None-1, else-is_none}
use Rattle.sf_team.proofs.join.fill.Goals as goal

pub loop-number-preserved : goal.loop-number-preserved
loop-number-preserved g c =
    let jobs = map arc_value c.args.given.now in
    let number = c.loop-number.number in
    let x = c.index-given-number.result in
    let is = c.loop-number.invariant in
    let here = job_of c.args.given.now arc_value number x (omega arith) c.index-given-number.is in
    let within : number < length c.loop-number.table = omega (arith, is.count, length-map c.args.given.now arc_value) in elim c.if-is_none.branch [
      | then-is_none+in-Some-1 w ↦
          let gave = subst (λ j. g.W.Gives.gives j w.does.result) w.deref.ensures (c.requires.gives w.deref.result.now w.does.result (says_at g.F.Fn w.does.ensures refl)) in
          rw w.table-is (filled_set g.W.Gives.gives jobs number c.loop-number.table (arc_value x) w.does.result is within here gave)
      | then-is_none+in-None-1 w ↦
          let gave = subst (λ j. g.W.Gives.gives j w.does.result) w.deref.ensures (c.requires.gives w.deref.result.now w.does.result (says_at g.F.Fn w.does.ensures refl)) in
          rw w.table-is (filled_set g.W.Gives.gives jobs number c.loop-number.table (arc_value x) w.does.result is within here gave)
      | else-is_none w ↦ rw w.table-is (filled_kept g.W.Gives.gives jobs number c.loop-number.table (arc_value x) c.index-table-number.result is within here
          (λ none. let e = c.index-table-number.is ∙ none in let no = w.if-is_none.false in grind (arith, e, no, c.is_none.ensures)))
    ]

pub returns : goal.returns
returns g c =
    let is = c.loop-number.invariant in
    let over = c.loop-number-test.false in
    filled_all g.W.Gives.gives (map arc_value c.args.given.now) c.loop-number.table is.count
    (λ k d j b e. is.full k d j (omega (arith, b, over, length-map c.args.given.now arc_value)) e)
