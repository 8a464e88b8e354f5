use Rattle.std.proofs.Common.{◌+◌, ◌-◌, drop, length, arith, subst, sym}
use Rattle.sf_anneal.proofs.Common.{MayPrecede, length-drop, take_all}
use Rattle.sf_anneal.proofs.Stepping.{first, may-back, may-forward}
use Rattle.sf_anneal.proofs.moves.may_step.Goals as goal

pub returns-in-true-false : goal.returns-in-true-false
returns-in-true-false c =
    let m = may-forward c.args.tokens.now c.args.i c.requires.inside c.requires.normal (sym (c.in-true-false.ensures)) (sym (c.in-true-false.ensures')) in
    (λ h. m.0 (c.may_follow.ensures.0 h), λ may. c.may_follow.ensures.1 (m.1 may))

pub returns-in-false-true : goal.returns-in-false-true
returns-in-false-true c =
    let ts = c.args.tokens.now in
    let i = c.args.i in
    let s = first ts i c.requires.inside c.requires.normal in
    let m = may-back ts i c.requires.inside c.requires.normal (sym (c.in-false-true.ensures)) (sym (c.in-false-true.ensures')) in
    let all = take_all (length ts - (i + 2)) (drop (i + 2) ts) (omega (arith, length-drop (i + 2) ts)) in
    (λ h. m.0 (subst (MayPrecede s) all (c.may_precede.ensures.0 h)), λ may. c.may_precede.ensures.1 (subst (MayPrecede s) (sym all) (m.1 may)))
