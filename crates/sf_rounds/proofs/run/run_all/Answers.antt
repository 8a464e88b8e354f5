use Rattle.std.proofs.Common.{◌≡◌, length, ap, sym, subst, arith}
use Rattle.sf_rounds.proofs.Common.{Member, EachTwo, Worked}
use Rattle.sf_rounds.proofs.Pairs.{each_two}
use Rattle.sf_rounds.proofs.Team.{after_slice, each_two-length}
use Rattle.sf_rounds.proofs.run.run_all.Goals as goal

pub returns : goal.returns
returns g c =
    let design = c.args.design.now in
    let bound = g.B.Values.value c.args.bounds.now design in
    let part = g.B.Bounds.part_value c.args.bounds.now design in
    let S : Type 0 = Member g.row.T.Denot in
    let ms = c.args.members.items in
    let ns = c.for_each_mut.new.s in
    let m = c.as_mut_slice.ensures in
    let R = Worked design bound part in
    let worked : EachTwo R c.as_mut_slice.result.now ns = each_two {X = S} R c.as_mut_slice.result.now ns (omega arith) (λ i d below.
    let k = (c.for_each_mut.ensures i d below).1 in
    subst (λ (p : S × S). R p.0 p.1) (λ j. (k.argument_is j, k.left j)) k.call) in
    let all : EachTwo R ms ns = subst (λ zs. EachTwo R zs ns) m.value worked in
    let len : c.args.members.len ≡ length ns = (let n = ap length m.value in omega (arith, each_two-length R ms ns all, m.len, n)) in
    subst (EachTwo R ms) (sym (after_slice c.args.members.len ns ms len)) all
