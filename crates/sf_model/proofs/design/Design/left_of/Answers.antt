use Rattle.std.proofs.Common.{List, ℕ, length, get_or, ap, arith}
use Rattle.sf_model.proofs.Used.{lefts-count, lefts-most}
use Rattle.sf_model.proofs.design.Design.left_of.Goals as goal

pub bounds-as_slice-net : goal.bounds-as_slice-net
bounds-as_slice-net c = omega (arith, c.requires, ap (λ (l : List ℕ). length l) c.as_slice.ensures, lefts-count c.args.self.now)

pub returns-clause-most : goal.returns-clause-most
returns-clause-most c = omega (arith, ap (λ (l : List ℕ). get_or l c.args.net 0) c.as_slice.ensures, lefts-most c.args.self.now c.args.net c.requires)
