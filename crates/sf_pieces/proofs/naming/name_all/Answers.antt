use Rattle.std.proofs.Common.{◌≡◌, length, arith, subst, sym}
use Rattle.sf_pieces.proofs.Common.{nat_tests, nil_from_length, renamed}
use Rattle.sf_pieces.proofs.Names.{renamed-none}
use Rattle.sf_pieces.proofs.naming.name_all.Goals as goal

pub returns-then-is_empty : goal.returns-then-is_empty
returns-then-is_empty c =
    let cost = c.args.cost in
    let tags = c.args.tags.now in
    let kept = c.args.kept.now in
    let zero : length kept ≡ 0 = grind (arith, nat_tests, c.is_empty.ensures, c.if-is_empty.true) in
    subst (λ ks. tags ≡ renamed cost tags ks) (sym (nil_from_length kept zero)) (renamed-none cost tags)
