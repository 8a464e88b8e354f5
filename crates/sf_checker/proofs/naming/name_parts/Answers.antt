use Rattle.std.proofs.Common.{◌≡◌, map, refl, ap, sym, subst, ◌∙◌}
use Rattle.sf_checker.proofs.Common.{AllNameFirst, unnamed}
use Rattle.sf_checker.proofs.Names.{formed-named, valid-named}
use Rattle.sf_checker.proofs.naming.name_parts.Goals as goal

pub invariant_of-result : goal.invariant_of-result
invariant_of-result g c =
    let alike : map unnamed c.in_ok-named.named ≡ map unnamed c.args.cert.tags = ap (map unnamed) c.in_ok-named.ensures ∙ c.in_ok-name_tags.ensures.alike ∙ ap (map unnamed) c.in_ok-tags.ensures in
    record { form = formed-named c.args.cert c.in_ok-named.named alike }

pub returns-clause-valid : goal.returns-clause-valid
returns-clause-valid g c =
    let alike : map unnamed c.in_ok-named.named ≡ map unnamed c.args.cert.tags = ap (map unnamed) c.in_ok-named.ensures ∙ c.in_ok-name_tags.ensures.alike ∙ ap (map unnamed) c.in_ok-tags.ensures in
    valid-named c.args.cert c.in_ok-named.named alike c.args.design.now (g.B.Values.value c.args.bounds.now c.args.design.now) (g.B.Bounds.part_value c.args.bounds.now c.args.design.now)
    c.parts_are_below.ensures c.requires.valid
    (subst (AllNameFirst c.args.design.now (g.B.Bounds.part_value c.args.bounds.now c.args.design.now) c.args.cert.cost) (sym c.in_ok-named.ensures) c.in_ok-name_tags.ensures.named) _ refl refl refl refl
