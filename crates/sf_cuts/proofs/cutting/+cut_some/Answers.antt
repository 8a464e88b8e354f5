use Rattle.std.proofs.Common.{◌≡◌, ◌<◌, All, length, arith, sym, subst, ap, rules}
use Rattle.std.proofs.lemmas.Option.{MatchOption-at_none, MatchOption-at_some}
use Rattle.sf_cuts.proofs.Common.{AreAmong, AreDistinct, ArePartsOf, HasNearCorner, IsCutOf, NoneCuts, spot_of, tree_of}
use Rattle.sf_cuts.proofs.Covering.{all_of_parts, distinct_parts, none_cuts, none_cuts_by_first, none_cuts_by_second, shorter_parts}
use Rattle.sf_cuts.proofs.Joining.{joined_cuts}
use Rattle.sf_cuts.proofs.cutting.+cut_some.Goals as goal

pub returns-in_default : goal.returns-in_default
returns-in_default t c = λ placed among.
    none_cuts placed c.args.spots.now among c.requires.distinct (omega (arith, c.requires.some, c.if-spots-eq1.false)) (MatchOption-at_none _ _ c.in_default.is c.in_ok-parts.ensures)

pub cut_some-requires : goal.cut_some-requires
cut_some-requires t c =
    let spots = c.args.spots.now in
    let p = c.in-Some.parts in
    let are : ArePartsOf spots p = MatchOption-at_some _ _ p c.in-Some.is c.in_ok-parts.ensures in
    let e : c.deref.result.now ≡ p.first.items = c.deref.ensures.value in
    let lt : length c.deref.result.now < length spots = omega (arith, ap length e, (shorter_parts p.axis spots p.first.items p.second.items are.parts).0) in (
      search rules,
      (
        omega (arith, ap length e, are.parts.some_first),
        (
          subst (All HasNearCorner) (sym e) (all_of_parts HasNearCorner p.axis spots p.first.items p.second.items are.parts c.requires.near).0,
          subst AreDistinct (sym e) (distinct_parts p.axis spots p.first.items p.second.items are.parts c.requires.distinct).0,
        ),
      ),
    )

pub returns-in_default-2 : goal.returns-in_default-2
returns-in_default-2 t c = λ placed among.
    let spots = c.args.spots.now in
    let p = c.in-Some.parts in
    let are : ArePartsOf spots p = MatchOption-at_some _ _ p c.in-Some.is c.in_ok-parts.ensures in
    let e : c.deref.result.now ≡ p.first.items = c.deref.ensures.value in
    let here = subst (AreAmong placed) (sym e) (all_of_parts (λ s. spot_of s.block placed ≡ s) p.axis spots p.first.items p.second.items are.parts among).0 in
    none_cuts_by_first p.axis placed spots p.first.items p.second.items are.parts (subst (NoneCuts placed) e (MatchOption-at_none _ _ c.in_default-2.is (c.in_ok-first.ensures placed here)))

pub cut_some-requires-2 : goal.cut_some-requires-2
cut_some-requires-2 t c =
    let spots = c.args.spots.now in
    let p = c.in-Some.parts in
    let are : ArePartsOf spots p = MatchOption-at_some _ _ p c.in-Some.is c.in_ok-parts.ensures in
    let e : c.deref-2.result.now ≡ p.second.items = c.deref-2.ensures.value in
    let lt : length c.deref-2.result.now < length spots = omega (arith, ap length e, (shorter_parts p.axis spots p.first.items p.second.items are.parts).1) in (
      search rules,
      (
        omega (arith, ap length e, are.parts.some_second),
        (
          subst (All HasNearCorner) (sym e) (all_of_parts HasNearCorner p.axis spots p.first.items p.second.items are.parts c.requires.near).1,
          subst AreDistinct (sym e) (distinct_parts p.axis spots p.first.items p.second.items are.parts c.requires.distinct).1,
        ),
      ),
    )

pub returns-in_default-3 : goal.returns-in_default-3
returns-in_default-3 t c = λ placed among.
    let spots = c.args.spots.now in
    let p = c.in-Some.parts in
    let are : ArePartsOf spots p = MatchOption-at_some _ _ p c.in-Some.is c.in_ok-parts.ensures in
    let e : c.deref-2.result.now ≡ p.second.items = c.deref-2.ensures.value in
    let here = subst (AreAmong placed) (sym e) (all_of_parts (λ s. spot_of s.block placed ≡ s) p.axis spots p.first.items p.second.items are.parts among).1 in
    none_cuts_by_second p.axis placed spots p.first.items p.second.items are.parts (subst (NoneCuts placed) e (MatchOption-at_none _ _ c.in_default-3.is (c.in_ok-second.ensures placed here)))

pub returns : goal.returns
returns t c = λ placed among.
    let spots = c.args.spots.now in
    let p = c.in-Some.parts in
    let are : ArePartsOf spots p = MatchOption-at_some _ _ p c.in-Some.is c.in_ok-parts.ensures in
    let e1 : c.deref.result.now ≡ p.first.items = c.deref.ensures.value in
    let e2 : c.deref-2.result.now ≡ p.second.items = c.deref-2.ensures.value in
    let both = all_of_parts (λ s. spot_of s.block placed ≡ s) p.axis spots p.first.items p.second.items are.parts among in
    let first = MatchOption-at_some _ _ c.in-Some-2.first c.in-Some-2.is (c.in_ok-first.ensures placed (subst (AreAmong placed) (sym e1) both.0)) in
    let second = MatchOption-at_some _ _ c.in-Some-3.second c.in-Some-3.is (c.in_ok-second.ensures placed (subst (AreAmong placed) (sym e2) both.1)) in
    subst (IsCutOf placed spots) (sym c.in_ok-join.ensures)
    (joined_cuts p.axis placed spots p.first.items p.second.items (tree_of c.in-Some-2.first) (tree_of c.in-Some-3.second) are.parts are.last among
    (subst (λ v. IsCutOf placed v (tree_of c.in-Some-2.first)) e1 first) (subst (λ v. IsCutOf placed v (tree_of c.in-Some-3.second)) e2 second))
