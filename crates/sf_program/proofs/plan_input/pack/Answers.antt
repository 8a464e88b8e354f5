use Rattle.std.proofs.Common.{◌≡◌, ◌<◌, ◌∷◌, [], length, get_or, Err, inr, ap, ◌∙◌, arith}
use Rattle.std.proofs.lemmas.List.{get_or_default}
use Rattle.sf_program.proofs.Common.{codes, Block, HasShapeFor, IsFirstWithout, IsSlicing, Packs, design_fault, name_of, refused-stops}
use Rattle.sf_program.proofs.plan_input.pack.Goals as goal

pub returns-in_ok-named_fault-in-Err-Unlisted-clause-packs : goal.returns-in_ok-named_fault-in-Err-Unlisted-clause-packs
returns-in_ok-named_fault-in-Err-Unlisted-clause-packs c =
    let soft = c.args.soft.now in
    let design = c.args.design.now in
    let spots = c.args.spots.now in
    let b = c.in-Err-Unlisted.block in
    let none : Block = record { name = []; shapes = [] } in
    let found : Block = c.index-as_slice-from.result in
    let block : Block = get_or c.as_slice.result.now c.from.result found in
    let first : IsSlicing spots × IsFirstWithout (HasShapeFor design soft) spots b = rw c.in-Err-Unlisted.field-0-is at c.in-Err-Unlisted.ensures.refused in
    let below : b < length design.blocks = omega (arith, first.1.in_range, c.requires.one_each) in
    let at : block ≡ get_or design.blocks b found = cc (c.as_slice.ensures, c.from.ensures) in
    let named : block.name ≡ name_of design b = ap (λ (x : Block). x.name) (at ∙ get_or_default design.blocks b found none below) in
    refused-stops (λ why. Packs soft design spots (Err why)) (design_fault (codes "Unlisted" ∷ block.name ∷ []))
    (inr (b, first.0, first.1, ap (λ n. design_fault (codes "Unlisted" ∷ n ∷ [])) named)) c.in_ok-named_fault-in-Err-Unlisted.field-0 c.in_ok-named_fault-in-Err-Unlisted.ensures
