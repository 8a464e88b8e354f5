use Rattle.std.proofs.Common.{◌≡◌, ◌<◌, ◌∷◌, [], List, length, Some, Err, ap, sym, subst, ◌∙◌, rules, codes}
use Rattle.sf_measuring.proofs.Common.{Spot, Place, lines_named, spot_said, Ends, LinesAre, IsOnly, HasNearPlace, design_fault, Without, One, More, refused-stops}
use Rattle.sf_measuring.proofs.Placing.{kept_is}
use Rattle.sf_measuring.proofs.placed_lines.spot_of.Goals as goal

pub bounds-lines-line : goal.bounds-lines-line
bounds-lines-line c =
    let found : IsOnly c.args.lines.now (lines_named c.args.name.now c.args.lines.now) c.in-Some-One.line =
    kept_is c.args.lines.now c.args.index.now c.args.name.now c.as_bytes.result.now c.get.result (Some (One c.in-Some-One.line)) c.get.ensures c.as_bytes.ensures.value c.requires.indexed (c.in-Some-One.is ∙ ap Some c.in-Some-One.field-0-is) in
    found.in_range

pub offset_bounds-lines-line : goal.offset_bounds-lines-line
offset_bounds-lines-line c =
    let found : IsOnly c.args.lines.now (lines_named c.args.name.now c.args.lines.now) c.in-Some-One.line =
    kept_is c.args.lines.now c.args.index.now c.args.name.now c.as_bytes.result.now c.get.result (Some (One c.in-Some-One.line)) c.get.ensures c.as_bytes.ensures.value c.requires.indexed (c.in-Some-One.is ∙ ap Some c.in-Some-One.field-0-is) in
    let below : c.in-Some-One.line < length c.args.lines.now = found.in_range in
    search rules

pub sized_spot-requires : goal.sized_spot-requires
sized_spot-requires c =
    let found : IsOnly c.args.lines.now (lines_named c.args.name.now c.args.lines.now) c.in-Some-One.line =
    kept_is c.args.lines.now c.args.index.now c.args.name.now c.as_bytes.result.now c.get.result (Some (One c.in-Some-One.line)) c.get.ensures c.as_bytes.ensures.value c.requires.indexed (c.in-Some-One.is ∙ ap Some c.in-Some-One.field-0-is) in
    record { near = subst HasNearPlace (sym c.index-lines-line.is) (c.requires.near c.in-Some-One.line c.index-lines-line.result found.in_range) }

pub returns-in_ok-named_fault-in-Some-Without-clause-spot : goal.returns-in_ok-named_fault-in-Some-Without-clause-spot
returns-in_ok-named_fault-in-Some-Without-clause-spot c =
    let name = c.args.name.now in
    let named = lines_named name c.args.lines.now in
    let found : named ≡ [] =
    kept_is c.args.lines.now c.args.index.now name c.as_bytes.result.now c.get.result (Some Without) c.get.ensures c.as_bytes.ensures.value c.requires.indexed (c.in-Some-Without.is ∙ ap Some c.in-Some-Without.field-0-is) in
    refused-stops (λ why. Err why ≡ spot_said c.args.block name named) (design_fault (codes "MissingPlace" ∷ name ∷ [])) (ap (spot_said c.args.block name) (sym found)) c.in_ok-named_fault-in-Some-Without.field-0 c.in_ok-named_fault-in-Some-Without.ensures

pub returns-in_ok-named_fault-in-Some-More-clause-spot : goal.returns-in_ok-named_fault-in-Some-More-clause-spot
returns-in_ok-named_fault-in-Some-More-clause-spot c =
    let name = c.args.name.now in
    let named = lines_named name c.args.lines.now in
    let found : LinesAre c.args.lines.now named More =
    kept_is c.args.lines.now c.args.index.now name c.as_bytes.result.now c.get.result (Some More) c.get.ensures c.as_bytes.ensures.value c.requires.indexed (c.in-Some-More.is ∙ ap Some c.in-Some-More.field-0-is) in
    refused-stops (λ why. Err why ≡ spot_said c.args.block name named) (design_fault (codes "DuplicateName" ∷ name ∷ [])) (ap (spot_said c.args.block name) (sym found.3)) c.in_ok-named_fault-in-Some-More.field-0 c.in_ok-named_fault-in-Some-More.ensures

pub returns-in-Some-One-clause-spot : goal.returns-in-Some-One-clause-spot
returns-in-Some-One-clause-spot c =
    let name = c.args.name.now in
    let named = lines_named name c.args.lines.now in
    let line = c.index-lines-line.result in
    let found : IsOnly c.args.lines.now named c.in-Some-One.line =
    kept_is c.args.lines.now c.args.index.now name c.as_bytes.result.now c.get.result (Some (One c.in-Some-One.line)) c.get.ensures c.as_bytes.ensures.value c.requires.indexed (c.in-Some-One.is ∙ ap Some c.in-Some-One.field-0-is) in
    let only : line ∷ [] ≡ named = ap (λ (p : Place). p ∷ []) c.index-lines-line.is ∙ sym (found.only line) in
    subst (λ (lines : List Place). Ends {A = Spot} {X = Spot} (λ s. s) c.sized_spot.result (λ r. r ≡ spot_said c.args.block name lines)) only c.sized_spot.ensures.spot
