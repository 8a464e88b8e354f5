use Rattle.std.proofs.Common.{List, codes, sym, subst, All}
use Rattle.sf_measuring.proofs.Common.{Place, HasNearPlace, uncounted}
use Rattle.sf_measuring.proofs.NearPlaces.{read_near}
use Rattle.sf_measuring.proofs.measuring.read_spots.Goals as goal

pub place_blocks-requires-clause-near : goal.place_blocks-requires-clause-near
place_blocks-requires-clause-near g c =
    let near : All HasNearPlace c.in_ok-file.file.places =
    read_near (g.S.Shelf.seen c.args.shelf.now).holds (codes "placed") c.args.scale.per_unit c.args.name.now c.in_ok-file.file c.in_ok-file.ensures.places in
    subst (λ (lines : List Place). All HasNearPlace lines) (sym c.as_slice-2.ensures) near

pub returns-clause-shelf : goal.returns-clause-shelf
returns-clause-shelf g c = (c.in_ok-file.ensures.shelf.0, uncounted c.place_blocks.result _ _ c.place_blocks.ensures.tells)
