use Rattle.std.proofs.Common.{◌≡◌, Ok, codes, sym, subst}
use Rattle.sf_gsrc.proofs.PlaceLaws.{stands_from_read, stands_once_only}
use Rattle.sf_gsrc.specs.Places.{places_read, PlacesStandFor}
use Rattle.sf_generated.proofs.Common.{gen_seen, places_said, gsrc_refusal}
use Rattle.sf_generated.proofs.Made.{said-is, said-never}
use Rattle.sf_generated.proofs.reading.made_places.Goals as goal

pub returns-clause-is : goal.returns-clause-is
returns-clause-is c =
    let words = c.args.words.now in
    let out = places_said (gen_seen words) in
    let text = c.args.text.now in
    let read : places_read 1 text ≡ Ok out = subst (λ t. places_read 1 t ≡ Ok out) (sym c.requires) (c.places_are_read.ensures words.count words.count_high) in
    said-is (places_read 1 text) (gsrc_refusal (codes "pl")) out read (PlacesStandFor 1 text)
    (λ x s. stands_once_only 1 text x out s (stands_from_read 1 text out read)) c.parse_places.result c.parse_places.ensures.said

pub returns-clause-never : goal.returns-clause-never
returns-clause-never c =
    let words = c.args.words.now in
    let out = places_said (gen_seen words) in
    let text = c.args.text.now in
    let read : places_read 1 text ≡ Ok out = subst (λ t. places_read 1 t ≡ Ok out) (sym c.requires) (c.places_are_read.ensures words.count words.count_high) in
    said-never (places_read 1 text) (gsrc_refusal (codes "pl")) out read (PlacesStandFor 1 text) c.parse_places.result c.parse_places.ensures.said
