use Rattle.std.proofs.Common.{◌≡◌, Ok, Some}
use Rattle.sf_designs.specs.Refusals.{join_refusal}
use Rattle.sf_designs.specs.declared.weighed.ReadParts.{ReadParts}
use Rattle.sf_gsrc.specs.Join.{joined}
use Rattle.sf_gsrc.specs.declared.output.GsrcBlocks.{GsrcBlocks}
use Rattle.sf_gsrc.specs.declared.output.GsrcNets.{GsrcNets}
use Rattle.sf_gsrc.specs.declared.output.GsrcPlaces.{GsrcPlaces}
use Rattle.sf_options.specs.Options.{GenOptions}
use Rattle.sf_generated.proofs.Common.{gen_seen, blocks_said, kinds_of, nets_said, parts_made, places_said}
use Rattle.sf_generated.proofs.Made.{judged-is, judged-never}
use Rattle.sf_generated.proofs.reading.made_parts.Goals as goal

-- what is read of the three texts is joined as what they say
joined-so : (o : GenOptions) (b : GsrcBlocks) (n : GsrcNets) (p : GsrcPlaces) → b ≡ blocks_said o → n ≡ nets_said o → p ≡ places_said o
    → joined (blocks_said o) (Some (nets_said o)) (Some (places_said o)) ≡ Ok (parts_made o) → joined b (Some n) (Some p) ≡ Ok (parts_made o)
joined-so o b n p blocks nets places law = rw (blocks, nets, places) law

pub returns-clause-is : goal.returns-clause-is
returns-clause-is c =
    let words = c.args.words.now in
    let o = gen_seen words in
    let so = joined-so o c.args.blocks c.args.nets c.args.places c.requires.blocks c.requires.nets c.requires.places (c.parts_are_admitted.ensures.joined (kinds_of words.kinds) words.seed words.count) in
    judged-is (joined c.args.blocks (Some c.args.nets) (Some c.args.places)) join_refusal (parts_made o) so (λ (read : ReadParts). read.parts) c.join.result c.join.ensures.said

pub returns-clause-never : goal.returns-clause-never
returns-clause-never c =
    let words = c.args.words.now in
    let o = gen_seen words in
    let so = joined-so o c.args.blocks c.args.nets c.args.places c.requires.blocks c.requires.nets c.requires.places (c.parts_are_admitted.ensures.joined (kinds_of words.kinds) words.seed words.count) in
    judged-never (joined c.args.blocks (Some c.args.nets) (Some c.args.places)) join_refusal (parts_made o) so (λ (read : ReadParts). read.parts) c.join.result c.join.ensures.said
