use Rattle.std.proofs.Common.{◌≡◌, Ok, codes, sym, subst}
use Rattle.sf_gsrc.proofs.StandingLaws.{stands_from_read, stands_once_only}
use Rattle.sf_gsrc.specs.Blocks.{blocks_read}
use Rattle.sf_gsrc.specs.Standing.{StandsFor}
use Rattle.sf_generated.proofs.Common.{gen_seen, blocks_said, kinds_of, gsrc_refusal}
use Rattle.sf_generated.proofs.Made.{said-is, said-never}
use Rattle.sf_generated.proofs.reading.made_blocks.Goals as goal

pub returns-clause-is : goal.returns-clause-is
returns-clause-is c =
    let words = c.args.words.now in
    let out = blocks_said (gen_seen words) in
    let text = c.args.text.now in
    let read : blocks_read 1 text ≡ Ok out = subst (λ t. blocks_read 1 t ≡ Ok out) (sym c.requires) (c.blocks_are_read.ensures (kinds_of words.kinds) words.seed words.count words.count_low words.count_high) in
    said-is (blocks_read 1 text) (gsrc_refusal (codes "blocks")) out read (StandsFor 1 text)
    (λ x s. stands_once_only 1 text x out s (stands_from_read 1 text out read)) c.parse_blocks.result c.parse_blocks.ensures.said

pub returns-clause-never : goal.returns-clause-never
returns-clause-never c =
    let words = c.args.words.now in
    let out = blocks_said (gen_seen words) in
    let text = c.args.text.now in
    let read : blocks_read 1 text ≡ Ok out = subst (λ t. blocks_read 1 t ≡ Ok out) (sym c.requires) (c.blocks_are_read.ensures (kinds_of words.kinds) words.seed words.count words.count_low words.count_high) in
    said-never (blocks_read 1 text) (gsrc_refusal (codes "blocks")) out read (StandsFor 1 text) c.parse_blocks.result c.parse_blocks.ensures.said
