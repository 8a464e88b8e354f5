use Rattle.std.proofs.Common.{◌≡◌, Ok, codes, sym, subst}
use Rattle.sf_gsrc.proofs.NetLaws.{stands_from_read, stands_once_only}
use Rattle.sf_gsrc.specs.Nets.{nets_read}
use Rattle.sf_gsrc.specs.NetsStanding.{NetsStandFor}
use Rattle.sf_generated.proofs.Common.{gen_seen, nets_said, gsrc_refusal}
use Rattle.sf_generated.proofs.Made.{said-is, said-never}
use Rattle.sf_generated.proofs.reading.made_nets.Goals as goal

pub returns-clause-is : goal.returns-clause-is
returns-clause-is c =
    let words = c.args.words.now in
    let out = nets_said (gen_seen words) in
    let text = c.args.text.now in
    let read : nets_read text ≡ Ok out = subst (λ t. nets_read t ≡ Ok out) (sym c.requires) (c.nets_are_read.ensures words.seed words.count words.count_low words.count_high) in
    said-is (nets_read text) (gsrc_refusal (codes "nets")) out read (NetsStandFor text)
    (λ x s. stands_once_only text x out s (stands_from_read text out read)) c.parse_nets.result c.parse_nets.ensures.said

pub returns-clause-never : goal.returns-clause-never
returns-clause-never c =
    let words = c.args.words.now in
    let out = nets_said (gen_seen words) in
    let text = c.args.text.now in
    let read : nets_read text ≡ Ok out = subst (λ t. nets_read t ≡ Ok out) (sym c.requires) (c.nets_are_read.ensures words.seed words.count words.count_low words.count_high) in
    said-never (nets_read text) (gsrc_refusal (codes "nets")) out read (NetsStandFor text) c.parse_nets.result c.parse_nets.ensures.said
