use Rattle.std.proofs.Common.{false, sym, subst, arith, ap, ◌∙◌}
use Rattle.sf_gsrc.proofs.NetLaws as nets
use Rattle.sf_gsrc.proofs.PlaceLaws as places
use Rattle.sf_gsrc.proofs.StandingLaws as blocks
use Rattle.sf_designs.specs.Weighed.{alike, weighed_in}
use Rattle.sf_generated.specs.Made.{TextsStand, both_weights, by_default}
use Rattle.sf_parts.specs.Admitted.{IsAdmitted}
use Rattle.sf_parts.specs.declared.raw.Parts.{Parts}
use Rattle.sf_generated.proofs.Common.{gen_seen, kinds_of, parts_made, HasNoneFor, Ends, DesignMade, WeighedParts, BuildFault}
use Rattle.sf_generated.proofs.Made.{made-never, made-ok, made-same}
use Rattle.sf_generated.proofs.designs.made_design.Goals as goal

pub invariant_of-make_design : goal.invariant_of-make_design
invariant_of-make_design c =
    let words = c.args.words.now in
    let admitted = c.parts_are_admitted.ensures.admitted (kinds_of words.kinds) words.seed words.count words.count_low words.count_high in
    record { admitted = subst IsAdmitted (sym (c.in_ok-weighed.ensures.parts ∙ c.requires.is)) admitted }

pub returns-clause-design : goal.returns-clause-design
returns-clause-design c =
    let words = c.args.words.now in
    let o = gen_seen words in
    let stand : TextsStand o = record {
      blocks = blocks.stands_from_read 1 _ _ (c.blocks_are_read.ensures (kinds_of words.kinds) words.seed words.count words.count_low words.count_high);
      nets = nets.stands_from_read _ _ (c.nets_are_read.ensures words.seed words.count words.count_low words.count_high);
      places = places.stands_from_read 1 _ _ (c.places_are_read.ensures words.count words.count_high);
      joins = c.parts_are_admitted.ensures.joined (kinds_of words.kinds) words.seed words.count;
      admitted = c.parts_are_admitted.ensures.admitted (kinds_of words.kinds) words.seed words.count words.count_low words.count_high;
    } in
    let made : Ends (λ d. d) c.make_design.result (DesignMade by_default both_weights (alike (parts_made o))) =
    subst (λ (p : WeighedParts). Ends (λ d. d) c.make_design.result (DesignMade by_default both_weights p)) (c.in_ok-weighed.ensures.alike ∙ ap alike c.requires.is)
    (made-same _ by_default _ both_weights (weighed_in c.in_ok-weighed.weighed) c.make_design.result c.by_default-told.ensures c.by_wire-both_weights.ensures c.make_design.ensures.design) in
    made-ok by_default both_weights (alike (parts_made o)) (TextsStand o) stand c.make_design.result made

pub returns-clause-never : goal.returns-clause-never
returns-clause-never c =
    let words = c.args.words.now in
    let none : (fault : BuildFault) → HasNoneFor 16 false c.in_ok-weighed.weighed.read.parts.blocks fault → ⊥ =
    subst (λ (p : Parts). (fault : BuildFault) → HasNoneFor 16 false p.blocks fault → ⊥) (sym (c.in_ok-weighed.ensures.parts ∙ c.requires.is))
    (λ fault h. c.blocks_have_shapes.ensures.never_refused (kinds_of words.kinds) words.seed words.count 16 false fault (omega arith) h) in
    made-never by_default both_weights (weighed_in c.in_ok-weighed.weighed) none c.make_design.result
    (made-same _ by_default _ both_weights (weighed_in c.in_ok-weighed.weighed) c.make_design.result c.by_default-told.ensures c.by_wire-both_weights.ensures c.make_design.ensures.design)
