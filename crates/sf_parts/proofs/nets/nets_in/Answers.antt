use Rattle.std.proofs.Common.{◌≡◌, ◌<◌, ◌++◌, ◌∷◌, [], map, length, get_or, take, ap, sym, ◌∙◌, arith}
use Rattle.sf_parts.proofs.Common.{common_steps, take_more, take_all, map-append, IsNetMade, Net}
use Rattle.sf_parts.proofs.Paired.{zip_more}
use Rattle.sf_parts.proofs.nets.nets_in.Goals as goal

pub loop-number-preserved : goal.loop-number-preserved
loop-number-preserved c =
    let all = ap length c.as_slice-net-items.ensures in
    let i = c.loop-number.number in
    let weights = c.args.weights.now in
    let weight = λ (n : Net). n.weight in
    let made = c.in_ok-net_of.field-0 in
    let item : c.net-item.result ≡ get_or c.args.admitted.now.index.parts.now.nets i c.net-item.result = grind (arith, common_steps) in
    let low : i < length weights = omega (arith, c.requires.one_each, all, c.loop-number-test.true) in
    record {
      made = zip_more (IsNetMade c.args.admitted.now.index.parts.now) c.args.admitted.now.index.parts.now.nets c.loop-number.nets.items c.push.new.self.items i c.net-item.result made (omega arith) item c.in_ok-push.ensures.items c.loop-number.invariant.made c.in_ok-net_of.ensures.made;
      weights =
          ap (map weight) c.in_ok-push.ensures.items
          ∙ map-append weight c.loop-number.nets.items (made ∷ [])
          ∙ ap (λ ws. ws ++ made.weight ∷ []) c.loop-number.invariant.weights
          ∙ ap (λ w. take i weights ++ w ∷ []) c.in_ok-net_of.ensures.weight
          ∙ sym (take_more weights i 0 low);
    }

pub returns-clause-weights : goal.returns-clause-weights
returns-clause-weights c =
    ap (map (λ (n : Net). n.weight)) c.from_vec.ensures
    ∙ c.loop-number.invariant.weights
    ∙ take_all c.loop-number.number c.args.weights.now (omega (arith, c.requires.one_each, c.loop-number-test.false, ap length c.as_slice-net-items.ensures))
