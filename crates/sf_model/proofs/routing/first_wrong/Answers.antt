use Rattle.std.proofs.Common.{◌≡◌, ℕ, ◌<◌, length, get_or, ap, sym, subst, ◌∙◌, arith, All, true≢false}
use Rattle.sf_model.proofs.Common.{All-from_recursion, length-map, Net, place_on, IsPath, Step}
use Rattle.sf_model.proofs.Used.{at-last, axis-more, over-wrong, path-nets, taken-more, weight-at}
use Rattle.sf_model.proofs.routing.first_wrong.Goals.{then-not-is_path-via-then-not-is_path, then-not-is_path-via-else-not-is_path+then-not-take_nets}
use Rattle.sf_model.proofs.routing.first_wrong.Goals as goal

pub take_nets-requires : goal.take_nets-requires
take_nets-requires c = λ k d lt.
    let D = c.args.design.now in
    let path = c.index-paths-number.result in
    let nets : All (λ (s : Step). s.net < length D.nets) c.as_slice.result.now =
    subst (All (λ (s : Step). s.net < length D.nets)) (sym c.as_slice.ensures)
    (All-from_recursion (λ (s : Step). s.net < length D.nets) path.steps (path-nets (place_on c.args.axis D.pads) D.pads D.nets path (c.is_path.ensures.0 c.if-not-is_path.false))) in
    omega (arith, nets k d lt, c.loop-number.invariant.1, ap length c.requires, length-map D.nets (λ (n : Net). n.weight))

pub returns-then-not-is_path-clause-wrong : goal.returns-then-not-is_path-clause-wrong
returns-then-not-is_path-clause-wrong c =
    let D = c.args.design.now in
    let n = c.loop-number.number in
    let path = c.index-paths-number.result in
    let lt : n < length c.args.paths.now = omega (arith, c.loop-number-test.true) in
    let count : length c.args.left.now.items ≡ length D.nets = ap length c.requires ∙ length-map D.nets (λ (m : Net). m.weight) in
    let inv = c.loop-number.invariant in
    record {
      before = inv.0;
      wrong = λ legal. elim c.then-not-is_path.branch [
        | then-not-is_path-via-then-not-is_path w ↦
            true≢false (sym (c.is_path.ensures.1 (at-last (IsPath (place_on c.args.axis D.pads) D.pads D.nets) c.args.paths.now n path lt c.index-paths-number.is legal.each)) ∙ w.if-not-is_path.true)
        | then-not-is_path-via-else-not-is_path+then-not-take_nets w ↦ (
            let over = w.take_nets.ensures.over w.if-not-take_nets.true in
            over-wrong (place_on c.args.axis D.pads) D.pads D.nets c.args.paths.now n path w.as_slice.result.now lt c.index-paths-number.is w.as_slice.ensures c.loop-number.left.items
            (λ k low. inv.2 k (omega (arith, count)) ∙ ap (λ l. get_or l k 0) c.requires ∙ weight-at D.nets k low) over.0 (omega (arith, over.1, inv.1, count)) over.2 legal)
      ];
    }

pub loop-number-preserved : goal.loop-number-preserved
loop-number-preserved c =
    let D = c.args.design.now in
    let n = c.loop-number.number in
    let path = c.index-paths-number.result in
    let paths = c.args.paths.now in
    let lt : n < length paths = omega (arith, c.loop-number-test.true) in
    let count : length c.args.left.now.items ≡ length D.nets = ap length c.requires ∙ length-map D.nets (λ (m : Net). m.weight) in
    let inv = c.loop-number.invariant in
    let weight = λ (k : ℕ) (low : k < length D.nets). ap (λ l. get_or l k 0) c.requires ∙ weight-at D.nets k low in
    let taken = λ (k : ℕ) (low : k < length D.nets). inv.2 k (omega (arith, low, count)) ∙ weight k low in
    let now = λ (k : ℕ) (low : k < length D.nets). c.take_nets.ensures.taken c.if-not-take_nets.false k (omega (arith, low, count, inv.1)) in
    let new = c.take_nets.new.left.items in (
      axis-more (place_on c.args.axis D.pads) D.pads D.nets paths n path c.as_slice.result.now lt c.index-paths-number.is c.as_slice.ensures c.loop-number.left.items taken new now inv.0 (c.is_path.ensures.0 c.if-not-is_path.false),
      c.take_nets.ensures.len ∙ inv.1,
      λ k low. taken-more (place_on c.args.axis D.pads) D.pads D.nets paths n path c.as_slice.result.now lt c.index-paths-number.is c.as_slice.ensures c.loop-number.left.items taken new now k (omega (arith, low, count)) ∙ sym (weight k (omega (arith, low, count))),
    )
