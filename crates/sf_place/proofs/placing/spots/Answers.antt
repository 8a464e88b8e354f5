use Rattle.std.proofs.Common.{arith, ap, ℕ, ◌≡◌, length, List, take, drop, ◌++◌, sym, subst, ◌∙◌}
use Rattle.std.proofs.Math.Seq.{take-append_seam}
use Rattle.sf_place.proofs.Common.{Spot, tree_of, spots_of, HasBlocksBelow, spot_of, wire, by_number, AreLegal, block_count, spots_cost}
use Rattle.sf_place.proofs.ByNumber.{plan-leaves, plan-placed, plan-spot_of, plan-wire, plan-cost, plan-legal}
use Rattle.sf_model.proofs.BlocksBelow.{once-below}
use Rattle.sf_place.proofs.placing.spots.Goals as goal

taken : (new items : List Spot) (n : ℕ) → n ≡ length new → take n (new ++ drop (length new) items) ≡ new
taken new items n e = subst (λ v. take v (new ++ drop (length new) items) ≡ new) (sym e) (take-append_seam new (drop (length new) items))

pub place-requires-clause-blocks : goal.place-requires-clause-blocks
place-requires-clause-blocks c =
    let n : c.args.blocks ≡ length c.deref_mut.result.now = omega (arith, c.in_ok-spots.ensures.len, c.from.ensures, c.deref_mut.ensures.len) in
    subst (λ v. HasBlocksBelow v (tree_of c.args.plan.now)) n (once-below c.args.blocks (tree_of c.args.plan.now) c.requires)

pub place-requires-clause-right : goal.place-requires-clause-right
place-requires-clause-right c = omega (arith, plan-leaves c.args.blocks (tree_of c.args.plan.now) c.requires)

pub place-requires-clause-upper : goal.place-requires-clause-upper
place-requires-clause-upper c = omega (arith, plan-leaves c.args.blocks (tree_of c.args.plan.now) c.requires)

pub returns-clause-placed : goal.returns-clause-placed
returns-clause-placed c =
    let n : length c.deref_mut.result.now ≡ c.args.blocks = omega (arith, c.in_ok-spots.ensures.len, c.from.ensures, c.deref_mut.ensures.len) in
    let k : c.in_ok-spots.spots.len ≡ length c.place.new.spots = omega (arith, c.in_ok-spots.ensures.len, c.deref_mut.ensures.len, c.place.auto.spots) in
    taken c.place.new.spots c.in_ok-spots.spots.items c.in_ok-spots.spots.len k
    ∙ c.place.ensures.placed
    ∙ plan-placed c.args.blocks (tree_of c.args.plan.now) c.requires c.deref_mut.result.now n

pub returns-clause-same_spots : goal.returns-clause-same_spots
returns-clause-same_spots c b = ap (spot_of b) (returns-clause-placed c) ∙ plan-spot_of c.args.blocks (tree_of c.args.plan.now) c.requires b

pub returns-clause-same_wire : goal.returns-clause-same_wire
returns-clause-same_wire c design = ap (wire design) (returns-clause-placed c) ∙ plan-wire c.args.blocks (tree_of c.args.plan.now) c.requires design

pub returns-clause-same_cost : goal.returns-clause-same_cost
returns-clause-same_cost c design = ap (spots_cost design) (returns-clause-placed c) ∙ plan-cost c.args.blocks (tree_of c.args.plan.now) c.requires design

pub returns-clause-legal : goal.returns-clause-legal
returns-clause-legal c design legal fits =
    let tree = tree_of c.args.plan.now in
    let n : c.args.blocks ≡ block_count design = sym (plan-leaves c.args.blocks tree c.requires) ∙ plan-leaves (block_count design) tree legal.blocks in
    subst (AreLegal design) (sym (returns-clause-placed c ∙ ap (λ v. by_number v (spots_of tree)) n)) (plan-legal design tree legal fits)
