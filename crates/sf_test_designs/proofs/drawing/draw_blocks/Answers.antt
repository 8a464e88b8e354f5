use Rattle.std.proofs.Common.{◌≡◌, [], ◌∷◌, ◌++◌, All, length, length-append, sym, ap, subst, arith}
use Rattle.std.proofs.lemmas.List.Elements.{All-push}
use Rattle.sf_model.specs.Limits.{IsShapeList}
use Rattle.sf_model.specs.declared.parts.Block.{Block}
use Rattle.sf_test_designs.proofs.drawing.draw_blocks.Goals as goal

pub loop-block-preserved : goal.loop-block-preserved
loop-block-preserved c =
    let old = c.loop-block.blocks.items in
    let block = c.in_ok-draw_block.field-0 in
    let more : c.push.new.self.items ≡ old ++ block ∷ [] = c.in_ok-push.ensures.items in
    record {
      count = omega (arith, ap length more, length-append old (block ∷ []), c.loop-block.invariant.count);
      shapes = subst (All (λ (b : Block). IsShapeList b.shapes)) (sym more) (All-push (λ b. IsShapeList b.shapes) old block c.loop-block.invariant.shapes c.in_ok-draw_block.ensures);
    }
