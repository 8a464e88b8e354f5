use Rattle.std.proofs.Common.{◌≡◌, ◌<◌, ◌≤◌, ◌++◌, length, get_or, ap, sym, ◌∙◌, arith, pos}
use Rattle.sf_pl_writer.proofs.Common.{flat_map, zip, take_all, block_line}
use Rattle.std.proofs.lemmas.Slice.Zip.{length-zip, get_or-zip}
use Rattle.sf_model.specs.declared.parts.Block.{Block}
use Rattle.sf_model.specs.declared.plan.Spot.{Spot}
use Rattle.sf_pl_writer.proofs.Lines.{lines_more}
use Rattle.sf_pl_writer.proofs.placed.push_blocks.Goals as goal

pub loop-index-preserved : goal.loop-index-preserved
loop-index-preserved c =
    let blocks = c.args.blocks.now in
    let spots = c.args.spots.now in
    let i = c.loop-index.index in
    let block : Block = c.index-blocks-index.result in
    let none : Spot = record { block = 0; x = pos 0; y = pos 0; w = 0; h = 0 } in
    let d : Block × Spot = (block, none) in
    let line = λ (p : Block × Spot). block_line c.args.scale p.0 p.1 in
    let h : i < length spots = c.loop-index-test.true in
    let k : i < length blocks = omega (arith, c.requires.one_each, h) in
    let l : i < length (zip blocks spots) = omega (arith, length-zip blocks spots, h, k) in
    let pair : line (get_or (zip blocks spots) i d) ≡ block_line c.args.scale (get_or blocks i block) (get_or spots i none) = ap line (get_or-zip blocks spots i d k h) in
    let before = c.loop-index.text.items in
    lines_more line (zip blocks spots) i d c.args.text.now.items before c.push_block.new.text.items l c.loop-index.invariant
    (c.in_ok-push_block.ensures ∙ ap (λ v. before ++ v) (ap (λ v. block_line c.args.scale v (get_or spots i none)) c.index-blocks-index.is ∙ sym pair))

pub returns : goal.returns
returns c =
    let blocks = c.args.blocks.now in
    let spots = c.args.spots.now in
    let all : length (zip blocks spots) ≤ c.loop-index.index = omega (arith, length-zip blocks spots, c.loop-index-test.false) in
    c.loop-index.invariant ∙ ap (λ v. c.args.text.now.items ++ flat_map (λ (p : Block × Spot). block_line c.args.scale p.0 p.1) v) (take_all c.loop-index.index (zip blocks spots) all)
