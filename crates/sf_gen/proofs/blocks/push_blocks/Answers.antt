use Rattle.std.proofs.Common.{ℕ, List, ◌++◌, ap, ◌∙◌, string_bytes}
use Rattle.sf_gen.proofs.Common.{flat_map, take_all, indexed, block_line}
use Rattle.sf_gen.proofs.Growing.{lines_more}
use Rattle.sf_gen.proofs.blocks.push_blocks.Goals as goal

pub loop-i-preserved : goal.loop-i-preserved
loop-i-preserved c =
    lines_more (λ (line : List ℕ). line) (block_line c.args.kinds) c.args.sizes.now c.loop-i.i _
    (string_bytes c.args.text.now) (string_bytes c.loop-i.text) (string_bytes c.push_block.new.text)
    c.loop-i-test.true c.loop-i.invariant c.in_ok-push_block.ensures

pub returns : goal.returns
returns c =
    c.loop-i.invariant
    ∙ ap (λ v. string_bytes c.args.text.now ++ flat_map (λ (line : List ℕ). line) (indexed (block_line c.args.kinds) 0 v))
    (take_all c.loop-i.i c.args.sizes.now c.loop-i-test.false)
