use Rattle.std.proofs.Common.{◌≡◌, ◌≤◌, List, [], ◌∷◌, ◌++◌, length, get_or, subst, ap, sym, ◌∙◌, ◌<◌, Some, Err, arith, option_map}
use Rattle.sf_soft_shapes.proofs.Common.{IsShapeChoice, Shape, RawBlock, IsListOf, NoShape}
use Rattle.sf_soft_shapes.proofs.Listing.{lists_start, lists_grow, all_one, all_shaped, none_after}
use Rattle.sf_soft_shapes.proofs.listed.lists.Goals as goal

pub loop-block-init : goal.loop-block-init
loop-block-init c = record {
  count = omega (arith, c.new-lists.ensures.len);
  listed = rw c.new-lists.ensures.items (lists_start c.args.k c.args.fixed c.args.parts.now.blocks);
  choices = rw c.new-lists.ensures.items (λ k d low. absurd (omega arith));
  shaped = rw c.new-lists.ensures.items (λ k d low. absurd (omega arith));
}

pub loop-block-preserved : goal.loop-block-preserved
loop-block-preserved c =
    let lists = c.loop-block.lists.items in
    let item = c.block-item.result in
    let n : length lists ≡ c.loop-block.block-index = omega (arith, c.loop-block.invariant.count) in
    let in_blocks : c.as_slice-block-items.result.now ≡ c.args.parts.now.blocks = c.as_slice-block-items.ensures in
    let at : item ≡ get_or c.args.parts.now.blocks (length lists) item = c.block-item.is ∙ ap (λ xs. get_or xs c.loop-block.block-index item) in_blocks ∙ ap (λ i. get_or c.args.parts.now.blocks i item) (sym n) in
    let within : length c.as_slice-block-items.result.now ≡ length c.args.parts.now.blocks = ap (λ xs. length xs) in_blocks in
    let list = c.in-Ok.ensures.listed in
    let P : RawBlock → Type 0 = λ b. IsListOf c.args.k c.args.fixed b.kind c.in-Ok.list in
    let put = c.in_ok-push-in-Ok.ensures.items in
    record {
      count = omega (arith, c.in_ok-push-in-Ok.ensures.len);
      listed = rw put (lists_grow c.args.k c.args.fixed c.args.parts.now.blocks lists c.in-Ok.list item (omega arith) c.loop-block.invariant.listed (subst P at list));
      choices = rw put (all_one IsShapeChoice lists c.in-Ok.list c.loop-block.invariant.choices c.in-Ok.ensures.choice);
      shaped = rw put (all_one (λ (l : List Shape). 1 ≤ length l) lists c.in-Ok.list c.loop-block.invariant.shaped c.in-Ok.ensures.has_shape);
    }

pub returns-clause-shaped : goal.returns-clause-shaped
returns-clause-shaped c = all_shaped c.args.parts.now.blocks c.loop-block.lists.items c.loop-block.invariant.shaped

pub returns-in-Err-NoShape-clause-refused : goal.returns-in-Err-NoShape-clause-refused
returns-in-Err-NoShape-clause-refused c = λ other.
    let blocks = c.args.parts.now.blocks in
    let lists = c.loop-block.lists.items in
    let item = c.block-item.result in
    let n : length lists ≡ c.loop-block.block-index = omega (arith, c.loop-block.invariant.count) in
    let in_blocks : c.as_slice-block-items.result.now ≡ c.args.parts.now.blocks = c.as_slice-block-items.ensures in
    let at : item ≡ get_or c.args.parts.now.blocks (length lists) item = c.block-item.is ∙ ap (λ xs. get_or xs c.loop-block.block-index item) in_blocks ∙ ap (λ i. get_or c.args.parts.now.blocks i item) (sym n) in
    let within : length c.as_slice-block-items.result.now ≡ length c.args.parts.now.blocks = ap (λ xs. length xs) in_blocks in
    let low : length lists < length blocks = omega arith in
    let none = c.in-Err-NoShape.ensures.no_shape (ap Err c.in-Err-NoShape.field-0-is) in
    let P : RawBlock → Type 0 = λ b. IsListOf c.args.k c.args.fixed b.kind [] in
    let name : c.in_ok-new-in-Err-NoShape.field-0 ≡ (get_or blocks (length lists) item).name = c.in_ok-new-in-Err-NoShape.ensures ∙ c.as_bytes.ensures.value ∙ ap (λ b. b.name) at in (
      lists ++ [] ∷ [],
      lists_grow c.args.k c.args.fixed blocks lists [] item low c.loop-block.invariant.listed (subst P at none),
      ap (option_map NoShape) (none_after blocks lists item low c.loop-block.invariant.shaped) ∙ ap (λ m. Some (NoShape m)) (sym name),
    )

pub returns-clause-listed : goal.returns-clause-listed
returns-clause-listed c =
    let in_blocks : c.as_slice-block-items.result.now ≡ c.args.parts.now.blocks = c.as_slice-block-items.ensures in
    let within : length c.as_slice-block-items.result.now ≡ length c.args.parts.now.blocks = ap (λ xs. length xs) in_blocks in
    record { one_each = omega (arith, c.loop-block.invariant.count); each = c.loop-block.invariant.listed }
