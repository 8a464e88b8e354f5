use Rattle.std.proofs.Common.{◌≡◌, ℕ, ◌<◌, List, Bool, length, arith, ap, sym, ◌∙◌, true, false}
use Rattle.sf_node.proofs.Common.{get_or_default, not, slice_index_or, is_unused}
use Rattle.sf_node.proofs.Grown.{grown-yes, grown-no, grown-all}
use Rattle.sf_node.proofs.Reached.{subproblem-spans}
use Rattle.sf_node.proofs.node.Node.extend_children.Goals as goal
use Rattle.sf_node.proofs.node.Node.extend_children.Goals.{then-not-index+in_ok-with_token+in_ok-push, else-not-index}

not-back : (x r : Bool) → not x ≡ r → x ≡ not r
not-back true r e = ap not e
not-back false r e = ap not e

-- the flag at a place within the list does not depend on what stands past it
flag-of : (flags : List Bool) (b n : ℕ) (r x : Bool) → b < n → length flags ≡ n → r ≡ slice_index_or flags b r → slice_index_or flags b true ≡ not x → x ≡ not r
flag-of flags b n r x lt len is known =
    let same : slice_index_or flags b r ≡ slice_index_or flags b true = get_or_default flags b r true (omega (arith, lt, len)) in
    not-back x r (sym known ∙ sym same ∙ sym is)

pub loop-block-preserved : goal.loop-block-preserved
loop-block-preserved c =
    let same : c.deref.result.now ≡ c.args.self.now.tokens = c.deref.ensures.value ∙ ap (λ n. n.tokens) c.self.view_is in
    let is : c.index.result.now ≡ slice_index_or c.in_ok-used.used.items c.loop-block.block c.index.result.now = c.index.ensures in
    let count = c.from-2.ensures in
    let low : c.loop-block.block < c.from-2.result = omega (arith, count, c.loop-block-test.true) in
    let flag = flag-of c.in_ok-used.used.items c.loop-block.block c.from-2.result c.index.result.now (is_unused c.loop-block.block c.deref.result.now) low c.in_ok-used.ensures.each is (c.in_ok-used.ensures.used c.loop-block.block low) in
    let unused : is_unused c.loop-block.block c.args.self.now.tokens ≡ not c.index.result.now = sym (ap (is_unused c.loop-block.block) same) ∙ flag in
    elim c.if-not-index.branch [
      | then-not-index+in_ok-with_token+in_ok-push w ↦ grown-yes c.args.self.now c.loop-block.children.items c.if-not-index.children.items w.in_ok-with_token.field-0 c.loop-block.block
          (unused ∙ ap not w.if-not-index.true) c.loop-block.invariant w.in_ok-with_token.ensures (ap (λ v. v.items) w.children-is ∙ w.in_ok-push.ensures.items)
      | else-not-index w ↦ grown-no c.args.self.now c.loop-block.children.items c.if-not-index.children.items c.loop-block.block
          (unused ∙ ap not w.if-not-index.false) c.loop-block.invariant (ap (λ v. v.items) w.children-is)
    ]

pub returns : goal.returns
returns c =
    grown-all c.args.self.now c.loop-block.children.items c.loop-block.block
    (omega (arith, c.loop-block.auto.block-end, c.loop-block-test.false, c.block_count-blocks.ensures, subproblem-spans c.args.design.now c.args.self.now c.requires)) c.loop-block.invariant
