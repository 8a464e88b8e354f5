-- The sums over the groups after a block was moved onto the stack.
use Rattle.std.proofs.Common.{◌≡◌, ℕ, ◌+◌, ◌<◌, List, [], ◌∷◌, length, map, take, drop, refl, sym, ap, ◌∙◌, subst, arith, true, ◌==◌}
use Rattle.sf_frames.proofs.Common.{sum, count_by, cond, Option, Some, None, list_any, cond-true, eq-eqb, take-append-drop, length-map, sum_by-cons, sum_by-append, Design, Tree, width, height, Token, is_block, Parts, root, IsSubproblem, CanStep, is_unused, subproblem-begun, area, least_of, greatest, has_none, plans_of, Sums, path, groups_at, IsNext, AreSumsOrNone}
use Rattle.sf_polish.specs.declared.expr.Token.TheVariants as token
use Rattle.sf_node.specs.declared.step.Step.TheVariants as step
use Rattle.sf_standard.proofs.Unmoved.{Moves, block-moves, sum-move, greatest-move, any-move}
use Rattle.sf_frames.proofs.Topping.{take-next, block-inside}

-- sums over groups stay the same when one group stands at another place
sums-moved : (x : List Tree) (old new : List (List Tree)) (s : Option Sums) → Moves x old new → AreSumsOrNone old s → AreSumsOrNone new s
sums-moved x old new None k m = ap (list_any has_none) k.is ∙ sym (any-move has_none k.front k.back x) ∙ sym (ap (list_any has_none) k.was) ∙ m
sums-moved x old new (Some s) k m = record {
  all = ap (list_any has_none) k.is ∙ sym (any-move has_none k.front k.back x) ∙ sym (ap (list_any has_none) k.was) ∙ m.all;
  total = m.total ∙ ap (λ v. sum (map (least_of area) v)) k.was ∙ sum-move (least_of area) k.front k.back x ∙ sym (ap (λ v. sum (map (least_of area) v)) k.is);
  wide = m.wide ∙ ap (λ v. greatest (map (least_of width) v)) k.was ∙ greatest-move (least_of width) k.front k.back x ∙ sym (ap (λ v. greatest (map (least_of width) v)) k.is);
  high = m.high ∙ ap (λ v. greatest (map (least_of height) v)) k.was ∙ greatest-move (least_of height) k.front k.back x ∙ sym (ap (λ v. greatest (map (least_of height) v)) k.is);
}

-- a block that comes next was not there before
free-before : (design : Design) (node : Parts) (k b : ℕ) → IsSubproblem design node → IsNext node.tokens k (token.Block b) → is_unused b (take k node.tokens) ≡ true
free-before design node k b sub next =
    let once = (subproblem-begun design node sub).once b in
    let f : Token → ℕ = λ t. cond {A = ℕ} (is_block b t) 1 0 in
    let more = take-next node.tokens k (token.Block b) next in
    let one : ◌≡◌ {A = ℕ} (cond (b == b) 1 0) 1 = cond-true (b == b) 1 0 (eq-eqb b b refl) in
    let all = ap (count_by (is_block b)) (take-append-drop (k + 1) node.tokens) in
    let begun = ap (count_by (is_block b)) more in
    eq-eqb (count_by (is_block b) (take k node.tokens)) 0
    (omega (arith, once, one, all, begun, sum_by-append f (take (k + 1) node.tokens) (drop (k + 1) node.tokens), sum_by-append f (take k node.tokens) (token.Block b ∷ []), sum_by-cons f (token.Block b) []))

-- the sums after a block are those before it: its group only moves from the unused blocks onto the stack
pub sums-block : (design : Design) (node : Parts) (k b : ℕ) (s : Option Sums) → IsSubproblem design node → IsNext node.tokens k (token.Block b) → AreSumsOrNone (groups_at design node.tokens k) s → AreSumsOrNone (groups_at design node.tokens (k + 1)) s
sums-block design node k b s sub next m =
    let begun = path design (take k node.tokens) in
    let inside : b < length (root design).spans = omega (arith, block-inside design node k b sub next, length-map {B = ℕ × ℕ} design.blocks (λ block. (0, length block.shapes))) in
    let can : CanStep begun (step.Block b) = (inside, free-before design node k b sub next) in
    let moves = block-moves design begun b can in
    subst (λ v. AreSumsOrNone (plans_of design (path design v)) s) (sym (take-next node.tokens k (token.Block b) next))
    (sums-moved _ _ _ s moves m)
