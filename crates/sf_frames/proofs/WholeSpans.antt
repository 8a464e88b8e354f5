-- The whole curves of blocks, and subproblems whose spans are whole.
use Rattle.std.proofs.Common.{◌≡◌, ℕ, ◌+◌, ◌-◌, ◌<◌, ◌≤◌, List, [], ◌∷◌, ◌++◌, length, take, get_or, refl, sym, ap, ◌∙◌, subst, inl, inr, arith, length-append}
use Rattle.sf_frames.proofs.Common.{AllPairs, slice_range, MatchOption, Option, Some, None, take_all, length_push, get_or_append_left, get_or_push, get_or-map, get_or_default, drop-append-le, drop_all, sum_by_push, cases_lt, Design, Shape, block_count, shapes_of, Parts, root, span_of, after, walk, IsSubproblem, IsSlimmer, IsCurveOf, area_of, shapes_in, Item, plans_of, mul-le-mul, Kept, Least, IsItemCurve, IsLeastOf, AllSmall, width_of, height_of, IsLeastOrNone, path, ways, groups_at, point_count, IsKept, AreWhole, at_end}
use Rattle.sf_model.specs.declared.parts.Block.{Block as Block'}
use Rattle.sf_polish.specs.declared.expr.Token.TheVariants as token
use Rattle.sf_node.specs.declared.step.Step.{Step}
use Rattle.sf_node.specs.declared.step.Step.TheVariants.{Beside, Above, Block, Left, Right}
use Rattle.sf_standard.specs.Items as item
use Rattle.sf_frames.proofs.Joining.{curve-block}
use Rattle.sf_frames.proofs.ItemLeasts.{least-item, item-some, item-none}
use Rattle.sf_frames.proofs.Keeping.{kept-appended}

-- the points of an item's curve are sizes of machine numbers
pub curve-small : (design : Design) (c : List Shape) (i : Item) → IsItemCurve design (root design) c i → AllSmall c
curve-small design c i k = λ j d lt. let w = k.within j d lt in (omega (arith, w.0, design.limits.width.1), omega (arith, w.1, design.limits.height.1))

-- the least values of an item, from its curve
pub least-kept : (design : Design) (c : List Shape) (i : Item) (o : Option Least) → IsItemCurve design (root design) c i → MatchOption o (c ≡ []) (IsLeastOf c) → IsLeastOrNone (ways design i) o
least-kept design c i None k h = item-none design (root design) c i k h
least-kept design c i (Some l) k h = record {
  some = item-some design (root design) c i k h.some;
  area = h.area ∙ least-item area_of (λ p q g. mul-le-mul g.0 g.1) design (root design) c i k;
  width = h.width ∙ least-item width_of (λ p q g. g.0) design (root design) c i k;
  height = h.height ∙ least-item height_of (λ p q g. g.1) design (root design) c i k;
}

-- the points at the end
pub range-end : (xs ys : List Shape) → slice_range (xs ++ ys) (length xs) (length xs + length ys) ≡ ys
range-end xs ys =
    ap (take (length xs + length ys - length xs)) (drop-append-le (length xs) xs ys (omega arith) ∙ ap (λ v. v ++ ys) (drop_all (length xs) xs (omega arith)))
    ∙ take_all (length xs + length ys - length xs) ys (omega arith)

-- a curve that is put at the end
pub kept-end : (design : Design) (points made : List Shape) (i : Item) (o : Option Least) → IsItemCurve design (root design) made i → AllPairs IsSlimmer made → MatchOption o (made ≡ []) (IsLeastOf made) → IsKept design (points ++ made) i (at_end points made o)
kept-end design points made i o curve falls least =
    let same = range-end points made in
    record {
      order = omega arith;
      inside = omega (arith, length-append points made);
      curve = subst (λ v. IsItemCurve design (root design) v i) (sym same) curve;
      falls = subst (AllPairs IsSlimmer) (sym same) falls;
      least = least-kept design made i o curve least;
    }

-- the whole span of a block holds all of its shapes
whole-shapes : (design : Design) (b : ℕ) → b < block_count design → shapes_in design (root design).spans b ≡ shapes_of design b
whole-shapes design b lt =
    let e : span_of (root design) b ≡ (0, length (shapes_of design b)) = get_or-map (λ block. (0, length block.shapes)) design.blocks b (record { name = []; shapes = [] }) (0, 0) lt in
    ap (λ span. slice_range (shapes_of design b) span.0 span.1) e ∙ take_all (length (shapes_of design b) - 0) (shapes_of design b) (omega arith)

-- the curve of all shapes of a block is that of its item at the root
pub whole-curve : (design : Design) (b : ℕ) (c : List Shape) → b < block_count design → IsCurveOf design.outline (slice_range (shapes_of design b) 0 (length (shapes_of design b))) c → IsItemCurve design (root design) c (item.Block b)
whole-curve design b c lt k =
    curve-block design (root design) b c
    (subst (λ v. IsCurveOf design.outline v c) (take_all (length (shapes_of design b) - 0) (shapes_of design b) (omega arith) ∙ sym (whole-shapes design b lt)) k)

-- one block more
pub wholes-more : (design : Design) (points made : List Shape) (blocks : List Kept) (o : Option Least) → AreWhole design points blocks (length points) → length blocks < block_count design → IsItemCurve design (root design) made (item.Block (length blocks)) → AllPairs IsSlimmer made → MatchOption o (made ≡ []) (IsLeastOf made)
    → AreWhole design (points ++ made) (blocks ++ at_end points made o ∷ []) (length (points ++ made))
wholes-more design points made blocks o m lt curve falls least =
    let n = length_push blocks (at_end points made o) in
    let p = length-append points made in
    let P = λ (b : ℕ) (k : Kept). IsKept design (points ++ made) (item.Block b) k × (k.to ≤ length (points ++ made)) in
    record {
      few = omega (arith, n, lt);
      room = omega arith;
      tight = omega (arith, p, m.tight, sum_by_push point_count blocks (at_end points made o));
      each = λ b d lb. elim (cases_lt b (length blocks)) [
        | inl before ↦ subst (P b) (sym (get_or_append_left blocks (at_end points made o ∷ []) d b before))
            (kept-appended design points made (item.Block b) (get_or blocks b d) (m.each b d before).0, omega (arith, (m.each b d before).1, p))
        | inr last ↦ (let same : length blocks ≡ b = omega (arith, n) in
            subst (P b) (sym (get_or_push blocks (at_end points made o) d b same))
            (subst (λ v. P v (at_end points made o)) same (kept-end design points made (item.Block (length blocks)) o curve falls least, omega (arith, p))))
      ];
    }

-- the curve of the block at a place of the design's list
pub block-curve : (design : Design) (items : List Block') (b i : ℕ) (x : Block') (shapes c : List Shape) → items ≡ design.blocks → x ≡ get_or items i x → shapes ≡ x.shapes → b ≡ i → i < length items → IsCurveOf design.outline (slice_range shapes 0 (length shapes)) c → IsItemCurve design (root design) c (item.Block b)
block-curve design items b i x shapes c is_items is_x is_shapes same lt k =
    let here : b < length design.blocks = omega (arith, lt, same, ap length is_items) in
    let at : x ≡ get_or design.blocks b (record { name = []; shapes = [] }) = is_x ∙ get_or_default items i x (record { name = []; shapes = [] }) lt ∙ ap (λ v. get_or v i (record { name = []; shapes = [] })) is_items ∙ ap (λ (v : ℕ). get_or design.blocks v (record { name = []; shapes = [] })) (sym same) in
    let listed : shapes ≡ shapes_of design b = is_shapes ∙ ap (λ (v : Block'). v.shapes) at in
    whole-curve design b c here (subst (λ v. IsCurveOf design.outline (slice_range v 0 (length v)) c) listed k)

-- the same as the loop has it
pub wholes-added : (design : Design) (points made all : List Shape) (blocks new : List Kept) (o : Option Least) (k : Kept) → AreWhole design points blocks (length points) → length blocks < block_count design → IsItemCurve design (root design) made (item.Block (length blocks)) → AllPairs IsSlimmer made → MatchOption o (made ≡ []) (IsLeastOf made)
    → all ≡ points ++ made → k ≡ at_end points made o → new ≡ blocks ++ k ∷ [] → AreWhole design all new (length all)
wholes-added design points made all blocks new o k m lt curve falls least is_all is_kept is_new =
    subst (λ v. AreWhole design v new (length v)) (sym is_all)
    (subst (λ v. AreWhole design (points ++ made) v (length (points ++ made))) (sym (is_new ∙ ap (λ (v : Kept). blocks ++ v ∷ []) is_kept))
    (wholes-more design points made blocks o m lt curve falls least))

-- no step makes more than one token
tokens-few : (ss : List Step) (node : Parts) → length (walk node ss).tokens ≤ length node.tokens + length ss
tokens-few [] node = omega arith
tokens-few (Beside ∷ ss) node = omega (arith, tokens-few ss (after node Beside), length_push node.tokens token.Beside)
tokens-few (Above ∷ ss) node = omega (arith, tokens-few ss (after node Above), length_push node.tokens token.Above)
tokens-few (Block b ∷ ss) node = omega (arith, tokens-few ss (after node (Block b)), length_push node.tokens (token.Block b))
tokens-few (Left b ∷ ss) node = omega (arith, tokens-few ss (after node (Left b)))
tokens-few (Right b ∷ ss) node = omega (arith, tokens-few ss (after node (Right b)))

-- where each step made one, none is a half
walk-whole : (ss : List Step) (node : Parts) → length (walk node ss).tokens ≡ length node.tokens + length ss → (walk node ss).spans ≡ node.spans
walk-whole [] node e = refl
walk-whole (Beside ∷ ss) node e = walk-whole ss (after node Beside) (omega (arith, e, length_push node.tokens token.Beside))
walk-whole (Above ∷ ss) node e = walk-whole ss (after node Above) (omega (arith, e, length_push node.tokens token.Above))
walk-whole (Block b ∷ ss) node e = walk-whole ss (after node (Block b)) (omega (arith, e, length_push node.tokens (token.Block b)))
walk-whole (Left b ∷ ss) node e = absurd (omega (arith, e, tokens-few ss (after node (Left b))))
walk-whole (Right b ∷ ss) node e = absurd (omega (arith, e, tokens-few ss (after node (Right b))))

-- a subproblem with as many steps as tokens has the whole span of each block
pub whole-spans : (design : Design) (node : Parts) → IsSubproblem design node → length node.steps ≡ length node.tokens → node.spans ≡ (root design).spans
whole-spans design node sub e =
    ap (λ n. n.spans) sub.is ∙ walk-whole node.steps (root design) (omega (arith, sym e, ap (λ n. length n.tokens) sub.is))

-- such a subproblem has the groups of its path
pub whole-groups : (design : Design) (node : Parts) → IsSubproblem design node → length node.steps ≡ length node.tokens → plans_of design (path design node.tokens) ≡ plans_of design node
whole-groups design node sub e =
    sym (ap (λ spans. plans_of design (record { steps = node.steps; tokens = node.tokens; spans = spans })) (whole-spans design node sub e))

-- what the frames of all tokens sum up
pub measured-groups : (design : Design) (node : Parts) (n : ℕ) → IsSubproblem design node → length node.steps ≡ length node.tokens → n ≡ length node.tokens → groups_at design node.tokens n ≡ plans_of design node
measured-groups design node n sub whole all =
    ap (λ v. plans_of design (path design v)) (take_all n node.tokens (omega (arith, all))) ∙ whole-groups design node sub whole
