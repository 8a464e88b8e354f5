-- One frame more.
use Rattle.std.proofs.Common.{◌≡◌, ℕ, ◌+◌, ◌-◌, ◌<◌, List, [], ◌∷◌, ◌++◌, length, get_or, refl, sym, ap, ◌∙◌, subst, arith, length-append}
use Rattle.sf_frames.proofs.Common.{AllPairs, MatchOption, Option, slice_range, Design, Shape, block_count, Parts, root, IsSubproblem, IsSlimmer, IsCombination, Direction, Frame, Kept, Least, Sums, IsItemCurve, token_in, plan_in, size_in, item_in, IsLeastOf, AreSumsOrNone, AreWithin, joined, items_at, groups_at, IsKept, IsStored, IsNext, at_end, made_for, needed, IsTopCurve}
use Rattle.sf_polish.specs.declared.expr.Token.TheVariants as token
use Rattle.sf_standard.specs.Items as item
use Rattle.sf_curves.specs.declared.direction.Direction.TheVariants.{Beside, Above}
use Rattle.sf_frames.proofs.Joining.{curve-joined}
use Rattle.sf_frames.proofs.Keeping.{stored-appended, stored-pushed}
use Rattle.sf_frames.proofs.Moving.{sums-block}
use Rattle.sf_frames.proofs.Smallness.{can-join}
use Rattle.sf_frames.proofs.Summing.{sums-after}
use Rattle.sf_frames.proofs.Topping.{ArePair, items-block, items-joined, pair-top, block-inside}
use Rattle.sf_frames.proofs.Ways.{way_in}
use Rattle.sf_frames.proofs.WholeSpans.{least-kept, kept-end}

-- an operator makes the points of its item's curve
pub made-joined : (d : Direction) (k : Kept) → made_for (token_in d) k ≡ k.to - k.from
made-joined Beside k = refl
made-joined Above k = refl

-- with the frame of a block the path is kept for one token more
pub block-pushed : (design : Design) (node : Parts) (points : List Shape) (blocks : List Kept) (whole : ℕ) (frames new : List Frame) (b i below end : ℕ) (d : Kept) (s : Option Sums) → IsSubproblem design node → length blocks ≡ block_count design → IsStored design node.tokens points blocks whole frames → length points ≡ needed whole frames → IsNext node.tokens (length frames) (token.Block b) → i ≡ b → below ≡ length frames → end ≡ length points → AreSumsOrNone (groups_at design node.tokens (length frames)) s
    → new ≡ frames ++ record { token = token.Block b; curve = get_or blocks i d; below = below; end = end; sums = s } ∷ [] → IsStored design node.tokens points blocks whole new
block-pushed design node points blocks whole frames new b i below end d s sub all m exact next same is_below is_end sums is =
    let there : i < length blocks = omega (arith, block-inside design node (length frames) b sub next, all, same) in
    let w = subst (λ v. IsKept design points (item.Block v) (get_or blocks i d)) same (m.wholes.each i d there).0 in
    subst (IsStored design node.tokens points blocks whole) (sym is)
    (stored-pushed design node.tokens points blocks whole frames (record { token = token.Block b; curve = get_or blocks i d; below = below; end = end; sums = s }) m next (record {
      item = item.Block b;
      top = items-block node.tokens (length frames) b next ∙ ap (λ v. item.Block b ∷ items_at node.tokens v) (sym is_below);
      fewer = omega (arith, is_below);
      kept = w;
      inside = omega (arith, w.inside, is_end);
      after = omega (arith, m.wholes.room, is_end);
      end = omega (arith, is_end);
      sums = sums-block design node (length frames) b s sub next sums;
    }) is_end (omega (arith, is_end, exact)))

-- the curve of the two on top
module _ (design : Design) (node : Parts) (points made : List Shape) (whole : ℕ) (frames : List Frame) (d : Direction) (l r : Frame) (pair : ArePair design node.tokens points whole frames l r)
    (combines : IsCombination (size_in d) design.outline (slice_range points l.curve.from l.curve.to) (slice_range points r.curve.from r.curve.to) made) where
  -- the combination of the two curves is the curve of the joined item
  joined-curve : IsItemCurve design (root design) made (item_in d pair.left.item pair.right.item)
  joined-curve =
      curve-joined (item_in d) (plan_in d) (size_in d) (way_in d) design (root design) pair.left.item pair.right.item
      (slice_range points l.curve.from l.curve.to) (slice_range points r.curve.from r.curve.to) made pair.left.kept.curve pair.right.kept.curve combines

  -- it is the curve on top after the operator
  pub joined-top : IsNext node.tokens (length frames) (token_in d) → AllPairs IsSlimmer made → IsTopCurve design (items_at node.tokens (length frames + 1)) made
  joined-top next falls = record {
    item = item_in d pair.left.item pair.right.item;
    under = items_at node.tokens l.below;
    top = items-joined node.tokens (length frames) d pair.left.item pair.right.item (items_at node.tokens l.below) next (pair-top design node.tokens points whole frames l r pair);
    curve = joined-curve;
    falls = falls;
  }

  -- the sums allow for the two least areas to be taken out and the new one to be put in
  pub joined-within : (s : Option Sums) (o : Option Least) → IsSubproblem design node → AreSumsOrNone (groups_at design node.tokens (length frames)) s → MatchOption o (made ≡ []) (IsLeastOf made) → AreWithin s l.curve.least r.curve.least o
  joined-within s o sub sums least =
      can-join design node (length frames) pair.left.item pair.right.item (item_in d pair.left.item pair.right.item) (items_at node.tokens l.below) s l.curve.least r.curve.least o sub
      (pair-top design node.tokens points whole frames l r pair) sums pair.left.kept.least pair.right.kept.least
      (least-kept design made (item_in d pair.left.item pair.right.item) o joined-curve least)

  -- with its points at the end and the frame of the operator the path is kept for one token more
  pub joined-pushed : (blocks : List Kept) (all : List Shape) (new : List Frame) (s sums : Option Sums) (o : Option Least) (k : Kept) → IsStored design node.tokens points blocks whole frames → length points ≡ needed whole frames → IsNext node.tokens (length frames) (token_in d) → AllPairs IsSlimmer made → MatchOption o (made ≡ []) (IsLeastOf made)
      → AreSumsOrNone (groups_at design node.tokens (length frames)) s → sums ≡ joined s l.curve.least r.curve.least o → all ≡ points ++ made → k ≡ at_end points made o
      → new ≡ frames ++ record { token = token_in d; curve = k; below = l.below; end = k.to; sums = sums } ∷ [] → IsStored design node.tokens all blocks whole new
  joined-pushed blocks all new s sums o k m exact next falls least before is_sums is_all is_kept is_new =
      let i = item_in d pair.left.item pair.right.item in
      let n = length-append points made in
      let f : Frame = record { token = token_in d; curve = at_end points made o; below = l.below; end = length points + length made; sums = joined s l.curve.least r.curve.least o } in
      let same : new ≡ frames ++ f ∷ [] = is_new ∙ ap (λ (v : Kept). frames ++ record { token = token_in d; curve = v; below = l.below; end = v.to; sums = sums } ∷ []) is_kept ∙ ap (λ (v : Option Sums). frames ++ record { token = token_in d; curve = at_end points made o; below = l.below; end = length points + length made; sums = v } ∷ []) is_sums in
      subst (λ v. IsStored design node.tokens v blocks whole new) (sym is_all)
      (subst (IsStored design node.tokens (points ++ made) blocks whole) (sym same)
      (stored-pushed design node.tokens (points ++ made) blocks whole frames f (stored-appended design node.tokens points made blocks whole frames m) next (record {
        item = i;
        top = items-joined node.tokens (length frames) d pair.left.item pair.right.item (items_at node.tokens l.below) next (pair-top design node.tokens points whole frames l r pair);
        fewer = omega (arith, pair.left.fewer, pair.right.fewer);
        kept = kept-end design points made i o joined-curve falls least;
        inside = omega arith;
        after = omega (arith, m.wholes.room);
        end = omega (arith, n);
        sums = sums-after design node.tokens (length frames) d pair.left.item pair.right.item (items_at node.tokens l.below) s l.curve.least r.curve.least o next (pair-top design node.tokens points whole frames l r pair) before pair.left.kept.least pair.right.kept.least (least-kept design made i o joined-curve least);
      }) (omega (arith, n)) (omega (arith, exact, made-joined d (at_end points made o)))))
