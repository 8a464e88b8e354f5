-- How many points are kept, and how many the tokens of a path need.
use Rattle.std.proofs.Common.{◌≡◌, ℕ, zero, suc, ◌+◌, ◌-◌, ◌<◌, ◌≤◌, List, [], ◌∷◌, ◌++◌, length, map, get_or, refl, sym, ap, ◌∙◌, subst, inl, inr, cond, arith, length-drop}
use Rattle.sf_frames.proofs.Common.{AllPairs, All, Contains, sum_by, nat_lt, slice_range, cases_lt, cond-true, cond-false, lt-ltb, le-ltb, get_or-map, get_or-take, get_or_append_left, get_or_push, length_push, length-map, length-take-le, take_all, All-tail, sum_by-cons, sum_by_push, Design, Shape, block_count, Token, Parts, IsSubproblem, IsSlimmer, IsCurveOf, AllPairs-tail, Item, Block, Direction, Frame, Kept, token_in, items_at, points_of, point_count, token_of, made_for, added, needed, no_token, IsKept, IsStored, IsStoredPath, IsNext, IsWithinRoom, HasFrames, IsTopCurve, Adds, NeedsMore, HasRoom, Outline, Stored}
use Rattle.sf_model.specs.declared.parts.Block.{Block as Block'}
use Rattle.sf_polish.specs.declared.expr.Token.TheVariants as token
use Rattle.sf_node.proofs.Depth.{subproblem-shallow}
use Rattle.sf_curves.specs.declared.direction.Direction.TheVariants.{Beside, Above}
use Rattle.sf_frames.specs.declared.limits.TheConstants.{MOST_POINTS}
use Rattle.sf_frames.proofs.Switching.{stored-own}

-- 1 for a size that is no narrower than this, and 0 else
abbrev from : ℕ → Shape → ℕ
from w s = cond (nat_lt s.w w) 0 1

-- 0 for a narrower size
from-none : (w : ℕ) (s : Shape) → s.w < w → from w s ≡ 0
from-none w s lt = cond-true (nat_lt s.w w) 0 1 (lt-ltb s.w w lt)

-- 1 for another
from-one : (w : ℕ) (s : Shape) → w ≤ s.w → from w s ≡ 1
from-one w s le = cond-false (nat_lt s.w w) 0 1 (le-ltb s.w w le)

-- it is at most 1, and for a greater width no greater
from-less : (v w : ℕ) (s : Shape) → w ≤ v → (from v s ≤ from w s) × (from w s ≤ 1)
from-less v w s le = elim (cases_lt s.w w) [
  | inl lt ↦ (omega (arith, from-none v s (omega (arith, lt, le))), omega (arith, from-none w s lt))
  | inr ge ↦ (
    elim (cases_lt s.w v) [
      | inl lt ↦ omega (arith, from-none v s lt)
      | inr more ↦ omega (arith, from-one v s more, from-one w s ge)
    ],
    omega (arith, from-one w s ge),
  )
]

-- a size of this width counts here, and not for a greater width
from-step : (w : ℕ) (s : Shape) → s.w ≡ w → from (w + 1) s + 1 ≤ from w s
from-step w s e = omega (arith, from-none (w + 1) s (omega (arith, e)), from-one w s (omega (arith, e)))

-- so many sizes are no narrower
count-less : (v w : ℕ) (sizes : List Shape) → w ≤ v → (sum_by (from v) sizes ≤ sum_by (from w) sizes) × (sum_by (from w) sizes ≤ length sizes)
count-less v w [] le = (omega arith, omega arith)
count-less v w (s ∷ sizes) le =
    let one = from-less v w s le in
    let rest = count-less v w sizes le in
    (omega (arith, one.0, rest.0, sum_by-cons (from v) s sizes, sum_by-cons (from w) s sizes), omega (arith, one.1, rest.1, sum_by-cons (from w) s sizes))

-- one of this width is among them, and fewer are wider
count-step : (w : ℕ) (p : Shape) (sizes : List Shape) (k : ℕ) → p.w ≡ w → k < length sizes → get_or sizes k p ≡ p → sum_by (from (w + 1)) sizes + 1 ≤ sum_by (from w) sizes
count-step w p [] k e lt is = absurd (omega (arith, lt))
count-step w p (s ∷ sizes) zero e lt is =
    omega (arith, from-step w s (ap (λ v. v.w) is ∙ e), (count-less (w + 1) w sizes (omega arith)).0, sum_by-cons (from (w + 1)) s sizes, sum_by-cons (from w) s sizes)
count-step w p (s ∷ sizes) (suc k) e lt is =
    omega (arith, (from-less (w + 1) w s (omega arith)).0, count-step w p sizes k e (omega (arith, lt)) is, sum_by-cons (from (w + 1)) s sizes, sum_by-cons (from w) s sizes)

-- points of which each is wider than the one before are no more than the sizes that they have
points-few : (sizes : List Shape) (w : ℕ) (points : List Shape) → AllPairs IsSlimmer points → All (Contains sizes) points → All (λ p. w ≤ p.w) points → length points ≤ sum_by (from w) sizes
points-few sizes w [] falls traced wide = omega arith
points-few sizes w (p ∷ points) falls traced wide =
    let first : Contains sizes p = traced 0 p (omega arith) in
    let rest = points-few sizes (p.w + 1) points (AllPairs-tail IsSlimmer p points falls) (All-tail (Contains sizes) p points traced) (λ j d lt. omega (arith, (falls 0 (suc j) d (omega arith) (omega (arith, lt))).0)) in
    let here : w ≤ p.w = wide 0 p (omega arith) in
    omega (arith, rest, count-step p.w p sizes first.0 refl first.1 first.2, (count-less p.w w sizes here).0)

-- a curve has no more points than there are sizes
pub curve-few : (outline : Outline) (sizes points : List Shape) → IsCurveOf outline sizes points → AllPairs IsSlimmer points → length points ≤ length sizes
curve-few outline sizes points curve falls =
    omega (arith, points-few sizes 0 points falls curve.traced (λ j d lt. omega arith), (count-less 0 0 sizes (omega arith)).1)

-- the curve of a block in its whole span has at most 256 points
pub block-few : (design : Design) (items : List Block') (i : ℕ) (x : Block') (shapes c : List Shape) → items ≡ design.blocks → x ≡ get_or items i x → shapes ≡ x.shapes → i < length items → IsCurveOf design.outline (slice_range shapes 0 (length shapes)) c → AllPairs IsSlimmer c → length c ≤ 256
block-few design items i x shapes c is_items is_x is_shapes lt curve falls =
    let listed : shapes ≡ (get_or design.blocks i x).shapes = is_shapes ∙ ap (λ (v : Block'). v.shapes) is_x ∙ ap (λ v. (get_or v i x).shapes) is_items in
    omega (arith, curve-few design.outline (slice_range shapes 0 (length shapes)) c curve falls, ap length (take_all (length shapes - 0) shapes (omega arith)), ap length listed, (design.limits.shapes i x (omega (arith, lt, ap length is_items))).choice.few)

-- the points that a token made
abbrev made_by : List Shape → Token → Kept → List Shape
made_by points (token.Block b) k = []
made_by points token.Beside k = points_of points k
made_by points token.Above k = points_of points k

-- a kept curve has so many points
kept-length : (points : List Shape) (k : Kept) → k.from ≤ k.to → k.to ≤ length points → length (points_of points k) ≡ point_count k
kept-length points k order inside = length-take-le (k.to - k.from) _ (omega (arith, inside, length-drop k.from points))

-- and a token has made so many
made-length : (points : List Shape) (t : Token) (k : Kept) → k.from ≤ k.to → k.to ≤ length points → length (made_by points t k) ≡ made_for t k
made-length points (token.Block b) k order inside = refl
made-length points token.Beside k order inside = kept-length points k order inside
made-length points token.Above k order inside = kept-length points k order inside

-- sums of the same numbers are the same
sums-same : {X Y : Type 0} (f : X → ℕ) (g : X → Y) (h : Y → ℕ) (xs : List X) → All (λ x. h (g x) ≡ f x) xs → sum_by h (map g xs) ≡ sum_by f xs
sums-same f g h [] all = refl
sums-same f g h (x ∷ xs) all =
    omega (arith, all 0 x (omega arith), sums-same f g h xs (All-tail (λ x. h (g x) ≡ f x) x xs all), sum_by-cons h (g x) (map g xs), sum_by-cons f x xs)

-- what a token adds is what it made
adds-made : (design : Design) (points : List Shape) (t : Token) (item : Item) (under items : List Item) (k : Kept) → items ≡ item ∷ under → IsKept design points item k → Adds design t items (made_by points t k)
adds-made design points (token.Block b) item under items k top m = refl
adds-made design points token.Beside item under items k top m = record { item = item; under = under; top = top; curve = m.curve; falls = m.falls }
adds-made design points token.Above item under items k top m = record { item = item; under = under; top = top; curve = m.curve; falls = m.falls }

-- an operator adds the curve on top
adds-joined : (design : Design) (d : Direction) (items : List Item) (c : List Shape) → IsTopCurve design items c → Adds design (token_in d) items c
adds-joined design Beside items c top = top
adds-joined design Above items c top = top

module _ (design : Design) (tokens : List Token) (points : List Shape) (blocks : List Kept) (whole : ℕ) (frames : List Frame) (e : Frame) (f : Kept) (all : length blocks ≡ block_count design) (m : IsStored design tokens points blocks whole frames) (exact : length points ≡ needed whole frames) where
  -- the whole curves
  abbrev wholes : List (List Shape)
  wholes = map (points_of points) blocks

  -- what the frames added
  abbrev made : List (List Shape)
  made = map (λ f. made_by points f.token f.curve) frames

  -- the points of the whole curves
  wholes-total : sum_by length wholes ≡ whole
  wholes-total =
      sums-same point_count (points_of points) length blocks (λ b d lt. let k = (m.wholes.each b d lt).0 in kept-length points (get_or blocks b d) k.order k.inside)
      ∙ sym m.wholes.tight

  -- the points of the frames
  made-total : sum_by length made ≡ sum_by added frames
  made-total = sums-same added (λ f. made_by points f.token f.curve) length frames
      (λ k d lt. let g = get_or frames k d in let kept = (m.frames_are.each k d lt).kept in made-length points g.token g.curve kept.order kept.inside)

  -- the whole curve of each block is there
  of-blocks : (b : ℕ) (d : List Shape) → b < length wholes → IsTopCurve design (Block b ∷ []) (get_or wholes b d)
  of-blocks b d lt =
      let lt' : b < length blocks = omega (arith, lt, length-map blocks (points_of points)) in
      let k = (m.wholes.each b f lt').0 in
      subst (IsTopCurve design (Block b ∷ [])) (sym (get_or-map (points_of points) blocks b f d lt'))
      (record { item = Block b; under = []; top = refl; curve = k.curve; falls = k.falls })

  -- each frame is that of its token
  token-at : (k : ℕ) → k < length frames → get_or tokens k no_token ≡ (get_or frames k e).token
  token-at k lt =
      sym (get_or-take (length frames) tokens k no_token lt) ∙ ap (λ v. get_or v k no_token) (sym m.frames_are.are)
      ∙ get_or-map token_of frames k e no_token lt

  -- what each token added
  of-frames : (k : ℕ) (d : List Shape) → k < length frames → Adds design (get_or tokens k no_token) (items_at tokens (k + 1)) (get_or made k d)
  of-frames k d lt =
      let g = get_or frames k e in
      let frame = m.frames_are.each k e lt in
      subst (Adds design (get_or tokens k no_token) (items_at tokens (k + 1))) (sym (get_or-map (λ f. made_by points f.token f.curve) frames k e d lt))
      (subst (λ t. Adds design t (items_at tokens (k + 1)) (made_by points g.token g.curve)) (sym (token-at k lt))
      (adds-made design points g.token frame.item (items_at tokens g.below) (items_at tokens (k + 1)) g.curve frame.top frame.kept))

  -- where each token has a frame, all tokens together need no more points than are there
  pub has-room : length frames ≡ length tokens → length points ≤ MOST_POINTS → HasRoom design tokens
  has-room each few = record {
    wholes = wholes;
    made = made;
    curves = record {
      all = length-map blocks (points_of points) ∙ all;
      of_blocks = of-blocks;
      few = omega (arith, each, length-map frames (λ f. made_by points f.token f.curve));
      of_tokens = λ k d lt. of-frames k d (omega (arith, lt, length-map frames (λ f. made_by points f.token f.curve)));
    };
    each = length-map frames (λ f. made_by points f.token f.curve) ∙ each;
    fits = omega (arith, exact, few, wholes-total, made-total);
  }

  -- where the next operator's curve has too many points, the tokens need more
  pub needs-more : (d : Direction) (c : List Shape) → IsNext tokens (length frames) (token_in d) → IsTopCurve design (items_at tokens (length frames + 1)) c → MOST_POINTS < length points + length c → NeedsMore design tokens
  needs-more d c next top many =
      let n : length made ≡ length frames = length-map frames (λ f. made_by points f.token f.curve) in
      let last : Adds design (get_or tokens (length frames) no_token) (items_at tokens (length frames + 1)) c =
      subst (λ t. Adds design t (items_at tokens (length frames + 1)) c) (sym next.token_is) (adds-joined design d (items_at tokens (length frames + 1)) c top) in
      record {
        wholes = wholes;
        made = made ++ c ∷ [];
        curves = record {
          all = length-map blocks (points_of points) ∙ all;
          of_blocks = of-blocks;
          few = omega (arith, n, next.more, length_push made c);
          of_tokens = λ k d' lt. elim (cases_lt k (length frames)) [
            | inl before ↦ subst (Adds design (get_or tokens k no_token) (items_at tokens (k + 1))) (sym (get_or_append_left made (c ∷ []) d' k (omega (arith, before, n))))
                (of-frames k d' before)
            | inr at_last ↦ (let same : length frames ≡ k = omega (arith, lt, length_push made c, n, at_last) in
                subst (Adds design (get_or tokens k no_token) (items_at tokens (k + 1))) (sym (get_or_push made c d' k (n ∙ same)))
                (subst (λ v. Adds design (get_or tokens v no_token) (items_at tokens (v + 1)) c) same last))
          ];
        };
        more = omega (arith, exact, many, wholes-total, made-total, sum_by_push length made c);
      }

-- what is kept of a path without halves is no more than may be, since it has fewer tokens than that, for the design that is served
pub kept-within : (design served : Design) (node : Parts) (s : Stored) → IsSubproblem served node → length node.steps ≡ length node.tokens → HasFrames design node.tokens s → IsStoredPath design s × IsWithinRoom s
kept-within design served node s sub halves m = (
  stored-own design node.tokens s.points.items s.blocks.items s.whole s.frames.items m.stored,
  record { few_points = m.few; few_frames = omega (arith, m.stored.frames_are.few, halves, subproblem-shallow served node sub) },
)
