-- Frames through changes of the list of points.
use Rattle.std.proofs.Common.{◌≡◌, ℕ, ◌+◌, ◌-◌, ◌<◌, ◌≤◌, List, [], ◌∷◌, ◌++◌, length, take, drop, get_or, sym, ap, ◌∙◌, subst, inl, inr, arith, length-append, length-drop}
use Rattle.sf_frames.proofs.Common.{AllPairs, slice_range, take-take, take-append-le, drop-append-le, drop-take, get_or-take, get_or_push, get_or_append_left, length_push, length-take-le, take_all, map-append, take-map, sum_by_push, cases_lt, cases_eq, Design, Shape, Token, root, IsSlimmer, Item, Block, Frame, Kept, IsItemCurve, IsKept, AreWhole, IsFrame, IsStored, IsEndOf, IsNext, token_of, added, needed}
use Rattle.std.proofs.lemmas.List.Quantifiers.{all_pairs_push}
use Rattle.sf_frames.proofs.Topping.{take-next}

-- a range of a list stays as it is when more is put at the end
range-append : (xs ys : List Shape) (i j : ℕ) → i ≤ j → j ≤ length xs → slice_range (xs ++ ys) i j ≡ slice_range xs i j
range-append xs ys i j le lt =
    ap (take (j - i)) (drop-append-le i xs ys (omega arith))
    ∙ take-append-le (j - i) (drop i xs) ys (omega (arith, length-drop i xs))

-- a range that ends before a cut stays as it is
range-take : (xs : List Shape) (e i j : ℕ) → i ≤ j → j ≤ e → slice_range (take e xs) i j ≡ slice_range xs i j
range-take xs e i j le lt =
    let split : e ≡ i + (e - i) = omega arith in
    ap (λ v. take (j - i) (drop i (take v xs))) split
    ∙ ap (take (j - i)) (drop-take i (e - i) xs)
    ∙ take-take (j - i) (e - i) (drop i xs) (omega arith)

-- a curve stays kept in another list of points that has the same range
kept-moves : (design : Design) (points others : List Shape) (i : Item) (k : Kept) → IsKept design points i k → slice_range others k.from k.to ≡ slice_range points k.from k.to → k.to ≤ length others → IsKept design others i k
kept-moves design points others i k m same inside = record {
  order = m.order;
  inside = inside;
  curve = subst (λ v. IsItemCurve design (root design) v i) (sym same) m.curve;
  falls = subst (AllPairs IsSlimmer) (sym same) m.falls;
  least = m.least;
}

-- a kept curve stays kept when points are put at the end
pub kept-appended : (design : Design) (points more : List Shape) (i : Item) (k : Kept) → IsKept design points i k → IsKept design (points ++ more) i k
kept-appended design points more i k m =
    kept-moves design points (points ++ more) i k m (range-append points more k.from k.to m.order m.inside) (omega (arith, m.inside, length-append points more))

-- a kept curve stays kept when the points after its end are cut off
kept-cut : (design : Design) (points : List Shape) (e : ℕ) (i : Item) (k : Kept) → IsKept design points i k → e ≤ length points → k.to ≤ e → IsKept design (take e points) i k
kept-cut design points e i k m le within =
    kept-moves design points (take e points) i k m (range-take points e k.from k.to m.order within) (omega (arith, within, length-take-le e points le))

-- a frame tells the same when points are put at the end
frame-appended : (design : Design) (tokens : List Token) (points more : List Shape) (whole k : ℕ) (f : Frame) → IsFrame design tokens points whole k f → IsFrame design tokens (points ++ more) whole k f
frame-appended design tokens points more whole k f m = record {
  item = m.item;
  top = m.top;
  fewer = m.fewer;
  kept = kept-appended design points more m.item f.curve m.kept;
  inside = m.inside;
  after = m.after;
  end = omega (arith, m.end, length-append points more);
  sums = m.sums;
}

-- a frame tells the same when the points after its end are cut off
frame-cut : (design : Design) (tokens : List Token) (points : List Shape) (e whole k : ℕ) (f : Frame) → IsFrame design tokens points whole k f → e ≤ length points → f.end ≤ e → IsFrame design tokens (take e points) whole k f
frame-cut design tokens points e whole k f m le within = record {
  item = m.item;
  top = m.top;
  fewer = m.fewer;
  kept = kept-cut design points e m.item f.curve m.kept le (omega (arith, m.inside, within));
  inside = m.inside;
  after = m.after;
  end = omega (arith, within, length-take-le e points le);
  sums = m.sums;
}

-- the whole curves stay where they are when points are put at the end
wholes-appended : (design : Design) (points more : List Shape) (blocks : List Kept) (whole : ℕ) → AreWhole design points blocks whole → AreWhole design (points ++ more) blocks whole
wholes-appended design points more blocks whole m = record {
  few = m.few;
  room = omega (arith, m.room, length-append points more);
  tight = m.tight;
  each = λ b d lt. (kept-appended design points more (Block b) (get_or blocks b d) (m.each b d lt).0, (m.each b d lt).1);
}

-- what is kept of a path stays so when points are put at the end
pub stored-appended : (design : Design) (tokens : List Token) (points more : List Shape) (blocks : List Kept) (whole : ℕ) (frames : List Frame) → IsStored design tokens points blocks whole frames → IsStored design tokens (points ++ more) blocks whole frames
stored-appended design tokens points more blocks whole frames m = record {
  wholes = wholes-appended design points more blocks whole m.wholes;
  frames_are = record {
    few = m.frames_are.few;
    are = m.frames_are.are;
    each = λ k d lt. frame-appended design tokens points more whole (k + 1) (get_or frames k d) (m.frames_are.each k d lt);
    ends = m.frames_are.ends;
    tight = m.frames_are.tight;
  };
}

-- frames of any kind, each with an end; the first `count` of them end at e
module _ (F : Type 0) (end_of : F → ℕ) (frames : List F) (count e : ℕ) (le : count ≤ length frames) (last : (d : F) → 0 < count → end_of (get_or frames (count - 1) d) ≡ e) where
  -- where each frame ends between two numbers, and what is there before the first one too, the first ones end between these
  pub end-between : (low high : ℕ) → (count ≡ 0 → e ≡ low) → low ≤ high → ((k : ℕ) (d : F) → k < length frames → (low ≤ end_of (get_or frames k d)) × (end_of (get_or frames k d) ≤ high)) → F → (low ≤ e) × (e ≤ high)
  end-between low high none order each d = elim (cases_lt 0 count) [
    | inl some ↦ (let f = each (count - 1) d (omega (arith, le)) in (omega (arith, last d some, f.0), omega (arith, last d some, f.1)))
    | inr nothing ↦ (let same : e ≡ low = none (omega arith) in (omega (arith, same), omega (arith, same, order)))
  ]

  -- where each frame ends no later than those after it, each of the first ones ends no later than the last of them
  pub end-within : AllPairs (λ f g. end_of f ≤ end_of g) frames → (k : ℕ) (d : F) → k < count → end_of (get_or frames k d) ≤ e
  end-within ends k d lt =
      elim (cases_eq (k + 1) count) [
        | inl same ↦ (let here : count - 1 ≡ k = omega (arith, same) in
            omega (arith, ap (λ (v : ℕ). end_of (get_or frames v d)) here, last d (omega arith)))
        | inr other ↦ omega (arith, other, ends k (count - 1) d (omega (arith, other)) (omega arith), last d (omega arith))
      ]

module _ (design : Design) (tokens : List Token) (points : List Shape) (blocks : List Kept) (whole : ℕ) (frames : List Frame) (count e : ℕ) (m : IsStored design tokens points blocks whole frames) (le : count ≤ length frames) (at_end : IsEndOf frames whole count e) where
  -- the end lies among the points, and after the whole curves
  pub end-there : Frame → (whole ≤ e) × (e ≤ length points)
  end-there =
      end-between Frame (λ f. f.end) frames count e le at_end.last whole (length points) at_end.none m.wholes.room
      (λ k d lt. let f = m.frames_are.each k d lt in (f.after, f.end))

  -- each of the first frames ends no later than the last of them
  within-end : (k : ℕ) (d : Frame) → k < count → (get_or frames k d).end ≤ e
  within-end = end-within Frame (λ f. f.end) frames count e le at_end.last m.frames_are.ends

  -- the first frames with the points that they need
  pub stored-cut : (d : Frame) → IsStored design tokens (take e points) blocks whole (take count frames)
  stored-cut a =
      let n : length (take count frames) ≡ count = length-take-le count frames le in
      let t = end-there a in
      record {
        wholes = record {
          few = m.wholes.few;
          room = omega (arith, t.0, length-take-le e points t.1);
          tight = m.wholes.tight;
          each = λ b d lt. (kept-cut design points e (Block b) (get_or blocks b d) (m.wholes.each b d lt).0 t.1 (omega (arith, (m.wholes.each b d lt).1, t.0)), (m.wholes.each b d lt).1);
        };
        frames_are = record {
          few = omega (arith, m.frames_are.few, n);
          are = sym (take-map token_of count frames) ∙ ap (take count) m.frames_are.are ∙ take-take count (length frames) tokens le ∙ ap (λ (v : ℕ). take v tokens) (sym n);
          each = λ k d lt.
              let lt' : k < count = omega (arith, n) in
              let same : get_or (take count frames) k d ≡ get_or frames k d = get_or-take count frames k d lt' in
              subst (IsFrame design tokens (take e points) whole (k + 1)) (sym same)
              (frame-cut design tokens points e whole (k + 1) (get_or frames k d) (m.frames_are.each k d (omega arith)) t.1 (within-end k d lt'));
          ends = λ i j d lt lj.
              let lj' : j < count = omega (arith, n) in
              let li' : i < count = omega arith in
              let a : get_or (take count frames) i d ≡ get_or frames i d = get_or-take count frames i d li' in
              let b : get_or (take count frames) j d ≡ get_or frames j d = get_or-take count frames j d lj' in
              omega (arith, ap (λ v. v.end) a, ap (λ v. v.end) b, m.frames_are.ends i j d lt (omega arith));
          tight = λ k d lt.
              let lt' : k < count = omega (arith, n) in
              ap (λ v. v.end) (get_or-take count frames k d lt') ∙ m.frames_are.tight k d (omega arith)
              ∙ ap (needed whole) (sym (take-take (k + 1) count frames (omega (arith, lt'))));
        };
      }

-- they end where the points stop that they need
pub end-tight : (design : Design) (tokens : List Token) (points : List Shape) (blocks : List Kept) (whole : ℕ) (frames : List Frame) (count e : ℕ) (d : Frame) → IsStored design tokens points blocks whole frames → count ≤ length frames → IsEndOf frames whole count e → e ≡ needed whole (take count frames)
end-tight design tokens points blocks whole frames count e d m le at_end = elim (cases_lt 0 count) [
  | inl some ↦ (let same : count - 1 + 1 ≡ count = omega (arith, some) in
      sym (at_end.last d some) ∙ m.frames_are.tight (count - 1) d (omega (arith, some, le)) ∙ ap (λ (v : ℕ). needed whole (take v frames)) same)
  | inr none ↦ (let same : count ≡ 0 = omega (arith, none) in
      let nothing : needed whole [] ≡ whole = omega arith in
      at_end.none same ∙ sym nothing ∙ ap (λ (v : ℕ). needed whole (take v frames)) (sym same))
]

-- one frame more needs the points that it added
pub needed-pushed : (whole : ℕ) (frames : List Frame) (f : Frame) → needed whole (frames ++ f ∷ []) ≡ needed whole frames + added f
needed-pushed whole frames f = omega (arith, sum_by_push added frames f)

-- one frame more, whose points end the list
pub stored-pushed : (design : Design) (tokens : List Token) (points : List Shape) (blocks : List Kept) (whole : ℕ) (frames : List Frame) (f : Frame) → IsStored design tokens points blocks whole frames → IsNext tokens (length frames) f.token → IsFrame design tokens points whole (length frames + 1) f → f.end ≡ length points → f.end ≡ needed whole frames + added f → IsStored design tokens points blocks whole (frames ++ f ∷ [])
stored-pushed design tokens points blocks whole frames f m next here last exact =
    let n : length (frames ++ f ∷ []) ≡ length frames + 1 = length_push frames f in
    record {
      wholes = m.wholes;
      frames_are = record {
        few = omega (arith, n, next.more);
        are = map-append token_of frames (f ∷ []) ∙ ap (λ v. v ++ f.token ∷ []) m.frames_are.are ∙ sym (take-next tokens (length frames) f.token next) ∙ ap (λ (v : ℕ). take v tokens) (sym n);
        each = λ k d lk. elim (cases_lt k (length frames)) [
          | inl before ↦ subst (IsFrame design tokens points whole (k + 1)) (sym (get_or_append_left frames (f ∷ []) d k before)) (m.frames_are.each k d before)
          | inr at_last ↦ (let same : length frames ≡ k = omega (arith, n) in
              subst (IsFrame design tokens points whole (k + 1)) (sym (get_or_push frames f d k same))
              (subst (λ v. IsFrame design tokens points whole (v + 1) f) same here))
        ];
        ends = all_pairs_push (λ a b. a.end ≤ b.end) frames f m.frames_are.ends (λ k d lk. omega (arith, (m.frames_are.each k d lk).end, last));
        tight = λ k d lk. elim (cases_lt k (length frames)) [
          | inl before ↦ ap (λ v. v.end) (get_or_append_left frames (f ∷ []) d k before) ∙ m.frames_are.tight k d before
              ∙ ap (needed whole) (sym (take-append-le (k + 1) frames (f ∷ []) (omega (arith, before))))
          | inr at_last ↦ (let same : length frames ≡ k = omega (arith, n) in
              ap (λ v. v.end) (get_or_push frames f d k same) ∙ exact ∙ sym (needed-pushed whole frames f)
              ∙ ap (needed whole) (sym (take_all (k + 1) (frames ++ f ∷ []) (omega (arith, n, same)))))
        ];
      };
    }
