-- The curves of the unused blocks below k stand behind those of the items.
use Rattle.std.proofs.Common.{◌≡◌, ℕ, ◌+◌, ◌<◌, List, [], ◌∷◌, ◌++◌, length, map, append_assoc, append-nil, sym, ap, ◌∙◌, subst, arith, refl, cond, Bool, true, false}
use Rattle.sf_frames.proofs.Common.{filter, count_by, AllZip, AllByRecursion, range_with_len, cond-true, cond-false, ne_eqb, map-append, Design, Shape, each-weaker, is_block, Parts, IsSubproblem, is_unused, is_complete, complete-normal, subproblem-spans, IsCurveOf, shapes_in, Item, unused, AreItemCurves, AddsUnused, AreGroupCurves, IsItemCurve, each-below}
use Rattle.sf_frames.proofs.Joining.{curve-block}
use Rattle.sf_node.proofs.Grown.{filter-more}
use Rattle.sf_standard.specs.Items as item

-- the unused blocks with numbers below k, each as an item by itself
abbrev pub unused_below : Parts → ℕ → List Item
unused_below node k = map (λ b. item.Block b) (filter (λ b. is_unused b node.tokens) (range_with_len 0 k))

-- the curves are those of the items, and behind them those of the unused blocks below k
pub record IsAdding (design : Design) (node : Parts) (curves : List (List Shape)) (k : ℕ) : Type 0 where
  pub front : List (List Shape)
  pub others : List (List Shape)
  pub split : curves ≡ front ++ others
  pub items : AreItemCurves design node front
  pub unused : AllZip (IsItemCurve design node) others (unused_below node k)

-- a relation that holds of two pairs of lists, place by place, holds of them put together
zip-append : {A B : Type 0} (R : A → B → Type 0) (xs : List A) (ys : List B) (vs : List A) (ws : List B) → AllZip R xs ys → AllZip R vs ws → AllZip R (xs ++ vs) (ys ++ ws)
zip-append R [] [] vs ws h k = k
zip-append R [] (y ∷ ys) vs ws h k = elim h [ ]
zip-append R (x ∷ xs) [] vs ws h k = elim h [ ]
zip-append R (x ∷ xs) (y ∷ ys) vs ws h k = (h.0, zip-append R xs ys vs ws h.1 k)

-- the unused blocks below k + 1 are those below k, and block k where it is unused
below-more : (node : Parts) (k : ℕ) → unused_below node (k + 1) ≡ unused_below node k ++ map (λ b. item.Block b) (cond (is_unused k node.tokens) (k ∷ []) [])
below-more node k =
    ap (map (λ b. item.Block b)) (filter-more (λ b. is_unused b node.tokens) 0 k ∙ at-zero k)
    ∙ map-append (λ b. item.Block b) (filter (λ b. is_unused b node.tokens) (range_with_len 0 k)) (cond (is_unused k node.tokens) (k ∷ []) [])
  where
    at-zero : (k : ℕ) → filter (λ b. is_unused b node.tokens) (range_with_len 0 k) ++ cond (is_unused (0 + k) node.tokens) ((0 + k) ∷ []) [] ≡ filter (λ b. is_unused b node.tokens) (range_with_len 0 k) ++ cond (is_unused k node.tokens) (k ∷ []) []
    at-zero k = let z : 0 + k ≡ k = omega arith in ap (λ n. filter (λ b. is_unused b node.tokens) (range_with_len 0 k) ++ cond (is_unused n node.tokens) (n ∷ []) []) z

-- once block k is passed, the curves are those of the items and of the unused blocks below k + 1
pub adding-more : (design : Design) (node : Parts) (old new : List (List Shape)) (k : ℕ) → IsAdding design node old k → AddsUnused design node k old new → IsAdding design node new (k + 1)
adding-more design node old new k i a = record {
  front = i.front;
  others = i.others ++ a.0;
  split = a.1 ∙ ap (λ v. v ++ a.0) i.split ∙ append_assoc i.front i.others a.0;
  items = i.items;
  unused = subst (AllZip (IsItemCurve design node) (i.others ++ a.0)) (sym (below-more node k))
      (zip-append (IsItemCurve design node) i.others (unused_below node k) a.0 (map (λ b. item.Block b) (cond (is_unused k node.tokens) (k ∷ []) [])) i.unused a.2);
}

-- once all blocks are passed, the curves are those of the items and of all unused blocks
pub adding-ends : (design : Design) (node : Parts) (curves : List (List Shape)) (k : ℕ) → k ≡ length node.spans → IsAdding design node curves k → AreGroupCurves design node curves
adding-ends design node curves k e i = (i.front, i.others, i.split, i.items, subst (λ n. AllZip (IsItemCurve design node) i.others (unused_below node n)) e i.unused)

-- an unused block adds its curve
pub adds-yes : (design : Design) (node : Parts) (b : ℕ) (old new : List (List Shape)) (curve : List Shape) → is_unused b node.tokens ≡ true → IsCurveOf design.outline (shapes_in design node.spans b) curve → new ≡ old ++ curve ∷ [] → AddsUnused design node b old new
adds-yes design node b old new curve free is e =
    (curve ∷ [], e, subst (λ v. AllZip (IsItemCurve design node) (curve ∷ []) (map (λ b. item.Block b) v)) (sym (cond-true (is_unused b node.tokens) (b ∷ []) [] free)) (curve-block design node b curve is, tt))

-- a used block adds no curve
pub adds-no : (design : Design) (node : Parts) (b : ℕ) (old new : List (List Shape)) → is_unused b node.tokens ≡ false → new ≡ old → AddsUnused design node b old new
adds-no design node b old new used e =
    ([], e ∙ sym (append-nil old), subst (λ v. AllZip (IsItemCurve design node) [] (map (λ b. item.Block b) v)) (sym (cond-false (is_unused b node.tokens) (b ∷ []) [] used)) tt)

-- where no element passes a test, none is left
filter-none : (test : ℕ → Bool) (xs : List ℕ) → AllByRecursion (λ x. test x ≡ false) xs → filter test xs ≡ []
filter-none test [] h = refl
filter-none test (x ∷ xs) h = cond-false (test x) (x ∷ filter test xs) (filter test xs) h.0 ∙ filter-none test xs h.1

-- a complete subproblem has no unused block
complete-unused : (design : Design) (node : Parts) → IsSubproblem design node → is_complete node ≡ true → unused node ≡ []
complete-unused design node sub complete =
    let spans = subproblem-spans design node sub in
    let normal = complete-normal design node sub spans complete in
    ap (map (λ b. item.Block b)) (filter-none (λ b. is_unused b node.tokens) (range_with_len 0 (length node.spans))
    (each-weaker (λ b. b < 0 + length node.spans) (λ b. is_unused b node.tokens ≡ false)
    (λ b lt. ne_eqb (count_by (is_block b) node.tokens) 0 (λ e. absurd (omega (arith, e, normal.each_once b (omega (arith, lt, spans))))))
    (range_with_len 0 (length node.spans)) (each-below 0 (length node.spans))))

-- the curves of a complete subproblem's items are those of all its groups
pub adds-none : (design : Design) (node : Parts) (curves : List (List Shape)) → IsSubproblem design node → is_complete node ≡ true → AreItemCurves design node curves → AreGroupCurves design node curves
adds-none design node curves sub complete m = (curves, [], sym (append-nil curves), m, subst (AllZip (IsItemCurve design node) []) (sym (complete-unused design node sub complete)) tt)
