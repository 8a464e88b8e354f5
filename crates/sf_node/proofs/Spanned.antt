-- The spans of a subproblem are not empty and lie in the blocks' lists.
use Rattle.std.proofs.Common.{◌≡◌, ℕ, ◌+◌, ◌<◌, ◌≤◌, List, [], ◌∷◌, length, arith, ap, sym, subst, ◌∙◌, inl, inr, get_or-set_same, get_or-set_other, length-set}
use Rattle.sf_node.proofs.Common.{slice_index_or, slice_set, cases_eq, ltb-true, get_or-map, length-map, Design, block_count, shapes_of, Step, Beside, Above, Block, Left, Right, Parts, root, span_of, after, middle, CanStep, CanWalk, walk, IsSubproblem}

-- a span of places of a list
abbrev pub IsSpan : ℕ → ℕ × ℕ → Type 0
IsSpan n span = (span.0 < span.1) × (span.1 ≤ n)

-- one span for each block, each of places in the block's list
pub record AreSpans (design : Design) (spans : List (ℕ × ℕ)) : Type 0 where
  pub count : length spans ≡ block_count design
  pub each : (b : ℕ) → b < block_count design → IsSpan (length (shapes_of design b)) (slice_index_or spans b (0, 0))

-- spans stay so, where one becomes another that is one
set-spans : (design : Design) (spans : List (ℕ × ℕ)) (b : ℕ) (half : ℕ × ℕ) → AreSpans design spans → (b < block_count design → IsSpan (length (shapes_of design b)) half) → AreSpans design (slice_set spans b half)
set-spans design spans b half i is = record {
  count = length-set spans b half ∙ i.count;
  each = λ c lt. elim (cases_eq c b) [
    | inl e ↦ (let same : half ≡ slice_index_or (slice_set spans b half) c (0, 0) = sym (ap (λ n. slice_index_or (slice_set spans b half) n (0, 0)) e ∙ get_or-set_same spans b half (0, 0) (omega (arith, lt, e, i.count))) in
        subst (IsSpan (length (shapes_of design c))) same (subst (λ n. IsSpan (length (shapes_of design n)) half) (sym e) (is (omega (arith, lt, e)))))
    | inr ne ↦ subst (IsSpan (length (shapes_of design c))) (sym (get_or-set_other spans b c half (0, 0) ne)) (i.each c lt)
  ];
}

-- both halves of a span of more than one place are spans
halves : (n : ℕ) (span : ℕ × ℕ) → span.0 + 1 < span.1 → IsSpan n span → IsSpan n (span.0, middle span) × IsSpan n (middle span, span.1)
halves n span wide is = ((omega (arith, wide), omega (arith, wide, is.1)), (omega (arith, wide), is.1))

-- each step keeps this
step-spans : (design : Design) (node : Parts) (s : Step) → CanStep node s → AreSpans design node.spans → AreSpans design (after node s).spans
step-spans design node Beside can i = i
step-spans design node Above can i = i
step-spans design node (Block b) can i = i
step-spans design node (Left b) can i = set-spans design node.spans b ((span_of node b).0, middle (span_of node b)) i (λ lt. (halves (length (shapes_of design b)) (span_of node b) (ltb-true ((span_of node b).0 + 1) (span_of node b).1 can.1) (i.each b lt)).0)
step-spans design node (Right b) can i = set-spans design node.spans b (middle (span_of node b), (span_of node b).1) i (λ lt. (halves (length (shapes_of design b)) (span_of node b) (ltb-true ((span_of node b).0 + 1) (span_of node b).1 can.1) (i.each b lt)).1)

-- all steps keep this
walk-spans : (design : Design) (ss : List Step) (node : Parts) → CanWalk node ss → AreSpans design node.spans → AreSpans design (walk node ss).spans
walk-spans design [] node can i = i
walk-spans design (s ∷ ss) node can i = walk-spans design ss (after node s) can.1 (step-spans design node s can.0 i)

-- the spans of the root hold all places
root-spans : (design : Design) → AreSpans design (root design).spans
root-spans design = record {
  count = length-map design.blocks (λ block. (0, length block.shapes));
  each = λ b lt.
      let e : slice_index_or (root design).spans b (0, 0) ≡ (0, length (shapes_of design b)) = get_or-map (λ block. (0, length block.shapes)) design.blocks b (record { name = []; shapes = [] }) (0, 0) lt in
      subst (IsSpan (length (shapes_of design b))) (sym e) (omega (arith, (design.limits.shapes b (record { name = []; shapes = [] }) lt).some), omega arith);
}

-- the spans of a subproblem are not empty and lie in the blocks' lists
pub are-spans : (design : Design) (node : Parts) → IsSubproblem design node → AreSpans design node.spans
are-spans design node sub = subst (λ n. AreSpans design n.spans) (sym sub.is) (walk-spans design node.steps (root design) sub.reached (root-spans design))
