-- The span of each block that is its whole list.
use Rattle.std.proofs.Common.{◌≡◌, ℕ, ◌-◌, ◌<◌, ◌≤◌, [], length, take, drop, arith, ap, sym, subst, ◌∙◌}
use Rattle.sf_anneal.proofs.Common.{get_or-map, length-map, take_all, Design, block_count, shapes_of, span_in, shapes_in, AreSpans, whole_spans}

-- the span of a block
pub whole-at : (design : Design) (b : ℕ) → b < block_count design → span_in (whole_spans design) b ≡ (0, length (shapes_of design b))
whole-at design b lt = get_or-map (λ block. (0, length block.shapes)) design.blocks b (record { name = []; shapes = [] }) (0, 0) lt

-- they are spans
pub whole-are : (design : Design) → AreSpans design (whole_spans design)
whole-are design = record {
  count = length-map design.blocks (λ block. (0, length block.shapes));
  some = λ b lt. subst (λ (s : ℕ × ℕ). s.0 < s.1) (sym (whole-at design b lt)) (design.limits.shapes b (record { name = []; shapes = [] }) lt).some;
  inside = λ b lt. subst (λ (s : ℕ × ℕ). s.1 ≤ length (shapes_of design b)) (sym (whole-at design b lt)) (omega arith);
}

-- the shapes in the span of a block are all its shapes
pub whole-shapes : (design : Design) (b : ℕ) → b < block_count design → shapes_in design (whole_spans design) b ≡ shapes_of design b
whole-shapes design b lt =
    let all = shapes_of design b in
    ap (λ (s : ℕ × ℕ). take (s.1 - s.0) (drop s.0 all)) (whole-at design b lt) ∙ take_all (length all - 0) all (omega arith)
