use Rattle.std.proofs.Common.{◌≡◌, ℕ, ◌<◌, ◌≤◌, List, [], length, map, ap, sym, subst, ◌∙◌, arith, slice_index_or}
use Rattle.std.proofs.lemmas.List.{get_or-map, length-map, take_all}
use Rattle.sf_model.specs.Legal.{shapes_of}
use Rattle.sf_model.specs.Spans.{span_in}
use Rattle.sf_model.specs.declared.design.Design.{Design}
use Rattle.sf_curves.specs.Choices.{AreSpans}
use Rattle.sf_model_tests.proofs.curves.whole_spans.Goals as goal

whole : (design : Design) (spans : List (ℕ × ℕ)) → spans ≡ map (λ block. (0, length block.shapes)) design.blocks → AreSpans design spans
whole design spans e =
    let at : (b : ℕ) → b < length design.blocks → (0, length (shapes_of design b)) ≡ span_in spans b =
    λ b lt. sym (ap (λ v. slice_index_or v b (0, 0)) e ∙ get_or-map (λ block. (0, length block.shapes)) design.blocks b (record { name = []; shapes = [] }) (0, 0) lt) in
    record {
      count = ap length e ∙ length-map design.blocks (λ block. (0, length block.shapes));
      some = λ b lt. subst (λ (s : ℕ × ℕ). s.0 < s.1) (at b lt) (design.limits.shapes b (record { name = []; shapes = [] }) lt).some;
      inside = λ b lt. subst (λ (s : ℕ × ℕ). s.1 ≤ length (shapes_of design b)) (at b lt) (omega arith);
    }

pub returns : goal.returns
returns c =
    let blocks = c.as_slice-block-items.result.now in
    whole c.args.design.now c.loop-block.spans.items
    (c.loop-block.invariant ∙ ap (map (λ block. (0, length block.shapes))) (take_all c.loop-block.block-index blocks c.loop-block-test.false ∙ c.as_slice-block-items.ensures))
