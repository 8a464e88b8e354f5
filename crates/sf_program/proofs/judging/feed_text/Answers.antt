use Rattle.std.proofs.Common.{◌≡◌, ℕ, List, [], ◌++◌, length, refl, ap, sym, subst, ◌∙◌, append_assoc, append-nil, arith}
use Rattle.sf_program.proofs.Common.{nat_tests, take-append-drop, IsFed}
use Rattle.sf_program.proofs.Pieces.{no-bytes}
use Rattle.sf_program.proofs.judging.feed_text.Goals as goal

pub loop-rest-init : goal.loop-rest-init
loop-rest-init g c = ([], refl, λ design value part fed at. subst (λ (ts : List ℕ). IsFed g.B.Values.value g.B.Bounds.part_value design value part ts c.args.checking.now) (sym (append-nil fed)) at)

pub loop-rest-preserved : goal.loop-rest-preserved
loop-rest-preserved g c =
    let front : List ℕ = c.loop-rest.invariant.0 in
    let piece : List ℕ = c.split_at.result.0.now in
    let after : List ℕ = c.split_at.result.1.now in
    let halves : piece ++ after ≡ c.loop-rest.rest.now = rw (c.split_at.ensures.front, c.split_at.ensures.back) (take-append-drop c.min.result c.loop-rest.rest.now) in (
      front ++ piece,
      append_assoc front piece after ∙ ap (λ ts. front ++ ts) halves ∙ c.loop-rest.invariant.1,
      λ design value part fed at. subst (λ (ts : List ℕ). IsFed g.B.Values.value g.B.Bounds.part_value design value part ts c.feed.new.self) (append_assoc fed front piece)
          (c.in_ok-feed.ensures.fed design value part (fed ++ front) (c.loop-rest.invariant.2 design value part fed at)),
    )

pub returns : goal.returns
returns g c design value part fed at =
    let front : List ℕ = c.loop-rest.invariant.0 in
    let zero : length c.loop-rest.rest.now ≡ 0 = grind (arith, nat_tests, c.loop-rest-test.false, c.is_empty.ensures) in
    let whole : front ≡ c.args.text.now = sym (append-nil front) ∙ ap (λ ts. front ++ ts) (sym (no-bytes c.loop-rest.rest.now zero)) ∙ c.loop-rest.invariant.1 in
    subst (λ (ts : List ℕ). IsFed g.B.Values.value g.B.Bounds.part_value design value part (fed ++ ts) c.loop-rest.checking) whole (c.loop-rest.invariant.2 design value part fed at)
