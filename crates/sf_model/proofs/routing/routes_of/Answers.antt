use Rattle.std.proofs.Common.{◌≡◌, ℕ, ◌+◌, ◌<◌, get_or, map, min, ap, subst, ◌∙◌, arith, refl, length, List}
use Rattle.sf_model.proofs.Common.{sum_by, length-map, Net, Path, ArePathsOfAxis, IsFirstWrong, pad_x, pad_y, pull, IsFirstWrongOfAxis}
use Rattle.sf_model.proofs.Used.{bad, left-is, two-left, wrong-across, wrong-upward}
use Rattle.sf_model.proofs.routing.routes_of.Goals as goal

pub returns-in-Some-clause-wrong : goal.returns-in-Some-clause-wrong
returns-in-Some-clause-wrong c = λ n same.
    let D = c.args.design.now in
    let across : IsFirstWrongOfAxis (pad_x D.pads) D.pads D.nets c.args.paths.across c.in-Some.number = subst (λ (ps : List Path). IsFirstWrongOfAxis (pad_x D.pads) D.pads D.nets ps c.in-Some.number) c.as_slice-across.ensures c.in-Some.ensures.wrong in
    subst (IsFirstWrong D.pads D.nets c.args.paths) (bad same) (wrong-across D.pads D.nets c.args.paths c.in-Some.number across)

pub returns-in-Some-first_wrong-clause-wrong : goal.returns-in-Some-first_wrong-clause-wrong
returns-in-Some-first_wrong-clause-wrong c = λ n same.
    let D = c.args.design.now in
    let across : ArePathsOfAxis (pad_x D.pads) D.pads D.nets c.args.paths.across = subst (λ (ps : List Path). ArePathsOfAxis (pad_x D.pads) D.pads D.nets ps) c.as_slice-across.ensures (c.in_default.ensures.legal refl) in
    let upward : IsFirstWrongOfAxis (pad_y D.pads) D.pads D.nets c.args.paths.upward c.in-Some-first_wrong.number = subst (λ (ps : List Path). IsFirstWrongOfAxis (pad_y D.pads) D.pads D.nets ps c.in-Some-first_wrong.number) c.as_slice-upward.ensures c.in-Some-first_wrong.ensures.wrong in
    let number : length c.args.paths.across + c.in-Some-first_wrong.number ≡ n = omega (arith, ap length c.as_slice-across.ensures, bad same) in
    subst (IsFirstWrong D.pads D.nets c.args.paths) number (wrong-upward D.pads D.nets c.args.paths c.in-Some-first_wrong.number across upward)

pub returns-clause-legal : goal.returns-clause-legal
returns-clause-legal c =
    let D = c.args.design.now in
    let P = c.args.paths in
    let first : c.in_ok-left.left.items ≡ map (λ (n : Net). n.weight) D.nets = c.in_ok-left.ensures ∙ ap (map (λ (n : Net). n.weight)) c.as_slice.ensures in
    let second : c.in_ok-upward_left.upward_left.items ≡ map (λ (n : Net). n.weight) D.nets = c.in_ok-upward_left.ensures ∙ ap (map (λ (n : Net). n.weight)) c.as_slice-2.ensures in
    let count : length c.in_ok-left.left.items ≡ length D.nets = ap (λ (l : List ℕ). length l) first ∙ length-map D.nets (λ (n : Net). n.weight) in
    let count-2 : length c.in_ok-upward_left.upward_left.items ≡ length D.nets = ap (λ (l : List ℕ). length l) second ∙ length-map D.nets (λ (n : Net). n.weight) in
    let len : length c.keep_least.new.numbers.items ≡ length D.nets = c.keep_least.ensures.len ∙ c.first_wrong.ensures.len ∙ count in
    let one = λ (k : ℕ) (low : k < length D.nets).
    two-left D.nets P k low c.in_ok-left.left.items c.in_ok-upward_left.upward_left.items c.first_wrong.new.left.items c.first_wrong-2.new.left.items c.from_vec.result c.as_slice-across.result.now c.as_slice-upward.result.now first second
    c.as_slice-across.ensures c.as_slice-upward.ensures
    (c.in_default.ensures.taken refl k (omega (arith, low, count))) (c.in_default-first_wrong.ensures.taken refl k (omega (arith, low, count-2)))
    (ap (λ (l : List ℕ). get_or l k 0) c.from_vec.ensures ∙ c.keep_least.ensures.least k (omega (arith, low, count, c.first_wrong.ensures.len)) ∙ ap (λ (l : List ℕ). min (get_or c.first_wrong.new.left.items k 0) (get_or l k 0)) c.deref.ensures.value) in
    record {
      legal = record {
        across = subst (λ (ps : List Path). ArePathsOfAxis (pad_x D.pads) D.pads D.nets ps) c.as_slice-across.ensures (c.in_default.ensures.legal refl);
        upward = subst (λ (ps : List Path). ArePathsOfAxis (pad_y D.pads) D.pads D.nets ps) c.as_slice-upward.ensures (c.in_default-first_wrong.ensures.legal refl);
      };
      left_is = left-is D.nets P c.from_vec.result (ap (λ (l : List ℕ). length l) c.from_vec.ensures ∙ len) (λ k low. one k low);
      wires_are = omega (arith, c.pulled.ensures.is, c.pulled-2.ensures.is, ap (sum_by (pull (pad_x D.pads))) c.as_slice-across.ensures, ap (sum_by (pull (pad_y D.pads))) c.as_slice-upward.ensures);
    }
