use Rattle.std.proofs.Common.{◌≡◌, ℕ, ◌+◌, ◌<◌, ◌≤◌, ◌++◌, [], ◌∷◌, length, take, map, get_or, ap, sym, ◌∙◌, append-nil, arith, filter, nat_lt, zip}
use Rattle.sf_bounds.proofs.Common.{Net, map-append, take_all, length-zip, lefts-count}
use Rattle.sf_bounds.proofs.Lefts.{left-counts, left-free, lefts-more}
use Rattle.sf_bounds.proofs.net_start.lefts_of.Goals as goal
use Rattle.sf_bounds.proofs.net_start.lefts_of.Goals.{then-net-gt0+in_ok-push, else-net-gt0}

pub loop-number-preserved : goal.loop-number-preserved
loop-number-preserved c =
    let D = c.args.design.now in
    let i = c.loop-number.number in
    let net = c.net-item.result in
    let counts = λ (n : ℕ × Net). nat_lt 0 n.1.weight in
    let number = map (λ (n : ℕ × Net). n.0) in
    let lt : i < length D.nets = omega (arith, c.loop-number-test.true, ap length c.as_slice-net-items.ensures) in
    let at : net ≡ get_or D.nets i net = c.net-item.is ∙ ap (λ v. get_or v i net) c.as_slice-net-items.ensures in
    let left = get_or D.routes.left i 0 in
    let before = filter counts (take i (zip D.routes.left D.nets)) in
    let more = ap number (lefts-more D i net at lt) ∙ map-append (λ (n : ℕ × Net). n.0) before (filter counts ((left, net) ∷ [])) in
    elim c.if-net-gt0.branch [
      | then-net-gt0+in_ok-push w ↦ (let own = left-counts left net (omega (arith, w.if-net-gt0.true)) in
          ap (λ v. v.items) w.lefts-is ∙ w.in_ok-push.ensures.items ∙ ap (λ v. v ++ w.left_of.result ∷ []) c.loop-number.invariant
          ∙ ap (λ (l : ℕ). number before ++ l ∷ []) w.left_of.ensures.is
          ∙ ap (λ v. number before ++ number v) (sym own) ∙ sym more)
      | else-net-gt0 w ↦ (let none = left-free left net (omega (arith, w.if-net-gt0.false)) in
          ap (λ v. v.items) w.lefts-is ∙ c.loop-number.invariant ∙ sym (append-nil (number before))
          ∙ ap (λ v. number before ++ number v) (sym none) ∙ sym more)
    ]

pub returns : goal.returns
returns c =
    let D = c.args.design.now in
    let all = zip D.routes.left D.nets in
    let counts = λ (n : ℕ × Net). nat_lt 0 n.1.weight in
    c.loop-number.invariant
    ∙ ap (λ v. map (λ (n : ℕ × Net). n.0) (filter counts v)) (take_all c.loop-number.number all (omega (arith, c.loop-number-test.false, ap length c.as_slice-net-items.ensures, length-zip D.routes.left D.nets, lefts-count D)))
