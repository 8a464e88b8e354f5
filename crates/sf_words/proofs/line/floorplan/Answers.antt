use Rattle.std.proofs.Common.{◌≡◌, ◌+◌, ◌++◌, ◌∷◌, [], ap, ap₂, ◌∙◌, take, get_or, length, arith, ◌≤◌}
use Rattle.sf_words.proofs.Common.{take_more, take_all, App, with_subcommand, Plan, bare, with_modes, floorplan}
use Rattle.sf_words.proofs.Build.{with_modes-push}
use Rattle.sf_words.proofs.line.floorplan.Goals as goal

pub loop-mode-preserved : goal.loop-mode-preserved
loop-mode-preserved c =
    let i = c.loop-mode.mode-index in
    let modes = c.all-mode-items.result.now in
    let more : take (i + 1) modes ≡ take i modes ++ get_or modes i Plan ∷ [] = take_more modes i Plan c.loop-mode-test.true in
    let step = c.in_ok-command.ensures.shape c.in_ok-subcommand.ensures.local ∙ ap₂ with_subcommand c.loop-mode.invariant.0 (ap (λ (a : App). a.top) c.in_ok-subcommand.ensures.app) in
    (rw (more, with_modes-push) step, c.all-mode-items.ensures)

pub returns : goal.returns
unfolding floorplan
returns c =
    let modes = c.all-mode-items.result.now in
    let end : length modes ≤ c.loop-mode.mode-index = omega (arith, c.loop-mode-test.false) in
    c.loop-mode.invariant.0 ∙ ap (with_modes bare) (take_all c.loop-mode.mode-index modes end ∙ c.loop-mode.invariant.1)
