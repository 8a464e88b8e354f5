use Rattle.std.proofs.Common.{◌≡◌, ◌+◌, ℕ, List, Vec, Global, take, get_or, arith, rules, ap, sym, ◌∙◌}
use Rattle.sf_resume.proofs.Common.{Tag, decided, flat_map}
use Rattle.sf_certificate.proofs.Runs.{past-run}
use Rattle.sf_resume.proofs.Gone.{decided-append}
use Rattle.sf_resume.proofs.resuming.decided_by.Goals as goal

-- the tags of a run
abbrev tags_of : Vec Tag Global → List Tag
tags_of run = run.items

pub loop-run-preserved : goal.loop-run-preserved
loop-run-preserved c =
    let runs : List (Vec Tag Global) = c.runs-run-items.result.now in
    let i : ℕ = c.loop-run.run-index in
    let run : Vec Tag Global = c.run-item.result in
    let before : List Tag = flat_map tags_of (take i runs) in
    let longer : decided (flat_map tags_of (take (i + 1) runs)) ≡ decided before + decided (tags_of (get_or runs i run)) =
    ap decided (sym (past-run tags_of runs i run c.loop-run-test.true)) ∙ decided-append before (tags_of (get_or runs i run)) in
    let here : c.decided_in.result ≡ decided (tags_of (get_or runs i run)) = c.decided_in.ensures ∙ ap decided (c.deref.ensures.value ∙ ap tags_of c.run-item.is) in
    let count : c.in_ok-count.count ≡ c.loop-run.count + c.decided_in.result = search rules in
    let so-far : c.loop-run.count ≡ decided before = c.loop-run.invariant in
    let all : c.in_ok-count.count ≡ decided (flat_map tags_of (take (i + 1) runs)) = omega (arith, longer, here, count, so-far) in
    all
