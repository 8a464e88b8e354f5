use Rattle.std.proofs.Common.{◌≡◌, ◌++◌, All, take, string_bytes, flat_map}
use Rattle.sf_cert_text.proofs.Common.{FitsStep, step_text}
use Rattle.sf_cert_text.proofs.path_writing.push_steps.Given as goal

abbrev pub invariant-loop-step : goal.invariant-loop-step
invariant-loop-step l = record {
  text : string_bytes l.text ≡ string_bytes l.initial.text ++ flat_map step_text (take l.step-index l.steps);
  fits : All FitsStep (take l.step-index l.steps);
}
