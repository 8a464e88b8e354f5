use Rattle.std.proofs.Common.{ap, ◌∙◌, ℕ, List}
use Rattle.sf_yal.proofs.Common.{used_in, with_pads, signals_in}
use Rattle.sf_yal.proofs.NetsBySignal.{nets_are}
use Rattle.sf_yal.proofs.nets.read_nets.Goals as goal

pub returns : goal.returns
returns c =
    c.from_vec.ensures ∙ c.in_ok-add_pads.ensures ∙ ap (λ (names : List (List ℕ)). with_pads c.args.pad_names.now names c.in_ok-used.used.nets.items) c.as_slice.ensures
    ∙ nets_are (signals_in c.args.instances.now) c.args.pad_names.now (used_in c.in_ok-used.used) c.in_ok-used.ensures
