use Rattle.std.proofs.Common.{rules, ◌≡◌, ℕ, List, Some, None, length, refl, ap, ◌∙◌}
use Rattle.sf_yal.proofs.Common.{slice_get, option_map, bytes_of, index_of, slice_get-map, slice_get_read}
use denote.Ref.{Bor}
use Rattle.sf_yal.proofs.NetSteps.{no_pad}
use Rattle.sf_yal.proofs.nets.add_pad.Goals as goal

pub returns-in-None : goal.returns-in-None
returns-in-None c =
    let there : slice_get c.args.signals.now c.args.place ≡ Some c.in-Some.signal.now =
    slice_get_read c.args.signals.now (length c.args.signals.now) c.args.place c.in-Some.signal.now refl c.in-Some.ensures.lookup.3.0 c.in-Some.ensures.lookup.1 in
    let at : slice_get (bytes_of c.args.signals.now) c.args.place ≡ Some c.in-Some.signal.now.now =
    slice_get-map (λ (b : Bor (List ℕ)). b.now) c.args.signals.now c.args.place ∙ ap (option_map (λ (b : Bor (List ℕ)). b.now)) there in
    let none : index_of c.in-Some.signal.now.now c.args.pad_names.now ≡ None = search rules in
    no_pad c.args.pad_names.now _ c.in-Some.signal.now.now c.args.net.now at none
