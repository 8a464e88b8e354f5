use Rattle.std.proofs.Common.{ap, inl, inr, drop, length, take, ◌/◌}
use Rattle.sf_io.proofs.Common.{take-append-drop, Held}
use Rattle.sf_io.proofs.partial.keep_half.Goals as goal

pub returns-in-Ok-clause-part : goal.returns-in-Ok-clause-part
returns-in-Ok-clause-part c =
    let bytes = c.args.bytes.now in
    let half = length bytes / 2 in
    (inr (take half bytes, drop half bytes, c.in-Ok.ensures.added, take-append-drop half bytes), c.in-Ok.ensures.others)

pub returns-in-Err-clause-part : goal.returns-in-Err-clause-part
returns-in-Err-clause-part c =
    let same = c.in-Err.ensures.err in
    (inl (ap (λ (held : Held). held c.args.name.now) same), λ other differs. ap (λ (held : Held). held other) same)
