use Rattle.std.proofs.Common.{map, string_bytes}
use Rattle.floorplan.proofs.Endings.{may-end}
use Rattle.floorplan.proofs.obey.Goals as goal

pub returns-in-None : goal.returns-in-None
returns-in-None g c =
    may-end (map string_bytes c.args.words.now) c.run.result c.run.ensures.answer c.run.ensures.lost
    (λ e. let halted = c.run.ensures.halted e in (halted.status, (halted.stored, halted.printed, halted.answer)))

pub returns-in-Some : goal.returns-in-Some
returns-in-Some g c =
    may-end (map string_bytes c.args.words.now) c.run-status.result c.run-status.ensures.answer c.run-status.ensures.lost
    (λ e. let halted = c.run-status.ensures.halted e in (halted.status, (halted.stored, halted.printed, halted.answer)))
