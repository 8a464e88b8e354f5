use Rattle.std.proofs.Common.{ap, inl}
use Rattle.sf_io.proofs.Common.{Held}
use Rattle.sf_io.proofs.memory.MemShelfShelf.store.Goals as goal

pub returns-in-Err-clause-part : goal.returns-in-Err-clause-part
returns-in-Err-clause-part c =
    let same = c.in-Err.ensures.err in
    (inl (ap (λ (held : Held). held c.args.name.now) same), λ other differs. ap (λ (held : Held). held other) same)
