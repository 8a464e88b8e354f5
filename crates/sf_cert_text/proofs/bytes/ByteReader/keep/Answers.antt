use Rattle.std.proofs.Common.{◌≡◌, ◌∷◌, subst, arith}
use Rattle.sf_cert_text.proofs.Common.{Bytewise, bytes_on}
use Rattle.sf_cert_text.proofs.ByteReads.{run-of, long-kept}
use Rattle.sf_cert_text.proofs.bytes.ByteReader.keep.Goals as goal

pub returns-else-len-lt-TOO_LONG : goal.returns-else-len-lt-TOO_LONG
returns-else-len-lt-TOO_LONG c n rest =
    let inside = c.self.inside in
    subst (λ (at : Bytewise). bytes_on n at (c.args.byte ∷ rest) ≡ bytes_on n at rest) c.self.view_is
    (long-kept n inside.line inside.last inside.tree inside.word.items rest c.args.byte (run-of inside.word.items c.self.invariant.0) c.requires (omega (arith, c.if-len-lt-TOO_LONG.false, c.len.ensures)))
