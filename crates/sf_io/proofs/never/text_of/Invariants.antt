use Rattle.std.proofs.Common.{◌≡◌, drop}
use Rattle.sf_io.specs.NeverShelf.{text_under, texts_seen}
use Rattle.sf_io.proofs.never.text_of.Given as goal

abbrev pub invariant-loop-known : goal.invariant-loop-known
invariant-loop-known l = text_under (texts_seen l.texts) l.name ≡ text_under (texts_seen (drop l.known-index l.texts)) l.name
