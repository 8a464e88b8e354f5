use Rattle.std.proofs.Common.{◌≡◌, map, drop}
use Rattle.sf_gsrc.proofs.Common.{meaning_in}
use Rattle.sf_gsrc.proofs.keywords.meaning_in.Given as goal

abbrev pub invariant-loop-text : goal.invariant-loop-text
invariant-loop-text g l =
    meaning_in (map (λ row. (row.0.now, row.1)) l.rows) l.word ≡ meaning_in (map (λ row. (row.0.now, row.1)) (drop l.text-index l.rows)) l.word
