use Rattle.std.proofs.Common.{◌≡◌, ◌++◌, ◌∷◌, ℕ, List, length, true, sym, subst, Err, arith}
use Rattle.sf_cert_text.proofs.Common.{nil_from_length, err_from_is_err_and, nat_tests, is_blank_byte, Bytewise, bytes_on, past_blank, with_some}
use Rattle.sf_cert_text.proofs.ByteReads.{kept-tag, kept-fault, run-tag, run-fault}
use Rattle.sf_cert_text.proofs.bytes.ByteReader.end_run.Goals as goal

pub returns-then-not-is_empty-clause-tag : goal.returns-then-not-is_empty-clause-tag
returns-then-not-is_empty-clause-tag c =
    let e = c.end_word.ensures in
    kept-tag c.args.self.now c.keep_run.new.self c.end_word.new.self c.args.run.now c.args.blocks e.solid c.in_ok-keep_run.ensures c.end_word.result e.tag e.kept

pub returns-then-not-is_empty-clause-fault : goal.returns-then-not-is_empty-clause-fault
returns-then-not-is_empty-clause-fault c =
    let e = c.end_word.ensures in
    kept-fault c.args.self.now c.keep_run.new.self c.end_word.new.self c.args.run.now c.args.blocks e.solid c.in_ok-keep_run.ensures c.end_word.result e.fault

pub returns-in_err-tag-clause-fault : goal.returns-in_err-tag-clause-fault
returns-in_err-tag-clause-fault c =
    let p = err_from_is_err_and c.from_residual-in_err-tag.result c.from_residual-in_err-tag.ensures.1 in
    let at = c.self.inside in
    let e = c.in_err-tag.field-0.0 in
    let w = c.args.run.now in
    let zero : length at.word.items ≡ 0 = grind (arith, nat_tests, c.if-not-is_empty.false, c.is_empty.ensures) in
    let long : (length w ≡ 0) → ⊥ = λ z. (grind (arith, nat_tests, z, c.if-is_empty.false, c.is_empty-2.ensures)) in
    rw (p.1, p.2) (λ ne. subst (λ (old : Bytewise). (b : ℕ) (rest : List ℕ) → is_blank_byte b ≡ true → bytes_on c.args.blocks old (w ++ b ∷ rest) ≡ Err e) c.self.view_is
    (subst (λ (kept : List ℕ). (b : ℕ) (rest : List ℕ) → is_blank_byte b ≡ true → bytes_on c.args.blocks (record { tree = at.tree; word = kept; line = at.line; last = at.last }) (w ++ b ∷ rest) ≡ Err e) (sym (nil_from_length at.word.items zero))
    (run-fault c.args.blocks at.line at.last at.tree w c.requires.run e long (c.in_err-tag.ensures.fault ne))))

pub returns-clause-tag : goal.returns-clause-tag
returns-clause-tag c =
    let at = c.self.inside in
    let w = c.args.run.now in
    let tag = c.in_ok-tag.tag in
    let zero : length at.word.items ≡ 0 = grind (arith, nat_tests, c.if-not-is_empty.false, c.is_empty.ensures) in
    let long : (length w ≡ 0) → ⊥ = λ z. (grind (arith, nat_tests, z, c.if-is_empty.false, c.is_empty-2.ensures)) in
    subst (λ (old : Bytewise). (b : ℕ) (rest : List ℕ) → is_blank_byte b ≡ true → bytes_on c.args.blocks old (w ++ b ∷ rest) ≡ with_some tag (bytes_on c.args.blocks (past_blank b (record { tree = c.take.new.self; word = at.word.items; line = at.line; last = at.line })) rest)) c.self.view_is
    (subst (λ (kept : List ℕ). (b : ℕ) (rest : List ℕ) → is_blank_byte b ≡ true → bytes_on c.args.blocks (record { tree = at.tree; word = kept; line = at.line; last = at.last }) (w ++ b ∷ rest) ≡ with_some tag (bytes_on c.args.blocks (past_blank b (record { tree = c.take.new.self; word = kept; line = at.line; last = at.line })) rest)) (sym (nil_from_length at.word.items zero))
    (run-tag c.args.blocks at.line at.last at.tree w c.requires.run c.take.new.self tag long c.in_ok-tag.ensures.tag))
