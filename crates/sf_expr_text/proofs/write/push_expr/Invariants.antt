use Rattle.std.proofs.Common.{◌≡◌, ◌++◌, take, string_bytes}
use Rattle.sf_expr_text.proofs.Written.{text_of}
use Rattle.sf_expr_text.proofs.write.push_expr.Given as goal

abbrev pub invariant-loop-place : goal.invariant-loop-place
invariant-loop-place l = string_bytes l.text ≡ string_bytes l.initial.text ++ text_of l.shapes (take l.place l.token-items)
