-- The line of a pad, by whether it stands in a net.
use Rattle.std.proofs.Common.{◌≡◌, ℕ, ◌<◌, List, [], ◌++◌, true, false, length, get_or, ap, sym, ◌∙◌}
use Rattle.std.proofs.lemmas.Bool.{cond-true, cond-false}
use Rattle.sf_pl_writer.proofs.Common.{append-nil, get_or_default, pad_line, pad_lines_of, stands_in}
use Rattle.sf_model.specs.declared.design.Design.{Design}
use Rattle.sf_model.specs.declared.parts.Pad.{Pad}
use Rattle.sf_model.specs.Wire.{pad_at}

-- a pad that stands in a net has its line
pub written : (scale : ℕ) (design : Design) (p : ℕ) (pad : Pad) (before new : List ℕ) → p < length design.pads → pad ≡ get_or design.pads p pad → stands_in design.nets p ≡ true → new ≡ before ++ pad_line scale pad → new ≡ before ++ pad_lines_of scale design p
written scale design p pad before new h at stands is =
    let found : pad ≡ pad_at design p = at ∙ get_or_default design.pads p pad _ h in
    is ∙ ap (λ v. before ++ v) (ap (pad_line scale) found ∙ sym (cond-true (stands_in design.nets p) (pad_line scale (pad_at design p)) [] stands))

-- a pad that stands in none has no line
pub left_out : (scale : ℕ) (design : Design) (p : ℕ) (before new : List ℕ) → stands_in design.nets p ≡ false → new ≡ before → new ≡ before ++ pad_lines_of scale design p
left_out scale design p before new stands is =
    is ∙ sym (append-nil before) ∙ ap (λ v. before ++ v) (sym (cond-false (stands_in design.nets p) (pad_line scale (pad_at design p)) [] stands))
