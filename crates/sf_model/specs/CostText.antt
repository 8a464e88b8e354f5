-- A cost as a word of a text.
use Rattle.std.specs.Prelude.{ℕ, ◌==◌, List, codes, if◌then◌else◌}
use Rattle.std.specs.Fmt.{decimal}
use Rattle.sf_model.specs.declared.TheConstants.{MAX}

-- a cost or a bound in digits, and `none` for MAX
abbrev pub cost_text : ℕ → List ℕ
cost_text z = if z == MAX then codes "none" else decimal z
