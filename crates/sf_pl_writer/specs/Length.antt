-- How a length in scaled whole units is written in the unit of the file.
use Rattle.std.specs.Prelude.{◌≡◌, ℕ, ◌*◌, ◌/◌, ◌%◌, ◌==◌, zero, suc, List, [], ◌++◌, if◌then◌else◌, ◌⊎◌, ℤ, pos, negsuc, codes}
use Rattle.std.specs.Fmt.{decimal}

-- how many scaled units a unit of the file can have
abbrev pub IsScale : ℕ → Type 0
IsScale scale = (scale ≡ 1) ⊎ ((scale ≡ 10) ⊎ ((scale ≡ 100) ⊎ (scale ≡ 1000)))

-- the digits of rest / scale behind the point, by long division: so many at most, and none once nothing is left
abbrev pub decimals : ℕ → ℕ → ℕ → List ℕ
decimals zero scale rest = []
decimals (suc places) scale rest = if rest == 0 then [] else (decimal (10 * rest / scale) ++ decimals places scale (10 * rest % scale))

-- the whole part, and where a rest is left a point and its digits
abbrev pub length_text : ℕ → ℕ → List ℕ
length_text scale n = decimal (n / scale) ++ (if n % scale == 0 then [] else (codes "." ++ decimals 3 scale (n % scale)))

-- the same with a sign
abbrev pub signed_text : ℕ → ℤ → List ℕ
signed_text scale (pos n) = length_text scale n
signed_text scale (negsuc n) = codes "-" ++ length_text scale (suc n)
