-- Parts of numbers.
use Rattle.std.proofs.Common.{◌≡◌, ℕ, ◌+◌, ◌*◌, ◌/◌, ◌%◌, ◌<◌, arith, ap, sym, ◌∙◌}
use Rattle.std.proofs.Math.Nat.{mul-add-div}

-- a part of a number, computed from the quotient and the rest
pub part-is : (c m left : ℕ) → 0 < m → c / m * left + c % m * left / m ≡ c * left / m
part-is c m left h =
    let parts : m * (c / m) + c % m ≡ c = omega arith in
    sym (mul-add-div h (c / m * left) (c % m * left)) ∙ ap (λ z. z / m) (spread m (c / m) (c % m) left ∙ ap (λ z. z * left) parts)
  where
    spread : (m q r l : ℕ) → m * (q * l) + r * l ≡ (m * q + r) * l
    spread m q r l = omega arith
