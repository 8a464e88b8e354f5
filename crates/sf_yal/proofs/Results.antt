-- Two readings one after the other, and what they give.
use Rattle.std.proofs.Common.{◌≡◌, Result, Ok, Err}
use Rattle.sf_yal.proofs.Common.{YalFault, ◌>>=◌}

-- a value that is read
abbrev pub done : {A : Type 0} → A → Result A YalFault
done x = Ok x

-- the same values
pub ok_is : {A : Type 0} (x y : A) → done x ≡ done y → y ≡ x
ok_is x y e = cc

-- a fault that is read
abbrev pub failed : {A : Type 0} → YalFault → Result A YalFault
failed f = Err f

-- the same faults
pub err_is : {A : Type 0} (f g : YalFault) → failed {A = A} f ≡ failed g → g ≡ f
err_is f g e = cc

-- a value is no fault
pub ok_not_err : {A : Type 0} (x : A) (f : YalFault) → Ok x ≡ Err f → ⊥
ok_not_err x f e = absurd cc

-- P holds of a value that is read, and Q of a fault
abbrev pub Tells : {A : Type 0} → (A → Type 0) → (YalFault → Type 0) → Result A YalFault → Type 0
Tells P Q (Ok x) = P x
Tells P Q (Err f) = Q f

-- two readings, one after the other
pub then_tells : {A B : Type 0} (P : A → Type 0) (Q : YalFault → Type 0) (R : B → Type 0) (S : YalFault → Type 0) (read : Result A YalFault) (f : A → Result B YalFault) → Tells P Q read
    → ((g : YalFault) → Q g → S g) → ((x : A) → P x → Tells R S (f x)) → Tells R S (read >>= f)
then_tells P Q R S (Ok x) f told fault next = next x told
then_tells P Q R S (Err g) f told fault next = fault g told

-- one reading, and what follows from what it gave
pub tells_as : {A : Type 0} (P : A → Type 0) (Q : YalFault → Type 0) (R : A → Type 0) (S : YalFault → Type 0) (read : Result A YalFault) → Tells P Q read
    → ((x : A) → P x → R x) → ((f : YalFault) → Q f → S f) → Tells R S read
tells_as P Q R S (Ok x) told value fault = value x told
tells_as P Q R S (Err f) told value fault = fault f told
