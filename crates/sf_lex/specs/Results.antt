-- Readings one after another.
use Rattle.std.specs.Prelude.{Result, Ok, Err}

-- one reading after another: the first fault is the fault of both
infixl 10 ◌>>=◌
abbrev pub ◌>>=◌ : {A B E : Type 0} → Result A E → (A → Result B E) → Result B E
(Ok x) >>= f = f x
(Err e) >>= f = Err e

-- what a function returned, seen by a view
abbrev pub seen : {X Y E : Type 0} → (X → Y) → Result X E → Result Y E
seen view (Ok x) = Ok (view x)
seen view (Err e) = Err e

-- what a function returned, its fault told as another
abbrev pub map_err : {X E F : Type 0} → (E → F) → Result X E → Result X F
map_err f (Ok x) = Ok x
map_err f (Err e) = Err (f e)
