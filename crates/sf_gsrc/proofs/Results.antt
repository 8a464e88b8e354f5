-- What a result says of the steps that gave it, and what options and counts say.
use Rattle.std.proofs.Common.{◌≡◌, ℕ, Bool, true, false, List, [], ◌∷◌, Option, Some, None, Result, Ok, Err, refl, if◌then◌else◌, ◌==◌}
use Rattle.sf_gsrc.proofs.Common.{IfOk, is_some, eqb-true, Line, ◌>>=◌, GsrcFault, Count, Fails, Gives, compared, is_title, opened, or_else}
use Rattle.sf_gsrc.specs.declared.fault.GsrcFault.TheVariants as faults

-- one step after another gives what the second gives of the first
pub bind_ok : {A B E : Type 0} (r : Result A E) (f : A → Result B E) (y : B) → (r >>= f) ≡ Ok y → (x : A) × (r ≡ Ok x) × (f x ≡ Ok y)
bind_ok (Ok x) f y e = (x, refl, e)
bind_ok (Err d) f y e = absurd cc

-- an answer that is no fault
abbrev pub done : {A E : Type 0} → A → Result A E
done x = Ok x

-- one answer has one value
pub ok_is : {A E : Type 0} (x y : A) → done {E = E} x ≡ done y → x ≡ y
ok_is x y e = cc

-- a fault is no answer
pub err_not_ok : {A E : Type 0} (f : E) (x : A) → Err f ≡ Ok x → ⊥
err_not_ok f x e = absurd cc

-- where a test lets reading go on, it holds, and the rest is what was read
pub if_ok : {X E : Type 0} (b : Bool) (f : E) (r : Result X E) (x : X) → (if b then r else Err f) ≡ Ok x → (b ≡ true) × (r ≡ Ok x)
if_ok true f r x h = (refl, h)
if_ok false f r x h = absurd cc

-- where a test refuses, and reading goes on, it fails, and the rest is what was read
pub unless_ok : {X E : Type 0} (b : Bool) (f : E) (r : Result X E) (x : X) → (if b then Err f else r) ≡ Ok x → (b ≡ false) × (r ≡ Ok x)
unless_ok true f r x h = absurd cc
unless_ok false f r x h = (refl, h)

-- what is read behind a title has a title of the kind, and the lines behind it are read
pub opened_ok : {Y : Type 0} (kind : List ℕ) (ls : List Line) (f : ℕ × List Line → Result Y GsrcFault) (y : Y) (P : Type 0) → (opened kind ls >>= f) ≡ Ok y
    → ((title : Line) (others : List Line) → ls ≡ title ∷ others → is_title kind title.bytes ≡ true → f (title.number, others) ≡ Ok y → P) → P
opened_ok kind [] f y P h next = absurd cc
opened_ok kind (title ∷ others) f y P h next = by_title (is_title kind title.bytes) refl h
  where
    by_title : (b : Bool) → is_title kind title.bytes ≡ b → ((if b then Ok (title.number, others) else Err (faults.BadTitle title.number)) >>= f) ≡ Ok y → P
    by_title true e h = next title others refl e h
    by_title false e h = absurd cc

-- what holds of all that a text is read as holds of what was given
pub holds_if_read : {X : Type 0} (P : X → Type 0) (result read : Result X GsrcFault) → ((x : X) → read ≡ Ok x → P x) → Gives result read → IfOk result P
holds_if_read P (Ok x) read h given = h x given
holds_if_read P (Err e) read h given = tt

-- a test that fails says that there is none
pub none_of : {X : Type 0} (o : Option X) → is_some o ≡ false → o ≡ None
none_of None e = refl
none_of (Some x) e = absurd cc

-- nothing behind it changes what is there
pub or_else-None : {X : Type 0} (o : Option X) → or_else o None ≡ o
or_else-None None = refl
or_else-None (Some x) = refl

-- where a count is compared and reading goes on, it is the number that was found
pub compared_ok : {X : Type 0} (count : Count) (found : ℕ) (next : Result X GsrcFault) (x : X) → compared count found next ≡ Ok x → (count.said ≡ found) × (next ≡ Ok x)
compared_ok count found next x h = let k = if_ok (count.said == found) _ next x h in (eqb-true count.said found k.0, k.1)

-- a step's fault is that of the steps after one another
pub Fails-then : {X Y : Type 0} (f : X → Result Y GsrcFault) (fault : GsrcFault) (read : Result X GsrcFault) → Fails fault read → Fails fault (read >>= f)
Fails-then f faults.NoMemory read h = tt
Fails-then f (faults.BadTitle n) read h = rw h refl
Fails-then f (faults.BadLine n) read h = rw h refl
Fails-then f (faults.BadNumber n e) read h = rw h refl
Fails-then f (faults.CountDiffers n a b) read h = rw h refl
Fails-then f (faults.BadDegree n a b) read h = rw h refl
Fails-then f (faults.ZeroSide n) read h = rw h refl
Fails-then f (faults.Truncated n) read h = rw h refl
