-- The text of an option among others.
use Rattle.std.proofs.Common.{◌≡◌, ◌≢◌, true, false, Option, Some, None, IfNone, ap}
use Rattle.sf_words.proofs.Common.{bytes_eq, false_from_ne_true, Key, Text, key_text}
use Rattle.std.proofs.lemmas.Slice.Eq.{bytes_eq-Decides}
use Rattle.sf_words.proofs.Texts.{key_text-injective}

-- different texts compare as different
pub bytes_eq-other : {xs ys : Text} → xs ≢ ys → bytes_eq xs ys ≡ false
bytes_eq-other {xs = xs} {ys = ys} ne = false_from_ne_true (bytes_eq xs ys) (λ h. ne ((bytes_eq-Decides xs ys).0 h))

-- an option's name compares as equal to itself
pub same_text : (j k : Key) → j ≡ k → bytes_eq (key_text j) (key_text k) ≡ true
same_text j k e = (bytes_eq-Decides (key_text j) (key_text k)).1 (ap key_text e)

-- options whose names compare as equal are the same
pub named_same : (j k : Key) → bytes_eq (key_text j) (key_text k) ≡ true → j ≡ k
named_same j k h = key_text-injective j k ((bytes_eq-Decides (key_text j) (key_text k)).0 h)

-- the names of different options compare as different
pub other_text : (j k : Key) → j ≢ k → bytes_eq (key_text j) (key_text k) ≡ false
other_text j k ne = bytes_eq-other (λ e. ne (key_text-injective j k e))

-- what holds where no value is there may be weakened
pub none_weaker : {X : Type 0} {P Q : Type 0} (r : Option X) → (P → Q) → IfNone r P → IfNone r Q
none_weaker None f h = f h
none_weaker (Some x) f h = h
