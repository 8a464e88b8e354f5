-- How what a sink took grows, one put after another.
use Rattle.std.proofs.Common.{ℕ, List, ◌++◌, take, drop, Option, Some, None, append_assoc}
use Rattle.sf_io.proofs.Common.{take-append-drop, Appends, Took}

-- two pieces one after another are one piece
pub Appends-append : (a b c : Option (List ℕ)) (xs ys : List ℕ) → Appends a b xs → Appends b c ys → Appends a c (xs ++ ys)
Appends-append None b c xs ys p q = tt
Appends-append (Some old) None c xs ys p q = absurd p
Appends-append (Some old) (Some mid) None xs ys p q = absurd q
Appends-append (Some old) (Some mid) (Some new) xs ys p q = rw (q, p) (append_assoc old xs ys)

-- a first piece of the text is a prefix of it
pub Took-prefix : (a b : Option (List ℕ)) (n : ℕ) (text : List ℕ) → Appends a b (take n text) → Took a b text
Took-prefix None b n text p = tt
Took-prefix (Some old) None n text p = absurd p
Took-prefix (Some old) (Some mid) n text p = (take n text, drop n text, p, take-append-drop n text)
