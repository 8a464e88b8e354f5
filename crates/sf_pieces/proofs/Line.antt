-- What comes after a way that is one step longer.
use Rattle.std.proofs.Common.{◌≡◌, List, [], ◌∷◌, ◌++◌, map, append_assoc, append-nil, refl, ap, sym, ◌∙◌}
use Rattle.sf_pieces.proofs.Preorder.{walk, behind}

-- some elements, the last of them apart
pub record HasLast {X : Type 0} (xs : List X) : Type 0 where
  pub front : List X
  pub last : X
  pub is : xs ≡ front ++ last ∷ []

-- where there is an element there is a last one
pub has-last : {X : Type 0} (x : X) (xs : List X) → HasLast (x ∷ xs)
has-last x [] = record { front = []; last = x; is = refl }
has-last x (y ∷ ys) =
    let more = has-last y ys in
    record { front = x ∷ more.front; last = more.last; is = ap (λ z. x ∷ z) more.is }

module _ {N S T : Type 0} (after : N → S → N) (later : N → S → List S) (firsts : T → N → List S) where
  -- what is behind a longer way: the later steps at its end, and what was behind before
  pub behind-append : (n : N) (ss : List S) (s : S)
      → behind after later firsts n (ss ++ s ∷ []) ≡ map (after (walk after later firsts n ss)) (later (walk after later firsts n ss) s) ++ behind after later firsts n ss
  behind-append n [] s = sym (append-nil (map (after n) (later n s)))
  behind-append n (x ∷ ss) s =
      ap (λ z. z ++ map (after n) (later n x)) (behind-append (after n x) ss s)
      ∙ append_assoc (map (after (walk after later firsts (after n x) ss)) (later (walk after later firsts (after n x) ss) s)) (behind after later firsts (after n x) ss) (map (after n) (later n x))
