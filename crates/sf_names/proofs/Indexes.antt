-- Places of names in a list, and one name more.
use Rattle.std.proofs.Common.{◌≡◌, ℕ, suc, ◌+◌, ◌<◌, Bool, true, false, cond, nat_lt, List, [], ◌∷◌, ◌++◌, length, Option, Some, None, is_some, if◌then◌else◌, refl, sym, ap, ◌∙◌, arith, IfSome, not, option_map, position}
use Rattle.std.specs.List.{list_any, position_or_len}
use Rattle.sf_names.proofs.Common.{bytes_eq, index_of, bytes_of, noted}
use Rattle.std.proofs.lemmas.List.{map-append}
use Rattle.std.proofs.lemmas.Bool.Decides.{Decides-ltb}
use denote.Ref.{Bor}
use Rattle.std.proofs.lemmas.Slice.Eq.{bytes_eq-Decides}

-- two ways round of one comparison that came out so are the same
by_decides : (xs ys : List ℕ) (a b : Bool) → bytes_eq xs ys ≡ a → bytes_eq ys xs ≡ b → a ≡ b
by_decides xs ys true true e f = refl
by_decides xs ys false false e f = refl
by_decides xs ys true false e f = sym ((bytes_eq-Decides ys xs).1 (sym ((bytes_eq-Decides xs ys).0 e))) ∙ f
by_decides xs ys false true e f = sym e ∙ (bytes_eq-Decides xs ys).1 (sym ((bytes_eq-Decides ys xs).0 f))

-- whether texts are the same doesn't depend on which comes first
bytes_eq_sym : (xs ys : List ℕ) → bytes_eq xs ys ≡ bytes_eq ys xs
bytes_eq_sym xs ys = by_decides xs ys (bytes_eq xs ys) (bytes_eq ys xs) refl refl

-- a place that is none one further on was none
pub none_under : (o : Option ℕ) → option_map suc o ≡ None → o ≡ None
none_under None e = refl
none_under (Some x) e = absurd cc

-- a place one further on is below a bound one further on
bound_under : (o : Option ℕ) (n : ℕ) → IfSome o (λ k. k < n) → IfSome (option_map suc o) (λ k. k < suc n)
bound_under None n h = tt
bound_under (Some k) n h = omega arith

-- a place stays within the list with one more name in front, by whether that is the name
bound_step : (name other : List ℕ) (more : List (List ℕ)) (b : Bool) → bytes_eq other name ≡ b → IfSome (index_of name more) (λ k. k < length more) → IfSome (index_of name (other ∷ more)) (λ k. k < suc (length more))
bound_step name other more true e h = rw e (omega arith)
bound_step name other more false e h = rw e (bound_under (index_of name more) (length more) h)

-- a place is within the list
pub index_bound : (name : List ℕ) (names : List (List ℕ)) → IfSome (index_of name names) (λ k. k < length names)
index_bound name [] = tt
index_bound name (other ∷ more) = bound_step name other more (bytes_eq other name) refl (index_bound name more)

-- a place that is there is not none
pub some_not_none : {n : ℕ} → Some n ≡ None → ⊥
some_not_none e = absurd cc

-- a name behind the list changes no place, by whether the first is the one looked for
other_step : (q name other : List ℕ) (more : List (List ℕ)) (b : Bool) → bytes_eq other q ≡ b → index_of q (more ++ name ∷ []) ≡ index_of q more
    → index_of q (other ∷ (more ++ name ∷ [])) ≡ index_of q (other ∷ more)
other_step q name other more true e h = rw e refl
other_step q name other more false e h = rw (e, h) refl

-- a name behind the list changes the place of no other name
pub push_other : (q name : List ℕ) (names : List (List ℕ)) → bytes_eq name q ≡ false → index_of q (names ++ name ∷ []) ≡ index_of q names
push_other q name [] e = rw e refl
push_other q name (other ∷ more) e = other_step q name other more (bytes_eq other q) refl (push_other q name more e)

-- ---- what a set of names finds

-- a borrowed name is this one
abbrev is_name : List ℕ → Bor (List ℕ) → Bool
is_name name k = bytes_eq name k.now

-- where the name stands among borrowed names, or how many those are
abbrev place_in : List ℕ → List (Bor (List ℕ)) → ℕ
place_in name keys = position_or_len (is_name name) keys

-- a place or none, one further on
suc_under : (b : Bool) (n : ℕ) → option_map suc (cond b (Some n) None) ≡ cond b (Some (1 + n)) None
suc_under true n = ap Some (omega arith)
suc_under false n = refl

-- the place of a name in a longer list, by whether the first is that name
any_step : (name : List ℕ) (k : Bor (List ℕ)) (keys : List (Bor (List ℕ))) (b : Bool) → bytes_eq k.now name ≡ b → is_name name k ≡ b
    → index_of name (bytes_of keys) ≡ cond (list_any (is_name name) keys) (Some (place_in name keys)) None
    → index_of name (bytes_of (k ∷ keys)) ≡ cond (list_any (is_name name) (k ∷ keys)) (Some (place_in name (k ∷ keys))) None
any_step name k keys true e f h = rw (e, f) refl
any_step name k keys false e f h = rw (e, f, h) (suc_under (list_any (is_name name) keys) (place_in name keys))

-- a name that is there has its place, and another one has none
pub any_index : (name : List ℕ) (keys : List (Bor (List ℕ))) → index_of name (bytes_of keys) ≡ cond (list_any (is_name name) keys) (Some (place_in name keys)) None
any_index name [] = refl
any_index name (k ∷ keys) = any_step name k keys (bytes_eq k.now name) refl (bytes_eq_sym name k.now) (any_index name keys)

-- two outcomes of one comparison, with one more on both sides or without, are the same
lt_by : (m n : ℕ) (a b : Bool) → nat_lt m n ≡ a → nat_lt (1 + m) (suc n) ≡ b → b ≡ a
lt_by m n true true e f = refl
lt_by m n false false e f = refl
lt_by m n true false e f = let lt : m < n = (Decides-ltb m n).0 e in sym f ∙ (Decides-ltb (1 + m) (suc n)).1 (omega arith)
lt_by m n false true e f = let lt : 1 + m < suc n = (Decides-ltb (1 + m) (suc n)).0 f in sym ((Decides-ltb m n).1 (omega arith)) ∙ e

-- one more on both sides changes no comparison
lt_suc : (m n : ℕ) → nat_lt (1 + m) (suc n) ≡ nat_lt m n
lt_suc m n = lt_by m n (nat_lt m n) (nat_lt (1 + m) (suc n)) refl refl

-- the place of a name is within a longer list just where the name is there, by whether the first is that name
below_step : (name : List ℕ) (k : Bor (List ℕ)) (keys : List (Bor (List ℕ))) (b : Bool) → is_name name k ≡ b → nat_lt (place_in name keys) (length keys) ≡ list_any (is_name name) keys
    → nat_lt (place_in name (k ∷ keys)) (length (k ∷ keys)) ≡ list_any (is_name name) (k ∷ keys)
below_step name k keys true f h = rw f ((Decides-ltb 0 (suc (length keys))).1 (omega arith))
below_step name k keys false f h = rw f (lt_suc (place_in name keys) (length keys) ∙ h)

-- the place of a name is within the list just where the name is there
below : (name : List ℕ) (keys : List (Bor (List ℕ))) → nat_lt (place_in name keys) (length keys) ≡ list_any (is_name name) keys
below name [] = refl
below name (k ∷ keys) = below_step name k keys (is_name name k) refl (below name keys)

-- the place of a key is that of its name
pub position_index : (name : List ℕ) (keys : List (Bor (List ℕ))) → position (is_name name) keys ≡ index_of name (bytes_of keys)
position_index name keys = ap (λ b. cond b (Some (place_in name keys)) None) (below name keys) ∙ sym (any_index name keys)

module _ (name : Bor (List ℕ)) (keys : List (Bor (List ℕ))) (added : Bool) (place : ℕ) (says : added ≡ not (list_any (is_name name.now) keys)) where
  -- a name that was added had no place before
  pub new_index : added ≡ true → index_of name.now (bytes_of keys) ≡ None
  new_index e = any_index name.now keys ∙ by (list_any (is_name name.now) keys) (sym e ∙ says)
    where
      by : (b : Bool) → true ≡ not b → cond b (Some (place_in name.now keys)) None ≡ None
      by true f = absurd cc
      by false f = refl

  -- a name that was not added stands at the place that is told
  pub old_index : added ≡ false → place ≡ place_in name.now keys → index_of name.now (bytes_of keys) ≡ Some place
  old_index e at = any_index name.now keys ∙ by (list_any (is_name name.now) keys) (sym e ∙ says) ∙ ap Some (sym at)
    where
      by : (b : Bool) → false ≡ not b → cond b (Some (place_in name.now keys)) None ≡ Some (place_in name.now keys)
      by true f = refl
      by false f = absurd cc

-- a place that is told under a condition is there just where that holds
some_under : (b : Bool) (n : ℕ) → is_some (cond b (Some n) None) ≡ b
some_under true n = refl
some_under false n = refl

-- the bytes of the keys, with one more or without
noted_by : (name : Bor (List ℕ)) (keys : List (Bor (List ℕ))) (b : Bool) → bytes_of (if b then keys else keys ++ name ∷ []) ≡ (if b then bytes_of keys else bytes_of keys ++ name.now ∷ [])
noted_by name keys true = refl
noted_by name keys false = map-append (λ n. n.now) keys (name ∷ [])

-- the keys with one more, as lists of names
pub keys_noted : (name : Bor (List ℕ)) (keys after : List (Bor (List ℕ))) → after ≡ (if list_any (is_name name.now) keys then keys else keys ++ name ∷ []) → bytes_of after ≡ noted name.now (bytes_of keys)
keys_noted name keys after is =
    let has : is_some (index_of name.now (bytes_of keys)) ≡ list_any (is_name name.now) keys = ap is_some (any_index name.now keys) ∙ some_under _ (place_in name.now keys) in
    ap bytes_of is ∙ noted_by name keys (list_any (is_name name.now) keys) ∙ ap (λ b. if b then bytes_of keys else bytes_of keys ++ name.now ∷ []) (sym has)
