-- The options that clap knows.
use Rattle.std.proofs.Common.{◌≡◌, inl, inr, Bool, not, ◌&&◌, List, [], ◌∷◌, Some, Contains, map, find, is_some, refl, ap, ◌∙◌, arith, zero, suc}
use Rattle.sf_words.proofs.Common.{bytes_eq, Rule, filled, arg_by_id, arg_by_long, has_long, cases_Bool, cond_both, Key, key_text, is_flag, value_rule, flag_rule, full, or-false}
use Rattle.clap.specs.Words.{Text}
use Rattle.sf_words.proofs.Lookup.{same_text, named_same}

-- a test that tells flags and other options by their names tells all options by their names
tells : (p : Rule → Bool) (k : Key) → ((name : Text) → p (filled (flag_rule name)) ≡ bytes_eq name (key_text k)) → ((name : Text) → p (filled (value_rule name)) ≡ bytes_eq name (key_text k))
    → (j : Key) → p (full j) ≡ bytes_eq (key_text j) (key_text k)
tells p k f v j = cond_both (is_flag j) (filled (flag_rule (key_text j))) (filled (value_rule (key_text j))) (λ r. p r ≡ bytes_eq (key_text j) (key_text k)) (λ _. f (key_text j)) (λ _. v (key_text j))

-- a search that tells the options by their names finds an option that is in the list
find_full : (p : Rule → Bool) (k : Key) (keys : List Key) → ((j : Key) → p (full j) ≡ bytes_eq (key_text j) (key_text k)) → Contains keys k → find p (map full keys) ≡ Some (full k)
find_full p k [] h inside = absurd (omega (arith, inside.1))
find_full p k (j ∷ keys) h (zero, lt, e) = rw (h j ∙ same_text j k e, e) refl
find_full p k (j ∷ keys) h (suc i, lt, e) = elim (cases_Bool (bytes_eq (key_text j) (key_text k))) [
  | inl t ↦ rw (h j ∙ t) (ap (λ (x : Key). Some (full x)) (named_same j k t))
  | inr t ↦ rw (h j ∙ t) (find_full p k keys h (i, omega arith, e))
]

-- among the rules of a command's options each one's is found by its name as an id
pub find_id : (keys : List Key) (k : Key) → Contains keys k → arg_by_id (map full keys) (key_text k) ≡ Some (full k)
find_id keys k inside = let p : Rule → Bool = λ a. bytes_eq a.id (key_text k) in find_full p k keys (tells p k (λ name. refl) (λ name. refl)) inside

-- among the rules of a command's options each one's is found by its name as a word
pub find_long : (keys : List Key) (k : Key) → Contains keys k → arg_by_long (map full keys) (key_text k) ≡ Some (full k)
find_long keys k inside = let p : Rule → Bool = λ a. not (is_some a.index) && has_long a (key_text k) in find_full p k keys (tells p k (λ name. or-false _) (λ name. or-false _)) inside
