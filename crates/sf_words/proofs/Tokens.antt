-- The options that words are made of are determined by the words.
use Rattle.std.proofs.Common.{◌≡◌, ◌≢◌, ℕ, true, false, List, [], ◌∷◌, ◌++◌, Contains, refl, ◌≤◌, length, get_or, drop, take, subst, ◌<◌, zero, suc, ◌-◌, map, arith, sym, ap, ap₂, ◌∙◌}
use Rattle.sf_words.proofs.Common.{append-nil, take_all, Key, Mode, Text, key_text, is_flag, keys_of, Token, attached, spaced, alone, key_of, key_word, before, words_of, IsValue, IsShaped, IsNew, AreOptions}
use Rattle.sf_words.proofs.Texts.{key_text-injective, attached_unique, attached_not_alone}

-- the words of options, in front of others
abbrev pub ahead : List Token → List Text → List Text
ahead [] words = words
ahead (token ∷ tokens) words = before token (ahead tokens words)

-- the words of options in front of none are their words
pub ahead-nil : (ts : List Token) → ahead ts [] ≡ words_of ts
ahead-nil [] = refl
ahead-nil (t ∷ ts) = ap (before t) (ahead-nil ts)

-- the words of one more option stand behind those of the others
pub ahead-push : (ts : List Token) (t : Token) (words : List Text) → ahead (ts ++ t ∷ []) words ≡ ahead ts (before t words)
ahead-push [] t words = refl
ahead-push (u ∷ ts) t words = ap (before u) (ahead-push ts t words)

-- an option that takes a value has another name than one that takes none
flags_differ : (j k : Key) → key_text j ≡ key_text k → is_flag j ≡ false → is_flag k ≡ true → ⊥
flags_differ j k e f g = let bad : false ≡ true = sym f ∙ (ap is_flag (key_text-injective j k e) ∙ g) in cc

-- the option that stands first in the words is determined
pub first_unique : (t u : Token) (r s : List Text) → IsShaped t → IsShaped u → before t r ≡ before u s → (t ≡ u) × (r ≡ s)
first_unique (attached j v) (attached k w) r s g h e = let both = attached_unique j k v w cc in (ap₂ attached both.0 both.1, cc)
first_unique (attached j v) (spaced k w) r s g h e = absurd (attached_not_alone j k v cc)
first_unique (attached j v) (alone k) r s g h e = absurd (attached_not_alone j k v cc)
first_unique (spaced j v) (attached k w) r s g h e = absurd (attached_not_alone k j w cc)
first_unique (spaced j v) (spaced k w) r s g h e = (ap₂ spaced (key_text-injective j k cc) (cc), cc)
first_unique (spaced j v) (alone k) r s g h e = absurd (flags_differ j k (cc) g.0 h)
first_unique (alone j) (attached k w) r s g h e = absurd (attached_not_alone k j w cc)
first_unique (alone j) (spaced k w) r s g h e = absurd (flags_differ k j (cc) h.0 g)
first_unique (alone j) (alone k) r s g h e = (ap alone (key_text-injective j k cc), cc)

-- the words of an option aren't none
pub before-some : (t : Token) (r : List Text) → before t r ≢ []
before-some (attached k v) r e = cc
before-some (spaced k v) r e = cc
before-some (alone k) r e = cc

-- words that begin with some options and are those of others: the others begin with the same
pub record Splits (ts us : List Token) (r : List Text) : Type 0 where
  pub more : List Token
  pub all : us ≡ ts ++ more
  pub rest : r ≡ words_of more

-- where the words of options, with others behind, are those of a list, the list begins with these options
pub split : (m n : Mode) (ts us : List Token) (r : List Text) → AreOptions m ts → AreOptions n us → ahead ts r ≡ words_of us → Splits ts us r
split m n [] us r g h e = record { more = us; all = refl; rest = e }
split m n (t ∷ ts) [] r g h e = absurd (before-some t (ahead ts r) e)
split m n (t ∷ ts) (u ∷ us) r g h e =
    let first = first_unique t u (ahead ts r) (words_of us) g.1 h.1 e in
    let further = split m n ts us r g.3 h.3 first.1 in
    record { more = further.more; all = ap₂ (λ (x : Token) (xs : List Token). x ∷ xs) (sym first.0) further.all; rest = further.rest }

-- where there are no words there are no options
pub words_of-nil : (ts : List Token) → words_of ts ≡ [] → ts ≡ []
words_of-nil [] e = refl
words_of-nil (t ∷ ts) e = absurd (before-some t (words_of ts) e)

-- words have options in at most one way
pub options_unique : (m n : Mode) (ts us : List Token) → AreOptions m ts → AreOptions n us → words_of ts ≡ words_of us → ts ≡ us
options_unique m n ts us g h e =
    let rest = split m n ts us [] g h (ahead-nil ts ∙ e) in
    sym (rest.all ∙ (ap (λ (more : List Token). ts ++ more) (words_of-nil rest.more (sym rest.rest)) ∙ append-nil ts))

-- a key that is none of some options' and not that of one more is none of all of these
pub IsNew-push : (key : Key) (ts : List Token) (t : Token) → IsNew key ts → key ≢ key_of t → IsNew key (ts ++ t ∷ [])
IsNew-push key [] t h ne = (ne, tt)
IsNew-push key (u ∷ ts) t h ne = (h.0, IsNew-push key ts t h.1 ne)

-- one more option that isn't there yet
pub AreOptions-push : (m : Mode) (ts : List Token) (t : Token) → AreOptions m ts → Contains (keys_of m) (key_of t) → IsShaped t → IsNew (key_of t) ts → AreOptions m (ts ++ t ∷ [])
AreOptions-push m [] t g inside shaped fresh = (inside, shaped, tt, tt)
AreOptions-push m (u ∷ ts) t g inside shaped fresh =
    (g.0, g.1, IsNew-push (key_of u) ts t g.2 (λ e. fresh.0 (sym e)), AreOptions-push m ts t g.3 inside shaped fresh.1)

-- among options, each is new after those before it
pub IsNew-middle : (key : Key) (ts : List Token) (t : Token) (more : List Token) → IsNew key (ts ++ t ∷ more) → key ≢ key_of t
IsNew-middle key [] t more h = h.0
IsNew-middle key (u ∷ ts) t more h = IsNew-middle key ts t more h.1

-- an option in the middle is the command's, has its shape, and is new after those before it
pub AreOptions-middle : (m : Mode) (ts : List Token) (t : Token) (more : List Token) → AreOptions m (ts ++ t ∷ more) → Contains (keys_of m) (key_of t) × IsShaped t × IsNew (key_of t) ts
AreOptions-middle m [] t more h = (h.0, h.1, tt)
AreOptions-middle m (u ∷ ts) t more h =
    let further = AreOptions-middle m ts t more h.3 in
    (further.0, further.1, ((λ e. IsNew-middle (key_of u) ts t more h.2 (sym e)), further.2))

-- words that begin with an option in one word have no other there
pub attached_only : (k : Key) (v : Text) (r : List Text) (t : Token) (more : List Text) → before (attached k v) r ≡ before t more → t ≡ attached k v
attached_only k v r (attached j w) more e = let both = attached_unique j k w v cc in ap₂ attached both.0 both.1
attached_only k v r (spaced j w) more e = absurd (attached_not_alone k j v cc)
attached_only k v r (alone j) more e = absurd (attached_not_alone k j v cc)

-- where an option's name stands alone that wants a value, the value is the next word
pub spaced_only : (k : Key) (r : List Text) (t : Token) (more : List Text) → key_word k ∷ r ≡ before t more → IsShaped t → is_flag k ≡ false
    → (v : Text) × (r ≡ v ∷ more) × IsValue v
spaced_only k r (attached j w) more e h f = absurd (attached_not_alone j k w cc)
spaced_only k r (spaced j w) more e h f = (w, cc, h.1)
spaced_only k r (alone j) more e h f = absurd (flags_differ k j (cc) f h)

-- a list that isn't empty is its first element and the others
pub first_of_map : {X : Type 0} (f : X → Text) (xs : List X) (x : X) → 1 ≤ length xs → x ≡ get_or xs 0 x → map f xs ≡ f x ∷ map f (take (length xs - 1) (drop 1 xs))
first_of_map f [] x h e = absurd (omega arith)
first_of_map f (y ∷ ys) x h e =
    let size : length (y ∷ ys) - 1 ≡ length ys = omega arith in
    let others : take (length (y ∷ ys) - 1) ys ≡ ys = take_all (length (y ∷ ys) - 1) ys (omega arith) in
    rw (others, e) refl

-- a list without elements has no first text
pub none_of_map : {X : Type 0} (f : X → Text) (xs : List X) (v : Text) (more : List Text) → length xs < 1 → map f xs ≢ v ∷ more
none_of_map f [] v more h e = cc
none_of_map f (x ∷ xs) v more h e = absurd (omega arith)

-- a key that is none of some options' is not that of the option at any place
pub IsNew-index : {X : Type 0} (key : Key) (f : X → Token) (xs : List X) (i : ℕ) (d : X) → i < length xs → IsNew key (map f xs) → key ≢ key_of (f (get_or xs i d))
IsNew-index key f [] i d lt h = absurd (omega arith)
IsNew-index key f (x ∷ xs) zero d lt h = h.0
IsNew-index key f (x ∷ xs) (suc i) d lt h = IsNew-index key f xs i d (omega arith) h.1

-- equal lists have the same first word
pub heads_same : {x y : Text} {xs ys : List Text} → x ∷ xs ≡ y ∷ ys → x ≡ y
heads_same e = cc

-- words that go on with no option are those of no options
pub no_more : (m : Mode) (ts : List Token) (r : List Text) → AreOptions m ts → r ≢ []
    → ((t : Token) (more : List Text) → Contains (keys_of m) (key_of t) → IsShaped t → r ≢ before t more)
    → (us : List Token) → AreOptions m us → ahead ts r ≢ words_of us
no_more m ts r g some none us h e = by_more s.more s.all s.rest
  where
    s : Splits ts us r
    s = split m m ts us r g h e

    by_more : (more : List Token) → us ≡ ts ++ more → r ≡ words_of more → ⊥
    by_more [] all rest = some rest
    by_more (t ∷ more) all rest =
        let it = AreOptions-middle m ts t more (subst (AreOptions m) all h) in
        none t (words_of more) it.0 it.1 rest

-- words that go on with an option that is there already are those of no options
pub not_twice : (m : Mode) (ts : List Token) (t : Token) (r after : List Text) → AreOptions m ts → IsShaped t → r ≡ before t after
    → (IsNew (key_of t) ts → ⊥) → (us : List Token) → AreOptions m us → ahead ts r ≢ words_of us
not_twice m ts t r after g shaped is old us h e = by_more s.more s.all s.rest
  where
    s : Splits ts us r
    s = split m m ts us r g h e

    by_more : (more : List Token) → us ≡ ts ++ more → r ≡ words_of more → ⊥
    by_more [] all rest = before-some t after (sym is ∙ rest)
    by_more (u ∷ more) all rest =
        let it = AreOptions-middle m ts u more (subst (AreOptions m) all h) in
        let same = first_unique t u after (words_of more) shaped it.1 (sym is ∙ rest) in
        old (let P : Token → Type 0 = λ v. IsNew (key_of v) ts in subst P (sym same.0) it.2)

-- a list with elements has texts
pub some_of_map : {X : Type 0} (f : X → Text) (xs : List X) → 0 < length xs → map f xs ≢ []
some_of_map f [] h e = absurd (omega arith)
some_of_map f (x ∷ xs) h e = cc

-- equal lists have the same words behind the first
pub tails_same : {x y : Text} {xs ys : List Text} → x ∷ xs ≡ y ∷ ys → xs ≡ ys
tails_same e = cc
