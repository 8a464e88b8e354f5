-- The texts of the options tell them apart.
use Rattle.std.proofs.Common.{◌≡◌, ◌≢◌, ℕ, ◌<◌, Bool, true, false, cond, ◌==◌, List, [], ◌∷◌, ◌++◌, length, get_or, Option, Some, None, refl, sym, ap, ◌∙◌, arith, suc, zero}
use Rattle.sf_words.proofs.Common.{bytes_eq, append-nil, Key, Format, Blocks, Nets, Pl, Yal, PerUnit, Fixed, Shapes, Outline, AreaWeight, WireWeight, NetWeights, Cert, CertOut, PlOut, Rewrite, Workers, Nodes, Long, Starts, Moves, StartSeed, Improve, Begin, Bounds, Placed, Expr, Seed, Count, Kinds, Out, Mode, Plan, Text, key_text, mode_text, modes, list_all, clap_on_literals}
use Rattle.clap.specs.Lexer.{long_of}

-- all options
abbrev pub all_keys : List Key
all_keys = Format ∷ Blocks ∷ Nets ∷ Pl ∷ Yal ∷ PerUnit ∷ Fixed ∷ Shapes ∷ Outline ∷ AreaWeight ∷ WireWeight ∷ NetWeights ∷ Cert ∷ CertOut ∷ PlOut ∷ Rewrite ∷ Workers ∷ Nodes ∷ Long ∷ Starts ∷ Moves ∷ StartSeed ∷ Improve ∷ Begin ∷ Bounds ∷ Placed ∷ Expr ∷ Seed ∷ Count ∷ Kinds ∷ Out ∷ []

-- the first of these options that has this text as its name
abbrev pub first_named : List Key → Text → Option Key
first_named [] text = None
first_named (key ∷ keys) text = cond (bytes_eq (key_text key) text) (Some key) (first_named keys text)

-- the bytes that may stand in an option's name
abbrev pub is_inner : ℕ → Bool
is_inner b = cond (b == 61) false true

-- How an option's name is known: it is the first of that name among all options; its bytes are such as may stand there; and the
-- words of the option, with a value behind the sign `=` and alone, are read as this name, and not as the word `--`.
pub record IsNamed (key : Key) : Type 0 where
  pub first : first_named all_keys (key_text key) ≡ Some key
  pub inner : list_all is_inner (key_text key) ≡ true
  pub long_attached : (v : Text) → long_of (45 ∷ 45 ∷ (key_text key ++ 61 ∷ v)) ≡ Some (key_text key, Some v)
  pub attached_some : (v : Text) → bytes_eq (45 ∷ 45 ∷ (key_text key ++ 61 ∷ v)) (45 ∷ 45 ∷ []) ≡ false
  pub long_alone : long_of (45 ∷ 45 ∷ key_text key) ≡ Some (key_text key, None)
  pub alone_some : bytes_eq (45 ∷ 45 ∷ key_text key) (45 ∷ 45 ∷ []) ≡ false

-- each option's name is known so, by the same clause for each
pub named : (key : Key) → IsNamed key
unfolding key_text clap_on_literals
named Format = record { first = refl; inner = refl; long_attached = λ v. refl; attached_some = λ v. refl; long_alone = refl; alone_some = refl }
named key = record { first = refl; inner = refl; long_attached = λ v. refl; attached_some = λ v. refl; long_alone = refl; alone_some = refl }

-- options of the same name are the same
pub key_text-injective : (j k : Key) → key_text j ≡ key_text k → j ≡ k
key_text-injective j k e =
    let same : Some j ≡ Some k = sym (named j).first ∙ (ap (first_named all_keys) e ∙ (named k).first) in cc

-- the first of these commands that has this text as its word
abbrev pub mode_named : List Mode → Text → Option Mode
mode_named [] text = None
mode_named (mode ∷ modes) text = cond (bytes_eq (mode_text mode) text) (Some mode) (mode_named modes text)

-- among all commands, the first with a command's word is the command itself, by the same clause for each
moded : (mode : Mode) → mode_named modes (mode_text mode) ≡ Some mode
unfolding mode_text modes
moded Plan = refl
moded mode = refl

-- commands of the same word are the same
pub mode_text-injective : (m n : Mode) → mode_text m ≡ mode_text n → m ≡ n
mode_text-injective m n e =
    let same : Some m ≡ Some n = sym (moded m) ∙ (ap (mode_named modes) e ∙ moded n) in cc

-- no byte of an option's name is the sign `=`
pub inner_at : (bs : Text) → list_all is_inner bs ≡ true → (i : ℕ) → i < length bs → get_or bs i 0 ≢ 61
inner_at [] h i lt = absurd (omega arith)
inner_at (b ∷ bs) h zero lt = λ e. absurd (grind arith)
inner_at (b ∷ bs) h (suc i) lt = let ih = inner_at bs in grind arith

-- the text is empty or begins with the sign `=`
abbrev pub Stops : Text → Type 0
Stops [] = Unit {0}
Stops (b ∷ bs) = is_inner b ≡ false

-- two cuts behind a name are one
pub cut_unique : (xs ys r s : Text) → list_all is_inner xs ≡ true → list_all is_inner ys ≡ true → Stops r → Stops s → xs ++ r ≡ ys ++ s → (xs ≡ ys) × (r ≡ s)
cut_unique [] [] r s _ _ _ _ e = (refl, e)
cut_unique [] (y ∷ ys) [] s _ _ _ _ e = absurd (grind arith)
cut_unique [] (y ∷ ys) (b ∷ bs) s _ q t _ e = absurd (grind arith)
cut_unique (x ∷ xs) [] r [] q u t w e = absurd (grind arith)
cut_unique (x ∷ xs) [] r (b ∷ bs) q u t w e = absurd (grind arith)
cut_unique (x ∷ xs) (y ∷ ys) r s q v t w e =
    let ih = cut_unique xs ys r s in grind arith

-- an option's name and what is behind the sign `=` are determined
pub attached_unique : (j k : Key) (v w : Text) → key_text j ++ 61 ∷ v ≡ key_text k ++ 61 ∷ w → (j ≡ k) × (v ≡ w)
attached_unique j k v w e =
    let cut = cut_unique (key_text j) (key_text k) (61 ∷ v) (61 ∷ w) (named j).inner (named k).inner refl refl e in
    let tails : 61 ∷ v ≡ 61 ∷ w = cut.1 in
    (key_text-injective j k cut.0, cc)

-- a name is no name with the sign `=`
pub attached_not_alone : (j k : Key) (v : Text) → key_text j ++ 61 ∷ v ≢ key_text k
attached_not_alone j k v e =
    let whole : key_text j ++ 61 ∷ v ≡ key_text k ++ [] = e ∙ sym (append-nil (key_text k)) in
    let cut = cut_unique (key_text j) (key_text k) (61 ∷ v) [] (named j).inner (named k).inner refl tt whole in
    let tails : 61 ∷ v ≡ [] = cut.1 in cc
