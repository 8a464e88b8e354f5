-- What a word spells, and how that is written, correspond.
use Rattle.std.proofs.Common.{◌≡◌, ℕ, suc, ◌+◌, ◌^◌, ◌<◌, ◌≤◌, Bool, true, false, cond, not, List, [], ◌∷◌, ◌++◌, length, get_or, Option, Some, None, arith, refl, ap, sym, subst, ◌∙◌, inl, inr, lit<, ◌==◌, ◌||◌, ◌&&◌}
use Rattle.sf_expr_text.proofs.Common.{nat_lt, nat_le, decimal, list_all, position_or_len, before_first, after_first, option_map, nat_tests, eqb_tells, length-append, not-true, and_parts, Shape, Token, Piece, is_outside, shape_at, token_text, shape_text, is_byte, is_colon, is_times, when_is, block_in, side_in, shape_of_sides, shape_in, token_in, block_of_parts, piece_in, token_of, is_digit, number_of, is_not_empty, has_none, digits_model, digits_written, plain_written, IsSide}
use Rattle.std.proofs.lemmas.Fmt.{decimal-digits_value, decimal_nonempty}
use Rattle.std.proofs.Math.Numerals.{one-add}
use Rattle.sf_lex.specs.Whole.{is_plain, begins_with_zero, up_to, plain_read}
use Rattle.sf_polish.specs.declared.expr.Token.TheVariants as token
use Rattle.sf_expr_text.specs.declared.word.Piece.TheVariants as piece

-- ---- numbers

-- a word without needless zeros that begins with 0 is this one digit
one_digit : (word : List ℕ) → (length word == 1 || not (begins_with_zero word)) ≡ true → get_or word 0 0 ≡ 48 → length word ≡ 1
one_digit [] h e = absurd (omega (arith, e))
one_digit (b ∷ word) h e = grind (arith, nat_tests)

-- a word that is not empty has a length
filled : (word : List ℕ) → is_not_empty word ≡ true → 0 < length word
filled [] h = absurd cc
filled (b ∷ word) h = omega arith

-- a number up to a limit is the number itself, and within the limit
up_to-known : (limit m n : ℕ) (b : Bool) → nat_le m limit ≡ b → up_to limit m ≡ Some n → (m ≡ n) × (n ≤ limit)
up_to-known limit m n true e h =
    let same : m ≡ n = let k : Some m ≡ Some n = rw e at h in cc in
    (same, grind (arith, nat_tests))
up_to-known limit m n false e h = let k : None ≡ Some n = rw e at h in absurd cc

-- a word that is read as a number is what is written of it, and within the limit
plain-known : (limit n : ℕ) (word : List ℕ) (b : Bool) → limit < 2 ^ 64 → is_plain word ≡ b → plain_read limit word ≡ Some n → (word ≡ decimal n) × (n ≤ limit)
unfolding plain_read
plain-known limit n word false small e h = let k : None ≡ Some n = rw e at h in absurd cc
plain-known limit n word true small e h =
    let digits = and_parts (list_all is_digit word) (is_not_empty word && (length word == 1 || not (begins_with_zero word))) e in
    let rest = and_parts (is_not_empty word) (length word == 1 || not (begins_with_zero word)) digits.1 in
    let k : up_to limit (number_of word) ≡ Some n = rw e at h in
    let value = up_to-known limit (number_of word) n (nat_le (number_of word) limit) refl k in (
      sym (decimal-digits_value digits_model word digits.0 (filled word rest.0) (one_digit word rest.1) (omega (arith, value.0, value.1))) ∙ ap decimal value.0,
      value.1,
    )

-- what passed a test is the value, and the test holds of it
when-known : (test : ℕ → Bool) (o : Option ℕ) (n : ℕ) → when_is test o ≡ Some n → (o ≡ Some n) × (test n ≡ true)
when-known test None n h = absurd cc
when-known test (Some m) n h = by_test (test m) refl h
  where
    by_test : (b : Bool) → test m ≡ b → cond b (Some m) None ≡ Some n → (Some m ≡ Some n) × (test n ≡ true)
    by_test true e k = let same : m ≡ n = cc in (k, ap test (sym same) ∙ e)
    by_test false e k = absurd cc

-- a word that is read as a block is what is written of its number, and the block is there
pub block-known : (blocks b : ℕ) (word : List ℕ) → blocks < 2 ^ 16 → block_in blocks word ≡ Some b → (word ≡ decimal b) × (b < blocks)
block-known blocks b word small h =
    let w = when-known (λ n. nat_lt n blocks) (plain_read blocks word) b h in
    let below : b < blocks = grind (arith, nat_tests, w.1) in
    ((plain-known blocks b word (is_plain word) (omega (arith, small)) refl w.0).0, below)

-- what is written of a block's number is read as that block
pub block-written : (blocks b : ℕ) → blocks < 2 ^ 16 → b < blocks → block_in blocks (decimal b) ≡ Some b
block-written blocks b small h =
    let test : nat_lt b blocks ≡ true = grind (arith, nat_tests) in
    rw (plain_written b blocks (omega (arith, small, h)) (omega (arith, h)), test) refl

-- a word that is read as a side is what is written of it, and the side keeps the limit
pub side-known : (n : ℕ) (word : List ℕ) → side_in word ≡ Some n → (word ≡ decimal n) × IsSide n
side-known n word h =
    let w = when-known (λ n. nat_le 1 n) (plain_read 1_048_576 word) n h in
    let some : 1 ≤ n = grind (arith, nat_tests, w.1) in
    let known = plain-known 1_048_576 n word (is_plain word) (lit< tt) refl w.0 in
    (known.0, (some, omega (arith, known.1)))

-- what is written of a side is read as that side
pub side-written : (n : ℕ) → IsSide n → side_in (decimal n) ≡ Some n
side-written n h =
    let test : nat_le 1 n ≡ true = grind (arith, nat_tests, h.0) in
    rw (plain_written n 1_048_576 (omega (arith, h.1)) (omega (arith, h.1)), test) refl

-- ---- the parts of a word

-- where no byte is such, neither the first nor any other is
none_first : (p : ℕ → Bool) (b : ℕ) (xs : List ℕ) → has_none p (b ∷ xs) ≡ true → (p b ≡ false) × (has_none p xs ≡ true)
none_first p b xs h = by_test (p b) refl h
  where
    by_test : (t : Bool) → p b ≡ t → (not t && has_none p xs) ≡ true → (p b ≡ false) × (has_none p xs ≡ true)
    by_test true e k = absurd cc
    by_test false e k = (e, k)

-- before the first such byte stands what holds none
pub before-cut : (p : ℕ → Bool) (xs ys : List ℕ) (y : ℕ) → has_none p xs ≡ true → p y ≡ true → before_first p (xs ++ y ∷ ys) ≡ xs
before-cut p [] ys y h e = rw e refl
before-cut p (x ∷ xs) ys y h e =
    let f = none_first p x xs h in
    rw (f.0, one-add (position_or_len p (xs ++ y ∷ ys))) (ap (λ z. x ∷ z) (before-cut p xs ys y f.1 e))

-- behind the first such byte stands the rest
pub after-cut : (p : ℕ → Bool) (xs ys : List ℕ) (y : ℕ) → has_none p xs ≡ true → p y ≡ true → after_first p (xs ++ y ∷ ys) ≡ ys
after-cut p [] ys y h e = rw e refl
after-cut p (x ∷ xs) ys y h e =
    let f = none_first p x xs h in
    let n : 1 + position_or_len p (xs ++ y ∷ ys) + 1 ≡ suc (position_or_len p (xs ++ y ∷ ys) + 1) = omega arith in
    rw (f.0, n) (after-cut p xs ys y f.1 e)

-- numbers that a test finds equal are
eq-true : (b c : ℕ) → (b == c) ≡ true → b ≡ c
eq-true b c e = elim (eqb_tells b c) [ inl p ↦ p.1 | inr p ↦ absurd (let k : true ≡ false = sym e ∙ p.0 in cc) ]

-- a word with something behind a byte is what stands before it, the byte and what stands behind it
pub cut-known : (c : ℕ) (w : List ℕ) → 0 < length (after_first (λ b. b == c) w) → w ≡ before_first (λ b. b == c) w ++ (c ∷ after_first (λ b. b == c) w)
cut-known c [] h = absurd (omega arith)
cut-known c (b ∷ w) h = by_test (b == c) refl h (cut-known c w)
  where
    by_test : (t : Bool) → (b == c) ≡ t → 0 < length (after_first (λ b. b == c) (b ∷ w)) → (0 < length (after_first (λ b. b == c) w) → w ≡ before_first (λ b. b == c) w ++ (c ∷ after_first (λ b. b == c) w)) → b ∷ w ≡ before_first (λ b. b == c) (b ∷ w) ++ (c ∷ after_first (λ b. b == c) (b ∷ w))
    by_test true e h more = rw e (ap (λ z. z ∷ w) (eq-true b c e))
    by_test false e h more =
        let n : 1 + position_or_len (λ b. b == c) w + 1 ≡ suc (position_or_len (λ b. b == c) w + 1) = omega arith in
        let k : 0 < length (after_first (λ b. b == c) w) = rw (e, n) at h in
        rw (e, n, one-add (position_or_len (λ b. b == c) w)) (ap (λ z. b ∷ z) (more k))

-- a test that holds of all bytes makes one that it implies hold of all
pub all-weaker : (p q : ℕ → Bool) → ((b : ℕ) → p b ≡ true → q b ≡ true) → (xs : List ℕ) → list_all p xs ≡ true → list_all q xs ≡ true
all-weaker p q f [] h = refl
all-weaker p q f (x ∷ xs) h =
    let both = and_parts (p x) (list_all p xs) h in
    rw (f x both.0, all-weaker p q f xs both.1) refl

-- a digit is no colon
not_colon : (d : ℕ) → is_digit d ≡ true → not (is_colon d) ≡ true
not_colon d e = grind (arith, nat_tests)

-- a digit is no x
not_times : (d : ℕ) → is_digit d ≡ true → not (is_times d) ≡ true
not_times d e = grind (arith, nat_tests)

-- a digit is no *
not_star : (d : ℕ) → is_digit d ≡ true → not (d == 42) ≡ true
not_star d e = grind (arith, nat_tests)

-- a digit is no +
not_plus : (d : ℕ) → is_digit d ≡ true → not (d == 43) ≡ true
not_plus d e = grind (arith, nat_tests)

-- digits are not the one byte that is no digit
not_byte : (c : ℕ) → ((d : ℕ) → is_digit d ≡ true → not (d == c) ≡ true) → (w : List ℕ) → list_all is_digit w ≡ true → is_byte c w ≡ false
not_byte c f [] h = refl
not_byte c f (b ∷ []) h = not-true (b == c) (f b (and_parts (is_digit b) true h).0)
not_byte c f (b ∷ d ∷ w) h = refl

-- a word that is one byte has it alone
byte-known : (c : ℕ) (w : List ℕ) → is_byte c w ≡ true → w ≡ c ∷ []
byte-known c [] h = absurd cc
byte-known c (b ∷ []) h = ap (λ z. z ∷ []) (eq-true b c h)
byte-known c (b ∷ d ∷ w) h = absurd cc

-- a block below their number is not outside
inside : (blocks b : ℕ) → b < blocks → is_outside blocks (token.Block b) ≡ false
inside blocks b h = grind (arith, nat_tests)

-- a block that is not outside is below their number
pub below : (blocks b : ℕ) → is_outside blocks (token.Block b) ≡ false → b < blocks
below blocks b h = grind (arith, nat_tests)

-- ---- tokens

-- what is written of a token is read as that token
pub token-written : (blocks : ℕ) (t : Token) → blocks < 2 ^ 16 → is_outside blocks t ≡ false → token_in blocks (token_text t) ≡ Some t
unfolding token_in
token-written blocks token.Beside small h = refl
token-written blocks token.Above small h = refl
token-written blocks (token.Block b) small h =
    let digits = digits_written b (omega (arith, small, below blocks b h)) in
    rw (not_byte 42 not_star (decimal b) digits, not_byte 43 not_plus (decimal b) digits, block-written blocks b small (below blocks b h)) refl

-- the word is what is written of the token, and its block is there
pub record IsToken (blocks : ℕ) (word : List ℕ) (t : Token) : Type 0 where
  pub text : word ≡ token_text t
  pub within : is_outside blocks t ≡ false

-- a word that is read as a block is that block's token
token_of_block : (blocks : ℕ) (word : List ℕ) (t : Token) (o : Option ℕ) → blocks < 2 ^ 16 → block_in blocks word ≡ o → option_map token.Block o ≡ Some t → IsToken blocks word t
token_of_block blocks word t None small e h = absurd cc
token_of_block blocks word t (Some b) small e h =
    let same : token.Block b ≡ t = cc in
    let known = block-known blocks b word small e in
    subst (IsToken blocks word) same (record { text = known.0; within = inside blocks b known.1 })

-- a word that is read as a token is it, whether it is an operator or not
token-by : (blocks : ℕ) (word : List ℕ) (t : Token) (star plus : Bool) → blocks < 2 ^ 16 → is_byte 42 word ≡ star → is_byte 43 word ≡ plus → cond star (Some token.Beside) (cond plus (Some token.Above) (option_map token.Block (block_in blocks word))) ≡ Some t → IsToken blocks word t
token-by blocks word t true plus small s p h =
    let same : token.Beside ≡ t = cc in
    subst (IsToken blocks word) same (record { text = byte-known 42 word s; within = refl })
token-by blocks word t false true small s p h =
    let same : token.Above ≡ t = cc in
    subst (IsToken blocks word) same (record { text = byte-known 43 word p; within = refl })
token-by blocks word t false false small s p h = token_of_block blocks word t (block_in blocks word) small refl h

-- a word that is read as a token is what is written of it
pub token-known : (blocks : ℕ) (word : List ℕ) (t : Token) → blocks < 2 ^ 16 → token_in blocks word ≡ Some t → IsToken blocks word t
unfolding token_in
token-known blocks word t small h = token-by blocks word t (is_byte 42 word) (is_byte 43 word) small refl refl h

-- ---- pieces

-- what is written of a piece
abbrev pub piece_text : Piece → List ℕ
piece_text piece.Beside = 42 ∷ []
piece_text piece.Above = 43 ∷ []
piece_text (piece.Block b s) = decimal b ++ (58 ∷ shape_text s)

-- the sides of a piece with a shape keep the limit
abbrev pub piece_sides : Piece → Type 0
piece_sides piece.Beside = Unit {0}
piece_sides piece.Above = Unit {0}
piece_sides (piece.Block b s) = IsSide s.w × IsSide s.h

-- the piece of a token among shapes
abbrev pub piece_at : List Shape → Token → Piece
piece_at shapes token.Beside = piece.Beside
piece_at shapes token.Above = piece.Above
piece_at shapes (token.Block b) = piece.Block b (shape_at shapes b)

-- what is written of a shape is read as that shape
shape-written : (s : Shape) → IsSide s.w → IsSide s.h → shape_in (shape_text s) ≡ Some s
unfolding shape_in
shape-written s w h =
    let digits = all-weaker is_digit (λ b. not (is_times b)) not_times (decimal s.w) (digits_written s.w (omega (arith, w.1))) in
    rw (before-cut is_times (decimal s.w) (decimal s.h) 120 digits refl, after-cut is_times (decimal s.w) (decimal s.h) 120 digits refl, side-written s.w w, side-written s.h h) refl

-- a block with its shape is no single byte
long_word : (c : ℕ) (ds rest : List ℕ) → 0 < length ds → is_byte c (ds ++ 58 ∷ rest) ≡ false
long_word c [] rest h = absurd (omega arith)
long_word c (d ∷ []) rest h = refl
long_word c (d ∷ e ∷ ds) rest h = refl

-- what is written of a piece is read as that piece
pub piece-written : (blocks : ℕ) (p : Piece) → blocks < 2 ^ 16 → is_outside blocks (token_of p) ≡ false → piece_sides p → piece_in blocks (piece_text p) ≡ Some p
unfolding piece_in
piece-written blocks piece.Beside small h sides = refl
piece-written blocks piece.Above small h sides = refl
piece-written blocks (piece.Block b s) small h sides =
    let fits : b < 2 ^ 64 = omega (arith, small, below blocks b h) in
    let digits = all-weaker is_digit (λ b. not (is_colon b)) not_colon (decimal b) (digits_written b fits) in
    rw (long_word 42 (decimal b) (shape_text s) (decimal_nonempty b fits), long_word 43 (decimal b) (shape_text s) (decimal_nonempty b fits), before-cut is_colon (decimal b) (shape_text s) 58 digits refl, after-cut is_colon (decimal b) (shape_text s) 58 digits refl, block-written blocks b small (below blocks b h), shape-written s sides.0 sides.1) refl

-- a word that is read as a shape is what is written of it, by the sides before and behind its x
shape-by : (word : List ℕ) (s : Shape) (w h : Option ℕ) → side_in (before_first is_times word) ≡ w → side_in (after_first is_times word) ≡ h → shape_of_sides w h ≡ Some s → (word ≡ shape_text s) × IsSide s.w × IsSide s.h
shape-by word s None h e f k = absurd cc
shape-by word s (Some w) None e f k = absurd cc
shape-by word s (Some w) (Some h) e f k =
    let same : ◌≡◌ {A = Shape} (record { w = w; h = h }) s = cc in
    let across = side-known w (before_first is_times word) e in
    let upward = side-known h (after_first is_times word) f in
    let some : 0 < length (after_first is_times word) = omega (arith, ap length upward.0, decimal_nonempty h (omega (arith, upward.1.1))) in
    subst (λ s. (word ≡ shape_text s) × IsSide s.w × IsSide s.h) same
    (cut-known 120 word some ∙ ap (λ z. z ++ (120 ∷ after_first is_times word)) across.0 ∙ ap (λ z. decimal w ++ (120 ∷ z)) upward.0, across.1, upward.1)

-- a word that is read as a shape is what is written of it, and its sides keep the limit
shape-known : (word : List ℕ) (s : Shape) → shape_in word ≡ Some s → (word ≡ shape_text s) × IsSide s.w × IsSide s.h
unfolding shape_in
shape-known word s h = shape-by word s (side_in (before_first is_times word)) (side_in (after_first is_times word)) refl refl h

-- the word is what is written of the piece, whose block is there and whose sides keep the limit
pub record IsPiece (blocks : ℕ) (word : List ℕ) (p : Piece) : Type 0 where
  pub text : word ≡ piece_text p
  pub within : is_outside blocks (token_of p) ≡ false
  pub sides : piece_sides p

-- a word whose parts are read as a block and a shape is that piece
piece_of_parts : (blocks : ℕ) (word : List ℕ) (p : Piece) (b : Option ℕ) (s : Option Shape) → blocks < 2 ^ 16 → block_in blocks (before_first is_colon word) ≡ b → shape_in (after_first is_colon word) ≡ s → block_of_parts b s ≡ Some p → IsPiece blocks word p
piece_of_parts blocks word p None s small e f h = absurd cc
piece_of_parts blocks word p (Some b) None small e f h = absurd cc
piece_of_parts blocks word p (Some b) (Some s) small e f h =
    let same : piece.Block b s ≡ p = cc in
    let number = block-known blocks b (before_first is_colon word) small e in
    let shape = shape-known (after_first is_colon word) s f in
    let some : 0 < length (after_first is_colon word) = omega (arith, ap length shape.0, length-append (decimal s.w) (120 ∷ decimal s.h)) in
    subst (IsPiece blocks word) same (record {
      text = cut-known 58 word some ∙ ap (λ z. z ++ (58 ∷ after_first is_colon word)) number.0 ∙ ap (λ z. decimal b ++ (58 ∷ z)) shape.0;
      within = inside blocks b number.1;
      sides = (shape.1, shape.2);
    })

-- a word that is read as a piece is it, whether it is an operator or not
piece-by : (blocks : ℕ) (word : List ℕ) (p : Piece) (star plus : Bool) → blocks < 2 ^ 16 → is_byte 42 word ≡ star → is_byte 43 word ≡ plus → cond star (Some piece.Beside) (cond plus (Some piece.Above) (block_of_parts (block_in blocks (before_first is_colon word)) (shape_in (after_first is_colon word)))) ≡ Some p → IsPiece blocks word p
piece-by blocks word p true plus small s e h =
    let same : piece.Beside ≡ p = cc in
    subst (IsPiece blocks word) same (record { text = byte-known 42 word s; within = refl; sides = tt })
piece-by blocks word p false true small s e h =
    let same : piece.Above ≡ p = cc in
    subst (IsPiece blocks word) same (record { text = byte-known 43 word e; within = refl; sides = tt })
piece-by blocks word p false false small s e h = piece_of_parts blocks word p (block_in blocks (before_first is_colon word)) (shape_in (after_first is_colon word)) small refl refl h

-- a word that is read as a piece is what is written of it
pub piece-known : (blocks : ℕ) (word : List ℕ) (p : Piece) → blocks < 2 ^ 16 → piece_in blocks word ≡ Some p → IsPiece blocks word p
unfolding piece_in
piece-known blocks word p small h = piece-by blocks word p (is_byte 42 word) (is_byte 43 word) small refl refl h
