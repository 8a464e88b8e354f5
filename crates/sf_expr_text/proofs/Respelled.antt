-- The words of an expression's text are those that were written.
use Rattle.std.proofs.Common.{◌≡◌, ℕ, ◌^◌, ◌<◌, true, false, not, List, [], ◌∷◌, ◌++◌, length, arith, refl, ap, ◌∙◌, length-append, append-nil}
use Rattle.sf_expr_text.proofs.Common.{map, decimal, AllByRecursion, join_with_byte, nat_tests, length-map, recursion_from_All, not-true, and_parts, LineWord, numbered, words_of_line, words_of_lines, Expr, Token, is_outside, shape_at, no_shape, shaped_text, expr_words, expr_text, spelled_words, IsWritable, SpellsExpr, list_all-append, is_digit, lines, words, is_blank_byte, is_line_feed, has_none, digits_written}
use Rattle.sf_lex.proofs.Spelled.{words-written, words-last}
use Rattle.sf_polish.specs.declared.expr.Token.TheVariants as token
use Rattle.sf_expr_text.proofs.WordTexts.{all-weaker, below}

-- bytes of which none is a blank
abbrev IsSolid : List ℕ → Type 0
IsSolid word = has_none is_blank_byte word ≡ true

-- two words without blanks make one without blanks
solid-append : (xs ys : List ℕ) → IsSolid xs → IsSolid ys → IsSolid (xs ++ ys)
solid-append xs ys h k = list_all-append (λ b. not (is_blank_byte b)) xs ys ∙ rw (h, k) refl

-- a digit is no blank
not_blank : (d : ℕ) → is_digit d ≡ true → not (is_blank_byte d) ≡ true
not_blank d e = grind (arith, nat_tests)

-- a written number has no blanks
solid-decimal : (n : ℕ) → n < 2 ^ 64 → IsSolid (decimal n)
solid-decimal n h = all-weaker is_digit (λ b. not (is_blank_byte b)) not_blank (decimal n) (digits_written n h)

-- a word that can be written: some bytes, and none of them a blank
record IsWord (word : List ℕ) : Type 0 where
  some : 0 < length word
  solid : IsSolid word

-- words that are joined by spaces are cut into just these words
words-joined : (ws : List (List ℕ)) → AllByRecursion IsWord ws → words is_blank_byte (join_with_byte 32 ws) ≡ ws
words-joined [] h = refl
words-joined (x ∷ []) h = words-last is_blank_byte x h.0.some h.0.solid
words-joined (x ∷ y ∷ ws) h =
    words-written is_blank_byte x (join_with_byte 32 (y ∷ ws)) 32 h.0.some h.0.solid refl ∙ ap (λ z. x ∷ z) (words-joined (y ∷ ws) h.1)

-- what is no blank is no line feed
not_feed : (b : ℕ) → not (is_blank_byte b) ≡ true → not (is_line_feed b) ≡ true
not_feed b e = grind (arith, nat_tests)

-- words that are joined by spaces hold no line feed
no_feeds : (ws : List (List ℕ)) → AllByRecursion IsWord ws → has_none is_line_feed (join_with_byte 32 ws) ≡ true
no_feeds [] h = refl
no_feeds (x ∷ []) h = all-weaker (λ b. not (is_blank_byte b)) (λ b. not (is_line_feed b)) not_feed x h.0.solid
no_feeds (x ∷ y ∷ ws) h =
    let first = all-weaker (λ b. not (is_blank_byte b)) (λ b. not (is_line_feed b)) not_feed x h.0.solid in
    list_all-append (λ b. not (is_line_feed b)) x (32 ∷ join_with_byte 32 (y ∷ ws)) ∙ rw (first, no_feeds (y ∷ ws) h.1) refl

-- a text without a line feed is one line
one-line : (b : ℕ) (bytes : List ℕ) → has_none is_line_feed (b ∷ bytes) ≡ true → lines (b ∷ bytes) ≡ (b ∷ bytes) ∷ []
one-line b [] h =
    let none = not-true (is_line_feed b) (and_parts (not (is_line_feed b)) true h).0 in
    rw none refl
one-line b (c ∷ bytes) h =
    let both = and_parts (not (is_line_feed b)) (has_none is_line_feed (c ∷ bytes)) h in
    rw (not-true (is_line_feed b) both.0, one-line c bytes both.1) refl

-- words that were given a line have the same texts
texts-of : (n : ℕ) (ws : List (List ℕ)) → map (λ (w : LineWord). w.text) (map (λ w. record { line = n; text = w }) ws) ≡ ws
texts-of n [] = refl
texts-of n (w ∷ ws) = ap (λ z. w ∷ z) (texts-of n ws)

-- of a text in one line the words are those of the line
spelled-line : (text : List ℕ) → 0 < length text → has_none is_line_feed text ≡ true → spelled_words text ≡ words is_blank_byte text
spelled-line [] some h = absurd (omega arith)
spelled-line (b ∷ bytes) some h =
    ap (λ (ls : List (List ℕ)). map (λ (w : LineWord). w.text) (words_of_lines (numbered 1 ls))) (one-line b bytes h)
    ∙ ap (map (λ (w : LineWord). w.text)) (append-nil (words_of_line (record { number = 1; bytes = b ∷ bytes })))
    ∙ texts-of 1 (words is_blank_byte (b ∷ bytes))

-- at least one word makes a text that is not empty
joined-some : (ws : List (List ℕ)) → 0 < length ws → AllByRecursion IsWord ws → 0 < length (join_with_byte 32 ws)
joined-some [] some h = absurd (omega arith)
joined-some (x ∷ []) some h = h.0.some
joined-some (x ∷ y ∷ ws) some h = omega (arith, h.0.some, length-append x (32 ∷ join_with_byte 32 (y ∷ ws)))

-- what is written of a token is a word
shaped-word : (blocks : ℕ) (expr : Expr) → blocks < 2 ^ 16 → IsWritable blocks expr → (t : Token) → is_outside blocks t ≡ false → IsWord (shaped_text expr.shapes t)
shaped-word blocks expr small wr token.Beside h = record { some = omega arith; solid = refl }
shaped-word blocks expr small wr token.Above h = record { some = omega arith; solid = refl }
shaped-word blocks expr small wr (token.Block b) h =
    let s = shape_at expr.shapes b in
    let sides = wr.sides b no_shape (omega (arith, wr.one_each, below blocks b h)) in
    let number = solid-decimal b (omega (arith, small, below blocks b h)) in
    let shape = solid-append (decimal s.w) (120 ∷ decimal s.h) (solid-decimal s.w (omega (arith, sides.0.1))) (solid-decimal s.h (omega (arith, sides.1.1))) in
    record {
      some = omega (arith, length-append (decimal b) (58 ∷ (decimal s.w ++ (120 ∷ decimal s.h))));
      solid = solid-append (decimal b) (58 ∷ (decimal s.w ++ (120 ∷ decimal s.h))) number shape;
    }

-- what is written of tokens are words
words-of-all : (blocks : ℕ) (expr : Expr) → blocks < 2 ^ 16 → IsWritable blocks expr → (ts : List Token) → AllByRecursion (λ t. is_outside blocks t ≡ false) ts → AllByRecursion IsWord (map (shaped_text expr.shapes) ts)
words-of-all blocks expr small wr [] h = tt
words-of-all blocks expr small wr (t ∷ ts) h = (shaped-word blocks expr small wr t h.0, words-of-all blocks expr small wr ts h.1)

-- the text that is written of an expression spells it
pub expr-written : (blocks : ℕ) (expr : Expr) → blocks < 2 ^ 16 → IsWritable blocks expr → SpellsExpr blocks (expr_text expr) expr
expr-written blocks expr small wr =
    let ws = expr_words expr in
    let each = words-of-all blocks expr small wr expr.tokens (recursion_from_All (λ t. is_outside blocks t ≡ false) expr.tokens wr.normal.no_other) in
    let some : 0 < length ws = omega (arith, length-map expr.tokens (shaped_text expr.shapes), wr.normal.whole) in
    record {
      words = spelled-line (expr_text expr) (joined-some ws some each) (no_feeds ws each) ∙ words-joined ws each;
      writable = wr;
    }
