-- A header that was written is read as it was.
use Rattle.std.proofs.Common.{◌≡◌, ℕ, ◌^◌, ◌<◌, ◌≤◌, List, [], ◌∷◌, ◌++◌, length, map, arith, refl, ap, sym, ◌∙◌, Bool, true, false, cond, ◌==◌, Option, Some, None, Ok, option_and_then, bytes_eq}
use Rattle.sf_cert_text.proofs.Common.{codes, filter, AllByRecursion, list_all, join_with_byte, slice_split, onto_first, decimal, nat_tests, decimal_nonempty, recursion_from_All, is_line_feed, is_blank_byte, has_none, is_not_empty, LineWord, and_parts, eqb-true, eq-eqb, words-blank, Expr, Token, shaped_text, expr_text, IsWritable, no_plan, plan_text, value_after, value_in, version_of, version_of_word, version_in, exactly, number_in, cost_of_word, cost_in, count_in, only_word, word_in, plan_read, plan_or, agreeing, plan_of_rest, plan_in, is_digit, plain_read, words_from-gap, digits_written, plain_written, below, cost_text}
use Rattle.sf_model.specs.declared.TheConstants.{MAX}
use Rattle.sf_polish.specs.declared.expr.Token.TheVariants as token
use Rattle.sf_polish.specs.Normal.{is_outside}
use Rattle.sf_polish.specs.Postfix.{shape_at}
use Rattle.sf_expr_text.specs.Reading.{expr_read}
use Rattle.sf_expr_text.proofs.Respelled.{expr-written}
use Rattle.sf_expr_text.proofs.TextLaws.{spelled-expr}
use Rattle.sf_cert_text.proofs.WrittenBack.{words-labelled, decimal-solid, decimal-line, line-append}

-- ---- a label and a value

-- what stands behind a label is read as it is
value-back : (label value : List ℕ) → bytes_eq label label ≡ true → 0 < length label → has_none is_blank_byte label ≡ true → 0 < length value → has_none is_blank_byte value ≡ true → value_in label (label ++ 32 ∷ value) ≡ Some value
value-back label value e a b c d = ap (value_after label) (words-labelled label value a b c d) ∙ ap (λ t. cond t (Some value) None) e

-- a number behind a label is read as it is
pub number-back : (label : List ℕ) (n : ℕ) → bytes_eq label label ≡ true → 0 < length label → has_none is_blank_byte label ≡ true → n < 2 ^ 64 → number_in label n (label ++ 32 ∷ decimal n) ≡ Some n
number-back label n e a b h =
    ap (λ o. exactly n (option_and_then (plain_read n) o)) (value-back label (decimal n) e a b (decimal_nonempty n h) (decimal-solid n h))
    ∙ ap (exactly n) (plain_written n n h (omega arith))
    ∙ ap (λ t. cond t (Some n) None) (eq-eqb n n refl)

-- a version behind a label is read as that of its number
pub version-back : (label : List ℕ) (n : ℕ) → bytes_eq label label ≡ true → 0 < length label → has_none is_blank_byte label ≡ true → n ≤ 3 → version_in label (label ++ 32 ∷ decimal n) ≡ version_of n
version-back label n e a b h =
    ap (option_and_then version_of_word) (value-back label (decimal n) e a b (decimal_nonempty n (omega (arith, h))) (decimal-solid n (omega (arith, h))))
    ∙ ap (option_and_then version_of) (plain_written n 3 (omega (arith, h)) h)

-- a count behind a label is read as it is
pub count-back : (label : List ℕ) (n : ℕ) → bytes_eq label label ≡ true → 0 < length label → has_none is_blank_byte label ≡ true → n < 2 ^ 64 → count_in label (label ++ 32 ∷ decimal n) ≡ Some n
count-back label n e a b h =
    ap (option_and_then (plain_read 18446744073709551615)) (value-back label (decimal n) e a b (decimal_nonempty n h) (decimal-solid n h))
    ∙ plain_written n 18446744073709551615 h (omega (arith, h))

-- a digit is no blank, and not the first letter of `none`
digit-other : (d : ℕ) → is_digit d ≡ true → (is_blank_byte d ≡ false) × ((d == 110) ≡ false)
digit-other d e = (grind (arith, nat_tests), grind (arith, nat_tests))

-- digits are not `none`
digits-none : (ds : List ℕ) → 0 < length ds → list_all is_digit ds ≡ true → bytes_eq ds (codes "none") ≡ false
digits-none [] some h = absurd (omega arith)
digits-none (d ∷ ds) some h =
    rw (digit-other d (and_parts (is_digit d) (list_all is_digit ds) h).0).1 refl

-- a cost behind a label is read as it is, by whether it is MAX
cost-by : (label : List ℕ) (z : ℕ) (b : Bool) → (z == MAX) ≡ b → bytes_eq label label ≡ true → 0 < length label → has_none is_blank_byte label ≡ true → z < 2 ^ 64 → cost_in label (label ++ 32 ∷ cond b (codes "none") (decimal z)) ≡ Some z
cost-by label z true is e a b h =
    ap (option_and_then cost_of_word) (value-back label (codes "none") e a b (omega arith) refl) ∙ ap Some (sym (eqb-true z MAX is))
cost-by label z false is e a b h =
    ap (option_and_then cost_of_word) (value-back label (decimal z) e a b (decimal_nonempty z h) (decimal-solid z h))
    ∙ ap (λ t. cond t (Some MAX) (plain_read 18446744073709551614 (decimal z))) (digits-none (decimal z) (decimal_nonempty z h) (digits_written z h))
    ∙ plain_written z 18446744073709551614 h (grind (arith, nat_tests))

-- a cost behind a label is read as it is
pub cost-back : (label : List ℕ) (z : ℕ) → bytes_eq label label ≡ true → 0 < length label → has_none is_blank_byte label ≡ true → z < 2 ^ 64 → cost_in label (label ++ 32 ∷ cost_text z) ≡ Some z
cost-back label z e a b h = cost-by label z (z == MAX) refl e a b h

-- ---- the plan

-- a word that is no `none`
record IsOther (word : List ℕ) : Type 0 where
  first : ℕ
  rest : List ℕ
  is : word ≡ first ∷ rest
  solid : is_blank_byte first ≡ false
  other : (first == 110) ≡ false

-- digits with anything behind them are not `none`
other-digits : (ds more : List ℕ) → 0 < length ds → list_all is_digit ds ≡ true → IsOther (ds ++ more)
other-digits [] more some h = absurd (omega arith)
other-digits (d ∷ ds) more some h =
    let both = digit-other d (and_parts (is_digit d) (list_all is_digit ds) h).0 in
    record { first = d; rest = ds ++ more; is = refl; solid = both.0; other = both.1 }

-- nor is a word that goes on from such
other-append : (xs ys : List ℕ) → IsOther xs → IsOther (xs ++ ys)
other-append xs ys o = record { first = o.first; rest = o.rest ++ ys; is = ap (λ z. z ++ ys) o.is; solid = o.solid; other = o.other }

module _ (blocks : ℕ) (expr : Expr) (small : blocks < 2 ^ 16) (wr : IsWritable blocks expr) where
  -- nor is the word of a token
  shaped-other : (t : Token) → is_outside blocks t ≡ false → IsOther (shaped_text expr.shapes t)
  shaped-other token.Beside h = record { first = 42; rest = []; is = refl; solid = refl; other = refl }
  shaped-other token.Above h = record { first = 43; rest = []; is = refl; solid = refl; other = refl }
  shaped-other (token.Block b) h =
      let low = below blocks b h in
      other-digits (decimal b) (58 ∷ (decimal (shape_at expr.shapes b).w ++ (120 ∷ decimal (shape_at expr.shapes b).h))) (decimal_nonempty b (omega (arith, low, small))) (digits_written b (omega (arith, low, small)))

  -- the word of a token has no line feed
  shaped-line : (t : Token) → is_outside blocks t ≡ false → has_none is_line_feed (shaped_text expr.shapes t) ≡ true
  shaped-line token.Beside h = refl
  shaped-line token.Above h = refl
  shaped-line (token.Block b) h =
      let s = shape_at expr.shapes b in
      let low = below blocks b h in
      let sides = wr.sides b (record { w = 0; h = 0 }) (omega (arith, wr.one_each, low)) in
      let right = line-append (120 ∷ []) (decimal s.h) refl (decimal-line s.h (omega (arith, sides.1.1))) in
      let shape = line-append (decimal s.w) (120 ∷ decimal s.h) (decimal-line s.w (omega (arith, sides.0.1))) right in
      line-append (decimal b) (58 ∷ (decimal s.w ++ (120 ∷ decimal s.h))) (decimal-line b (omega (arith, low, small))) (line-append (58 ∷ []) (decimal s.w ++ (120 ∷ decimal s.h)) refl shape)

  -- nor is an expression
  joined-other : (ts : List Token) → 0 < length ts → AllByRecursion (λ t. is_outside blocks t ≡ false) ts → IsOther (join_with_byte 32 (map (shaped_text expr.shapes) ts))
  joined-other [] some h = absurd (omega arith)
  joined-other (t ∷ []) some h = shaped-other t h.0
  joined-other (t ∷ u ∷ ts) some h = other-append (shaped_text expr.shapes t) (32 ∷ join_with_byte 32 (map (shaped_text expr.shapes) (u ∷ ts))) (shaped-other t h.0)

  -- an expression has no line feed
  joined-line : (ts : List Token) → AllByRecursion (λ t. is_outside blocks t ≡ false) ts → has_none is_line_feed (join_with_byte 32 (map (shaped_text expr.shapes) ts)) ≡ true
  joined-line [] h = refl
  joined-line (t ∷ []) h = shaped-line t h.0
  joined-line (t ∷ u ∷ ts) h =
      line-append (shaped_text expr.shapes t) (32 ∷ join_with_byte 32 (map (shaped_text expr.shapes) (u ∷ ts))) (shaped-line t h.0)
      (line-append (32 ∷ []) (join_with_byte 32 (map (shaped_text expr.shapes) (u ∷ ts))) refl (joined-line (u ∷ ts) h.1))

  -- all tokens are of the blocks
  inside : AllByRecursion (λ t. is_outside blocks t ≡ false) expr.tokens
  inside = recursion_from_All (λ t. is_outside blocks t ≡ false) expr.tokens wr.normal.no_other

  -- the text of an expression has no line feed
  pub expr-line : has_none is_line_feed (expr_text expr) ≡ true
  expr-line = joined-line expr.tokens inside

  -- the text of an expression is not `none`
  expr-other : IsOther (expr_text expr)
  expr-other = joined-other expr.tokens (omega (arith, wr.normal.whole)) inside

-- a first word that begins otherwise is not the word `none`
other-words : (b : ℕ) (p : List ℕ) (more : List (List ℕ)) → (b == 110) ≡ false → only_word (codes "none") ((b ∷ p) ∷ more) ≡ None
other-words b p [] e = rw e refl
other-words b p (q ∷ more) e = refl

-- the first word begins with the first byte
other-word : (b : ℕ) (parts : List (List ℕ)) → (b == 110) ≡ false → only_word (codes "none") (filter is_not_empty (onto_first b parts)) ≡ None
other-word b [] e = other-words b [] [] e
other-word b (p ∷ parts) e = other-words b p (filter is_not_empty parts) e

-- a text that begins otherwise does not say `none`
no-none : (word : List ℕ) → IsOther word → word_in (codes "none") word ≡ None
no-none word o =
    let split : slice_split is_blank_byte (o.first ∷ o.rest) ≡ onto_first o.first (slice_split is_blank_byte o.rest) = rw o.solid refl in
    ap (word_in (codes "none")) o.is
    ∙ ap (λ parts. only_word (codes "none") (filter is_not_empty parts)) split
    ∙ other-word o.first (slice_split is_blank_byte o.rest) o.other

-- the text of an expression behind a blank is read as the expression
expr-spelled : (blocks : ℕ) (expr : Expr) → blocks < 2 ^ 16 → IsWritable blocks expr → expr_read blocks (32 ∷ expr_text expr) ≡ Ok expr
expr-spelled blocks expr small wr =
    let written = expr-written blocks expr small wr in
    spelled-expr blocks small (32 ∷ expr_text expr) expr (record { words = ap (map (λ (w : LineWord). w.text)) (words_from-gap 1 (32 ∷ []) (expr_text expr) (refl, tt)) ∙ written.words; writable = wr })

-- and so a plan is
expr-back : (blocks : ℕ) (expr : Expr) → blocks < 2 ^ 16 → IsWritable blocks expr → plan_of_rest blocks (32 ∷ expr_text expr) ≡ Some (Some expr)
expr-back blocks expr small wr =
    ap (λ o. plan_or o (plan_read (expr_read blocks (32 ∷ expr_text expr)))) (ap (only_word (codes "none")) (words-blank is_blank_byte 32 (expr_text expr) refl) ∙ no-none (expr_text expr) (expr-other blocks expr small wr))
    ∙ ap plan_read (expr-spelled blocks expr small wr)

-- the line of a plan is read as the plan
pub plan-back : (blocks cost : ℕ) (plan : Option Expr) → blocks < 2 ^ 16 → ((expr : Expr) → plan ≡ Some expr → IsWritable blocks expr) → no_plan plan ≡ (cost == MAX) → plan_in blocks cost (codes "plan" ++ 32 ∷ plan_text plan) ≡ Some plan
plan-back blocks cost None small wr e = ap (λ b. cond b (Some None) None) (sym e)
plan-back blocks cost (Some expr) small wr e = ap (agreeing cost) (expr-back blocks expr small (wr expr refl)) ∙ ap (λ b. cond b None (Some (Some expr))) (sym e)

-- the text of a cost has no line feed, by whether it is MAX
cost-line-by : (z : ℕ) (b : Bool) → z < 2 ^ 64 → has_none is_line_feed (cond b (codes "none") (decimal z)) ≡ true
cost-line-by z true h = refl
cost-line-by z false h = decimal-line z h

-- the text of a cost has no line feed
pub cost-line : (z : ℕ) → z < 2 ^ 64 → has_none is_line_feed (cost_text z) ≡ true
cost-line z h = cost-line-by z (z == MAX) h
