-- A text that is refused stops being that of a normal expression where its fault says so.
use Rattle.std.proofs.Common.{◌≡◌, ℕ, ◌+◌, ◌<◌, ◌^◌, Bool, true, false, not, cond, List, [], ◌∷◌, ◌++◌, Option, Some, None, Result, Ok, Err, append_assoc, append-nil, arith, refl, ap, sym, subst, ◌∙◌, ◌⊎◌, inl, inr, ◌==◌}
use Rattle.sf_expr_text.proofs.Common.{nat_le, AllZip, list_all, range_with_len, eqb_tells, leb_tells, option_map, LineWord, line_words, last_line_of, Shape, Token, ExprFault, BadToken, NotBallot, NotNormal, RepeatedBlock, MissingBlock, NoMemory, Piece, is_operand, is_outside, ends_in, operands, operators, is_named, operator_after, token_after, whole_tokens, tokens_from, tokens_read, expr_read, expr_of_parts, Fails, ◌>>=◌, token_of, token_in, piece_in, shaped_token_in, WritesToken, WritesShaped, IsWordFault, IsEndFault, IsFaultAt, GoesWrong}
use Rattle.sf_polish.specs.declared.expr.Token.TheVariants as token
use Rattle.sf_expr_text.specs.declared.word.Piece.TheVariants as piece
use Rattle.sf_expr_text.proofs.Fronts.{faultless-front, missing}
use Rattle.sf_expr_text.proofs.ReadSteps.{tokens-step, tokens-end}
use Rattle.sf_expr_text.proofs.SoFar.{IsFaultless, front-start, front-next, all-named}
use Rattle.sf_expr_text.proofs.TextLaws.{shaped}
use Rattle.sf_expr_text.proofs.WordTexts.{token-known, token-written, IsPiece, piece-written, piece_text, piece_sides}

-- ---- by what each word spells

module _ (blocks last : ℕ) (spelled : List ℕ → Option Token) (Writes : List ℕ → Token → Type 0) (known : (w : List ℕ) (t : Token) → spelled w ≡ Some t → Writes w t × (is_outside blocks t ≡ false)) (unknown : (w : List ℕ) → spelled w ≡ None → (t : Token) → Writes w t → is_outside blocks t ≡ true) where
  -- an operator that is refused wants an operand more, or repeats the one before it
  operator-fault : (ts : List Token) (word : LineWord) (t : Token) (e : ExprFault) → Writes word.text t → is_operand t ≡ false → operator_after ts word.line t ≡ Err e → IsWordFault Writes blocks ts word e
  operator-fault ts word t e w o h = by_tests (nat_le (operands ts) (operators ts + 1)) (ends_in t ts) refl refl h
    where
      by_tests : (a b : Bool) → nat_le (operands ts) (operators ts + 1) ≡ a → ends_in t ts ≡ b → cond a (Err (NotBallot word.line)) (cond b (Err (NotNormal word.line)) (Ok t)) ≡ Err e → IsWordFault Writes blocks ts word e
      by_tests true b p q k =
          let same : NotBallot word.line ≡ e = cc in
          subst (IsWordFault Writes blocks ts word) same (refl, t, (w, o), elim (leb_tells (operands ts) (operators ts + 1)) [ inl r ↦ r.1 | inr r ↦ absurd (let z : true ≡ false = sym p ∙ r.0 in cc) ])
      by_tests false true p q k =
          let same : NotNormal word.line ≡ e = cc in
          subst (IsWordFault Writes blocks ts word) same (refl, t, (w, o), elim (leb_tells (operands ts) (operators ts + 1)) [ inl r ↦ absurd (let z : true ≡ false = sym r.0 ∙ p in cc) | inr r ↦ r.1 ], q)
      by_tests false false p q k = absurd cc

  -- a word that is refused has a fault, whatever it spells
  word-fault : (ts : List Token) (word : LineWord) (o : Option Token) (e : ExprFault) → spelled word.text ≡ o → token_after ts word.line o ≡ Err e → IsWordFault Writes blocks ts word e
  word-fault ts word None e p h =
      let same : BadToken word.line ≡ e = cc in
      subst (IsWordFault Writes blocks ts word) same (refl, unknown word.text p)
  word-fault ts word (Some token.Beside) e p h = operator-fault ts word token.Beside e (known word.text token.Beside p).0 refl h
  word-fault ts word (Some token.Above) e p h = operator-fault ts word token.Above e (known word.text token.Above p).0 refl h
  word-fault ts word (Some (token.Block b)) e p h = by_name (is_named b ts) refl h
    where
      by_name : (x : Bool) → is_named b ts ≡ x → cond x (Err (RepeatedBlock word.line)) (Ok (token.Block b)) ≡ Err e → IsWordFault Writes blocks ts word e
      by_name true q k =
          let same : RepeatedBlock word.line ≡ e = cc in
          subst (IsWordFault Writes blocks ts word) same (refl, b, (known word.text (token.Block b) p).0, q)
      by_name false q k = absurd cc

  -- tokens that are refused at the end lack a block, or an operator
  end-fault : (ts : List Token) (e : ExprFault) → whole_tokens blocks last ts ≡ Err e → IsEndFault blocks ts last e
  end-fault ts e h = by_tests (list_all (λ b. is_named b ts) (range_with_len 0 blocks)) (operators ts + 1 == operands ts) refl refl h
    where
      by_tests : (a b : Bool) → list_all (λ b. is_named b ts) (range_with_len 0 blocks) ≡ a → (operators ts + 1 == operands ts) ≡ b → cond (not a) (Err (MissingBlock last)) (cond b (Ok ts) (Err (NotBallot last))) ≡ Err e → IsEndFault blocks ts last e
      by_tests false b p q k =
          let same : MissingBlock last ≡ e = cc in
          let m = missing ts 0 blocks p in
          subst (IsEndFault blocks ts last) same (refl, m.0, omega (arith, m.1), m.2)
      by_tests true false p q k =
          let same : NotBallot last ≡ e = cc in
          subst (IsEndFault blocks ts last) same (
            refl,
            λ b h. all-named ts 0 blocks p b (omega arith) (omega (arith, h)),
            elim (eqb_tells (operators ts + 1) (operands ts)) [ inl r ↦ absurd (let z : true ≡ false = sym r.0 ∙ q in cc) | inr r ↦ r.1 ],
          )
      by_tests true true p q k = absurd cc

  -- the words behind the earlier tokens go on with them as far as all are a front, and then comes the fault
  record StopsBehind (earlier : List Token) (ws : List LineWord) (e : ExprFault) : Type 0 where
    before : List LineWord
    left : List LineWord
    words : ws ≡ before ++ left
    others : List Token
    written : AllZip (λ word t. Writes word.text t) before others
    front : IsFaultless blocks (earlier ++ others)
    stop : IsFaultAt Writes blocks (earlier ++ others) last left e

  -- the fault comes at once
  stops-here : (earlier : List Token) (ws : List LineWord) (e : ExprFault) → IsFaultless blocks earlier → IsFaultAt Writes blocks earlier last ws e → StopsBehind earlier ws e
  stops-here earlier ws e front h = record {
    before = [];
    left = ws;
    words = refl;
    others = [];
    written = tt;
    front = subst (IsFaultless blocks) (sym (append-nil earlier)) front;
    stop = subst (λ z. IsFaultAt Writes blocks z last ws e) (sym (append-nil earlier)) h;
  }

  -- the fault comes behind one word more
  stops-later : (earlier : List Token) (word : LineWord) (more : List LineWord) (t : Token) (e : ExprFault) → Writes word.text t → StopsBehind (earlier ++ t ∷ []) more e → StopsBehind earlier (word ∷ more) e
  stops-later earlier word more t e w s =
      let whole = append_assoc earlier (t ∷ []) s.others in
      record {
        before = word ∷ s.before;
        left = s.left;
        words = ap (λ z. word ∷ z) s.words;
        others = t ∷ s.others;
        written = (w, s.written);
        front = subst (IsFaultless blocks) whole s.front;
        stop = subst (λ z. IsFaultAt Writes blocks z last s.left e) whole s.stop;
      }

  -- a word and those behind it, whatever the word spells
  stops-by : (earlier : List Token) (word : LineWord) (more : List LineWord) (e : ExprFault) (o : Option Token) (r : Result Token ExprFault) → IsFaultless blocks earlier
      → ((t : Token) → IsFaultless blocks (earlier ++ t ∷ []) → tokens_from blocks last spelled (earlier ++ t ∷ []) more ≡ Err e → StopsBehind (earlier ++ t ∷ []) more e)
      → spelled word.text ≡ o → token_after earlier word.line o ≡ r → (r >>= (λ t. tokens_from blocks last spelled (earlier ++ t ∷ []) more)) ≡ Err e → StopsBehind earlier (word ∷ more) e
  stops-by earlier word more e o (Err f) front next p q h =
      let same : f ≡ e = cc in
      stops-here earlier (word ∷ more) e front (word-fault earlier word o e p (q ∙ ap Err same))
  stops-by earlier word more e None (Ok u) front next p q h = absurd cc
  stops-by earlier word more e (Some t) (Ok u) front next p q h =
      let is = known word.text t p in
      let k = front-next blocks earlier word.line t u front is.1 q in
      stops-later earlier word more t e is.0 (next t k.1 (ap (λ z. tokens_from blocks last spelled (earlier ++ z ∷ []) more) (sym k.0) ∙ h))

  -- words that are refused stop somewhere
  stops : (ws : List LineWord) (earlier : List Token) (e : ExprFault) → IsFaultless blocks earlier → tokens_from blocks last spelled earlier ws ≡ Err e → StopsBehind earlier ws e
  stops [] earlier e front h = stops-here earlier [] e front (end-fault earlier e (sym (tokens-end blocks last spelled earlier) ∙ h))
  stops (word ∷ more) earlier e front h =
      stops-by earlier word more e (spelled word.text) (token_after earlier word.line (spelled word.text)) front (λ t. stops more (earlier ++ t ∷ []) e) refl refl (sym (tokens-step blocks last spelled earlier word more) ∙ h)

-- memory ran out, or the text goes wrong with this fault
abbrev pub IsRefused : (List ℕ → Token → Type 0) → ℕ → List ℕ → ExprFault → Type 0
IsRefused Writes blocks text fault = (fault ≡ NoMemory) ⊎ GoesWrong Writes blocks text fault

-- where each fault of a reading is one of the text, what fails with the reading is refused
refused-from : {X : Type 0} (Writes : List ℕ → Token → Type 0) (blocks : ℕ) (text : List ℕ) (e : ExprFault) (r : Result X ExprFault) → ((f : ExprFault) → r ≡ Err f → GoesWrong Writes blocks text f) → Fails e r → IsRefused Writes blocks text e
refused-from Writes blocks text NoMemory r wrong h = inl refl
refused-from Writes blocks text (BadToken n) r wrong h = inr (wrong (BadToken n) h)
refused-from Writes blocks text (NotBallot n) r wrong h = inr (wrong (NotBallot n) h)
refused-from Writes blocks text (NotNormal n) r wrong h = inr (wrong (NotNormal n) h)
refused-from Writes blocks text (RepeatedBlock n) r wrong h = inr (wrong (RepeatedBlock n) h)
refused-from Writes blocks text (MissingBlock n) r wrong h = inr (wrong (MissingBlock n) h)

module _ (blocks : ℕ) (small : blocks < 2 ^ 16) where
  -- ---- texts of tokens

  -- a word that is no token is that of a block outside, if of any
  token-unknown : (w : List ℕ) → token_in blocks w ≡ None → (t : Token) → WritesToken w t → is_outside blocks t ≡ true
  token-unknown w none t h = by_test (is_outside blocks t) refl
    where
      by_test : (x : Bool) → is_outside blocks t ≡ x → is_outside blocks t ≡ true
      by_test true e = e
      by_test false e = absurd (let z : None ≡ Some t = sym none ∙ ap (token_in blocks) h ∙ token-written blocks t small e in cc)

  -- a text of tokens that is refused stops where its fault says so
  pub tokens-refused : (text : List ℕ) (e : ExprFault) → Fails e (tokens_read blocks text) → IsRefused WritesToken blocks text e
  tokens-refused text e = refused-from WritesToken blocks text e (tokens_read blocks text) (λ f h.
      let s = stops blocks (last_line_of text) (token_in blocks) WritesToken (λ w t k. let is = token-known blocks w t small k in (is.text, is.within)) token-unknown (line_words text) [] f (front-start blocks) h in
      record { before = s.before; left = s.left; words = s.words; tokens = s.others; written = s.written; front = faultless-front blocks s.others s.front; stop = s.stop })

  -- ---- texts of expressions

  -- a word that is a piece is its token's
  piece-writes : (w : List ℕ) (p : Piece) → IsPiece blocks w p → WritesShaped w (token_of p)
  piece-writes w piece.Beside i = i.text
  piece-writes w piece.Above i = i.text
  piece-writes w (piece.Block b s) i = (s, i.sides.0, i.sides.1, i.text)

  -- a word that spells a token is its own, and names no block outside
  shaped-known : (w : List ℕ) (t : Token) → shaped_token_in blocks w ≡ Some t → WritesShaped w t × (is_outside blocks t ≡ false)
  shaped-known w t h =
      let s = shaped blocks small w t h in
      (subst (WritesShaped w) s.token (piece-writes w s.part s.word), ap (is_outside blocks) (sym s.token) ∙ s.word.within)

  -- a token's word is what is written of a piece with that token
  piece-of : (w : List ℕ) (t : Token) → WritesShaped w t → (p : Piece) × (token_of p ≡ t) × piece_sides p × (w ≡ piece_text p)
  piece-of w token.Beside h = (piece.Beside, refl, tt, h)
  piece-of w token.Above h = (piece.Above, refl, tt, h)
  piece-of w (token.Block b) h = (piece.Block b h.0, refl, (h.1, h.2), h.3)

  -- a word that is no piece is that of a block outside, if of any
  shaped-unknown : (w : List ℕ) → shaped_token_in blocks w ≡ None → (t : Token) → WritesShaped w t → is_outside blocks t ≡ true
  shaped-unknown w none t h = by_test (is_outside blocks t) refl
    where
      by_test : (x : Bool) → is_outside blocks t ≡ x → is_outside blocks t ≡ true
      by_test true e = e
      by_test false e =
          let p = piece-of w t h in
          let is = piece-written blocks p.0 small (ap (is_outside blocks) p.1 ∙ e) p.2 in
          absurd (let z : None ≡ Some (token_of p.0) = sym none ∙ ap (λ z. option_map token_of (piece_in blocks z)) p.3 ∙ ap (option_map token_of) is in cc)

  -- an expression that can't be read has the fault of its tokens
  err-parts : (shapes : List Shape) (r : Result (List Token) ExprFault) (e : ExprFault) → (r >>= expr_of_parts shapes) ≡ Err e → r ≡ Err e
  err-parts shapes (Err f) e h = let same : f ≡ e = cc in ap Err same
  err-parts shapes (Ok ts) e h = absurd cc

  -- an expression's text that is refused stops where its fault says so
  pub expr-refused : (text : List ℕ) (e : ExprFault) → Fails e (expr_read blocks text) → IsRefused WritesShaped blocks text e
  expr-refused text e = refused-from WritesShaped blocks text e (expr_read blocks text) (λ f h.
      let s = stops blocks (last_line_of text) (shaped_token_in blocks) WritesShaped shaped-known shaped-unknown (line_words text) [] f (front-start blocks) (err-parts _ _ f h) in
      record { before = s.before; left = s.left; words = s.words; tokens = s.others; written = s.written; front = faultless-front blocks s.others s.front; stop = s.stop })
