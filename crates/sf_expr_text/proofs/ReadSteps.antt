-- The steps of reading the words of a text one after another.
use Rattle.std.proofs.Common.{◌≡◌, ℕ, List, [], ◌∷◌, ◌++◌, length, Option, Some, None, Result, Ok, refl, ap, sym, subst, ◌∙◌}
use Rattle.sf_expr_text.proofs.Common.{replicate, length-set, LineWord, line_words, last_line_of, Shape, Token, ExprFault, BadToken, NotBallot, NotNormal, RepeatedBlock, MissingBlock, NoMemory, Piece, no_shape, shaped_token_in, piece_in, token_after, whole_tokens, tokens_from, shapes_with, shapes_from, expr_of_parts, expr_read, Fails, ◌>>=◌}
use Rattle.sf_expr_text.specs.declared.word.Piece.TheVariants as pieces

-- a fault of the first reading is that of both
pub fails-through : {A B : Type 0} (e : ExprFault) (r : Result A ExprFault) (f : A → Result B ExprFault) → Fails e r → Fails e (r >>= f)
fails-through NoMemory r f h = tt
fails-through (BadToken n) r f h = ap (λ z. z >>= f) h
fails-through (NotBallot n) r f h = ap (λ z. z >>= f) h
fails-through (NotNormal n) r f h = ap (λ z. z >>= f) h
fails-through (RepeatedBlock n) r f h = ap (λ z. z >>= f) h
fails-through (MissingBlock n) r f h = ap (λ z. z >>= f) h

-- what fails with this fault fails with it at an equal result
pub fails-at : {A : Type 0} (e : ExprFault) (r s : Result A ExprFault) → r ≡ s → Fails e s → Fails e r
fails-at e r s p h = subst (Fails e) (sym p) h

module _ (blocks last : ℕ) (spelled : List ℕ → Option Token) where
  -- one word
  pub tokens-step : (earlier : List Token) (word : LineWord) (more : List LineWord) → tokens_from blocks last spelled earlier (word ∷ more) ≡ (token_after earlier word.line (spelled word.text) >>= (λ t. tokens_from blocks last spelled (earlier ++ t ∷ []) more))
  unfolding tokens_from
  tokens-step earlier word more = refl

  -- behind the last word the reading ends as the tokens so far do
  pub tokens-end : (earlier : List Token) → tokens_from blocks last spelled earlier [] ≡ whole_tokens blocks last earlier
  unfolding tokens_from
  tokens-end earlier = refl

  -- reading the rest behind the tokens so far reads the whole
  pub record IsReading (all : List LineWord) (tokens : List Token) (rest : List LineWord) : Type 0 where
    pub answer : tokens_from blocks last spelled [] all ≡ tokens_from blocks last spelled tokens rest

  -- a word that adds a token is passed, and the tokens go on with it
  pub reading-step : (all : List LineWord) (tokens new : List Token) (rest more : List LineWord) (word : LineWord) (t : Token) → IsReading all tokens rest → rest ≡ word ∷ more → token_after tokens word.line (spelled word.text) ≡ Ok t → new ≡ tokens ++ t ∷ [] → IsReading all new more
  reading-step all tokens new rest more word t r e h n = record {
    answer = r.answer ∙ ap (tokens_from blocks last spelled tokens) e ∙ tokens-step tokens word more ∙ ap (λ z. z >>= (λ t. tokens_from blocks last spelled (tokens ++ t ∷ []) more)) h ∙ ap (λ z. tokens_from blocks last spelled z more) (sym n);
  }

  -- a word that is refused is the fault of the whole text
  pub reading-fails : (all : List LineWord) (tokens : List Token) (rest more : List LineWord) (word : LineWord) (e : ExprFault) → IsReading all tokens rest → rest ≡ word ∷ more → Fails e (token_after tokens word.line (spelled word.text)) → Fails e (tokens_from blocks last spelled [] all)
  reading-fails all tokens rest more word e r p h =
      fails-at e _ _ (r.answer ∙ ap (tokens_from blocks last spelled tokens) p ∙ tokens-step tokens word more) (fails-through e (token_after tokens word.line (spelled word.text)) (λ t. tokens_from blocks last spelled (tokens ++ t ∷ []) more) h)

  -- where no word is left, the whole text is read as the tokens end
  pub reading-ends : (all : List LineWord) (tokens : List Token) (rest : List LineWord) (n : ℕ) → IsReading all tokens rest → rest ≡ [] → n ≡ blocks → tokens_from blocks last spelled [] all ≡ whole_tokens n last tokens
  reading-ends all tokens rest n r e same = r.answer ∙ ap (tokens_from blocks last spelled tokens) e ∙ tokens-end tokens ∙ ap (λ k. whole_tokens k last tokens) (sym same)

-- ---- the shapes

module _ (blocks : ℕ) where
  -- a word's shape is written, and the next words go on from there
  pub shapes-step : (shapes : List Shape) (word : LineWord) (more : List LineWord) → shapes_from blocks shapes (word ∷ more) ≡ shapes_from blocks (shapes_with shapes (piece_in blocks word.text)) more
  unfolding shapes_from
  shapes-step shapes word more = refl

  -- behind the last word the shapes stay as they are
  pub shapes-end : (shapes : List Shape) → shapes_from blocks shapes [] ≡ shapes
  unfolding shapes_from
  shapes-end shapes = refl

  -- a piece leaves as many shapes
  pub shapes-same : (shapes : List Shape) (piece : Option Piece) → length (shapes_with shapes piece) ≡ length shapes
  shapes-same shapes None = refl
  shapes-same shapes (Some pieces.Beside) = refl
  shapes-same shapes (Some pieces.Above) = refl
  shapes-same shapes (Some (pieces.Block b s)) = length-set shapes b s

  -- the shapes so far and the words that are left give the shapes of all words
  pub record IsKeeping (all : List LineWord) (shapes : List Shape) (rest : List LineWord) : Type 0 where
    pub answer : shapes_from blocks (replicate blocks no_shape) all ≡ shapes_from blocks shapes rest
    pub one_each : length shapes ≡ blocks

  -- a word is passed once its shape is written
  pub keeping-step : (all : List LineWord) (shapes new : List Shape) (rest more : List LineWord) (word : LineWord) → IsKeeping all shapes rest → rest ≡ word ∷ more → new ≡ shapes_with shapes (piece_in blocks word.text) → IsKeeping all new more
  keeping-step all shapes new rest more word k e n = record {
    answer = k.answer ∙ ap (shapes_from blocks shapes) e ∙ shapes-step shapes word more ∙ ap (λ z. shapes_from blocks z more) (sym n);
    one_each = ap length n ∙ shapes-same shapes (piece_in blocks word.text) ∙ k.one_each;
  }

  -- where no word is left, the shapes are those of all words
  pub keeping-ends : (all : List LineWord) (shapes : List Shape) (rest : List LineWord) → IsKeeping all shapes rest → rest ≡ [] → shapes_from blocks (replicate blocks no_shape) all ≡ shapes
  keeping-ends all shapes rest k e = k.answer ∙ ap (shapes_from blocks shapes) e ∙ shapes-end shapes

-- ---- the whole text

-- what was read of the tokens, with the shapes that were kept
pub expr-read : (blocks : ℕ) (text : List ℕ) (tokens : List Token) (shapes : List Shape) → tokens_from blocks (last_line_of text) (shaped_token_in blocks) [] (line_words text) ≡ Ok tokens → shapes_from blocks (replicate blocks no_shape) (line_words text) ≡ shapes → expr_read blocks text ≡ Ok (record { tokens = tokens; shapes = shapes })
expr-read blocks text tokens shapes t s = ap (λ z. z >>= expr_of_parts (shapes_from blocks (replicate blocks no_shape) (line_words text))) t ∙ ap (λ z. expr_of_parts z tokens) s

-- where the tokens of a text fail, its expression fails with the same fault
pub expr-fails : (blocks : ℕ) (text : List ℕ) (e : ExprFault) → Fails e (tokens_from blocks (last_line_of text) (shaped_token_in blocks) [] (line_words text)) → Fails e (expr_read blocks text)
expr-fails blocks text e h = fails-through e (tokens_from blocks (last_line_of text) (shaped_token_in blocks) [] (line_words text)) (expr_of_parts (shapes_from blocks (replicate blocks no_shape) (line_words text))) h
