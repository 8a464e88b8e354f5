-- What a text is read as is what its words spell, and the other way round.
use Rattle.std.proofs.Common.{◌≡◌, ℕ, ◌^◌, ◌<◌, ◌≤◌, true, false, cond, List, [], ◌∷◌, ◌++◌, length, Option, Some, None, Result, Ok, Err, arith, refl, ap, sym, subst, ◌∙◌, inl, inr, ◌==◌}
use Rattle.sf_expr_text.proofs.Common.{count_by, map, replicate, slice_set, decimal, AllByRecursion, option_map, eqb_tells, get_or-set_same, get_or-set_other, get_or_default, length-replicate, ext_get_or, recursion_from_All, LineWord, line_words, last_line_of, Shape, Expr, Token, ExprFault, Piece, is_block, is_outside, shape_at, is_named, tokens_from, shapes_with, shapes_from, tokens_read, expr_of_parts, expr_read, ◌>>=◌, no_shape, token_text, shape_text, shaped_text, IsWritable, SpellsTokens, SpellsExpr, token_in, piece_in, shaped_token_in, token_of, IsSide}
use Rattle.sf_polish.specs.declared.expr.Token.TheVariants as token
use Rattle.sf_expr_text.specs.declared.word.Piece.TheVariants as piece
use Rattle.sf_expr_text.proofs.Fronts.{at-most-once}
use Rattle.sf_expr_text.proofs.ReadSteps.{expr-read, shapes-step, shapes-end, shapes-same}
use Rattle.sf_expr_text.proofs.SoFar.{front-start, spelled_by, tokens-known, tokens-again, unnamed, is_named-uncounted, counted, times-cons}
use Rattle.sf_expr_text.proofs.WordTexts.{token-known, token-written, IsPiece, piece-known, piece-written, piece_text, piece_sides, piece_at, below}

-- ---- texts of tokens

module _ (blocks : ℕ) (small : blocks < 2 ^ 16) where
  -- words that spell tokens are the texts of these tokens
  tokens-texts : (ws : List LineWord) (rest : List Token) → spelled_by (token_in blocks) ws ≡ map Some rest → map (λ w. w.text) ws ≡ map token_text rest
  tokens-texts [] [] h = refl
  tokens-texts [] (t ∷ rest) h = absurd cc
  tokens-texts (w ∷ ws) [] h = absurd cc
  tokens-texts (w ∷ ws) (t ∷ rest) h =
      let first : token_in blocks w.text ≡ Some t = cc in
      let others : spelled_by (token_in blocks) ws ≡ map Some rest = cc in
      let text = (token-known blocks w.text t small first).text in
      cc (text, tokens-texts ws rest others)

  -- words that are the texts of tokens spell them
  texts-tokens : (ws : List LineWord) (rest : List Token) → AllByRecursion (λ t. is_outside blocks t ≡ false) rest → map (λ w. w.text) ws ≡ map token_text rest → spelled_by (token_in blocks) ws ≡ map Some rest
  texts-tokens [] [] inside h = refl
  texts-tokens [] (t ∷ rest) inside h = absurd cc
  texts-tokens (w ∷ ws) [] inside h = absurd cc
  texts-tokens (w ∷ ws) (t ∷ rest) inside h =
      let first : w.text ≡ token_text t = cc in
      let others : map (λ w. w.text) ws ≡ map token_text rest = cc in
      let spelled : token_in blocks w.text ≡ Some t = ap (token_in blocks) first ∙ token-written blocks t small inside.0 in
      cc (spelled, texts-tokens ws rest inside.1 others)

  -- a text that is read as tokens spells them
  pub tokens-spelled : (text : List ℕ) (tokens : List Token) → tokens_read blocks text ≡ Ok tokens → SpellsTokens blocks text tokens
  tokens-spelled text tokens h =
      let s = tokens-known blocks (last_line_of text) (token_in blocks) (λ w t e. (token-known blocks w t small e).within) (line_words text) [] tokens (front-start blocks) h in
      record { words = tokens-texts (line_words text) tokens (s.words ∙ ap (map Some) (sym s.whole)); normal = s.normal }

  -- a text that spells tokens is read as them
  pub spelled-tokens : (text : List ℕ) (tokens : List Token) → SpellsTokens blocks text tokens → tokens_read blocks text ≡ Ok tokens
  spelled-tokens text tokens s =
      let inside = recursion_from_All (λ t. is_outside blocks t ≡ false) tokens s.normal.no_other in
      tokens-again blocks (last_line_of text) (token_in blocks) tokens s.normal (line_words text) [] tokens refl (texts-tokens (line_words text) tokens inside s.words)

  -- ---- texts of expressions: the shapes that are kept

  -- the piece of a word that spells a token
  pub record IsShaped (w : List ℕ) (t : Token) : Type 0 where
    pub part : Piece
    pub is : piece_in blocks w ≡ Some part
    pub token : token_of part ≡ t
    pub word : IsPiece blocks w part

  -- a word's piece, whatever it is, has the form of its token
  shaped-by : (w : List ℕ) (t : Token) (o : Option Piece) → piece_in blocks w ≡ o → option_map token_of o ≡ Some t → IsShaped w t
  shaped-by w t None e h = absurd cc
  shaped-by w t (Some p) e h = let same : token_of p ≡ t = cc in record { part = p; is = e; token = same; word = piece-known blocks w p small e }

  -- a word that is read as a token has the form of one
  pub shaped : (w : List ℕ) (t : Token) → shaped_token_in blocks w ≡ Some t → IsShaped w t
  shaped w t h = shaped-by w t (piece_in blocks w) refl h

  -- a word that is read as a token names no block outside
  pub shaped-within : (w : List ℕ) (t : Token) → shaped_token_in blocks w ≡ Some t → is_outside blocks t ≡ false
  shaped-within w t h = let s = shaped w t h in ap (is_outside blocks) (sym s.token) ∙ s.word.within

  -- the list after a piece, at a block that it isn't
  piece-kept : (cur : List Shape) (p : Piece) (rest : List Token) (b : ℕ) → is_named b (token_of p ∷ rest) ≡ false → (shape_at (shapes_with cur (Some p)) b ≡ shape_at cur b) × (is_named b rest ≡ false)
  piece-kept cur piece.Beside rest b h = (refl, h)
  piece-kept cur piece.Above rest b h = (refl, h)
  piece-kept cur (piece.Block c s) rest b h = elim (eqb_tells c b) [
    | inl p ↦ absurd (let k : true ≡ false = rw p.0 at h in cc)
    | inr p ↦ let k : is_named b rest ≡ false = rw p.0 at h in (get_or-set_other cur c b s no_shape (λ e. p.1 (sym e)), k)
  ]

  -- words that do not name a block leave its shape as it is
  shapes-kept : (ws : List LineWord) (rest : List Token) (cur : List Shape) (b : ℕ) → spelled_by (shaped_token_in blocks) ws ≡ map Some rest → is_named b rest ≡ false → shape_at (shapes_from blocks cur ws) b ≡ shape_at cur b
  shapes-kept [] [] cur b h free = ap (λ z. shape_at z b) (shapes-end blocks cur)
  shapes-kept [] (t ∷ rest) cur b h free = absurd cc
  shapes-kept (w ∷ ws) [] cur b h free = absurd cc
  shapes-kept (w ∷ ws) (t ∷ rest) cur b h free =
      let first : shaped_token_in blocks w.text ≡ Some t = cc in
      let others : spelled_by (shaped_token_in blocks) ws ≡ map Some rest = cc in
      let s = shaped w.text t first in
      let kept = piece-kept cur s.part rest b (ap (λ x. is_named b (x ∷ rest)) s.token ∙ free) in
      ap (λ z. shape_at z b) (shapes-step blocks cur w ws ∙ ap (λ o. shapes_from blocks (shapes_with cur o) ws) s.is)
      ∙ shapes-kept ws rest (shapes_with cur (Some s.part)) b others kept.1 ∙ kept.0

  -- writing the shapes of words keeps the length of the list
  length-shapes : (ws : List LineWord) (cur : List Shape) → length (shapes_from blocks cur ws) ≡ length cur
  length-shapes [] cur = ap length (shapes-end blocks cur)
  length-shapes (w ∷ ws) cur = ap length (shapes-step blocks cur w ws) ∙ length-shapes ws (shapes_with cur (piece_in blocks w.text)) ∙ shapes-same blocks cur (piece_in blocks w.text)

  -- the words are those of the tokens among the shapes that are kept, which are within their limits
  record AreKept (ws : List LineWord) (rest : List Token) (all : List Shape) : Type 0 where
    words : map (λ w. w.text) ws ≡ map (shaped_text all) rest
    sides : (b : ℕ) → is_named b rest ≡ true → IsSide (shape_at all b).w × IsSide (shape_at all b).h

  -- a word that is a piece is what is written of its token with the piece's shape
  word-kept : (w : List ℕ) (p : Piece) (all : List Shape) → IsPiece blocks w p → ((b : ℕ) (s : Shape) → p ≡ piece.Block b s → shape_at all b ≡ s) → w ≡ shaped_text all (token_of p)
  word-kept w piece.Beside all i f = i.text
  word-kept w piece.Above all i f = i.text
  word-kept w (piece.Block b s) all i f = i.text ∙ ap (λ z. decimal b ++ (58 ∷ shape_text z)) (sym (f b s refl))

  -- the sides of a block's shape keep the limit where its word is a piece with that shape
  side-kept : (w : List ℕ) (p : Piece) (rest : List Token) (all : List Shape) (b : ℕ) → IsPiece blocks w p → ((b : ℕ) (s : Shape) → p ≡ piece.Block b s → shape_at all b ≡ s) → (is_named b rest ≡ true → IsSide (shape_at all b).w × IsSide (shape_at all b).h) → is_named b (token_of p ∷ rest) ≡ true → IsSide (shape_at all b).w × IsSide (shape_at all b).h
  side-kept w piece.Beside rest all b i f more h = more h
  side-kept w piece.Above rest all b i f more h = more h
  side-kept w (piece.Block c s) rest all b i f more h = elim (eqb_tells c b) [
    | inl p ↦ subst (λ z. IsSide z.w × IsSide z.h) (sym (ap (shape_at all) (sym p.1) ∙ f c s refl)) i.sides
    | inr p ↦ more (let k : is_named b rest ≡ true = rw p.0 at h in k)
  ]

  -- a piece's shape stands at its block when all later words are read
  piece-written-at : (cur : List Shape) (p : Piece) (ws : List LineWord) (rest : List Token) → length cur ≡ blocks → is_outside blocks (token_of p) ≡ false → spelled_by (shaped_token_in blocks) ws ≡ map Some rest → ((b : ℕ) → count_by (is_block b) (token_of p ∷ rest) ≤ 1) → (b : ℕ) (s : Shape) → p ≡ piece.Block b s → shape_at (shapes_from blocks (shapes_with cur (Some p)) ws) b ≡ s
  piece-written-at cur p ws rest n within others times b s e =
      let same : (b == b) ≡ true = elim (eqb_tells b b) [ inl p ↦ p.0 | inr p ↦ absurd (p.1 refl) ] in
      let t : token_of p ≡ token.Block b = ap token_of e in
      let free : is_named b rest ≡ false = is_named-uncounted b rest (omega (arith, times b, times-cons b (token_of p) rest, ap {B = ℕ} (λ x. cond (is_block b x) 1 0) t, ap {B = ℕ} (λ z. cond z 1 0) same)) in
      shapes-kept ws rest (shapes_with cur (Some p)) b others free
      ∙ ap (λ z. shape_at (shapes_with cur (Some z)) b) e
      ∙ get_or-set_same cur b s no_shape (omega (arith, n, below blocks b (ap (is_outside blocks) (sym t) ∙ within)))

  -- each word is what is written of its token with the shapes of all words
  shapes-written : (ws : List LineWord) (rest : List Token) (cur : List Shape) → length cur ≡ blocks → spelled_by (shaped_token_in blocks) ws ≡ map Some rest → ((b : ℕ) → count_by (is_block b) rest ≤ 1) → AreKept ws rest (shapes_from blocks cur ws)
  shapes-written [] [] cur n h times = record { words = refl; sides = λ b k. absurd cc }
  shapes-written [] (t ∷ rest) cur n h times = absurd cc
  shapes-written (w ∷ ws) [] cur n h times = absurd cc
  shapes-written (w ∷ ws) (t ∷ rest) cur n h times =
      let first : shaped_token_in blocks w.text ≡ Some t = cc in
      let others : spelled_by (shaped_token_in blocks) ws ≡ map Some rest = cc in
      let s = shaped w.text t first in
      let next = shapes_with cur (Some s.part) in
      let step : shapes_from blocks cur (w ∷ ws) ≡ shapes_from blocks next ws = shapes-step blocks cur w ws ∙ ap (λ o. shapes_from blocks (shapes_with cur o) ws) s.is in
      let more = shapes-written ws rest next (shapes-same blocks cur (Some s.part) ∙ n) others (λ b. omega (arith, times b, times-cons b t rest)) in
      let at = piece-written-at cur s.part ws rest n s.word.within others (λ b. subst (λ x. count_by (is_block b) (x ∷ rest) ≤ 1) (sym s.token) (times b)) in
      let word : w.text ≡ shaped_text (shapes_from blocks next ws) t = word-kept w.text s.part (shapes_from blocks next ws) s.word at ∙ ap (shaped_text (shapes_from blocks next ws)) s.token in
      subst (AreKept (w ∷ ws) (t ∷ rest)) (sym step) (record {
        words = cc (word, more.words);
        sides = λ b k. side-kept w.text s.part rest (shapes_from blocks next ws) b s.word at (more.sides b) (ap (λ x. is_named b (x ∷ rest)) s.token ∙ k);
      })

  -- an expression that was put together has the tokens and the shapes that it was made of
  ok-parts : (shapes : List Shape) (r : Result (List Token) ExprFault) (expr : Expr) → (r >>= expr_of_parts shapes) ≡ Ok expr → (r ≡ Ok expr.tokens) × (expr.shapes ≡ shapes)
  ok-parts shapes (Err e) expr h = absurd cc
  ok-parts shapes (Ok ts) expr h =
      let same : ◌≡◌ {A = Expr} (record { tokens = ts; shapes = shapes }) expr = cc in
      (ap (λ (x : Expr). Ok x.tokens) same, ap (λ (x : Expr). x.shapes) (sym same))

  -- a text that is read as an expression spells it
  pub expr-spelled : (text : List ℕ) (expr : Expr) → expr_read blocks text ≡ Ok expr → SpellsExpr blocks text expr
  expr-spelled text expr h =
      let ws = line_words text in
      let start = replicate blocks no_shape in
      let parts = ok-parts (shapes_from blocks start ws) (tokens_from blocks (last_line_of text) (shaped_token_in blocks) [] ws) expr h in
      let s = tokens-known blocks (last_line_of text) (shaped_token_in blocks) shaped-within ws [] expr.tokens (front-start blocks) parts.0 in
      let kept = shapes-written ws expr.tokens start (length-replicate blocks no_shape) (s.words ∙ ap (map Some) (sym s.whole)) (at-most-once blocks expr.tokens s.normal) in
      let n : length expr.shapes ≡ blocks = ap length parts.1 ∙ length-shapes ws start ∙ length-replicate blocks no_shape in
      let side : (b : ℕ) → b < blocks → IsSide (shape_at expr.shapes b).w × IsSide (shape_at expr.shapes b).h = λ b k.
      subst (λ z. IsSide (shape_at z b).w × IsSide (shape_at z b).h) (sym parts.1) (kept.sides b (counted b expr.tokens (omega (arith, s.normal.each_once b k)))) in
      record {
        words = kept.words ∙ ap (λ z. map (shaped_text z) expr.tokens) (sym parts.1);
        writable = record {
          normal = s.normal;
          one_each = n;
          sides = λ k d i. subst (λ (z : Shape). IsSide z.w × IsSide z.h) (get_or_default expr.shapes k no_shape d i) (side k (omega (arith, n)));
        };
      }

  -- ---- and back

  -- what is written of a token is the text of its piece
  piece-text : (shapes : List Shape) (t : Token) → shaped_text shapes t ≡ piece_text (piece_at shapes t)
  piece-text shapes token.Beside = refl
  piece-text shapes token.Above = refl
  piece-text shapes (token.Block b) = refl

  -- a token's piece is of that token
  piece-token : (shapes : List Shape) (t : Token) → token_of (piece_at shapes t) ≡ t
  piece-token shapes token.Beside = refl
  piece-token shapes token.Above = refl
  piece-token shapes (token.Block b) = refl

  -- the sides of a block's piece keep the limit in an expression that can be written
  sides-at : (expr : Expr) → IsWritable blocks expr → (t : Token) → is_outside blocks t ≡ false → piece_sides (piece_at expr.shapes t)
  sides-at expr wr token.Beside h = tt
  sides-at expr wr token.Above h = tt
  sides-at expr wr (token.Block b) h = wr.sides b no_shape (omega (arith, wr.one_each, below blocks b h))

  -- what each word spells, piece by piece
  pieces-again : (expr : Expr) → IsWritable blocks expr → (ws : List LineWord) (rest : List Token) → AllByRecursion (λ t. is_outside blocks t ≡ false) rest → map (λ w. w.text) ws ≡ map (shaped_text expr.shapes) rest → map (λ (w : LineWord). piece_in blocks w.text) ws ≡ map (λ t. Some (piece_at expr.shapes t)) rest
  pieces-again expr wr [] [] inside h = refl
  pieces-again expr wr [] (t ∷ rest) inside h = absurd cc
  pieces-again expr wr (w ∷ ws) [] inside h = absurd cc
  pieces-again expr wr (w ∷ ws) (t ∷ rest) inside h =
      let first : w.text ≡ shaped_text expr.shapes t = cc in
      let others : map (λ w. w.text) ws ≡ map (shaped_text expr.shapes) rest = cc in
      let p = piece_at expr.shapes t in
      let within : is_outside blocks (token_of p) ≡ false = ap (is_outside blocks) (piece-token expr.shapes t) ∙ inside.0 in
      let spelled : piece_in blocks w.text ≡ Some p = ap (piece_in blocks) (first ∙ piece-text expr.shapes t) ∙ piece-written blocks p small within (sides-at expr wr t inside.0) in
      cc (spelled, pieces-again expr wr ws rest inside.1 others)

  -- words that are the pieces of tokens spell these
  pieces-tokens : (shapes : List Shape) (ws : List LineWord) (rest : List Token) → map (λ (w : LineWord). piece_in blocks w.text) ws ≡ map (λ t. Some (piece_at shapes t)) rest → spelled_by (shaped_token_in blocks) ws ≡ map Some rest
  pieces-tokens shapes [] [] h = refl
  pieces-tokens shapes [] (t ∷ rest) h = absurd cc
  pieces-tokens shapes (w ∷ ws) [] h = absurd cc
  pieces-tokens shapes (w ∷ ws) (t ∷ rest) h =
      let first : piece_in blocks w.text ≡ Some (piece_at shapes t) = cc in
      let others : map (λ (w : LineWord). piece_in blocks w.text) ws ≡ map (λ t. Some (piece_at shapes t)) rest = cc in
      let spelled : shaped_token_in blocks w.text ≡ Some t = ap (option_map token_of) first ∙ ap Some (piece-token shapes t) in
      cc (spelled, pieces-tokens shapes ws rest others)

  -- the list so far has the shapes of the blocks that aren't left to read
  abbrev Agrees : List Shape → List Shape → List Token → Type 0
  Agrees cur all rest = (b : ℕ) → b < length all → is_named b rest ≡ false → shape_at cur b ≡ shape_at all b

  -- once a token's shape is written, the list agrees at the tokens behind it
  agrees-next : (cur all : List Shape) (t : Token) (rest : List Token) → length cur ≡ length all → Agrees cur all (t ∷ rest) → Agrees (shapes_with cur (Some (piece_at all t))) all rest
  agrees-next cur all token.Beside rest n a = a
  agrees-next cur all token.Above rest n a = a
  agrees-next cur all (token.Block c) rest n a = λ b h free. elim (eqb_tells c b) [
    | inl p ↦ ap (λ k. shape_at (slice_set cur c (shape_at all c)) k) (sym p.1) ∙ get_or-set_same cur c (shape_at all c) no_shape (omega (arith, p.1, n, h)) ∙ ap (shape_at all) p.1
    | inr p ↦ get_or-set_other cur c b (shape_at all c) no_shape (λ e. p.1 (sym e)) ∙ a b h (rw p.0 free)
  ]

  -- the shapes of words that are the pieces of tokens are those of the list
  shapes-again : (all : List Shape) (ws : List LineWord) (rest : List Token) (cur : List Shape) → length cur ≡ length all → map (λ (w : LineWord). piece_in blocks w.text) ws ≡ map (λ t. Some (piece_at all t)) rest → Agrees cur all rest → shapes_from blocks cur ws ≡ all
  shapes-again all [] [] cur n h a = shapes-end blocks cur ∙ ext_get_or no_shape cur all n (λ b k. a b (omega (arith, n, k)) refl)
  shapes-again all [] (t ∷ rest) cur n h a = absurd cc
  shapes-again all (w ∷ ws) [] cur n h a = absurd cc
  shapes-again all (w ∷ ws) (t ∷ rest) cur n h a =
      let first : piece_in blocks w.text ≡ Some (piece_at all t) = cc in
      let others : map (λ (w : LineWord). piece_in blocks w.text) ws ≡ map (λ t. Some (piece_at all t)) rest = cc in
      let next = shapes_with cur (Some (piece_at all t)) in
      shapes-step blocks cur w ws ∙ ap (λ o. shapes_from blocks (shapes_with cur o) ws) first
      ∙ shapes-again all ws rest next (shapes-same blocks cur (Some (piece_at all t)) ∙ n) others (agrees-next cur all t rest n a)

  -- a text that spells an expression is read as it
  pub spelled-expr : (text : List ℕ) (expr : Expr) → SpellsExpr blocks text expr → expr_read blocks text ≡ Ok expr
  spelled-expr text expr s =
      let ws = line_words text in
      let normal = s.writable.normal in
      let inside = recursion_from_All (λ t. is_outside blocks t ≡ false) expr.tokens normal.no_other in
      let pieces = pieces-again expr s.writable ws expr.tokens inside s.words in
      let tokens = tokens-again blocks (last_line_of text) (shaped_token_in blocks) expr.tokens normal ws [] expr.tokens refl (pieces-tokens expr.shapes ws expr.tokens pieces) in
      let start = replicate blocks no_shape in
      let n : length start ≡ length expr.shapes = length-replicate blocks no_shape ∙ sym s.writable.one_each in
      let each : Agrees start expr.shapes expr.tokens = λ b h free. absurd (omega (arith, normal.each_once b (omega (arith, h, s.writable.one_each)), unnamed b expr.tokens free)) in
      expr-read blocks text expr.tokens expr.shapes tokens (shapes-again expr.shapes ws expr.tokens start n pieces each)
