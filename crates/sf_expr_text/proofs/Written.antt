-- Words that are written one behind another.
use Rattle.std.proofs.Common.{◌≡◌, ℕ, ◌+◌, ◌<◌, List, [], ◌∷◌, ◌++◌, length, take, get_or, map, append_assoc, append-nil, arith, refl, ap, sym, ◌∙◌}
use Rattle.sf_expr_text.proofs.Common.{join_with_byte, take_more, map-append, length-map, length-take, Shape, Token, shaped_text}

-- one word more, behind a space
pub joined-push : (words : List (List ℕ)) (word : List ℕ) → 0 < length words → join_with_byte 32 (words ++ word ∷ []) ≡ join_with_byte 32 words ++ (32 ∷ word)
joined-push [] word h = absurd (omega arith)
joined-push (x ∷ []) word h = refl
joined-push (x ∷ y ∷ words) word h =
    ap (λ z. x ++ (32 ∷ z)) (joined-push (y ∷ words) word (omega arith)) ∙ sym (append_assoc x (32 ∷ join_with_byte 32 (y ∷ words)) (32 ∷ word))

-- the text of the first tokens
abbrev pub text_of : List Shape → List Token → List ℕ
text_of shapes tokens = join_with_byte 32 (map (shaped_text shapes) tokens)

module _ (shapes : List Shape) (tokens : List Token) (i : ℕ) (t : Token) (h : i < length tokens) (old text : List ℕ) (e : text ≡ old ++ text_of shapes (take i tokens)) where
  -- the words of one token more are those so far and the token's word
  words-more : map (shaped_text shapes) (take (i + 1) tokens) ≡ map (shaped_text shapes) (take i tokens) ++ shaped_text shapes (get_or tokens i t) ∷ []
  words-more = ap (map (shaped_text shapes)) (take_more tokens i t h) ∙ map-append (shaped_text shapes) (take i tokens) (get_or tokens i t ∷ [])

  -- the first word begins the text
  pub text-first : (front : List ℕ) → i ≡ 0 → front ≡ text → front ++ shaped_text shapes (get_or tokens i t) ≡ old ++ text_of shapes (take (i + 1) tokens)
  text-first front z same =
      let none : take i tokens ≡ [] = ap (λ n. take n tokens) z in
      ap (λ x. x ++ shaped_text shapes (get_or tokens i t)) (same ∙ e ∙ ap (λ x. old ++ text_of shapes x) none ∙ append-nil old)
      ∙ ap (λ x. old ++ x) (sym (ap (join_with_byte 32) words-more ∙ ap (λ x. join_with_byte 32 (map (shaped_text shapes) x ++ shaped_text shapes (get_or tokens i t) ∷ [])) none))

  -- a further word goes behind a space
  pub text-next : (front : List ℕ) → 0 < i → front ≡ text ++ 32 ∷ [] → front ++ shaped_text shapes (get_or tokens i t) ≡ old ++ text_of shapes (take (i + 1) tokens)
  text-next front some spaced =
      let words = map (shaped_text shapes) (take i tokens) in
      let word = shaped_text shapes (get_or tokens i t) in
      ap (λ x. x ++ word) spaced
      ∙ append_assoc text (32 ∷ []) word
      ∙ ap (λ x. x ++ (32 ∷ word)) e
      ∙ append_assoc old (join_with_byte 32 words) (32 ∷ word)
      ∙ ap (λ x. old ++ x) (sym (ap (join_with_byte 32) words-more ∙ joined-push words word (omega (arith, length-map {A = Token} {B = List ℕ}, length-take {A = Token}))))
