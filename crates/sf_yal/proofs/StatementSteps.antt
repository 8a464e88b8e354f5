-- Statements one after another, as the loop takes them.
use Rattle.std.proofs.Common.{◌≡◌, inl, inr, ℕ, ◌+◌, List, [], ◌∷◌, Result, Ok, refl, sym, ap, ◌∙◌, subst}
use Rattle.sf_yal.proofs.Common.{onto_first, cases_Bool, words, is_blank_byte, YalFault, ◌>>=◌, is_semicolon, pieces, feeds, statement_at, statements, last_piece, Reading, Fails, after_words, after_statement, after_statements}
use Rattle.sf_yal.proofs.Stepping.{Fails-then}

-- there is a piece
pub record Filled (xs : List (List ℕ)) : Type 0 where
  pub first : List ℕ
  pub more : List (List ℕ)
  pub is : xs ≡ first ∷ more

-- a byte more leaves a piece
onto_filled : (b : ℕ) (xs : List (List ℕ)) → Filled xs → Filled (onto_first b xs)
onto_filled b xs f = record { first = b ∷ f.first; more = f.more; is = rw f.is refl }

-- bytes have a piece
pub filled : (bytes : List ℕ) → Filled (pieces bytes)
filled [] = record { first = []; more = []; is = refl }
filled (b ∷ bytes) = elim (cases_Bool (is_semicolon b)) [
  | inl e ↦ record { first = []; more = pieces bytes; is = rw e refl }
  | inr e ↦ let g = onto_filled b (pieces bytes) (filled bytes) in record { first = g.first; more = g.more; is = rw e g.is }
]

-- behind a piece the last one stays the last
pub last_goes_on : (rest piece after last : List ℕ) → pieces rest ≡ piece ∷ pieces after → last_piece (pieces rest) ≡ last → last_piece (pieces after) ≡ last
last_goes_on rest piece after last cut so_far = let here : last_piece (pieces rest) ≡ last_piece (pieces after) = rw (cut, (filled after).is) refl in sym here ∙ so_far

module _ (scale n : ℕ) (r : Reading) (rest piece after : List ℕ) (total : Result Reading YalFault) where
  -- the first statement, and those behind it
  split : pieces rest ≡ piece ∷ pieces after → after_statements scale r (statements n (pieces rest))
      ≡ (after_statement scale r (statement_at n piece) >>= λ next. after_statements scale next (statements (n + feeds piece) (pieces after)))
  unfolding after_statements
  split cut = rw (cut, (filled after).is) refl

  -- a statement that is read leaves what is read in all
  pub goes_on : (line : ℕ) (new : Reading) → pieces rest ≡ piece ∷ pieces after → line ≡ (statement_at n piece).line → after_words scale r line (words is_blank_byte piece) ≡ Ok new
      → after_statements scale r (statements n (pieces rest)) ≡ total → after_statements scale new (statements (n + feeds piece) (pieces after)) ≡ total
  goes_on line new cut at said so_far =
      let here : after_statement scale r (statement_at n piece) ≡ Ok new = ap (λ (k : ℕ). after_words scale r k (words is_blank_byte piece)) (sym at) ∙ said in
      let next = λ (x : Reading). after_statements scale x (statements (n + feeds piece) (pieces after)) in
      sym (split cut ∙ ap (λ (read : Result Reading YalFault). read >>= next) here) ∙ so_far

  -- its fault is the fault of all
  pub fails : (line : ℕ) (fault : YalFault) → pieces rest ≡ piece ∷ pieces after → line ≡ (statement_at n piece).line → Fails fault (after_words scale r line (words is_blank_byte piece))
      → after_statements scale r (statements n (pieces rest)) ≡ total → Fails fault total
  fails line fault cut at failed so_far =
      let next = λ (x : Reading). after_statements scale x (statements (n + feeds piece) (pieces after)) in
      let here : Fails fault (after_statement scale r (statement_at n piece)) = subst (λ (k : ℕ). Fails fault (after_words scale r k (words is_blank_byte piece))) at failed in
      subst (λ (read : Result Reading YalFault). Fails fault read) (sym (split cut) ∙ so_far) (Fails-then next fault (after_statement scale r (statement_at n piece)) here)

-- where no statement is left, all is read
pub is_done : (scale n : ℕ) (r : Reading) (rest : List ℕ) (total : Result Reading YalFault) → pieces rest ≡ rest ∷ [] → after_statements scale r (statements n (pieces rest)) ≡ total → total ≡ Ok r
unfolding after_statements
is_done scale n r rest total whole so_far = let here : after_statements scale r (statements n (pieces rest)) ≡ Ok r = rw whole refl in sym so_far ∙ here

-- and the last piece is left
pub last_done : (rest last : List ℕ) → pieces rest ≡ rest ∷ [] → last_piece (pieces rest) ≡ last → rest ≡ last
last_done rest last whole so_far = let here : last_piece (pieces rest) ≡ rest = rw whole refl in sym here ∙ so_far
