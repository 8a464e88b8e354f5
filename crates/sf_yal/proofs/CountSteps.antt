-- What is counted of statements one after another, as the loop takes their pieces.
use Rattle.std.proofs.Common.{◌≡◌, ℕ, ◌+◌, List, [], ◌∷◌, refl, sym, ap, ◌∙◌}
use Rattle.sf_yal.proofs.Common.{words, is_blank_byte, pieces, feeds, statements, Counting, counted, counted_all}
use Rattle.sf_yal.proofs.StatementSteps.{filled}

-- what is counted with the words of all pieces but the last
unfoldable pub counted_pieces : ℕ → Counting → List (List ℕ) → Counting
counted_pieces scale c [] = c
counted_pieces scale c (piece ∷ []) = c
counted_pieces scale c (piece ∷ next ∷ more) = counted_pieces scale (counted scale c (words is_blank_byte piece)) (next ∷ more)

-- these are the statements, whatever the lines
pub by_pieces : (scale n : ℕ) (c : Counting) (all : List (List ℕ)) → counted_all scale c (statements n all) ≡ counted_pieces scale c all
unfolding counted_all counted_pieces
by_pieces scale n c [] = refl
by_pieces scale n c (piece ∷ []) = refl
by_pieces scale n c (piece ∷ next ∷ more) = by_pieces scale (n + feeds piece) (counted scale c (words is_blank_byte piece)) (next ∷ more)

module _ (scale : ℕ) (c : Counting) where
  -- a piece that is counted leaves what is counted in all
  pub counts_on : (rest piece after : List ℕ) (next total : Counting) → pieces rest ≡ piece ∷ pieces after → next ≡ counted scale c (words is_blank_byte piece)
      → counted_pieces scale c (pieces rest) ≡ total → counted_pieces scale next (pieces after) ≡ total
  unfolding counted_pieces
  counts_on rest piece after next total cut said so_far =
      let here : counted_pieces scale c (pieces rest) ≡ counted_pieces scale (counted scale c (words is_blank_byte piece)) (pieces after) = rw (cut, (filled after).is) refl in
      ap (λ (x : Counting). counted_pieces scale x (pieces after)) said ∙ sym here ∙ so_far

  -- where no statement is left, all is counted
  pub counts_all : (rest : List ℕ) (total : Counting) → pieces rest ≡ rest ∷ [] → counted_pieces scale c (pieces rest) ≡ total → c ≡ total
  unfolding counted_pieces
  counts_all rest total whole so_far = let here : counted_pieces scale c (pieces rest) ≡ c = rw whole refl in sym here ∙ so_far
