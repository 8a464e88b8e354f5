-- The items after more tokens.
use Rattle.std.proofs.Common.{◌≡◌, ℕ, List, [], ◌∷◌, ◌++◌, refl}
use Rattle.sf_standard.proofs.Common.{Token, Item, read}
use Rattle.sf_polish.specs.declared.expr.Token.TheVariants as token
use Rattle.sf_standard.specs.Items as item

-- tokens that follow others are read from the items that those left
pub read-append : (items : List Item) (xs ys : List Token) → read items (xs ++ ys) ≡ read (read items xs) ys
read-append items [] ys = refl
read-append [] (token.Block b ∷ xs) ys = read-append (item.Block b ∷ []) xs ys
read-append (i ∷ items) (token.Block b ∷ xs) ys = read-append (item.Block b ∷ i ∷ items) xs ys
read-append [] (token.Beside ∷ xs) ys = read-append [] xs ys
read-append (r ∷ []) (token.Beside ∷ xs) ys = read-append (r ∷ []) xs ys
read-append (r ∷ l ∷ items) (token.Beside ∷ xs) ys = read-append (item.Beside l r ∷ items) xs ys
read-append [] (token.Above ∷ xs) ys = read-append [] xs ys
read-append (r ∷ []) (token.Above ∷ xs) ys = read-append (r ∷ []) xs ys
read-append (r ∷ l ∷ items) (token.Above ∷ xs) ys = read-append (item.Above l r ∷ items) xs ys

-- a block becomes the item on top
pub read-block : (items : List Item) (b : ℕ) → read items (token.Block b ∷ []) ≡ item.Block b ∷ items
read-block [] b = refl
read-block (i ∷ items) b = refl
