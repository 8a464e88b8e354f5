-- Which tags spell a tree, by the number of blocks alone.
use Rattle.std.specs.Prelude.{ℕ, suc, ◌+◌, ◌-◌, ◌*◌, List, [], ◌∷◌, ◌++◌, length, replicate, Bool, true, false, not, ◌&&◌, ◌==◌, nat_le, nat_lt, if◌then◌else◌}
use Rattle.sf_polish.specs.declared.expr.Token.{Token}
use Rattle.sf_polish.specs.declared.expr.Token.TheVariants as token
use Rattle.sf_polish.specs.Normal.{operands, operators}
use Rattle.sf_node.specs.Parts.{Parts}
use Rattle.sf_certificate.specs.declared.place.Ending.{Ending}
use Rattle.sf_certificate.specs.declared.place.Ending.TheVariants.{Block, Beside, Above}
use Rattle.sf_certificate.specs.declared.place.Place.{Place}
use Rattle.sf_certificate.specs.declared.tag.Tag.{Tag}
use Rattle.sf_certificate.specs.declared.tag.Tag.TheVariants.{Extend, Split, Closed, Open}

-- what a token ends in
abbrev pub ending_of : Token → Ending
ending_of token.Beside = Beside
ending_of token.Above = Above
ending_of (token.Block b) = Block

-- what tokens end in, and e where there are none
abbrev pub ending_or : Ending → List Token → Ending
ending_or e [] = e
ending_or e (t ∷ ts) = ending_or (ending_of t) ts

-- where a subproblem stands
abbrev pub place_of : Parts → Place
place_of node = record { depth = length node.steps; operands = operands node.tokens; operators = operators node.tokens; ending = ending_or Block node.tokens }

-- the place of the root
abbrev pub first_place : Place
first_place = record { depth = 0; operands = 0; operators = 0; ending = Block }

-- tokens end in Beside
abbrev pub is_beside : Ending → Bool
is_beside Block = false
is_beside Beside = true
is_beside Above = false

-- tokens end in Above
abbrev pub is_above : Ending → Bool
is_above Block = false
is_above Beside = false
is_above Above = true

-- the operands leave two items at least
abbrev pub has_two : Place → Bool
has_two place = nat_le (place.operators + 2) place.operands

-- whether an operator may come next: it never stands right after its like
abbrev pub may_beside : Place → Bool
may_beside place = has_two place && not (is_beside place.ending)

-- the same of Above
abbrev pub may_above : Place → Bool
may_above place = has_two place && not (is_above place.ending)

-- the place after one more operator, or one more block
abbrev pub after_operator : Ending → Place → Place
after_operator e place = record { depth = suc place.depth; operands = place.operands; operators = suc place.operators; ending = e }

-- the place after one more block
abbrev pub after_block : Place → Place
after_block place = record { depth = suc place.depth; operands = suc place.operands; operators = place.operators; ending = Block }

-- the place one step deeper, with the same tokens
abbrev pub one_deeper : Place → Place
one_deeper place = record place { depth = suc place.depth }

-- the place, where the test holds
abbrev pub when_so : Bool → Place → List Place
when_so true place = place ∷ []
when_so false place = []

-- all tokens are there: one fewer than twice the blocks
abbrev pub is_full : ℕ → Place → Bool
is_full n place = place.operands + place.operators + 1 == 2 * n

-- the children of an Extend among n blocks: one for each operator that may come next, and one for each block that isn't there yet
abbrev pub extended_places : ℕ → Place → List Place
extended_places n place = when_so (may_beside place) (after_operator Beside place) ++ when_so (may_above place) (after_operator Above place) ++ replicate (n - place.operands) (after_block place)

-- the places right under a tag: none where all tokens are there, two halves of a split, and none under a leaf
abbrev pub places_under : ℕ → Tag → Place → List Place
places_under n Extend place = if is_full n place then [] else extended_places n place
places_under n (Split b) place = one_deeper place ∷ one_deeper place ∷ []
places_under n (Closed p) place = []
places_under n Open place = []

-- the tags spell, in preorder, one tree for each of the places, and none stands at depth 3,200 or deeper
abbrev pub spell_trees : ℕ → List Place → List Tag → Bool
spell_trees n [] [] = true
spell_trees n [] (tag ∷ tags) = false
spell_trees n (place ∷ places) [] = false
spell_trees n (place ∷ places) (tag ∷ tags) = nat_lt place.depth 3200 && spell_trees n (places_under n tag place ++ places) tags

-- the tags spell one tree
abbrev pub spell_tree : ℕ → List Tag → Bool
spell_tree n tags = spell_trees n (first_place ∷ []) tags
