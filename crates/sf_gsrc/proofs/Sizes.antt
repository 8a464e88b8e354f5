-- Each block of a blocks file has a size.
use Rattle.std.proofs.Common.{◌≡◌, ◌<◌, ℕ, false, List, [], ◌∷◌, Option, Some, None, Ok, sym, subst, arith, nat_lt, ◌*◌, ◌==◌, ◌||◌}
use Rattle.sf_gsrc.proofs.Common.{length, All, AllZip, nat_tests, or_parts, All-nil, All-cons, All-same, Line, words, is_gap, first_word, after_word, Blanks, Points, RawBlock, IsSized, LineFault, Counted, GsrcBlocks, form_of, map_err, Item, BlockIs, PadIs, area_in_word, aspect_in_word, count_in_word, vertex_fault, soft_said, box_said, hard_said, form_said, plain_said, counted_by, Entry, Said, CountIs, ItemIs, blocks_in, SaysBy, SaysEntry, StandsFor, BadLine, box_read, BoxSize}
use Rattle.sf_gsrc.specs.declared.keywords.Form.{Form}
use Rattle.sf_gsrc.specs.declared.keywords.Form.TheVariants as forms
use Rattle.sf_gsrc.proofs.Results.{bind_ok, done, ok_is, err_not_ok, unless_ok}

-- a block has a size
abbrev ItemSized : Item → Type 0
ItemSized (BlockIs block) = IsSized block.kind
ItemSized (PadIs name) = Unit {0}

-- a number that does not equal 0 is above it
some_size : (n : ℕ) → (n == 0) ≡ false → 0 < n
some_size n e = grind (arith, nat_tests)

-- an item that equals a sized one is sized
sized_as : (made item : Item) → done {E = LineFault} made ≡ done item → ItemSized made → ItemSized item
sized_as made item e h = subst (λ (x : Item). ItemSized x) (ok_is {E = LineFault} made item e) h

-- ---- what a line says

-- the block of a soft line has a size
soft_sized : (scale : ℕ) (name : List ℕ) (rest : List (List ℕ)) (item : Item) → soft_said scale name rest ≡ Ok item → ItemSized item
unfolding soft_said
soft_sized scale name [] item h = absurd (err_not_ok BadLine item h)
soft_sized scale name (area ∷ []) item h = absurd (err_not_ok BadLine item h)
soft_sized scale name (area ∷ min ∷ []) item h = absurd (err_not_ok BadLine item h)
soft_sized scale name (area ∷ min ∷ max ∷ more) item h =
    let a = bind_ok (area_in_word scale area) _ item h in
    let low = bind_ok (aspect_in_word min) _ item a.2 in
    let high = bind_ok (aspect_in_word max) _ item low.2 in
    let some = unless_ok (a.0 == 0) _ _ item high.2 in
    sized_as _ item some.1 (some_size a.0 some.0)

-- the block of a box has a size
box_sized : (name : List ℕ) (size : BoxSize) (item : Item) → box_said name size ≡ Ok item → ItemSized item
box_sized name size item h =
    let some = unless_ok ((size.w == 0) || (size.h == 0)) _ _ item h in
    let both = or_parts (size.w == 0) (size.h == 0) some.0 in
    sized_as _ item some.1 (some_size size.w both.0, some_size size.h both.1)

-- the block of a hard line has a size
hard_sized : (scale : ℕ) (name : List ℕ) (rest : List (List ℕ)) (item : Item) → hard_said scale name rest ≡ Ok item → ItemSized item
unfolding hard_said
hard_sized scale name [] item h = absurd (err_not_ok BadLine item h)
hard_sized scale name (count ∷ places) item h =
    let k = bind_ok (count_in_word count) _ item h in
    let box = unless_ok ((k.0 == 0) || nat_lt (length places) (2 * k.0)) _ _ item k.2 in
    let size = bind_ok (map_err vertex_fault (box_read scale k.0 places)) (box_said name) item box.1 in
    box_sized name size.0 item size.2

-- what a line says has a size, whatever its form
form_sized : (scale : ℕ) (name rest : List ℕ) (form : Option Form) (item : Item) → form_said scale name rest form ≡ Ok item → ItemSized item
form_sized scale name rest None item h = absurd (err_not_ok BadLine item h)
form_sized scale name rest (Some forms.Soft) item h = soft_sized scale name (words (is_gap Blanks) rest) item h
form_sized scale name rest (Some forms.Hard) item h = hard_sized scale name (words (is_gap Points) rest) item h
form_sized scale name rest (Some forms.Terminal) item h = sized_as (PadIs name) item h tt

-- what a line without a count says has a size
pub plain_sized : (scale : ℕ) (line : List ℕ) (item : Item) → plain_said scale line ≡ Ok item → ItemSized item
unfolding plain_said
plain_sized scale line item h = form_sized scale (first_word Blanks line) (after_word Blanks (after_word Blanks line)) (form_of (first_word Blanks (after_word Blanks line))) item h

-- ---- what all lines say

-- the block that is said, if one is, has a size
abbrev SaidSized : Said → Type 0
SaidSized (CountIs k n) = Unit {0}
SaidSized (ItemIs item) = ItemSized item

-- what a line says has a size, whether it counts or not
said_sized : (scale : ℕ) (line : Line) (said : Said) (o : Option Counted) → SaysBy scale line said o → SaidSized said
said_sized scale line said None s = subst (λ (x : Said). SaidSized x) (sym s.2) (plain_sized scale line.bytes s.0 s.1)
said_sized scale line said (Some which) s = subst (λ (x : Said). SaidSized x) (sym s.2) tt

-- blocks with one more that has a size in front have sizes
one_sized : (n : ℕ) (said : Said) (more : List Entry) → SaidSized said → All (λ b. IsSized b.kind) (blocks_in more)
    → All (λ b. IsSized b.kind) (blocks_in (record { number = n; said = said } ∷ more))
one_sized n (CountIs k m) more s h = h
one_sized n (ItemIs (BlockIs block)) more s h = All-cons (λ (b : RawBlock). IsSized b.kind) block (blocks_in more) s h
one_sized n (ItemIs (PadIs name)) more s h = h

-- the blocks of lines that each say an entry have sizes
all_sized : (scale : ℕ) (lines : List Line) (entries : List Entry) → AllZip (SaysEntry scale) lines entries → All (λ b. IsSized b.kind) (blocks_in entries)
all_sized scale [] [] each = All-nil (λ (b : RawBlock). IsSized b.kind)
all_sized scale [] (e ∷ entries) each = absurd each
all_sized scale (line ∷ lines) [] each = absurd each
all_sized scale (line ∷ lines) (e ∷ entries) each =
    one_sized e.number e.said entries (said_sized scale line e.said (counted_by line.bytes) each.0.1) (all_sized scale lines entries each.1)

-- the blocks for which a text stands have sizes
pub blocks_sized : (scale : ℕ) (text : List ℕ) (out : GsrcBlocks) → StandsFor scale text out → All (λ b. IsSized b.kind) out.blocks
blocks_sized scale text out s = All-same (λ (b : RawBlock). IsSized b.kind) out.blocks (blocks_in s.entries) s.blocks (all_sized scale s.others s.entries s.each)
