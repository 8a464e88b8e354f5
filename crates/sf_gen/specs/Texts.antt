-- The three texts of a generated design.
use Rattle.std.specs.Prelude.{ℕ, ◌+◌, ◌*◌, ◌%◌, ◌==◌, Bool, false, not, List, [], ◌∷◌, ◌++◌, length, count_by, sum_by, if◌then◌else◌, codes}
use Rattle.std.specs.Fmt.{decimal}
use Rattle.std.specs.List.{flat_map, range_with_len}
use Rattle.sf_gen.specs.declared.design.Kinds.{Kinds}
use Rattle.sf_gen.specs.declared.design.Kinds.TheVariants.{Hard, Mixed}
use Rattle.sf_gen.specs.declared.drawn.Ends.{Ends}
use Rattle.sf_gen.specs.declared.drawn.Size.{Size}

-- what f gives of each element and its index, which counts from i
abbrev pub indexed : {X Y : Type 0} → (ℕ → X → Y) → ℕ → List X → List Y
indexed f i [] = []
indexed f i (x ∷ xs) = f i x ∷ indexed f (i + 1) xs

-- the name of a block
abbrev pub block_name : ℕ → List ℕ
block_name i = codes "b" ++ decimal i

-- the name of a pad
abbrev pub pad_name : ℕ → List ℕ
pad_name p = codes "p" ++ decimal p

-- ---- blocks

-- with mixed kinds each block of odd number is soft
abbrev pub is_soft : Kinds → ℕ → Bool
is_soft Hard i = false
is_soft Mixed i = i % 2 == 1

-- the corners of a hard block: (0, 0) (0, h) (w, h) (w, 0)
abbrev pub hard_line : ℕ → Size → List ℕ
hard_line i s =
    block_name i ++ (codes " hardrectilinear 4 (0, 0) (0, " ++ (decimal s.h ++ (codes ") (" ++ (decimal s.w ++ (codes ", " ++ (decimal s.h ++ (codes ") (" ++ (decimal s.w ++ codes ", 0)\n"))))))))

-- a soft block has the area of its sides
abbrev pub soft_line : ℕ → Size → List ℕ
soft_line i s = block_name i ++ (codes " softrectangular " ++ (decimal (s.w * s.h) ++ codes " 0.5 2\n"))

-- the line of a block
abbrev pub block_line : Kinds → ℕ → Size → List ℕ
block_line kinds i s = if is_soft kinds i then soft_line i s else hard_line i s

-- how many of n blocks are soft, and how many are hard
abbrev pub soft_count : Kinds → ℕ → ℕ
soft_count kinds n = count_by (is_soft kinds) (range_with_len 0 n)

-- how many blocks are hard
abbrev pub hard_count : Kinds → ℕ → ℕ
hard_count kinds n = count_by (λ i. not (is_soft kinds i)) (range_with_len 0 n)

-- the lines before the blocks
abbrev pub blocks_head : Kinds → ℕ → List ℕ
blocks_head kinds n =
    codes "UCSC blocks 1.0\nNumSoftRectangularBlocks : " ++ (decimal (soft_count kinds n)
    ++ (codes "\nNumHardRectilinearBlocks : " ++ (decimal (hard_count kinds n)
    ++ codes "\nNumTerminals : 4\n")))

-- the lines of the blocks
abbrev pub block_lines : Kinds → List Size → List ℕ
block_lines kinds sizes = flat_map (λ line. line) (indexed (block_line kinds) 0 sizes)

-- the text of the blocks
unfoldable pub blocks_text : Kinds → List Size → List ℕ
blocks_text kinds sizes =
    blocks_head kinds (length sizes) ++ (block_lines kinds sizes ++ codes "p0 terminal\np1 terminal\np2 terminal\np3 terminal\n")

-- ---- nets

-- every third net has a pad
abbrev pub pad_pins : ℕ → List (List ℕ)
pad_pins j = if j % 3 == 0 then pad_name (j % 4) ∷ [] else []

-- the names of the pins of a net
abbrev pub pins_of : ℕ → Ends → List (List ℕ)
pins_of j e = block_name e.a ∷ block_name e.b ∷ pad_pins j

-- the pins of each net
abbrev pub nets_pins : List Ends → List (List (List ℕ))
nets_pins ends = indexed pins_of 0 ends

-- the lines of the pins
abbrev pub pin_lines : List (List ℕ) → List ℕ
pin_lines [] = []
pin_lines (name ∷ more) = name ++ (codes " B\n" ++ pin_lines more)

-- the lines of a net
abbrev pub net_lines : List (List ℕ) → List ℕ
net_lines pins = codes "NetDegree : " ++ (decimal (length pins) ++ (codes "\n" ++ pin_lines pins))

-- the lines before the nets
abbrev pub nets_head : List (List (List ℕ)) → List ℕ
nets_head nets = codes "UCLA nets 1.0\nNumNets : " ++ (decimal (length nets) ++ (codes "\nNumPins : " ++ (decimal (sum_by length nets) ++ codes "\n")))

-- the text of the nets
unfoldable pub nets_text : List Ends → List ℕ
nets_text ends = nets_head (nets_pins ends) ++ flat_map net_lines (nets_pins ends)

-- ---- places

-- the pads stand at the corners of a square
abbrev pub square : ℕ → ℕ
square n = 16 * n

-- the text of the places
unfoldable pub pl_text : ℕ → List ℕ
pl_text n =
    codes "UCLA pl 1.0\np0 0 0\np1 " ++ (decimal (square n) ++ (codes " 0\np2 0 " ++ (decimal (square n)
    ++ (codes "\np3 " ++ (decimal (square n) ++ (codes " " ++ (decimal (square n) ++ codes "\n")))))))
