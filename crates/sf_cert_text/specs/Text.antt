-- The text of a certificate, of the second version, or of the third where it has paths: a header, and one line for each tag in
-- preorder.
use Rattle.std.specs.Prelude.{◌≡◌, ℕ, ◌<◌, ◌≤◌, ◌^◌, ⊤, List, [], ◌∷◌, ◌++◌, length, map, take, codes, Option, Some, None, if◌then◌else◌}
use Rattle.std.specs.List.{flat_map}
use Rattle.std.specs.Fmt.{decimal}
use Rattle.sf_model.specs.CostText.{cost_text}
use Rattle.sf_polish.specs.declared.expr.Expr.{Expr}
use Rattle.sf_expr_text.specs.Text.{expr_text}
use Rattle.sf_node.specs.declared.part.Part.{Part}
use Rattle.sf_node.specs.declared.part.Part.TheVariants.{Area, Range, Pair, Hull, Full}
use Rattle.sf_certificate.specs.declared.cert.Cert.{Cert}
use Rattle.sf_model.specs.declared.paths.Paths.{Paths}
use Rattle.sf_cert_text.specs.Paths.{has_no_paths, path_lines}
use Rattle.sf_certificate.specs.declared.tag.Tag.{Tag}
use Rattle.sf_certificate.specs.declared.tag.Tag.TheVariants.{Extend, Split, Closed, Open}

-- the expression of a plan, and `none` where there is none
abbrev pub plan_text : Option Expr → List ℕ
plan_text None = codes "none"
plan_text (Some expr) = expr_text expr

-- what stands behind a word, with one space between
abbrev pub labelled : List ℕ → List ℕ → List ℕ
labelled label value = label ++ 32 ∷ value

-- the version that is written: the second where there are no paths
abbrev pub version_text : Paths → List ℕ
version_text paths = if has_no_paths paths then codes "2" else codes "3"

-- the lines before the paths
abbrev pub plan_lines : ℕ → Option Expr → ℕ → ℕ → Paths → List (List ℕ)
plan_lines blocks plan cost bound paths =
    labelled (codes "slicing-certificate") (version_text paths)
    ∷ labelled (codes "blocks") (decimal blocks)
    ∷ labelled (codes "cost") (cost_text cost)
    ∷ labelled (codes "bound") (cost_text bound)
    ∷ labelled (codes "plan") (plan_text plan)
    ∷ []

-- the lines of the paths, where there are paths
abbrev pub paths_if_any : Paths → List (List ℕ)
paths_if_any paths = if has_no_paths paths then [] else path_lines paths

-- the lines before the tree
abbrev pub header_lines : ℕ → Option Expr → ℕ → ℕ → Paths → List (List ℕ)
header_lines blocks plan cost bound paths = plan_lines blocks plan cost bound paths ++ (paths_if_any paths ++ codes "tree" ∷ [])

-- the letter of a part
abbrev pub part_text : Part → List ℕ
part_text Area = codes "a"
part_text Range = codes "r"
part_text Pair = codes "p"
part_text Hull = codes "h"
part_text Full = codes "f"

-- `E`, `S b`, `C` and the letter of the part, or `O`
abbrev pub tag_text : Tag → List ℕ
tag_text Extend = codes "E"
tag_text (Split b) = labelled (codes "S") (decimal b)
tag_text (Closed p) = labelled (codes "C") (part_text p)
tag_text Open = codes "O"

-- the first n of these bytes are the line of a tag; of a split there are none
abbrev pub IsShortLine : Tag → List ℕ → ℕ → Type 0
IsShortLine (Split b) line n = n ≡ 0
IsShortLine tag line n = (n ≤ length line) × (take n line ≡ tag_text tag ++ 10 ∷ [])

-- LF ends each line
abbrev pub text_of_lines : List (List ℕ) → List ℕ
text_of_lines lines = flat_map (λ line. line ++ 10 ∷ []) lines

-- the lines of the tags
abbrev pub tags_text : List Tag → List ℕ
tags_text tags = text_of_lines (map tag_text tags)

-- the whole text
abbrev pub cert_text : Cert → List ℕ
cert_text cert = text_of_lines (header_lines cert.blocks cert.plan cert.cost cert.bound cert.paths) ++ tags_text cert.tags

-- the block of a split is a number of 16 bits
abbrev pub FitsTag : Tag → Type 0
FitsTag Extend = ⊤
FitsTag (Split b) = b < 2 ^ 16
FitsTag (Closed p) = ⊤
FitsTag Open = ⊤
