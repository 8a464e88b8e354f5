-- The header of a text, read line by line.
use Rattle.std.proofs.Common.{◌≡◌, ℕ, List, drop, refl, ap, ◌∙◌, Option, Result, Ok, Err, IfOk}
use Rattle.sf_lex.specs.Results.{◌>>=◌}
use Rattle.sf_cert_text.proofs.Common.{codes, Cursor, lines, line_at, Line, numbered, numbered_rest, words_of_lines, last_line_of, Expr, Tag, Version, Paths, Header, version_in, number_in, cost_in, plan_in, word_in, line_read, both_read, header_read, tree_read, cert_read, Said, CertFault}

-- lines that stand as shown
pub header-whole : (blocks last : ℕ) (v : Version) (l0 l1 l2 l3 l4 l5 l6 l7 : List Line) (cost bound : ℕ) (plan : Option Expr) (paths : Paths) → line_read last (version_in (codes "slicing-certificate")) l0 ≡ Ok (v, l1) → line_read last (number_in (codes "blocks") blocks) l1 ≡ Ok (blocks, l2) → line_read last (cost_in (codes "cost")) l2 ≡ Ok (cost, l3) → line_read last (cost_in (codes "bound")) l3 ≡ Ok (bound, l4) → line_read last (plan_in blocks cost) l4 ≡ Ok (plan, l5) → both_read v last l5 ≡ Ok (paths, l6) → line_read last (word_in (codes "tree")) l6 ≡ Ok (codes "tree", l7) → header_read blocks last l0 ≡ Ok (record { version = v; plan = plan; cost = cost; bound = bound; paths = paths; others = l7 })
unfolding header_read
header-whole blocks last v l0 l1 l2 l3 l4 l5 l6 l7 cost bound plan paths a b c d f g h = rw (a, b, c, d, f, g, h) refl

-- a scan at the first byte has all lines before it
pub start-lines : (at : Cursor) (text : List ℕ) → at.source ≡ text → at.from ≡ 0 → numbered_rest at ≡ numbered 1 (lines text)
start-lines at text e z =
    ap (λ n. numbered (line_at at.source n) (lines (drop n at.source))) z ∙ ap (λ s. numbered 1 (lines s)) e

-- a tree behind a header
pub cert-whole : (blocks : ℕ) (text : List ℕ) (header : Header) (tags : List Tag) → header_read blocks (last_line_of text) (numbered 1 (lines text)) ≡ Ok header → tree_read header.version blocks (last_line_of text) (words_of_lines header.others) ≡ Ok tags → cert_read blocks text ≡ Ok (record { blocks = blocks; plan = header.plan; cost = header.cost; bound = header.bound; paths = header.paths; tags = tags })
unfolding cert_read
cert-whole blocks text header tags a h = rw (a, h) refl

-- whatever the tree says, the paths are those of the header
tree-paths : (blocks : ℕ) (header : Header) (tree : Result (List Tag) CertFault) → IfOk (tree >>= λ tags. Ok (record { blocks = blocks; plan = header.plan; cost = header.cost; bound = header.bound; paths = header.paths; tags = tags })) (λ (said : Said). said.paths ≡ header.paths)
tree-paths blocks header (Ok tags) = refl
tree-paths blocks header (Err e) = tt

-- a text whose header was read says the paths of the header, if it says a certificate
pub header-paths : (blocks : ℕ) (text : List ℕ) (header : Header) → header_read blocks (last_line_of text) (numbered 1 (lines text)) ≡ Ok header → IfOk (cert_read blocks text) (λ said. said.paths ≡ header.paths)
unfolding cert_read
header-paths blocks text header a = rw a (tree-paths blocks header (tree_read header.version blocks (last_line_of text) (words_of_lines header.others)))
