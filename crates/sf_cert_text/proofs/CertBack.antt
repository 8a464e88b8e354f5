-- The text of a whole certificate is read as the certificate, by its lines one after another.
use Rattle.std.proofs.Common.{◌≡◌, ℕ, ◌+◌, ◌^◌, ◌<◌, List, [], ◌∷◌, ◌++◌, map, All, arith, refl, ap, sym, ◌∙◌, Bool, true, false, Option, Some, None, Ok, Err, append-nil, append_assoc}
use Rattle.sf_cert_text.proofs.Common.{codes, AllByRecursion, decimal, decimal_digit, recursion_from_All, and_parts, lines, is_line_feed, has_none, LineWord, numbered, words_of_lines, last_line_of, Expr, IsWritable, Cert, Path, Paths, Version, Two, first_place, plan_text, header_lines, tag_text, text_of_lines, cert_text, FitsTag, version_in, by_letter, letter_of, line_by, both_read, header_read, tag_by, tags_said, tree_from, tree_read, cert_read, said_by, cost_text, BadTag, HalfTag, Letter, First, Whole, Second, TagSaid, Three, all_lead, FitsPaths, has_no_paths, is_none, paths_if_any, plan_lines, version_text}
use Rattle.sf_cert_text.proofs.HeaderReads.{header-whole, cert-whole}
use Rattle.sf_cert_text.proofs.WrittenBack.{lines-ended, line-append, decimal-line, tags-lines, tags-back}
use Rattle.sf_cert_text.proofs.HeaderBack.{version-back, number-back, cost-back, plan-back, expr-line, cost-line}
use Rattle.sf_cert_text.proofs.PathBack.{both-back, both-line, line_sum, lines-append}

-- the text of a plan has no line feed
plan-line : (blocks : ℕ) (plan : Option Expr) → blocks < 2 ^ 16 → ((expr : Expr) → plan ≡ Some expr → IsWritable blocks expr) → has_none is_line_feed (plan_text plan) ≡ true
plan-line blocks None small wr = refl
plan-line blocks (Some expr) small wr = expr-line blocks expr small (wr expr refl)

-- ---- the two versions that are written

-- the second where there are no paths
abbrev written : Bool → Version
written true = Two
written false = Three

-- the first line says the version
title-back : (paths : Paths) (b : Bool) → has_no_paths paths ≡ b → version_in (codes "slicing-certificate") (codes "slicing-certificate" ++ 32 ∷ version_text paths) ≡ Some (written b)
title-back paths true e =
    rw e (ap (λ v. version_in (codes "slicing-certificate") (codes "slicing-certificate" ++ 32 ∷ v)) (sym (decimal_digit 2 (omega arith)))
    ∙ version-back (codes "slicing-certificate") 2 refl (omega arith) refl (omega arith))
title-back paths false e =
    rw e (ap (λ v. version_in (codes "slicing-certificate") (codes "slicing-certificate" ++ 32 ∷ v)) (sym (decimal_digit 3 (omega arith)))
    ∙ version-back (codes "slicing-certificate") 3 refl (omega arith) refl (omega arith))

-- nor has a version
version-line : (paths : Paths) (b : Bool) → has_no_paths paths ≡ b → has_none is_line_feed (codes "slicing-certificate" ++ 32 ∷ version_text paths) ≡ true
version-line paths true e = rw e refl
version-line paths false e = rw e refl

-- no line of the paths has a line feed
if-any-line : (paths : Paths) (b : Bool) → has_no_paths paths ≡ b → FitsPaths paths → AllByRecursion (λ l. has_none is_line_feed l ≡ true) (paths_if_any paths)
if-any-line paths true e fits = rw e tt
if-any-line paths false e fits = rw e (both-line paths fits)

-- an axis without paths
none-is : (paths : List Path) → is_none paths ≡ true → [] ≡ paths
none-is [] h = refl
none-is (path ∷ paths) h = absurd cc

-- how many lines the paths take
abbrev line_count : Bool → Paths → ℕ
line_count true paths = 0
line_count false paths = line_sum paths

-- the lines of the paths are read as the paths
if-any-back : (last k : ℕ) (paths : Paths) (more : List (List ℕ)) (b : Bool) → has_no_paths paths ≡ b → FitsPaths paths → all_lead paths ≡ true
    → both_read (written b) last (numbered k (paths_if_any paths ++ more)) ≡ Ok (paths, numbered (k + line_count b paths) more)
if-any-back last k paths more true e fits lead =
    let both = and_parts (is_none paths.across) (is_none paths.upward) e in
    let same : k ≡ k + 0 = omega arith in
    rw e (
    ap (λ (a : List Path). let p : Paths = record { across = a; upward = [] } in Ok (p, numbered k more)) (none-is paths.across both.0)
    ∙ ap (λ (u : List Path). let p : Paths = record { across = paths.across; upward = u } in Ok (p, numbered k more)) (none-is paths.upward both.1)
    ∙ ap (λ j. Ok (paths, numbered j more)) same
    )
if-any-back last k paths more false e fits lead = rw e (both-back last k paths more fits lead)

-- what a letter says, where what follows is the same
letter-by : (line : ℕ) (letter : Option Letter) (xs ys : List TagSaid) (f g : Second → List TagSaid) → xs ≡ ys → ((s : Second) → f s ≡ g s) → by_letter line letter xs f ≡ by_letter line letter ys g
letter-by line None xs ys f g e h = ap (λ (ts : List TagSaid). record { line = line; tag = Err (BadTag line) } ∷ ts) e
letter-by line (Some (Whole tag)) xs ys f g e h = ap (λ (ts : List TagSaid). record { line = line; tag = Ok tag } ∷ ts) e
letter-by line (Some (First second)) xs ys f g e h = h second

-- the first words of tags are those of the second version
letter-alike : (word : List ℕ) → letter_of Three word ≡ letter_of Two word
letter-alike [] = refl
letter-alike (b ∷ []) = refl
letter-alike (b ∷ c ∷ word) = refl

-- and so are the tags
tags-alike : (last : ℕ) (words : List LineWord) (half : Option HalfTag) → tags_said Three last half words ≡ tags_said Two last half words
unfolding tags_said
tags-alike last [] None = refl
tags-alike last [] (Some half) = refl
tags-alike last (w ∷ words) (Some half) = ap (λ (ts : List TagSaid). record { line = half.line; tag = tag_by half w.text } ∷ ts) (tags-alike last words None)
tags-alike last (w ∷ words) None =
    ap (λ l. by_letter w.line l (tags_said Three last None words) (λ second. tags_said Three last (Some (record { second = second; line = w.line })) words)) (letter-alike w.text)
    ∙ letter-by w.line (letter_of Two w.text) (tags_said Three last None words) (tags_said Two last None words) (λ second. tags_said Three last (Some (record { second = second; line = w.line })) words) (λ second. tags_said Two last (Some (record { second = second; line = w.line })) words) (tags-alike last words None)
    (λ second. tags-alike last words (Some (record { second = second; line = w.line })))

-- so the tree is read in each
tree-alike : (n last : ℕ) (words : List LineWord) (b : Bool) → tree_read (written b) n last words ≡ tree_read Two n last words
tree-alike n last words true = refl
tree-alike n last words false = ap (tree_from n last (first_place ∷ [])) (tags-alike last words None)

module _ (cert : Cert) (cost : cert.cost < 2 ^ 64) (bound : cert.bound < 2 ^ 64) (paths : FitsPaths cert.paths) (lead : all_lead cert.paths ≡ true) (fits : All FitsTag cert.tags) where
  -- the number of blocks has 16 bits
  small : cert.blocks < 2 ^ 16
  small = omega (arith, cert.form.few_blocks)

  -- whether there are no paths
  abbrev none : Bool
  none = has_no_paths cert.paths

  -- no line before the paths has a line feed
  plan-lines : AllByRecursion (λ l. has_none is_line_feed l ≡ true) (plan_lines cert.blocks cert.plan cert.cost cert.bound cert.paths)
  plan-lines = (
    version-line cert.paths none refl,
    (
      line-append (codes "blocks ") (decimal cert.blocks) refl (decimal-line cert.blocks (omega (arith, small))),
      (
        line-append (codes "cost ") (cost_text cert.cost) refl (cost-line cert.cost cost),
        (
          line-append (codes "bound ") (cost_text cert.bound) refl (cost-line cert.bound bound),
          (line-append (codes "plan ") (plan_text cert.plan) refl (plan-line cert.blocks cert.plan small cert.form.planned), tt),
        ),
      ),
    ),
  )

  -- nor has a line of the header
  header-line : AllByRecursion (λ l. has_none is_line_feed l ≡ true) (header_lines cert.blocks cert.plan cert.cost cert.bound cert.paths)
  header-line =
      lines-append (plan_lines cert.blocks cert.plan cert.cost cert.bound cert.paths) (paths_if_any cert.paths ++ codes "tree" ∷ []) plan-lines
      (lines-append (paths_if_any cert.paths) (codes "tree" ∷ []) (if-any-line cert.paths none refl paths) (refl, tt))

  -- the lines of the tags
  abbrev tls : List (List ℕ)
  tls = map tag_text cert.tags

  -- the lines of the text are those of the header and of the tags
  all-lines : lines (cert_text cert) ≡ plan_lines cert.blocks cert.plan cert.cost cert.bound cert.paths ++ (paths_if_any cert.paths ++ codes "tree" ∷ tls)
  all-lines =
      let hs = header_lines cert.blocks cert.plan cert.cost cert.bound cert.paths in
      let ps = plan_lines cert.blocks cert.plan cert.cost cert.bound cert.paths in
      let one : lines (text_of_lines tls) ≡ tls = ap lines (sym (append-nil (text_of_lines tls))) ∙ lines-ended tls [] (tags-lines cert.tags (recursion_from_All FitsTag cert.tags fits)) ∙ append-nil tls in
      lines-ended hs (text_of_lines tls) header-line ∙ ap (λ (x : List (List ℕ)). hs ++ x) one
      ∙ append_assoc ps (paths_if_any cert.paths ++ codes "tree" ∷ []) tls
      ∙ ap (λ (x : List (List ℕ)). ps ++ x) (append_assoc (paths_if_any cert.paths) (codes "tree" ∷ []) tls)

  -- the text is read as the certificate
  pub cert-back : cert_read cert.blocks (cert_text cert) ≡ Ok (said_by cert)
  cert-back =
      let last = last_line_of (cert_text cert) in
      let n = cert.blocks in
      let next = 6 + line_count none cert.paths + 1 in
      let header : header_read n last (numbered 1 (plan_lines n cert.plan cert.cost cert.bound cert.paths ++ (paths_if_any cert.paths ++ codes "tree" ∷ tls))) ≡ Ok (record { version = written none; plan = cert.plan; cost = cert.cost; bound = cert.bound; paths = cert.paths; others = numbered next tls }) =
      header-whole n last (written none) _ _ _ _ _ _ _ _ cert.cost cert.bound cert.plan cert.paths
      (ap (line_by 1 _) (title-back cert.paths none refl))
      (ap (line_by 2 _) (number-back (codes "blocks") n refl (omega arith) refl (omega (arith, small))))
      (ap (line_by 3 _) (cost-back (codes "cost") cert.cost refl (omega arith) refl cost))
      (ap (line_by 4 _) (cost-back (codes "bound") cert.bound refl (omega arith) refl bound))
      (ap (line_by 5 _) (plan-back n cert.cost cert.plan small cert.form.planned cert.form.unplanned))
      (if-any-back last 6 cert.paths (codes "tree" ∷ tls) none refl paths lead)
      refl in
      cert-whole n (cert_text cert) (record { version = written none; plan = cert.plan; cost = cert.cost; bound = cert.bound; paths = cert.paths; others = numbered next tls }) cert.tags
      (ap (λ ls. header_read n last (numbered 1 ls)) all-lines ∙ header)
      (tree-alike n last (words_of_lines (numbered next tls)) none
      ∙ tags-back n last next cert.tags (first_place ∷ []) (recursion_from_All FitsTag cert.tags fits) cert.form.tree)
