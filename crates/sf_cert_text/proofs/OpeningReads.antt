-- A text whose header is there is read as the header and the bytes behind it.
use Rattle.std.proofs.Common.{◌≡◌, ℕ, suc, ◌+◌, List, [], ◌∷◌, ◌++◌, length, arith, refl, ap, sym, ◌∙◌, append_assoc, append-nil, Result, Ok, Err}
use Rattle.sf_cert_text.proofs.Common.{AllByRecursion, count_by, is_line_feed, lines, Line, numbered, words_of_line, words_of_lines, last_word_line, last_line_of, CertFault, Tag, Header, header_read, tree_read, cert_read, IsHeader, IsOther, first_byte, bytes_on, said_with, flat_map-append}
use Rattle.sf_cert_text.proofs.ByteReads.{last-append}
use Rattle.sf_cert_text.proofs.TreeLine.{header-ends, with_lines}

-- ---- the whole text

-- lines behind others go on in number
numbered-append : (n : ℕ) (first second : List (List ℕ)) → numbered n (first ++ second) ≡ numbered n first ++ numbered (n + length first) second
numbered-append n [] second = let same : n ≡ n + 0 = omega arith in ap (λ k. numbered k second) same
numbered-append n (l ∷ first) second =
    let same : n + 1 + length first ≡ n + suc (length first) = omega arith in
    ap (λ ls. record { number = n; bytes = l } ∷ ls) (numbered-append (n + 1) first second ∙ ap (λ k. numbered (n + 1) first ++ numbered k second) same)

-- a header and a tree are read as a certificate
said-read : (blocks : ℕ) (text : List ℕ) (header : Header) (r : Result (List Tag) CertFault) → header_read blocks (last_line_of text) (numbered 1 (lines text)) ≡ Ok header → tree_read header.version blocks (last_line_of text) (words_of_lines header.others) ≡ r
    → cert_read blocks text ≡ said_with blocks (record { version = header.version; plan = header.plan; cost = header.cost; bound = header.bound; paths = header.paths }) r
unfolding cert_read
said-read blocks text header (Ok tags) h t = rw (h, t) refl
said-read blocks text header (Err e) h t = rw (h, t) refl

-- a header with other lines behind it, twice
with_lines-again : (more : List Line) (r : Result Header CertFault) → with_lines more (with_lines [] r) ≡ with_lines more r
with_lines-again more (Ok h) = refl
with_lines-again more (Err e) = refl

-- lines that are others are so with their numbers
numbered-others : (n : ℕ) (all : List (List ℕ)) → AllByRecursion IsOther all → AllByRecursion (λ (l : Line). IsOther l.bytes) (numbered n all)
numbered-others n [] h = tt
numbered-others n (l ∷ all) h = (h.0, numbered-others (n + 1) all h.1)

module _ (blocks other : ℕ) (text : List ℕ) (whole : IsHeader text) (rest : List ℕ) where
  -- the line behind the header
  abbrev next : ℕ
  next = count_by is_line_feed text + 1

  -- the lines of the header
  alone : lines text ≡ whole.before ++ whole.tree ∷ []
  alone = ap lines (sym (append-nil text)) ∙ whole.apart []

  -- and of what follows
  apart : lines (text ++ rest) ≡ lines text ++ lines rest
  apart = whole.apart rest ∙ sym (append_assoc whole.before (whole.tree ∷ []) (lines rest)) ∙ ap (λ ls. ls ++ lines rest) (sym alone)

  -- the lines of the text are those of the header and those behind
  both : numbered 1 (lines (text ++ rest)) ≡ numbered 1 (lines text) ++ numbered next (lines rest)
  both =
      let last : 1 + length (lines text) ≡ next = omega (arith, whole.count, ap length alone) in
      ap (numbered 1) apart ∙ numbered-append 1 (lines text) (lines rest) ∙ ap (λ k. numbered 1 (lines text) ++ numbered k (lines rest)) last

  -- the last line that holds a word, behind the header
  last-both : last_line_of (text ++ rest) ≡ last_word_line (last_line_of text) (words_of_lines (numbered next (lines rest)))
  last-both =
      ap (λ ls. last_word_line 0 (words_of_lines ls)) both
      ∙ ap (last_word_line 0) (flat_map-append words_of_line (numbered 1 (lines text)) (numbered next (lines rest)))
      ∙ last-append 0 (words_of_lines (numbered 1 (lines text))) (words_of_lines (numbered next (lines rest)))

  -- the line `tree` with its number
  abbrev tree : Line
  tree = record { number = 1 + length whole.before; bytes = whole.tree }

  -- the header's lines are those before `tree`, and it
  split : (more : List Line) → numbered 1 (lines text) ++ more ≡ numbered 1 whole.before ++ tree ∷ more
  split more =
      ap (λ ls. numbered 1 ls ++ more) alone
      ∙ ap (λ ls. ls ++ more) (numbered-append 1 whole.before (whole.tree ∷ []))
      ∙ append_assoc (numbered 1 whole.before) (tree ∷ []) more

  -- the header is read as before, with the lines behind it
  header-both : header_read blocks (last_line_of (text ++ rest)) (numbered 1 (lines (text ++ rest))) ≡ with_lines (numbered next (lines rest)) (header_read blocks other (numbered 1 (lines text)))
  header-both =
      let r = header-ends tree whole.ended blocks (numbered 1 whole.before) (numbered-others 1 whole.before whole.others) in
      let more = numbered next (lines rest) in
      ap (header_read blocks (last_line_of (text ++ rest))) (both ∙ split more)
      ∙ r.1 (last_line_of (text ++ rest)) more
      ∙ sym (with_lines-again more r.0)
      ∙ ap (with_lines more) (sym (ap (header_read blocks other) (sym (append-nil (numbered 1 (lines text))) ∙ split []) ∙ r.1 other []))

  -- a text that begins with a header is read as the header and what the rest is read as
  pub opened : (header : Header) → header_read blocks other (numbered 1 (lines text)) ≡ Ok header
      → cert_read blocks (text ++ rest) ≡ said_with blocks (record { version = header.version; plan = header.plan; cost = header.cost; bound = header.bound; paths = header.paths }) (bytes_on blocks (first_byte header.version next (last_line_of text)) rest)
  opened header e =
      said-read blocks (text ++ rest) (record { version = header.version; plan = header.plan; cost = header.cost; bound = header.bound; paths = header.paths; others = numbered next (lines rest) }) (bytes_on blocks (first_byte header.version next (last_line_of text)) rest)
      (header-both ∙ ap (with_lines (numbered next (lines rest))) e)
      (ap (λ l. tree_read header.version blocks l (words_of_lines (numbered next (lines rest)))) last-both)

  -- a fault of the header is one of the text
  pub opened-fault : (e : CertFault) → header_read blocks other (numbered 1 (lines text)) ≡ Err e → cert_read blocks (text ++ rest) ≡ Err e
  unfolding cert_read
  opened-fault e h = rw (header-both ∙ ap (with_lines (numbered next (lines rest))) h) refl
