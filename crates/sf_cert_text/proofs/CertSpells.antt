-- The tags of a certificate that was read spell a tree.
use Rattle.std.proofs.Common.{◌≡◌, ℕ, List, [], ◌∷◌, refl, ap, subst, true, None, Result, Ok, Err}
use Rattle.sf_cert_text.proofs.Common.{lines, LineWord, numbered, words_of_lines, last_line_of, CertFault, Tag, first_place, spell_tree, Header, Said, header_read, tags_said, tree_read, cert_read}
use Rattle.sf_lex.specs.Results.{◌>>=◌}
use Rattle.sf_cert_text.proofs.TreeReads.{read-spells}

module _ (blocks last : ℕ) (said : Said) where
  -- the tags that are read spell a tree, behind a header
  said-tags : (header : Header) (words : List LineWord) (r : Result (List Tag) CertFault) → tree_read header.version blocks last words ≡ r
      → (r >>= λ tags. Ok (record { blocks = blocks; plan = header.plan; cost = header.cost; bound = header.bound; paths = header.paths; tags = tags })) ≡ Ok said → spell_tree blocks said.tags ≡ true
  said-tags header words (Ok tags) t e =
      let same : record { blocks = blocks; plan = header.plan; cost = header.cost; bound = header.bound; paths = header.paths; tags = tags } ≡ said = cc in
      subst (λ ts. spell_tree blocks ts ≡ true) (ap (λ (s : Said). s.tags) same) (read-spells blocks last (tags_said header.version last None words) (first_place ∷ []) tags t)
  said-tags header words (Err fault) t e = absurd (cc)

  -- whatever the header is
  said-header : (r : Result Header CertFault)
      → (r >>= λ header. tree_read header.version blocks last (words_of_lines header.others) >>= λ tags. Ok (record { blocks = blocks; plan = header.plan; cost = header.cost; bound = header.bound; paths = header.paths; tags = tags })) ≡ Ok said
      → spell_tree blocks said.tags ≡ true
  said-header (Ok header) e = said-tags header (words_of_lines header.others) (tree_read header.version blocks last (words_of_lines header.others)) refl e
  said-header (Err fault) e = absurd (cc)

-- the tags of a text that is a certificate spell a tree
pub cert-spells : (blocks : ℕ) (text : List ℕ) (said : Said) → cert_read blocks text ≡ Ok said → spell_tree blocks said.tags ≡ true
unfolding cert_read
cert-spells blocks text said e = said-header blocks (last_line_of text) said (header_read blocks (last_line_of text) (numbered 1 (lines text))) e
