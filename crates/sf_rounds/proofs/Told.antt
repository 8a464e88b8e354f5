-- What pieces tell, of one search and of two.
use Rattle.std.proofs.Common.{◌≡◌, ℕ, ◌+◌, ◌≤◌, List, [], ◌∷◌, ◌++◌, map, length, All, ap, sym, ◌∙◌, subst, refl, arith, append_assoc, length-append}
use Rattle.sf_rounds.proofs.Common.{IsPermutation, flat_map, flat_map-append, length-map, length_permutation, map-append, sum_by-cons, All-nil, All-head, All-tail, All-append, All-weaker, IsPermutation-append, IsPermutation-append_comm, IsPermutation-append_left, IsPermutation-append_right, IsPermutation-refl, IsPermutation-trans, Design, Part, Parts, Entry, Mark, unnamed_mark, AreKept, AreTold, IsRead, kept-lower, mark_of, marks_in, open_mark, tags_in, Piece}
use Rattle.sf_certificate.specs.declared.tag.Tag.{Tag}

-- the middle ones of four lists change places
four : {X : Type 0} (a b c d : List X) → IsPermutation ((a ++ c) ++ (b ++ d)) ((a ++ b) ++ (c ++ d))
four a b c d =
    let mid : IsPermutation (c ++ (b ++ d)) (b ++ (c ++ d)) =
    subst (λ z. IsPermutation z (b ++ (c ++ d))) (append_assoc c b d) (subst (λ z. IsPermutation ((c ++ b) ++ d) z) (append_assoc b c d) (IsPermutation-append_left d (c ++ b) (b ++ c) (IsPermutation-append_comm c b))) in
    subst (λ z. IsPermutation z ((a ++ b) ++ (c ++ d))) (sym (append_assoc a c (b ++ d)))
    (subst (λ z. IsPermutation (a ++ (c ++ (b ++ d))) z) (sym (append_assoc a b (c ++ d))) (IsPermutation-append_right a (c ++ (b ++ d)) (b ++ (c ++ d)) mid))

module _ (design : Design) (part : Parts → Part → ℕ) where
  -- what the pieces tell, but for the parts that are named
  abbrev plain : List Piece → List Mark
  plain ps = map unnamed_mark (flat_map (marks_in design) ps)

  -- of pieces one behind another
  pub plain-append : (ps qs : List Piece) → map unnamed_mark (flat_map (marks_in design) (ps ++ qs)) ≡ map unnamed_mark (flat_map (marks_in design) ps) ++ map unnamed_mark (flat_map (marks_in design) qs)
  plain-append ps qs = ap (map unnamed_mark) (flat_map-append (marks_in design) ps qs) ∙ map-append unnamed_mark (flat_map (marks_in design) ps) (flat_map (marks_in design) qs)

  -- what is kept of a piece names its parts
  abbrev Keeps : ℕ → Piece → Type 0
  Keeps value p = AreKept part value (marks_in design p) p.kept.items

  -- no pieces tell of nothing
  pub told-none : (value : ℕ) → AreTold design part value [] [] []
  told-none value = record { told = IsPermutation-refl []; read = All-nil (IsRead design); kept = All-nil (Keeps value) }

  -- the same at a lower value
  pub told-lower : (before after : ℕ) (entries : List Entry) (left : List Parts) (pieces : List Piece) → after ≤ before → AreTold design part before entries left pieces → AreTold design part after entries left pieces
  told-lower before after entries left pieces low t = record {
    told = t.told;
    read = t.read;
    kept = All-weaker (Keeps before) (Keeps after) (λ p k. kept-lower part before after (marks_in design p) p.kept.items low k) pieces t.kept;
  }

  -- the pieces of two searches tell what both do
  pub told-both : (value : ℕ) (es : List Entry) (ls : List Parts) (ps : List Piece) (fs : List Entry) (ms : List Parts) (qs : List Piece) → AreTold design part value es ls ps → AreTold design part value fs ms qs → AreTold design part value (es ++ fs) (ls ++ ms) (ps ++ qs)
  told-both value es ls ps fs ms qs p q =
      let a = map mark_of es in
      let b = map open_mark ls in
      let c = map mark_of fs in
      let d = map open_mark ms in
      let all : IsPermutation ((a ++ c) ++ (b ++ d)) (plain ps ++ plain qs) = IsPermutation-trans ((a ++ c) ++ (b ++ d)) ((a ++ b) ++ (c ++ d)) (plain ps ++ plain qs) (four a b c d) (IsPermutation-append (a ++ b) (plain ps) (c ++ d) (plain qs) p.told q.told) in
      record {
        told = subst (λ z. IsPermutation (map mark_of (es ++ fs) ++ map open_mark (ls ++ ms)) z) (sym (plain-append ps qs))
            (subst (λ z. IsPermutation (z ++ map open_mark (ls ++ ms)) (plain ps ++ plain qs)) (sym (map-append mark_of es fs))
            (subst (λ z. IsPermutation ((a ++ c) ++ z) (plain ps ++ plain qs)) (sym (map-append open_mark ls ms)) all));
        read = All-append (IsRead design) ps qs p.read q.read;
        kept = All-append (Keeps value) ps qs p.kept q.kept;
      }

  -- pieces tell as many subproblems as they have tags
  counts : (ps : List Piece) → All (IsRead design) ps → length (flat_map (marks_in design) ps) ≡ tags_in ps
  counts [] h = refl
  counts (p ∷ ps) h =
      let r = All-head (IsRead design) p ps h in
      let tag : Mark → Tag = λ m. m.tag in
      let one : length (marks_in design p) ≡ length p.tags.items = sym (length-map (marks_in design p) tag) ∙ ap length r.0 in
      omega (arith, one, counts ps (All-tail (IsRead design) p ps h), length-append (marks_in design p) (flat_map (marks_in design) ps), sum_by-cons (λ (q : Piece). length q.tags.items) p ps)

  -- so as many as there are entries and open subproblems
  pub told-count : (value : ℕ) (entries : List Entry) (left : List Parts) (pieces : List Piece) → AreTold design part value entries left pieces → tags_in pieces ≡ length entries + length left
  told-count value entries left pieces t =
      let all = length_permutation (map mark_of entries ++ map open_mark left) (plain pieces) t.told in
      omega (
        arith,
        all,
        counts pieces t.read,
        length-map (flat_map (marks_in design) pieces) unnamed_mark,
        length-append (map mark_of entries) (map open_mark left),
        length-map entries mark_of,
        length-map left open_mark,
      )
