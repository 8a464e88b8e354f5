-- The pieces of a search, named, hold one tree, and their certificate is that of the search.
use Rattle.std.proofs.Common.{◌≡◌, ℕ, ◌+◌, ◌<◌, ◌≤◌, List, [], ◌∷◌, ◌++◌, length, map, All, arith, refl, ap, sym, subst, ◌∙◌, true, IsPermutation, Option}
use Rattle.sf_pieces.proofs.Common.{⊤, AllByRecursion, flat_map, length-map, map-append, All-from_recursion, recursion_from_All, All-permutation, IsPermutation-map, IsPermutation-trans, Design, each-any, each-append, each-left, each-map, Part, Step, Full, Parts, root, walk, pending, Mark, Tag, IsFair, made, marks, tag_of, decided-total, if_open, least-same, total, total-append, total-each, total-flat_map, total-map, total-permutation, total-same, Piece, AreKept, AreNamed, renamed, shape_of, shape_named, AreTold, IsRead, mark_of, marks_in, open_mark, told_by, nat_tests, Expr, first_part, each-both, Cert, NamesFirst, unnamed, unnamed_mark, least, one_decided, HoldTree, IsLaid, open_in}
use Rattle.std.proofs.lemmas.List.Folds.{flat_map-map}
use Rattle.sf_search_core.specs.declared.entry.Entry.{Entry}
use Rattle.sf_search_core.specs.declared.entry.Kind.{Kind}
use Rattle.sf_search_core.specs.Conserved.{IsDecided, branched, children}
use Rattle.sf_certificate.proofs.MergedTree.{all-fair}
use Rattle.sf_certificate.proofs.Named.{unnamed-made, unnamed-marks}
use Rattle.sf_pieces.specs.Searched.{IsAssembled, IsSearched}
use Rattle.sf_pieces.proofs.Laid.{each-flat_map, each-unmap, open-in-total}
use Rattle.sf_pieces.proofs.Names.{name-first, renamed-alike}
use Rattle.sf_pieces.proofs.Weights.{nodes-permute}

-- ---- weights

-- weights that are the same everywhere make the same total
total-alike : {X : Type 0} (f g : X → ℕ) → ((x : X) → f x ≡ g x) → (xs : List X) → total f xs ≡ total g xs
total-alike f g h [] = refl
total-alike f g h (x ∷ xs) = omega (arith, h x, total-alike f g h xs)

-- no weight makes no total
total-none : {X : Type 0} (xs : List X) → total (λ x. 0) xs ≡ 0
total-none [] = refl
total-none (x ∷ xs) = omega (arith, total-none xs)

-- ---- names change nothing but names

-- where the full part is at least the cost, so is the first one
first-closes : (f : Part → ℕ) (cost : ℕ) → cost ≤ f Full → cost ≤ f (first_part f cost)
first-closes f cost h = grind (arith, nat_tests)

-- a tag that names the first part is fair, where it is with the full one
first-fair : (part : Parts → Part → ℕ) (cost : ℕ) (tag : Tag) (node : Parts) → IsFair part cost (unnamed tag) node → NamesFirst part cost tag node → IsFair part cost tag node
first-fair part cost tag node fair named = grind (arith, first-closes (part node) cost)

-- as many marks as tags: each tag stands at a subproblem
length-read : (nodes : List Parts) (tags : List Tag) → length (marks nodes tags) ≡ length tags → map (λ (m : Mark). m.tag) (marks nodes tags) ≡ tags
length-read [] [] h = refl
length-read [] (tag ∷ tags) h = absurd (omega (arith, h))
length-read (node ∷ nodes) [] h = refl
length-read (node ∷ nodes) (tag ∷ tags) h = ap (λ ts. tag ∷ ts) (length-read (made tag node ++ nodes) tags (omega (arith, h)))

-- tags that are alike but for names have as many marks
alike-length : (nodes : List Parts) (tags others : List Tag) → map unnamed others ≡ map unnamed tags → length (marks nodes others) ≡ length (marks nodes tags)
alike-length nodes tags others e =
    sym (length-map (marks nodes others) unnamed_mark) ∙ ap length (sym (unnamed-marks nodes others)) ∙ ap (λ ts. length (marks nodes ts)) e
    ∙ ap length (unnamed-marks nodes tags) ∙ length-map (marks nodes tags) unnamed_mark

-- the subproblems of a first path and tags
abbrev marks_at : Design → List Step × List Tag → List Mark
marks_at design s = marks (pending design true (walk (root design) s.0)) s.1

-- each tag stands at a subproblem, and there is one
abbrev IsReadAt : Design → List Step × List Tag → Type 0
IsReadAt design s = (map (λ (m : Mark). m.tag) (marks_at design s) ≡ s.1) × (0 < length s.1)

-- a piece is read as its first path and tags are
told-shapes : (design : Design) (ps : List Piece) → told_by design ps ≡ flat_map (marks_at design) (map shape_of ps)
told-shapes design [] = refl
told-shapes design (p ∷ ps) = ap (λ ms. marks_in design p ++ ms) (told-shapes design ps)

module _ (design : Design) (part : Parts → Part → ℕ) (cost : ℕ) where
  -- where the tags of a piece are read against
  abbrev from : Piece → List Parts
  from p = pending design true (walk (root design) p.first.items)

  -- naming changes no tag but the names
  named-alike : (p : Piece) → map unnamed (renamed cost p.tags.items p.kept.items) ≡ map unnamed p.tags.items
  named-alike p = renamed-alike cost p.tags.items p.kept.items

  -- a piece stays read when it is named
  named-read : (p : Piece) → IsRead design p → IsReadAt design (shape_named cost p)
  named-read p r =
      let tags = renamed cost p.tags.items p.kept.items in
      let many : length tags ≡ length p.tags.items = sym (length-map tags unnamed) ∙ ap length (named-alike p) ∙ length-map p.tags.items unnamed in
      let old : length (marks (from p) p.tags.items) ≡ length p.tags.items = sym (length-map (marks (from p) p.tags.items) (λ (m : Mark). m.tag)) ∙ ap length r.0 in
      let all : length (marks (from p) tags) ≡ length tags = alike-length (from p) p.tags.items tags (named-alike p) ∙ old ∙ sym many in
      (length-read (from p) tags all, omega (arith, many, r.1))

  -- its subproblems are the same, but for names
  named-marks : (p : Piece) → map unnamed_mark (marks_at design (shape_named cost p)) ≡ map unnamed_mark (marks_in design p)
  named-marks p =
      sym (unnamed-marks (from p) (renamed cost p.tags.items p.kept.items)) ∙ ap (marks (from p)) (named-alike p) ∙ unnamed-marks (from p) p.tags.items

  -- what the named pieces say weighs as before, where names weigh nothing
  all-named : (g : Mark → ℕ) → ((m : Mark) → g (unnamed_mark m) ≡ g m) → (ps : List Piece) → total (λ p. total g (marks_at design (shape_named cost p))) ps ≡ total (λ p. total (λ m. g (unnamed_mark m)) (marks_in design p)) ps
  all-named g blind ps =
      total-alike (λ (p : Piece). total g (marks_at design (shape_named cost p))) (λ p. total (λ m. g (unnamed_mark m)) (marks_in design p))
      (λ p. total-alike g (λ m. g (unnamed_mark m)) (λ m. sym (blind m)) (marks_at design (shape_named cost p))
      ∙ sym (total-map g unnamed_mark (marks_at design (shape_named cost p))) ∙ ap (total g) (named-marks p) ∙ total-map g unnamed_mark (marks_in design p)) ps

  module _ (old new : List Piece) (named : AreNamed cost old new) where
    -- the subproblems of the named pieces
    told-named : told_by design new ≡ flat_map (λ p. marks_at design (shape_named cost p)) old
    told-named = told-shapes design new ∙ ap (flat_map (marks_at design)) named ∙ flat_map-map (marks_at design) (shape_named cost) old

    -- each tag of a named piece stands at a subproblem
    pub all-read : All (IsRead design) old → All (IsRead design) new
    all-read read =
        All-from_recursion (IsRead design) new
        (each-unmap (IsReadAt design) shape_of new
        (subst (AllByRecursion (IsReadAt design)) (sym named)
        (each-map (IsReadAt design) (shape_named cost) old (each-both (IsRead design) (λ (p : Piece). ⊤) (λ p. IsReadAt design (shape_named cost p)) (λ p r _. named-read p r) old (recursion_from_All (IsRead design) old read) (each-any (λ (p : Piece). ⊤) (λ p. tt) old)))))

    -- each closed subproblem names the first part
    pub all-first : All (λ p. AreKept part cost (marks_in design p) p.kept.items) old → AllByRecursion (λ m. NamesFirst part cost m.tag m.node) (told_by design new)
    all-first kept =
        let Names : Mark → Type 0 = λ m. NamesFirst part cost m.tag m.node in
        let Kept : Piece → Type 0 = λ p. AreKept part cost (marks_in design p) p.kept.items in
        subst (AllByRecursion Names) (sym told-named)
        (each-flat_map Names (λ p. marks_at design (shape_named cost p)) old
        (each-both Kept (λ (p : Piece). ⊤) (λ p. AllByRecursion Names (marks_at design (shape_named cost p)))
        (λ p k _. recursion_from_All Names (marks_at design (shape_named cost p)) (name-first part cost (from p) p.tags.items p.kept.items k))
        old (recursion_from_All Kept old kept) (each-any (λ (p : Piece). ⊤) (λ p. tt) old)))

    -- where names weigh nothing, the named pieces weigh as the others do
    pub named-weight : (g : Mark → ℕ) → ((m : Mark) → g (unnamed_mark m) ≡ g m) → total g (told_by design new) ≡ total g (map unnamed_mark (told_by design old))
    named-weight g blind =
        ap (total g) told-named ∙ total-flat_map g (λ p. marks_at design (shape_named cost p)) old ∙ all-named g blind old
        ∙ sym (total-flat_map (λ (m : Mark). g (unnamed_mark m)) (marks_in design) old) ∙ sym (total-map g unnamed_mark (told_by design old))

    -- they are the same, but for names
    pub named-told : map unnamed_mark (told_by design new) ≡ map unnamed_mark (told_by design old)
    named-told = ap (map unnamed_mark) told-named ∙ by_piece old
      where
        by_piece : (ps : List Piece) → map unnamed_mark (flat_map (λ p. marks_at design (shape_named cost p)) ps) ≡ map unnamed_mark (told_by design ps)
        by_piece [] = refl
        by_piece (p ∷ ps) =
            map-append unnamed_mark (marks_at design (shape_named cost p)) (flat_map (λ p. marks_at design (shape_named cost p)) ps)
            ∙ ap (λ ms. ms ++ map unnamed_mark (flat_map (λ p. marks_at design (shape_named cost p)) ps)) (named-marks p) ∙ ap (λ ms. map unnamed_mark (marks_in design p) ++ ms) (by_piece ps)
            ∙ sym (map-append unnamed_mark (marks_in design p) (told_by design ps))

-- ---- entries and open subproblems

-- what the tag of an entry makes is what the entry made
made-branched : (k : Kind) (node : Parts) → made (tag_of k) node ≡ branched k node
made-branched k node = grind arith

-- an entry is never open
entry-open : (k : Kind) (n : ℕ) → if_open (tag_of k) n ≡ 0
entry-open k n = grind arith

-- an entry is decided
entry-decided : (k : Kind) → one_decided (tag_of k) ≡ 1
entry-decided k = grind arith

-- names change nothing of what is open
unnamed-if : (tag : Tag) (n : ℕ) → if_open (unnamed tag) n ≡ if_open tag n
unnamed-if tag n = grind arith

-- nor of what is decided
unnamed-one : (tag : Tag) → one_decided (unnamed tag) ≡ one_decided tag
unnamed-one tag = grind arith

-- what named pieces say of the entries and the open subproblems that they tell
module _ (design : Design) (value : Parts → ℕ) (part : Parts → Part → ℕ) (full : (node : Parts) → part node Full ≡ value node) (cost : ℕ) (old new : List Piece) (named : AreNamed cost old new)
    (entries : List Entry) (left : List Parts) (t : AreTold design part cost entries left old) where
  -- what is told
  abbrev pub given : List Mark
  given = map mark_of entries ++ map open_mark left

  -- what the named pieces say, but for names
  abbrev pub plain : List Mark
  plain = map unnamed_mark (told_by design new)

  -- that is what is told, in some order
  pub given-plain : IsPermutation given plain
  given-plain = subst (IsPermutation given) (sym (named-told design part cost old new named)) t.told

  -- where names weigh nothing, the named pieces weigh as entries and open subproblems do
  weight : (g : Mark → ℕ) → ((m : Mark) → g (unnamed_mark m) ≡ g m) → total g (told_by design new) ≡ total (λ e. g (mark_of e)) entries + total (λ n. g (open_mark n)) left
  weight g blind =
      let a = named-weight design part cost old new named g blind in
      let b = total-permutation g given (map unnamed_mark (told_by design old)) t.told in
      let c : total g given ≡ total g (map mark_of entries) + total g (map open_mark left) = total-append g (map mark_of entries) (map open_mark left) in
      let d : total g (map mark_of entries) ≡ total (λ e. g (mark_of e)) entries = total-map g mark_of entries in
      let e : total g (map open_mark left) ≡ total (λ n. g (open_mark n)) left = total-map g open_mark left in
      omega (arith, a, b, c, d, e)

  -- what their tags make weighs as the children of the entries
  pub kids-told : (w : Parts → ℕ) → total (λ m. total w (made m.tag m.node)) (told_by design new) ≡ total (λ e. total w (children e)) entries
  kids-told w =
      let kids = weight (λ m. total w (made m.tag m.node)) (λ m. ap (total w) (unnamed-made m.tag m.node)) in
      let same : total (λ (e : Entry). total w (made (tag_of e.kind) e.node)) entries ≡ total (λ e. total w (children e)) entries =
      total-alike (λ (e : Entry). total w (made (tag_of e.kind) e.node)) (λ e. total w (children e)) (λ e. ap (total w) (made-branched e.kind e.node)) entries in
      let none : total (λ (n : Parts). 0) left ≡ 0 = total-none left in
      omega (arith, kids, same, none)

  -- their subproblems weigh as those of the entries and the open ones
  pub nodes-told : (w : Parts → ℕ) → total (λ m. w m.node) (told_by design new) ≡ total (λ e. w e.node) entries + total w left
  nodes-told w = weight (λ m. w m.node) (λ m. refl)

  -- those that they leave open are the open ones
  pub open-told : (f : Parts → ℕ) → total (λ m. if_open m.tag (f m.node)) (told_by design new) ≡ total f left
  open-told f =
      let b = weight (λ m. if_open m.tag (f m.node)) (λ m. unnamed-if m.tag (f m.node)) in
      let c : total (λ (e : Entry). if_open (tag_of e.kind) (f e.node)) entries ≡ total (λ (e : Entry). 0) entries =
      total-alike (λ (e : Entry). if_open (tag_of e.kind) (f e.node)) (λ (e : Entry). 0) (λ e. entry-open e.kind (f e.node)) entries in
      let d : total (λ (e : Entry). 0) entries ≡ 0 = total-none entries in
      omega (arith, b, c, d)

  -- as many are decided as there are entries
  pub decided-told : total (λ (m : Mark). one_decided m.tag) (told_by design new) ≡ length entries
  decided-told =
      let b = weight (λ m. one_decided m.tag) (λ m. unnamed-one m.tag) in
      let c = total-each (λ (e : Entry). one_decided (tag_of e.kind)) (λ e. entry-decided e.kind) entries in
      let d : total (λ (n : Parts). 0) left ≡ 0 = total-none left in
      omega (arith, b, c, d)

  -- where no entry was decided by a value below the cost
  module _ (decided : All (λ e. IsDecided e.kind e.node (value e.node) e.value) entries) (fresh : All (λ e. cost ≤ e.value) entries) where
    -- what is told is fair
    fair-given : AllByRecursion (λ m. IsFair part cost m.tag m.node) given
    fair-given =
        let Fair : Mark → Type 0 = λ m. IsFair part cost m.tag m.node in
        each-append Fair (map mark_of entries) (map open_mark left)
        (each-left Fair (map mark_of entries) [] (all-fair value part full cost entries [] decided fresh))
        (each-map Fair open_mark left (each-any (λ (n : Parts). ⊤) (λ n. tt) left))

    -- so is what the named pieces say
    pub fair-named : AllByRecursion (λ m. IsFair part cost m.tag m.node) (told_by design new)
    fair-named =
        let Fair : Mark → Type 0 = λ m. IsFair part cost m.tag m.node in
        let plain_fair = recursion_from_All Fair plain (All-permutation Fair given plain given-plain (All-from_recursion Fair given fair-given)) in
        each-both (λ (m : Mark). IsFair part cost (unnamed m.tag) m.node) (λ m. NamesFirst part cost m.tag m.node) Fair (λ m f n. first-fair part cost m.tag m.node f n) (told_by design new)
        (each-unmap Fair unnamed_mark (told_by design new) plain_fair) (all-first design part cost old new named t.kept)

module _ (design : Design) (value : Parts → ℕ) (part : Parts → Part → ℕ) (cost bound : ℕ) (old new : List Piece) (named : AreNamed cost old new)
    (entries : List Entry) (left : List Parts) (s : IsSearched design value part cost bound old entries left) where
  -- the root and the children are the subproblems
  once : IsPermutation (root design ∷ flat_map (λ m. made m.tag m.node) (told_by design new)) (map (λ m. m.node) (told_by design new))
  once =
      nodes-permute (root design ∷ flat_map (λ (m : Mark). made m.tag m.node) (told_by design new)) (map (λ (m : Mark). m.node) (told_by design new))
      (λ w.
      let kids = kids-told design value part s.parts.full cost old new named entries left s.told w in
      let nodes = nodes-told design value part s.parts.full cost old new named entries left s.told w in
      let flat = total-flat_map w children entries in
      let conserved = total-permutation w ((root design ∷ []) ++ flat_map children entries) (map (λ (e : Entry). e.node) entries ++ left) s.conserved.same in
      let right = total-append w (map (λ (e : Entry). e.node) entries) left in
      let es = total-map w (λ (e : Entry). e.node) entries in
      let flat_kids = total-flat_map w (λ (m : Mark). made m.tag m.node) (told_by design new) in
      let all_nodes = total-map w (λ (m : Mark). m.node) (told_by design new) in
      let both : total w (root design ∷ flat_map (λ (m : Mark). made m.tag m.node) (told_by design new)) ≡ total w (map (λ (m : Mark). m.node) (told_by design new)) =
      omega (arith, kids, nodes, flat, conserved, right, es, flat_kids, all_nodes) in
      sym (total-same w (root design ∷ flat_map (λ (m : Mark). made m.tag m.node) (told_by design new))) ∙ both ∙ total-same w (map (λ (m : Mark). m.node) (told_by design new)))

  -- the named pieces hold one tree
  pub searched-tree : HoldTree design part cost new
  searched-tree = record {
    read = all-read design part cost old new named s.told.read;
    once = once;
    fair = All-from_recursion (λ (m : Mark). IsFair part cost m.tag m.node) (told_by design new) (fair-named design value part s.parts.full cost old new named entries left s.told s.conserved.decided s.fresh);
  }

  -- what is open in the named pieces is what is left open
  pub searched-low : bound ≡ least cost (map value (open_in (told_by design new)))
  searched-low =
      s.lowest ∙ least-same cost value left (open_in (told_by design new))
      (λ f. sym (open-in-total f (told_by design new) ∙ open-told design value part s.parts.full cost old new named entries left s.told f))

  -- the certificate of the named pieces is that of the search
  pub searched-cert : (plan : Option Expr) (cert : Cert) → IsLaid design value part new plan cost bound cert → IsAssembled design value part entries left plan cost bound cert
  searched-cert plan cert laid =
      let one = root design ∷ [] in
      let Names : Mark → Type 0 = λ m. NamesFirst part cost m.tag m.node in
      let given = map mark_of entries ++ map open_mark left in
      let plain = map unnamed_mark (told_by design new) in
      let counted = decided-told design value part s.parts.full cost old new named entries left s.told in
      record {
        valid = laid.valid;
        named = All-permutation Names (told_by design new) (marks one cert.tags) laid.same (All-from_recursion Names (told_by design new) (all-first design part cost old new named s.told.kept));
        placed = IsPermutation-trans given plain (marks one (map unnamed cert.tags)) (given-plain design value part s.parts.full cost old new named entries left s.told)
            (subst (IsPermutation plain) (sym (unnamed-marks one cert.tags)) (IsPermutation-map unnamed_mark (told_by design new) (marks one cert.tags) laid.same));
        counted = decided-total part cert.cost one cert.tags laid.valid.tree ∙ sym (total-permutation (λ (m : Mark). one_decided m.tag) (told_by design new) (marks one cert.tags) laid.same) ∙ counted;
        blocks = laid.blocks;
        plan_is = laid.plan_is;
        cost_is = laid.cost_is;
        bound_is = laid.bound_is;
        paths_is = laid.paths_is;
      }
