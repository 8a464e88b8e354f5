-- Old pieces and new ones together hold one tree.
use Rattle.std.proofs.Common.{◌≡◌, ℕ, ◌+◌, ◌≤◌, List, [], ◌∷◌, ◌++◌, map, All, arith, refl, ap, sym, subst, ◌∙◌, IsPermutation, Option}
use Rattle.sf_resume.proofs.Common.{AllByRecursion, flat_map, All-append, All-from_recursion, recursion_from_All, Design, each-left, each-weaker, Expr, Part, Parts, root, children, Mark, Tag, Extend, Split, Closed, Open, IsFair, made, marks, AreTrees, IsValid, decided, least, left_open, one_decided, trees-first, total, total-append, total-flat_map, total-map, total-permutation, total-same, Piece, IsRead, marks_in, open_mark, told_by, flat_map-append, All-permutation, IsPermutation-sym, Entry, Cert, AllNameFirst, AreAlikeButNames, NamesFirst, HoldTree, IsLaid, open_in, AreNamed, open-in-total, nodes-permute, IsEarly, CanGraft, IsGrafted}
use Rattle.sf_node.specs.ByPart.{ArePartsOf}
use Rattle.sf_certificate.proofs.Merged.{decided-total, if_open, least-same, open-total}
use Rattle.sf_certificate.proofs.Named.{unnamed-decided}
use Rattle.sf_pieces.proofs.Searched.{all-first, all-read, decided-told, fair-named, kids-told, nodes-told, open-told}
use Rattle.sf_resume.proofs.FirstNames.{early-first}

-- each tag of trees is fair
trees-fair : (part : Parts → Part → ℕ) (cost : ℕ) (nodes : List Parts) (tags : List Tag) → AreTrees part cost nodes tags → AllByRecursion (λ m. IsFair part cost m.tag m.node) (marks nodes tags)
trees-fair part cost [] tags h = tt
trees-fair part cost (node ∷ nodes) [] h = tt
trees-fair part cost (node ∷ nodes) (tag ∷ tags) h =
    let first = trees-first part cost node nodes tag tags h in (first.0, trees-fair part cost (made tag node ++ nodes) tags first.1)

-- the subproblems that trees are of and those that their tags make weigh as all that are marked
trees-balanced : (part : Parts → Part → ℕ) (cost : ℕ) (f : Parts → ℕ) (nodes : List Parts) (tags : List Tag) → AreTrees part cost nodes tags → total f nodes + total (λ m. total f (made m.tag m.node)) (marks nodes tags) ≡ total (λ m. f m.node) (marks nodes tags)
trees-balanced part cost f [] [] h = omega arith
trees-balanced part cost f [] (tag ∷ tags) h = absurd h
trees-balanced part cost f (node ∷ nodes) [] h = absurd h
trees-balanced part cost f (node ∷ nodes) (tag ∷ tags) h =
    let more = trees-balanced part cost f (made tag node ++ nodes) tags (trees-first part cost node nodes tag tags h).1 in omega (arith, more, total-append f (made tag node) nodes)

-- what is fair stays so at a lower cost
fair-lower : (part : Parts → Part → ℕ) (before cost : ℕ) (tag : Tag) (node : Parts) → cost ≤ before → IsFair part before tag node → IsFair part cost tag node
fair-lower part before cost Extend node low h = h
fair-lower part before cost (Split b) node low h = h
fair-lower part before cost (Closed p) node low h = omega (arith, low, h)
fair-lower part before cost Open node low h = tt

-- no weight makes no total
total-none : {X : Type 0} (xs : List X) → total (λ x. 0) xs ≡ 0
total-none [] = refl
total-none (x ∷ xs) = omega (arith, total-none xs)

module _ (design : Design) (value : Parts → ℕ) (part : Parts → Part → ℕ) (parts : ArePartsOf design value part) (tags : List Tag) (before : ℕ) (old new : List Piece) (cost bound : ℕ) (entries : List Entry) (left : List Parts)
    (c : CanGraft design value part tags before old new cost bound entries left) (named : List Piece) (is : AreNamed cost new named) where
  -- the root alone
  abbrev one : List Parts
  one = root design ∷ []

  -- what was left open before
  abbrev opened : List Parts
  opened = left_open one tags

  -- the old pieces and the open subproblems weigh as the old tree
  weight-old : (g : Mark → ℕ) → total g (told_by design old) + total (λ n. g (open_mark n)) opened ≡ total g (marks one tags)
  weight-old g =
      let a = total-permutation g (told_by design old ++ map open_mark opened) (marks one tags) c.told_old in
      let b : total g (map open_mark opened) ≡ total (λ n. g (open_mark n)) opened = total-map g open_mark opened in
      omega (arith, a, b, total-append g (told_by design old) (map open_mark opened))

  -- all pieces weigh as the old ones and the new ones
  weight-all : (g : Mark → ℕ) → total g (told_by design (old ++ named)) ≡ total g (told_by design old) + total g (told_by design named)
  weight-all g = ap (total g) (flat_map-append (marks_in design) old named) ∙ total-append g (told_by design old) (told_by design named)

  -- the root and the children are the subproblems
  once : IsPermutation (root design ∷ flat_map (λ m. made m.tag m.node) (told_by design (old ++ named))) (map (λ m. m.node) (told_by design (old ++ named)))
  once =
      let all = told_by design (old ++ named) in
      let kids_of : Mark → List Parts = λ m. made m.tag m.node in
      let node_of : Mark → Parts = λ m. m.node in
      nodes-permute (root design ∷ flat_map kids_of all) (map node_of all)
      (λ w.
      let tree = trees-balanced part before w one tags c.trees in
      let kids_old = weight-old (λ m. total w (made m.tag m.node)) in
      let nodes_old = weight-old (λ m. w m.node) in
      let none : total (λ (n : Parts). 0) opened ≡ 0 = total-none opened in
      let kids_new = kids-told design value part parts.full cost new named is entries left c.told w in
      let nodes_new = nodes-told design value part parts.full cost new named is entries left c.told w in
      let conserved = total-permutation w (opened ++ flat_map children entries) (map (λ (e : Entry). e.node) entries ++ left) c.conserved.same in
      let given = total-append w opened (flat_map children entries) in
      let made_all = total-flat_map w children entries in
      let right = total-append w (map (λ (e : Entry). e.node) entries) left in
      let es = total-map w (λ (e : Entry). e.node) entries in
      let kids = weight-all (λ m. total w (made m.tag m.node)) in
      let nodes = weight-all (λ m. w m.node) in
      let flat_kids = total-flat_map w kids_of all in
      let all_nodes = total-map w node_of all in
      let both : total w (root design ∷ flat_map kids_of all) ≡ total w (map node_of all) =
      omega (arith, tree, kids_old, nodes_old, none, kids_new, nodes_new, conserved, given, made_all, right, es, kids, nodes, flat_kids, all_nodes) in
      sym (total-same w (root design ∷ flat_map kids_of all)) ∙ both ∙ total-same w (map node_of all))

  -- what the old pieces say is fair at the new cost
  fair-old : AllByRecursion (λ m. IsFair part cost m.tag m.node) (told_by design old)
  fair-old =
      let Was : Mark → Type 0 = λ m. IsFair part before m.tag m.node in
      let both = told_by design old ++ map open_mark opened in
      each-weaker Was (λ m. IsFair part cost m.tag m.node) (λ m h. fair-lower part before cost m.tag m.node c.lower h) (told_by design old)
      (each-left Was (told_by design old) (map open_mark opened)
      (recursion_from_All Was both (All-permutation Was (marks one tags) both (IsPermutation-sym both (marks one tags) c.told_old)
      (All-from_recursion Was (marks one tags) (trees-fair part before one tags c.trees)))))

  -- all pieces hold one tree
  pub grafted-tree : HoldTree design part cost (old ++ named)
  grafted-tree =
      let Fair : Mark → Type 0 = λ m. IsFair part cost m.tag m.node in
      record {
        read = All-append (IsRead design) old named c.read (all-read design part cost new named is c.told.read);
        once = once;
        fair = subst (All Fair) (sym (flat_map-append (marks_in design) old named))
            (All-append Fair (told_by design old) (told_by design named) (All-from_recursion Fair (told_by design old) fair-old)
            (All-from_recursion Fair (told_by design named) (fair-named design value part parts.full cost new named is entries left c.told c.conserved.decided c.fresh)));
      }

  -- what is open in them is what is left open
  pub grafted-low : bound ≡ least cost (map value (open_in (told_by design (old ++ named))))
  grafted-low =
      c.lowest ∙ least-same cost value left (open_in (told_by design (old ++ named)))
      (λ f.
      let g : Mark → ℕ = λ m. if_open m.tag (f m.node) in
      let all = open-in-total f (told_by design (old ++ named)) in
      let was : total g (told_by design old) + total f opened ≡ total g (marks one tags) = weight-old g in
      let whole = open-total f one tags in
      omega (arith, all, weight-all g, was, whole, open-told design value part parts.full cost new named is entries left c.told f))

  -- the certificate that they are laid into
  pub grafted-laid : (all : List Piece) (plan : Option Expr) (laid : Cert) → all ≡ old ++ named
      → ((v : Parts → ℕ) (p : Parts → Part → ℕ) → HoldTree design p cost all → bound ≡ least cost (map v (open_in (told_by design all))) → IsLaid design v p all plan cost bound laid)
      → IsLaid design value part (old ++ named) plan cost bound laid
  grafted-laid all plan laid e f =
      subst (λ ps. IsLaid design value part ps plan cost bound laid) e
      (f value part (subst (HoldTree design part cost) (sym e) grafted-tree) (subst (λ ps. bound ≡ least cost (map value (open_in (told_by design ps)))) (sym e) grafted-low))

  -- the certificate, once it is named
  pub grafted-cert : (plan : Option Expr) (laid cert : Cert) → IsLaid design value part (old ++ named) plan cost bound laid → AreAlikeButNames laid cert → IsValid design value part cert → AllNameFirst design part cert.cost cert.tags
      → IsGrafted design value part tags entries plan cost bound cert
  grafted-cert plan laid cert l alike valid names =
      let g : Mark → ℕ = λ m. one_decided m.tag in
      let count : decided laid.tags ≡ total g (marks one laid.tags) = decided-total part laid.cost one laid.tags l.valid.tree in
      let same = total-permutation g (told_by design (old ++ named)) (marks one laid.tags) l.same in
      let was : total g (told_by design old) + total (λ (n : Parts). 0) opened ≡ total g (marks one tags) = weight-old g in
      let none : total (λ (n : Parts). 0) opened ≡ 0 = total-none opened in
      let before_count : decided tags ≡ total g (marks one tags) = decided-total part before one tags c.trees in
      let new_count = decided-told design value part parts.full cost new named is entries left c.told in
      let all : decided cert.tags ≡ decided laid.tags = sym (unnamed-decided cert.tags) ∙ ap decided alike.tags ∙ unnamed-decided laid.tags in
      record {
        valid = valid;
        named = subst (λ z. AllNameFirst design part z cert.tags) (alike.cost ∙ l.cost_is) names;
        counted = omega (arith, all, count, same, weight-all g, was, none, before_count, new_count);
        blocks = alike.blocks ∙ l.blocks;
        plan_is = alike.plan ∙ l.plan_is;
        cost_is = alike.cost ∙ l.cost_is;
        bound_is = alike.bound ∙ l.bound_is;
        paths_is = alike.paths ∙ l.paths_is;
      }

  -- the certificate as it is laid, where the old pieces name no part but the area
  pub grafted-named : (plan : Option Expr) (laid : Cert) → IsLaid design value part (old ++ named) plan cost bound laid → All IsEarly old → IsGrafted design value part tags entries plan cost bound laid
  grafted-named plan laid l early =
      let Names : Mark → Type 0 = λ m. NamesFirst part cost m.tag m.node in
      let names : All Names (told_by design (old ++ named)) =
      subst (All Names) (sym (flat_map-append (marks_in design) old named))
      (All-append Names (told_by design old) (told_by design named) (All-from_recursion Names (told_by design old) (early-first design part cost old early fair-old))
      (All-from_recursion Names (told_by design named) (all-first design part cost new named is c.told.kept))) in
      let first : AllNameFirst design part cost laid.tags = All-permutation Names (told_by design (old ++ named)) (marks one laid.tags) l.same names in
      grafted-cert plan laid laid l (record { blocks = refl; plan = refl; cost = refl; bound = refl; paths = refl; tags = refl }) l.valid
      (subst (λ z. AllNameFirst design part z laid.tags) (sym l.cost_is) first)
