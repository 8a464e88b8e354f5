-- Pieces that hold one tree, in the order of their first paths, are that tree in preorder.
use Rattle.std.proofs.Common.{◌≡◌, ℕ, suc, ◌<◌, List, [], ◌∷◌, ◌++◌, length, map, arith, refl, ap, sym, subst, ◌∙◌, inl, inr, IsPermutation, Option}
use Rattle.sf_pieces.proofs.Common.{zero, MatchOption, AllByRecursion, flat_map, cases_lt, map-append, All-from_recursion, recursion_from_All, All-permutation, Design, each-any, each-append, each-weaker, Part, Parts, root, IsSubproblem, root-subproblem, Mark, Tag, Extend, Split, Closed, Open, IsFair, MaySplit, made, marks, if_open, least-same, marks-good, marks-tags, open-total, total, total-append, total-flat_map, total-map, total-permutation, Piece, AreInOrder, IsGood, IsRead, marks_in, told_by, Expr, each-both, Cert, AreTrees, HasCost, least, left_open, IsBalanced, IsGrown, grown, made-deeper, made-subproblems, HoldTree, IsLaid, open_at, open_in}
use Rattle.sf_model.specs.declared.TheConstants.{MAX}
use Rattle.sf_model.specs.Legal.{block_count}
use Rattle.sf_polish.specs.Writable.{IsWritable}
use Rattle.sf_node.proofs.Depth.{subproblem-shallow}
use Rattle.sf_certificate.specs.Form.{IsFormed}
use Rattle.sf_certificate.proofs.MergedCert.{plan-cost, planned-for, planned-or-none}
use Rattle.sf_certificate.proofs.Places.{trees-spelled}
use Rattle.sf_pieces.proofs.Runs.{order-pairs, pieces-tree}
use Rattle.sf_pieces.proofs.Weights.{marks-permute}

-- what holds of each of each list holds of each of all
pub each-flat_map : {X Y : Type 0} (P : Y → Type 0) (f : X → List Y) (xs : List X) → AllByRecursion (λ x. AllByRecursion P (f x)) xs → AllByRecursion P (flat_map f xs)
each-flat_map P f [] h = tt
each-flat_map P f (x ∷ xs) h = each-append P (f x) (flat_map f xs) h.0 (each-flat_map P f xs h.1)

-- what holds of each image holds of the image of each
pub each-unmap : {X Y : Type 0} (P : Y → Type 0) (f : X → Y) (xs : List X) → AllByRecursion P (map f xs) → AllByRecursion (λ x. P (f x)) xs
each-unmap P f [] h = tt
each-unmap P f (x ∷ xs) h = (h.0, each-unmap P f xs h.1)

-- what holds of all that are shallow holds of each that is so
each-within : (P : Parts → Type 0) (d : ℕ) (nodes : List Parts) → total (λ node. length node.steps) nodes < d → AllByRecursion (λ node. length node.steps < d → P node) nodes → AllByRecursion P nodes
each-within P d [] h all = tt
each-within P d (node ∷ nodes) h all = (all.0 (omega arith), each-within P d nodes (omega arith) all.1)

-- a fair split may be made
fair-may : (part : Parts → Part → ℕ) (cost : ℕ) (tag : Tag) (node : Parts) → IsFair part cost tag node → MaySplit tag node
fair-may part cost Extend node fair = tt
fair-may part cost (Split b) node fair = fair
fair-may part cost (Closed p) node fair = tt
fair-may part cost Open node fair = tt

-- what a tag leaves open weighs as the open ones do
open-weight : (f : Parts → ℕ) (tag : Tag) (node : Parts) → total f (open_at tag node) ≡ if_open tag (f node)
open-weight f Extend node = refl
open-weight f (Split b) node = refl
open-weight f (Closed p) node = refl
open-weight f Open node = omega arith

-- what is left open by marks weighs as their open ones do
pub open-in-total : (f : Parts → ℕ) (ms : List Mark) → total f (open_in ms) ≡ total (λ m. if_open m.tag (f m.node)) ms
open-in-total f [] = refl
open-in-total f (m ∷ ms) = omega (arith, open-in-total f ms, open-weight f m.tag m.node, total-append f (open_at m.tag m.node) (open_in ms))

-- the tags of pieces are those of their subproblems
tags-told : (design : Design) (ps : List Piece) → AllByRecursion (IsRead design) ps → map (λ (m : Mark). m.tag) (told_by design ps) ≡ flat_map (λ (p : Piece). p.tags.items) ps
tags-told design [] h = refl
tags-told design (p ∷ ps) h =
    map-append (λ (m : Mark). m.tag) (marks_in design p) (told_by design ps) ∙ ap (λ ts. ts ++ map (λ (m : Mark). m.tag) (told_by design ps)) h.0.0 ∙ ap (λ ts. p.tags.items ++ ts) (tags-told design ps h.1)

-- the tags are those of one tree from the root, with these subproblems, which leaves open what these do
pub record IsTreeOf (design : Design) (part : Parts → Part → ℕ) (cost : ℕ) (all : List Mark) (tags : List Tag) : Type 0 where
  pub trees : AreTrees part cost (root design ∷ []) tags
  pub same : IsPermutation all (marks (root design ∷ []) tags)
  pub lowest : (value : Parts → ℕ) → least cost (map value (left_open (root design ∷ []) tags)) ≡ least cost (map value (open_in all))

module _ (design : Design) (part : Parts → Part → ℕ) (cost : ℕ) (pieces : List Piece) (t : HoldTree design part cost pieces) where
  -- the root alone
  abbrev one : List Parts
  one = root design ∷ []

  -- the subproblems with their tags
  abbrev all : List Mark
  all = told_by design pieces

  -- the children that a tag makes
  abbrev kids_of : Mark → List Parts
  kids_of m = made m.tag m.node

  -- each tag may stand where it does
  fair : AllByRecursion (λ m. IsFair part cost m.tag m.node) all
  fair = recursion_from_All (λ (m : Mark). IsFair part cost m.tag m.node) all t.fair

  -- the root and the children weigh as the subproblems do
  balanced : IsBalanced one all
  balanced f =
      omega (
        arith,
        total-permutation f (root design ∷ flat_map kids_of all) (map (λ (m : Mark). m.node) all) t.once,
        total-flat_map f kids_of all,
        total-map f (λ (m : Mark). m.node) all,
      )

  -- the children of a subproblem up to a depth are such up to the next
  kids : (d : ℕ) (m : Mark) → IsFair part cost m.tag m.node → (length m.node.steps < d → IsSubproblem design m.node) → AllByRecursion (λ child. length child.steps < suc d → IsSubproblem design child) (kids_of m)
  kids d m f h =
      let P : Parts → Type 0 = λ child. length child.steps < suc d → IsSubproblem design child in
      elim (cases_lt (length m.node.steps) d) [
        | inl less ↦ each-weaker (IsSubproblem design) P (λ child s _. s) (kids_of m) (made-subproblems design part cost m.tag m.node (h less) f)
        | inr more ↦ each-weaker (λ child. length child.steps ≡ suc (length m.node.steps)) P (λ child l k. absurd (omega arith)) (kids_of m) (made-deeper m.tag m.node)
      ]

  -- each that has a tag is a subproblem, up to any depth
  shallow : (d : ℕ) → AllByRecursion (λ node. length node.steps < d → IsSubproblem design node) (map (λ (m : Mark). m.node) all)
  shallow zero = each-any (λ node. length node.steps < 0 → IsSubproblem design node) (λ node h. absurd (omega arith)) (map (λ (m : Mark). m.node) all)
  shallow (suc d) =
      let P : Parts → Type 0 = λ node. length node.steps < suc d → IsSubproblem design node in
      let Q : Parts → Type 0 = λ node. length node.steps < d → IsSubproblem design node in
      let own : AllByRecursion (λ (m : Mark). Q m.node) all = each-unmap Q (λ (m : Mark). m.node) all (shallow d) in
      let below : AllByRecursion P (flat_map kids_of all) =
      each-flat_map P kids_of all (each-both (λ (m : Mark). IsFair part cost m.tag m.node) (λ m. Q m.node) (λ m. AllByRecursion P (kids_of m)) (λ m f q. kids d m f q) all fair own) in
      let given : AllByRecursion P (root design ∷ flat_map kids_of all) = ((λ _. root-subproblem design), below) in
      recursion_from_All P (map (λ (m : Mark). m.node) all)
      (All-permutation P (root design ∷ flat_map kids_of all) (map (λ (m : Mark). m.node) all) t.once (All-from_recursion P (root design ∷ flat_map kids_of all) given))

  -- each that has a tag is a subproblem
  pub subs : AllByRecursion (λ m. IsSubproblem design m.node) all
  subs =
      let nodes = map (λ (m : Mark). m.node) all in
      let d = suc (total (λ node. length node.steps) nodes) in
      each-unmap (IsSubproblem design) (λ (m : Mark). m.node) all (each-within (IsSubproblem design) d nodes (omega arith) (shallow d))

  -- there is a tree with these subproblems and tags
  tree : IsGrown part cost one all
  tree =
      grown design part cost (length all) one all refl balanced
      (each-both (λ (m : Mark). IsFair part cost m.tag m.node) (λ m. IsSubproblem design m.node) (λ m. IsFair part cost m.tag m.node × IsSubproblem design m.node) (λ m f s. (f, s)) all fair subs)
      (root-subproblem design, tt)

  module _ (ps : List Piece) (moved : IsPermutation pieces ps) (sorted : AreInOrder ps) where
    -- the pieces in order have the same subproblems and tags
    told-same : (f : Mark → ℕ) → total f all ≡ total f (told_by design ps)
    told-same f =
        total-flat_map f (marks_in design) pieces ∙ total-permutation (λ (p : Piece). total f (marks_in design p)) pieces ps moved ∙ sym (total-flat_map f (marks_in design) ps)

    -- those are in another order
    told-moved : IsPermutation all (told_by design ps)
    told-moved = marks-permute all (told_by design ps) told-same

    -- each is a subproblem with a tag that may stand there
    goods : AllByRecursion (IsGood design) (told_by design ps)
    goods =
        recursion_from_All (IsGood design) (told_by design ps)
        (All-permutation (IsGood design) all (told_by design ps) told-moved
        (All-from_recursion (IsGood design) all
        (each-both (λ (m : Mark). IsFair part cost m.tag m.node) (λ m. IsSubproblem design m.node) (IsGood design) (λ m f s. (s, fair-may part cost m.tag m.node f)) all fair subs)))

    -- so are those of the tree
    tree-goods : AllByRecursion (IsGood design) (marks one tree.tags)
    tree-goods =
        let trees = tree.trees in
        each-both (λ (m : Mark). IsSubproblem design m.node) (λ m. MaySplit m.tag m.node) (IsGood design) (λ m s f. (s, f)) (marks one tree.tags)
        (marks-good design part cost one tree.tags trees (root-subproblem design, tt))
        (may one tree.tags trees)
      where
        may : (nodes : List Parts) (tags : List Tag) → AreTrees part cost nodes tags → AllByRecursion (λ m. MaySplit m.tag m.node) (marks nodes tags)
        may [] tags h = tt
        may (node ∷ nodes) [] h = tt
        may (node ∷ nodes) (Extend ∷ tags) h = (tt, may (made Extend node ++ nodes) tags h.1)
        may (node ∷ nodes) (Split b ∷ tags) h = (h.0, may (made (Split b) node ++ nodes) tags h.1)
        may (node ∷ nodes) (Closed p ∷ tags) h = (tt, may nodes tags h.1)
        may (node ∷ nodes) (Open ∷ tags) h = (tt, may nodes tags h)

    -- the pieces in order are the tree
    told-tree : told_by design ps ≡ marks one tree.tags
    told-tree = pieces-tree design tree.tags ps tree-goods goods (order-pairs ps sorted) (λ f. tree.same f ∙ told-same f)

    -- and their tags are its tags
    tags-tree : flat_map (λ (p : Piece). p.tags.items) ps ≡ tree.tags
    tags-tree =
        sym (tags-told design ps (recursion_from_All (IsRead design) ps (All-permutation (IsRead design) pieces ps moved t.read)))
        ∙ ap (map (λ (m : Mark). m.tag)) told-tree ∙ marks-tags part cost one tree.tags tree.trees

    -- what the tree leaves open weighs as what is open in the pieces
    open-same : (f : Parts → ℕ) → total f (left_open one tree.tags) ≡ total f (open_in all)
    open-same f =
        open-total f one tree.tags ∙ tree.same (λ m. if_open m.tag (f m.node)) ∙ sym (open-in-total f all)

    -- the tags of the pieces in order are one tree
    pub laid-tree : IsTreeOf design part cost all (flat_map (λ (p : Piece). p.tags.items) ps)
    laid-tree =
        subst (IsTreeOf design part cost all) (sym tags-tree)
        (record {
          trees = tree.trees;
          same = subst (IsPermutation all) told-tree told-moved;
          lowest = λ value. least-same cost value (left_open one tree.tags) (open_in all) open-same;
        })

-- plan, cost and the tags of one tree have the form of a certificate's
pub laid-formed : (design : Design) (part : Parts → Part → ℕ) (cost n : ℕ) (told : List Mark) (tags : List Tag) (plan : Option Expr) → n ≡ block_count design → IsTreeOf design part cost told tags
    → MatchOption plan (cost ≡ MAX) (λ expr. HasCost design expr cost × IsWritable (block_count design) expr) → IsFormed n plan cost tags
laid-formed design part cost n told tags plan e tree planned =
    subst (λ k. IsFormed k plan cost tags) (sym e) (record {
      some_block = design.limits.some_block;
      few_blocks = design.limits.few_blocks;
      planned = planned-for design cost plan planned;
      unplanned = planned-or-none design cost plan planned;
      tree = trees-spelled design part cost tags (root design ∷ []) (subproblem-shallow design) tree.trees (root-subproblem design, tt);
    })

-- the certificate of such tags
pub laid-cert : (design : Design) (value : Parts → ℕ) (part : Parts → Part → ℕ) (pieces : List Piece) (plan : Option Expr) (cost bound : ℕ) (cert : Cert)
    → cert.blocks ≡ block_count design → cert.plan ≡ plan → cert.cost ≡ cost → cert.bound ≡ bound → cert.paths ≡ design.routes.paths → IsTreeOf design part cost (told_by design pieces) cert.tags
    → MatchOption plan (cost ≡ MAX) (λ expr. HasCost design expr cost × IsWritable (block_count design) expr)
    → bound ≡ least cost (map value (open_in (told_by design pieces))) → IsLaid design value part pieces plan cost bound cert
laid-cert design value part pieces plan cost bound cert n p c b paths tree planned low =
    record {
      valid = record {
        plan = subst (λ z. MatchOption cert.plan (z ≡ MAX) (λ expr. HasCost design expr z)) (sym c) (subst (λ q. MatchOption q (cost ≡ MAX) (λ expr. HasCost design expr cost)) (sym p) (plan-cost design cost plan planned));
        tree = subst (λ z. AreTrees part z (root design ∷ []) cert.tags) (sym c) tree.trees;
        stated = subst (λ z. cert.bound ≡ least z (map value (left_open (root design ∷ []) cert.tags))) (sym c) (b ∙ low ∙ sym (tree.lowest value));
      };
      same = tree.same;
      blocks = n;
      plan_is = p;
      cost_is = c;
      bound_is = b;
      paths_is = paths;
    }
