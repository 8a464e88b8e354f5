-- The walk that names the first parts.
use Rattle.sf_checker.proofs.Common.{drop-cons, map-set_same, take_more_set, take_all, drop-set-lt, drop_all, All, MatchOption, slice_set, Design, MAX, Part, Parts, root, Cert, Tag, NamesFirst, AllNameFirst, unnamed, spell_tree, AreTrees, IsValid, HasCost, left_open, least, All-append, All-from_recursion, IsFormed, made, marks, waiting_after, IsFair, marks-more, waiting-more, trees-first}
use Rattle.std.proofs.Common.{◌≡◌, ℕ, suc, ◌+◌, ◌<◌, List, [], ◌∷◌, ◌++◌, length, map, take, drop, get_or, arith, ap, sym, subst, ◌∙◌, Bool, true, false, inl, inr}
use Rattle.std.proofs.lemmas.Bool.{cases_lt}
use Rattle.sf_node.specs.ByPart.{ArePartsOf}
use Rattle.sf_node.specs.Later.{behind, pending}
use Rattle.sf_certificate.proofs.Named.{unnamed-made, unnamed-open, unnamed-tree, full-close, first-close}
use Rattle.sf_cursor.specs.Path.{Path, IsPath}

-- tags of other names make the same
made-alike : (one other : Tag) (node : Parts) → unnamed one ≡ unnamed other → made one node ≡ made other node
made-alike one other node e = sym (unnamed-made one node) ∙ ap (λ t. made t node) e ∙ unnamed-made other node

-- ---- the walk

-- the tags before the number are named, the others are those of a tree; and the path leads to where the next one stands
pub record IsNaming (design : Design) (bound : Parts → ℕ) (part : Parts → Part → ℕ) (cost : ℕ) (old : List Tag) (at : ℕ) (more : Bool) (path : Path) (tags : List Tag) : Type 0 where
  pub way : IsPath design bound path
  pub waiting : waiting_after (root design ∷ []) (take at tags) ≡ pending design more path.node
  pub tree : AreTrees part cost (pending design more path.node) (drop at tags)
  pub named : AllNameFirst design part cost (take at tags)
  pub alike : map unnamed tags ≡ map unnamed old

module _ (design : Design) (bound : Parts → ℕ) (part : Parts → Part → ℕ) (cost : ℕ) (old : List Tag) (at : ℕ) (path : Path) (tags : List Tag) (d : Tag) where
  -- a subproblem that waits wants a tag
  no-tags : (node : Parts) (nodes : List Parts) (rest : List Tag) → rest ≡ [] → AreTrees part cost (node ∷ nodes) rest → ⊥
  no-tags node nodes rest e trees = subst (AreTrees part cost (node ∷ nodes)) e trees

  module _ (here : Bool) (is_more : here ≡ true) (going : IsNaming design bound part cost old at here path tags) where
    -- the walk where something is next
    w : IsNaming design bound part cost old at true path tags
    w = subst (λ b. IsNaming design bound part cost old at b path tags) is_more going

    -- a tag is there for what is next
    naming-some : at < length tags
    naming-some =
        elim (cases_lt at (length tags)) [
          | inl h ↦ h
          | inr h ↦ absurd (no-tags path.node (behind (root design) path.node.steps) (drop at tags) (drop_all at tags h) w.tree)
        ]

    -- the next tag may stand where it stands, and the others are those of what it makes and of what is behind
    next-tag : IsFair part cost (get_or tags at d) path.node × AreTrees part cost (made (get_or tags at d) path.node ++ behind (root design) path.node.steps) (drop (suc at) tags)
    next-tag =
        trees-first part cost path.node (behind (root design) path.node.steps) (get_or tags at d) (drop (suc at) tags)
        (subst (AreTrees part cost (pending design true path.node)) (drop-cons tags at d naming-some) w.tree)

    -- one tag more is named
    pub naming-next : (tag : Tag) (more : Bool) (next : Path) → NamesFirst part cost tag path.node → unnamed tag ≡ unnamed (get_or tags at d) → IsPath design bound next
        → pending design more next.node ≡ made tag path.node ++ behind (root design) path.node.steps
        → IsNaming design bound part cost old (at + 1) more next (slice_set tags at tag)
    naming-next tag more next named alike way follows =
        let front = take_more_set tags at tag naming-some in
        let one_more : at + 1 ≡ suc at = omega arith in
        let rest : drop (at + 1) (slice_set tags at tag) ≡ drop (suc at) tags = drop-set-lt (at + 1) tags at tag (omega arith) ∙ ap (λ n. drop n tags) one_more in
        let made_same = made-alike tag (get_or tags at d) path.node alike in
        record {
          way = way;
          waiting = ap (waiting_after (root design ∷ [])) front ∙ waiting-more (root design ∷ []) (take at tags) path.node (behind (root design) path.node.steps) tag w.waiting ∙ sym follows;
          tree = subst (λ z. AreTrees part cost z (drop (at + 1) (slice_set tags at tag))) (sym follows)
              (subst (λ z. AreTrees part cost (z ++ behind (root design) path.node.steps) (drop (at + 1) (slice_set tags at tag))) (sym made_same)
              (subst (AreTrees part cost (made (get_or tags at d) path.node ++ behind (root design) path.node.steps)) (sym rest) next-tag.1));
          named = subst (λ ts. AllNameFirst design part cost ts) (sym front)
              (subst (All (λ mark. NamesFirst part cost mark.tag mark.node)) (sym (marks-more (root design ∷ []) (take at tags) path.node (behind (root design) path.node.steps) tag w.waiting))
              (All-append (λ mark. NamesFirst part cost mark.tag mark.node) (marks (root design ∷ []) (take at tags)) (record { node = path.node; tag = tag } ∷ []) w.named
              (All-from_recursion (λ mark. NamesFirst part cost mark.tag mark.node) (record { node = path.node; tag = tag } ∷ []) (named, tt))));
          alike = map-set_same unnamed tags at tag d alike ∙ w.alike;
        }

  -- where nothing is next, all tags are named
  pub naming-end : (here : Bool) → here ≡ false → IsNaming design bound part cost old at here path tags → AllNameFirst design part cost tags
  naming-end here none going =
      let w = subst (λ b. IsNaming design bound part cost old at b path tags) none going in
      elim (cases_lt at (length tags)) [
        | inl h ↦ absurd (subst (AreTrees part cost []) (drop-cons tags at d h) w.tree)
        | inr h ↦ subst (AllNameFirst design part cost) (take_all at tags h) w.named
      ]

-- ---- the certificate

module _ (cert : Cert) (tags : List Tag) (alike : map unnamed tags ≡ map unnamed cert.tags) where
  -- a certificate with other names has its form
  pub formed-named : IsFormed cert.blocks cert.plan cert.cost tags
  formed-named =
      record {
        some_block = cert.form.some_block;
        few_blocks = cert.form.few_blocks;
        planned = cert.form.planned;
        unplanned = cert.form.unplanned;
        tree = sym (unnamed-tree cert.blocks tags) ∙ ap (spell_tree cert.blocks) alike ∙ unnamed-tree cert.blocks cert.tags ∙ cert.form.tree;
      }

  -- what the first parts close is a tree, and leaves the same open
  pub valid-named : (design : Design) (value : Parts → ℕ) (part : Parts → Part → ℕ) → ArePartsOf design value part → IsValid design value part cert → AllNameFirst design part cert.cost tags
      → (new : Cert) → new.plan ≡ cert.plan → new.cost ≡ cert.cost → new.bound ≡ cert.bound → new.tags ≡ tags → IsValid design value part new
  valid-named design value part parts valid named new plan cost bound is =
      let nodes = root design ∷ [] in
      let left : left_open nodes new.tags ≡ left_open nodes cert.tags =
      ap (left_open nodes) is ∙ sym (unnamed-open nodes tags) ∙ ap (left_open nodes) alike ∙ unnamed-open nodes cert.tags in
      let full : AreTrees part cert.cost nodes (map unnamed tags) = subst (AreTrees part cert.cost nodes) (sym alike) (full-close design value part cert.cost cert.tags parts valid.tree) in
      let tree : AreTrees part cert.cost nodes tags = first-close design part cert.cost tags full named in
      record {
        plan = subst (λ p. MatchOption p (new.cost ≡ MAX) (λ expr. HasCost design expr new.cost)) (sym plan) (subst (λ z. MatchOption cert.plan (z ≡ MAX) (λ expr. HasCost design expr z)) (sym cost) valid.plan);
        tree = subst (λ ts. AreTrees part new.cost nodes ts) (sym is) (subst (λ z. AreTrees part z nodes tags) (sym cost) tree);
        stated = bound ∙ valid.stated ∙ ap (λ z. least z (map value (left_open nodes cert.tags))) (sym cost) ∙ ap (λ ns. least new.cost (map value ns)) (sym left);
      }
