-- One tag after another is read.
use Rattle.std.proofs.Common.{◌≡◌, ℕ, suc, ◌+◌, ◌-◌, ◌<◌, List, [], ◌∷◌, ◌++◌, length, take, drop, get_or, arith, ap, sym, subst, ◌∙◌, true, false, inl, inr, append_assoc, length-append}
use Rattle.sf_resume.proofs.Common.{zero, cases_lt, drop_all, take_all, take_more, Design, Part, Parts, root, after, walk, CanStep, CanWalk, behind, pending, Tag, Extend, Split, Closed, Open, IsFair, MaySplit, made, waiting_after, AreTrees, waiting-more, trees-first, trees-step, IsPath, Reading, AreTreesOf, IsReading, IsReadOn, Step}
use Rattle.std.proofs.Math.Seq.{drop-cons}

-- a tag that is fair by some parts is so whatever closes
fair-any : (part : Parts → Part → ℕ) (cost : ℕ) (tag : Tag) (node : Parts) → IsFair part cost tag node → IsFair (λ n p. 0) 0 tag node
fair-any part cost Extend node h = h
fair-any part cost (Split b) node h = h
fair-any part cost (Closed p) node h = omega arith
fair-any part cost Open node h = tt

-- trees are trees whatever closes
pub trees-any : (part : Parts → Part → ℕ) (cost : ℕ) (nodes : List Parts) (tags : List Tag) → AreTrees part cost nodes tags → AreTreesOf nodes tags
trees-any part cost [] [] h = tt
trees-any part cost [] (tag ∷ tags) h = absurd h
trees-any part cost (node ∷ nodes) [] h = absurd h
trees-any part cost (node ∷ nodes) (tag ∷ tags) h =
    let first = trees-first part cost node nodes tag tags h in
    trees-step (λ n p. 0) 0 tag node nodes tags (fair-any part cost tag node first.0) (trees-any part cost (made tag node ++ nodes) tags first.1)

-- a fair split may be made
fair-may : (tag : Tag) (node : Parts) → IsFair (λ n p. 0) 0 tag node → MaySplit tag node
fair-may Extend node h = tt
fair-may (Split b) node h = h
fair-may (Closed p) node h = tt
fair-may Open node h = tt

-- each step of a way can be taken where those before it lead
pub can-at : (node : Parts) (ss : List Step) (i : ℕ) (d : Step) → CanWalk node ss → i < length ss → CanStep (walk node (take i ss)) (get_or ss i d)
can-at node [] i d can h = absurd (omega (arith, h))
can-at node (s ∷ ss) zero d can h = can.0
can-at node (s ∷ ss) (suc i) d can h = can-at (after node s) ss i d can.1 (omega (arith, h))

module _ (design : Design) (bound : Parts → ℕ) (tags : List Tag) where
  -- a subproblem that waits wants a tag
  no-tags : (node : Parts) (nodes : List Parts) (rest : List Tag) → rest ≡ [] → AreTreesOf (node ∷ nodes) rest → ⊥
  no-tags node nodes rest e trees = subst (AreTreesOf (node ∷ nodes)) e trees

  module _ (old : Reading) (r : IsReading design bound tags old) (more : old.more ≡ true) where
    -- what is next, and what is behind it
    trees-here : AreTreesOf (pending design true old.cursor.node) (drop old.at tags)
    trees-here = subst (λ b. AreTreesOf (pending design b old.cursor.node) (drop old.at tags)) more r.trees

    -- a tag is there for what is next
    pub read-some : old.at < length tags
    read-some =
        elim (cases_lt old.at (length tags)) [
          | inl h ↦ h
          | inr h ↦ absurd (no-tags old.cursor.node (behind (root design) old.cursor.node.steps) (drop old.at tags) (drop_all old.at tags h) trees-here)
        ]

    module _ (tag : Tag) (is : tag ≡ get_or tags old.at tag) where
      -- the tag, and those behind it
      rest-here : drop old.at tags ≡ tag ∷ drop (suc old.at) tags
      rest-here = drop-cons tags old.at tag read-some ∙ ap (λ t. t ∷ drop (suc old.at) tags) (sym is)

      -- it may stand there, and the others are the trees of what it makes and of what is behind
      tag-here : IsFair (λ n p. 0) 0 tag old.cursor.node × AreTreesOf (made tag old.cursor.node ++ behind (root design) old.cursor.node.steps) (drop (suc old.at) tags)
      tag-here =
          trees-first (λ n p. 0) 0 old.cursor.node (behind (root design) old.cursor.node.steps) tag (drop (suc old.at) tags)
          (subst (AreTreesOf (pending design true old.cursor.node)) rest-here trees-here)

      -- a split may be made
      pub read-may : MaySplit tag old.cursor.node
      read-may = fair-may tag old.cursor.node tag-here.0

      -- one tag was read
      pub read-one : (new : Reading) → new.at ≡ old.at + 1 → IsPath design bound new.cursor → pending design new.more new.cursor.node ≡ made tag old.cursor.node ++ behind (root design) old.cursor.node.steps
          → IsReadOn design bound tags old (tag ∷ []) new
      read-one new at way next =
          let on : take new.at tags ≡ take old.at tags ++ tag ∷ [] =
          ap (λ n. take n tags) at ∙ take_more tags old.at tag read-some ∙ ap (λ t. take old.at tags ++ t ∷ []) (sym is) in
          let one_more : new.at ≡ suc old.at = omega (arith, at) in
          record {
            reading = record {
              way = way;
              waiting = ap (waiting_after (root design ∷ [])) on
                  ∙ waiting-more (root design ∷ []) (take old.at tags) old.cursor.node (behind (root design) old.cursor.node.steps) tag (r.waiting ∙ ap (λ b. pending design b old.cursor.node) more) ∙ sym next;
              trees = subst (λ ns. AreTreesOf ns (drop new.at tags)) (sym next) (subst (λ n. AreTreesOf (made tag old.cursor.node ++ behind (root design) old.cursor.node.steps) (drop n tags)) (sym one_more) tag-here.1);
            };
            on = on;
            rest = rest-here ∙ ap (λ n. tag ∷ drop n tags) (sym one_more);
            many = at;
          }

  -- more was read
  pub read-then : (old mid new : Reading) (ts us : List Tag) → IsReadOn design bound tags old ts mid → IsReadOn design bound tags mid us new → IsReadOn design bound tags old (ts ++ us) new
  read-then old mid new ts us a b = record {
    reading = b.reading;
    on = b.on ∙ ap (λ z. z ++ us) a.on ∙ append_assoc (take old.at tags) ts us;
    rest = a.rest ∙ ap (λ z. ts ++ z) b.rest ∙ sym (append_assoc ts us (drop new.at tags));
    many = omega (arith, a.many, b.many, length-append ts us);
  }

  -- the same of a reading that stands at the same tag
  pub read-from : (old other new : Reading) (run : List Tag) → other.at ≡ old.at → IsReadOn design bound tags other run new → IsReadOn design bound tags old run new
  read-from old other new run e on = record {
    reading = on.reading;
    on = on.on ∙ ap (λ n. take n tags ++ run) e;
    rest = ap (λ n. drop n tags) (sym e) ∙ on.rest;
    many = omega (arith, on.many, e);
  }

  -- fewer tags are left
  pub read-shorter : (old new : Reading) (run : List Tag) → IsReading design bound tags old → old.more ≡ true → IsReadOn design bound tags old run new → 0 < length run → length tags - new.at < length tags - old.at
  read-shorter old new run r more on some = omega (arith, read-some old r more, on.many, some)

  -- where nothing is next, all was read
  pub read-end : (r : Reading) → IsReading design bound tags r → r.more ≡ false → take r.at tags ≡ tags
  read-end r is none =
      elim (cases_lt r.at (length tags)) [
        | inl h ↦ absurd (subst (AreTreesOf []) (drop-cons tags r.at Open h) (subst (λ b. AreTreesOf (pending design b r.cursor.node) (drop r.at tags)) none is.trees))
        | inr h ↦ take_all r.at tags h
      ]
