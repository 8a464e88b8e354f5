-- At a solved subproblem the standard bound is the least cost of a plan that belongs to it and fits.
use Rattle.std.proofs.Common.{◌≡◌, ℕ, ◌≤◌, List, [], ◌∷◌, ◌++◌, append_assoc, append-nil, arith, refl, ap, sym, subst, ◌∙◌, ◌⊎◌, inl, inr, Bool, true, false}
use Rattle.sf_standard.proofs.Common.{Contains, IsFalse, nat_le, ⊤, and_parts, leb-true, cases_lt, cond-true, Design, Shape, Outline, MAX, cost, Fits, block_count, Tree, Leaf, Beside, Above, width, height, leaves, each-append, Token, postfix, IsSkewed, is_beside, is_above, Parts, Belongs, is_complete, is_solved, IsSubproblem, subproblem-spans, Contains-head, Contains-tail, shapes_in, Item, read, items_of, plans, fits, fitting, item_of, least_of, least_cost, open_value, standard, normal-spelled, IsExactAtEnd, complete-normal, listed-belongs, solved-complete}
use Rattle.sf_polish.specs.declared.expr.Expr.{Expr}
use Rattle.sf_polish.specs.declared.expr.Token.TheVariants as token
use Rattle.sf_standard.specs.Items as item
use Rattle.sf_standard.proofs.Listed.{Contains-from_map, Contains-from_filter, Contains-from_pairs}
use Rattle.sf_standard.proofs.Cutting.{AreListed}
use Rattle.sf_standard.proofs.Soundness.{standard_is_sound}

-- reading the postfix of a plan puts its item on the stack
pub read-postfix : (t : Tree) (items : List Item) (rest : List Token) → read items (postfix t ++ rest) ≡ read (item_of t ∷ items) rest
read-postfix (Leaf b s) [] rest = refl
read-postfix (Leaf b s) (i ∷ items) rest = refl
read-postfix (Beside l r) items rest =
    ap (read items) (append_assoc (postfix l ++ postfix r) (token.Beside ∷ []) rest ∙ append_assoc (postfix l) (postfix r) (token.Beside ∷ rest))
    ∙ read-postfix l items (postfix r ++ (token.Beside ∷ rest))
    ∙ read-postfix r (item_of l ∷ items) (token.Beside ∷ rest)
read-postfix (Above l r) items rest =
    ap (read items) (append_assoc (postfix l ++ postfix r) (token.Above ∷ []) rest ∙ append_assoc (postfix l) (postfix r) (token.Above ∷ rest))
    ∙ read-postfix l items (postfix r ++ (token.Above ∷ rest))
    ∙ read-postfix r (item_of l ∷ items) (token.Above ∷ rest)

-- the tokens of an item
abbrev pub item_tokens : Item → List Token
item_tokens (item.Block b) = token.Block b ∷ []
item_tokens (item.Beside l r) = item_tokens l ++ item_tokens r ++ token.Beside ∷ []
item_tokens (item.Above l r) = item_tokens l ++ item_tokens r ++ token.Above ∷ []

-- a plan has the tokens of its item
pub postfix-item : (t : Tree) → postfix t ≡ item_tokens (item_of t)
postfix-item (Leaf b s) = refl
postfix-item (Beside l r) = ap (λ v. v ++ postfix r ++ token.Beside ∷ []) (postfix-item l) ∙ ap (λ v. item_tokens (item_of l) ++ v ++ token.Beside ∷ []) (postfix-item r)
postfix-item (Above l r) = ap (λ v. v ++ postfix r ++ token.Above ∷ []) (postfix-item l) ∙ ap (λ v. item_tokens (item_of l) ++ v ++ token.Above ∷ []) (postfix-item r)

-- whether an item is side by side
abbrev pub beside_item : Item → Bool
beside_item (item.Block b) = false
beside_item (item.Beside l r) = true
beside_item (item.Above l r) = false

-- whether an item is one above the other
abbrev pub above_item : Item → Bool
above_item (item.Block b) = false
above_item (item.Beside l r) = false
above_item (item.Above l r) = true

-- no right or upper part has the direction of the item that it is part of
abbrev pub IsSkewedItem : Item → Type 0
IsSkewedItem (item.Block b) = ⊤
IsSkewedItem (item.Beside l r) = IsSkewedItem l × IsSkewedItem r × IsFalse (beside_item r)
IsSkewedItem (item.Above l r) = IsSkewedItem l × IsSkewedItem r × IsFalse (above_item r)

-- a plan is side by side where its item is
beside-same : (t : Tree) → is_beside t ≡ beside_item (item_of t)
beside-same (Leaf b s) = refl
beside-same (Beside l r) = refl
beside-same (Above l r) = refl

-- a plan is one above the other where its item is
above-same : (t : Tree) → is_above t ≡ above_item (item_of t)
above-same (Leaf b s) = refl
above-same (Beside l r) = refl
above-same (Above l r) = refl

-- the item of a skewed plan is skewed
skewed-to : (t : Tree) → IsSkewed t → IsSkewedItem (item_of t)
skewed-to (Leaf b s) h = tt
skewed-to (Beside l r) h = (skewed-to l h.0, skewed-to r h.1, sym (beside-same r) ∙ h.2)
skewed-to (Above l r) h = (skewed-to l h.0, skewed-to r h.1, sym (above-same r) ∙ h.2)

-- a plan whose item is skewed is skewed
skewed-from : (t : Tree) → IsSkewedItem (item_of t) → IsSkewed t
skewed-from (Leaf b s) h = tt
skewed-from (Beside l r) h = (skewed-from l h.0, skewed-from r h.1, beside-same r ∙ h.2)
skewed-from (Above l r) h = (skewed-from l h.0, skewed-from r h.1, above-same r ∙ h.2)

-- a plan of an item has its blocks, with shapes from the lists
pub record IsPlanOf (shapes : ℕ → List Shape) (i : Item) (t : Tree) : Type 0 where
  pub same : item_of t ≡ i
  pub listed : AreListed shapes t

-- each listed plan of an item is one
pub plans-are : (shapes : ℕ → List Shape) (i : Item) (t : Tree) → Contains (plans shapes i) t → IsPlanOf shapes i t
plans-are shapes (item.Block b) t c =
    let k = Contains-from_map (λ s. Leaf b s) (shapes b) t c in
    subst (IsPlanOf shapes (item.Block b)) k.2 record { same = refl; listed = (k.1, tt) }
plans-are shapes (item.Beside l r) t c =
    let k = Contains-from_pairs (λ p q. Beside p q) (plans shapes l) (plans shapes r) t c in
    let i = plans-are shapes l k.0 k.2 in
    let j = plans-are shapes r k.1 k.3 in
    subst (IsPlanOf shapes (item.Beside l r)) k.4 record {
      same = ap (λ v. item.Beside v (item_of k.1)) i.same ∙ ap (item.Beside l) j.same;
      listed = each-append (λ leaf. Contains (shapes leaf.0) leaf.1) (leaves k.0) (leaves k.1) i.listed j.listed;
    }
plans-are shapes (item.Above l r) t c =
    let k = Contains-from_pairs (λ p q. Above p q) (plans shapes l) (plans shapes r) t c in
    let i = plans-are shapes l k.0 k.2 in
    let j = plans-are shapes r k.1 k.3 in
    subst (IsPlanOf shapes (item.Above l r)) k.4 record {
      same = ap (λ v. item.Above v (item_of k.1)) i.same ∙ ap (item.Above l) j.same;
      listed = each-append (λ leaf. Contains (shapes leaf.0) leaf.1) (leaves k.0) (leaves k.1) i.listed j.listed;
    }

-- a plan that fits has no side greater than the outline
pub fits-from : (o : Outline) (t : Tree) → fits o t ≡ true → (width t ≤ o.w) × (height t ≤ o.h)
fits-from o t h =
    let k = and_parts (nat_le (width t) o.w) (nat_le (height t) o.h) h in
    (leb-true (width t) o.w k.0, leb-true (height t) o.h k.1)

-- the least value is reached, where there is one
pub least_of-reached : (f : Tree → ℕ) (ts : List Tree) → (least_of f ts ≡ MAX) ⊎ ((t : Tree) × Contains ts t × (f t ≡ least_of f ts))
least_of-reached f [] = inl refl
least_of-reached f (t ∷ ts) =
    elim (least_of-reached f ts) [
      | inl e ↦ elim (cases_lt (f t) (least_of f ts)) [
        | inl lt ↦ inr (t, Contains-head t ts, omega (arith, lt))
        | inr le ↦ inl (omega (arith, le, e))
      ]
      | inr k ↦ elim (cases_lt (f t) (least_of f ts)) [
        | inl lt ↦ inr (t, Contains-head t ts, omega (arith, lt))
        | inr le ↦ inr (k.0, Contains-tail t ts k.0 k.1, omega (arith, le, k.2))
      ]
    ]

-- the one item of a complete subproblem, which is skewed
pub record IsWholeItem (node : Parts) (i : Item) : Type 0 where
  pub items : items_of node ≡ i ∷ []
  pub skewed : IsSkewedItem i
  pub tokens : item_tokens i ≡ node.tokens

-- a complete subproblem has one item, which has its tokens
pub whole-item : (design : Design) (node : Parts) → IsSubproblem design node → is_complete node ≡ true → (i : Item) × IsWholeItem node i
whole-item design node sub complete =
    let normal = complete-normal design node sub (subproblem-spans design node sub) complete in
    let expr : Expr = record { tokens = node.tokens; shapes = [] } in
    let k = normal-spelled (block_count design) expr normal in
    let spelled : postfix k.0 ≡ node.tokens = k.1.spells.tokens in (
      item_of k.0,
      record {
        items = ap (read []) (sym spelled ∙ sym (append-nil (postfix k.0))) ∙ read-postfix k.0 [] [];
        skewed = skewed-to k.0 k.1.skewed;
        tokens = sym (postfix-item k.0) ∙ spelled;
      },
    )

-- the fitting plans of the one item of a complete subproblem belong to it
pub fitting-belongs : (design : Design) (node : Parts) (i : Item) (t : Tree) → IsSubproblem design node → is_complete node ≡ true → IsWholeItem node i → Contains (fitting design node i) t → Belongs design node t × Fits design.outline t
fitting-belongs design node i t sub complete whole c =
    let k = Contains-from_filter (fits design.outline) (plans (shapes_in design node.spans) i) t c in
    let p = plans-are (shapes_in design node.spans) i t k.0 in
    let spelled : postfix t ≡ node.tokens = postfix-item t ∙ ap item_tokens p.same ∙ whole.tokens in
    (listed-belongs design node t sub complete spelled (skewed-from t (subst IsSkewedItem (sym p.same) whole.skewed)) p.listed, fits-from design.outline t k.1)

-- at a solved subproblem the bound is the least cost, or MAX where no plan fits
pub standard_is_exact : (design : Design) → IsExactAtEnd design (standard design)
standard_is_exact design node sub solved =
    let complete = solved-complete design node solved in
    let i = whole-item design node sub complete in
    let is : standard design node ≡ least_of (cost design) (fitting design node i.0) =
    cond-true (is_solved design node) (least_cost design node (items_of node)) (open_value design node) solved
    ∙ ap (least_cost design node) i.1.items in
    record {
      below = standard_is_sound design node sub;
      reached = elim (least_of-reached (cost design) (fitting design node i.0)) [
        | inl e ↦ inl (is ∙ e)
        | inr k ↦ (let b = fitting-belongs design node i.0 k.0 sub complete i.1 k.1 in
            inr (record { tree = k.0; belongs = b.0; fits = b.1; costs = k.2 ∙ sym is }))
      ];
    }
