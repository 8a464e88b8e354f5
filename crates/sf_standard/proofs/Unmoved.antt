-- A child by a block that leaves the subproblem incomplete has the bound of its parent.
use Rattle.std.proofs.Common.{◌≡◌, ◌≢◌, ℕ, suc, ◌+◌, ◌*◌, ◌<◌, ◌≤◌, max, List, [], ◌∷◌, ◌++◌, length, map, append_assoc, arith, refl, ap, sym, ◌∙◌, inl, inr, Bool, true, false, cond, ◌==◌, ◌||◌, ◌&&◌, if◌then◌else◌, ◌-ℤ◌, ◌≤ℤ◌}
use Rattle.sf_standard.proofs.Common.{zero, sum, sum_by, zip, filter, count_by, nat_lt, not, ℤ, pos, negsuc, list_all, list_any, range_with_len, ints, cases_eq, cond-true, cond-false, eqb-true, ne_eqb, eq-eqb, map-append, sum_by-cons, sum_by-append, sum-map, Design, Net, Pin, Shape, MAX, Tree, width, height, Token, is_block, Parts, is_complete, is_solved, is_wide, IsSubproblem, CanStep, after, is_unused, subproblem-spans, Contains-head, shapes_in, items_of, unused, fitting, extent_of, to_nat, gap, range_part, pair_part, offset_x, offset_y, contains_pin, hull_of, hull_part, extent_in, least_of, area, least_cost, has_none, greatest, needed_area, area_part, net_part, weighed_part, wire_part, rest_part, full_part, plans_of, bounded, open_value, standard, complete-normal}
use Rattle.sf_polish.specs.declared.expr.Token.TheVariants as token
use Rattle.sf_node.specs.declared.step.Step.TheVariants as step
use Rattle.sf_standard.specs.Items as item
use Rattle.sf_standard.proofs.Gaps.{least-member, most-member}
use Rattle.sf_standard.proofs.Appended.{read-append, read-block}

-- an element that moves to the front
sum_by-move : {X : Type 0} (f : X → ℕ) (ws vs : List X) (x : X) → sum_by f (ws ++ x ∷ vs) ≡ sum_by f (x ∷ (ws ++ vs))
sum_by-move f [] vs x = refl
sum_by-move f (w ∷ ws) vs x =
    omega (arith, sum_by-cons f w (ws ++ x ∷ vs), sum_by-cons f x (w ∷ (ws ++ vs)), sum_by-cons f w (ws ++ vs), sum_by-cons f x (ws ++ vs), sum_by-move f ws vs x)

-- a sum stays when an element moves to the front
pub sum-move : {X : Type 0} (f : X → ℕ) (ws vs : List X) (x : X) → sum (map f (ws ++ x ∷ vs)) ≡ sum (map f (x ∷ (ws ++ vs)))
sum-move f ws vs x = sum-map f (ws ++ x ∷ vs) ∙ sum_by-move f ws vs x ∙ sym (sum-map f (x ∷ (ws ++ vs)))

-- the greatest value stays when an element moves to the front
pub greatest-move : {X : Type 0} (f : X → ℕ) (ws vs : List X) (x : X) → greatest (map f (ws ++ x ∷ vs)) ≡ greatest (map f (x ∷ (ws ++ vs)))
greatest-move f [] vs x = refl
greatest-move f (w ∷ ws) vs x = omega (arith, greatest-move f ws vs x)

-- the first two sides of an or may change places
or-swap : (a b c : Bool) → (a || (b || c)) ≡ (b || (a || c))
or-swap true true c = refl
or-swap true false c = refl
or-swap false true c = refl
or-swap false false c = refl

-- whether some element passes stays when one moves to the front
pub any-move : {X : Type 0} (p : X → Bool) (ws vs : List X) (x : X) → list_any p (ws ++ x ∷ vs) ≡ list_any p (x ∷ (ws ++ vs))
any-move p [] vs x = refl
any-move p (w ∷ ws) vs x = ap (λ v. p w || v) (any-move p ws vs x) ∙ or-swap (p w) (p x) (list_any p (ws ++ vs))

-- two tests that agree but at b
record AgreeBut (b : ℕ) (p q : ℕ → Bool) : Type 0 where
  here : p b ≡ true
  gone : q b ≡ false
  other : (k : ℕ) → k ≢ b → q k ≡ p k

-- two tests that agree but at b leave the same of the numbers above b
filter-above : (b : ℕ) (p q : ℕ → Bool) → AgreeBut b p q → (a n : ℕ) → b < a → filter q (range_with_len a n) ≡ filter p (range_with_len a n)
filter-above b p q g a zero lt = refl
filter-above b p q g a (suc n) lt =
    ap (λ t. cond t (a ∷ filter q (range_with_len (a + 1) n)) (filter q (range_with_len (a + 1) n))) (g.other a (λ e. absurd (omega arith)))
    ∙ ap (λ v. cond (p a) (a ∷ v) v) (filter-above b p q g (a + 1) n (omega arith))

-- a number leaves the filtered range
record Leaves (b : ℕ) (all less : List ℕ) : Type 0 where
  front : List ℕ
  back : List ℕ
  whole : all ≡ front ++ b ∷ back
  rest : less ≡ front ++ back

-- of a range around b they leave the same but for b
filter-leaves : (b : ℕ) (p q : ℕ → Bool) → AgreeBut b p q → (a n : ℕ) → a ≤ b → b < a + n → Leaves b (filter p (range_with_len a n)) (filter q (range_with_len a n))
filter-leaves b p q g a zero le lt = absurd (omega arith)
filter-leaves b p q g a (suc n) le lt =
    elim (cases_eq a b) [
      | inl e ↦ (let above = filter-above b p q g (a + 1) n (omega (arith, e)) in
          record {
            front = [];
            back = filter p (range_with_len (a + 1) n);
            whole = cond-true (p a) (a ∷ filter p (range_with_len (a + 1) n)) (filter p (range_with_len (a + 1) n)) (ap p e ∙ g.here) ∙ ap (λ v. v ∷ filter p (range_with_len (a + 1) n)) e;
            rest = cond-false (q a) (a ∷ filter q (range_with_len (a + 1) n)) (filter q (range_with_len (a + 1) n)) (ap q e ∙ g.gone) ∙ above;
          })
      | inr ne ↦ (let k = filter-leaves b p q g (a + 1) n (omega (arith, ne)) (omega arith) in
          let same = g.other a ne in
          elim (p a) as (λ t. q a ≡ t → Leaves b (cond t (a ∷ filter p (range_with_len (a + 1) n)) (filter p (range_with_len (a + 1) n))) (cond (q a) (a ∷ filter q (range_with_len (a + 1) n)) (filter q (range_with_len (a + 1) n)))) [
            | true ↦ λ s. record {
              front = a ∷ k.front;
              back = k.back;
              whole = ap (λ v. a ∷ v) k.whole;
              rest = cond-true (q a) (a ∷ filter q (range_with_len (a + 1) n)) (filter q (range_with_len (a + 1) n)) s ∙ ap (λ v. a ∷ v) k.rest;
            }
            | false ↦ λ s. record {
              front = k.front;
              back = k.back;
              whole = k.whole;
              rest = cond-false (q a) (a ∷ filter q (range_with_len (a + 1) n)) (filter q (range_with_len (a + 1) n)) s ∙ k.rest;
            }
          ] same)
    ]

-- a block at the end counts for itself alone
count-push : (k b : ℕ) (ts : List Token) → count_by (is_block k) (ts ++ token.Block b ∷ []) ≡ count_by (is_block k) ts + (if b == k then 1 else 0)
count-push k b ts = omega (arith, sum_by-append (λ t. cond {A = ℕ} (is_block k t) 1 0) ts (token.Block b ∷ []), sum_by-cons (λ t. cond {A = ℕ} (is_block k t) 1 0) (token.Block b) [])

-- a block that was unused is used after its step, and all others are as before
block-agrees : (b : ℕ) (ts : List Token) → is_unused b ts ≡ true → AgreeBut b (λ k. is_unused k ts) (λ k. is_unused k (ts ++ token.Block b ∷ []))
block-agrees b ts free = record {
  here = free;
  gone = (let one : ◌≡◌ {A = ℕ} (if b == b then 1 else 0) 1 = cond-true (b == b) 1 0 (eq-eqb b b refl) in
      ne_eqb (count_by (is_block b) (ts ++ token.Block b ∷ [])) 0 (λ e. absurd (omega (arith, e, count-push b b ts, one))));
  other = λ k ne. (let none : ◌≡◌ {A = ℕ} (if b == k then 1 else 0) 0 = cond-false (b == k) 1 0 (ne_eqb b k (λ e. ne (sym e))) in
      let same : count_by (is_block k) (ts ++ token.Block b ∷ []) ≡ count_by (is_block k) ts = omega (arith, count-push k b ts, none) in
      ap (λ n. n == 0) same);
}

-- the extent of a block has its least sides first
extent-ordered : (ss : List Shape) → ((extent_of ss).least_w ≤ (extent_of ss).most_w) × ((extent_of ss).least_h ≤ (extent_of ss).most_h)
extent-ordered [] = (omega arith, omega arith)
extent-ordered (s ∷ ss) = (
  omega (arith, least-member (λ t. t.w) s ss s (Contains-head s ss), most-member (λ t. t.w) s ss s (Contains-head s ss)),
  omega (arith, least-member (λ t. t.h) s ss s (Contains-head s ss), most-member (λ t. t.h) s ss s (Contains-head s ss)),
)

-- a number that is not above 0 is 0 when it is cut at 0
no-gap : (z : ℤ) → z ≤ℤ pos 0 → to_nat z ≡ 0
no-gap (pos n) h = omega (arith, ints, h)
no-gap (negsuc n) h = refl

-- a lone block has no hull
pub lone-hull : (design : Design) (node : Parts) (b : ℕ) (pins : List Pin) → hull_of design (extent_in design node) false pins (item.Block b) ≡ 0
lone-hull design node b pins =
    let e = extent_in design node b in
    let k = extent-ordered (shapes_in design node.spans b) in
    elim (contains_pin b pins) as (λ t. (gap (map (offset_x (extent_in design node)) (if t then (record { block = b; least_x = 0; most_x = 0; least_y = 0; most_y = 0 } ∷ []) else []) ++ [])
    + gap (map (offset_y (extent_in design node)) (if t then (record { block = b; least_x = 0; most_x = 0; least_y = 0; most_y = 0 } ∷ []) else []) ++ [])) ≡ 0) [
      | true ↦ omega (arith, no-gap (pos (2 * 0 + e.least_w) -ℤ pos (2 * 0 + e.most_w)) (omega (arith, ints, k.0)), no-gap (pos (2 * 0 + e.least_h) -ℤ pos (2 * 0 + e.most_h)) (omega (arith, ints, k.1)))
      | false ↦ refl
    ]

-- sums of the same numbers are the same
pub sum_by-same : {X : Type 0} (f g : X → ℕ) → ((x : X) → f x ≡ g x) → (xs : List X) → sum_by f xs ≡ sum_by g xs
sum_by-same f g h [] = refl
sum_by-same f g h (x ∷ xs) = omega (arith, sum_by-cons f x xs, sum_by-cons g x xs, h x, sum_by-same f g h xs)

-- a group that moves to the front
pub record Moves (x : List Tree) (old new : List (List Tree)) : Type 0 where
  pub front : List (List Tree)
  pub back : List (List Tree)
  pub was : old ≡ front ++ x ∷ back
  pub is : new ≡ x ∷ (front ++ back)

-- a block that is moved from the unused ones onto the stack
module _ (design : Design) (node : Parts) (b : ℕ) (can : CanStep node (step.Block b)) where
  -- the child by the block
  abbrev child : Parts
  child = after node (step.Block b)

  -- it has one item more, on top
  items-child : items_of child ≡ item.Block b ∷ items_of node
  items-child = read-append [] node.tokens (token.Block b ∷ []) ∙ read-block (items_of node) b

  -- its unused blocks are those before without this one
  leaves-range : Leaves b (filter (λ k. is_unused k node.tokens) (range_with_len 0 (length node.spans))) (filter (λ k. is_unused k (node.tokens ++ token.Block b ∷ [])) (range_with_len 0 (length node.spans)))
  leaves-range = filter-leaves b (λ k. is_unused k node.tokens) (λ k. is_unused k (node.tokens ++ token.Block b ∷ [])) (block-agrees b node.tokens can.1) 0 (length node.spans) (omega arith) (omega (arith, can.0))

  -- the groups before that of the block
  abbrev ahead : List (List Tree)
  ahead = map (fitting design node) (items_of node ++ map (λ k. item.Block k) leaves-range.front)

  -- and those after it
  abbrev behind : List (List Tree)
  behind = map (fitting design node) (map (λ k. item.Block k) leaves-range.back)

  -- the group of the block stands between them
  plans-node : plans_of design node ≡ ahead ++ fitting design node (item.Block b) ∷ behind
  plans-node =
      let k = leaves-range in
      let U = map (λ (k : ℕ). item.Block k) k.front in
      let V = map (λ (k : ℕ). item.Block k) k.back in
      ap (λ v. map (fitting design node) (items_of node ++ v)) (ap (map (λ k. item.Block k)) k.whole ∙ map-append (λ k. item.Block k) k.front (b ∷ k.back))
      ∙ ap (map (fitting design node)) (sym (append_assoc (items_of node) U (item.Block b ∷ V)))
      ∙ map-append (fitting design node) (items_of node ++ U) (item.Block b ∷ V)

  -- in the child it stands in front
  plans-child : plans_of design child ≡ fitting design node (item.Block b) ∷ (ahead ++ behind)
  plans-child =
      let k = leaves-range in
      let U = map (λ (k : ℕ). item.Block k) k.front in
      let V = map (λ (k : ℕ). item.Block k) k.back in
      ap (λ v. map (fitting design node) (v ++ unused child)) items-child
      ∙ ap (λ v. fitting design node (item.Block b) ∷ map (fitting design node) (items_of node ++ v)) (ap (map (λ k. item.Block k)) k.rest ∙ map-append (λ k. item.Block k) k.front k.back)
      ∙ ap (λ v. fitting design node (item.Block b) ∷ v) (ap (map (fitting design node)) (sym (append_assoc (items_of node) U V)) ∙ map-append (fitting design node) (items_of node ++ U) V)

  -- so the group of the block moves to the front
  pub block-moves : Moves (fitting design node (item.Block b)) (plans_of design node) (plans_of design child)
  block-moves = record { front = ahead; back = behind; was = plans-node; is = plans-child }

module _ (design : Design) (node : Parts) (b : ℕ) (sub : IsSubproblem design node) (can : CanStep node (step.Block b)) (open_child : is_complete (after node (step.Block b)) ≡ false) where
  -- the child by the block
  abbrev grown : Parts
  grown = after node (step.Block b)

  -- its parent is not complete
  open-node : is_complete node ≡ false
  open-node = by-cases (is_complete node) refl
    where
      by-cases : (t : Bool) → is_complete node ≡ t → is_complete node ≡ false
      by-cases false e = e
      by-cases true e =
          let spans = subproblem-spans design node sub in
          let once = (complete-normal design node sub spans e).each_once b (omega (arith, can.0, spans)) in
          absurd (omega (arith, once, eqb-true (count_by (is_block b) node.tokens) 0 can.1))

  -- the wires of each net
  net-same : (net : Net) → net_part design grown net ≡ net_part design node net
  net-same net =
      let extent = extent_in design node in
      let hull : hull_part design extent (is_complete grown) (items_of grown) net.pins ≡ hull_part design extent (is_complete node) (items_of node) net.pins =
      ap (λ t. hull_part design extent t (items_of grown) net.pins) open_child
      ∙ ap (λ is. hull_part design extent false is net.pins) (items-child design node b can)
      ∙ (let zero_hull : max (hull_of design extent false net.pins (item.Block b)) (hull_part design extent false (items_of node) net.pins) ≡ hull_part design extent false (items_of node) net.pins = omega (arith, lone-hull design node b net.pins) in zero_hull)
      ∙ ap (λ t. hull_part design extent t (items_of node) net.pins) (sym open-node) in
      ap (λ h. if nat_lt (length net.pins) 2 then 0 else max (range_part design extent net.pins) (max (pair_part extent net.pins) h)) hull

  -- the same as often as the weight of the net says
  weighed-same : (net : Net) → weighed_part design grown net ≡ weighed_part design node net
  weighed-same net = ap (λ v. net.weight * v) (net-same net)

  -- the needed area does not depend on where a group stands
  area-same : (ws vs : List (List Tree)) (x : List Tree) → needed_area (x ∷ (ws ++ vs)) ≡ needed_area (ws ++ x ∷ vs)
  area-same ws vs x =
      ap (λ v. max v (greatest (map (least_of width) (x ∷ (ws ++ vs))) * greatest (map (least_of height) (x ∷ (ws ++ vs))))) (sym (sum-move (least_of area) ws vs x))
      ∙ ap (λ v. max (sum (map (least_of area) (ws ++ x ∷ vs))) (v * greatest (map (least_of height) (x ∷ (ws ++ vs))))) (sym (greatest-move (least_of width) ws vs x))
      ∙ ap (λ v. max (sum (map (least_of area) (ws ++ x ∷ vs))) (greatest (map (least_of width) (ws ++ x ∷ vs)) * v)) (sym (greatest-move (least_of height) ws vs x))

  -- the value from area and wires is the same
  bounded-same : open_value design grown ≡ open_value design node
  bounded-same =
      let x = fitting design node (item.Block b) in
      let moves = block-moves design node b can in
      let ws = moves.front in
      let vs = moves.back in
      let whole = λ (none : Bool) (a w : ℕ). (if none then MAX else (if nat_lt (design.outline.w * design.outline.h) a then MAX else (design.weights.area * a + design.weights.wire * w))) in
      let nets : wire_part design grown ≡ wire_part design node = sum_by-same (weighed_part design grown) (weighed_part design node) weighed-same design.nets in
      let rests : rest_part design grown ≡ rest_part design node = sum_by-same (λ n. n.0 * net_part design grown n.1) (λ n. n.0 * net_part design node n.1) (λ n. ap (λ v. n.0 * v) (net-same n.1)) (zip design.routes.left design.nets) in
      let wires : full_part design grown ≡ full_part design node = ap (λ v. max v (design.routes.wires + rest_part design grown)) nets ∙ ap (λ v. max (wire_part design node) (design.routes.wires + v)) rests in
      ap (bounded design (full_part design grown)) moves.is
      ∙ ap (λ t. whole t (area_part design (x ∷ (ws ++ vs))) (full_part design grown)) (sym (any-move has_none ws vs x))
      ∙ ap (λ a. whole (list_any has_none (ws ++ x ∷ vs)) (max a design.area_floor) (full_part design grown)) (area-same ws vs x)
      ∙ ap (λ w. whole (list_any has_none (ws ++ x ∷ vs)) (area_part design (ws ++ x ∷ vs)) w) wires
      ∙ sym (ap (bounded design (full_part design node)) moves.was)

  -- a subproblem that is not complete is not solved
  unsolved : (parts : Parts) → is_complete parts ≡ false → is_solved design parts ≡ false
  unsolved parts e = ap (λ t. t && (design.weights.wire == 0 || list_all (λ span. not (is_wide span)) parts.spans)) e

  -- so the child has the bound of its parent
  pub block_keeps : standard design (after node (step.Block b)) ≡ standard design node
  block_keeps =
      cond-false (is_solved design grown) (least_cost design grown (items_of grown)) (open_value design grown) (unsolved grown open_child)
      ∙ bounded-same
      ∙ sym (cond-false (is_solved design node) (least_cost design node (items_of node)) (open_value design node) (unsolved node open-node))
