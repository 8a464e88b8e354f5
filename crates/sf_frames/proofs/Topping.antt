-- The items that one token more leaves.
use Rattle.std.proofs.Common.{◌≡◌, ℕ, zero, suc, ◌+◌, ◌-◌, ◌<◌, ◌≤◌, List, [], ◌∷◌, ◌++◌, length, vec_len, take, drop, get_or, sym, ap, ◌∙◌, subst, arith}
use Rattle.sf_frames.proofs.Common.{None, take_more, drop_more, take-append-drop, Design, Shape, Token, Parts, IsSubproblem, subproblem-begun, Item, read, item_in, Direction, Frame, token_in, items_at, no_token, IsFrame, IsStoredIn, IsNext, read-append, read-block, Stored, Runs, runs-from}
use Rattle.sf_polish.specs.declared.expr.Token.TheVariants as token
use Rattle.sf_standard.specs.Items as item
use Rattle.sf_curves.specs.declared.direction.Direction.TheVariants.{Beside, Above}
use Rattle.sf_frames.proofs.Ways.{read-joined}

-- tokens that follow find their operands among the items after those before them
runs-later : (n : ℕ) (items : List Item) (xs ys : List Token) → Runs n (length items) (xs ++ ys) → Runs n (length (read items xs)) ys
runs-later n items [] ys r = r
runs-later n [] (token.Block b ∷ xs) ys r = runs-later n (item.Block b ∷ []) xs ys r.1
runs-later n (i ∷ items) (token.Block b ∷ xs) ys r =
    runs-later n (item.Block b ∷ i ∷ items) xs ys (subst (λ v. Runs n v (xs ++ ys)) (omega arith) r.1)
runs-later n [] (token.Beside ∷ xs) ys r = absurd (omega (arith, r.0))
runs-later n (i ∷ []) (token.Beside ∷ xs) ys r = absurd (omega (arith, r.0))
runs-later n (i ∷ j ∷ items) (token.Beside ∷ xs) ys r = runs-later n (item.Beside j i ∷ items) xs ys (subst (λ v. Runs n v (xs ++ ys)) (omega arith) r.1)
runs-later n [] (token.Above ∷ xs) ys r = absurd (omega (arith, r.0))
runs-later n (i ∷ []) (token.Above ∷ xs) ys r = absurd (omega (arith, r.0))
runs-later n (i ∷ j ∷ items) (token.Above ∷ xs) ys r = runs-later n (item.Above j i ∷ items) xs ys (subst (λ v. Runs n v (xs ++ ys)) (omega arith) r.1)

-- so do the tokens after the first k of a subproblem
runs-at : (design : Design) (node : Parts) (k : ℕ) → IsSubproblem design node → k < length node.tokens → Runs (length design.blocks) (length (items_at node.tokens k)) (get_or node.tokens k no_token ∷ drop (k + 1) node.tokens)
runs-at design node k sub lt =
    let i = subproblem-begun design node sub in
    let n = length design.blocks in
    let all : Runs n 0 node.tokens = runs-from n 0 i.count node.tokens i.reads i.below in
    subst (Runs n (length (items_at node.tokens k))) (drop_more node.tokens k no_token lt)
    (runs-later n [] (take k node.tokens) (drop k node.tokens) (subst (Runs n 0) (sym (take-append-drop k node.tokens)) all))

-- a block that comes next is one of the design
pub block-inside : (design : Design) (node : Parts) (k b : ℕ) → IsSubproblem design node → IsNext node.tokens k (token.Block b) → b < length design.blocks
block-inside design node k b sub next =
    (subst (λ t. Runs (length design.blocks) (length (items_at node.tokens k)) (t ∷ drop (k + 1) node.tokens)) next.token_is (runs-at design node k sub next.more)).0

-- the tokens up to the next one
pub take-next : (tokens : List Token) (k : ℕ) (t : Token) → IsNext tokens k t → take (k + 1) tokens ≡ take k tokens ++ t ∷ []
take-next tokens k t next = take_more tokens k no_token next.more ∙ ap (λ v. take k tokens ++ v ∷ []) next.token_is

-- the items after the next token are read from those before it
pub items-next : (tokens : List Token) (k : ℕ) (t : Token) → IsNext tokens k t → items_at tokens (k + 1) ≡ read (items_at tokens k) (t ∷ [])
items-next tokens k t next = ap (read []) (take-next tokens k t next) ∙ read-append [] (take k tokens) (t ∷ [])

-- after a block it is the item on top
pub items-block : (tokens : List Token) (k b : ℕ) → IsNext tokens k (token.Block b) → items_at tokens (k + 1) ≡ item.Block b ∷ items_at tokens k
items-block tokens k b next = items-next tokens k (token.Block b) next ∙ read-block (items_at tokens k) b

-- after an operator the two items on top are one
pub items-joined : (tokens : List Token) (k : ℕ) (d : Direction) (l r : Item) (rest : List Item) → IsNext tokens k (token_in d) → items_at tokens k ≡ r ∷ l ∷ rest → items_at tokens (k + 1) ≡ item_in d l r ∷ rest
items-joined tokens k d l r rest next top =
    items-next tokens k (token_in d) next ∙ ap (λ v. read v (token_in d ∷ [])) top ∙ read-joined d l r rest

-- an operator that finds its operands has two
two-for : (n : ℕ) (d : Direction) (depth : ℕ) (rest : List Token) → Runs n depth (token_in d ∷ rest) → 2 ≤ depth
two-for n Beside depth rest r = r.0
two-for n Above depth rest r = r.0

-- before an operator of a subproblem there are two items
pub two-at : (design : Design) (node : Parts) (k : ℕ) (d : Direction) → IsSubproblem design node → IsNext node.tokens k (token_in d) → 2 ≤ length (items_at node.tokens k)
two-at design node k d sub next =
    two-for (length design.blocks) d (length (items_at node.tokens k)) (drop (k + 1) node.tokens)
    (subst (λ t. Runs (length design.blocks) (length (items_at node.tokens k)) (t ∷ drop (k + 1) node.tokens)) next.token_is (runs-at design node k sub next.more))

-- where there is an item there is a token
pub none-first : (tokens : List Token) (k : ℕ) → 1 ≤ length (items_at tokens k) → 1 ≤ k
none-first tokens zero h = absurd (omega (arith, h))
none-first tokens (suc k) h = omega arith

-- before an operator of a subproblem there is a token
pub some-first : (design : Design) (node : Parts) (k : ℕ) (d : Direction) → IsSubproblem design node → IsNext node.tokens k (token_in d) → 1 ≤ k
some-first design node k d sub next = none-first node.tokens k (omega (arith, two-at design node k d sub next))

-- after k tokens an item is on top of those that fewer tokens leave
pub record LiesOn (tokens : List Token) (k below : ℕ) : Type 0 where
  pub item : Item
  pub top : items_at tokens k ≡ item ∷ items_at tokens below
  pub fewer : below < k

-- a frame that stands for none
abbrev pub no_frame : Frame
no_frame = record { token = token.Beside; curve = record { from = 0; to = 0; least = None }; below = 0; end = 0; sums = None }

-- the frames of both items on top are there
pub record AreThere (F : Type 0) (below : F → ℕ) (frames : List F) (d : F) : Type 0 where
  pub some : 1 ≤ length frames
  pub under : 1 ≤ below (get_or frames (length frames - 1) d)
  pub fewer : below (get_or frames (length frames - 1) d) ≤ length frames

-- frames of any kind, one for each of the first tokens, which say on how many tokens their item lies
module _ (F : Type 0) (below : F → ℕ) (Is : ℕ → F → Type 0) (design : Design) (node : Parts) (frames : List F) (way : Direction)
    (lies : (k : ℕ) (f : F) → Is k f → LiesOn node.tokens k (below f)) (each : (k : ℕ) (d : F) → k < length frames → Is (k + 1) (get_or frames k d))
    (sub : IsSubproblem design node) (next : IsNext node.tokens (length frames) (token_in way)) where
  -- the last frame is that of the item on top
  right-at : (d : F) → Is (length frames) (get_or frames (length frames - 1) d)
  right-at d =
      let some = some-first design node (length frames) way sub next in
      let k : length frames - 1 + 1 ≡ length frames = omega (arith, some) in
      subst (λ v. Is v (get_or frames (length frames - 1) d)) k (each (length frames - 1) d (omega (arith, some)))

  -- the frames of both items on top are there, so no number is below 0 and no place outside
  pub pair-there : (d : F) → AreThere F below frames d
  pair-there d =
      let r = lies (length frames) (get_or frames (length frames - 1) d) (right-at d) in
      let two = two-at design node (length frames) way sub next in
      record {
        some = some-first design node (length frames) way sub next;
        under = none-first node.tokens (below (get_or frames (length frames - 1) d)) (omega (arith, two, ap length r.top));
        fewer = omega (arith, r.fewer);
      }

  -- they are the frame before the end, and the one before what it lies on
  pub pair-are : (d e : F) → Is (length frames) (get_or frames (length frames - 1) d) × Is (below (get_or frames (length frames - 1) d)) (get_or frames (below (get_or frames (length frames - 1) d) - 1) e)
  pair-are d e =
      let b = below (get_or frames (length frames - 1) d) in
      let t = pair-there d in
      let k : b - 1 + 1 ≡ b = omega (arith, t.under) in
      (right-at d, subst (λ v. Is v (get_or frames (b - 1) e)) k (each (b - 1) e (omega (arith, t.under, t.fewer))))

-- a frame says on how many tokens its item lies
frame-lies : (design : Design) (tokens : List Token) (points : List Shape) (whole k : ℕ) (f : Frame) → IsFrame design tokens points whole k f → LiesOn tokens k f.below
frame-lies design tokens points whole k f m = record { item = m.item; top = m.top; fewer = m.fewer }

-- the two frames on top: what lies under the left one lies under both
pub record ArePair (design : Design) (tokens : List Token) (points : List Shape) (whole : ℕ) (frames : List Frame) (l r : Frame) : Type 0 where
  pub right : IsFrame design tokens points whole (length frames) r
  pub left : IsFrame design tokens points whole r.below l

-- the last frame, read as the one before the end
module _ (design : Design) (node : Parts) (s : Stored) (way : Direction) (sub : IsSubproblem design node) (m : IsStoredIn design node.tokens s) (next : IsNext node.tokens (length s.frames.items) (token_in way)) (n : ℕ) (r : Frame) (count : n ≡ vec_len s.frames) (is : r ≡ get_or s.frames.items (n - 1) r) where
  -- the place does not matter
  right-same : get_or s.frames.items (length s.frames.items - 1) r ≡ r
  right-same =
      let n_is : n ≡ length s.frames.items = omega (arith, count) in
      sym (is ∙ ap (λ (k : ℕ). get_or s.frames.items (k - 1) r) n_is)

  -- the frame of what it lies on is there
  pub left-there : (1 ≤ r.below) × (r.below ≤ length s.frames.items)
  left-there =
      let t = pair-there Frame (λ f. f.below) (IsFrame design node.tokens s.points.items s.whole) design node s.frames.items way (frame-lies design node.tokens s.points.items s.whole) m.frames_are.each sub next r in
      let b = ap (λ v. v.below) right-same in
      (omega (arith, b, t.under), omega (arith, b, t.fewer))

  -- with that one, read before what it lies on, it is the pair on top
  pub pair-read : (l : Frame) → l ≡ get_or s.frames.items (r.below - 1) l → ArePair design node.tokens s.points.items s.whole s.frames.items l r
  pair-read l is_l =
      let p = pair-are Frame (λ f. f.below) (IsFrame design node.tokens s.points.items s.whole) design node s.frames.items way (frame-lies design node.tokens s.points.items s.whole) m.frames_are.each sub next r l in
      subst (λ v. ArePair design node.tokens s.points.items s.whole s.frames.items v r) (sym is_l)
      (subst (λ v. ArePair design node.tokens s.points.items s.whole s.frames.items (get_or s.frames.items (v.below - 1) l) v) right-same (record { right = p.0; left = p.1 }))

-- the items of both on top
pub pair-top : (design : Design) (tokens : List Token) (points : List Shape) (whole : ℕ) (frames : List Frame) (l r : Frame) → (p : ArePair design tokens points whole frames l r) → items_at tokens (length frames) ≡ p.right.item ∷ p.left.item ∷ items_at tokens l.below
pair-top design tokens points whole frames l r p = p.right.top ∙ ap (λ v. p.right.item ∷ v) p.left.top
