-- What the code keeps of the stack is that of the items which the passed tokens leave.
use Rattle.std.proofs.Common.{◌≡◌, ℕ, suc, ◌+◌, ◌-◌, ◌<◌, ◌≤◌, List, [], ◌∷◌, ◌++◌, length, reverse, map, take, drop, get_or, refl, sym, ap, ◌∙◌, subst, arith, length-append, append_assoc, append-nil, ◌==◌}
use Rattle.sf_nets.proofs.Common.{count_by, cond, AllByRecursion, reverse-append, length_push, drop_more, take_more, take_all, length-map, map-append, take-append-drop, All-from_recursion, Design, block_count, length-at_most_once, Token, numbers, count-numbers, numbers-below, Parts, IsSubproblem, subproblem-begun, Extent, Offset, Item, read, item_extent, offsets, moved_right, moved_up, extent_in, sum_by-map, Seat, beside_extent, above_extent, held_of, seat_at, seats_from, IsLaid, reseated, JoinsTop, Lays, AreModest, AreSeated, Runs, runs-from, span-small}
use Rattle.std.proofs.Math.Seq.{take-append_seam, drop-append_seam}
use Rattle.sf_polish.specs.declared.expr.Token.TheVariants as token
use Rattle.sf_standard.specs.Items as item
use Rattle.sf_nets.specs.declared.layout.Held.{Held}
use Rattle.sf_standard.proofs.Appended.{read-append, read-block}
use Rattle.sf_nets.proofs.ModestExtents.{are-modest}

-- the block of a seat
abbrev pub block_of : Seat → ℕ
block_of s = s.offset.block

-- the rest of the tokens finds its operands, the items that the passed tokens leave are laid out, and their
-- seats are of the passed blocks in turn
pub record IsLaying (design : Design) (node : Parts) (stack : List Held) (places : List Seat) (passed rest : List Token) : Type 0 where
  pub runs : Runs (length design.blocks) (length stack) rest
  pub laid : IsLaid (extent_in design node) (read [] passed) stack places
  pub blocks : map block_of places ≡ numbers passed

-- before any token there is no item and no seat
pub laying-begins : (design : Design) (node : Parts) → IsSubproblem design node → IsLaying design node [] [] [] node.tokens
laying-begins design node sub =
    let i = subproblem-begun design node sub in
    record { runs = runs-from (length design.blocks) 0 i.count node.tokens i.reads i.below; laid = record { held = refl; seats = refl }; blocks = refl }

-- the blocks of two lists of tokens are those of the first and then those of the second
numbers-append : (xs ys : List Token) → numbers (xs ++ ys) ≡ numbers xs ++ numbers ys
numbers-append [] ys = refl
numbers-append (token.Beside ∷ xs) ys = numbers-append xs ys
numbers-append (token.Above ∷ xs) ys = numbers-append xs ys
numbers-append (token.Block b ∷ xs) ys = ap (λ v. b ∷ v) (numbers-append xs ys)

-- no more blocks than the design has
pub few-numbers : (design : Design) (node : Parts) (i : ℕ) → IsSubproblem design node → length (numbers (take i node.tokens)) ≤ 320
few-numbers design node i sub =
    let k = subproblem-begun design node sub in
    let n = block_count design in
    let most : length (numbers node.tokens) ≤ n =
    length-at_most_once (λ (m : ℕ). m) n (numbers node.tokens) (λ b. omega (arith, count-numbers b node.tokens, k.once b)) (numbers-below n node.tokens k.below) in
    omega (arith, most, design.limits.few_blocks, ap length (ap numbers (sym (take-append-drop i node.tokens)) ∙ numbers-append (take i node.tokens) (drop i node.tokens)), length-append (numbers (take i node.tokens)) (numbers (drop i node.tokens)))

-- all numbers of sides and places along the tokens of a subproblem are modest
pub laying-modest : (design : Design) (node : Parts) (stack : List Held) (places : List Seat) (i : ℕ) (rest : List Token) → IsSubproblem design node → IsLaying design node stack places (take i node.tokens) rest → AreModest stack places
laying-modest design node stack places i rest sub m =
    let extent = extent_in design node in
    let its = reverse (read [] (take i node.tokens)) in
    let few = few-numbers design node i sub in
    let e : length (seats_from extent 0 its) ≤ 320 = omega (arith, few, ap length m.blocks, length-map places block_of, ap length m.laid.seats) in
    subst (λ v. AreModest v places) (sym m.laid.held) (subst (AreModest (map (held_of extent) its)) (sym m.laid.seats) (are-modest extent (span-small design node) its e))

-- lists that are equal with one element behind are equal, and so are these elements
push-same : {X : Type 0} (xs ys : List X) (x y : X) → xs ++ x ∷ [] ≡ ys ++ y ∷ [] → (xs ≡ ys) × (x ≡ y)
push-same [] [] x y e = (refl, cc)
push-same [] (z ∷ ys) x y e = absurd (omega (arith, ap length e, length_push ys y))
push-same (w ∷ xs) [] x y e = absurd (omega (arith, ap length e, length_push xs x))
push-same (w ∷ xs) (z ∷ ys) x y e =
    let head : w ≡ z = cc in
    let tail : xs ++ x ∷ [] ≡ ys ++ y ∷ [] = cc in
    let k = push-same xs ys x y tail in
    (ap (λ v. v ∷ xs) head ∙ ap (λ v. z ∷ v) k.0, k.1)

-- the list reversed has what was first at its end
reverse-cons : {X : Type 0} (x : X) (xs : List X) → reverse (x ∷ xs) ≡ reverse xs ++ x ∷ []
reverse-cons x xs = reverse-append (x ∷ []) xs

-- the items with one more on top
module _ (extent : ℕ → Extent) where
  -- the seats of one item more stand behind those of the others
  seats-push : (k : ℕ) (is : List Item) (i : Item) → seats_from extent k (is ++ i ∷ []) ≡ seats_from extent k is ++ map (seat_at (k + length is)) (offsets extent i)
  seats-push k [] i =
      let e : k ≡ k + 0 = omega arith in
      append-nil (map (seat_at k) (offsets extent i)) ∙ ap (λ n. map (seat_at n) (offsets extent i)) e
  seats-push k (j ∷ is) i =
      let e : suc k + length is ≡ k + suc (length is) = omega arith in
      ap (λ v. map (seat_at k) (offsets extent j) ++ v) (seats-push (suc k) is i ∙ ap (λ n. seats_from extent (suc k) is ++ map (seat_at n) (offsets extent i)) e)
      ∙ sym (append_assoc (map (seat_at k) (offsets extent j)) (seats_from extent (suc k) is) (map (seat_at (k + suc (length is))) (offsets extent i)))

  -- one item more on top, with the seats of its blocks behind the others, is laid out
  pub laid-more : (items : List Item) (i : Item) (stack : List Held) (places : List Seat) (old : List Held) (old_places : List Seat) → IsLaid extent items old old_places → stack ≡ old ++ held_of extent i ∷ [] → places ≡ old_places ++ map (seat_at (length old)) (offsets extent i) → IsLaid extent (i ∷ items) stack places
  laid-more items i stack places old old_places m e f =
      let its = reverse items in
      let n : length old ≡ 0 + length its = omega (arith, ap length m.held, length-map its (held_of extent)) in
      record {
        held = e ∙ ap (λ v. v ++ held_of extent i ∷ []) m.held ∙ sym (map-append (held_of extent) its (i ∷ [])) ∙ ap (map (held_of extent)) (sym (reverse-cons i items));
        seats = f ∙ ap (λ v. v ++ map (seat_at (length old)) (offsets extent i)) m.seats ∙ ap (λ n. seats_from extent 0 its ++ map (seat_at n) (offsets extent i)) n
            ∙ sym (seats-push 0 its i) ∙ ap (seats_from extent 0) (sym (reverse-cons i items));
      }

-- the blocks stay
blocks-kept : (f : Seat → Seat) → ((s : Seat) → block_of (f s) ≡ block_of s) → (n : ℕ) (xs : List Seat) → map block_of (take n xs ++ map f (drop n xs)) ≡ map block_of xs
blocks-kept f same n xs =
    map-append block_of (take n xs) (map f (drop n xs)) ∙ ap (λ v. map block_of (take n xs) ++ v) (kept (drop n xs))
    ∙ sym (map-append block_of (take n xs) (drop n xs)) ∙ ap (map block_of) (take-append-drop n xs)
  where
    kept : (ys : List Seat) → map block_of (map f ys) ≡ map block_of ys
    kept [] = refl
    kept (y ∷ ys) = ap (λ v. block_of (f y) ∷ v) (kept ys) ∙ ap (λ v. v ∷ map block_of ys) (same y)

-- seats that are moved into another item are the seats there of the moved places
reseat-map : (k n : ℕ) (move : Offset → Offset) (os : List Offset) → map (reseated n move) (map (seat_at k) os) ≡ map (seat_at n) (map move os)
reseat-map k n move [] = refl
reseat-map k n move (o ∷ os) = ap (λ v. seat_at n (move o) ∷ v) (reseat-map k n move os)

-- an operator joins two items
pub record IsOver (extent : ℕ → Extent) (join : Extent → Extent → Extent) (move : Extent → Offset → Offset) (over : Item → Item → Item) : Type 0 where
  pub sides : (l r : Item) → item_extent extent (over l r) ≡ join (item_extent extent l) (item_extent extent r)
  pub places : (l r : Item) → offsets extent (over l r) ≡ offsets extent l ++ map (move (item_extent extent l)) (offsets extent r)

-- the joined sides and the added counts of blocks are what is held of the item that the operator makes
joined-held : (extent : ℕ → Extent) (join : Extent → Extent → Extent) (move : Extent → Offset → Offset) (over : Item → Item → Item) → IsOver extent join move over → (l r : Item) (left right : Held) → left ≡ held_of extent l → right ≡ held_of extent r → (let h : Held = record { extent = join left.extent right.extent; blocks = left.blocks + right.blocks } in h) ≡ held_of extent (over l r)
joined-held extent join move over is l r left right el er =
    let n : left.blocks + right.blocks ≡ length (offsets extent (over l r)) =
    omega (arith, ap (λ h. h.blocks) el, ap (λ h. h.blocks) er, ap length (is.places l r), length-append (offsets extent l) (map (move (item_extent extent l)) (offsets extent r)), length-map (offsets extent r) (move (item_extent extent l))) in
    ap (λ k. (let h : Held = record { extent = join left.extent right.extent; blocks = k } in h)) n
    ∙ ap (λ e. (let h : Held = record { extent = e; blocks = length (offsets extent (over l r)) } in h))
    (ap (λ (v : Held). join v.extent right.extent) el ∙ ap (λ (v : Held). join (item_extent extent l) v.extent) er ∙ sym (is.sides l r))

module _ (extent : ℕ → Extent) (join : Extent → Extent → Extent) (move : Extent → Offset → Offset) (over : Item → Item → Item) (is : IsOver extent join move over) where
  -- after a join of the top two, the item that the operator makes of them and the others are laid out
  pub laid-joined : (items : List Item) (old new : List Held) (old_places places : List Seat) → 2 ≤ length old → IsLaid extent items old old_places → JoinsTop join move old new old_places places → (l : Item) × (r : Item) × (rest : List Item) × (items ≡ r ∷ l ∷ rest) × IsLaid extent (over l r ∷ rest) new places
  laid-joined [] old new old_places places two m j = absurd (omega (arith, two, ap length m.held))
  laid-joined (r ∷ []) old new old_places places two m j = absurd (omega (arith, two, ap length m.held))
  laid-joined (r ∷ l ∷ rest) old new old_places places two m j =
      let f = held_of extent in
      let its = reverse rest in
      let S = seats_from extent 0 its in
      let turned : reverse (r ∷ l ∷ rest) ≡ (its ++ l ∷ []) ++ r ∷ [] = reverse-cons r (l ∷ rest) ∙ ap (λ v. v ++ r ∷ []) (reverse-cons l rest) in
      let stack : (j.below ++ j.left ∷ []) ++ j.right ∷ [] ≡ (map f its ++ f l ∷ []) ++ f r ∷ [] =
      sym j.was ∙ m.held ∙ ap (map f) turned ∙ map-append f (its ++ l ∷ []) (r ∷ []) ∙ ap (λ v. v ++ f r ∷ []) (map-append f its (l ∷ [])) in
      let a = push-same (j.below ++ j.left ∷ []) (map f its ++ f l ∷ []) j.right (f r) stack in
      let b = push-same j.below (map f its) j.left (f l) a.0 in
      let n = length its in
      let front = S ++ map (seat_at (0 + n)) (offsets extent l) in
      let back = map (seat_at (0 + length (its ++ l ∷ []))) (offsets extent r) in
      let all : old_places ≡ front ++ back =
      m.seats ∙ ap (seats_from extent 0) turned ∙ seats-push extent 0 (its ++ l ∷ []) r ∙ ap (λ v. v ++ back) (seats-push extent 0 its l) in
      let start : length old_places - j.right.blocks ≡ length front =
      omega (arith, ap length all, length-append front back, length-map (offsets extent r) (seat_at (0 + length (its ++ l ∷ []))), ap (λ h. h.blocks) a.1) in
      let below : length j.below ≡ n = omega (arith, ap length b.0, length-map its f) in
      let mv = move (item_extent extent l) in
      let shifted : places ≡ front ++ map (reseated (length j.below) (move j.left.extent)) back =
      j.seats ∙ ap (λ k. take k old_places ++ map (reseated (length j.below) (move j.left.extent)) (drop k old_places)) start
      ∙ ap (λ v. take (length front) v ++ map (reseated (length j.below) (move j.left.extent)) (drop (length front) v)) all
      ∙ ap (λ v. v ++ map (reseated (length j.below) (move j.left.extent)) (drop (length front) (front ++ back))) (take-append_seam front back)
      ∙ ap (λ v. front ++ map (reseated (length j.below) (move j.left.extent)) v) (drop-append_seam front back) in
      let zero_n : 0 + n ≡ length j.below = omega (arith, below) in
      let moved : front ++ map (reseated (length j.below) (move j.left.extent)) back ≡ S ++ map (seat_at (length j.below)) (offsets extent (over l r)) =
      ap (λ v. front ++ map (reseated (length j.below) (move v)) back) (ap (λ h. h.extent) b.1)
      ∙ ap (λ v. front ++ v) (reseat-map (0 + length (its ++ l ∷ [])) (length j.below) mv (offsets extent r))
      ∙ ap (λ k. (S ++ map (seat_at k) (offsets extent l)) ++ map (seat_at (length j.below)) (map mv (offsets extent r))) zero_n
      ∙ append_assoc S (map (seat_at (length j.below)) (offsets extent l)) (map (seat_at (length j.below)) (map mv (offsets extent r)))
      ∙ ap (λ v. S ++ v) (sym (map-append (seat_at (length j.below)) (offsets extent l) (map mv (offsets extent r))) ∙ ap (map (seat_at (length j.below))) (sym (is.places l r))) in (
        l,
        r,
        rest,
        refl,
        laid-more extent rest (over l r) new places j.below S record { held = b.0; seats = refl }
            (j.is ∙ ap (λ h. j.below ++ h ∷ []) (joined-held extent join move over is l r j.left j.right b.1 a.1))
            (shifted ∙ moved),
      )

-- an item beside another has their sides side by side, and moves the second one's blocks to the right
beside-over : (extent : ℕ → Extent) → IsOver extent beside_extent moved_right (λ l r. item.Beside l r)
beside-over extent = record { sides = λ l r. refl; places = λ l r. refl }

-- an item above another has their sides one above the other, and moves the second one's blocks up
above-over : (extent : ℕ → Extent) → IsOver extent above_extent moved_up (λ l r. item.Above l r)
above-over extent = record { sides = λ l r. refl; places = λ l r. refl }

-- after a join there is one item less
joined-length : (join : Extent → Extent → Extent) (move : Extent → Offset → Offset) (old new : List Held) (old_places places : List Seat) → JoinsTop join move old new old_places places → length old - 1 ≡ length new
joined-length join move old new old_places places j = omega (arith, ap length j.was, ap length j.is, length_push (j.below ++ j.left ∷ []) j.right, length_push j.below j.left, length_push j.below (let h : Held = record { extent = join j.left.extent j.right.extent; blocks = j.left.blocks + j.right.blocks } in h))

-- with one token more its block, if it is one, stands behind those before
numbers-push : (passed : List Token) (t : Token) → numbers (passed ++ t ∷ []) ≡ numbers passed ++ numbers (t ∷ [])
numbers-push passed t = numbers-append passed (t ∷ [])

-- after each token the items that the passed tokens leave are laid out
pub lays-keeps : (design : Design) (node : Parts) (old new : List Held) (old_places places : List Seat) (passed : List Token) (t : Token) (rest : List Token) → IsLaying design node old old_places passed (t ∷ rest) → Lays (extent_in design node) t old new old_places places → IsLaying design node new places (passed ++ t ∷ []) rest
lays-keeps design node old new old_places places passed (token.Block b) rest m s =
    let extent = extent_in design node in
    record {
      runs = subst (λ k. Runs (length design.blocks) k rest) (omega (arith, ap length s.0, length_push old (held_of extent (item.Block b)))) m.runs.1;
      laid = subst (λ v. IsLaid extent v new places) (sym (read-append [] passed (token.Block b ∷ []) ∙ read-block (read [] passed) b)) (laid-more extent (read [] passed) (item.Block b) new places old old_places m.laid s.0 s.1);
      blocks = ap (map block_of) s.1 ∙ map-append block_of old_places (seat_at (length old) (record { block = b; least_x = 0; most_x = 0; least_y = 0; most_y = 0 }) ∷ []) ∙ ap (λ v. v ++ b ∷ []) m.blocks ∙ sym (numbers-push passed (token.Block b));
    }
lays-keeps design node old new old_places places passed token.Beside rest m s =
    let extent = extent_in design node in
    let k = laid-joined extent beside_extent moved_right (λ l r. item.Beside l r) (beside-over extent) (read [] passed) old new old_places places m.runs.0 m.laid s in
    record {
      runs = subst (λ k. Runs (length design.blocks) k rest) (joined-length beside_extent moved_right old new old_places places s) m.runs.1;
      laid = subst (λ v. IsLaid extent v new places) (sym (read-append [] passed (token.Beside ∷ []) ∙ ap (λ v. read v (token.Beside ∷ [])) k.3)) k.4;
      blocks = ap (map block_of) s.seats ∙ blocks-kept (reseated (length s.below) (moved_right s.left.extent)) (λ x. refl) (length old_places - s.right.blocks) old_places ∙ m.blocks ∙ sym (numbers-push passed token.Beside ∙ append-nil (numbers passed));
    }
lays-keeps design node old new old_places places passed token.Above rest m s =
    let extent = extent_in design node in
    let k = laid-joined extent above_extent moved_up (λ l r. item.Above l r) (above-over extent) (read [] passed) old new old_places places m.runs.0 m.laid s in
    record {
      runs = subst (λ k. Runs (length design.blocks) k rest) (joined-length above_extent moved_up old new old_places places s) m.runs.1;
      laid = subst (λ v. IsLaid extent v new places) (sym (read-append [] passed (token.Above ∷ []) ∙ ap (λ v. read v (token.Above ∷ [])) k.3)) k.4;
      blocks = ap (map block_of) s.seats ∙ blocks-kept (reseated (length s.below) (moved_up s.left.extent)) (λ x. refl) (length old_places - s.right.blocks) old_places ∙ m.blocks ∙ sym (numbers-push passed token.Above ∙ append-nil (numbers passed));
    }

-- one more token
pub token-laid : (design : Design) (node : Parts) (old new : List Held) (old_places places : List Seat) (tokens : List Token) (i : ℕ) (d : Token) → i < length tokens → IsLaying design node old old_places (take i tokens) (drop i tokens) → Lays (extent_in design node) (get_or tokens i d) old new old_places places → IsLaying design node new places (take (i + 1) tokens) (drop (i + 1) tokens)
token-laid design node old new old_places places tokens i d lt m s =
    subst (λ v. IsLaying design node new places v (drop (i + 1) tokens)) (sym (take_more tokens i d lt))
    (lays-keeps design node old new old_places places (take i tokens) (get_or tokens i d) (drop (i + 1) tokens)
    (subst (IsLaying design node old old_places (take i tokens)) (drop_more tokens i d lt) m) s)

-- all tokens are passed
pub laying-ends : (design : Design) (node : Parts) (stack : List Held) (places : List Seat) (i : ℕ) (rest : List Token) → IsSubproblem design node → length node.tokens ≤ i → IsLaying design node stack places (take i node.tokens) rest → AreSeated design node stack places
laying-ends design node stack places i rest sub h m =
    let begun = subproblem-begun design node sub in
    let n = block_count design in
    let few = few-numbers design node i sub in
    let all = take_all i node.tokens h in
    let blocks : map block_of places ≡ numbers node.tokens = m.blocks ∙ ap numbers all in
    record {
      laid = subst (λ v. IsLaid (extent_in design node) (read [] v) stack places) all m.laid;
      once = λ b. omega (arith, sum_by-map (λ (x : ℕ). cond {A = ℕ} (x == b) 1 0) block_of places, ap (count_by (λ x. x == b)) blocks, count-numbers b node.tokens, begun.once b);
      inside = All-from_recursion (λ s. block_of s < n) places (each-unmap (λ b. b < n) places (subst (AllByRecursion (λ b. b < n)) (sym blocks) (numbers-below n node.tokens begun.below)));
      few = omega (arith, few, ap length m.blocks, length-map places block_of);
    }
  where
    each-unmap : (P : ℕ → Type 0) (xs : List Seat) → AllByRecursion P (map block_of xs) → AllByRecursion (λ s. P (block_of s)) xs
    each-unmap P [] h = tt
    each-unmap P (x ∷ xs) h = (h.0, each-unmap P xs h.1)
