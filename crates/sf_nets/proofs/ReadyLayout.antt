-- A layout of a subproblem is one that pins can be read by, and its homes are the places of the blocks in the items.
use Rattle.std.proofs.Common.{◌≡◌, ℕ, suc, ◌+◌, ◌<◌, ◌≤◌, List, [], ◌∷◌, length, reverse, map, get_or, arith, refl, ap, sym, subst, ◌∙◌, ◌⊎◌, inl, inr, All, ◌==◌, if◌then◌else◌}
use Rattle.sf_nets.proofs.Common.{Contains, count_by, Option, Some, None, IfSome, zero, ints, cases_eq, ne_eqb, eq-eqb, cond-true, cond-false, length-map, Contains-append_cases, Contains-append_left, Contains-append_right, All-contains, Design, block_count, Parts, Contains-cons_cases, Contains-head, Contains-tail, not_in_nil, Extent, Offset, Item, items_of, offsets, extent_in, Contains-map, Contains-from_map, count-cons, count-head, Home, Layout, Seat, Standing, Tells, IsModestOffset, AreModest, held_of, seat_at, seats_from, IsFitReach, anywhere, IsLayout, IsReadyAt, IsReady, extent_from, home_in, last_home, block_range, standing_at, standing_by, IsSmallExtent, span-small}
use Rattle.sf_nets.proofs.ModestExtents.{are-modest}

-- the last home of a block is the one given, or by one of the seats
pub record IsSeated (extent : ℕ → Extent) (b : ℕ) (ss : List Seat) (h : Home) : Type 0 where
  pub seat : Seat
  pub found : Contains ss seat
  pub block : seat.offset.block ≡ b
  pub is : h ≡ home_in (extent seat.offset.block) seat

-- the last home of the block is the one given, or by one of the seats
abbrev pub IsLastHome : (ℕ → Extent) → Option Home → ℕ → List Seat → Type 0
IsLastHome extent d b ss = (last_home extent d b ss ≡ d) ⊎ ((h : Home) × (last_home extent d b ss ≡ Some h) × IsSeated extent b ss h)

-- a home by one of the seats is so where one seat more stands in front
further : (extent : ℕ → Extent) (b : ℕ) (s : Seat) (ss : List Seat) (h : Home) → IsSeated extent b ss h → IsSeated extent b (s ∷ ss) h
further extent b s ss h k = record { seat = k.seat; found = Contains-tail s ss k.seat k.found; block = k.block; is = k.is }

-- the last home of a block is the one given, or by one of the seats
pub last-is : (extent : ℕ → Extent) (d : Option Home) (b : ℕ) (ss : List Seat) → IsLastHome extent d b ss
last-is extent d b [] = inl refl
last-is extent d b (s ∷ ss) =
    let own = home_in (extent s.offset.block) s in
    elim (cases_eq s.offset.block b) [
      | inl e ↦ (let same : last_home extent d b (s ∷ ss) ≡ last_home extent (Some own) b ss = ap (λ v. last_home extent v b ss) (cond-true (s.offset.block == b) (Some own) d (eq-eqb s.offset.block b e)) in
          elim (last-is extent (Some own) b ss) [
            | inl f ↦ inr (own, same ∙ f, record { seat = s; found = Contains-head s ss; block = e; is = refl })
            | inr f ↦ inr (f.0, same ∙ f.1, further extent b s ss f.0 f.2)
          ])
      | inr ne ↦ (let same : last_home extent d b (s ∷ ss) ≡ last_home extent d b ss = ap (λ v. last_home extent v b ss) (cond-false (s.offset.block == b) (Some own) d (ne_eqb s.offset.block b ne)) in
          elim (last-is extent d b ss) [
            | inl f ↦ inl (same ∙ f)
            | inr f ↦ inr (f.0, same ∙ f.1, further extent b s ss f.0 f.2)
          ])
    ]

-- the last home of a block without a seat is the one given
last-none : (extent : ℕ → Extent) (d : Option Home) (b : ℕ) (ss : List Seat) → count_by (λ s. s.offset.block == b) ss ≡ 0 → last_home extent d b ss ≡ d
last-none extent d b [] h = refl
last-none extent d b (s ∷ ss) h =
    elim (cases_eq s.offset.block b) [
      | inl e ↦ absurd (omega (arith, h, count-head (λ s. s.offset.block == b) s ss (eq-eqb s.offset.block b e)))
      | inr ne ↦ ap (λ v. last_home extent v b ss) (cond-false (s.offset.block == b) (Some (home_in (extent s.offset.block) s)) d (ne_eqb s.offset.block b ne)) ∙ last-none extent d b ss (omega (arith, h, count-cons (λ s. s.offset.block == b) s ss))
    ]

-- the one seat of a block gives its home
pub last-once : (extent : ℕ → Extent) (d : Option Home) (ss : List Seat) (s : Seat) → count_by (λ t. t.offset.block == s.offset.block) ss ≤ 1 → Contains ss s → last_home extent d s.offset.block ss ≡ Some (home_in (extent s.offset.block) s)
last-once extent d [] s h c = absurd (not_in_nil s c)
last-once extent d (t ∷ ss) s h c =
    let b = s.offset.block in
    elim (Contains-cons_cases t ss s c) [
      | inl e ↦ (let same : t.offset.block ≡ b = ap (λ v. v.offset.block) e in
          ap (λ v. last_home extent v b ss) (cond-true (t.offset.block == b) (Some (home_in (extent t.offset.block) t)) d (eq-eqb t.offset.block b same) ∙ ap (λ v. Some (home_in (extent v.offset.block) v)) e)
          ∙ last-none extent (Some (home_in (extent b) s)) b ss (omega (arith, h, count-head (λ v. v.offset.block == b) t ss (eq-eqb t.offset.block b same))))
      | inr k ↦ last-once extent (if t.offset.block == b then Some (home_in (extent t.offset.block) t) else d) ss s (omega (arith, h, count-cons (λ v. v.offset.block == b) t ss)) k
    ]

-- a seat of the items from the k-th on
pub record IsSeatFrom (extent : ℕ → Extent) (k : ℕ) (is : List Item) (s : Seat) : Type 0 where
  pub at : ℕ
  pub inside : at < length is
  pub item : s.item ≡ k + at
  pub stands : (d : Item) → Contains (offsets extent (get_or is at d)) s.offset

-- a seat among those of the items from number k on stands in one of them
pub seat-from : (extent : ℕ → Extent) (k : ℕ) (is : List Item) (s : Seat) → Contains (seats_from extent k is) s → IsSeatFrom extent k is s
seat-from extent k [] s c = absurd (not_in_nil s c)
seat-from extent k (i ∷ is) s c =
    elim (Contains-append_cases (map (seat_at k) (offsets extent i)) (seats_from extent (suc k) is) s c) [
      | inl here ↦ (let o = Contains-from_map (seat_at k) (offsets extent i) s here in
          record { at = 0; inside = omega arith; item = (let e : k ≡ k + 0 = omega arith in ap (λ v. v.item) (sym o.2) ∙ e); stands = λ d. subst (λ v. Contains (offsets extent i) v.offset) o.2 o.1 })
      | inr there ↦ (let r = seat-from extent (suc k) is s there in
          record { at = suc r.at; inside = omega (arith, r.inside); item = (let e : suc k + r.at ≡ k + suc r.at = omega arith in r.item ∙ e); stands = λ d. r.stands d })
    ]

-- each place of a block in an item has its seat among those of the items
pub from-item : (extent : ℕ → Extent) (k : ℕ) (is : List Item) (j : ℕ) (d : Item) (o : Offset) → j < length is → Contains (offsets extent (get_or is j d)) o → Contains (seats_from extent k is) (seat_at (k + j) o)
from-item extent k [] j d o lt c = absurd (omega arith)
from-item extent k (i ∷ is) zero d o lt c =
    let e : k ≡ k + 0 = omega arith in
    subst (λ n. Contains (seats_from extent k (i ∷ is)) (seat_at n o)) e
    (Contains-append_left (map (seat_at k) (offsets extent i)) (seats_from extent (suc k) is) (seat_at k o) (Contains-map (seat_at k) (offsets extent i) o c))
from-item extent k (i ∷ is) (suc j) d o lt c =
    let e : suc k + j ≡ k + suc j = omega arith in
    subst (λ n. Contains (seats_from extent k (i ∷ is)) (seat_at n o)) e
    (Contains-append_right (map (seat_at k) (offsets extent i)) (seats_from extent (suc k) is) (seat_at (suc k + j) o) (from-item extent (suc k) is j d o (omega arith) c))

-- a block's home is where its seat in an item says
pub record StandsIn (design : Design) (node : Parts) (layout : Layout) (b : ℕ) (h : Home) : Type 0 where
  pub offset : Offset
  pub block : offset.block ≡ b
  pub is : h ≡ home_in (extent_from layout.extents.items offset.block) (seat_at h.item offset)
  pub inside : h.item < length (reverse (items_of node))
  pub stands : (d : Item) → Contains (offsets (extent_in design node) (get_or (reverse (items_of node)) h.item d)) offset

module _ (design : Design) (node : Parts) (layout : Layout) (m : IsLayout design node layout) where
  -- as many items are held as there are
  pub held-count : length layout.held.items ≡ length (reverse (items_of node))
  held-count = ap length m.stack.laid.held ∙ length-map (reverse (items_of node)) (held_of (extent_in design node))

  -- the extent of each block is that in its span
  pub extent-same : (b : ℕ) → b < block_count design → extent_from layout.extents.items b ≡ extent_in design node b
  extent-same b lt = m.extents.each b (record { least_w = 0; most_w = 0; least_h = 0; most_h = 0 }) lt

  -- the standing of each block is by its extent and its last seat
  pub standing-is : (b : ℕ) → b < block_count design → (d : Standing) → get_or layout.table.items b d ≡ standing_by design layout.extents.items layout.seats.items b
  standing-is b lt d = m.table.each b d lt

  -- the home of each block is by its last seat
  home-is : (b : ℕ) → b < block_count design → (standing_at layout.table.items b).home ≡ last_home (extent_from layout.extents.items) None b layout.seats.items
  home-is b lt = ap (λ v. v.home) (standing-is b lt (record { side = 0; range = anywhere; home = None }))

  -- the home of a block in an item
  pub home-found : (j : ℕ) (d : Item) (o : Offset) → j < length (reverse (items_of node)) → Contains (offsets (extent_in design node) (get_or (reverse (items_of node)) j d)) o →
      (o.block < block_count design) × ((standing_at layout.table.items o.block).home ≡ Some (home_in (extent_from layout.extents.items o.block) (seat_at j o)))
  home-found j d o lt c =
      let z : 0 + j ≡ j = omega arith in
      let here : Contains layout.seats.items (seat_at j o) =
      subst (λ v. Contains v (seat_at j o)) (sym m.stack.laid.seats) (subst (λ n. Contains (seats_from (extent_in design node) 0 (reverse (items_of node))) (seat_at n o)) z (from-item (extent_in design node) 0 (reverse (items_of node)) j d o lt c)) in
      let inside : o.block < block_count design = All-contains (λ s. s.offset.block < block_count design) layout.seats.items (seat_at j o) m.stack.inside here in
      (inside, home-is o.block inside ∙ last-once (extent_from layout.extents.items) None layout.seats.items (seat_at j o) (m.stack.once o.block) here)

  -- a block with a home stands in that item
  pub home-stands : (b : ℕ) (h : Home) → b < block_count design → (standing_at layout.table.items b).home ≡ Some h → StandsIn design node layout b h
  home-stands b h lt e =
      let extent = extent_in design node in
      elim (last-is (extent_from layout.extents.items) None b layout.seats.items) [
        | inl none ↦ absurd (differ h (sym e ∙ home-is b lt ∙ none))
        | inr k ↦ (let same : h ≡ k.0 = only h k.0 (sym e ∙ home-is b lt ∙ k.1) in
            let s = k.2.seat in
            let f = seat-from extent 0 (reverse (items_of node)) s (subst (λ v. Contains v s) m.stack.laid.seats k.2.found) in
            let is : h ≡ home_in (extent_from layout.extents.items s.offset.block) s = same ∙ k.2.is in
            let at : s.item ≡ h.item = ap (λ v. v.item) (sym is) in
            let z : f.at ≡ h.item = omega (arith, f.item, at) in
            record {
              offset = s.offset;
              block = k.2.block;
              is = is ∙ ap (λ n. home_in (extent_from layout.extents.items s.offset.block) (seat_at n s.offset)) at;
              inside = omega (arith, f.inside, z);
              stands = λ d. subst (λ n. Contains (offsets extent (get_or (reverse (items_of node)) n d)) s.offset) z (f.stands d);
            })
      ]
    where
      differ : (h : Home) → ◌≡◌ {A = Option Home} (Some h) None → ⊥
      differ h e = cc

      only : (h k : Home) → ◌≡◌ {A = Option Home} (Some h) (Some k) → h ≡ k
      only h k e = cc

  -- the numbers of a layout are modest
  modest : AreModest layout.held.items layout.seats.items
  modest =
      let extent = extent_in design node in
      let its = reverse (items_of node) in
      subst (λ v. AreModest v layout.seats.items) (sym m.stack.laid.held) (subst (AreModest (map (held_of extent) its)) (sym m.stack.laid.seats)
      (are-modest extent (span-small design node) its (omega (arith, m.stack.few, ap length m.stack.laid.seats))))

  -- the range of a block of a small extent is near
  near-range : (e : Extent) → IsSmallExtent 1048576 e → IsFitReach (block_range design e)
  near-range e s = (
    ((omega (arith, ints, s.least_w), omega (arith, ints, s.least_w)), (omega (arith, ints, s.least_w, design.limits.width.1), omega (arith, ints, s.least_w, design.limits.width.1))),
    ((omega (arith, ints, s.least_h), omega (arith, ints, s.least_h)), (omega (arith, ints, s.least_h, design.limits.height.1), omega (arith, ints, s.least_h, design.limits.height.1))),
  )

  -- the home of a block of a small extent at a modest place is near
  near-home : (e : Extent) (s : Seat) → IsSmallExtent 1048576 e → IsModestOffset s.offset → IsFitReach (home_in e s).reach
  near-home e s k o = (
    ((omega (arith, ints), omega (arith, ints, o.least_x, k.least_w)), (omega (arith, ints), omega (arith, ints, o.most_x, k.most_w))),
    ((omega (arith, ints), omega (arith, ints, o.least_y, k.least_h)), (omega (arith, ints), omega (arith, ints, o.most_y, k.most_h))),
  )

  -- no extent of a block has a side beyond the limit
  small : (b : ℕ) → b < block_count design → IsSmallExtent 1048576 (extent_from layout.extents.items b)
  small b lt = subst (IsSmallExtent 1048576) (sym (extent-same b lt)) (span-small design node b)

  -- the home of a block is in an item that is there, and near
  ready-home : (b : ℕ) → b < block_count design → IfSome (last_home (extent_from layout.extents.items) None b layout.seats.items) (λ h. (h.item < length layout.held.items) × IsFitReach h.reach)
  ready-home b lt =
      let ready : Option Home → Type 0 = λ o. IfSome o (λ h. (h.item < length layout.held.items) × IsFitReach h.reach) in
      elim (last-is (extent_from layout.extents.items) None b layout.seats.items) [
        | inl none ↦ subst ready (sym none) tt
        | inr k ↦ (let st = home-stands b k.0 lt (home-is b lt ∙ k.1) in
            subst ready (sym k.1) (
              omega (arith, st.inside, held-count),
              subst (λ v. IsFitReach v.reach) (sym k.2.is) (near-home (extent_from layout.extents.items k.2.seat.offset.block) k.2.seat (small k.2.seat.offset.block (omega (arith, k.2.block, lt))) (All-contains (λ s. IsModestOffset s.offset) layout.seats.items k.2.seat modest.offsets k.2.found)),
            ))
      ]

  -- the table of a layout is one that pins can be read by
  pub readied : IsReady design (length layout.held.items) layout.table.items
  readied = record {
    count = m.table.count;
    each = λ i d lt. (let h : i < block_count design = omega (arith, lt, m.table.count) in
        let s = small i h in
        subst (IsReadyAt (length layout.held.items)) (sym (standing-is i h d)) record {
          side = omega (arith, s.least_w);
          range = near-range (extent_from layout.extents.items i) s;
          home = ready-home i h;
        });
  }

-- no extent that is told has a great side
pub small_extents : (design : Design) (node : Parts) (extents : List Extent) → Tells (extent_in design node) (block_count design) extents → All (λ e. (e.least_w ≤ 1048576) × (e.least_h ≤ 1048576)) extents
small_extents design node extents t i d lt =
    let s = span-small design node i in
    subst (λ e. (e.least_w ≤ 1048576) × (e.least_h ≤ 1048576)) (sym (t.each i d (omega (arith, lt, t.count)))) (s.least_w, s.least_h)
