-- A tree cut into runs of decided subproblems and stretches of open ones.
use Rattle.std.proofs.Common.{◌≡◌, ◌≢◌, ℕ, ◌+◌, ◌-◌, ◌<◌, List, [], ◌∷◌, ◌++◌, length, map, take, drop, All, arith, refl, ap, sym, subst, ◌∙◌, true, false, append-nil}
use Rattle.sf_resume.proofs.Common.{AllByRecursion, flat_map, All-append, All-cons, All-nil, recursion_from_All, Design, Parts, root, walk, behind, pending, Mark, Tag, Extend, Split, Closed, Open, made, marks, waiting_after, left_open, marks-then, trees-first, total, total-append, total-map, Piece, IsRead, marks_in, open_mark, told_by, Reading, IsApart, IsDecidedRun, IsOpenRun, AreTreesOf, IsReading, IsReadOn, opens, flat_map-append, Stretch, marks-permute, Apart}
use Rattle.sf_cursor.specs.Stretches.{IsStretch, waits}
use Rattle.sf_resume.proofs.Reached.{behind-cut}
use Rattle.sf_resume.proofs.Readings.{read-end, read-shorter}

-- what further tags leave open is what they leave open of what waits
left-then : (nodes : List Parts) (tags more : List Tag) → left_open nodes (tags ++ more) ≡ left_open nodes tags ++ left_open (waiting_after nodes tags) more
left-then [] [] more = refl
left-then [] (tag ∷ tags) more = refl
left-then (node ∷ nodes) [] more = refl
left-then (node ∷ nodes) (Extend ∷ tags) more = left-then (made Extend node ++ nodes) tags more
left-then (node ∷ nodes) (Split b ∷ tags) more = left-then (made (Split b) node ++ nodes) tags more
left-then (node ∷ nodes) (Closed p ∷ tags) more = left-then nodes tags more
left-then (node ∷ nodes) (Open ∷ tags) more = ap (λ ns. node ∷ ns) (left-then nodes tags more)

-- decided tags leave nothing open
left-none : (nodes : List Parts) (tags : List Tag) → AllByRecursion (λ t. t ≢ Open) tags → left_open nodes tags ≡ []
left-none [] tags h = refl
left-none (node ∷ nodes) [] h = refl
left-none (node ∷ nodes) (Extend ∷ tags) h = left-none (made Extend node ++ nodes) tags h.1
left-none (node ∷ nodes) (Split b ∷ tags) h = left-none (made (Split b) node ++ nodes) tags h.1
left-none (node ∷ nodes) (Closed p ∷ tags) h = left-none nodes tags h.1
left-none (node ∷ nodes) (Open ∷ tags) h = absurd (h.0 refl)

-- open tags, one for each of the first subproblems, leave these open
left-opens : (nodes more : List Parts) → left_open (nodes ++ more) (opens nodes) ≡ nodes
left-opens [] [] = refl
left-opens [] (m ∷ more) = refl
left-opens (node ∷ nodes) more = ap (λ ns. node ∷ ns) (left-opens nodes more)

-- and mark them
marks-opens : (nodes more : List Parts) → marks (nodes ++ more) (opens nodes) ≡ map open_mark nodes
marks-opens [] [] = refl
marks-opens [] (m ∷ more) = refl
marks-opens (node ∷ nodes) more = ap (λ ms. open_mark node ∷ ms) (marks-opens nodes more)

-- the first tags of trees stand at subproblems
read-front : (nodes : List Parts) (tags more : List Tag) → AreTreesOf nodes (tags ++ more) → map (λ (m : Mark). m.tag) (marks nodes tags) ≡ tags
read-front [] [] more trees = refl
read-front [] (tag ∷ tags) more trees = absurd trees
read-front (node ∷ nodes) [] more trees = refl
read-front (node ∷ nodes) (tag ∷ tags) more trees = ap (λ ts. tag ∷ ts) (read-front (made tag node ++ nodes) tags more (trees-first (λ n p. 0) 0 node nodes tag (tags ++ more) trees).1)

module _ (design : Design) (bound : Parts → ℕ) (tags : List Tag) where
  -- the root alone
  abbrev one : List Parts
  one = root design ∷ []

  -- what the stretches stand for
  abbrev all_waits : List Stretch → List Parts
  all_waits stretches = flat_map (waits design) stretches

  -- what was read is cut into pieces and stretches
  pub record IsCut (r : Reading) (pieces : List Piece) (stretches : List Stretch) : Type 0 where
    pub reading : IsReading design bound tags r
    pub stretches_are : All (IsStretch design bound) stretches
    pub open_are : all_waits stretches ≡ left_open one (take r.at tags)
    pub read : All (IsRead design) pieces
    pub told : (f : Mark → ℕ) → total f (told_by design pieces) + total (λ n. f (open_mark n)) (all_waits stretches) ≡ total f (marks one (take r.at tags))

  -- nothing was read
  pub cut-none : (r : Reading) → IsReading design bound tags r → r.at ≡ 0 → IsCut r [] []
  cut-none r is at = record {
    reading = is;
    stretches_are = All-nil (IsStretch design bound);
    open_are = sym (ap (λ n. left_open one (take n tags)) at);
    read = All-nil (IsRead design);
    told = λ f. sym (ap (λ n. total f (marks one (take n tags))) at);
  }

  module _ (old new : Reading) (run : List Tag) (is : IsReading design bound tags old) (more : old.more ≡ true) (on : IsReadOn design bound tags old run new) where
    -- what is next
    abbrev next : List Parts
    next = pending design true old.cursor.node

    -- it is what waits after the tags before
    waiting-next : waiting_after one (take old.at tags) ≡ next
    waiting-next = is.waiting ∙ ap (λ b. pending design b old.cursor.node) more

    -- what was read marks more subproblems
    marks-on : marks one (take new.at tags) ≡ marks one (take old.at tags) ++ marks next run
    marks-on = ap (marks one) on.on ∙ marks-then one (take old.at tags) run ∙ ap (λ ns. marks one (take old.at tags) ++ marks ns run) waiting-next

    -- and leaves more open
    left-on : left_open one (take new.at tags) ≡ left_open one (take old.at tags) ++ left_open next run
    left-on = ap (left_open one) on.on ∙ left-then one (take old.at tags) run ∙ ap (λ ns. left_open one (take old.at tags) ++ left_open ns run) waiting-next

    -- each tag that was read stands at a subproblem
    read-run : map (λ (m : Mark). m.tag) (marks next run) ≡ run
    read-run =
        read-front next run (drop new.at tags)
        (subst (AreTreesOf next) on.rest (subst (λ b. AreTreesOf (pending design b old.cursor.node) (drop old.at tags)) more is.trees))

  -- a decided run more
  pub cut-piece : (old new : Reading) (pieces : List Piece) (stretches : List Stretch) (piece : Piece) → IsCut old pieces stretches → old.more ≡ true → IsDecidedRun design bound tags old piece new → IsCut new (pieces ++ piece ∷ []) stretches
  cut-piece old new pieces stretches piece c more d =
      let run = piece.tags.items in
      let on = d.read in
      let from : walk (root design) piece.first.items ≡ old.cursor.node = ap (walk (root design)) d.first ∙ sym c.reading.way.sub.is in
      let own : marks_in design piece ≡ marks (pending design true old.cursor.node) run = ap (λ n. marks (pending design true n) run) from in
      record {
        reading = on.reading;
        stretches_are = c.stretches_are;
        open_are = c.open_are ∙ sym (left-on old new run c.reading more on ∙ ap (λ ns. left_open one (take old.at tags) ++ ns) (left-none (pending design true old.cursor.node) run (recursion_from_All (λ t. t ≢ Open) run d.decided)) ∙ append-nil (left_open one (take old.at tags)));
        read = All-append (IsRead design) pieces (piece ∷ []) c.read
            (All-cons (IsRead design) piece [] (ap (map (λ (m : Mark). m.tag)) own ∙ read-run old new run c.reading more on, d.some) (All-nil (IsRead design)));
        told = λ f. omega (
          arith,
          c.told f,
          ap (total f) (marks-on old new run c.reading more on),
          total-append f (marks one (take old.at tags)) (marks (pending design true old.cursor.node) run),
          ap (total f) (flat_map-append (marks_in design) pieces (piece ∷ []) ∙ ap (λ ms. told_by design pieces ++ ms) (append-nil (marks_in design piece) ∙ own)),
          total-append f (told_by design pieces) (marks (pending design true old.cursor.node) run),
        );
      }

  -- after a decided run fewer tags are left
  pub decided-shorter : (old new : Reading) (piece : Piece) → IsReading design bound tags old → old.more ≡ true → IsDecidedRun design bound tags old piece new → length tags - new.at < length tags - old.at
  decided-shorter old new piece r more d = read-shorter design bound tags old new piece.tags.items r more d.read d.some

  -- and after a stretch
  pub open-shorter : (old new : Reading) (stretch : Stretch) → IsReading design bound tags old → old.more ≡ true → IsOpenRun design bound tags old stretch new → length tags - new.at < length tags - old.at
  open-shorter old new stretch r more o = read-shorter design bound tags old new (opens (waits design stretch)) r more o.read (omega arith)

  -- a stretch more
  pub cut-stretch : (old new : Reading) (pieces : List Piece) (stretches : List Stretch) (stretch : Stretch) → IsCut old pieces stretches → old.more ≡ true → IsOpenRun design bound tags old stretch new → IsCut new pieces (stretches ++ stretch ∷ [])
  cut-stretch old new pieces stretches stretch c more o =
      let own = waits design stretch in
      let run = opens own in
      let on = o.read in
      let rest = behind (root design) (take stretch.floor stretch.cursor.node.steps) in
      let first : pending design true old.cursor.node ≡ own ++ rest =
      ap (pending design true) (sym o.node) ∙ ap (λ ns. stretch.cursor.node ∷ ns) (behind-cut stretch.floor (root design) stretch.cursor.node.steps) in
      let opened : left_open (pending design true old.cursor.node) run ≡ own = ap (λ ns. left_open ns run) first ∙ left-opens own rest in
      let marked : marks (pending design true old.cursor.node) run ≡ map open_mark own = ap (λ ns. marks ns run) first ∙ marks-opens own rest in
      let longer : all_waits (stretches ++ stretch ∷ []) ≡ all_waits stretches ++ own = flat_map-append (waits design) stretches (stretch ∷ []) ∙ ap (λ ns. all_waits stretches ++ ns) (append-nil own) in
      record {
        reading = on.reading;
        stretches_are = All-append (IsStretch design bound) stretches (stretch ∷ []) c.stretches_are (All-cons (IsStretch design bound) stretch [] o.stretch_is (All-nil (IsStretch design bound)));
        open_are = longer ∙ ap (λ ns. ns ++ own) c.open_are ∙ sym (left-on old new run c.reading more on ∙ ap (λ ns. left_open one (take old.at tags) ++ ns) opened);
        read = c.read;
        told = λ f.
            let g : Parts → ℕ = λ n. f (open_mark n) in
            let a : total f (map open_mark own) ≡ total g own = total-map f open_mark own in
            omega (
              arith,
              c.told f,
              a,
              ap (total f) (marks-on old new run c.reading more on),
              total-append f (marks one (take old.at tags)) (marks (pending design true old.cursor.node) run),
              ap (total f) marked,
              ap (total g) longer,
              total-append g (all_waits stretches) own,
            );
      }

  -- all was read
  pub cut-all : (r : Reading) (apart : Apart) → IsCut r apart.pieces.items apart.stretches.items → r.more ≡ false → IsApart design bound tags apart
  cut-all r apart c none =
      let whole = read-end design bound tags r c.reading none in
      let pieces = apart.pieces.items in
      let open_are : all_waits apart.stretches.items ≡ left_open one tags = c.open_are ∙ ap (left_open one) whole in
      record {
        stretches = c.stretches_are;
        open_are = open_are;
        read = c.read;
        told = marks-permute (told_by design pieces ++ map open_mark (left_open one tags)) (marks one tags)
            (λ f.
            let g : Parts → ℕ = λ n. f (open_mark n) in
            let a : total f (map open_mark (left_open one tags)) ≡ total g (left_open one tags) = total-map f open_mark (left_open one tags) in
            omega (arith, c.told f, a, ap (total g) open_are, ap (λ ts. total f (marks one ts)) whole, total-append f (told_by design pieces) (map open_mark (left_open one tags))));
      }
