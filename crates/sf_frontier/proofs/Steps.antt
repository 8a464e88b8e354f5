-- Each step keeps the rule of a deque.
use Rattle.std.proofs.Common.{Bool, if◌then◌else◌, ◌≡◌, ◌≢◌, ℕ, zero, suc, ◌+◌, ◌<◌, ◌≤◌, List, [], ◌∷◌, ◌++◌, length, set, drop, All, refl, sym, ap, ◌∙◌, subst, ⊎_elim, arith, length-append, append_assoc, append-nil, sum_by}
use Rattle.sf_frontier.proofs.Common.{sum_by-cons, sum_by-append, sum_by_push, All-append, All-cons, All-nil, All-take, All-drop, Stretch, view, ends, IdleIsEmpty, IsOrdered, weight_put, weight_taken, Balanced, Put, Taken, Stolen, IsAllTaken, back_alone, front_alone, both_ends, no_end}
use lib.Seq.{take-append_seam, drop-append_seam}
use mathlib.Core.Option.{some, some-ne-none, some-injective}
use lib.ListN.{get_elem?}
use Rattle.crossbeam_deque.specs.Tasks.{Pushes, Takes, Pops, Finds, Forks, Merges}
use Rattle.crossbeam_deque.proofs.Lists.{at_set, at_snoc}
use Rattle.sf_frontier.specs.declared.rule.View.{View}

-- the total after one view became another
total_set : (f : View → ℕ) (views : List View) (port : ℕ) (v w : View) → get_elem? views port ≡ some v → sum_by f (set views port w) + f v ≡ sum_by f views + f w
total_set f [] port v w at = absurd (some-ne-none v (sym at))
total_set f (x ∷ xs) zero v w at = omega (arith, sum_by-cons f x xs, sum_by-cons f w xs, ap f (some-injective x v at))
total_set f (x ∷ xs) (suc port) v w at = omega (arith, sum_by-cons f x xs, sum_by-cons f x (set xs port w), total_set f xs port v w at)

-- one view weighs no more than all
total_at : (f : View → ℕ) (views : List View) (port : ℕ) (v : View) → get_elem? views port ≡ some v → f v ≤ sum_by f views
total_at f [] port v at = absurd (some-ne-none v (sym at))
total_at f (x ∷ xs) zero v at = omega (arith, sum_by-cons f x xs, ap f (some-injective x v at))
total_at f (x ∷ xs) (suc port) v at = omega (arith, sum_by-cons f x xs, total_at f xs port v at)

-- nor do two
total_two : (f : View → ℕ) (views : List View) (i j : ℕ) (v u : View) → get_elem? views i ≡ some v → get_elem? views j ≡ some u → i ≢ j → f v + f u ≤ sum_by f views
total_two f [] i j v u at at' apart = absurd (some-ne-none v (sym at))
total_two f (x ∷ xs) zero zero v u at at' apart = absurd (apart refl)
total_two f (x ∷ xs) zero (suc j) v u at at' apart = omega (arith, sum_by-cons f x xs, ap f (some-injective x v at), total_at f xs j u at')
total_two f (x ∷ xs) (suc i) zero v u at at' apart = omega (arith, sum_by-cons f x xs, ap f (some-injective x u at'), total_at f xs i v at)
total_two f (x ∷ xs) (suc i) (suc j) v u at at' apart = omega (arith, sum_by-cons f x xs, total_two f xs i j v u at at' (λ e. apart (ap suc e)))

-- whether a pass has the back, as 1 or 0
abbrev backs : View → ℕ
backs v = v.backs

-- whether a pass has the front, as 1 or 0
abbrev fronts : View → ℕ
fronts v = v.fronts

-- all ends are the backs and the fronts
total_ends : (views : List View) → sum_by ends views ≡ sum_by backs views + sum_by fronts views
total_ends [] = refl
total_ends (x ∷ xs) = omega (arith, sum_by-cons ends x xs, sum_by-cons backs x xs, sum_by-cons fronts x xs, total_ends xs)

-- where no pass has an end, nothing weighs
none_left : (f : View → ℕ) (views : List View) → ((port : ℕ) (u : View) → get_elem? views port ≡ some u → ends u ≡ 0 → f u ≡ 0) → sum_by ends views ≡ 0 → sum_by f views ≡ 0
none_left f [] idle e = refl
none_left f (x ∷ xs) idle e =
    let s = sum_by-cons ends x xs in
    let mine : f x ≡ 0 = idle 0 x refl (omega arith) in
    let rest : sum_by f xs ≡ 0 = none_left f xs (λ port u at none. idle (suc port) u at none) (omega arith) in
    omega (arith, sum_by-cons f x xs)

-- who has all ends has all the weight
all_mine : (f : View → ℕ) (views : List View) (port : ℕ) (v : View) → ((j : ℕ) (u : View) → get_elem? views j ≡ some u → ends u ≡ 0 → f u ≡ 0)
    → get_elem? views port ≡ some v → ends v ≡ sum_by ends views → sum_by f views ≡ f v
all_mine f [] port v idle at all = absurd (some-ne-none v (sym at))
all_mine f (x ∷ xs) zero v idle at all =
    let s = sum_by-cons ends x xs in
    let same : x ≡ v = some-injective x v at in
    let p : ends x ≡ ends v = ap ends same in
    let rest : sum_by f xs ≡ 0 = none_left f xs (λ j u there none. idle (suc j) u there none) (omega arith) in
    omega (arith, sum_by-cons f x xs, ap f same)
all_mine f (x ∷ xs) (suc port) v idle at all =
    let s = sum_by-cons ends x xs in
    let below = total_at ends xs port v at in
    let mine : f x ≡ 0 = idle 0 x refl (omega arith) in
    let rest : sum_by f xs ≡ f v = all_mine f xs port v (λ j u there none. idle (suc j) u there none) at (omega arith) in
    omega (arith, sum_by-cons f x xs)

-- a pass that changes has an end, or is empty
idle_set : (views : List View) (port : ℕ) (w : View) → (ends w ≡ 0 → (w.put ≡ []) × (w.taken ≡ [])) → IdleIsEmpty views → IdleIsEmpty (set views port w)
idle_set views port w mine idle j u there none = ⊎_elim
    (λ (x : (j ≡ port) × (w ≡ u)). subst (λ (y : View). (y.put ≡ []) × (y.taken ≡ [])) x.1 (mine (ap ends x.1 ∙ none)))
    (λ (x : (j ≢ port) × (get_elem? views j ≡ some u)). idle j u x.1 none)
    (at_set views port j w u there)

-- what the back knows of the deque: its stack is some tasks, which all fronts have stolen, and the items
abbrev Knows : List Stretch → List View → View → Type 0
Knows items views v = (stolen : List Stretch) × (v.stack ≡ stolen ++ items) × ((other : ℕ) (u : View) → get_elem? views other ≡ some u → 0 < u.fronts → u.stolen ≡ stolen)

-- the pass at the back changes: it knows as before, if its own view tells the new items and no more was stolen
ordered_at_back : (items : List Stretch) (views : List View) (port : ℕ) (v w : View) → sum_by backs views ≡ 1 → get_elem? views port ≡ some v → 0 < v.backs → Knows items (set views port w) w → IsOrdered items (set views port w)
ordered_at_back items views port v w one at back mine i a there some_back = ⊎_elim
    (λ (x : (i ≡ port) × (w ≡ a)). subst (Knows items (set views port w)) x.1 mine)
    (λ (x : (i ≢ port) × (get_elem? views i ≡ some a)). absurd (let t = total_two backs views i port a v x.1 at x.0 in omega (arith, t)))
    (at_set views port i w a there)

-- who stole what, after a view changed that stole no more
stolen_as_before : (views : List View) (port : ℕ) (v w : View) (stolen : List Stretch) → get_elem? views port ≡ some v → w.fronts ≡ v.fronts → w.stolen ≡ v.stolen
    → ((other : ℕ) (u : View) → get_elem? views other ≡ some u → 0 < u.fronts → u.stolen ≡ stolen) → (other : ℕ) (u : View) → get_elem? (set views port w) other ≡ some u → 0 < u.fronts → u.stolen ≡ stolen
stolen_as_before views port v w stolen at same as_before all j u there front = ⊎_elim
    (λ (x : (j ≡ port) × (w ≡ u)). sym (ap (λ (y : View). y.stolen) x.1) ∙ (as_before ∙ all port v at (let f = ap fronts x.1 in omega (arith, f))))
    (λ (x : (j ≢ port) × (get_elem? views j ≡ some u)). all j u x.1 front)
    (at_set views port j w u there)

-- what holds of all elements of two lists together holds of those of the first
pub all_front : {A : Type 0} (P : A → Type 0) (xs ys : List A) → All P (xs ++ ys) → All P xs
all_front P xs ys h = subst (All P) (take-append_seam xs ys) (All-take P (length xs) (xs ++ ys) h)

-- what holds of all elements of two lists together holds of those of the second
pub all_back : {A : Type 0} (P : A → Type 0) (xs ys : List A) → All P (xs ++ ys) → All P ys
all_back P xs ys h = subst (All P) (drop-append_seam xs ys) (All-drop P (length xs) (xs ++ ys) h)

module _ (S : Stretch → Type 0) where
  -- a put keeps the rule
  pub puts : (port : ℕ) (v : View) (x : Stretch) → 0 < v.backs → S x → Pushes (Balanced S) port v (x ∷ []) (Put v (x ∷ []))
  puts port v x back new items views h at =
      let u : View = view v.backs v.fronts (v.put ++ x ∷ []) v.taken (v.stack ++ x ∷ []) v.stolen in
      let knew = h.ordered port v at back in (
        u,
        record {
          kept = λ w.
              let a = total_set (weight_put w) views port v u at in
              let b = total_set (weight_taken w) views port v u at in
              let k = h.kept w in
              omega (arith, sum_by-append w v.put (x ∷ []), sum_by-append w items (x ∷ []));
          one_back = let t = total_set backs views port v u at in let p = h.one_back in omega arith;
          one_front = let t = total_set fronts views port v u at in let p = h.one_front in omega arith;
          idle = idle_set views port u (λ none. absurd (omega arith)) h.idle;
          ordered = ordered_at_back (items ++ x ∷ []) views port v u h.one_back at back
              (knew.0, ap (λ (zs : List Stretch). zs ++ x ∷ []) knew.1 ∙ append_assoc knew.0 items (x ∷ []), stolen_as_before views port v u knew.0 at refl refl knew.2);
          served = All-append S items (x ∷ []) h.served (All-cons S x [] new (All-nil S));
        },
        refl,
      )

  -- all parts of the rule but the order, after a take of xs, whatever order the deque had them in
  takes : (port : ℕ) (v u : View) (xs items before : List Stretch) (views : List View) → 0 < ends v → u.backs ≡ v.backs → u.fronts ≡ v.fronts → u.put ≡ v.put → u.taken ≡ v.taken ++ xs
      → ((w : Stretch → ℕ) → sum_by w before ≡ sum_by w items + sum_by w xs) → All S items
      → Balanced S before views → get_elem? views port ≡ some v → IsOrdered items (set views port u) → Balanced S items (set views port u)
  takes port v u xs items before views some_end back front put taken split still h at order =
      record {
        kept = λ w.
            let a = total_set (weight_put w) views port v u at in
            let b = total_set (weight_taken w) views port v u at in
            let k = h.kept w in
            let s = split w in
            omega (arith, ap (sum_by w) put, ap (sum_by w) taken, sum_by-append w v.taken xs);
        one_back = let t = total_set backs views port v u at in let p = h.one_back in omega (arith, back);
        one_front = let t = total_set fronts views port v u at in let p = h.one_front in omega (arith, front);
        idle = idle_set views port u (λ none. absurd (omega (arith, back, front))) h.idle;
        ordered = order;
        served = still;
      }

  -- who has both ends knows what the deque holds
  knows : (port : ℕ) (v : View) (items : List Stretch) (views : List View) → ends v ≡ 2 → Balanced S items views → get_elem? views port ≡ some v → (w : Stretch → ℕ) → sum_by w v.put ≡ sum_by w v.taken + sum_by w items
  knows port v items views all h at w =
      let whole : ends v ≡ sum_by ends views = let b = h.one_back in let f = h.one_front in let e = total_ends views in omega (arith, b, f, e) in
      let p : sum_by (weight_put w) views ≡ sum_by w v.put = all_mine (weight_put w) views port v (λ j u there none. ap (sum_by w) (h.idle j u there none).0) at whole in
      let t : sum_by (weight_taken w) views ≡ sum_by w v.taken = all_mine (weight_taken w) views port v (λ j u there none. ap (sum_by w) (h.idle j u there none).1) at whole in
      let k = h.kept w in
      omega arith

  -- tasks that weigh 1 each weigh together as many as there are
  one_each : (xs : List Stretch) → sum_by (λ (x : Stretch). 1) xs ≡ length xs
  one_each [] = refl
  one_each (x ∷ xs) = omega (arith, sum_by-cons (λ (y : Stretch). 1) x xs, one_each xs)

  -- who has both ends has taken fewer than it put, where the deque holds a task
  fewer : (port : ℕ) (v : View) (xs before : List Stretch) (views : List View) → length xs ≤ length before → Balanced S before views → get_elem? views port ≡ some v → ends v ≡ 2 → length v.taken + length xs < length v.put + 1
  fewer port v xs before views len h at all =
      let k = knows port v before views all h at (λ (x : Stretch). 1) in omega (arith, one_each v.put, one_each v.taken, one_each before)

  -- a take at the back keeps the rule, and gives the last of the stack
  pub pops : (port : ℕ) (v : View) → 0 < v.backs → Pops (Balanced S) port v (Taken S v)
  pops port v back x items views h at =
      let knew = h.ordered port v at back in
      let u : View = view v.backs v.fronts v.put (v.taken ++ x ∷ []) (knew.0 ++ items) v.stolen in (
        u,
        takes port v u (x ∷ []) items (items ++ x ∷ []) views (omega arith) refl refl refl refl (λ w. sum_by-append w items (x ∷ [])) (all_front S items (x ∷ []) h.served) h at
            (ordered_at_back items views port v u h.one_back at back (knew.0, refl, stolen_as_before views port v u knew.0 at refl refl knew.2)),
        (
          refl,
          knew.1 ∙ sym (append_assoc knew.0 items (x ∷ [])),
          all_back S items (x ∷ []) h.served,
          fewer port v (x ∷ []) (items ++ x ∷ []) views (omega (arith, length-append items (x ∷ []))) h at,
        ),
      )

  -- a take at the front keeps the rule
  pub steals : (port : ℕ) (v : View) (most : ℕ) → v.backs ≡ 0 → v.fronts ≡ 1 → Takes (Balanced S) port v most (Stolen S v)
  steals port v most back front xs items views _ _ h at =
      let u : View = view v.backs v.fronts v.put (v.taken ++ xs) v.stack (v.stolen ++ xs) in (
        u,
        takes port v u xs items (xs ++ items) views (omega (arith, front)) refl refl refl refl (λ w. let s = sum_by-append w xs items in omega arith) (all_back S xs items h.served) h at
            (λ i a there some_back. ⊎_elim
            (λ (x : (i ≡ port) × (u ≡ a)). absurd (let b = ap backs x.1 in omega (arith, b, back)))
            (λ (x : (i ≢ port) × (get_elem? views i ≡ some a)).
            let knew = h.ordered i a x.1 some_back in
            let mine : v.stolen ≡ knew.0 = knew.2 port v at (omega (arith, front)) in
            (knew.0 ++ xs, knew.1 ∙ sym (append_assoc knew.0 xs items), stolen_now u knew.0 views mine refl h.one_front at))
            (at_set views port i u a there)),
        (refl, all_front S xs items h.served),
      )
    where
      stolen_now : (u : View) (stolen : List Stretch) (views : List View) → v.stolen ≡ stolen → u.stolen ≡ v.stolen ++ xs → sum_by fronts views ≡ 1 → get_elem? views port ≡ some v
          → (other : ℕ) (b : View) → get_elem? (set views port u) other ≡ some b → 0 < b.fronts → b.stolen ≡ stolen ++ xs
      stolen_now u stolen views mine more one at j b there some_front = ⊎_elim
          (λ (x : (j ≡ port) × (u ≡ b)). sym (ap (λ (y : View). y.stolen) x.1) ∙ (more ∙ ap (λ (zs : List Stretch). zs ++ xs) mine))
          (λ (x : (j ≢ port) × (get_elem? views j ≡ some b)). absurd (let t = total_two fronts views j port b v x.1 at x.0 in omega (arith, t, front, one)))
          (at_set views port j u b there)

  -- who has both ends of an empty deque has taken all, and its stack was stolen
  pub finds : (port : ℕ) (v : View) → 0 < v.backs → Finds (Balanced S) port v (IsAllTaken v)
  finds port v back views h at all =
      let knew = h.ordered port v at back in
      let one = total_at backs views port v at in (
        (λ w. let k = knows port v [] views all h at w in let z : sum_by w [] ≡ 0 = refl in omega arith),
        knew.1 ∙ (append-nil knew.0 ∙ sym (knew.2 port v at (let b = h.one_back in omega (arith, b, one, all)))),
      )

  -- the front is given away
  pub forks : (port : ℕ) (v : View) → v.backs ≡ 1 → v.fronts ≡ 1 → Forks (Balanced S) port v (back_alone v) (front_alone v)
  forks port v back front items views h at =
      let mid : List View = set views port (back_alone v) in
      let new : View = front_alone v in
      let e : List Stretch = [] in
      let knew = h.ordered port v at (omega (arith, back)) in
      let mine : v.stolen ≡ knew.0 = knew.2 port v at (omega (arith, front)) in
      let left : drop (length v.stolen) v.stack ≡ items = ap (λ (n : List Stretch). drop (length n) v.stack) mine ∙ (ap (λ (zs : List Stretch). drop (length knew.0) zs) knew.1 ∙ drop-append_seam knew.0 items) in
      record {
        kept = λ w.
            let a = total_set (weight_put w) views port v (back_alone v) at in
            let b = total_set (weight_taken w) views port v (back_alone v) at in
            let k = h.kept w in
            let c = sum_by_push (weight_put w) mid new in
            let d = sum_by_push (weight_taken w) mid new in
            let z : sum_by w e ≡ 0 = refl in
            omega arith;
        one_back = let t = total_set backs views port v (back_alone v) at in let q = sum_by_push backs mid new in let p = h.one_back in omega arith;
        one_front = let t = total_set fronts views port v (back_alone v) at in let q = sum_by_push fronts mid new in let p = h.one_front in omega (arith, front);
        idle = λ j u there none. ⊎_elim
            (λ was. idle_set views port (back_alone v) (λ none'. absurd (omega (arith, back))) h.idle j u was none)
            (λ (is : new ≡ u). let p : ends new ≡ ends u = ap ends is in absurd (omega arith))
            (at_snoc mid new u j there);
        ordered = λ i a there some_back. ⊎_elim
            (λ was. ⊎_elim
            (λ (x : (i ≡ port) × (back_alone v ≡ a)). ([], sym (ap (λ (y : View). y.stack) x.1) ∙ left, nothing views h.one_front at))
            (λ (x : (i ≢ port) × (get_elem? views i ≡ some a)). absurd (let t = total_two backs views i port a v x.1 at x.0 in let p = h.one_back in omega (arith, t, p, back)))
            (at_set views port i (back_alone v) a was))
            (λ (is : new ≡ a). let p : backs new ≡ backs a = ap backs is in absurd (omega arith))
            (at_snoc mid new a i there);
        served = h.served;
      }
    where
      nothing : (views : List View) → sum_by fronts views ≡ 1 → get_elem? views port ≡ some v → (other : ℕ) (b : View) → get_elem? (set views port (back_alone v) ++ front_alone v ∷ []) other ≡ some b → 0 < b.fronts → b.stolen ≡ []
      nothing views one at j b there some_front = ⊎_elim
          (λ was. ⊎_elim
          (λ (x : (j ≡ port) × (back_alone v ≡ b)). sym (ap (λ (y : View). y.stolen) x.1))
          (λ (x : (j ≢ port) × (get_elem? views j ≡ some b)). absurd (let t = total_two fronts views j port b v x.1 at x.0 in omega (arith, t, front, one)))
          (at_set views port j (back_alone v) b was))
          (λ (is : front_alone v ≡ b). sym (ap (λ (y : View). y.stolen) is))
          (at_snoc (set views port (back_alone v)) (front_alone v) b j there)

  -- the front comes back
  pub merges : (port : ℕ) (v : View) (other : ℕ) (u : View) → v.backs ≡ 1 → v.stolen ≡ [] → u.backs ≡ 0 → u.fronts ≡ 1 → Merges (Balanced S) port v other u (both_ends v u) no_end
  merges port v other u back none_yet no_back front items views h at apart at' =
      let now : View = both_ends v u in
      let mid : List View = set views port now in
      let e : List Stretch = [] in
      let there_u : get_elem? views other ≡ some u = ⊎_elim (λ (x : (other ≡ port) × (now ≡ u)). absurd (apart x.0)) (λ (x : (other ≢ port) × (get_elem? views other ≡ some u)). x.1) (at_set views port other now u at') in
      let knew = h.ordered port v at (omega (arith, back)) in
      let mine : u.stolen ≡ knew.0 = knew.2 other u there_u (omega (arith, front)) in
      record {
        kept = λ w.
            let a = total_set (weight_put w) views port v now at in
            let b = total_set (weight_taken w) views port v now at in
            let c = total_set (weight_put w) mid other u no_end at' in
            let d = total_set (weight_taken w) mid other u no_end at' in
            let k = h.kept w in
            let z : sum_by w e ≡ 0 = refl in
            omega (arith, sum_by-append w v.put u.put, sum_by-append w v.taken u.taken);
        one_back = let t = total_set backs views port v now at in let q = total_set backs mid other u no_end at' in let p = h.one_back in omega arith;
        one_front = let t = total_set fronts views port v now at in let q = total_set fronts mid other u no_end at' in let p = h.one_front in omega arith;
        idle = idle_set mid other no_end (λ none. (refl, refl)) (idle_set views port now (λ none. absurd (omega (arith, back))) h.idle);
        ordered = λ i a there some_back. ⊎_elim
            (λ (x : (i ≡ other) × (no_end ≡ a)). absurd (let p = ap backs x.1 in omega (arith, p)))
            (λ (x : (i ≢ other) × (get_elem? mid i ≡ some a)). ⊎_elim
            (λ (y : (i ≡ port) × (now ≡ a)). (knew.0, sym (ap (λ (z : View). z.stack) y.1) ∙ knew.1, stolen_both views knew.0 h.one_front there_u mine))
            (λ (y : (i ≢ port) × (get_elem? views i ≡ some a)). absurd (let t = total_two backs views i port a v y.1 at y.0 in let p = h.one_back in omega (arith, t, p, back)))
            (at_set views port i now a x.1))
            (at_set mid other i no_end a there);
        served = h.served;
      }
    where
      stolen_both : (views : List View) (stolen : List Stretch) → sum_by fronts views ≡ 1 → get_elem? views other ≡ some u → u.stolen ≡ stolen
          → (j : ℕ) (b : View) → get_elem? (set (set views port (both_ends v u)) other no_end) j ≡ some b → 0 < b.fronts → b.stolen ≡ stolen
      stolen_both views stolen one there_u mine j b there some_front = ⊎_elim
          (λ (x : (j ≡ other) × (no_end ≡ b)). absurd (let p = ap fronts x.1 in omega (arith, p)))
          (λ (x : (j ≢ other) × (get_elem? (set views port (both_ends v u)) j ≡ some b)). ⊎_elim
          (λ (y : (j ≡ port) × (both_ends v u ≡ b)). sym (ap (λ (z : View). z.stolen) y.1) ∙ (ap (λ (zs : List Stretch). zs ++ u.stolen) none_yet ∙ mine))
          (λ (y : (j ≢ port) × (get_elem? views j ≡ some b)). absurd (let t = total_two fronts views j other b u y.1 there_u x.0 in omega (arith, t, front, one)))
          (at_set views port j (both_ends v u) b x.1))
          (at_set (set views port (both_ends v u)) other j no_end b there)

-- an owner that is alone has the front too
pub has_front : (alone : Bool) (n : ℕ) → n ≡ (if alone then 1 else 0) → ◌≡◌ {A = ℕ} (if alone then 1 else 2) 1 → n ≡ 1
has_front alone n e p = grind arith

-- an owner that isn't alone has stolen nothing
pub stole_none : (alone : Bool) (xs : List Stretch) → (if alone then [] else xs) ≡ [] → ◌≡◌ {A = ℕ} (if alone then 1 else 2) 2 → xs ≡ []
stole_none alone xs e p = grind arith
