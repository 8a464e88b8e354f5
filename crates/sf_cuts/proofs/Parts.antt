-- What cuts some blocks cuts any of them.
use Rattle.std.proofs.Common.{◌≡◌, ℕ, ◌+◌, ◌<◌, ◌≤◌, List, [], ◌∷◌, ◌++◌, length, All, Bool, true, false, cond, refl, sym, ap, ◌∙◌, subst, arith, inl, inr, append-nil, length-append}
use Rattle.std.proofs.lemmas.Bool.{cases_lt}
use Rattle.std.proofs.lemmas.List.Elements.{All-filter, filter-append}
use Rattle.sf_cuts.proofs.Common.{Across, Axis, Cuts, IsCutBetween, Shape, Spot, Tree, Leaf, Beside, Above, Upward, begin_on, count_by, end_on, filter, leaves, length-filter, spot_of, ◌≤ℤ◌}

-- a tree of the leaves that are kept, which cuts the placement
pub record IsPart (spots : List Spot) (keep : ℕ → Bool) (tree part : Tree) : Type 0 where
  pub kept : leaves part ≡ filter (λ leaf. keep leaf.0) (leaves tree)
  pub cuts : Cuts spots part

-- the leaves that are kept
abbrev kept_of : (ℕ → Bool) → Tree → List (ℕ × Shape)
kept_of keep t = filter (λ leaf. keep leaf.0) (leaves t)

-- nothing is kept where nothing is counted
none_kept : (xs : List (ℕ × Shape)) → length xs < 1 → xs ≡ []
none_kept [] h = refl
none_kept (x ∷ xs) h = absurd (omega (arith, h))

-- what is kept of both parts is cut apart as the parts are
between_parts : (axis : Axis) (spots : List Spot) (keep : ℕ → Bool) (l r p q : Tree) → IsCutBetween axis spots l r → leaves p ≡ kept_of keep l → leaves q ≡ kept_of keep r → IsCutBetween axis spots p q
between_parts axis spots keep l r p q c left right =
    let Before : ℕ × Shape → Type 0 = λ leaf. end_on axis (spot_of leaf.0 spots) ≤ℤ c.at in
    let After : ℕ × Shape → Type 0 = λ leaf. c.at ≤ℤ begin_on axis (spot_of leaf.0 spots) in
    record {
      at = c.at;
      before = subst (All Before) (sym left) (All-filter (λ leaf. keep leaf.0) Before (leaves l) c.before);
      after = subst (All After) (sym right) (All-filter (λ leaf. keep leaf.0) After (leaves r) c.after);
    }

-- the kept leaves of two trees, where the one has none
kept_right : (keep : ℕ → Bool) (l r p : Tree) → length (kept_of keep l) < 1 → leaves p ≡ kept_of keep r → leaves p ≡ filter (λ leaf. keep leaf.0) (leaves l ++ leaves r)
kept_right keep l r p none is = is ∙ sym (filter-append (λ (leaf : ℕ × Shape). keep leaf.0) (leaves l) (leaves r) ∙ ap (λ z. z ++ kept_of keep r) (none_kept (kept_of keep l) none))

kept_left : (keep : ℕ → Bool) (l r p : Tree) → length (kept_of keep r) < 1 → leaves p ≡ kept_of keep l → leaves p ≡ filter (λ leaf. keep leaf.0) (leaves l ++ leaves r)
kept_left keep l r p none is =
    is ∙ sym (filter-append (λ (leaf : ℕ × Shape). keep leaf.0) (leaves l) (leaves r) ∙ ap (λ z. kept_of keep l ++ z) (none_kept (kept_of keep r) none) ∙ append-nil (kept_of keep l))

kept_both : (keep : ℕ → Bool) (l r p q : Tree) → leaves p ≡ kept_of keep l → leaves q ≡ kept_of keep r → leaves p ++ leaves q ≡ filter (λ leaf. keep leaf.0) (leaves l ++ leaves r)
kept_both keep l r p q left right = ap (λ z. z ++ leaves q) left ∙ ap (λ z. kept_of keep l ++ z) right ∙ sym (filter-append (λ (leaf : ℕ × Shape). keep leaf.0) (leaves l) (leaves r))

-- a leaf that is counted is kept
kept_leaf : (k : Bool) (x : ℕ × Shape) → 1 ≤ length (cond k (x ∷ []) []) → x ∷ [] ≡ cond k (x ∷ []) []
kept_leaf true x h = refl
kept_leaf false x h = absurd (omega (arith, h))

-- how many leaves are kept of both parts
length_kept : (keep : ℕ → Bool) (l r : Tree) → length (filter (λ leaf. keep leaf.0) (leaves l ++ leaves r)) ≡ length (kept_of keep l) + length (kept_of keep r)
length_kept keep l r = ap length (filter-append (λ (leaf : ℕ × Shape). keep leaf.0) (leaves l) (leaves r)) ∙ length-append (kept_of keep l) (kept_of keep r)

-- where a leaf is kept, some tree of the kept leaves cuts the placement
part_of : (spots : List Spot) (keep : ℕ → Bool) (t : Tree) → Cuts spots t → 1 ≤ length (kept_of keep t) → (p : Tree) × IsPart spots keep t p
part_of spots keep (Leaf b s) cuts some = (Leaf b s, record { kept = kept_leaf (keep b) (b, s) some; cuts = tt })
part_of spots keep (Beside l r) cuts some =
    let n = length_kept keep l r in
    elim (cases_lt (length (kept_of keep l)) 1) [
      | inl none ↦ (let q = part_of spots keep r cuts.2 (omega (arith, n, none, some)) in (q.0, record { kept = kept_right keep l r q.0 none q.1.kept; cuts = q.1.cuts }))
      | inr left ↦ elim (cases_lt (length (kept_of keep r)) 1) [
        | inl none ↦ (let p = part_of spots keep l cuts.1 left in (p.0, record { kept = kept_left keep l r p.0 none p.1.kept; cuts = p.1.cuts }))
        | inr right ↦ (
            let p = part_of spots keep l cuts.1 left in
            let q = part_of spots keep r cuts.2 right in (
              Beside p.0 q.0,
              record {
                kept = kept_both keep l r p.0 q.0 p.1.kept q.1.kept;
                cuts = (between_parts Across spots keep l r p.0 q.0 cuts.0 p.1.kept q.1.kept, p.1.cuts, q.1.cuts);
              },
            )
            )
      ]
    ]
part_of spots keep (Above l r) cuts some =
    let n = length_kept keep l r in
    elim (cases_lt (length (kept_of keep l)) 1) [
      | inl none ↦ (let q = part_of spots keep r cuts.2 (omega (arith, n, none, some)) in (q.0, record { kept = kept_right keep l r q.0 none q.1.kept; cuts = q.1.cuts }))
      | inr left ↦ elim (cases_lt (length (kept_of keep r)) 1) [
        | inl none ↦ (let p = part_of spots keep l cuts.1 left in (p.0, record { kept = kept_left keep l r p.0 none p.1.kept; cuts = p.1.cuts }))
        | inr right ↦ (
            let p = part_of spots keep l cuts.1 left in
            let q = part_of spots keep r cuts.2 right in (
              Above p.0 q.0,
              record {
                kept = kept_both keep l r p.0 q.0 p.1.kept q.1.kept;
                cuts = (between_parts Upward spots keep l r p.0 q.0 cuts.0 p.1.kept q.1.kept, p.1.cuts, q.1.cuts);
              },
            )
            )
      ]
    ]

-- the same, by how many leaves are kept
pub part_of_some : (spots : List Spot) (t : Tree) (keep : ℕ → Bool) → Cuts spots t → 1 ≤ count_by (λ leaf. keep leaf.0) (leaves t)
    → (p : Tree) × (leaves p ≡ filter (λ leaf. keep leaf.0) (leaves t)) × Cuts spots p
part_of_some spots t keep cuts some =
    let p = part_of spots keep t cuts (omega (arith, length-filter (λ (leaf : ℕ × Shape). keep leaf.0) (leaves t), some)) in
    (p.0, p.1.kept, p.1.cuts)
