-- The table of standings, seat by seat.
use Rattle.std.proofs.Common.{◌≡◌, ◌≢◌, ℕ, ◌+◌, ◌<◌, List, [], ◌∷◌, ◌++◌, length, take, get_or, arith, refl, ap, sym, subst, ◌∙◌, inl, inr, ◌==◌, length-set, get_or-set_same, get_or-set_other, if◌then◌else◌}
use Rattle.sf_nets.proofs.Common.{slice_set, Option, Some, None, cases_eq, ne_eqb, eq-eqb, cond-true, cond-false, take_more, Design, Extent, Home, Seat, Standing, Tells, anywhere, extent_from, home_in, last_home, standing_of, standing_at, standing_by}

-- with one seat more, the last home of its block is that of this seat, and of any other block the one before
last-push : (extent : ℕ → Extent) (d : Option Home) (b : ℕ) (xs : List Seat) (s : Seat) → last_home extent d b (xs ++ s ∷ []) ≡ (if s.offset.block == b then Some (home_in (extent s.offset.block) s) else last_home extent d b xs)
last-push extent d b [] s = refl
last-push extent d b (x ∷ xs) s = last-push extent (if x.offset.block == b then Some (home_in (extent x.offset.block) x) else d) b xs s

-- where two functions differ at one number alone, a list that tells the one tells the other once that place
-- is set
tells-set : {X : Type 0} (f g : ℕ → X) (n i : ℕ) (xs : List X) (x : X) → Tells f n xs → i < n → x ≡ g i → ((b : ℕ) → b ≢ i → f b ≡ g b) → Tells g n (slice_set xs i x)
tells-set f g n i xs x t lt is same = record {
  count = length-set xs i x ∙ t.count;
  each = λ b d h. elim (cases_eq b i) [
    | inl e ↦ ap (λ k. get_or (slice_set xs i x) k d) e ∙ get_or-set_same xs i x d (omega (arith, lt, t.count)) ∙ is ∙ ap g (sym e)
    | inr ne ↦ get_or-set_other xs i b x d ne ∙ t.each b d h ∙ same b ne
  ];
}

-- one more home is written
pub table_more : (design : Design) (extents : List Extent) (n k : ℕ) (seats : List Seat) (table new : List Standing) (s d : Seat) → k < length seats → s ≡ get_or seats k d → s.offset.block < n → Tells (standing_by design extents (take k seats)) n table →
    new ≡ slice_set table s.offset.block (record (standing_at table s.offset.block) { home = Some (home_in (extent_from extents s.offset.block) s) }) → Tells (standing_by design extents (take (k + 1) seats)) n new
table_more design extents n k seats table new s d lt is inside t e =
    let ext = extent_from extents in
    let i = s.offset.block in
    let more : (b : ℕ) → last_home ext None b (take (k + 1) seats) ≡ (if i == b then Some (home_in (ext i) s) else last_home ext None b (take k seats)) = λ b.
    ap (last_home ext None b) (take_more seats k d lt ∙ ap (λ v. take k seats ++ v ∷ []) (sym is)) ∙ last-push ext None b (take k seats) s in
    let here : (let v : Standing = record (standing_at table i) { home = Some (home_in (ext i) s) } in v) ≡ standing_by design extents (take (k + 1) seats) i =
    ap (λ (w : Standing). (let v : Standing = record w { home = Some (home_in (ext i) s) } in v)) (t.each i (record { side = 0; range = anywhere; home = None }) inside)
    ∙ ap (standing_of design (ext i)) (sym (more i ∙ cond-true (i == i) (Some (home_in (ext i) s)) (last_home ext None i (take k seats)) (eq-eqb i i refl))) in
    subst (Tells (standing_by design extents (take (k + 1) seats)) n) (sym e)
    (tells-set (standing_by design extents (take k seats)) (standing_by design extents (take (k + 1) seats)) n i table (record (standing_at table i) { home = Some (home_in (ext i) s) }) t inside here
    (λ b ne. ap (standing_of design (ext b)) (sym (more b ∙ cond-false (i == b) (Some (home_in (ext i) s)) (last_home ext None b (take k seats)) (ne_eqb i b (λ q. ne (sym q)))))))
