-- What one visit did, from what was read, decided, named and put down.
use Rattle.std.proofs.Common.{◌≡◌, ℕ, ◌<◌, ◌≤◌, ◌+◌, [], ◌∷◌, ◌++◌, min, refl, ap, sym, subst, ◌∙◌, arith, Option, Some, None}
use Rattle.std.specs.Prelude.{⊤}
use Rattle.sf_worker.proofs.Common.{Design, Part, Parts, Tag, tag_of, unnamed, Knows, AreKept, kept_for, IsVisit, kind_of, tag_at, tag_after, cost_at, IsEntry, IsBest, HandView, IsFollowed, IsVisited, marks_of, named-alike, kept-lower, kept-more}
use Rattle.sf_model.specs.declared.TheConstants.{MAX}
use Rattle.sf_polish.specs.declared.expr.Expr.{Expr}
use Rattle.sf_search_core.specs.declared.entry.Kind.TheVariants as kind
use Rattle.sf_certificate.specs.declared.tag.Tag.TheVariants as tags
use Rattle.sf_bound.specs.Cheapest.{IsPlanOf}
use Rattle.sf_worker.specs.declared.visit.Visit.{Visit}
use Rattle.sf_worker.specs.declared.visit.Visit.TheVariants.{Closed, Solved, Extended, Split}

-- the tag of a visit tells the entry
unnamed-tag : (seen : Visit) → unnamed (tag_at seen) ≡ tag_of (kind_of seen)
unnamed-tag Closed = refl
unnamed-tag (Solved expr) = refl
unnamed-tag Extended = refl
unnamed-tag (Split b) = refl

-- the visit solved nothing
abbrev pub IsPlain : Visit → Type 0
IsPlain Closed = ⊤
IsPlain (Solved expr) = ⊥
IsPlain Extended = ⊤
IsPlain (Split b) = ⊤

-- so where it is not that
pub plain-of : (seen : Visit) → ((expr : Expr) → seen ≡ Solved expr → ⊥) → IsPlain seen
plain-of Closed h = tt
plain-of (Solved expr) h = absurd (h expr refl)
plain-of Extended h = tt
plain-of (Split b) h = tt

-- no offer is above the greatest u64
pub offered-small : (design : Design) (best : Option (Expr × ℕ)) (offered : ℕ) → IsBest design best offered → offered ≤ MAX
offered-small design None offered b = omega (arith, b)
offered-small design (Some best) offered b = (let k = b.2 in omega (arith, k))

-- the cost of a plan is below the value read, and else this is what a part is named against
cost-lower : (design : Design) (bound : Parts → ℕ) (node : Parts) (seen : Visit) (value : ℕ) → IsVisit design bound node value seen → cost_at bound node seen value ≤ value
cost-lower design bound node Closed value d = omega arith
cost-lower design bound node (Solved expr) value d = let less : bound node < value = d.below in omega arith
cost-lower design bound node Extended value d = omega arith
cost-lower design bound node (Split b) value d = omega arith

-- a visit that solved nothing names its part against the value read
cost-plain : (bound : Parts → ℕ) (node : Parts) (seen : Visit) (value : ℕ) → IsPlain seen → cost_at bound node seen value ≡ value
cost-plain bound node Closed value p = refl
cost-plain bound node (Solved expr) value p = absurd p
cost-plain bound node Extended value p = refl
cost-plain bound node (Split b) value p = refl

-- a visit that solved nothing is an entry with the value read
entry-plain : (design : Design) (bound : Parts → ℕ) (node : Parts) (seen : Visit) (value : ℕ) → IsPlain seen → IsVisit design bound node value seen → IsEntry design bound (record { node = node; kind = kind_of seen; value = value })
entry-plain design bound node Closed value p d = (d, tt)
entry-plain design bound node (Solved expr) value p d = absurd p
entry-plain design bound node Extended value p d = (d, tt)
entry-plain design bound node (Split b) value p d = ((d.below, d.wide), d.first)

module _ (design : Design) (bound : Parts → ℕ) (part : Parts → Part → ℕ) (old tagged new : HandView) (seat : Knows) (seen : Visit) (tag : Tag) (value : ℕ)
    (below : value ≤ seat.seen) (visit : IsVisit design bound old.path.node value seen) (is : tag ≡ tag_after bound part old.path.node seen value)
    (mid : tagged ≡ record old { kept = old.kept ++ kept_for (part old.path.node) tag }) (f : IsFollowed design bound tagged tag new) (same_kept : new.kept ≡ tagged.kept) where
  -- the tag was put down where the stretch in hand was
  followed : IsFollowed design bound old tag new
  followed =
      let g = subst (λ h. IsFollowed design bound h tag new) mid f in
      record { hand_is = g.hand_is; marks_are = g.marks_are; left = g.left; same = g.same }

  -- what is kept is good for what was named against
  kept-named : AreKept part seat.seen (marks_of design old) old.kept → AreKept part (cost_at bound old.path.node seen value) (marks_of design new) new.kept
  kept-named k =
      let node = old.path.node in
      let cost = cost_at bound node seen value in
      let lower : cost ≤ seat.seen = (let l = cost-lower design bound node seen value visit in omega (arith, l, below)) in
      let is_kept : new.kept ≡ old.kept ++ kept_for (part node) tag = same_kept ∙ ap (λ (h : HandView). h.kept) mid in
      let more = kept-more part cost seat.seen (marks_of design old) node (tag_at seen) lower old.kept k in
      subst (λ ms. AreKept part cost ms new.kept) (sym followed.marks_are)
      (subst (AreKept part cost (marks_of design old ++ record { node = node; tag = tag } ∷ [])) (sym is_kept)
      (subst (λ t. AreKept part cost (marks_of design old ++ record { node = node; tag = t } ∷ []) (old.kept ++ kept_for (part node) t)) (sym is) more))

  -- a visit that solved nothing
  pub visited-plain : (seat' : Knows) (best : Option (Expr × ℕ)) → IsPlain seen → seat' ≡ record seat { seen = value } → IsBest design best seat.offered → IsVisited design bound part old seat new seat' best
  visited-plain seat' best plain at b =
      let offered : seat'.offered ≡ seat.offered = ap (λ (k : Knows). k.offered) at in
      let now : seat'.seen ≡ value = ap (λ (k : Knows). k.seen) at in
      record {
        entry = record { node = old.path.node; kind = kind_of seen; value = value };
        tag = tag;
        node = refl;
        is = entry-plain design bound old.path.node seen value plain visit;
        fresh = omega (arith, now);
        told = ap unnamed is ∙ (named-alike (part old.path.node) (cost_at bound old.path.node seen value) (tag_at seen) ∙ unnamed-tag seen);
        followed = followed;
        kept_parts = λ k. kept-lower part (cost_at bound old.path.node seen value) seat'.seen (marks_of design new) new.kept (omega (arith, now, cost-plain bound old.path.node seen value plain)) (kept-named k);
        same = (ap (λ (k : Knows). k.word) at, ap (λ (k : Knows). k.parts) at);
        falls = (omega (arith, now, below), omega (arith, offered));
        best = subst (IsBest design best) (sym offered) b;
        fell = λ h. absurd (omega (arith, h, offered));
        undercut = λ h. absurd (omega (arith, h, offered));
      }

  -- a visit that solved the subproblem and offered the cost of its plan
  pub visited-solved : (expr : Expr) (cost answer : ℕ) (mid_seat seat' : Knows) → seen ≡ Solved expr → cost ≡ bound old.path.node → mid_seat ≡ record seat { seen = value } → value ≤ seat.offered → seat.offered ≤ MAX
      → seat' ≡ record mid_seat { seen = answer; offered = min mid_seat.offered cost } → answer ≤ cost → IsVisited design bound part old seat new seat' (Some (expr, cost))
  visited-solved expr cost answer mid_seat seat' solved same_cost at value_offered small then fresh =
      let d = subst (IsVisit design bound old.path.node value) solved visit in
      let less : bound old.path.node < value = d.below in
      let all : seat' ≡ record seat { seen = answer; offered = min seat.offered cost } = then ∙ ap (λ (k : Knows). record k { seen = answer; offered = min k.offered cost }) at in
      let offered : seat'.offered ≡ min seat.offered cost = ap (λ (k : Knows). k.offered) all in
      let is_cost : seat'.offered ≡ cost = omega (arith, offered, less, same_cost, value_offered) in
      let now : seat'.seen ≡ answer = ap (λ (k : Knows). k.seen) all in
      let against : cost_at bound old.path.node seen value ≡ cost = ap (λ s. cost_at bound old.path.node s value) solved ∙ sym same_cost in
      record {
        entry = record { node = old.path.node; kind = kind_of seen; value = answer };
        tag = tag;
        node = refl;
        is = subst (λ s. IsEntry design bound (record { node = old.path.node; kind = kind_of s; value = answer })) (sym solved) ((let k = same_cost in omega (arith, k, fresh)), tt);
        fresh = omega (arith, now);
        told = ap unnamed is ∙ (named-alike (part old.path.node) (cost_at bound old.path.node seen value) (tag_at seen) ∙ unnamed-tag seen);
        followed = followed;
        kept_parts = λ k. kept-lower part (cost_at bound old.path.node seen value) seat'.seen (marks_of design new) new.kept (omega (arith, now, fresh, against)) (kept-named k);
        same = (ap (λ (k : Knows). k.word) all, ap (λ (k : Knows). k.parts) all);
        falls = (omega (arith, now, fresh, less, same_cost, below), omega (arith, offered));
        best = ((old.path.node, subst (IsPlanOf design old.path.node expr) (sym same_cost) d.plan), sym is_cost, omega (arith, is_cost, less, same_cost, value_offered, small));
        fell = λ h. (ap kind_of solved, d.solved, sym same_cost ∙ sym is_cost);
        undercut = λ h. omega (arith, is_cost, less, same_cost, below);
      }
