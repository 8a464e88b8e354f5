-- The parts of moved tokens, found one after another.
use Rattle.std.proofs.Common.{◌≡◌, ℕ, ◌+◌, ◌-◌, ◌<◌, ◌≤◌, List, [], length, arith, refl, ap, sym, subst, ◌∙◌, Bool, false, inl, inr, AllPairs, slice_index_or, slice_set, if◌then◌else◌}
use Rattle.sf_anneal.proofs.Common.{cases_lt, get_or-set_other, get_or-set_same, Design, Outline, Shape, Token, IsNormal, is_operand, size_in, token_in, IsCombination, IsSlimmer, Direction, Moved, Parts, AreKnown, AreParts, AreRenewed, IsAsKnown, IsBlockCurve, IsJointPart, IsPart, before_in, chosen_curve, curve_by, kept_in, known_curve, level, moved_curve, token_at}
use Rattle.sf_polish.specs.declared.expr.Token.TheVariants as token
use Rattle.sf_curves.specs.declared.direction.Direction.TheVariants as way
use Rattle.sf_anneal.proofs.Levels.{left-some, level-block, level-joint, level-none, parts-levels}

-- a joint of the same numbers and curves
joint-like : (join : Shape → Shape → Shape) (o : Outline) (a a' b b' h h' : ℕ) (p p' q q' r r' : List Shape) → a ≡ a' → b ≡ b' → h ≡ h' → p ≡ p' → q ≡ q' → r ≡ r' → IsJointPart join o a b h p q r → IsJointPart join o a' b' h' p' q' r'
joint-like join o a a' b b' h h' p p' q q' r r' ea eb eh ep eq er j = record {
  some = subst (λ n. 1 ≤ n) ea j.some;
  stands = sym eh ∙ j.stands ∙ eb;
  sizes = subst (λ v. IsCombination join o p' q' v) er (subst (λ v. IsCombination join o p' v r) eq (subst (λ v. IsCombination join o v q r) ep j.sizes));
  falls = subst (AllPairs IsSlimmer) er j.falls;
}

-- a part of which all that it looks at stays
part-like : (design : Design) (before before' : ℕ → ℕ) (curve curve' : ℕ → List Shape) (j k : ℕ) → j < k → before j ≤ j → ((i : ℕ) → i ≤ k → before i ≡ before' i) → ((i : ℕ) → i ≤ k → curve i ≡ curve' i) → (t : Token) → IsPart design before curve j t → IsPart design before' curve' j t
part-like design before before' curve curve' j k lt low eb ec token.Beside p =
    let a = eb j (omega (arith, lt)) in
    joint-like _ design.outline (before j) (before' j) (before (before j)) (before' (before' j)) (before (j + 1)) (before' (j + 1)) (curve (before j)) (curve' (before' j)) (curve j) (curve' j) (curve (j + 1)) (curve' (j + 1))
    a (eb (before j) (omega (arith, lt, low)) ∙ ap before' a) (eb (j + 1) (omega (arith, lt))) (ec (before j) (omega (arith, lt, low)) ∙ ap curve' a) (ec j (omega (arith, lt))) (ec (j + 1) (omega (arith, lt))) p
part-like design before before' curve curve' j k lt low eb ec token.Above p =
    let a = eb j (omega (arith, lt)) in
    joint-like _ design.outline (before j) (before' j) (before (before j)) (before' (before' j)) (before (j + 1)) (before' (j + 1)) (curve (before j)) (curve' (before' j)) (curve j) (curve' j) (curve (j + 1)) (curve' (j + 1))
    a (eb (before j) (omega (arith, lt, low)) ∙ ap before' a) (eb (j + 1) (omega (arith, lt))) (ec (before j) (omega (arith, lt, low)) ∙ ap curve' a) (ec j (omega (arith, lt))) (ec (j + 1) (omega (arith, lt))) p
part-like design before before' curve curve' j k lt low eb ec (token.Block b) p = record {
  stands = sym (eb (j + 1) (omega (arith, lt))) ∙ p.stands;
  curve = subst (IsBlockCurve design b) (ec (j + 1) (omega (arith, lt))) p.curve;
}

-- the parts of curves that are the same by number
pub parts-like : (design : Design) (tokens : List Token) (count : ℕ) (before before' : ℕ → ℕ) (curve curve' : ℕ → List Shape) → ((i : ℕ) → i ≤ count → before i ≡ before' i) → ((i : ℕ) → i ≤ count → curve i ≡ curve' i) → AreParts design tokens count before curve → AreParts design tokens count before' curve'
parts-like design tokens count before before' curve curve' eb ec p = record {
  lower = λ k h. subst (λ v. v ≤ k - 1) (eb k h) (p.lower k h);
  each = λ k lt. part-like design before before' curve curve' k count lt (omega (arith, p.lower k (omega (arith, lt)))) eb ec (token_at tokens k) (p.each k lt);
}

-- the joint that a direction's operator ends
joint-part : (design : Design) (before : ℕ → ℕ) (curve : ℕ → List Shape) (k : ℕ) (d : Direction) → IsJointPart (size_in d) design.outline (before k) (before (before k)) (before (k + 1)) (curve (before k)) (curve k) (curve (k + 1)) → IsPart design before curve k (token_in d)
joint-part design before curve k way.Beside p = p
joint-part design before curve k way.Above p = p

pub part-joint : (design : Design) (before : ℕ → ℕ) (curve : ℕ → List Shape) (k : ℕ) (d : Direction) → IsPart design before curve k (token_in d) → IsJointPart (size_in d) design.outline (before k) (before (before k)) (before (k + 1)) (curve (before k)) (curve k) (curve (k + 1))
part-joint design before curve k way.Beside p = p
part-joint design before curve k way.Above p = p

joint-curve : (blocks : List (List Shape)) (d : Direction) (c : List Shape) → curve_by blocks (token_in d) c ≡ c
joint-curve blocks way.Beside c = refl
joint-curve blocks way.Above c = refl

joint-operator : (d : Direction) → is_operand (token_in d) ≡ false
joint-operator way.Beside = refl
joint-operator way.Above = refl

module _ (design : Design) (blocks : List (List Shape)) (now : Parts) (known tokens : List Token) where
  -- one part more
  renewed-more : (next next' : Moved) (k before : ℕ) (fresh : Bool) → AreRenewed design blocks now next known tokens k → k + 1 < length next.before.items → k + 1 < length next.fresh.items
      → next'.before.items ≡ slice_set next.before.items (k + 1) before → next'.fresh.items ≡ slice_set next.fresh.items (k + 1) fresh → ((j : ℕ) → j ≤ k → kept_in next'.curves.items j ≡ kept_in next.curves.items j)
      → before ≤ k → (before_in next'.before.items (k + 1) ≡ before → slice_index_or next'.fresh.items (k + 1) false ≡ fresh → ((j : ℕ) → j ≤ k → before_in next.before.items j ≡ before_in next'.before.items j)
      → ((j : ℕ) → j ≤ k → moved_curve blocks now next tokens j ≡ moved_curve blocks now next' tokens j) → IsPart design (before_in next'.before.items) (moved_curve blocks now next' tokens) k (token_at tokens k) × (fresh ≡ false → IsAsKnown blocks now next' known tokens (k + 1)))
      → level tokens (k + 1) ≡ level tokens before + 1 → AreRenewed design blocks now next' known tokens (k + 1)
  renewed-more next next' k before fresh r room_b room_f eb ef ec low step lev =
      let at_b : before_in next'.before.items (k + 1) ≡ before = ap (λ v. before_in v (k + 1)) eb ∙ get_or-set_same next.before.items (k + 1) before 0 room_b in
      let at_f : slice_index_or next'.fresh.items (k + 1) false ≡ fresh = ap (λ v. slice_index_or v (k + 1) false) ef ∙ get_or-set_same next.fresh.items (k + 1) fresh false room_f in
      let kb : (j : ℕ) → j ≤ k → before_in next.before.items j ≡ before_in next'.before.items j =
      λ j h. sym (ap (λ v. before_in v j) eb ∙ get_or-set_other next.before.items (k + 1) j before 0 (λ e. omega (arith, e, h))) in
      let kf : (j : ℕ) → j ≤ k → slice_index_or next.fresh.items j false ≡ slice_index_or next'.fresh.items j false =
      λ j h. sym (ap (λ v. slice_index_or v j false) ef ∙ get_or-set_other next.fresh.items (k + 1) j fresh false (λ e. omega (arith, e, h))) in
      let kc : (j : ℕ) → j ≤ k → moved_curve blocks now next tokens j ≡ moved_curve blocks now next' tokens j =
      λ j h. (ap (λ f. curve_by blocks (token_at tokens (j - 1)) (chosen_curve now next f j)) (kf j h)
      ∙ ap (λ c. curve_by blocks (token_at tokens (j - 1)) (if slice_index_or next'.fresh.items j false then c else kept_in now.curves.items j)) (sym (ec j h))) in
      let s = step at_b at_f kb kc in
      record {
        parts = record {
          lower = λ j h. elim (cases_lt k j) [
            | inl over ↦ (let e : j ≡ k + 1 = omega (arith, over, h) in
                subst (λ v. before_in next'.before.items v ≤ v - 1) (sym e) (omega (arith, at_b, low)))
            | inr le ↦ subst (λ v. v ≤ j - 1) (kb j le) (r.parts.lower j le)
          ];
          each = λ j h. elim (cases_lt j k) [
            | inl lt ↦ part-like design (before_in next.before.items) (before_in next'.before.items) (moved_curve blocks now next tokens) (moved_curve blocks now next' tokens) j k lt
                (omega (arith, r.parts.lower j (omega (arith, lt)))) kb kc (token_at tokens j) (r.parts.each j lt)
            | inr ge ↦ (let e : k ≡ j = omega (arith, ge, h) in
                subst (λ v. IsPart design (before_in next'.before.items) (moved_curve blocks now next' tokens) v (token_at tokens v)) e s.0)
          ];
        };
        same = λ j some h flag. elim (cases_lt k j) [
          | inl over ↦ (let e : k + 1 ≡ j = omega (arith, over, h) in
              subst (IsAsKnown blocks now next' known tokens) e (s.1 (sym at_f ∙ ap (λ v. slice_index_or next'.fresh.items v false) e ∙ flag)))
          | inr le ↦ (let old = r.same j some le (kf j le ∙ flag) in (old.0, sym (kc j le) ∙ old.1))
        ];
        levels = λ j some h. elim (cases_lt k j) [
          | inl over ↦ (let e : k + 1 ≡ j = omega (arith, over, h) in
              subst (λ v. level tokens v ≡ level tokens (before_in next'.before.items v) + 1) e (lev ∙ ap (λ v. level tokens v + 1) (sym at_b)))
          | inr le ↦ r.levels j some le ∙ ap (λ v. level tokens v + 1) (kb j le)
        ];
      }

  -- a block more
  pub renewed-block : (n : ℕ) (next next' : Moved) (k b : ℕ) (fresh : Bool) → IsNormal n tokens → k < length tokens → AreRenewed design blocks now next known tokens k → k + 1 < length next.before.items → k + 1 < length next.fresh.items
      → next'.before.items ≡ slice_set next.before.items (k + 1) k → next'.fresh.items ≡ slice_set next.fresh.items (k + 1) fresh → next'.curves.items ≡ next.curves.items
      → token_at tokens k ≡ token.Block b → IsBlockCurve design b (slice_index_or blocks b []) → (fresh ≡ false → (k < length known) × (token_at known k ≡ token.Block b))
      → AreRenewed design blocks now next' known tokens (k + 1)
  renewed-block n next next' k b fresh normal lt r room_b room_f eb ef ec at curve same =
      let back : k + 1 - 1 ≡ k = omega arith in
      let here : moved_curve blocks now next' tokens (k + 1) ≡ slice_index_or blocks b [] =
      ap (λ t. curve_by blocks t (chosen_curve now next' (slice_index_or next'.fresh.items (k + 1) false) (k + 1))) (ap (token_at tokens) back ∙ at) in
      renewed-more next next' k k fresh r room_b room_f eb ef (λ j h. ap (λ v. kept_in v j) ec) (omega arith)
      (λ at_b at_f kb kc. (
        subst (IsPart design (before_in next'.before.items) (moved_curve blocks now next' tokens) k) (sym at) (record { stands = at_b; curve = subst (IsBlockCurve design b) (sym here) curve }),
        λ flag. (
            let old = same flag in
            let there : known_curve blocks now known (k + 1) ≡ slice_index_or blocks b [] = ap (λ t. curve_by blocks t (kept_in now.curves.items (k + 1))) (ap (token_at known) back ∙ old.1) in
            (omega (arith, old.0), here ∙ sym there)),
      ))
      (level-block n tokens normal k lt (ap is_operand at))

  -- a part stands before that on which an operator follows
  pub joint-some : (n : ℕ) (next : Moved) (k : ℕ) (d : Direction) → IsNormal n tokens → k < length tokens → AreRenewed design blocks now next known tokens k → token_at tokens k ≡ token_in d → 1 ≤ before_in next.before.items k
  joint-some n next k d normal lt r at =
      let op : is_operand (token_at tokens k) ≡ false = ap is_operand at ∙ joint-operator d in
      elim (cases_lt 0 k) [
        | inl some ↦ left-some n tokens normal k (before_in next.before.items k) lt op (r.levels k some (omega arith))
        | inr none ↦ (let e : k ≡ 0 = omega (arith, none) in absurd (omega (arith, level-joint n tokens normal k lt op, ap (level tokens) e, level-none tokens)))
      ]

  -- an operator more
  pub renewed-joint : (n : ℕ) (next next' : Moved) (k : ℕ) (d : Direction) (fresh : Bool) → IsNormal n tokens → k < length tokens → AreRenewed design blocks now next known tokens k → k + 1 < length next.before.items → k + 1 < length next.fresh.items
      → next'.before.items ≡ slice_set next.before.items (k + 1) (before_in next.before.items (before_in next.before.items k)) → next'.fresh.items ≡ slice_set next.fresh.items (k + 1) fresh → ((j : ℕ) → j ≤ k → kept_in next'.curves.items j ≡ kept_in next.curves.items j)
      → token_at tokens k ≡ token_in d
      → IsCombination (size_in d) design.outline (moved_curve blocks now next tokens (before_in next.before.items k)) (moved_curve blocks now next tokens k) (chosen_curve now next' fresh (k + 1)) → AllPairs IsSlimmer (chosen_curve now next' fresh (k + 1))
      → (fresh ≡ false → (k < length known) × (token_at known k ≡ token_in d)) → AreRenewed design blocks now next' known tokens (k + 1)
  renewed-joint n next next' k d fresh normal lt r room_b room_f eb ef ec at sizes falls same =
      let back : k + 1 - 1 ≡ k = omega arith in
      let left = before_in next.before.items k in
      let made : slice_index_or next'.fresh.items (k + 1) false ≡ fresh → moved_curve blocks now next' tokens (k + 1) ≡ chosen_curve now next' fresh (k + 1) =
      λ at_f. ap (λ t. curve_by blocks t (chosen_curve now next' (slice_index_or next'.fresh.items (k + 1) false) (k + 1))) (ap (token_at tokens) back ∙ at)
      ∙ joint-curve blocks d (chosen_curve now next' (slice_index_or next'.fresh.items (k + 1) false) (k + 1)) ∙ ap (λ f. chosen_curve now next' f (k + 1)) at_f in
      let operator : is_operand (token_at tokens k) ≡ false = ap is_operand at ∙ joint-operator d in
      let lower = r.parts.lower k (omega arith) in
      let some : 1 ≤ left = joint-some n next k d normal lt r at in
      let beneath = r.parts.lower left (omega (arith, lower)) in
      renewed-more next next' k (before_in next.before.items left) fresh r room_b room_f eb ef ec (omega (arith, beneath, lower))
      (λ at_b at_f kb kc. let here = made at_f in (
        let same_left : left ≡ before_in next'.before.items k = kb k (omega arith) in
            let joint : IsJointPart (size_in d) design.outline left (before_in next.before.items left) (before_in next.before.items left) (moved_curve blocks now next tokens left) (moved_curve blocks now next tokens k) (chosen_curve now next' fresh (k + 1)) =
            record { some = some; stands = refl; sizes = sizes; falls = falls } in
            subst (IsPart design (before_in next'.before.items) (moved_curve blocks now next' tokens) k) (sym at)
            (joint-part design (before_in next'.before.items) (moved_curve blocks now next' tokens) k d
            (joint-like (size_in d) design.outline left (before_in next'.before.items k) (before_in next.before.items left) (before_in next'.before.items (before_in next'.before.items k)) (before_in next.before.items left) (before_in next'.before.items (k + 1))
            (moved_curve blocks now next tokens left) (moved_curve blocks now next' tokens (before_in next'.before.items k)) (moved_curve blocks now next tokens k) (moved_curve blocks now next' tokens k) (chosen_curve now next' fresh (k + 1)) (moved_curve blocks now next' tokens (k + 1))
            same_left (kb left (omega (arith, lower)) ∙ ap (before_in next'.before.items) same_left) (sym at_b) (kc left (omega (arith, lower)) ∙ ap (moved_curve blocks now next' tokens) same_left) (kc k (omega arith)) (sym here) joint)),
        λ flag. (
            let old = same flag in
            let there : known_curve blocks now known (k + 1) ≡ kept_in now.curves.items (k + 1) =
            ap (λ t. curve_by blocks t (kept_in now.curves.items (k + 1))) (ap (token_at known) back ∙ old.1) ∙ joint-curve blocks d (kept_in now.curves.items (k + 1)) in
            (omega (arith, old.0), here ∙ ap (λ f. chosen_curve now next' f (k + 1)) flag ∙ sym there)),
      ))
      (omega (arith, level-joint n tokens normal k lt operator, r.levels k (omega (arith, some, lower)) (omega arith), r.levels left some (omega (arith, lower))))

  -- a joint of the same parts has the known curve
  pub known-joint : (n : ℕ) (next : Moved) (k : ℕ) (d : Direction) → IsNormal n tokens → k < length tokens → token_at tokens k ≡ token_in d → AreKnown design blocks now known → AreRenewed design blocks now next known tokens k → k < length known → token_at known k ≡ token_in d
      → before_in now.before.items k ≡ before_in next.before.items k → slice_index_or next.fresh.items (before_in next.before.items k) false ≡ false → slice_index_or next.fresh.items k false ≡ false
      → IsCombination (size_in d) design.outline (moved_curve blocks now next tokens (before_in next.before.items k)) (moved_curve blocks now next tokens k) (kept_in now.curves.items (k + 1)) × AllPairs IsSlimmer (kept_in now.curves.items (k + 1))
  known-joint n next k d normal inside op parts r lt at same left right =
      let back : k + 1 - 1 ≡ k = omega arith in
      let lower = r.parts.lower k (omega arith) in
      let some = joint-some n next k d normal inside r op in
      let joint = part-joint design (before_in now.before.items) (known_curve blocks now known) k d (subst (IsPart design (before_in now.before.items) (known_curve blocks now known) k) at (parts.each k lt)) in
      let there : known_curve blocks now known (k + 1) ≡ kept_in now.curves.items (k + 1) =
      ap (λ t. curve_by blocks t (kept_in now.curves.items (k + 1))) (ap (token_at known) back ∙ at) ∙ joint-curve blocks d (kept_in now.curves.items (k + 1)) in
      let a = (r.same (before_in next.before.items k) some (omega (arith, lower)) left).1 in
      let b = (r.same k (omega (arith, lower, some)) (omega arith) right).1 in (
        subst (IsCombination (size_in d) design.outline (moved_curve blocks now next tokens (before_in next.before.items k)) (moved_curve blocks now next tokens k)) there
            (subst (λ v. IsCombination (size_in d) design.outline (moved_curve blocks now next tokens (before_in next.before.items k)) v (known_curve blocks now known (k + 1))) (sym b)
            (subst (λ v. IsCombination (size_in d) design.outline v (known_curve blocks now known k) (known_curve blocks now known (k + 1))) (ap (known_curve blocks now known) same ∙ sym a) joint.sizes)),
        subst (AllPairs IsSlimmer) there joint.falls,
      )

  -- where no curve is fresh, one of the tokens with which both begin is the known one
  front-curve : (next : Moved) (count : ℕ) → ((k : ℕ) → k < count → token_at tokens k ≡ token_at known k) → ((k : ℕ) → slice_index_or next.fresh.items k false ≡ false) → (k : ℕ) → 1 ≤ count → k ≤ count → moved_curve blocks now next tokens k ≡ known_curve blocks now known k
  front-curve next count same fresh k some h =
      ap (λ f. curve_by blocks (token_at tokens (k - 1)) (chosen_curve now next f k)) (fresh k) ∙ ap (λ t. curve_by blocks t (kept_in now.curves.items k)) (same (k - 1) (omega (arith, some, h)))

  -- the parts of the tokens with which both begin, where all are taken as they are known
  pub front-renewed : (n : ℕ) (next : Moved) (count : ℕ) → IsNormal n tokens → count ≤ length tokens → count ≤ length known → ((k : ℕ) → k < count → token_at tokens k ≡ token_at known k) → AreKnown design blocks now known
      → next.before.items ≡ now.before.items → ((k : ℕ) → slice_index_or next.fresh.items k false ≡ false) → AreRenewed design blocks now next known tokens count
  front-renewed n next count normal inside few same parts before fresh =
      let eb : (k : ℕ) → before_in now.before.items k ≡ before_in next.before.items k = λ k. sym (ap (λ v. before_in v k) before) in
      let own : AreParts design tokens count (before_in next.before.items) (moved_curve blocks now next tokens) = record {
        lower = λ k h. subst (λ v. v ≤ k - 1) (eb k) (parts.lower k (omega (arith, h, few)));
        each = λ k lt.
            part-like design (before_in now.before.items) (before_in next.before.items) (known_curve blocks now known) (moved_curve blocks now next tokens) k count lt
            (omega (arith, parts.lower k (omega (arith, lt, few)))) (λ j h. eb j) (λ j h. sym (front-curve next count same fresh j (omega (arith, lt)) h)) (token_at tokens k)
            (subst (IsPart design (before_in now.before.items) (known_curve blocks now known) k) (sym (same k lt)) (parts.each k (omega (arith, lt, few))));
      } in
      record {
        parts = own;
        same = λ k some h flag. (omega (arith, h, few), front-curve next count same fresh k (omega (arith, some, h)) h);
        levels = parts-levels n tokens normal design count (before_in next.before.items) (moved_curve blocks now next tokens) own inside;
      }
