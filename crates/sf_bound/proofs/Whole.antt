-- What belongs to a complete subproblem: the plans that its tokens spell, with shapes from its spans. A solved one is complete.
use Rattle.std.proofs.Common.{◌≡◌, ℕ, ◌<◌, [], ◌∷◌, ◌++◌, length, take, append-nil, arith, ap, sym, subst, ◌∙◌, true, false, ◌==◌, ◌||◌, not}
use Rattle.std.proofs.Math.Seq.{take-append_seam}
use Rattle.sf_bound.proofs.Common.{and_parts, ne_eqb, list_all, is_wide, Design, Parts, Belongs, is_complete, is_solved, Tree, Leaf, Beside, Above, leaves, AllByRecursion, IsFalse, is_outside, is_block, postfix, IsSkewed, each-left, each-right, each-append, each-weaker, IsSubproblem, block_count, shapes_of, complete-normal, subproblem-spans, recursion_from_All, All-from_recursion, Contains, count_by, shapes_in, span_of, count_by-postfix, inside-number, in_span}
use Rattle.sf_polish.specs.declared.expr.Token.TheVariants as token

-- a solved subproblem is complete
pub solved-complete : (design : Design) (node : Parts) → is_solved design node ≡ true → is_complete node ≡ true
solved-complete design node h = (and_parts _ _ h).0

-- where wires count, the spans of a solved subproblem are single
pub solved_single : (design : Design) (node : Parts) → is_solved design node ≡ true → 0 < design.weights.wire → list_all (λ span. not (is_wide span)) node.spans ≡ true
solved_single design node solved wires =
    let zero_wire : (design.weights.wire == 0) ≡ false = ne_eqb design.weights.wire 0 (λ e. absurd (omega (arith, e, wires))) in
    ap (λ b. b || list_all (λ span. not (is_wide span)) node.spans) (sym zero_wire)
    ∙ (and_parts (is_complete node) (design.weights.wire == 0 || list_all (λ span. not (is_wide span)) node.spans) solved).1

-- where no token names a block past the last, no leaf does
leaves-inside : (n : ℕ) (t : Tree) → AllByRecursion (λ x. IsFalse (is_outside n x)) (postfix t) → AllByRecursion (λ leaf. leaf.0 < n) (leaves t)
leaves-inside n (Leaf b s) h = (inside-number n b h.0, tt)
leaves-inside n (Beside l r) h =
    let both = each-left (λ x. IsFalse (is_outside n x)) (postfix l ++ postfix r) (token.Beside ∷ []) h in
    each-append (λ leaf. leaf.0 < n) (leaves l) (leaves r) (leaves-inside n l (each-left _ (postfix l) (postfix r) both)) (leaves-inside n r (each-right _ (postfix l) (postfix r) both))
leaves-inside n (Above l r) h =
    let both = each-left (λ x. IsFalse (is_outside n x)) (postfix l ++ postfix r) (token.Above ∷ []) h in
    each-append (λ leaf. leaf.0 < n) (leaves l) (leaves r) (leaves-inside n l (each-left _ (postfix l) (postfix r) both)) (leaves-inside n r (each-right _ (postfix l) (postfix r) both))

-- the blocks of a plan whose postfix is the tokens of a complete subproblem
pub spelled-inside : (design : Design) (node : Parts) (t : Tree) → IsSubproblem design node → is_complete node ≡ true → postfix t ≡ node.tokens → AllByRecursion (λ leaf. leaf.0 < block_count design) (leaves t)
spelled-inside design node t sub complete spelled =
    let n = block_count design in
    let normal = complete-normal design node sub (subproblem-spans design node sub) complete in
    leaves-inside n t (subst (AllByRecursion (λ x. IsFalse (is_outside n x))) (sym spelled) (recursion_from_All (λ x. IsFalse (is_outside n x)) node.tokens normal.no_other))

-- a skewed plan with the tokens of a complete subproblem and shapes from the spans belongs to it
pub listed-belongs : (design : Design) (node : Parts) (t : Tree) → IsSubproblem design node → is_complete node ≡ true → postfix t ≡ node.tokens → IsSkewed t → AllByRecursion (λ leaf. Contains (shapes_in design node.spans leaf.0) leaf.1) (leaves t) → Belongs design node t
listed-belongs design node t sub complete spelled skewed listed =
    let n = block_count design in
    let normal = complete-normal design node sub (subproblem-spans design node sub) complete in
    record {
      skewed = skewed;
      legal = record {
        blocks = record {
          each_once = λ b lt. sym (count_by-postfix b t) ∙ ap (count_by (is_block b)) spelled ∙ normal.each_once b lt;
          no_other = All-from_recursion (λ leaf. leaf.0 < n) (leaves t) (spelled-inside design node t sub complete spelled);
        };
        listed = All-from_recursion (λ leaf. Contains (shapes_of design leaf.0) leaf.1) (leaves t)
            (each-weaker (λ leaf. Contains (shapes_in design node.spans leaf.0) leaf.1) (λ leaf. Contains (shapes_of design leaf.0) leaf.1)
            (λ leaf h. let s = in_span (shapes_of design leaf.0) (span_of node leaf.0).0 (span_of node leaf.0).1 leaf.1 h in (s.at, s.within, s.is)) (leaves t) listed);
      };
      begins = ap (take (length node.tokens)) (spelled ∙ sym (append-nil node.tokens)) ∙ take-append_seam node.tokens [];
      chosen = All-from_recursion (λ leaf. Contains (shapes_in design node.spans leaf.0) leaf.1) (leaves t) listed;
    }
