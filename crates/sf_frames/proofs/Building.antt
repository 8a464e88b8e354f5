-- The stack's curves are those of the items that the passed tokens leave.
use Rattle.std.proofs.Common.{◌≡◌, ℕ, ◌+◌, ◌-◌, ◌<◌, List, [], ◌∷◌, ◌++◌, length, reverse, take, drop, get_or, sym, ap, ◌∙◌, subst, arith}
use Rattle.sf_frames.proofs.Common.{AllZip, reverse-append, length_push, drop_more, take_more, Design, Shape, Beside, Above, Token, Parts, IsSubproblem, subproblem-begun, IsCombination, beside_size, above_size, shapes_in, Item, read, IsJoined, IsStep, IsItemCurve, Runs, runs-from, read-append, read-block}
use Rattle.sf_frames.proofs.Joining.{curve-joined, curve-block, beside-way, above-way}
use Rattle.sf_polish.specs.declared.expr.Token.TheVariants as token
use Rattle.sf_standard.specs.Items as item

-- the rest of the tokens finds its operands, and the curves are those of the items that the passed tokens
-- leave
pub record IsBuilding (design : Design) (node : Parts) (stack : List (List Shape)) (passed rest : List Token) : Type 0 where
  pub runs : Runs (length design.blocks) (length stack) rest
  pub curves : AllZip (IsItemCurve design node) (reverse stack) (read [] passed)

-- before any token there is no item and no curve
pub building-begins : (design : Design) (node : Parts) → IsSubproblem design node → IsBuilding design node [] [] node.tokens
building-begins design node sub =
    let i = subproblem-begun design node sub in
    record { runs = runs-from (length design.blocks) 0 i.count node.tokens i.reads i.below; curves = tt }

-- the combination of the top two curves side by side is the curve of the item that `Beside` makes
join-beside : (design : Design) (node : Parts) (l r c : List Shape) (below : List (List Shape)) (ts : List Item) → AllZip (IsItemCurve design node) (r ∷ (l ∷ below)) ts → IsCombination beside_size design.outline l r c → AllZip (IsItemCurve design node) (c ∷ below) (read ts (token.Beside ∷ []))
join-beside design node l r c below [] h comb = elim h [ ]
join-beside design node l r c below (t ∷ []) h comb = elim h.1 [ ]
join-beside design node l r c below (tr ∷ (tl ∷ ts)) h comb = (curve-joined (λ l r. item.Beside l r) (λ p q. Beside p q) beside_size beside-way design node tl tr l r c h.1.0 h.0 comb, h.1.1)

-- the combination of the top two curves one above the other is the curve of the item that `Above` makes
join-above : (design : Design) (node : Parts) (l r c : List Shape) (below : List (List Shape)) (ts : List Item) → AllZip (IsItemCurve design node) (r ∷ (l ∷ below)) ts → IsCombination above_size design.outline l r c → AllZip (IsItemCurve design node) (c ∷ below) (read ts (token.Above ∷ []))
join-above design node l r c below [] h comb = elim h [ ]
join-above design node l r c below (t ∷ []) h comb = elim h.1 [ ]
join-above design node l r c below (tr ∷ (tl ∷ ts)) h comb = (curve-joined (λ l r. item.Above l r) (λ p q. Above p q) above_size above-way design node tl tr l r c h.1.0 h.0 comb, h.1.1)

-- what was put behind a list stands first in the list reversed
pub reverse-push : (xs : List (List Shape)) (x : List Shape) → reverse (xs ++ x ∷ []) ≡ x ∷ reverse xs
reverse-push xs x = reverse-append xs (x ∷ [])

-- after an operator the curves are those of the items that the passed tokens leave
keep-join : (design : Design) (node : Parts) (join : Shape → Shape → Shape) (t : Token) (old new : List (List Shape)) (passed rest : List Token) → ((l r c : List Shape) (below : List (List Shape)) (ts : List Item) → AllZip (IsItemCurve design node) (r ∷ (l ∷ below)) ts → IsCombination join design.outline l r c → AllZip (IsItemCurve design node) (c ∷ below) (read ts (t ∷ []))) → Runs (length design.blocks) (length old - 1) rest → AllZip (IsItemCurve design node) (reverse old) (read [] passed) → IsJoined join design.outline old new → IsBuilding design node new (passed ++ t ∷ []) rest
keep-join design node join t old new passed rest top runs curves s =
    let below = s.0 in
    let turned : reverse old ≡ s.2 ∷ (s.1 ∷ reverse below) =
    ap reverse s.4 ∙ reverse-push (below ++ s.1 ∷ []) s.2 ∙ ap (λ v. s.2 ∷ v) (reverse-push below s.1) in
    record {
      runs = subst (λ k. Runs (length design.blocks) k rest)
          (omega (arith, ap length s.4, ap length s.5, length_push (below ++ s.1 ∷ []) s.2, length_push below s.1, length_push below s.3))
          runs;
      curves = subst (λ v. AllZip (IsItemCurve design node) v (read [] (passed ++ t ∷ []))) (sym (ap reverse s.5 ∙ reverse-push below s.3))
          (subst (AllZip (IsItemCurve design node) (s.3 ∷ reverse below)) (sym (read-append [] passed (t ∷ [])))
          (top s.1 s.2 s.3 (reverse below) (read [] passed) (subst (λ v. AllZip (IsItemCurve design node) v (read [] passed)) turned curves) s.6));
    }

-- after each token the curves are those of the items that the passed tokens leave
pub step-keeps : (design : Design) (node : Parts) (old new : List (List Shape)) (passed : List Token) (t : Token) (rest : List Token) → IsBuilding design node old passed (t ∷ rest) → IsStep (shapes_in design node.spans) design.outline t old new → IsBuilding design node new (passed ++ t ∷ []) rest
step-keeps design node old new passed (token.Block b) rest m s =
    record {
      runs = subst (λ k. Runs (length design.blocks) k rest) (sym (ap length s.1 ∙ length_push old s.0)) m.runs.1;
      curves = subst (λ v. AllZip (IsItemCurve design node) v (read [] (passed ++ token.Block b ∷ []))) (sym (ap reverse s.1 ∙ reverse-push old s.0))
          (subst (AllZip (IsItemCurve design node) (s.0 ∷ reverse old)) (sym (read-append [] passed (token.Block b ∷ []) ∙ read-block (read [] passed) b))
          (curve-block design node b s.0 s.2, m.curves));
    }
step-keeps design node old new passed token.Beside rest m s = keep-join design node beside_size token.Beside old new passed rest (join-beside design node) m.runs.1 m.curves s
step-keeps design node old new passed token.Above rest m s = keep-join design node above_size token.Above old new passed rest (join-above design node) m.runs.1 m.curves s

-- one more token
pub token-read : (design : Design) (node : Parts) (old new : List (List Shape)) (tokens : List Token) (i : ℕ) (d : Token) → i < length tokens → IsBuilding design node old (take i tokens) (drop i tokens) → IsStep (shapes_in design node.spans) design.outline (get_or tokens i d) old new → IsBuilding design node new (take (i + 1) tokens) (drop (i + 1) tokens)
token-read design node old new tokens i d lt m s =
    subst (λ v. IsBuilding design node new v (drop (i + 1) tokens)) (sym (take_more tokens i d lt))
    (step-keeps design node old new (take i tokens) (get_or tokens i d) (drop (i + 1) tokens)
    (subst (IsBuilding design node old (take i tokens)) (drop_more tokens i d lt) m) s)
