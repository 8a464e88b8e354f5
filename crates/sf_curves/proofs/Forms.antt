-- A plan without its shapes is known by its tokens.
use Rattle.std.proofs.Common.{◌≡◌, ℕ, List, [], refl, ap, sym, subst, ◌∙◌}
use Rattle.sf_curves.proofs.Common.{replicate, length-replicate, All-from_recursion, Tree, Leaf, Beside, Above, leaves, HasBlocksBelow, Token, postfix, IsSkewed, shape_at, Spells, no_shape, with_leaves, once-of_normal, spelled-by, form, form_of, each-append, Expr, IsNormal, CurveTree}
use Rattle.sf_polish.proofs.Normality.{normal-spelled}
use Rattle.sf_model.proofs.BlocksBelow.{once-below}
use Rattle.sf_polish.proofs.Spelling.{HasShapes, spells-one}
use Rattle.sf_curves.specs.declared.curve_tree.CurveTree.TheVariants as tree

-- a plan without its shapes has the same tokens
pub postfix-form : (t : Tree) → postfix (form t) ≡ postfix t
postfix-form (Leaf b s) = refl
postfix-form (Beside l r) = rw (postfix-form l, postfix-form r) refl
postfix-form (Above l r) = rw (postfix-form l, postfix-form r) refl

-- it takes no shape from a list
no-shapes : (t : Tree) → HasShapes [] (form t)
no-shapes (Leaf b s) = (refl, tt)
no-shapes (Beside l r) = each-append _ (leaves (form l)) (leaves (form r)) (no-shapes l) (no-shapes r)
no-shapes (Above l r) = each-append _ (leaves (form l)) (leaves (form r)) (no-shapes l) (no-shapes r)

-- a plan without its shapes is spelled by its tokens alone
spelled-form : (t : Tree) (tokens : List Token) → postfix t ≡ tokens → Spells (record { tokens = tokens; shapes = [] }) (form t)
spelled-form t tokens e = record { tokens = postfix-form t ∙ e; shapes = All-from_recursion (λ leaf. leaf.1 ≡ shape_at [] leaf.0) (leaves (form t)) (no-shapes t) }

-- a tree without its curves has no shapes
form-form_of : (c : CurveTree) → form (form_of c) ≡ form_of c
form-form_of (tree.Leaf b c) = refl
form-form_of (tree.Beside' c p l q r) = rw (form-form_of l, form-form_of r) refl
form-form_of (tree.Above' c p l q r) = rw (form-form_of l, form-form_of r) refl

-- a plan with the tokens of a tree has the form of the tree
pub same-form : (t : Tree) (c : CurveTree) → postfix t ≡ postfix (form_of c) → form t ≡ form_of c
same-form t c e =
    spells-one (record { tokens = postfix (form_of c); shapes = [] }) (form t) (form (form_of c)) (spelled-form t (postfix (form_of c)) e) (spelled-form (form_of c) (postfix (form_of c)) refl)
    ∙ form-form_of c

-- two plans with the same tokens have the same form, and the other way round
pub one-form : (t u : Tree) → postfix t ≡ postfix u → form t ≡ form u
one-form t u e = spells-one (record { tokens = postfix u; shapes = [] }) (form t) (form u) (spelled-form t (postfix u) e) (spelled-form u (postfix u) refl)

-- plans of one form have the same tokens
pub form-postfix : (t u : Tree) → form t ≡ form u → postfix t ≡ postfix u
form-postfix t u e = sym (postfix-form t) ∙ ap postfix e ∙ postfix-form u

-- a plan of the form of a tree has the tokens of the tree
pub form-tokens : (t : Tree) (c : CurveTree) → form t ≡ form_of c → postfix t ≡ postfix (form_of c)
form-tokens t c e = sym (postfix-form t) ∙ ap postfix e

-- a plan with normal tokens names each block once, and is skewed
pub below-of_normal : (n : ℕ) (ts : List Token) (t : Tree) → IsNormal n ts → postfix t ≡ ts → HasBlocksBelow n t
below-of_normal n ts t normal e = once-below n t (once-of_normal n ts t normal e)

-- a plan whose tokens are normal is skewed
pub skewed-of_normal : (n : ℕ) (ts : List Token) (t : Tree) → IsNormal n ts → postfix t ≡ ts → IsSkewed t
skewed-of_normal n ts t normal e =
    let expr : Expr = record { tokens = ts; shapes = with_leaves (replicate n no_shape) t } in
    let spells : Spells expr t = spelled-by n t expr (replicate n no_shape) (once-of_normal n ts t normal e) (length-replicate n no_shape) (sym e) refl in
    let other = normal-spelled n expr normal in
    subst IsSkewed (spells-one expr other.0 t other.1.spells spells) other.1.skewed
