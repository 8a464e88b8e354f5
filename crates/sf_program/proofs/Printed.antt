-- The four lines for a valid certificate.
use Rattle.std.proofs.Common.{◌≡◌, ◌++◌, ◌∷◌, [], List, ℕ, ap, ◌∙◌, sym, append_assoc, codes}
use Rattle.sf_program.proofs.Common.{line_of}

-- a line that goes on after its last word
goes-on : (word rest : List ℕ) → word ++ 10 ∷ rest ≡ (word ++ 10 ∷ []) ++ rest
goes-on word rest = sym (append_assoc word (10 ∷ []) rest)

-- the four lines that are printed at once are the lines one after another
pub yes-lines : (s t cost bound decided : List ℕ) → s ≡ cost → t ≡ bound
    → codes "status Yes\ncost " ++ (s ++ (codes "\nbound " ++ (t ++ (codes "\ndecided " ++ (decided ++ 10 ∷ [])))))
    ≡ line_of (codes "status" ∷ codes "Yes" ∷ []) ++ (line_of (codes "cost" ∷ cost ∷ []) ++ (line_of (codes "bound" ∷ bound ∷ []) ++ line_of (codes "decided" ∷ decided ∷ [])))
yes-lines s t cost bound decided e f =
    ap (λ x. codes "status Yes\ncost " ++ (x ++ (codes "\nbound " ++ (t ++ (codes "\ndecided " ++ (decided ++ 10 ∷ [])))))) e
    ∙ ap (λ x. codes "status Yes\ncost " ++ (cost ++ (codes "\nbound " ++ (x ++ (codes "\ndecided " ++ (decided ++ 10 ∷ [])))))) f
    ∙ ap (λ x. codes "status Yes\ncost " ++ (cost ++ (codes "\nbound " ++ x))) (goes-on bound (codes "decided " ++ (decided ++ 10 ∷ [])))
    ∙ ap (λ x. codes "status Yes\ncost " ++ x) (goes-on cost (codes "bound " ++ ((bound ++ 10 ∷ []) ++ (codes "decided " ++ (decided ++ 10 ∷ [])))))
