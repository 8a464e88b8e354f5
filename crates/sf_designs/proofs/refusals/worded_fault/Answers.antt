use Rattle.std.proofs.Common.{◌≡◌, ◌++◌, ◌∷◌, [], List, ℕ, inl, refl, ap, ◌∙◌, append_assoc, rules, codes, string_bytes}
use Rattle.sf_designs.proofs.Common.{decimal, BadInput, refused}
use Rattle.sf_designs.proofs.refusals.worded_fault.Goals as goal

joined : (a b c d : List ℕ) → (a ++ 32 ∷ (b ++ 32 ∷ (c ++ 32 ∷ []))) ++ (d ++ 10 ∷ []) ≡ a ++ 32 ∷ (b ++ 32 ∷ (c ++ 32 ∷ (d ++ 10 ∷ [])))
joined a b c d = search (rules, append_assoc)

pub returns : goal.returns
returns c =
    let source = c.args.source.now in
    let line = decimal c.args.line in
    let fault = c.args.fault.now in
    let word = c.args.word.now in
    let head : string_bytes c.in_ok-head.head ≡ codes "error BadInput " ++ (source ++ 32 ∷ (line ++ 32 ∷ (fault ++ 32 ∷ []))) = c.in_ok-head.ensures.ok in
    (inl refl, ap (refused BadInput) (c.in_ok-text.ensures ∙ ap (λ z. z ++ (word ++ 10 ∷ [])) head ∙ ap (λ z. codes "error BadInput " ++ z) (joined source line fault word)))
