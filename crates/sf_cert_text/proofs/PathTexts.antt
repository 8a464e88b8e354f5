-- The text of a header, line by line.
use Rattle.std.proofs.Common.{◌≡◌, ℕ, ◌+◌, ◌<◌, List, [], ◌∷◌, ◌++◌, length, map, take, get_or, ap, sym, ◌∙◌, append_assoc, append-nil}
use Rattle.sf_cert_text.proofs.Common.{codes, flat_map, Path, text_of_lines, flat_map-append, map-append, take_more, Step, path_text, step_text}

-- lines one after another
lines-both : (first second : List (List ℕ)) → text_of_lines (first ++ second) ≡ text_of_lines first ++ text_of_lines second
lines-both first second = flat_map-append (λ (line : List ℕ). line ++ 10 ∷ []) first second

-- the steps so far, and one more
pub steps-more : (steps : List Step) (i : ℕ) (d : Step) (first old new : List ℕ) → i < length steps → old ≡ first ++ flat_map step_text (take i steps) → new ≡ old ++ step_text (get_or steps i d) → new ≡ first ++ flat_map step_text (take (i + 1) steps)
steps-more steps i d first old new lt before after =
    let s = get_or steps i d in
    after ∙ ap (λ t. t ++ step_text s) before
    ∙ append_assoc first (flat_map step_text (take i steps)) (step_text s)
    ∙ ap (λ t. first ++ (flat_map step_text (take i steps) ++ t)) (sym (append-nil (step_text s)))
    ∙ ap (λ t. first ++ t) (sym (flat_map-append step_text (take i steps) (s ∷ [])))
    ∙ ap (λ ss. first ++ flat_map step_text ss) (sym (take_more steps i d lt))

-- the lines so far, and one more
pub lines-more : (paths : List Path) (i : ℕ) (p : Path) (first old new : List ℕ) → i < length paths → p ≡ get_or paths i p → old ≡ first ++ text_of_lines (map path_text (take i paths)) → new ≡ old ++ (path_text p ++ 10 ∷ [])
    → new ≡ first ++ text_of_lines (map path_text (take (i + 1) paths))
lines-more paths i p first old new lt is before after =
    let some = map path_text (take i paths) in
    after ∙ ap (λ t. t ++ (path_text p ++ 10 ∷ [])) before
    ∙ append_assoc first (text_of_lines some) (path_text p ++ 10 ∷ [])
    ∙ ap (λ t. first ++ (text_of_lines some ++ t)) (sym (append-nil (path_text p ++ 10 ∷ [])))
    ∙ ap (λ t. first ++ t) (sym (lines-both some (path_text p ∷ [])))
    ∙ ap (λ ls. first ++ text_of_lines ls) (sym (map-append path_text (take i paths) (p ∷ [])))
    ∙ ap (λ (x : Path). first ++ text_of_lines (map path_text (take i paths ++ x ∷ []))) is
    ∙ ap (λ ps. first ++ text_of_lines (map path_text ps)) (sym (take_more paths i p lt))

-- a line, and others behind it
line-more : (old new line : List ℕ) (ls : List (List ℕ)) → new ≡ old ++ (line ++ 10 ∷ []) → new ++ text_of_lines ls ≡ old ++ text_of_lines (line ∷ ls)
line-more old new line ls e = ap (λ t. t ++ text_of_lines ls) e ∙ append_assoc old (line ++ 10 ∷ []) (text_of_lines ls)

-- five lines
pub five-lines : (t0 t1 t2 t3 t4 t5 a b c d e : List ℕ) → t1 ≡ t0 ++ (a ++ 10 ∷ []) → t2 ≡ t1 ++ (b ++ 10 ∷ []) → t3 ≡ t2 ++ (c ++ 10 ∷ []) → t4 ≡ t3 ++ (d ++ 10 ∷ []) → t5 ≡ t4 ++ (e ++ 10 ∷ [])
    → t5 ≡ t0 ++ text_of_lines (a ∷ b ∷ c ∷ d ∷ e ∷ [])
five-lines t0 t1 t2 t3 t4 t5 a b c d e h1 h2 h3 h4 h5 =
    sym (append-nil t5)
    ∙ line-more t4 t5 e [] h5
    ∙ line-more t3 t4 d (e ∷ []) h4
    ∙ line-more t2 t3 c (d ∷ e ∷ []) h3
    ∙ line-more t1 t2 b (c ∷ d ∷ e ∷ []) h2
    ∙ line-more t0 t1 a (b ∷ c ∷ d ∷ e ∷ []) h1

-- three parts of a line
pub three-parts : (t0 t1 t2 t3 a b c : List ℕ) → t1 ≡ t0 ++ a → t2 ≡ t1 ++ b → t3 ≡ t2 ++ c → t3 ≡ t0 ++ (a ++ (b ++ c))
three-parts t0 t1 t2 t3 a b c h1 h2 h3 = h3 ∙ ap (λ t. t ++ c) (h2 ∙ ap (λ t. t ++ b) h1 ∙ append_assoc t0 a b) ∙ append_assoc t0 (a ++ b) c ∙ ap (λ t. t0 ++ t) (append_assoc a b c)

-- lines, further ones and the line `tree`
pub header-text : (t0 t1 t2 t3 : List ℕ) (plans paths : List (List ℕ)) → t1 ≡ t0 ++ text_of_lines plans → t2 ≡ t1 ++ text_of_lines paths → t3 ≡ t2 ++ (codes "tree" ++ 10 ∷ []) → t3 ≡ t0 ++ text_of_lines (plans ++ (paths ++ codes "tree" ∷ []))
header-text t0 t1 t2 t3 plans paths h1 h2 h3 =
    let last = codes "tree" ++ 10 ∷ [] in
    h3 ∙ ap (λ t. t ++ last) (h2 ∙ ap (λ t. t ++ text_of_lines paths) h1)
    ∙ append_assoc (t0 ++ text_of_lines plans) (text_of_lines paths) last
    ∙ append_assoc t0 (text_of_lines plans) (text_of_lines paths ++ last)
    ∙ ap (λ t. t0 ++ (text_of_lines plans ++ t)) (sym (lines-both paths (codes "tree" ∷ [])))
    ∙ ap (λ t. t0 ++ t) (sym (lines-both plans (paths ++ codes "tree" ∷ [])))
