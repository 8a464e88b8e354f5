-- The texts of jobs, one after another.
use Rattle.std.proofs.Common.{◌≡◌, ℕ, ◌+◌, ◌<◌, ◌≤◌, List, [], ◌∷◌, ◌++◌, length, map, take, sym, ap, ◌∙◌, arith, slice_index_or, append-nil, append_assoc}
use Rattle.sf_jobs.proofs.Common.{map-append, take_more, take_all, length-map, length-take-le, told_seen, Told, job_line, texts_from, batch_text}
use Rattle.sf_jobs.specs.declared.told.Answer.{Answer}

-- a job's line and its text
abbrev job_text : ℕ → Told → List ℕ
job_text number told = job_line number told.status ++ told.text

-- one job more stands behind the others
texts_more : (n : ℕ) (xs : List Told) (y : Told) → texts_from n (xs ++ y ∷ []) ≡ texts_from n xs ++ job_text (n + length xs) y
texts_more n [] y = append-nil (job_text n y) ∙ ap (λ k. job_text k y) (omega arith)
texts_more n (x ∷ xs) y =
    ap (λ l. job_text n x ++ l) (texts_more (n + 1) xs y ∙ ap (λ k. texts_from (n + 1) xs ++ job_text k y) (omega arith))
    ∙ sym (append_assoc (job_text n x) (texts_from (n + 1) xs) (job_text (n + (1 + length xs)) y))
    ∙ ap (λ k. (job_text n x ++ texts_from (n + 1) xs) ++ job_text k y) (omega arith)

-- the text with one job more
pub one_more : (all : List Answer) (k : ℕ) (x : Answer) (old new : List ℕ) → k < length all → x ≡ slice_index_or all k x → old ≡ batch_text (map told_seen (take k all))
    → new ≡ old ++ (job_line k x.status ++ x.text.items) → new ≡ batch_text (map told_seen (take (k + 1) all))
one_more all k x old new b at was more =
    let front = map told_seen (take k all) in
    let size : length front ≡ k = length-map (take k all) told_seen ∙ length-take-le k all (omega arith) in
    let at_end : k ≡ 0 + length front = omega (arith, size) in
    let next : map told_seen (take (k + 1) all) ≡ front ++ told_seen x ∷ [] =
    ap (map told_seen) (take_more all k x b ∙ ap (λ y. take k all ++ y ∷ []) (sym at)) ∙ map-append told_seen (take k all) (x ∷ []) in
    more ∙ ap (λ l. l ++ job_text k (told_seen x)) was ∙ ap (λ j. batch_text front ++ job_text j (told_seen x)) at_end
    ∙ sym (texts_more 0 front (told_seen x)) ∙ ap batch_text (sym next)

-- the text of all
pub all_of : (all : List Answer) (k : ℕ) (text : List ℕ) → length all ≤ k → text ≡ batch_text (map told_seen (take k all)) → text ≡ batch_text (map told_seen all)
all_of all k text b was = was ∙ ap (λ l. batch_text (map told_seen l)) (take_all k all b)
