-- Lines that were read so far, and how many there may be.
use Rattle.std.proofs.Common.{◌≡◌, inl, inr, ℕ, zero, suc, ◌+◌, ◌<◌, ◌≤◌, List, [], ◌∷◌, ◌++◌, length, Option, refl, sym, ap, subst, ◌∙◌, arith, All, append-nil}
use Rattle.std.specs.List.{AllZip, onto_first}
use Rattle.std.proofs.lemmas.List.Elements.{All-append}
use Rattle.sf_lex.specs.Text.{lines, is_line_feed}
use Rattle.sf_jobs.proofs.Common.{Line, PlanOptions, cases_Bool, numbered, content, content_of, is_content, SaysJob}
use Rattle.sf_jobs.specs.Jobs.{HasJob, JobsStand}

-- ---- a text has no more lines than bytes

-- a byte in front of lines makes at most one more
onto_length : (b : ℕ) (ls : List (List ℕ)) → length (onto_first b ls) ≤ suc (length ls)
onto_length b [] = omega arith
onto_length b (l ∷ ls) = omega arith

-- the lines are at most as many as the bytes
lines_length : (text : List ℕ) → length (lines text) ≤ length text
lines_length [] = omega arith
lines_length (b ∷ bytes) = elim (cases_Bool (is_line_feed b)) [
  | inl e ↦ rw e (let h = lines_length bytes in omega arith)
  | inr e ↦ rw e (let h = lines_length bytes in let g = onto_length b (lines bytes) in omega arith)
]

-- numbers change nothing of it
numbered_length : (n : ℕ) (ls : List (List ℕ)) → length (numbered n ls) ≡ length ls
numbered_length n [] = refl
numbered_length n (l ∷ ls) = ap suc (numbered_length (n + 1) ls)

-- a choice of lines has no more of them
content_length : (ls : List Line) → length (content ls) ≤ length ls
content_length [] = omega arith
content_length (l ∷ ls) = elim (cases_Bool (is_content l)) [
  | inl e ↦ rw e (let h = content_length ls in omega arith)
  | inr e ↦ rw e (let h = content_length ls in omega arith)
]

-- the lines that count are at most as many as the bytes
pub few_lines : (text : List ℕ) → length (content_of text) ≤ length text
few_lines text =
    let a = content_length (numbered 1 (lines text)) in let b = numbered_length 1 (lines text) in let c = lines_length text in omega (arith, a, b, c)

-- ---- reading line by line

-- some first lines are jobs, and up to 256 of them are kept
pub record IsReading (all rest : List Line) (found : ℕ) (asked : List (Option PlanOptions)) : Type 0 where
  pub done : List Line
  pub lines_are : all ≡ done ++ rest
  pub good : All HasJob done
  pub count : found ≡ length done
  pub kept : found ≤ 256 → AllZip SaysJob done asked

-- nothing is read yet
pub begins : (all : List Line) → IsReading all all 0 []
begins all = record { done = []; lines_are = refl; good = λ k d b. absurd (omega arith); count = refl; kept = λ _. tt }

-- a list with one more is longer by one
more_length : (xs : List Line) (x : Line) → length (xs ++ x ∷ []) ≡ suc (length xs)
more_length [] x = refl
more_length (y ∷ ys) x = ap suc (more_length ys x)

-- a line moves from those that follow to those before
moved : (xs : List Line) (x : Line) (ys : List Line) → xs ++ x ∷ ys ≡ (xs ++ x ∷ []) ++ ys
moved [] x ys = refl
moved (z ∷ zs) x ys = ap (λ (l : List Line). z ∷ l) (moved zs x ys)

-- one more pair
zip-more : (xs : List Line) (ys : List (Option PlanOptions)) (x : Line) (y : Option PlanOptions) → AllZip SaysJob xs ys → SaysJob x y → AllZip SaysJob (xs ++ x ∷ []) (ys ++ y ∷ [])
zip-more [] [] x y h s = (s, tt)
zip-more [] (z ∷ zs) x y h s = elim h [ ]
zip-more (z ∷ zs) [] x y h s = elim h [ ]
zip-more (z ∷ zs) (u ∷ us) x y h s = (h.0, zip-more zs us x y h.1 s)

-- pairs are as many on both sides
zip-length : (xs : List Line) (ys : List (Option PlanOptions)) → AllZip SaysJob xs ys → length ys ≡ length xs
zip-length [] [] h = refl
zip-length [] (y ∷ ys) h = elim h [ ]
zip-length (x ∷ xs) [] h = elim h [ ]
zip-length (x ∷ xs) (y ∷ ys) h = ap suc (zip-length xs ys h.1)

-- what holds of one
one : (x : Line) → HasJob x → All HasJob (x ∷ [])
one x h zero d b = h
one x h (suc k) d b = absurd (omega arith)

-- one more job
pub goes_on : (all rest rest' : List Line) (found found' : ℕ) (asked asked' : List (Option PlanOptions)) (line : Line) (said : Option PlanOptions)
    → IsReading all rest found asked → rest ≡ line ∷ rest' → SaysJob line said → found' ≡ found + 1 → (found < 256 → asked' ≡ asked ++ said ∷ []) → IsReading all rest' found' asked'
goes_on all rest rest' found found' asked asked' line said r e says next more = record {
  done = r.done ++ line ∷ [];
  lines_are = r.lines_are ∙ ap (λ l. r.done ++ l) e ∙ moved r.done line rest';
  good = All-append HasJob r.done (line ∷ []) r.good (one line (says.job, says.is_job));
  count = let c = r.count in let m = more_length r.done line in omega (arith, c, m, next);
  kept = λ few. subst (AllZip SaysJob (r.done ++ line ∷ [])) (sym (more (omega (arith, few, next)))) (zip-more r.done asked line said (r.kept (omega (arith, few, next))) says);
}

-- all lines are read
whole : (all rest : List Line) (found : ℕ) (asked : List (Option PlanOptions)) (r : IsReading all rest found asked) → rest ≡ [] → r.done ≡ all
whole all rest found asked r e = sym (r.lines_are ∙ ap (λ l. r.done ++ l) e ∙ append-nil r.done)

-- and they are few
pub all_stand : (text : List ℕ) (rest : List Line) (found : ℕ) (asked : List (Option PlanOptions)) → IsReading (content_of text) rest found asked → rest ≡ [] → found ≤ 256 → JobsStand text asked
all_stand text rest found asked r e few =
    let zip = subst (λ l. AllZip SaysJob l asked) (whole (content_of text) rest found asked r e) (r.kept few) in
    let size = zip-length r.done asked (r.kept few) in
    record { each = zip; few = let c = r.count in omega (arith, size, c, few) }

-- or too many
pub all_many : (text : List ℕ) (rest : List Line) (found : ℕ) (asked : List (Option PlanOptions)) → IsReading (content_of text) rest found asked → rest ≡ [] → All HasJob (content_of text) × (found ≡ length (content_of text))
all_many text rest found asked r e =
    let all = whole (content_of text) rest found asked r e in (subst (All HasJob) all r.good, r.count ∙ ap length all)

-- those that are read are no more than all
pub bounded : (all rest : List Line) (found : ℕ) (asked : List (Option PlanOptions)) (line : Line) (rest' : List Line) → IsReading all rest found asked → rest ≡ line ∷ rest' → found < length all
bounded all rest found asked line rest' r e = let c = r.count in let l = ap length (r.lines_are ∙ ap (λ l. r.done ++ l) e) in let p = longer r.done line rest' in omega (arith, c, l, p)
  where
    longer : (xs : List Line) (x : Line) (ys : List Line) → length xs < length (xs ++ x ∷ ys)
    longer [] x ys = omega arith
    longer (z ∷ zs) x ys = let h = longer zs x ys in omega arith
