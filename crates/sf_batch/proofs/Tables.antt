-- Tables of answers, and how each step keeps them.
use Rattle.std.proofs.Common.{◌≡◌, inr, ℕ, zero, suc, ◌+◌, ◌<◌, ◌≤◌, set, map, take, drop, List, [], ◌∷◌, ◌++◌, length, Option, Some, Ok, Err, Result, refl, sym, ap, subst, ◌∙◌, arith, All, OnOk, OnErr, slice_get, slice_index_or}
use Rattle.sf_batch.proofs.Common.{AllZip, ForSome, map-set, length-map, All-append, AllZip-long, Contents, Line, PlanOptions, SaysJob, Told, told_seen, BuiltJob, LacksMemory, LineComesTo, RoseBy, lost_jobs, lost_one, IsFound, FitsLine, IsUnderWay}
use Rattle.std.proofs.lemmas.Option.{get_or_from_slice_get, slice_get_within}
use Rattle.sf_jobs.specs.declared.told.Answer.{Answer}
use Rattle.sf_batch.specs.declared.job.FoundJob.{FoundJob}
use Rattle.sf_batch.proofs.Counts.{counted_both, counted_less, searched_keeps}

-- what is there is one
some_same : {X : Type 0} {x y : X} → Some x ≡ Some y → x ≡ y
some_same e = cc

-- a list as long as another one stands for all of it
pub whole : {X : Type 0} (n : ℕ) (xs ys : List X) → n ≡ length ys → length xs ≡ length ys → take n (xs ++ drop (length xs) ys) ≡ xs
whole n xs ys e f = ap (λ k. take k (xs ++ drop (length xs) ys)) e ∙ go xs ys f
  where
    go : {X : Type 0} (xs ys : List X) → length xs ≡ length ys → take (length ys) (xs ++ drop (length xs) ys) ≡ xs
    go [] [] f = refl
    go [] (y ∷ ys) f = absurd (omega arith)
    go (x ∷ xs) [] f = absurd (omega arith)
    go (x ∷ xs) (y ∷ ys) f = ap (λ l. x ∷ l) (go xs ys (omega arith))

-- what stands in the table after two passes over it
pub last_table : {X : Type 0} (n : ℕ) (items one two : List X) → n ≡ length items → length one ≡ length items → length two ≡ length one
    → take n (two ++ drop (length two) (take n (one ++ drop (length one) items))) ≡ two
last_table n items one two e f h = ap (λ y. take n (two ++ drop (length two) y)) (whole n one items e f) ∙ whole n two one (e ∙ sym f) h

-- ---- the table

-- an answer for a line, put in its place
placed : (held : Option Contents) (lines : List Line) (all : List Told) (k : ℕ) (line : Line) (told : Told)
    → AllZip (LineComesTo held) lines all → slice_get lines k ≡ Some line → LineComesTo held line told → AllZip (LineComesTo held) lines (set all k told)
placed held [] [] k line told each at comes = tt
placed held [] (t ∷ ts) k line told each at comes = absurd each
placed held (l ∷ ls) [] k line told each at comes = absurd each
placed held (l ∷ ls) (t ∷ ts) zero line told each at comes = (subst (λ (x : Line). LineComesTo held x told) (sym (some_same at)) comes, each.1)
placed held (l ∷ ls) (t ∷ ts) (suc k) line told each at comes = (each.0, placed held ls ts k line told each.1 at comes)

-- a changed place counts at most once
lost_set : (all : List Told) (k : ℕ) (told : Told) → lost_jobs (set all k told) ≤ lost_jobs all + lost_one told.status
lost_set [] k told = omega arith
lost_set (t ∷ ts) zero told = omega arith
lost_set (t ∷ ts) (suc k) told = let h = lost_set ts k told in omega arith

-- a line's answer is put down
pub told_one : (held : Option Contents) (lines : List Line) (faults now then : ℕ) (table : List Answer) (given : List BuiltJob) (k : ℕ) (line : Line) (answer : Answer)
    → IsUnderWay held lines faults now (map told_seen table) given → slice_get lines k ≡ Some line → LineComesTo held line (told_seen answer) → RoseBy (lost_one answer.status) now then
    → IsUnderWay held lines faults then (map told_seen (set table k answer)) given
told_one held lines faults now then table given k line answer is at comes rose =
    let all = map told_seen table in
    let told = told_seen answer in
    subst (λ l. IsUnderWay held lines faults then l given) (sym (map-set told_seen table k answer)) (record {
      done = record {
        each = placed held lines all k line told is.done.each at comes;
        counted = counted_less (lost_jobs all + lost_one told.status) (lost_jobs (set all k told)) faults faults then (lost_set all k told) (omega arith)
            (counted_both (lost_jobs all) (lost_one told.status) faults now then is.done.counted rose);
      };
      given_fit = is.given_fit;
    })

-- jobs that stand as undone lost no file
lost_undone : (table : List Answer) → All (λ a. LacksMemory (told_seen a)) table → lost_jobs (map told_seen table) ≡ 0
lost_undone [] all = refl
lost_undone (a ∷ more) all =
    let here = ap lost_one (all zero a (omega arith)).0 in
    let rest = lost_undone more (λ k d b. all (suc k) d (omega arith)) in omega arith

-- nor is anything wrong in saying so of a line
each_undone : (held : Option Contents) (lines : List Line) (asked : List (Option PlanOptions)) (table : List Answer)
    → AllZip SaysJob lines asked → length table ≡ length asked → All (λ a. LacksMemory (told_seen a)) table → AllZip (LineComesTo held) lines (map told_seen table)
each_undone held [] [] [] says size all = tt
each_undone held [] [] (t ∷ ts) says size all = absurd (omega arith)
each_undone held [] (o ∷ os) table says size all = absurd says
each_undone held (l ∷ ls) [] table says size all = absurd says
each_undone held (l ∷ ls) (o ∷ os) [] says size all = absurd (omega arith)
each_undone held (l ∷ ls) (o ∷ os) (t ∷ ts) says size all =
    ((says.0.job, says.0.is_job, inr (inr (all zero t (omega arith)))), each_undone held ls os ts says.1 (omega arith) (λ k d b. all (suc k) d (omega arith)))

-- nothing is done yet
undone_yet : (held : Option Contents) (lines : List Line) (asked : List (Option PlanOptions)) (faults : ℕ) (items : List Answer)
    → AllZip SaysJob lines asked → length items ≡ length asked → All (λ a. LacksMemory (told_seen a)) items → IsUnderWay held lines faults faults (map told_seen items) []
undone_yet held lines asked faults items says size all = record {
  done = record { each = each_undone held lines asked items says size all; counted = let z = lost_undone items all in omega arith };
  given_fit = λ k d b. absurd (omega arith);
}

-- the same of a table that has these items, and of a team that was given nothing
pub begins : (held : Option Contents) (lines : List Line) (asked : List (Option PlanOptions)) (faults : ℕ) (items table : List Answer) (team : List BuiltJob)
    → AllZip SaysJob lines asked → length items ≡ length asked → All (λ a. LacksMemory (told_seen a)) items → table ≡ items → team ≡ [] → IsUnderWay held lines faults faults (map told_seen table) team
begins held lines asked faults items table team says size all same none =
    subst (λ t. IsUnderWay held lines faults faults (map told_seen t) team) (sym same) (subst (IsUnderWay held lines faults faults (map told_seen items)) (sym none) (undone_yet held lines asked faults items says size all))

-- the line of a job
pub line_at : {X : Type 0} (v : X → Option PlanOptions) (lines : List Line) (jobs : List X) (k : ℕ) (x : X) → AllZip SaysJob lines (map v jobs) → k < length jobs → x ≡ slice_index_or jobs k x
    → (line : Line) × (slice_get lines k ≡ Some line) × SaysJob line (v x)
line_at v lines [] k x says b e = absurd (omega arith)
line_at v [] (j ∷ js) k x says b e = absurd says
line_at v (l ∷ ls) (j ∷ js) zero x says b e = (l, refl, subst (λ y. SaysJob l (v y)) (sym e) says.0)
line_at v (l ∷ ls) (j ∷ js) (suc k) x says b e = line_at v ls js k x says.1 (omega arith) e

-- ---- the team

-- a job is given to the team
pub given_one : (held : Option Contents) (lines : List Line) (faults now then : ℕ) (all : List Told) (given more : List BuiltJob)
    → IsUnderWay held lines faults now all given → now ≤ then → All (FitsLine held lines) more → IsUnderWay held lines faults then all more
given_one held lines faults now then all given more is later fit = record {
  done = record { each = is.done.each; counted = let c = is.done.counted in omega arith };
  given_fit = fit;
}

-- what holds of one
only : (P : BuiltJob → Type 0) (x : BuiltJob) → P x → All P (x ∷ [])
only P x h zero d b = h
only P x h (suc k) d b = absurd (omega arith)

-- the jobs that the team has after it was given one, or could not be
pub given_after : {E : Type 0} (held : Option Contents) (lines : List Line) (old new : List BuiltJob) (job x : BuiltJob) (r : Result (Unit {0}) E)
    → OnOk r (new ≡ old ++ x ∷ []) → OnErr r (new ≡ old) → x ≡ job → FitsLine held lines job → All (FitsLine held lines) old → All (FitsLine held lines) new
given_after held lines old new job x (Ok u) ok err e fit all =
    subst (All (FitsLine held lines)) (sym ok) (All-append (FitsLine held lines) old (x ∷ []) all (only (FitsLine held lines) x (subst (FitsLine held lines) (sym e) fit)))
given_after held lines old new job x (Err f) ok err e fit all = subst (All (FitsLine held lines)) (sym err) all

-- what is found is found of one of the jobs
abbrev pub IsFoundOf : List BuiltJob → Option FoundJob → Type 0
IsFoundOf given found = (k : ℕ) × (job : BuiltJob) × (slice_get given k ≡ Some job) × IsFound job found

-- all that the team found
pub found_all : (given : List BuiltJob) (all : List (Option FoundJob)) → AllZip IsFound given all → All (IsFoundOf given) all
found_all [] [] zip k d b = absurd (omega arith)
found_all [] (f ∷ fs) zip k d b = absurd zip
found_all (j ∷ js) [] zip k d b = absurd zip
found_all (j ∷ js) (f ∷ fs) zip zero d b = (0, j, refl, zip.0)
found_all (j ∷ js) (f ∷ fs) zip (suc k) d b = let r = found_all js fs zip.1 k d (omega arith) in (suc r.0, r.1, r.2, r.3)

-- the job at a place stands for its line
fit_at : (held : Option Contents) (lines : List Line) (given : List BuiltJob) (k : ℕ) (job : BuiltJob) → All (FitsLine held lines) given → slice_get given k ≡ Some job → FitsLine held lines job
fit_at held lines given k job all at = subst (FitsLine held lines) (get_or_from_slice_get given k job job at) (all k job (slice_get_within given k job at))

-- the line that something was found of
found_line : (held : Option Contents) (lines : List Line) (given : List BuiltJob) (f : FoundJob) → All (FitsLine held lines) given → IsFoundOf given (Some f)
    → (line : Line) × (slice_get lines f.number ≡ Some line) × LineComesTo held line (told_seen f.answer)
found_line held lines given f all of =
    let fit = fit_at held lines given of.0 of.1 all of.2 in (
      fit.0,
      subst (λ n. slice_get lines n ≡ Some fit.0) (sym of.3.0) fit.1,
      fit.2 (told_seen f.answer) of.3.1,
    )

-- what was found is put down
pub found_one : (held : Option Contents) (lines : List Line) (faults then : ℕ) (table : List Answer) (given : List BuiltJob) (f : FoundJob)
    → IsUnderWay held lines faults then (map told_seen table) given → IsFoundOf given (Some f) → IsUnderWay held lines faults then (map told_seen (set table f.number f.answer)) given
found_one held lines faults then table given f is of =
    let line = found_line held lines given f is.given_fit of in
    let none = searched_keeps of.1 (told_seen f.answer) of.3.1 in
    told_one held lines faults then then table given f.number line.0 f.answer is line.1 line.2 (omega arith)

-- each found number is that of a line
pub found_within : (held : Option Contents) (lines : List Line) (faults then : ℕ) (table : List Answer) (given : List BuiltJob) (all : List (Option FoundJob))
    → IsUnderWay held lines faults then (map told_seen table) given → AllZip IsFound given all → All (λ found. ForSome found (λ f. f.number < length table)) all
found_within held lines faults then table given all is zip = λ k d b f e.
    let of = subst (IsFoundOf given) e (found_all given all zip k d b) in
    let line = found_line held lines given f is.given_fit of in
    let below = slice_get_within lines f.number line.0 line.1 in
    let size = AllZip-long (LineComesTo held) lines (map told_seen table) is.done.each in
    let same = length-map table told_seen in omega arith
