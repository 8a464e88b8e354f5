-- The answer of the batch program.
use Rattle.std.proofs.Common.{◌≡◌, ◌∙◌, inl, inr, ℕ, List, [], ◌∷◌, Err, Option, refl, sym, subst, arith}
use Rattle.sf_batch.proofs.Common.{AllZip, Contents, Rose, ShelfSeen, Status, WriteFault, Line, Text, words_of_job, Told, batch_status, is_search_end, IsAnswer, IsCounted, Stops, Stop, Refused, ReadFault, NoMemory, LineComesTo, told_of, BatchAnswers, JobsRead}
use Rattle.std.proofs.lemmas.Bool.{cases_Bool}
use Rattle.sf_io.specs.declared.status.Status.TheVariants as status
use Rattle.sf_jobs.specs.Team.{TeamOptions, TeamSays}
use Rattle.sf_program.proofs.Statuses.{answer-status}
use Rattle.sf_batch.proofs.Counts.{counted_some}

-- a jobs file that is refused or can't be loaded
pub answered_stop : (words : List Text) (o : TeamOptions) (shelf shelf_then : ShelfSeen) (stop : Stop) → TeamSays words o → Stops stop (λ why. JobsRead shelf.holds o.jobs (Err why))
    → IsCounted shelf.load_faults shelf_then.load_faults stop → BatchAnswers words shelf shelf_then (told_of stop).status (told_of stop).text
answered_stop words o shelf shelf_then (Refused s text) says why counted = inr (inl (o, says, inr (inl why)))
answered_stop words o shelf shelf_then ReadFault says why counted = inr (inl (o, says, inr (inr (record { loses = why; status_is = refl; silent = refl; counted = counted }))))
answered_stop words o shelf shelf_then NoMemory says why counted = inr (inr (refl, refl))

-- no job ends with a failed print
no_write_one : (held : Option Contents) (line : Line) (told : Told) → LineComesTo held line told → told.status ≡ WriteFault → ⊥
no_write_one held line told comes e = elim comes.2 [
  | inl tells ↦
      let a = tells (97 ∷ []) (λ n. absurd (grind arith)) in
      subst IsAnswer e (answer-status (words_of_job comes.0 (97 ∷ [])) held told.status a.0 told.text a.1)
  | inr rest ↦ elim rest [ inl lost ↦ (let h = lost.status_is in cc) | inr lacks ↦ (let h = lacks.0 in cc) ]
]

-- nor do all together
no_write_all : (held : Option Contents) (lines : List Line) (all : List Told) → AllZip (LineComesTo held) lines all → batch_status all ≡ WriteFault → ⊥
no_write_all held [] [] each e = cc
no_write_all held [] (t ∷ ts) each e = absurd each
no_write_all held (l ∷ ls) [] each e = absurd each
no_write_all held (l ∷ ls) (t ∷ ts) each e = elim (cases_Bool (is_search_end t.status)) [
  | inl b ↦ no_write_all held ls ts each.1 (rw b at e)
  | inr b ↦ no_write_one held l t each.0 (rw b at e)
]

-- an answer is no failed print
pub no_write : (words : List Text) (shelf shelf_then : ShelfSeen) (s : Status) (printed : List ℕ) → BatchAnswers words shelf shelf_then s printed → s ≡ WriteFault → ⊥
no_write words shelf shelf_then s printed answer e = elim answer [
  | inl u ↦ (let h = u.1 in cc)
  | inr rest ↦ elim rest [
    | inl file ↦ elim file.2 [
      | inl batch ↦ no_write_all shelf.holds _ batch.2.all batch.2.each (sym batch.2.status_is ∙ e)
      | inr other ↦ elim other [
        | inl refused ↦ elim refused.0 [ inl b ↦ cc | inr b ↦ cc ]
        | inr lost ↦ (let h = lost.status_is in cc)
      ]
    ]
    | inr lacks ↦ (let h = lacks.0 in cc)
  ]
]

-- a failed load is answered only where one is counted
pub lost_counted : (words : List Text) (shelf shelf_then : ShelfSeen) (s : Status) (printed : List ℕ) → BatchAnswers words shelf shelf_then s printed → s ≡ status.ReadFault
    → Rose shelf.load_faults shelf_then.load_faults
lost_counted words shelf shelf_then s printed answer e = elim answer [
  | inl u ↦ absurd (let h = u.1 in cc)
  | inr rest ↦ elim rest [
    | inl file ↦ elim file.2 [
      | inl batch ↦ counted_some shelf.load_faults shelf_then.load_faults batch.2.all (sym batch.2.status_is ∙ e) batch.2.counted
      | inr other ↦ elim other [
        | inl refused ↦ elim refused.0 [ inl b ↦ absurd (cc) | inr b ↦ absurd (cc) ]
        | inr lost ↦ lost.counted
      ]
    ]
    | inr lacks ↦ absurd (let h = lacks.0 in cc)
  ]
]
