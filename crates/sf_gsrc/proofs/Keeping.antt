-- One entry more.
use Rattle.std.proofs.Common.{◌≡◌, ℕ, false, List, [], ◌∷◌, ◌++◌, Option, Some, None, Result, Err, if◌then◌else◌, refl, sym, ap, ◌∙◌}
use Rattle.sf_gsrc.proofs.Common.{is_some, cons_option, append-nil, filter_map-append, Line, words, RawBlock, GsrcFault, LineFault, Colons, Counted, Count, is_gap, BlockIs, PadIs, count_said, Entry, CountIs, ItemIs, or_else, count_at, count_in, block_at, pad_at, count_after, entry_at, fault_at, Fails, BadLine, BadNumber, ZeroSide, IsFound, count_kept, with_count}
use Rattle.sf_gsrc.specs.declared.fault.GsrcFault.TheVariants as faults
use Rattle.sf_gsrc.specs.declared.keywords.Counted.TheVariants as counts
use Rattle.sf_gsrc.specs.declared.found.Found.{Found}
use Rattle.sf_gsrc.proofs.Results.{none_of, or_else-None}

-- the first that is there of three, however they are grouped
or_else_assoc : {X : Type 0} (a b c : Option X) → or_else a (or_else b c) ≡ or_else (or_else a b) c
or_else_assoc None b c = refl
or_else_assoc (Some x) b c = refl

-- of entries and one more, the count is that of the entries, or else that of the last one
count_in-push : (which : Counted) (es : List Entry) (e : Entry) → count_in which (es ++ e ∷ []) ≡ or_else (count_in which es) (count_at which e.number e.said)
count_in-push which [] e = or_else-None (count_at which e.number e.said)
count_in-push which (d ∷ es) e = ap (or_else (count_at which d.number d.said)) (count_in-push which es e) ∙ or_else_assoc (count_at which d.number d.said) (count_in which es) (count_at which e.number e.said)

-- what is kept of a count is what the entries say
pub count_is_kept : (which : Counted) (found : Found) (es : List Entry) → IsFound found es → count_kept found which ≡ count_in which es
count_is_kept counts.Soft found es is = is.soft
count_is_kept counts.Hard found es is = is.hard
count_is_kept counts.Terminals found es is = is.terminals

-- what was kept with what one entry more says is what all of them say
pushed : (found new : Found) (es : List Entry) (e : Entry) → IsFound found es
    → new.soft ≡ or_else found.soft (count_at counts.Soft e.number e.said)
    → new.hard ≡ or_else found.hard (count_at counts.Hard e.number e.said)
    → new.terminals ≡ or_else found.terminals (count_at counts.Terminals e.number e.said)
    → new.blocks.items ≡ found.blocks.items ++ cons_option (block_at e.said) []
    → new.pads.items ≡ found.pads.items ++ cons_option (pad_at e.said) []
    → IsFound new (es ++ e ∷ [])
pushed found new es e is s h t b p = record {
  soft = s ∙ ap (λ (o : Option Count). or_else o (count_at counts.Soft e.number e.said)) is.soft ∙ sym (count_in-push counts.Soft es e);
  hard = h ∙ ap (λ (o : Option Count). or_else o (count_at counts.Hard e.number e.said)) is.hard ∙ sym (count_in-push counts.Hard es e);
  terminals = t ∙ ap (λ (o : Option Count). or_else o (count_at counts.Terminals e.number e.said)) is.terminals ∙ sym (count_in-push counts.Terminals es e);
  blocks = b ∙ ap (λ (bs : List RawBlock). bs ++ cons_option (block_at e.said) []) is.blocks ∙ sym (filter_map-append (λ (e : Entry). block_at e.said) es (e ∷ []));
  pads = p ∙ ap (λ (ns : List (List ℕ)). ns ++ cons_option (pad_at e.said) []) is.pads ∙ sym (filter_map-append (λ (e : Entry). pad_at e.said) es (e ∷ []));
}

-- where nothing is kept, what comes is kept
first_kept : {X : Type 0} (o : Option X) (x : X) → is_some o ≡ false → Some x ≡ or_else o (Some x)
first_kept o x none = rw (none_of o none) refl

-- a count that is new is kept
pub keeps_count : (which : Counted) (found : Found) (es : List Entry) (n said : ℕ) → IsFound found es → is_some (count_kept found which) ≡ false
    → IsFound (with_count found which (record { line = n; said = said })) (es ++ record { number = n; said = CountIs which said } ∷ [])
keeps_count counts.Soft found es n said is new =
    pushed found _ es _ is (first_kept found.soft _ new) (sym (or_else-None found.hard)) (sym (or_else-None found.terminals)) (sym (append-nil found.blocks.items)) (sym (append-nil found.pads.items))
keeps_count counts.Hard found es n said is new =
    pushed found _ es _ is (sym (or_else-None found.soft)) (first_kept found.hard _ new) (sym (or_else-None found.terminals)) (sym (append-nil found.blocks.items)) (sym (append-nil found.pads.items))
keeps_count counts.Terminals found es n said is new =
    pushed found _ es _ is (sym (or_else-None found.soft)) (sym (or_else-None found.hard)) (first_kept found.terminals _ new) (sym (append-nil found.blocks.items)) (sym (append-nil found.pads.items))

-- a count line says its count, unless one of its kind was kept
pub count_line : (which : Counted) (found : Found) (es : List Entry) (line : Line) → IsFound found es
    → count_after which es line ≡ (if is_some (count_kept found which) then Err (faults.BadLine line.number) else entry_at line.number (CountIs which) (count_said (words (is_gap Colons) line.bytes)))
unfolding count_after
count_line which found es line is = rw (← count_is_kept which found es is) refl

-- a fault of a line is none of memory
pub Fails-at : {X : Type 0} (n : ℕ) (fault : LineFault) (read : Result X GsrcFault) → read ≡ Err (fault_at n fault) → Fails (fault_at n fault) read
Fails-at n BadLine read e = e
Fails-at n (BadNumber number) read e = e
Fails-at n ZeroSide read e = e

-- a block that is put behind the others is kept
pub keeps_block : (found new : Found) (es : List Entry) (n : ℕ) (block : RawBlock) → IsFound found es
    → new.soft ≡ found.soft → new.hard ≡ found.hard → new.terminals ≡ found.terminals → new.blocks.items ≡ found.blocks.items ++ block ∷ [] → new.pads.items ≡ found.pads.items
    → IsFound new (es ++ record { number = n; said = ItemIs (BlockIs block) } ∷ [])
keeps_block found new es n block is s h t b p =
    pushed found new es _ is (s ∙ sym (or_else-None found.soft)) (h ∙ sym (or_else-None found.hard)) (t ∙ sym (or_else-None found.terminals)) b (p ∙ sym (append-nil found.pads.items))

-- a pad that is put behind the others is kept
pub keeps_pad : (found new : Found) (es : List Entry) (n : ℕ) (name : List ℕ) → IsFound found es
    → new.soft ≡ found.soft → new.hard ≡ found.hard → new.terminals ≡ found.terminals → new.blocks.items ≡ found.blocks.items → new.pads.items ≡ found.pads.items ++ name ∷ []
    → IsFound new (es ++ record { number = n; said = ItemIs (PadIs name) } ∷ [])
keeps_pad found new es n name is s h t b p =
    pushed found new es _ is (s ∙ sym (or_else-None found.soft)) (h ∙ sym (or_else-None found.hard)) (t ∙ sym (or_else-None found.terminals)) (b ∙ sym (append-nil found.blocks.items)) p
