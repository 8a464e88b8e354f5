-- The text of the blocks is read again.
use Rattle.std.proofs.Common.{◌≡◌, ℕ, ◌+◌, ◌*◌, ◌<◌, ◌≤◌, ◌^◌, Bool, true, false, cond, List, [], ◌∷◌, ◌++◌, length, refl, sym, ap, subst, ◌∙◌, arith, append_assoc}
use Rattle.sf_gen.proofs.Common.{not, map, count_by, Option, None, Ok, codes, decimal, AllByRecursion, AllZip, cons_option, filter_map, flat_map, range_with_len, append-nil, filter_map-append, sum_by-cons, numbered, decimal_read, RawBlock, content_of, is_title, Said, CountIs, ItemIs, Entry, block_at, pad_at, is_soft_kind, counted_of, form_of, BlockIs, PadIs, counted_by, count_said, plain_said, Kinds, Size, raw_block, raw_blocks, pad_list, blocks_out, indexed, is_soft, block_name, hard_line, soft_line, block_line, block_lines, blocks_head, soft_count, hard_count}
use Rattle.sf_parts.specs.declared.raw.Kind.TheVariants as kind
use Rattle.sf_gsrc.specs.declared.count.Count.{Count}
use Rattle.sf_gsrc.specs.declared.keywords.Counted.{Counted}
use Rattle.sf_gsrc.specs.declared.keywords.Counted.TheVariants.{Soft, Hard, Terminals}
use Rattle.sf_gsrc.specs.Blocks as blocks
use Rattle.sf_gsrc.specs.Standing.{SaysBy, SaysEntry, counts_of, StandsOnce, StandsFor}
use Rattle.sf_gen.proofs.Counts.{all_blocks}
use Rattle.sf_gen.proofs.TextLines.{Reads, none, ended, piece, reads_none, reads_line, reads_both, content_is}
use Rattle.sf_gen.proofs.TextWords.{count_read, number_said}
use Rattle.sf_gen.proofs.BlockLines.{IsSmall, hard_block, hard_lines, hard_plain, hard_rest, no_count, name_filled, soft_block, soft_lines, soft_plain, soft_rest}

-- whatever its number, the line says this
abbrev SaysHere : List ℕ → Said → Type 0
SaysHere bytes said = (n : ℕ) → SaysBy 1 (record { number = n; bytes = bytes }) said (counted_by bytes)

-- ---- the lines of the blocks

-- what a line says that gives this block
abbrev said_block : RawBlock → Said
said_block b = ItemIs (BlockIs b)

-- a line without a count word that gives a block says this block, whatever its number
plain_says : (bytes : List ℕ) (b : RawBlock) → counted_by bytes ≡ None → plain_said 1 bytes ≡ Ok (BlockIs b) → SaysHere bytes (said_block b)
plain_says bytes b none says n = subst (λ o. SaysBy 1 (record { number = n; bytes = bytes }) (ItemIs (BlockIs b)) o) (sym none) (BlockIs b, says, refl)

module _ (i : ℕ) (s : Size) (h : i < 2 ^ 64) (f : IsSmall s) where
  -- the line of a block is read as this block, soft or hard
  by_kind : (b : Bool) → Reads SaysHere (cond b (soft_line i s) (hard_line i s))
      (said_block (record { name = block_name i; kind = cond b (kind.Soft (s.w * s.h) 500_000 2_000_000) (kind.Hard s.w s.h) }) ∷ [])
  by_kind true =
      reads_line SaysHere _ _ _ (soft_lines i s h f) (name_filled i h (soft_rest s)) (plain_says (block_name i ++ 32 ∷ soft_rest s) (soft_block i s) (no_count i h (soft_rest s)) (soft_plain i s h f))
  by_kind false =
      reads_line SaysHere _ _ _ (hard_lines i s h f) (name_filled i h (hard_rest s)) (plain_says (block_name i ++ 32 ∷ hard_rest s) (hard_block i s) (no_count i h (hard_rest s)) (hard_plain i s h f))

-- the lines of the blocks from number i on are read as these blocks
blocks_from : (kinds : Kinds) (i : ℕ) (sizes : List Size) → i + length sizes ≤ 1_000_000 → AllByRecursion IsSmall sizes
    → Reads SaysHere (flat_map (λ (line : List ℕ). line) (indexed (block_line kinds) i sizes)) (map said_block (indexed (raw_block kinds) i sizes))
blocks_from kinds i [] low ok = reads_none SaysHere
blocks_from kinds i (s ∷ sizes) low ok =
    reads_both SaysHere _ _ _ _ (by_kind i s (omega arith) ok.0 (is_soft kinds i)) (blocks_from kinds (i + 1) sizes (omega arith) ok.1)

-- ---- the lines of the pads

-- what a line says that gives a pad of this name
abbrev said_pad : List ℕ → Said
said_pad name = ItemIs (PadIs name)

-- the lines of the four pads
abbrev pad_lines : List ℕ
pad_lines = codes "p0 terminal\np1 terminal\np2 terminal\np3 terminal\n"

-- the lines of the four pads are read as these pads
pads_read : Reads SaysHere pad_lines (map said_pad pad_list)
unfolding counted_of form_of plain_said
pads_read = record {
  bytes = codes "p0 terminal" ∷ codes "p1 terminal" ∷ codes "p2 terminal" ∷ codes "p3 terminal" ∷ [];
  are = piece (codes "p0 terminal") refl (ended (piece (codes "p1 terminal") refl (ended (piece (codes "p2 terminal") refl (ended (piece (codes "p3 terminal") refl (ended none)))))));
  filled = (refl, (refl, (refl, (refl, tt))));
  each = (λ n. (PadIs (codes "p0"), refl, refl), (λ n. (PadIs (codes "p1"), refl, refl), (λ n. (PadIs (codes "p2"), refl, refl), (λ n. (PadIs (codes "p3"), refl, refl), tt))));
}

-- ---- the counts

-- the count of terminals is read as 4
pad_count_read : Reads SaysHere (codes "NumTerminals : 4\n") (CountIs Terminals 4 ∷ [])
unfolding counted_of count_said decimal_read
pad_count_read =
    reads_line SaysHere (codes "NumTerminals : 4\n") (codes "NumTerminals : 4") (CountIs Terminals 4)
    (piece (codes "NumTerminals : 4") refl (ended none)) refl (λ n. (4, refl, refl))

-- ---- entries

-- what the lines say, numbered from n on
abbrev entries : ℕ → List Said → List Entry
entries n [] = []
entries n (s ∷ said) = record { number = n; said = s } ∷ entries (n + 1) said

-- where each line says its part whatever its number, the numbered lines say the numbered entries
each_entry : (n : ℕ) (bs : List (List ℕ)) (said : List Said) → AllZip SaysHere bs said → AllZip (SaysEntry 1) (numbered n bs) (entries n said)
each_entry n [] [] h = h
each_entry n [] (s ∷ said) h = absurd h
each_entry n (b ∷ bs) [] h = absurd h
each_entry n (b ∷ bs) (s ∷ said) h = ((refl, h.0 n), each_entry (n + 1) bs said h.1)

-- what is found among the entries is what is found among what the lines say
found_of : {Y : Type 0} (h : Said → Option Y) (n : ℕ) (said : List Said) → filter_map (λ (e : Entry). h e.said) (entries n said) ≡ filter_map h said
found_of h n [] = refl
found_of h n (s ∷ said) = ap (cons_option (h s)) (found_of h (n + 1) said)

-- what is no count
abbrev IsItem : Said → Type 0
IsItem (CountIs k n) = ⊥
IsItem (ItemIs item) = Unit {0}

-- where no line says a count, there is no count of any kind
no_counts : (which : Counted) (n : ℕ) (said : List Said) → AllByRecursion IsItem said → counts_of which (entries n said) ≡ []
no_counts which n [] ok = refl
no_counts which n (CountIs k m ∷ said) ok = absurd ok.0
no_counts which n (ItemIs item ∷ said) ok = no_counts which (n + 1) said ok.1

-- items put before items are items
all_items : {X : Type 0} (f : X → Said) → ((x : X) → IsItem (f x)) → (xs : List X) (more : List Said) → AllByRecursion IsItem more → AllByRecursion IsItem (map f xs ++ more)
all_items f h [] more ok = ok
all_items f h (x ∷ xs) more ok = (h x, all_items f h xs more ok)

-- the blocks among lines that all give blocks are these blocks
blocks_kept : (bs : List RawBlock) → filter_map block_at (map said_block bs) ≡ bs
blocks_kept [] = refl
blocks_kept (b ∷ bs) = ap (λ l. b ∷ l) (blocks_kept bs)

-- lines that all give blocks give no pad
no_pads : (bs : List RawBlock) → filter_map pad_at (map said_block bs) ≡ []
no_pads [] = refl
no_pads (b ∷ bs) = no_pads bs

-- ---- how many are soft

-- a block of a generated design is soft exactly when its number says so
softness : (kinds : Kinds) (i : ℕ) (s : Size) → blocks.is_soft (raw_block kinds i s) ≡ is_soft kinds i
softness kinds i s = elim (is_soft kinds i) as (λ b. is_soft_kind (cond b (kind.Soft (s.w * s.h) 500_000 2_000_000) (kind.Hard s.w s.h)) ≡ b) [ true ↦ refl | false ↦ refl ]

-- as many blocks pass a test of their softness as of their numbers do
count_from : (p : Bool → Bool) (kinds : Kinds) (i : ℕ) (sizes : List Size)
    → count_by (λ b. p (blocks.is_soft b)) (indexed (raw_block kinds) i sizes) ≡ count_by (λ j. p (is_soft kinds j)) (range_with_len i (length sizes))
count_from p kinds i [] = refl
count_from p kinds i (s ∷ sizes) =
    sum_by-cons (λ b. cond (p (blocks.is_soft b)) 1 0) (raw_block kinds i s) (indexed (raw_block kinds) (i + 1) sizes)
    ∙ ap (λ b. cond (p b) 1 0 + count_by (λ b. p (blocks.is_soft b)) (indexed (raw_block kinds) (i + 1) sizes)) (softness kinds i s)
    ∙ ap (λ k. cond (p (is_soft kinds i)) 1 0 + k) (count_from p kinds (i + 1) sizes)
    ∙ sym (sum_by-cons (λ j. cond (p (is_soft kinds j)) 1 0) i (range_with_len (i + 1) (length sizes)))

-- ---- the whole text

module _ (kinds : Kinds) (sizes : List Size) (few : length sizes ≤ 1000) (ok : AllByRecursion IsSmall sizes) where
  -- what the lines behind the counts say: the blocks, and then the pads
  abbrev items : List Said
  items = map said_block (raw_blocks kinds sizes) ++ map said_pad pad_list

  -- what the lines behind the title say: the three counts, the blocks and the pads
  abbrev said_of : List Said
  said_of = CountIs Soft (soft_count kinds (length sizes)) ∷ CountIs Hard (hard_count kinds (length sizes)) ∷ CountIs Terminals 4 ∷ items

  -- the text behind the title, line by line
  abbrev behind_title : List ℕ
  behind_title =
      (codes "NumSoftRectangularBlocks : " ++ (decimal (soft_count kinds (length sizes)) ++ codes "\n"))
      ++ ((codes "NumHardRectilinearBlocks : " ++ (decimal (hard_count kinds (length sizes)) ++ codes "\n"))
      ++ (codes "NumTerminals : 4\n" ++ (block_lines kinds sizes ++ pad_lines)))

  -- the title and what stands behind it are the text of the blocks
  shape : codes "UCSC blocks 1.0\n" ++ behind_title ≡ blocks_head kinds (length sizes) ++ (block_lines kinds sizes ++ pad_lines)
  shape = simp append_assoc refl

  -- the text behind the title is read as the counts, the blocks and the pads
  all_read : Reads SaysHere behind_title said_of
  unfolding counted_of
  all_read =
      let soft = soft_count kinds (length sizes) in
      let hard = hard_count kinds (length sizes) in
      let low : soft ≤ 9_000_000_000_000_000 = omega (arith, all_blocks kinds (length sizes), few) in
      let high : hard ≤ 9_000_000_000_000_000 = omega (arith, all_blocks kinds (length sizes), few) in
      reads_both SaysHere _ _ _ _
      (count_read SaysHere soft low (codes "NumSoftRectangularBlocks : ") (CountIs Soft soft) refl refl (λ n. (soft, number_said (codes "NumSoftRectangularBlocks") soft low, refl)))
      (reads_both SaysHere _ _ _ _
      (count_read SaysHere hard high (codes "NumHardRectilinearBlocks : ") (CountIs Hard hard) refl refl (λ n. (hard, number_said (codes "NumHardRectilinearBlocks") hard high, refl)))
      (reads_both SaysHere _ _ _ _ pad_count_read (reads_both SaysHere _ _ _ _ (blocks_from kinds 0 sizes (omega (arith, few)) ok) pads_read)))

  -- behind the counts no line says a count
  are_items : AllByRecursion IsItem items
  are_items = all_items said_block (λ b. tt) (raw_blocks kinds sizes) (map said_pad pad_list) (tt, (tt, (tt, (tt, tt))))

  -- the blocks among these lines are the design's
  blocks_are : filter_map block_at items ≡ raw_blocks kinds sizes
  blocks_are =
      filter_map-append block_at (map said_block (raw_blocks kinds sizes)) (map said_pad pad_list)
      ∙ append-nil (filter_map block_at (map said_block (raw_blocks kinds sizes))) ∙ blocks_kept (raw_blocks kinds sizes)

  -- the pads among these lines are the four pads
  pads_are : filter_map pad_at items ≡ pad_list
  pads_are =
      filter_map-append pad_at (map said_block (raw_blocks kinds sizes)) (map said_pad pad_list)
      ∙ ap (λ l. l ++ pad_list) (no_pads (raw_blocks kinds sizes))

  -- a count that was said on a line
  abbrev count : ℕ → ℕ → Count
  count line said = record { line = line; said = said }

  -- the count of soft blocks stands once, and agrees with the blocks
  softs : StandsOnce Soft (entries 2 said_of) (count_by blocks.is_soft (raw_blocks kinds sizes))
  softs = record {
    line = 2;
    once = ap (λ l. count 2 (soft_count kinds (length sizes)) ∷ l) (no_counts Soft 5 items are_items) ∙ ap (λ k. count 2 k ∷ []) (sym (count_from (λ b. b) kinds 0 sizes));
  }

  -- the count of hard blocks stands once, and agrees with the blocks
  hards : StandsOnce Hard (entries 2 said_of) (count_by (λ b. not (blocks.is_soft b)) (raw_blocks kinds sizes))
  hards = record {
    line = 3;
    once = ap (λ l. count 3 (hard_count kinds (length sizes)) ∷ l) (no_counts Hard 5 items are_items) ∙ ap (λ k. count 3 k ∷ []) (sym (count_from not kinds 0 sizes));
  }

  -- the count of terminals stands once, and is 4
  pads : StandsOnce Terminals (entries 2 said_of) 4
  pads = record { line = 4; once = ap (λ l. count 4 4 ∷ l) (no_counts Terminals 5 items are_items) }

  -- the text of the blocks stands for the blocks and the pads
  pub blocks_stand : StandsFor 1 (blocks_head kinds (length sizes) ++ (block_lines kinds sizes ++ codes "p0 terminal\np1 terminal\np2 terminal\np3 terminal\n")) (blocks_out kinds sizes)
  unfolding is_title
  blocks_stand =
      let title : List ℕ = codes "UCSC blocks 1.0" in
      record {
        title = record { number = 1; bytes = title };
        others = numbered 2 all_read.bytes;
        entries = entries 2 said_of;
        lines_are = ap content_of (sym shape) ∙ content_is (codes "UCSC blocks 1.0\n" ++ behind_title) title all_read.bytes (piece title refl (ended all_read.are)) refl all_read.filled;
        titled = refl;
        each = each_entry 2 all_read.bytes said_of all_read.each;
        soft = softs;
        hard = hards;
        terminals = pads;
        blocks = sym (found_of block_at 2 said_of ∙ blocks_are);
        pads = sym (found_of pad_at 2 said_of ∙ pads_are);
      }
