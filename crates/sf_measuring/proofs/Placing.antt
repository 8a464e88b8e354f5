-- The lines of a placed file by name, and the spots of the blocks one after another.
use Rattle.std.proofs.Common.{◌≡◌, ℕ, suc, ◌+◌, ◌<◌, Bool, true, false, cond, List, [], ◌∷◌, ◌++◌, length, map, take, drop, get_or, Option, Some, None, Result, Ok, Err, refl, sym, ap, subst, ◌∙◌, add-one, arith, append_assoc, bytes_eq, option_map, All}
use Rattle.sf_measuring.proofs.Common.{is_some, range_with_len, All-nil, All-cons, All-append, All-more, All-weaker, HasNearCorner, map-append, get_or_default, Block, Spot, Place, ◌>>=◌, value_in, lines_named, spot_said, spots_said, Refusal, IsOnly, LinesAre, with_line, AreKept, AreIndexed, IsIndex, update, drop-cons, Lines, Without, One, More}
use Rattle.std.proofs.lemmas.List.FromFn.{map-range_with_len_more}
use Rattle.std.proofs.lemmas.Slice.Eq.{bytes_eq-Decides}

-- ---- the index, from the last line to the first

-- what is left from a place on begins with what stands there
cut : {X : Type 0} (xs : List X) (i : ℕ) (x : X) → i < length xs → x ≡ get_or xs i x → drop i xs ≡ x ∷ drop (i + 1) xs
cut {X} xs i x lt is = drop-cons xs i x lt ∙ ap (λ (q : X). q ∷ drop (suc i) xs) (sym is) ∙ ap (λ (n : ℕ). x ∷ drop n xs) (sym (add-one i))

-- a name's one line is the one of its number
only_here : (all : List Place) (i : ℕ) (p : Place) → i < length all → p ≡ get_or all i p → IsOnly all (p ∷ []) i
only_here all i p lt is = record { in_range = lt; only = λ d. ap (λ (q : Place). q ∷ []) (is ∙ get_or_default all i p d lt) }

-- a name's lines with one before them
more_lines : (all named : List Place) (i : ℕ) (p : Place) (known : Lines) → i < length all → p ≡ get_or all i p → LinesAre all named known
    → LinesAre all (p ∷ named) (with_line known i)
more_lines all named i p Without lt is h = subst (λ (rest : List Place). IsOnly all (p ∷ rest) i) (sym h) (only_here all i p lt is)
more_lines all named i p (One k) lt is h = (p, get_or all k p, [], ap (λ (rest : List Place). p ∷ rest) (h.only p))
more_lines all named i p More lt is h = (p, h.0, h.1 ∷ h.2, ap (λ (rest : List Place). p ∷ rest) h.3)

-- what is kept of a name, whether or not the line before its lines has that name
kept_before : (all named : List Place) (i : ℕ) (p : Place) (known : Option Lines) (same : Bool) → i < length all → p ≡ get_or all i p → AreKept all named known
    → AreKept all (cond same (p ∷ named) named) (cond same (option_map (λ k. with_line k i) known) known)
kept_before all named i p None true lt is h = tt
kept_before all named i p None false lt is h = tt
kept_before all named i p (Some known) true lt is h = more_lines all named i p known lt is h
kept_before all named i p (Some known) false lt is h = h

-- one line more, before the others, where each name's entry takes in whether the line has that name
lines_before : (all : List Place) (i j : ℕ) (p : Place) (m n : List (List ℕ × Lines)) → i < length all → j ≡ i + 1 → p ≡ get_or all i p
    → ((name : List ℕ) → value_in n name ≡ cond (bytes_eq p.name name) (option_map (λ k. with_line k i) (value_in m name)) (value_in m name))
    → AreIndexed m all (drop j all) → AreIndexed n all (drop i all)
lines_before all i j p m n lt next is now known name =
    let before : AreKept all (lines_named name (drop (i + 1) all)) (value_in m name) = subst (λ (k : ℕ). AreKept all (lines_named name (drop k all)) (value_in m name)) next (known name) in
    let step = kept_before all (lines_named name (drop (i + 1) all)) i p (value_in m name) (bytes_eq p.name name) lt is before in
    subst (λ (lines : List Place). AreKept all (lines_named name lines) (value_in n name)) (sym (cut all i p lt is))
    (subst (AreKept all (cond (bytes_eq p.name name) (p ∷ lines_named name (drop (i + 1) all)) (lines_named name (drop (i + 1) all)))) (sym (now name)) step)

-- the entry of a name in an index that took one line of this name in
entry_with : (name key : List ℕ) (i : ℕ) (known : Lines) (find : List ℕ → Option Lines) (same : Bool) → (same ≡ true → key ≡ name) → find key ≡ Some known
    → cond same (Some (with_line known i)) (find name) ≡ cond same (option_map (λ k. with_line k i) (find name)) (find name)
entry_with name key i known find true is found = ap (option_map (λ k. with_line k i)) (sym found ∙ ap find (is refl))
entry_with name key i known find false is found = refl

-- and of one without that name
entry_without : (name key : List ℕ) (i : ℕ) (find : List ℕ → Option Lines) (same : Bool) → (same ≡ true → key ≡ name) → find key ≡ None
    → find name ≡ cond same (option_map (λ k. with_line k i) (find name)) (find name)
entry_without name key i find true is found = rw (sym (ap find (is refl)), found) refl
entry_without name key i find false is found = refl

-- a name that has an entry has one after an update
still_known : (known : Bool) (said : Lines) (old : Option Lines) → is_some old ≡ true → is_some (cond known (Some said) old) ≡ true
still_known true said old some = refl
still_known false said old some = some

-- names that have an entry have one after an update
names_kept : (blocks : List Block) (key : List ℕ) (said : Lines) (m n : List (List ℕ × Lines)) → ((name : List ℕ) → value_in n name ≡ update bytes_eq (value_in m) key (Some said) name)
    → All (λ (block : Block). is_some (value_in m block.name) ≡ true) blocks → All (λ (block : Block). is_some (value_in n block.name) ≡ true) blocks
names_kept blocks key said m n updates known =
    All-weaker (λ (block : Block). is_some (value_in m block.name) ≡ true) (λ (block : Block). is_some (value_in n block.name) ≡ true)
    (λ block some. ap is_some (updates block.name) ∙ still_known (bytes_eq key block.name) said (value_in m block.name) some) blocks known

-- a line whose name the index has
pub indexed_before : (blocks : List Block) (all : List Place) (i j : ℕ) (p : Place) (key : List ℕ) (known : Lines) (m n : List (List ℕ × Lines)) → i < length all → j ≡ i + 1 → p ≡ get_or all i p → key ≡ p.name
    → Some known ≡ value_in m key → ((name : List ℕ) → value_in n name ≡ update bytes_eq (value_in m) key (Some (with_line known i)) name)
    → IsIndex m blocks all (drop j all) → IsIndex n blocks all (drop i all)
indexed_before blocks all i j p key known m n lt next is named found updates index = record {
  names = names_kept blocks key (with_line known i) m n updates index.names;
  kept = lines_before all i j p m n lt next is
      (λ name. updates name ∙ entry_with name key i known (value_in m) (bytes_eq key name) ((bytes_eq-Decides key name).0) (sym found)
      ∙ ap (λ (ns : List ℕ). cond (bytes_eq ns name) (option_map (λ k. with_line k i) (value_in m name)) (value_in m name)) named)
      index.kept;
}

-- a line whose name it doesn't have
pub passed_over : (blocks : List Block) (all : List Place) (i j : ℕ) (p : Place) (key : List ℕ) (m : List (List ℕ × Lines)) → i < length all → j ≡ i + 1 → p ≡ get_or all i p → key ≡ p.name
    → None ≡ value_in m key → IsIndex m blocks all (drop j all) → IsIndex m blocks all (drop i all)
passed_over blocks all i j p key m lt next is named found index = record {
  names = index.names;
  kept = lines_before all i j p m m lt next is
      (λ name. entry_without name key i (value_in m) (bytes_eq key name) ((bytes_eq-Decides key name).0) (sym found)
      ∙ ap (λ (ns : List ℕ). cond (bytes_eq ns name) (option_map (λ k. with_line k i) (value_in m name)) (value_in m name)) named)
      index.kept;
}

-- what is kept of a name is what an index says that has it
pub kept_is : (all : List Place) (index : List (List ℕ × Lines)) (name key : List ℕ) (found known : Option Lines) → found ≡ value_in index key → key ≡ name → AreIndexed index all all → found ≡ known
    → AreKept all (lines_named name all) known
kept_is all index name key found known at named indexed is =
    subst (AreKept all (lines_named name all)) (ap (value_in index) (sym named) ∙ sym at ∙ is) (indexed name)

-- ---- the names of the blocks, which have no line yet

-- names without a line
abbrev pub HasNoLine : List (List ℕ × Lines) → Type 0
HasNoLine index = (name : List ℕ) (known : Lines) → value_in index name ≡ Some known → known ≡ Without

-- an entry without a line leaves none of the name's entry
update_without : (same : Bool) (old : Option Lines) (known : Lines) → ((k : Lines) → old ≡ Some k → k ≡ Without) → cond same (Some Without) old ≡ Some known → known ≡ Without
update_without true old known before e = let is : Without ≡ known = cc in sym is
update_without false old known before e = before known e

-- one name more without a line
pub no_line_more : (m n : List (List ℕ × Lines)) (key : List ℕ) → ((name : List ℕ) → value_in n name ≡ update bytes_eq (value_in m) key (Some Without) name) → HasNoLine m → HasNoLine n
no_line_more m n key updates before name known e = update_without (bytes_eq key name) (value_in m name) known (before name) (sym (updates name) ∙ e)

-- one name more has an entry
pub one_name_more : (blocks : List Block) (i : ℕ) (block : Block) (key : List ℕ) (m n : List (List ℕ × Lines)) → i < length blocks → block ≡ get_or blocks i block → key ≡ block.name
    → ((name : List ℕ) → value_in n name ≡ update bytes_eq (value_in m) key (Some Without) name)
    → All (λ (block : Block). is_some (value_in m block.name) ≡ true) (take i blocks) → All (λ (block : Block). is_some (value_in n block.name) ≡ true) (take (i + 1) blocks)
one_name_more blocks i block key m n lt is named updates known =
    let here : is_some (value_in n block.name) ≡ true =
    ap is_some (updates block.name) ∙ ap (λ (same : Bool). is_some (cond same (Some Without) (value_in m block.name))) ((bytes_eq-Decides key block.name).1 named) in
    All-more (λ (block : Block). is_some (value_in n block.name) ≡ true) blocks i block lt
    (names_kept (take i blocks) key Without m n updates known)
    (subst (λ (b : Block). is_some (value_in n b.name) ≡ true) is here)

-- no line has the name of an entry without a line
kept_none : (all : List Place) (old : Option Lines) → ((k : Lines) → old ≡ Some k → k ≡ Without) → AreKept all [] old
kept_none all None before = tt
kept_none all (Some k) before = subst (LinesAre all []) (sym (before k refl)) refl

-- names without a line are right of no lines
pub none_indexed : (all : List Place) (index : List (List ℕ × Lines)) → HasNoLine index → AreIndexed index all []
none_indexed all index none name = kept_none all (value_in index name) (none name)

-- ---- spots, from the first block on

-- spots that are known, before others
abbrev pub after : List Spot → Result (List Spot) Refusal → Result (List Spot) Refusal
after known (Ok others) = Ok (known ++ others)
after known (Err why) = Err why

-- one spot known more is one fewer among the others
after_one : (known : List Spot) (spot : Spot) (others : Result (List Spot) Refusal) → after known (others >>= λ ss. Ok (spot ∷ ss)) ≡ after (known ++ spot ∷ []) others
after_one known spot (Ok ss) = ap (λ (v : List Spot). Ok v) (sym (append_assoc known (spot ∷ []) ss))
after_one known spot (Err why) = refl

-- the spot of the next block
pub one_spot_more : (blocks : List Block) (lines : List Place) (i : ℕ) (block : Block) (known new : List Spot) (spot : Spot) (r : Result (List Spot) Refusal) → i < length blocks → block ≡ get_or blocks i block
    → Ok spot ≡ spot_said i block.name (lines_named block.name lines) → new ≡ known ++ spot ∷ []
    → r ≡ after known (spots_said i (drop i blocks) lines) → r ≡ after new (spots_said (i + 1) (drop (i + 1) blocks) lines)
one_spot_more blocks lines i block known new spot r lt is said more before =
    let here : spots_said i (drop i blocks) lines ≡ (spots_said (i + 1) (drop (i + 1) blocks) lines >>= λ ss. Ok (spot ∷ ss)) =
    ap (λ (bs : List Block). spots_said i bs lines) (cut blocks i block lt is)
    ∙ ap (λ (s : Result Spot Refusal). s >>= λ (one : Spot). (spots_said (i + 1) (drop (i + 1) blocks) lines >>= λ (ss : List Spot). Ok (one ∷ ss))) (sym said) in
    before ∙ ap (after known) here ∙ after_one known spot (spots_said (i + 1) (drop (i + 1) blocks) lines) ∙ ap (λ (ss : List Spot). after ss (spots_said (i + 1) (drop (i + 1) blocks) lines)) (sym more)

-- numbers that are left as they are
map_same : (ns : List ℕ) → map (λ n. n) ns ≡ ns
map_same [] = refl
map_same (n ∷ ns) = ap (λ (ms : List ℕ). n ∷ ms) (map_same ns)

-- a range that is one longer has one number more at its end
range_more : (n : ℕ) → range_with_len 0 (n + 1) ≡ range_with_len 0 n ++ n ∷ []
range_more n = sym (map_same (range_with_len 0 (n + 1))) ∙ map-range_with_len_more (λ k. k) 0 n n (omega arith) ∙ ap (λ (ns : List ℕ). ns ++ n ∷ []) (map_same (range_with_len 0 n))

-- the spots stay by number
pub numbered_more : (known new : List Spot) (spot : Spot) (i : ℕ) → map (λ s. s.block) known ≡ range_with_len 0 i → spot.block ≡ i → new ≡ known ++ spot ∷ [] → map (λ s. s.block) new ≡ range_with_len 0 (i + 1)
numbered_more known new spot i before is more =
    ap (map (λ (s : Spot). s.block)) more ∙ map-append (λ (s : Spot). s.block) known (spot ∷ []) ∙ rw (before, is) (sym (range_more i))

-- and near
pub near_more : (known new : List Spot) (spot : Spot) → All HasNearCorner known → HasNearCorner spot → new ≡ known ++ spot ∷ [] → All HasNearCorner new
near_more known new spot before near more =
    subst (λ (ss : List Spot). All HasNearCorner ss) (sym more) (All-append HasNearCorner known (spot ∷ []) before (All-cons HasNearCorner spot [] near (All-nil HasNearCorner)))
