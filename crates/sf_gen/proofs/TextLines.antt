-- The lines of a text that was written piece by piece.
use Rattle.std.proofs.Common.{◌≡◌, ℕ, ◌+◌, true, List, [], ◌∷◌, ◌++◌, refl, sym, ap, ◌∙◌, append_assoc}
use Rattle.sf_gen.proofs.Common.{AllByRecursion, AllZip, flat_map, append-nil, lines, is_line_feed, has_none, Line, numbered, first_word, Blanks, first_fails, content, content_of, is_content_word, each-append}

-- a text has these lines, and the last of them is ended
pub record IsLines (t : List ℕ) (ls : List (List ℕ)) : Type 0 where
  pub before : (rest : List ℕ) → lines (t ++ rest) ≡ ls ++ lines rest

-- the empty text has no lines
pub none : IsLines [] []
none = record { before = λ rest. refl }

-- a line feed in front of a text makes an empty line in front
pub ended : {t : List ℕ} {ls : List (List ℕ)} → IsLines t ls → IsLines (10 ∷ t) ([] ∷ ls)
ended h = record { before = λ rest. ap (λ l. [] ∷ l) (h.before rest) }

-- bytes without a line feed in front of a text go in front of its first line, whatever follows
piece_before : (ds t l rest : List ℕ) (ls : List (List ℕ)) → has_none is_line_feed ds ≡ true → lines (t ++ rest) ≡ (l ∷ ls) ++ lines rest → lines ((ds ++ t) ++ rest) ≡ ((ds ++ l) ∷ ls) ++ lines rest
piece_before [] t l rest ls n h = h
piece_before (d ∷ ds) t l rest ls n h =
    let f = first_fails is_line_feed d ds n in
    rw (f.0, piece_before ds t l rest ls f.1 h) refl

-- bytes in front of the first line
pub piece : (ds : List ℕ) {t l : List ℕ} {ls : List (List ℕ)} → has_none is_line_feed ds ≡ true → IsLines t (l ∷ ls) → IsLines (ds ++ t) ((ds ++ l) ∷ ls)
piece ds {t} {l} {ls} n h = record { before = λ rest. piece_before ds t l rest ls n (h.before rest) }

-- the lines of two texts together are those of the first and then those of the second
pub both : (t u : List ℕ) (ls ms : List (List ℕ)) → IsLines t ls → IsLines u ms → IsLines (t ++ u) (ls ++ ms)
both t u ls ms h k = record {
  before = λ rest. ap lines (append_assoc t u rest) ∙ h.before (u ++ rest) ∙ ap (λ v. ls ++ v) (k.before rest) ∙ sym (append_assoc ls ms (lines rest));
}

-- the lines of the whole text are these
pub whole : (t : List ℕ) (ls : List (List ℕ)) → IsLines t ls → lines t ≡ ls
whole t ls h = ap lines (sym (append-nil t)) ∙ h.before [] ∙ append-nil ls

-- ---- what the lines say

-- a text whose lines have content and say these things, each by itself
pub record Reads {S : Type 0} (Says : List ℕ → S → Type 0) (t : List ℕ) (said : List S) : Type 0 where
  pub bytes : List (List ℕ)
  pub are : IsLines t bytes
  pub filled : AllByRecursion (λ b. is_content_word (first_word Blanks b) ≡ true) bytes
  pub each : AllZip Says bytes said

module _ {S : Type 0} (Says : List ℕ → S → Type 0) where
  -- the empty text is read as nothing
  pub reads_none : Reads Says [] []
  reads_none = record { bytes = []; are = none; filled = tt; each = tt }

  -- a text of one line with content is read as what this says
  pub reads_line : (t b : List ℕ) (s : S) → IsLines t (b ∷ []) → is_content_word (first_word Blanks b) ≡ true → Says b s → Reads Says t (s ∷ [])
  reads_line t b s l f h = record { bytes = b ∷ []; are = l; filled = (f, tt); each = (h, tt) }

  -- lines that say their parts, and others that say theirs, say both together
  each_both : (xs ys : List (List ℕ)) (ss rs : List S) → AllZip Says xs ss → AllZip Says ys rs → AllZip Says (xs ++ ys) (ss ++ rs)
  each_both [] ys [] rs h k = k
  each_both [] ys (s ∷ ss) rs h k = absurd h
  each_both (x ∷ xs) ys [] rs h k = absurd h
  each_both (x ∷ xs) ys (s ∷ ss) rs h k = (h.0, each_both xs ys ss rs h.1 k)

  -- two texts together are read as what the first says and then what the second says
  pub reads_both : (t u : List ℕ) (ss rs : List S) → Reads Says t ss → Reads Says u rs → Reads Says (t ++ u) (ss ++ rs)
  reads_both t u ss rs h k = record {
    bytes = h.bytes ++ k.bytes;
    are = both t u h.bytes k.bytes h.are k.are;
    filled = each-append (λ b. is_content_word (first_word Blanks b) ≡ true) h.bytes k.bytes h.filled k.filled;
    each = each_both h.bytes k.bytes ss rs h.each k.each;
  }

  -- where the text of each element is read as its part, all of them together are read as all parts
  pub reads_each : {X : Type 0} (Fine : X → Type 0) (f : X → List ℕ) (g : X → List S) → ((x : X) → Fine x → Reads Says (f x) (g x)) → (xs : List X) → AllByRecursion Fine xs → Reads Says (flat_map f xs) (flat_map g xs)
  reads_each Fine f g h [] ok = reads_none
  reads_each Fine f g h (x ∷ xs) ok = reads_both (f x) (flat_map f xs) (g x) (flat_map g xs) (h x ok.0) (reads_each Fine f g h xs ok.1)

-- lines with content are all the content
pub all_content : (n : ℕ) (bs : List (List ℕ)) → AllByRecursion (λ b. is_content_word (first_word Blanks b) ≡ true) bs → content (numbered n bs) ≡ numbered n bs
all_content n [] h = refl
all_content n (b ∷ bs) h = rw h.0 (ap (λ (ls : List Line). record { number = n; bytes = b } ∷ ls) (all_content (n + 1) bs h.1))

-- a text with content in all its lines
pub content_is : (t title : List ℕ) (bs : List (List ℕ)) → IsLines t (title ∷ bs) → is_content_word (first_word Blanks title) ≡ true → AllByRecursion (λ b. is_content_word (first_word Blanks b) ≡ true) bs
    → content_of t ≡ record { number = 1; bytes = title } ∷ numbered 2 bs
content_is t title bs are f h = ap (λ (ls : List (List ℕ)). content (numbered 1 ls)) (whole t (title ∷ bs) are) ∙ all_content 1 (title ∷ bs) (f, h)

-- where each line says its part whatever its number, the numbered lines say their parts
pub each_numbered : {S : Type 0} (Says : Line → S → Type 0) (n : ℕ) (bs : List (List ℕ)) (said : List S)
    → AllZip (λ (b : List ℕ) s. (k : ℕ) → Says (record { number = k; bytes = b }) s) bs said → AllZip Says (numbered n bs) said
each_numbered Says n [] [] h = h
each_numbered Says n [] (s ∷ said) h = absurd h
each_numbered Says n (b ∷ bs) [] h = absurd h
each_numbered Says n (b ∷ bs) (s ∷ said) h = (h.0 n, each_numbered Says (n + 1) bs said h.1)
