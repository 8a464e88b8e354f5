-- Paths that were written are read as they were.
use Rattle.std.proofs.Common.{◌≡◌, ℕ, suc, ◌+◌, ◌^◌, ◌<◌, List, [], ◌∷◌, ◌++◌, length, map, arith, refl, ap, sym, ◌∙◌, true, not, Some, Ok, append_assoc, append-nil, option_map, bytes_eq}
use Rattle.sf_model.specs.declared.parts.Pin.{Pin}
use Rattle.sf_lex.specs.Results.{◌>>=◌}
use Rattle.sf_cert_text.proofs.Common.{codes, AllByRecursion, flat_map, list_all, decimal, decimal_nonempty, recursion_from_All, is_line_feed, is_blank_byte, has_none, words, and_parts, words-blank, words-last, words-written, numbered, Path, Paths, path_by, path_said, path_in, pin_before, step_by, step_in, with_step, steps_said, line_by, paths_read, axis_read, both_read, Block, Pad, plain_read, plain_written, Step, Three, all_lead, leads, names_pad, reach_pad, FitsAxis, FitsPath, FitsPaths, FitsStep, axis_lines, number_of, path_lines, path_text, step_text}
use Rattle.sf_cert_text.proofs.WrittenBack.{decimal-line, decimal-solid, line-append}
use Rattle.sf_cert_text.proofs.HeaderBack.{count-back}

-- ---- the line of a path

-- the words of steps
abbrev number_words : List Step → List (List ℕ)
number_words [] = []
number_words (s ∷ steps) = decimal s.net ∷ decimal (number_of s.to) ∷ number_words steps

-- a word, and steps behind it
word-steps : (word : List ℕ) (steps : List Step) → 0 < length word → has_none is_blank_byte word ≡ true → words is_blank_byte (flat_map step_text steps) ≡ number_words steps → words is_blank_byte (word ++ flat_map step_text steps) ≡ word ∷ number_words steps
word-steps word [] some solid e = ap (words is_blank_byte) (append-nil word) ∙ words-last is_blank_byte word some solid
word-steps word (s ∷ steps) some solid e =
    let rest = (decimal s.net ++ 32 ∷ decimal (number_of s.to)) ++ flat_map step_text steps in
    words-written is_blank_byte word rest 32 some solid refl ∙ ap (λ (ws : List (List ℕ)). word ∷ ws) (sym (words-blank is_blank_byte 32 rest refl) ∙ e)

-- the words of the text of steps
steps-words : (steps : List Step) → AllByRecursion FitsStep steps → words is_blank_byte (flat_map step_text steps) ≡ number_words steps
steps-words [] h = refl
steps-words (s ∷ steps) h =
    let net = decimal s.net in
    let to = decimal (number_of s.to) in
    let net_small : s.net < 2 ^ 64 = omega (arith, h.0.net) in
    let to_small : number_of s.to < 2 ^ 64 = omega (arith, h.0.to) in
    words-blank is_blank_byte 32 ((net ++ 32 ∷ to) ++ flat_map step_text steps) refl
    ∙ ap (words is_blank_byte) (append_assoc net (32 ∷ to) (flat_map step_text steps))
    ∙ words-written is_blank_byte net (to ++ flat_map step_text steps) 32 (decimal_nonempty s.net net_small) (decimal-solid s.net net_small) refl
    ∙ ap (λ (ws : List (List ℕ)). net ∷ ws) (word-steps to steps (decimal_nonempty (number_of s.to) to_small) (decimal-solid (number_of s.to) to_small) (steps-words steps h.1))

-- a pad is that of its number
pad-of : (p : Pin) → names_pad p ≡ true → Pad (number_of p) ≡ p
pad-of (Block b) h = absurd cc
pad-of (Pad n) h = refl

-- a pin that is none is the block of its number
block-of : (p : Pin) → not (names_pad p) ≡ true → Block (number_of p) ≡ p
block-of (Block b) h = refl
block-of (Pad n) h = absurd cc

-- the words of a step are read as the step, where its pin is the one that the words behind it ask for
step-back : (s : Step) (behind : List (List ℕ)) → FitsStep s → pin_before behind (number_of s.to) ≡ s.to → step_in (decimal s.net) (decimal (number_of s.to)) behind ≡ Some s
step-back s behind fits pin =
    ap (λ o. step_by o (option_map (pin_before behind) (plain_read 65535 (decimal (number_of s.to))))) (plain_written s.net 4294967295 (omega (arith, fits.net)) (omega (arith, fits.net)))
    ∙ ap (λ o. step_by (Some s.net) (option_map (pin_before behind) o)) (plain_written (number_of s.to) 65535 (omega (arith, fits.to)) (omega (arith, fits.to)))
    ∙ ap (λ p. step_by (Some s.net) (Some p)) pin

-- the words of steps are read as the steps
steps-back : (s : Step) (steps : List Step) → AllByRecursion FitsStep (s ∷ steps) → reach_pad (s ∷ steps) ≡ true → steps_said (number_words (s ∷ steps)) ≡ Some (s ∷ steps)
steps-back s [] h r = ap (λ o. with_step o (Some [])) (step-back s [] h.0 (pad-of s.to r))
steps-back s (t ∷ steps) h r =
    let both = and_parts (not (names_pad s.to)) (reach_pad (t ∷ steps)) r in
    ap (λ o. with_step o (steps_said (number_words (t ∷ steps)))) (step-back s (number_words (t ∷ steps)) h.0 (block-of s.to both.0))
    ∙ ap (with_step (Some s)) (steps-back t steps h.1 both.1)

-- the words of a path are read as the path
said-back : (first : Pin) (steps : List Step) → number_of first < 2 ^ 16 → AllByRecursion FitsStep steps → names_pad first ≡ true → reach_pad steps ≡ true → path_said (decimal (number_of first) ∷ number_words steps) ≡ Some (record { first = first; steps = steps })
said-back first [] small h pad r = absurd cc
said-back first (s ∷ steps) small h pad r =
    ap (λ o. path_by o (steps_said (number_words (s ∷ steps)))) (plain_written (number_of first) 65535 (omega (arith, small)) (omega (arith, small)))
    ∙ ap (path_by (Some (number_of first))) (steps-back s steps h r)
    ∙ ap (λ p. let path : Path = record { first = p; steps = s ∷ steps } in Some path) (pad-of first pad)

-- the line of a path is read as the path
path-back : (path : Path) → FitsPath path → leads path ≡ true → path_in (path_text path) ≡ Some path
path-back path fits lead =
    let both = and_parts (names_pad path.first) (reach_pad path.steps) lead in
    let small : number_of path.first < 2 ^ 64 = omega (arith, fits.first) in
    let steps = recursion_from_All FitsStep path.steps fits.steps in
    ap path_said (word-steps (decimal (number_of path.first)) path.steps (decimal_nonempty (number_of path.first) small) (decimal-solid (number_of path.first) small) (steps-words path.steps steps))
    ∙ said-back path.first path.steps fits.first steps both.0 both.1

-- the text of steps has no line feed
steps-line : (steps : List Step) → AllByRecursion FitsStep steps → has_none is_line_feed (flat_map step_text steps) ≡ true
steps-line [] h = refl
steps-line (s ∷ steps) h =
    let net = decimal s.net in
    let to = decimal (number_of s.to) in
    line-append (32 ∷ (net ++ 32 ∷ to)) (flat_map step_text steps)
    (line-append (32 ∷ []) (net ++ 32 ∷ to) refl (line-append net (32 ∷ to) (decimal-line s.net (omega (arith, h.0.net))) (line-append (32 ∷ []) to refl (decimal-line (number_of s.to) (omega (arith, h.0.to))))))
    (steps-line steps h.1)

-- nor has that of a path
path-line : (path : Path) → FitsPath path → has_none is_line_feed (path_text path) ≡ true
path-line path fits =
    line-append (decimal (number_of path.first)) (flat_map step_text path.steps) (decimal-line (number_of path.first) (omega (arith, fits.first))) (steps-line path.steps (recursion_from_All FitsStep path.steps fits.steps))

-- ---- the lines of an axis

-- no line of the paths has a line feed
paths-line : (paths : List Path) → AllByRecursion FitsPath paths → AllByRecursion (λ l. has_none is_line_feed l ≡ true) (map path_text paths)
paths-line [] h = tt
paths-line (path ∷ paths) h = (path-line path h.0, paths-line paths h.1)

-- lines one after another
pub lines-append : (first second : List (List ℕ)) → AllByRecursion (λ l. has_none is_line_feed l ≡ true) first → AllByRecursion (λ l. has_none is_line_feed l ≡ true) second → AllByRecursion (λ l. has_none is_line_feed l ≡ true) (first ++ second)
lines-append [] second h k = k
lines-append (l ∷ first) second h k = (h.0, lines-append first second h.1 k)

-- nor has one of an axis
axis-line : (label : List ℕ) (paths : List Path) → has_none is_line_feed label ≡ true → FitsAxis paths → AllByRecursion (λ l. has_none is_line_feed l ≡ true) (axis_lines label paths)
axis-line label paths h fits = (
  line-append label (32 ∷ decimal (length paths)) h (line-append (32 ∷ []) (decimal (length paths)) refl (decimal-line (length paths) fits.count)),
  paths-line paths (recursion_from_All FitsPath paths fits.each),
)

-- nor has one of both axes
pub both-line : (paths : Paths) → FitsPaths paths → AllByRecursion (λ l. has_none is_line_feed l ≡ true) (path_lines paths)
both-line paths fits = lines-append (axis_lines (codes "across") paths.across) (axis_lines (codes "upward") paths.upward) (axis-line (codes "across") paths.across refl fits.across) (axis-line (codes "upward") paths.upward refl fits.upward)

-- so many lines of paths are read as the paths
paths-back : (last k : ℕ) (paths : List Path) (more : List (List ℕ)) → AllByRecursion FitsPath paths → list_all leads paths ≡ true → paths_read last (length paths) (numbered k (map path_text paths ++ more)) ≡ Ok (paths, numbered (k + length paths) more)
unfolding paths_read
paths-back last k [] more h lead = let same : k ≡ k + 0 = omega arith in ap (λ j. Ok ([], numbered j more)) same
paths-back last k (path ∷ paths) more h lead =
    let both = and_parts (leads path) (list_all leads paths) lead in
    let same : k + 1 + length paths ≡ k + suc (length paths) = omega arith in
    let rest = numbered (k + 1) (map path_text paths ++ more) in
    ap (λ o. line_by k rest o >>= λ p. paths_read last (length paths) p.1 >>= λ others. Ok (p.0 ∷ others.0, others.1)) (path-back path h.0 both.0)
    ∙ ap (λ r. r >>= λ others. Ok (path ∷ others.0, others.1)) (paths-back last (k + 1) paths more h.1 both.1)
    ∙ ap (λ j. Ok (path ∷ paths, numbered j more)) same

-- the lines of an axis are read as its paths
axis-back : (last k : ℕ) (label : List ℕ) (paths : List Path) (more : List (List ℕ)) → bytes_eq label label ≡ true → 0 < length label → has_none is_blank_byte label ≡ true → FitsAxis paths → list_all leads paths ≡ true
    → axis_read last label (numbered k (axis_lines label paths ++ more)) ≡ Ok (paths, numbered (k + 1 + length paths) more)
axis-back last k label paths more e a b fits lead =
    ap (λ o. line_by k (numbered (k + 1) (map path_text paths ++ more)) o >>= λ count. paths_read last count.0 count.1) (count-back label (length paths) e a b fits.count)
    ∙ paths-back last (k + 1) paths more (recursion_from_All FitsPath paths fits.each) lead

-- how many lines both axes take
abbrev pub line_sum : Paths → ℕ
line_sum paths = 1 + length paths.across + (1 + length paths.upward)

-- the lines of both axes are read as the paths
pub both-back : (last k : ℕ) (paths : Paths) (more : List (List ℕ)) → FitsPaths paths → all_lead paths ≡ true → both_read Three last (numbered k (path_lines paths ++ more)) ≡ Ok (paths, numbered (k + line_sum paths) more)
both-back last k paths more fits lead =
    let both = and_parts (list_all leads paths.across) (list_all leads paths.upward) lead in
    let up = axis_lines (codes "upward") paths.upward ++ more in
    let same : k + 1 + length paths.across + 1 + length paths.upward ≡ k + line_sum paths = omega arith in
    ap (λ ls. both_read Three last (numbered k ls)) (append_assoc (axis_lines (codes "across") paths.across) (axis_lines (codes "upward") paths.upward) more)
    ∙ ap (λ r. r >>= λ across. axis_read last (codes "upward") across.1 >>= λ upward. Ok (record { across = across.0; upward = upward.0 }, upward.1)) (axis-back last k (codes "across") paths.across up refl (omega arith) refl fits.across both.0)
    ∙ ap (λ r. r >>= λ upward. Ok (record { across = paths.across; upward = upward.0 }, upward.1)) (axis-back last (k + 1 + length paths.across) (codes "upward") paths.upward more refl (omega arith) refl fits.upward both.1)
    ∙ ap (λ j. Ok (paths, numbered j more)) same
