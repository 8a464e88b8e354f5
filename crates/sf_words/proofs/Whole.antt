-- The whole command line.
use Rattle.std.proofs.Common.{◌≡◌, Bool, true, false, ◌&&◌, List, [], ◌∷◌, ◌++◌, Option, Some, map, fold, is_some, refl, sym, ap, ◌∙◌, append_assoc}
use Rattle.sf_words.proofs.Common.{and_from, append-nil, Rule, Row, Shape, is_simple, subcommand_of, takes, built, names_of, entered, rows_at, argument_words, Walk, Held, Names, stop_after, walked, walk, walk_from, nothing_held, idle, finished, rows_after, with_default, walk_passes, settle_passes, turn_passes, entered_passes, level_passes, default_passes, is_valid, built_takes, Mode, Plan, modes, mode_text, key_text, is_flag, keys_of, Token, words_of, AreOptions, HasForm, floorplan, full, rows_for, list_all, clap_on_literals}
use Rattle.clap.specs.Words.{Text}
use Rattle.sf_words.proofs.Steps.{leaf}
use Rattle.sf_words.proofs.Walks.{absent_at_first, walked_all, Walked}

-- the walk has stopped at a subcommand
abbrev pub stopped_at : Text → List Text → Walk
stopped_at name words = record { held = nothing_held; waiting = idle; position = 1; is_trailing = false; stopped = Some (name, words) }

-- the command line itself, built
abbrev pub top : Shape
top = (built floorplan).top

-- the names by which the built command line knows its commands
abbrev pub names : Names
names = names_of (built floorplan)

-- a command with its options, built
abbrev pub leaf_of : Mode → Shape
leaf_of m = leaf (mode_text m) (keys_of m)

-- How the built command line knows a command: its word stops the walk there and passes at the top; what is entered are the
-- command's rows, and passes where its own words do; its defaults pass; and whatever the rows, it lacks nothing.
record IsKnown (m : Mode) : Type 0 where
  word : walked top.rules names (walk_from nothing_held) (mode_text m) ≡ stopped_at (mode_text m) []
  turn : turn_passes top names (walk_from nothing_held) (mode_text m) ≡ true
  enters : (words : List Text) → entered (built floorplan) (Some (mode_text m, words)) ≡ Some (rows_at (leaf_of m) words)
  passes : (words : List Text) → entered_passes (built floorplan) (Some (mode_text m, words)) ≡ level_passes (leaf_of m) [] nothing_held words false
  defaults : list_all default_passes (leaf_of m).rules ≡ true
  valid : (rows : List Row) → is_valid (leaf_of m) rows false ≡ true

-- it knows each command so, by the same clause for each
known : (m : Mode) → IsKnown m
unfolding clap_on_literals floorplan modes mode_text key_text is_flag keys_of
known Plan = record { word = refl; turn = refl; enters = λ words. refl; passes = λ words. refl; defaults = refl; valid = λ rows. refl }
known m = record { word = refl; turn = refl; enters = λ words. refl; passes = λ words. refl; defaults = refl; valid = λ rows. refl }

-- the command line is one of those whose matches clap's contract tells
pub simple : is_simple floorplan ≡ true
unfolding clap_on_literals floorplan modes mode_text key_text is_flag keys_of
simple = refl

-- a walk that has stopped keeps all further words
stopped_walk : (c : List Rule) (ns : Names) (n : Text) (p words : List Text) → fold (walked c ns) (stopped_at n p) words ≡ stopped_at n (p ++ words)
unfolding walked
stopped_walk c ns n p [] = ap (stopped_at n) (sym (append-nil p))
stopped_walk c ns n p (w ∷ words) = stopped_walk c ns n (p ++ w ∷ []) words ∙ ap (stopped_at n) (append_assoc p (w ∷ []) words)

-- a walk that has stopped passes with all further words
stopped_passes : (s : Shape) (ns : Names) (n : Text) (p words : List Text) → walk_passes s ns (stopped_at n p) words ≡ true
unfolding walked walk_passes
stopped_passes s ns n p [] = refl
stopped_passes s ns n p (w ∷ words) = stopped_passes s ns n (p ++ w ∷ []) words

-- the walk over a command's word and others stops at the command and keeps the others
top_walk : (m : Mode) (words : List Text) → walk top.rules names nothing_held (mode_text m ∷ words) ≡ stopped_at (mode_text m) words
top_walk m words = ap (λ (w : Walk). fold (walked top.rules names) w words) (known m).word ∙ stopped_walk top.rules names (mode_text m) [] words

-- at the top nothing is left to settle, the defaults pass, and nothing that is required is missing
top_ok : settle_passes top.rules top.args_override_self nothing_held && (list_all default_passes top.rules && is_valid top (finished top.rules nothing_held) true) ≡ true
unfolding clap_on_literals floorplan modes mode_text key_text is_flag keys_of
top_ok = refl

-- at the top a command's word and all further words pass
top_level : (m : Mode) (words : List Text) → level_passes top names nothing_held (mode_text m ∷ words) true ≡ true
unfolding walk_passes
top_level m words =
    let first : walk_passes top names (walk_from nothing_held) (mode_text m ∷ words) ≡ true =
    and_from _ _ (known m).turn (ap (λ (w : Walk). walk_passes top names w words) (known m).word ∙ stopped_passes top names (mode_text m) [] words) in
    let rest : Held → Bool = λ end. settle_passes top.rules top.args_override_self end && (list_all default_passes top.rules && is_valid top (finished top.rules end) true) in
    and_from _ _ first (ap rest (ap (λ (w : Walk). w.held) (top_walk m words)) ∙ top_ok)

-- all words are arguments: the program's name is not among them
pub arguments : (words : List Text) → argument_words floorplan words ≡ words
unfolding floorplan modes
arguments words = refl

-- the walk over the options
abbrev pub walked_options : (m : Mode) (ts : List Token) → AreOptions m ts → Walked (mode_text m) (keys_of m) ts nothing_held
walked_options m ts options = walked_all (mode_text m) m ts nothing_held options (absent_at_first ts) refl

-- the words of a command's options pass in the command
leaf_level : (m : Mode) (ts : List Token) → AreOptions m ts → level_passes (leaf_of m) [] nothing_held (words_of ts) false ≡ true
leaf_level m ts options =
    let w = walked_options m ts options in
    rw (w.passes, w.walks, w.settles, (known m).defaults) ((known m).valid _)

-- the word of a command stops the walk there, with the words behind it
top_stop : (m : Mode) (words : List Text) → stop_after top.rules names (mode_text m ∷ words) ≡ Some (mode_text m, words)
top_stop m words = ap (λ (w : Walk). w.stopped) (top_walk m words)

-- the built command line takes the words of a command and its options
built_takes_all : (m : Mode) (ts : List Token) → AreOptions m ts → built_takes (built floorplan) nothing_held (mode_text m ∷ words_of ts) ≡ true
built_takes_all m ts options =
    let words = words_of ts in
    let all : Option (Text × List Text) → Bool = λ stop. entered_passes (built floorplan) stop && level_passes top names nothing_held (mode_text m ∷ words) (is_some (entered (built floorplan) stop)) in
    let level : Option (Text × List Row) → Bool = λ o. level_passes top names nothing_held (mode_text m ∷ words) (is_some o) in
    ap all (top_stop m words) ∙ and_from _ _ ((known m).passes words ∙ leaf_level m ts options) (ap level ((known m).enters words) ∙ top_level m words)

-- clap takes the words of a command and its options
pub taken : (words : List Text) (m : Mode) (ts : List Token) → HasForm words m ts → takes floorplan words ≡ true
taken words m ts form =
    and_from _ _ simple (ap (built_takes (built floorplan) nothing_held) (arguments words ∙ form.words_are) ∙ built_takes_all m ts form.options)

-- what clap finds
pub found : (words : List Text) (m : Mode) (ts : List Token) → HasForm words m ts → subcommand_of floorplan words ≡ Some (mode_text m, rows_for m ts)
found words m ts form =
    let w = walked_options m ts form.options in
    let ends : Walk → List Row = λ v. finished (map full (keys_of m)) v.held in
    let rows : rows_after (map full (keys_of m)) [] (words_of ts) ≡ rows_for m ts =
    ap ends w.walks ∙ ap (λ (r : List Row). fold with_default r (map full (keys_of m))) w.rows in
    ap (λ (ws : List Text). entered (built floorplan) (stop_after top.rules names ws)) (arguments words ∙ form.words_are)
    ∙ (ap (entered (built floorplan)) (top_stop m (words_of ts)) ∙ ((known m).enters (words_of ts) ∙ ap (λ (r : List Row). Some (mode_text m, r)) rows))
