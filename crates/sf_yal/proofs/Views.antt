-- What the reader keeps is seen in the cut of what it has read.
use Rattle.std.proofs.Common.{◌≡◌, inl, inr, ℕ, suc, Bool, true, false, cond, List, [], ◌∷◌, ◌++◌, length, map, Option, Some, None, Result, Ok, Err, refl, sym, ap, subst, ◌∙◌, append_assoc, append-nil, ℤ, ◌||◌, ◌&&◌}
use Rattle.sf_yal.proofs.Common.{is_some, flat_map, fold, list_any, option_map, option_or, length-map, map-append, fold-append, cases_Bool, or_left, or_parts, or_right, true≢false, RawPad, has_name, YalFault, BoxSize, ◌>>=◌, length_read, number_in, dimensions_said, Instance, Worded, key, ListKind, Terminals, Network, Listing, Section, Single, Listed, Module, Item, Stray, Whole, Rest, Nothing, InModule, InList, Cut, closes, name_of, is_type_key, is_type, is_list, word_of, is_parent_type, is_parent, box_behind, section_box, box_in, box_of, in_section, in_module, if_parent, modules_in, closed, open_module, parent_place, in_rest, point_of, pad_at, pads_of, instance_at, instances_of, name_fault, type_fault, box_fault, point_fault, terminal_fault, instance_fault, outside_fault, body_fault, list_fault, fault_in, fault_at, Reading, module_begun, module_opened, module_said, type_taken, parent_taken, type_said, size_taken, box_said, list_opened, list_closed, module_closed, outside_said, in_body_said, pad_taken, placed_said, terminal_said, instance_said, in_terminals_said, in_network_said, said_in, after_words, Keyword}
use Rattle.std.proofs.lemmas.List.Folds.{list_any-append}
use Rattle.std.proofs.Math.Bool.{or-false}
use Rattle.sf_lex.specs.declared.number.NumberFault.{NumberFault}
use Rattle.sf_yal.specs.declared.keyword.Keyword.TheVariants as keys
use Rattle.sf_yal.specs.declared.open_module.OpenModule.{OpenModule}
use Rattle.sf_yal.specs.declared.open_module.Section.TheVariants as sections
use Rattle.sf_yal.specs.declared.open_module.Section as code
use Rattle.sf_yal.specs.Numbers.{has_form}
use Rattle.sf_yal.specs.Words.{is_parent_word}
use Rattle.sf_yal.specs.Modules.{with_pad}
use Rattle.sf_yal.proofs.SignalPins.{some_under}
use Rattle.sf_yal.proofs.Cuts.{flat_push, begun, with_section, listing, with_inside, step_outside, step_body, step_list, step_in, step}

-- ---- the view

-- the section in which the next statement stands
abbrev section_of : ListKind → code.Section
section_of Terminals = sections.Terminals
section_of Network = sections.Network

-- a module that is open, in this section of it
abbrev open_as : ℕ → Module → code.Section → Bool → OpenModule
open_as scale m section in_list = record { section = section; is_typed = list_any is_type m.sections; is_parent = is_parent m; has_list = in_list || list_any is_list m.sections; size = box_of scale m }

-- what is open
abbrev pub open_view : ℕ → Rest → Option OpenModule
open_view scale Nothing = None
open_view scale (InModule m) = Some (open_as scale m sections.Body false)
open_view scale (InList m l) = Some (open_as scale m (section_of l.kind) true)

-- the statements in the lists of closed modules
abbrev in_closed : ListKind → List Module → List Worded
in_closed kind ms = flat_map (λ m. if_parent m (in_module kind m)) ms

-- the pads of these terminals
abbrev pads_in : ℕ → List Worded → List RawPad
pads_in scale terminals = fold (with_pad scale) [] terminals

-- the instances of these statements
abbrev instances_in : List Worded → List Instance
instances_in all = flat_map (λ s. instance_at s s.more) all

-- what is kept, by its parts
abbrev shown : ℕ → Option OpenModule → List (List ℕ) → List (Option BoxSize) → Option ℕ → List RawPad → List Instance → Reading
shown scale current names sizes parent pads instances = record { current = current; names = names; sizes = sizes; parent = parent; pad_names = map (λ p. p.name) pads; pads = pads; instances = instances }

-- what is kept behind these closed modules and what is open
abbrev view_of : ℕ → List Module → Rest → Reading
view_of scale ms rest = shown scale (open_view scale rest) (map name_of (ms ++ open_module rest)) (map (box_of scale) ms) (parent_place (ms ++ open_module rest))
    (pads_in scale (in_closed Terminals ms ++ in_rest Terminals rest)) (instances_in (in_closed Network ms ++ in_rest Network rest))

-- what is kept behind a cut
abbrev pub view : ℕ → Cut → Reading
view scale c = view_of scale (closed c) c.rest

-- a fault, or what is kept
abbrev pub answer : Option YalFault → Reading → Result Reading YalFault
answer None r = Ok r
answer (Some fault) r = Err fault

-- ---- lists with one more

-- a module that is not the parent leaves the place of the parent
parent_more : (ms : List Module) (m : Module) → is_parent m ≡ false → parent_place (ms ++ m ∷ []) ≡ parent_place ms
parent_more [] m e = rw e refl
parent_more (x ∷ ms) m e = ap (λ (o : Option ℕ). cond (is_parent x) (Some 0) (option_map suc o)) (parent_more ms m e)

-- so does a module in place of another, if both are or are not the parent
parent_same : (ms : List Module) (m n : Module) → is_parent n ≡ is_parent m → parent_place (ms ++ n ∷ []) ≡ parent_place (ms ++ m ∷ [])
parent_same [] m n e = rw e refl
parent_same (x ∷ ms) m n e = ap (λ (o : Option ℕ). cond (is_parent x) (Some 0) (option_map suc o)) (parent_same ms m n e)

-- where there is no parent yet, the last module is the first one
parent_first : (ms : List Module) (m n : Module) → is_some (parent_place (ms ++ m ∷ [])) ≡ false → is_parent n ≡ true → parent_place (ms ++ n ∷ []) ≡ Some (length ms)
parent_first [] m n none e = rw e refl
parent_first (x ∷ ms) m n none e = elim (cases_Bool (is_parent x)) [
  | inl p ↦ absurd (true≢false (rw p at none))
  | inr p ↦ rw (p, parent_first ms m n (sym (some_under (parent_place (ms ++ m ∷ []))) ∙ (rw p at none)) e) refl
]

-- an item more that fails leaves the test
any_no : {X : Type 0} (p : X → Bool) (xs : List X) (x : X) → p x ≡ false → list_any p (xs ++ x ∷ []) ≡ list_any p xs
any_no p xs x e = rw (list_any-append p xs (x ∷ []), e) (or-false (list_any p xs))

-- an item more that passes makes it true
any_yes : {X : Type 0} (p : X → Bool) (xs : List X) (x : X) → p x ≡ true → list_any p (xs ++ x ∷ []) ≡ true
any_yes p xs x e = list_any-append p xs (x ∷ []) ∙ or_right (list_any p xs) (p x || false) (or_left (p x) false e)

-- nothing more leaves what is there
or_none : (o : Option BoxSize) → option_or o None ≡ o
or_none None = refl
or_none (Some size) = refl

-- the first of three
or_assoc : (a b c : Option BoxSize) → option_or (option_or a b) c ≡ option_or a (option_or b c)
or_assoc None b c = refl
or_assoc (Some size) b c = refl

-- the first box, with one section more
box_more : (scale : ℕ) (xs : List Section) (x : Section) → box_in scale (xs ++ x ∷ []) ≡ option_or (box_in scale xs) (section_box scale x)
box_more scale [] x = or_none (section_box scale x)
box_more scale (y ∷ xs) x = ap (option_or (section_box scale y)) (box_more scale xs x) ∙ sym (or_assoc (section_box scale y) (box_in scale xs) (section_box scale x))

-- a section without a box leaves it
box_same : (scale : ℕ) (xs : List Section) (x : Section) → section_box scale x ≡ None → box_in scale (xs ++ x ∷ []) ≡ box_in scale xs
box_same scale xs x e = box_more scale xs x ∙ ap (option_or (box_in scale xs)) e ∙ or_none (box_in scale xs)

-- the first section with a box gives it
box_first : (scale : ℕ) (xs : List Section) (x : Section) (o : Option BoxSize) (size : BoxSize) → box_in scale xs ≡ o → is_some o ≡ false → section_box scale x ≡ Some size → box_in scale (xs ++ x ∷ []) ≡ Some size
box_first scale xs x None size none e is = box_more scale xs x ∙ ap (λ (o : Option BoxSize). option_or o (section_box scale x)) none ∙ is
box_first scale xs x (Some other) size none e is = absurd cc

-- names depend on names alone
name_more : (ms : List Module) (m n : Module) → name_of n ≡ name_of m → map name_of (ms ++ n ∷ []) ≡ map name_of (ms ++ m ∷ [])
name_more ms m n e = map-append name_of ms (n ∷ []) ∙ ap (λ (x : List ℕ). map name_of ms ++ x ∷ []) e ∙ sym (map-append name_of ms (m ∷ []))

-- without lists nothing stands in lists
unlisted_empty : (kind : ListKind) (xs : List Section) → list_any is_list xs ≡ false → flat_map (in_section kind) xs ≡ []
unlisted_empty kind [] e = refl
unlisted_empty kind (Single s ∷ xs) e = unlisted_empty kind xs e
unlisted_empty kind (Listed l closing ∷ xs) e = absurd cc

-- ---- one statement more

module _ (scale : ℕ) where
  module _ (ms : List Module) where
    -- what is kept behind these modules
    abbrev kept : Rest → Reading
    kept rest = view_of scale ms rest

    -- what the open module adds to the terminals, or to the instances
    abbrev pads_with : List Worded → List RawPad
    pads_with more = pads_in scale (in_closed Terminals ms ++ more)

    -- the instances with these statements more
    abbrev instances_with : List Worded → List Instance
    instances_with more = instances_in (in_closed Network ms ++ more)

    -- what is open changes from m to n, and nothing else but what is said of it
    changes : (m n : Module) (rest rest' : Rest) (current : Option OpenModule) → open_module rest ≡ m ∷ [] → open_module rest' ≡ n ∷ [] → name_of n ≡ name_of m → is_parent n ≡ is_parent m
        → in_rest Terminals rest' ≡ in_rest Terminals rest → in_rest Network rest' ≡ in_rest Network rest → open_view scale rest' ≡ current
        → record (kept rest) { current = current } ≡ kept rest'
    changes m n rest rest' current opened opened' named parent ts ws seen =
        let names : map name_of (ms ++ open_module rest) ≡ map name_of (ms ++ open_module rest') = rw (opened, opened') (sym (name_more ms m n named)) in
        let place : parent_place (ms ++ open_module rest) ≡ parent_place (ms ++ open_module rest') = rw (opened, opened') (sym (parent_same ms m n parent)) in
        λ i. shown scale (sym seen i) (names i) (map (box_of scale) ms) (place i) (pads_with (sym ts i)) (instances_with (sym ws i))

    module _ (m : Module) (s : Worded) where
      -- the module with this statement more
      abbrev one_more : Module
      one_more = with_section m (Single s)

      -- its lists are as before
      in_more : (kind : ListKind) → in_module kind one_more ≡ in_module kind m
      in_more kind = flat_push (in_section kind) m.sections (Single s) ∙ append-nil (in_module kind m)

      -- it is kept by what is said of it
      grows : (typed listed : Bool) (size : Option BoxSize) → list_any is_type one_more.sections ≡ typed → is_parent_type (Single s) ≡ false → list_any is_list one_more.sections ≡ listed → box_of scale one_more ≡ size
          → record (kept (InModule m)) { current = Some (record { section = sections.Body; is_typed = typed; is_parent = is_parent m; has_list = listed; size = size }) } ≡ kept (InModule one_more)
      grows typed listed size t other l b =
          let parent = any_no is_parent_type m.sections (Single s) other in
          changes m one_more (InModule m) (InModule one_more) _ refl refl refl parent
          (rw (parent, in_more Terminals) refl) (rw (parent, in_more Network) refl)
          (λ i. Some (record { section = sections.Body; is_typed = t i; is_parent = parent i; has_list = l i; size = b i }))

      -- a statement by itself that is no TYPE and no DIMENSIONS changes nothing
      quiet : is_type_key (key s) ≡ false → section_box scale (Single s) ≡ None → kept (InModule m) ≡ kept (InModule one_more)
      quiet untyped unboxed = grows _ _ _ (any_no is_type m.sections (Single s) untyped) (rw untyped refl) (any_no is_list m.sections (Single s) refl) (box_same scale m.sections (Single s) unboxed)

      -- where there are no lists, nothing stands in them
      empty_either : (kind : ListKind) → list_any is_list m.sections ≡ false → if_parent m (in_module kind m) ≡ []
      empty_either kind unlisted = rw (unlisted_empty kind m.sections unlisted) (elim (is_parent m) as (λ b. cond {A = List Worded} b [] [] ≡ []) [ true ↦ refl | false ↦ refl ])

      -- TYPE of another module than the parent
      types : key s ≡ keys.Type → is_parent_type (Single s) ≡ false → type_taken (kept (InModule m)) (open_as scale m sections.Body false) ≡ kept (InModule one_more)
      types e other = grows _ _ _ (any_yes is_type m.sections (Single s) (ap is_type_key e)) other (any_no is_list m.sections (Single s) refl) (box_same scale m.sections (Single s) (rw e refl))

      -- TYPE PARENT, before all lists
      parent_types : key s ≡ keys.Type → is_parent_word (word_of s.more) ≡ true → is_some (parent_place (ms ++ m ∷ [])) ≡ false → list_any is_list m.sections ≡ false
          → parent_taken (kept (InModule m)) (open_as scale m sections.Body false) ≡ kept (InModule one_more)
      parent_types e is none unlisted =
          let typed = any_yes is_type m.sections (Single s) (ap is_type_key e) in
          let parent : is_parent one_more ≡ true = any_yes is_parent_type m.sections (Single s) (rw (e, is) refl) in
          let listed = any_no is_list m.sections (Single s) refl in
          let box = box_same scale m.sections (Single s) (rw e refl) in
          let empty : (kind : ListKind) → if_parent m (in_module kind m) ≡ if_parent one_more (in_module kind one_more) = λ kind. empty_either kind unlisted ∙ sym (rw parent (in_more kind ∙ unlisted_empty kind m.sections unlisted)) in
          let place : Some (length (map (box_of scale) ms)) ≡ parent_place (ms ++ one_more ∷ []) = ap Some (length-map ms (box_of scale)) ∙ sym (parent_first ms m one_more none parent) in
          λ i. shown scale (Some (record { section = sections.Body; is_typed = sym typed i; is_parent = sym parent i; has_list = sym listed i; size = sym box i })) (name_more ms one_more m refl i) (map (box_of scale) ms) (place i) (pads_with (empty Terminals i)) (instances_with (empty Network i))

      -- DIMENSIONS
      boxes : (size : BoxSize) → key s ≡ keys.Dimensions → is_some (box_of scale m) ≡ false → section_box scale (Single s) ≡ Some size → size_taken (kept (InModule m)) (open_as scale m sections.Body false) size ≡ kept (InModule one_more)
      boxes size e none is = grows _ _ _ (any_no is_type m.sections (Single s) (ap is_type_key e)) (rw e refl) (any_no is_list m.sections (Single s) refl) (box_first scale m.sections (Single s) (box_of scale m) size refl none is)

      -- a list begins
      lists : (kind : ListKind) → list_opened (kept (InModule m)) (open_as scale m sections.Body false) (section_of kind) ≡ kept (InList m (listing kind s))
      lists Terminals =
          changes m m (InModule m) (InList m (listing Terminals s)) (open_view scale (InList m (listing Terminals s))) refl refl refl refl
          (ap (if_parent m) (append-nil (in_module Terminals m))) (ap (if_parent m) (append-nil (in_module Network m))) refl
      lists Network =
          changes m m (InModule m) (InList m (listing Network s)) (open_view scale (InList m (listing Network s))) refl refl refl refl
          (ap (if_parent m) (append-nil (in_module Terminals m))) (ap (if_parent m) (append-nil (in_module Network m))) refl

    -- a list ends
    ends : (m : Module) (l : Listing) (s : Worded) → list_closed (kept (InList m l)) (open_as scale m (section_of l.kind) true) ≡ kept (InModule (with_section m (Listed l s)))
    ends m l s =
        let n : Module = with_section m (Listed l s) in
        let typed = any_no is_type m.sections (Listed l s) refl in
        let parent = any_no is_parent_type m.sections (Listed l s) refl in
        let listed = any_yes is_list m.sections (Listed l s) refl in
        let box = box_same scale m.sections (Listed l s) refl in
        changes m n (InList m l) (InModule n) (Some (record { section = sections.Body; is_typed = list_any is_type m.sections; is_parent = is_parent m; has_list = true; size = box_of scale m })) refl refl refl parent
        (rw (parent, flat_push (in_section Terminals) m.sections (Listed l s)) refl) (rw (parent, flat_push (in_section Network) m.sections (Listed l s)) refl)
        (λ i. Some (record { section = sections.Body; is_typed = typed i; is_parent = parent i; has_list = listed i; size = box i }))

    -- a module begins
    begins : (line : ℕ) (first name : List ℕ) (words : List (List ℕ)) → module_opened (kept Nothing) name ≡ kept (InModule (begun (record { line = line; first = first; more = name ∷ words })))
    begins line first name words =
        let m : Module = begun (record { line = line; first = first; more = name ∷ words }) in
        let names : map name_of (ms ++ []) ++ name ∷ [] ≡ map name_of (ms ++ m ∷ []) = ap (λ (xs : List Module). map name_of xs ++ name ∷ []) (append-nil ms) ∙ sym (map-append name_of ms (m ∷ [])) in
        let parent : parent_place (ms ++ []) ≡ parent_place (ms ++ m ∷ []) = ap parent_place (append-nil ms) ∙ sym (parent_more ms m refl) in
        λ i. shown scale (Some module_begun) (names i) (map (box_of scale) ms) (parent i) (pads_with []) (instances_with [])

    -- it ends
    closes_module : (m : Module) → module_closed (kept (InModule m)) (open_as scale m sections.Body false) ≡ view_of scale (ms ++ m ∷ []) Nothing
    closes_module m =
        let listed : (kind : ListKind) → in_closed kind ms ++ if_parent m (in_module kind m) ≡ in_closed kind (ms ++ m ∷ []) ++ [] =
        (λ kind. sym (append-nil (in_closed kind (ms ++ m ∷ [])) ∙ flat_push (λ m. if_parent m (in_module kind m)) ms m)) in
        let all : ms ++ m ∷ [] ≡ (ms ++ m ∷ []) ++ [] = sym (append-nil (ms ++ m ∷ [])) in
        λ i. shown scale None (map name_of (all i)) (sym (map-append (box_of scale) ms (m ∷ [])) i) (parent_place (all i)) (pads_in scale (listed Terminals i)) (instances_in (listed Network i))

    -- a statement in a list of a module that is not the parent
    passes : (m : Module) (l : Listing) (s : Worded) → is_parent m ≡ false → kept (InList m l) ≡ kept (InList m (with_inside l s))
    passes m l s other =
        changes m m (InList m l) (InList m (with_inside l s)) (open_view scale (InList m l)) refl refl refl refl (rw other refl) (rw other refl) refl

-- ---- a statement in a list of the parent

module _ (scale : ℕ) (current : Option OpenModule) (names : List (List ℕ)) (sizes : List (Option BoxSize)) (parent : Option ℕ) (pads : List RawPad) (instances : List Instance) where
  -- what is kept
  abbrev so_far : Reading
  so_far = shown scale current names sizes parent pads instances

  -- the same with other pads
  abbrev padded : List RawPad → Reading
  padded pads = shown scale current names sizes parent pads instances

  -- the pads of a terminal with this point
  abbrev pads_then : Bool → List ℕ → Option (Result ℤ NumberFault × Result ℤ NumberFault) → List RawPad
  pads_then known name point = cond known pads (pads ++ pad_at name point)

  -- its fault
  abbrev fault_then : Bool → ℕ → Option (Result ℤ NumberFault × Result ℤ NumberFault) → Option YalFault
  fault_then known line point = cond known None (point_fault line point)

  -- a terminal without two numbers is passed over
  pointless : (known : Bool) (line : ℕ) (name : List ℕ) → Ok so_far ≡ answer (fault_then known line None) (padded (pads_then known name None))
  pointless true line name = refl
  pointless false line name = ap (λ (ps : List RawPad). Ok (padded ps)) (sym (append-nil pads))

  -- two numbers are a pad, or have a fault
  numbers : (line : ℕ) (name : List ℕ) (x y : Result ℤ NumberFault)
      → (number_in line x >>= λ a. number_in line y >>= λ b. Ok (pad_taken so_far name (a, b))) ≡ answer (point_fault line (Some (x, y))) (padded (pads ++ pad_at name (Some (x, y))))
  numbers line name (Ok a) (Ok b) =
      let one : RawPad = record { name = name; place = Some (a, b) } in
      ap (λ (ns : List (List ℕ)). Ok (record (padded (pads ++ one ∷ [])) { pad_names = ns })) (sym (map-append (λ (p : RawPad). p.name) pads (one ∷ [])))
  numbers line name (Ok a) (Err f) = refl
  numbers line name (Err f) y = refl

  -- a terminal with four words is a pad where its name is new and it has numbers
  placed : (line : ℕ) (name : List ℕ) (x y : Result ℤ NumberFault) (known formed : Bool) → has_name name (map (λ p. p.name) pads) ≡ known → (has_form x && has_form y) ≡ formed
      → placed_said so_far line name x y ≡ answer (fault_then known line (point_of x y)) (padded (pads_then known name (point_of x y)))
  unfolding placed_said
  placed line name x y true formed e f = rw e refl
  placed line name x y false true e f = rw (e, f) (numbers line name x y)
  placed line name x y false false e f = rw (e, f) (pointless false line name)

  -- a terminal of the parent gives its pad, or its fault
  terminal : (line : ℕ) (name : List ℕ) (more : List (List ℕ)) → let s : Worded = record { line = line; first = name; more = more } in
      terminal_said scale so_far line (name ∷ more) ≡ answer (terminal_fault scale pads s) (padded (with_pad scale pads s))
  unfolding terminal_said
  terminal line name [] = pointless (has_name name (map (λ p. p.name) pads)) line name
  terminal line name (direction ∷ []) = pointless (has_name name (map (λ p. p.name) pads)) line name
  terminal line name (direction ∷ x ∷ []) = pointless (has_name name (map (λ p. p.name) pads)) line name
  terminal line name (direction ∷ x ∷ y ∷ more) =
      placed line name (length_read scale x) (length_read scale y) (has_name name (map (λ p. p.name) pads)) (has_form (length_read scale x) && has_form (length_read scale y)) refl refl

  -- what is kept with other instances
  abbrev with_instances : List Instance → Reading
  with_instances instances = shown scale current names sizes parent pads instances

  -- an instance of the parent is one, or has a fault
  instance : (line : ℕ) (name : List ℕ) (more : List (List ℕ)) → let s : Worded = record { line = line; first = name; more = more } in
      instance_said so_far line (name ∷ more) ≡ answer (instance_fault line more) (with_instances (instances ++ instance_at s more))
  unfolding instance_said
  instance line name [] = refl
  instance line name (module_name ∷ signals) = refl

-- ---- every statement

module _ (scale : ℕ) (items : List Item) (line : ℕ) (first : List ℕ) (more : List (List ℕ)) where
  -- the statement
  abbrev s : Worded
  s = record { line = line; first = first; more = more }

  -- the modules that are closed
  abbrev ms : List Module
  ms = flat_map modules_in items

  -- the cut where this is open
  abbrev here : Rest → Cut
  here rest = record { items = items; rest = rest }

  -- a statement outside of all modules leaves all
  stray : view_of scale ms Nothing ≡ view scale (record { items = items ++ Stray s ∷ []; rest = Nothing })
  stray = ap (λ (ms : List Module). view_of scale ms Nothing) (sym (flat_push modules_in items (Stray s) ∙ append-nil ms))

  -- MODULE opens a module, or has a fault
  modules_named : (words : List (List ℕ)) → module_said (view_of scale ms Nothing) line words ≡ answer (name_fault (map name_of (ms ++ [])) line words) (view scale (here (InModule (begun (record { line = line; first = first; more = words })))))
  unfolding module_said
  modules_named [] = refl
  modules_named (name ∷ words) = elim (cases_Bool (has_name name (map name_of (ms ++ [])))) [
    | inl e ↦ rw e refl
    | inr e ↦ rw e (ap Ok (begins scale ms line first name words))
  ]

  -- a statement outside of all modules
  outside : (k : Keyword) → outside_said (view_of scale ms Nothing) line k more ≡ answer (outside_fault (here Nothing) s k) (view scale (step_outside items s k))
  outside keys.Module = modules_named more
  outside keys.EndModule = refl
  outside k = ap Ok stray

  module _ (m : Module) where
    -- the module that is open
    abbrev body : OpenModule
    body = open_as scale m sections.Body false

    -- what is kept in it
    abbrev in_body : Reading
    in_body = view_of scale ms (InModule m)

    -- this statement after the others of the module, with other words behind its first one
    abbrev single : List (List ℕ) → Module
    single words = with_section m (Single (record { line = line; first = first; more = words }))

    -- TYPE with a word, by the three tests
    typed_by : (word : List ℕ) (words : List (List ℕ)) (late parent some : Bool) → key s ≡ keys.Type → (list_any is_type m.sections || list_any is_list m.sections) ≡ late → is_parent_word word ≡ parent → is_some (parent_place (ms ++ m ∷ [])) ≡ some
        → type_said in_body body line (word ∷ words) ≡ answer (type_fault (parent_place (ms ++ m ∷ [])) m line (word ∷ words)) (view_of scale ms (InModule (single (word ∷ words))))
    unfolding type_said
    typed_by word words true parent some e a b c = rw a refl
    typed_by word words false true true e a b c = rw (a, b, c) refl
    typed_by word words false true false e a b c = rw (a, b, c) (ap Ok (parent_types scale ms m (record { line = line; first = first; more = word ∷ words }) e b c (or_parts (list_any is_type m.sections) (list_any is_list m.sections) a).1))
    typed_by word words false false some e a b c = rw (a, b) (ap Ok (types scale ms m (record { line = line; first = first; more = word ∷ words }) e (rw (e, b) refl)))

    -- TYPE
    typed : (words : List (List ℕ)) → key s ≡ keys.Type → type_said in_body body line words ≡ answer (type_fault (parent_place (ms ++ m ∷ [])) m line words) (view_of scale ms (InModule (single words)))
    unfolding type_said
    typed [] e = refl
    typed (word ∷ words) e = typed_by word words (list_any is_type m.sections || list_any is_list m.sections) (is_parent_word word) (is_some (parent_place (ms ++ m ∷ []))) e refl refl refl

    -- DIMENSIONS
    boxed_by : (some : Bool) (read : Result BoxSize YalFault) → key s ≡ keys.Dimensions → is_some (box_of scale m) ≡ some → dimensions_said scale line more ≡ read
        → box_said scale in_body body line more ≡ answer (box_fault scale m s) (view_of scale ms (InModule (with_section m (Single s))))
    unfolding box_said
    boxed_by true read e a b = rw a refl
    boxed_by false (Err fault) e a b = rw (a, b) refl
    boxed_by false (Ok size) e a b = rw (a, b) (ap Ok (boxes scale ms m s size e a (rw (e, b) refl)))

    -- a statement that says nothing
    still : (k : Keyword) → key s ≡ k → is_type_key k ≡ false → box_behind scale s k ≡ None → Ok in_body ≡ answer None (view_of scale ms (InModule (with_section m (Single s))))
    still k e untyped unboxed = ap Ok (quiet scale ms m s (rw e untyped) (rw e unboxed))

    -- a statement of a module outside of its lists
    in_the_body : (k : Keyword) → key s ≡ k → in_body_said scale in_body body line k more ≡ answer (body_fault scale (here (InModule m)) m s k) (view scale (step_body items m s k))
    in_the_body keys.Module e = refl
    in_the_body keys.EndModule e = ap Ok (closes_module scale ms m ∙ ap (λ (ms : List Module). view_of scale ms Nothing) (sym (flat_push modules_in items (Whole m s))))
    in_the_body keys.Type e = typed more e
    in_the_body keys.Dimensions e = boxed_by (is_some (box_of scale m)) (dimensions_said scale line more) e refl refl
    in_the_body keys.IoList e = ap Ok (lists scale ms m s Terminals)
    in_the_body keys.Network e = ap Ok (lists scale ms m s Network)
    in_the_body k e = still k e refl refl

    module _ (opening : Worded) (inside : List Worded) where
      -- the list that is open
      abbrev listing_of : ListKind → Listing
      listing_of kind = record { kind = kind; opening = opening; inside = inside }

      -- the parent's list has one statement more
      longer : (kind : ListKind) (words : List Worded) → is_parent m ≡ true
          → in_closed kind ms ++ if_parent m (words ++ (inside ++ s ∷ [])) ≡ (in_closed kind ms ++ if_parent m (words ++ inside)) ++ s ∷ []
      longer kind words e =
          let grown : if_parent m (words ++ (inside ++ s ∷ [])) ≡ if_parent m (words ++ inside) ++ s ∷ [] = rw e (sym (append_assoc words inside (s ∷ []))) in
          ap (λ (xs : List Worded). in_closed kind ms ++ xs) grown ∙ sym (append_assoc (in_closed kind ms) (if_parent m (words ++ inside)) (s ∷ []))

      -- what is kept in a list of this kind, and with this statement in it
      abbrev in_list : ListKind → Reading
      in_list kind = view_of scale ms (InList m (listing_of kind))

      -- what is kept with the statement more
      abbrev after_it : ListKind → Reading
      after_it kind = view_of scale ms (InList m (with_inside (listing_of kind) s))

      -- the pads so far
      abbrev pads_so_far : List RawPad
      pads_so_far = pads_of scale (here (InList m (listing_of Terminals)))

      -- the instances so far
      abbrev instances_so_far : List Instance
      instances_so_far = instances_of (here (InList m (listing_of Network)))

      -- the pads with one terminal more
      terminal_kept : is_parent m ≡ true → record (in_list Terminals) { pads = with_pad scale pads_so_far s; pad_names = map (λ p. p.name) (with_pad scale pads_so_far s) } ≡ after_it Terminals
      terminal_kept e =
          let all = in_closed Terminals ms ++ if_parent m (in_module Terminals m ++ inside) in
          let grown : with_pad scale pads_so_far s ≡ pads_in scale (in_closed Terminals ms ++ if_parent m (in_module Terminals m ++ (inside ++ s ∷ []))) =
          sym (ap (pads_in scale) (longer Terminals (in_module Terminals m) e) ∙ fold-append (with_pad scale) [] all (s ∷ [])) in
          ap (λ (pads : List RawPad). record (in_list Terminals) { pads = pads; pad_names = map (λ p. p.name) pads }) grown

      -- the instances with one more
      instance_kept : is_parent m ≡ true → record (in_list Network) { instances = instances_so_far ++ instance_at s more } ≡ after_it Network
      instance_kept e =
          let all = in_closed Network ms ++ if_parent m (in_module Network m ++ inside) in
          let grown : instances_so_far ++ instance_at s more ≡ instances_in (in_closed Network ms ++ if_parent m (in_module Network m ++ (inside ++ s ∷ []))) =
          sym (ap instances_in (longer Network (in_module Network m) e) ∙ flat_push (λ (x : Worded). instance_at x x.more) all s) in
          ap (λ (instances : List Instance). record (in_list Network) { instances = instances }) grown

      -- terminals
      abbrev terminal_wrong : Option YalFault
      terminal_wrong = terminal_fault scale pads_so_far s

      -- a statement of a list says something in the parent alone
      in_parent : (kind : ListKind) (said : Result Reading YalFault) (wrong : Option YalFault) → (is_parent m ≡ true → said ≡ answer wrong (after_it kind))
          → cond (is_parent m) said (Ok (in_list kind)) ≡ answer (cond (is_parent m) wrong None) (after_it kind)
      in_parent kind said wrong says_it =
          let Holds : Bool → Type 0 = λ b. cond b said (Ok (in_list kind)) ≡ answer (cond b wrong None) (after_it kind) in
          elim (cases_Bool (is_parent m)) [ inl e ↦ subst Holds (sym e) (says_it e) | inr e ↦ subst Holds (sym e) (ap Ok (passes scale ms m (listing_of kind) s e)) ]

      -- the module that is open
      abbrev list_open : ListKind → OpenModule
      list_open kind = open_as scale m (section_of kind) true

      -- what a statement of the list gives
      abbrev list_then : ListKind → Keyword → Option YalFault → Result Reading YalFault
      list_then kind k wrong = answer (cond (closes kind k) None (cond (is_parent m) wrong None)) (view scale (step_list items m (listing_of kind) s (closes kind k)))

      -- a statement of a list IOLIST
      in_a_terminals : (k : Keyword) → in_terminals_said scale (in_list Terminals) (list_open Terminals) line k (first ∷ more) ≡ list_then Terminals k terminal_wrong
      in_a_terminals keys.EndIoList = ap Ok (ends scale ms m (listing_of Terminals) s)
      in_a_terminals k =
          let r = in_list Terminals in
          in_parent Terminals _ terminal_wrong (λ e. terminal scale r.current r.names r.sizes r.parent r.pads r.instances line first more ∙ ap (answer terminal_wrong) (terminal_kept e))

      -- a statement of a list NETWORK
      in_a_network : (k : Keyword) → in_network_said (in_list Network) (list_open Network) line k (first ∷ more) ≡ list_then Network k (instance_fault line more)
      in_a_network keys.EndNetwork = ap Ok (ends scale ms m (listing_of Network) s)
      in_a_network k =
          let r = in_list Network in
          in_parent Network _ (instance_fault line more) (λ e. instance scale r.current r.names r.sizes r.parent r.pads r.instances line first more ∙ ap (answer (instance_fault line more)) (instance_kept e))

      -- a statement of a list
      in_a_list : (kind : ListKind) → said_in scale (in_list kind) (list_open kind) line (section_of kind) first more
          ≡ answer (list_fault scale (here (InList m (listing_of kind))) m (listing_of kind) s) (view scale (step_in items s (InList m (listing_of kind))))
      in_a_list Terminals = in_a_terminals (key s)
      in_a_list Network = in_a_network (key s)

  -- so it is, whatever is open
  says_rest : (rest : Rest) → after_words scale (view_of scale ms rest) line (first ∷ more) ≡ answer (fault_in scale (here rest) rest s) (view scale (step_in items s rest))
  says_rest Nothing = outside (key s)
  says_rest (InModule m) = in_the_body m (key s) refl
  says_rest (InList m l) = in_a_list m l.opening l.inside l.kind

-- reading a statement gives its fault, or what is seen in the cut with that statement
pub says : (scale : ℕ) (c : Cut) (s : Worded) → after_words scale (view scale c) s.line (s.first ∷ s.more) ≡ answer (fault_at scale c s) (view scale (step c s))
says scale c s = says_rest scale c.items s.line s.first s.more c.rest
