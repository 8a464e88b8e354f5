-- Statements are cut in just one way.
use Rattle.std.proofs.Common.{◌≡◌, Bool, true, false, List, [], ◌∷◌, ◌++◌, refl, sym, ap, subst, ◌∙◌, append_assoc, append-nil}
use Rattle.sf_yal.proofs.Common.{All, flat_map, fold, fold-append, Worded, key, ListKind, Terminals, Network, Listing, Section, Single, Listed, Module, Item, Stray, Whole, Rest, Nothing, InModule, InList, Cut, listing_text, section_text, module_text, item_text, rest_text, opens_module, opener, stands_alone, closes, IsSection, IsModule, IsItem, IsRest, AreCut, flat_map-append, All-nil, All-head, All-tail, All-push, Keyword}
use Rattle.sf_yal.specs.declared.keyword.Keyword.TheVariants as keys

-- what f gives of one item more
pub flat_push : {X Y : Type 0} (f : X → List Y) (xs : List X) (x : X) → flat_map f (xs ++ x ∷ []) ≡ flat_map f xs ++ f x
flat_push f xs x = flat_map-append f xs (x ∷ []) ∙ ap (λ ys. flat_map f xs ++ ys) (append-nil (f x))

-- ---- the cut, one statement after another

-- a module that begins with this statement
abbrev pub begun : Worded → Module
begun s = record { opening = s; sections = [] }

-- a module with one section more
abbrev pub with_section : Module → Section → Module
with_section m section = record { opening = m.opening; sections = m.sections ++ section ∷ [] }

-- a list that begins with this statement
abbrev pub listing : ListKind → Worded → Listing
listing kind s = record { kind = kind; opening = s; inside = [] }

-- a list with one statement more
abbrev pub with_inside : Listing → Worded → Listing
with_inside l s = record { kind = l.kind; opening = l.opening; inside = l.inside ++ s ∷ [] }

-- a statement outside of all modules
abbrev pub step_outside : List Item → Worded → Keyword → Cut
step_outside items s keys.Module = record { items = items; rest = InModule (begun s) }
step_outside items s _ = record { items = items ++ Stray s ∷ []; rest = Nothing }

-- a statement of a module outside of its lists
abbrev pub step_body : List Item → Module → Worded → Keyword → Cut
step_body items m s keys.EndModule = record { items = items ++ Whole m s ∷ []; rest = Nothing }
step_body items m s keys.IoList = record { items = items; rest = InList m (listing Terminals s) }
step_body items m s keys.Network = record { items = items; rest = InList m (listing Network s) }
step_body items m s _ = record { items = items; rest = InModule (with_section m (Single s)) }

-- a statement of a list, which closes it or stands in it
abbrev pub step_list : List Item → Module → Listing → Worded → Bool → Cut
step_list items m l s true = record { items = items; rest = InModule (with_section m (Listed l s)) }
step_list items m l s false = record { items = items; rest = InList m (with_inside l s) }

-- a statement behind what is open
abbrev pub step_in : List Item → Worded → Rest → Cut
step_in items s Nothing = step_outside items s (key s)
step_in items s (InModule m) = step_body items m s (key s)
step_in items s (InList m l) = step_list items m l s (closes l.kind (key s))

-- the cut with one statement more
abbrev pub step : Cut → Worded → Cut
step c s = step_in c.items s c.rest

-- nothing is cut
abbrev pub nothing_cut : Cut
nothing_cut = record { items = []; rest = Nothing }

-- the cut of all statements
abbrev pub cut_of : List Worded → Cut
cut_of statements = fold step nothing_cut statements

-- ---- it is one

-- the text of a module with one section more
section_more : (m : Module) (section : Section) → module_text m ++ section_text section ≡ module_text (with_section m section)
section_more m section = ap (λ (xs : List Worded). m.opening ∷ xs) (sym (flat_push section_text m.sections section))

module _ (pre : List Worded) (items : List Item) (s : Worded) where
  -- the statements of the items
  abbrev items_text : List Worded
  items_text = flat_map item_text items

  -- the cut keeps its statements, with one more outside of all modules
  outside_cut : (k : Keyword) → key s ≡ k → AreCut pre (record { items = items; rest = Nothing }) → AreCut (pre ++ s ∷ []) (step_outside items s k)
  outside_cut keys.Module e a = record { text = ap (λ (xs : List Worded). xs ++ s ∷ []) (a.text ∙ append-nil items_text); items = a.items; rest = (ap opens_module e, All-nil IsSection) }
  outside_cut k e a = record {
    text = ap (λ (xs : List Worded). xs ++ s ∷ []) (a.text ∙ append-nil items_text) ∙ sym (append-nil (flat_map item_text (items ++ Stray s ∷ [])) ∙ flat_push item_text items (Stray s));
    items = All-push IsItem items (Stray s) a.items (ap opens_module e);
    rest = tt;
  }

  module _ (m : Module) where
    -- the statements so far, and one more
    body_text : AreCut pre (record { items = items; rest = InModule m }) → pre ++ s ∷ [] ≡ items_text ++ (module_text m ++ s ∷ [])
    body_text a = ap (λ (xs : List Worded). xs ++ s ∷ []) a.text ∙ append_assoc items_text (module_text m) (s ∷ [])

    -- with one that opens a list
    listing_cut : (kind : ListKind) → key s ≡ opener kind → AreCut pre (record { items = items; rest = InModule m }) → AreCut (pre ++ s ∷ []) (record { items = items; rest = InList m (listing kind s) })
    listing_cut kind opens a = record { text = body_text a; items = a.items; rest = (a.rest, (opens, All-nil (λ x. closes kind (key x) ≡ false))) }

    -- with one more in a module outside of its lists
    body_cut : (k : Keyword) → key s ≡ k → AreCut pre (record { items = items; rest = InModule m }) → AreCut (pre ++ s ∷ []) (step_body items m s k)
    body_cut keys.EndModule e a = record {
      text = body_text a ∙ sym (append-nil (flat_map item_text (items ++ Whole m s ∷ [])) ∙ flat_push item_text items (Whole m s));
      items = All-push IsItem items (Whole m s) a.items (a.rest, e);
      rest = tt;
    }
    body_cut keys.IoList e a = listing_cut Terminals e a
    body_cut keys.Network e a = listing_cut Network e a
    body_cut k e a = record {
      text = body_text a ∙ ap (λ (xs : List Worded). items_text ++ xs) (section_more m (Single s));
      items = a.items;
      rest = (a.rest.0, All-push IsSection m.sections (Single s) a.rest.1 (ap stands_alone e));
    }

    -- the statements so far, where a list is open, and one more
    list_text : (l : Listing) → AreCut pre (record { items = items; rest = InList m l }) → pre ++ s ∷ [] ≡ items_text ++ (module_text m ++ (listing_text l ++ s ∷ []))
    list_text l a =
        ap (λ (xs : List Worded). xs ++ s ∷ []) a.text ∙ append_assoc items_text (module_text m ++ listing_text l) (s ∷ [])
        ∙ ap (λ (xs : List Worded). items_text ++ xs) (append_assoc (module_text m) (listing_text l) (s ∷ []))

    -- with one more in a list
    list_cut : (l : Listing) (b : Bool) → closes l.kind (key s) ≡ b → AreCut pre (record { items = items; rest = InList m l }) → AreCut (pre ++ s ∷ []) (step_list items m l s b)
    list_cut l true e a = record {
      text = list_text l a ∙ ap (λ (xs : List Worded). items_text ++ xs) (section_more m (Listed l s));
      items = a.items;
      rest = (a.rest.0.0, All-push IsSection m.sections (Listed l s) a.rest.0.1 (a.rest.1, e));
    }
    list_cut l false e a = record {
      text = list_text l a;
      items = a.items;
      rest = (a.rest.0, (a.rest.1.0, All-push (λ x. closes l.kind (key x) ≡ false) l.inside s a.rest.1.1 e));
    }

  -- with one more, whatever is open
  rest_cut : (rest : Rest) → AreCut pre (record { items = items; rest = rest }) → AreCut (pre ++ s ∷ []) (step_in items s rest)
  rest_cut Nothing a = outside_cut (key s) refl a
  rest_cut (InModule m) a = body_cut m (key s) refl a
  rest_cut (InList m l) a = list_cut m l (closes l.kind (key s)) refl a

-- with all that follow
all_cut : (pre more : List Worded) (c : Cut) → AreCut pre c → AreCut (pre ++ more) (fold step c more)
all_cut pre [] c a = subst (λ (xs : List Worded). AreCut xs c) (sym (append-nil pre)) a
all_cut pre (s ∷ more) c a = subst (λ (xs : List Worded). AreCut xs (fold step (step c s) more)) (append_assoc pre (s ∷ []) more) (all_cut (pre ++ s ∷ []) more (step c s) (rest_cut pre c.items s c.rest a))

-- all statements have a cut
pub are_cut : (statements : List Worded) → AreCut statements (cut_of statements)
are_cut statements = all_cut [] statements nothing_cut (record { text = refl; items = All-nil IsItem; rest = tt })

-- ---- there is no other

module _ (items : List Item) where
  -- a cut with what is open behind these items
  abbrev then_open : Rest → Cut
  then_open rest = record { items = items; rest = rest }

  -- MODULE opens a module
  begins : (s : Worded) (k : Keyword) → opens_module k ≡ true → step_outside items s k ≡ then_open (InModule (begun s))
  begins s keys.Module e = refl
  begins s k e = absurd cc

  -- outside of modules all else stands by itself
  strays : (s : Worded) (k : Keyword) → opens_module k ≡ false → step_outside items s k ≡ record { items = items ++ Stray s ∷ []; rest = Nothing }
  strays s keys.Module e = absurd cc
  strays s k e = refl

  -- in a module so does what opens no list and does not close it
  stands : (m : Module) (s : Worded) (k : Keyword) → stands_alone k ≡ true → step_body items m s k ≡ then_open (InModule (with_section m (Single s)))
  stands m s keys.EndModule e = absurd cc
  stands m s keys.IoList e = absurd cc
  stands m s keys.Network e = absurd cc
  stands m s k e = refl

  -- a list begins with the word of its kind
  list_begins : (m : Module) (s : Worded) (kind : ListKind) → step_body items m s (opener kind) ≡ then_open (InList m (listing kind s))
  list_begins m s Terminals = refl
  list_begins m s Network = refl

  -- a list goes on until it is closed
  inside_cut : (m : Module) (kind : ListKind) (opening : Worded) (before more : List Worded) → All (λ s. closes kind (key s) ≡ false) more
      → fold step (then_open (InList m (record { kind = kind; opening = opening; inside = before }))) more ≡ then_open (InList m (record { kind = kind; opening = opening; inside = before ++ more }))
  inside_cut m kind opening before [] all = ap (λ (xs : List Worded). then_open (InList m (record { kind = kind; opening = opening; inside = xs }))) (sym (append-nil before))
  inside_cut m kind opening before (s ∷ more) all =
      let stays = All-head (λ x. closes kind (key x) ≡ false) s more all in
      ap (λ (b : Bool). fold step (step_list items m (record { kind = kind; opening = opening; inside = before }) s b) more) stays
      ∙ inside_cut m kind opening (before ++ s ∷ []) more (All-tail (λ x. closes kind (key x) ≡ false) s more all)
      ∙ ap (λ (xs : List Worded). then_open (InList m (record { kind = kind; opening = opening; inside = xs }))) (append_assoc before (s ∷ []) more)

  -- a section is cut as it is
  section_cut : (m : Module) (section : Section) → IsSection section → fold step (then_open (InModule m)) (section_text section) ≡ then_open (InModule (with_section m section))
  section_cut m (Single s) is = stands m s (key s) is
  section_cut m (Listed l closing) is =
      ap (λ (k : Keyword). fold step (step_body items m l.opening k) (l.inside ++ closing ∷ [])) is.0.0
      ∙ ap (λ (c : Cut). fold step c (l.inside ++ closing ∷ [])) (list_begins m l.opening l.kind)
      ∙ fold-append step (then_open (InList m (listing l.kind l.opening))) l.inside (closing ∷ [])
      ∙ ap (λ (c : Cut). fold step c (closing ∷ [])) (inside_cut m l.kind l.opening [] l.inside is.0.1)
      ∙ ap (λ (b : Bool). step_list items m l closing b) is.1

  -- so are sections one after another
  sections_cut : (opening : Worded) (before more : List Section) → All IsSection more
      → fold step (then_open (InModule (record { opening = opening; sections = before }))) (flat_map section_text more) ≡ then_open (InModule (record { opening = opening; sections = before ++ more }))
  sections_cut opening before [] all = ap (λ (xs : List Section). then_open (InModule (record { opening = opening; sections = xs }))) (sym (append-nil before))
  sections_cut opening before (section ∷ more) all =
      let m : Module = record { opening = opening; sections = before } in
      fold-append step (then_open (InModule m)) (section_text section) (flat_map section_text more)
      ∙ ap (λ (c : Cut). fold step c (flat_map section_text more)) (section_cut m section (All-head IsSection section more all))
      ∙ sections_cut opening (before ++ section ∷ []) more (All-tail IsSection section more all)
      ∙ ap (λ (xs : List Section). then_open (InModule (record { opening = opening; sections = xs }))) (append_assoc before (section ∷ []) more)

  -- so is a module
  module_cut : (m : Module) → IsModule m → fold step (then_open Nothing) (module_text m) ≡ then_open (InModule m)
  module_cut m is =
      ap (λ (c : Cut). fold step c (flat_map section_text m.sections)) (begins m.opening (key m.opening) is.0) ∙ sections_cut m.opening [] m.sections is.1

  -- so is what stands in a text
  item_cut : (x : Item) → IsItem x → fold step (then_open Nothing) (item_text x) ≡ record { items = items ++ x ∷ []; rest = Nothing }
  item_cut (Stray s) is = strays s (key s) is
  item_cut (Whole m closing) is =
      fold-append step (then_open Nothing) (module_text m) (closing ∷ [])
      ∙ ap (λ (c : Cut). fold step c (closing ∷ [])) (module_cut m is.0)
      ∙ ap (λ (k : Keyword). step_body items m closing k) is.1

  -- so is what is open at the end
  open_cut : (rest : Rest) → IsRest rest → fold step (then_open Nothing) (rest_text rest) ≡ then_open rest
  open_cut Nothing is = refl
  open_cut (InModule m) is = module_cut m is
  open_cut (InList m l) is =
      fold-append step (then_open Nothing) (module_text m) (listing_text l)
      ∙ ap (λ (c : Cut). fold step c (listing_text l)) (module_cut m is.0)
      ∙ ap (λ (k : Keyword). fold step (step_body items m l.opening k) l.inside) is.1.0
      ∙ ap (λ (c : Cut). fold step c l.inside) (list_begins m l.opening l.kind)
      ∙ inside_cut m l.kind l.opening [] l.inside is.1.1

-- so are the items of a text
items_cut : (before more : List Item) → All IsItem more → fold step (record { items = before; rest = Nothing }) (flat_map item_text more) ≡ record { items = before ++ more; rest = Nothing }
items_cut before [] all = ap (λ (xs : List Item). then_open xs Nothing) (sym (append-nil before))
items_cut before (x ∷ more) all =
    fold-append step (then_open before Nothing) (item_text x) (flat_map item_text more)
    ∙ ap (λ (c : Cut). fold step c (flat_map item_text more)) (item_cut before x (All-head IsItem x more all))
    ∙ items_cut (before ++ x ∷ []) more (All-tail IsItem x more all)
    ∙ ap (λ (xs : List Item). then_open xs Nothing) (append_assoc before (x ∷ []) more)

-- statements have no other cut
pub is_the_cut : (statements : List Worded) (c : Cut) → AreCut statements c → cut_of statements ≡ c
is_the_cut statements c a =
    ap cut_of a.text
    ∙ fold-append step nothing_cut (flat_map item_text c.items) (rest_text c.rest)
    ∙ ap (λ (x : Cut). fold step x (rest_text c.rest)) (items_cut [] c.items a.items)
    ∙ open_cut c.items c.rest a.rest
