-- A text stands for parts, or has a fault, exactly where reading gives these.
use Rattle.std.proofs.Common.{◌≡◌, ◌≢◌, ◌⊎◌, ◌&&◌, cond, inl, inr, ℕ, Bool, true, false, List, [], map, Option, Some, None, Result, Ok, Err, refl, sym, ap, subst, ◌∙◌, append-nil}
use Rattle.sf_yal.proofs.Common.{not, is_some, AllZip, RawBlock, Parts, YalFault, BoxSize, ◌>>=◌, statements_of, is_ended, last_line, Worded, worded, Rest, Nothing, Cut, name_of, box_of, closed, modules, parent_place, instances_of, IsBlockOf, IsCut, IsEnded, StandsFor, PartsFault, EndFault, HasFault, Reading, start, blocks_from, parts_with, parts_by, parts_read, yal_read}
use Rattle.sf_yal.specs.declared.fault.YalFault.TheVariants as faults
use Rattle.sf_yal.proofs.Cuts.{nothing_cut, cut_of, are_cut, is_the_cut}
use Rattle.sf_yal.proofs.Views.{view, open_view}
use Rattle.sf_yal.proofs.Results.{ok_is, failed, err_is, ok_not_err, Tells, then_tells, tells_as}
use Rattle.sf_yal.proofs.Sound.{after_all, words_alone, all_told, Sound, sound_on, are_sound, sound_behind, first_fault, first_fault_read}
use Rattle.sf_yal.proofs.InstanceBlocks.{blocks_told, all_read, first_instance}

-- ---- the end of a text

module _ (scale : ℕ) (text : List ℕ) (cut : Cut) where
  -- what is kept of the text
  abbrev kept : Reading
  kept = view scale cut

  -- the boxes of all modules, where none is open
  all_boxed : cut.rest ≡ Nothing → kept.sizes ≡ map (box_of scale) (modules cut)
  all_boxed e = rw e (ap (map (box_of scale)) (sym (append-nil (closed cut))))

  module _ (is_cut : IsCut scale text cut) (ended : IsEnded text cut) where
    -- the blocks by all modules
    abbrev read_blocks : ℕ → Result (List RawBlock) YalFault
    read_blocks parent = blocks_from (map name_of (modules cut)) (map (box_of scale) (modules cut)) parent [] (instances_of cut)

    -- they are the blocks by the closed ones
    same_blocks : (parent : ℕ) → blocks_from kept.names kept.sizes parent [] kept.instances ≡ read_blocks parent
    same_blocks parent = ap (λ (sizes : List (Option BoxSize)). blocks_from kept.names sizes parent [] kept.instances) (all_boxed ended.1)

    -- the parts that are read are those of the text, and the fault that is read of them is the first
    parts_told : (o : Option ℕ) → parent_place (modules cut) ≡ o → Tells (StandsFor scale text) (PartsFault scale cut o) (parts_by kept o)
    parts_told None one = refl
    parts_told (Some parent) one =
        rw (same_blocks parent) (then_tells _ _ _ _ (read_blocks parent) (λ blocks. Ok (parts_with kept blocks)) (blocks_told scale (modules cut) parent [] (instances_of cut))
        (λ f is. is) (λ blocks k. record {
          cut = cut;
          is_cut = is_cut;
          ended = ended;
          parent = parent;
          parent_is = one;
          blocks = subst (AllZip (IsBlockOf scale (modules cut) parent) (instances_of cut)) (sym k.1) k.2;
          nets = refl;
          pads = refl;
          strangers = refl;
          pads_in = refl;
        }))

    -- the first fault of the parts is read
    fault_parts : (o : Option ℕ) (f : YalFault) → PartsFault scale cut o f → parts_by kept o ≡ Err f
    fault_parts None f is = ap failed (sym is)
    fault_parts (Some parent) f is = rw (same_blocks parent ∙ first_instance scale (modules cut) parent (instances_of cut) f is) refl

  -- at the end nothing is open
  abbrev is_shut : Bool → Rest → Bool
  is_shut b rest = b && not (is_some (open_view scale rest))

  -- then the text is ended
  shut : (b : Bool) (rest : Rest) → is_shut b rest ≡ true → (b ≡ true) × (rest ≡ Nothing)
  shut true Nothing e = (refl, refl)
  shut true rest e = absurd cc
  shut false rest e = absurd cc

  -- and else something is open
  not_shut : (b : Bool) (rest : Rest) → is_shut b rest ≡ false → (b ≡ false) ⊎ (rest ≢ Nothing)
  not_shut true Nothing e = absurd cc
  not_shut true rest e = inr (λ same. absurd cc)
  not_shut false rest e = inl refl

  -- where something is open, the text is not ended
  is_open : (b : Bool) (rest : Rest) → (b ≡ false) ⊎ (rest ≢ Nothing) → is_shut b rest ≡ false
  is_open true Nothing (inl e) = absurd cc
  is_open true Nothing (inr some) = absurd (some refl)
  is_open true rest some = refl
  is_open false rest some = refl

  -- what is read at the end
  abbrev read_end : Result Parts YalFault
  read_end = parts_read (last_line text) (is_ended text) kept

  module _ (is_cut : IsCut scale text cut) where
    -- what is read at the end stands for the text, and the fault that is read is its fault
    end_told : (b : Bool) → is_shut (is_ended text) cut.rest ≡ b → Tells (StandsFor scale text) (HasFault scale text) (cond b (parts_by kept kept.parent) (Err (faults.Truncated (last_line text))))
    end_told true e =
        let ended : IsEnded text cut = shut (is_ended text) cut.rest e in
        tells_as _ _ _ _ (parts_by kept kept.parent) (parts_told is_cut ended kept.parent refl) (λ out is. is) (λ f is. inr (cut, is_cut, inr (ended, is)))
    end_told false e = inr (cut, is_cut, inl (not_shut (is_ended text) cut.rest e, refl))

    -- the fault at the end is read
    fault_end : (f : YalFault) → EndFault scale text cut f → read_end ≡ Err f
    unfolding parts_read
    fault_end f (inl is) = rw (is_open (is_ended text) cut.rest is.0) (ap failed (sym is.1))
    fault_end f (inr is) = let shut = ap (λ (rest : Rest). not (is_some (open_view scale rest))) is.0.1 in rw (is.0.0, shut) (fault_parts is_cut is.0 (parent_place (modules cut)) f is.1)

-- ---- the whole text

module _ (scale : ℕ) (text : List ℕ) where
  -- the statements of the text
  abbrev all : List Worded
  all = worded (statements_of text)

  -- the cut of these
  abbrev the_cut : Cut
  the_cut = cut_of all

  -- where none has a fault, the text is cut so
  is_the_text : Sound scale nothing_cut all → IsCut scale text the_cut
  is_the_text sound = record { sound = are_sound scale all sound; are_cut = are_cut all }

  -- any cut of a text is this one, and then the end is read
  read_cut : (cut : Cut) → IsCut scale text cut → yal_read scale text ≡ parts_read (last_line text) (is_ended text) (view scale cut)
  unfolding yal_read
  read_cut cut is =
      ap (λ (read : Result Reading YalFault). read >>= parts_read (last_line text) (is_ended text))
      (words_alone scale start (statements_of text) ∙ ap (after_all scale start) (sym (append-nil all)) ∙ sound_on scale nothing_cut all [] (sound_behind scale [] all is.sound))
      ∙ ap (λ (c : Cut). parts_read (last_line text) (is_ended text) (view scale c)) (is_the_cut all cut is.are_cut)

  -- what is read is what the text stands for, and the fault that is read is its first
  told : Tells (StandsFor scale text) (HasFault scale text) (yal_read scale text)
  unfolding yal_read parts_read
  told =
      let Told : Result Reading YalFault → Type 0 = λ read. Tells (StandsFor scale text) (HasFault scale text) (read >>= parts_read (last_line text) (is_ended text)) in
      subst Told (sym (words_alone scale start (statements_of text)))
      (then_tells _ _ _ _ (after_all scale start all) (parts_read (last_line text) (is_ended text)) (all_told scale nothing_cut all) (λ f fails. inl (first_fault scale all f fails))
      (λ r k. subst (λ r. Told (Ok r)) (sym k.1) (end_told scale text the_cut (is_the_text k.0) (is_shut scale text the_cut (is_ended text) the_cut.rest) refl)))

  -- output that is read is what the text stands for
  pub stands_from_read : (out : Parts) → yal_read scale text ≡ Ok out → StandsFor scale text out
  stands_from_read out h = subst (Tells (StandsFor scale text) (HasFault scale text)) h told

  -- a fault that is read is the first of the text
  pub fault_from_read : (f : YalFault) → yal_read scale text ≡ Err f → HasFault scale text f
  fault_from_read f h = subst (Tells (StandsFor scale text) (HasFault scale text)) h told

  -- what the text stands for is read
  pub read_from_stands : (out : Parts) → StandsFor scale text out → yal_read scale text ≡ Ok out
  unfolding parts_read
  read_from_stands out s =
      let kept = view scale s.cut in
      let shut = ap (λ (rest : Rest). not (is_some (open_view scale rest))) s.ended.1 in
      let blocks = same_blocks scale text s.cut s.is_cut s.ended s.parent ∙ all_read scale (modules s.cut) s.parent (instances_of s.cut) out.blocks s.blocks in
      let parts : parts_by kept (Some s.parent) ≡ Ok out = rw blocks (λ i. Ok (record { blocks = out.blocks; pads = sym s.pads i; nets = sym s.nets i; strangers = sym s.strangers i; pads_in = sym s.pads_in i })) in
      read_cut s.cut s.is_cut ∙ rw (s.ended.0, shut, s.parent_is) parts

  -- the first fault of the text is read
  pub read_from_fault : (f : YalFault) → HasFault scale text f → yal_read scale text ≡ Err f
  unfolding yal_read
  read_from_fault f (inl first) =
      ap (λ (read : Result Reading YalFault). read >>= parts_read (last_line text) (is_ended text)) (words_alone scale start (statements_of text) ∙ first_fault_read scale all f first)
  read_from_fault f (inr end) = read_cut end.0 end.1 ∙ fault_end scale text end.0 end.1 f end.2

  -- a text stands for at most one output
  pub stands_once_only : (a b : Parts) → StandsFor scale text a → StandsFor scale text b → a ≡ b
  stands_once_only a b p q = ok_is b a (sym (read_from_stands b q) ∙ read_from_stands a p)

  -- and has at most one first fault
  pub one_fault : (f g : YalFault) → HasFault scale text f → HasFault scale text g → f ≡ g
  one_fault f g p q = err_is {A = Parts} g f (sym (read_from_fault g q) ∙ read_from_fault f p)

  -- and not both
  pub not_both : (out : Parts) (f : YalFault) → StandsFor scale text out → HasFault scale text f → ⊥
  not_both out f p q = ok_not_err out f (sym (read_from_stands out p) ∙ read_from_fault f q)
