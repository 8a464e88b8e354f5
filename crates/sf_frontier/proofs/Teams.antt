-- Rings of deques, opened at one worker, and what is left of a team, one deque at a time.
use Rattle.std.proofs.Common.{◌≡◌, ℕ, ◌<◌, ◌≤◌, List, [], ◌∷◌, ◌++◌, length, drop, reverse, map, All, sym, ap, ◌∙◌, subst, refl, arith, length-append, append-nil, append_assoc, inl, inr, sum_by, flat_map}
use Rattle.sf_frontier.proofs.Common.{sum_by-append, sum_by-cons, All-push, All-head, All-nil, All-cons, Stretch, Deque, OwnerView, ThiefView, with_stolen, IsDrained, SameTasks, thief_deques_of, turned, owners_of, deques_of, preys_of, stolen_by, AreSettled, IsTeam, IsFinished, IsNewOwner, IsNewThief, IsNewPlace, HasSlots, Place}
use Rattle.std.proofs.lemmas.List.{nil_from_length, map-append, reverse-append, same_from_push}
pub use Rattle.sf_frontier.proofs.Steps.{all_front}
use Rattle.sf_frontier.proofs.Steps.{all_back}

module _ {A : Type 0} where
  -- what holds of all elements holds of the last one
  pub all_last : (P : A → Type 0) (xs : List A) (x : A) → All P (xs ++ x ∷ []) → P x
  all_last P xs x h = All-head P x [] (all_back P xs (x ∷ []) h)

  -- the first of a list, or d where there is none
  abbrev pub first_or : A → List A → A
  first_or d [] = d
  first_or d (x ∷ xs) = x

  -- without its first element a list of two or more still ends as before
  drop_snoc : (xs : List A) (x y : A) → drop 1 ((xs ++ x ∷ []) ++ y ∷ []) ≡ drop 1 (xs ++ x ∷ []) ++ y ∷ []
  drop_snoc [] x y = refl
  drop_snoc (z ∷ xs) x y = refl

  -- the first of a list with one element behind is the first of the list, or that element where it has none
  first_snoc : (xs : List A) (x y : A) → first_or y (xs ++ x ∷ []) ≡ first_or x xs
  first_snoc xs x y = grind arith

  -- a list with its first element put last ends with this one
  turned_snoc : (xs : List A) (x : A) → turned (xs ++ x ∷ []) ≡ drop 1 (xs ++ x ∷ []) ++ first_or x xs ∷ []
  turned_snoc xs x = grind arith

  -- the list of this one alone
  abbrev one : A → List A
  one x = x ∷ []

  -- what is taken last first from the end of a list
  pub last-first : (all stack less more : List A) (x : A) → all ≡ stack ++ reverse more → stack ≡ less ++ x ∷ [] → all ≡ less ++ reverse (more ++ x ∷ [])
  last-first all stack less more x e last =
      e ∙ (ap (λ (l : List A). l ++ reverse more) last ∙ (append_assoc less (x ∷ []) (reverse more) ∙ ap (λ (l : List A). less ++ l) (sym (reverse-append more (x ∷ [])))))

-- one thief, on this deque
pub one_thief : (rest ts : List ThiefView) (t : ThiefView) (d : Deque) → ts ≡ rest ++ t ∷ [] → thief_deques_of ts ≡ d ∷ [] → (ts ≡ t ∷ []) × (t.deque ≡ d)
one_thief [] ts t d e h = (e, (let same : t.deque ∷ [] ≡ d ∷ [] = ap thief_deques_of (sym e) ∙ h in cc))
one_thief (r ∷ rest) ts t d e h =
    let n = ap length (ap thief_deques_of (sym e) ∙ h) in
    absurd (omega (arith, n, ap length (map-append (λ (x : ThiefView). x.deque) rest (t ∷ [])), length-append (map (λ (x : ThiefView). x.deque) rest) (t.deque ∷ [])))

-- a new deque, with its owner and its thief
pub record IsNewPair (o : OwnerView) (t : ThiefView) : Type 0 where
  pub deque : t.deque ≡ o.deque
  pub parts : o.deque.parts ≡ 2
  pub owner : IsNewOwner o
  pub thief : IsNewThief t

-- an owner that was alone and gave its front away is, with the thief that has it, a new pair
pub new-pair : (lone o : OwnerView) (t : ThiefView) → IsNewOwner lone → o ≡ record lone { deque = record lone.deque { parts = 2 }; stack = drop (length lone.stolen) lone.stack; stolen = [] } → t ≡ record { deque = record lone.deque { parts = 2 }; taken = []; empty_takes = 0 } → IsNewPair o t
new-pair lone o t new eo et = record {
  deque = ap (λ (x : ThiefView). x.deque) et ∙ sym (ap (λ (x : OwnerView). x.deque) eo);
  parts = ap (λ (x : OwnerView). x.deque.parts) eo;
  owner = (ap (λ (x : OwnerView). x.put) eo ∙ new.0, ap (λ (x : OwnerView). x.taken) eo ∙ new.1, ap (λ (x : OwnerView). x.empty_takes) eo ∙ new.2, ap (λ (x : OwnerView). x.refused_puts) eo ∙ new.3, ap (λ (x : OwnerView). x.stack) eo ∙ (ap (λ (zs : List Stretch). drop (length zs) lone.stack) new.5 ∙ new.4), ap (λ (x : OwnerView). x.stolen) eo);
  thief = (ap (λ (x : ThiefView). x.taken) et, ap (λ (x : ThiefView). x.empty_takes) et);
}

module _ {T : Type 0} where
  -- of a ring the workers before one with the deque d: each has a thief on the next deque, and the first deque is this
  pub record IsOpenRing (ps : List (Place T)) (d first : Deque) : Type 0 where
    pub preys : preys_of ps ≡ map (λ x. x ∷ []) (drop 1 (deques_of ps ++ d ∷ []))
    pub first_is : first ≡ first_or d (deques_of ps)

  -- the deques on which a worker has thieves
  abbrev prey : Place T → List Deque
  prey p = thief_deques_of p.thieves.items

  -- the deque of a worker
  abbrev deque : Place T → Deque
  deque p = p.owner.deque

  -- before the first worker the ring is open at its deque
  pub ring-start : (d : Deque) → IsOpenRing [] d d
  ring-start d = record { preys = refl; first_is = refl }

  -- a worker with a thief on the next deque makes the open ring longer by one
  pub ring-more : (ps : List (Place T)) (p : Place T) (d first next : Deque) → IsOpenRing ps d first → p.owner.deque ≡ d → prey p ≡ next ∷ [] → IsOpenRing (ps ++ p ∷ []) next first
  ring-more ps p d first next r here there =
      let ds : deques_of (ps ++ p ∷ []) ≡ deques_of ps ++ d ∷ [] = map-append deque ps (p ∷ []) ∙ ap (λ x. deques_of ps ++ x ∷ []) here in
      record {
        preys =
            map-append prey ps (p ∷ [])
            ∙ ((λ i. r.preys i ++ there i ∷ [])
            ∙ (sym (map-append (λ (x : Deque). x ∷ []) (drop 1 (deques_of ps ++ d ∷ [])) (next ∷ []))
            ∙ (ap (map (λ (x : Deque). x ∷ [])) (sym (drop_snoc (deques_of ps) d next))
            ∙ ap (λ zs. map (λ (x : Deque). x ∷ []) (drop 1 (zs ++ next ∷ []))) (sym ds))));
        first_is = r.first_is ∙ (sym (first_snoc (deques_of ps) d next) ∙ ap (first_or next) (sym ds));
      }

  -- a last worker with its thief on the first deque closes the ring
  pub ring-closed : (ps : List (Place T)) (p : Place T) (d first : Deque) → IsOpenRing ps d first → p.owner.deque ≡ d → prey p ≡ first ∷ [] → preys_of (ps ++ p ∷ []) ≡ map (λ x. x ∷ []) (turned (deques_of (ps ++ p ∷ [])))
  ring-closed ps p d first r here there =
      let ds : deques_of (ps ++ p ∷ []) ≡ deques_of ps ++ d ∷ [] = map-append deque ps (p ∷ []) ∙ ap (λ x. deques_of ps ++ x ∷ []) here in
      map-append prey ps (p ∷ [])
      ∙ ((λ i. r.preys i ++ (there ∙ ap (λ x. x ∷ []) r.first_is) i ∷ [])
      ∙ (sym (map-append (λ (x : Deque). x ∷ []) (drop 1 (deques_of ps ++ d ∷ [])) (first_or d (deques_of ps) ∷ []))
      ∙ (ap (map (λ (x : Deque). x ∷ [])) (sym (turned_snoc (deques_of ps) d))
      ∙ ap (λ zs. map (λ (x : Deque). x ∷ []) (turned zs)) (sym ds))))

  -- a closed ring without its last worker is open, and this one has its thief on the first deque
  pub ring-opened : (ps : List (Place T)) (p : Place T) → preys_of (ps ++ p ∷ []) ≡ map (λ x. x ∷ []) (turned (deques_of (ps ++ p ∷ [])))
      → (prey p ≡ first_or p.owner.deque (deques_of ps) ∷ []) × IsOpenRing ps p.owner.deque (first_or p.owner.deque (deques_of ps))
  ring-opened ps p e =
      let d = p.owner.deque in
      let first = first_or d (deques_of ps) in
      let both : preys_of ps ++ prey p ∷ [] ≡ map (λ x. x ∷ []) (drop 1 (deques_of ps ++ d ∷ [])) ++ (first ∷ []) ∷ [] =
      sym (map-append prey ps (p ∷ [])) ∙ (e ∙ (ap (λ zs. map (λ (x : Deque). x ∷ []) (turned zs)) (map-append deque ps (p ∷ []))
      ∙ (ap (map (λ (x : Deque). x ∷ [])) (turned_snoc (deques_of ps) d) ∙ map-append (λ (x : Deque). x ∷ []) (drop 1 (deques_of ps ++ d ∷ [])) (first ∷ [])))) in
      let same = same_from_push _ _ (prey p) (first ∷ []) both in
      (same.1, record { preys = same.0; first_is = refl })

  -- without its last worker an open ring is open at this one's deque, where the worker had its thief on the
  -- next one
  pub ring-less : (ps : List (Place T)) (p : Place T) (d first : Deque) → IsOpenRing (ps ++ p ∷ []) d first → (prey p ≡ d ∷ []) × IsOpenRing ps p.owner.deque first
  ring-less ps p d first r =
      let here = p.owner.deque in
      let ds : deques_of (ps ++ p ∷ []) ≡ deques_of ps ++ here ∷ [] = map-append deque ps (p ∷ []) in
      let both : preys_of ps ++ prey p ∷ [] ≡ map (λ x. x ∷ []) (drop 1 (deques_of ps ++ here ∷ [])) ++ (d ∷ []) ∷ [] =
      sym (map-append prey ps (p ∷ [])) ∙ (r.preys ∙ (ap (λ zs. map (λ (x : Deque). x ∷ []) (drop 1 (zs ++ d ∷ []))) ds
      ∙ (ap (map (λ (x : Deque). x ∷ [])) (drop_snoc (deques_of ps) here d) ∙ map-append (λ (x : Deque). x ∷ []) (drop 1 (deques_of ps ++ here ∷ [])) (d ∷ [])))) in
      let same = same_from_push _ _ (prey p) (d ∷ []) both in
      (same.1, record { preys = same.0; first_is = r.first_is ∙ (ap (first_or d) ds ∙ first_snoc (deques_of ps) here d) })

  -- some last deques of a ring are settled. The next one is that of the owner o, and the first one's thief is still to be joined
  pub record IsSettling (places ps : List (Place T)) (o : OwnerView) (first : ThiefView) (left : List Stretch) : Type 0 where
    pub done : List OwnerView
    pub stolen : List (List Stretch)
    pub rests : List (List Stretch)
    pub owners_are : owners_of places ≡ owners_of ps ++ o ∷ done
    pub stolen_are : map stolen_by places ≡ map stolen_by ps ++ (stolen ++ first.taken ∷ [])
    pub settled : AreSettled done stolen rests
    pub left_are : (w : Stretch → ℕ) → sum_by w left ≡ sum_by (λ rest. sum_by w rest) rests
    pub ring : IsOpenRing ps o.deque first.deque
    pub parts : All (λ place. place.owner.deque.parts ≡ 2) ps
    pub part : o.deque.parts ≡ 2

  -- what a worker with one thief stole is what this one took
  stolen_one : (p : Place T) (t : ThiefView) → p.thieves.items ≡ t ∷ [] → stolen_by p ≡ t.taken
  stolen_one p t e = ap (flat_map (λ (u : ThiefView). u.taken)) e ∙ append-nil t.taken

  -- at first no deque of a ring is settled, and the last worker's own is the next one
  pub settling-start : (places ps : List (Place T)) (last : Place T) (rest : List ThiefView) (first : ThiefView) → places ≡ ps ++ last ∷ [] → last.thieves.items ≡ rest ++ first ∷ [] → IsTeam places
      → IsSettling places ps last.owner first [] × (first.deque.parts ≡ 2)
  settling-start places ps last rest first e thieves team =
      elim team.1 [
        | inl alone ↦ (let none = ap length ((all_last (λ place. (place.owner.deque.parts ≡ 1) × (place.thieves.items ≡ [])) ps last (subst (All (λ (place : Place T). (place.owner.deque.parts ≡ 1) × (place.thieves.items ≡ []))) e alone.1)).1) in
            absurd (omega (arith, none, ap length thieves, length-append rest (first ∷ []))))
        | inr all ↦ (
            let P : Place T → Type 0 = λ place. place.owner.deque.parts ≡ 2 in
            let parts = subst (All P) e all.0 in
            let open' = ring-opened ps last (subst (λ zs. preys_of zs ≡ map (λ x. x ∷ []) (turned (deques_of zs))) e all.1) in
            let d = first_or last.owner.deque (deques_of ps) in
            let lone = one_thief rest last.thieves.items first d thieves open'.0 in (
              record {
                done = [];
                stolen = [];
                rests = [];
                owners_are = ap owners_of e ∙ map-append (λ (p : Place T). p.owner) ps (last ∷ []);
                stolen_are = ap (map stolen_by) e ∙ (map-append stolen_by ps (last ∷ []) ∙ ap (λ z. map stolen_by ps ++ z ∷ []) (stolen_one last first lone.0));
                settled = tt;
                left_are = λ w. refl;
                ring = subst (IsOpenRing ps last.owner.deque) (sym lone.1) open'.1;
                parts = all_front P ps (last ∷ []) parts;
                part = all_last P ps last parts;
              },
              first_parts ps last lone.1 parts,
            ))
      ]
    where
      first_parts : (qs : List (Place T)) (p : Place T) → first.deque ≡ first_or p.owner.deque (deques_of qs) → All (λ (place : Place T). place.owner.deque.parts ≡ 2) (qs ++ p ∷ []) → first.deque.parts ≡ 2
      first_parts [] p e h = ap (λ (x : Deque). x.parts) e ∙ All-head (λ (place : Place T). place.owner.deque.parts ≡ 2) p [] h
      first_parts (q ∷ qs) p e h = ap (λ (x : Deque). x.parts) e ∙ All-head (λ (place : Place T). place.owner.deque.parts ≡ 2) q (qs ++ p ∷ []) h

  -- the owner's deque is settled, and the place before it is the next
  pub settling-more : (places ps qs : List (Place T)) (p : Place T) (o : OwnerView) (first t : ThiefView) (rest : List ThiefView) (all : OwnerView) (before more after : List Stretch)
      → qs ≡ ps ++ p ∷ [] → IsSettling places qs o first before → p.thieves.items ≡ rest ++ t ∷ [] → all ≡ with_stolen o t.taken → IsDrained all more → after ≡ before ++ more
      → IsSettling places ps p.owner first after
  settling-more places ps qs p o first t rest all before more after e s thieves is drained ea =
      let P : Place T → Type 0 = λ place. place.owner.deque.parts ≡ 2 in
      let parts = subst (All P) e s.parts in
      let less = ring-less ps p o.deque first.deque (subst (λ zs. IsOpenRing zs o.deque first.deque) e s.ring) in
      let lone = one_thief rest p.thieves.items t o.deque thieves less.0 in
      record {
        done = o ∷ s.done;
        stolen = t.taken ∷ s.stolen;
        rests = more ∷ s.rests;
        owners_are = s.owners_are ∙ (ap (λ zs. owners_of zs ++ o ∷ s.done) e ∙ (ap (λ zs. zs ++ o ∷ s.done) (map-append (λ (x : Place T). x.owner) ps (p ∷ [])) ∙ append_assoc (owners_of ps) (p.owner ∷ []) (o ∷ s.done)));
        stolen_are = s.stolen_are ∙ (ap (λ zs. map stolen_by zs ++ (s.stolen ++ first.taken ∷ [])) e
            ∙ (ap (λ zs. zs ++ (s.stolen ++ first.taken ∷ [])) (map-append stolen_by ps (p ∷ []) ∙ ap (λ z. map stolen_by ps ++ z ∷ []) (stolen_one p t lone.0))
            ∙ append_assoc (map stolen_by ps) (t.taken ∷ []) (s.stolen ++ first.taken ∷ [])));
        settled = (subst (λ x. IsDrained x more) is drained, s.settled);
        left_are = λ w. omega (arith, s.left_are w, ap (sum_by w) ea, sum_by-append w before more, sum_by-cons (λ (r : List Stretch). sum_by w r) more s.rests);
        ring = less.1;
        parts = all_front P ps (p ∷ []) parts;
        part = all_last P ps p parts;
      }

  -- the worker before has its thief on the deque that is settled next
  pub settling-thief : (places ps qs : List (Place T)) (p : Place T) (o : OwnerView) (first t : ThiefView) (rest : List ThiefView) (before : List Stretch)
      → qs ≡ ps ++ p ∷ [] → IsSettling places qs o first before → p.thieves.items ≡ rest ++ t ∷ [] → (o.deque.parts ≡ 2) × (t.deque ≡ o.deque)
  settling-thief places ps qs p o first t rest before e s thieves =
      let less = ring-less ps p o.deque first.deque (subst (λ zs. IsOpenRing zs o.deque first.deque) e s.ring) in
      (s.part, (one_thief rest p.thieves.items t o.deque thieves less.0).1)

  -- each worker of an opened ring has a thief
  pub settling-some : (places ps qs : List (Place T)) (p : Place T) (o : OwnerView) (first : ThiefView) (before : List Stretch)
      → qs ≡ ps ++ p ∷ [] → IsSettling places qs o first before → 0 < length p.thieves.items
  settling-some places ps qs p o first before e s =
      let less = ring-less ps p o.deque first.deque (subst (λ zs. IsOpenRing zs o.deque first.deque) e s.ring) in
      omega (arith, ap length less.0, length-map' p.thieves.items)
    where
      length-map' : (ts : List ThiefView) → length (thief_deques_of ts) ≡ length ts
      length-map' [] = refl
      length-map' (t ∷ ts) = omega (arith, length-map' ts)

  -- where all deques are settled the team is finished
  pub settling-done : (places ps : List (Place T)) (o : OwnerView) (first : ThiefView) (all : OwnerView) (before more after : List Stretch)
      → ps ≡ [] → IsSettling places ps o first before → all ≡ with_stolen o first.taken → IsDrained all more → after ≡ before ++ more → IsFinished places after
  settling-done places ps o first all before more after none s is drained ea =
      record {
        stolen = first.taken ∷ s.stolen;
        rests = more ∷ s.rests;
        thieves = s.stolen_are ∙ ap (λ zs. map stolen_by zs ++ (s.stolen ++ first.taken ∷ [])) none;
        settled = subst (λ zs. AreSettled zs (first.taken ∷ s.stolen) (more ∷ s.rests)) (sym (s.owners_are ∙ ap (λ zs. owners_of zs ++ o ∷ s.done) none))
            (subst (λ x. IsDrained x more) is drained, s.settled);
        left_are = λ w. omega (arith, s.left_are w, ap (sum_by w) ea, sum_by-append w before more, sum_by-cons (λ (r : List Stretch). sum_by w r) more s.rests);
      }

  -- a worker alone
  pub lone-part : (places ps : List (Place T)) (last : Place T) → places ≡ ps ++ last ∷ [] → length last.thieves.items ≡ 0 → IsTeam places → last.owner.deque.parts ≡ 1
  lone-part places ps last e none team =
      elim team.1 [
        | inl alone ↦ (all_last (λ place. (place.owner.deque.parts ≡ 1) × (place.thieves.items ≡ [])) ps last (subst (All (λ (place : Place T). (place.owner.deque.parts ≡ 1) × (place.thieves.items ≡ []))) e alone.1)).0
        | inr all ↦ (let open' = ring-opened ps last (subst (λ zs. preys_of zs ≡ map (λ x. x ∷ []) (turned (deques_of zs))) e all.1) in absurd (no_thief last.thieves.items none open'.0))
      ]
    where
      no_thief : {d : Deque} (ts : List ThiefView) → length ts ≡ 0 → thief_deques_of ts ≡ d ∷ [] → ⊥
      no_thief [] n e = omega (arith, ap length e)
      no_thief (t ∷ ts) n e = omega (arith, n)

  -- a worker alone that has drained its deque is a finished team
  pub lone-done : (places ps : List (Place T)) (last : Place T) (more left : List Stretch) → places ≡ ps ++ last ∷ [] → length last.thieves.items ≡ 0 → IsTeam places
      → IsDrained last.owner more → left ≡ more → IsFinished places left
  lone-done places ps last more left e none team drained is =
      elim team.1 [
        | inl alone ↦ (
            let no : ps ≡ [] = nil_from_length ps (let n = ap length e in omega (arith, alone.0, n, length-append ps (last ∷ []))) in
            let one : places ≡ last ∷ [] = e ∙ ap (λ zs. zs ++ last ∷ []) no in
            let empty : stolen_by last ≡ [] = ap (flat_map (λ (u : ThiefView). u.taken)) (nil_from_length last.thieves.items none) in
            record {
              stolen = [] ∷ [];
              rests = more ∷ [];
              thieves = ap (map stolen_by) one ∙ ap (λ z. z ∷ []) empty;
              settled = subst (λ zs. AreSettled zs ([] ∷ []) (more ∷ [])) (sym (ap owners_of one)) (alone_joined last.owner more drained, tt);
              left_are = λ w. omega (arith, ap (sum_by w) is, sum_by-cons (λ (r : List Stretch). sum_by w r) more []);
            })
        | inr all ↦ absurd (let p = lone-part places ps last e none team in let q = all_last (λ place. place.owner.deque.parts ≡ 2) ps last (subst (All (λ (place : Place T). place.owner.deque.parts ≡ 2)) e all.0) in omega (arith, p, q))
      ]
    where
      alone_joined : (o : OwnerView) (more : List Stretch) → IsDrained o more → IsDrained (with_stolen o []) more
      alone_joined o more d = (subst (λ zs. SameTasks o.put (zs ++ more)) (sym (append-nil o.taken)) d.0, d.1 ∙ ap (λ (zs : List Stretch). zs ++ reverse more) (sym (append-nil o.stolen)))

  -- the workers before the owner o, whose places are made
  pub record IsGrowing (ps : List (Place T)) (o : OwnerView) (first : Deque) : Type 0 where
    pub ring : IsOpenRing ps o.deque first
    pub part : o.deque.parts ≡ 2
    pub owner : IsNewOwner o
    pub parts : All (λ place. place.owner.deque.parts ≡ 2) ps
    pub new : All IsNewPlace ps

  -- at first no place is made, and the owner of the first deque is new
  pub growing-start : (o : OwnerView) (first : Deque) → o.deque ≡ first → o.deque.parts ≡ 2 → IsNewOwner o → IsGrowing [] o first
  growing-start o first e part new = record { ring = subst (IsOpenRing [] o.deque) e (ring-start o.deque); part = part; owner = new; parts = All-nil (λ (place : Place T). place.owner.deque.parts ≡ 2); new = All-nil IsNewPlace }

  -- a place with the next pair's thief makes the growing ring longer by one
  pub growing-more : (ps qs : List (Place T)) (p : Place T) (o next : OwnerView) (t : ThiefView) (first : Deque) → qs ≡ ps ++ p ∷ [] → IsGrowing ps o first → p.owner ≡ o → p.thieves.items ≡ t ∷ [] → IsNewPair next t → IsGrowing qs next first
  growing-more ps qs p o next t first e h eo et pair =
      let P : Place T → Type 0 = λ place. place.owner.deque.parts ≡ 2 in
      subst (λ zs. IsGrowing zs next first) (sym e) (record {
        ring = ring-more ps p o.deque first next.deque h.ring (ap (λ (x : OwnerView). x.deque) eo) (ap thief_deques_of et ∙ ap (λ d. d ∷ []) pair.deque);
        part = pair.parts;
        owner = pair.owner;
        parts = All-push P ps p h.parts (ap (λ (x : OwnerView). x.deque.parts) eo ∙ h.part);
        new = All-push IsNewPlace ps p h.new (new-place p o t eo et h.owner pair.thief);
      })
    where
      new-place : (p : Place T) (o : OwnerView) (t : ThiefView) → p.owner ≡ o → p.thieves.items ≡ t ∷ [] → IsNewOwner o → IsNewThief t → IsNewPlace p
      new-place p o t eo et new thief = (subst IsNewOwner (sym eo) new, subst (All IsNewThief) (sym et) (All-cons IsNewThief t [] thief (All-nil IsNewThief)))

  -- the ring is closed by the last worker's place, which has the first deque's thief
  pub growing-closed : (ps qs : List (Place T)) (p : Place T) (o : OwnerView) (t : ThiefView) → qs ≡ ps ++ p ∷ [] → IsGrowing ps o t.deque → p.owner ≡ o → p.thieves.items ≡ t ∷ [] → IsNewThief t → IsTeam qs × All IsNewPlace qs
  growing-closed ps qs p o t e h eo et new =
      let P : Place T → Type 0 = λ place. place.owner.deque.parts ≡ 2 in
      subst (λ zs. IsTeam zs × All IsNewPlace zs) (sym e) (
        (
          omega (arith, length-append ps (p ∷ [])),
          inr (
            All-push P ps p h.parts (ap (λ (x : OwnerView). x.deque.parts) eo ∙ h.part),
            ring-closed ps p o.deque t.deque h.ring (ap (λ (x : OwnerView). x.deque) eo) (ap thief_deques_of et),
          ),
        ),
        All-push IsNewPlace ps p h.new (subst IsNewOwner (sym eo) h.owner, subst (All IsNewThief) (sym et) (All-cons IsNewThief t [] new (All-nil IsNewThief))),
      )

  -- a place whose owner's deque has so many slots joins those that have
  pub slots-more : (slots : ℕ) (ps qs : List (Place T)) (p : Place T) (o : OwnerView) → qs ≡ ps ++ p ∷ [] → All (HasSlots slots) ps → p.owner ≡ o → slots ≤ o.deque.first_slots → All (HasSlots slots) qs
  slots-more slots ps qs p o e all eo wide = subst (All (HasSlots slots)) (sym e) (All-push (HasSlots slots) ps p all (subst (λ (x : OwnerView). slots ≤ x.deque.first_slots) (sym eo) wide))
