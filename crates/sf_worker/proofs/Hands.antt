-- One visit, and one cut, of a stretch in hand.
use Rattle.std.proofs.Common.{◌≡◌, ℕ, ◌+◌, ◌<◌, ◌≤◌, min, [], ◌∷◌, ◌++◌, length, map, refl, ap, sym, subst, ◌∙◌, arith, true, false, append-nil, append_assoc}
use Rattle.sf_worker.proofs.Common.{map-append, Design, Parts, root, walk, IsSubproblem, behind, pending, Mark, Tag, made, marks, waiting_after, least, open_mark, Stretch, IsStretch, waits, HandView, IsHand, IsStart, IsFollowed, IsLeftOpen, IsParted, left_of, whole_of, marks_of}
use Rattle.sf_certificate.specs.declared.tag.Tag.TheVariants.{Open}
use Rattle.sf_certificate.proofs.AfterTags.{least-min, marks-more, waiting-more}
use Rattle.sf_cursor.specs.Path.{IsPath, IsParted as IsCut, beyond, waiting}

-- a tag was put down
pub followed : (design : Design) (bound : Parts → ℕ) (old new : HandView) (tag : Tag) → IsHand design bound old → old.more ≡ true → new.first ≡ old.first → new.floor ≡ old.floor → new.tags ≡ old.tags ++ tag ∷ []
    → IsPath design bound new.path → waiting design old.floor new.more new.path.node ≡ made tag old.path.node ++ beyond old.floor (root design) old.path.node.steps
    → (new.more ≡ true → old.floor ≤ length new.path.node.steps) → (new.more ≡ true → pending design true new.path.node ≡ made tag old.path.node ++ behind (root design) old.path.node.steps)
    → IsFollowed design bound old tag new
followed design bound old new tag hand more first floor tags at next above whole =
    let then = hand.then more in
    let start : whole_of design new ≡ whole_of design old = ap (λ ss. pending design true (walk (root design) ss)) first in
    let longer : marks_of design new ≡ marks (whole_of design old) (old.tags ++ tag ∷ []) = ap (λ ns. marks ns new.tags) start ∙ ap (marks (whole_of design old)) tags in
    let waiting_then : waiting_after (whole_of design new) new.tags ≡ made tag old.path.node ++ behind (root design) old.path.node.steps =
    ap (λ ns. waiting_after ns new.tags) start ∙ ap (waiting_after (whole_of design old)) tags ∙ waiting-more (whole_of design old) old.tags old.path.node (behind (root design) old.path.node.steps) tag then in
    let mark : Mark = record { node = old.path.node; tag = tag } in
    let marks_are : marks_of design new ≡ marks_of design old ++ mark ∷ [] = longer ∙ marks-more (whole_of design old) old.tags old.path.node (behind (root design) old.path.node.steps) tag then in
    record {
      hand_is = record {
        at = at;
        sub = subst (λ ss. IsSubproblem design (walk (root design) ss)) (sym first) hand.sub;
        above = λ e. subst (λ f. f ≤ length new.path.node.steps) (sym floor) (above e);
        then = λ e. waiting_then ∙ sym (whole e);
        read = ap (map (λ (m : Mark). m.tag)) marks_are ∙ map-append (λ (m : Mark). m.tag) (marks_of design old) (mark ∷ []) ∙ ap (λ ts. ts ++ tag ∷ []) hand.read ∙ sym tags;
      };
      marks_are = marks_are;
      left = ap (λ f. waiting design f new.more new.path.node) floor ∙ next;
      same = (first, floor);
    }

-- what waits on the shallowest level was given away
pub parted : (design : Design) (bound : Parts → ℕ) (old new : HandView) (given : Stretch) (level : ℕ) → IsHand design bound old → old.more ≡ true → new ≡ record old { floor = level } → given.floor ≡ old.floor → IsCut design bound old.floor old.path given.cursor level → IsParted design bound old new given
parted design bound old new given level hand more is floor cut =
    subst (λ z. IsParted design bound old z given) (sym is)
    (record {
      hand_is = record { at = hand.at; sub = hand.sub; above = λ e. cut.keeps; then = hand.then; read = hand.read };
      marks_are = refl;
      kept = refl;
      more = more;
      given_is = record { at = cut.at; above = subst (λ f. f ≤ length given.cursor.node.steps) (sym floor) cut.lower };
      cut = ap (λ m. waiting design old.floor m old.path.node) more ∙ cut.cut ∙ ap (λ m. waiting design level m old.path.node ++ waiting design old.floor true given.cursor.node) (sym more)
          ∙ ap (λ f. waiting design level old.more old.path.node ++ waiting design f true given.cursor.node) (sym floor);
    })

-- before the first visit
pub started : (design : Design) (bound : Parts → ℕ) (stretch : Stretch) (hand : HandView) → IsStretch design bound stretch → hand ≡ record { path = stretch.cursor; floor = stretch.floor; more = true; first = stretch.cursor.node.steps; tags = []; kept = [] } → IsStart design bound stretch hand
started design bound stretch hand s is =
    subst (IsStart design bound stretch) (sym is)
    (record {
      hand_is = record {
        at = s.at;
        sub = subst (IsSubproblem design) s.at.sub.is s.at.sub;
        above = λ e. s.above;
        then = λ e. ap (pending design true) (sym s.at.sub.is);
        read = refl;
      };
      left = refl;
      node = refl;
      none = refl;
      kept = refl;
      more = refl;
      same = (refl, refl);
    })

-- one subproblem more is left open
module _ (design : Design) (bound : Parts → ℕ) (old new : HandView) (more : old.more ≡ true) (f : IsFollowed design bound old Open new) where
  -- what is visited, and what is left as open, is the same before and after
  pub opened-marks : marks_of design new ++ map open_mark (left_of design new) ≡ marks_of design old ++ map open_mark (left_of design old)
  opened-marks =
      ap (λ ms. ms ++ map open_mark (left_of design new)) f.marks_are ∙ append_assoc (marks_of design old) (open_mark old.path.node ∷ []) (map open_mark (left_of design new))
      ∙ ap (λ ns. marks_of design old ++ (open_mark old.path.node ∷ map open_mark ns)) f.left ∙ ap (λ b. marks_of design old ++ map open_mark (waiting design old.floor b old.path.node)) (sym more)

  -- the least of a number and the bounds of what is left stays, where that of the one left open is taken in
  pub opened-low : (low value next : ℕ) → value ≡ bound old.path.node → next ≡ min low value → least next (map bound (left_of design new)) ≡ least low (map bound (left_of design old))
  opened-low low value next e k =
      let rest = beyond old.floor (root design) old.path.node.steps in
      ap (λ n. least n (map bound (left_of design new))) k ∙ ap (λ ns. least (min low value) (map bound ns)) f.left ∙ least-min low value (map bound rest)
      ∙ ap (λ x. min x (least low (map bound rest))) e ∙ ap (λ b. least low (map bound (waiting design old.floor b old.path.node))) (sym more)

  -- there is less left
  pub opened-less : length (left_of design new) < length (left_of design old)
  opened-less =
      let a = ap length f.left in
      let b = ap (λ m. length (waiting design old.floor m old.path.node)) more in
      omega (arith, a, b)

-- where nothing is left, all was left open
pub opened-all : (design : Design) (bound : Parts → ℕ) (low low' : ℕ) (old new : HandView) → new.more ≡ false → IsHand design bound new → marks_of design new ++ map open_mark (left_of design new) ≡ marks_of design old ++ map open_mark (left_of design old)
    → least low' (map bound (left_of design new)) ≡ least low (map bound (left_of design old)) → new.kept ≡ old.kept → IsLeftOpen design bound low old new low'
opened-all design bound low low' old new none hand marked lowest kept =
    let left : left_of design new ≡ [] = ap (λ m. waiting design new.floor m new.path.node) none in
    record {
      hand_is = hand;
      marks_are = sym (append-nil (marks_of design new)) ∙ ap (λ ns. marks_of design new ++ map open_mark ns) (sym left) ∙ marked;
      kept = kept;
      lowest = ap (λ ns. least low' (map bound ns)) (sym left) ∙ lowest;
    }
