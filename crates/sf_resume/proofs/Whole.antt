-- A search that went on from a certificate, as a whole.
use Rattle.std.proofs.Common.{◌≡◌, ◌≢◌, ℕ, ◌<◌, ◌≤◌, List, [], ◌∷◌, ◌++◌, length, map, arith, refl, ap, sym, subst, ◌∙◌, Option, Some, None, append-nil}
use Rattle.sf_resume.proofs.Common.{MatchOption, sum_by, Design, Expr, Part, Parts, root, root-subproblem, IsConserved, HasCost, IsValid, decided, least, left_open, Piece, AreTold, IsApart, Cert, AllNameFirst, full_of, Stretch, all_waits, Apart, CanGraft, IsGrafted}
use Rattle.sf_model.specs.declared.TheConstants.{MAX}
use Rattle.sf_model.specs.Legal.{block_count}
use Rattle.sf_polish.specs.Writable.{IsWritable}
use Rattle.sf_rounds.specs.declared.leaving.Opened.{Opened}
use Rattle.sf_rounds.specs.declared.legs.Leg.{Leg}
use Rattle.sf_rounds.specs.declared.found.Found.{Found}
use Rattle.sf_rounds.specs.Legs.{AreLeftOpen, IsLeg}
use Rattle.sf_rounds.specs.Run.{IsBest}
use Rattle.sf_rounds.proofs.Told.{told-both}
use Rattle.sf_resume.specs.Resumed.{IsResumed}
use Rattle.sf_resume.proofs.Gone.{gone-few, left-subs}

-- the plan of a valid certificate is the best one of its cost
pub plan-best : (design : Design) (cost blocks : ℕ) (plan : Option Expr) → blocks ≡ block_count design → MatchOption plan (cost ≡ MAX) (λ expr. HasCost design expr cost) → ((expr : Expr) → plan ≡ Some expr → IsWritable blocks expr) → IsBest design cost plan
plan-best design cost blocks None e h w = h
plan-best design cost blocks (Some expr) e h w = (h, subst (λ n. IsWritable n expr) e (w expr refl))

-- the best plan of a cost is one for a certificate
pub best-planned : (design : Design) (cost : ℕ) (plan : Option Expr) → IsBest design cost plan → MatchOption plan (cost ≡ MAX) (λ expr. HasCost design expr cost × IsWritable (block_count design) expr)
best-planned design cost None h = h
best-planned design cost (Some expr) h = h

module _ (design : Design) (value : Parts → ℕ) (part : Parts → Part → ℕ) (cert : Cert) (valid : IsValid design value part cert) (nodes : ℕ) (apart : Apart) (cut : IsApart design value cert.tags apart)
    (leg : Leg) (gone : IsLeg design value part apart.stretches.items cert.cost nodes leg) (opened : Opened) (left_over : AreLeftOpen design value part leg.value leg.left.items opened) where
  -- the root alone
  abbrev one : List Parts
  one = root design ∷ []

  -- what was open
  abbrev given : List Parts
  given = left_open one cert.tags

  -- what is open now
  abbrev open_now : List Parts
  open_now = all_waits design leg.left.items

  -- what was open was decided or is left
  conserved : IsConserved value given gone.gone.entries open_now
  conserved = subst (λ ns. IsConserved value ns gone.gone.entries open_now) cut.open_are gone.gone.conserved

  -- the new pieces can be grafted on the old ones
  pub can-graft : (new : List Piece) → new ≡ leg.pieces.items ++ opened.pieces.items → CanGraft design value part cert.tags cert.cost apart.pieces.items new leg.value opened.bound gone.gone.entries open_now
  can-graft new is = record {
    trees = valid.tree;
    read = cut.read;
    told_old = cut.told;
    conserved = conserved;
    told = subst (AreTold design part leg.value gone.gone.entries open_now) (sym is)
        (subst (λ es. AreTold design part leg.value es open_now (leg.pieces.items ++ opened.pieces.items)) (append-nil gone.gone.entries)
        (told-both design part leg.value gone.gone.entries [] leg.pieces.items [] open_now opened.pieces.items gone.gone.told (left_over.told leg.value)));
    fresh = gone.gone.fresh;
    lower = gone.gone.fell;
    lowest = left_over.lowest;
  }

  -- where nothing is left the bound is the cost
  none-left : leg.left.items ≡ [] → opened.bound ≡ leg.value
  none-left e = left_over.lowest ∙ ap (λ ss. least leg.value (map value (all_waits design ss))) e

  -- some stretch is left, or none
  some-left : (P : Type 0) (ss : List Stretch) → leg.left.items ≡ ss → (leg.left.items ≡ [] → P) → (leg.left.items ≢ [] → 1 ≤ length open_now → P) → P
  some-left P [] e none some = none e
  some-left P (s ∷ ss) e none some = some (λ z. absurd (cc)) (omega (arith, ap (λ rs. length (all_waits design rs)) e))

  -- with a budget of the full counts of what was open the bound is the cost
  ended : sum_by (full_of design) given ≤ nodes → opened.bound ≡ leg.value
  ended enough =
      some-left (opened.bound ≡ leg.value) leg.left.items refl none-left
      (λ some many. absurd (omega (
        arith,
        enough,
        many,
        gone.spent some,
        gone-few design value given gone.gone.entries open_now (left-subs design part cert.cost one cert.tags valid.tree (root-subproblem design, tt)) conserved gone.gone.splits,
      )))

  -- the budget is spent where the bound is below the cost
  spent : opened.bound < leg.value → length gone.gone.entries ≡ nodes
  spent below = some-left (length gone.gone.entries ≡ nodes) leg.left.items refl (λ e. absurd (omega (arith, below, none-left e))) (λ some many. gone.spent some)

  -- what is handed over
  pub resumed : (found : Found) → IsGrafted design value part cert.tags gone.gone.entries leg.best leg.value opened.bound found.cert → found.plan ≡ leg.best → found.cost ≡ leg.value → found.bound ≡ opened.bound
      → found.decided ≡ decided found.cert.tags → IsResumed design value part cert nodes found
  resumed found g p c b d = record {
    valid = g.valid;
    blocks = g.blocks;
    plan_is = p ∙ sym g.plan_is;
    cost_is = c ∙ sym g.cost_is;
    bound_is = b ∙ sym g.bound_is;
    paths_is = g.paths_is;
    decided_is = d;
    lower = omega (arith, c, gone.gone.fell);
    few = omega (arith, d, g.counted, gone.few);
    spent = λ below. omega (arith, d, g.counted, spent (omega (arith, below, b, c)));
    ended = λ enough. b ∙ ended enough ∙ sym c;
    named = subst (λ z. AllNameFirst design part z found.cert.tags) (sym g.cost_is) g.named;
  }
