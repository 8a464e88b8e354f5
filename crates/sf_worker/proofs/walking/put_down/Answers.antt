use Rattle.std.proofs.Common.{◌≡◌, ap, sym, ◌∙◌, refl, true, false, MatchOption, Option, Some, None}
use Rattle.sf_worker.proofs.Common.{Stretch, HandView, rest_at}
use Rattle.sf_worker.proofs.walking.put_down.Goals as goal

-- what is left of the hand's stretch
rest-of : (hand : HandView) (rest : Option Stretch) → MatchOption rest (hand.more ≡ false) (λ r. (hand.more ≡ true) × (r ≡ record { cursor = hand.path; floor = hand.floor })) → rest ≡ rest_at hand.more hand.path hand.floor
rest-of hand None e = sym (ap (λ m. rest_at m hand.path hand.floor) e)
rest-of hand (Some r) e = ap Some e.1 ∙ sym (ap (λ m. rest_at m hand.path hand.floor) e.0)

pub returns : goal.returns
returns g c =
    let e = c.into_parts-piece.ensures in
    record {
      piece = c.into_parts-piece.result.0;
      log = c.in_ok-push.ensures.items;
      first = e.first;
      tags = e.tags;
      values = e.kept;
      rest_is = rest-of c.args.hand _ e.rest;
      frame = refl;
    }
