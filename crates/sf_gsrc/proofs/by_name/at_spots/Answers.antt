use Rattle.std.proofs.Common.{◌∙◌}
use Rattle.sf_gsrc.proofs.Names.{one_pad_more}
use Rattle.sf_gsrc.proofs.by_name.at_spots.Goals as goal

pub loop-name-preserved : goal.loop-name-preserved
loop-name-preserved c = λ places is.
    one_pad_more places _ c.in-Some.name _ _ _ (c.loop-name.invariant places is) c.in_ok-push.ensures.items
    (c.get-place.ensures ∙ rw c.as_bytes.ensures.value (is c.in-Some.name))
