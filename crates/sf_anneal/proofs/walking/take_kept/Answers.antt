use Rattle.std.proofs.Common.{subst, sym, ap}
use Rattle.sf_anneal.proofs.Common.{IsReady, Visit}
use Rattle.sf_anneal.proofs.KeptParts.{kept-ready}
use Rattle.sf_anneal.proofs.walking.take_kept.Goals as goal

pub returns-then-next-saturating_add-clause-ready : goal.returns-then-next-saturating_add-clause-ready
returns-then-next-saturating_add-clause-ready c design normal ready found =
    subst (IsReady design c.keep.new.self) (sym (ap (λ (v : Visit). v.0) c.take.ensures))
    (kept-ready design c.args.parts.now c.keep.new.self c.args.now.now.tokens.items c.args.next.now.tokens.items normal.whole ready found c.keep.ensures.room c.keep.ensures.blocks c.keep.ensures.before c.keep.ensures.curves)
