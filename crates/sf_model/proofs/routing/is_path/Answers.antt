use Rattle.std.proofs.Common.{sym, subst, ◌∙◌, All, true≢false}
use Rattle.sf_model.proofs.Common.{IsHop, hops}
use Rattle.sf_model.proofs.routing.is_path.Goals.{then-not-walks-via-then-not-walks, then-not-walks-via-else-not-walks+then-not-leads}
use Rattle.sf_model.proofs.routing.is_path.Goals as goal

pub returns-then-not-walks : goal.returns-then-not-walks
returns-then-not-walks c = (
  λ h. absurd (true≢false (sym h)),
  λ path. elim c.then-not-walks.branch [
    | then-not-walks-via-then-not-walks w ↦
        absurd (true≢false (sym (c.walks.ensures.1 (subst (λ nets. All (IsHop nets) (hops c.args.path.now)) (sym c.as_slice.ensures) path.walked)) ∙ w.if-not-walks.true))
    | then-not-walks-via-else-not-walks+then-not-leads w ↦ absurd (true≢false (sym path.leads ∙ sym w.leads.ensures ∙ w.if-not-leads.true))
  ],
)
