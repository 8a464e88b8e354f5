use Rattle.std.proofs.Common.{◌≡◌, ◌∙◌, ap, sym, subst, map, ◌∷◌, [], ◌++◌, length, Some, slice_get}
use Rattle.sf_team.proofs.Common.{arc_value, map-append, length-map, view, send_message, Work, IsCaller}
use Rattle.sf_team.proofs.Moves.{sends}
use Rattle.sf_team.proofs.Right.{after_send, caller_more, last_got}
use Rattle.sf_team.proofs.send.send_job.Goals as goal

pub send_as-requires-clause-rule : goal.send_as-requires-clause-rule
send_as-requires-clause-rule g c = (sends _ _ _ _ c.requires.caller.sends, λ items views h at. tt)

pub returns-clause-caller : goal.returns-clause-caller
returns-clause-caller g c =
    let old = map arc_value c.args.given.now.items in
    let kept = arc_value c.in_ok-kept.kept in
    let message = Work (record { number = length c.as_slice-number.result.now; job = c.args.job }) in
    let items = c.push_reserved.ensures.items ∙ ap (λ l. l ++ c.in_ok-kept.kept ∷ []) c.in_ok-reserve.ensures.items in
    let longer = ap (map arc_value) items ∙ map-append arc_value c.args.given.now.items (c.in_ok-kept.kept ∷ []) in
    let caller = subst (λ l. IsCaller l (view c.args.pass.now)) (sym longer) (caller_more old (kept ∷ []) (view c.args.pass.now) c.requires.caller) in
    let size = ap length c.as_slice-number.ensures.value ∙ sym (length-map c.args.given.now.items arc_value) in
    let at = ap (λ l. slice_get l (length c.as_slice-number.result.now)) longer ∙ ap (slice_get (old ++ kept ∷ [])) size ∙ last_got old kept ∙ ap (λ j. Some j) c.in_ok-kept.ensures in
    after_send (map arc_value c.push_reserved.new.self.items) (view c.args.pass.now) (view c.send_as.new.pass) message (λ e. send_message e ≡ message) c.send_as.result caller at c.send_as.ensures.rule
