use Rattle.std.proofs.Common.{refl, sym, ap, ◌∙◌}
use Rattle.sf_gsrc.proofs.Common.{is_some, not, Blanks, first_word, PinIs}
use Rattle.sf_gsrc.proofs.nets_found.NetsFound.take_pin.Goals as goal

pub returns : goal.returns
returns c = λ past keeps.
    let open_net = ap is_some (sym keeps.degree) ∙ c.is_none.ensures ∙ ap not c.if-is_none.false in
    let name = c.in_ok-name.ensures ∙ c.split_word.ensures.word in (
      record { number = c.args.line.now.line; said = PinIs (first_word Blanks c.args.line.now.text.now) },
      rw open_net refl,
      record { count = keeps.count; degree = keeps.degree; nets = keeps.nets; pins = c.in_ok-push.ensures.items ∙ rw (keeps.pins, name) refl },
    )
