use Rattle.std.proofs.Common.{◌≡◌, ◌≢◌, arith, [], sym, ◌∙◌}
use Rattle.sf_words.proofs.Common.{map_more, Format, token_of}
use Rattle.sf_words.specs.declared.settings.Setting.{Setting}
use Rattle.sf_words.specs.declared.settings.Setting.TheVariants.{Attached}
use Rattle.sf_words.proofs.Tokens.{IsNew-push, IsNew-index}
use Rattle.sf_words.proofs.settings.is_new.Goals as goal

pub returns-then-eq : goal.returns-then-eq
returns-then-eq c =
    let key : c.key.result ≡ c.args.key = grind arith in (
      (λ h. absurd (grind arith)),
      (λ h. absurd (IsNew-index c.args.key token_of c.args.settings.now c.loop-setting.setting-index _ c.loop-setting-test.true h (sym key ∙ c.key.ensures))),
    )

pub loop-setting-preserved : goal.loop-setting-preserved
loop-setting-preserved c =
    let differs : c.key.result ≢ c.args.key = λ e. grind arith in
    let d : Setting = Attached Format (record { ref_ptr = (0, 0); now = [] }) in
    rw (map_more token_of c.args.settings.now c.loop-setting.setting-index d c.loop-setting-test.true)
    (IsNew-push c.args.key _ _ c.loop-setting.invariant (λ e. differs (c.key.ensures ∙ sym e)))
