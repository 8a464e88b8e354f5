use Rattle.std.proofs.Common.{take, map}
use Rattle.sf_words.proofs.Common.{IsNew, token_of}
use Rattle.sf_words.proofs.settings.is_new.Given as goal

abbrev pub invariant-loop-setting : goal.invariant-loop-setting
invariant-loop-setting l = IsNew l.key (map token_of (take l.setting-index l.settings))
