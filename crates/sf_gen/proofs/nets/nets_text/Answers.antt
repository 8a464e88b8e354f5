use Rattle.std.proofs.Common.{ap, ◌∙◌, refl}
use Rattle.sf_gen.proofs.Common.{nets_text}
use Rattle.sf_gen.proofs.nets.nets_text.Goals as goal

pub returns : goal.returns
unfolding nets_text
returns c = ap (λ v. v.items) c.into_bytes.ensures.value ∙ rw (c.in_ok-push_nets.ensures, c.in_ok-push_head.ensures, c.new-text.ensures.bytes) refl
