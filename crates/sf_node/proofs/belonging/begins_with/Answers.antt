use Rattle.std.proofs.Common.{refl}
use Rattle.sf_node.proofs.Begun.{begins-is}
use Rattle.sf_node.proofs.belonging.begins_with.Goals as goal

pub returns : goal.returns
returns c = begins-is _ refl refl (λ b c. refl) refl refl (λ b. refl) (λ b. refl) (λ b. refl) (λ b. refl) c.args.tokens.now c.args.begin.now c.starts_with.result c.starts_with.ensures.value
