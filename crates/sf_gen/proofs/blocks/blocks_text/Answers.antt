use Rattle.std.proofs.Common.{ap, refl, ◌∙◌, append_assoc}
use Rattle.sf_gen.proofs.Common.{blocks_text}
use Rattle.sf_gen.proofs.blocks.blocks_text.Goals as goal

pub returns : goal.returns
unfolding blocks_text
returns c =
    ap (λ v. v.items) c.into_bytes.ensures.value
    ∙ rw (c.in_ok-push_str.ensures.bytes, c.in_ok-push_blocks.ensures, c.in_ok-push_head.ensures, c.new-text.ensures.bytes) (simp append_assoc refl)
