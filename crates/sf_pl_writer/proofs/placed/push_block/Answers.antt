use Rattle.std.proofs.Common.{◌≡◌, ◌++◌, ap, ◌∙◌, string_bytes, rules}
use Rattle.sf_pl_writer.proofs.Common.{to_z-of_z, w64, SFits, to_z, of_z, place_text, size_text}
use Rattle.sf_pl_writer.proofs.Lines.{line_of}
use Rattle.sf_pl_writer.proofs.placed.push_block.Goals as goal

pub returns : goal.returns
returns c =
    let s = c.args.spot in
    let scale = c.args.scale in
    let fx : SFits w64 s.x = search rules in
    let fy : SFits w64 s.y = search rules in
    let place : string_bytes c.in_ok-line.line ≡ place_text scale s.x s.y =
    c.in_ok-line.ensures ∙ ap (λ v. place_text scale v (to_z w64 (of_z w64 s.y))) (to_z-of_z w64 s.x fx) ∙ ap (place_text scale s.x) (to_z-of_z w64 s.y fy) in
    line_of c.args.text.now.items c.args.block.now.name (place_text scale s.x s.y) (size_text scale s.w s.h)
    c.extend_from_slice.new.self.items c.as_bytes-2.result.now c.extend_from_slice-2.new.self.items
    (c.in_ok-extend_from_slice.ensures.items ∙ ap (λ v. c.args.text.now.items ++ v) c.as_bytes.ensures.value)
    (c.as_bytes-2.ensures.value ∙ c.in_ok-push_size.ensures ∙ ap (λ v. v ++ size_text scale s.w s.h) place)
    c.in_ok-extend_from_slice-2.ensures.items
