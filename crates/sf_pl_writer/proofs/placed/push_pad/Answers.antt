use Rattle.std.proofs.Common.{◌≡◌, ◌++◌, ap, ◌∙◌, string_bytes, rules, codes}
use Rattle.sf_pl_writer.proofs.Common.{to_z-of_z, w32, w64, SFits, to_z, of_z, place_text}
use Rattle.sf_pl_writer.proofs.Lines.{line_of}
use Rattle.sf_pl_writer.proofs.placed.push_pad.Goals as goal

pub returns : goal.returns
returns c =
    let pad = c.args.pad.now in
    let scale = c.args.scale in
    let fx : SFits w32 pad.x = search rules in
    let fy : SFits w32 pad.y = search rules in
    let gx : SFits w64 c.from.result = search rules in
    let gy : SFits w64 c.from-2.result = search rules in
    let x = to_z-of_z w64 c.from.result gx ∙ c.from.ensures ∙ to_z-of_z w32 pad.x fx in
    let y = to_z-of_z w64 c.from-2.result gy ∙ c.from-2.ensures ∙ to_z-of_z w32 pad.y fy in
    let place : string_bytes c.in_ok-line.line ≡ place_text scale pad.x pad.y =
    c.in_ok-line.ensures ∙ ap (λ v. place_text scale v (to_z w64 (of_z w64 c.from-2.result))) x ∙ ap (place_text scale pad.x) y in
    line_of c.args.text.now.items pad.name (place_text scale pad.x pad.y) (codes "\n")
    c.extend_from_slice.new.self.items c.as_bytes-2.result.now c.extend_from_slice-2.new.self.items
    (c.in_ok-extend_from_slice.ensures.items ∙ ap (λ v. c.args.text.now.items ++ v) c.as_bytes.ensures.value)
    (c.as_bytes-2.ensures.value ∙ c.in_ok-push_str.ensures.bytes ∙ ap (λ v. v ++ codes "\n") place)
    c.in_ok-extend_from_slice-2.ensures.items
