use Rattle.std.proofs.Common.{◌≡◌, ◌++◌, reverse, refl, ap, sym, ◌∙◌, Some, None, rules}
use mir.Syntax.{w32, w64}
use mir.Val.{SFits}
use Rattle.sf_parts.proofs.Common.{to_z-of_z, filter_map, IsPlaceWithin, placed_pad, Pad, RawPad}
use Rattle.sf_parts.proofs.Moved.{moved, pads_cut, pads_skip, all_cut}
use Rattle.sf_parts.proofs.build.pads_of.Goals as goal

pub loop-pad-preserved-in-Continue-branch-2 : goal.loop-pad-preserved-in-Continue-branch-2
loop-pad-preserved-in-Continue-branch-2 c =
    let pad : Pad = record { name = c.in-Some.pad.name; x = c.coordinate-x.result; y = c.coordinate-y.result } in
    let placed : placed_pad c.in-Some.pad ≡ Some pad = (let fx : SFits w64 c.in-Some-place.x = search rules in let fy : SFits w64 c.in-Some-place.y = search rules in
    rw (c.in-Some-place.is, c.coordinate-x.ensures, c.coordinate-y.ensures, to_z-of_z w64 c.in-Some-place.x fx, to_z-of_z w64 c.in-Some-place.y fy) refl) in
    let gx : SFits w32 c.coordinate-x.result = search rules in
    let gy : SFits w32 c.coordinate-y.result = search rules in
    let put = (rw (to_z-of_z w32 c.coordinate-x.result gx, to_z-of_z w32 c.coordinate-y.result gy) at c.in_ok-push.ensures.items) in (
      all_cut (λ (p : RawPad). IsPlaceWithin p.place) c.loop-pad.read.items c.pop.new.self.items c.in-Some.pad c.in-Some.ensures.items c.loop-pad.invariant.0,
      moved (filter_map placed_pad c.loop-pad.read.items) (filter_map placed_pad c.pop.new.self.items) c.loop-pad.pads.items c.push.new.self.items _ pad (pads_cut c.loop-pad.read.items c.pop.new.self.items c.in-Some.pad pad c.in-Some.ensures.items placed) put c.loop-pad.invariant.1,
    )

pub loop-pad-preserved : goal.loop-pad-preserved
loop-pad-preserved c =
    let left_out : placed_pad c.in-Some.pad ≡ None = rw c.in_default-place.is refl in (
      all_cut (λ (p : RawPad). IsPlaceWithin p.place) c.loop-pad.read.items c.pop.new.self.items c.in-Some.pad c.in-Some.ensures.items c.loop-pad.invariant.0,
      ap (λ l. l ++ reverse c.loop-pad.pads.items) (sym (pads_skip c.loop-pad.read.items c.pop.new.self.items c.in-Some.pad c.in-Some.ensures.items left_out)) ∙ c.loop-pad.invariant.1,
    )
