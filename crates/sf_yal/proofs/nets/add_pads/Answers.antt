use Rattle.std.proofs.Common.{◌≡◌, ◌+◌, ℕ, length, take, arith, ap, sym, ◌∙◌}
use Rattle.sf_yal.proofs.Common.{slice_get, RawNet, bytes_of, with_pads, with_pad_of}
use Rattle.sf_yal.proofs.NetSteps.{pad_more, pads_all, front_of}
use Rattle.sf_yal.proofs.nets.add_pads.Goals as goal

pub loop-net-preserved : goal.loop-net-preserved
loop-net-preserved c =
    let made : c.add_pad.new.net ≡ with_pad_of c.args.pad_names.now (slice_get (bytes_of c.args.signals.now) c.loop-net.net-index) c.net-item.result =
    c.in_ok-add_pad.ensures ∙ ap (λ (x : RawNet). with_pad_of c.args.pad_names.now (slice_get (bytes_of c.args.signals.now) c.loop-net.place) x) (sym c.net-item.is)
    ∙ ap (λ (k : ℕ). with_pad_of c.args.pad_names.now (slice_get (bytes_of c.args.signals.now) k) c.net-item.result) c.loop-net.invariant.0 in (
      ap (λ (k : ℕ). k + 1) c.loop-net.invariant.0,
      pad_more c.args.pad_names.now (bytes_of c.args.signals.now) c.args.nets.now.items c.loop-net.net-items c.loop-net.net-index c.net-item.result c.add_pad.new.net c.net-item.result (omega arith) c.loop-net.invariant.1 c.net-item.is made,
    )

pub returns : goal.returns
returns c =
    let end : c.loop-net.net-index ≡ length c.args.nets.now.items = omega arith in
    let all : c.loop-net.net-items ≡ with_pads c.args.pad_names.now (bytes_of c.args.signals.now) c.args.nets.now.items =
    c.loop-net.invariant.1 ∙ ap (λ (k : ℕ). with_pads c.args.pad_names.now (take k (bytes_of c.args.signals.now)) c.args.nets.now.items) end ∙ pads_all c.args.pad_names.now (bytes_of c.args.signals.now) c.args.nets.now.items in
    front_of _ _ _ (omega arith) ∙ all
