use Rattle.std.proofs.Common.{take, drop}
use Rattle.sf_frames.proofs.Building.{IsBuilding}
use Rattle.sf_frames.proofs.groups.item_curves.Given as goal

abbrev pub invariant-loop-token : goal.invariant-loop-token
invariant-loop-token l =
    IsBuilding l.design l.node l.curves.items (take l.token-index l.node.tokens) (drop l.token-index l.node.tokens)
