-- What every call of the standard bound asks of its room: that what it keeps is of this design.
use Rattle.std.specs.Prelude.{Option}
use Rattle.sf_model.specs.declared.design.Design.{Design}
use Rattle.sf_frames.specs.declared.stored.Stored.{Stored}
use Rattle.sf_frames.specs.Kept.{IsStoredPath}
use Rattle.sf_bounds.specs.declared.net_frame.Nets.{Nets}
use Rattle.sf_bounds.specs.Rows.{AreKeptOrNone}

-- the frames of areas and those of nets
pub record Memory : Type 0 where
  pub frames : Stored
  pub nets : Option Nets

-- both are of this design
pub record IsMemoryOf (design : Design) (memory : Memory) : Type 0 where
  pub frames : IsStoredPath design memory.frames
  pub nets : AreKeptOrNone design memory.nets
