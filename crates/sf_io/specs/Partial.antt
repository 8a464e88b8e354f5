-- What a shelf and a sink that do a part of a call show of themselves.
use Rattle.std.specs.Prelude.{ℕ, List, Some}
use Rattle.sf_io.specs.declared.memory.MemShelf.{MemShelf}
use Rattle.sf_io.specs.MemShelf.{mem_contents, mem_load_faults}
use Rattle.sf_io.specs.Outside.{ShelfSeen, SinkSeen}
use Rattle.sf_io.specs.declared.partial.PartShelf.{PartShelf}
use Rattle.sf_io.specs.declared.partial.PartSink.{PartSink}

-- the shelf under it
abbrev pub part_shelf_texts : PartShelf → MemShelf
part_shelf_texts s = s.texts

-- how many more stores are done whole
abbrev pub part_shelf_whole : PartShelf → ℕ
part_shelf_whole s = s.whole

-- how many stores have failed, up to the end of u64
abbrev pub part_shelf_faults : PartShelf → ℕ
part_shelf_faults s = s.faults

-- what it holds and which loads failed is told by the shelf under it
abbrev pub part_shelf_seen : PartShelf → ShelfSeen
part_shelf_seen s = record { holds = Some (mem_contents s.texts); load_faults = mem_load_faults s.texts; store_faults = s.faults }

-- the bytes taken so far
abbrev pub part_sink_taken : PartSink → List ℕ
part_sink_taken s = s.taken.items

-- how many more bytes are taken
abbrev pub part_sink_room : PartSink → ℕ
part_sink_room s = s.room

-- how many puts have failed, up to the end of u64
abbrev pub part_sink_faults : PartSink → ℕ
part_sink_faults s = s.faults

-- what is seen of the sink: all that it took, and how many puts have failed
abbrev pub part_sink_seen : PartSink → SinkSeen
part_sink_seen s = record { taken = Some s.taken.items; faults = s.faults }
