-- What a shelf of files and the standard output count.
use Rattle.std.specs.Prelude.{ℕ, None}
use Rattle.sf_io.specs.Outside.{ShelfSeen, SinkSeen}
use Rattle.sf_io.specs.declared.host.HostShelf.{HostShelf}
use Rattle.sf_io.specs.declared.host.HostSink.{HostSink}

-- how many loads have failed, up to the end of u64
abbrev pub host_load_faults : {R File Dir : Type 0} → HostShelf R File Dir → ℕ
host_load_faults s = s.load_faults

-- how many stores have failed, up to the end of u64
abbrev pub host_store_faults : {R File Dir : Type 0} → HostShelf R File Dir → ℕ
host_store_faults s = s.store_faults

-- what is seen of a shelf of files: not what it holds, but how many loads and stores have failed
abbrev pub host_shelf_seen : {R File Dir : Type 0} → HostShelf R File Dir → ShelfSeen
host_shelf_seen s = record { holds = None; load_faults = s.load_faults; store_faults = s.store_faults }

-- how many puts have failed, up to the end of u64
abbrev pub host_faults : {P : Type 0} → HostSink P → ℕ
host_faults s = s.faults

-- what is seen of the standard output: not what it took, but how many puts have failed
abbrev pub host_sink_seen : {P : Type 0} → HostSink P → SinkSeen
host_sink_seen s = record { taken = None; faults = s.faults }
