-- What the objects in memory hold.
use Rattle.std.specs.Prelude.{◌≡◌, ◌⊎◌, ℕ, Bool, true, false, List, drop, nat_eq}
use Rattle.std.specs.List.{list_any}
use Rattle.nc_outside.specs.Fault.{next_count}
use Rattle.nc_outside.specs.Pieces.{joined}
use Rattle.nc_outside.specs.declared.calls.Calls.{Calls}
use Rattle.nc_outside.specs.declared.unread.Unread.{Unread}
use Rattle.nc_outside.specs.declared.mem_source.MemSource.{MemSource}
use Rattle.nc_outside.specs.declared.mem_sink.MemSink.{MemSink}
use Rattle.nc_outside.specs.declared.sure.SureSource.{SureSource}
use Rattle.nc_outside.specs.declared.sure.SureSink.{SureSink}

-- no call was made, and those with these numbers are to fail
abbrev pub no_calls : List ℕ → Calls
no_calls failing = record { failing = failing; made = 0; faults = 0 }

-- the next call is to fail: its number is among those
abbrev pub is_failing : Calls → Bool
is_failing calls = list_any (λ number. nat_eq number calls.made) calls.failing

-- one call more that didn't fail
abbrev pub after_call : Calls → Calls
after_call calls = record calls { made = next_count calls.made }

-- one call more that failed
abbrev pub after_fault : Calls → Calls
after_fault calls = record calls { made = next_count calls.made; faults = next_count calls.faults }

-- the bytes that weren't read yet
abbrev pub unread : Unread → List ℕ
unread u = drop u.at u.bytes

-- what reading them gave, the newest first
abbrev pub given : Unread → List (List ℕ)
given u = u.trace.pieces

-- the bytes that a source in memory has left
abbrev pub bytes_left : MemSource → List ℕ
bytes_left s = unread s.unread

-- the same of one that never fails
abbrev pub sure_left : SureSource → List ℕ
sure_left s = unread s.unread

-- what the reads of a source in memory gave, the newest first
abbrev pub given_by : MemSource → List (List ℕ)
given_by s = given s.unread

-- the same of one that never fails
abbrev pub sure_given : SureSource → List (List ℕ)
sure_given s = given s.unread

-- the bytes that a sink in memory took
abbrev pub bytes_taken : MemSink → List ℕ
bytes_taken s = s.bytes.items

-- the same of one that never fails
abbrev pub sure_taken : SureSink → List ℕ
sure_taken s = joined s.trace.pieces

-- the reads of a source in memory
abbrev pub reads : MemSource → Calls
reads s = s.calls

-- the writes of a sink in memory
abbrev pub writes : MemSink → Calls
writes s = s.calls

-- a write that wasn't to fail did, for want of memory
abbrev pub lacks_memory : MemSink → Bool
lacks_memory s = s.lacks

-- a write that failed was to fail, or there was no memory for it, which the sink keeps
abbrev pub HasReason : MemSink → MemSink → Type 0
HasReason old new =
    ((is_failing (writes old) ≡ true) × (lacks_memory new ≡ lacks_memory old))
    ⊎ ((is_failing (writes old) ≡ false) × (lacks_memory new ≡ true))
