-- The messages that a channel keeps, and its last id.
use Rattle.std.specs.Prelude.{◌≡◌, false, List}
use Rattle.std.specs.List.{AllByRecursion}
use Rattle.nc_types.specs.Id.{Id, is_past}
use Rattle.nc_buffer.specs.declared.entry.Entry.{Entry}

-- the last id of a channel, and its buffered messages, the oldest first
pub record BacklogAt : Type 0 where
  pub last : Id
  pub entries : List Entry

-- no entry is past the last id
abbrev pub IsBacklog : Id → List Entry → Type 0
IsBacklog last entries = AllByRecursion (λ e. is_past e.id last ≡ false) entries
