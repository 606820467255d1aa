-- What a step on one channel works on fits the row of the owner's slots.
use Rattle.std.specs.Prelude.{◌≡◌, ◌+◌, List, length}
use Rattle.nc_buffer.specs.declared.entry.Entry.{Entry}
use Rattle.nc_owner.specs.State.{Bench, entries_of}
use Rattle.nc_owner_laws.specs.Used.{times, Agrees}
use Rattle.nc_owner_laws.specs.Kept.{slots_in, AreIn}
use Rattle.nc_owner_laws.specs.OwnerFits.{IsRegular}

-- as `Fits` says of an owner, beside the entries of the other channels
pub record BenchFits (rest : List Entry) (b : Bench) : Type 0 where
  pub slots : length b.row ≡ b.desk.slots
  pub apart : Agrees (λ k. times k (slots_in rest) + times k (slots_in (entries_of b.channel))) (λ k. times k b.desk.retired) b.row
  pub number : b.desk.buffered ≡ length rest + length (entries_of b.channel)
  pub others : AreIn b.row rest
  pub kept : AreIn b.row (entries_of b.channel)
  pub regular : IsRegular b.channel
