-- What an owner that stands for a history shows of it.
use Rattle.std.proofs.Common.{Option, sym, ap, ◌∙◌, subst, map}
use Rattle.nc_journal.proofs.Rising.{ids-rise}
use Rattle.nc_owner.specs.declared.channel.Channel.{Channel}
use Rattle.nc_owner.specs.declared.desk.Desk.{Desk}
use Rattle.nc_owner_laws.specs.Filters.{DeskFilters, ChannelFilters}
use Rattle.nc_owner_laws.specs.Buffered.{brief_entry, entries_in}
use Rattle.nc_owner_laws.specs.Shown.{StandsShows}
use Rattle.nc_owner_laws.proofs.Filtering.{desk_law, channel_law}
use Rattle.nc_owner_laws.proofs.Buffering.{buffer_law}

pub stands_shows : StandsShows
stands_shows me workers slots first row h s k = record {
  desk = subst (λ (d : Desk). DeskFilters d h) (sym k.tells.desk) (desk_law me workers slots first h);
  channels = λ c. subst (λ (o : Option Channel). ChannelFilters c o h) (sym (k.tells.channels c)) (channel_law me workers slots first c h);
  buffers = λ c. ap (λ (o : Option Channel). map brief_entry (entries_in o)) (k.tells.channels c) ∙ buffer_law me workers slots first c h k.stamped k.stored;
  rises = λ c. ids-rise workers h k.stamped c;
}
