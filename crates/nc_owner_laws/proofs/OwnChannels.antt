-- The channels that an owner keeps are its own.
use Rattle.std.proofs.Common.{◌≡◌, ℕ, Bool, true, false, List}
use Rattle.std.specs.Prelude.{◌||◌}
use Rattle.std.specs.Cmp.Lexicographic.{slice_cmp}
use Rattle.std.specs.Ordering.{nat_cmp}
use Rattle.nc_types.specs.Channel.{owner_of}
use Rattle.nc_owner.specs.Look.{look_bench}
use Rattle.nc_owner.specs.OtherSteps.{touched_of, joined, parted}
use Rattle.nc_owner.specs.Publish.{is_stored, publish_outcome, publish_bench}
use Rattle.nc_owner.specs.State.{OwnerAt, Bench, exists, others, is_name, after}
use Rattle.nc_owner_laws.specs.OwnChannels.{OwnsChannels, NewOwns, StepsKeepOwn}
use Rattle.nc_owner_laws.proofs.Shelf.{keys_remove, keys_insert}

-- a channel that is put back is the owner's
after_owns : (workers me : ℕ) (c : List ℕ) (stays : Bool) (b : Bench) (s : OwnerAt) → owner_of workers c ≡ me → OwnsChannels workers me s → OwnsChannels workers me (after c stays b s)
after_owns workers me c true b s mine k = keys_insert (slice_cmp nat_cmp) c b.channel (λ d. owner_of workers d ≡ me) (others c s.channels) (keys_remove (λ d. owner_of workers d ≡ me) (is_name c) s.channels k) mine
after_owns workers me c false b s mine k = keys_remove (λ d. owner_of workers d ≡ me) (is_name c) s.channels k

pub new_owns : NewOwns
new_owns me workers slots first = tt

pub steps_keep_own : StepsKeepOwn
steps_keep_own workers me row s k = record {
  touch = λ c mine. after_owns workers me c (exists c s) (touched_of c row s) s mine k;
  join = λ m c mine. after_owns workers me c true (joined m (touched_of c row s)) s mine k;
  part = λ m c mine. after_owns workers me c (exists c s) (parted m (touched_of c row s)) s mine k;
  look = λ from c id mine. after_owns workers me c true (look_bench from c id row s) s mine k;
  edge = k;
  raise = λ fence. k;
  remove = λ c last. keys_remove (λ d. owner_of workers d ≡ me) (is_name c) s.channels k;
  polled = λ answers. k;
  clock = λ now. k;
  publish = λ o polls mine. after_owns workers me o.chan (exists o.chan s || is_stored (publish_outcome o polls row s)) (publish_bench o polls row s) s mine k;
}
