-- The channels that an owner keeps are its own, where each step is on a channel of its own.
use Rattle.std.specs.Prelude.{◌≡◌, ℕ, List}
use Rattle.std.specs.List.{AllByRecursion}
use Rattle.nc_types.specs.Channel.{owner_of}
use Rattle.nc_types.specs.Id.{Id}
use Rattle.nc_types.specs.Message.{Message}
use Rattle.nc_slots.specs.declared.slot.Slot.{Slot}
use Rattle.nc_owner.specs.declared.member.Member.{Member}
use Rattle.nc_owner.specs.declared.order.Order.{Order}
use Rattle.nc_owner.specs.declared.poll.PollAnswer.{PollAnswer}
use Rattle.nc_owner.specs.Edge.{edged}
use Rattle.nc_owner.specs.Fence.{with_floor}
use Rattle.nc_owner.specs.Look.{look_after}
use Rattle.nc_owner.specs.OtherSteps.{touch_after, join_after, part_after, polled_after, with_clock, names_of}
use Rattle.nc_owner.specs.Publish.{Polls, publish_after}
use Rattle.nc_owner.specs.Remove.{removed_after}
use Rattle.nc_owner.specs.State.{OwnerAt, new_owner}

abbrev pub OwnsChannels : ℕ → ℕ → OwnerAt → Type 0
OwnsChannels workers me s = AllByRecursion (λ c. owner_of workers c ≡ me) (names_of s)

abbrev pub NewOwns : Type 0
NewOwns = (me workers slots first : ℕ) → OwnsChannels workers me (new_owner me workers slots first)

-- the steps behind which it is still so
pub record StepsOwn (workers me : ℕ) (row : List (Slot Message)) (s : OwnerAt) : Type 0 where
  pub touch : (c : List ℕ) → owner_of workers c ≡ me → OwnsChannels workers me (touch_after c row s)
  pub join : (m : Member) (c : List ℕ) → owner_of workers c ≡ me → OwnsChannels workers me (join_after m c row s)
  pub part : (m : Member) (c : List ℕ) → owner_of workers c ≡ me → OwnsChannels workers me (part_after m c row s)
  pub look : (from : ℕ) (c : List ℕ) (id : Id) → owner_of workers c ≡ me → OwnsChannels workers me (look_after from c id row s)
  pub edge : OwnsChannels workers me (edged s)
  pub raise : (fence : ℕ) → OwnsChannels workers me (with_floor fence s)
  pub remove : (c : List ℕ) (last : Id) → OwnsChannels workers me (removed_after c last s)
  pub polled : (answers : List PollAnswer) → OwnsChannels workers me (polled_after answers s)
  pub clock : (now : ℕ) → OwnsChannels workers me (with_clock now s)
  pub publish : (o : Order) (polls : Polls) → owner_of workers o.chan ≡ me → OwnsChannels workers me (publish_after o polls row s)

abbrev pub StepsKeepOwn : Type 0
StepsKeepOwn = (workers me : ℕ) (row : List (Slot Message)) (s : OwnerAt) → OwnsChannels workers me s → StepsOwn workers me row s
