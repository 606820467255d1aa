-- The holds that alerts carry, beside what the journal tells of them.
use Rattle.std.specs.Prelude.{◌≡◌, ℕ, List, IfSome}
use Rattle.std.specs.List.{AllByRecursion}
use Rattle.nc_types.specs.Message.{Message}
use Rattle.nc_alert.specs.declared.alert.Grant.{Grant}
use Rattle.nc_alert.specs.declared.packet.Outgoing.{Outgoing}
use Rattle.nc_alert.specs.Packet.{grant_of}
use Rattle.nc_slots.specs.Slots.{HoldAt}

module _ {H : Type 0} (held : H → HoldAt) (me : ℕ) (m : Message) where
  -- a grant's hold is of the owner's slot that the grant names, and of this message
  pub record IsHoldOf (grant : Grant H) : Type 0 where
    pub owner : (held grant.hold).owner ≡ me
    pub place : (held grant.hold).slot ≡ grant.slot
    pub message : (held grant.hold).message ≡ m

  -- each hold that an alert carries is so
  abbrev pub Carries : Outgoing H → Type 0
  Carries o = IfSome (grant_of o.alert) IsHoldOf

  abbrev pub AllCarry : List (Outgoing H) → Type 0
  AllCarry os = AllByRecursion Carries os
