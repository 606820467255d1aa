-- The owner's part of a step from what its call ensures.
use Rattle.std.proofs.Common.{◌≡◌, ℕ, Bool, true, false, cond, List, [], ◌∷◌, Option, Some, None, refl, sym, ◌∙◌, ap, subst, inl, inr, not}
use Rattle.std.specs.Prelude.{◌==◌, IfSome}
use Rattle.std.proofs.Math.Path.{fun_ext}
use Rattle.std.proofs.lemmas.Bool.Decides.{eqb_tells}
use Rattle.nc_types.specs.Message.{Message}
use Rattle.nc_journal.specs.declared.event.Event.{Event}
use Rattle.nc_journal.specs.declared.event.Event.TheVariants.{Joined, Parted, Raised, Stored, Left, Looked, Edged, Granted, Freed, Removed}
use Rattle.nc_journal.specs.declared.alert.AlertLine.{AlertLine}
use Rattle.nc_journal.specs.declared.alert.AlertLine.TheVariants as lines
use Rattle.nc_alert.specs.declared.alert.Alert.{Alert}
use Rattle.nc_alert.specs.declared.alert.Alert.TheVariants as alerts
use Rattle.nc_alert.specs.declared.alert.Grant.{Grant}
use Rattle.nc_alert.specs.declared.packet.Outgoing.{Outgoing}
use Rattle.nc_alert.specs.Packet.{grant_of}
use Rattle.nc_slots.specs.Slots.{HoldAt}
use Rattle.nc_owner.specs.AlertLines.{OutLine, out_line, out_lines, alert_line}
use Rattle.nc_types.specs.declared.info.Info.{Info}
use Rattle.nc_slots.specs.declared.slot.Slot.{Slot}
use Rattle.nc_owner.specs.declared.order.Order.{Order}
use Rattle.nc_owner.specs.declared.desk.Desk.{Desk}
use Rattle.nc_owner.specs.State.{OwnerAt, Bench}
use Rattle.nc_owner.specs.Publish.{Polls, Outcome, late, full, stored, post_bench, kept_desk, granted_desk, roomy, asked, lowest_slot}
use Rattle.nc_owner_laws.specs.OwnerFits.{OwnerFits}
use Rattle.nc_owner.specs.Holds.{IsHoldOf, AllCarry}
use Rattle.nc_owner.specs.Pool.{SameOthers}
use Rattle.nc_owner.proofs.Pools.{other_same}
use Rattle.nc_owner_laws.specs.Kinds.{IsOfOwner, AreOfOwner}
use Rattle.nc_owner_laws.specs.Weave.{weave}
use Rattle.nc_worker_state.specs.Worker.{with_at}
use Rattle.nc_outbox.specs.Outboxes.{next_of, IsGranted}
use Rattle.nc_scribe.specs.Kinds.{is_aside, AreAside}
use Rattle.nc_scribe.specs.Scribe.{ScribeAt, TellsMore, AllGranted}
use Rattle.nc_scribe.proofs.Story.{tells_same}

-- ---- events of owners make nothing

aside : (me : ℕ) (e : Event) → IsOfOwner me e → is_aside e ≡ true
aside me (Joined w c from k) is = refl
aside me (Parted w c from k) is = refl
aside me (Raised w t) is = refl
aside me (Stored w c id slot len exp kept members from r ct body) is = refl
aside me (Left w c id slot cause) is = refl
aside me (Looked w q from number c after floor found) is = refl
aside me (Edged w q from number k c floor last) is = refl
aside me (Granted w g slot to) is = refl
aside me (Freed w slot) is = refl
aside me (Removed w c last cause) is = refl
aside me e is = absurd is

pub all_aside : (me : ℕ) (es : List Event) → AreOfOwner me es → AreAside es
all_aside me [] are = tt
all_aside me (e ∷ es) are = (aside me e are.0, all_aside me es are.1)

-- ---- holds

pub counts_same : (old new : ℕ → List ℕ) (me : ℕ) → new ≡ old → new ≡ with_at old me (old me)
counts_same old new me same = same ∙ fun_ext (λ v. elim (eqb_tells v me) [ inl e ↦ rw e.0 (ap old e.1) | inr apart ↦ rw apart.0 refl ])

pub counts_changed : (old new : ℕ → List ℕ) (me : ℕ) (counts : List ℕ) → new me ≡ counts → SameOthers me old new → new ≡ with_at old me counts
counts_changed old new me counts is same =
    fun_ext (λ v. elim (eqb_tells v me) [ inl e ↦ rw e.0 (ap new e.1 ∙ is) | inr apart ↦ rw apart.0 (other_same me old new same v apart.1) ])

-- ---- grants of alerts

-- an alert carries a hold
abbrev pub has_grant : AlertLine → Bool
has_grant (lines.LookAnswer number q floor found (Some g) slot) = true
has_grant (lines.Notice c id g slot) = true
has_grant line = false

pub info_carries_none : (b : Bool) (r : ℕ) (info : Info) → has_grant (cond b (lines.InfoAnswer r 200 (Some info)) (lines.InfoAnswer r 404 None)) ≡ false
info_carries_none true r info = refl
info_carries_none false r info = refl

-- what an owner is left as fits the slots as they are left
pub fits_left : (row row2 : List (Slot Message)) (s s2 : OwnerAt) → row2 ≡ row → s2 ≡ s → OwnerFits row s → OwnerFits row2 s2
fits_left row row2 s s2 rows owners f = subst (λ (x : List (Slot Message)). OwnerFits x s2) (sym rows) (subst (λ (x : OwnerAt). OwnerFits row x) (sym owners) f)

kept_me : (kept : Bool) (slot : ℕ) (d : Desk) → (kept_desk kept slot d).me ≡ d.me
kept_me true slot d = refl
kept_me false slot d = refl

pub published_me : (x : Outcome) (o : Order) (polls : Polls) (b : Bench) → (post_bench x o polls b).desk.me ≡ b.desk.me
published_me late o polls b = refl
published_me (full usage) o polls b = refl
published_me stored o polls b =
    let r = roomy o.length polls.left (asked polls.leaving b) in
    kept_me (not (o.length == 0)) (lowest_slot r.row) (granted_desk r.channel.marks r.desk)

module _ {H : Type 0} where
  pub no_grant : (held : H → HoldAt) (me : ℕ) (a : Alert H) → has_grant (alert_line a) ≡ false → IfSome (grant_of a) (IsGranted held me)
  no_grant held me (alerts.LookAnswer number q floor None) is = tt
  no_grant held me (alerts.LookAnswer number q floor (Some found)) is = absurd cc
  no_grant held me (alerts.Notice c found) is = absurd cc
  no_grant held me a is = tt

  -- no alert was made, or one that carries no hold
  pub none_granted : (held : H → HoldAt) (me : ℕ) (os : List (Outgoing H)) → out_lines os ≡ [] → AllGranted held me os
  none_granted held me [] is = tt
  none_granted held me (o ∷ os) is = absurd cc

  pub one_granted : (held : H → HoldAt) (me : ℕ) (os : List (Outgoing H)) (line : OutLine) → out_lines os ≡ line ∷ [] → has_grant line.line ≡ false → AllGranted held me os
  one_granted held me [] line is other = absurd cc
  one_granted held me (o ∷ []) line is other =
      let same : out_line o ≡ line = cc in
      (no_grant held me o.alert (ap (λ (l : OutLine). has_grant l.line) same ∙ other), tt)
  one_granted held me (o ∷ p ∷ os) line is other = absurd cc

  pub granted_by : (held : H → HoldAt) (me : ℕ) (m : Message) (g : Option (Grant H)) → IfSome g (IsHoldOf held me m) → IfSome g (IsGranted held me)
  granted_by held me m None is = tt
  granted_by held me m (Some g) is = record { owner = is.owner; place = is.place }

  -- each hold is of the owner's slot that its grant names
  pub carried_granted : (held : H → HoldAt) (me : ℕ) (m : Message) (os : List (Outgoing H)) → AllCarry held me m os → AllGranted held me os
  carried_granted held me m [] all = tt
  carried_granted held me m (o ∷ os) all = (granted_by held me m (grant_of o.alert) all.0, carried_granted held me m os all.1)

  -- what an owner did is told as its part
  pub tells_woven : (s t : ScribeAt H) (me : ℕ) (events es : List Event) (os : List (Outgoing H)) (ls : List OutLine) → s.me ≡ me → events ≡ es → out_lines os ≡ ls
      → TellsMore s t (weave s.me (next_of s.outboxes) events (out_lines os)) → TellsMore s t (weave me (next_of s.outboxes) es ls)
  tells_woven s t me events es os ls is happened said q = tells_same (λ i. weave (is i) (next_of s.outboxes) (happened i) (said i)) q
