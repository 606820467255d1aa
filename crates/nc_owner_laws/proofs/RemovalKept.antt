-- An owner stands for its history behind the removal of a channel.
use Rattle.std.specs.Prelude.{bytes_eq}
use Rattle.std.proofs.Common.{◌≡◌, ℕ, Bool, true, false, cond, not, List, [], ◌∷◌, ◌++◌, None, refl, sym, ap, ◌∙◌, subst, map, filter, fold}
use Rattle.std.specs.List.{AllByRecursion}
use Rattle.nc_types.specs.Id.{Id}
use Rattle.nc_types.specs.Channel.{owner_of}
use Rattle.nc_types.specs.Message.{Message as SlotMessage}
use Rattle.nc_journal.specs.History.{own, onto, Along}
use Rattle.nc_journal.specs.Stamp.{IsStamped, last_of}
use Rattle.nc_journal.specs.Message.{Message, buffer, published, is_gone, IsRising}
use Rattle.nc_journal.specs.declared.event.Event.{Event}
use Rattle.nc_journal.specs.declared.event.Event.TheVariants.{Removed, Made}
use Rattle.nc_journal.specs.declared.word.LeftCause.{LeftCause}
use Rattle.nc_journal.specs.declared.word.RemovedCause.{RemovedCause}
use Rattle.nc_journal.proofs.Buffers.{rising-filtered}
use Rattle.nc_journal.proofs.Leavings.{without_all, without_all-filter}
use Rattle.nc_journal.proofs.Rising.{ids-rise}
use Rattle.nc_buffer.specs.declared.entry.Entry.{Entry}
use Rattle.nc_slots.specs.declared.slot.Slot.{Slot}
use Rattle.nc_owner.specs.declared.desk.Desk.{Desk}
use Rattle.nc_owner.specs.AlertLines.{OutLine}
use Rattle.nc_owner.specs.Leave.{left_event, left_by}
use Rattle.nc_owner.specs.State.{OwnerAt, entries_of, found, opened, bench_of}
use Rattle.nc_owner.specs.Remove.{removed_after, removal_lefts}
use Rattle.nc_owner_laws.specs.Buffered.{brief_entry, brief_message, LeavesStored}
use Rattle.nc_owner_laws.specs.Filters.{new_desk}
use Rattle.nc_owner_laws.specs.OwnerStanding.{Stands}
use Rattle.nc_owner_laws.specs.OwnerTold.{desk_of, channel_of, desk_with, HistoryTells}
use Rattle.nc_owner_laws.specs.Removal.{IsLeft}
use Rattle.nc_owner_laws.specs.RemovalStands.{RemovalStands}
use Rattle.nc_owner_laws.specs.Weave.{weave, makes, numbered}
use Rattle.nc_owner_laws.proofs.After.{onto_desk, onto_channel, found_after, name_is}
use Rattle.nc_owner_laws.proofs.Buffering.{made_entries}
use Rattle.nc_owner_laws.proofs.Events.{desk_left, other_left}
use Rattle.nc_owner_laws.proofs.Kept.{all_append}
use Rattle.nc_owner_laws.proofs.LeavingKept.{same_lefts, buffer_lefts}
use Rattle.nc_owner_laws.proofs.Owners.{IsBy, own_onto, by_is, by_left, all_woven, left_onto, entries_stored}
use Rattle.nc_owner_laws.proofs.Removal.{removal_is, removal_wakes, removal_past}
use Rattle.nc_owner_laws.proofs.Showing.{stands_shows}
use Rattle.nc_owner_laws.proofs.Stamping as stamping
use Rattle.nc_owner_laws.proofs.Steps.{remove_fits}
use Rattle.nc_owner_laws.proofs.StepEvents.{left_stays}

-- ---- what is made behind it tells nothing

made_desk : (first : Desk) (v : ℕ) (next : ℕ → ℕ) (alerts : List OutLine) (h : List Event) → desk_of first (onto (makes v next alerts) h) ≡ desk_of first h
made_desk first v next [] h = refl
made_desk first v next (a ∷ alerts) h = made_desk first v (numbered next a.to) alerts (Made v a.to (next a.to) a.line ∷ h)

made_channel : (first : Desk) (c : List ℕ) (v : ℕ) (next : ℕ → ℕ) (alerts : List OutLine) (h : List Event) → channel_of first c (onto (makes v next alerts) h) ≡ channel_of first c h
made_channel first c v next [] h = refl
made_channel first c v next (a ∷ alerts) h = made_channel first c v (numbered next a.to) alerts (Made v a.to (next a.to) a.line ∷ h)

made_stamped : (workers v : ℕ) (next : ℕ → ℕ) (alerts : List OutLine) (h : List Event) → IsStamped workers h → IsStamped workers (onto (makes v next alerts) h)
made_stamped workers v next [] h k = k
made_stamped workers v next (a ∷ alerts) h k = made_stamped workers v (numbered next a.to) alerts (Made v a.to (next a.to) a.line ∷ h) (k, tt)

made_stored : (v : ℕ) (next : ℕ → ℕ) (alerts : List OutLine) (h : List Event) → Along LeavesStored h → Along LeavesStored (onto (makes v next alerts) h)
made_stored v next [] h k = k
made_stored v next (a ∷ alerts) h k = made_stored v (numbered next a.to) alerts (Made v a.to (next a.to) a.line ∷ h) (k, tt)

-- ---- all that a channel keeps leaves

pub are_left : (w : ℕ) (c : List ℕ) (cause : LeftCause) (es : List Entry) → AllByRecursion IsLeft (map (left_event w c cause) es)
are_left w c cause [] = tt
are_left w c cause (e ∷ es) = (tt, are_left w c cause es)

left_last : (w : ℕ) (c d : List ℕ) (cause : LeftCause) (es : List Entry) (h : List Event) → last_of d (onto (map (left_event w c cause) es) h) ≡ last_of d h
left_last w c d cause [] h = refl
left_last w c d cause (e ∷ es) h = left_last w c d cause es (left_event w c cause e ∷ h)

all_pass : (ms : List Message) → filter (λ m. true) ms ≡ ms
all_pass [] = refl
all_pass (m ∷ ms) = ap (λ l. m ∷ l) (all_pass ms)

none_passes : (ms : List Message) → filter (λ m. not true) ms ≡ []
none_passes [] = refl
none_passes (m ∷ ms) = none_passes ms

all_without : (ms : List Message) → IsRising ms → without_all ms ms ≡ []
all_without ms rises = ap (λ l. without_all l ms) (sym (all_pass ms)) ∙ without_all-filter (λ m. true) ms rises ∙ none_passes ms

module _ (me workers slots first : ℕ) (next : ℕ → ℕ) (c : List ℕ) (last : Id) (left : LeftCause) (cause : RemovedCause) (alerts : List OutLine) (row : List (Slot SlotMessage)) (h : List Event) (s : OwnerAt) (mine : owner_of workers c ≡ me) (is_last : last ≡ last_of c h) (k : Stands me workers slots first row h s) where
  is_me : s.desk.me ≡ me
  is_me = ap (λ (d : Desk). d.me) k.tells.desk ∙ stamping.me_law (new_desk me workers slots first) h

  owned : s.desk.me ≡ owner_of workers c
  owned = is_me ∙ sym mine

  local : own s.desk.me h ≡ h
  local = ap (λ n. own n h) is_me ∙ k.local

  tells : HistoryTells (new_desk me workers slots first) (onto (makes s.desk.me next alerts) (Removed s.desk.me c last cause ∷ onto (removal_lefts c left s) h)) (removed_after c last s)
  tells =
      let d0 = new_desk me workers slots first in
      let v = s.desk.me in
      let es = entries_of (opened c s) in
      let lefts = removal_lefts c left s in
      let h1 = onto lefts h in
      let h2 = Removed v c last cause ∷ h1 in
      let desk1 : desk_of d0 h1 ≡ left_by es s.desk = onto_desk d0 lefts h ∙ ap (λ (d : Desk). fold desk_with d lefts) (sym k.tells.desk) ∙ desk_left v c left es s.desk in
      record {
        desk = sym (made_desk d0 v next alerts h2 ∙ ap (λ (d : Desk). desk_with d (Removed v c last cause)) desk1);
        channels = λ d.
            found_after c d false (bench_of c row s) s k.fits.names
            ∙ ap (λ b. cond b None (found d s)) (name_is c d)
            ∙ by d (bytes_eq c d) refl
            ∙ sym (made_channel d0 d v next alerts h2);
      }
    where
      by : (d : List ℕ) (b : Bool) → bytes_eq c d ≡ b → cond b None (found d s) ≡ cond b None (channel_of (new_desk me workers slots first) d (onto (removal_lefts c left s) h))
      by d true e = refl
      by d false e =
          k.tells.channels d
          ∙ sym (onto_channel (new_desk me workers slots first) d (removal_lefts c left s) h (left_stays s.desk.me c left (entries_of (opened c s)))
          ∙ other_left s.desk.me c d left (desk_of (new_desk me workers slots first) h).spent (channel_of (new_desk me workers slots first) d h) (entries_of (opened c s)) e)

  -- nothing is left of the channel's buffer
  emptied_buffer : buffer c (onto (removal_lefts c left s) h) ≡ []
  emptied_buffer =
      let same : map brief_entry (entries_of (opened c s)) ≡ map brief_message (buffer c h) = ap (map brief_entry) (made_entries (found c s) s.desk.spent) ∙ (stands_shows me workers slots first row h s k).buffers c in
      let rises : IsRising (buffer c h) = rising-filtered (λ m. not (is_gone c m.id h)) (published c h) (ids-rise workers h k.stamped c) in
      ap (λ (l : List Event). buffer c (onto l h)) (same_lefts s.desk.me c left (entries_of (opened c s)) (buffer c h) same)
      ∙ buffer_lefts workers s.desk.me c owned left (buffer c h) h
      ∙ all_without (buffer c h) rises

  stored1 : Along LeavesStored (onto (removal_lefts c left s) h)
  stored1 = left_onto s.desk.me c left (entries_of (opened c s)) h (entries_stored me workers slots first h c s k.tells k.stamped k.stored) k.stored

  stamped1 : IsStamped workers (onto (removal_lefts c left s) h)
  stamped1 = stamping.plain_onto workers (removal_lefts c left s) h (stamping.plain_left s.desk.me c left (entries_of (opened c s))) k.stamped

  local1 : own s.desk.me (onto (removal_lefts c left s) h) ≡ onto (removal_lefts c left s) h
  local1 = own_onto s.desk.me (removal_lefts c left s) h (by_left s.desk.me s.desk.me refl c left (entries_of (opened c s))) local

  by_me : AllByRecursion (IsBy me) (removal_lefts c left s ++ Removed s.desk.me c last cause ∷ [])
  by_me = all_append (IsBy me) (removal_lefts c left s) (Removed s.desk.me c last cause ∷ []) (by_left me s.desk.me is_me c left (entries_of (opened c s))) (by_is me s.desk.me is_me, tt)

pub removal_stands : RemovalStands
removal_stands me workers slots first next c last left cause alerts row h s mine is_last gone told k =
    let v = s.desk.me in
    let lefts = removal_lefts c left s in
    let h1 = onto lefts h in
    let h2 = Removed v c last cause ∷ h1 in
    let are : AllByRecursion IsLeft lefts = are_left v c left (entries_of (opened c s)) in
    let is = removal_is v next c last cause lefts alerts h are in
    let last1 : last ≡ last_of c (own v h1) = is_last ∙ sym (left_last v c c left (entries_of (opened c s)) h) ∙ ap (last_of c) (sym (local1 me workers slots first next c last left cause alerts row h s mine is_last k)) in
    record {
      fits = remove_fits c last row s k.fits;
      local = own_onto me (weave v next (lefts ++ Removed v c last cause ∷ []) alerts) h
          (all_woven (IsBy me) v next (λ to n a. by_is me v (is_me me workers slots first next c last left cause alerts row h s mine is_last k)) (lefts ++ Removed v c last cause ∷ []) alerts (by_me me workers slots first next c last left cause alerts row h s mine is_last k)) k.local;
      tells = subst (λ (l : List Event). HistoryTells (new_desk me workers slots first) l (removed_after c last s)) (sym is) (tells me workers slots first next c last left cause alerts row h s mine is_last k);
      stamped = subst (IsStamped workers) (sym is) (made_stamped workers v next alerts h2 (stamped1 me workers slots first next c last left cause alerts row h s mine is_last k, record { owner = owned me workers slots first next c last left cause alerts row h s mine is_last k; is_last = last1 }));
      stored = subst (Along LeavesStored) (sym is) (made_stored v next alerts h2 (stored1 me workers slots first next c last left cause alerts row h s mine is_last k, emptied_buffer me workers slots first next c last left cause alerts row h s mine is_last k));
      wakes = (removal_wakes h v next c last cause lefts alerts are gone told k.wakes).wakes;
      past = removal_past h v next c last cause lefts alerts are k.past;
    }
