-- The leaving rule of each local history is that of the whole.
use Rattle.std.proofs.Common.{◌≡◌, ℕ, ◌-◌, ◌<◌, ◌≤◌, Bool, true, false, cond, List, [], ◌∷◌, ◌++◌, refl, sym, ap, ◌∙◌, subst, length}
use Rattle.std.specs.Prelude.{◌==◌}
use Rattle.std.specs.List.{AllByRecursion}
use Rattle.nc_types.specs.Id.{Id}
use Rattle.nc_types.specs.Channel.{owner_of}
use Rattle.nc_journal.specs.History.{own, is_by, Along}
use Rattle.nc_journal.specs.Stamp.{IsStamped, StampedAt, clock_of}
use Rattle.nc_journal.specs.Message.{Message, buffer}
use Rattle.nc_journal.specs.Leaving.{IsLeavingRule, Leaves, LeavesBy, LeftAt, FindsAt, NoneExpired, HasMessage, StandsFirst, MakesRoom, MakesWay, GoesNext, GoesToo, has_expired, grants_since, most_grants}
use Rattle.nc_journal.specs.declared.event.Event.{Event}
use Rattle.nc_journal.specs.declared.event.Event.TheVariants.{Stored, Left, Looked, Edged, Joined, Parted, Removed}
use Rattle.nc_journal.specs.declared.word.LeftCause.{LeftCause}
use Rattle.nc_journal.specs.declared.word.LeftCause.TheVariants.{Length, Expired, Deleted, Spent}
use Rattle.nc_journal.specs.declared.word.RemovedCause.TheVariants.{Deleted as ByDeletion}
use Rattle.nc_owner_laws.specs.Buffered.{LeavesStored}
use Rattle.nc_world_laws.proofs.Local.{eqb_self, own_one, own_twice}
use Rattle.nc_world_owners.specs.ByOwner.{IsByChannelOwner, AreByChannelOwners}
use Rattle.nc_world_owners.proofs.Gluing.{along_rest, along_head, buffer_own}

-- ---- cuts of a history and of a local one

pub own_append : (w : ℕ) (xs ys : List Event) → own w (xs ++ ys) ≡ own w xs ++ own w ys
own_append w [] ys = refl
own_append w (e ∷ xs) ys = by (is_by w e) (own_append w xs ys)
  where
    by : (b : Bool) → own w (xs ++ ys) ≡ own w xs ++ own w ys → cond b (e ∷ own w (xs ++ ys)) (own w (xs ++ ys)) ≡ cond b (e ∷ own w xs) (own w xs) ++ own w ys
    by true same = ap (λ (l : List Event). e ∷ l) same
    by false same = same

-- a cut of a local history is one of the whole
pub record Lifted (w : ℕ) (h : List Event) (e : Event) (seen : List Event) : Type 0 where
  pub newer : List Event
  pub older : List Event
  pub cut : h ≡ newer ++ e ∷ older
  pub same : own w older ≡ seen

lift_more : (w : ℕ) (x : Event) (h : List Event) (e : Event) (seen : List Event) → Lifted w h e seen → Lifted w (x ∷ h) e seen
lift_more w x h e seen l = record { newer = x ∷ l.newer; older = l.older; cut = ap (λ (z : List Event). x ∷ z) l.cut; same = l.same }

pub lifted : (w : ℕ) (h : List Event) (since : List Event) (e : Event) (seen : List Event) → own w h ≡ since ++ e ∷ seen → Lifted w h e seen
lifted w [] [] e seen is = absurd cc
lifted w [] (x ∷ since) e seen is = absurd cc
lifted w (x ∷ h) since e seen is = by (is_by w x) since is (λ l. lifted w h l e seen)
  where
    by : (b : Bool) (l : List Event) → cond b (x ∷ own w h) (own w h) ≡ l ++ e ∷ seen → ((l : List Event) → own w h ≡ l ++ e ∷ seen → Lifted w h e seen) → Lifted w (x ∷ h) e seen
    by true [] i rest = record { newer = []; older = h; cut = let same : x ≡ e = cc in ap (λ (z : Event). z ∷ h) same; same = cc }
    by true (y ∷ l) i rest = lift_more w x h e seen (rest l cc)
    by false l i rest = lift_more w x h e seen (rest l i)

-- what holds along local histories holds along older ones
pub older_local : (P : List Event → Event → Type 0) (newer older : List Event) → ((v : ℕ) → Along P (own v (newer ++ older))) → (v : ℕ) → Along P (own v older)
older_local P [] older k = k
older_local P (e ∷ newer) older k = older_local P newer older (λ v. along_rest P (is_by v e) e (own v (newer ++ older)) (k v))

module _ (workers : ℕ) where
  -- what the local histories keep that make buffers the owners'
  pub record KeepBuffers (h : List Event) : Type 0 where
    pub stamped : (v : ℕ) → IsStamped workers (own v h)
    pub stored : (v : ℕ) → Along LeavesStored (own v h)

  pub older_buffers : (newer older : List Event) → KeepBuffers (newer ++ older) → KeepBuffers older
  older_buffers newer older k = record { stamped = older_local (StampedAt workers) newer older k.stamped; stored = older_local LeavesStored newer older k.stored }

  pub owners_buffer : (w : ℕ) (c : List ℕ) (h : List Event) → w ≡ owner_of workers c → KeepBuffers h → buffer c h ≡ buffer c (own w h)
  owners_buffer w c h owns k = buffer_own workers c h k.stamped k.stored ∙ ap (λ (v : ℕ). buffer c (own v h)) (sym owns)

  -- ---- what leaves

  lift_room : (w : ℕ) (c : List ℕ) (newer older : List Event) → buffer c older ≡ buffer c (own w older) → MakesRoom w c (own w newer) (own w older) → MakesRoom w c newer older
  lift_room w c newer older same r =
      let l = lifted w newer r.after (Stored w c r.id r.slot r.len r.exp r.kept r.members r.from r.r r.ct r.body) r.between r.next in
      record {
        after = l.newer;
        id = r.id;
        slot = r.slot;
        len = r.len;
        exp = r.exp;
        kept = r.kept;
        members = r.members;
        from = r.from;
        r = r.r;
        ct = r.ct;
        body = r.body;
        between = l.older;
        next = l.cut;
        way = subst (AllByRecursion MakesWay) (ap (own w) (sym l.same) ∙ own_twice w l.older) r.way;
        full = subst (λ (ms : List Message). r.len - 1 < length ms) (sym same) r.full;
      }

  lift_goes : (w : ℕ) (c : List ℕ) (newer : List Event) → GoesNext w c (own w newer) → GoesNext w c newer
  lift_goes w c newer r =
      let l = lifted w newer r.after (Removed w c r.last ByDeletion) r.between r.next in
      record { after = l.newer; last = r.last; between = l.older; next = l.cut; too = subst (AllByRecursion (GoesToo c)) (ap (own w) (sym l.same) ∙ own_twice w l.older) r.too }

  lift_cause : (cause : LeftCause) (w : ℕ) (c : List ℕ) (id : Id) (slot : ℕ) (newer older : List Event) → buffer c older ≡ buffer c (own w older) → LeavesBy cause w c id slot (own w newer) (own w older) → LeavesBy cause w c id slot newer older
  lift_cause Expired w c id slot newer older same l =
      subst (λ (ms : List Message). HasMessage (λ m. has_expired (clock_of (own w older)) m ≡ true) ms id slot) (sym same)
      (subst (λ (k : List Event). HasMessage (λ m. has_expired (clock_of k) m ≡ true) (buffer c (own w older)) id slot) (own_twice w older) l)
  lift_cause Length w c id slot newer older same l = (subst (λ (ms : List Message). StandsFirst ms id slot) (sym same) l.0, lift_room w c newer older same l.1)
  lift_cause Spent w c id slot newer older same l =
      subst (λ (ms : List Message). HasMessage (λ m. grants_since m.slot (own w older) ≡ most_grants) ms id slot) (sym same)
      (subst (λ (k : List Event). HasMessage (λ m. grants_since m.slot k ≡ most_grants) (buffer c (own w older)) id slot) (own_twice w older) l)
  lift_cause Deleted w c id slot newer older same l = (subst (λ (ms : List Message). StandsFirst ms id slot) (sym same) l.0, lift_goes w c newer l.1)

  lift_left : (h : List Event) → KeepBuffers h → ((v : ℕ) → IsLeavingRule workers (own v h)) → (newer : List Event) (e : Event) (older : List Event) → h ≡ newer ++ e ∷ older → LeftAt workers newer e older
  lift_left h k rule newer (Left w c id slot cause) older is =
      let e = Left w c id slot cause in
      let cut : own w h ≡ own w newer ++ e ∷ own w older = ap (own w) is ∙ own_append w newer (e ∷ older) ∙ ap (λ (l : List Event). own w newer ++ l) (own_one w e older (eqb_self w)) in
      let local : Leaves workers w c id slot cause (own w newer) (own w older) = (rule w).left (own w newer) e (own w older) cut in
      let before = older_buffers (e ∷ []) older (older_buffers newer (e ∷ older) (subst KeepBuffers is k)) in
      record { owner = local.owner; why = lift_cause cause w c id slot newer older (owners_buffer w c older local.owner before) local.why }
  lift_left h k rule newer e older is = tt

  -- ---- what is found

  lift_none : (w : ℕ) (c : List ℕ) (h : List Event) → buffer c h ≡ buffer c (own w h) → NoneExpired w c (own w h) → NoneExpired w c h
  lift_none w c h same n =
      subst (λ (ms : List Message). AllByRecursion (λ m. has_expired (clock_of (own w h)) m ≡ false) ms) (sym same)
      (subst (λ (k : List Event). AllByRecursion (λ m. has_expired (clock_of k) m ≡ false) (buffer c (own w h))) (own_twice w h) n)

  lift_found : (e : Event) (h : List Event) → IsByChannelOwner workers e → KeepBuffers (e ∷ h) → ((v : ℕ) → Along FindsAt (own v (e ∷ h))) → FindsAt h e
  lift_found (Looked w q from number c after floor found) h by k f = lift_none w c h (owners_buffer w c h by (older_buffers (Looked w q from number c after floor found ∷ []) h k)) (along_head FindsAt (w == w) (Looked w q from number c after floor found) (own w h) (eqb_self w) (f w))
  lift_found (Edged w q from number n c floor last) h by k f = lift_none w c h (owners_buffer w c h by (older_buffers (Edged w q from number n c floor last ∷ []) h k)) (along_head FindsAt (w == w) (Edged w q from number n c floor last) (own w h) (eqb_self w) (f w))
  lift_found (Joined w c from n) h by k f = lift_none w c h (owners_buffer w c h by (older_buffers (Joined w c from n ∷ []) h k)) (along_head FindsAt (w == w) (Joined w c from n) (own w h) (eqb_self w) (f w))
  lift_found (Parted w c from n) h by k f = lift_none w c h (owners_buffer w c h by (older_buffers (Parted w c from n ∷ []) h k)) (along_head FindsAt (w == w) (Parted w c from n) (own w h) (eqb_self w) (f w))
  lift_found (Removed w c last cause) h by k f = lift_none w c h (owners_buffer w c h by (older_buffers (Removed w c last cause ∷ []) h k)) (along_head FindsAt (w == w) (Removed w c last cause) (own w h) (eqb_self w) (f w))
  lift_found (Stored w c id slot len exp kept members from r ct body) h by k f =
      let e = Stored w c id slot len exp kept members from r ct body in
      let at = along_head FindsAt (w == w) e (own w h) (eqb_self w) (f w) in (
        lift_none w c h (owners_buffer w c h by (older_buffers (e ∷ []) h k)) at.0,
        subst (λ (ms : List Message). length ms ≤ len) (ap (buffer c) (sym (own_one w e h (eqb_self w))) ∙ sym (owners_buffer w c (e ∷ h) by k)) at.1,
      )
  lift_found e h by k f = tt

  lift_finds : (h : List Event) → AreByChannelOwners workers h → KeepBuffers h → ((v : ℕ) → Along FindsAt (own v h)) → Along FindsAt h
  lift_finds [] by k f = tt
  lift_finds (e ∷ h) by k f = (lift_finds h by.1 (older_buffers (e ∷ []) h k) (λ v. along_rest FindsAt (is_by v e) e (own v h) (f v)), lift_found e h by.0 k f)

  pub leaves_whole : (h : List Event) → AreByChannelOwners workers h → KeepBuffers h → ((v : ℕ) → IsLeavingRule workers (own v h)) → IsLeavingRule workers h
  leaves_whole h by k rule = record { left = lift_left h k rule; finds = lift_finds h by k (λ v. (rule v).finds) }
