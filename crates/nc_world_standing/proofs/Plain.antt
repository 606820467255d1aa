-- Events that tell nothing of a subscriber keep the order, and leave each subscriber where it stands or starts.
use Rattle.std.proofs.Common.{◌≡◌, ℕ, Bool, true, false, cond, List, [], ◌∷◌, ◌++◌, refl, ap, ◌∙◌, subst, map}
use Rattle.std.specs.Prelude.{◌==◌, Option}
use Rattle.std.specs.List.{AllByRecursion}
use Rattle.nc_types.specs.declared.start.Start.{Start}
use Rattle.nc_journal.specs.History.{own, onto}
use Rattle.nc_journal.specs.Standing.{Absent, Starting, stage_of, is_once, IsServed, NobodyServed, OrderedAt}
use Rattle.nc_journal.specs.declared.event.Event.{Event}
use Rattle.nc_journal.specs.declared.event.Event.TheVariants.{Subscribed, Started, Sent, Ended, Wrote, Made, Shut}
use Rattle.nc_journal.specs.declared.word.ModeLine.{ModeLine}
use Rattle.nc_spool_state.specs.declared.spool.Reader.{Reader}
use Rattle.nc_spool_state.specs.declared.kept.Held.{Held}
use Rattle.nc_spool_state.specs.Key.{KeyAt}
use Rattle.nc_spool_state.specs.Spool.{SpoolAt}
use Rattle.nc_spool_state.specs.Starting.{StartingAt}
use Rattle.nc_owner_laws.specs.Weave.{numbered}
use Rattle.nc_worker_state.specs.Deed.{Deed, Does, Makes, told}
use Rattle.nc_worker_state.specs.Spooled.{Hold, release}
use Rattle.nc_world_laws.proofs.Frames.{IsStageless}
use Rattle.nc_world_members.specs.Stages.{Starts}
use Rattle.nc_world_told.specs.Readers.{StandsAtKey, StandHere}
use Rattle.nc_world_ordered.specs.Orderly.{IsOrderly}
use Rattle.nc_world_ordered.proofs.Orders.{stage_stays, one_orderly}

asks_nobody : (e : Event) (h : List Event) → IsStageless e → NobodyServed h → OrderedAt h e
asks_nobody (Subscribed w k conn list mode start timeout close) h p n = absurd p
asks_nobody (Started w k cur) h p n = absurd p
asks_nobody (Sent w k i c id cur looks) h p n = absurd p
asks_nobody (Ended w k cause) h p n = absurd p
asks_nobody (Wrote w conn bytes) h p n = tt
asks_nobody (Made w to m a) h p n = tt
asks_nobody (Shut w conn cause) h p n = tt
asks_nobody e h p n = n

pub plain_orderly : (es h : List Event) → AllByRecursion IsStageless es → IsOrderly h → IsOrderly (onto es h)
plain_orderly [] h p o = o
plain_orderly (e ∷ es) h p o = plain_orderly es (e ∷ h) p.1 (one_orderly e h p.0 (asks_nobody e h p.0) o)

pub plain_stage : (w k : ℕ) (es h : List Event) → AllByRecursion IsStageless es → stage_of k (own w (onto es h)) ≡ stage_of k (own w h)
plain_stage w k [] h p = refl
plain_stage w k (e ∷ es) h p = plain_stage w k es (e ∷ h) p.1 ∙ stage_stays w k e h p.0

readers_stand : (w : ℕ) (es h : List Event) → AllByRecursion IsStageless es → (key : KeyAt) (rs : List Reader) → AllByRecursion (StandsAtKey w key h) rs → AllByRecursion (StandsAtKey w key (onto es h)) rs
readers_stand w es h p key [] s = tt
readers_stand w es h p key (r ∷ rs) s = (plain_stage w r.k es h p ∙ s.0, readers_stand w es h p key rs s.1)

pub plain_stand : (w : ℕ) (es h : List Event) → AllByRecursion IsStageless es → (shelf : List SpoolAt) → AllByRecursion (λ x. StandHere w x h) shelf → AllByRecursion (λ x. StandHere w x (onto es h)) shelf
plain_stand w es h p [] s = tt
plain_stand w es h p (x ∷ shelf) s = (readers_stand w es h p x.key x.readers s.0, plain_stand w es h p shelf s.1)

pub plain_start : (w : ℕ) (es h : List Event) → AllByRecursion IsStageless es → (starts : List StartingAt) → AllByRecursion (Starts w h) starts → AllByRecursion (Starts w (onto es h)) starts
plain_start w es h p [] s = tt
plain_start w es h p (x ∷ starts) s = (plain_stage w x.reader.k es h p ∙ s.0, plain_start w es h p starts s.1)

-- ---- a subscriber subscribes

pub subscribed_orderly : (me k : ℕ) (conn : Option ℕ) (list : List (List ℕ)) (mode : ModeLine) (start : Start) (timeout : ℕ) (close : Bool) (h : List Event) → stage_of k (own me h) ≡ Absent → IsOrderly h
    → IsOrderly (Subscribed me k conn list mode start timeout close ∷ h)
subscribed_orderly me k conn list mode start timeout close h absent o = record {
  ordered = (o.ordered, (absent, o.ended));
  ended = λ w n. by w n (w == me) refl (k == n) refl;
}
  where
    e : Event
    e = Subscribed me k conn list mode start timeout close

    by : (w n : ℕ) (b : Bool) → (w == me) ≡ b → (d : Bool) → (k == n) ≡ d → IsServed (stage_of n (own w (Subscribed me k conn list mode start timeout close ∷ h))) → ⊥
    by w n true p true q is =
        subst IsServed (ap (λ (x : Bool). stage_of n (cond x (e ∷ own w h) (own w h))) p ∙ ap (λ (x : Bool). cond x (Starting list (is_once mode) start) (stage_of n (own w h))) q) is
    by w n true p false q is =
        o.ended w n (subst IsServed (ap (λ (x : Bool). stage_of n (cond x (e ∷ own w h) (own w h))) p ∙ ap (λ (x : Bool). cond x (Starting list (is_once mode) start) (stage_of n (own w h))) q) is)
    by w n false p d q is = o.ended w n (subst IsServed (ap (λ (x : Bool). stage_of n (cond x (e ∷ own w h) (own w h))) p) is)

-- ---- deeds one behind the other

pub told_split : (me : ℕ) (next : ℕ → ℕ) (xs ys : List Deed) → (then : ℕ → ℕ) × (told me next (xs ++ ys) ≡ told me next xs ++ told me then ys)
told_split me next [] ys = (next, refl)
told_split me next (Does e ∷ xs) ys = let s = told_split me next xs ys in (s.0, ap (λ (l : List Event). e ∷ l) s.1)
told_split me next (Makes to a ∷ xs) ys = let s = told_split me (numbered next to) xs ys in (s.0, ap (λ (l : List Event). Made me to (next to) a ∷ l) s.1)

-- what is released tells nothing of a subscriber
pub released_plain : (me : ℕ) (next : ℕ → ℕ) (xs : List (Held Hold)) → AllByRecursion IsStageless (told me next (map (release me) xs))
released_plain me next [] = tt
released_plain me next (x ∷ xs) = (tt, released_plain me next xs)
