-- Fences and edges: the small steps of an owner that raise its floor, and that tell how far a channel has come.
use Rattle.std.proofs.Common.{◌≡◌, inl, ℕ, ◌+◌, ◌<◌, ◌≤◌, Bool, true, false, cond, max, List, [], ◌∷◌, ◌++◌, Option, refl, sym, ap, ◌∙◌, subst, arith}
use Rattle.std.specs.Prelude.{◌==◌, nat_le, unwrap_or}
use Rattle.std.specs.List.{AllByRecursion}
use Rattle.std.proofs.lemmas.Bool.{leb-true, leb-false, le-leb, lt-leb}
use Rattle.nc_types.specs.Id.{Id}
use Rattle.nc_types.specs.Message.{Message}
use Rattle.nc_journal.specs.History.{onto}
use Rattle.nc_journal.specs.Stamp.{floor_of, spent_of, last_of, made_last}
use Rattle.nc_journal.specs.declared.event.Event.{Event}
use Rattle.nc_journal.specs.declared.event.Event.TheVariants.{Raised, Edged, Made}
use Rattle.nc_journal.specs.declared.alert.AlertLine.{AlertLine}
use Rattle.nc_journal.specs.declared.alert.AlertLine.TheVariants.{EdgeAnswer}
use Rattle.nc_slots.specs.declared.slot.Slot.{Slot}
use Rattle.nc_owner.specs.declared.channel.Channel.{Channel}
use Rattle.nc_owner.specs.declared.desk.Desk.{Desk}
use Rattle.nc_owner.specs.AlertLines.{OutLine}
use Rattle.nc_owner.specs.State.{OwnerAt, found}
use Rattle.nc_owner.specs.Fence.{with_floor, raise_events}
use Rattle.nc_owner.specs.Edge.{last_in, edged, edged_event, edge_line, edge_events, edge_alerts}
use Rattle.nc_owner.specs.OtherSteps.{touch_events_of, touch_after}
use Rattle.nc_owner_laws.specs.OwnerFits.{OwnerFits}
use Rattle.nc_owner_laws.specs.Filters.{new_desk}
use Rattle.nc_owner_laws.specs.OwnerTold.{desk_of, channel_of, made, HistoryTells}
use Rattle.nc_owner_laws.specs.Weave.{weave}
use Rattle.nc_owner_laws.specs.Wake.{NotYet, hears, made_to}
use Rattle.nc_owner_laws.specs.OwnerStanding.{Stands}
use Rattle.nc_owner_laws.specs.Fencing.{RaiseKeeps, EdgeKeeps}
use Rattle.nc_owner_laws.proofs.Used.{eqb_self}
use Rattle.nc_owner_laws.proofs.Kept.{all_append}
use Rattle.nc_owner_laws.proofs.Filtering.{desk_law, last_law, last_made}
use Rattle.nc_owner_laws.proofs.Stamping.{onto_append}
use Rattle.nc_owner_laws.proofs.Weaving.{GrantsNot, weave_first, weave_nothing}
use Rattle.nc_owner_laws.proofs.Hearing.{stills, still_touch, hears_append}
use Rattle.nc_owner_laws.proofs.Owners.{own_onto}
use Rattle.nc_owner_laws.proofs.InOrder.{looks_law}

-- ---- the floor rises, or all stays as it is

-- with a fence that isn't above the floor the owner is the same
pub floor_same : (fence : ℕ) (s : OwnerAt) → fence ≤ s.desk.floor → with_floor fence s ≡ s
floor_same fence s le = (let e : max s.desk.floor fence ≡ s.desk.floor = omega (arith, le) in λ i. record s { desk = record s.desk { floor = e i } })

-- and nothing is told
pub raise_none : (fence : ℕ) (s : OwnerAt) → fence ≤ s.desk.floor → raise_events fence s ≡ []
raise_none fence s le = ap (λ (b : Bool). cond b [] (Raised s.desk.me fence ∷ [])) (le-leb fence s.desk.floor le)

-- where it is, the floor rises
pub raise_one : (fence : ℕ) (s : OwnerAt) → s.desk.floor < fence → raise_events fence s ≡ Raised s.desk.me fence ∷ []
raise_one fence s lt = ap (λ (b : Bool). cond b [] (Raised s.desk.me fence ∷ [])) (lt-leb fence s.desk.floor lt)

-- what holds where nothing happens, and where the floor rises, holds behind a fence
pub raised_so : (P : List Event → OwnerAt → Type 0) (fence : ℕ) (s : OwnerAt) → P [] s → (s.desk.floor < fence → P (Raised s.desk.me fence ∷ []) (with_floor fence s)) → P (raise_events fence s) (with_floor fence s)
raised_so P fence s same risen = by (nat_le fence s.desk.floor) refl
  where
    by : (b : Bool) → nat_le fence s.desk.floor ≡ b → P (cond b [] (Raised s.desk.me fence ∷ [])) (with_floor fence s)
    by true e = subst (P []) (sym (floor_same fence s (leb-true fence s.desk.floor e))) same
    by false e = risen (leb-false fence s.desk.floor e)

-- all that a fence tells is that the floor is raised
pub raise_are : (P : Event → Type 0) (fence : ℕ) (s : OwnerAt) → P (Raised s.desk.me fence) → AllByRecursion P (raise_events fence s)
raise_are P fence s p = raised_so (λ es x. AllByRecursion P es) fence s tt (λ _. (p, tt))

-- and that comes first
pub weave_raised : (v : ℕ) (next : ℕ → ℕ) (fence : ℕ) (s : OwnerAt) (es : List Event) (alerts : List OutLine) → weave v next (raise_events fence s ++ es) alerts ≡ raise_events fence s ++ weave v next es alerts
weave_raised v next fence s es alerts = weave_first v next (raise_events fence s) es alerts (raise_are GrantsNot fence s tt)

pub onto_raised : (v : ℕ) (next : ℕ → ℕ) (fence : ℕ) (s : OwnerAt) (es : List Event) (alerts : List OutLine) (h : List Event) → onto (weave v next (raise_events fence s ++ es) alerts) h ≡ onto (weave v next es alerts) (onto (raise_events fence s) h)
onto_raised v next fence s es alerts h = ap (λ (l : List Event). onto l h) (weave_raised v next fence s es alerts) ∙ onto_append (raise_events fence s) (weave v next es alerts) h

-- ---- an edge is a touch, and then told and answered

-- what is told of an edge are its touch and the edge
pub edge_are : (P : Event → Type 0) (from number k : ℕ) (c : List ℕ) (row : List (Slot Message)) (s : OwnerAt) → AllByRecursion P (touch_events_of c row s) → P (edged_event from number k c (touch_after c row s)) → AllByRecursion P (edge_events from number k c row s)
edge_are P from number k c row s touch one = all_append P (touch_events_of c row s) (edged_event from number k c (touch_after c row s) ∷ []) touch (one, tt)

pub weave_edge : (v : ℕ) (next : ℕ → ℕ) (from number k : ℕ) (c : List ℕ) (row : List (Slot Message)) (s : OwnerAt)
    → weave v next (edge_events from number k c row s) (edge_alerts from number c row s) ≡ touch_events_of c row s ++ edged_event from number k c (touch_after c row s) ∷ Made v from (next from) (edge_line from number c (touch_after c row s)).line ∷ []
weave_edge v next from number k c row s =
    weave_first v next (touch_events_of c row s) (edged_event from number k c (touch_after c row s) ∷ []) (edge_alerts from number c row s) (stills (touch_events_of c row s) (still_touch c row s)).1

-- so it is put on a history behind a sweep of its channel
pub onto_edge : (v : ℕ) (next next' : ℕ → ℕ) (from number k : ℕ) (c : List ℕ) (row : List (Slot Message)) (s : OwnerAt) (h : List Event)
    → onto (weave v next (edge_events from number k c row s) (edge_alerts from number c row s)) h
    ≡ Made v from (next from) (edge_line from number c (touch_after c row s)).line ∷ edged_event from number k c (touch_after c row s) ∷ onto (weave v next' (touch_events_of c row s) []) h
onto_edge v next next' from number k c row s h =
    let last = edged_event from number k c (touch_after c row s) ∷ Made v from (next from) (edge_line from number c (touch_after c row s)).line ∷ [] in
    ap (λ (l : List Event). onto l h) (weave_edge v next from number k c row s)
    ∙ onto_append (touch_events_of c row s) last h
    ∙ ap (λ (l : List Event). onto last (onto l h)) (sym (weave_nothing v next' (touch_events_of c row s)))

-- a touch leaves the owner's number, its floor and the numbers of looks
pub touch_me : (c : List ℕ) (row : List (Slot Message)) (s : OwnerAt) → (touch_after c row s).desk.me ≡ s.desk.me
touch_me c row s = refl

pub touch_floor : (c : List ℕ) (row : List (Slot Message)) (s : OwnerAt) → (touch_after c row s).desk.floor ≡ s.desk.floor
touch_floor c row s = refl

pub touch_looks : (c : List ℕ) (row : List (Slot Message)) (s : OwnerAt) → (touch_after c row s).desk.looks ≡ s.desk.looks
touch_looks c row s = refl

-- ---- what they keep

floor_fits : (fence : ℕ) (row : List (Slot Message)) (s : OwnerAt) → OwnerFits row s → OwnerFits row (with_floor fence s)
floor_fits fence row s f = record { names = f.names; slots = f.slots; apart = f.apart; number = f.number; kept = f.kept; regular = f.regular }

edged_fits : (row : List (Slot Message)) (s : OwnerAt) → OwnerFits row s → OwnerFits row (edged s)
edged_fits row s f = record { names = f.names; slots = f.slots; apart = f.apart; number = f.number; kept = f.kept; regular = f.regular }

floor_tells : (first : Desk) (fence w : ℕ) (h : List Event) (s : OwnerAt) → HistoryTells first h s → HistoryTells first (Raised w fence ∷ h) (with_floor fence s)
floor_tells first fence w h s t = record { desk = λ i. record (t.desk i) { floor = max (t.desk i).floor fence }; channels = t.channels }

edged_tells : (first : Desk) (w v from n number k floor : ℕ) (c : List ℕ) (last : Id) (a : AlertLine) (h : List Event) (s : OwnerAt) → HistoryTells first h s → HistoryTells first (Made v from n a ∷ Edged w s.desk.looks from number k c floor last ∷ h) (edged s)
edged_tells first w v from n number k floor c last a h s t = record { desk = λ i. record (t.desk i) { looks = s.desk.looks + 1 }; channels = t.channels }

-- the answer to an edge wakes no look
edge_heard : (b : Bool) (c : List ℕ) (q : ℕ) (ms : List AlertLine) (number p floor : ℕ) (last : Id) → hears c q NotYet (cond b (ms ++ EdgeAnswer number p floor last ∷ []) ms) ≡ hears c q NotYet ms
edge_heard true c q ms number p floor last = hears_append c q NotYet ms (EdgeAnswer number p floor last ∷ [])
edge_heard false c q ms number p floor last = refl

module _ (me workers slots first : ℕ) (row : List (Slot Message)) (h : List Event) (s : OwnerAt) (k : Stands me workers slots first row h s) where
  is_floor : s.desk.floor ≡ floor_of h
  is_floor = ap (λ (d : Desk). d.floor) k.tells.desk ∙ (desk_law me workers slots first h).floor

  is_look : s.desk.looks ≡ (desk_of (new_desk me workers slots first) h).looks
  is_look = ap (λ (d : Desk). d.looks) k.tells.desk

  pub is_last : (c : List ℕ) → last_in c s ≡ last_of c h
  is_last c =
      let start = new_desk me workers slots first in
      let d = desk_of start h in
      ap (λ (x : Desk). (unwrap_or (found c s) (made x.spent)).backlog.last) k.tells.desk
      ∙ ap (λ (o : Option Channel). (unwrap_or o (made d.spent)).backlog.last) (k.tells.channels c)
      ∙ last_made (channel_of start c h) (made_last c h) d.spent (spent_of h) (last_law me workers slots first c h) (desk_law me workers slots first h).spent

pub raise_keeps : RaiseKeeps
raise_keeps me workers slots first fence row h s lt k =
    let t = k.stands in
    let o = k.ordered in
    record {
      stands = record {
        fits = floor_fits fence row s t.fits;
        local = own_onto me (Raised me fence ∷ []) h (eqb_self me, tt) t.local;
        tells = floor_tells (new_desk me workers slots first) fence me h s t.tells;
        stamped = (t.stamped, subst (λ (l : List Event). floor_of l < fence) (sym t.local) (omega (arith, lt, is_floor me workers slots first row h s t)));
        stored = (t.stored, tt);
        wakes = record { same = t.wakes.same; waits = t.wakes.waits };
        past = λ w c q x. t.past w c q x;
      };
      ordered = record { looks = (o.looks, tt); draws = (o.draws, tt); answers = (o.answers, tt) };
      new_answers = (k.new_answers, tt);
    }

pub edge_keeps : EdgeKeeps
edge_keeps me workers slots first from number k n c row h s keeps =
    let t = keeps.stands in
    let o = keeps.ordered in
    let answer = EdgeAnswer number s.desk.looks s.desk.floor (last_in c s) in
    record {
      stands = record {
        fits = edged_fits row s t.fits;
        local = own_onto me (Edged me s.desk.looks from number k c s.desk.floor (last_in c s) ∷ Made me from n answer ∷ []) h (eqb_self me, (eqb_self me, tt)) t.local;
        tells = edged_tells (new_desk me workers slots first) me me from n number k s.desk.floor c (last_in c s) answer h s t.tells;
        stamped = ((t.stamped, tt), tt);
        stored = ((t.stored, tt), tt);
        wakes = record {
          same = λ w d q only. edge_heard (from == w) d q (made_to w h) number s.desk.looks s.desk.floor (last_in c s) ∙ t.wakes.same w d q only;
          waits = t.wakes.waits;
        };
        past = λ w d q x. t.past w d q x;
      };
      ordered = record {
        looks = ((o.looks, record { floor_then = is_floor me workers slots first row h s t; last_then = is_last me workers slots first row h s t c }), tt);
        draws = ((o.draws, is_look me workers slots first row h s t ∙ looks_law (new_desk me workers slots first) h), tt);
        answers = ((o.answers, tt), inl (refl, refl, refl, refl, refl, refl));
      };
      new_answers = ((keeps.new_answers, tt), tt);
    }
