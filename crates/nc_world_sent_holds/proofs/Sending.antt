-- What a worker sends came with a hold that it took and hasn't released.
use Rattle.std.proofs.Common.{◌≡◌, inl, inr, ℕ, zero, suc, ◌<◌, ◌≤◌, Bool, true, false, cond, List, [], ◌∷◌, ◌++◌, Option, Some, None, refl, sym, ap, ◌∙◌, subst, length, get_or, filter, arith}
use Rattle.std.specs.Prelude.{◌==◌}
use Rattle.std.specs.List.{AllByRecursion}
use Rattle.std.proofs.lemmas.Bool.{eq-eqb}
use Rattle.nc_types.specs.Id.{Id}
use Rattle.nc_types.specs.Channel.{owner_of}
use Rattle.nc_types.specs.declared.info.Info.{Info}
use Rattle.nc_journal.specs.History.{own, onto, is_by, Along}
use Rattle.nc_journal.specs.Holding.{times_so, releases_number}
use Rattle.nc_journal.specs.declared.event.Event.{Event}
use Rattle.nc_journal.specs.declared.event.Event.TheVariants.{Sent, Released, Made, Took, Pending, Quiet}
use Rattle.nc_journal.specs.declared.word.EndedCause.{EndedCause}
use Rattle.nc_journal.specs.declared.word.EndedCause.TheVariants.{Answered, Deleted}
use Rattle.nc_journal.specs.declared.alert.AlertLine.{AlertLine}
use Rattle.nc_journal.specs.declared.alert.AlertLine.TheVariants as lines
use Rattle.nc_owner_laws.specs.Kinds.{IsOfOwner}
use Rattle.nc_owner_laws.specs.Used.{bit, times}
use Rattle.nc_owner_laws.specs.Weave.{numbered}
use Rattle.nc_spool.specs.declared.fact.Fact.{Fact}
use Rattle.nc_spool.specs.declared.fact.Fact.TheVariants as facts
use Rattle.nc_spool.specs.Calls.{board_of, arrive_facts, answer_facts, edge_facts, notice_facts, gone_facts}
use Rattle.nc_spool_state.specs.declared.hear.News.{News}
use Rattle.nc_spool_state.specs.declared.place.Place.{Place}
use Rattle.nc_spool_state.specs.declared.place.Place.TheVariants.{Asked, Nothing, Found}
use Rattle.nc_spool_state.specs.Kept.{is_kept, is_idle}
use Rattle.nc_spool_state.specs.Key.{name_at, id_at}
use Rattle.nc_spool_state.specs.Spool.{SpoolAt, no_place, place_at}
use Rattle.nc_spool_laws.specs.Attended.{PlaceHeld, IsHeld}
use Rattle.nc_spool_laws.proofs.Lists.{all-changed}
use Rattle.nc_spool_brought.specs.Brought.{news_of}
use Rattle.nc_spool_brought.specs.Came.{IsAsked, PlaceCame, SpoolCame, FactCame, BoardCame, KeepsCame}
use Rattle.nc_spool_brought.proofs.Coming.{came-kept}
use Rattle.nc_history.specs.Packets.{Packet, kind_of, lines_of, pending}
use Rattle.nc_worker_state.specs.Setup.{Setup}
use Rattle.nc_worker_state.specs.Incoming.{Incoming, TakesPacket, ClockReads, Reaps, Posts, Subscribes, Removes, Informs}
use Rattle.nc_worker_state.specs.Deed.{Deed, Does, Makes, told, next_after}
use Rattle.nc_worker_state.specs.Desk.{Served, is_waiting, replied, with_spooled, handled as answered, begun}
use Rattle.nc_worker_state.specs.Spooled.{found_by, answers, facts_deeds}
use Rattle.nc_worker_state.specs.Worker.{WorkerAt, with_at, dealt_worker}
use Rattle.nc_world.specs.World.{World, handled_events, handled}
use Rattle.nc_world.specs.Reached.{IsSetup, IsInput, Reached}
use Rattle.nc_world_laws.specs.Good.{Good}
use Rattle.nc_world_laws.proofs.WorkerKinds.{IsBy}
use Rattle.nc_world_laws.proofs.WorldTheme.{IsWorldTheme}
use Rattle.nc_world_laws.proofs.Acting.{with_all}
use Rattle.nc_world_laws.proofs.Frames.{handled_onto}
use Rattle.nc_world_laws.proofs.Local.{eqb_self, either}
use Rattle.nc_world_laws.proofs.Parts.{owns, serves, before, part, behind, part_all}
use Rattle.nc_world_laws.proofs.Taking.{first_pending}
use Rattle.nc_world_laws.proofs.Telling.{AllDo}
use Rattle.nc_world_laws.proofs.WorldThemes.{world_theme_holds}
use Rattle.nc_world_holds.specs.Balance.{one_if, carries, carried_by}
use Rattle.nc_world_holds.proofs.Holding.{reached_holds}
use Rattle.nc_world_owners.proofs.ReachedHistories.{grants_are_drawn_once}
use Rattle.nc_world_owners.proofs.ReachedOwners.{messages_leave_by_rule, slots_are_taken, histories_are_of_owners}
use Rattle.nc_world_laws.proofs.Themes.{owner_theme_holds}
use Rattle.nc_rests.specs.Asking.{HasAsk, ask_numbers}
use Rattle.nc_rests.specs.Places.{PlaceHolds}
use Rattle.nc_rests.proofs.Asks.{one_ask}
use Rattle.nc_rests.proofs.Received.{of_next}
use Rattle.nc_world_told.specs.Known.{PlacesHold}
use Rattle.nc_world_asks.proofs.Reaching.{ring_next, reached_asks}
use Rattle.nc_world_places.specs.Notices.{IsNoticeOf}
use Rattle.nc_world_places.specs.Places.{shelf_at}
use Rattle.nc_world_places.proofs.Framing.{then_releases}
use Rattle.nc_world_places.proofs.Noticed.{reached_owners_notice}
use Rattle.nc_world_places.proofs.Reaching.{made_notices, reached_has_places}
use Rattle.nc_world_wakes.proofs.Keeping.{found_is_held}
use Rattle.nc_world_sent_holds.proofs.Granted.{IsTaken, taken_one, taken_onto, looked_owner, looked_asked, Brings, PacketBrings, grants_whole, pending_brings, GrantsAt}
use Rattle.nc_world_sent_holds.proofs.Keeping.{local_slots}
use Rattle.nc_world_sent_holds.proofs.Tying.{TiedFact, tied_theme, tied_grants}
use Rattle.nc_world_sent_holds.proofs.Unreleased.{of_number, unreleased, kept_counts}

-- a message came to a worker on a channel, with a grant of the channel's owner that it took
pub record Arrived (workers w : ℕ) (h : List Event) (c : List ℕ) (news : News) : Type 0 where
  pub owner : news.owner ≡ owner_of workers c
  pub slot : ℕ
  pub taken : IsTaken news.owner news.g slot w c news.id h

-- and whose hold isn't released
pub record ArrivedHeld (workers w : ℕ) (h : List Event) (c : List ℕ) (news : News) : Type 0 where
  pub arrived : Arrived workers w h c news
  pub unreleased : times_so (releases_number news.owner news.g) h ≡ 0

-- a worker took a hold of a message and hasn't released it
pub record HasHold (workers w : ℕ) (c : List ℕ) (id : Id) (h : List Event) : Type 0 where
  pub g : ℕ
  pub slot : ℕ
  pub taken : IsTaken (owner_of workers c) g slot w c id h
  pub unreleased : times_so (releases_number (owner_of workers c) g) h ≡ 0

abbrev pub SentAt : ℕ → List Event → Event → Type 0
SentAt workers h (Sent w k i c id cur looks) = HasHold workers w c id h
SentAt workers h _ = Unit {0}

-- the message that a place found came so
abbrev pub PlaceFound : ℕ → ℕ → List Event → List ℕ → Place → Type 0
PlaceFound workers w h c (Asked number earlier) = Unit {0}
PlaceFound workers w h c (Nothing quiet) = Unit {0}
PlaceFound workers w h c (Found q id owner g) = Arrived workers w h c (news_of id owner g)

abbrev pub SpoolFound : ℕ → ℕ → List Event → SpoolAt → Type 0
SpoolFound workers w h s = (j : ℕ) → j < length s.places → PlaceFound workers w h (name_at s.key j) (place_at s j)

pub record SendsHeld (workers : ℕ) (h : List Event) (world : World) : Type 0 where
  pub sent : Along (SentAt workers) h
  pub found : (w : ℕ) → AllByRecursion (SpoolFound workers w h) (shelf_at world w)

-- ---- what came stays so

arrived_onto : (workers w : ℕ) (es h : List Event) (c : List ℕ) (news : News) → Arrived workers w h c news → Arrived workers w (onto es h) c news
arrived_onto workers w es h c news x = record { owner = x.owner; slot = x.slot; taken = taken_onto news.owner news.g x.slot w c news.id es h x.taken }

place_onto : (workers w : ℕ) (es h : List Event) (c : List ℕ) (p : Place) → PlaceFound workers w h c p → PlaceFound workers w (onto es h) c p
place_onto workers w es h c (Asked number earlier) x = tt
place_onto workers w es h c (Nothing quiet) x = tt
place_onto workers w es h c (Found q id owner g) x = arrived_onto workers w es h c (news_of id owner g) x

shelf_onto : (workers w : ℕ) (es h : List Event) (shelf : List SpoolAt) → AllByRecursion (SpoolFound workers w h) shelf → AllByRecursion (SpoolFound workers w (onto es h)) shelf
shelf_onto workers w es h shelf a = all-changed (SpoolFound workers w h) (SpoolFound workers w (onto es h)) shelf (λ s f j lt. place_onto workers w es h (name_at s.key j) (place_at s j) (f j lt)) a

-- ---- events that neither send nor release

abbrev IsPlain : Event → Type 0
IsPlain (Sent w k i c id cur looks) = ⊥
IsPlain (Released w owner g slot) = ⊥
IsPlain _ = Unit {0}

plain_owner : (w : ℕ) (e : Event) → IsOfOwner w e → IsPlain e
plain_owner w (Sent v k i c id cur looks) p = absurd p
plain_owner w (Released v owner g slot) p = absurd p
plain_owner w e p = tt

plain_sent : (workers : ℕ) (e : Event) (h : List Event) → IsPlain e → SentAt workers h e
plain_sent workers (Sent w k i c id cur looks) h p = absurd p
plain_sent workers e h p = tt

plain_onto : (workers : ℕ) (es h : List Event) → AllByRecursion IsPlain es → Along (SentAt workers) h → Along (SentAt workers) (onto es h)
plain_onto workers [] h p k = k
plain_onto workers (e ∷ es) h p k = plain_onto workers es (e ∷ h) p.1 (k, plain_sent workers e h p.0)

plain_before : (setup : Setup) (w : ℕ) (i : Incoming) (world : World) → AllByRecursion IsPlain (before setup w i world)
plain_before setup w (TakesPacket from p) world = (tt, tt)
plain_before setup w (ClockReads t) world = (tt, tt)
plain_before setup w Reaps world = tt
plain_before setup w (Posts c body) world = (tt, tt)
plain_before setup w (Subscribes k list start) world = (tt, tt)
plain_before setup w (Removes c) world = (tt, tt)
plain_before setup w (Informs c) world = (tt, tt)

-- ---- while a worker hasn't released anything since a moment

pub record Later (w : ℕ) (opened l : List Event) : Type 0 where
  pub taken : (o g slot : ℕ) (c : List ℕ) (id : Id) → IsTaken o g slot w c id opened → IsTaken o g slot w c id l
  pub unreleased : (o g : ℕ) → times_so (releases_number o g) l ≡ times_so (releases_number o g) opened

abbrev IsUnreleased : Event → Type 0
IsUnreleased (Released w owner g slot) = ⊥
IsUnreleased _ = Unit {0}

plain_unreleased : (e : Event) → IsPlain e → IsUnreleased e
plain_unreleased (Sent w k i c id cur looks) p = absurd p
plain_unreleased (Released w owner g slot) p = absurd p
plain_unreleased e p = tt

same_releases : (o g : ℕ) (e : Event) (l : List Event) → IsUnreleased e → times_so (releases_number o g) (e ∷ l) ≡ times_so (releases_number o g) l
same_releases o g (Released w owner n slot) l p = absurd p
same_releases o g e l p = refl

later_one : (w : ℕ) (opened l : List Event) (e : Event) → IsUnreleased e → Later w opened l → Later w opened (e ∷ l)
later_one w opened l e p k = record {
  taken = λ o g slot c id x. taken_one o g slot w c id e l (k.taken o g slot c id x);
  unreleased = λ o g. same_releases o g e l p ∙ k.unreleased o g;
}

later_onto : (w : ℕ) (opened : List Event) (es l : List Event) → AllByRecursion IsPlain es → Later w opened l → Later w opened (onto es l)
later_onto w opened [] l p k = k
later_onto w opened (e ∷ es) l p k = later_onto w opened es (e ∷ l) p.1 (later_one w opened l e (plain_unreleased e p.0) k)

-- ---- a call of a worker's spools

module _ (workers w first : ℕ) (Was : ℕ → List ℕ → Id → Type 0) (opened : List Event) where
  abbrev Came : List ℕ → News → Type 0
  Came = ArrivedHeld workers w opened

  -- a deed that sends sends what came, and none releases
  pub record SendsCame (c : List ℕ) (id : Id) : Type 0 where
    pub owner : ℕ
    pub g : ℕ
    pub came : ArrivedHeld workers w opened c (news_of id owner g)

  abbrev pub DeedCame : Event → Type 0
  DeedCame (Sent v k i c id cur looks) = (v ≡ w) × SendsCame c id
  DeedCame (Released v owner g slot) = ⊥
  DeedCame _ = Unit {0}

  facts_came : (cause : EndedCause) (fs : List Fact) → AllByRecursion (FactCame first Was Came) fs → AllDo DeedCame (facts_deeds w cause fs)
  facts_came cause [] a = tt
  facts_came cause (facts.Out asking ∷ fs) a = facts_came cause fs a.1
  facts_came cause (facts.Started k cursor ∷ fs) a = (tt, facts_came cause fs a.1)
  facts_came cause (facts.Sent s ∷ fs) a = ((refl, record { owner = s.owner; g = s.g; came = a.0 }), facts_came cause fs a.1)
  facts_came cause (facts.Ended k deleted ∷ fs) a = (tt, facts_came cause fs a.1)

  pub record Begun (b : Served) : Type 0 where
    pub shelf : AllByRecursion (SpoolCame first Was Came) b.after.spools.shelf
    pub deeds : AllDo DeedCame b.deeds

  -- what is told of such deeds
  not_released : (e : Event) → DeedCame e → IsUnreleased e
  not_released (Released v owner g slot) p = absurd p
  not_released e p = tt

  deed_sent : (l : List Event) → Later w opened l → (e : Event) → DeedCame e → SentAt workers l e
  deed_sent l later (Sent v k i c id cur looks) p =
      let came = p.1.came in
      subst (λ (z : ℕ). HasHold workers z c id l) (sym p.0) (record {
        g = p.1.g;
        slot = came.arrived.slot;
        taken = subst (λ (z : ℕ). IsTaken z p.1.g came.arrived.slot w c id l) came.arrived.owner (later.taken p.1.owner p.1.g came.arrived.slot c id came.arrived.taken);
        unreleased = subst (λ (z : ℕ). times_so (releases_number z p.1.g) l ≡ 0) came.arrived.owner (later.unreleased p.1.owner p.1.g ∙ came.unreleased);
      })
  deed_sent l later (Released v owner g slot) p = absurd p
  deed_sent l later e p = tt

  pub told_sent : (next : ℕ → ℕ) (deeds : List Deed) (l : List Event) → Later w opened l → AllDo DeedCame deeds → Along (SentAt workers) l → Along (SentAt workers) (onto (told w next deeds) l)
  told_sent next [] l later d a = a
  told_sent next (Does e ∷ deeds) l later d a = told_sent next deeds (e ∷ l) (later_one w opened l e (not_released e d.0) later) d.1 (a, deed_sent l later e d.0)
  told_sent next (Makes to x ∷ deeds) l later d a =
      told_sent (numbered next to) deeds (Made w to (next to) x ∷ l) (later_one w opened l (Made w to (next to) x) tt later) d (a, tt)

  -- a spool whose places' messages came
  place_found : (es : List Event) (c : List ℕ) (after : Id) (p : Place) → PlaceCame first Was Came c after p → PlaceFound workers w (onto es opened) c p
  place_found es c after (Asked number earlier) x = tt
  place_found es c after (Nothing quiet) x = tt
  place_found es c after (Found q id owner g) x = arrived_onto workers w es opened c (news_of id owner g) x.arrived

  pub shelf_found : (es : List Event) (shelf : List SpoolAt) → AllByRecursion (SpoolCame first Was Came) shelf → AllByRecursion (SpoolFound workers w (onto es opened)) shelf
  shelf_found es shelf a = all-changed (SpoolCame first Was Came) (SpoolFound workers w (onto es opened)) shelf (λ s f j lt. place_found es (name_at s.key j) (id_at s.key j) (place_at s j) (f j lt)) a

-- ---- a worker's step

-- a hold that an alert brings isn't released
abbrev LineHeld : ℕ → AlertLine → List Event → Type 0
LineHeld v (lines.LookAnswer number q floor (Some id) (Some g) (Some slot)) h = times_so (releases_number v g) h ≡ 0
LineHeld v (lines.Notice c id g slot) h = times_so (releases_number v g) h ≡ 0
LineHeld v line h = Unit {0}

line_held : (v : ℕ) (line : AlertLine) (h : List Event) → ((n : ℕ) → 0 < carries (of_number v n) line → times_so (releases_number v n) h ≡ 0) → LineHeld v line h
line_held v (lines.LookAnswer number q floor (Some id) (Some g) (Some slot)) h f = f g (let here : one_if (g == g) ≡ 1 = ap one_if (eqb_self g) in omega (arith, here))
line_held v (lines.LookAnswer number q floor (Some id) (Some g) None) h f = tt
line_held v (lines.LookAnswer number q floor (Some id) None slot) h f = tt
line_held v (lines.LookAnswer number q floor None g slot) h f = tt
line_held v (lines.Notice c id g slot) h f = f g (let here : one_if (g == g) ≡ 1 = ap one_if (eqb_self g) in omega (arith, here))
line_held v line h f = tt

-- a number by which a worker asked was drawn
ask_counts : (number : ℕ) (c : List ℕ) (after : Id) (l : List Event) → HasAsk number c after l → 1 ≤ times number (ask_numbers l)
ask_counts number c after [] has = absurd has
ask_counts number c after (Made v to n (lines.Look m d a fence) ∷ l) (inl is) = let here : bit (m == number) ≡ 1 = ap bit (eq-eqb m number is.0) in omega (arith, here)
ask_counts number c after (Made v to n (lines.Look m d a fence) ∷ l) (inr has) = omega (arith, ask_counts number c after l has)
ask_counts number c after (Made v to n (lines.Edge m k d fence) ∷ l) has = omega (arith, ask_counts number c after l has)
ask_counts number c after (e ∷ l) has = ask_counts number c after l has

all_within : (P : Place → Type 0) (places : List Place) (j : ℕ) → j < length places → AllByRecursion P places → P (get_or places j no_place)
all_within P [] j lt a = absurd (omega (arith, lt))
all_within P (p ∷ places) zero lt a = a.0
all_within P (p ∷ places) (suc j) lt a = all_within P places j (omega (arith, lt)) a.1

module _ (setup : Setup) (is : IsSetup setup) (w : ℕ) (h : List Event) (world : World) (r : Reached setup h world) (found : AllByRecursion (SpoolFound setup.workers w h) (shelf_at world w)) where
  abbrev Was : ℕ → List ℕ → Id → Type 0
  Was number c after = HasAsk number c after (own w h)

  abbrev next_look : ℕ
  next_look = (world.workers w).desk.spools.next

  kept_unreleased : (o g : ℕ) → is_kept o g (world.workers w).desk.spools.kept ≡ true → times_so (releases_number o g) h ≡ 0
  kept_unreleased o g kept = unreleased o g w h world (reached_holds setup h world is r).balanced (grants_are_drawn_once setup h world is r) (omega (arith, kept_counts o g (world.workers w).desk.spools.kept kept))

  -- what opens the step is put on the history, and releases nothing
  module _ (es : List Event) (plain : AllByRecursion IsPlain es) where
    abbrev opened : List Event
    opened = onto es h

    later : Later w h (onto es h)
    later = later_onto w h es h plain (record { taken = λ o g slot c id x. x; unreleased = λ o g. refl })

    place_came : (c : List ℕ) (after : Id) (p : Place) → PlaceHolds setup.workers w c after p h → PlaceFound setup.workers w h c p → PlaceHeld (world.workers w).desk.spools.kept p
        → PlaceCame next_look Was (ArrivedHeld setup.workers w (onto es h)) c after p
    place_came c after (Asked number earlier) holds there kept = inr holds.0
    place_came c after (Nothing quiet) holds there kept = tt
    place_came c after (Found q id owner g) holds there kept = record {
      arrived = arrived_onto setup.workers w es h c (news_of id owner g) there;
      unreleased = later.unreleased owner g ∙ kept_unreleased owner g kept;
    }

    shelf_came : (shelf : List SpoolAt) → AllByRecursion (PlacesHold setup.workers w h) shelf → AllByRecursion (SpoolFound setup.workers w h) shelf → AllByRecursion (IsHeld (world.workers w).desk.spools.kept) shelf
        → AllByRecursion (SpoolCame next_look Was (ArrivedHeld setup.workers w (onto es h))) shelf
    shelf_came [] holds there kept = tt
    shelf_came (s ∷ shelf) holds there kept =
        ((λ j lt. place_came (name_at s.key j) (id_at s.key j) (place_at s j) (holds.0 j lt) (there.0 j lt) (all_within (PlaceHeld (world.workers w).desk.spools.kept) s.places j lt kept.0)), shelf_came shelf holds.1 there.1 kept.1)

    spools_came : AllByRecursion (SpoolCame next_look Was (ArrivedHeld setup.workers w (onto es h))) (world.workers w).desk.spools.shelf
    spools_came = shelf_came (world.workers w).desk.spools.shelf ((reached_has_places setup h world is r).holds w) found (found_is_held setup h world is r w)

    board_came : BoardCame next_look Was (ArrivedHeld setup.workers w (onto es h)) (board_of (world.workers w).desk.spools)
    board_came = (omega arith, spools_came, tt)

    calls : KeepsCame next_look Was (ArrivedHeld setup.workers w (onto es h))
    calls = came-kept next_look Was (ArrivedHeld setup.workers w (onto es h))

    abbrev Well : Served → Type 0
    Well b = Begun setup.workers w next_look Was (onto es h) b

    idle_well : Well (record { deeds = []; after = (world.workers w).desk })
    idle_well = record { shelf = spools_came; deeds = tt }

    pub begun_well : (i : Incoming) → ((from : ℕ) (p : Packet) → i ≡ TakesPacket from p → Well (answered w from p.line (world.workers w).desk)) → Well (begun setup w i (world.workers w).desk)
    begun_well (TakesPacket from p) f = f from p refl
    begun_well (ClockReads t) f = idle_well
    begun_well Reaps f = idle_well
    begun_well (Posts c body) f = record { shelf = spools_came; deeds = tt }
    begun_well (Removes c) f = record { shelf = spools_came; deeds = tt }
    begun_well (Informs c) f = record { shelf = spools_came; deeds = tt }
    begun_well (Subscribes k list start) f =
        let b = calls.arrive (record { k = k; once = true }) list start (board_of (world.workers w).desk.spools) tt board_came in
        record { shelf = b.1; deeds = facts_came setup.workers w next_look Was (onto es h) Answered (arrive_facts k list start true (world.workers w).desk.spools) b.2 }

  -- ---- a packet

  module _ (v n : ℕ) where
    abbrev Taken : AlertLine → List Event
    Taken line = Took w v n (kind_of line) ∷ []

    look_came : (number q floor g slot : ℕ) (id : Id) → Brings v w n (lines.LookAnswer number q floor (Some id) (Some g) (Some slot)) h → times_so (releases_number v g) h ≡ 0
        → (c : List ℕ) (after : Id) → IsAsked next_look Was (ArrivedHeld setup.workers w (Took w v n (kind_of (lines.LookAnswer number q floor (Some id) (Some g) (Some slot))) ∷ h)) number c after
        → ArrivedHeld setup.workers w (Took w v n (kind_of (lines.LookAnswer number q floor (Some id) (Some g) (Some slot))) ∷ h) c (news_of id v g)
    look_came number q floor g slot id brings none c after asked = at asked
      where
        at : IsAsked next_look Was (ArrivedHeld setup.workers w (Took w v n (kind_of (lines.LookAnswer number q floor (Some id) (Some g) (Some slot))) ∷ h)) number c after
            → ArrivedHeld setup.workers w (Took w v n (kind_of (lines.LookAnswer number q floor (Some id) (Some g) (Some slot))) ∷ h) c (news_of id v g)
        at (inl new) =
            let ask = looked_asked v w number brings.chan (own w h) h ((reached_asks setup h world is r).asked w v) brings.looked in
            absurd (omega (arith, ((reached_asks setup h world is r).drawn w).below number new, ask_counts number brings.chan ask.after (own w h) ask.has))
        at (inr has) =
            let ask = looked_asked v w number brings.chan (own w h) h ((reached_asks setup h world is r).asked w v) brings.looked in
            let same : brings.chan ≡ c = (one_ask number c brings.chan after ask.after (own w h) (((reached_asks setup h world is r).drawn w).once number) has ask.has).0 in
            record {
              arrived = record {
                owner = looked_owner v w number brings.chan setup.workers h (histories_are_of_owners setup h world is r).0 brings.looked ∙ ap (owner_of setup.workers) same;
                slot = slot;
                taken = subst (λ (d : List ℕ). IsTaken v g slot w d id (Took w v n (kind_of (lines.LookAnswer number q floor (Some id) (Some g) (Some slot))) ∷ h)) same (inl (refl, refl, brings.made));
              };
              unreleased = none;
            }

    reply_well : (line : AlertLine) (m status : ℕ) (info : Option Info) → Begun setup.workers w next_look Was (onto (Taken line) h) (replied w m status info (world.workers w).desk)
    reply_well line m status info =
        either (λ (s : Served). Begun setup.workers w next_look Was (onto (Taken line) h) s) (is_waiting m (world.workers w).desk.waiting) _ _
        (record { shelf = spools_came (Taken line) (tt, tt); deeds = (tt, tt) }) (record { shelf = spools_came (Taken line) (tt, tt); deeds = tt })

    other_well : (line : AlertLine) → Begun setup.workers w next_look Was (onto (Taken line) h) (record { deeds = []; after = (world.workers w).desk })
    other_well line = record { shelf = spools_came (Taken line) (tt, tt); deeds = tt }

    -- an answer that brings nothing
    nothing_well : (line : AlertLine) (number q floor : ℕ) → Begun setup.workers w next_look Was (onto (Taken line) h) (with_spooled (answers w number q floor None (world.workers w).desk.spools) (world.workers w).desk)
    nothing_well line number q floor =
        let b = (calls (Taken line) (tt, tt)).answer number (record { q = q; floor = floor }) None (board_of (world.workers w).desk.spools) tt (board_came (Taken line) (tt, tt)) in
        record { shelf = b.1; deeds = facts_came setup.workers w next_look Was (onto (Taken line) h) Answered (answer_facts number q floor None (world.workers w).desk.spools) b.2 }

    pub packet_well : (line : AlertLine) → Brings v w n line h → LineHeld v line h → IsNoticeOf setup.workers v line → Begun setup.workers w next_look Was (onto (Taken line) h) (answered w v line (world.workers w).desk)
    packet_well (lines.LookAnswer number q floor (Some id) (Some g) (Some slot)) brings none noticed =
        let line = lines.LookAnswer number q floor (Some id) (Some g) (Some slot) in
        let b = (calls (Taken line) (tt, tt)).answer number (record { q = q; floor = floor }) (Some (news_of id v g)) (board_of (world.workers w).desk.spools) (look_came number q floor g slot id brings none) (board_came (Taken line) (tt, tt)) in
        record { shelf = b.1; deeds = facts_came setup.workers w next_look Was (onto (Taken line) h) Answered (answer_facts number q floor (Some (found_by v id g slot)) (world.workers w).desk.spools) b.2 }
    packet_well (lines.LookAnswer number q floor (Some id) (Some g) None) brings none noticed = nothing_well (lines.LookAnswer number q floor (Some id) (Some g) None) number q floor
    packet_well (lines.LookAnswer number q floor (Some id) None slot) brings none noticed = nothing_well (lines.LookAnswer number q floor (Some id) None slot) number q floor
    packet_well (lines.LookAnswer number q floor None g slot) brings none noticed = nothing_well (lines.LookAnswer number q floor None g slot) number q floor
    packet_well (lines.Notice c id g slot) brings none noticed =
        let line = lines.Notice c id g slot in
        let came : ArrivedHeld setup.workers w (Took w v n (kind_of line) ∷ h) c (news_of id v g) = record { arrived = record { owner = sym noticed; slot = slot; taken = inl (refl, refl, brings) }; unreleased = none } in
        let b = (calls (Taken line) (tt, tt)).notice c (news_of id v g) (board_of (world.workers w).desk.spools) came (board_came (Taken line) (tt, tt)) in
        record { shelf = b.1; deeds = facts_came setup.workers w next_look Was (onto (Taken line) h) Answered (notice_facts c (found_by v id g slot) (world.workers w).desk.spools) b.2 }
    packet_well (lines.EdgeAnswer number q floor last) brings none noticed =
        let line = lines.EdgeAnswer number q floor last in
        let b = (calls (Taken line) (tt, tt)).edge_answer number floor last (board_of (world.workers w).desk.spools) tt (board_came (Taken line) (tt, tt)) in
        record { shelf = b.1; deeds = facts_came setup.workers w next_look Was (onto (Taken line) h) Answered (edge_facts number floor last (world.workers w).desk.spools) b.2 }
    packet_well (lines.Gone c subs) brings none noticed =
        let line = lines.Gone c subs in
        let b = (calls (Taken line) (tt, tt)).removal c subs (board_of (world.workers w).desk.spools) (board_came (Taken line) (tt, tt)) in
        record { shelf = b.1; deeds = facts_came setup.workers w next_look Was (onto (Taken line) h) Deleted (gone_facts c subs (world.workers w).desk.spools) b.2 }
    packet_well (lines.PubAnswer m status info usage) brings none noticed = reply_well (lines.PubAnswer m status info usage) m status info
    packet_well (lines.InfoAnswer m status info) brings none noticed = reply_well (lines.InfoAnswer m status info) m status info
    packet_well (lines.DelAnswer m status info) brings none noticed = reply_well (lines.DelAnswer m status info) m status info
    packet_well (lines.Publish m c len timeout ct body) brings none noticed = other_well (lines.Publish m c len timeout ct body)
    packet_well (lines.Look number c after fence) brings none noticed = other_well (lines.Look number c after fence)
    packet_well (lines.Edge number m c fence) brings none noticed = other_well (lines.Edge number m c fence)
    packet_well (lines.Join c m) brings none noticed = other_well (lines.Join c m)
    packet_well (lines.Part c m) brings none noticed = other_well (lines.Part c m)
    packet_well (lines.Delete m c) brings none noticed = other_well (lines.Delete m c)
    packet_well (lines.Info m c) brings none noticed = other_well (lines.Info m c)

-- ---- the whole step

module _ (setup : Setup) (is : IsSetup setup) (w : ℕ) (i : Incoming) (h : List Event) (world : World) (r : Reached setup h world) (g : Good setup h world) (k : SendsHeld setup.workers h world)
    (well : Begun setup.workers w (world.workers w).desk.spools.next (λ number c after. HasAsk number c after (own w h)) (onto (before setup w i world) h) (begun setup w i (world.workers w).desk)) where
  abbrev Was_asked : ℕ → List ℕ → Id → Type 0
  Was_asked number c after = HasAsk number c after (own w h)

  abbrev start : List Event
  start = onto (before setup w i world) h

  abbrev owned : List Event
  owned = onto (part w i world) (onto (before setup w i world) h)

  part_plain : AllByRecursion IsPlain (part w i world)
  part_plain = part_all setup is w i h world g IsPlain (plain_owner w) (λ to n a. tt)

  owned_later : Later w (onto (before setup w i world) h) owned
  owned_later = later_onto w (onto (before setup w i world) h) (part w i world) (onto (before setup w i world) h) part_plain (record { taken = λ o n slot c id x. x; unreleased = λ o n. refl })

  owned_sent : Along (SentAt setup.workers) owned
  owned_sent = plain_onto setup.workers (part w i world) (onto (before setup w i world) h) part_plain (plain_onto setup.workers (before setup w i world) h (plain_before setup w i world) k.sent)

  step_sent : Along (SentAt setup.workers) (onto (handled_events setup w i world) h)
  step_sent =
      let b = begun setup w i (world.workers w).desk in
      let next = next_after (world.workers w).next (part w i world) in
      subst (Along (SentAt setup.workers)) (sym (handled_onto setup is w i h world g h))
      (then_releases (Along (SentAt setup.workers)) (λ v owner n slot l a. (a, tt)) w next b.deeds (filter (is_idle b.after.spools.shelf) b.after.spools.kept) owned
      (told_sent setup.workers w (world.workers w).desk.spools.next Was_asked (onto (before setup w i world) h) next b.deeds owned owned_later well.deeds owned_sent))

  step_found : AllByRecursion (SpoolFound setup.workers w (onto (handled_events setup w i world) h)) (serves setup w i world).after.spools.shelf
  step_found =
      subst (λ (l : List Event). AllByRecursion (SpoolFound setup.workers w l) (serves setup w i world).after.spools.shelf) (sym (handled_onto setup is w i h world g h))
      (shelf_onto setup.workers w (behind setup w i world) owned (serves setup w i world).after.spools.shelf
      (shelf_found setup.workers w (world.workers w).desk.spools.next Was_asked (onto (before setup w i world) h) (part w i world) (serves setup w i world).after.spools.shelf well.shelf))

  pub step_holds : SendsHeld setup.workers (onto (handled_events setup w i world) h) (handled setup w i world)
  step_holds = record {
    sent = step_sent;
    found = with_all (λ x (s : WorkerAt). AllByRecursion (SpoolFound setup.workers x (onto (handled_events setup w i world) h)) s.desk.spools.shelf) world.workers w
        (dealt_worker (handled_events setup w i world) (owns w i world) (serves setup w i world) (world.workers w)) step_found
        (λ x other. shelf_onto setup.workers x (handled_events setup w i world) h (shelf_at world x) (k.found x));
  }

-- ---- the theme

-- each alert with a hold is of the message of that hold
pub reached_grants : (setup : Setup) (h : List Event) (world : World) → IsSetup setup → Reached setup h world → Along GrantsAt h
reached_grants setup h world is r = grants_whole h (λ v.
    let b = own_by v h in
    tied_grants v (own v h) b (local_slots setup.workers setup.slots v (own v h) (messages_leave_by_rule setup h world is r v).left b (slots_are_taken setup h world is r v))
    (owner_theme_holds setup v TiedFact is (tied_theme setup v) h world r))
  where
    own_by : (v : ℕ) (l : List Event) → AllByRecursion (IsBy v) (own v l)
    own_by v [] = tt
    own_by v (e ∷ l) = by (is_by v e) refl (own_by v l)
      where
        by : (b : Bool) → is_by v e ≡ b → AllByRecursion (IsBy v) (own v l) → AllByRecursion (IsBy v) (cond b (e ∷ own v l) (own v l))
        by true j a = (j, a)
        by false j a = a

module _ (setup : Setup) (is : IsSetup setup) where
  handles_held : (w : ℕ) (i : Incoming) (h : List Event) (world : World) → Reached setup h world → Good setup h world → IsInput w h i → SendsHeld setup.workers h world → SendsHeld setup.workers (onto (handled_events setup w i world) h) (handled setup w i world)
  handles_held w i h world r g input k =
      step_holds setup is w i h world r g k (begun_well setup is w h world r (k.found w) (before setup w i world) (plain_before setup w i world) i (λ from p same. absurd (no_packet i from p same input)))
    where
      no_packet : (j : Incoming) (from : ℕ) (p : Packet) → j ≡ TakesPacket from p → IsInput w h j → ⊥
      no_packet (TakesPacket v q) from p same q2 = q2
      no_packet (ClockReads t) from p same q = absurd cc
      no_packet Reaps from p same q = absurd cc
      no_packet (Posts c body) from p same q = absurd cc
      no_packet (Subscribes n list start) from p same q = absurd cc
      no_packet (Removes c) from p same q = absurd cc
      no_packet (Informs c) from p same q = absurd cc

  takes_held : (w v : ℕ) (p : Packet) (ps : List Packet) (h : List Event) (world : World) → Reached setup h world → Good setup h world → world.rings v w ≡ p ∷ ps → SendsHeld setup.workers h world → SendsHeld setup.workers (onto (handled_events setup w (TakesPacket v p) world) h) (handled setup w (TakesPacket v p) world)
  takes_held w v p ps h world r g at k =
      step_holds setup is w (TakesPacket v p) h world r g k (packet_well setup is w h world r (k.found w) v p.number p.line
      (subst (AllByRecursion (PacketBrings v w h)) first (pending_brings v w h (reached_grants setup h world is r))).0
      (line_held v p.line h on_way)
      (of_next (IsNoticeOf setup.workers v) v w p.line h (made_notices setup.workers v w (own v h) (reached_owners_notice setup h world is r v)) (ring_next setup w v p ps h world g at)))
    where
      first : pending v w h ≡ p ∷ (ps ++ (world.workers v).outbox w)
      first = first_pending setup w v p ps h world g at

      on_way : (n : ℕ) → 0 < carries (of_number v n) p.line → times_so (releases_number v n) h ≡ 0
      on_way n some =
          let here = ap (λ (q : List Packet). carried_by (of_number v n) (lines_of q)) first in
          unreleased v n w h world (reached_holds setup h world is r).balanced (grants_are_drawn_once setup h world is r) (omega (arith, some, here))

  held_theme : IsWorldTheme setup (SendsHeld setup.workers)
  held_theme = record {
    new = record { sent = tt; found = λ w. tt };
    handles = λ w i h world r g here input k. handles_held w i h world r g input k;
    takes = λ w v p ps h world r g here there at k. let s = takes_held w v p ps h world r g at k in record { sent = s.sent; found = s.found };
    carries = λ w v p ps h world r g here there at k. record {
      sent = k.sent;
      found = with_all (λ x (s : WorkerAt). AllByRecursion (SpoolFound setup.workers x h) s.desk.spools.shelf) world.workers w (record (world.workers w) { outbox = with_at (world.workers w).outbox v ps }) (k.found w) (λ x other. k.found x);
    };
    pending = λ n h world r g same k. record { sent = (k.sent, tt); found = λ x. shelf_onto setup.workers x (Pending (suc n) ∷ []) h (shelf_at world x) (k.found x) };
    quiet = λ h world r g same k. record { sent = (k.sent, tt); found = λ x. shelf_onto setup.workers x (Quiet ∷ []) h (shelf_at world x) (k.found x) };
  }

-- what is sent came with a hold that its worker took and hasn't released
pub sends_held : (setup : Setup) (h : List Event) (world : World) → IsSetup setup → Reached setup h world → Along (SentAt setup.workers) h
sends_held setup h world is r = (world_theme_holds setup (SendsHeld setup.workers) is (held_theme setup is) h world r).sent
