-- The places of spools, as the history goes on and by what they hear.
use Rattle.std.proofs.Common.{◌≡◌, inl, ℕ, Bool, true, false, cond, List, ◌∷◌, Option, None, Some, refl, sym, ◌∙◌, subst, true≢false}
use Rattle.std.specs.Prelude.{◌==◌}
use Rattle.std.specs.Option.{option_map}
use Rattle.std.proofs.lemmas.Bool.{eq-eqb, cond_both}
use Rattle.nc_types.specs.Id.{Id, IsPast, is_past}
use Rattle.nc_types.specs.Channel.{owner_of}
use Rattle.nc_journal.specs.History.{Along, own}
use Rattle.nc_journal.specs.Message.{Message, first_past}
use Rattle.nc_journal.specs.declared.event.Event.{Event}
use Rattle.nc_journal.specs.declared.event.Event.TheVariants.{Looked, Made, Took}
use Rattle.nc_journal.specs.declared.alert.AlertLine.{AlertLine}
use Rattle.nc_journal.specs.declared.word.AlertKind.{AlertKind}
use Rattle.nc_journal.specs.declared.alert.AlertLine.TheVariants as lines
use Rattle.nc_journal.proofs.Ids.{past_of_test, not_past_of_test}
use Rattle.nc_journal.proofs.Buffers.{find-first}
use Rattle.nc_owner_laws.specs.InOrder.{TellsThen, LooksAt}
use Rattle.nc_spool_state.specs.declared.place.Quiet.{Quiet}
use Rattle.nc_spool_state.specs.declared.place.Place.{Place}
use Rattle.nc_spool_state.specs.declared.hear.News.{News}
use Rattle.nc_spool_state.specs.Hear.{found_by, notice_says}
use Rattle.nc_spool_state.specs.declared.place.Place.TheVariants as places
use Rattle.nc_spool_state.specs.declared.hear.Heard.TheVariants as hears
use Rattle.nc_history.specs.Packets.{takes, IsNext}
use Rattle.nc_rests.specs.Asking.{HasAsk}
use Rattle.nc_rests.specs.Keeping.{is_signal}
use Rattle.nc_rests.specs.Places.{EarlierHolds, PlaceHolds, HeardHolds, PlaceStays, PlaceTakes, PlaceAsks, PlaceLearns, PlaceNotices, PlaceLoses, HeardStays}
use Rattle.nc_rests.specs.Rests.{LookAt, IsFound, AtLook, Behind, Nothing, Found, RestsAt}
use Rattle.nc_rests.specs.Telling.{OwnerTells}
use Rattle.nc_rests.proofs.Answered.{answer_rests}
use Rattle.nc_rests.proofs.Asks.{ask_more}
use Rattle.nc_rests.proofs.Histories.{along_at}
use Rattle.nc_rests.proofs.Notices.{notice_finds}
use Rattle.nc_rests.proofs.Rests.{found_stays, rest_stays, take_keeps}

earlier_stays : (workers w : ℕ) (c : List ℕ) (after : Id) (earlier : Option Quiet) (e : Event) (h : List Event) → takes (owner_of workers c) w e ≡ false → EarlierHolds workers w c after earlier h → EarlierHolds workers w c after earlier (e ∷ h)
earlier_stays workers w c after None e h other k = tt
earlier_stays workers w c after (Some quiet) e h other k = rest_stays workers w c after (Nothing quiet.q quiet.floor) e h other k

pub place_stays : PlaceStays
place_stays workers w c after (places.Asked number earlier) e h other k = (ask_more w number c after e h k.0, earlier_stays workers w c after earlier e h other k.1)
place_stays workers w c after (places.Nothing quiet) e h other k = rest_stays workers w c after (Nothing quiet.q quiet.floor) e h other k
place_stays workers w c after (places.Found q id owner g) e h other k = rest_stays workers w c after (Found q id) e h other k

earlier_takes : (workers w : ℕ) (c : List ℕ) (after : Id) (earlier : Option Quiet) (from n : ℕ) (kind : AlertKind) (a : AlertLine) (h : List Event) → IsNext from w a h → (from ≡ owner_of workers c → is_signal c a ≡ false)
    → EarlierHolds workers w c after earlier h → EarlierHolds workers w c after earlier (Took w from n kind ∷ h)
earlier_takes workers w c after None from n kind a h next quiet k = tt
earlier_takes workers w c after (Some x) from n kind a h next quiet k = take_keeps workers w c after (Nothing x.q x.floor) from n kind a h next quiet k

pub place_takes : PlaceTakes
place_takes workers w c after (places.Asked number earlier) from n kind a h next quiet k = (ask_more w number c after (Took w from n kind) h k.0, earlier_takes workers w c after earlier from n kind a h next quiet k.1)
place_takes workers w c after (places.Nothing x) from n kind a h next quiet k = take_keeps workers w c after (Nothing x.q x.floor) from n kind a h next quiet k
place_takes workers w c after (places.Found q id owner g) from n kind a h next quiet k = take_keeps workers w c after (Found q id) from n kind a h next quiet k

pub place_asks : PlaceAsks
place_asks workers w to number c after fence n earlier h k = (
  cond_both (w == w) (Made w to n (lines.Look number c after fence) ∷ own w h) (own w h) (λ l. (w == w) ≡ true → HasAsk number c after l) (λ _ _. inl (refl, refl, refl)) (λ no_self is. absurd (true≢false (sym is ∙ no_self))) (eq-eqb w w refl),
  earlier_stays workers w c after earlier (Made w to n (lines.Look number c after fence)) h refl k,
)

-- ---- an answer

some_past : (after id : Id) (o : Option Message) → ((m : Message) → o ≡ Some m → is_past m.id after ≡ true) → Some id ≡ option_map (λ m. m.id) o → is_past id after ≡ true
some_past after id None f e = absurd cc
some_past after id (Some m) f e = let same : id ≡ m.id = cc in subst (λ (x : Id). is_past x after ≡ true) (sym same) (f m refl)

-- what a look found is past its id
found_past : (o w q : ℕ) (c : List ℕ) (after : Id) (floor : ℕ) (id : Id) (l : List Event) → Along LooksAt l → LookAt o w q c after floor (Some id) l → is_past id after ≡ true
found_past o w q c after floor id l tells k =
    let t : TellsThen c after floor (Some id) k.seen = along_at LooksAt k.since (Looked o q w k.number c after floor (Some id)) k.seen (subst (Along LooksAt) k.place tells) in
    some_past after id (first_past c after k.seen) (λ m is. (find-first c after m k.seen is).1) t.first_then

pub look_is : (workers w q : ℕ) (c : List ℕ) (after id : Id) (h : List Event) → IsFound (owner_of workers c) w q c after id (own (owner_of workers c) h) → Along LooksAt (own (owner_of workers c) h) → IsPast id after
look_is workers w q c after id h (AtLook floor k) tells = past_of_test id after (found_past (owner_of workers c) w q c after floor id (own (owner_of workers c) h) tells k)
look_is workers w q c after id h (Behind floor k b past) tells = past

learned_some : (workers w : ℕ) (c : List ℕ) (after : Id) (q floor : ℕ) (news : News) (h : List Event) (b : Bool) → is_past news.id after ≡ b → (b ≡ false → ⊥) → RestsAt workers w c after (Found q news.id) h
    → PlaceHolds workers w c after (cond b (found_by q news) (places.Nothing (record { q = q; floor = floor }))) h
learned_some workers w c after q floor news h true is never k = k
learned_some workers w c after q floor news h false is never k = absurd (never refl)

test_past : (a b : Id) → IsPast a b → is_past a b ≡ false → ⊥
test_past a b past is = not_past_of_test a b is past

along_own_took : (workers w : ℕ) (c : List ℕ) (o n : ℕ) (kind : AlertKind) (h : List Event) → Along LooksAt (own o h) → Along LooksAt (own o (Took w o n kind ∷ h))
along_own_took workers w c o n kind h a = cond_both (o == w) (Took w o n kind ∷ own o h) (own o h) (Along LooksAt) (λ _. (a, tt)) (λ _. a)

pub place_learns : PlaceLearns
place_learns workers w c after number q floor None g slot n kind h next has asks tells = answer_rests workers w c after number q floor None g slot n kind h next has asks
place_learns workers w c after number q floor (Some news) g slot n kind h next has asks tells =
    let o = owner_of workers c in
    let k : RestsAt workers w c after (Found q news.id) (Took w o n kind ∷ h) = answer_rests workers w c after number q floor (Some news.id) g slot n kind h next has asks in
    let past : IsPast news.id after = look_is workers w q c after news.id (Took w o n kind ∷ h) k.found (along_own_took workers w c o n kind h tells) in
    learned_some workers w c after q floor news (Took w o n kind ∷ h) (is_past news.id after) refl (λ is. test_past news.id after past is) k

-- ---- a notice, and a removal

notice_case : (workers w : ℕ) (c : List ℕ) (after : Id) (quiet : Quiet) (news : News) (g slot : ℕ) (n : ℕ) (kind : AlertKind) (h : List Event) → OwnerTells (owner_of workers c) (own (owner_of workers c) h)
    → IsNext (owner_of workers c) w (lines.Notice c news.id g slot) h → RestsAt workers w c after (Nothing quiet.q quiet.floor) h → is_past news.id after ≡ true → RestsAt workers w c after (Found quiet.q news.id) (Took w (owner_of workers c) n kind ∷ h)
notice_case workers w c after quiet news g slot n kind h tells next k is = notice_finds workers w c after quiet.q quiet.floor news.id g slot n kind h tells next (past_of_test news.id after is) k

nothing_hears : (workers w : ℕ) (c : List ℕ) (after : Id) (quiet : Quiet) (news : News) (place : Place) (h : List Event) (b : Bool) → (b ≡ true → RestsAt workers w c after (Found quiet.q news.id) h) → HeardHolds workers w c after place (notice_says news b (places.Nothing quiet)) h
nothing_hears workers w c after quiet news place h true f = f refl
nothing_hears workers w c after quiet news place h false f = tt

asked_hears : (workers w number : ℕ) (c : List ℕ) (after : Id) (quiet : Quiet) (news : News) (place : Place) (h : List Event) (b : Bool) → HasAsk number c after (own w h) → (b ≡ true → RestsAt workers w c after (Found quiet.q news.id) h)
    → HeardHolds workers w c after place (notice_says news b (places.Asked number (Some quiet))) h
asked_hears workers w number c after quiet news place h true has f = f refl
asked_hears workers w number c after quiet news place h false has f = (has, tt)

pub place_notices : PlaceNotices
place_notices workers w c after (places.Nothing quiet) news g slot n kind h tells next k =
    nothing_hears workers w c after quiet news (places.Nothing quiet) (Took w (owner_of workers c) n kind ∷ h) (is_past news.id after) (notice_case workers w c after quiet news g slot n kind h tells next k)
place_notices workers w c after (places.Asked number (Some quiet)) news g slot n kind h tells next k =
    asked_hears workers w number c after quiet news (places.Asked number (Some quiet)) (Took w (owner_of workers c) n kind ∷ h) (is_past news.id after) (ask_more w number c after (Took w (owner_of workers c) n kind) h k.0)
    (notice_case workers w c after quiet news g slot n kind h tells next k.1)
place_notices workers w c after (places.Asked number None) news g slot n kind h tells next k = (ask_more w number c after (Took w (owner_of workers c) n kind) h k.0, tt)
place_notices workers w c after (places.Found q id owner by) news g slot n kind h tells next k = found_stays workers w c after q id (Took w (owner_of workers c) n kind) h k

pub place_loses : PlaceLoses
place_loses workers w c after (places.Nothing quiet) n kind h k = tt
place_loses workers w c after (places.Asked number (Some quiet)) n kind h k = (ask_more w number c after (Took w (owner_of workers c) n kind) h k.0, tt)
place_loses workers w c after (places.Asked number None) n kind h k = (ask_more w number c after (Took w (owner_of workers c) n kind) h k.0, tt)
place_loses workers w c after (places.Found q id owner g) n kind h k = found_stays workers w c after q id (Took w (owner_of workers c) n kind) h k

pub heard_stays : HeardStays
heard_stays workers w c after place hears.Stays e h other k = place_stays workers w c after place e h other k
heard_stays workers w c after place (hears.Forgets p) e h other k = place_stays workers w c after p e h other k
heard_stays workers w c after place hears.Looks e h other k = tt
heard_stays workers w c after place (hears.Finds p) e h other k = place_stays workers w c after p e h other k
