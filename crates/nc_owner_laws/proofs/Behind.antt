-- What stands behind a look that found nothing.
use Rattle.std.proofs.Common.{◌≡◌, ℕ, suc, ◌≤◌, Bool, true, false, cond, List, [], ◌∷◌, ◌++◌, Option, Some, None, refl, sym, ap, ◌∙◌, subst, arith, length, find}
use Rattle.std.specs.Prelude.{◌&&◌, ◌==◌, IfSome, bytes_eq}
use Rattle.std.specs.Option.{option_map}
use Rattle.std.specs.List.{AllByRecursion}
use Rattle.std.specs.Cmp.Lexicographic.{same_text}
use Rattle.std.proofs.lemmas.Bool.{and_parts, eqb-true}
use Rattle.nc_types.specs.Id.{Id, IsPast, is_past}
use Rattle.nc_journal.specs.History.{own, is_by, Along}
use Rattle.nc_journal.specs.Stamp.{floor_of}
use Rattle.nc_journal.specs.Message.{Message, stored_message, published, buffer, IsRising}
use Rattle.nc_journal.specs.declared.event.Event.{Event}
use Rattle.nc_journal.specs.declared.event.Event.TheVariants.{Stored, Looked, Removed}
use Rattle.nc_journal.proofs.Buffers.{published-append}
use Rattle.nc_journal.proofs.Rising.{ids-rise}
use Rattle.nc_owner.specs.State.{found}
use Rattle.nc_owner_laws.specs.Buffered.{entries_in}
use Rattle.nc_owner_laws.specs.Wake.{Wake, NotYet, Waiting, ByNotice, ByGone, woken, wake}
use Rattle.nc_owner_laws.specs.OwnerStanding.{look_past}
use Rattle.nc_owner_laws.specs.InOrder.{TellsThen, LooksAt}
use Rattle.nc_owner_laws.specs.Behind.{NothingIsPast, LookPlace, IsFirstOf, NoticeIsFirst, ShowsLooks}
use Rattle.nc_owner_laws.proofs.Owners.{to_entries}
use Rattle.nc_owner_laws.proofs.Showing.{stands_shows}
use Rattle.nc_owner_laws.proofs.Stamping.{floor_step}

-- ---- a local history stays local without its newest event

own_length : (w : ℕ) (h : List Event) → length (own w h) ≤ length h
own_length w [] = omega arith
own_length w (e ∷ h) = by (is_by w e) (own_length w h)
  where
    by : (b : Bool) → length (own w h) ≤ length h → length (cond b (e ∷ own w h) (own w h)) ≤ suc (length h)
    by true le = omega (arith, le)
    by false le = omega (arith, le)

own_case : (b : Bool) (e : Event) (l h : List Event) → length l ≤ length h → cond b (e ∷ l) l ≡ e ∷ h → (b ≡ true) × (l ≡ h)
own_case true e l h le is = (refl, (let rest : l ≡ h = cc in rest))
own_case false e l h le is = absurd (let long : length l ≡ suc (length h) = ap length is in omega (arith, le, long))

own_parts : (me : ℕ) (e : Event) (h : List Event) → own me (e ∷ h) ≡ e ∷ h → (is_by me e ≡ true) × (own me h ≡ h)
own_parts me e h is = own_case (is_by me e) e (own me h) h (own_length me h) is

-- ---- what is stored behind a look, by where the look stands

-- the first of some messages has this id
pub record BeginsWith (id : Id) (ms : List Message) : Type 0 where
  pub first : Message
  pub others : List Message
  pub split : ms ≡ first ∷ others
  pub same : first.id ≡ id

abbrev ShowsSince : Wake → List Message → Type 0
ShowsSince NotYet ms = ⊥
ShowsSince Waiting ms = ms ≡ []
ShowsSince (ByNotice id) ms = BeginsWith id ms
ShowsSince ByGone ms = Unit {0}

pub record Since (me w : ℕ) (c : List ℕ) (q : ℕ) (h : List Event) : Type 0 where
  pub look : LookPlace me w c q h
  pub shows : ShowsSince (wake w c q h) (published c look.since)

stored_shows : (n : Bool) (m : Message) (t : Wake) (ms : List Message) → ShowsSince t ms → ShowsSince (cond n (woken (ByNotice m.id) t) t) (cond n (ms ++ m ∷ []) ms)
stored_shows true m NotYet ms s = absurd s
stored_shows true m Waiting ms s = record { first = m; others = []; split = ap (λ (l : List Message). l ++ m ∷ []) s; same = refl }
stored_shows true m (ByNotice id) ms s = record { first = s.first; others = s.others ++ m ∷ []; split = ap (λ (l : List Message). l ++ m ∷ []) s.split; same = s.same }
stored_shows true m ByGone ms s = tt
stored_shows false m t ms s = s

removed_shows : (n : Bool) (t : Wake) (ms : List Message) → ShowsSince t ms → ShowsSince (cond n (woken ByGone t) t) ms
removed_shows true NotYet ms s = s
removed_shows true Waiting ms s = tt
removed_shows true (ByNotice id) ms s = s
removed_shows true ByGone ms s = s
removed_shows false t ms s = s

-- an event more
later_place : (me w : ℕ) (c : List ℕ) (q : ℕ) (e : Event) (h : List Event) (k : LookPlace me w c q h) → look_past w c q (e ∷ h) ≡ look_past w c q h → LookPlace me w c q (e ∷ h)
later_place me w c q e h k same = record {
  since = e ∷ k.since;
  number = k.number;
  after = k.after;
  floor = k.floor;
  seen = k.seen;
  place = ap (λ (l : List Event). e ∷ l) k.place;
  looks_past = same ∙ k.looks_past;
  floor_then = k.floor_then;
  nothing_then = k.nothing_then;
}

none_case : (after : Id) (ms : List Message) → None ≡ option_map (λ m. m.id) (find (λ m. is_past m.id after) ms) → NothingIsPast after ms
none_case after [] e = tt
none_case after (m ∷ ms) e = by (is_past m.id after) refl (none_case after ms) e
  where
    by : (b : Bool) → is_past m.id after ≡ b → (None ≡ option_map (λ x. x.id) (find (λ x. is_past x.id after) ms) → NothingIsPast after ms) → None ≡ option_map (λ x. x.id) (cond b (Some m) (find (λ x. is_past x.id after) ms)) → NothingIsPast after (m ∷ ms)
    by true is rest x = absurd cc
    by false is rest x = (is, rest x)

-- the look itself
here_place : (me w : ℕ) (c : List ℕ) (q : ℕ) (v p u number : ℕ) (d : List ℕ) (after : Id) (floor : ℕ) (h : List Event) → v ≡ me → p ≡ q → u ≡ w → d ≡ c → TellsThen d after floor None h
    → ((p == q) && ((u == w) && bytes_eq d c)) ≡ true → LookPlace me w c q (Looked v p u number d after floor None ∷ h)
here_place me w c q v p u number d after floor h ev ep eu ed t b = record {
  since = [];
  number = number;
  after = after;
  floor = floor;
  seen = h;
  place = λ i. Looked (ev i) (ep i) (eu i) number (ed i) after floor None ∷ h;
  looks_past = ap (λ x. cond x (Some after) (look_past w c q h)) b;
  floor_then = t.floor_then;
  nothing_then = subst (λ (x : List ℕ). NothingIsPast after (buffer x h)) ed (none_case after (buffer d h) t.first_then);
}

pub wake_stored : (n : Bool) (id : Id) (t : Wake) → (cond n (woken (ByNotice id) t) t ≡ NotYet → ⊥) → t ≡ NotYet → ⊥
wake_stored true id t f e = f (ap (woken (ByNotice id)) e)
wake_stored false id t f e = f e

pub wake_removed : (n : Bool) (t : Wake) → (cond n (woken ByGone t) t ≡ NotYet → ⊥) → t ≡ NotYet → ⊥
wake_removed true t f e = f (ap (woken ByGone) e)
wake_removed false t f e = f e

none_since : (b : Bool) (me w : ℕ) (c : List ℕ) (q : ℕ) (v p u number : ℕ) (d : List ℕ) (after : Id) (floor : ℕ) (h : List Event) → ((p == q) && ((u == w) && bytes_eq d c)) ≡ b → v ≡ me → TellsThen d after floor None h
    → ((wake w c q h ≡ NotYet → ⊥) → Since me w c q h) → (cond ((p == q) && ((u == w) && bytes_eq d c)) Waiting (wake w c q h) ≡ NotYet → ⊥) → Since me w c q (Looked v p u number d after floor None ∷ h)
unfolding later_place here_place
none_since true me w c q v p u number d after floor h is by_me t rest n =
    let a = and_parts (p == q) ((u == w) && bytes_eq d c) is in
    let b = and_parts (u == w) (bytes_eq d c) a.1 in
    record {
      look = here_place me w c q v p u number d after floor h by_me (eqb-true p q a.0) (eqb-true u w b.0) (same_text d c (sym b.1)) t is;
      shows = subst (λ (x : Bool). ShowsSince (cond x Waiting (wake w c q h)) []) (sym is) refl;
    }
none_since false me w c q v p u number d after floor h is by_me t rest n =
    let k = rest (λ e. n (ap (λ (x : Bool). cond x Waiting (wake w c q h)) is ∙ e)) in
    record {
      look = later_place me w c q (Looked v p u number d after floor None) h k.look (ap (λ (x : Bool). cond x (Some after) (look_past w c q h)) is);
      shows = subst (λ (x : Bool). ShowsSince (cond x Waiting (wake w c q h)) (published c k.look.since)) (sym is) k.shows;
    }

since_of : (me w : ℕ) (c : List ℕ) (q : ℕ) (h : List Event) → Along LooksAt h → own me h ≡ h → (wake w c q h ≡ NotYet → ⊥) → Since me w c q h
unfolding later_place
since_of me w c q [] a o n = absurd (n refl)
since_of me w c q (Stored v d id slot len exp kept members from r ct body ∷ h) a o n =
    let k = since_of me w c q h a.0 (own_parts me (Stored v d id slot len exp kept members from r ct body) h o).1 (wake_stored (bytes_eq d c) id (wake w c q h) n) in
    record {
      look = later_place me w c q (Stored v d id slot len exp kept members from r ct body) h k.look refl;
      shows = stored_shows (bytes_eq d c) (stored_message id slot exp ct body) (wake w c q h) (published c k.look.since) k.shows;
    }
since_of me w c q (Removed v d last cause ∷ h) a o n =
    let k = since_of me w c q h a.0 (own_parts me (Removed v d last cause) h o).1 (wake_removed (bytes_eq d c) (wake w c q h) n) in
    record {
      look = later_place me w c q (Removed v d last cause) h k.look refl;
      shows = removed_shows (bytes_eq d c) (wake w c q h) (published c k.look.since) k.shows;
    }
since_of me w c q (Looked v p u number d after floor None ∷ h) a o n =
    let r = own_parts me (Looked v p u number d after floor None) h o in
    none_since ((p == q) && ((u == w) && bytes_eq d c)) me w c q v p u number d after floor h refl (sym (eqb-true me v r.0)) a.1 (since_of me w c q h a.0 r.1) n
since_of me w c q (e ∷ h) a o n =
    let k = since_of me w c q h a.0 (own_parts me e h o).1 n in
    record { look = later_place me w c q e h k.look refl; shows = k.shows }

-- ---- what woke a look

rising_right : (xs ys : List Message) → IsRising (xs ++ ys) → IsRising ys
rising_right [] ys r = r
rising_right (x ∷ xs) ys r = rising_right xs ys r.1

first_of : (id : Id) (ms : List Message) → IsRising ms → BeginsWith id ms → IsFirstOf id ms
first_of id ms rises b = record {
  first = b.first;
  others = b.others;
  split = b.split;
  same = b.same;
  later = subst (λ (x : Id). AllByRecursion (λ m. IsPast m.id x) b.others) b.same (subst IsRising b.split rises).0;
}

since_rises : (workers me w : ℕ) (c : List ℕ) (q : ℕ) (h : List Event) (k : LookPlace me w c q h) → IsRising (published c h) → IsRising (published c k.since)
since_rises workers me w c q h k rises =
    let look = Looked me q w k.number c k.after k.floor None in
    rising_right (published c (look ∷ k.seen)) (published c k.since) (subst IsRising (ap (published c) k.place ∙ published-append c k.since (look ∷ k.seen)) rises)

notice_apart : (id : Id) → ByNotice id ≡ NotYet → ⊥
notice_apart id e = cc

waiting_apart : Waiting ≡ NotYet → ⊥
waiting_apart e = cc

pub notice_is_first : NoticeIsFirst
notice_is_first me workers slots first row h s k o w c q id e =
    let g = since_of me w c q h o.looks k.local (λ x. notice_apart id (sym e ∙ x)) in
    record {
      look = g.look;
      first = first_of id (published c g.look.since) (since_rises workers me w c q h g.look (ids-rise workers h k.stamped c)) (subst (λ (t : Wake). ShowsSince t (published c g.look.since)) e g.shows);
    }

-- ---- a look that waits

floor_append : (es h : List Event) → floor_of h ≤ floor_of (es ++ h)
floor_append [] h = omega arith
floor_append (e ∷ es) h = omega (arith, floor_append es h, floor_step e (es ++ h))

look_floor : (me w : ℕ) (c : List ℕ) (q : ℕ) (h : List Event) (k : LookPlace me w c q h) → k.floor ≤ floor_of h
look_floor me w c q h k =
    let look = Looked me q w k.number c k.after k.floor None in
    let rose : floor_of (look ∷ k.seen) ≤ floor_of (k.since ++ look ∷ k.seen) = floor_append k.since (look ∷ k.seen) in
    subst (λ (l : List Event). k.floor ≤ floor_of l) (sym k.place) (subst (λ (n : ℕ). n ≤ floor_of (k.since ++ look ∷ k.seen)) (sym k.floor_then) rose)

pub shows_looks : ShowsLooks
shows_looks me workers slots first row h s k o w c q e =
    let g = since_of me w c q h o.looks k.local (λ x. waiting_apart (sym e ∙ x)) in
    let shown = stands_shows me workers slots first row h s k in
    let nothing : NothingIsPast g.look.after (buffer c h) = subst (λ (x : Option Id). IfSome x (λ after. NothingIsPast after (buffer c h))) g.look.looks_past (k.past w c q e) in
    record {
      look = g.look;
      none_since = subst (λ (t : Wake). ShowsSince t (published c g.look.since)) e g.shows;
      marked = (shown.channels c).marks w ∙ k.wakes.waits w c q e;
      floor_rose = subst (λ (n : ℕ). g.look.floor ≤ n) (sym shown.desk.floor) (look_floor me w c q h g.look);
      nothing_now = nothing;
      nothing_kept = to_entries (λ i. is_past i g.look.after ≡ false) (entries_in (found c s)) (buffer c h) (shown.buffers c) nothing;
    }
