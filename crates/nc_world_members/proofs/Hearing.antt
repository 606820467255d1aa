-- What some events and deeds of a worker tell the owner of a channel of a member, how often they let it join, and whether they tell it that the channel is gone.
use Rattle.std.proofs.Common.{◌≡◌, ℕ, zero, suc, ◌+◌, ◌≤◌, Bool, true, false, cond, List, [], ◌∷◌, ◌++◌, refl, sym, ap, ◌∙◌, map, arith}
use Rattle.std.specs.Prelude.{◌==◌, ◌&&◌, ◌||◌, bytes_eq}
use Rattle.std.specs.List.{AllByRecursion}
use Rattle.std.proofs.lemmas.Bool.{true≢false}
use Rattle.std.specs.Cmp.Lexicographic.{same_text}
use Rattle.nc_types.specs.Channel.{owner_of}
use Rattle.nc_journal.specs.declared.event.Event.{Event}
use Rattle.nc_journal.specs.declared.event.Event.TheVariants.{Made}
use Rattle.nc_journal.specs.declared.word.EndedCause.{EndedCause}
use Rattle.nc_journal.specs.declared.alert.AlertLine.{AlertLine}
use Rattle.nc_journal.specs.declared.alert.AlertLine.TheVariants as lines
use Rattle.nc_spool_state.specs.declared.kept.Held.{Held}
use Rattle.nc_spool.specs.declared.ask.Ask.{Ask}
use Rattle.nc_spool.specs.declared.ask.Ask.TheVariants as asks
use Rattle.nc_spool.specs.declared.fact.Fact.{Fact}
use Rattle.nc_spool.specs.declared.fact.Fact.TheVariants as facts
use Rattle.nc_spool_members.specs.Members.{member_after, member_told, joins_by, joins_told}
use Rattle.nc_owner_laws.specs.Weave.{numbered}
use Rattle.nc_history.specs.Packets.{Packet, packet, lines_of}
use Rattle.nc_worker_state.specs.Deed.{Deed, Does, Makes, told}
use Rattle.nc_worker_state.specs.Spooled.{Hold, ask_line, facts_deeds, release}
use Rattle.nc_worker_state.specs.Worker.{sent_to}
use Rattle.nc_world_laws.proofs.WorkerKinds.{IsUnmade, AsksOwner, AreDeeds}
use Rattle.nc_world_laws.proofs.Local.{eqb_self}
use Rattle.nc_world_laws.proofs.Telling.{AllDo}
use Rattle.nc_world_members.specs.Members.{becomes, membership, one_if, joining, joins, loses, is_lost}
use Rattle.nc_world_members.proofs.Memberless.{IsApart, MakesApart}

-- no event makes an alert that a channel is gone
abbrev pub MakesNoGone : Event → Type 0
MakesNoGone (Made w to n (lines.Gone d subs)) = ⊥
MakesNoGone _ = Unit {0}

module _ (c : List ℕ) (k : ℕ) where
  pub cond_same : (b is : Bool) → cond b is is ≡ is
  cond_same true is = refl
  cond_same false is = refl

  -- ---- packets

  pub more_packets : (is : Bool) (xs ys : List Packet) → membership c k is (lines_of (xs ++ ys)) ≡ membership c k (membership c k is (lines_of xs)) (lines_of ys)
  more_packets is [] ys = refl
  more_packets is (p ∷ xs) ys = more_packets (becomes c k is p.line) xs ys

  apart_becomes : (is : Bool) (a : AlertLine) → IsApart a → becomes c k is a ≡ is
  apart_becomes is (lines.Join d n) p = absurd p
  apart_becomes is (lines.Part d n) p = absurd p
  apart_becomes is a p = refl

  module _ (to : ℕ) where
    abbrev pub heard_from : Bool → List Event → Bool
    heard_from is es = membership c k is (lines_of (sent_to to es))

    pub more_events : (is : Bool) (xs ys : List Event) → heard_from is (xs ++ ys) ≡ heard_from (heard_from is xs) ys
    more_events is [] ys = refl
    more_events is (Made v x n a ∷ xs) ys = by (to == x) (more_events (becomes c k is a) xs ys) (more_events is xs ys)
      where
        by : (b : Bool) → heard_from (becomes c k is a) (xs ++ ys) ≡ heard_from (heard_from (becomes c k is a) xs) ys → heard_from is (xs ++ ys) ≡ heard_from (heard_from is xs) ys
            → membership c k is (lines_of (cond b (packet n a ∷ sent_to to (xs ++ ys)) (sent_to to (xs ++ ys)))) ≡ heard_from (membership c k is (lines_of (cond b (packet n a ∷ sent_to to xs) (sent_to to xs)))) ys
        by true here there = here
        by false here there = there
    more_events is (e ∷ xs) ys = more_events is xs ys

    pub apart_events : (is : Bool) (es : List Event) → AllByRecursion MakesApart es → heard_from is es ≡ is
    apart_events is [] p = refl
    apart_events is (Made v x n a ∷ es) p = by (to == x) (apart_events is es p.1)
      where
        by : (b : Bool) → heard_from is es ≡ is → membership c k is (lines_of (cond b (packet n a ∷ sent_to to es) (sent_to to es))) ≡ is
        by true rest = ap (λ z. heard_from z es) (apart_becomes is a p.0) ∙ rest
        by false rest = rest
    apart_events is (e ∷ es) p = apart_events is es p.1

    -- ---- deeds

    abbrev pub hears : Bool → List Deed → Bool
    hears is [] = is
    hears is (Does e ∷ deeds) = hears is deeds
    hears is (Makes x a ∷ deeds) = hears (cond (to == x) (becomes c k is a) is) deeds

    unmade_heard : (is : Bool) (e : Event) (es : List Event) → IsUnmade e → heard_from is (e ∷ es) ≡ heard_from is es
    unmade_heard is (Made v x n a) es p = absurd p
    unmade_heard is e es p = refl

    pub told_heard : (is : Bool) (me : ℕ) (next : ℕ → ℕ) (deeds : List Deed) → AllDo IsUnmade deeds → heard_from is (told me next deeds) ≡ hears is deeds
    told_heard is me next [] p = refl
    told_heard is me next (Does e ∷ deeds) p = unmade_heard is e (told me next deeds) p.0 ∙ told_heard is me next deeds p.1
    told_heard is me next (Makes x a ∷ deeds) p = by (to == x) (told_heard (becomes c k is a) me (numbered next x) deeds p) (told_heard is me (numbered next x) deeds p)
      where
        by : (b : Bool) → heard_from (becomes c k is a) (told me (numbered next x) deeds) ≡ hears (becomes c k is a) deeds → heard_from is (told me (numbered next x) deeds) ≡ hears is deeds
            → membership c k is (lines_of (cond b (packet (next x) a ∷ sent_to to (told me (numbered next x) deeds)) (sent_to to (told me (numbered next x) deeds)))) ≡ hears (cond b (becomes c k is a) is) deeds
        by true here there = here
        by false here there = there

    pub more_deeds : (is : Bool) (xs ys : List Deed) → hears is (xs ++ ys) ≡ hears (hears is xs) ys
    more_deeds is [] ys = refl
    more_deeds is (Does e ∷ xs) ys = more_deeds is xs ys
    more_deeds is (Makes x a ∷ xs) ys = more_deeds (cond (to == x) (becomes c k is a) is) xs ys

    pub releases_heard : (is : Bool) (me : ℕ) (hs : List (Held Hold)) → hears is (map (release me) hs) ≡ is
    releases_heard is me [] = refl
    releases_heard is me (h ∷ hs) = releases_heard is me hs

  -- ---- how often they let the subscriber join

  pub joins_more_packets : (xs ys : List Packet) → joins c k (lines_of (xs ++ ys)) ≡ joins c k (lines_of xs) + joins c k (lines_of ys)
  joins_more_packets [] ys = omega arith
  joins_more_packets (p ∷ xs) ys = omega (arith, joins_more_packets xs ys)

  -- an alert that lets nobody join makes nobody a member
  pub unjoined : (a : AlertLine) → joining c k a ≡ 0 → becomes c k false a ≡ false
  unjoined (lines.Join d n) none = by (bytes_eq d c && (n == k)) none
    where
      by : (t : Bool) → one_if t ≡ 0 → cond t true false ≡ false
      by true none = absurd (omega (arith, none))
      by false none = refl
  unjoined (lines.Part d n) none = cond_same (bytes_eq d c && (n == k)) false
  unjoined a none = refl

  -- who is no member before them and isn't let join is none behind them
  pub membership_unjoined : (lines : List AlertLine) → joins c k lines ≡ 0 → membership c k false lines ≡ false
  membership_unjoined [] none = refl
  membership_unjoined (line ∷ lines) none =
      ap (λ z. membership c k z lines) (unjoined line (omega (arith, none))) ∙ membership_unjoined lines (omega (arith, none))

  -- and who is one behind them was one, or was let join
  pub membership_counted : (is : Bool) (lines : List AlertLine) → membership c k is lines ≡ true → 1 ≤ one_if is + joins c k lines
  membership_counted true lines e = omega arith
  membership_counted false lines e = by (joins c k lines) refl
    where
      by : (n : ℕ) → joins c k lines ≡ n → 1 ≤ 0 + joins c k lines
      by zero none = absurd (true≢false (sym e ∙ membership_unjoined lines none))
      by (suc n) more = omega (arith, more)

  module _ (to : ℕ) where
    abbrev pub joins_sent : List Event → ℕ
    joins_sent es = joins c k (lines_of (sent_to to es))

    pub joins_more_events : (xs ys : List Event) → joins_sent (xs ++ ys) ≡ joins_sent xs + joins_sent ys
    joins_more_events [] ys = omega arith
    joins_more_events (Made v x n a ∷ xs) ys = by (to == x) (joins_more_events xs ys)
      where
        by : (b : Bool) → joins_sent (xs ++ ys) ≡ joins_sent xs + joins_sent ys
            → joins c k (lines_of (cond b (packet n a ∷ sent_to to (xs ++ ys)) (sent_to to (xs ++ ys)))) ≡ joins c k (lines_of (cond b (packet n a ∷ sent_to to xs) (sent_to to xs))) + joins_sent ys
        by true rest = omega (arith, rest)
        by false rest = rest
    joins_more_events (e ∷ xs) ys = joins_more_events xs ys

    pub joins_apart : (es : List Event) → AllByRecursion MakesApart es → joins_sent es ≡ 0
    joins_apart [] p = refl
    joins_apart (Made v x n a ∷ es) p = by (to == x) (joins_apart es p.1)
      where
        none : (a : AlertLine) → IsApart a → joining c k a ≡ 0
        none (lines.Join d n) q = absurd q
        none (lines.Part d n) q = absurd q
        none a q = refl

        by : (b : Bool) → joins_sent es ≡ 0 → joins c k (lines_of (cond b (packet n a ∷ sent_to to es) (sent_to to es))) ≡ 0
        by true rest = omega (arith, none a p.0, rest)
        by false rest = rest
    joins_apart (e ∷ es) p = joins_apart es p.1

    -- by deeds
    abbrev pub joins_done : List Deed → ℕ
    joins_done [] = 0
    joins_done (Does e ∷ deeds) = joins_done deeds
    joins_done (Makes x a ∷ deeds) = cond (to == x) (joining c k a) 0 + joins_done deeds

    unmade_joins : (e : Event) (es : List Event) → IsUnmade e → joins_sent (e ∷ es) ≡ joins_sent es
    unmade_joins (Made v x n a) es p = absurd p
    unmade_joins e es p = refl

    pub told_joins : (me : ℕ) (next : ℕ → ℕ) (deeds : List Deed) → AllDo IsUnmade deeds → joins_sent (told me next deeds) ≡ joins_done deeds
    told_joins me next [] p = refl
    told_joins me next (Does e ∷ deeds) p = unmade_joins e (told me next deeds) p.0 ∙ told_joins me next deeds p.1
    told_joins me next (Makes x a ∷ deeds) p = by (to == x) (told_joins me (numbered next x) deeds p)
      where
        by : (b : Bool) → joins_sent (told me (numbered next x) deeds) ≡ joins_done deeds
            → joins c k (lines_of (cond b (packet (next x) a ∷ sent_to to (told me (numbered next x) deeds)) (sent_to to (told me (numbered next x) deeds)))) ≡ cond b (joining c k a) 0 + joins_done deeds
        by true rest = omega (arith, rest)
        by false rest = omega (arith, rest)

    pub joins_more_deeds : (xs ys : List Deed) → joins_done (xs ++ ys) ≡ joins_done xs + joins_done ys
    joins_more_deeds [] ys = omega arith
    joins_more_deeds (Does e ∷ xs) ys = joins_more_deeds xs ys
    joins_more_deeds (Makes x a ∷ xs) ys = omega (arith, joins_more_deeds xs ys)

    pub releases_join : (me : ℕ) (hs : List (Held Hold)) → joins_done (map (release me) hs) ≡ 0
    releases_join me [] = refl
    releases_join me (h ∷ hs) = releases_join me hs

    pub hears_unjoined : (deeds : List Deed) → joins_done deeds ≡ 0 → hears to false deeds ≡ false
    hears_unjoined [] none = refl
    hears_unjoined (Does e ∷ deeds) none = hears_unjoined deeds none
    hears_unjoined (Makes x a ∷ deeds) none = ap (λ z. hears to z deeds) (by (to == x) (omega (arith, none))) ∙ hears_unjoined deeds (omega (arith, none))
      where
        by : (b : Bool) → cond b (joining c k a) 0 ≡ 0 → cond b (becomes c k false a) false ≡ false
        by true e = unjoined a e
        by false e = refl

  -- ---- whether they tell the subscriber that the channel is gone

  either_first : (t a b d : Bool) → a ≡ (b || d) → (t || a) ≡ ((t || b) || d)
  either_first true a b d e = refl
  either_first false a b d e = e

  pub lost_more_packets : (xs ys : List Packet) → is_lost c k (lines_of (xs ++ ys)) ≡ is_lost c k (lines_of xs) || is_lost c k (lines_of ys)
  lost_more_packets [] ys = refl
  lost_more_packets (p ∷ xs) ys = either_first (loses c k p.line) _ _ _ (lost_more_packets xs ys)

  module _ (to : ℕ) where
    abbrev pub lost_sent : List Event → Bool
    lost_sent es = is_lost c k (lines_of (sent_to to es))

    pub lost_more_events : (xs ys : List Event) → lost_sent (xs ++ ys) ≡ lost_sent xs || lost_sent ys
    lost_more_events [] ys = refl
    lost_more_events (Made v x n a ∷ xs) ys = by (to == x) (lost_more_events xs ys)
      where
        by : (b : Bool) → lost_sent (xs ++ ys) ≡ lost_sent xs || lost_sent ys
            → is_lost c k (lines_of (cond b (packet n a ∷ sent_to to (xs ++ ys)) (sent_to to (xs ++ ys)))) ≡ is_lost c k (lines_of (cond b (packet n a ∷ sent_to to xs) (sent_to to xs))) || lost_sent ys
        by true rest = either_first (loses c k a) _ _ _ rest
        by false rest = rest
    lost_more_events (e ∷ xs) ys = lost_more_events xs ys

    pub lost_apart : (es : List Event) → AllByRecursion MakesNoGone es → lost_sent es ≡ false
    lost_apart [] p = refl
    lost_apart (Made v x n a ∷ es) p = by (to == x) (lost_apart es p.1)
      where
        none : (a : AlertLine) → MakesNoGone (Made v x n a) → loses c k a ≡ false
        none (lines.Gone d subs) q = absurd q
        none a q = refl

        by : (b : Bool) → lost_sent es ≡ false → is_lost c k (lines_of (cond b (packet n a ∷ sent_to to es) (sent_to to es))) ≡ false
        by true rest = ap (λ z. z || lost_sent es) (none a p.0) ∙ rest
        by false rest = rest
    lost_apart (e ∷ es) p = lost_apart es p.1

  -- ---- facts of spools

  module _ (workers : ℕ) where
    -- what is asked of another owner is asked of another channel
    owner_case : (d : List ℕ) (to : ℕ) (t : Bool) (now is : Bool) → bytes_eq d c ≡ t → owner_of workers d ≡ to → cond (owner_of workers c == to) (cond (t && now) true is) is ≡ cond (t && now) true is
    owner_case d to true now is e owns = ap (λ b. cond b (cond now true is) is) (ap (λ (x : List ℕ). owner_of workers x == to) (sym (same_text d c (sym e))) ∙ ap (λ x. x == to) owns ∙ eqb_self to)
    owner_case d to false now is e owns = cond_same (owner_of workers c == to) is

    owner_part : (d : List ℕ) (to : ℕ) (t : Bool) (now is : Bool) → bytes_eq d c ≡ t → owner_of workers d ≡ to → cond (owner_of workers c == to) (cond (t && now) false is) is ≡ cond (t && now) false is
    owner_part d to true now is e owns = ap (λ b. cond b (cond now false is) is) (ap (λ (x : List ℕ). owner_of workers x == to) (sym (same_text d c (sym e))) ∙ ap (λ x. x == to) owns ∙ eqb_self to)
    owner_part d to false now is e owns = cond_same (owner_of workers c == to) is

    ask_heard : (to : ℕ) (ask : Ask) (is : Bool) → AsksOwner workers to (ask_line ask) → cond (owner_of workers c == to) (becomes c k is (ask_line ask)) is ≡ member_after c k is ask
    ask_heard to (asks.Look number d after fence) is owns = cond_same (owner_of workers c == to) is
    ask_heard to (asks.Edge number n d fence) is owns = cond_same (owner_of workers c == to) is
    ask_heard to (asks.Join d n) is owns = owner_case d to (bytes_eq d c) (n == k) is refl owns
    ask_heard to (asks.Part d n) is owns = owner_part d to (bytes_eq d c) (n == k) is refl owns

    pub facts_heard : (is : Bool) (me : ℕ) (cause : EndedCause) (fs : List Fact) → AreDeeds workers me (facts_deeds me cause fs) → hears (owner_of workers c) is (facts_deeds me cause fs) ≡ member_told c k is fs
    facts_heard is me cause [] p = refl
    facts_heard is me cause (facts.Out o ∷ fs) p = ap (λ z. hears (owner_of workers c) z (facts_deeds me cause fs)) (ask_heard o.to o.ask is p.0) ∙ facts_heard (member_after c k is o.ask) me cause fs p.1
    facts_heard is me cause (facts.Started n cursor ∷ fs) p = facts_heard is me cause fs p.1
    facts_heard is me cause (facts.Sent s ∷ fs) p = facts_heard is me cause fs p.1
    facts_heard is me cause (facts.Ended n deleted ∷ fs) p = facts_heard is me cause fs p.1

    none : (b : Bool) → cond {A = ℕ} b 0 0 ≡ 0
    none true = refl
    none false = refl

    ask_join : (to : ℕ) (ask : Ask) → AsksOwner workers to (ask_line ask) → cond (owner_of workers c == to) (joining c k (ask_line ask)) 0 ≡ joins_by c k ask
    ask_join to (asks.Look number d after fence) owns = none (owner_of workers c == to)
    ask_join to (asks.Edge number n d fence) owns = none (owner_of workers c == to)
    ask_join to (asks.Part d n) owns = none (owner_of workers c == to)
    ask_join to (asks.Join d n) owns = by (bytes_eq d c) (n == k) refl
      where
        by : (t now : Bool) → bytes_eq d c ≡ t → cond (owner_of workers c == to) (one_if (t && now)) 0 ≡ cond (t && now) 1 0
        by true now e = ap (λ b. cond b (one_if now) 0) (ap (λ (x : List ℕ). owner_of workers x == to) (sym (same_text d c (sym e))) ∙ ap (λ x. x == to) owns ∙ eqb_self to)
        by false now e = none (owner_of workers c == to)

    pub facts_join : (me : ℕ) (cause : EndedCause) (fs : List Fact) → AreDeeds workers me (facts_deeds me cause fs) → joins_done (owner_of workers c) (facts_deeds me cause fs) ≡ joins_told c k fs
    facts_join me cause [] p = refl
    facts_join me cause (facts.Out o ∷ fs) p = omega (arith, ask_join o.to o.ask p.0, facts_join me cause fs p.1)
    facts_join me cause (facts.Started n cursor ∷ fs) p = facts_join me cause fs p.1
    facts_join me cause (facts.Sent s ∷ fs) p = facts_join me cause fs p.1
    facts_join me cause (facts.Ended n deleted ∷ fs) p = facts_join me cause fs p.1
