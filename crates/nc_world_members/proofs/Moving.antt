-- Each move keeps the members.
use Rattle.std.proofs.Common.{◌≡◌, ℕ, zero, suc, ◌+◌, ◌≤◌, Bool, true, false, cond, not, List, [], ◌∷◌, ◌++◌, refl, sym, ap, ◌∙◌, subst, arith, drop, length, replicate}
use Rattle.std.proofs.lemmas.Bool.{true≢false}
use Rattle.std.proofs.lemmas.Bool.Decides.{nat_tests}
use Rattle.std.specs.Prelude.{◌==◌, ◌&&◌, ◌||◌, negsuc, bytes_eq}
use Rattle.std.specs.Cmp.Lexicographic.{same_text}
use Rattle.nc_types.specs.Channel.{owner_of}
use Rattle.nc_types.specs.declared.start.Start.TheVariants.{Oldest, Newest, Given}
use Rattle.nc_journal.specs.History.{own, onto}
use Rattle.nc_journal.specs.Standing.{is_subscribed}
use Rattle.nc_journal.specs.declared.event.Event.{Event}
use Rattle.nc_journal.specs.declared.alert.AlertLine.{AlertLine}
use Rattle.nc_journal.specs.declared.alert.AlertLine.TheVariants as lines
use Rattle.nc_owner.specs.declared.member.Member.{Member}
use Rattle.nc_owner_laws.specs.Filters.{is_same, is_member}
use Rattle.nc_spool.specs.Calls.{board_of}
use Rattle.nc_spool_laws.specs.Tally.{stands}
use Rattle.nc_spool_members.specs.Singly.{StandSingly}
use Rattle.nc_spool_members.specs.Members.{stands_with, is_named}
use Rattle.nc_history.specs.Packets.{Packet, lines_of, pending}
use Rattle.nc_worker_state.specs.Setup.{Setup}
use Rattle.nc_worker_state.specs.Incoming.{Incoming, TakesPacket, ClockReads, Reaps, Posts, Subscribes, Removes, Informs}
use Rattle.nc_worker_state.specs.Owned.{member_of}
use Rattle.nc_worker_state.specs.Desk.{Desk}
use Rattle.nc_worker_state.specs.Worker.{WorkerAt, with_at, sent_to, dealt_worker}
use Rattle.nc_world.specs.World.{World, handled_events, handled}
use Rattle.nc_world.specs.Moves.{carried_one, with_ring}
use Rattle.nc_world.specs.Reached.{IsSetup, IsInput}
use Rattle.nc_world_laws.specs.Good.{IsLineTo, AreLinesTo, Good}
use Rattle.nc_world_laws.proofs.WorldTheme.{IsWorldTheme}
use Rattle.nc_world_laws.proofs.Local.{eqb_self, eq_of, eqb_of}
use Rattle.nc_world_laws.proofs.Acting.{with_all}
use Rattle.nc_world_laws.proofs.Taking.{first_pending, took_good}
use Rattle.nc_world_laws.proofs.Parts.{owns, serves}
use Rattle.nc_world_laws.proofs.Frames.{own_handled, input_pending, taken_pending}
use Rattle.nc_world_laws.proofs.WorldThemes.{world_theme_holds}
use Rattle.nc_world_members.specs.Members.{becomes, membership, one_if, joining, joins, loses, is_lost, spools_at, towards, back, is_known, ways, HasMembers}
use Rattle.nc_world_members.specs.Laws.{ReachedHasMembers, StandsOneWay, MembersStand}
use Rattle.nc_world_members.proofs.Memberless.{member_by, member_in, lost_by, lost_in}
use Rattle.nc_world_members.proofs.Hearing.{more_packets, joins_more_packets, membership_unjoined, membership_counted, lost_more_packets}
use Rattle.nc_world_members.proofs.Desks.{comes, loses_in, OwnersHear, Suits, served_tells}
use Rattle.nc_world_members.proofs.Stepping.{events, step_heard, step_joins, step_lost, step_member, subscribed_here, unsubscribed_here, unsubscribed_there}

-- ---- truths as numbers

one_few : (b : Bool) → one_if b ≤ 1
one_few true = omega arith
one_few false = omega arith

-- where one of two is, one of the first or of the second is
one_of : (a b : Bool) → one_if (a || b) ≤ one_if a + one_if b
one_of true b = omega arith
one_of false b = omega arith

-- one that is the second of two is one of the two
one_second : (a b both : Bool) → both ≡ a || b → one_if b ≤ one_if both
one_second a true both e = by a e
  where
    by : (a : Bool) → both ≡ a || true → 1 ≤ one_if both
    by true e = let one : 1 ≡ one_if both = ap one_if (sym e) in omega (arith, one)
    by false e = let one : 1 ≡ one_if both = ap one_if (sym e) in omega (arith, one)
one_second a false both e = omega arith

none_is : (b : Bool) → one_if b ≤ 0 → b ≡ false
none_is true few = absurd (let none : 1 ≤ 0 = few in omega (arith, none))
none_is false few = refl

all_of : (b : Bool) → b && true ≡ b
all_of true = refl
all_of false = refl

-- where none of two is, and a third one isn't, none of the second and the third is
second_none : (a b d all : Bool) → all ≡ a || b → all ≡ false → d ≡ false → b || d ≡ false
second_none true b d all e none gone = absurd (true≢false (sym e ∙ none))
second_none false true d all e none gone = absurd (true≢false (sym e ∙ none))
second_none false false d all e none gone = gone

-- who comes was in none before
comes_one : (come was : Bool) → (come ≡ true → was ≡ false) → one_if was + one_if come ≤ one_if (come || was)
comes_one true true new = absurd (true≢false (new refl))
comes_one true false new = omega arith
comes_one false was new = omega arith

-- how many ways there are after a step: before it there are as many as were subscribed; the owner's part makes no way more, a packet that is taken neither,
-- and at most who comes joins
ways_add : (m j l s m' j' d l' g' sent come s' : ℕ) → m + j + l ≤ s → m' + j' + d ≤ m + j → l' ≤ l → g' ≤ l' + d → sent ≤ come → s + come ≤ s' → m' + (j' + sent) + g' ≤ s'
ways_add m j l s m' j' d l' g' sent come s' before owned taken told joined subscribed = omega (arith, before, owned, taken, told, joined, subscribed)

-- ---- what a step leaves

-- whether the step of a worker tells a subscriber that a channel of its own is gone, of which it was a member
abbrev is_told : Setup → ℕ → Incoming → ℕ → ℕ → List ℕ → List Event → Bool
is_told setup x incoming w k c h = cond (owner_of setup.workers c == x) (lost_in c incoming (is_known setup w k c h)) false

nobody_told : (c : List ℕ) (incoming : Incoming) → lost_in c incoming false ≡ false
nobody_told c (TakesPacket from p) = by p.line
  where
    none : (a : Bool) → a && false ≡ false
    none true = refl
    none false = refl

    by : (line : AlertLine) → lost_by c line false ≡ false
    by (lines.Delete r d) = none (bytes_eq d c)
    by line = refl
nobody_told c incoming = refl

module _ (setup : Setup) (is : IsSetup setup) (x : ℕ) (incoming : Incoming) (h : List Event) (world : World) (g : Good setup h world) (has : HasMembers setup h world)
    (suits : Suits incoming (world.workers x).desk) (new_comes : (k : ℕ) → comes incoming k ≡ true → is_subscribed k (own x h) ≡ false) (left : ℕ → ℕ → List Packet)
    (sent : (w o : ℕ) → pending w o (onto (events setup is x incoming h world g) h) ≡ left w o ++ cond (w == x) (sent_to o (events setup is x incoming h world g)) [])
    (heard : (w k : ℕ) (c : List ℕ) → membership c k (is_known setup w k c (onto (events setup is x incoming h world g) h)) (lines_of (left w (owner_of setup.workers c)))
    ≡ membership c k (is_known setup w k c h) (towards setup w c h) && not (is_told setup x incoming w k c h))
    (fewer : (w k : ℕ) (c : List ℕ) → one_if (is_known setup w k c (onto (events setup is x incoming h world g) h)) + joins c k (lines_of (left w (owner_of setup.workers c))) + one_if (is_told setup x incoming w k c h)
    ≤ one_if (is_known setup w k c h) + joins c k (towards setup w c h))
    (lost_here : (k : ℕ) (c : List ℕ) → is_lost c k (back setup x c h) ≡ loses_in c k incoming || is_lost c k (lines_of (left (owner_of setup.workers c) x)))
    (lost_there : (w k : ℕ) (c : List ℕ) → (w == x) ≡ false → is_lost c k (back setup w c h) ≡ is_lost c k (lines_of (left (owner_of setup.workers c) w))) where
  abbrev es : List Event
  es = events setup is x incoming h world g

  abbrev new : WorkerAt
  new = dealt_worker es (owns x incoming world) (serves setup x incoming world) (world.workers x)

  tells : OwnersHear setup x (comes incoming) (λ c k. loses_in c k incoming) (world.workers x).desk (serves setup x incoming world)
  tells = served_tells setup x (world.workers x).desk (g.knows x) (has.singly x) incoming suits

  -- who is about to hear that a channel is gone was so before, or is told in the step
  back_after : (w k : ℕ) (c : List ℕ) → is_lost c k (back setup w c (onto es h)) ≡ is_lost c k (lines_of (left (owner_of setup.workers c) w)) || is_told setup x incoming w k c h
  back_after w k c =
      let o = owner_of setup.workers c in
      ap (λ (l : List Packet). is_lost c k (lines_of l)) (sent o w)
      ∙ lost_more_packets c k (left o w) (cond (o == x) (sent_to w es) [])
      ∙ ap (λ b. is_lost c k (lines_of (left o w)) || b) (at (o == x) refl)
    where
      at : (b : Bool) → (owner_of setup.workers c == x) ≡ b → is_lost c k (lines_of (cond b (sent_to w es) [])) ≡ cond b (lost_in c incoming (is_known setup w k c h)) false
      at true e = step_lost setup is x incoming h world g c w k ∙ ap (λ (y : ℕ). lost_in c incoming (is_member c (member_of w k) (own y h))) (sym (eq_of (owner_of setup.workers c) x e))
      at false e = refl

  -- who comes was told nothing, and isn't told anything in the step
  none_lost : (k : ℕ) (c : List ℕ) → comes incoming k ≡ true → is_lost c k (lines_of (left (owner_of setup.workers c) x)) || is_told setup x incoming x k c h ≡ false
  none_lost k c e = second_none (loses_in c k incoming) _ (is_told setup x incoming x k c h) (is_lost c k (back setup x c h)) (lost_here k c) (none_is (is_lost c k (back setup x c h)) parts.1) (at (owner_of setup.workers c == x))
    where
      split : (m j l s : ℕ) → m + j + l ≤ s → s ≡ 0 → (m ≤ 0) × (l ≤ 0)
      split m j l s few none = (omega (arith, few, none), omega (arith, few, none))

      parts : (one_if (is_known setup x k c h) ≤ 0) × (one_if (is_lost c k (back setup x c h)) ≤ 0)
      parts = split (one_if (is_known setup x k c h)) (joins c k (towards setup x c h)) (one_if (is_lost c k (back setup x c h))) (one_if (is_subscribed k (own x h))) (has.once x k c) (ap one_if (new_comes k e))

      at : (b : Bool) → cond b (lost_in c incoming (is_known setup x k c h)) false ≡ false
      at true = ap (lost_in c incoming) (none_is (is_known setup x k c h) parts.0) ∙ nobody_told c incoming
      at false = refl

  -- what is heard of the members of one worker
  abbrev Heard : List ℕ → ℕ → ℕ → List Packet → Bool → Type 0
  Heard c k z l stands = membership c k ((stands_with c k (spools_at world z) && not (is_lost c k (back setup z c h))) && not (is_told setup x incoming z k c h)) (lines_of l) ≡ stands && not (is_lost c k (lines_of (left (owner_of setup.workers c) z)) || is_told setup x incoming z k c h)

  members_after : (w k : ℕ) (c : List ℕ) → membership c k (is_known setup w k c (onto es h)) (towards setup w c (onto es h)) ≡ stands_with c k (board_of (with_at world.workers x new w).desk.spools) && not (is_lost c k (back setup w c (onto es h)))
  members_after w k c =
      let o = owner_of setup.workers c in
      let now = is_known setup w k c (onto es h) in
      ap (λ (l : List Packet). membership c k now (lines_of l)) (sent w o)
      ∙ more_packets c k now (left w o) (cond (w == x) (sent_to o es) [])
      ∙ ap (λ z. membership c k z (lines_of (cond (w == x) (sent_to o es) []))) (heard w k c ∙ ap (λ b. b && not (is_told setup x incoming w k c h)) (has.members w k c))
      ∙ at (w == x) refl
      ∙ ap (λ b. stands_with c k (board_of (with_at world.workers x new w).desk.spools) && not b) (sym (back_after w k c))
    where
      apart : (s a b : Bool) → (s && not a) && not b ≡ s && not (a || b)
      apart true true b = refl
      apart true false b = refl
      apart false a b = refl

      behind : (s a b d : Bool) → (s && not (a || b)) && not d ≡ s && not (a || (b || d))
      behind true true b d = refl
      behind true false true d = refl
      behind true false false d = refl
      behind false a b d = refl

      here : Heard c k x (sent_to (owner_of setup.workers c) es) (stands_with c k (board_of (serves setup x incoming world).after.spools))
      here =
          let o = owner_of setup.workers c in
          let s = stands_with c k (spools_at world x) in
          let rest = is_lost c k (lines_of (left o x)) in
          let told = is_told setup x incoming x k c h in
          ap (λ b. membership c k ((s && not b) && not told) (lines_of (sent_to o es))) (lost_here k c)
          ∙ ap (λ b. membership c k b (lines_of (sent_to o es))) (behind s (loses_in c k incoming) rest told)
          ∙ step_heard setup is x incoming h world g c k o (s && not (loses_in c k incoming || (rest || told)))
          ∙ tells.told c k (rest || told) (none_lost k c)

      at : (b : Bool) → (w == x) ≡ b → Heard c k w (cond b (sent_to (owner_of setup.workers c) es) []) (stands_with c k (board_of (cond b new (world.workers w)).desk.spools))
      at true e = subst (λ (z : ℕ). Heard c k z (sent_to (owner_of setup.workers c) es) (stands_with c k (board_of (serves setup x incoming world).after.spools))) (sym (eq_of w x e)) here
      at false e = ap (λ b. (stands_with c k (spools_at world w) && not b) && not (is_told setup x incoming w k c h)) (lost_there w k c e) ∙ apart (stands_with c k (spools_at world w)) _ (is_told setup x incoming w k c h)

  -- what a packet that is taken, what is sent and who comes add at one worker
  abbrev Adds : List ℕ → ℕ → ℕ → List Packet → ℕ → Type 0
  Adds c k z sends come = (one_if (is_lost c k (lines_of (left (owner_of setup.workers c) z))) ≤ one_if (is_lost c k (back setup z c h))) × (joins c k (lines_of sends) ≤ come) × (one_if (is_subscribed k (own z h)) + come ≤ one_if (is_subscribed k (own z (onto es h))))

  once_after : (w k : ℕ) (c : List ℕ) → ways setup w k c (onto es h) ≤ one_if (is_subscribed k (own w (onto es h)))
  once_after w k c =
      let o = owner_of setup.workers c in
      let add = at (w == x) refl in
      subst (λ (n : ℕ). one_if (is_known setup w k c (onto es h)) + n + one_if (is_lost c k (back setup w c (onto es h))) ≤ one_if (is_subscribed k (own w (onto es h))))
      (sym (ap (λ (l : List Packet). joins c k (lines_of l)) (sent w o) ∙ joins_more_packets c k (left w o) (cond (w == x) (sent_to o es) [])))
      (ways_add (one_if (is_known setup w k c h)) (joins c k (towards setup w c h)) (one_if (is_lost c k (back setup w c h))) (one_if (is_subscribed k (own w h)))
      (one_if (is_known setup w k c (onto es h))) (joins c k (lines_of (left w o))) (one_if (is_told setup x incoming w k c h)) (one_if (is_lost c k (lines_of (left o w)))) (one_if (is_lost c k (back setup w c (onto es h))))
      (joins c k (lines_of (cond (w == x) (sent_to o es) []))) (cond (w == x) (one_if (comes incoming k)) 0) (one_if (is_subscribed k (own w (onto es h))))
      (has.once w k c) (fewer w k c) add.0 told add.1 add.2)
    where
      told : one_if (is_lost c k (back setup w c (onto es h))) ≤ one_if (is_lost c k (lines_of (left (owner_of setup.workers c) w))) + one_if (is_told setup x incoming w k c h)
      told = subst (λ (b : Bool). one_if b ≤ one_if (is_lost c k (lines_of (left (owner_of setup.workers c) w))) + one_if (is_told setup x incoming w k c h)) (sym (back_after w k c)) (one_of (is_lost c k (lines_of (left (owner_of setup.workers c) w))) (is_told setup x incoming w k c h))

      few_of : (m n most : ℕ) → m ≡ n → n ≤ most → m ≤ most
      few_of m n most e few = omega (arith, e, few)

      no_more : (m n : ℕ) → m ≡ n → n + 0 ≤ m
      no_more m n e = omega (arith, e)

      less_of : (a b : Bool) → a ≡ b → one_if b ≤ one_if a
      less_of a b e = let same : one_if a ≡ one_if b = ap one_if e in omega (arith, same)

      subscribed_at : is_subscribed k (own x (onto es h)) ≡ comes incoming k || is_subscribed k (own x h)
      subscribed_at = ap (is_subscribed k) (own_handled setup is x incoming h world g x ∙ ap (λ b. cond b (onto es (own x h)) (own x h)) (eqb_self x)) ∙ subscribed_here setup is x incoming h world g k

      here : Adds c k x (sent_to (owner_of setup.workers c) es) (one_if (comes incoming k))
      here = (
        one_second (loses_in c k incoming) (is_lost c k (lines_of (left (owner_of setup.workers c) x))) (is_lost c k (back setup x c h)) (lost_here k c),
        few_of _ _ (one_if (comes incoming k)) (step_joins setup is x incoming h world g c k (owner_of setup.workers c)) (tells.joined c k),
        subst (λ (b : Bool). one_if (is_subscribed k (own x h)) + one_if (comes incoming k) ≤ one_if b) (sym subscribed_at) (comes_one (comes incoming k) (is_subscribed k (own x h)) (new_comes k)),
      )

      at : (b : Bool) → (w == x) ≡ b → Adds c k w (cond b (sent_to (owner_of setup.workers c) es) []) (cond b (one_if (comes incoming k)) 0)
      at true e = subst (λ (z : ℕ). Adds c k z (sent_to (owner_of setup.workers c) es) (one_if (comes incoming k))) (sym (eq_of w x e)) here
      at false e = (
        less_of (is_lost c k (back setup w c h)) (is_lost c k (lines_of (left (owner_of setup.workers c) w))) (lost_there w k c e),
        omega arith,
        no_more (one_if (is_subscribed k (own w (onto es h)))) (one_if (is_subscribed k (own w h))) (ap (λ (l : List Event). one_if (is_subscribed k l)) (own_handled setup is x incoming h world g w ∙ ap (λ b. cond b (onto es (own w h)) (own w h)) e)),
      )

  singly_after : (w : ℕ) → StandSingly (with_at world.workers x new w).desk.spools
  singly_after = with_all (λ w (s : WorkerAt). StandSingly s.desk.spools) world.workers x new tells.singly (λ w e. has.singly w)

  known_after : (w k : ℕ) → is_subscribed k (own w (onto es h)) ≡ false → stands k (board_of (with_at world.workers x new w).desk.spools) ≡ 0
  known_after w k = with_all (λ z (s : WorkerAt). is_subscribed k (own z (onto es h)) ≡ false → stands k (board_of s.desk.spools) ≡ 0) world.workers x new here there w
    where
      here : is_subscribed k (own x (onto es h)) ≡ false → stands k (board_of new.desk.spools) ≡ 0
      here e = let q = unsubscribed_here setup is x incoming h world g k e in tells.fewer k q.1 (has.known x k q.0)

      there : (z : ℕ) → (z == x) ≡ false → is_subscribed k (own z (onto es h)) ≡ false → stands k (board_of (world.workers z).desk.spools) ≡ 0
      there z other e = has.known z k (unsubscribed_there setup is x incoming h world g k z other e)

  pub step_has : HasMembers setup (onto es h) (handled setup x incoming world)
  step_has = record { members = members_after; once = once_after; singly = singly_after; known = known_after }

-- ---- something comes from outside

length-all : (n : ℕ) → length (replicate n (negsuc 0)) ≡ n
length-all zero = refl
length-all (suc n) = ap suc (length-all n)

input_suits : (setup : Setup) (x : ℕ) (incoming : Incoming) (h : List Event) (world : World) → HasMembers setup h world → IsInput x h incoming → Suits incoming (world.workers x).desk
input_suits setup x (TakesPacket from p) h world has i = absurd i
input_suits setup x (ClockReads t) h world has i = tt
input_suits setup x Reaps h world has i = tt
input_suits setup x (Posts c body) h world has i = tt
input_suits setup x (Removes c) h world has i = tt
input_suits setup x (Informs c) h world has i = tt
input_suits setup x (Subscribes k list Oldest) h world has i = (has.known x k i.new, record { distinct = i.distinct; tags = length-all (length list) })
input_suits setup x (Subscribes k list (Given cursor)) h world has i = (has.known x k i.new, record { distinct = i.distinct; tags = i.fits })
input_suits setup x (Subscribes k list Newest) h world has i = (has.known x k i.new, record { distinct = i.distinct; tags = length-all (length list) })

-- who comes was never subscribed
input_new : (x : ℕ) (incoming : Incoming) (h : List Event) → IsInput x h incoming → (k : ℕ) → comes incoming k ≡ true → is_subscribed k (own x h) ≡ false
input_new x (TakesPacket from p) h i k e = absurd i
input_new x (Subscribes n list start) h i k e = ap (λ (j : ℕ). is_subscribed j (own x h)) (sym (eq_of n k e)) ∙ i.new
input_new x incoming h i k e = absurd (true≢false (sym e))

-- it leaves the members that owners know, and tells nobody that a channel is gone
input_member : (x : ℕ) (incoming : Incoming) (h : List Event) → IsInput x h incoming → (c : List ℕ) (m : Member) (was : Bool) → member_in c m incoming was ≡ was
input_member x (TakesPacket from p) h i c m was = absurd i
input_member x incoming h i c m was = refl

input_told : (x : ℕ) (incoming : Incoming) (h : List Event) → IsInput x h incoming → (c : List ℕ) (was : Bool) → lost_in c incoming was ≡ false
input_told x (TakesPacket from p) h i c was = absurd i
input_told x incoming h i c was = refl

input_lost : (x : ℕ) (incoming : Incoming) (h : List Event) → IsInput x h incoming → (c : List ℕ) (k : ℕ) → loses_in c k incoming ≡ false
input_lost x (TakesPacket from p) h i c k = absurd i
input_lost x incoming h i c k = refl

module _ (setup : Setup) (is : IsSetup setup) (x : ℕ) (incoming : Incoming) (h : List Event) (world : World) (g : Good setup h world) (i : IsInput x h incoming) (w k : ℕ) (c : List ℕ) where
  input_same : is_known setup w k c (onto (events setup is x incoming h world g) h) ≡ is_known setup w k c h
  input_same =
      let o = owner_of setup.workers c in
      step_member setup is x incoming h world g c (member_of w k) o ∙ ap (λ b. cond (o == x) b (is_known setup w k c h)) (input_member x incoming h i c (member_of w k) (is_known setup w k c h)) ∙ either_same (o == x) (is_known setup w k c h)
    where
      either_same : (b was : Bool) → cond b was was ≡ was
      either_same true was = refl
      either_same false was = refl

  input_untold : is_told setup x incoming w k c h ≡ false
  input_untold = ap (λ b. cond (owner_of setup.workers c == x) b false) (input_told x incoming h i c (is_known setup w k c h)) ∙ none (owner_of setup.workers c == x)
    where
      none : (b : Bool) → cond b false false ≡ false
      none true = refl
      none false = refl

  input_heard : membership c k (is_known setup w k c (onto (events setup is x incoming h world g) h)) (towards setup w c h) ≡ membership c k (is_known setup w k c h) (towards setup w c h) && not (is_told setup x incoming w k c h)
  input_heard =
      ap (λ z. membership c k z (towards setup w c h)) input_same
      ∙ sym (all_of (membership c k (is_known setup w k c h) (towards setup w c h)))
      ∙ ap (λ b. membership c k (is_known setup w k c h) (towards setup w c h) && not b) (sym input_untold)

  input_fewer : one_if (is_known setup w k c (onto (events setup is x incoming h world g) h)) + joins c k (towards setup w c h) + one_if (is_told setup x incoming w k c h) ≤ one_if (is_known setup w k c h) + joins c k (towards setup w c h)
  input_fewer = same_few _ _ (joins c k (towards setup w c h)) _ (ap one_if input_same) (ap one_if input_untold)
    where
      same_few : (m n j t : ℕ) → m ≡ n → t ≡ 0 → m + j + t ≤ n + j
      same_few m n j t e none = omega (arith, e, none)

-- ---- a packet is taken

turned : (a b : ℕ) → (a == b) ≡ (b == a)
turned a b = grind (arith, nat_tests)

-- what its owner makes of it is what is heard of its sender's subscribers
join_here : (c : List ℕ) (w k v : ℕ) (d : List ℕ) (n : ℕ) (was : Bool) → (w == v) ≡ true → member_by c (member_of w k) v (lines.Join d n) was ≡ becomes c k was (lines.Join d n)
join_here c w k v d n was e = by (bytes_eq d c) (w == v) (k == n) (n == k) was e (turned k n)
  where
    by : (a b i j was : Bool) → b ≡ true → i ≡ j → ((a && (b && i)) || was) ≡ cond (a && j) true was
    by true true true true was e f = refl
    by true true false false was e f = refl
    by true true true false was e f = absurd cc
    by true true false true was e f = absurd cc
    by true false i j was e f = absurd cc
    by false b i j was e f = refl

part_here : (c : List ℕ) (w k v : ℕ) (d : List ℕ) (n : ℕ) (was : Bool) → (w == v) ≡ true → member_by c (member_of w k) v (lines.Part d n) was ≡ becomes c k was (lines.Part d n)
part_here c w k v d n was e = by (bytes_eq d c) (w == v) (k == n) (n == k) was e (turned k n)
  where
    by : (a b i j was : Bool) → b ≡ true → i ≡ j → (not (a && (b && i)) && was) ≡ cond (a && j) false was
    by true true true true was e f = refl
    by true true false false was e f = refl
    by true true true false was e f = absurd cc
    by true true false true was e f = absurd cc
    by true false i j was e f = absurd cc
    by false b i j was e f = refl

-- and leaves those of others
join_there : (c : List ℕ) (w k v : ℕ) (d : List ℕ) (n : ℕ) (was : Bool) → (w == v) ≡ false → member_by c (member_of w k) v (lines.Join d n) was ≡ was
join_there c w k v d n was e = by (bytes_eq d c) (w == v) (k == n) was e
  where
    by : (a b i was : Bool) → b ≡ false → ((a && (b && i)) || was) ≡ was
    by true true i was e = absurd cc
    by true false i was e = refl
    by false b i was e = refl

part_there : (c : List ℕ) (w k v : ℕ) (d : List ℕ) (n : ℕ) (was : Bool) → (w == v) ≡ false → member_by c (member_of w k) v (lines.Part d n) was ≡ was
part_there c w k v d n was e = by (bytes_eq d c) (w == v) (k == n) was e
  where
    by : (a b i was : Bool) → b ≡ false → (not (a && (b && i)) && was) ≡ was
    by true true i was e = absurd cc
    by true false i was e = refl
    by false b i was e = refl

-- a deletion ends who was a member: then it isn't let join again
gone_heard : (c : List ℕ) (k : ℕ) (d : List ℕ) (was : Bool) (rest : List AlertLine) → one_if was + joins c k rest ≤ 1 → membership c k (not (bytes_eq d c) && was) rest ≡ membership c k was rest && not (bytes_eq d c && was)
gone_heard c k d was rest few = by (bytes_eq d c) was few
  where
    none_left : (n : ℕ) → 1 + n ≤ 1 → n ≡ 0
    none_left n few = omega (arith, few)

    none_of : (b : Bool) → b && false ≡ false
    none_of true = refl
    none_of false = refl

    by : (a was : Bool) → one_if was + joins c k rest ≤ 1 → membership c k (not a && was) rest ≡ membership c k was rest && not (a && was)
    by true true few = membership_unjoined c k rest (none_left (joins c k rest) few) ∙ sym (none_of (membership c k true rest))
    by true false few = sym (all_of (membership c k false rest))
    by false was few = sym (all_of (membership c k was rest))

-- what is heard of a member, once an alert was taken from its worker
line_heard : (c : List ℕ) (w k v : ℕ) (line : AlertLine) (was : Bool) (rest : List AlertLine) → (w == v) ≡ true → one_if was + joins c k (line ∷ rest) ≤ 1
    → membership c k (member_by c (member_of w k) v line was) rest ≡ membership c k was (line ∷ rest) && not (lost_by c line was)
line_heard c w k v (lines.Delete r d) was rest e few = gone_heard c k d was rest (less (one_if was) (joins c k rest) few)
  where
    less : (m n : ℕ) → m + (0 + n) ≤ 1 → m + n ≤ 1
    less m n few = omega (arith, few)
line_heard c w k v (lines.Join d n) was rest e few = ap (λ z. membership c k z rest) (join_here c w k v d n was e) ∙ sym (all_of _)
line_heard c w k v (lines.Part d n) was rest e few = ap (λ z. membership c k z rest) (part_here c w k v d n was e) ∙ sym (all_of _)
line_heard c w k v line was rest e few = sym (all_of (membership c k was rest))

-- or from another worker
other_heard : (c : List ℕ) (w k v : ℕ) (line : AlertLine) (was : Bool) (rest : List AlertLine) → (w == v) ≡ false → one_if was + joins c k rest ≤ 1
    → membership c k (member_by c (member_of w k) v line was) rest ≡ membership c k was rest && not (lost_by c line was)
other_heard c w k v (lines.Delete r d) was rest e few = gone_heard c k d was rest few
other_heard c w k v (lines.Join d n) was rest e few = ap (λ z. membership c k z rest) (join_there c w k v d n was e) ∙ sym (all_of _)
other_heard c w k v (lines.Part d n) was rest e few = ap (λ z. membership c k z rest) (part_there c w k v d n was e) ∙ sym (all_of _)
other_heard c w k v line was rest e few = sym (all_of (membership c k was rest))

-- nobody is a member, or is told, who was neither a member nor let join
gone_few : (d c : List ℕ) (was : Bool) → one_if (not (bytes_eq d c) && was) + one_if (bytes_eq d c && was) ≤ one_if was
gone_few d c was = by (bytes_eq d c) was
  where
    by : (a was : Bool) → one_if (not a && was) + one_if (a && was) ≤ one_if was
    by true true = omega arith
    by true false = omega arith
    by false true = omega arith
    by false false = omega arith

line_few : (c : List ℕ) (w k v : ℕ) (line : AlertLine) (was : Bool) → (w == v) ≡ true → one_if (member_by c (member_of w k) v line was) + one_if (lost_by c line was) ≤ one_if was + joining c k line
line_few c w k v (lines.Delete r d) was e = more _ (one_if was) (gone_few d c was)
  where
    more : (m n : ℕ) → m ≤ n → m ≤ n + 0
    more m n few = omega (arith, few)
line_few c w k v (lines.Join d n) was e = by (bytes_eq d c) (w == v) (k == n) (n == k) was e (turned k n)
  where
    by : (a b i j was : Bool) → b ≡ true → i ≡ j → one_if ((a && (b && i)) || was) + 0 ≤ one_if was + one_if (a && j)
    by true true true true true e f = omega arith
    by true true true true false e f = omega arith
    by true true false false was e f = omega arith
    by true true true false was e f = absurd cc
    by true true false true was e f = absurd cc
    by true false i j was e f = absurd cc
    by false b i j was e f = omega arith
line_few c w k v (lines.Part d n) was e = by (bytes_eq d c && is_same (member_of w k) v n) was
  where
    by : (a was : Bool) → one_if (not a && was) + 0 ≤ one_if was + 0
    by true true = omega arith
    by true false = omega arith
    by false was = omega arith
line_few c w k v line was e = omega arith

other_few : (c : List ℕ) (w k v : ℕ) (line : AlertLine) (was : Bool) → (w == v) ≡ false → one_if (member_by c (member_of w k) v line was) + one_if (lost_by c line was) ≤ one_if was
other_few c w k v (lines.Delete r d) was e = gone_few d c was
other_few c w k v (lines.Join d n) was e = same _ (one_if was) (ap one_if (join_there c w k v d n was e))
  where
    same : (m n : ℕ) → m ≡ n → m + 0 ≤ n
    same m n e = omega (arith, e)
other_few c w k v (lines.Part d n) was e = same _ (one_if was) (ap one_if (part_there c w k v d n was e))
  where
    same : (m n : ℕ) → m ≡ n → m + 0 ≤ n
    same m n e = omega (arith, e)
other_few c w k v line was e = omega arith

module _ (setup : Setup) (is : IsSetup setup) (x v : ℕ) (p : Packet) (ps : List Packet) (h : List Event) (world : World) (g : Good setup h world) (has : HasMembers setup h world) (at : world.rings v x ≡ p ∷ ps) where
  abbrev is_now : ℕ → ℕ → List ℕ → Bool
  is_now w k c = is_known setup w k c (onto (events setup is x (TakesPacket v p) h world g) h)

  abbrev was : ℕ → ℕ → List ℕ → Bool
  was w k c = is_known setup w k c h

  abbrev o : List ℕ → ℕ
  o c = owner_of setup.workers c

  -- what is left of the packets between two workers
  abbrev rest : ℕ → ℕ → List Packet
  rest w o = cond ((w == v) && (o == x)) (drop 1 (pending w o h)) (pending w o h)

  -- the packet is the first of its pair, and keeps what its receiver counts on
  first : pending v x h ≡ p ∷ (ps ++ (world.workers v).outbox x)
  first = first_pending setup x v p ps h world g at

  right : IsLineTo setup.workers v x p.line
  right = (subst (AreLinesTo setup.workers v x) first (g.lines v x)).0

  both_here : (a b : ℕ) → a ≡ v → b ≡ x → pending a b h ≡ p ∷ (ps ++ (world.workers v).outbox x)
  both_here a b e f = ap (λ (z : ℕ). pending z b h) e ∙ ap (λ (z : ℕ). pending v z h) f ∙ first

  no_drop : (b : Bool) (ps : List Packet) → cond (b && false) (drop 1 ps) ps ≡ ps
  no_drop true ps = refl
  no_drop false ps = refl

  few : (w k : ℕ) (c : List ℕ) → one_if (is_known setup w k c h) + joins c k (towards setup w c h) ≤ 1
  few w k c = less (one_if (is_known setup w k c h)) (joins c k (towards setup w c h)) (one_if (is_lost c k (back setup w c h))) (one_if (is_subscribed k (own w h))) (has.once w k c) (one_few (is_subscribed k (own w h)))
    where
      less : (m j l s : ℕ) → m + j + l ≤ s → s ≤ 1 → m + j ≤ 1
      less m j l s once one = omega (arith, once, one)

  taken_heard : (w k : ℕ) (c : List ℕ) → membership c k (is_now w k c) (lines_of (rest w (owner_of setup.workers c))) ≡ membership c k (is_known setup w k c h) (towards setup w c h) && not (is_told setup x (TakesPacket v p) w k c h)
  taken_heard w k c = by (w == v) (owner_of setup.workers c == x) refl refl (step_member setup is x (TakesPacket v p) h world g c (member_of w k) (owner_of setup.workers c))
    where
      by : (a b : Bool) → (w == v) ≡ a → (o c == x) ≡ b → is_now w k c ≡ cond b (member_by c (member_of w k) v p.line (was w k c)) (was w k c)
          → membership c k (is_now w k c) (lines_of (cond (a && b) (drop 1 (pending w (o c) h)) (pending w (o c) h))) ≡ membership c k (was w k c) (lines_of (pending w (o c) h)) && not (cond b (lost_by c p.line (was w k c)) false)
      by true true e f step =
          let here = both_here w (o c) (eq_of w v e) (eq_of (o c) x f) in
          (λ i. membership c k (step i) (lines_of (drop 1 (here i))))
          ∙ line_heard c w k v p.line (was w k c) (lines_of (ps ++ (world.workers v).outbox x)) e (subst (λ (l : List Packet). one_if (was w k c) + joins c k (lines_of l) ≤ 1) here (few w k c))
          ∙ ap (λ (l : List Packet). membership c k (was w k c) (lines_of l) && not (lost_by c p.line (was w k c))) (sym here)
      by false true e f step = ap (λ z. membership c k z (lines_of (pending w (o c) h))) step ∙ other_heard c w k v p.line (was w k c) (lines_of (pending w (o c) h)) e (few w k c)
      by a false e f step = (λ i. membership c k (step i) (lines_of (no_drop a (pending w (o c) h) i))) ∙ sym (all_of (membership c k (was w k c) (lines_of (pending w (o c) h))))

  taken_fewer : (w k : ℕ) (c : List ℕ) → one_if (is_now w k c) + joins c k (lines_of (rest w (owner_of setup.workers c))) + one_if (is_told setup x (TakesPacket v p) w k c h) ≤ one_if (is_known setup w k c h) + joins c k (towards setup w c h)
  taken_fewer w k c = by (w == v) (owner_of setup.workers c == x) refl refl (step_member setup is x (TakesPacket v p) h world g c (member_of w k) (owner_of setup.workers c))
    where
      one_taken : (m m' t a j j' all : ℕ) → m ≡ m' → m' + t ≤ a + j → all ≡ j + j' → m + j' + t ≤ a + all
      one_taken m m' t a j j' all e less of = omega (arith, e, less, of)

      none_taken : (m m' t a j j' : ℕ) → m ≡ m' → m' + t ≤ a → j ≡ j' → m + j + t ≤ a + j'
      none_taken m m' t a j j' e less same = omega (arith, e, less, same)

      by : (a b : Bool) → (w == v) ≡ a → (o c == x) ≡ b → is_now w k c ≡ cond b (member_by c (member_of w k) v p.line (was w k c)) (was w k c)
          → one_if (is_now w k c) + joins c k (lines_of (cond (a && b) (drop 1 (pending w (o c) h)) (pending w (o c) h))) + one_if (cond b (lost_by c p.line (was w k c)) false) ≤ one_if (was w k c) + joins c k (lines_of (pending w (o c) h))
      by true true e f step =
          let here = both_here w (o c) (eq_of w v e) (eq_of (o c) x f) in
          subst (λ (l : List Packet). one_if (is_now w k c) + joins c k (lines_of (drop 1 l)) + one_if (lost_by c p.line (was w k c)) ≤ one_if (was w k c) + joins c k (lines_of l)) (sym here)
          (one_taken _ _ (one_if (lost_by c p.line (was w k c))) (one_if (was w k c)) (joining c k p.line) (joins c k (lines_of (ps ++ (world.workers v).outbox x))) _ (ap one_if step) (line_few c w k v p.line (was w k c) e) refl)
      by false true e f step = none_taken _ _ (one_if (lost_by c p.line (was w k c))) (one_if (was w k c)) (joins c k (lines_of (pending w (o c) h))) _ (ap one_if step) (other_few c w k v p.line (was w k c) e) refl
      by a false e f step = none_taken _ (one_if (was w k c)) 0 (one_if (was w k c)) _ (joins c k (lines_of (pending w (o c) h))) (ap one_if step) (omega arith) (ap (λ (l : List Packet). joins c k (lines_of l)) (no_drop a (pending w (o c) h)))

  -- who hears that a channel is gone hears it of its owner
  unlost : (k : ℕ) (c : List ℕ) (line : AlertLine) → IsLineTo setup.workers v x line → (owner_of setup.workers c == v) ≡ false → loses c k line ≡ false
  unlost k c (lines.Gone d subs) owns other = by (bytes_eq d c) refl
    where
      by : (b : Bool) → bytes_eq d c ≡ b → b && is_named k subs ≡ false
      by true same = absurd (true≢false (sym (eqb_of (owner_of setup.workers c) v (sym owns ∙ ap (owner_of setup.workers) (same_text d c (sym same)))) ∙ other))
      by false same = refl
  unlost k c line owns other = refl

  taken_lost : (k : ℕ) (c : List ℕ) → is_lost c k (back setup x c h) ≡ loses c k p.line || is_lost c k (lines_of (rest (owner_of setup.workers c) x))
  taken_lost k c = by (owner_of setup.workers c == v) (x == x) refl (eqb_self x)
    where
      by : (a b : Bool) → (o c == v) ≡ a → b ≡ true → is_lost c k (lines_of (pending (o c) x h)) ≡ loses c k p.line || is_lost c k (lines_of (cond (a && b) (drop 1 (pending (o c) x h)) (pending (o c) x h)))
      by a false e f = absurd (true≢false (sym f))
      by true true e f = subst (λ (l : List Packet). is_lost c k (lines_of l) ≡ loses c k p.line || is_lost c k (lines_of (drop 1 l))) (sym (both_here (o c) x (eq_of (o c) v e) refl)) refl
      by false true e f = ap (λ b. b || is_lost c k (lines_of (pending (o c) x h))) (sym (unlost k c p.line right e))

  untaken_lost : (w k : ℕ) (c : List ℕ) → (w == x) ≡ false → is_lost c k (back setup w c h) ≡ is_lost c k (lines_of (rest (owner_of setup.workers c) w))
  untaken_lost w k c other = by (owner_of setup.workers c == v) (w == x) other
    where
      by : (a b : Bool) → b ≡ false → is_lost c k (lines_of (pending (o c) w h)) ≡ is_lost c k (lines_of (cond (a && b) (drop 1 (pending (o c) w h)) (pending (o c) w h)))
      by a true e = absurd (true≢false e)
      by a false e = ap (λ (l : List Packet). is_lost c k (lines_of l)) (sym (no_drop a (pending (o c) w h)))

-- ---- the theme

module _ (setup : Setup) (is : IsSetup setup) where
  handles_has : (x : ℕ) (incoming : Incoming) (h : List Event) (world : World) → Good setup h world → IsInput x h incoming → HasMembers setup h world → HasMembers setup (onto (handled_events setup x incoming world) h) (handled setup x incoming world)
  handles_has x incoming h world g i has =
      step_has setup is x incoming h world g has (input_suits setup x incoming h world has i) (input_new x incoming h i) (λ w o. pending w o h) (input_pending setup is x incoming h world g i)
      (input_heard setup is x incoming h world g i) (input_fewer setup is x incoming h world g i) (λ k c. ap (λ b. b || is_lost c k (back setup x c h)) (sym (input_lost x incoming h i c k))) (λ w k c e. refl)

  takes_has : (x v : ℕ) (p : Packet) (ps : List Packet) (h : List Event) (world : World) → Good setup h world → world.rings v x ≡ p ∷ ps → HasMembers setup h world
      → HasMembers setup (onto (handled_events setup x (TakesPacket v p) world) h) (handled setup x (TakesPacket v p) (with_ring v x ps world))
  takes_has x v p ps h world g at has =
      let step = step_has setup is x (TakesPacket v p) h world g has tt (λ k e. absurd (true≢false (sym e))) (λ w o. cond ((w == v) && (o == x)) (drop 1 (pending w o h)) (pending w o h))
      (taken_pending setup is x v p h (with_ring v x ps world) (took_good setup x v p ps h world g at))
      (taken_heard setup is x v p ps h world g has at) (taken_fewer setup is x v p ps h world g has at) (taken_lost setup is x v p ps h world g has at) (untaken_lost setup is x v p ps h world g has at) in
      record { members = step.members; once = step.once; singly = step.singly; known = step.known }

  carries_has : (w v : ℕ) (p : Packet) (ps : List Packet) (h : List Event) (world : World) → HasMembers setup h world → HasMembers setup h (carried_one w v p ps world)
  carries_has w v p ps h world has = record {
    members = λ x k c. has.members x k c ∙ ap (λ (d : Desk). stands_with c k (board_of d.spools) && not (is_lost c k (back setup x c h))) (sym (desk x));
    once = has.once;
    singly = λ x. subst (λ (d : Desk). StandSingly d.spools) (sym (desk x)) (has.singly x);
    known = λ x k e. ap (λ (d : Desk). stands k (board_of d.spools)) (desk x) ∙ has.known x k e;
  }
    where
      desk : (x : ℕ) → ((carried_one w v p ps world).workers x).desk ≡ (world.workers x).desk
      desk = with_all (λ x (s : WorkerAt). s.desk ≡ (world.workers x).desk) world.workers w (record (world.workers w) { outbox = with_at (world.workers w).outbox v ps }) refl (λ x e. refl)

  members_theme : IsWorldTheme setup (HasMembers setup)
  members_theme = record {
    new = record { members = λ w k c. refl; once = λ w k c. omega arith; singly = λ w. record { once = λ k. omega arith; fit = (tt, tt) }; known = λ w k e. refl };
    handles = λ w incoming h world reached g here i has. handles_has w incoming h world g i has;
    takes = λ w v p ps h world reached g here there at has. takes_has w v p ps h world g at has;
    carries = λ w v p ps h world reached g here there at has. carries_has w v p ps h world has;
    pending = λ n h world reached g same has. record { members = has.members; once = has.once; singly = has.singly; known = has.known };
    quiet = λ h world reached g same has. record { members = has.members; once = has.once; singly = has.singly; known = has.known };
  }

pub reached_has_members : ReachedHasMembers
reached_has_members setup h world is r = world_theme_holds setup (HasMembers setup) is (members_theme setup is) h world r

-- who stands and isn't told that the channel is gone is a member, or is let join
pub stands_one_way : StandsOneWay
stands_one_way setup h world is r w k c stands = by (is_lost c k (back setup w c h)) refl
  where
    has : HasMembers setup h world
    has = reached_has_members setup h world is r

    one_way : (m j l s : ℕ) → m + j + l ≤ s → s ≤ 1 → 1 ≤ m + j + l → m + j + l ≡ 1
    one_way m j l s once one some = omega (arith, once, one, some)

    some_lost : (m j l : ℕ) → 1 ≡ l → 1 ≤ m + j + l
    some_lost m j l e = omega (arith, e)

    some_known : (m j l : ℕ) → 1 ≤ m + j → 1 ≤ m + j + l
    some_known m j l some = omega (arith, some)

    so : 1 ≤ ways setup w k c h → ways setup w k c h ≡ 1
    so some = one_way (one_if (is_known setup w k c h)) (joins c k (towards setup w c h)) (one_if (is_lost c k (back setup w c h))) (one_if (is_subscribed k (own w h))) (has.once w k c) (one_few (is_subscribed k (own w h))) some

    by : (b : Bool) → is_lost c k (back setup w c h) ≡ b → ways setup w k c h ≡ 1
    by true e = so (some_lost (one_if (is_known setup w k c h)) (joins c k (towards setup w c h)) (one_if (is_lost c k (back setup w c h))) (ap one_if (sym e)))
    by false e = so (some_known (one_if (is_known setup w k c h)) (joins c k (towards setup w c h)) (one_if (is_lost c k (back setup w c h)))
        (membership_counted c k (is_known setup w k c h) (towards setup w c h) (has.members w k c ∙ (λ i. stands i && not (e i)))))

pub members_stand : MembersStand
members_stand setup h world is r w k c none none_back =
    ap (λ (l : List Packet). membership c k (is_known setup w k c h) (lines_of l)) (sym none)
    ∙ (reached_has_members setup h world is r).members w k c
    ∙ ap (λ (l : List Packet). stands_with c k (spools_at world w) && not (is_lost c k (lines_of l))) none_back
    ∙ all_of (stands_with c k (spools_at world w))
