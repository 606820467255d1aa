-- The numbers of packets: each alert that a worker makes has the next number to its receiver.
use Rattle.std.proofs.Common.{◌≡◌, ℕ, ◌+◌, ◌<◌, Bool, true, false, cond, List, [], ◌∷◌, ◌++◌, refl, sym, ap, ◌∙◌, subst, arith, length, drop, length-append}
use Rattle.std.specs.Prelude.{◌==◌, ◌&&◌}
use Rattle.std.specs.List.{AllByRecursion}
use Rattle.nc_journal.specs.History.{onto}
use Rattle.nc_journal.specs.declared.event.Event.{Event}
use Rattle.nc_journal.specs.declared.event.Event.TheVariants.{Granted, Made, Took}
use Rattle.nc_journal.specs.declared.alert.AlertLine.{AlertLine}
use Rattle.nc_journal.specs.declared.word.AlertKind.{AlertKind}
use Rattle.nc_owner.specs.AlertLines.{OutLine}
use Rattle.nc_reaper.specs.Reap.{Step}
use Rattle.nc_owner_laws.specs.Reaping.{steps_woven, next_behind}
use Rattle.nc_owner_laws.specs.Sweeping.{AllEvents}
use Rattle.nc_owner_laws.specs.Weave.{weave, makes, numbered, numbered_by}
use Rattle.nc_history.specs.Packets.{Packet, packet, is_pair, pending, made_count, took_count, FirstIs, IsPosted}
use Rattle.nc_worker_state.specs.Deed.{Deed, Does, Makes, told, next_after}
use Rattle.nc_worker_state.specs.Owned.{OwnersPart}
use Rattle.nc_worker_state.specs.Worker.{woven, part_woven}
use Rattle.nc_world_laws.proofs.WorkerKinds.{IsBy, IsUntaken, IsUnmade}
use Rattle.nc_world_laws.specs.Good.{NumbersFollow}
use Rattle.nc_world_laws.proofs.Local.{eq_of, differs}
use Rattle.nc_world_laws.proofs.Queues.{other_case}
use Rattle.nc_world_laws.proofs.Telling.{AllDo, PartEvents}

-- each alert that some events make has the next number to its receiver
abbrev pub AreNumbered : (ℕ → ℕ) → List Event → Type 0
AreNumbered next [] = Unit {0}
AreNumbered next (Made w to n a ∷ es) = (n ≡ next to) × AreNumbered (numbered next to) es
AreNumbered next (e ∷ es) = AreNumbered next es

pub numbered_append : (next : ℕ → ℕ) (xs ys : List Event) → AreNumbered next xs → AreNumbered (next_after next xs) ys → AreNumbered next (xs ++ ys)
numbered_append next [] ys a b = b
numbered_append next (Made w to n l ∷ xs) ys a b = (a.0, numbered_append (numbered next to) xs ys a.1 b)
numbered_append next (e ∷ xs) ys a b = numbered_append next xs ys a b

pub next_append : (next : ℕ → ℕ) (xs ys : List Event) → next_after next (xs ++ ys) ≡ next_after (next_after next xs) ys
next_append next [] ys = refl
next_append next (Made w to n l ∷ xs) ys = next_append (numbered next to) xs ys
next_append next (e ∷ xs) ys = next_append next xs ys

makes_numbered : (w : ℕ) (next : ℕ → ℕ) (alerts : List OutLine) → AreNumbered next (makes w next alerts)
makes_numbered w next [] = tt
makes_numbered w next (a ∷ alerts) = (refl, makes_numbered w (numbered next a.to) alerts)

pub weave_numbered : (w : ℕ) (next : ℕ → ℕ) (es : List Event) (alerts : List OutLine) → AllByRecursion IsUnmade es → AreNumbered next (weave w next es alerts)
weave_numbered w next [] alerts un = makes_numbered w next alerts
weave_numbered w next (Granted v g slot to ∷ es) [] un = weave_numbered w next es [] un.1
weave_numbered w next (Granted v g slot to ∷ es) (a ∷ alerts) un = (refl, weave_numbered w (numbered next a.to) es alerts un.1)
weave_numbered w next (Made v to n a ∷ es) alerts un = absurd un.0
weave_numbered w next (e ∷ es) alerts un = weave_numbered w next es alerts un.1

-- the numbers behind an owner's events and alerts in one list are those behind the alerts
makes_next : (w : ℕ) (next : ℕ → ℕ) (alerts : List OutLine) → next_after next (makes w next alerts) ≡ numbered_by next alerts
makes_next w next [] = refl
makes_next w next (a ∷ alerts) = makes_next w (numbered next a.to) alerts

pub weave_next : (w : ℕ) (next : ℕ → ℕ) (es : List Event) (alerts : List OutLine) → AllByRecursion IsUnmade es → next_after next (weave w next es alerts) ≡ numbered_by next alerts
weave_next w next [] alerts un = makes_next w next alerts
weave_next w next (Granted v g slot to ∷ es) [] un = weave_next w next es [] un.1
weave_next w next (Granted v g slot to ∷ es) (a ∷ alerts) un = weave_next w (numbered next a.to) es alerts un.1
weave_next w next (Made v to n a ∷ es) alerts un = absurd un.0
weave_next w next (e ∷ es) alerts un = weave_next w next es alerts un.1

-- so it is of steps, one after the other
pub steps_next : (w : ℕ) (next : ℕ → ℕ) (steps : List Step) → AllEvents IsUnmade steps → next_after next (steps_woven w next steps) ≡ next_behind next steps
steps_next w next [] un = refl
steps_next w next (x ∷ steps) un =
    let one = weave w next x.events x.alerts in
    let more = steps_woven w (numbered_by next x.alerts) steps in
    next_append next one more ∙ ap (λ (n : ℕ → ℕ). next_after n more) (weave_next w next x.events x.alerts un.0) ∙ steps_next w (numbered_by next x.alerts) steps un.1

pub steps_numbered : (w : ℕ) (next : ℕ → ℕ) (steps : List Step) → AllEvents IsUnmade steps → AreNumbered next (steps_woven w next steps)
steps_numbered w next [] un = tt
steps_numbered w next (x ∷ steps) un =
    let one = weave w next x.events x.alerts in
    let more = steps_woven w (numbered_by next x.alerts) steps in
    numbered_append next one more (weave_numbered w next x.events x.alerts un.0)
    (subst (λ (n : ℕ → ℕ). AreNumbered n more) (sym (weave_next w next x.events x.alerts un.0)) (steps_numbered w (numbered_by next x.alerts) steps un.1))

-- and of an owner's part
pub part_numbered : (w : ℕ) (next : ℕ → ℕ) (p : OwnersPart) → PartEvents IsUnmade p → AreNumbered next (part_woven w next p)
part_numbered w next p un =
    let last = woven w (next_behind next p.sweeps) p.last in
    numbered_append next (steps_woven w next p.sweeps) last (steps_numbered w next p.sweeps un.0)
    (subst (λ (n : ℕ → ℕ). AreNumbered n last) (sym (steps_next w next p.sweeps un.0)) (weave_numbered w (next_behind next p.sweeps) p.last.events p.last.alerts un.1))

does_numbered : (next : ℕ → ℕ) (e : Event) (es : List Event) → IsUnmade e → AreNumbered next es → AreNumbered next (e ∷ es)
does_numbered next (Made w to n a) es un k = absurd un
does_numbered next e es un k = k

pub told_numbered : (w : ℕ) (next : ℕ → ℕ) (deeds : List Deed) → AllDo IsUnmade deeds → AreNumbered next (told w next deeds)
told_numbered w next [] un = tt
told_numbered w next (Does e ∷ deeds) un = does_numbered next e (told w next deeds) un.0 (told_numbered w next deeds un.1)
told_numbered w next (Makes to a ∷ deeds) un = (refl, told_numbered w (numbered next to) deeds un)

-- ---- numbers and counts

count_case : (b1 b2 : Bool) (n k f : ℕ) → b1 ≡ true → n ≡ f + k → cond b2 (n + 1) n ≡ f + cond (b1 && b2) (k + 1) k
count_case true true n k f e q = omega (arith, q)
count_case true false n k f e q = q
count_case false b2 n k f e q = absurd cc

-- the post rule holds, and a worker's next numbers are behind those that it made
pub record Numbering (first w : ℕ) (next : ℕ → ℕ) (h : List Event) : Type 0 where
  pub posted : IsPosted first h
  pub follow : NumbersFollow first w next h

one_numbered : (first w v x n : ℕ) (a : AlertLine) (next : ℕ → ℕ) (h : List Event) → IsBy w (Made v x n a) → n ≡ next x → Numbering first w next h → Numbering first w (numbered next x) (Made v x n a ∷ h)
one_numbered first w v x n a next h by is k = record {
  posted = (k.posted, is ∙ k.follow x ∙ ap (λ y. first + made_count y x h) (eq_of w v by));
  follow = λ to. count_case (w == v) (to == x) (next to) (made_count w to h) first by (k.follow to);
}

pub numbered_onto : (first w : ℕ) (next : ℕ → ℕ) (es h : List Event) → AllByRecursion (IsBy w) es → AllByRecursion IsUntaken es → AreNumbered next es → Numbering first w next h → Numbering first w (next_after next es) (onto es h)
numbered_onto first w next [] h by un are k = k
numbered_onto first w next (Made v x n a ∷ es) h by un are k = numbered_onto first w (numbered next x) es (Made v x n a ∷ h) by.1 un.1 are.1 (one_numbered first w v x n a next h by.0 are.0 k)
numbered_onto first w next (Took v x n kind ∷ es) h by un are k = absurd un.0
numbered_onto first w next (e ∷ es) h by un are k = numbered_onto first w next es (e ∷ h) by.1 un.1 are (record { posted = (k.posted, tt); follow = k.follow })

-- another worker's numbers stay
pub follow_other : (first v w : ℕ) (next : ℕ → ℕ) (es h : List Event) → (v == w) ≡ false → AllByRecursion (IsBy w) es → NumbersFollow first v next h → NumbersFollow first v next (onto es h)
follow_other first v w next [] h d by k = k
follow_other first v w next (Made x z n a ∷ es) h d by k = follow_other first v w next es (Made x z n a ∷ h) d by.1 (λ to. k to ∙ ap (λ y. first + y) (sym (other_case (v == x) (to == z) (made_count v to h + 1) (made_count v to h) (differs v w x d by.0))))
follow_other first v w next (e ∷ es) h d by k = follow_other first v w next es (e ∷ h) d by.1 k

-- ---- packets in turn

-- the numbers of some packets follow one another, from a first one on
abbrev pub Consecutive : ℕ → List Packet → Type 0
Consecutive n [] = Unit {0}
Consecutive n (p ∷ ps) = (p.number ≡ n) × Consecutive (n + 1) ps

-- what is pending has the numbers behind those that were taken, and as many were made as were taken and are pending
pub record InTurn (first v w : ℕ) (h : List Event) : Type 0 where
  pub numbers : Consecutive (first + took_count v w h) (pending v w h)
  pub count : made_count v w h ≡ took_count v w h + length (pending v w h)

consecutive_more : (n : ℕ) (ps : List Packet) (p : Packet) → Consecutive n ps → p.number ≡ n + length ps → Consecutive n (ps ++ p ∷ [])
consecutive_more n [] p c e = (omega (arith, e), tt)
consecutive_more n (q ∷ ps) p c e = (c.0, consecutive_more (n + 1) ps p c.1 (omega (arith, e)))

made_turn : (b : Bool) (first t m n : ℕ) (ps : List Packet) (a : AlertLine) → Consecutive (first + t) ps → m ≡ t + length ps → (b ≡ true → n ≡ first + m)
    → Consecutive (first + t) (cond b (ps ++ packet n a ∷ []) ps) × (cond b (m + 1) m ≡ t + length (cond b (ps ++ packet n a ∷ []) ps))
made_turn true first t m n ps a c e f = (consecutive_more (first + t) ps (packet n a) c (omega (arith, e, f refl)), omega (arith, e, length-append ps (packet n a ∷ [])))
made_turn false first t m n ps a c e f = (c, e)

took_turn : (b : Bool) (first t m n : ℕ) (ps : List Packet) → (b ≡ true → (0 < length ps)) → Consecutive (first + t) ps → m ≡ t + length ps
    → Consecutive (first + cond b (t + 1) t) (cond b (drop 1 ps) ps) × (m ≡ cond b (t + 1) t + length (cond b (drop 1 ps) ps))
took_turn true first t m n [] some c e = let s : 0 < 0 = some refl in absurd (omega (arith, s))
took_turn true first t m n (p ∷ ps) some c e = (subst (λ (k : ℕ). Consecutive k ps) (omega arith) c.1, omega (arith, e))
took_turn false first t m n ps some c e = (c, e)

both_eq : (a b c d : ℕ) → (a == b && c == d) ≡ true → (a ≡ b) × (c ≡ d)
both_eq a b c d e = by (a == b) (c == d) refl refl e
  where
    by : (x y : Bool) → (a == b) ≡ x → (c == d) ≡ y → (x && y) ≡ true → (a ≡ b) × (c ≡ d)
    by true true p q r = (eq_of a b p, eq_of c d q)
    by true false p q r = absurd cc
    by false y p q r = absurd cc

some_first : (ps : List Packet) (n : ℕ) (k : AlertKind) → FirstIs ps n k → 0 < length ps
some_first [] n k f = absurd f
some_first (p ∷ ps) n k f = omega arith

same_count : (first n v w x y : ℕ) (h : List Event) → (v ≡ x) × (w ≡ y) → n ≡ first + made_count x y h → n ≡ first + made_count v w h
same_count first n v w x y h e i = i ∙ ap (λ (k : ℕ × ℕ). first + made_count k.0 k.1 h) (λ j. (sym e.0 j, sym e.1 j))

same_some : (v w x y : ℕ) (h : List Event) → (v ≡ x) × (w ≡ y) → 0 < length (pending x y h) → 0 < length (pending v w h)
same_some v w x y h e s = subst (λ (k : ℕ × ℕ). 0 < length (pending k.0 k.1 h)) (λ j. (sym e.0 j, sym e.1 j)) s

-- so the post rule tells
pub posted_in_turn : (first : ℕ) (h : List Event) → IsPosted first h → (v w : ℕ) → InTurn first v w h
posted_in_turn first [] p v w = record { numbers = tt; count = refl }
posted_in_turn first (Made x y n a ∷ h) p v w =
    let r = posted_in_turn first h p.0 v w in
    let m = made_turn (is_pair v w x y) first (took_count v w h) (made_count v w h) n (pending v w h) a r.numbers r.count (λ e. same_count first n v w x y h (both_eq v x w y e) p.1) in
    record { numbers = m.0; count = m.1 }
posted_in_turn first (Took y x n kind ∷ h) p v w =
    let r = posted_in_turn first h p.0 v w in
    let m = took_turn (is_pair v w x y) first (took_count v w h) (made_count v w h) n (pending v w h) (λ e. same_some v w x y h (both_eq v x w y e) (some_first (pending x y h) n kind p.1.1)) r.numbers r.count in
    record { numbers = m.0; count = m.1 }
posted_in_turn first (e ∷ h) p v w = let r = posted_in_turn first h p.0 v w in record { numbers = r.numbers; count = r.count }
