-- What counts of one grant tell: it was granted, and the alert that carries it was made.
use Rattle.std.proofs.Common.{◌≡◌, inl, inr, ℕ, ◌+◌, ◌<◌, ◌≤◌, Bool, true, false, cond, List, [], ◌∷◌, ◌++◌, Some, None, refl, sym, ap, ◌∙◌, arith, drop}
use Rattle.std.specs.Prelude.{◌==◌, ◌&&◌}
use Rattle.std.specs.List.{AllByRecursion}
use Rattle.nc_journal.specs.History.{onto}
use Rattle.nc_journal.specs.Holding.{WasGranted, CarriesHold, MadeCarrying, WasTaken}
use Rattle.nc_journal.specs.declared.event.Event.{Event}
use Rattle.nc_journal.specs.declared.event.Event.TheVariants.{Granted, Released, Made, Took}
use Rattle.nc_journal.specs.declared.alert.AlertLine.{AlertLine}
use Rattle.nc_journal.specs.declared.alert.AlertLine.TheVariants as lines
use Rattle.nc_history.specs.Packets.{Packet, packet, pending}
use Rattle.nc_world_laws.proofs.WorkerKinds.{IsBy}
use Rattle.nc_world_laws.proofs.Local.{eqb_self, eq_of, all_append, all_of}
use Rattle.nc_world_holds.specs.Balance.{one_if, granted_to, released_by, carries}

-- the test of one grant's number and slot
abbrev pub exact : ℕ → ℕ → ℕ → ℕ → Bool
exact g slot n s = (n == g) && (s == slot)

pub is_exact : (g slot n s : ℕ) → exact g slot n s ≡ true → (n ≡ g) × (s ≡ slot)
is_exact g slot n s e = by (n == g) (s == slot) refl refl e
  where
    by : (b d : Bool) → (n == g) ≡ b → (s == slot) ≡ d → (b && d) ≡ true → (n ≡ g) × (s ≡ slot)
    by true true i j k = (eq_of n g i, eq_of s slot j)
    by true false i j k = absurd cc
    by false d i j k = absurd cc

one_exact : (g slot n s : ℕ) → 0 < one_if (exact g slot n s) → (n ≡ g) × (s ≡ slot)
one_exact g slot n s lt = is_exact g slot n s (by (exact g slot n s) lt)
  where
    by : (b : Bool) → 0 < one_if b → b ≡ true
    by true k = refl
    by false k = absurd (omega (arith, k))

-- ---- what was granted

module _ (o g slot w : ℕ) where
  pub was_granted : (h : List Event) → 0 < granted_to (exact g slot) o w h → WasGranted o g slot w h
  was_granted [] lt = absurd (omega (arith, lt))
  was_granted (Granted v n s to ∷ h) lt = by (v == o) (to == w) (exact g slot n s) refl refl refl (was_granted h) lt
    where
      by : (a b c : Bool) → (v == o) ≡ a → (to == w) ≡ b → exact g slot n s ≡ c → (0 < granted_to (exact g slot) o w h → WasGranted o g slot w h)
          → 0 < cond ((a && b) && c) (granted_to (exact g slot) o w h + 1) (granted_to (exact g slot) o w h) → WasGranted o g slot w (Granted v n s to ∷ h)
      by true true true i j k go x = let e = is_exact g slot n s k in inl (eq_of v o i, e.0, e.1, eq_of to w j)
      by true true false i j k go x = inr (go x)
      by true false c i j k go x = inr (go x)
      by false b c i j k go x = inr (go x)
  was_granted (e ∷ h) lt = was_granted h lt

  granted_one : (e : Event) (h : List Event) → WasGranted o g slot w h → WasGranted o g slot w (e ∷ h)
  granted_one (Granted v n s to) h x = inr x
  granted_one e h x = x

  taken_one : (e : Event) (h : List Event) → WasTaken o g slot w h → WasTaken o g slot w (e ∷ h)
  taken_one (Took v from n kind) h x = inr x
  taken_one e h x = x

  -- a grant that was made, and whose alert was taken; it stays so
  pub record IsHeldOnce (h : List Event) : Type 0 where
    pub granted : WasGranted o g slot w h
    pub taken : WasTaken o g slot w h

  pub held_one : (e : Event) (h : List Event) → IsHeldOnce h → IsHeldOnce (e ∷ h)
  held_one e h x = record { granted = granted_one e h x.granted; taken = taken_one e h x.taken }

  pub held_onto : (es h : List Event) → IsHeldOnce h → IsHeldOnce (onto es h)
  held_onto [] h x = x
  held_onto (e ∷ es) h x = held_onto es (e ∷ h) (held_one e h x)

  pub taken_onto : (es h : List Event) → WasTaken o g slot w h → WasTaken o g slot w (onto es h)
  taken_onto [] h x = x
  taken_onto (e ∷ es) h x = taken_onto es (e ∷ h) (taken_one e h x)

-- ---- what alerts carry

pub carries_hold : (g slot : ℕ) (a : AlertLine) → 0 < carries (exact g slot) a → CarriesHold g slot a
carries_hold g slot (lines.LookAnswer number q floor found (Some n) (Some s)) lt = let e = one_exact g slot n s lt in (ap Some e.0, ap Some e.1)
carries_hold g slot (lines.LookAnswer number q floor found (Some n) None) lt = absurd (omega (arith, lt))
carries_hold g slot (lines.LookAnswer number q floor found None place) lt = absurd (omega (arith, lt))
carries_hold g slot (lines.Notice c id n s) lt = one_exact g slot n s lt
carries_hold g slot a lt = absurd (omega (arith, lt))

-- a packet's alert was made, with what it carries
abbrev pub WasMade : ℕ → ℕ → List Event → Packet → Type 0
WasMade v w h p = (g slot : ℕ) → CarriesHold g slot p.line → MadeCarrying v w p.number g slot h

made_one : (v w x y n : ℕ) (a : AlertLine) (h : List Event) (p : Packet) → WasMade v w h p → WasMade v w (Made x y n a ∷ h) p
made_one v w x y n a h p made g slot c = inr (made g slot c)

drop_made : (v w : ℕ) (h : List Event) (b : Bool) (ps : List Packet) → AllByRecursion (WasMade v w h) ps → AllByRecursion (WasMade v w h) (cond b (drop 1 ps) ps)
drop_made v w h true [] a = tt
drop_made v w h true (p ∷ ps) a = a.1
drop_made v w h false ps a = a

pub pending_made : (v w : ℕ) (h : List Event) → AllByRecursion (WasMade v w h) (pending v w h)
pending_made v w [] = tt
pending_made v w (Made x y n a ∷ h) = by (v == x) (w == y) refl refl (all_of (WasMade v w h) (WasMade v w (Made x y n a ∷ h)) (made_one v w x y n a h) (pending v w h) (pending_made v w h))
  where
    by : (b d : Bool) → (v == x) ≡ b → (w == y) ≡ d → AllByRecursion (WasMade v w (Made x y n a ∷ h)) (pending v w h)
        → AllByRecursion (WasMade v w (Made x y n a ∷ h)) (cond (b && d) (pending v w h ++ packet n a ∷ []) (pending v w h))
    by true true i j k = all_append (WasMade v w (Made x y n a ∷ h)) (pending v w h) (packet n a ∷ []) k ((λ g slot c. inl (sym (eq_of v x i), sym (eq_of w y j), refl, c)), tt)
    by true false i j k = k
    by false d i j k = k
pending_made v w (Took y x n kind ∷ h) = drop_made v w h ((v == x) && (w == y)) (pending v w h) (pending_made v w h)
pending_made v w (e ∷ h) = pending_made v w h

-- ---- what is released

module _ (test : ℕ → ℕ → Bool) (o w : ℕ) where
  released_one : (e : Event) (h : List Event) → released_by test o w h ≤ released_by test o w (e ∷ h)
  released_one (Released v owner g slot) h = by (((owner == o) && (v == w)) && test g slot)
    where
      by : (b : Bool) → released_by test o w h ≤ cond b (released_by test o w h + 1) (released_by test o w h)
      by true = omega arith
      by false = omega arith
  released_one e h = omega arith

  released_grows : (es h : List Event) → released_by test o w h ≤ released_by test o w (onto es h)
  released_grows [] h = omega arith
  released_grows (e ∷ es) h = omega (arith, released_one e h, released_grows es (e ∷ h))

-- a release by a worker of a grant that is so
abbrev pub IsReleaseOf : ℕ → (ℕ → ℕ → ℕ → Type 0) → Event → Type 0
IsReleaseOf w X (Released v o g slot) = (v ≡ w) × X o g slot
IsReleaseOf w X _ = Unit {0}

release_is : (w : ℕ) (X : ℕ → ℕ → ℕ → Type 0) (e : Event) (es h : List Event) → IsBy w e → ((o g slot : ℕ) → 0 < released_by (exact g slot) o w (onto es (e ∷ h)) → X o g slot) → IsReleaseOf w X e
release_is w X (Released v o g slot) es h by f =
    let same : w ≡ v = eq_of w v by in
    let one = here (o == o) (v == w) (g == g) (slot == slot) (eqb_self o) (ap (λ z. z == w) (sym same) ∙ eqb_self w) (eqb_self g) (eqb_self slot) in
    (sym same, f o g slot (omega (arith, one, released_grows (exact g slot) o w es (Released v o g slot ∷ h))))
  where
    here : (a b c d : Bool) → a ≡ true → b ≡ true → c ≡ true → d ≡ true → 0 < cond ((a && b) && (c && d)) (released_by (exact g slot) o w h + 1) (released_by (exact g slot) o w h)
    here true true true true i j k l = omega arith
    here true true true false i j k l = absurd cc
    here true true false d i j k l = absurd cc
    here true false c d i j k l = absurd cc
    here false b c d i j k l = absurd cc
release_is w X e es h by f = tt

-- where what is released is so by its count, each release is
pub releases_are : (w : ℕ) (X : ℕ → ℕ → ℕ → Type 0) (es h : List Event) → AllByRecursion (IsBy w) es → ((o g slot : ℕ) → 0 < released_by (exact g slot) o w (onto es h) → X o g slot) → AllByRecursion (IsReleaseOf w X) es
releases_are w X [] h by f = tt
releases_are w X (e ∷ es) h by f = (release_is w X e es h by.0 f, releases_are w X es (e ∷ h) by.1 f)
