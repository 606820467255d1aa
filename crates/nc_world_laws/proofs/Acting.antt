-- A worker acts: what it does fits its world, and the world stays good.
use Rattle.std.proofs.Common.{◌≡◌, ℕ, zero, suc, ◌-◌, ◌≤◌, Bool, true, false, cond, List, [], ◌∷◌, ◌++◌, refl, sym, ap, ◌∙◌, subst, arith, append_assoc}
use Rattle.std.specs.Prelude.{◌==◌, slice_index, slice_set}
use Rattle.std.specs.List.{AllByRecursion}
use Rattle.nc_types.specs.Message.{Message}
use Rattle.nc_journal.specs.History.{own, onto}
use Rattle.nc_journal.specs.declared.event.Event.{Event}
use Rattle.nc_journal.specs.declared.event.Event.TheVariants.{Released, Made}
use Rattle.nc_journal.specs.declared.alert.AlertLine.{AlertLine}
use Rattle.nc_slots.specs.declared.slot.Slot.{Slot}
use Rattle.nc_slots.specs.Slot.{slot_at, most_holds}
use Rattle.nc_owner_laws.specs.HoldsKept.{HoldsFit, one_less}
use Rattle.nc_owner_laws.specs.OwnChannels.{OwnsChannels}
use Rattle.nc_owner_laws.specs.Reaping.{Keeps}
use Rattle.nc_history.specs.Packets.{Packet, packet, pending}
use Rattle.nc_worker_state.specs.Setup.{Setup}
use Rattle.nc_worker_state.specs.Deed.{next_after}
use Rattle.nc_worker_state.specs.Owned.{OwnersPart}
use Rattle.nc_worker_state.specs.Desk.{Served}
use Rattle.nc_worker_state.specs.Worker.{WorkerAt, Seat, with_at, sent_to, given_back, dealt_worker, dealt_counts}
use Rattle.nc_world.specs.World.{World, with_seat}
use Rattle.nc_world_laws.proofs.WorkerKinds.{IsBy, IsUntaken}
use Rattle.nc_world_laws.specs.Good.{IsLineTo, AreLinesTo, NumbersFollow, Good}
use Rattle.nc_world_laws.proofs.Local.{eq_of, all_append, own_onto, own_other}
use Rattle.nc_world_laws.proofs.Queues.{pending_sent, pending_other}
use Rattle.nc_world_laws.proofs.Numbers.{AreNumbered, Numbering, numbered_onto, follow_other}

-- ---- one value of a function is another

pub with_all : {X : Type 0} (P : ℕ → X → Type 0) (f : ℕ → X) (w : ℕ) (x : X) → P w x → ((v : ℕ) → (v == w) ≡ false → P v (f v)) → (v : ℕ) → P v (with_at f w x v)
with_all P f w x here other v = by (v == w) refl
  where
    by : (b : Bool) → (v == w) ≡ b → P v (cond b x (f v))
    by true e = subst (λ (k : ℕ). P k x) (sym (eq_of v w e)) here
    by false e = other v e

-- ---- holds that are given back

less_index : (xs : List ℕ) (s k : ℕ) → slice_index (slice_set xs s (slice_index xs s - 1)) k ≤ slice_index xs k
less_index [] s k = omega arith
less_index (x ∷ xs) zero zero = omega arith
less_index (x ∷ xs) zero (suc k) = omega arith
less_index (x ∷ xs) (suc s) zero = omega arith
less_index (x ∷ xs) (suc s) (suc k) = less_index xs s k

one_fits : (row : List (Slot Message)) (counts : ℕ → List ℕ) (owner slot v : ℕ) → HoldsFit row (counts v) → HoldsFit row (with_at counts owner (one_less slot (counts owner)) v)
one_fits row counts owner slot v f = by (v == owner) refl
  where
    by : (b : Bool) → (v == owner) ≡ b → HoldsFit row (cond b (one_less slot (counts owner)) (counts v))
    by true e = λ s. let le = less_index (counts owner) slot s in let m = subst (λ (k : ℕ). slice_index (counts k) s ≤ most_holds (slot_at row s)) (eq_of v owner e) (f s) in omega (arith, le, m)
    by false e = f

pub given_fits : (es : List Event) (row : List (Slot Message)) (counts : ℕ → List ℕ) (v : ℕ) → HoldsFit row (counts v) → HoldsFit row (given_back counts es v)
given_fits [] row counts v f = f
given_fits (Released w owner g slot ∷ es) row counts v f = given_fits es row (with_at counts owner (one_less slot (counts owner))) v (one_fits row counts owner slot v f)
given_fits (e ∷ es) row counts v f = given_fits es row counts v f

-- ---- what is sent

-- what is made keeps what its receiver counts on
abbrev pub MakesRightly : ℕ → Event → Type 0
MakesRightly workers (Made w to n a) = IsLineTo workers w to a
MakesRightly workers _ = Unit {0}

right_case : (b : Bool) (workers w v y to n : ℕ) (a : AlertLine) (ps : List Packet) → w ≡ v → (b ≡ true → y ≡ to) → IsLineTo workers v to a → AreLinesTo workers w y ps → AreLinesTo workers w y (cond b (packet n a ∷ ps) ps)
right_case true workers w v y to n a ps is e i l = (subst (λ (k : ℕ × ℕ). IsLineTo workers k.0 k.1 a) (λ j. (sym is j, sym (e refl) j)) i, l)
right_case false workers w v y to n a ps is e i l = l

sent_right : (workers w y : ℕ) (es : List Event) → AllByRecursion (IsBy w) es → AllByRecursion (MakesRightly workers) es → AreLinesTo workers w y (sent_to y es)
sent_right workers w y [] by r = tt
sent_right workers w y (Made v to n a ∷ es) by r = right_case (y == to) workers w v y to n a (sent_to y es) (eq_of w v by.0) (eq_of y to) r.0 (sent_right workers w y es by.1 r.1)
sent_right workers w y (e ∷ es) by r = sent_right workers w y es by.1 r.1

-- ---- a worker acts

-- what a worker did fits its world: the events are its own, take nothing, are numbered and rightly sent; its owner stands for them
-- and keeps channels of its own; and its spools know the workers
pub record ActsWell (setup : Setup) (w : ℕ) (h : List Event) (world : World) (events : List Event) (o : OwnersPart) (r : Served) : Type 0 where
  pub by : AllByRecursion (IsBy w) events
  pub untaken : AllByRecursion IsUntaken events
  pub numbered : AreNumbered (world.workers w).next events
  pub right : AllByRecursion (MakesRightly setup.workers) events
  pub keeps : Keeps w setup.workers setup.slots setup.first o.last.after.row (onto events (own w h)) o.last.after.owner
  pub owns : OwnsChannels setup.workers w o.last.after.owner
  pub holds : HoldsFit o.last.after.row o.last.after.counts
  pub knows : r.after.spools.workers ≡ setup.workers

-- the seat of a worker that acted
abbrev pub acted : ℕ → List Event → OwnersPart → Served → World → Seat
acted w events o r world = record { worker = dealt_worker events o r (world.workers w); row = o.last.after.row; counts = dealt_counts w events o world.counts }

module _ (setup : Setup) (w : ℕ) (h : List Event) (world : World) (events : List Event) (o : OwnersPart) (r : Served) (g : Good setup h world) (f : ActsWell setup w h world events o r) where
  abbrev new : WorkerAt
  new = dealt_worker events o r (world.workers w)

  acts_numbers : Numbering setup.first w (next_after (world.workers w).next events) (onto events h)
  acts_numbers = numbered_onto setup.first w (world.workers w).next events h f.by f.untaken f.numbered (record { posted = g.posted; follow = g.follow w })

  acts_queues : (v y : ℕ) → pending v y (onto events h) ≡ world.rings v y ++ (with_at world.workers w new v).outbox y
  acts_queues v y = with_all (λ x (s : WorkerAt). pending x y (onto events h) ≡ world.rings x y ++ s.outbox y) world.workers w new
      (pending_sent w y events h f.by f.untaken ∙ ap (λ (l : List Packet). l ++ sent_to y events) (g.queues w y) ∙ append_assoc (world.rings w y) ((world.workers w).outbox y) (sent_to y events))
      (λ x e. pending_other x w y events h e f.by f.untaken ∙ g.queues x y) v

  acts_lines : (v y : ℕ) → AreLinesTo setup.workers v y (pending v y (onto events h))
  acts_lines v y = by (v == w) refl
    where
      by : (b : Bool) → (v == w) ≡ b → AreLinesTo setup.workers v y (pending v y (onto events h))
      by true e = subst (λ (x : ℕ). AreLinesTo setup.workers x y (pending x y (onto events h))) (sym (eq_of v w e)) (subst (AreLinesTo setup.workers w y) (sym (pending_sent w y events h f.by f.untaken))
          (all_append (λ p. IsLineTo setup.workers w y p.line) (pending w y h) (sent_to y events) (g.lines w y) (sent_right setup.workers w y events f.by f.right)))
      by false e = subst (AreLinesTo setup.workers v y) (sym (pending_other v w y events h e f.by f.untaken)) (g.lines v y)

  acts_keeps : (v : ℕ) → Keeps v setup.workers setup.slots setup.first (with_at world.rows w o.last.after.row v) (own v (onto events h)) (with_at world.workers w new v).owner
  acts_keeps v = by (v == w) refl
    where
      by : (b : Bool) → (v == w) ≡ b → Keeps v setup.workers setup.slots setup.first (cond b o.last.after.row (world.rows v)) (own v (onto events h)) (cond b new (world.workers v)).owner
      by true e = subst (λ (x : ℕ). Keeps x setup.workers setup.slots setup.first o.last.after.row (own x (onto events h)) o.last.after.owner) (sym (eq_of v w e))
          (subst (λ (l : List Event). Keeps w setup.workers setup.slots setup.first o.last.after.row l o.last.after.owner) (sym (own_onto w events h f.by)) f.keeps)
      by false e = subst (λ (l : List Event). Keeps v setup.workers setup.slots setup.first (world.rows v) l (world.workers v).owner) (sym (own_other v w events h e f.by)) (g.keeps v)

  acts_holds : (v : ℕ) → HoldsFit (with_at world.rows w o.last.after.row v) (given_back (with_at world.counts w o.last.after.counts) events v)
  acts_holds v = given_fits events (with_at world.rows w o.last.after.row v) (with_at world.counts w o.last.after.counts) v (by (v == w))
    where
      by : (b : Bool) → HoldsFit (cond b o.last.after.row (world.rows v)) (cond b o.last.after.counts (world.counts v))
      by true = f.holds
      by false = g.holds v

  pub acts : Good setup (onto events h) (with_seat w (acted w events o r world) world)
  acts = record {
    queues = acts_queues;
    posted = acts_numbers.posted;
    follow = with_all (λ x (s : WorkerAt). NumbersFollow setup.first x s.next (onto events h)) world.workers w new acts_numbers.follow
        (λ x e. follow_other setup.first x w (world.workers x).next events h e f.by (g.follow x));
    lines = acts_lines;
    keeps = acts_keeps;
    owns = with_all (λ x (s : WorkerAt). OwnsChannels setup.workers x s.owner) world.workers w new f.owns (λ x e. g.owns x);
    holds = acts_holds;
    knows = with_all (λ x (s : WorkerAt). s.desk.spools.workers ≡ setup.workers) world.workers w new f.knows (λ x e. g.knows x);
  }
