-- What a worker's step makes, weighed.
use Rattle.std.proofs.Common.{◌≡◌, ℕ, ◌+◌, ◌≤◌, Bool, true, false, cond, List, [], ◌∷◌, ◌++◌, Option, Some, None, refl, sym, ap, ◌∙◌, subst, arith}
use Rattle.std.specs.Prelude.{◌==◌, ◌&&◌}
use Rattle.std.specs.List.{AllByRecursion}
use Rattle.nc_journal.specs.History.{onto}
use Rattle.nc_journal.specs.declared.event.Event.{Event}
use Rattle.nc_journal.specs.declared.event.Event.TheVariants.{Made}
use Rattle.nc_journal.specs.declared.alert.AlertLine.{AlertLine}
use Rattle.nc_journal.specs.declared.alert.AlertLine.TheVariants as lines
use Rattle.nc_buffer.specs.declared.entry.Entry.{Entry}
use Rattle.nc_owner.specs.declared.desk.Desk.{Desk as OwnerDesk}
use Rattle.nc_owner.specs.Publish.{Polls}
use Rattle.nc_owner.specs.Look.{found_on, found_line, look_ready}
use Rattle.nc_owner.specs.Fence.{with_floor}
use Rattle.nc_history.specs.Packets.{Packet, packet, sent_lines, lines_of}
use Rattle.nc_worker_state.specs.Setup.{Setup}
use Rattle.nc_worker_state.specs.Incoming.{TakesPacket}
use Rattle.nc_worker_state.specs.Owned.{Holding, line_polls, owned_by}
use Rattle.nc_worker_state.specs.Worker.{sent_to, holding}
use Rattle.nc_world.specs.World.{World, seat, handled_events}
use Rattle.nc_world.specs.Reached.{IsSetup}
use Rattle.nc_world_laws.proofs.WorkerKinds.{IsBy}
use Rattle.nc_world_laws.specs.Good.{Good}
use Rattle.nc_world_laws.proofs.Local.{eqb_self, eq_of, differs}
use Rattle.nc_world_laws.proofs.Parts.{owns, before, part, behind, of}
use Rattle.nc_world_holds.specs.Balance.{one_if}
use Rattle.nc_world_requests.proofs.Weighing.{made_for, out_for, made_append, part_out}
use Rattle.nc_world_looks.specs.Looks.{looking, looked, weigh}

module _ (f : AlertLine → ℕ) where
  pub weigh_append : (xs ys : List AlertLine) → weigh f (xs ++ ys) ≡ weigh f xs + weigh f ys
  weigh_append [] ys = omega arith
  weigh_append (a ∷ xs) ys = omega (arith, weigh_append xs ys)

  pub weigh_lines : (ps qs : List Packet) → weigh f (lines_of (ps ++ qs)) ≡ weigh f (lines_of ps) + weigh f (lines_of qs)
  weigh_lines [] qs = omega arith
  weigh_lines (p ∷ ps) qs = omega (arith, weigh_lines ps qs)

  pub weigh_cond : (b : Bool) (ps : List Packet) → weigh f (lines_of (cond b ps [])) ≡ cond b (weigh f (lines_of ps)) 0
  weigh_cond true ps = refl
  weigh_cond false ps = refl

  pub sent_weigh : (y : ℕ) (es : List Event) → weigh f (lines_of (sent_to y es)) ≡ made_for f y es
  sent_weigh y [] = refl
  sent_weigh y (Made v to n a ∷ es) = by (y == to) (sent_weigh y es)
    where
      by : (b : Bool) → weigh f (lines_of (sent_to y es)) ≡ made_for f y es → weigh f (lines_of (cond b (packet n a ∷ sent_to y es) (sent_to y es))) ≡ cond b (f a) 0 + made_for f y es
      by true e = omega (arith, e)
      by false e = omega (arith, e)
  sent_weigh y (e ∷ es) = sent_weigh y es

  one_sent : (b c : Bool) (xs : List AlertLine) (a : AlertLine) → b ≡ true → weigh f (cond (b && c) (xs ++ a ∷ []) xs) ≡ weigh f xs + cond c (f a) 0
  one_sent true true xs a e = omega (arith, weigh_append xs (a ∷ []))
  one_sent true false xs a e = omega arith
  one_sent false c xs a e = absurd cc

  other_sent : (b c : Bool) (xs : List AlertLine) (a : AlertLine) → b ≡ false → cond (b && c) (xs ++ a ∷ []) xs ≡ xs
  other_sent true c xs a e = absurd cc
  other_sent false c xs a e = refl

  -- what a worker makes is put behind what it made
  pub sent_here : (w y : ℕ) (es h : List Event) → AllByRecursion (IsBy w) es → weigh f (sent_lines w y (onto es h)) ≡ weigh f (sent_lines w y h) + made_for f y es
  sent_here w y [] h by = omega arith
  sent_here w y (Made v x n a ∷ es) h by = omega (arith, sent_here w y es (Made v x n a ∷ h) by.1, one_sent (w == v) (y == x) (sent_lines w y h) a by.0)
  sent_here w y (e ∷ es) h by = sent_here w y es (e ∷ h) by.1

  -- and nothing behind what others made
  pub sent_there : (v w y : ℕ) (es h : List Event) → (v == w) ≡ false → AllByRecursion (IsBy w) es → sent_lines v y (onto es h) ≡ sent_lines v y h
  sent_there v w y [] h d by = refl
  sent_there v w y (Made x z n a ∷ es) h d by = sent_there v w y es (Made x z n a ∷ h) d by.1 ∙ other_sent (v == x) (y == z) (sent_lines v y h) a (differs v w x d by.0)
  sent_there v w y (e ∷ es) h d by = sent_there v w y es (e ∷ h) d by.1

  pub sent_after : (v w y : ℕ) (es h : List Event) → AllByRecursion (IsBy w) es → weigh f (sent_lines v y (onto es h)) ≡ weigh f (sent_lines v y h) + cond (v == w) (made_for f y es) 0
  sent_after v w y es h by = at (v == w) refl
    where
      here : (x : ℕ) → x ≡ w → weigh f (sent_lines x y (onto es h)) ≡ weigh f (sent_lines x y h) + made_for f y es
      here x is = subst (λ (z : ℕ). weigh f (sent_lines z y (onto es h)) ≡ weigh f (sent_lines z y h) + made_for f y es) (sym is) (sent_here w y es h by)

      at : (b : Bool) → (v == w) ≡ b → weigh f (sent_lines v y (onto es h)) ≡ weigh f (sent_lines v y h) + cond b (made_for f y es) 0
      at true e = here v (eq_of v w e)
      at false e = let same = ap (weigh f) (sent_there v w y es h e by) in omega (arith, same)

-- ---- an owner answers a look

module _ (n from : ℕ) where
  found_looked : (number : ℕ) (entry : Option Entry) (d : OwnerDesk) → one_if (number == n) ≤ out_for (looked n) from (found_line from number entry d ∷ [])
  found_looked number None d = subst (λ (b : Bool). one_if (number == n) ≤ cond b (one_if (number == n)) 0 + 0) (sym (eqb_self from)) (omega arith)
  found_looked number (Some e) d = subst (λ (b : Bool). one_if (number == n) ≤ cond b (one_if (number == n)) 0 + 0) (sym (eqb_self from)) (omega arith)

  owner_looked : (polls : Polls) (line : AlertLine) (s : Holding) → looking n line ≤ out_for (looked n) from (owned_by polls from line s).alerts
  owner_looked polls (lines.Look number c after fence) s = let ready = look_ready c s.row (with_floor fence s.owner) in found_looked number (found_on after ready) ready.desk
  owner_looked polls line s = omega arith

-- so does a worker that takes it
module _ (setup : Setup) (is : IsSetup setup) (w from : ℕ) (p : Packet) (h : List Event) (world : World) (g : Good setup h world) (n : ℕ) where
  pub step_looked : looking n p.line ≤ made_for (looked n) from (handled_events setup w (TakesPacket from p) world)
  step_looked =
      let i = TakesPacket from p in
      let f = looked n in
      omega (
        arith,
        made_append f from (before setup w i world ++ part w i world) (behind setup w i world),
        made_append f from (before setup w i world) (part w i world),
        part_out f from w w (world.workers w).next (owns w i world) (of setup is w i h world g),
        owner_looked n from (line_polls p.line (holding w (seat w world))) p.line (holding w (seat w world)),
      )
