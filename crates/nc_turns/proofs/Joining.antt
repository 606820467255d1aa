-- Settling by turns is settling by moves.
use Rattle.std.proofs.Common.{◌≡◌, ℕ, zero, suc, Bool, true, false, cond, List, [], ◌∷◌, ◌++◌, map, Option, Some, None, refl, sym, ap, ◌∙◌, subst, append_assoc}
use Rattle.std.specs.Prelude.{◌==◌}
use Rattle.std.proofs.lemmas.List.{append-nil, map-append}
use Rattle.nc_journal.specs.declared.event.Event.{Event}
use Rattle.nc_settle.specs.Turns.{below, first_turn}
use Rattle.nc_settle.specs.Settle.{settled, one_more, before_worn}
use Rattle.nc_settle.specs.Settle as settle
use Rattle.nc_worker_state.specs.Setup.{Setup}
use Rattle.nc_world.specs.World.{World, pending_in}
use Rattle.nc_world.specs.Moves.{Move, Counts, move_events, moved}
use Rattle.nc_world.specs.Lines.{round, does, turn_with, settle_moves, events_of, world_of}
use Rattle.nc_world.specs.Lines.{first_turn as first_move}
use Rattle.nc_turns.specs.Turns.{turn_count, turn_move}
use Rattle.nc_turns.specs.Worn.{meets_worn, moves_before_worn}
use Rattle.nc_turns.specs.Telling.{Telling, can_turn, worn_turn, turned, is_idle}
use Rattle.nc_turns.specs.Laws.{IsSettled, TurnsSettle, TurnsMeetWorn}
use Rattle.nc_turns.proofs.Numbers.{all_turns}

-- a turn by its number, and those behind it, as moves
abbrev as_moves : (ℕ → Move) → Option (ℕ × List ℕ) → Option (Move × List Move)
as_moves f None = None
as_moves f (Some turn) = Some (f turn.0, map f turn.1)

-- the first turn that does something is the first move that does
first_as_moves : (can : Move → Bool) (f : ℕ → Move) (before ts : List ℕ) → first_move can (map f before) (map f ts) ≡ as_moves f (first_turn (λ t. can (f t)) before ts)
first_as_moves can f before [] = refl
first_as_moves can f before (t ∷ ts) = by (ap (λ (l : List Move). first_move can l (map f ts)) (sym (map-append f before (t ∷ []))) ∙ first_as_moves can f (before ++ t ∷ []) ts) (can (f t))
  where
    behind : map f ts ++ map f before ++ f t ∷ [] ≡ map f (ts ++ before ++ t ∷ [])
    behind = sym (map-append f (ts ++ before) (t ∷ []) ∙ ap (λ (l : List Move). l ++ f t ∷ []) (map-append f ts before))

    by : first_move can (map f before ++ f t ∷ []) (map f ts) ≡ as_moves f (first_turn (λ t. can (f t)) (before ++ t ∷ []) ts)
        → (b : Bool) → cond b (Some (f t, map f ts ++ map f before ++ f t ∷ [])) (first_move can (map f before ++ f t ∷ []) (map f ts))
        ≡ as_moves f (cond b (Some (t, ts ++ before ++ t ∷ [])) (first_turn (λ t. can (f t)) (before ++ t ∷ []) ts))
    by later true = ap (λ (l : List Move). Some (f t, l)) behind
    by later false = later

module _ (setup : Setup) where
  abbrev at : World → List Event → Telling
  at world told = record { setup = setup; world = world; told = told }

  abbrev move : ℕ → Move
  move = turn_move setup.workers

  -- the moves of a settle by the turns that are to come
  abbrev moves : ℕ → List ℕ → World → List Move
  moves n ts world = settle_moves setup n (map move ts) world

  abbrev Settles : ℕ → List ℕ → World → List Event → Type 0
  Settles n ts world told = settled can_turn turned is_idle n ts (at world told) ≡ at (world_of setup (moves n ts world) world) (told ++ events_of setup (moves n ts world) world)

  nothing : (world : World) (told : List Event) → at world told ≡ at world (told ++ [])
  nothing world told = ap (at world) (sym (append-nil told))

  -- what moves lead to, and the moves of a first one with the turns behind it
  abbrev leads : World → List Event → List Move → Telling
  leads world told ms = at (world_of setup ms world) (told ++ events_of setup ms world)

  abbrev goes : ℕ → World → Option (Move × List Move) → List Move
  goes n world o = turn_with o (λ m rest. settle_moves setup n rest (moved setup m world))

  -- the same for the settling by turns, if it goes on so behind a first turn
  turn_settles : (n : ℕ) (world : World) (told : List Event) → ((t : ℕ × List ℕ) → Settles n t.1 (moved setup (move t.0) world) (told ++ move_events setup (move t.0) world))
      → (o : Option (ℕ × List ℕ)) → settle.turned can_turn turned is_idle o (at world told) (λ rest x. settled can_turn turned is_idle n rest x) ≡ leads world told (goes n world (as_moves move o))
  turn_settles n world told on None = nothing world told
  turn_settles n world told on (Some t) = on t
      ∙ ap (at (world_of setup (moves n t.1 (moved setup (move t.0) world)) (moved setup (move t.0) world))) (append_assoc told (move_events setup (move t.0) world) (events_of setup (moves n t.1 (moved setup (move t.0) world)) (moved setup (move t.0) world)))

  settles_on : (n : ℕ) (ts : List ℕ) (world : World) (told : List Event) → ((t : ℕ × List ℕ) → Settles n t.1 (moved setup (move t.0) world) (told ++ move_events setup (move t.0) world))
      → (b : Bool) → cond b (at world told) (settle.turned can_turn turned is_idle (first_turn (can_turn (at world told)) [] ts) (at world told) (λ rest x. settled can_turn turned is_idle n rest x))
      ≡ leads world told (cond b [] (goes n world (first_move (does world) [] (map move ts))))
  settles_on n ts world told on true = nothing world told
  settles_on n ts world told on false = turn_settles n world told on (first_turn (can_turn (at world told)) [] ts) ∙ ap (λ (o : Option (Move × List Move)). leads world told (goes n world o)) (sym (first_as_moves (does world) move [] ts))

  by_turns : (n : ℕ) (ts : List ℕ) (world : World) (told : List Event) → Settles n ts world told
  by_turns zero ts world told = nothing world told
  by_turns (suc n) ts world told = settles_on n ts world told (λ t. by_turns n t.1 (moved setup (move t.0) world) (told ++ move_events setup (move t.0) world)) (pending_in setup world == 0)

  -- ---- worn workers

  abbrev MeetsWorn : ℕ → List ℕ → World → List Event → Type 0
  MeetsWorn n ts world told = before_worn can_turn worn_turn turned is_idle n ts (at world told) ≡ moves_before_worn setup (moves n ts world ++ Counts ∷ []) world

  turn_meets : (n : ℕ) (world : World) (told : List Event) → ((t : ℕ × List ℕ) → MeetsWorn n t.1 (moved setup (move t.0) world) (told ++ move_events setup (move t.0) world))
      → (o : Option (ℕ × List ℕ)) → settle.turned_worn can_turn worn_turn turned is_idle o (at world told) (λ rest x. before_worn can_turn worn_turn turned is_idle n rest x)
      ≡ moves_before_worn setup (goes n world (as_moves move o) ++ Counts ∷ []) world
  turn_meets n world told on None = refl
  turn_meets n world told on (Some t) = ap (λ (o : Option ℕ). cond (meets_worn setup world (move t.0)) (Some 0) (one_more o)) (on t)

  meets_on : (n : ℕ) (ts : List ℕ) (world : World) (told : List Event) → ((t : ℕ × List ℕ) → MeetsWorn n t.1 (moved setup (move t.0) world) (told ++ move_events setup (move t.0) world))
      → (b : Bool) → cond b None (settle.turned_worn can_turn worn_turn turned is_idle (first_turn (can_turn (at world told)) [] ts) (at world told) (λ rest x. before_worn can_turn worn_turn turned is_idle n rest x))
      ≡ moves_before_worn setup (cond b [] (goes n world (first_move (does world) [] (map move ts))) ++ Counts ∷ []) world
  meets_on n ts world told on true = refl
  meets_on n ts world told on false = turn_meets n world told on (first_turn (can_turn (at world told)) [] ts) ∙ ap (λ (o : Option (Move × List Move)). moves_before_worn setup (goes n world o ++ Counts ∷ []) world) (sym (first_as_moves (does world) move [] ts))

  worn_by_turns : (n : ℕ) (ts : List ℕ) (world : World) (told : List Event) → MeetsWorn n ts world told
  worn_by_turns zero ts world told = refl
  worn_by_turns (suc n) ts world told = meets_on n ts world told (λ t. worn_by_turns n t.1 (moved setup (move t.0) world) (told ++ move_events setup (move t.0) world)) (pending_in setup world == 0)

abbrev Leads : ℕ → Telling → Telling → List Move → Type 0
Leads n s final turns = (final.setup ≡ s.setup) × (final.world ≡ world_of s.setup (settle_moves s.setup n turns s.world) s.world) × (final.told ≡ s.told ++ events_of s.setup (settle_moves s.setup n turns s.world) s.world)

leads_by : (n : ℕ) (s final : Telling) (ts : List ℕ) → final ≡ leads s.setup s.world s.told (settle_moves s.setup n (map (turn_move s.setup.workers) ts) s.world) → Leads n s final (map (turn_move s.setup.workers) ts)
leads_by n s final ts e = (ap (λ x. x.setup) e, ap (λ x. x.world) e, ap (λ x. x.told) e)

as_settled : (n : ℕ) (s final : Telling) → Leads n s final (round s.setup.workers) → IsSettled n s final
as_settled n s final l = record { setup = l.0; world = l.1; told = l.2 }

pub turns_settle : TurnsSettle
turns_settle n s =
    let final : Telling = settled can_turn turned is_idle n (below (turn_count s.setup.workers)) s in
    as_settled n s final (subst (Leads n s final) (all_turns s.setup.workers) (leads_by n s final (below (turn_count s.setup.workers)) (by_turns s.setup n (below (turn_count s.setup.workers)) s.world s.told)))

pub turns_meet_worn : TurnsMeetWorn
turns_meet_worn n s = worn_by_turns s.setup n (below (turn_count s.setup.workers)) s.world s.told
    ∙ ap (λ (turns : List Move). moves_before_worn s.setup (settle_moves s.setup n turns s.world ++ Counts ∷ []) s.world) (all_turns s.setup.workers)
