-- How the replay of a whole script ends.
use Rattle.std.proofs.Common.{◌≡◌, ◌⊎◌, inl, inr, ℕ, List, [], ◌∷◌, ◌++◌, refl, subst, Option, Some, None, Result, Ok, Err, arith}
use Rattle.std.specs.Prelude.{IfOk}
use Rattle.std.proofs.lemmas.List.{append-nil}
use Rattle.nc_types.specs.Config.{ConfigAt}
use Rattle.nc_journal.specs.declared.event.Event.{Event}
use Rattle.nc_journal.specs.Text.{text_of}
use Rattle.nc_worker_state.specs.Setup.{setup_of}
use Rattle.nc_replay.specs.declared.fault.Fault.{Fault}
use Rattle.nc_replay.specs.declared.making.Ending.{Ending}
use Rattle.nc_replay.specs.declared.making.Ending.TheVariants.{All, Faulty, Worn as WornOut}
use Rattle.nc_replay.specs.Script.{lines_of, IsConfigured}
use Rattle.nc_replay.specs.Plan.{IsPlan}
use Rattle.nc_replay.specs.Input.{Adds, AddsPrefix}
use Rattle.nc_replay.specs.Run.{Made, Worn, MakesAll, MakesUntil, MakesWorn, MakesSome, EndsLines, IsBegun}
use Rattle.nc_replay.specs.Top.{fault_text, ReplaysText, Begins, Wears, Fails, RefusesText, WearsText, CutsOffText, CutsOffSome, IsSome}
use Rattle.nc_replay.proofs.Flows.{adds-none, adds-more, adds-prefix}

-- the lines before the first that breaks a rule were made, and the text of their history was written
pub record StopsAt (first : ℕ) (script old new : List ℕ) (fault : Fault) : Type 0 where
  pub h : List Event
  pub fails : Fails first script h fault
  pub written : Adds (text_of h) old new

module _ (first : ℕ) (text lines : List ℕ) (config : ConfigAt) (number : ℕ) (old new : List ℕ) (plan : IsPlan text config lines number) where
  pub replays-all : MakesAll (setup_of config first) (lines_of lines) old new → ReplaysText first text old new
  replays-all makes = record {
    h = makes.h;
    passes = record {
      before = plan.before;
      texts = lines_of lines;
      config = config;
      configured = plan.configured;
      made = makes.made;
    };
    written = makes.written;
  }

  -- the lines as they were cut
  cut-at : (texts : List (List ℕ)) → lines_of lines ≡ texts → IsConfigured text plan.before texts config
  cut-at texts cut = subst (λ (l : List (List ℕ)). IsConfigured text plan.before l config) cut plan.configured

  pub stops-later : (fault : Fault) → MakesUntil (setup_of config first) number (lines_of lines) old new fault → StopsAt first text old new fault
  stops-later fault makes = record {
    h = makes.h;
    fails = record {
      before = plan.before;
      texts = makes.front;
      bad = makes.bad;
      rest = makes.rest;
      config = config;
      configured = cut-at (makes.front ++ makes.bad ∷ makes.rest) makes.cut;
      made = makes.made;
      breaks = makes.breaks;
      counted = omega (arith, makes.counted, plan.counted);
    };
    written = makes.written;
  }

  pub wears-out : MakesWorn (setup_of config first) (lines_of lines) old new → WearsText first text old new
  wears-out makes = record {
    h = makes.h;
    wears = record {
      before = plan.before;
      texts = makes.front;
      text = makes.text;
      rest = makes.rest;
      config = config;
      configured = cut-at (makes.front ++ makes.text ∷ makes.rest) makes.cut;
      worn = makes.worn;
    };
    written = makes.written;
  }

  begun-so : (h : List Event) (front rest : List (List ℕ)) → lines_of lines ≡ front ++ rest → IsBegun (setup_of config first) front rest h → IsSome first text h
  begun-so h front [] cut made = inr (inl (record { before = plan.before; texts = front; rest = []; config = config; configured = cut-at (front ++ []) cut; made = made }))
  begun-so h front (next ∷ rest) cut (inl made) = inr (inl (record { before = plan.before; texts = front; rest = next ∷ rest; config = config; configured = cut-at (front ++ next ∷ rest) cut; made = made }))
  begun-so h front (next ∷ rest) cut (inr worn) = inr (inr (record { before = plan.before; texts = front; text = next; rest = rest; config = config; configured = cut-at (front ++ next ∷ rest) cut; worn = worn }))

  pub cuts-off : MakesSome (setup_of config first) (lines_of lines) old new → CutsOffText first text old new
  cuts-off makes = record {
    h = makes.h;
    some = begun-so makes.h makes.front makes.rest makes.cut makes.begun;
    written = makes.written;
  }

-- nothing was written yet
pub nothing-written : (first : ℕ) (text : List ℕ) (old : List ℕ) → CutsOffSome first text old old
nothing-written first text old = inl (record {
  h = [];
  some = inl refl;
  written = adds-none [] old;
})

-- the fault of a line is written in part, and whole
pub fault-cut : (first : ℕ) (text : List ℕ) (old now new : List ℕ) (fault : Fault) → StopsAt first text old now fault → AddsPrefix (fault_text fault) now new → CutsOffSome first text old new
fault-cut first text old now new fault stops written = inr (inl (record {
  h = stops.h;
  fault = fault;
  fails = stops.fails;
  written = adds-prefix (text_of stops.h) (fault_text fault) old now new stops.written written;
}))

pub fault-written : (first : ℕ) (text : List ℕ) (old now new : List ℕ) (fault : Fault) → StopsAt first text old now fault → Adds (fault_text fault) now new → RefusesText first text old new
fault-written first text old now new fault stops written = record {
  h = stops.h;
  fault = fault;
  fails = stops.fails;
  written = adds-more (text_of stops.h) (fault_text fault) old now new stops.written written;
}
