-- How the lines behind the first one are made, and how that ends.
use Rattle.std.specs.Prelude.{◌≡◌, ◌⊎◌, ℕ, ◌+◌, ◌<◌, List, [], ◌∷◌, ◌++◌, length, None, Some}
use Rattle.nc_journal.specs.declared.event.Event.{Event}
use Rattle.nc_journal.specs.Text.{text_of}
use Rattle.nc_history.specs.Steps.{joined}
use Rattle.nc_script.specs.declared.line.Line.{Line as Said}
use Rattle.nc_worker_state.specs.Setup.{Setup}
use Rattle.nc_world.specs.Lines.{Line, lines_world, journal_of}
use Rattle.nc_turns.specs.Worn.{before_worn_in}
use Rattle.nc_world_follows.specs.Fitting.{AreFit}
use Rattle.nc_world_worn.specs.Counters.{IsWornIn, with_moves}
use Rattle.nc_world_lawful.specs.Lawful.{IsLawfulJournal}
use Rattle.nc_cluster.specs.PureLine.{pure_line}
use Rattle.nc_replay.specs.declared.fault.Fault.{Fault}
use Rattle.nc_replay.specs.declared.making.Ending.{Ending}
use Rattle.nc_replay.specs.declared.making.Ending.TheVariants.{All, Faulty, Worn as WornOut}
use Rattle.nc_replay.specs.Lines.{line_after, Reads}
use Rattle.nc_replay.specs.Input.{Adds, AddsPrefix}

-- none of some lines, the last one first, calls on a worn worker
abbrev pub AreUnworn : Setup → List Line → Type 0
AreUnworn setup [] = Unit {0}
AreUnworn setup (line ∷ lines) = AreUnworn setup lines × (before_worn_in setup line (lines_world setup lines) ≡ None)

-- the lines of some texts were made, and this is their history: a lawful journal follows them, in which the owners' steps stand.
-- it is the journal that the pure world makes of the lines, so that it is one; and the lines fit, so that all laws of reached worlds hold of it
pub record Made (setup : Setup) (texts : List (List ℕ)) (h : List Event) : Type 0 where
  pub lines : List Line
  pub read : Reads setup.workers [] texts lines
  pub unworn : AreUnworn setup lines
  pub fit : AreFit setup lines
  pub journal : List (List Event)
  pub lawful : IsLawfulJournal setup lines journal
  pub one : journal ≡ journal_of setup lines
  pub told : h ≡ joined journal

-- the lines of some texts were made, and the next would call on a worn worker, before it so many moves of it were made, as a settle makes them:
-- what is made follows the lines and that settle, if it makes any move, and it shows half of a counter's numbers drawn
pub record Worn (setup : Setup) (texts : List (List ℕ)) (text : List ℕ) (h : List Event) : Type 0 where
  pub lines : List Line
  pub read : Reads setup.workers [] texts lines
  pub unworn : AreUnworn setup lines
  pub said : Said
  pub says : (line_after setup.workers lines text).Says said
  pub moves : ℕ
  pub met : before_worn_in setup (pure_line said) (lines_world setup lines) ≡ Some moves
  pub fit : AreFit setup (with_moves moves lines)
  pub journal : List (List Event)
  pub lawful : IsLawfulJournal setup (with_moves moves lines) journal
  pub one : journal ≡ journal_of setup (with_moves moves lines)
  pub told : h ≡ joined journal
  pub worker : ℕ
  pub there : worker < setup.workers
  pub counter : IsWornIn setup worker h

-- all lines were made, and the text of their history was written
pub record MakesAll (setup : Setup) (texts : List (List ℕ)) (old new : List ℕ) : Type 0 where
  pub h : List Event
  pub made : Made setup texts h
  pub written : Adds (text_of h) old new

-- the lines before one that breaks a rule were made; so many lines of the script stand before all of these
pub record MakesUntil (setup : Setup) (before : ℕ) (texts : List (List ℕ)) (old new : List ℕ) (fault : Fault) : Type 0 where
  pub h : List Event
  pub front : List (List ℕ)
  pub bad : List ℕ
  pub rest : List (List ℕ)
  pub cut : texts ≡ front ++ bad ∷ rest
  pub made : Made setup front h
  pub breaks : (line_after setup.workers made.lines bad).Breaks fault.rule fault.at
  pub counted : fault.line ≡ before + length front + 1
  pub written : Adds (text_of h) old new

-- the lines before one that would call on a worn worker were made
pub record MakesWorn (setup : Setup) (texts : List (List ℕ)) (old new : List ℕ) : Type 0 where
  pub h : List Event
  pub front : List (List ℕ)
  pub text : List ℕ
  pub rest : List (List ℕ)
  pub cut : texts ≡ front ++ text ∷ rest
  pub worn : Worn setup front text h
  pub written : Adds (text_of h) old new

-- how that ends
abbrev pub EndsLines : Setup → ℕ → List (List ℕ) → List ℕ → List ℕ → Ending → Type 0
EndsLines setup before texts old new All = MakesAll setup texts old new
EndsLines setup before texts old new (Faulty fault) = MakesUntil setup before texts old new fault
EndsLines setup before texts old new WornOut = MakesWorn setup texts old new

-- the first lines were made, or those before one that would call on a worn worker
abbrev pub IsBegun : Setup → List (List ℕ) → List (List ℕ) → List Event → Type 0
IsBegun setup front [] h = Made setup front h
IsBegun setup front (text ∷ rest) h = Made setup front h ⊎ Worn setup front text h

-- and a prefix of the text of their history was written
pub record MakesSome (setup : Setup) (texts : List (List ℕ)) (old new : List ℕ) : Type 0 where
  pub h : List Event
  pub front : List (List ℕ)
  pub rest : List (List ℕ)
  pub cut : texts ≡ front ++ rest
  pub begun : IsBegun setup front rest h
  pub written : AddsPrefix (text_of h) old new
