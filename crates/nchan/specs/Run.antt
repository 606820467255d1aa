-- What a run did: what its source gave, the newest piece first, and what its sink took, from the first read and write on.
use Rattle.std.specs.Prelude.{◌≡◌, ℕ, ◌+◌, ◌≤◌, List, [], ◌++◌, length}
use Rattle.nc_types.specs.Config.{ConfigAt}
use Rattle.nc_outside.specs.Pieces.{Gives, GivesAll}
use Rattle.nc_cli.specs.Words.{usage_text}
use Rattle.nc_conf.specs.Reading.{HasConfig}
use Rattle.nc_journal.specs.declared.event.Event.{Event}
use Rattle.nc_journal.specs.Text.{text_of}
use Rattle.nc_replay.specs.declared.fault.Fault.{Fault}
use Rattle.nc_replay.specs.declared.fault.Misconfigured.{Misconfigured as ConfigFault}
use Rattle.nc_replay.specs.Input.{longest_input, AddsPrefix}
use Rattle.nc_replay.specs.Script.{IsFaulty, IsMisconfigured}
use Rattle.nc_replay.specs.Load.{LoadEnds}
use Rattle.nc_replay.specs.Top.{Passes, Fails, Wears, fault_text, misconfigured_text, accepted_text, CutsOffSome, CutsOffVerdict}

-- a script was given to its end; all its lines were made, and the text of their history was taken and nothing else: it is lawful and follows them
pub record Replayed (given : List (List ℕ)) (taken : List ℕ) : Type 0 where
  pub script : List ℕ
  pub all : GivesAll script [] given
  pub h : List Event
  pub passes : Passes 0 script h
  pub written : taken ≡ text_of h

-- nothing was given, and the script of a seed and a size came to what this status says
pub record Loaded (status seed size : ℕ) (given : List (List ℕ)) (taken : List ℕ) : Type 0 where
  pub unread : given ≡ []
  pub ends : LoadEnds status seed size [] taken

-- a script was given to its end, a line of which breaks a rule; the text of the lawful history of those before it was taken,
-- and that fault
pub record Refused (given : List (List ℕ)) (taken : List ℕ) : Type 0 where
  pub script : List ℕ
  pub all : GivesAll script [] given
  pub h : List Event
  pub fault : Fault
  pub fails : Fails 0 script h fault
  pub written : taken ≡ text_of h ++ fault_text fault

-- a script was given to its end, a line of which would call on a worn worker; the text of the lawful history of what was made before that was taken
pub record WornOut (given : List (List ℕ)) (taken : List ℕ) : Type 0 where
  pub script : List ℕ
  pub all : GivesAll script [] given
  pub h : List Event
  pub wears : Wears 0 script h
  pub written : taken ≡ text_of h

-- a script was given to its end whose configuration is refused, and its fault was taken
pub record Misconfigured (given : List (List ℕ)) (taken : List ℕ) : Type 0 where
  pub script : List ℕ
  pub all : GivesAll script [] given
  pub fault : ConfigFault
  pub misconfigured : IsMisconfigured script fault.rule fault.at
  pub written : taken ≡ misconfigured_text fault

-- a configuration was given to its end and accepted, which was taken
pub record Accepted (given : List (List ℕ)) (taken : List ℕ) : Type 0 where
  pub text : List ℕ
  pub all : GivesAll text [] given
  pub config : ConfigAt
  pub read : HasConfig text config
  pub written : taken ≡ accepted_text config

-- a configuration was given to its end and refused, and its fault was taken
pub record Rejected (given : List (List ℕ)) (taken : List ℕ) : Type 0 where
  pub text : List ℕ
  pub all : GivesAll text [] given
  pub fault : ConfigFault
  pub faulty : IsFaulty text fault.rule fault.at
  pub written : taken ≡ misconfigured_text fault

-- no command was run: nothing was given, and the usage was taken
pub record Explained (given : List (List ℕ)) (taken : List ℕ) : Type 0 where
  pub unread : given ≡ []
  pub written : taken ≡ usage_text

-- the source failed behind a text that isn't too long, and nothing was taken
pub record Unread (given : List (List ℕ)) (taken : List ℕ) : Type 0 where
  pub text : List ℕ
  pub so_far : Gives text [] given
  pub few : length text ≤ longest_input
  pub silent : taken ≡ []

-- one byte more than an input may have was given, and nothing was taken
pub record TooLong (given : List (List ℕ)) (taken : List ℕ) : Type 0 where
  pub text : List ℕ
  pub so_far : Gives text [] given
  pub many : length text ≡ longest_input + 1
  pub silent : taken ≡ []

-- a script was given to its end, and a prefix was taken of the text of a lawful history to which its first lines lead,
-- with the fault of the next line behind it or not, or of the fault of its configuration
pub record CutOff (given : List (List ℕ)) (taken : List ℕ) : Type 0 where
  pub script : List ℕ
  pub all : GivesAll script [] given
  pub cut : CutsOffSome 0 script [] taken

-- a configuration was given to its end, and a prefix was taken of what a check says of it
pub record CheckCutOff (given : List (List ℕ)) (taken : List ℕ) : Type 0 where
  pub text : List ℕ
  pub all : GivesAll text [] given
  pub cut : CutsOffVerdict text [] taken

-- nothing was given, and a prefix of the usage was taken
pub record UsageCutOff (given : List (List ℕ)) (taken : List ℕ) : Type 0 where
  pub unread : given ≡ []
  pub cut : AddsPrefix usage_text [] taken

-- a property holds of the text that was given to its end, if one was
abbrev pub OfGiven : (List ℕ → Type 0) → List (List ℕ) → Type 0
OfGiven P given = (text : List ℕ) → GivesAll text [] given → P text
