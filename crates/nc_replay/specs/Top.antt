-- What the top call leaves, for each of its answers.
use Rattle.std.specs.Prelude.{◌≡◌, ◌⊎◌, ℕ, ◌+◌, ◌<◌, List, [], ◌∷◌, ◌++◌, codes, length, Option, IfSome}
use Rattle.std.specs.Fmt.{decimal}
use Rattle.nc_types.specs.Config.{ConfigAt}
use Rattle.nc_outside.specs.Pieces.{GivesAll, GivesMore}
use Rattle.nc_cli.specs.Words.{IsLoad, IsCommand}
use Rattle.nc_conf.specs.Reading.{HasConfig}
use Rattle.nc_journal.specs.declared.event.Event.{Event}
use Rattle.nc_journal.specs.Text.{text_of}
use Rattle.nc_worker_state.specs.Setup.{setup_of}
use Rattle.nc_replay.specs.declared.fault.Fault.{Fault}
use Rattle.nc_replay.specs.declared.fault.Misconfigured.{Misconfigured as ConfigFault}
use Rattle.nc_replay.specs.declared.command.End.{End}
use Rattle.nc_replay.specs.declared.command.End.TheVariants.{Passed, Refused, Misconfigured, WornOut}
use Rattle.nc_replay.specs.declared.command.Task.{Task}
use Rattle.nc_replay.specs.declared.command.Task.TheVariants.{Replay, Check, Load, Usage}
use Rattle.nc_replay.specs.declared.check.Verdict.{Verdict}
use Rattle.nc_replay.specs.declared.check.Verdict.TheVariants.{Accepted, Rejected}
use Rattle.nc_replay.specs.Script.{IsConfigured, IsFaulty, IsMisconfigured}
use Rattle.nc_replay.specs.Lines.{line_after}
use Rattle.nc_replay.specs.Run.{Made, Worn}
use Rattle.nc_replay.specs.Input.{longest_input, ReadsAll, Adds, AddsPrefix}

-- the words are the command `replay`, or `check`
abbrev pub IsReplay : List (List ℕ) → Type 0
IsReplay words = words ≡ codes "replay" ∷ []

abbrev pub IsCheck : List (List ℕ) → Type 0
IsCheck words = words ≡ codes "check" ∷ []

-- the words are a command that reads the input
abbrev pub IsRun : List (List ℕ) → Type 0
IsRun words = IsReplay words ⊎ IsCheck words

-- what the top call does for some words; it writes the usage where they are no command
abbrev pub IsTask : List (List ℕ) → Task → Type 0
IsTask words Replay = IsReplay words
IsTask words Check = IsCheck words
IsTask words (Load seed size) = IsLoad words seed size
IsTask words Usage = IsCommand words → ⊥

-- all lines of a script are made, as its configuration sets, and this is their history
pub record Passes (first : ℕ) (script : List ℕ) (h : List Event) : Type 0 where
  pub before : List (List ℕ)
  pub texts : List (List ℕ)
  pub config : ConfigAt
  pub configured : IsConfigured script before texts config
  pub made : Made (setup_of config first) texts h

-- the first lines of a script are made, and this is their history
pub record Begins (first : ℕ) (script : List ℕ) (h : List Event) : Type 0 where
  pub before : List (List ℕ)
  pub texts : List (List ℕ)
  pub rest : List (List ℕ)
  pub config : ConfigAt
  pub configured : IsConfigured script before (texts ++ rest) config
  pub made : Made (setup_of config first) texts h

-- the first lines are made with this history, and the next one breaks a rule: the lines are counted from 1
-- over the whole script, and the rule is the lowest that it breaks, at its place in the line
pub record Fails (first : ℕ) (script : List ℕ) (h : List Event) (fault : Fault) : Type 0 where
  pub before : List (List ℕ)
  pub texts : List (List ℕ)
  pub bad : List ℕ
  pub rest : List (List ℕ)
  pub config : ConfigAt
  pub configured : IsConfigured script before (texts ++ bad ∷ rest) config
  pub made : Made (setup_of config first) texts h
  pub breaks : (line_after config.workers made.lines bad).Breaks fault.rule fault.at
  pub counted : fault.line ≡ length before + length texts + 2

-- the first lines are made, and the next one would call on a worn worker
pub record Wears (first : ℕ) (script : List ℕ) (h : List Event) : Type 0 where
  pub before : List (List ℕ)
  pub texts : List (List ℕ)
  pub text : List ℕ
  pub rest : List (List ℕ)
  pub config : ConfigAt
  pub configured : IsConfigured script before (texts ++ text ∷ rest) config
  pub worn : Worn (setup_of config first) texts text h

abbrev pub fault_text : Fault → List ℕ
fault_text fault = codes "fault line=" ++ decimal fault.line ++ codes " rule=" ++ decimal fault.rule ++ codes " at=" ++ decimal fault.at ++ 10 ∷ []

abbrev pub misconfigured_text : ConfigFault → List ℕ
misconfigured_text fault = codes "config rule=" ++ decimal fault.rule ++ codes " at=" ++ decimal fault.at ++ 10 ∷ []

-- the line that tells of a configuration that is accepted
abbrev pub accepted_text : ConfigAt → List ℕ
accepted_text config = codes "ok workers=" ++ decimal config.workers ++ codes " locations=" ++ decimal (length config.locations) ++ 10 ∷ []

-- every line of a script was made, and the text of their history was written
pub record ReplaysText (first : ℕ) (script old new : List ℕ) : Type 0 where
  pub h : List Event
  pub passes : Passes first script h
  pub written : Adds (text_of h) old new

-- the lines before the first that breaks a rule were made, and the text of their history and that fault were written
pub record RefusesText (first : ℕ) (script old new : List ℕ) : Type 0 where
  pub h : List Event
  pub fault : Fault
  pub fails : Fails first script h fault
  pub written : Adds (text_of h ++ fault_text fault) old new

-- what was made before a worn worker would be called on, and the text of its history was written
pub record WearsText (first : ℕ) (script old new : List ℕ) : Type 0 where
  pub h : List Event
  pub wears : Wears first script h
  pub written : Adds (text_of h) old new

-- the script has a fault before its lines, which was written
pub record MisconfiguredText (script old new : List ℕ) : Type 0 where
  pub fault : ConfigFault
  pub misconfigured : IsMisconfigured script fault.rule fault.at
  pub written : Adds (misconfigured_text fault) old new

-- what a replay leaves by its end
abbrev pub EndsAs : End → ℕ → List ℕ → List ℕ → List ℕ → Type 0
EndsAs Passed first script old new = ReplaysText first script old new
EndsAs Refused first script old new = RefusesText first script old new
EndsAs Misconfigured first script old new = MisconfiguredText script old new
EndsAs WornOut first script old new = WearsText first script old new

-- nothing was made, or the first lines were, or what comes before a worn worker
abbrev pub IsSome : ℕ → List ℕ → List Event → Type 0
IsSome first script h = (h ≡ []) ⊎ (Begins first script h ⊎ Wears first script h)

-- so far lines were made, and a prefix of the text of their history was written
pub record CutsOffText (first : ℕ) (script old new : List ℕ) : Type 0 where
  pub h : List Event
  pub some : IsSome first script h
  pub written : AddsPrefix (text_of h) old new

-- the same where a line breaks a rule, and that fault stands behind that text
pub record CutsOffFault (first : ℕ) (script old new : List ℕ) : Type 0 where
  pub h : List Event
  pub fault : Fault
  pub fails : Fails first script h fault
  pub written : AddsPrefix (text_of h ++ fault_text fault) old new

-- a prefix of the fault before a script's lines was written
pub record CutsOffMisconfigured (script old new : List ℕ) : Type 0 where
  pub fault : ConfigFault
  pub misconfigured : IsMisconfigured script fault.rule fault.at
  pub written : AddsPrefix (misconfigured_text fault) old new

-- the work was cut off while the lines of a script were made, or while a fault was written
abbrev pub CutsOffSome : ℕ → List ℕ → List ℕ → List ℕ → Type 0
CutsOffSome first script old new = CutsOffText first script old new ⊎ (CutsOffFault first script old new ⊎ CutsOffMisconfigured script old new)

-- some text, which is the whole input, is in this relation with what was written
pub record OfInput (P : List ℕ → List ℕ → List ℕ → Type 0) (left rest : Option (List ℕ)) (before behind : List (List ℕ))
    (old new : List ℕ) : Type 0 where
  pub script : List ℕ
  pub read : ReadsAll script left rest before behind
  pub written : P script old new

-- status 0, 3, 9, 8, 5 and 6 of a replay whose numbers begin with a first one, by what the source tells that it has left, what its reads gave, and what was written
abbrev pub Replays : ℕ → Option (List ℕ) → Option (List ℕ) → List (List ℕ) → List (List ℕ) → List ℕ → List ℕ → Type 0
Replays first left rest before behind old new = OfInput (ReplaysText first) left rest before behind old new

abbrev pub Refuses : ℕ → Option (List ℕ) → Option (List ℕ) → List (List ℕ) → List (List ℕ) → List ℕ → List ℕ → Type 0
Refuses first left rest before behind old new = OfInput (RefusesText first) left rest before behind old new

abbrev pub WearsOut : ℕ → Option (List ℕ) → Option (List ℕ) → List (List ℕ) → List (List ℕ) → List ℕ → List ℕ → Type 0
WearsOut first left rest before behind old new = OfInput (WearsText first) left rest before behind old new

abbrev pub Misconfigures : Option (List ℕ) → Option (List ℕ) → List (List ℕ) → List (List ℕ) → List ℕ → List ℕ → Type 0
Misconfigures left rest before behind old new = OfInput MisconfiguredText left rest before behind old new

abbrev pub CutsOff : ℕ → Option (List ℕ) → Option (List ℕ) → List (List ℕ) → List (List ℕ) → List ℕ → List ℕ → Type 0
CutsOff first left rest before behind old new = OfInput (CutsOffSome first) left rest before behind old new

-- a configuration is accepted, which was written
pub record AcceptsText (text old new : List ℕ) : Type 0 where
  pub config : ConfigAt
  pub read : HasConfig text config
  pub written : Adds (accepted_text config) old new

-- a configuration has a fault, which was written
pub record RejectsText (text old new : List ℕ) : Type 0 where
  pub fault : ConfigFault
  pub faulty : IsFaulty text fault.rule fault.at
  pub written : Adds (misconfigured_text fault) old new

-- what a check leaves by its verdict
abbrev pub JudgesAs : Verdict → List ℕ → List ℕ → List ℕ → Type 0
JudgesAs Accepted text old new = AcceptsText text old new
JudgesAs Rejected text old new = RejectsText text old new

-- a prefix of the one or the other was written
pub record CutsOffAccepted (text old new : List ℕ) : Type 0 where
  pub config : ConfigAt
  pub read : HasConfig text config
  pub written : AddsPrefix (accepted_text config) old new

pub record CutsOffRejected (text old new : List ℕ) : Type 0 where
  pub fault : ConfigFault
  pub faulty : IsFaulty text fault.rule fault.at
  pub written : AddsPrefix (misconfigured_text fault) old new

abbrev pub CutsOffVerdict : List ℕ → List ℕ → List ℕ → Type 0
CutsOffVerdict text old new = CutsOffAccepted text old new ⊎ CutsOffRejected text old new

-- status 0, 8 and 5 of a check
abbrev pub Accepts : Option (List ℕ) → Option (List ℕ) → List (List ℕ) → List (List ℕ) → List ℕ → List ℕ → Type 0
Accepts left rest before behind old new = OfInput AcceptsText left rest before behind old new

abbrev pub Rejects : Option (List ℕ) → Option (List ℕ) → List (List ℕ) → List (List ℕ) → List ℕ → List ℕ → Type 0
Rejects left rest before behind old new = OfInput RejectsText left rest before behind old new

abbrev pub CutsOffCheck : Option (List ℕ) → Option (List ℕ) → List (List ℕ) → List (List ℕ) → List ℕ → List ℕ → Type 0
CutsOffCheck left rest before behind old new = OfInput CutsOffVerdict left rest before behind old new

-- the work stopped: reading or writing failed, the input is too long, or there was no memory
abbrev pub IsStopped : ℕ → Type 0
IsStopped n = (n ≡ 4) ⊎ ((n ≡ 5) ⊎ ((n ≡ 6) ⊎ (n ≡ 7)))

-- status 3 comes, unless the work stopped, where a line of a script breaks a rule
abbrev pub RefusedBy : ℕ → ℕ → List ℕ → Type 0
RefusedBy first status script = (h : List Event) (fault : Fault) → Fails first script h fault → (status ≡ 3) ⊎ IsStopped status

-- status 9 comes, unless the work stopped, where a line of a script would call on a worn worker
abbrev pub WornBy : ℕ → ℕ → List ℕ → Type 0
WornBy first status script = (h : List Event) → Wears first script h → (status ≡ 9) ⊎ IsStopped status

-- status 0 comes, unless the work stopped, where all lines of a script are made
abbrev pub PassedBy : ℕ → ℕ → List ℕ → Type 0
PassedBy first status script = (h : List Event) → Passes first script h → (status ≡ 0) ⊎ IsStopped status

-- status 8 comes, unless the work stopped, where a script or a configuration is refused
abbrev pub MisconfiguredBy : ℕ → List ℕ → Type 0
MisconfiguredBy status script = (rule at : ℕ) → IsMisconfigured script rule at → (status ≡ 8) ⊎ IsStopped status

abbrev pub RejectedBy : ℕ → List ℕ → Type 0
RejectedBy status text = (rule at : ℕ) → IsFaulty text rule at → (status ≡ 8) ⊎ IsStopped status

-- of this text, where the source tells it; and of the text that the reads gave to its end
abbrev pub OfAllInput : (List ℕ → Type 0) → Option (List ℕ) → List (List ℕ) → List (List ℕ) → Type 0
OfAllInput P left before behind = IfSome left P × ((text : List ℕ) → GivesAll text before behind → P text)

-- reading stopped: the source failed, there was no memory, or the input is too long
abbrev pub IsUnread : ℕ → Type 0
IsUnread n = (n ≡ 4) ⊎ ((n ≡ 6) ⊎ (n ≡ 7))

-- a source that has more left than an input may have isn't read, and one whose reads gave more is refused
abbrev pub MustBeShort : Option (List ℕ) → List (List ℕ) → List (List ℕ) → ℕ → Type 0
MustBeShort left before behind status =
    IfSome left (λ bytes. longest_input < length bytes → IsUnread status)
    × (GivesMore longest_input before behind → (status ≡ 7) ⊎ (status ≡ 6))

-- a status of the top call
abbrev pub IsStatus : ℕ → Type 0
IsStatus n = (n ≡ 0) ⊎ ((n ≡ 2) ⊎ ((n ≡ 3) ⊎ ((n ≡ 4) ⊎ ((n ≡ 5) ⊎ ((n ≡ 6) ⊎ ((n ≡ 7) ⊎ ((n ≡ 8) ⊎ (n ≡ 9))))))))
