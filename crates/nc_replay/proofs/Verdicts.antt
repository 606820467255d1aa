-- What a check leaves of a configuration.
use Rattle.std.proofs.Common.{◌≡◌, inr, ℕ, List, subst, Option, Err}
use Rattle.nc_conf.specs.declared.read.ConfFault.{ConfFault}
use Rattle.nc_conf.specs.declared.read.ConfFault.TheVariants.{Rule}
use Rattle.nc_conf.specs.Reading.{IsRead}
use Rattle.nc_replay.specs.declared.fault.Misconfigured.{Misconfigured as ConfigFault}
use Rattle.nc_replay.specs.Script.{IsFaulty}
use Rattle.nc_replay.specs.Input.{ReadsAll, Adds, AddsPrefix}
use Rattle.nc_replay.specs.Top.{misconfigured_text, RejectsText, CutsOffVerdict, CutsOffCheck}

pub faulty_by : (text : List ℕ) (found : ConfFault) (rule at : ℕ) → found ≡ Rule rule at → IsRead text (Err found) → IsFaulty text rule at
faulty_by text found rule at is read = subst (λ (f : ConfFault). IsRead text (Err f)) is read

pub rejected : (text : List ℕ) (old new : List ℕ) (fault : ConfigFault) → IsFaulty text fault.rule fault.at → Adds (misconfigured_text fault) old new → RejectsText text old new
rejected text old new fault faulty written = record { fault = fault; faulty = faulty; written = written }

pub rejected-cut : (text : List ℕ) (old new : List ℕ) (fault : ConfigFault) → IsFaulty text fault.rule fault.at → AddsPrefix (misconfigured_text fault) old new → CutsOffVerdict text old new
rejected-cut text old new fault faulty written = inr (record { fault = fault; faulty = faulty; written = written })

pub cut-off : (text same : List ℕ) (left rest : Option (List ℕ)) (before behind : List (List ℕ)) (old new : List ℕ) → ReadsAll text left rest before behind → same ≡ text → CutsOffVerdict same old new → CutsOffCheck left rest before behind old new
cut-off text same left rest before behind old new read is cut = record {
  script = text;
  read = read;
  written = subst (λ (t : List ℕ). CutsOffVerdict t old new) is cut;
}
