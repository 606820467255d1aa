-- Who comes with a line, and the rule that a line breaks by who came before.
use Rattle.std.specs.Prelude.{ℕ, Bool, List, if◌then◌else◌, Option, None, Some}
use Rattle.nc_journal.specs.History.{own}
use Rattle.nc_journal.specs.Standing.{is_subscribed}
use Rattle.nc_journal.specs.declared.event.Event.{Event}
use Rattle.nc_owner.specs.declared.member.Member.{Member}
use Rattle.nc_owner.specs.Members.{has_member, with_member}
use Rattle.nc_world.specs.Lines.{Line, Poll}
use Rattle.nc_settle.specs.declared.rounds.Settled.{Settled}
use Rattle.nc_settle.specs.declared.rounds.Settled.TheVariants.{Whole, Worn}

-- the subscriber that comes with a line, if one does
abbrev pub comer : Line → Option Member
comer (Poll w k list start) = Some (record { from = w; k = k })
comer line = None

-- the subscribers so far, with one who comes, with who comes with a line, and with who comes with one that was wholly made
abbrev pub with_comer : Option Member → List Member → List Member
with_comer None ms = ms
with_comer (Some m) ms = with_member m ms

abbrev pub with_line : Line → List Member → List Member
with_line line ms = with_comer (comer line) ms

abbrev pub with_made : Settled → Line → List Member → List Member
with_made Whole line ms = with_line line ms
with_made (Worn m) line ms = ms

-- whether a worker had a subscriber of a number: by the subscribers so far, and by a history
abbrev pub noted : List Member → ℕ → ℕ → Bool
noted ms w k = has_member (record { from = w; k = k }) ms

abbrev pub subscribed : List Event → ℕ → ℕ → Bool
subscribed h w k = is_subscribed k (own w h)

-- rule 10 of a script: no worker has two subscribers of one number
abbrev pub rule_of : (ℕ → ℕ → Bool) → Option Member → Option ℕ
rule_of was None = None
rule_of was (Some m) = if was m.from m.k then Some 10 else None

-- the rule that a line breaks by who was subscribed before it
abbrev pub broken_rule : (ℕ → ℕ → Bool) → Line → Option ℕ
broken_rule was line = rule_of was (comer line)
