-- What the status has to be for the text of the input, and that the words are one command.
use Rattle.std.proofs.Common.{◌≡◌, ◌⊎◌, inl, inr, ℕ, ◌<◌, ◌≤◌, List, length, refl, sym, subst, ap, arith, Option, Some, None}
use Rattle.std.specs.Prelude.{IfSome}
use Rattle.nc_replay.specs.declared.command.Task.{Task}
use Rattle.nc_replay.specs.declared.command.Task.TheVariants.{Replay, Check, Load, Usage}
use Rattle.nc_cli.specs.Words.{IsCommand, IsLoad}
use Rattle.nc_cli.specs.declared.Command.{Command}
use Rattle.nc_cli.specs.declared.Command.TheVariants as commands
use Rattle.nc_cli.proofs.Loads.{one-command}
use Rattle.nc_conf.specs.Answer.{NeverBoth}
use Rattle.nc_outside.specs.Pieces.{GivesMore}
use Rattle.nc_outside.proofs.Pieces.{gives_once, gives_all_once, never_goes_on}
use Rattle.nc_replay.specs.Script.{IsMisconfigured, IsFaulty}
use Rattle.nc_load.specs.Script.{script}
use Rattle.nc_replay.specs.Load.{LoadEnds}
use Rattle.nc_replay.specs.Sure.{IsNeverBoth, NeverFails, NeverWears, FailsOrWears}
use Rattle.nc_replay.specs.Input.{longest_input, ReadsAll, ReadsUpTo, ReadsSome}
use Rattle.nc_replay.specs.Top.{IsReplay, IsCheck, IsRun, IsTask, IsStatus, IsStopped, IsUnread, Passes, Fails, Wears, RefusedBy, WornBy, PassedBy, MisconfiguredBy, RejectedBy, OfAllInput, MustBeShort, Replays, Refuses, WearsOut, Misconfigures, Accepts}

-- by the status, what is to hold or the work stopped
by_status : (n : ℕ) (P : Type 0) → IsStatus n → (n ≡ 0 → P ⊎ IsStopped n) → (n ≡ 2 → ⊥) → (n ≡ 3 → P ⊎ IsStopped n) → (n ≡ 8 → P ⊎ IsStopped n) → (n ≡ 9 → P ⊎ IsStopped n) → P ⊎ IsStopped n
by_status n P (inl zero) passed usage refused other worn = passed zero
by_status n P (inr (inl two)) passed usage refused other worn = absurd (usage two)
by_status n P (inr (inr (inl three))) passed usage refused other worn = refused three
by_status n P (inr (inr (inr (inl four)))) passed usage refused other worn = inr (inl four)
by_status n P (inr (inr (inr (inr (inl five))))) passed usage refused other worn = inr (inr (inl five))
by_status n P (inr (inr (inr (inr (inr (inl six)))))) passed usage refused other worn = inr (inr (inr (inl six)))
by_status n P (inr (inr (inr (inr (inr (inr (inl seven))))))) passed usage refused other worn = inr (inr (inr (inr seven)))
by_status n P (inr (inr (inr (inr (inr (inr (inr (inl eight)))))))) passed usage refused other worn = other eight
by_status n P (inr (inr (inr (inr (inr (inr (inr (inr nine)))))))) passed usage refused other worn = worn nine

-- a text is all that the input can be
abbrev IsInput : List ℕ → Option (List ℕ) → Option (List ℕ) → List (List ℕ) → List (List ℕ) → Type 0
IsInput text left rest before behind = (s : List ℕ) → ReadsAll s left rest before behind → s ≡ text

-- a property of each text that the input can be holds of the input, told or given
of_all : (P : List ℕ → Type 0) (left rest : Option (List ℕ)) (before behind : List (List ℕ)) → ((text : List ℕ) → IsInput text left rest before behind → P text) → OfAllInput P left before behind
of_all P None rest before behind each = (tt, λ text gives. each text (λ s reads. gives_all_once s text before behind reads.given gives))
of_all P (Some bytes) rest before behind each = (each bytes (λ s reads. reads.whole.0), λ text gives. each text (λ s reads. gives_all_once s text before behind reads.given gives))

-- what the statuses of a replay say
pub record OfReplay (first n : ℕ) (left rest : Option (List ℕ)) (before behind : List (List ℕ)) (old new : List ℕ) : Type 0 where
  pub status : IsStatus n
  pub passed : n ≡ 0 → Replays first left rest before behind old new
  pub command : n ≡ 2 → ⊥
  pub refused : n ≡ 3 → Refuses first left rest before behind old new
  pub misconfigured : n ≡ 8 → Misconfigures left rest before behind old new
  pub worn : n ≡ 9 → WearsOut first left rest before behind old new

-- no script ends in two ways
pub record EndsOnce : Type 0 where
  pub both : IsNeverBoth
  pub fails : NeverFails
  pub wears : NeverWears
  pub either : FailsOrWears

module _ (once : EndsOnce) (first n : ℕ) (left rest : Option (List ℕ)) (before behind : List (List ℕ)) (old new : List ℕ) (says : OfReplay first n left rest before behind old new) where
  -- what holds of the input's text holds of the one that was read
  of-read : (text : List ℕ) (P : List ℕ → Type 0) → IsInput text left rest before behind → P text → (s : List ℕ) → ReadsAll s left rest before behind → P s
  of-read text P same holds s reads = subst P (sym (same s reads)) holds

  misconfigured-of : (text : List ℕ) → IsInput text left rest before behind → MisconfiguredBy n text
  misconfigured-of text same rule at bad =
      by_status n (n ≡ 8) says.status
      (λ zero.
      let run = says.passed zero in
      let passes = run.written.passes in
      absurd (once.both run.script passes.before passes.texts passes.config rule at passes.configured (of-read text (λ (s : List ℕ). IsMisconfigured s rule at) same bad run.script run.read)))
      says.command
      (λ three.
      let run = says.refused three in
      let fails = run.written.fails in
      absurd (once.both run.script fails.before _ fails.config rule at fails.configured (of-read text (λ (s : List ℕ). IsMisconfigured s rule at) same bad run.script run.read)))
      (λ eight. inl eight)
      (λ nine.
      let run = says.worn nine in
      let wears = run.written.wears in
      absurd (once.both run.script wears.before _ wears.config rule at wears.configured (of-read text (λ (s : List ℕ). IsMisconfigured s rule at) same bad run.script run.read)))

  pub misconfigured-always : OfAllInput (MisconfiguredBy n) left before behind
  misconfigured-always = of_all (MisconfiguredBy n) left rest before behind misconfigured-of

  refused-of : (text : List ℕ) → IsInput text left rest before behind → RefusedBy first n text
  refused-of text same h fault bad =
      by_status n (n ≡ 3) says.status
      (λ zero.
      let run = says.passed zero in
      absurd (once.fails first first run.script run.written.h h fault run.written.passes (of-read text (λ (s : List ℕ). Fails first s h fault) same bad run.script run.read)))
      says.command
      (λ three. inl three)
      (λ eight.
      let run = says.misconfigured eight in
      let fails = of-read text (λ (s : List ℕ). Fails first s h fault) same bad run.script run.read in
      absurd (once.both run.script fails.before _ fails.config run.written.fault.rule run.written.fault.at fails.configured run.written.misconfigured))
      (λ nine.
      let run = says.worn nine in
      absurd (once.either first run.script h run.written.h fault (of-read text (λ (s : List ℕ). Fails first s h fault) same bad run.script run.read) run.written.wears))

  pub refused-always : OfAllInput (RefusedBy first n) left before behind
  refused-always = of_all (RefusedBy first n) left rest before behind refused-of

  worn-of : (text : List ℕ) → IsInput text left rest before behind → WornBy first n text
  worn-of text same h bad =
      by_status n (n ≡ 9) says.status
      (λ zero.
      let run = says.passed zero in
      absurd (once.wears first run.script run.written.h h run.written.passes (of-read text (λ (s : List ℕ). Wears first s h) same bad run.script run.read)))
      says.command
      (λ three.
      let run = says.refused three in
      absurd (once.either first run.script run.written.h h run.written.fault run.written.fails (of-read text (λ (s : List ℕ). Wears first s h) same bad run.script run.read)))
      (λ eight.
      let run = says.misconfigured eight in
      let wears = of-read text (λ (s : List ℕ). Wears first s h) same bad run.script run.read in
      absurd (once.both run.script wears.before _ wears.config run.written.fault.rule run.written.fault.at wears.configured run.written.misconfigured))
      (λ nine. inl nine)

  pub worn-always : OfAllInput (WornBy first n) left before behind
  worn-always = of_all (WornBy first n) left rest before behind worn-of

  passed-of : (text : List ℕ) → IsInput text left rest before behind → PassedBy first n text
  passed-of text same h passes =
      by_status n (n ≡ 0) says.status
      (λ zero. inl zero)
      says.command
      (λ three.
      let run = says.refused three in
      absurd (once.fails first first run.script h run.written.h run.written.fault (of-read text (λ (s : List ℕ). Passes first s h) same passes run.script run.read) run.written.fails))
      (λ eight.
      let run = says.misconfigured eight in
      let goes = of-read text (λ (s : List ℕ). Passes first s h) same passes run.script run.read in
      absurd (once.both run.script goes.before _ goes.config run.written.fault.rule run.written.fault.at goes.configured run.written.misconfigured))
      (λ nine.
      let run = says.worn nine in
      absurd (once.wears first run.script h run.written.h (of-read text (λ (s : List ℕ). Passes first s h) same passes run.script run.read) run.written.wears))

  pub passed-always : OfAllInput (PassedBy first n) left before behind
  passed-always = of_all (PassedBy first n) left rest before behind passed-of

rejected-of : NeverBoth → (n : ℕ) (left rest : Option (List ℕ)) (before behind : List (List ℕ)) (old new : List ℕ) → IsStatus n → (n ≡ 0 → Accepts left rest before behind old new) → (n ≡ 2 → ⊥) → (n ≡ 3 → ⊥) → (n ≡ 9 → ⊥)
    → (text : List ℕ) → IsInput text left rest before behind → RejectedBy n text
rejected-of both n left rest before behind old new status accepted usage refused worn text same rule at bad =
    by_status n (n ≡ 8) status
    (λ zero.
    let run = accepted zero in
    absurd (both run.script run.written.config (record { at = at; rule = rule }) run.written.read (subst (λ (s : List ℕ). IsFaulty s rule at) (sym (same run.script run.read)) bad)))
    usage
    (λ three. absurd (refused three))
    (λ eight. inl eight)
    (λ nine. absurd (worn nine))

pub rejected-always : NeverBoth → (n : ℕ) (left rest : Option (List ℕ)) (before behind : List (List ℕ)) (old new : List ℕ) → IsStatus n → (n ≡ 0 → Accepts left rest before behind old new) → (n ≡ 2 → ⊥) → (n ≡ 3 → ⊥) → (n ≡ 9 → ⊥) → OfAllInput (RejectedBy n) left before behind
rejected-always both n left rest before behind old new status accepted usage refused worn =
    of_all (RejectedBy n) left rest before behind (rejected-of both n left rest before behind old new status accepted usage refused worn)

-- where all lines of a load's script are made, it is counted, or the work stopped
pub load-always : EndsOnce → (n seed size : ℕ) (old new : List ℕ) → IsStatus n → LoadEnds n seed size old new → PassedBy 0 n (script seed size)
load-always once n seed size old new status ends h passes =
    by_status n (n ≡ 0) status
    (λ zero. inl zero)
    ends.command
    (λ three. let bad = ends.refused three in absurd (once.fails 0 0 (script seed size) h bad.0 bad.1 passes bad.2))
    (λ eight. let bad = ends.misconfigured eight in absurd (once.both (script seed size) passes.before _ passes.config bad.0.rule bad.0.at passes.configured bad.1))
    (λ nine. let bad = ends.worn nine in absurd (once.wears 0 (script seed size) h bad.0 passes bad.1))

-- a whole input isn't too long
told-short : (n : ℕ) (left rest : Option (List ℕ)) (before behind : List (List ℕ)) → IsUnread n ⊎ ReadsSome left rest before behind → IfSome left (λ bytes. longest_input < length bytes → IsUnread n)
told-short n None rest before behind whole = tt
told-short n (Some bytes) rest before behind (inl unread) = λ long. unread
told-short n (Some bytes) rest before behind (inr some) = λ long. absurd (omega (arith, long, some.reads.few, ap (λ (l : List ℕ). length l) some.reads.whole.0))

not-more : (left rest : Option (List ℕ)) (before behind : List (List ℕ)) → ReadsUpTo longest_input left rest before behind → GivesMore longest_input before behind → ⊥
not-more left rest before behind h more = absurd (omega (arith, h.few, more.more, ap (λ (l : List ℕ). length l) (gives_once h.text more.bytes before behind h.reads.given more.gives)))

pub must-be-short : (n : ℕ) (left rest : Option (List ℕ)) (before behind : List (List ℕ)) → IsUnread n ⊎ ReadsSome left rest before behind → (n ≡ 4 → ReadsUpTo longest_input left rest before behind) → MustBeShort left before behind n
must-be-short n left rest before behind whole unread = (told-short n left rest before behind whole, given whole)
  where
    given : IsUnread n ⊎ ReadsSome left rest before behind → GivesMore longest_input before behind → (n ≡ 7) ⊎ (n ≡ 6)
    given (inl (inl four)) more = absurd (not-more left rest before behind (unread four) more)
    given (inl (inr (inl six))) more = inr six
    given (inl (inr (inr seven))) more = inl seven
    given (inr some) more = absurd (never_goes_on some.text more.bytes before behind some.reads.given more.gives)

-- the words are one command
replay-not-check : (words : List (List ℕ)) → IsReplay words → IsCheck words → ⊥
replay-not-check words replay check = absurd (cc)

replay-no-load : (words : List (List ℕ)) (seed size : ℕ) → IsLoad words seed size → IsReplay words → ⊥
replay-no-load words seed size is replay = let three = is.three in absurd (cc)

check-no-load : (words : List (List ℕ)) (seed size : ℕ) → IsLoad words seed size → IsCheck words → ⊥
check-no-load words seed size is check = let three = is.three in absurd (cc)

pub is_replay : (words : List (List ℕ)) (command : Task) → IsTask words command → IsReplay words → command ≡ Replay
is_replay words Replay read is = refl
is_replay words Check read is = absurd (replay-not-check words is read)
is_replay words (Load seed size) read is = absurd (replay-no-load words seed size read is)
is_replay words Usage read is = absurd (read (inl is))

pub is_check : (words : List (List ℕ)) (command : Task) → IsTask words command → IsCheck words → command ≡ Check
is_check words Replay read is = absurd (replay-not-check words read is)
is_check words Check read is = refl
is_check words (Load seed size) read is = absurd (check-no-load words seed size read is)
is_check words Usage read is = absurd (read (inr (inl is)))

pub is_run : (words : List (List ℕ)) (command : Task) → IsTask words command → IsRun words → (command ≡ Replay) ⊎ (command ≡ Check)
is_run words command read (inl is) = inl (is_replay words command read is)
is_run words command read (inr is) = inr (is_check words command read is)

-- where they don't read the input, they are a load or no command
pub untouched_by : (words : List (List ℕ)) (command : Task) (P : Type 0) → IsTask words command → (command ≡ Usage → P) → ((seed size : ℕ) → command ≡ Load seed size → P) → (IsRun words → ⊥) → P
untouched_by words Replay P read usage load none = absurd (none (inl read))
untouched_by words Check P read usage load none = absurd (none (inr read))
untouched_by words (Load seed size) P read usage load none = load seed size refl
untouched_by words Usage P read usage load none = usage refl

pub is_usage : (words : List (List ℕ)) (command : Task) → IsTask words command → (IsCommand words → ⊥) → command ≡ Usage
is_usage words Replay read none = absurd (none (inl read))
is_usage words Check read none = absurd (none (inr (inl read)))
is_usage words (Load seed size) read none = absurd (none (inr (inr (seed, size, read))))
is_usage words Usage read none = refl

-- the words of a load are read as it
abbrev as_task : Command → Task
as_task commands.Replay = Replay
as_task commands.Check = Check
as_task (commands.Load seed size) = Load seed size
as_task commands.Usage = Usage

pub is_load : (words : List (List ℕ)) (command : Task) (seed size : ℕ) → IsTask words command → IsLoad words seed size → command ≡ Load seed size
is_load words Replay seed size read is = absurd (replay-no-load words seed size is read)
is_load words Check seed size read is = absurd (check-no-load words seed size is read)
is_load words (Load a b) seed size read is = ap as_task (one-command words (commands.Load a b) (commands.Load seed size) read is)
is_load words Usage seed size read is = absurd (read (inr (inr (seed, size, is))))

-- a load has one seed and one size
abbrev seed_of : Task → ℕ
seed_of (Load seed size) = seed
seed_of command = 0

abbrev size_of : Task → ℕ
size_of (Load seed size) = size
size_of command = 0

pub same-load : (n s z seed size : ℕ) (old new : List ℕ) → Load s z ≡ Load seed size → LoadEnds n s z old new → LoadEnds n seed size old new
same-load n s z seed size old new is ends = subst (λ (k : ℕ). LoadEnds n k size old new) (ap seed_of is) (subst (λ (k : ℕ). LoadEnds n s k old new) (ap size_of is) ends)

pub few_load : (words : List (List ℕ)) (command : Task) → IsTask words command → (seed size : ℕ) → command ≡ Load seed size → size ≤ 65535
few_load words command read seed size is = (subst (λ (k : Task). IsTask words k) is read).few

pub as_usage : (words : List (List ℕ)) (command : Task) → IsTask words command → command ≡ Usage → IsCommand words → ⊥
as_usage words command read is = subst (λ (k : Task). IsTask words k) is read
