-- What a line says by the rules is what the cluster takes, and a used number is one that was subscribed.
use Rattle.std.proofs.Common.{◌≡◌, inl, inr, ℕ, Bool, true, false, cond, ◌==◌, ◌&&◌, ◌||◌, List, [], ◌∷◌, refl, sym, ◌∙◌, ap, subst, Option, Some, None, true≢false}
use Rattle.std.specs.declared.result.Result.TheVariants.{Ok, Err}
use Rattle.nc_types.specs.declared.start.Start.{Start}
use Rattle.nc_types.specs.declared.start.Start.TheVariants.{Oldest, Newest, Given}
use Rattle.nc_script.specs.declared.line.Line.{Line as Said}
use Rattle.nc_script.specs.declared.line.Line.TheVariants as said
use Rattle.nc_script.specs.declared.fault.LineFault.{LineFault}
use Rattle.nc_script.specs.declared.fault.LineFault.TheVariants.{Rule, NoMemory}
use Rattle.nc_script.specs.Judge.{Judge, Judged}
use Rattle.nc_script.specs.Line.{line}
use Rattle.nc_script.specs.Script.{IsPoll, HasNumberAt, Keeps, FitsNames}
use Rattle.nc_spool.specs.Arrive.{FitsList}
use Rattle.nc_world.specs.Lines.{Line}
use Rattle.nc_cluster.specs.PureLine.{pure_line, CanMake}
use Rattle.nc_cluster.specs.Comers.{broken_rule}
use Rattle.nc_replay.specs.Lines.{is_used, IsNew, line_after}

-- ---- what a line keeps

fits-list : (names : List (List ℕ)) (start : Start) → FitsNames names start → FitsList names start
fits-list names Oldest fits = tt
fits-list names Newest fits = tt
fits-list names (Given cursor) fits = fits

pub can-make : (workers : ℕ) (l : Said) → Keeps workers l → CanMake workers l
can-make workers said.Blank keeps = tt
can-make workers (said.Clock w t) keeps = keeps
can-make workers (said.Reap w) keeps = keeps
can-make workers (said.Post w c body) keeps = keeps
can-make workers (said.Poll w k names start) keeps =
    (keeps.0, fits-list names start keeps.1.fits, record { distinct = keeps.1.distinct; named = keeps.1.some })
can-make workers (said.Carry w to) keeps = keeps
can-make workers (said.Take w from) keeps = keeps
can-make workers (said.Settle n) keeps = tt
can-make workers (said.Remove w c) keeps = keeps
can-make workers (said.Inform w c) keeps = keeps

-- ---- used numbers

-- those that some test tells
abbrev AreUsed : (ℕ → ℕ → Bool) → List Line → Type 0
AreUsed was lines = (w k : ℕ) → was w k ≡ is_used w k lines

none-broken : (b : Bool) → cond {A = Option ℕ} b (Some 10) None ≡ None → b ≡ false
none-broken true is = absurd (cc)
none-broken false is = refl

some-broken : (b : Bool) (rule : ℕ) → cond {A = Option ℕ} b (Some 10) None ≡ Some rule → (b ≡ true) × (rule ≡ 10)
some-broken true rule is = (refl, cc)
some-broken false rule is = absurd (cc)

pub is-new : (was : ℕ → ℕ → Bool) (lines : List Line) (l : Said) → AreUsed was lines → broken_rule was (pure_line l) ≡ None → IsNew lines l
is-new was lines said.Blank are none = tt
is-new was lines (said.Clock w t) are none = tt
is-new was lines (said.Reap w) are none = tt
is-new was lines (said.Post w c body) are none = tt
is-new was lines (said.Poll w k names start) are none = sym (are w k) ∙ none-broken (was w k) none
is-new was lines (said.Carry w to) are none = tt
is-new was lines (said.Take w from) are none = tt
is-new was lines (said.Settle n) are none = tt
is-new was lines (said.Remove w c) are none = tt
is-new was lines (said.Inform w c) are none = tt

no-rule : (rule : ℕ) → None ≡ Some rule → ⊥
no-rule rule is = absurd (cc)

-- a line that breaks it is a poll of a used number
pub record IsOld (workers : ℕ) (text : List ℕ) (lines : List Line) (l : Said) (rule : ℕ) : Type 0 where
  pub ten : rule ≡ 10
  pub old : IsNew lines l → ⊥

pub is-old : (was : ℕ → ℕ → Bool) (workers : ℕ) (text : List ℕ) (lines : List Line) (l : Said) (rule : ℕ) → AreUsed was lines → broken_rule was (pure_line l) ≡ Some rule → IsOld workers text lines l rule
is-old was workers text lines said.Blank rule are some = absurd (no-rule rule some)
is-old was workers text lines (said.Clock w t) rule are some = absurd (no-rule rule some)
is-old was workers text lines (said.Reap w) rule are some = absurd (no-rule rule some)
is-old was workers text lines (said.Post w c body) rule are some = absurd (no-rule rule some)
is-old was workers text lines (said.Poll w k names start) rule are some =
    let broken = some-broken (was w k) rule some in
    record { ten = broken.1; old = λ new. true≢false (sym broken.0 ∙ are w k ∙ new) }
is-old was workers text lines (said.Carry w to) rule are some = absurd (no-rule rule some)
is-old was workers text lines (said.Take w from) rule are some = absurd (no-rule rule some)
is-old was workers text lines (said.Settle n) rule are some = absurd (no-rule rule some)
is-old was workers text lines (said.Remove w c) rule are some = absurd (no-rule rule some)
is-old was workers text lines (said.Inform w c) rule are some = absurd (no-rule rule some)

-- it is read as a poll, and the rule is the tenth
pub is-poll : (was : ℕ → ℕ → Bool) (workers : ℕ) (text : List ℕ) (l : Said) (rule : ℕ) → (line workers text).Says l → broken_rule was (pure_line l) ≡ Some rule → IsPoll text × (rule ≡ 10)
is-poll was workers text said.Blank rule says some = absurd (no-rule rule some)
is-poll was workers text (said.Clock w t) rule says some = absurd (no-rule rule some)
is-poll was workers text (said.Reap w) rule says some = absurd (no-rule rule some)
is-poll was workers text (said.Post w c body) rule says some = absurd (no-rule rule some)
is-poll was workers text (said.Poll w k names start) rule says some = (record { workers = workers; w = w; k = k; names = names; start = start; says = says }, (some-broken (was w k) rule some).1)
is-poll was workers text (said.Carry w to) rule says some = absurd (no-rule rule some)
is-poll was workers text (said.Take w from) rule says some = absurd (no-rule rule some)
is-poll was workers text (said.Settle n) rule says some = absurd (no-rule rule some)
is-poll was workers text (said.Remove w c) rule says some = absurd (no-rule rule some)
is-poll was workers text (said.Inform w c) rule says some = absurd (no-rule rule some)

-- ---- faults

-- a fault that names no rule is want of memory, and one that names a rule breaks it
pub by-rule : {X : Type 0} (judge : Judge X) (fault : LineFault) → ((rule at : ℕ) → fault ≡ Rule rule at → judge.Breaks rule at) → Judged judge (Err fault)
by-rule judge (Rule rule at) breaks = breaks rule at refl
by-rule judge NoMemory breaks = tt

pub breaks-rule : {X : Type 0} (judge : Judge X) (fault : LineFault) (rule at : ℕ) → fault ≡ Rule rule at → Judged judge (Err fault) → judge.Breaks rule at
breaks-rule judge fault rule at is judged = rw is at judged

-- a line that the rules on lines refuse is refused
pub not-read : (workers : ℕ) (lines : List Line) (text : List ℕ) (fault : LineFault) → Judged (line workers text) (Err fault) → Judged (line_after workers lines text) (Err fault)
not-read workers lines text fault judged = by-rule (line_after workers lines text) fault (λ rule at is. inl (breaks-rule (line workers text) fault rule at is judged))

-- and one that breaks the tenth
pub not-new : (was : ℕ → ℕ → Bool) (workers : ℕ) (lines : List Line) (text : List ℕ) (l : Said) (rule at : ℕ) → AreUsed was lines → (line workers text).Says l → broken_rule was (pure_line l) ≡ Some rule → HasNumberAt text at → (line_after workers lines text).Breaks rule at
not-new was workers lines text l rule at are says some place =
    let old = is-old was workers text lines l rule are some in
    inr (l, says, (old.ten, old.old, place))
