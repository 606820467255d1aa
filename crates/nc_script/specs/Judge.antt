-- How a text is judged by rules, one after the other.
use Rattle.std.specs.Prelude.{◌≡◌, ◌⊎◌, ℕ, Bool, true, false, Option, Some, None}
use Rattle.std.specs.declared.result.Result.{Result}
use Rattle.std.specs.declared.result.Result.TheVariants.{Ok, Err}
use Rattle.nc_script.specs.declared.fault.LineFault.{LineFault}
use Rattle.nc_script.specs.declared.fault.LineFault.TheVariants.{Rule, NoMemory}

-- what a text says, and which rule it breaks where
pub record Judge (X : Type 0) : Type 1 where
  pub Says : X → Type 0
  pub Breaks : ℕ → ℕ → Type 0

-- it says this, whatever stands there
abbrev pub says : {X : Type 0} → X → Judge X
says x = record { Says = λ y. y ≡ x; Breaks = λ rule at. ⊥ }

-- it says what has a property, and breaks a rule at a place where nothing has
abbrev pub must : {X : Type 0} → ℕ → ℕ → (X → Type 0) → Judge X
must {X} rule at P = record { Says = P; Breaks = λ r p. (r ≡ rule) × (p ≡ at) × ((x : X) → P x → ⊥) }

-- where the first judgement passes, the second one counts, which knows what the first one said
abbrev pub next : {X Y : Type 0} → Judge X → (X → Judge Y) → Judge Y
next {X} first second = record {
  Says = λ y. (x : X) × first.Says x × (second x).Says y;
  Breaks = λ rule at. first.Breaks rule at ⊎ ((x : X) × first.Says x × (second x).Breaks rule at);
}

-- one judgement or another, by a test
abbrev pub chosen : {X : Type 0} → Bool → Judge X → Judge X → Judge X
chosen true first second = first
chosen false first second = second

-- a search comes to something that has a property, or nothing has it
abbrev pub Finds : {X : Type 0} → (X → Type 0) → Option X → Type 0
Finds P (Some x) = P x
Finds {X} P None = (x : X) → P x → ⊥

-- a result is what a judgement comes to, but for want of memory
abbrev pub Judged : {X : Type 0} → Judge X → Result X LineFault → Type 0
Judged judge (Ok x) = judge.Says x
Judged judge (Err (Rule rule at)) = judge.Breaks rule at
Judged judge (Err NoMemory) = Unit {0}

-- one text says one thing, or breaks one rule at one place
pub record IsSure {X : Type 0} (judge : Judge X) : Type 0 where
  pub one : (x y : X) → judge.Says x → judge.Says y → x ≡ y
  pub either : (x : X) (rule at : ℕ) → judge.Says x → judge.Breaks rule at → ⊥
  pub first : (rule at other place : ℕ) → judge.Breaks rule at → judge.Breaks other place → (rule ≡ other) × (at ≡ place)
