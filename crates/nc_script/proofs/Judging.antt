-- Results are judged part by part.
use Rattle.std.proofs.Common.{◌≡◌, ℕ, Option, Some, None, refl}
use Rattle.std.specs.Option.{ok_or}
use Rattle.std.specs.declared.result.Result.TheVariants.{Err}
use Rattle.nc_script.specs.declared.fault.LineFault.{LineFault}
use Rattle.nc_script.specs.declared.fault.LineFault.TheVariants.{Rule, NoMemory}
use Rattle.nc_script.specs.Judge.{Judge, Judged, Finds, must}

-- what was searched for, or the rule that is broken where nothing was found
pub found_or : {X : Type 0} (rule at : ℕ) (P : X → Type 0) (found : Option X) → Finds P found → Judged (must rule at P) (ok_or found (Rule rule at))
found_or rule at P None none = (refl, refl, none)
found_or rule at P (Some x) is = is

-- a fault is what a judgement comes to where it breaks each rule that the fault names
pub by_rule : {X : Type 0} (judge : Judge X) (fault : LineFault) → ((rule at : ℕ) → fault ≡ Rule rule at → judge.Breaks rule at) → Judged judge (Err fault)
by_rule judge (Rule rule at) breaks = breaks rule at refl
by_rule judge NoMemory breaks = tt

-- and so it breaks that rule
pub broken : {X : Type 0} (judge : Judge X) (fault : LineFault) (rule at : ℕ) → fault ≡ Rule rule at → Judged judge (Err fault) → judge.Breaks rule at
broken judge fault rule at is judged = rw is at judged
