-- The first of some faults: by place, then by rule.
use Rattle.std.specs.Prelude.{◌≡◌, Bool, false, fold, if◌then◌else◌, List, [], ◌∷◌, ◌==◌, ◌&&◌, ◌||◌, nat_lt, ◌⊎◌, Option, Some, None}
use Rattle.std.specs.List.{AllByRecursion}
use Rattle.nc_conf.specs.declared.fault.Fault.{Fault}

abbrev pub is_before : Fault → Fault → Bool
is_before f g = nat_lt f.at g.at || ((f.at == g.at) && nat_lt f.rule g.rule)

abbrev pub IsIn : List Fault → Fault → Type 0
IsIn [] f = ⊥
IsIn (g ∷ gs) f = (g ≡ f) ⊎ IsIn gs f

-- a fault that is not before another
abbrev pub IsNotBefore : Fault → Fault → Type 0
IsNotBefore f g = is_before g f ≡ false

-- none where there is none, else one of them that none is before
abbrev pub IsFirstFault : List Fault → Option Fault → Type 0
IsFirstFault faults None = faults ≡ []
IsFirstFault faults (Some f) = IsIn faults f × AllByRecursion (IsNotBefore f) faults

-- the first of a fault and one more
abbrev pub before : Fault → Fault → Fault
before f g = if is_before g f then g else f

abbrev pub earlier : Option Fault → Fault → Option Fault
earlier None g = Some g
earlier (Some f) g = Some (before f g)

-- the first of a fault, if there is one, and a list
abbrev pub first_with : Option Fault → List Fault → Option Fault
first_with first faults = fold earlier first faults
