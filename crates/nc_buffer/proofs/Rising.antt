-- The ids of a buffer rise before and after each call.
use Rattle.std.proofs.Common.{ℕ, zero, suc, Bool, List, [], ◌∷◌, ◌++◌}
use Rattle.std.specs.List.{AllByRecursion}
use Rattle.std.proofs.lemmas.Bool.{cond_both}
use Rattle.nc_types.specs.Id.{Id, IsPast}
use Rattle.nc_buffer.specs.declared.entry.Entry.{Entry}
use Rattle.nc_buffer.specs.Buffer.{IsPastAll, IsRising, without_first, with_grant}

all_push : (P : Entry → Type 0) (es : List Entry) (e : Entry) → AllByRecursion P es → P e → AllByRecursion P (es ++ e ∷ [])
all_push P [] e all new = (new, tt)
all_push P (x ∷ es) e all new = (all.0, all_push P es e all.1 new)

pub rising-push : (es : List Entry) (e : Entry) → IsRising es → IsPastAll e.id es → IsRising (es ++ e ∷ [])
rising-push [] e rises past = (tt, tt)
rising-push (x ∷ es) e rises past = (all_push (λ later. IsPast later.id x.id) es e rises.0 past.0, rising-push es e rises.1 past.1)

-- what each entry has, each of those left has
pub all-without : (P : Entry → Type 0) (test : Entry → Bool) (es : List Entry) → AllByRecursion P es → AllByRecursion P (without_first test es)
all-without P test [] all = tt
all-without P test (e ∷ es) all = cond_both (test e) _ _ (AllByRecursion P) (λ _. all.1) (λ _. (all.0, all-without P test es all.1))

pub rising-without : (test : Entry → Bool) (es : List Entry) → IsRising es → IsRising (without_first test es)
rising-without test [] rises = tt
rising-without test (e ∷ es) rises =
    cond_both (test e) _ _ IsRising (λ _. rises.1) (λ _. (all-without (λ later. IsPast later.id e.id) test es rises.0, rising-without test es rises.1))

-- a grant changes no id
all_ids : (P : Id → Type 0) (place : ℕ) (es : List Entry) → AllByRecursion (λ e. P e.id) es → AllByRecursion (λ e. P e.id) (with_grant place es)
all_ids P place [] all = tt
all_ids P zero (e ∷ es) all = all
all_ids P (suc place) (e ∷ es) all = (all.0, all_ids P place es all.1)

pub rising-grant : (place : ℕ) (es : List Entry) → IsRising es → IsRising (with_grant place es)
rising-grant place [] rises = tt
rising-grant zero (e ∷ es) rises = rises
rising-grant (suc place) (e ∷ es) rises = (all_ids (λ id. IsPast id e.id) place es rises.0, rising-grant place es rises.1)
