-- The rules in their own words refuse what they should.
use Rattle.std.proofs.Common.{◌≡◌, inl, inr, ℕ, List, [], ◌∷◌, Option, Some, None, refl, sym, ap, ◌∙◌, arith}
use Rattle.std.proofs.lemmas.Bool.{true≢false}
use Rattle.nc_types.specs.declared.info.FullLine.{FullLine}
use Rattle.nc_owner.specs.Rules.{Answered}
use Rattle.nc_owner_laws.specs.Refused.{RefusesOtherNumbers, RefusesOtherStatus, RefusesNoAnswer, RefusesUnretired, RefusesUnheldAsHeld, RefusesUsedSlot}

pub other_numbers : RefusesOtherNumbers
other_numbers slots usage other differs rule = differs (rule.alone other refl)

abbrev status_in : List Answered → ℕ
status_in [] = 0
status_in (a ∷ rest) = a.status

abbrev usage_in : List Answered → Option FullLine
usage_in [] = None
usage_in (a ∷ rest) = a.usage

no_usage : {X : Type 0} (usage : FullLine) → None ≡ Some usage → X
no_usage usage e = absurd cc

pub other_status : RefusesOtherStatus
other_status status a b c (inl e) = a (ap status_in e)
other_status status a b c (inr (inl e)) = b (ap status_in e)
other_status status a b c (inr (inr (inl e))) = c (ap status_in e)
other_status status a b c (inr (inr (inr e))) = no_usage e.0 (ap usage_in e.1)

pub no_answer : RefusesNoAnswer
no_answer (inl e) = absurd (let z : 0 ≡ 201 = ap status_in e in omega (arith, z))
no_answer (inr (inl e)) = absurd (let z : 0 ≡ 202 = ap status_in e in omega (arith, z))
no_answer (inr (inr (inl e))) = absurd (let z : 0 ≡ 503 = ap status_in e in omega (arith, z))
no_answer (inr (inr (inr e))) = no_usage e.0 (ap usage_in e.1)

pub unretired : RefusesUnretired
unretired retired w slot none rule = true≢false (sym rule.0 ∙ none)

pub unheld_as_held : RefusesUnheldAsHeld
unheld_as_held row slot none rule = absurd (let some = rule.0 refl in omega (arith, some, none))

pub used_slot : RefusesUsedSlot
used_slot slots w slot h used rule = used rule.unused
