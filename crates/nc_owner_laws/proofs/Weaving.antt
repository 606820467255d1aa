-- How the events and the alerts of a step are woven.
use Rattle.std.proofs.Common.{◌≡◌, ℕ, List, [], ◌∷◌, ◌++◌, refl, ap, ◌∙◌}
use Rattle.std.specs.List.{AllByRecursion}
use Rattle.nc_journal.specs.declared.event.Event.{Event}
use Rattle.nc_journal.specs.declared.event.Event.TheVariants.{Granted}
use Rattle.nc_owner.specs.AlertLines.{OutLine}
use Rattle.nc_owner_laws.specs.Weave.{weave}

-- no hold is granted there
abbrev pub GrantsNot : Event → Type 0
GrantsNot (Granted v g slot to) = ⊥
GrantsNot _ = Unit {0}

one_first : (w : ℕ) (next : ℕ → ℕ) (e : Event) (es : List Event) (alerts : List OutLine) → GrantsNot e → weave w next (e ∷ es) alerts ≡ e ∷ weave w next es alerts
one_first w next (Granted v g slot to) es alerts n = absurd n
one_first w next e es alerts n = refl

-- events before the first grant come first
pub weave_first : (w : ℕ) (next : ℕ → ℕ) (xs es : List Event) (alerts : List OutLine) → AllByRecursion GrantsNot xs → weave w next (xs ++ es) alerts ≡ xs ++ weave w next es alerts
weave_first w next [] es alerts n = refl
weave_first w next (x ∷ xs) es alerts n = one_first w next x (xs ++ es) alerts n.0 ∙ ap (λ (l : List Event). x ∷ l) (weave_first w next xs es alerts n.1)

-- where no alert is made the events stand alone
pub weave_nothing : (w : ℕ) (next : ℕ → ℕ) (es : List Event) → weave w next es [] ≡ es
weave_nothing w next [] = refl
weave_nothing w next (Granted v g slot to ∷ es) = ap (λ (l : List Event). Granted v g slot to ∷ l) (weave_nothing w next es)
weave_nothing w next (e ∷ es) = ap (λ (l : List Event). e ∷ l) (weave_nothing w next es)
