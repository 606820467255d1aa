-- Each decision is sound.
use Rattle.std.proofs.Common.{◌≢◌, ℕ, Bool, true, false, List, [], ◌∷◌, length, Option, Some, None, refl, sym, subst, inl, inr, arith, negsuc}
use Rattle.std.proofs.lemmas.List.{length-replicate}
use Rattle.std.specs.Prelude.{cond}
use Rattle.nc_types.specs.Config.{ConfigAt}
use Rattle.nc_types.specs.Settings.{SettingsAt}
use Rattle.nc_types.specs.declared.config.Location.{Location}
use Rattle.nc_types.specs.declared.request.Request.{Request}
use Rattle.nc_types.specs.declared.request.Allow.TheVariants as allows
use Rattle.nc_types.specs.declared.start.Start.{Start}
use Rattle.nc_types.specs.declared.start.Start.TheVariants as starts
use Rattle.nc_route.specs.declared.decision.Decision.{Decision}
use Rattle.nc_route.specs.declared.reason.Reason.{Reason}
use Rattle.nc_route.specs.declared.reason.Reason.TheVariants as reasons
use Rattle.nc_route.specs.declared.kind.Kind.{Kind}
use Rattle.nc_route.specs.declared.kind.Kind.TheVariants as kinds
use Rattle.nc_route.specs.Begin.{Given, IsGivenStart, given, asks_socket}
use Rattle.nc_route.specs.Begin.Given.{Nothing, Date, DateAndTags, Id}
use Rattle.nc_route.specs.Rules.{Decides, DecidesBy, Breaks, refusal, all_rules, IsAction, IsActionOf, IsSubscription, kind_of, names_of}
use Rattle.nc_route.specs.Laws.{IsStartOf, IsSound}

is_configured : (b : Bool) (n : ℕ) → IsStartOf n (cond b starts.Newest starts.Oldest)
is_configured true n = tt
is_configured false n = tt

is_of : (settings : SettingsAt) (n : ℕ) (g : Given) (start : Start) → IsGivenStart settings n g start → IsStartOf n start
is_of settings n Nothing start h = subst (IsStartOf n) (sym h) (is_configured settings.newest n)
is_of settings n (Date date) start h = subst (IsStartOf n) (sym h.2) (length-replicate n (negsuc 0))
is_of settings n (DateAndTags date text) start h = subst (IsStartOf n) (sym h.5) h.4
is_of settings n (Id text) start h = subst (IsStartOf n) (sym h.3) h.2

methods : (b : Bool) → cond b allows.Publisher allows.Subscriber ≢ allows.Nothing
methods true e = absurd cc
methods false e = absurd cc

refused : (r : Reason) (o : Option Location) (q : Request) → Breaks r o q → IsSound (refusal r o)
refused reasons.NoSlash o q b = (inl refl, omega arith, omega arith, λ e. absurd (omega (arith, e)))
refused reasons.NoPlace o q b = (inr (inr (inl refl)), omega arith, omega arith, λ e. absurd (omega (arith, e)))
refused reasons.LongBody o q b = (inr (inr (inr (inr refl))), omega arith, omega arith, λ e. absurd (omega (arith, e)))
refused reasons.OtherMethod None q b = absurd b
refused reasons.OtherMethod (Some l) q b = (inr (inr (inr (inl refl))), omega arith, omega arith, λ e. methods l.publisher)
refused reasons.EmptyId o q b = (inl refl, omega arith, omega arith, λ e. absurd (omega (arith, e)))
refused reasons.LongId o q b = (inr (inl refl), omega arith, omega arith, λ e. absurd (omega (arith, e)))
refused reasons.ManyNames o q b = (inr (inl refl), omega arith, omega arith, λ e. absurd (omega (arith, e)))
refused reasons.SeveralNames o q b = (inl refl, omega arith, omega arith, λ e. absurd (omega (arith, e)))
refused reasons.NoSocket o q b = (inr (inl refl), omega arith, omega arith, λ e. absurd (omega (arith, e)))
refused reasons.BadOpening o q b = (inl refl, omega arith, omega arith, λ e. absurd (omega (arith, e)))
refused reasons.NoLongPoll o q b = (inr (inl refl), omega arith, omega arith, λ e. absurd (omega (arith, e)))
refused reasons.NoDate o q b = (inl refl, omega arith, omega arith, λ e. absurd (omega (arith, e)))
refused reasons.BadTags o q b = (inl refl, omega arith, omega arith, λ e. absurd (omega (arith, e)))
refused reasons.OtherTags o q b = (inl refl, omega arith, omega arith, λ e. absurd (omega (arith, e)))

subscription : (way : Bool) (l : Location) (q : Request) (d : Decision) → IsSubscription way l q d → IsSound d
subscription true l q d h = subst IsSound (sym h.4) (is_of l.settings (length (names_of l q)) (given q) h.0 h.1)
subscription false l q d h = subst IsSound (sym h.2) (is_of l.settings (length (names_of l q)) (given q) h.0 h.1)

action_of : (kind : Option Kind) (l : Location) (q : Request) (d : Decision) → IsActionOf kind l q d → IsSound d
action_of (Some kinds.Publish) l q d h = subst IsSound (sym h.2) tt
action_of (Some kinds.Inform) l q d h = subst IsSound (sym h.2) tt
action_of (Some kinds.Delete) l q d h = subst IsSound (sym h.2) tt
action_of (Some kinds.Subscribe) l q d h = subscription (asks_socket q) l q d h
action_of None l q d h = absurd h

action : (o : Option Location) (q : Request) (d : Decision) → IsAction o q d → IsSound d
action None q d h = absurd h
action (Some l) q d h = action_of (kind_of l q.method) l q d h

sound_by : (rs : List Reason) (o : Option Location) (q : Request) (d : Decision) → DecidesBy rs o q d → IsSound d
sound_by [] o q d h = action o q d h
sound_by (r ∷ rs) o q d (inl h) = subst IsSound (sym h.1) (refused r o q h.0)
sound_by (r ∷ rs) o q d (inr h) = sound_by rs o q d h.1

pub sound : (conf : ConfigAt) (q : Request) (d : Decision) → Decides conf q d → IsSound d
sound conf q d h = sound_by all_rules h.location q d h.decided
