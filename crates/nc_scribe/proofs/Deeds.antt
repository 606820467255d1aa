-- Deeds are told, some behind others.
use Rattle.std.proofs.Common.{◌≡◌, ℕ, List, [], ◌∷◌, ◌++◌, refl, sym, ◌∙◌, ap}
use Rattle.std.specs.List.{AllByRecursion}
use Rattle.std.proofs.lemmas.List.{map-append}
use Rattle.nc_journal.specs.declared.event.Event.{Event}
use Rattle.nc_journal.specs.declared.event.Event.TheVariants.{Made}
use Rattle.nc_journal.specs.declared.word.EndedCause.{EndedCause}
use Rattle.nc_spool.specs.declared.fact.Fact.{Fact}
use Rattle.nc_spool.specs.declared.fact.Fact.TheVariants as facts
use Rattle.nc_owner_laws.specs.Weave.{numbered}
use Rattle.nc_worker_state.specs.Deed.{Deed, Does, Makes, told, next_after}
use Rattle.nc_worker_state.specs.Spooled.{fact_deed, facts_deeds}
use Rattle.nc_scribe.specs.Kinds.{IsAside}
use Rattle.nc_outbox.specs.Outboxes.{next_of}
use Rattle.nc_scribe.specs.Scribe.{ScribeAt, TellsMore}
use Rattle.nc_scribe.proofs.Story.{next_after-aside, tells_on, tells_same, tells_next}

-- deeds make what they make as alerts, and not as events
abbrev pub IsAsideDeed : Deed → Type 0
IsAsideDeed (Does e) = IsAside e
IsAsideDeed (Makes to a) = Unit {0}

abbrev pub AreAsideDeeds : List Deed → Type 0
AreAsideDeeds ds = AllByRecursion IsAsideDeed ds

pub told-append : (me : ℕ) (ds es : List Deed) (next : ℕ → ℕ) → AreAsideDeeds ds → told me next (ds ++ es) ≡ told me next ds ++ told me (next_after next (told me next ds)) es
told-append me [] es next aside = refl
told-append me (Does e ∷ ds) es next aside =
    ap (λ l. e ∷ l) (told-append me ds es next aside.1 ∙ ap (λ f. told me next ds ++ told me f es) (sym (next_after-aside e (told me next ds) next aside.0)))
told-append me (Makes to a ∷ ds) es next aside = ap (λ l. Made me to (next to) a ∷ l) (told-append me ds es (numbered next to) aside.1)

pub facts_aside : (me : ℕ) (cause : EndedCause) (fs : List Fact) → AreAsideDeeds (facts_deeds me cause fs)
facts_aside me cause [] = tt
facts_aside me cause (facts.Out o ∷ fs) = (tt, facts_aside me cause fs)
facts_aside me cause (facts.Started k cursor ∷ fs) = (refl, facts_aside me cause fs)
facts_aside me cause (facts.Sent s ∷ fs) = (refl, facts_aside me cause fs)
facts_aside me cause (facts.Ended k deleted ∷ fs) = (refl, facts_aside me cause fs)

-- a fact more
pub facts_told : (me : ℕ) (cause : EndedCause) (fs : List Fact) (f : Fact) (next : ℕ → ℕ)
    → told me next (facts_deeds me cause (fs ++ f ∷ [])) ≡ told me next (facts_deeds me cause fs) ++ told me (next_after next (told me next (facts_deeds me cause fs))) (fact_deed me cause f ∷ [])
facts_told me cause fs f next =
    ap (told me next) (map-append (fact_deed me cause) fs (f ∷ [])) ∙ told-append me (facts_deeds me cause fs) (fact_deed me cause f ∷ []) next (facts_aside me cause fs)

-- some facts were told, and one more
pub facts_more : {H : Type 0} → (cause : EndedCause) (fs : List Fact) (f : Fact) (a b c : ScribeAt H) → TellsMore a b (told a.me (next_of a.outboxes) (facts_deeds a.me cause fs)) → TellsMore b c (told b.me (next_of b.outboxes) (fact_deed b.me cause f ∷ []))
    → TellsMore a c (told a.me (next_of a.outboxes) (facts_deeds a.me cause (fs ++ f ∷ [])))
facts_more cause fs f a b c p q =
    tells_same (ap (λ (l : List Event). told a.me (next_of a.outboxes) (facts_deeds a.me cause fs) ++ l) (λ i. told (p.me i) (tells_next p i) (fact_deed (p.me i) cause f ∷ [])) ∙ sym (facts_told a.me cause fs f (next_of a.outboxes))) (tells_on p q)
