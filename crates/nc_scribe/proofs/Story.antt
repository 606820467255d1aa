-- What is told goes on, some events behind others.
use Rattle.std.proofs.Common.{◌≡◌, ℕ, Bool, true, false, cond, List, [], ◌∷◌, ◌++◌, refl, sym, ◌∙◌, ap, append_assoc}
use Rattle.std.specs.Prelude.{◌==◌}
use Rattle.std.proofs.lemmas.List.{append-nil}
use Rattle.nc_journal.specs.declared.event.Event.{Event}
use Rattle.nc_journal.specs.declared.event.Event.TheVariants.{Made}
use Rattle.nc_history.specs.Packets.{Packet, packet}
use Rattle.nc_owner_laws.specs.Weave.{numbered}
use Rattle.nc_worker_state.specs.Deed.{next_after}
use Rattle.nc_worker_state.specs.Worker.{sent_to}
use Rattle.nc_outbox.specs.Outboxes.{next_of}
use Rattle.nc_scribe.specs.Kinds.{is_aside}
use Rattle.nc_scribe.specs.Story.{Story, went_on}
use Rattle.nc_scribe.specs.Scribe.{ScribeAt, story_of, TellsMore}

pub next_after-append : (es fs : List Event) (next : ℕ → ℕ) → next_after next (es ++ fs) ≡ next_after (next_after next es) fs
next_after-append [] fs next = refl
next_after-append (Made w to n a ∷ es) fs next = next_after-append es fs (numbered next to)
next_after-append (e ∷ es) fs next = next_after-append es fs next

-- an event that makes nothing draws no number, and no packet waits by it
pub next_after-aside : (e : Event) (es : List Event) (next : ℕ → ℕ) → is_aside e ≡ true → next_after next (e ∷ es) ≡ next_after next es
next_after-aside (Made w to n a) es next aside = absurd cc
next_after-aside e es next aside = refl

pub sent_to-aside : (to : ℕ) (e : Event) (es : List Event) → is_aside e ≡ true → sent_to to (e ∷ es) ≡ sent_to to es
sent_to-aside to (Made w x n a) es aside = absurd cc
sent_to-aside to e es aside = refl

sent_by : (b : Bool) (p : Packet) (xs ys zs : List Packet) → zs ≡ xs ++ ys → cond b (p ∷ zs) zs ≡ cond b (p ∷ xs) xs ++ ys
sent_by true p xs ys zs e = ap (λ l. p ∷ l) e
sent_by false p xs ys zs e = e

pub sent_to-append : (to : ℕ) (es fs : List Event) → sent_to to (es ++ fs) ≡ sent_to to es ++ sent_to to fs
sent_to-append to [] fs = refl
sent_to-append to (Made w x n a ∷ es) fs = sent_by (to == x) (packet n a) (sent_to to es) (sent_to to fs) (sent_to to (es ++ fs)) (sent_to-append to es fs)
sent_to-append to (e ∷ es) fs = sent_to-append to es fs

pub went_on-append : (s : Story) (es fs : List Event) → went_on (went_on s es) fs ≡ went_on s (es ++ fs)
went_on-append s es fs = λ i. record {
  events = append_assoc s.events es fs i;
  next = sym (next_after-append es fs s.next) i;
  outbox = λ to. (append_assoc (s.outbox to) (sent_to to es) (sent_to to fs) ∙ ap (λ (l : List Packet). s.outbox to ++ l) (sym (sent_to-append to es fs))) i;
}

pub went_on-nil : (s : Story) → went_on s [] ≡ s
went_on-nil s = λ i. record { events = append-nil s.events i; next = s.next; outbox = λ to. append-nil (s.outbox to) i }

module _ {H : Type 0} where
  -- what is told behind what was told
  pub tells_on : {a b c : ScribeAt H} {es fs : List Event} → TellsMore a b es → TellsMore b c fs → TellsMore a c (es ++ fs)
  tells_on {a} {b} {c} {es} {fs} p q = record {
    me = q.me ∙ p.me;
    story = q.story ∙ ap (λ (s : Story). went_on s fs) p.story ∙ went_on-append (story_of a) es fs;
  }

  pub tells_none : (a : ScribeAt H) → TellsMore a a []
  tells_none a = record { me = refl; story = sym (went_on-nil (story_of a)) }

  pub tells_same : {a b : ScribeAt H} {es fs : List Event} → es ≡ fs → TellsMore a b es → TellsMore a b fs
  tells_same {a} {b} {es} {fs} same p = record { me = p.me; story = p.story ∙ ap (went_on (story_of a)) same }

  -- the next numbers after it
  pub tells_next : {a b : ScribeAt H} {es : List Event} → TellsMore a b es → next_of b.outboxes ≡ next_after (next_of a.outboxes) es
  tells_next p = ap (λ (s : Story). s.next) p.story
