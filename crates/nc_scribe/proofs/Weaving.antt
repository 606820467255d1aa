-- A weave goes on, event by event.
use Rattle.std.proofs.Common.{◌≡◌, ℕ, true, false, List, [], ◌∷◌, ◌++◌, refl, sym, ◌∙◌, ap, subst, append_assoc, length, arith}
use Rattle.std.specs.Prelude.{IfSome}
use Rattle.std.proofs.lemmas.List.{append-nil}
use Rattle.nc_journal.specs.declared.event.Event.{Event}
use Rattle.nc_journal.specs.declared.event.Event.TheVariants.{Granted}
use Rattle.nc_alert.specs.declared.packet.Outgoing.{Outgoing}
use Rattle.nc_alert.specs.Packet.{grant_of}
use Rattle.nc_slots.specs.Slots.{HoldAt}
use Rattle.nc_owner.specs.AlertLines.{OutLine, out_lines}
use Rattle.nc_owner_laws.specs.Weave.{weave, makes}
use Rattle.nc_worker_state.specs.Deed.{next_after}
use Rattle.nc_outbox.specs.Outboxes.{next_of, IsGranted}
use Rattle.nc_scribe.specs.Kinds.{is_aside, is_grant}
use Rattle.nc_scribe.specs.Scribe.{ScribeAt, made_event, TellsMore, KeepsOwn, AllGranted}
use Rattle.nc_scribe.specs.Weaving.{first_made, behind_first, TellsNext, TellsPart}
use Rattle.nc_scribe.proofs.Story.{next_after-aside, tells_on, tells_next, tells_none, tells_same}

weave_other : (me : ℕ) (next : ℕ → ℕ) (e : Event) (es : List Event) (alerts : List OutLine) → is_grant e ≡ false → weave me next (e ∷ es) alerts ≡ e ∷ weave me next es alerts
weave_other me next (Granted w g slot to) es alerts other = absurd cc
weave_other me next e es alerts other = refl

pub none_left : {X : Type 0} → (xs : List X) → length xs ≡ 0 → xs ≡ []
none_left [] e = refl
none_left (x ∷ xs) e = absurd (omega arith)

module _ {H : Type 0} where
  weave_grant : (me : ℕ) (next : ℕ → ℕ) (e : Event) (es : List Event) (alerts : List (Outgoing H)) → is_grant e ≡ true
      → weave me next (e ∷ es) (out_lines alerts) ≡ e ∷ (first_made me next alerts ++ weave me (next_after next (first_made me next alerts)) es (out_lines (behind_first alerts)))
  weave_grant me next (Granted w g slot to) es [] is = refl
  weave_grant me next (Granted w g slot to) es (o ∷ alerts) is = refl
  weave_grant me next e es alerts is = absurd cc

  granted_behind : (held : H → HoldAt) (me : ℕ) (alerts : List (Outgoing H)) → AllGranted held me alerts → AllGranted held me (behind_first alerts)
  granted_behind held me [] all = tt
  granted_behind held me (o ∷ alerts) all = all.1

  -- the numbers after an event that makes nothing
  same_next : {s t : ScribeAt H} {e : Event} → is_aside e ≡ true → TellsMore s t (e ∷ []) → next_of t.outboxes ≡ next_of s.outboxes
  same_next {s} {t} {e} aside q = tells_next q ∙ next_after-aside e [] (next_of s.outboxes) aside

  pub part_none : (a : ScribeAt H) (events : List Event) (alerts : List (Outgoing H)) → TellsPart a a events events alerts alerts
  part_none a events alerts = record { part = []; woven = refl; tells = tells_none a; own = λ held all own. own; granted = λ held all. all }

  -- an event was told that grants nothing
  pub part_other : {a s t : ScribeAt H} {events left : List Event} {alerts rest : List (Outgoing H)} {e : Event} → is_aside e ≡ true → is_grant e ≡ false
      → TellsPart a s events (e ∷ left) alerts rest → TellsMore s t (e ∷ []) → ((held : H → HoldAt) → KeepsOwn held s t) → TellsPart a t events left alerts rest
  part_other {a} {s} {t} {events} {left} {alerts} {rest} {e} aside other p q own =
      let same : e ∷ weave t.me (next_of t.outboxes) left (out_lines rest) ≡ e ∷ weave s.me (next_of s.outboxes) left (out_lines rest) = λ i. e ∷ weave (q.me i) (same_next aside q i) left (out_lines rest) in
      record {
        part = p.part ++ e ∷ [];
        woven = append_assoc p.part (e ∷ []) _ ∙ (ap (λ (l : List Event). p.part ++ l) (same ∙ sym (weave_other s.me (next_of s.outboxes) e left (out_lines rest) other)) ∙ p.woven);
        tells = tells_on p.tells q;
        own = λ held all first. own held (p.own held all first);
        granted = λ held all. subst (λ (m : ℕ). AllGranted held m rest) (sym q.me) (p.granted held all);
      }

  -- an event was told that grants a hold, and the next alert was made
  pub part_grant : {a s t u : ScribeAt H} {events left : List Event} {alerts rest later : List (Outgoing H)} {e : Event} → is_aside e ≡ true → is_grant e ≡ true
      → TellsPart a s events (e ∷ left) alerts rest → TellsMore s t (e ∷ []) → ((held : H → HoldAt) → KeepsOwn held s t) → TellsNext t u rest later → TellsPart a u events left alerts later
  part_grant {a} {s} {t} {u} {events} {left} {alerts} {rest} {later} {e} aside is p q own r =
      let next = next_of s.outboxes in
      let first = first_made t.me (next_of t.outboxes) rest in
      let same : e ∷ (first ++ weave u.me (next_of u.outboxes) left (out_lines later)) ≡ e ∷ (first_made s.me next rest ++ weave s.me (next_after next (first_made s.me next rest)) left (out_lines (behind_first rest)))
      = ap (λ (l : List Event). e ∷ (first ++ l)) (λ i. weave (r.tells.me i) (tells_next r.tells i) left (out_lines (r.left i)))
      ∙ (λ i. e ∷ (first_made (q.me i) (same_next aside q i) rest ++ weave (q.me i) (next_after (same_next aside q i) (first_made (q.me i) (same_next aside q i) rest)) left (out_lines (behind_first rest)))) in
      record {
        part = (p.part ++ e ∷ []) ++ first;
        woven = append_assoc (p.part ++ e ∷ []) first _ ∙ (append_assoc p.part (e ∷ []) _ ∙ (ap (λ (l : List Event). p.part ++ l) (same ∙ sym (weave_grant s.me next e left rest is)) ∙ p.woven));
        tells = tells_on (tells_on p.tells q) r.tells;
        own = λ held all own_first. r.own held (subst (λ (m : ℕ). AllGranted held m rest) (sym q.me) (p.granted held all)) (own held (p.own held all own_first));
        granted = λ held all. subst (λ (l : List (Outgoing H)). AllGranted held u.me l) (sym r.left) (subst (λ (m : ℕ). AllGranted held m (behind_first rest)) (sym (r.tells.me ∙ q.me)) (granted_behind held s.me rest (p.granted held all)));
      }

  -- of the other alerts one more was made
  pub part_made : {a s t : ScribeAt H} {alerts rest : List (Outgoing H)} {o : Outgoing H} → TellsPart a s [] [] alerts (o ∷ rest) → TellsMore s t (made_event s.me (next_of s.outboxes) o ∷ [])
      → ((held : H → HoldAt) → IfSome (grant_of o.alert) (IsGranted held s.me) → KeepsOwn held s t) → TellsPart a t [] [] alerts rest
  part_made {a} {s} {t} {alerts} {rest} {o} p q own =
      let first = made_event s.me (next_of s.outboxes) o in
      record {
        part = p.part ++ first ∷ [];
        woven = append_assoc p.part (first ∷ []) _ ∙ (ap (λ (l : List Event). p.part ++ first ∷ l) (λ i. makes (q.me i) (tells_next q i) (out_lines rest)) ∙ p.woven);
        tells = tells_on p.tells q;
        own = λ held all before. own held (p.granted held all).0 (p.own held all before);
        granted = λ held all. subst (λ (m : ℕ). AllGranted held m rest) (sym q.me) (p.granted held all).1;
      }

  pub parts_made : {a s : ScribeAt H} {alerts rest : List (Outgoing H)} → rest ≡ [] → TellsPart a s [] [] alerts rest → TellsMore a s (makes a.me (next_of a.outboxes) (out_lines alerts))
  parts_made {a} {s} {alerts} {rest} none p = tells_same (sym (append-nil p.part) ∙ (ap (λ (l : List (Outgoing H)). p.part ++ makes s.me (next_of s.outboxes) (out_lines l)) (sym none) ∙ p.woven)) p.tells

  -- all events were told, and the other alerts were made
  pub woven_whole : {a b c : ScribeAt H} {events : List Event} {alerts rest : List (Outgoing H)} → TellsPart a b events [] alerts rest → TellsMore b c (makes b.me (next_of b.outboxes) (out_lines rest))
      → TellsMore a c (weave a.me (next_of a.outboxes) events (out_lines alerts))
  woven_whole p q = tells_same p.woven (tells_on p.tells q)
