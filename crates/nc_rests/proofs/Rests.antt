-- What a place rests on stays as the history goes on.
use Rattle.std.proofs.Common.{◌≡◌, inl, inr, ℕ, Bool, true, false, cond, List, [], ◌∷◌, ◌++◌, Option, None, Some, refl, sym, ap, ◌∙◌, subst}
use Rattle.std.specs.Prelude.{◌&&◌, ◌==◌}
use Rattle.std.proofs.lemmas.Bool.{eqb-true, cond_both}
use Rattle.nc_types.specs.Id.{Id}
use Rattle.nc_types.specs.Channel.{owner_of}
use Rattle.nc_journal.specs.History.{own, is_by}
use Rattle.nc_journal.specs.Message.{Message, published}
use Rattle.nc_journal.specs.declared.event.Event.{Event}
use Rattle.nc_journal.specs.declared.alert.AlertLine.{AlertLine}
use Rattle.nc_journal.specs.declared.event.Event.TheVariants.{Took}
use Rattle.nc_journal.specs.declared.word.AlertKind.{AlertKind}
use Rattle.nc_journal.specs.declared.alert.AlertLine.TheVariants as lines
use Rattle.nc_journal.proofs.Buffers.{published-push}
use Rattle.nc_owner_laws.specs.Wake.{Wake, NotYet, Waiting, ByNotice, ByGone, woken, hear, hears}
use Rattle.nc_history.specs.Packets.{is_pair, pending, first_line, received, IsNext}
use Rattle.nc_rests.specs.Came.{HasAnswer, HasNotice, HasNoticeBehind, CameBy}
use Rattle.nc_rests.specs.Keeping.{RestStays, StepRests, FoundStays, NothingStays, is_signal, TakeKeeps}
use Rattle.nc_rests.specs.Rests.{LookAt, BeginsWith, IsFound, AtLook, Behind, Nothing, Found, RestsAt}
use Rattle.nc_rests.proofs.Received.{received_same, received_more}

-- ---- looks

pub look_more : (o w q : ℕ) (c : List ℕ) (after : Id) (floor : ℕ) (found : Option Id) (e : Event) (l : List Event) → LookAt o w q c after floor found l → LookAt o w q c after floor found (e ∷ l)
look_more o w q c after floor found e l k = record { since = e ∷ k.since; number = k.number; seen = k.seen; place = ap (λ (x : List Event). e ∷ x) k.place }

begins_more : (id : Id) (ms more : List Message) → BeginsWith id ms → BeginsWith id (ms ++ more)
begins_more id ms more b = record { first = b.first; others = b.others ++ more; split = ap (λ (x : List Message). x ++ more) b.split; same = b.same }

pub found_more : (o w q : ℕ) (c : List ℕ) (after id : Id) (e : Event) (l : List Event) → IsFound o w q c after id l → IsFound o w q c after id (e ∷ l)
unfolding look_more
found_more o w q c after id e l (AtLook floor k) = AtLook floor (look_more o w q c after floor (Some id) e l k)
found_more o w q c after id e l (Behind floor k b past) =
    Behind floor (look_more o w q c after floor None e l k) (subst (BeginsWith id) (sym (published-push c e k.since)) (begins_more id (published c k.since) (published c (e ∷ [])) b)) past

pub look_own : (o w q : ℕ) (c : List ℕ) (after : Id) (floor : ℕ) (found : Option Id) (e : Event) (h : List Event) → LookAt o w q c after floor found (own o h) → LookAt o w q c after floor found (own o (e ∷ h))
look_own o w q c after floor found e h k = cond_both (is_by o e) (e ∷ own o h) (own o h) (LookAt o w q c after floor found) (λ _. look_more o w q c after floor found e (own o h) k) (λ _. k)

pub found_own : (o w q : ℕ) (c : List ℕ) (after id : Id) (e : Event) (h : List Event) → IsFound o w q c after id (own o h) → IsFound o w q c after id (own o (e ∷ h))
found_own o w q c after id e h k = cond_both (is_by o e) (e ∷ own o h) (own o h) (IsFound o w q c after id) (λ _. found_more o w q c after id e (own o h) k) (λ _. k)

-- ---- what came

-- what came stays
answer_front : (q : ℕ) (found : Option Id) (xs ys : List AlertLine) → HasAnswer q found xs → HasAnswer q found (xs ++ ys)
answer_front q found [] ys has = absurd has
answer_front q found (lines.LookAnswer number p floor x g slot ∷ xs) ys (inl is) = inl is
answer_front q found (lines.LookAnswer number p floor x g slot ∷ xs) ys (inr has) = inr (answer_front q found xs ys has)
answer_front q found (a ∷ xs) ys has = answer_front q found xs ys has

notice_front : (c : List ℕ) (id : Id) (xs ys : List AlertLine) → HasNotice c id xs → HasNotice c id (xs ++ ys)
notice_front c id [] ys has = absurd has
notice_front c id (lines.Notice d m g slot ∷ xs) ys (inl is) = inl is
notice_front c id (lines.Notice d m g slot ∷ xs) ys (inr has) = inr (notice_front c id xs ys has)
notice_front c id (a ∷ xs) ys has = notice_front c id xs ys has

behind_front : (q : ℕ) (c : List ℕ) (id : Id) (xs ys : List AlertLine) → HasNoticeBehind q c id xs → HasNoticeBehind q c id (xs ++ ys)
behind_front q c id [] ys has = absurd has
behind_front q c id (lines.LookAnswer number p floor x g slot ∷ xs) ys (inl is) = inl (is.0, is.1, notice_front c id xs ys is.2)
behind_front q c id (lines.LookAnswer number p floor x g slot ∷ xs) ys (inr has) = inr (behind_front q c id xs ys has)
behind_front q c id (a ∷ xs) ys has = behind_front q c id xs ys has

came_front : (q : ℕ) (c : List ℕ) (id : Id) (xs ys : List AlertLine) → CameBy q c id xs → CameBy q c id (xs ++ ys)
came_front q c id xs ys (inl has) = inl (answer_front q (Some id) xs ys has)
came_front q c id xs ys (inr has) = inr (behind_front q c id xs ys has)

came_more : (o w q : ℕ) (c : List ℕ) (id : Id) (e : Event) (h : List Event) → CameBy q c id (received o w h) → CameBy q c id (received o w (e ∷ h))
came_more o w q c id (Took y x n kind) h k = cond_both (is_pair o w x y) (received o w h ++ first_line (pending o w h)) (received o w h) (CameBy q c id) (λ _. came_front q c id (received o w h) (first_line (pending o w h)) k) (λ _. k)
came_more o w q c id e h k = k

pub found_stays : FoundStays
found_stays workers w c after q id e h k = record { found = found_own (owner_of workers c) w q c after id e h k.found; came = came_more (owner_of workers c) w q c id e h k.came }

pub rest_stays : RestStays
rest_stays workers w c after (Nothing q floor) e h other k = record {
  look = look_own (owner_of workers c) w q c after floor None e h k.look;
  waits = ap (hears c q NotYet) (received_same (owner_of workers c) w e h other) ∙ k.waits;
}
rest_stays workers w c after (Found q id) e h other k = found_stays workers w c after q id e h k

pub step_rests : StepRests
step_rests workers w c after r [] h others k = k
step_rests workers w c after r (e ∷ es) h others k = step_rests workers w c after r es (e ∷ h) others.1 (rest_stays workers w c after r e h others.0 k)

-- ---- an alert more is taken

pub hears_append : (c : List ℕ) (q : ℕ) (s : Wake) (xs ys : List AlertLine) → hears c q s (xs ++ ys) ≡ hears c q (hears c q s xs) ys
hears_append c q s [] ys = refl
hears_append c q s (x ∷ xs) ys = hears_append c q (hear c q s x) xs ys

pub hears_more : (o w n : ℕ) (kind : AlertKind) (a : AlertLine) (h : List Event) (c : List ℕ) (q : ℕ) (s t : Wake) → IsNext o w a h → hears c q s (received o w h) ≡ t → hears c q s (received o w (Took w o n kind ∷ h)) ≡ hear c q t a
hears_more o w n kind a h c q s t next is = ap (hears c q s) (received_more o w n kind a h next) ∙ hears_append c q s (received o w h) (a ∷ []) ∙ ap (λ x. hear c q x a) is

pub nothing_stays : NothingStays
nothing_stays workers w c after q floor n kind a h next quiet k = record {
  look = look_own (owner_of workers c) w q c after floor None (Took w (owner_of workers c) n kind) h k.look;
  waits = hears_more (owner_of workers c) w n kind a h c q NotYet Waiting next k.waits ∙ quiet;
}

hear_quiet : (c : List ℕ) (q : ℕ) (a : AlertLine) → is_signal c a ≡ false → hear c q Waiting a ≡ Waiting
hear_quiet c q (lines.LookAnswer number p floor None g slot) other = by (p == q)
  where
    by : (b : Bool) → cond b Waiting Waiting ≡ Waiting
    by true = refl
    by false = refl
hear_quiet c q (lines.Notice d id g slot) other = ap (λ b. cond b (woken (ByNotice id) Waiting) Waiting) other
hear_quiet c q (lines.Gone d subs) other = ap (λ b. cond b (woken ByGone Waiting) Waiting) other
hear_quiet c q a other = refl

take_case : (workers w : ℕ) (c : List ℕ) (after : Id) (q floor from n : ℕ) (kind : AlertKind) (a : AlertLine) (h : List Event) → IsNext from w a h → (from ≡ owner_of workers c → is_signal c a ≡ false)
    → RestsAt workers w c after (Nothing q floor) h → (b : Bool) → (owner_of workers c == from) ≡ b → RestsAt workers w c after (Nothing q floor) (Took w from n kind ∷ h)
take_case workers w c after q floor from n kind a h next quiet k true is =
    let same : owner_of workers c ≡ from = eqb-true (owner_of workers c) from is in
    subst (λ v. RestsAt workers w c after (Nothing q floor) (Took w v n kind ∷ h)) same
    (nothing_stays workers w c after q floor n kind a h (subst (λ v. IsNext v w a h) (sym same) next) (hear_quiet c q a (quiet (sym same))) k)
take_case workers w c after q floor from n kind a h next quiet k false is = rest_stays workers w c after (Nothing q floor) (Took w from n kind) h (ap (λ b. b && (w == w)) is) k

pub take_keeps : TakeKeeps
take_keeps workers w c after (Nothing q floor) from n kind a h next quiet k = take_case workers w c after q floor from n kind a h next quiet k (owner_of workers c == from) refl
take_keeps workers w c after (Found q id) from n kind a h next quiet k = found_stays workers w c after q id (Took w from n kind) h k
