-- The first notice behind a look that found nothing, and the want of one.
use Rattle.std.proofs.Common.{◌≡◌, inl, inr, ℕ, ◌+◌, ◌≤◌, cond, List, [], ◌∷◌, ◌++◌, drop, Option, None, Some, refl, sym, ap, ◌∙◌, subst, arith}
use Rattle.std.specs.Prelude.{IfSome}
use Rattle.std.proofs.lemmas.List.{append-nil}
use Rattle.nc_types.specs.Id.{Id, IsPast}
use Rattle.nc_types.specs.Channel.{owner_of}
use Rattle.nc_journal.specs.History.{own}
use Rattle.nc_journal.specs.Message.{published, buffer}
use Rattle.nc_journal.specs.declared.event.Event.{Event}
use Rattle.nc_journal.specs.declared.event.Event.TheVariants.{Looked, Took}
use Rattle.nc_journal.specs.declared.alert.AlertLine.{AlertLine}
use Rattle.nc_journal.specs.declared.alert.AlertLine.TheVariants as lines
use Rattle.nc_owner_laws.specs.AnsweredOnce.{answer_numbers}
use Rattle.nc_owner_laws.specs.Behind.{NothingIsPast, WokenByFirst}
use Rattle.nc_owner_laws.specs.Drawn.{look_numbers}
use Rattle.nc_owner_laws.specs.OwnerStanding.{look_past}
use Rattle.nc_owner_laws.specs.Used.{times}
use Rattle.nc_owner_laws.specs.Wake.{NotYet, Waiting, ByNotice, wake, hear, hears, made_to, IsOnlyAt}
use Rattle.nc_history.specs.Packets.{pending, lines_of, received, IsNext}
use Rattle.nc_rests.specs.Came.{HasAnswer, HasNotice, HasNoticeBehind, CameBy}
use Rattle.nc_rests.specs.Rests.{LookAt, IsFound, Behind}
use Rattle.nc_rests.specs.Telling.{OwnerTells, NoticeFinds, NothingLacks}
use Rattle.nc_rests.proofs.Heard.{answers_append, stays_woken, some_answer, none_answered}
use Rattle.nc_rests.proofs.Looked.{look_once, name_self, look_known, past_once}
use Rattle.nc_rests.proofs.Received.{received_more, made_is, next_split}
use Rattle.nc_rests.proofs.Rests.{found_own, hears_append}

-- the first notice of the channel behind the answer names what woke the look
notice_wakes : (o w : ℕ) (c : List ℕ) (q : ℕ) (id : Id) (g slot : ℕ) (h : List Event) → OwnerTells o (own o h) → IsNext o w (lines.Notice c id g slot) h → IsOnlyAt c q (own o h) → hears c q NotYet (received o w h) ≡ Waiting → wake w c q (own o h) ≡ ByNotice id
notice_wakes o w c q id g slot h tells next only waits =
    let made = made_to w (own o h) in
    let got = received o w h in
    let rest = lines_of (drop 1 (pending o w h)) in
    let split : made ≡ got ++ lines.Notice c id g slot ∷ rest = made_is o w h ∙ ap (λ l. got ++ l) (next_split (pending o w h) (lines.Notice c id g slot) next) in
    let all : times q (answer_numbers made) ≡ times q (answer_numbers got) + times q (answer_numbers rest) = ap (λ l. times q (answer_numbers l)) split ∙ answers_append q got (lines.Notice c id g slot ∷ rest) in
    let none : times q (answer_numbers rest) ≡ 0 = omega (arith, all, tells.answered_once w q, some_answer c q got waits) in
    sym (tells.heard w c q only)
    ∙ ap (hears c q NotYet) split
    ∙ hears_append c q NotYet got (lines.Notice c id g slot ∷ rest)
    ∙ ap (λ s. hears c q (hear c q s (lines.Notice c id g slot)) rest) waits
    ∙ ap (λ b. hears c q (cond b (ByNotice id) Waiting) rest) (name_self c)
    ∙ stays_woken c q id rest none

found_behind : (o w q : ℕ) (c : List ℕ) (after : Id) (floor : ℕ) (id : Id) (l : List Event) → OwnerTells o l → LookAt o w q c after floor None l → WokenByFirst o w c q id l → IsPast id after → IsFound o w q c after id l
found_behind o w q c after floor id l tells k by past =
    let x = Looked o q w k.number c after floor None in
    let y = Looked o q w by.look.number c by.look.after by.look.floor None in
    let same : k.since ≡ by.look.since = look_once q k.since by.look.since x y k.seen by.look.seen refl refl (sym k.place ∙ by.look.place) (subst (λ (z : List Event). times q (look_numbers z) ≤ 1) k.place (tells.once q)) in
    Behind floor k (record { first = by.first.first; others = by.first.others; split = ap (published c) same ∙ by.first.split; same = by.first.same }) past

notice_end : (c : List ℕ) (id : Id) (g slot : ℕ) (xs : List AlertLine) → HasNotice c id (xs ++ lines.Notice c id g slot ∷ [])
notice_end c id g slot [] = inl (refl, refl)
notice_end c id g slot (lines.Notice d m y z ∷ xs) = inr (notice_end c id g slot xs)
notice_end c id g slot (a ∷ xs) = notice_end c id g slot xs

notice_last : (q : ℕ) (c : List ℕ) (id : Id) (g slot : ℕ) (xs : List AlertLine) → HasAnswer q None xs → HasNoticeBehind q c id (xs ++ lines.Notice c id g slot ∷ [])
notice_last q c id g slot [] has = absurd has
notice_last q c id g slot (lines.LookAnswer number p floor x y z ∷ xs) (inl is) = inl (is.0, is.1, notice_end c id g slot xs)
notice_last q c id g slot (lines.LookAnswer number p floor x y z ∷ xs) (inr has) = inr (notice_last q c id g slot xs has)
notice_last q c id g slot (a ∷ xs) has = notice_last q c id g slot xs has

pub notice_finds : NoticeFinds
notice_finds workers w c after q floor id g slot n kind h tells next past k =
    let o = owner_of workers c in
    let known : wake w c q (own o h) ≡ NotYet → ⊥ = λ e. look_known w c q k.look.since o k.look.number after floor k.look.seen (ap (wake w c q) (sym k.look.place) ∙ e) in
    let woke = notice_wakes o w c q id g slot h tells next (tells.only w c q known) k.waits in
    record {
      found = found_own o w q c after id (Took w o n kind) h (found_behind o w q c after floor id (own o h) tells k.look (tells.first w c q id woke) past);
      came = subst (CameBy q c id) (sym (received_more o w n kind (lines.Notice c id g slot) h next)) (inr (notice_last q c id g slot (received o w h) (none_answered c q (received o w h) k.waits)));
    }

-- ---- all was taken

pub nothing_lacks : NothingLacks
nothing_lacks workers w c after q floor h tells all k =
    let o = owner_of workers c in
    let l = own o h in
    let known : wake w c q l ≡ NotYet → ⊥ = λ e. look_known w c q k.look.since o k.look.number after floor k.look.seen (ap (wake w c q) (sym k.look.place) ∙ e) in
    let waits : wake w c q l ≡ Waiting = sym (tells.heard w c q (tells.only w c q known)) ∙ ap (hears c q NotYet) (made_is o w h ∙ ap (λ ps. received o w h ++ lines_of ps) all ∙ append-nil (received o w h)) ∙ k.waits in
    let past : look_past w c q l ≡ Some after = ap (look_past w c q) k.look.place ∙ past_once w c q k.look.since o k.look.number after floor k.look.seen (subst (λ (z : List Event). times q (look_numbers z) ≤ 1) k.look.place (tells.once q)) in
    subst (λ (x : Option Id). IfSome x (λ a. NothingIsPast a (buffer c l))) past (tells.past w c q waits)
