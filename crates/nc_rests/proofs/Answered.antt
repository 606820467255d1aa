-- The answer to a look that a worker takes next, and how a place rests by it.
use Rattle.std.proofs.Common.{◌≡◌, inl, inr, ℕ, Bool, true, false, cond, List, [], ◌∷◌, ◌++◌, Option, None, Some, refl, sym, ap, ◌∙◌, subst}
use Rattle.std.specs.Prelude.{◌==◌}
use Rattle.std.specs.List.{AllByRecursion}
use Rattle.std.proofs.lemmas.Bool.{eqb-true, cond_both}
use Rattle.nc_types.specs.Id.{Id}
use Rattle.nc_types.specs.Channel.{owner_of}
use Rattle.nc_journal.specs.History.{Along, own, is_by}
use Rattle.nc_journal.specs.declared.event.Event.{Event}
use Rattle.nc_journal.specs.declared.event.Event.TheVariants.{Looked, Edged, Made, Took}
use Rattle.nc_journal.specs.declared.alert.AlertLine.{AlertLine}
use Rattle.nc_journal.specs.declared.alert.AlertLine.TheVariants as lines
use Rattle.nc_journal.proofs.Cuts.{all-weaker, all-append}
use Rattle.nc_owner_laws.specs.InOrder.{HasLook, HasEdge, AnswersLook, AnswersAt}
use Rattle.nc_owner_laws.specs.Wake.{NotYet, Waiting, hears, made_to}
use Rattle.nc_history.specs.Packets.{received}
use Rattle.nc_rests.specs.Answering.{NextAnswers, AnswerRests}
use Rattle.nc_rests.specs.Asking.{IsAsked}
use Rattle.nc_rests.specs.Came.{HasAnswer, CameBy}
use Rattle.nc_rests.specs.Rests.{LookAt, AtLook}
use Rattle.nc_rests.proofs.Received.{eqb_self, received_more, of_next}
use Rattle.nc_rests.proofs.Rests.{look_more, look_own, found_own, hears_more}

-- ---- each answer that was made is that of a look

has_look_more : (v q u number floor : ℕ) (found : Option Id) (e : Event) (l : List Event) → HasLook v q u number floor found l → HasLook v q u number floor found (e ∷ l)
has_look_more v q u number floor found (Looked w p from n c after f past) l has = inr has
has_look_more v q u number floor found e l has = has

has_edge_more : (v q u number floor : ℕ) (last : Id) (e : Event) (l : List Event) → HasEdge v q u number floor last l → HasEdge v q u number floor last (e ∷ l)
has_edge_more v q u number floor last (Edged w p from n k c f id) l has = inr has
has_edge_more v q u number floor last e l has = has

answers_more : (v to : ℕ) (e : Event) (l : List Event) (a : AlertLine) → AnswersLook v to l a → AnswersLook v to (e ∷ l) a
answers_more v to e l (lines.LookAnswer number q floor found g slot) has = has_look_more v q to number floor found e l has
answers_more v to e l (lines.EdgeAnswer number q floor last) has = has_edge_more v q to number floor last e l has
answers_more v to e l a has = tt

pub all_if : (P : AlertLine → Type 0) (b : Bool) (xs : List AlertLine) (a : AlertLine) → AllByRecursion P xs → (b ≡ true → P a) → AllByRecursion P (cond b (xs ++ a ∷ []) xs)
all_if P true xs a all here = all-append P xs (a ∷ []) all (here refl, tt)
all_if P false xs a all here = all

made_answers : (o w : ℕ) (h : List Event) → Along AnswersAt (own o h) → AllByRecursion (AnswersLook o w (own o h)) (made_to w (own o h))
made_answers o w [] a = tt
made_answers o w (Made v to n x ∷ h) a = go (o == v) refl (made_answers o w h) a
  where
    go : (b : Bool) → (o == v) ≡ b → (Along AnswersAt (own o h) → AllByRecursion (AnswersLook o w (own o h)) (made_to w (own o h))) → Along AnswersAt (cond b (Made v to n x ∷ own o h) (own o h))
        → AllByRecursion (AnswersLook o w (cond b (Made v to n x ∷ own o h) (own o h))) (made_to w (cond b (Made v to n x ∷ own o h) (own o h)))
    go true is rest k =
        let l = own o h in
        all_if (AnswersLook o w (Made v to n x ∷ l)) (to == w) (made_to w l) x
        (all-weaker (AnswersLook o w l) (AnswersLook o w (Made v to n x ∷ l)) (λ y has. answers_more o w (Made v to n x) l y has) (made_to w l) (rest k.0))
        (λ same. answers_more o w (Made v to n x) l x (subst (λ u. AnswersLook o u l x) (eqb-true to w same) (subst (λ u. AnswersLook u to l x) (sym (eqb-true o v is)) k.1)))
    go false is rest k = rest k
made_answers o w (e ∷ h) a =
    cond_both (is_by o e) (e ∷ own o h) (own o h) (λ l. Along AnswersAt l → AllByRecursion (AnswersLook o w l) (made_to w l))
    (λ _ k. all-weaker (AnswersLook o w (own o h)) (AnswersLook o w (e ∷ own o h)) (λ y has. answers_more o w e (own o h) y has) (made_to w (own o h)) (made_answers o w h k.0))
    (λ _ k. made_answers o w h k) a

pub next_answers : NextAnswers
next_answers o w number q floor found g slot h a next = of_next (AnswersLook o w (own o h)) o w (lines.LookAnswer number q floor found g slot) h (made_answers o w h a) next

-- ---- a place that awaits it

asked_look : (o w q : ℕ) (c : List ℕ) (after : Id) (number floor : ℕ) (found : Option Id) (l : List Event) → HasLook o q w number floor found l → IsAsked w number c after l → LookAt o w q c after floor found l
asked_look o w q c after number floor found [] has asks = absurd has
asked_look o w q c after number floor found (Looked v p from n d a f past ∷ l) (inl is) asks =
    let at = asks.0 is.2 is.3 in
    record { since = []; number = number; seen = l; place = λ i. Looked (is.0 i) (is.1 i) (is.2 i) (is.3 i) (at.0 i) (at.1 i) (is.4 i) (is.5 i) ∷ l }
asked_look o w q c after number floor found (Looked v p from n d a f past ∷ l) (inr has) asks =
    look_more o w q c after floor found (Looked v p from n d a f past) l (asked_look o w q c after number floor found l has asks.1)
asked_look o w q c after number floor found (e ∷ l) has asks = look_more o w q c after floor found e l (asked_look o w q c after number floor found l has asks)

answer_last : (q : ℕ) (found : Option Id) (number floor : ℕ) (g slot : Option ℕ) (xs : List AlertLine) → HasAnswer q found (xs ++ lines.LookAnswer number q floor found g slot ∷ [])
answer_last q found number floor g slot [] = inl (refl, refl)
answer_last q found number floor g slot (lines.LookAnswer m p f x y z ∷ xs) = inr (answer_last q found number floor g slot xs)
answer_last q found number floor g slot (a ∷ xs) = answer_last q found number floor g slot xs

pub answer_rests : AnswerRests
answer_rests workers w c after number q floor None g slot n kind h next has asks = record {
  look = look_own (owner_of workers c) w q c after floor None (Took w (owner_of workers c) n kind) h (asked_look (owner_of workers c) w q c after number floor None (own (owner_of workers c) h) has asks);
  waits = hears_more (owner_of workers c) w n kind (lines.LookAnswer number q floor None g slot) h c q NotYet (hears c q NotYet (received (owner_of workers c) w h)) next refl ∙ ap (λ b. cond b Waiting (hears c q NotYet (received (owner_of workers c) w h))) (eqb_self q);
}
answer_rests workers w c after number q floor (Some id) g slot n kind h next has asks = record {
  found = found_own (owner_of workers c) w q c after id (Took w (owner_of workers c) n kind) h (AtLook floor (asked_look (owner_of workers c) w q c after number floor (Some id) (own (owner_of workers c) h) has asks));
  came = subst (CameBy q c id) (sym (received_more (owner_of workers c) w n kind (lines.LookAnswer number q floor (Some id) g slot) h next)) (inl (answer_last q (Some id) number floor g slot (received (owner_of workers c) w h)));
}
