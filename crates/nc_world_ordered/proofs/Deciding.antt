-- A spool that decides keeps the order.
use Rattle.std.proofs.Common.{◌≡◌, ℕ, Bool, true, false, cond, List, [], ◌∷◌, ◌++◌, refl, sym, ap, ◌∙◌, subst}
use Rattle.std.specs.Prelude.{fold}
use Rattle.std.specs.List.{AllByRecursion}
use Rattle.nc_journal.specs.Standing.{Standing}
use Rattle.nc_journal.specs.declared.event.Event.{Event}
use Rattle.nc_journal.specs.declared.word.EndedCause.{EndedCause}
use Rattle.nc_journal.specs.declared.word.EndedCause.TheVariants.{Answered}
use Rattle.nc_spool.specs.declared.fact.Fact.{Fact}
use Rattle.nc_spool.specs.declared.fact.Fact.TheVariants as facts
use Rattle.nc_spool.specs.declared.board.Board.{Board}
use Rattle.nc_spool.specs.declared.decide.Delivery.{Delivery}
use Rattle.nc_spool_state.specs.declared.spool.Reader.{Reader}
use Rattle.nc_spool_state.specs.declared.choice.Choice.{Choice}
use Rattle.nc_spool_state.specs.declared.choice.Choice.TheVariants.{Wait, Fence, Send}
use Rattle.nc_spool_state.specs.Key.{KeyAt}
use Rattle.nc_spool_state.specs.Spool.{SpoolAt}
use Rattle.nc_spool_state.specs.Choice.{choice}
use Rattle.nc_spool.specs.Board.{told as tells, parted, ended, entered}
use Rattle.nc_spool.specs.Decide.{delivery, sending, sent_one, fence_looks, decided, decided_by}
use Rattle.nc_world_told.specs.Written.{fact_next, written, next_written, so_far}
use Rattle.nc_world_told.specs.Readers.{StandsAtKey, StandHere, IsOther, AreOnce}
use Rattle.nc_world_told.proofs.Written.{written_append, IsAway}
use Rattle.nc_world_told.proofs.Sends.{Appends, IsOut, IsAfter, one_fact, then_facts, weaker, after_away, entered_outs, parted_outs, fences_outs, moved_after}
use Rattle.nc_world_told.proofs.Staying.{away_stands}
use Rattle.nc_world_ordered.specs.Orderly.{IsOrderly}
use Rattle.nc_world_ordered.proofs.Orders.{made_orderly, sent_goes_on, sent_and_ended}

-- alerts that are made keep the order
outs_written : (me : ℕ) (cause : EndedCause) (next : ℕ → ℕ) (fs : List Fact) (h : List Event) → AllByRecursion IsOut fs → IsOrderly h → IsOrderly (written me cause next fs h)
outs_written me cause next [] h all o = o
outs_written me cause next (facts.Out x ∷ fs) h all o = outs_written me cause (fact_next me cause next (facts.Out x)) fs _ all.1 (made_orderly me x.to (next x.to) _ h o)
outs_written me cause next (facts.Started k cursor ∷ fs) h all o = absurd all.0
outs_written me cause next (facts.Sent s ∷ fs) h all o = absurd all.0
outs_written me cause next (facts.Ended k deleted ∷ fs) h all o = absurd all.0

-- whatever the call is for
pub made_outs_orderly : (me : ℕ) (cause : EndedCause) (next : ℕ → ℕ) (h : List Event) (xs ys : List Fact) → Appends IsOut xs ys → IsOrderly (written me cause next xs h) → IsOrderly (written me cause next ys h)
made_outs_orderly me cause next h xs ys a o = subst (λ (l : List Fact). IsOrderly (written me cause next l h)) (sym a.are)
    (subst IsOrderly (sym (written_append me cause next xs a.facts h)) (outs_written me cause (next_written me cause next xs) a.facts (written me cause next xs h) a.all o))

module _ (me : ℕ) (next : ℕ → ℕ) (h : List Event) where
  abbrev Now : List Fact → List Event
  Now fs = written me Answered next fs h

  pub outs_orderly : (xs ys : List Fact) → Appends IsOut xs ys → IsOrderly (written me Answered next xs h) → IsOrderly (written me Answered next ys h)
  outs_orderly xs ys a o = made_outs_orderly me Answered next h xs ys a o

  module _ (d : Delivery) where
    -- one subscriber is sent a message
    one_orderly : (key : KeyAt) (b : Board) (r : Reader) → StandsAtKey me key (so_far me Answered next h b) r → IsOrderly (so_far me Answered next h b) → IsOrderly (so_far me Answered next h (sent_one d b r))
    one_orderly key b r stands o = by r.once refl
      where
        by : (t : Bool) → r.once ≡ t → IsOrderly (so_far me Answered next h (cond t (ended r.k false d.key.list (tells (facts.Sent (sending d r)) b)) (entered d.key r (tells (facts.Sent (sending d r)) b))))
        by true once =
            let over = tells (facts.Ended r.k false) (tells (facts.Sent (sending d r)) b) in
            outs_orderly over.facts (fold (parted r.k) over d.key.list).facts (parted_outs r.k d.key.list over)
            (subst IsOrderly (sym (written_append me Answered next (b.facts ++ facts.Sent (sending d r) ∷ []) (facts.Ended r.k false ∷ []) h ∙ ap (written me Answered (next_written me Answered next (b.facts ++ facts.Sent (sending d r) ∷ [])) (facts.Ended r.k false ∷ [])) (written_append me Answered next b.facts (facts.Sent (sending d r) ∷ []) h)))
            (sent_and_ended me r.k d.place d.chan d.id d.key.cursor key.cursor d.looks key.list (written me Answered next b.facts h) (stands ∙ ap (λ (x : Bool). Standing key.list x key.cursor) once) o))
        by false once =
            outs_orderly (tells (facts.Sent (sending d r)) b).facts (entered d.key r (tells (facts.Sent (sending d r)) b)).facts (entered_outs d.key r (tells (facts.Sent (sending d r)) b))
            (subst IsOrderly (sym (written_append me Answered next b.facts (facts.Sent (sending d r) ∷ []) h))
            (sent_goes_on me r.k d.place d.chan d.id d.key.cursor key.cursor d.looks key.list (written me Answered next b.facts h) (stands ∙ ap (λ (x : Bool). Standing key.list x key.cursor) once) o))

    still_stand : (key : KeyAt) (b : Board) (r : Reader) (rs : List Reader) → AllByRecursion (IsOther r.k) rs → AllByRecursion (StandsAtKey me key (so_far me Answered next h b)) rs → AllByRecursion (StandsAtKey me key (so_far me Answered next h (sent_one d b r))) rs
    still_stand key b r [] other stand = tt
    still_stand key b r (x ∷ rs) other stand =
        let b1 = tells (facts.Sent (sending d r)) b in
        let after = moved_after d r b1 in (
          away_stands me Answered next h x.k b.facts (sent_one d b r).facts
              (then_facts (IsAway x.k) b.facts b1.facts _ (one_fact (IsAway x.k) b.facts (facts.Sent (sending d r)) other.0)
              (record { facts = after.facts; are = after.are; all = weaker (IsAfter r.k) (IsAway x.k) (λ f p. after_away r.k x.k f other.0 p) after.facts after.all })) ∙ stand.0,
          still_stand key b r rs other.1 stand.1,
        )

    all_orderly : (key : KeyAt) (rs : List Reader) (b : Board) → AreOnce rs → AllByRecursion (StandsAtKey me key (so_far me Answered next h b)) rs → IsOrderly (so_far me Answered next h b) → IsOrderly (so_far me Answered next h (fold (sent_one d) b rs))
    all_orderly key [] b once stand o = o
    all_orderly key (r ∷ rs) b once stand o = all_orderly key rs (sent_one d b r) once.1 (still_stand key b r rs once.0 stand.1) (one_orderly key b r stand.0 o)

  -- a spool decides
  pub decided_orderly : (s : SpoolAt) (b : Board) → AreOnce s.readers → StandHere me s (so_far me Answered next h b) → IsOrderly (so_far me Answered next h b) → IsOrderly (so_far me Answered next h (decided s b))
  decided_orderly s b once stand o = by (choice s.places)
    where
      by : (x : Choice) → IsOrderly (so_far me Answered next h (decided_by x s b))
      by Wait = o
      by (Fence time) = outs_orderly b.facts (fence_looks time s.key 0 s.places b).facts (fences_outs time s.key 0 s.places b) o
      by (Send find) = all_orderly (delivery find s) s.key s.readers b once stand o
