-- What is stored behind a place is past the last id there.
use Rattle.std.specs.Prelude.{bytes_eq}
use Rattle.std.proofs.Common.{ℕ, List, [], ◌∷◌, ◌++◌, sym, subst, arith}
use Rattle.std.specs.List.{AllByRecursion}
use Rattle.std.specs.Cmp.Lexicographic.{same_text}
use Rattle.std.proofs.lemmas.Bool.{cond_both}
use Rattle.std.proofs.lemmas.Int.{ints}
use Rattle.nc_types.specs.Id.{Id, IsPast}
use Rattle.nc_types.specs.Channel.{owner_of}
use Rattle.nc_journal.specs.History.{own}
use Rattle.nc_journal.specs.Stamp.{StampedAt, IsStamped, last_of}
use Rattle.nc_journal.specs.Message.{published, stored_message}
use Rattle.nc_journal.specs.declared.event.Event.{Event}
use Rattle.nc_journal.specs.declared.event.Event.TheVariants.{Stored}
use Rattle.nc_journal.proofs.Cuts.{all-weaker, all-append}
use Rattle.nc_journal.proofs.Buffers.{published-push}
use Rattle.nc_journal.proofs.Ids.{IsAtMost, at_most-trans, past_of_at_most}
use Rattle.nc_journal.proofs.Rising.{last-rises, stored-past-last}

stores_past_last : (workers : ℕ) (c : List ℕ) (e : Event) (h : List Event) → StampedAt workers h e → AllByRecursion (λ m. IsPast m.id (last_of c (own (owner_of workers c) h))) (published c (e ∷ []))
stores_past_last workers c (Stored w d id slot len exp kept members from r ct body) h s =
    cond_both (bytes_eq d c) ([] ++ stored_message id slot exp ct body ∷ []) [] (AllByRecursion (λ m. IsPast m.id (last_of c (own (owner_of workers c) h))))
    (λ same. (subst (λ (n : List ℕ). IsPast id (last_of n (own (owner_of workers n) h))) (same_text d c (sym same)) (stored-past-last workers w d id h s), tt)) (λ _. tt)
stores_past_last workers c e h s = tt

last_later : (workers : ℕ) (c : List ℕ) (newer older : List Event) → IsStamped workers (newer ++ older) → IsAtMost (last_of c (own (owner_of workers c) older)) (last_of c (own (owner_of workers c) (newer ++ older)))
last_later workers c [] older stamped = inr_self (last_of c (own (owner_of workers c) older))
  where
    inr_self : (a : Id) → IsAtMost a a
    inr_self a = grind (arith, ints)
last_later workers c (e ∷ newer) older stamped = at_most-trans _ _ _ (last_later workers c newer older stamped.0) (last-rises workers c e (newer ++ older) stamped.1)

pub later_past_last : (workers : ℕ) (c : List ℕ) (newer older : List Event) → IsStamped workers (newer ++ older) → AllByRecursion (λ m. IsPast m.id (last_of c (own (owner_of workers c) older))) (published c newer)
later_past_last workers c [] older stamped = tt
later_past_last workers c (e ∷ newer) older stamped =
    subst (AllByRecursion (λ m. IsPast m.id (last_of c (own (owner_of workers c) older)))) (sym (published-push c e newer))
    (all-append (λ m. IsPast m.id (last_of c (own (owner_of workers c) older))) (published c newer) (published c (e ∷ [])) (later_past_last workers c newer older stamped.0)
    (all-weaker (λ m. IsPast m.id (last_of c (own (owner_of workers c) (newer ++ older)))) (λ m. IsPast m.id (last_of c (own (owner_of workers c) older))) (λ m p. past_of_at_most (last_of c (own (owner_of workers c) older)) (last_of c (own (owner_of workers c) (newer ++ older))) m.id (last_later workers c newer older stamped.0) p) (published c (e ∷ [])) (stores_past_last workers c e (newer ++ older) stamped.1)))
