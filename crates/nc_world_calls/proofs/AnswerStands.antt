-- After the step of an answer to a look each subscriber stands at the key of its spool.
use Rattle.std.proofs.Common.{◌≡◌, ℕ, ◌≤◌, List, [], ◌∷◌, Option, Some, None, refl, subst, arith, find}
use Rattle.std.specs.List.{AllByRecursion}
use Rattle.std.specs.Option.{option_map}
use Rattle.nc_journal.specs.declared.event.Event.{Event}
use Rattle.nc_journal.specs.declared.event.Event.TheVariants.{Took}
use Rattle.nc_journal.specs.declared.word.EndedCause.TheVariants.{Answered}
use Rattle.nc_spool_state.specs.declared.hear.News.{News}
use Rattle.nc_spool_state.specs.declared.place.Quiet.{Quiet}
use Rattle.nc_spool_state.specs.declared.spool.Reader.{Reader}
use Rattle.nc_spool_state.specs.Key.{id_at}
use Rattle.nc_spool_state.specs.Place.{place_awaiting}
use Rattle.nc_spool_state.specs.Spool.{SpoolAt, awaits, with_place}
use Rattle.nc_spool_state.specs.Shelf.{without_first, place_before}
use Rattle.nc_spool_state.specs.Hear.{learned}
use Rattle.nc_spool.specs.Hear.{answered, answered_by, answered_at}
use Rattle.nc_spool.specs.Calls.{board_of, news_of, answer_facts}
use Rattle.nc_spool_laws.specs.Numbers.{total}
use Rattle.nc_spool_laws.specs.Tally.{readers_of}
use Rattle.nc_spool_laws.proofs.Lists.{all-insert, all-without, all-found, all-changed}
use Rattle.nc_spool_laws.proofs.Totals.{total-without}
use Rattle.nc_world_told.specs.Written.{written}
use Rattle.nc_world_told.specs.Readers.{StandHere, IsNotIn}
use Rattle.nc_world_told.proofs.Written.{written_is}
use Rattle.nc_world_told.proofs.Staying.{StandsApart, decided_fits, once_in, apart_from, all_both}
use Rattle.nc_world_calls.specs.Answering.{AnswerStands}
use Rattle.nc_world_calls.proofs.Answering.{took_stands}

pub answer_stands : AnswerStands
answer_stands me from n number q floor kind found next h s singly stand =
    subst (λ (l : List Event). AllByRecursion (λ (x : SpoolAt). StandHere me x l) (answered number quiet news (board_of s)).shelf) (written_is me Answered next (answer_facts number q floor found s) (Took me from n kind ∷ h))
    (all-changed (StandsApart me Answered next (Took me from n kind ∷ h) (answered number quiet news (board_of s)).facts []) (λ (x : SpoolAt). StandHere me x (written me Answered next (answered number quiet news (board_of s)).facts (Took me from n kind ∷ h))) (answered number quiet news (board_of s)).shelf (λ x f. f.0)
    (by (find (awaits number) s.shelf) refl))
  where
    few : (k : ℕ) → total (readers_of k) s.shelf ≤ 1
    few k = let f = singly k in omega (arith, f)

    quiet : Quiet
    quiet = record { q = q; floor = floor }

    news : Option News
    news = option_map news_of found

    took : List Event
    took = Took me from n kind ∷ h

    now : AllByRecursion (λ (x : SpoolAt). StandHere me x (Took me from n kind ∷ h)) s.shelf
    now = all-changed (λ (x : SpoolAt). StandHere me x h) (λ (x : SpoolAt). StandHere me x (Took me from n kind ∷ h)) s.shelf (λ x f. took_stands me from n kind h x.key x.readers f) stand

    bare : AllByRecursion (StandsApart me Answered next (Took me from n kind ∷ h) [] []) s.shelf
    bare = all-changed (λ (x : SpoolAt). StandHere me x (Took me from n kind ∷ h)) (StandsApart me Answered next (Took me from n kind ∷ h) [] []) s.shelf (λ x f. (f, tt)) now

    at : (x : SpoolAt) → find (awaits number) s.shelf ≡ Some x → (o : Option ℕ) → AllByRecursion (StandsApart me Answered next (Took me from n kind ∷ h) (answered_at o (record { q = q; floor = floor }) (option_map news_of found) x (record (board_of s) { shelf = without_first (awaits number) s.shelf })).facts []) (answered_at o (record { q = q; floor = floor }) (option_map news_of found) x (record (board_of s) { shelf = without_first (awaits number) s.shelf })).shelf
    at x was None = all-insert (StandsApart me Answered next (Took me from n kind ∷ h) [] []) (without_first (awaits number) s.shelf) (place_before x.key (without_first (awaits number) s.shelf)) x
        (all-found (StandsApart me Answered next (Took me from n kind ∷ h) [] []) (awaits number) s.shelf x was bare) (all-without (StandsApart me Answered next (Took me from n kind ∷ h) [] []) (awaits number) s.shelf bare)
    at x was (Some j) =
        decided_fits me Answered next (Took me from n kind ∷ h) (with_place j (learned (id_at x.key j) (record { q = q; floor = floor }) (option_map news_of found)) x) (record (board_of s) { shelf = without_first (awaits number) s.shelf })
        (once_in x.readers (λ k. let c = total-without (readers_of k) (awaits number) s.shelf x was in let f = few k in omega (arith, c, f)))
        (all-found (λ (y : SpoolAt). StandHere me y (Took me from n kind ∷ h)) (awaits number) s.shelf x was now)
        (all_both (λ (y : SpoolAt). StandHere me y (Took me from n kind ∷ h)) (λ (y : SpoolAt). AllByRecursion (λ (r : Reader). IsNotIn r.k y) x.readers) (without_first (awaits number) s.shelf)
        (all-without (λ (y : SpoolAt). StandHere me y (Took me from n kind ∷ h)) (awaits number) s.shelf now)
        (apart_from x.readers (without_first (awaits number) s.shelf) (without_first (awaits number) s.shelf) (λ k. let c = total-without (readers_of k) (awaits number) s.shelf x was in let f = few k in omega (arith, c, f)) (λ k. omega arith)))

    by : (o : Option SpoolAt) → find (awaits number) s.shelf ≡ o → AllByRecursion (StandsApart me Answered next (Took me from n kind ∷ h) (answered_by o number (record { q = q; floor = floor }) (option_map news_of found) (record (board_of s) { shelf = without_first (awaits number) s.shelf })).facts []) (answered_by o number (record { q = q; floor = floor }) (option_map news_of found) (record (board_of s) { shelf = without_first (awaits number) s.shelf })).shelf
    by None was = all-without (StandsApart me Answered next (Took me from n kind ∷ h) [] []) (awaits number) s.shelf bare
    by (Some x) was = at x was (place_awaiting number x.places)
