-- A channel that is gone keeps the order.
use Rattle.std.proofs.Common.{◌≡◌, ℕ, Bool, true, false, ◌||◌, List, [], ◌∷◌, Option, Some, None, refl, sym, ◌∙◌, subst, arith, find, ◌==◌}
use Rattle.std.specs.Prelude.{fold}
use Rattle.std.specs.List.{AllByRecursion, list_any}
use Rattle.std.proofs.lemmas.Bool.Decides.{nat_tests}
use Rattle.nc_types.specs.declared.start.Start.TheVariants.{Newest}
use Rattle.nc_journal.specs.History.{own}
use Rattle.nc_journal.specs.Standing.{Starting, stage_of, EndsBy}
use Rattle.nc_journal.specs.declared.event.Event.{Event}
use Rattle.nc_journal.specs.declared.word.EndedCause.TheVariants.{Deleted}
use Rattle.nc_spool.specs.declared.fact.Fact.{Fact}
use Rattle.nc_spool.specs.declared.fact.Fact.TheVariants as facts
use Rattle.nc_spool.specs.declared.board.Board.{Board}
use Rattle.nc_spool_state.specs.declared.spool.Reader.{Reader}
use Rattle.nc_spool_state.specs.Key.{KeyAt}
use Rattle.nc_spool_state.specs.Spool.{SpoolAt, is_reader, has_reader}
use Rattle.nc_spool_state.specs.Starting.{StartingAt, starts_with}
use Rattle.nc_spool.specs.Board.{told as tells, ended}
use Rattle.nc_spool.specs.Calls.{board_of, gone_facts}
use Rattle.nc_spool.specs.Depart.{other_names, names_with, names_by, start_names, left, member_gone, member_gone_by, gone}
use Rattle.nc_spool_laws.specs.Numbers.{total}
use Rattle.nc_spool_laws.specs.Tally.{start_at, StandOnce}
use Rattle.nc_spool_laws.proofs.Lists.{all-found, found-passes}
use Rattle.nc_spool_laws.proofs.Same.{parted-starts}
use Rattle.nc_world_told.specs.Written.{written, so_far}
use Rattle.nc_world_told.specs.Readers.{StandsAtKey, StandHere, IsOther}
use Rattle.nc_world_told.proofs.Written.{written_is, written_append}
use Rattle.nc_world_told.proofs.Sends.{parted_outs}
use Rattle.nc_world_told.proofs.Staying.{away_stands}
use Rattle.nc_world_told.proofs.Leaving.{left_none, left_facts, left_starts, no_start, ended_away, gone_few, gone_stand, emptied_outs}
use Rattle.nc_world_ordered.specs.Orderly.{IsOrderly, LossOrderly}
use Rattle.nc_world_ordered.proofs.Orders.{deleted_orderly}
use Rattle.nc_world_ordered.proofs.Deciding.{made_outs_orderly}

same : (i j : ℕ) → (i == j) ≡ true → i ≡ j
same i j e = grind (arith, nat_tests)

module _ (me : ℕ) (next : ℕ → ℕ) (h : List Event) where
  abbrev Now : Board → List Event
  Now b = written me Deleted next b.facts h

  -- one that isn't started yet is starting by the history
  abbrev StartsHere : List Event → StartingAt → Type 0
  StartsHere l x = stage_of x.reader.k (own me l) ≡ Starting x.list x.reader.once Newest

  -- what is carried over the subscribers that the channel's owner names
  pub record Carries (b : Board) : Type 0 where
    pub orderly : IsOrderly (so_far me Deleted next h b)
    pub few : StandOnce b
    pub stand : AllByRecursion (λ x. StandHere me x (so_far me Deleted next h b)) b.shelf
    pub start : AllByRecursion (StartsHere (so_far me Deleted next h b)) b.starts

  -- ---- who is there starts or stands

  among_ends : (l : List Event) (key : KeyAt) (j : ℕ) (rs : List Reader) → list_any (is_reader j) rs ≡ true → AllByRecursion (StandsAtKey me key l) rs → EndsBy Deleted (stage_of j (own me l))
  among_ends l key j [] there stand = absurd cc
  among_ends l key j (r ∷ rs) there stand = by (r.k == j) refl there (λ e. among_ends l key j rs e stand.1)
    where
      by : (t : Bool) → (r.k == j) ≡ t → (t || list_any (is_reader j) rs) ≡ true → (list_any (is_reader j) rs ≡ true → EndsBy Deleted (stage_of j (own me l))) → EndsBy Deleted (stage_of j (own me l))
      by true was there rest = subst (λ (k : ℕ). EndsBy Deleted (stage_of k (own me l))) (same r.k j was) (subst (EndsBy Deleted) (sym stand.0) tt)
      by false was there rest = rest there

  named_ends : (j : ℕ) (b : Board) (names : List (List ℕ)) → names_with j b ≡ Some names → Carries b → EndsBy Deleted (stage_of j (own me (so_far me Deleted next h b)))
  named_ends j b names was k = by (find (has_reader j) b.shelf) refl was
    where
      started : (o : Option StartingAt) → find (starts_with j) b.starts ≡ o → start_names o ≡ Some names → EndsBy Deleted (stage_of j (own me (so_far me Deleted next h b)))
      started None at is = absurd cc
      started (Some x) at is =
          subst (λ (n : ℕ). EndsBy Deleted (stage_of n (own me (so_far me Deleted next h b)))) (same x.reader.k j (found-passes (starts_with j) b.starts x at))
          (subst (EndsBy Deleted) (sym (all-found (StartsHere (so_far me Deleted next h b)) (starts_with j) b.starts x at k.start)) tt)

      by : (o : Option SpoolAt) → find (has_reader j) b.shelf ≡ o → names_by o (find (starts_with j) b.starts) ≡ Some names → EndsBy Deleted (stage_of j (own me (so_far me Deleted next h b)))
      by None at is = started (find (starts_with j) b.starts) refl is
      by (Some s) at is =
          among_ends (so_far me Deleted next h b) s.key j s.readers (found-passes (has_reader j) b.shelf s at) (all-found (λ (x : SpoolAt). StandHere me x (so_far me Deleted next h b)) (has_reader j) b.shelf s at k.stand)

  -- ---- it is ended, and the others stay

  ended_orderly : (j : ℕ) (names : List (List ℕ)) (b : Board) → EndsBy Deleted (stage_of j (own me (so_far me Deleted next h b))) → IsOrderly (so_far me Deleted next h b) → IsOrderly (so_far me Deleted next h (ended j true names b))
  ended_orderly j names b ends o =
      let over = tells (facts.Ended j true) b in
      made_outs_orderly me Deleted next h over.facts (ended j true names b).facts (parted_outs j names over)
      (subst IsOrderly (sym (written_append me Deleted next b.facts (facts.Ended j true ∷ []) h)) (deleted_orderly me j (written me Deleted next b.facts h) ends o))

  ended_starts : (j : ℕ) (names : List (List ℕ)) (b : Board) (ss : List StartingAt) → AllByRecursion (StartsHere (so_far me Deleted next h b)) ss → AllByRecursion (λ s. IsOther j s.reader) ss
      → AllByRecursion (StartsHere (so_far me Deleted next h (ended j true names b))) ss
  ended_starts j names b [] start other = tt
  ended_starts j names b (s ∷ ss) start other =
      (away_stands me Deleted next h s.reader.k b.facts (ended j true names b).facts (ended_away me Deleted next h s.reader.k j true names b other.0) ∙ start.0, ended_starts j names b ss start.1 other.1)

  one : (c : List ℕ) (j : ℕ) (b : Board) → Carries b → Carries (member_gone c b j)
  one c j b k = record {
    orderly = orderly_by (names_with j b) refl;
    few = λ n. gone_few n c j b (k.few n);
    stand = gone_stand me Deleted next h c j b (k.few j) k.stand;
    start = start_by (names_with j b) refl;
  }
    where
      -- the history is as before once it left
      left_is : (P : List Event → Type 0) → P (written me Deleted next b.facts h) → P (written me Deleted next (left j b).facts h)
      left_is P p = subst (λ (l : List Fact). P (written me Deleted next l h)) (sym (left_facts j b)) p

      orderly_by : (o : Option (List (List ℕ))) → names_with j b ≡ o → IsOrderly (so_far me Deleted next h (member_gone_by o c j (left j b)))
      orderly_by None was = left_is IsOrderly k.orderly
      orderly_by (Some names) was = ended_orderly j (other_names c names) (left j b) (left_is (λ (l : List Event). EndsBy Deleted (stage_of j (own me l))) (named_ends j b names was k)) (left_is IsOrderly k.orderly)

      start : AllByRecursion (StartsHere (so_far me Deleted next h (left j b))) (left j b).starts
      start = left_is (λ (l : List Event). AllByRecursion (StartsHere l) (left j b).starts) (left_starts (StartsHere (so_far me Deleted next h b)) j b k.start)

      start_by : (o : Option (List (List ℕ))) → names_with j b ≡ o → AllByRecursion (StartsHere (so_far me Deleted next h (member_gone_by o c j (left j b)))) (member_gone_by o c j (left j b)).starts
      start_by None was = start
      start_by (Some names) was =
          let there : total (start_at j) (left j b).starts ≡ 0 = let none = left_none j b names (k.few j) was in omega (arith, none) in
          subst (AllByRecursion (StartsHere (so_far me Deleted next h (ended j true (other_names c names) (left j b))))) (sym (parted-starts j (other_names c names) (tells (facts.Ended j true) (left j b))))
          (ended_starts j (other_names c names) (left j b) (left j b).starts start (no_start j (left j b).starts there))

  pub members_carry : (c members : List ℕ) (b : Board) → Carries b → Carries (fold (member_gone c) b members)
  members_carry c [] b k = k
  members_carry c (j ∷ members) b k = members_carry c members (member_gone c b j) (one c j b k)

pub loss_orderly : LossOrderly
loss_orderly me c subs next h s singly stand start o =
    let carried = members_carry me next h c subs (board_of s) (record { orderly = o; few = singly; stand = stand; start = start }) in
    let over = fold (member_gone c) (board_of s) subs in
    subst IsOrderly (written_is me Deleted next (gone_facts c subs s) h)
    (made_outs_orderly me Deleted next h over.facts (gone c subs (board_of s)).facts (emptied_outs c over) carried.orderly)
