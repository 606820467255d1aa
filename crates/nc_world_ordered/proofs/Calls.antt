-- The calls of spools keep the order.
use Rattle.std.proofs.Common.{◌≡◌, ℕ, ◌+◌, ◌≤◌, Bool, List, [], ◌∷◌, Option, Some, None, refl, sym, ap, ◌∙◌, subst, arith, find, length}
use Rattle.std.specs.Prelude.{fold}
use Rattle.std.specs.List.{AllByRecursion}
use Rattle.std.specs.Option.{option_map}
use Rattle.nc_types.specs.Id.{is_past}
use Rattle.nc_types.specs.declared.start.Start.{Start}
use Rattle.nc_types.specs.declared.start.Start.TheVariants.{Oldest, Newest, Given}
use Rattle.nc_journal.specs.History.{own}
use Rattle.nc_journal.specs.Standing.{Starting, IsStarting, stage_of}
use Rattle.nc_journal.specs.declared.event.Event.{Event}
use Rattle.nc_journal.specs.declared.word.EndedCause.TheVariants.{Answered}
use Rattle.nc_spool.specs.declared.fact.Fact.{Fact}
use Rattle.nc_spool.specs.declared.fact.Fact.TheVariants as facts
use Rattle.nc_spool.specs.declared.board.Board.{Board}
use Rattle.nc_spool_state.specs.declared.spool.Reader.{Reader}
use Rattle.nc_spool_state.specs.declared.hear.News.{News}
use Rattle.nc_spool_state.specs.declared.hear.Heard.{Heard as Says}
use Rattle.nc_spool_state.specs.declared.hear.Heard.TheVariants as says
use Rattle.nc_spool_state.specs.Key.{KeyAt, id_at, place_of}
use Rattle.nc_spool_state.specs.Place.{place_awaiting}
use Rattle.nc_spool_state.specs.Spool.{SpoolAt, is_of, awaits, place_at, with_place}
use Rattle.nc_spool_state.specs.Shelf.{spool_of, others, without_first, place_before, keys_with}
use Rattle.nc_spool_state.specs.Hear.{learned, notice_says}
use Rattle.nc_spool.specs.Board.{shelved}
use Rattle.nc_spool.specs.Decide.{decided}
use Rattle.nc_spool.specs.Hear.{looked_again, heeded, answered_by, answered_at, noticed_in, noticed_place, noticed_by, noticed_at}
use Rattle.nc_spool.specs.Arrive.{oldest_cursor, joined}
use Rattle.nc_spool.specs.Newest.{begun, edges_from}
use Rattle.nc_spool.specs.Calls.{board_of, news_of, arrive_facts, answer_facts, notice_facts}
use Rattle.nc_spool_laws.specs.Numbers.{total}
use Rattle.nc_spool_laws.specs.Tally.{readers_of, tally}
use Rattle.nc_spool_laws.proofs.Lists.{all-insert, all-without, all-found, all-changed}
use Rattle.nc_spool_laws.proofs.Totals.{total-without}
use Rattle.nc_spool_laws.proofs.Tallies.{noticed_at-tally}
use Rattle.nc_world_told.specs.Written.{written, so_far}
use Rattle.nc_world_told.specs.Readers.{StandHere, IsNotIn}
use Rattle.nc_world_told.proofs.Written.{written_is, IsAway}
use Rattle.nc_world_told.proofs.Sends.{Appends, IsOut, same_facts, one_fact, then_facts, weaker}
use Rattle.nc_world_told.proofs.Staying.{StandsApart, outs_still, decided_fits, once_in, apart_from, all_both, away_stands}
use Rattle.nc_world_ordered.specs.Orderly.{IsOrderly, AnswerOrderly, NoticeOrderly, ArrivalOrderly}
use Rattle.nc_world_ordered.proofs.Deciding.{outs_orderly, decided_orderly}
use Rattle.nc_world_ordered.proofs.Edging.{edges_outs, starts_orderly}

-- ---- the answer to a look

pub answer_orderly : AnswerOrderly
answer_orderly me number q floor found next h s singly stand o =
    subst IsOrderly (written_is me Answered next (answer_facts number q floor found s) h) (by (find (awaits number) s.shelf) refl)
  where
    few : (k : ℕ) → total (readers_of k) s.shelf ≤ 1
    few k = let f = singly k in omega (arith, f)

    at : (x : SpoolAt) → find (awaits number) s.shelf ≡ Some x → (j : Option ℕ) → IsOrderly (so_far me Answered next h (answered_at j (record { q = q; floor = floor }) (option_map news_of found) x (record (board_of s) { shelf = without_first (awaits number) s.shelf })))
    at x was None = o
    at x was (Some j) =
        decided_orderly me next h (with_place j (learned (id_at x.key j) (record { q = q; floor = floor }) (option_map news_of found)) x) (record (board_of s) { shelf = without_first (awaits number) s.shelf })
        (once_in x.readers (λ k. let c = total-without (readers_of k) (awaits number) s.shelf x was in let f = few k in omega (arith, c, f)))
        (all-found (λ (y : SpoolAt). StandHere me y h) (awaits number) s.shelf x was stand) o

    by : (x : Option SpoolAt) → find (awaits number) s.shelf ≡ x → IsOrderly (so_far me Answered next h (answered_by x number (record { q = q; floor = floor }) (option_map news_of found) (record (board_of s) { shelf = without_first (awaits number) s.shelf })))
    by None was = o
    by (Some x) was = at x was (place_awaiting number x.places)

-- ---- a notice

module _ (me : ℕ) (c : List ℕ) (news : News) (next : ℕ → ℕ) (h : List Event) where
  -- what is carried over the spools of a step
  pub record Carries (b : Board) : Type 0 where
    pub orderly : IsOrderly (so_far me Answered next h b)
    pub stand : AllByRecursion (λ s. StandHere me s (so_far me Answered next h b)) b.shelf

  shelved_carries : (s : SpoolAt) (b : Board) → StandHere me s (so_far me Answered next h b) → Carries b → Carries (shelved s b)
  shelved_carries s b stand k = record { orderly = k.orderly; stand = all-insert (λ (x : SpoolAt). StandHere me x (so_far me Answered next h b)) b.shelf (place_before s.key b.shelf) s stand k.stand }

  module _ (s : SpoolAt) (b : Board) (stand : StandHere me s (so_far me Answered next h b)) (few : (k : ℕ) → readers_of k s + total (readers_of k) b.shelf ≤ 1) (k : Carries b) where
    heeds : (x : Says) (j : ℕ) → Carries (heeded x j s b)
    heeds says.Stays j = shelved_carries s b stand k
    heeds (says.Forgets p) j = shelved_carries (with_place j p s) b stand k
    heeds says.Looks j =
        let b1 = looked_again s.key j b in
        let one = one_fact IsOut b.facts _ tt in
        shelved_carries (with_place j _ s) b1 (outs_still me Answered next h b.facts b1.facts s.key s.readers one stand)
        (record {
          orderly = outs_orderly me next h b.facts b1.facts one k.orderly;
          stand = all-changed (λ (x : SpoolAt). StandHere me x (so_far me Answered next h b)) (λ (x : SpoolAt). StandHere me x (so_far me Answered next h b1)) b.shelf
              (λ x f. outs_still me Answered next h b.facts b1.facts x.key x.readers one f) k.stand;
        })
    heeds (says.Finds p) j =
        let once = once_in s.readers (λ n. let f = few n in omega (arith, f)) in
        let fits = decided_fits me Answered next h (with_place j p s) b once stand
        (all_both (λ (y : SpoolAt). StandHere me y (so_far me Answered next h b)) (λ (y : SpoolAt). AllByRecursion (λ (r : Reader). IsNotIn r.k y) s.readers) b.shelf k.stand (apart_from s.readers b.shelf b.shelf few (λ n. omega arith))) in
        record {
          orderly = decided_orderly me next h (with_place j p s) b once stand k.orderly;
          stand = all-changed (StandsApart me Answered next h (decided (with_place j p s) b).facts []) (λ (x : SpoolAt). StandHere me x (so_far me Answered next h (decided (with_place j p s) b))) (decided (with_place j p s) b).shelf (λ x f. f.0) fits;
        }

    treats : Carries (noticed_in c news s b)
    treats = by (place_of c s.key.list)
      where
        by : (j : Option ℕ) → Carries (noticed_place j news s b)
        by None = shelved_carries s b stand k
        by (Some j) = heeds (notice_says news (is_past news.id (id_at s.key j)) (place_at s j)) j

  at_key : (b : Board) (key : KeyAt) → ((k : ℕ) → tally k b ≤ 1) → Carries b → Carries (noticed_at c news b key)
  at_key b key few k = by (spool_of key b.shelf) refl
    where
      rest : Carries (record b { shelf = others key b.shelf })
      rest = record { orderly = k.orderly; stand = all-without (λ (x : SpoolAt). StandHere me x (so_far me Answered next h b)) (is_of key) b.shelf k.stand }

      by : (x : Option SpoolAt) → spool_of key b.shelf ≡ x → Carries (noticed_by x c news (record b { shelf = others key b.shelf }))
      by None was = rest
      by (Some s) was = treats s (record b { shelf = others key b.shelf }) (all-found (λ (x : SpoolAt). StandHere me x (so_far me Answered next h b)) (is_of key) b.shelf s was k.stand)
          (λ n. let t = total-without (readers_of n) (is_of key) b.shelf s was in let f = few n in omega (arith, t, f)) rest

  at_keys : (keys : List KeyAt) (b : Board) → ((k : ℕ) → tally k b ≤ 1) → Carries b → Carries (fold (noticed_at c news) b keys)
  at_keys [] b few k = k
  at_keys (key ∷ keys) b few k = at_keys keys (noticed_at c news b key) (λ n. let t = noticed_at-tally n c news b key in let f = few n in omega (arith, t, f)) (at_key b key few k)

pub notice_orderly : NoticeOrderly
notice_orderly me c found next h s singly stand o =
    subst IsOrderly (written_is me Answered next (notice_facts c found s) h)
    (at_keys me c (news_of found) next h (keys_with c s.shelf) (board_of s) (λ k. let f = singly k in omega (arith, f)) (record { orderly = o; stand = stand })).orderly

-- ---- a subscriber comes

joined_outs : (k : ℕ) (names : List (List ℕ)) (b : Board) → Appends IsOut b.facts (fold (joined k) b names).facts
joined_outs k [] b = same_facts IsOut b.facts
joined_outs k (c ∷ names) b = then_facts IsOut b.facts (joined k b c).facts _ (one_fact IsOut b.facts _ tt) (joined_outs k names (joined k b c))

out_away : (k : ℕ) (f : Fact) → IsOut f → IsAway k f
out_away k (facts.Out x) p = tt
out_away k (facts.Started n cursor) p = absurd p
out_away k (facts.Sent s) p = absurd p
out_away k (facts.Ended n deleted) p = absurd p

begun_orderly : (me k : ℕ) (list : List (List ℕ)) (start : Start) (once : Bool) (next : ℕ → ℕ) (h : List Event) (b : Board) (key : KeyAt) → b.facts ≡ [] → stage_of k (own me h) ≡ Starting list once start → IsOrderly h
    → IsOrderly (so_far me Answered next h (begun (record { k = k; once = once }) key (fold (joined k) b list)))
begun_orderly me k list start once next h b key none starts o =
    let b1 = fold (joined k) b list in
    let r : Reader = record { k = k; once = once } in
    let outs = joined_outs k list b in
    let base : IsOrderly (written me Answered next b.facts h) = subst (λ (l : List Fact). IsOrderly (written me Answered next l h)) (sym none) o in
    let there : stage_of k (own me (written me Answered next b1.facts h)) ≡ stage_of k (own me (written me Answered next b.facts h))
    = away_stands me Answered next h k b.facts b1.facts (record { facts = outs.facts; are = outs.are; all = weaker IsOut (IsAway k) (out_away k) outs.facts outs.all }) in
    let stage : stage_of k (own me (written me Answered next b1.facts h)) ≡ Starting list once start
    = there ∙ ap (λ (l : List Fact). stage_of k (own me (written me Answered next l h))) none ∙ starts in
    starts_orderly me next h r key b1 (subst IsStarting (sym stage) tt) (outs_orderly me next h b.facts b1.facts outs base)

pub arrival_orderly : ArrivalOrderly
arrival_orderly me k list Oldest once next h s starts o =
    subst IsOrderly (written_is me Answered next (arrive_facts k list Oldest once s) h) (begun_orderly me k list Oldest once next h (board_of s) (record { list = list; cursor = oldest_cursor (length list) }) refl starts o)
arrival_orderly me k list Newest once next h s starts o =
    subst IsOrderly (written_is me Answered next (arrive_facts k list Newest once s) h)
    (outs_orderly me next h [] (edges_from k list (fold (joined k) (board_of s) list)).facts
    (then_facts IsOut [] (fold (joined k) (board_of s) list).facts (edges_from k list (fold (joined k) (board_of s) list)).facts (joined_outs k list (board_of s)) (edges_outs k list (fold (joined k) (board_of s) list))) o)
arrival_orderly me k list (Given cursor) once next h s starts o =
    subst IsOrderly (written_is me Answered next (arrive_facts k list (Given cursor) once s) h) (begun_orderly me k list (Given cursor) once next h (board_of s) (record { list = list; cursor = cursor }) refl starts o)
