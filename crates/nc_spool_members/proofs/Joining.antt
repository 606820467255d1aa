-- Nobody joins a channel but who comes with it, once.
use Rattle.std.proofs.Common.{◌≡◌, ℕ, ◌+◌, ◌≤◌, Bool, true, false, cond, List, [], ◌∷◌, Option, Some, None, refl, ◌∙◌, arith, ◌==◌, ◌&&◌}
use Rattle.std.specs.Prelude.{fold, bytes_eq}
use Rattle.std.specs.Option.{option_map}
use Rattle.nc_types.specs.Channel.{AreDistinct, owner_of}
use Rattle.nc_types.specs.declared.start.Start.{Start}
use Rattle.nc_spool_state.specs.declared.spool.Reader.{Reader}
use Rattle.nc_spool_state.specs.declared.edge.Edge.TheVariants.{Known}
use Rattle.nc_spool_state.specs.Shelf.{keys_with}
use Rattle.nc_spool.specs.declared.ask.Ask.{Ask}
use Rattle.nc_spool.specs.declared.ask.Ask.TheVariants.{Look, Join, Part}
use Rattle.nc_spool.specs.declared.ask.Ask.TheVariants as asks
use Rattle.nc_spool.specs.declared.fact.Fact.{Fact}
use Rattle.nc_spool.specs.declared.fact.Fact.TheVariants.{Out, Started, Sent, Ended}
use Rattle.nc_spool.specs.declared.board.Board.{Board}
use Rattle.nc_spool.specs.Board.{told, parted, ended}
use Rattle.nc_spool.specs.Arrive.{joined, arrived}
use Rattle.nc_spool.specs.Depart.{other_names, names_with, left, departed, departed_by, member_gone, member_gone_by, gone}
use Rattle.nc_spool.specs.Calls.{SpoolsAt, board_of, news_of, arrive_board, answer_board, edge_board, notice_board, gone_board, depart_board}
use Rattle.nc_spool_laws.specs.Numbers.{one}
use Rattle.nc_spool_laws.proofs.Totals.{total-push}
use Rattle.nc_spool_members.specs.Members.{joins_by, joins_told, CallsJoin, ComersJoin}
use Rattle.nc_spool_members.proofs.Weights.{named}
use Rattle.nc_spool_members.proofs.Weighing.{fact_weight, scales, started-facts, answered-scales, edged-scales, noticed_keys-scales, emptied_keys-scales}
use Rattle.nc_spool_members.proofs.Removing.{left-facts}
use Rattle.nc_spool_members.proofs.Telling.{part_weight, join_weight, either_weight, weighs-parts, weighs-either, parts, joins, sum-all, join-both, join-parts, named-once}

module _ (c : List ℕ) (k : ℕ) where
  -- how often facts let the subscriber join is what they weigh
  counted : (facts : List Fact) → joins_told c k facts ≡ joins c k facts
  counted [] = refl
  counted (Out o ∷ facts) = omega (arith, by o.ask, counted facts)
    where
      same : (t : Bool) → cond t 1 0 ≡ one t
      same true = refl
      same false = refl

      by : (ask : Ask) → joins_by c k ask ≡ join_weight c k ask
      by (Look number d after fence) = refl
      by (asks.Edge number n d fence) = refl
      by (Join d n) = same (bytes_eq d c && (n == k))
      by (Part d n) = refl
  counted (Started n cursor ∷ facts) = omega (arith, counted facts)
  counted (Sent s ∷ facts) = omega (arith, counted facts)
  counted (Ended n deleted ∷ facts) = omega (arith, counted facts)

  -- where what parts and what parts or joins weigh as much more, nobody joins
  unmoved : (b new : Board) → scales c k (part_weight c k) (weighs-parts c k) new ≡ scales c k (part_weight c k) (weighs-parts c k) b → scales c k (either_weight c k) (weighs-either c k) new ≡ scales c k (either_weight c k) (weighs-either c k) b → joins c k new.facts ≡ joins c k b.facts
  unmoved b new less less_both = omega (arith, less, less_both, sum-all c k new.facts, sum-all c k b.facts)

  -- who is ended parts, and doesn't join
  told-joins : (fact : Fact) (b : Board) → fact_weight (join_weight c k) fact ≡ 0 → joins c k (told fact b).facts ≡ joins c k b.facts
  told-joins fact b e = omega (arith, total-push (fact_weight (join_weight c k)) b.facts fact, e)

  parted-joins : (j : ℕ) (names : List (List ℕ)) (b : Board) → joins c k (fold (parted j) b names).facts ≡ joins c k b.facts
  parted-joins j [] b = refl
  parted-joins j (d ∷ names) b = parted-joins j names (parted j b d) ∙ told-joins (Out (record { to = owner_of b.workers d; ask = Part d j })) b refl

  ended-joins : (j : ℕ) (deleted : Bool) (names : List (List ℕ)) (b : Board) → joins c k (ended j deleted names b).facts ≡ joins c k b.facts
  ended-joins j deleted names b = parted-joins j names (told (Ended j deleted) b) ∙ told-joins (Ended j deleted) b refl

  departed-joins : (j : ℕ) (b : Board) → joins c k (departed j b).facts ≡ joins c k b.facts
  departed-joins j b = by (names_with j b)
    where
      by : (o : Option (List (List ℕ))) → joins c k (departed_by o j (left j b)).facts ≡ joins c k b.facts
      by None = left-facts (join_weight c k) j b
      by (Some names) = ended-joins j false names (left j b) ∙ left-facts (join_weight c k) j b

  member_gone-joins : (d : List ℕ) (j : ℕ) (b : Board) → joins c k (member_gone d b j).facts ≡ joins c k b.facts
  member_gone-joins d j b = by (names_with j b)
    where
      by : (o : Option (List (List ℕ))) → joins c k (member_gone_by o d j (left j b)).facts ≡ joins c k b.facts
      by None = left-facts (join_weight c k) j b
      by (Some names) = ended-joins j true (other_names d names) (left j b) ∙ left-facts (join_weight c k) j b

  members_gone-joins : (d members : List ℕ) (b : Board) → joins c k (fold (member_gone d) b members).facts ≡ joins c k b.facts
  members_gone-joins d [] b = refl
  members_gone-joins d (j ∷ members) b = members_gone-joins d members (member_gone d b j) ∙ member_gone-joins d j b

  gone-joins : (d members : List ℕ) (b : Board) → joins c k (gone d members b).facts ≡ joins c k b.facts
  gone-joins d members b =
      let all = fold (member_gone d) b members in
      unmoved all (gone d members b)
      (emptied_keys-scales c k (part_weight c k) (weighs-parts c k) d (keys_with d all.shelf) all)
      (emptied_keys-scales c k (either_weight c k) (weighs-either c k) d (keys_with d all.shelf) all)
      ∙ members_gone-joins d members b

  -- who comes joins the channels of its list
  arrived-joins : (r : Reader) (list : List (List ℕ)) (start : Start) (b : Board) → joins c k (arrived r list start b).facts ≡ cond (r.k == k) (named c list) 0 + joins c k b.facts
  arrived-joins r list start b =
      let now = fold (joined r.k) b list in
      let new = arrived r list start b in
      omega (
        arith,
        started-facts c k (part_weight c k) (weighs-parts c k) r list start now,
        started-facts c k (either_weight c k) (weighs-either c k) r list start now,
        join-parts c k r.k list b,
        join-both c k r.k list b,
        sum-all c k new.facts,
        sum-all c k b.facts,
      )

  once : (t : Bool) (list : List (List ℕ)) → AreDistinct list → cond t (named c list) 0 ≤ cond t 1 0
  once true list distinct = named-once c list distinct
  once false list distinct = omega arith

  module _ {H : Type 0} (s : SpoolsAt H) where
    nobody : (new : Board) → joins c k new.facts ≡ joins c k (board_of s).facts → joins_told c k new.facts ≡ 0
    nobody new e = counted new.facts ∙ e

    pub calls-join : CallsJoin c k s
    calls-join = record {
      arrive = λ n list start once_only distinct. omega (arith, counted (arrive_board n list start once_only s).facts, arrived-joins (record { k = n; once = once_only }) list start (board_of s), once (n == k) list distinct);
      answer = λ number q floor found. nobody (answer_board number q floor found s) (unmoved (board_of s) (answer_board number q floor found s)
          (answered-scales c k (part_weight c k) (weighs-parts c k) number (record { q = q; floor = floor }) (option_map news_of found) (board_of s))
          (answered-scales c k (either_weight c k) (weighs-either c k) number (record { q = q; floor = floor }) (option_map news_of found) (board_of s)));
      edge_answer = λ number floor last. nobody (edge_board number floor last s) (unmoved (board_of s) (edge_board number floor last s)
          (edged-scales c k (part_weight c k) (weighs-parts c k) number (Known last floor) (board_of s))
          (edged-scales c k (either_weight c k) (weighs-either c k) number (Known last floor) (board_of s)));
      notice = λ d found. nobody (notice_board d found s) (unmoved (board_of s) (notice_board d found s)
          (noticed_keys-scales c k (part_weight c k) (weighs-parts c k) d (news_of found) (keys_with d s.shelf) (board_of s))
          (noticed_keys-scales c k (either_weight c k) (weighs-either c k) d (news_of found) (keys_with d s.shelf) (board_of s)));
      removal = λ d members. nobody (gone_board d members s) (gone-joins d members (board_of s));
      depart = λ n. nobody (depart_board n s) (departed-joins n (board_of s));
    }

pub comers-join : (H : Type 0) → ComersJoin H
comers-join H c k s = calls-join c k s
