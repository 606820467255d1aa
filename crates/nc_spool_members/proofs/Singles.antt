-- Each call leaves everyone once, and no list with a channel twice.
use Rattle.std.proofs.Common.{◌≡◌, ℕ, ◌+◌, ◌≤◌, Bool, true, false, [], refl, ap, subst, arith}
use Rattle.std.specs.Option.{option_map}
use Rattle.nc_spool_state.specs.declared.edge.Edge.TheVariants.{Known}
use Rattle.nc_spool.specs.declared.board.Board.{Board}
use Rattle.nc_spool.specs.Calls.{board_of, news_of, arrive_board, answer_board, edge_board, notice_board, gone_board, depart_board}
use Rattle.nc_spool_laws.specs.Numbers.{one}
use Rattle.nc_spool_laws.specs.Tally.{stands, ends, tally}
use Rattle.nc_spool_laws.proofs.Tallies.{tally-kept}
use Rattle.nc_spool_laws.proofs.Keying.{keys-kept}
use Rattle.std.specs.Prelude.{◌==◌}
use Rattle.std.proofs.lemmas.Bool.Decides.{nat_tests}
use Rattle.nc_spool_members.specs.Singly.{KeepSingly}

-- who stands no more often than before
fewer : (k : ℕ) (b new : Board) → b.facts ≡ [] → stands k b ≤ 1 → tally k new ≡ tally k b → stands k new ≤ 1
fewer k b new empty few same =
    let none : ends k b.facts ≡ 0 = ap (ends k) empty in
    omega (arith, same, none, few)

-- who is new comes once
comes : (k n : ℕ) (b new : Board) → b.facts ≡ [] → stands n b ≡ 0 → stands k b ≤ 1 → tally k new ≡ one (n == k) + tally k b → stands k new ≤ 1
comes k n b new empty fresh few same =
    let none : ends k b.facts ≡ 0 = ap (ends k) empty in
    by (n == k) refl none same
  where
    equal : (i j : ℕ) → (i == j) ≡ true → i ≡ j
    equal i j e = grind (arith, nat_tests)

    by : (t : Bool) → (n == k) ≡ t → ends k b.facts ≡ 0 → tally k new ≡ one t + tally k b → stands k new ≤ 1
    by true was none same = let fresh_here : stands k b ≡ 0 = subst (λ (j : ℕ). stands j b ≡ 0) (equal n k was) fresh in omega (arith, same, none, fresh_here)
    by false was none same = omega (arith, same, none, few)

pub keep-singly : (H : Type 0) → KeepSingly H
keep-singly H s single = record {
  arrive = λ k list start once new fits. record {
    once = λ j. comes j k (board_of s) (arrive_board k list start once s) refl new (single.once j) (tally-kept.arrive j (record { k = k; once = once }) list start (board_of s));
    fit = keys-kept.arrive (record { k = k; once = once }) list start (board_of s) fits single.fit;
  };
  answer = λ number q floor found. record {
    once = λ j. fewer j (board_of s) (answer_board number q floor found s) refl (single.once j) (tally-kept.answer j number (record { q = q; floor = floor }) (option_map news_of found) (board_of s));
    fit = keys-kept.answer number (record { q = q; floor = floor }) (option_map news_of found) (board_of s) tt single.fit;
  };
  edge_answer = λ number floor last. record {
    once = λ j. fewer j (board_of s) (edge_board number floor last s) refl (single.once j) (tally-kept.edge_answer j number (Known last floor) (board_of s));
    fit = keys-kept.edge_answer number floor last (board_of s) tt single.fit;
  };
  notice = λ d found. record {
    once = λ j. fewer j (board_of s) (notice_board d found s) refl (single.once j) (tally-kept.notice j d (news_of found) (board_of s));
    fit = keys-kept.notice d (news_of found) (board_of s) tt single.fit;
  };
  removal = λ d members. record {
    once = λ j. fewer j (board_of s) (gone_board d members s) refl (single.once j) (tally-kept.removal j d members (board_of s) single.once);
    fit = keys-kept.removal d members (board_of s) single.fit;
  };
  depart = λ n. record {
    once = λ j. fewer j (board_of s) (depart_board n s) refl (single.once j) (tally-kept.depart j n (board_of s) single.once);
    fit = keys-kept.depart n (board_of s) single.fit;
  };
}
