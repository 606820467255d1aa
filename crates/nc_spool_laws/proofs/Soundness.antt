-- Each call keeps the spools of a worker sound.
use Rattle.std.proofs.Common.{◌≡◌, ℕ, ◌+◌, ◌≤◌, Bool, true, false, List, [], refl, sym, ap, subst, Option, Some, None, IfSome, arith, ◌==◌}
use Rattle.std.specs.List.{AllByRecursion}
use Rattle.std.specs.Option.{option_map}
use Rattle.std.proofs.lemmas.Bool.Decides.{nat_tests}
use Rattle.nc_types.specs.Id.{Id}
use Rattle.nc_types.specs.declared.start.Start.{Start}
use Rattle.nc_spool_state.specs.declared.place.Quiet.{Quiet}
use Rattle.nc_spool_state.specs.declared.spool.Reader.{Reader}
use Rattle.nc_spool_state.specs.declared.kept.Held.{Held}
use Rattle.nc_spool.specs.declared.spools.Found.{Found}
use Rattle.nc_spool_state.specs.declared.edge.Edge.TheVariants.{Known}
use Rattle.nc_spool.specs.declared.board.Board.{Board}
use Rattle.nc_spool_state.specs.Shelf.{without_first}
use Rattle.nc_spool_state.specs.Kept.{is_idle, with_hold}
use Rattle.nc_spool.specs.Calls.{SpoolsAt, board_of, after, news_of, with_found, arrive_board, arrive_after, answer_board, answer_after, edge_board, edge_after, notice_board, notice_after, gone_board, gone_after, depart_board, depart_after, without_idle}
use Rattle.nc_spool_laws.specs.Resting.{AllRest}
use Rattle.nc_spool_laws.specs.Order.{AreAscending}
use Rattle.nc_spool_laws.specs.Attended.{IsWhole, IsAttended, IsHeld, AnswerHeld}
use Rattle.nc_spool_laws.specs.Numbers.{one, AreApart}
use Rattle.nc_spool_laws.specs.Tally.{stands, ends, tally}
use Rattle.nc_spool_laws.specs.Holding.{FactHeld, BoardHeld, AreRising}
use Rattle.nc_spool_laws.specs.Sound.{IsSound, IsNew, KeepsSound}
use Rattle.nc_spool_laws.proofs.Waiting.{all-restful}
use Rattle.nc_spool_laws.proofs.Order.{order-kept}
use Rattle.nc_spool_laws.proofs.Local.{whole-kept, attended-kept}
use Rattle.nc_spool_laws.proofs.Numbers.{apart-kept}
use Rattle.nc_spool_laws.proofs.Tallies.{tally-kept}
use Rattle.nc_spool_laws.proofs.Holds.{sent-held, holds-rule}

arrived-once : (i k : ℕ) (b : Bool) → (k == i) ≡ b → (n m : ℕ) → (b ≡ true → m ≡ 0) → m ≤ 1 → n ≤ one b + m → n ≤ 1
arrived-once i k true e n m none few same = let no_m = none refl in omega (arith, same, no_m)
arrived-once i k false e n m none few same = omega (arith, same, few)

equal : (k i : ℕ) → (k == i) ≡ true → k ≡ i
equal k i e = grind (arith, nat_tests)

-- what holds of a board, beside the holds
record IsWell (b : Board) : Type 0 where
  order : AreAscending b.shelf
  whole : AllByRecursion IsWhole b.shelf
  attended : AllByRecursion IsAttended b.shelf
  restful : AllRest b.shelf
  apart : AreApart b
  once : (k : ℕ) → stands k b ≤ 1

-- nobody stands more often than the tally says
fewer : (k : ℕ) (b c : Board) → b.facts ≡ [] → tally k c ≡ tally k b → stands k b ≤ 1 → stands k c ≤ 1
fewer k b c none same few = let no_ends : ends k b.facts ≡ 0 = ap (ends k) none in omega (arith, same, few, no_ends)

module _ {H : Type 0} where
  well : (s : SpoolsAt H) → IsSound s → IsWell (board_of s)
  well s i = record { order = i.order; whole = i.whole; attended = i.attended; restful = i.restful; apart = i.apart; once = i.once }

  sound : (b : Board) (kept : List (Held H)) → IsWell b → AllByRecursion (IsHeld kept) b.shelf → AreRising kept → IsSound (after b kept)
  sound b kept w held rising = record { order = w.order; whole = w.whole; attended = w.attended; restful = w.restful; apart = w.apart; once = w.once; held = held; rising = rising }

  kept-held : (kept : List (Held H)) (b : Board) → b.facts ≡ [] → AllByRecursion (IsHeld kept) b.shelf → BoardHeld kept b
  kept-held kept b none held = (held, subst (AllByRecursion (FactHeld kept)) (sym none) tt)

  sound-arrive : (k : ℕ) (list : List (List ℕ)) (start : Start) (once : Bool) (s : SpoolsAt H) → stands k (board_of s) ≡ 0 → IsSound s → IsSound (arrive_after k list start once s)
  sound-arrive k list start once s new i =
      let r : Reader = record { k = k; once = once } in
      let b = board_of s in
      sound (arrive_board k list start once s) s.kept
      (record {
        order = order-kept.arrive r list start b tt i.order;
        whole = whole-kept.arrive r list start b tt i.whole;
        attended = attended-kept.arrive r list start b tt i.attended;
        restful = all-restful.arrive r list start b i.restful;
        apart = apart-kept.arrive r list start b tt i.apart;
        once = λ n. arrived-once n k (k == n) refl (stands n (arrive_board k list start once s)) (stands n b) (λ e. subst (λ (m : ℕ). stands m b ≡ 0) (equal k n e) new) (i.once n) (counts n);
      })
      ((sent-held s.kept).arrive r list start b tt (i.held, tt)).0 i.rising
    where
      counts : (n : ℕ) → stands n (arrive_board k list start once s) ≤ one (k == n) + stands n (board_of s)
      counts n = let all = tally-kept.arrive n (record { k = k; once = once }) list start (board_of s) in omega (arith, all)

  sound-edge : (number floor : ℕ) (last : Id) (s : SpoolsAt H) → IsSound s → IsSound (edge_after number floor last s)
  sound-edge number floor last s i =
      let b = board_of s in
      sound (edge_board number floor last s) s.kept
      (record {
        order = order-kept.edge_answer number floor last b tt i.order;
        whole = whole-kept.edge_answer number floor last b tt i.whole;
        attended = attended-kept.edge_answer number floor last b tt i.attended;
        restful = all-restful.edge_answer number (Known last floor) b i.restful;
        apart = apart-kept.edge_answer number floor last b tt i.apart;
        once = λ n. fewer n b (edge_board number floor last s) refl (tally-kept.edge_answer n number (Known last floor) b) (i.once n);
      })
      ((sent-held s.kept).edge_answer number floor last b tt (i.held, tt)).0 i.rising

  sound-removal : (c members : List ℕ) (s : SpoolsAt H) → IsSound s → IsSound (gone_after c members s)
  sound-removal c members s i =
      let b = board_of s in
      sound (gone_board c members s) s.kept
      (record {
        order = order-kept.removal c members b i.order;
        whole = whole-kept.removal c members b i.whole;
        attended = attended-kept.removal c members b i.attended;
        restful = all-restful.removal c members b i.restful;
        apart = apart-kept.removal c members b i.apart;
        once = λ n. fewer n b (gone_board c members s) refl (tally-kept.removal n c members b i.once) (i.once n);
      })
      ((sent-held s.kept).removal c members b (i.held, tt)).0 i.rising

  sound-depart : (k : ℕ) (s : SpoolsAt H) → IsSound s → IsSound (depart_after k s)
  sound-depart k s i =
      let b = board_of s in
      sound (depart_board k s) s.kept
      (record {
        order = order-kept.depart k b i.order;
        whole = whole-kept.depart k b i.whole;
        attended = attended-kept.depart k b i.attended;
        restful = all-restful.depart k b i.restful;
        apart = apart-kept.depart k b i.apart;
        once = λ n. fewer n b (depart_board k s) refl (tally-kept.depart n k b i.once) (i.once n);
      })
      ((sent-held s.kept).depart k b (i.held, tt)).0 i.rising

  -- with the hold of a message that was found
  notice-board_held : (c : List ℕ) (found : Found H) (s : SpoolsAt H) → IsSound s → BoardHeld (with_hold found.held s.kept) (notice_board c found s)
  notice-board_held c found s i =
      let kept = with_hold found.held s.kept in
      (sent-held kept).notice c (news_of found) (board_of s) ((holds-rule H).new_held found.held s.kept) ((holds-rule H).keep_held found.held s.kept s.shelf i.held, tt)

  sound-notice : (c : List ℕ) (found : Found H) (s : SpoolsAt H) → IsNew s found → IsSound s → IsSound (notice_after c found s)
  sound-notice c found s new i =
      let b = board_of s in
      sound (notice_board c found s) (with_hold found.held s.kept)
      (record {
        order = order-kept.notice c (news_of found) b tt i.order;
        whole = whole-kept.notice c (news_of found) b tt i.whole;
        attended = attended-kept.notice c (news_of found) b tt i.attended;
        restful = all-restful.notice c (news_of found) b i.restful;
        apart = apart-kept.notice c (news_of found) b tt i.apart;
        once = λ n. fewer n b (notice_board c found s) refl (tally-kept.notice n c (news_of found) b) (i.once n);
      })
      (notice-board_held c found s i).0
      ((holds-rule H).keep found.held s.kept new i.rising)

  found-held : (number : ℕ) (quiet : Quiet) (found : Option (Found H)) (s : SpoolsAt H) → AllByRecursion (IsHeld s.kept) s.shelf → AnswerHeld (with_found found s.kept) number quiet (option_map news_of found) × AllByRecursion (IsHeld (with_found found s.kept)) s.shelf
  found-held number quiet None s held = (tt, held)
  found-held number quiet (Some found) s held = ((holds-rule H).new_held found.held s.kept, (holds-rule H).keep_held found.held s.kept s.shelf held)

  found-rising : (found : Option (Found H)) (s : SpoolsAt H) → IfSome found (IsNew s) → AreRising s.kept → AreRising (with_found found s.kept)
  found-rising None s new rising = rising
  found-rising (Some found) s new rising = (holds-rule H).keep found.held s.kept new rising

  answer-board_held : (number q floor : ℕ) (found : Option (Found H)) (s : SpoolsAt H) → IsSound s → BoardHeld (with_found found s.kept) (answer_board number q floor found s)
  answer-board_held number q floor found s i =
      let quiet : Quiet = record { q = q; floor = floor } in
      let both = found-held number quiet found s i.held in
      (sent-held (with_found found s.kept)).answer number quiet (option_map news_of found) (board_of s) both.0 (both.1, tt)

  sound-answer : (number q floor : ℕ) (found : Option (Found H)) (s : SpoolsAt H) → IfSome found (IsNew s) → IsSound s → IsSound (answer_after number q floor found s)
  sound-answer number q floor found s new i =
      let b = board_of s in
      let quiet : Quiet = record { q = q; floor = floor } in
      let news = option_map news_of found in
      sound (answer_board number q floor found s) (with_found found s.kept)
      (record {
        order = order-kept.answer number quiet news b tt i.order;
        whole = whole-kept.answer number quiet news b tt i.whole;
        attended = attended-kept.answer number quiet news b tt i.attended;
        restful = all-restful.answer number quiet news b i.restful;
        apart = apart-kept.answer number quiet news b tt i.apart;
        once = λ n. fewer n b (answer_board number q floor found s) refl (tally-kept.answer n number quiet news b) (i.once n);
      })
      (answer-board_held number q floor found s i).0
      (found-rising found s new i.rising)

  sound-idle : (s : SpoolsAt H) → IsSound s → IsSound (without_idle s)
  sound-idle s i = sound (board_of s) (without_first (is_idle s.shelf) s.kept) (well s i) ((holds-rule H).take_held s.kept s.shelf i.held) ((holds-rule H).take s.kept s.shelf i.rising)

pub all-sound : (H : Type 0) → KeepsSound H
all-sound H = record {
  empty = λ workers first. record { order = tt; whole = tt; attended = tt; restful = tt; apart = record { once = λ n. omega arith; below = λ n l. refl }; once = λ k. omega arith; held = tt; rising = tt };
  arrive = λ k list start once s new i. sound-arrive {H = H} k list start once s new i;
  answer = λ number q floor found s new i. sound-answer {H = H} number q floor found s new i;
  edge_answer = λ number floor last s i. sound-edge {H = H} number floor last s i;
  notice = λ c found s new i. sound-notice {H = H} c found s new i;
  removal = λ c members s i. sound-removal {H = H} c members s i;
  depart = λ k s i. sound-depart {H = H} k s i;
  idle = λ s i. sound-idle {H = H} s i;
  answer_held = λ number q floor found s i. (answer-board_held {H = H} number q floor found s i).1;
  notice_held = λ c found s i. (notice-board_held {H = H} c found s i).1;
}
