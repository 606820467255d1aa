-- Each call leaves a subscriber the stage that the spools say.
use Rattle.std.proofs.Common.{◌≡◌, ℕ, ◌+◌, ◌≤◌, Bool, true, false, cond, not, List, [], ◌∷◌, ◌++◌, refl, sym, ap, ◌∙◌, subst, arith, Option, Some, None, find, insert, length, ◌==◌}
use Rattle.std.specs.Prelude.{fold}
use Rattle.std.specs.List.{AllByRecursion}
use Rattle.std.specs.Option.{option_map}
use Rattle.std.proofs.lemmas.List.Sums.{fold-append}
use Rattle.std.proofs.lemmas.Bool.Decides.{nat_tests}
use Rattle.nc_types.specs.Id.{is_past}
use Rattle.nc_types.specs.Cursor.{CursorAt}
use Rattle.nc_types.specs.declared.start.Start.{Start}
use Rattle.nc_types.specs.declared.start.Start.TheVariants as starts
use Rattle.nc_journal.specs.Standing.{Stage, Starting, Standing, Over, started, served}
use Rattle.nc_spool_state.specs.declared.place.Quiet.{Quiet}
use Rattle.nc_spool_state.specs.declared.place.Place.TheVariants.{Asked}
use Rattle.nc_spool_state.specs.declared.spool.Reader.{Reader}
use Rattle.nc_spool_state.specs.declared.choice.Find.{Find}
use Rattle.nc_spool_state.specs.declared.choice.Choice.{Choice}
use Rattle.nc_spool_state.specs.declared.choice.Choice.TheVariants.{Wait, Fence, Send}
use Rattle.nc_spool_state.specs.declared.hear.News.{News}
use Rattle.nc_spool_state.specs.declared.hear.Heard.{Heard}
use Rattle.nc_spool_state.specs.declared.hear.Heard.TheVariants.{Stays, Forgets, Looks, Finds}
use Rattle.nc_spool_state.specs.declared.edge.Edge.{Edge}
use Rattle.nc_spool_state.specs.declared.edge.Edge.TheVariants.{Known}
use Rattle.nc_spool_state.specs.Key.{KeyAt, name_at, id_at, place_of}
use Rattle.nc_spool_state.specs.Place.{place_awaiting}
use Rattle.nc_spool_state.specs.Spool.{SpoolAt, is_of, is_reader, awaits, has_reader, with_reader, without_reader, place_above, place_at, with_place}
use Rattle.nc_spool_state.specs.Shelf.{spool_of, without_first, place_before, with_spool, with_read_spool, keys_with}
use Rattle.nc_spool_state.specs.Choice.{choice}
use Rattle.nc_spool_state.specs.Edge.{is_any_awaited, is_any_behind, newest_cursor, edge_awaiting}
use Rattle.nc_spool_state.specs.Hear.{learned, notice_says, gone_says}
use Rattle.nc_spool_state.specs.Starting.{StartingAt, with_edge, start_awaits, starts_with}
use Rattle.nc_spool.specs.declared.ask.Asking.{Asking}
use Rattle.nc_spool.specs.declared.fact.Fact.{Fact}
use Rattle.nc_spool.specs.declared.fact.Fact.TheVariants as facts
use Rattle.nc_spool.specs.declared.board.Board.{Board}
use Rattle.nc_spool.specs.Board.{told, shelved, asked_from, fresh_spool, standing, opened, entered, ended}
use Rattle.nc_spool.specs.Decide.{fence_looks, fenced_places, delivery, sending, sent_one, decided, decided_by}
use Rattle.nc_spool.specs.Hear.{looked_again, heeded, noticed_at, noticed_by, noticed_in, noticed_place, emptied_at, emptied_by, emptied_in, emptied_place, answered, answered_by, answered_in, answered_at}
use Rattle.nc_spool.specs.Depart.{other_names, names_with, names_by, start_names, left, left_by, departed, departed_by, member_gone, member_gone_by, gone}
use Rattle.nc_spool.specs.Arrive.{oldest_cursor, joined, started_by, arrived}
use Rattle.nc_spool.specs.Newest.{begun, parked, fresh_edges, behind_edges, edges_from, edges_behind, second_by, answered_all, went_on, edge_heard, edge_heard_at, edge_answered, edge_answered_by}
use Rattle.nc_spool.specs.Calls.{SpoolsAt, board_of, news_of, arrive_board}
use Rattle.nc_spool_laws.proofs.Closing.{out as without, out_start}
use Rattle.nc_spool_laws.specs.Numbers.{one, total}
use Rattle.nc_spool_laws.specs.Tally.{reader_at, readers_of, start_at, stands}
use Rattle.nc_spool_laws.proofs.Lists.{all-append, all-insert, all-without, all-found, none-without, found-passes}
use Rattle.nc_spool_laws.proofs.Totals.{total-insert, total-push, total-without}
use Rattle.nc_spool_laws.proofs.Same.{asked-shelf, asked-starts, parted-shelf, parted-starts, joined-shelf, joined-starts, fences-shelf, fences-starts, edges-shelf, edges-starts, behinds-shelf, behinds-starts}
use Rattle.nc_spool_laws.proofs.SameKey.{key_same}
use Rattle.nc_spool_members.specs.Stages.{stage_by, stage_told, ReaderStands, SpoolStands, StartStarts, HasStage, CallsStage, KeepStages}
use Rattle.nc_spool_members.proofs.Quiet as quiet
use Rattle.nc_spool_members.proofs.Leaving.{leaves-readers, no-readers, all-kept}

module _ (k : ℕ) where
  -- ---- who is nowhere has any stage there

  absent-readers : (stage : Stage) (key : KeyAt) (readers : List Reader) → total (reader_at k) readers ≡ 0 → AllByRecursion (ReaderStands k stage key) readers
  absent-readers stage key [] e = tt
  absent-readers stage key (r ∷ readers) e = (by (is_reader k r) e, absent-readers stage key readers (omega (arith, e)))
    where
      by : (t : Bool) → one t + total (reader_at k) readers ≡ 0 → t ≡ true → stage ≡ Standing key.list r.once key.cursor
      by true e was = absurd (omega (arith, e))
      by false e was = absurd cc

  absent-shelf : (stage : Stage) (shelf : List SpoolAt) → total (readers_of k) shelf ≡ 0 → AllByRecursion (SpoolStands k stage) shelf
  absent-shelf stage [] e = tt
  absent-shelf stage (s ∷ shelf) e = (absent-readers stage s.key s.readers (omega (arith, e)), absent-shelf stage shelf (omega (arith, e)))

  absent-starts : (stage : Stage) (sts : List StartingAt) → total (start_at k) sts ≡ 0 → AllByRecursion (StartStarts k stage) sts
  absent-starts stage [] e = tt
  absent-starts stage (s ∷ sts) e = (by (starts_with k s) e, absent-starts stage sts (omega (arith, e)))
    where
      by : (t : Bool) → one t + total (start_at k) sts ≡ 0 → t ≡ true → stage ≡ Starting s.list s.reader.once starts.Newest
      by true e was = absurd (omega (arith, e))
      by false e was = absurd cc

module _ (k : ℕ) (out : Stage) where
  -- a subscriber has this stage by some spools and starts, while it is `n` times in hand
  pub record Placed (n : ℕ) (stage : Stage) (shelf : List SpoolAt) (sts : List StartingAt) : Type 0 where
    pub few : n + (total (readers_of k) shelf + total (start_at k) sts) ≤ 1
    pub over : 1 ≤ n + (total (readers_of k) shelf + total (start_at k) sts) → out ≡ Over
    pub stand : AllByRecursion (SpoolStands k stage) shelf
    pub start : AllByRecursion (StartStarts k stage) sts
    pub away : n + (total (readers_of k) shelf + total (start_at k) sts) ≡ 0 → stage ≡ out

  renumber : (m n : ℕ) (stage : Stage) (shelf : List SpoolAt) (sts : List StartingAt) → m ≡ n → Placed m stage shelf sts → Placed n stage shelf sts
  renumber m n stage shelf sts e p = subst (λ (i : ℕ). Placed i stage shelf sts) e p

  -- who is in hand may be told any stage
  restage : (n : ℕ) (stage new : Stage) (shelf : List SpoolAt) (sts : List StartingAt) → 1 ≤ n → Placed n stage shelf sts → Placed n new shelf sts
  restage n stage new shelf sts some p = record {
    few = p.few;
    over = p.over;
    stand = absent-shelf k new shelf (omega (arith, some, p.few));
    start = absent-starts k new sts (omega (arith, some, p.few));
    away = λ e. absurd (omega (arith, some, e));
  }

  put : (n i : ℕ) (stage : Stage) (s : SpoolAt) (shelf : List SpoolAt) (sts : List StartingAt) → Placed (readers_of k s + n) stage shelf sts → SpoolStands k stage s → Placed n stage (insert shelf i s) sts
  put n i stage s shelf sts p each =
      let more = total-insert (readers_of k) shelf i s in
      record {
        few = omega (arith, more, p.few);
        over = λ e. p.over (omega (arith, more, e));
        stand = all-insert (SpoolStands k stage) shelf i s each p.stand;
        start = p.start;
        away = λ e. p.away (omega (arith, more, e));
      }

  take_out : (n : ℕ) (stage : Stage) (test : SpoolAt → Bool) (s : SpoolAt) (shelf : List SpoolAt) (sts : List StartingAt) → find test shelf ≡ Some s → Placed n stage shelf sts → Placed (readers_of k s + n) stage (without_first test shelf) sts
  take_out n stage test s shelf sts was p =
      let less = total-without (readers_of k) test shelf s was in
      record {
        few = omega (arith, less, p.few);
        over = λ e. p.over (omega (arith, less, e));
        stand = all-without (SpoolStands k stage) test shelf p.stand;
        start = p.start;
        away = λ e. p.away (omega (arith, less, e));
      }

  put_start : (n : ℕ) (stage : Stage) (s : StartingAt) (shelf : List SpoolAt) (sts : List StartingAt) → Placed (start_at k s + n) stage shelf sts → StartStarts k stage s → Placed n stage shelf (sts ++ s ∷ [])
  put_start n stage s shelf sts p each =
      let more = total-push (start_at k) sts s in
      record {
        few = omega (arith, more, p.few);
        over = λ e. p.over (omega (arith, more, e));
        stand = p.stand;
        start = all-append (StartStarts k stage) sts (s ∷ []) p.start (each, tt);
        away = λ e. p.away (omega (arith, more, e));
      }

  take_start : (n : ℕ) (stage : Stage) (test : StartingAt → Bool) (s : StartingAt) (shelf : List SpoolAt) (sts : List StartingAt) → find test sts ≡ Some s → Placed n stage shelf sts → Placed (start_at k s + n) stage shelf (without_first test sts)
  take_start n stage test s shelf sts was p =
      let less = total-without (start_at k) test sts s was in
      record {
        few = omega (arith, less, p.few);
        over = λ e. p.over (omega (arith, less, e));
        stand = p.stand;
        start = all-without (StartStarts k stage) test sts p.start;
        away = λ e. p.away (omega (arith, less, e));
      }

module _ (k : ℕ) (out begin : Stage) where
  -- the stage by what a board has told
  abbrev now : Board → Stage
  now b = stage_told k begin b.facts

  abbrev At : ℕ → Board → Type 0
  At n b = Placed k out n (now b) b.shelf b.starts

  asks-nothing : (fs : List Fact) (asking : Asking) → stage_told k begin (fs ++ facts.Out asking ∷ []) ≡ stage_told k begin fs
  asks-nothing fs asking = fold-append (stage_by k) begin fs (facts.Out asking ∷ [])

  told-now : (fact : Fact) (b : Board) → now (told fact b) ≡ stage_by k (now b) fact
  told-now fact b = fold-append (stage_by k) begin b.facts (fact ∷ [])

  same-at : (n : ℕ) (b c : Board) → c.shelf ≡ b.shelf → c.starts ≡ b.starts → now c ≡ now b → At n b → At n c
  same-at n b c e f g p =
      subst (λ (x : Stage). Placed k out n x c.shelf c.starts) (sym g) (subst (λ (l : List StartingAt). Placed k out n (now b) c.shelf l) (sym f) (subst (λ (l : List SpoolAt). Placed k out n (now b) l b.starts) (sym e) p))

  missed-at : (n : ℕ) (test : SpoolAt → Bool) (b : Board) → find test b.shelf ≡ None → At n b → At n (without test b)
  missed-at n test b was p = subst (λ (l : List SpoolAt). Placed k out n (now b) l b.starts) (none-without test b.shelf was) p

  missed_start-at : (n : ℕ) (test : StartingAt → Bool) (b : Board) → find test b.starts ≡ None → At n b → At n (out_start test b)
  missed_start-at n test b was p = subst (λ (l : List StartingAt). Placed k out n (now b) b.shelf l) (none-without test b.starts was) p

  shelved-at : (n : ℕ) (s : SpoolAt) (b : Board) → At (readers_of k s + n) b → SpoolStands k (now b) s → At n (shelved s b)
  shelved-at n s b p each = put k out n (place_before s.key b.shelf) (now b) s b.shelf b.starts p each

  taken-at : (n : ℕ) (test : SpoolAt → Bool) (s : SpoolAt) (b : Board) → find test b.shelf ≡ Some s → At n b → At (readers_of k s + n) (without test b)
  taken-at n test s b was p = take_out k out n (now b) test s b.shelf b.starts was p

  taken-stands : (n : ℕ) (test : SpoolAt → Bool) (s : SpoolAt) (b : Board) → find test b.shelf ≡ Some s → At n b → SpoolStands k (now b) s
  taken-stands n test s b was p = all-found (SpoolStands k (now b)) test b.shelf s was p.stand

  more-readers : (r : Reader) (s : SpoolAt) → readers_of k (with_reader r s) ≡ reader_at k r + readers_of k s
  more-readers r s = total-insert (reader_at k) s.readers (place_above r.k s.readers) r

  -- ---- entering and ending

  entered-at : (n : ℕ) (key : KeyAt) (r : Reader) (b : Board) → At (reader_at k r + n) b → ReaderStands k (now b) key r → At n (entered key r b)
  entered-at n key r b p stands_there = by (spool_of key b.shelf) refl
    where
      by : (o : Option SpoolAt) → spool_of key b.shelf ≡ o → At n (shelved (with_reader r (standing o key b)) (opened o key (without (is_of key) b)))
      by None was =
          let fresh = fresh_spool b.next key in
          let old = without (is_of key) b in
          let asked = asked_from key 0 key.list old in
          let same : now asked ≡ now b = quiet.asked-read (stage_told k begin) asks-nothing key 0 key.list old in
          let there = same-at (reader_at k r + n) old asked (asked-shelf key 0 key.list old) (asked-starts key 0 key.list old) same (missed-at (reader_at k r + n) (is_of key) b was p) in
          shelved-at n (with_reader r fresh) asked (renumber k out (reader_at k r + n) (readers_of k (with_reader r fresh) + n) (now asked) asked.shelf asked.starts (omega (arith, more-readers r fresh)) there)
          (all-insert (ReaderStands k (now asked) key) [] (place_above r.k []) r (λ e. same ∙ stands_there e) tt)
      by (Some s) was =
          let old = without (is_of key) b in
          let is = key_same key s.key (found-passes (is_of key) b.shelf s was) in
          shelved-at n (with_reader r s) old (renumber k out (readers_of k s + (reader_at k r + n)) (readers_of k (with_reader r s) + n) (now old) old.shelf old.starts (omega (arith, more-readers r s)) (taken-at (reader_at k r + n) (is_of key) s b was p))
          (all-insert (ReaderStands k (now b) s.key) s.readers (place_above r.k s.readers) r (subst (λ (x : KeyAt). ReaderStands k (now b) x r) is stands_there) (taken-stands (reader_at k r + n) (is_of key) s b was p))

  ended-now : (j : ℕ) (deleted : Bool) (names : List (List ℕ)) (b : Board) → now (ended j deleted names b) ≡ cond (j == k) Over (now b)
  ended-now j deleted names b = quiet.parted-read (stage_told k begin) asks-nothing j names (told (facts.Ended j deleted) b) ∙ told-now (facts.Ended j deleted) b

  ended-at : (n j : ℕ) (deleted : Bool) (names : List (List ℕ)) (b : Board) → At (one (j == k) + n) b → At n (ended j deleted names b)
  ended-at n j deleted names b p =
      let first = told (facts.Ended j deleted) b in
      let new = ended j deleted names b in
      subst (λ (x : Stage). Placed k out n x new.shelf new.starts) (sym (ended-now j deleted names b))
      (subst (λ (l : List StartingAt). Placed k out n (cond (j == k) Over (now b)) new.shelf l) (sym (parted-starts j names first))
      (subst (λ (l : List SpoolAt). Placed k out n (cond (j == k) Over (now b)) l b.starts) (sym (parted-shelf j names first)) (by (j == k) p)))
    where
      by : (t : Bool) → Placed k out (one t + n) (now b) b.shelf b.starts → Placed k out n (cond t Over (now b)) b.shelf b.starts
      by true q = record {
        few = omega (arith, q.few);
        over = λ e. q.over (omega (arith, e));
        stand = absent-shelf k Over b.shelf (omega (arith, q.few));
        start = absent-starts k Over b.starts (omega (arith, q.few));
        away = λ e. sym (q.over (omega arith));
      }
      by false q = renumber k out (0 + n) n (now b) b.shelf b.starts (omega arith) q

  -- ---- sending

  abbrev told_sent : Find → SpoolAt → Reader → Board → Board
  told_sent find s r b = told (facts.Sent (sending (delivery find s) r)) b

  abbrev sent_cursor : Find → SpoolAt → CursorAt
  sent_cursor find s = (delivery find s).key.cursor

  sent-now : (find : Find) (s : SpoolAt) (r : Reader) (b : Board) → now (told (facts.Sent (sending (delivery find s) r)) b) ≡ cond (is_reader k r) (served (delivery find s).key.cursor (now b)) (now b)
  sent-now find s r b = told-now (facts.Sent (sending (delivery find s) r)) b

  sent_one-at : (n : ℕ) (find : Find) (s : SpoolAt) (r : Reader) (b : Board) → ReaderStands k (now b) s.key r → At (reader_at k r + n) b → At n (sent_one (delivery find s) b r)
  sent_one-at n find s r b stands_there p = once r.once refl
    where
      told_there : At (reader_at k r + n) (told_sent find s r b)
      told_there = subst (λ (x : Stage). Placed k out (reader_at k r + n) x b.shelf b.starts) (sym (sent-now find s r b)) (by (is_reader k r) p)
        where
          by : (t : Bool) → Placed k out (one t + n) (now b) b.shelf b.starts → Placed k out (one t + n) (cond t (served (sent_cursor find s) (now b)) (now b)) b.shelf b.starts
          by true q = restage k out (one true + n) (now b) (served (sent_cursor find s) (now b)) b.shelf b.starts (omega arith) q
          by false q = q

      moves : r.once ≡ false → ReaderStands k (now (told_sent find s r b)) (delivery find s).key r
      moves stays e =
          sent-now find s r b ∙ ap (λ t. cond t (served (sent_cursor find s) (now b)) (now b)) e ∙ ap (served (sent_cursor find s)) (stands_there e)
          ∙ ap (λ t. served (sent_cursor find s) (Standing s.key.list t s.key.cursor)) stays ∙ ap (λ t. Standing s.key.list t (sent_cursor find s)) (sym stays)

      once : (t : Bool) → r.once ≡ t → At n (cond t (ended r.k false s.key.list (told_sent find s r b)) (entered (delivery find s).key r (told_sent find s r b)))
      once true was = ended-at n r.k false s.key.list (told_sent find s r b) told_there
      once false was = entered-at n (delivery find s).key r (told_sent find s r b) told_there (moves was)

  other-now : (find : Find) (s : SpoolAt) (r : Reader) (b : Board) → is_reader k r ≡ false → now (sent_one (delivery find s) b r) ≡ now b
  other-now find s r b other = once r.once
    where
      told_same : now (told_sent find s r b) ≡ now b
      told_same = sent-now find s r b ∙ ap (λ t. cond t (served (delivery find s).key.cursor (now b)) (now b)) other

      once : (t : Bool) → now (cond t (ended r.k false s.key.list (told_sent find s r b)) (entered (delivery find s).key r (told_sent find s r b))) ≡ now b
      once true = ended-now r.k false s.key.list (told_sent find s r b) ∙ ap (λ t. cond t Over (now (told_sent find s r b))) other ∙ told_same
      once false = quiet.entered-read (stage_told k begin) asks-nothing (delivery find s).key r (told_sent find s r b) ∙ told_same

  sent-at : (n : ℕ) (find : Find) (s : SpoolAt) (readers : List Reader) (b : Board) → AllByRecursion (ReaderStands k (now b) s.key) readers → At (total (reader_at k) readers + n) b → At n (fold (sent_one (delivery find s)) b readers)
  sent-at n find s [] b each p = renumber k out (0 + n) n (now b) b.shelf b.starts (omega arith) p
  sent-at n find s (r ∷ readers) b each p =
      let behind = total (reader_at k) readers + n in
      let q = renumber k out (reader_at k r + total (reader_at k) readers + n) (reader_at k r + behind) (now b) b.shelf b.starts (omega arith) p in
      sent-at n find s readers (sent_one (delivery find s) b r) (rest (is_reader k r) refl) (sent_one-at behind find s r b each.0 q)
    where
      rest : (t : Bool) → is_reader k r ≡ t → AllByRecursion (ReaderStands k (now (sent_one (delivery find s) b r)) s.key) readers
      rest true was = absent-readers k _ s.key readers (omega (arith, ap one was, p.few))
      rest false was = subst (λ (x : Stage). AllByRecursion (ReaderStands k x s.key) readers) (sym (other-now find s r b was)) each.1

  -- ---- deciding and hearing

  decided-at : (n : ℕ) (s : SpoolAt) (b : Board) → SpoolStands k (now b) s → At (readers_of k s + n) b → At n (decided s b)
  decided-at n s b each p = by (choice s.places)
    where
      by : (o : Choice) → At n (decided_by o s b)
      by Wait = shelved-at n s b p each
      by (Fence time) =
          let looked = fence_looks time s.key 0 s.places b in
          let same : now looked ≡ now b = quiet.fences-read (stage_told k begin) asks-nothing time s.key 0 s.places b in
          shelved-at n (record s { places = fenced_places time s.key 0 s.places b }) looked
          (same-at (readers_of k s + n) b looked (fences-shelf time s.key 0 s.places b) (fences-starts time s.key 0 s.places b) same p) (subst (λ (x : Stage). SpoolStands k x s) (sym same) each)
      by (Send find) = sent-at n find s s.readers b each p

  heeded-at : (n : ℕ) (h : Heard) (j : ℕ) (s : SpoolAt) (b : Board) → SpoolStands k (now b) s → At (readers_of k s + n) b → At n (heeded h j s b)
  heeded-at n Stays j s b each p = shelved-at n s b p each
  heeded-at n (Forgets place) j s b each p = shelved-at n (with_place j place s) b p each
  heeded-at n Looks j s b each p =
      let looked = looked_again s.key j b in
      let same : now looked ≡ now b = quiet.looked-read (stage_told k begin) asks-nothing (name_at s.key j) (id_at s.key j) 0 b in
      shelved-at n (with_place j (Asked b.next None) s) looked (same-at (readers_of k s + n) b looked refl refl same p) (subst (λ (x : Stage). SpoolStands k x s) (sym same) each)
  heeded-at n (Finds place) j s b each p = decided-at n (with_place j place s) b each p

  noticed_in-at : (n : ℕ) (c : List ℕ) (news : News) (s : SpoolAt) (b : Board) → SpoolStands k (now b) s → At (readers_of k s + n) b → At n (noticed_in c news s b)
  noticed_in-at n c news s b each p = by (place_of c s.key.list)
    where
      by : (o : Option ℕ) → At n (noticed_place o news s b)
      by None = shelved-at n s b p each
      by (Some j) = heeded-at n (notice_says news (is_past news.id (id_at s.key j)) (place_at s j)) j s b each p

  noticed_at-at : (n : ℕ) (c : List ℕ) (news : News) (b : Board) (key : KeyAt) → At n b → At n (noticed_at c news b key)
  noticed_at-at n c news b key p = by (spool_of key b.shelf) refl
    where
      by : (o : Option SpoolAt) → spool_of key b.shelf ≡ o → At n (noticed_by o c news (without (is_of key) b))
      by None was = missed-at n (is_of key) b was p
      by (Some s) was = noticed_in-at n c news s (without (is_of key) b) (taken-stands n (is_of key) s b was p) (taken-at n (is_of key) s b was p)

  noticed_keys-at : (n : ℕ) (c : List ℕ) (news : News) (keys : List KeyAt) (b : Board) → At n b → At n (fold (noticed_at c news) b keys)
  noticed_keys-at n c news [] b p = p
  noticed_keys-at n c news (key ∷ keys) b p = noticed_keys-at n c news keys (noticed_at c news b key) (noticed_at-at n c news b key p)

  answered_in-at : (n number : ℕ) (told_quiet : Quiet) (news : Option News) (s : SpoolAt) (b : Board) → SpoolStands k (now b) s → At (readers_of k s + n) b → At n (answered_in number told_quiet news s b)
  answered_in-at n number told_quiet news s b each p = by (place_awaiting number s.places)
    where
      by : (o : Option ℕ) → At n (answered_at o told_quiet news s b)
      by None = shelved-at n s b p each
      by (Some j) = decided-at n (with_place j (learned (id_at s.key j) told_quiet news) s) b each p

  answered-here : (n number : ℕ) (told_quiet : Quiet) (news : Option News) (b : Board) → At n b → At n (answered number told_quiet news b)
  answered-here n number told_quiet news b p = by (find (awaits number) b.shelf) refl
    where
      by : (o : Option SpoolAt) → find (awaits number) b.shelf ≡ o → At n (answered_by o number told_quiet news (without (awaits number) b))
      by None was = missed-at n (awaits number) b was p
      by (Some s) was = answered_in-at n number told_quiet news s (without (awaits number) b) (taken-stands n (awaits number) s b was p) (taken-at n (awaits number) s b was p)

  -- ---- beginning

  abbrev told_start : Reader → KeyAt → Board → Board
  told_start r key b = told (facts.Started r.k key.cursor) b

  begun-at : (n : ℕ) (start : Start) (r : Reader) (key : KeyAt) (b : Board) → (is_reader k r ≡ true → now b ≡ Starting key.list r.once start) → At (reader_at k r + n) b → At n (begun r key b)
  begun-at n start r key b starts_there p = entered-at n key r (told_start r key b) told_there stands_there
    where
      told_first : now (told_start r key b) ≡ cond (is_reader k r) (started key.cursor (now b)) (now b)
      told_first = told-now (facts.Started r.k key.cursor) b

      told_there : At (reader_at k r + n) (told_start r key b)
      told_there = subst (λ (x : Stage). Placed k out (reader_at k r + n) x b.shelf b.starts) (sym told_first) (by (is_reader k r) p)
        where
          by : (t : Bool) → Placed k out (one t + n) (now b) b.shelf b.starts → Placed k out (one t + n) (cond t (started key.cursor (now b)) (now b)) b.shelf b.starts
          by true q = restage k out (one true + n) (now b) (started key.cursor (now b)) b.shelf b.starts (omega arith) q
          by false q = q

      stands_there : ReaderStands k (now (told_start r key b)) key r
      stands_there e = told_first ∙ ap (λ t. cond t (started key.cursor (now b)) (now b)) e ∙ ap (started key.cursor) (starts_there e)

  started-at : (n : ℕ) (start : Start) (r : Reader) (list : List (List ℕ)) (b : Board) → (is_reader k r ≡ true → now b ≡ Starting list r.once start) → At (reader_at k r + n) b → At n (started_by start r list b)
  started-at n starts.Oldest r list b starts_there p = begun-at n starts.Oldest r (record { list = list; cursor = oldest_cursor (length list) }) b starts_there p
  started-at n starts.Newest r list b starts_there p =
      let st : StartingAt = record { reader = r; list = list; edges = fresh_edges b.next list; cursor = None } in
      let asked = edges_from r.k list b in
      let same : now asked ≡ now b = quiet.edges-read (stage_told k begin) asks-nothing r.k list b in
      put_start k out n (now asked) st asked.shelf asked.starts (same-at (reader_at k r + n) b asked (edges-shelf r.k list b) (edges-starts r.k list b) same p) (λ e. same ∙ starts_there e)
  started-at n (starts.Given cursor) r list b starts_there p = begun-at n (starts.Given cursor) r (record { list = list; cursor = cursor }) b starts_there p

  arrived-at : (n : ℕ) (start : Start) (r : Reader) (list : List (List ℕ)) (b : Board) → (is_reader k r ≡ true → now b ≡ Starting list r.once start) → At (reader_at k r + n) b → At n (arrived r list start b)
  arrived-at n start r list b starts_there p =
      let after = fold (joined r.k) b list in
      let same : now after ≡ now b = quiet.joined-read (stage_told k begin) asks-nothing r.k list b in
      started-at n start r list after (λ e. same ∙ starts_there e) (same-at (reader_at k r + n) b after (joined-shelf r.k list b) (joined-starts r.k list b) same p)

  second-at : (n : ℕ) (t : Bool) (cursor : CursorAt) (s : StartingAt) (b : Board) → StartStarts k (now b) s → At (start_at k s + n) b → At n (second_by t s.reader s.list s.edges cursor b)
  second-at n true cursor s b each p =
      let asked = edges_behind cursor.time s.reader.k s.list 0 s.edges b in
      let st : StartingAt = record s { edges = behind_edges cursor.time s.reader.k s.list 0 s.edges b; cursor = Some cursor } in
      let same : now asked ≡ now b = quiet.behinds-read (stage_told k begin) asks-nothing cursor.time s.reader.k s.list 0 s.edges b in
      put_start k out n (now asked) st asked.shelf asked.starts
      (same-at (start_at k s + n) b asked (behinds-shelf cursor.time s.reader.k s.list 0 s.edges b) (behinds-starts cursor.time s.reader.k s.list 0 s.edges b) same p) (λ e. same ∙ each e)
  second-at n false cursor s b each p = begun-at n starts.Newest s.reader (record { list = s.list; cursor = cursor }) b each p

  went_on-at : (n : ℕ) (s : StartingAt) (b : Board) → StartStarts k (now b) s → At (start_at k s + n) b → At n (went_on s b)
  went_on-at n s b each p = by (is_any_awaited s.edges)
    where
      all : (o : Option CursorAt) → At n (answered_all o s.reader s.list s.edges b)
      all None = second-at n (is_any_behind (newest_cursor s.edges).time s.edges) (newest_cursor s.edges) s b each p
      all (Some cursor) = begun-at n starts.Newest s.reader (record { list = s.list; cursor = cursor }) b each p

      by : (t : Bool) → At n (cond t (parked s b) (answered_all s.cursor s.reader s.list s.edges b))
      by true = put_start k out n (now b) s b.shelf b.starts p each
      by false = all s.cursor

  edge_heard-at : (n number : ℕ) (edge : Edge) (s : StartingAt) (b : Board) → StartStarts k (now b) s → At (start_at k s + n) b → At n (edge_heard number edge s b)
  edge_heard-at n number edge s b each p = by (edge_awaiting number s.edges)
    where
      by : (o : Option ℕ) → At n (edge_heard_at o edge s b)
      by None = put_start k out n (now b) s b.shelf b.starts p each
      by (Some j) = went_on-at n (with_edge j edge s) b each p

  edged-at : (n number : ℕ) (edge : Edge) (b : Board) → At n b → At n (edge_answered number edge b)
  edged-at n number edge b p = by (find (start_awaits number) b.starts) refl
    where
      by : (o : Option StartingAt) → find (start_awaits number) b.starts ≡ o → At n (edge_answered_by o number edge (out_start (start_awaits number) b))
      by None was = missed_start-at n (start_awaits number) b was p
      by (Some s) was = edge_heard-at n number edge s (out_start (start_awaits number) b) (all-found (StartStarts k (now b)) (start_awaits number) b.starts s was p.start)
          (take_start k out n (now b) (start_awaits number) s b.shelf b.starts was p)

-- ---- leaving

module _ (k : ℕ) (out begin : Stage) where
  abbrev stage_now : Board → Stage
  stage_now b = stage_told k begin b.facts

  abbrev Here : ℕ → Board → Type 0
  Here n b = Placed k out n (stage_now b) b.shelf b.starts

  -- who is there is in hand once it left
  abbrev in_hand : ℕ → Option (List (List ℕ)) → ℕ
  in_hand j None = 0
  in_hand j (Some names) = one (j == k)

  back-at : (n : ℕ) (s : SpoolAt) (b : Board) → Here (readers_of k s + n) b → SpoolStands k (stage_now b) s → Here n (record b { shelf = with_read_spool s b.shelf })
  back-at n s b p each = by (length s.readers == 0) refl
    where
      by : (t : Bool) → (length s.readers == 0) ≡ t → Placed k out n (stage_now b) (cond t b.shelf (with_spool s b.shelf)) b.starts
      by true was = renumber k out (readers_of k s + n) n (stage_now b) b.shelf b.starts (omega (arith, no-readers k s.readers was)) p
      by false was = put k out n (place_before s.key b.shelf) (stage_now b) s b.shelf b.starts p each

  left-at : (n j : ℕ) (b : Board) → Here n b → Here (in_hand j (names_with j b) + n) (left j b)
  left-at n j b p = by (find (has_reader j) b.shelf) refl
    where
      same_start : (st : StartingAt) → starts_with j st ≡ true → start_at k st ≡ one (j == k)
      same_start st was = ap (λ (i : ℕ). one (i == k)) (equal st.reader.k j was)
        where
          equal : (i j : ℕ) → (i == j) ≡ true → i ≡ j
          equal i j e = grind (arith, nat_tests)

      start : (o : Option StartingAt) → find (starts_with j) b.starts ≡ o → Here n (without (has_reader j) b) → Here (in_hand j (start_names o) + n) (out_start (starts_with j) (without (has_reader j) b))
      start None was q =
          let less = subst (λ (l : List StartingAt). Placed k out n (stage_now b) (without_first (has_reader j) b.shelf) l) (none-without (starts_with j) b.starts was) q in
          renumber k out n (0 + n) (stage_now b) (without_first (has_reader j) b.shelf) (without_first (starts_with j) b.starts) (omega arith) less
      start (Some st) was q =
          renumber k out (start_at k st + n) (one (j == k) + n) (stage_now b) (without_first (has_reader j) b.shelf) (without_first (starts_with j) b.starts) (omega (arith, same_start st (found-passes (starts_with j) b.starts st was)))
          (take_start k out n (stage_now b) (starts_with j) st (without_first (has_reader j) b.shelf) b.starts was q)

      by : (o : Option SpoolAt) → find (has_reader j) b.shelf ≡ o → Here (in_hand j (names_by o (find (starts_with j) b.starts)) + n) (left_by o j (without (has_reader j) b))
      by None was = start (find (starts_with j) b.starts) refl (subst (λ (l : List SpoolAt). Placed k out n (stage_now b) l b.starts) (none-without (has_reader j) b.shelf was) p)
      by (Some s) was =
          let old = without (has_reader j) b in
          let taken = take_out k out n (stage_now b) (has_reader j) s b.shelf b.starts was p in
          let each = all-found (SpoolStands k (stage_now b)) (has_reader j) b.shelf s was p.stand in
          let less = leaves-readers k j s (found-passes (has_reader j) b.shelf s was) (omega (arith, taken.few)) in
          back-at (one (j == k) + n) (without_reader j s) old
          (renumber k out (readers_of k s + n) (readers_of k (without_reader j s) + (one (j == k) + n)) (stage_now b) old.shelf old.starts (omega (arith, less)) taken)
          (all-kept (ReaderStands k (stage_now b) s.key) (λ r. not (is_reader j r)) s.readers each)

  departed-at : (n j : ℕ) (b : Board) → Here n b → Here n (departed j b)
  departed-at n j b p = by (names_with j b) (left-at n j b p)
    where
      by : (o : Option (List (List ℕ))) → Here (in_hand j o + n) (left j b) → Here n (departed_by o j (left j b))
      by None q = renumber k out (0 + n) n (stage_now (left j b)) (left j b).shelf (left j b).starts (omega arith) q
      by (Some names) q = ended-at k out begin n j false names (left j b) q

  member_gone-at : (n : ℕ) (c : List ℕ) (j : ℕ) (b : Board) → Here n b → Here n (member_gone c b j)
  member_gone-at n c j b p = by (names_with j b) (left-at n j b p)
    where
      by : (o : Option (List (List ℕ))) → Here (in_hand j o + n) (left j b) → Here n (member_gone_by o c j (left j b))
      by None q = renumber k out (0 + n) n (stage_now (left j b)) (left j b).shelf (left j b).starts (omega arith) q
      by (Some names) q = ended-at k out begin n j true (other_names c names) (left j b) q

  members_gone-at : (n : ℕ) (c members : List ℕ) (b : Board) → Here n b → Here n (fold (member_gone c) b members)
  members_gone-at n c [] b p = p
  members_gone-at n c (j ∷ members) b p = members_gone-at n c members (member_gone c b j) (member_gone-at n c j b p)

  emptied_in-at : (n : ℕ) (c : List ℕ) (s : SpoolAt) (b : Board) → SpoolStands k (stage_now b) s → Here (readers_of k s + n) b → Here n (emptied_in c s b)
  emptied_in-at n c s b each p = by (place_of c s.key.list)
    where
      by : (o : Option ℕ) → Here n (emptied_place o s b)
      by None = put k out n (place_before s.key b.shelf) (stage_now b) s b.shelf b.starts p each
      by (Some j) = heeded-at k out begin n (gone_says (place_at s j)) j s b each p

  emptied_at-at : (n : ℕ) (c : List ℕ) (b : Board) (key : KeyAt) → Here n b → Here n (emptied_at c b key)
  emptied_at-at n c b key p = by (spool_of key b.shelf) refl
    where
      by : (o : Option SpoolAt) → spool_of key b.shelf ≡ o → Here n (emptied_by o c (without (is_of key) b))
      by None was = missed-at k out begin n (is_of key) b was p
      by (Some s) was = emptied_in-at n c s (without (is_of key) b) (taken-stands k out begin n (is_of key) s b was p) (taken-at k out begin n (is_of key) s b was p)

  emptied_keys-at : (n : ℕ) (c : List ℕ) (keys : List KeyAt) (b : Board) → Here n b → Here n (fold (emptied_at c) b keys)
  emptied_keys-at n c [] b p = p
  emptied_keys-at n c (key ∷ keys) b p = emptied_keys-at n c keys (emptied_at c b key) (emptied_at-at n c b key p)

  gone-at : (n : ℕ) (c members : List ℕ) (b : Board) → Here n b → Here n (gone c members b)
  gone-at n c members b p = emptied_keys-at n c (keys_with c (fold (member_gone c) b members).shelf) (fold (member_gone c) b members) (members_gone-at n c members b p)

-- ---- the calls

module _ (k : ℕ) (out : Stage) where
  placed : (stage : Stage) (b : Board) → HasStage k out stage b → Placed k out 0 stage b.shelf b.starts
  placed stage b has = record {
    few = omega (arith, has.few);
    over = λ e. has.over (omega (arith, e));
    stand = has.standing;
    start = has.starting;
    away = λ e. has.away (omega (arith, e));
  }

  staged : (stage : Stage) (b : Board) → Placed k out 0 stage b.shelf b.starts → HasStage k out stage b
  staged stage b p = record {
    few = omega (arith, p.few);
    over = λ e. p.over (omega (arith, e));
    standing = p.stand;
    starting = p.start;
    away = λ e. p.away (omega (arith, e));
  }

  module _ {H : Type 0} (stage : Stage) (s : SpoolsAt H) (has : HasStage k out stage (board_of s)) where
    here : Placed k out 0 stage s.shelf s.starts
    here = placed stage (board_of s) has

    pub calls-stage : CallsStage k out stage s
    calls-stage = record {
      arrive = λ n list start once other.
          let r : Reader = record { k = n; once = once } in
          let none : 0 ≡ reader_at k r + 0 = ap (λ t. one t + 0) (sym other) in
          staged _ _ (arrived-at k out stage 0 start r list (board_of s) (λ e. absurd (clash other e)) (renumber k out 0 (reader_at k r + 0) stage s.shelf s.starts none here));
      answer = λ number q floor found. staged _ _ (answered-here k out stage 0 number (record { q = q; floor = floor }) (option_map news_of found) (board_of s) here);
      edge_answer = λ number floor last. staged _ _ (edged-at k out stage 0 number (Known last floor) (board_of s) here);
      notice = λ d found. staged _ _ (noticed_keys-at k out stage 0 d (news_of found) (keys_with d s.shelf) (board_of s) here);
      removal = λ d members. staged _ _ (gone-at k out stage 0 d members (board_of s) here);
      depart = λ n. staged _ _ (departed-at k out stage 0 n (board_of s) here);
    }
      where
        clash : {t : Bool} → t ≡ false → t ≡ true → ⊥
        clash e f = cc

eqb_same : (n : ℕ) → (n == n) ≡ true
eqb_same n = grind (arith, nat_tests)

-- who comes was in hand
comes-in : {H : Type 0} (k : ℕ) (list : List (List ℕ)) (start : Start) (once : Bool) (s : SpoolsAt H) → stands k (board_of s) ≡ 0
    → HasStage k Over (stage_told k (Starting list once start) (arrive_board k list start once s).facts) (arrive_board k list start once s)
comes-in k list start once s none =
    let r : Reader = record { k = k; once = once } in
    let before : Stage = Starting list once start in
    staged k Over _ _ (arrived-at k Over before 0 start r list (board_of s) (λ e. refl) (record {
      few = omega (arith, is_one, none);
      over = λ e. refl;
      stand = absent-shelf k before s.shelf (omega (arith, none));
      start = absent-starts k before s.starts (omega (arith, none));
      away = λ e. absurd (omega (arith, is_one, e));
    }))
  where
    is_one : one (k == k) ≡ 1
    is_one = ap one (eqb_same k)

pub keep-stages : (H : Type 0) → KeepStages H
keep-stages H = record {
  calls = λ k out stage s has. calls-stage k out stage s has;
  comes = λ k list start once s none. let c = comes-in k list start once s none in record { few = c.few; over = c.over; standing = c.standing; starting = c.starting; away = c.away };
}
