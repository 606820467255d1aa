-- A subscriber that comes is started lawfully.
use Rattle.std.proofs.Common.{◌≡◌, ℕ, ℤ, negsuc, Bool, List, [], ◌∷◌, refl, sym, ap, ◌∙◌, subst, map, length, replicate}
use Rattle.std.specs.Prelude.{fold}
use Rattle.nc_types.specs.declared.start.Start.{Start}
use Rattle.nc_types.specs.declared.start.Start.TheVariants.{Oldest, Newest, Given}
use Rattle.nc_journal.specs.History.{Along, own, onto}
use Rattle.nc_journal.specs.Standing.{Starting, stage_of}
use Rattle.nc_journal.specs.declared.event.Event.{Event}
use Rattle.nc_journal.specs.declared.word.EndedCause.TheVariants.{Answered}
use Rattle.nc_spool_state.specs.declared.spool.Reader.{Reader}
use Rattle.nc_spool_state.specs.Key.{KeyAt}
use Rattle.nc_spool.specs.declared.board.Board.{Board}
use Rattle.nc_spool.specs.declared.fact.Fact.TheVariants as facts
use Rattle.nc_spool.specs.Arrive.{started_by, joined, oldest_cursor}
use Rattle.nc_spool.specs.Board.{told as tells}
use Rattle.nc_spool.specs.Calls.{SpoolsAt, board_of, arrive_facts}
use Rattle.nc_spool.specs.Newest.{begun}
use Rattle.nc_worker_state.specs.Deed.{told}
use Rattle.nc_worker_state.specs.Spooled.{Hold, arrives}
use Rattle.nc_starts.specs.Starts.{StartsThen, StartedThen}
use Rattle.nc_world_told.specs.Written.{written}
use Rattle.nc_world_told.proofs.Sends.{Appends, IsOut, weaker, entered_outs}
use Rattle.nc_world_told.proofs.Staying.{away_stands, out_away}
use Rattle.nc_world_told.proofs.Written.{written_is, written_append, IsAway}
use Rattle.nc_world_calls.proofs.Arriving.{joined_outs, edges_outs}
use Rattle.nc_world_sends.proofs.Startless.{outs_startless, startless_appends}

oldest_tags : (list : List (List ℕ)) → replicate (length list) (negsuc 0) ≡ map (λ (c : List ℕ). negsuc 0) list
oldest_tags [] = refl
oldest_tags (c ∷ list) = ap (λ (l : List ℤ). negsuc 0 ∷ l) (oldest_tags list)

module _ (workers me : ℕ) (next : ℕ → ℕ) (h : List Event) where
  begun_started : (r : Reader) (key : KeyAt) (b : Board) → StartsThen workers me r.k key.cursor (written me Answered next b.facts h) (stage_of r.k (own me (written me Answered next b.facts h)))
      → Along (StartedThen workers) (written me Answered next b.facts h) → Along (StartedThen workers) (written me Answered next (begun r key b).facts h)
  begun_started r key b starts k =
      let b1 = tells (facts.Started r.k key.cursor) b in
      startless_appends workers me Answered next h b1.facts (begun r key b).facts (outs_startless b1.facts _ (entered_outs key r b1))
      (subst (Along (StartedThen workers)) (sym (written_append me Answered next b.facts (facts.Started r.k key.cursor ∷ []) h)) (k, starts))

  started_started : (start : Start) (r : Reader) (list : List (List ℕ)) (b : Board) → stage_of r.k (own me (written me Answered next b.facts h)) ≡ Starting list r.once start
      → Along (StartedThen workers) (written me Answered next b.facts h) → Along (StartedThen workers) (written me Answered next (started_by start r list b).facts h)
  started_started Oldest r list b stage k =
      begun_started r (record { list = list; cursor = oldest_cursor (length list) }) b
      (subst (StartsThen workers me r.k (oldest_cursor (length list)) (written me Answered next b.facts h)) (sym stage) (λ i. record { time = 0; tags = oldest_tags list i })) k
  started_started Newest r list b stage k = startless_appends workers me Answered next h b.facts (started_by Newest r list b).facts (outs_startless b.facts _ (edges_outs r.k list b)) k
  started_started (Given cursor) r list b stage k =
      begun_started r (record { list = list; cursor = cursor }) b (subst (StartsThen workers me r.k cursor (written me Answered next b.facts h)) (sym stage) refl) k

pub arrival_started : (workers me : ℕ) (next : ℕ → ℕ) (k : ℕ) (list : List (List ℕ)) (start : Start) (once : Bool) (s : SpoolsAt Hold) (h : List Event) → stage_of k (own me h) ≡ Starting list once start
    → Along (StartedThen workers) h → Along (StartedThen workers) (onto (told me next (arrives me k list start once s).deeds) h)
arrival_started workers me next k list start once s h stage started =
    subst (Along (StartedThen workers)) (written_is me Answered next (arrive_facts k list start once s) h)
    (started_started workers me next h start (record { k = k; once = once }) list (fold (joined k) (board_of s) list)
    (away_stands me Answered next h k [] (fold (joined k) (board_of s) list).facts (record { facts = outs.facts; are = outs.are; all = weaker IsOut (IsAway k) (out_away me Answered next h k) outs.facts outs.all }) ∙ stage)
    (startless_appends workers me Answered next h [] (fold (joined k) (board_of s) list).facts (outs_startless [] _ outs) started))
  where
    outs : Appends IsOut [] (fold (joined k) (board_of s) list).facts
    outs = joined_outs k list (board_of s)
