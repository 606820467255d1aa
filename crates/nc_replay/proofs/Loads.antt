-- What a load counts, and what it leaves by its status.
use Rattle.std.proofs.Common.{◌≡◌, ◌≢◌, ◌⊎◌, inl, inr, ℕ, ◌+◌, ◌==◌, Bool, true, false, cond, List, [], ◌∷◌, ◌++◌, length, refl, ap, ◌∙◌, subst, arith}
use Rattle.std.specs.List.{filter, before_first}
use Rattle.nc_journal.specs.declared.event.Event.{Event}
use Rattle.nc_journal.specs.Text.{text_of}
use Rattle.nc_load.specs.Script.{script}
use Rattle.nc_replay.specs.declared.fault.Fault.{Fault}
use Rattle.nc_replay.specs.declared.load.Loaded.{Loaded}
use Rattle.nc_replay.specs.declared.load.Loaded.TheVariants.{Counted, Refused, Misconfigured, WornOut}
use Rattle.nc_replay.specs.Script.{lines_of, IsMisconfigured}
use Rattle.nc_replay.specs.Input.{Adds, AddsPrefix}
use Rattle.nc_replay.specs.Top.{Passes, Fails, Wears, ReplaysText, RefusesText, MisconfiguredText, WearsText}
use Rattle.nc_replay.specs.Load.{begins, lines_with, summary, Counts, CutsOffCounts, Breaks, IsRefused, WearsOne, LoadsAs, LoadEnds}

-- ---- counting

-- one line more is counted
pub counted_next : (word rest behind_it : List ℕ) (all n : ℕ) → lines_of rest ≡ before_first (λ b. b == 10) rest ∷ lines_of behind_it
    → n + lines_with word rest ≡ all → cond (begins word (before_first (λ b. b == 10) rest)) (n + 1) n + lines_with word behind_it ≡ all
counted_next word rest behind_it all n is counted = by (begins word (before_first (λ b. b == 10) rest)) (ap (λ (ls : List (List ℕ)). length (filter (begins word) ls)) is)
  where
    by : (t : Bool) → lines_with word rest ≡ length (cond t (before_first (λ b. b == 10) rest ∷ filter (begins word) (lines_of behind_it)) (filter (begins word) (lines_of behind_it))) → cond t (n + 1) n + lines_with word behind_it ≡ all
    by true e = omega (arith, counted, e)
    by false e = omega (arith, counted, e)

-- ---- what the replay of the script says

module _ (seed size : ℕ) (text none journal : List ℕ) (is : text ≡ script seed size) where
  -- its journal is what was taken
  taken_is : none ≡ [] → (h : List Event) → Adds (text_of h) none journal → journal ≡ text_of h
  taken_is empty h written = written ∙ ap (λ (l : List ℕ). l ++ text_of h) empty

  pub counts : (old new : List ℕ) → none ≡ [] → ReplaysText 0 text none journal → Adds (summary seed size journal) old new → Counts seed size old new
  counts old new empty replays written = record {
    h = replays.h;
    passes = subst (λ (t : List ℕ). Passes 0 t replays.h) is replays.passes;
    written = subst (λ (t : List ℕ). Adds (summary seed size t) old new) (taken_is empty replays.h replays.written) written;
  }

  pub cuts_off_counts : (old new : List ℕ) → none ≡ [] → ReplaysText 0 text none journal → AddsPrefix (summary seed size journal) old new → CutsOffCounts seed size old new
  cuts_off_counts old new empty replays written = record {
    h = replays.h;
    passes = subst (λ (t : List ℕ). Passes 0 t replays.h) is replays.passes;
    written = subst (λ (t : List ℕ). AddsPrefix (summary seed size t) old new) (taken_is empty replays.h replays.written) written;
  }

  pub breaks : RefusesText 0 text none journal → Breaks seed size
  breaks refuses = (refuses.h, refuses.fault, subst (λ (t : List ℕ). Fails 0 t refuses.h refuses.fault) is refuses.fails)

  pub is_refused : MisconfiguredText text none journal → IsRefused seed size
  is_refused m = (m.fault, subst (λ (t : List ℕ). IsMisconfigured t m.fault.rule m.fault.at) is m.misconfigured)

  pub wears_one : WearsText 0 text none journal → WearsOne seed size
  wears_one w = (w.h, subst (λ (t : List ℕ). Wears 0 t w.h) is w.wears)

-- ---- by its status

module _ (seed size : ℕ) (old new : List ℕ) where
  pub counted_ends : (l : Loaded) → l ≡ Counted → LoadsAs l seed size old new → LoadEnds 0 seed size old new
  counted_ends l is ends = let loads = subst (λ (x : Loaded). LoadsAs x seed size old new) is ends in record {
    command = λ e. omega (arith, e);
    unread = (λ e. omega (arith, e), λ e. omega (arith, e));
    counted = λ e. loads;
    refused = λ e. absurd (omega (arith, e));
    misconfigured = λ e. absurd (omega (arith, e));
    worn = λ e. absurd (omega (arith, e));
    cut_off = λ e. absurd (omega (arith, e));
    silent = λ a b. absurd (a refl);
  }

  pub refused_ends : (l : Loaded) → l ≡ Refused → LoadsAs l seed size old new → LoadEnds 3 seed size old new
  refused_ends l is ends = let loads = subst (λ (x : Loaded). LoadsAs x seed size old new) is ends in record {
    command = λ e. omega (arith, e);
    unread = (λ e. omega (arith, e), λ e. omega (arith, e));
    counted = λ e. absurd (omega (arith, e));
    refused = λ e. loads.0;
    misconfigured = λ e. absurd (omega (arith, e));
    worn = λ e. absurd (omega (arith, e));
    cut_off = λ e. absurd (omega (arith, e));
    silent = λ a b. loads.1;
  }

  pub misconfigured_ends : (l : Loaded) → l ≡ Misconfigured → LoadsAs l seed size old new → LoadEnds 8 seed size old new
  misconfigured_ends l is ends = let loads = subst (λ (x : Loaded). LoadsAs x seed size old new) is ends in record {
    command = λ e. omega (arith, e);
    unread = (λ e. omega (arith, e), λ e. omega (arith, e));
    counted = λ e. absurd (omega (arith, e));
    refused = λ e. absurd (omega (arith, e));
    misconfigured = λ e. loads.0;
    worn = λ e. absurd (omega (arith, e));
    cut_off = λ e. absurd (omega (arith, e));
    silent = λ a b. loads.1;
  }

  pub worn_ends : (l : Loaded) → l ≡ WornOut → LoadsAs l seed size old new → LoadEnds 9 seed size old new
  worn_ends l is ends = let loads = subst (λ (x : Loaded). LoadsAs x seed size old new) is ends in record {
    command = λ e. omega (arith, e);
    unread = (λ e. omega (arith, e), λ e. omega (arith, e));
    counted = λ e. absurd (omega (arith, e));
    refused = λ e. absurd (omega (arith, e));
    misconfigured = λ e. absurd (omega (arith, e));
    worn = λ e. loads.0;
    cut_off = λ e. absurd (omega (arith, e));
    silent = λ a b. loads.1;
  }

  pub cut_ends : CutsOffCounts seed size old new → LoadEnds 5 seed size old new
  cut_ends cut = record {
    command = λ e. omega (arith, e);
    unread = (λ e. omega (arith, e), λ e. omega (arith, e));
    counted = λ e. absurd (omega (arith, e));
    refused = λ e. absurd (omega (arith, e));
    misconfigured = λ e. absurd (omega (arith, e));
    worn = λ e. absurd (omega (arith, e));
    cut_off = λ e. cut;
    silent = λ a b. absurd (b refl);
  }

  pub lacking_ends : new ≡ old → LoadEnds 6 seed size old new
  lacking_ends same = record {
    command = λ e. omega (arith, e);
    unread = (λ e. omega (arith, e), λ e. omega (arith, e));
    counted = λ e. absurd (omega (arith, e));
    refused = λ e. absurd (omega (arith, e));
    misconfigured = λ e. absurd (omega (arith, e));
    worn = λ e. absurd (omega (arith, e));
    cut_off = λ e. absurd (omega (arith, e));
    silent = λ a b. same;
  }
