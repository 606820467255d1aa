-- What is known between two lines of a script while they are made.
use Rattle.std.proofs.Common.{◌≡◌, inl, inr, ℕ, zero, suc, ◌+◌, ◌<◌, ◌≤◌, List, [], ◌∷◌, ◌++◌, length, refl, sym, ◌∙◌, subst, ap, arith, Some, None, append_assoc, length-append}
use Rattle.std.proofs.lemmas.List.{append-nil}
use Rattle.nc_journal.specs.declared.event.Event.{Event}
use Rattle.nc_journal.specs.History.{onto}
use Rattle.nc_journal.specs.Text.{text_of, lines_text}
use Rattle.nc_journal.proofs.TextLaws.{text_grows}
use Rattle.nc_history.specs.Steps.{joined}
use Rattle.nc_script.specs.declared.line.Line.{Line as Said}
use Rattle.nc_slots.specs.Slots.{HoldAt}
use Rattle.nc_slots.specs.declared.plain.PlainHold.{PlainHold}
use Rattle.nc_worker_state.specs.Setup.{Setup}
use Rattle.nc_world.specs.Lines.{Line, line_events, lines_world, journal_of}
use Rattle.nc_world.specs.Reached.{IsSetup}
use Rattle.nc_turns.specs.Worn.{before_worn_in, worn_events}
use Rattle.nc_world_follows.specs.Fitting.{AreFit}
use Rattle.nc_world_worn.specs.Counters.{with_moves}
use Rattle.nc_world_worn.specs.Laws.{WornIsTold}
use Rattle.nc_world_lawful.specs.Lawful.{JournalsAreLawful}
use Rattle.nc_cluster.specs.PureLine.{pure_line}
use Rattle.nc_cluster.specs.Stands.{ClusterAt, Stands}
use Rattle.nc_replay.specs.declared.fault.Fault.{Fault}
use Rattle.nc_replay.specs.Script.{lines_of}
use Rattle.nc_replay.specs.Lines.{line_after, Reads}
use Rattle.nc_replay.specs.Input.{Adds, AddsPrefix}
use Rattle.nc_replay.specs.Turns.{IsNext, IsMet, TurnsOut}
use Rattle.nc_replay.specs.declared.making.Turn.{Turn}
use Rattle.nc_replay.specs.declared.making.Turn.TheVariants.{Made as TurnMade, Worn as TurnWorn}
use Rattle.nc_journal.specs.declared.event.EventList.{EventList}
use Rattle.nc_replay.specs.Run.{AreUnworn, Made, Worn, MakesAll, MakesUntil, MakesWorn, MakesSome, IsBegun}
use Rattle.nc_replay.proofs.Flows.{adds-nothing, adds-more, adds-prefix, adds-whole}

-- what a hold of plain slots is of
abbrev pub plain_held : PlainHold → HoldAt
plain_held hold = record { owner = hold.owner; slot = hold.slot; message = hold.message.value }

-- between two lines: the texts of the lines that were made, and what stands behind them
pub record Between (setup : Setup) (before : ℕ) (first now : List ℕ) (all : List (List ℕ)) (lines : List Line) (number : ℕ) (rest : List ℕ) (most : ℕ) : Type 0 where
  pub texts : List (List ℕ)
  pub cut : all ≡ texts ++ lines_of rest
  pub read : Reads setup.workers [] texts lines
  pub unworn : AreUnworn setup lines
  pub fit : AreFit setup lines
  pub counted : number ≡ before + length texts + 1
  pub room : length texts + length rest ≤ most
  pub written : Adds (text_of (joined (journal_of setup lines))) first now

-- one more line is read
reads-more : (workers : ℕ) (before : List Line) (texts : List (List ℕ)) (lines : List Line) (text : List ℕ) (l : Said) → Reads workers before texts lines → (line_after workers lines text).Says l → Reads workers before (texts ++ text ∷ []) (pure_line l ∷ lines)
reads-more workers before [] lines text l read says =
    (l, subst (λ (ls : List Line). (line_after workers ls text).Says l) read says, ap (λ (ls : List Line). pure_line l ∷ ls) read)
reads-more workers before (other ∷ texts) lines text l read says = (read.0, read.1, reads-more workers (pure_line read.0 ∷ before) texts lines text l read.2 says)

pub between-start : (setup : Setup) (before : ℕ) (first : List ℕ) (text : List ℕ) → Between setup before first first (lines_of text) [] (before + 1) text (length text)
between-start setup before first text = record {
  texts = [];
  cut = refl;
  read = refl;
  unworn = tt;
  fit = tt;
  counted = omega arith;
  room = omega arith;
  written = adds-nothing first;
}

length-snoc : (texts : List (List ℕ)) (text : List ℕ) → length (texts ++ text ∷ []) ≡ length texts + 1
length-snoc texts text = length-append texts (text ∷ [])

module _ (laws : JournalsAreLawful) (setup : Setup) (good : IsSetup setup) where
  abbrev made-so : (texts : List (List ℕ)) (lines : List Line) → Reads setup.workers [] texts lines → AreUnworn setup lines → AreFit setup lines → Made setup texts (joined (journal_of setup lines))
  made-so texts lines read unworn fit = record {
    lines = lines;
    read = read;
    unworn = unworn;
    fit = fit;
    journal = journal_of setup lines;
    lawful = laws setup lines good fit;
    one = refl;
    told = refl;
  }

  module _ (before : ℕ) (first now : List ℕ) (all : List (List ℕ)) (lines : List Line) (number : ℕ) (rest : List ℕ) (most : ℕ) (b : Between setup before first now all lines number rest most) where
    abbrev made-now : Made setup b.texts (joined (journal_of setup lines))
    made-now = made-so b.texts lines b.read b.unworn b.fit

    -- no line is left
    pub made-whole : length rest ≡ 0 → MakesAll setup all first now
    made-whole end = record {
      h = joined (journal_of setup lines);
      made = subst (λ (l : List (List ℕ)). Made setup l (joined (journal_of setup lines))) (sym (b.cut ∙ ap (λ (l : List ℕ). b.texts ++ lines_of l) (nothing rest end) ∙ append-nil b.texts)) made-now;
      written = b.written;
    }
      where
        nothing : (l : List ℕ) → length l ≡ 0 → l ≡ []
        nothing [] none = refl
        nothing (x ∷ l) none = absurd (omega arith)

    -- the work stops between two lines
    pub made-some : MakesSome setup all first now
    made-some = record {
      h = joined (journal_of setup lines);
      front = b.texts;
      rest = lines_of rest;
      cut = b.cut;
      begun = begun-at (lines_of rest);
      written = adds-whole (text_of (joined (journal_of setup lines))) first now b.written;
    }
      where
        begun-at : (behind : List (List ℕ)) → IsBegun setup b.texts behind (joined (journal_of setup lines))
        begun-at [] = made-now
        begun-at (text ∷ behind) = inl made-now

    module _ (text behind : List ℕ) (cut : lines_of rest ≡ text ∷ lines_of behind) where
      cut-here : all ≡ b.texts ++ text ∷ lines_of behind
      cut-here = b.cut ∙ ap (λ (l : List (List ℕ)). b.texts ++ l) cut

      -- the next line breaks a rule
      pub made-fault : (fault : Fault) → fault.line ≡ number → (line_after setup.workers lines text).Breaks fault.rule fault.at → MakesUntil setup before all first now fault
      made-fault fault counted breaks = record {
        h = joined (journal_of setup lines);
        front = b.texts;
        bad = text;
        rest = lines_of behind;
        cut = cut-here;
        made = made-now;
        breaks = breaks;
        counted = counted ∙ b.counted;
        written = b.written;
      }

      module _ (said : Said) (says : (line_after setup.workers lines text).Says said) (fit : AreFit setup (pure_line said ∷ lines)) where
        abbrev after : List Line
        after = pure_line said ∷ lines

        module _ (unmet : before_worn_in setup (pure_line said) (lines_world setup lines) ≡ None) (new : List ℕ) where
          -- the line was made and its events were written
          pub between-next : length behind < length rest → (events : List Event) → events ≡ line_events setup (pure_line said) (lines_world setup lines) → Adds (lines_text events) now new → Between setup before first new all (pure_line said ∷ lines) (number + 1) behind most
          between-next shorter events are written = record {
            texts = b.texts ++ text ∷ [];
            cut = cut-here ∙ sym (append_assoc b.texts (text ∷ []) (lines_of behind));
            read = reads-more setup.workers [] b.texts lines text said b.read says;
            unworn = (b.unworn, unmet);
            fit = fit;
            counted = omega (arith, b.counted, length-snoc b.texts text);
            room = omega (arith, b.room, length-snoc b.texts text, shorter);
            written = subst (λ (l : List ℕ). Adds l first new) (sym (text_grows (line_events setup (pure_line said) (lines_world setup lines)) (joined (journal_of setup lines))))
                (adds-more (text_of (joined (journal_of setup lines))) (lines_text (line_events setup (pure_line said) (lines_world setup lines))) first now new b.written (subst (λ (es : List Event). Adds (lines_text es) now new) are written));
          }

          -- the work stops while they are written
          pub made-cut : (events : List Event) → events ≡ line_events setup (pure_line said) (lines_world setup lines) → AddsPrefix (lines_text events) now new → MakesSome setup all first new
          made-cut events are written = record {
            h = joined (journal_of setup after);
            front = b.texts ++ text ∷ [];
            rest = lines_of behind;
            cut = cut-here ∙ sym (append_assoc b.texts (text ∷ []) (lines_of behind));
            begun = begun-at (lines_of behind);
            written = subst (λ (l : List ℕ). AddsPrefix l first new) (sym (text_grows (line_events setup (pure_line said) (lines_world setup lines)) (joined (journal_of setup lines))))
                (adds-prefix (text_of (joined (journal_of setup lines))) (lines_text (line_events setup (pure_line said) (lines_world setup lines))) first now new b.written (subst (λ (es : List Event). AddsPrefix (lines_text es) now new) are written));
          }
            where
              made-after : Made setup (b.texts ++ text ∷ []) (joined (journal_of setup after))
              made-after = made-so (b.texts ++ text ∷ []) after (reads-more setup.workers [] b.texts lines text said b.read says) (b.unworn, unmet) fit

              begun-at : (l : List (List ℕ)) → IsBegun setup (b.texts ++ text ∷ []) l (joined (journal_of setup after))
              begun-at [] = made-after
              begun-at (x ∷ l) = inl made-after

        module _ (worn : WornIsTold) (moves : ℕ) (met : before_worn_in setup (pure_line said) (lines_world setup lines) ≡ Some moves) where
          worn-now : Worn setup b.texts text (joined (journal_of setup (with_moves moves lines)))
          worn-now =
              let told = worn setup (pure_line said) lines moves good fit met in
              record {
                lines = lines;
                read = b.read;
                unworn = b.unworn;
                said = said;
                says = says;
                moves = moves;
                met = met;
                fit = told.fit;
                journal = journal_of setup (with_moves moves lines);
                lawful = laws setup (with_moves moves lines) good told.fit;
                one = refl;
                told = refl;
                worker = told.worker;
                there = told.there;
                counter = told.worn;
              }

          -- what was told of the moves before is put on the history
          put-on : (m : ℕ) → joined (journal_of setup (with_moves m lines)) ≡ onto (worn_events setup m (lines_world setup lines)) (joined (journal_of setup lines))
          put-on zero = refl
          put-on (suc m) = refl

          text-on : text_of (joined (journal_of setup (with_moves moves lines))) ≡ text_of (joined (journal_of setup lines)) ++ lines_text (worn_events setup moves (lines_world setup lines))
          text-on = ap text_of (put-on moves) ∙ text_grows (worn_events setup moves (lines_world setup lines)) (joined (journal_of setup lines))

          -- the line would call on a worn worker, and the events of the moves before were written
          pub made-worn : (new : List ℕ) (events : List Event) → events ≡ worn_events setup moves (lines_world setup lines) → Adds (lines_text events) now new → MakesWorn setup all first new
          made-worn new events are written = record {
            h = joined (journal_of setup (with_moves moves lines));
            front = b.texts;
            text = text;
            rest = lines_of behind;
            cut = cut-here;
            worn = worn-now;
            written = subst (λ (l : List ℕ). Adds l first new) (sym text-on)
                (adds-more (text_of (joined (journal_of setup lines))) (lines_text (worn_events setup moves (lines_world setup lines))) first now new b.written (subst (λ (es : List Event). Adds (lines_text es) now new) are written));
          }

          -- the work stops while they are written
          pub worn-cut : (new : List ℕ) (events : List Event) → events ≡ worn_events setup moves (lines_world setup lines) → AddsPrefix (lines_text events) now new → MakesSome setup all first new
          worn-cut new events are written = record {
            h = joined (journal_of setup (with_moves moves lines));
            front = b.texts;
            rest = text ∷ lines_of behind;
            cut = cut-here;
            begun = inr worn-now;
            written = subst (λ (l : List ℕ). AddsPrefix l first new) (sym text-on)
                (adds-prefix (text_of (joined (journal_of setup lines))) (lines_text (worn_events setup moves (lines_world setup lines))) first now new b.written (subst (λ (es : List Event). AddsPrefix (lines_text es) now new) are written));
          }

-- the cluster stands for the lines that were made
pub record Going (setup : Setup) (before : ℕ) (first now : List ℕ) (all : List (List ℕ)) (s : ClusterAt) (number : ℕ) (rest : List ℕ) (most : ℕ) : Type 0 where
  pub lines : List Line
  pub stands : Stands setup lines s
  pub between : Between setup before first now all lines number rest most

-- what a line came to, where it is told which
pub turned-made : (line : Line) (old new : ClusterAt) (turn : Turn) (events : EventList) → turn ≡ TurnMade events → TurnsOut line old new turn → (setup : Setup) (lines : List Line) → Stands setup lines old → IsNext setup lines line events.events new
turned-made line old new turn events is turns = subst (TurnsOut line old new) is turns

pub turned-worn : (line : Line) (old new : ClusterAt) (turn : Turn) (events : EventList) → turn ≡ TurnWorn events → TurnsOut line old new turn → (setup : Setup) (lines : List Line) → Stands setup lines old → IsMet setup lines line events.events
turned-worn line old new turn events is turns = subst (TurnsOut line old new) is turns
