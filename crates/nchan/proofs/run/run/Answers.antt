use Rattle.std.proofs.Common.{◌≡◌, ℕ, List, [], map, sym, subst}
use Rattle.std.specs.Prelude.{string_bytes}
use Rattle.nc_outside.specs.Pieces.{GivesAll}
use Rattle.nc_replay.specs.Load.{LoadEnds}
use Rattle.nchan.specs.Standard.{given_by, taken_by}
use Rattle.nchan.proofs.Loads.{no_run}
use Rattle.nchan.proofs.run.run.Goals as goal

pub returns-clause-refused_always : goal.returns-clause-refused_always
returns-clause-refused_always g c = λ is text gives.
    (c.top.ensures.refused_always is).1 text (subst (λ (old : List (List ℕ)). GivesAll text old (given_by c.top.new.input)) (sym c.requires.given_nothing) gives)

pub returns-clause-worn_always : goal.returns-clause-worn_always
returns-clause-worn_always g c = λ is text gives.
    (c.top.ensures.worn_always is).1 text (subst (λ (old : List (List ℕ)). GivesAll text old (given_by c.top.new.input)) (sym c.requires.given_nothing) gives)

pub returns-clause-replayed_always : goal.returns-clause-replayed_always
returns-clause-replayed_always g c = λ is text gives.
    (c.top.ensures.passed_always is).1 text (subst (λ (old : List (List ℕ)). GivesAll text old (given_by c.top.new.input)) (sym c.requires.given_nothing) gives)

pub returns-clause-misconfigured_always : goal.returns-clause-misconfigured_always
returns-clause-misconfigured_always g c = λ is text gives.
    (c.top.ensures.misconfigured_always is).1 text (subst (λ (old : List (List ℕ)). GivesAll text old (given_by c.top.new.input)) (sym c.requires.given_nothing) gives)

pub returns-clause-rejected_always : goal.returns-clause-rejected_always
returns-clause-rejected_always g c = λ is text gives.
    (c.top.ensures.rejected_always is).1 text (subst (λ (old : List (List ℕ)). GivesAll text old (given_by c.top.new.input)) (sym c.requires.given_nothing) gives)

pub returns-clause-loaded : goal.returns-clause-loaded
returns-clause-loaded g c = λ seed size is. record {
  unread = subst (λ s. given_by s ≡ []) (sym (c.top.ensures.untouched (no_run (map string_bytes c.args.words.now) seed size is))) c.requires.given_nothing;
  ends = subst (λ (old : List ℕ). LoadEnds c.top.result seed size old (taken_by c.top.new.out)) c.requires.took_nothing (c.top.ensures.loaded seed size is);
}
