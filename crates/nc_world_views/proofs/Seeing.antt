-- Values of workers as functions.
use Rattle.std.proofs.Common.{◌≡◌, ◌≢◌, ℕ, zero, suc, ◌<◌, Bool, true, false, cond, List, [], ◌∷◌, refl, sym, ap, ◌∙◌, arith}
use Rattle.std.specs.Prelude.{◌==◌, nat_lt, replicate}
use Rattle.std.proofs.Math.Path.{fun_ext}
use Rattle.std.proofs.lemmas.Bool.Decides.{nat_tests}
use Rattle.nc_journal.specs.declared.event.Event.{Event}
use Rattle.nc_journal.specs.declared.event.Event.TheVariants.{Released}
use Rattle.nc_owner_laws.specs.HoldsKept.{one_less}
use Rattle.nc_worker_state.specs.Worker.{with_at, given_back}
use Rattle.nc_world_views.specs.Seen.{seen_below}
use Rattle.nc_world_views.specs.Laws.{WriteShows, GivenBackShows}

module _ {X : Type 0} (n : ℕ) (f g new : ℕ → X) (w : ℕ) (lt : w < n) (others : (o : ℕ) → o ≢ w → g o ≡ f o) where
  at_number : (o : ℕ) → seen_below n g new o ≡ with_at (seen_below n f new) w (g w) o
  at_number o = by (o == w) refl
    where
      here : o ≡ w → seen_below n g new o ≡ g w
      here e = ap (λ b. cond b (g o) (new o)) (within o w n e lt) ∙ ap g e
        where
          within : (o w n : ℕ) → o ≡ w → w < n → nat_lt o n ≡ true
          within o w n e lt = grind (arith, nat_tests)

      there : (b : Bool) → o ≢ w → cond b (g o) (new o) ≡ cond b (f o) (new o)
      there true ne = others o ne
      there false ne = refl

      by : (b : Bool) → (o == w) ≡ b → seen_below n g new o ≡ cond b (g w) (seen_below n f new o)
      by true e = let same : o ≡ w = grind (arith, nat_tests) in here same
      by false e = let other : o ≢ w = grind (arith, nat_tests) in there (nat_lt o n) other

  pub write_seen : seen_below n g new ≡ with_at (seen_below n f new) w (g w)
  write_seen = fun_ext at_number

pub write_shows : WriteShows
write_shows n f g new w lt others = write_seen n f g new w lt others

-- ---- counts

-- a slot without holds has none less
none_less : (slots slot : ℕ) → one_less slot (replicate slots 0) ≡ replicate slots 0
none_less zero slot = refl
none_less (suc slots) zero = refl
none_less (suc slots) (suc slot) = ap (λ (l : List ℕ). 0 ∷ l) (none_less slots slot)

module _ (n slots : ℕ) where
  abbrev none : ℕ → List ℕ
  none w = replicate slots 0

  abbrev less : ℕ → ℕ → (ℕ → List ℕ) → ℕ → List ℕ
  less owner slot counts = with_at counts owner (one_less slot (counts owner))

  less_at : (counts : ℕ → List ℕ) (owner slot w : ℕ) → seen_below n (less owner slot counts) none w ≡ less owner slot (seen_below n counts none) w
  less_at counts owner slot w = by (w == owner) refl (nat_lt w n) refl
    where
      by : (b : Bool) → (w == owner) ≡ b → (c : Bool) → nat_lt w n ≡ c → cond c (cond b (one_less slot (counts owner)) (counts w)) (none w) ≡ cond b (one_less slot (seen_below n counts none owner)) (cond c (counts w) (none w))
      by true e true l = sym (ap (λ c. one_less slot (cond c (counts owner) (none owner))) (same w owner n e l))
        where
          same : (w owner n : ℕ) → (w == owner) ≡ true → nat_lt w n ≡ true → nat_lt owner n ≡ true
          same w owner n e l = grind (arith, nat_tests)
      by true e false l = sym (ap (λ c. one_less slot (cond c (counts owner) (none owner))) (same w owner n e l) ∙ none_less slots slot)
        where
          same : (w owner n : ℕ) → (w == owner) ≡ true → nat_lt w n ≡ false → nat_lt owner n ≡ false
          same w owner n e l = grind (arith, nat_tests)
      by false e c l = refl

  given_seen : (events : List Event) (counts : ℕ → List ℕ) → seen_below n (given_back counts events) none ≡ given_back (seen_below n counts none) events
  given_seen [] counts = refl
  given_seen (Released v owner g slot ∷ es) counts = given_seen es (less owner slot counts) ∙ ap (λ (f : ℕ → List ℕ). given_back f es) (fun_ext (less_at counts owner slot))
  given_seen (e ∷ es) counts = given_seen es counts

pub given_back_shows : GivenBackShows
given_back_shows n slots counts events = given_seen n slots events counts
