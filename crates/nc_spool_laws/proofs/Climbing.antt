-- Each call leaves the subscribers of each spool in ascending order.
use Rattle.std.proofs.Common.{◌≡◌, suc, ◌≤◌, Bool, true, false, not, cond, List, [], ◌∷◌, refl, insert, filter, nat_lt, arith}
use Rattle.std.specs.List.{AllByRecursion}
use Rattle.nc_spool_state.specs.declared.spool.Reader.{Reader}
use Rattle.nc_spool_state.specs.Spool.{is_reader, place_above}
use Rattle.nc_spool_laws.specs.Attended.{AnyNews, AnyAnswer, KeepsAll}
use Rattle.nc_spool_laws.specs.Readers.{IsUpTo, AreClimbing, Climbs}
use Rattle.nc_spool_laws.proofs.Lists.{all-changed, all-insert}
use Rattle.nc_spool_laws.proofs.Guarding.{is-below, not-below}
use Rattle.nc_spool_laws.proofs.Local.{IsLocal, local-kept}

all-filter : (P : Reader → Type 0) (test : Reader → Bool) (readers : List Reader) → AllByRecursion P readers → AllByRecursion P (filter test readers)
all-filter P test [] a = tt
all-filter P test (r ∷ readers) a = by (test r) (all-filter P test readers a.1)
  where
    by : (t : Bool) → AllByRecursion P (filter test readers) → AllByRecursion P (cond t (r ∷ filter test readers) (filter test readers))
    by true rest = (a.0, rest)
    by false rest = rest

filter-climbs : (test : Reader → Bool) (readers : List Reader) → AreClimbing readers → AreClimbing (filter test readers)
filter-climbs test [] i = tt
filter-climbs test (r ∷ readers) i = by (test r) (filter-climbs test readers i.1)
  where
    by : (t : Bool) → AreClimbing (filter test readers) → AreClimbing (cond t (r ∷ filter test readers) (filter test readers))
    by true rest = (all-filter (IsUpTo r) test readers i.0, rest)
    by false rest = rest

insert-climbs : (r : Reader) (readers : List Reader) → AreClimbing readers → AreClimbing (insert readers (place_above r.k readers) r)
insert-climbs r [] i = (tt, tt)
insert-climbs r (x ∷ readers) i = by (nat_lt r.k x.k) refl (insert-climbs r readers i.1)
  where
    by : (t : Bool) → nat_lt r.k x.k ≡ t → AreClimbing (insert readers (place_above r.k readers) r) → AreClimbing (insert (x ∷ readers) (cond t 0 (suc (place_above r.k readers))) r)
    by true was rest = let below = is-below r.k x.k was in let upto : r.k ≤ x.k = omega (arith, below) in ((upto, all-changed (IsUpTo x) (IsUpTo r) readers (λ y b. omega (arith, upto, b)) i.0), i)
    by false was rest = (all-insert (IsUpTo x) readers (place_above r.k readers) r (not-below r.k x.k was) i.0, rest)

climbing : IsLocal AnyNews AnyAnswer Climbs
climbing = record {
  fresh = λ n key r. (tt, tt);
  enter = λ r s i. insert-climbs r s.readers i;
  leave = λ k s i some. filter-climbs (λ r. not (is_reader k r)) s.readers i;
  fence = λ time s b i. i;
  ask = λ j n earlier s i. i;
  quieten = λ j quiet s i. i;
  discover = λ number j quiet news s right i. i;
  hear = λ c j q news s good i. i;
}

pub climbs-kept : KeepsAll AnyNews AnyAnswer Climbs
climbs-kept = local-kept AnyNews AnyAnswer Climbs climbing
