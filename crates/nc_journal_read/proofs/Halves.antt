-- Fields that are read in two halves.
use Rattle.std.proofs.Common.{◌≡◌, ℕ, List, [], ◌∷◌, ◌++◌, Result, Ok, Err, refl, sym, ap, subst, ◌∙◌}
use Rattle.std.specs.Prelude.{IsErrAnd}
use Rattle.nc_grammar.specs.Reading.{Read, Found, Stuck, go_on, map_read, with_first}
use Rattle.nc_grammar.specs.Rows.{Kit, Field, Values, fields_at, label_of, row_at}
use Rattle.nc_grammar.specs.Label.{field_at}
use Rattle.nc_grammar.specs.Gives.{Gives}
use Rattle.nc_grammar.specs.declared.fault.Fault.{Fault}
use Rattle.nc_grammar.specs.declared.fault.Fault.TheVariants as faults
use Rattle.nc_journal.specs.declared.event.Event.{Event}
use Rattle.nc_journal_read.specs.declared.stored_reading.StoredFront.{StoredFront}
use Rattle.nc_journal_read.specs.declared.stored_reading.StoredContent.{StoredContent}
use Rattle.nc_journal_read.specs.EventTable.{parts, front_fields, content_fields, front_of, content_of, front_at, content_at, stored_of, stored_row}

-- the values of some fields and of more
abbrev pub both : (K : Kit) (fs gs : List (Field K)) → Values K fs → Values K gs → Values K (fs ++ gs)
both K [] gs x y = y
both K (f ∷ fs) gs x y = (x.0, both K fs gs x.1 y)

same : {A : Type 0} (y : Read A) → y ≡ map_read (λ (a : A). a) y
same (Found a r) = refl
same (Stuck r) = refl

-- fields are read as some of them, and then the others
pub halves : (K : Kit) (fs gs : List (Field K)) (t : List ℕ) → fields_at K (fs ++ gs) t ≡ go_on (fields_at K fs t) (λ x r. map_read (both K fs gs x) (fields_at K gs r))
halves K [] gs t = same (fields_at K gs t)
halves K (f ∷ fs) gs t = by_field (λ r. halves K fs gs r) (field_at (label_of f.name) (K.read f.shape) t)
  where
    by_second : (a : K.Value f.shape) (x : Values K fs) (y : Read (Values K gs)) → with_first a (map_read (both K fs gs x) y) ≡ map_read (both K (f ∷ fs) gs (a, x)) y
    by_second a x (Found z r) = refl
    by_second a x (Stuck r) = refl

    by_first : (a : K.Value f.shape) (y : Read (Values K fs)) → with_first a (go_on y (λ x r. map_read (both K fs gs x) (fields_at K gs r))) ≡ go_on (with_first a y) (λ x r. map_read (both K (f ∷ fs) gs x) (fields_at K gs r))
    by_first a (Found x r) = by_second a x (fields_at K gs r)
    by_first a (Stuck r) = refl

    by_field : ((r : List ℕ) → fields_at K (fs ++ gs) r ≡ go_on (fields_at K fs r) (λ x q. map_read (both K fs gs x) (fields_at K gs q))) → (y : Read (K.Value f.shape)) → go_on y (λ a r. with_first a (fields_at K (fs ++ gs) r)) ≡ go_on (go_on y (λ a r. with_first a (fields_at K fs r))) (λ x r. map_read (both K (f ∷ fs) gs x) (fields_at K gs r))
    by_field rest (Found a r) = ap (with_first a) (rest r) ∙ by_first a (fields_at K fs r)
    by_field rest (Stuck r) = refl

-- the event of a stored message is read as its place, and then the message
pub stored_halves : (t : List ℕ) → row_at parts stored_row t ≡ go_on (front_at t) (λ p r. map_read (stored_of p) (content_at r))
stored_halves t = ap (map_read stored_row.make) (halves parts front_fields content_fields t) ∙ by_place (fields_at parts front_fields t)
  where
    by_content : (x : Values parts front_fields) (y : Read (Values parts content_fields)) → map_read stored_row.make (map_read (both parts front_fields content_fields x) y) ≡ map_read (stored_of (front_of x)) (map_read content_of y)
    by_content x (Found z r) = refl
    by_content x (Stuck r) = refl

    by_place : (y : Read (Values parts front_fields)) → map_read stored_row.make (go_on y (λ x r. map_read (both parts front_fields content_fields x) (fields_at parts content_fields r))) ≡ go_on (map_read front_of y) (λ p r. map_read (stored_of p) (content_at r))
    by_place (Found x r) = by_content x (fields_at parts content_fields r)
    by_place (Stuck r) = refl

-- both were found
pub stored_found : (t q r : List ℕ) (p : StoredFront) (m : StoredContent) (e : Event) → front_at t ≡ Found p q → content_at q ≡ Found m r → e ≡ stored_of p m → row_at parts stored_row t ≡ Found e r
stored_found t q r p m e f g is =
    stored_halves t ∙ ap (λ (y : Read StoredFront). go_on y (λ p r. map_read (stored_of p) (content_at r))) f ∙ ap (map_read (stored_of p)) g ∙ ap (λ (x : Event). (let y : Read Event = Found x r in y)) (sym is)

-- the place was found, and what the message is can't be read
pub stored_fault : (t q r : List ℕ) (p : StoredFront) (f : Fault) (given : Result StoredContent Fault) (outcome : Result Event Fault) → front_at t ≡ Found p q → Gives r given (content_at q) → given ≡ Err f → IsErrAnd outcome (λ g. g ≡ f) → Gives r outcome (row_at parts stored_row t)
stored_fault t q r p f given (Ok e) found h is same = absurd same
stored_fault t q r p f given (Err g) found h is same =
    subst (λ (k : Fault). Gives r (let o : Result Event Fault = Err k in o) (row_at parts stored_row t)) (sym same) (by_fault f (subst (λ (o : Result StoredContent Fault). Gives r o (content_at q)) is h))
  where
    by_fault : (f : Fault) → Gives r (let o : Result StoredContent Fault = Err f in o) (content_at q) → Gives r (let o : Result Event Fault = Err f in o) (row_at parts stored_row t)
    by_fault faults.Stuck k = stored_halves t ∙ ap (λ (y : Read StoredFront). go_on y (λ p r. map_read (stored_of p) (content_at r))) found ∙ ap (map_read (stored_of p)) k
    by_fault faults.NoMemory k = tt
