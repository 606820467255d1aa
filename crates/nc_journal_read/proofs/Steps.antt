-- What each step of reading numbers and tags leaves to be read.
use Rattle.std.proofs.Common.{◌≡◌, ℕ, ℤ, suc, Bool, true, false, cond, drop, List, [], ◌∷◌, ◌++◌, length, Result, Ok, Err, refl, sym, ap, subst, ◌∙◌}
use Rattle.std.specs.Prelude.{IsErrAnd}
use Rattle.std.proofs.lemmas.Bool.{eqb-true}
use Rattle.nc_grammar.specs.Reading.{Read, Found, Stuck, go_on, map_read, with_first}
use Rattle.nc_grammar.specs.Label.{label_at, field_at}
use Rattle.nc_grammar.specs.Maybe.{begins_with, more_at, joined_at, two_at, add_first}
use Rattle.nc_grammar.specs.Gives.{Gives, GivesBy}
use Rattle.nc_grammar.specs.declared.fault.Fault.{Fault}
use Rattle.nc_grammar.specs.declared.fault.Fault.TheVariants as faults
use Rattle.nc_journal_read.specs.ValueReader.{u64_at, tag_at, from_first, numbers_at}
use Rattle.nc_journal_read.specs.PlaceReader.{first_and_more, only, tag_before, more_tags_at, bracketed_at, sent_tags_at}
use Rattle.nc_journal_list.proofs.Put.{put_front, put_stuck, from_none, firsts_are}

joined_onto : {A : Type 0} (read : List ℕ → Read A) (y : Read A) → add_first (go_on y (λ a rest. with_first a (more_at (length rest) read rest))) ≡ go_on y (λ a q. map_read (λ zs. a ∷ zs) (more_at (length q) read q))
joined_onto read (Found a r) = firsts_are a (more_at (length r) read r)
joined_onto read (Stuck r) = refl

-- a first value was put, and others may follow
pub joined_found : {A : Type 0} (read : List ℕ → Read A) (ys : List A) (t r : List ℕ) → map_read (λ a. [] ++ a ∷ []) (read t) ≡ Found ys r → map_read (λ zs. ys ++ zs) (more_at (length r) read r) ≡ joined_at read t
joined_found read ys t r e = sym (put_front (λ q. more_at (length q) read q) [] ys (read t) r e) ∙ from_none _ ∙ sym (joined_onto read (read t))

pub joined_stuck : {A : Type 0} (read : List ℕ → Read A) (t r : List ℕ) → map_read (λ a. [] ++ a ∷ []) (read t) ≡ Stuck r → joined_at read t ≡ Stuck r
joined_stuck read t r e = joined_onto read (read t) ∙ sym (from_none _) ∙ put_stuck (λ q. more_at (length q) read q) [] (read t) r e

pub numbers_found : (n : ℕ) (t r : List ℕ) → u64_at t ≡ Found n r → map_read (λ zs. ([] ++ n ∷ []) ++ zs) (more_at (length r) u64_at r) ≡ numbers_at t
numbers_found n t r e = sym (ap (λ (y : Read ℕ). from_first y) e ∙ firsts_are n (more_at (length r) u64_at r))

-- ---- the tags of a sent event

two_onto : (label : List ℕ) (more : List ℕ → Read (List ℤ)) (t : List ℕ) → map_read first_and_more (two_at label tag_at more t) ≡ go_on (tag_before label t) (λ g q. map_read (λ gs. g ∷ gs) (more q))
two_onto label more t = by_tag (tag_at t)
  where
    by_more : (g : ℤ) (y : Read (List ℤ)) → map_read first_and_more (with_first g y) ≡ map_read (λ gs. g ∷ gs) y
    by_more g (Found gs r) = refl
    by_more g (Stuck r) = refl

    by_label : (g : ℤ) (y : Read (Unit {0})) → map_read first_and_more (with_first g (go_on y (λ x r. more r))) ≡ go_on (map_read (λ u. g) y) (λ g q. map_read (λ gs. g ∷ gs) (more q))
    by_label g (Found x r) = by_more g (more r)
    by_label g (Stuck r) = refl

    by_tag : (y : Read ℤ) → map_read first_and_more (go_on y (λ a rest. with_first a (field_at label more rest))) ≡ go_on (go_on y (λ g rest. map_read (λ u. g) (label_at label rest))) (λ g q. map_read (λ gs. g ∷ gs) (more q))
    by_tag (Found g rest) = by_label g (label_at label rest)
    by_tag (Stuck rest) = refl

-- a tag ahead of the one in brackets was put
pub ahead_found : (j : ℕ) (xs ys : List ℤ) (t r : List ℕ) (whole : Read (List ℤ)) → map_read (λ g. xs ++ g ∷ []) (tag_before (44 ∷ []) t) ≡ Found ys r → map_read (λ zs. xs ++ zs) (bracketed_at (suc j) t) ≡ whole → map_read (λ zs. ys ++ zs) (bracketed_at j r) ≡ whole
ahead_found j xs ys t r whole e h = sym (put_front (bracketed_at j) xs ys (tag_before (44 ∷ []) t) r e) ∙ ap (map_read (λ zs. xs ++ zs)) (sym (two_onto (44 ∷ []) (bracketed_at j) t)) ∙ h

pub ahead_stuck : (j : ℕ) (xs : List ℤ) (t r : List ℕ) (whole : Read (List ℤ)) → map_read (λ g. xs ++ g ∷ []) (tag_before (44 ∷ []) t) ≡ Stuck r → map_read (λ zs. xs ++ zs) (bracketed_at (suc j) t) ≡ whole → whole ≡ Stuck r
ahead_stuck j xs t r whole e h = sym h ∙ ap (map_read (λ zs. xs ++ zs)) (two_onto (44 ∷ []) (bracketed_at j) t) ∙ put_stuck (bracketed_at j) xs (tag_before (44 ∷ []) t) r e

bracket_is : (xs : List ℤ) (t u : List ℕ) (x : Unit {0}) → label_at (91 ∷ []) t ≡ Found x u → map_read (λ zs. xs ++ zs) (bracketed_at 0 t) ≡ map_read (λ zs. xs ++ zs) (go_on (tag_before (93 ∷ []) u) (λ g q. map_read (λ gs. g ∷ gs) (more_tags_at q)))
bracket_is xs t u x e =
    ap (λ (y : Read (Unit {0})). map_read (λ zs. xs ++ zs) (map_read first_and_more (go_on y (λ x r. two_at (93 ∷ []) tag_at more_tags_at r)))) e ∙ ap (map_read (λ zs. xs ++ zs)) (two_onto (93 ∷ []) more_tags_at u)

pub bracket_stuck : (xs : List ℤ) (t r : List ℕ) (whole : Read (List ℤ)) → label_at (91 ∷ []) t ≡ Stuck r → map_read (λ zs. xs ++ zs) (bracketed_at 0 t) ≡ whole → whole ≡ Stuck r
bracket_stuck xs t r whole e h = sym h ∙ ap (λ (y : Read (Unit {0})). map_read (λ zs. xs ++ zs) (map_read first_and_more (go_on y (λ x r. two_at (93 ∷ []) tag_at more_tags_at r)))) e

pub bracketed_found : (xs ys : List ℤ) (t u r : List ℕ) (x : Unit {0}) (whole : Read (List ℤ)) → label_at (91 ∷ []) t ≡ Found x u → map_read (λ g. xs ++ g ∷ []) (tag_before (93 ∷ []) u) ≡ Found ys r → map_read (λ zs. xs ++ zs) (bracketed_at 0 t) ≡ whole → map_read (λ zs. ys ++ zs) (more_at (length r) tag_at r) ≡ whole
bracketed_found xs ys t u r x whole e f h = sym (put_front more_tags_at xs ys (tag_before (93 ∷ []) u) r f) ∙ sym (bracket_is xs t u x e) ∙ h

pub bracketed_stuck : (xs : List ℤ) (t u r : List ℕ) (x : Unit {0}) (whole : Read (List ℤ)) → label_at (91 ∷ []) t ≡ Found x u → map_read (λ g. xs ++ g ∷ []) (tag_before (93 ∷ []) u) ≡ Stuck r → map_read (λ zs. xs ++ zs) (bracketed_at 0 t) ≡ whole → whole ≡ Stuck r
bracketed_stuck xs t u r x whole e f h = sym h ∙ bracket_is xs t u x e ∙ put_stuck more_tags_at xs (tag_before (93 ∷ []) u) r f

-- at the first place
pub single : (t : List ℕ) → begins_with 91 t ≡ false → sent_tags_at 0 t ≡ map_read (λ g. [] ++ g ∷ []) (tag_at t)
single [] e = refl
single (c ∷ t) e = ap (λ (b : Bool). cond b (map_read first_and_more (field_at (91 ∷ []) (two_at (93 ∷ 44 ∷ []) tag_at (joined_at tag_at)) (c ∷ t))) (map_read only (tag_at (c ∷ t)))) e

first_is : (t u : List ℕ) → begins_with 91 t ≡ true → u ≡ cond (begins_with 91 t) (drop 1 t) t → sent_tags_at 0 t ≡ go_on (tag_before (93 ∷ 44 ∷ []) u) (λ g q. map_read (λ gs. g ∷ gs) (joined_at tag_at q))
first_is [] u e f = absurd cc
first_is (c ∷ t) u e f =
    let is : u ≡ t = f ∙ ap (λ (i : Bool). cond i t (c ∷ t)) e in
    let letter : c ≡ 91 = eqb-true c 91 e in
    ap (λ (b : Bool). cond b (map_read first_and_more (field_at (91 ∷ []) (two_at (93 ∷ 44 ∷ []) tag_at (joined_at tag_at)) (c ∷ t))) (map_read only (tag_at (c ∷ t)))) e
    ∙ ap (λ (k : ℕ). map_read first_and_more (field_at (91 ∷ []) (two_at (93 ∷ 44 ∷ []) tag_at (joined_at tag_at)) (k ∷ t))) letter
    ∙ two_onto (93 ∷ 44 ∷ []) (joined_at tag_at) t
    ∙ ap (λ (l : List ℕ). go_on (tag_before (93 ∷ 44 ∷ []) l) (λ g q. map_read (λ gs. g ∷ gs) (joined_at tag_at q))) (sym is)

pub first_stuck : (t u r : List ℕ) → begins_with 91 t ≡ true → u ≡ cond (begins_with 91 t) (drop 1 t) t → map_read (λ g. [] ++ g ∷ []) (tag_before (93 ∷ 44 ∷ []) u) ≡ Stuck r → sent_tags_at 0 t ≡ Stuck r
first_stuck t u r b f e = first_is t u b f ∙ sym (from_none _) ∙ put_stuck (joined_at tag_at) [] (tag_before (93 ∷ 44 ∷ []) u) r e

pub first_found : (xs : List ℤ) (t u r : List ℕ) → begins_with 91 t ≡ true → u ≡ cond (begins_with 91 t) (drop 1 t) t → map_read (λ g. [] ++ g ∷ []) (tag_before (93 ∷ 44 ∷ []) u) ≡ Found xs r → map_read (λ zs. xs ++ zs) (joined_at tag_at r) ≡ sent_tags_at 0 t
first_found xs t u r b f e = sym (put_front (joined_at tag_at) [] xs (tag_before (93 ∷ 44 ∷ []) u) r e) ∙ from_none _ ∙ sym (first_is t u b f)

pub second_found : (xs ys : List ℤ) (t r : List ℕ) (whole : Read (List ℤ)) → map_read (λ g. xs ++ g ∷ []) (tag_at t) ≡ Found ys r → map_read (λ zs. xs ++ zs) (joined_at tag_at t) ≡ whole → map_read (λ zs. ys ++ zs) (more_at (length r) tag_at r) ≡ whole
second_found xs ys t r whole e h = sym (put_front more_tags_at xs ys (tag_at t) r e) ∙ ap (map_read (λ zs. xs ++ zs)) (sym (joined_onto tag_at (tag_at t))) ∙ h

pub second_stuck : (xs : List ℤ) (t r : List ℕ) (whole : Read (List ℤ)) → map_read (λ g. xs ++ g ∷ []) (tag_at t) ≡ Stuck r → map_read (λ zs. xs ++ zs) (joined_at tag_at t) ≡ whole → whole ≡ Stuck r
second_stuck xs t r whole e h = sym h ∙ ap (map_read (λ zs. xs ++ zs)) (joined_onto tag_at (tag_at t)) ∙ put_stuck more_tags_at xs (tag_at t) r e

-- a tag ahead that can't be read
pub ahead_fault : {X : Type 0} (view : X → List ℤ) (j : ℕ) (xs : List ℤ) (t r : List ℕ) (whole : Read (List ℤ)) (f : Fault) (given : Result X Fault) (outcome : Result (List ℤ) Fault) → given ≡ Err f → IsErrAnd outcome (λ g. g ≡ f)
    → GivesBy view r given (map_read (λ g. xs ++ g ∷ []) (tag_before (44 ∷ []) t)) → map_read (λ zs. xs ++ zs) (bracketed_at (suc j) t) ≡ whole → Gives r outcome whole
ahead_fault view j xs t r whole f given (Ok zs) e is h so_far = absurd is
ahead_fault {X = X} view j xs t r whole f given (Err g) e is h so_far =
    subst (λ (k : Fault). Gives r (let o : Result (List ℤ) Fault = Err k in o) whole) (sym is) (by_fault f (subst (λ (o : Result X Fault). GivesBy view r o (map_read (λ g. xs ++ g ∷ []) (tag_before (44 ∷ []) t))) e h))
  where
    by_fault : (f : Fault) → GivesBy view r (let o : Result X Fault = Err f in o) (map_read (λ g. xs ++ g ∷ []) (tag_before (44 ∷ []) t)) → Gives r (let o : Result (List ℤ) Fault = Err f in o) whole
    by_fault faults.Stuck k = ahead_stuck j xs t r whole k so_far
    by_fault faults.NoMemory k = tt
