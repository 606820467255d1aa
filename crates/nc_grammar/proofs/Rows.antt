-- Reading the rows of a table is right where reading its fields is.
use Rattle.std.proofs.Common.{◌≡◌, inl, inr, ℕ, zero, suc, ◌+◌, ◌<◌, Bool, true, false, eqb, List, [], ◌∷◌, ◌++◌, length, refl, sym, ap, subst, ◌∙◌, append_assoc, arith}
use Rattle.std.specs.Prelude.{not}
use Rattle.std.proofs.lemmas.Bool.{both_ways, eqb-true}
use Rattle.std.proofs.lemmas.List.{append-nil}
use Rattle.nc_grammar.specs.Reading.{Read, Found, Stuck, go_on, map_read, with_first}
use Rattle.nc_grammar.specs.Label.{label_at, field_at, word_at, IsWord, IsWordFrom}
use Rattle.nc_grammar.specs.Rows.{Kit, Field, label_of, Values, fields_at, Row, row_at, nth_at, words_of, line_at}
use Rattle.nc_grammar.specs.Whole.{IsLine}
use Rattle.nc_grammar.proofs.Split.{head_is, not_nil}
use Rattle.nc_grammar.proofs.Exact.{IsExact, Named, IsExact-named, IsExact-same, IsExact-read, IsSet-wider}
use Rattle.nc_grammar.proofs.Seq.{Both, both_exact, either}
use Rattle.nc_grammar.proofs.Label.{IsLabel, label_exact, nothing}
use Rattle.nc_grammar.proofs.Word.{word_exact, word_stays, repeats}

-- each of them fits its shape
abbrev pub AllFit : (K : Kit) (fs : List (Field K)) → Values K fs → Type 0
AllFit K [] x = Unit {0}
AllFit K (f ∷ fs) x = K.Fits f.shape x.0 × AllFit K fs x.1

-- the text of the fields behind a text
abbrev pub text_onto : (K : Kit) (front : List ℕ) (fs : List (Field K)) → Values K fs → List ℕ
text_onto K front [] x = front
text_onto K front (f ∷ fs) x = text_onto K (front ++ label_of f.name ++ K.text f.shape x.0) fs x.1

-- the row at a place, the last one past the end
abbrev pub nth_row : {E : Type 0} (K : Kit) → Row K E → List (Row K E) → ℕ → Row K E
nth_row K r rs zero = r
nth_row K r [] (suc i) = r
nth_row K r (s ∷ rs) (suc i) = nth_row K s rs i

-- the texts of a shape's values
pub record Spells (K : Kit) (s : K.Shape) (x : K.Value s) (u : List ℕ) : Type 0 where
  pub fits : K.Fits s x
  pub text : u ≡ K.text s x

-- each shape is read rightly, and does not go on with a blank
pub record IsShape (K : Kit) (s : K.Shape) : Type 0 where
  pub stays : ℕ → Bool
  pub blank : stays 32 ≡ false
  pub exact : IsExact (Spells K s) stays (K.read s)

abbrev pub IsKit : Kit → Type 0
IsKit K = (s : K.Shape) → IsShape K s

abbrev pub text_all : (K : Kit) (fs : List (Field K)) → Values K fs → List ℕ
text_all K [] x = []
text_all K (f ∷ fs) x = label_of f.name ++ (K.text f.shape x.0 ++ text_all K fs x.1)

text_onto_is : (K : Kit) (front : List ℕ) (fs : List (Field K)) (x : Values K fs) → text_onto K front fs x ≡ front ++ text_all K fs x
text_onto_is K front [] x = sym (append-nil front)
text_onto_is K front (f ∷ fs) x =
    text_onto_is K (front ++ label_of f.name ++ K.text f.shape x.0) fs x.1
    ∙ append_assoc (front ++ label_of f.name) (K.text f.shape x.0) (text_all K fs x.1)
    ∙ append_assoc front (label_of f.name) (K.text f.shape x.0 ++ text_all K fs x.1)

pub record AreFields (K : Kit) (fs : List (Field K)) (x : Values K fs) (u : List ℕ) : Type 0 where
  pub fit : AllFit K fs x
  pub text : u ≡ text_all K fs x

pub record SomeExact {A : Type 0} (L : A → List ℕ → Type 0) (read : List ℕ → Read A) : Type 0 where
  pub stays : ℕ → Bool
  pub blank : stays 32 ≡ false
  pub exact : IsExact L stays read

fields_open : (K : Kit) (fs : List (Field K)) (x : Values K fs) (c : ℕ) (v : List ℕ) → AreFields K fs x (c ∷ v) → c ≡ 32
fields_open K [] x c v h = absurd (not_nil c v h.text)
fields_open K (f ∷ fs) x c v h = head_is c 32 v ((f.name ++ 61 ∷ []) ++ (K.text f.shape x.0 ++ text_all K fs x.1)) h.text

no_fields : (K : Kit) → SomeExact (AreFields K []) (fields_at K [])
no_fields K = record { stays = nothing; blank = refl; exact = IsExact-same (IsLabel []) (AreFields K []) nothing (label_at []) (λ a u h. record { fit = tt; text = h }) (λ a u h. h.text) (label_exact []) }

second_is : {A B : Type 0} (a : A) (y : Read B) → map_read (λ (x : A × B). x.1) (with_first a y) ≡ y
second_is a (Found b r) = refl
second_is a (Stuck r) = refl

pub seconds_are : {A B : Type 0} (y : Read A) (f : A → List ℕ → Read B) → map_read (λ (x : A × B). x.1) (go_on y (λ a r. with_first a (f a r))) ≡ go_on y f
seconds_are (Found a r) f = second_is a (f a r)
seconds_are (Stuck r) f = refl

-- a value behind a label
pub record IsLabelled {A : Type 0} (label : List ℕ) (L : A → List ℕ → Type 0) (x : A) (u : List ℕ) : Type 0 where
  pub rest : List ℕ
  pub value : L x rest
  pub parts : u ≡ label ++ rest

pub labelled_exact : {A : Type 0} (label : List ℕ) (L : A → List ℕ → Type 0) (stays : ℕ → Bool) (read : List ℕ → Read A) → IsExact L stays read → IsExact (IsLabelled label L) (either nothing stays) (field_at label read)
labelled_exact {A = A} label L stays read x =
    let pair = both_exact (IsLabel label) (λ a. L) nothing stays (label_at label) (λ a. read) (label_exact label) (λ a u h. x) (λ a b c v h. refl) in
    let named = IsExact-named (λ (p : Unit {0} × A). p.1) (Both (IsLabel label) (λ a. L)) (either nothing stays) _ pair in
    let same = IsExact-same (Named (λ (p : Unit {0} × A). p.1) (Both (IsLabel label) (λ a. L))) (IsLabelled label L) (either nothing stays) _
    (λ a u m. record { rest = m.2.right; value = subst (λ (b : A). L b m.2.right) (sym m.1) m.2.second; parts = m.2.parts ∙ ap (λ (l : List ℕ). l ++ m.2.right) m.2.first })
    (λ a u m. ((tt, a), refl, record { left = label; right = m.rest; first = refl; second = m.value; parts = m.parts })) named in
    IsExact-read (IsLabelled label L) (either nothing stays) _ (field_at label read) (λ t. seconds_are (label_at label t) (λ a r. read r)) same

pub fields_exact : (K : Kit) → IsKit K → (fs : List (Field K)) → SomeExact (AreFields K fs) (fields_at K fs)
fields_exact K kit [] = no_fields K
fields_exact K kit (f ∷ fs) =
    let s = kit f.shape in
    let more = fields_exact K kit fs in
    let first = labelled_exact (label_of f.name) (Spells K f.shape) s.stays (K.read f.shape) s.exact in
    let pair = both_exact (IsLabelled (label_of f.name) (Spells K f.shape)) (λ a. AreFields K fs) (either nothing s.stays) more.stays (field_at (label_of f.name) (K.read f.shape)) (λ a. fields_at K fs) first (λ a u h. more.exact)
    (λ a b c v h. subst (λ (k : ℕ). s.stays k ≡ false) (sym (fields_open K fs b c v h)) s.blank) in
    record {
      stays = either (either nothing s.stays) more.stays;
      blank = rw (s.blank, more.blank) refl;
      exact = IsExact-same (Both (IsLabelled (label_of f.name) (Spells K f.shape)) (λ a. AreFields K fs)) (AreFields K (f ∷ fs)) _ _
          (λ x u m. record {
            fit = (m.first.value.fits, m.second.fit);
            text = m.parts ∙ ap (λ (l : List ℕ). l ++ m.right) (m.first.parts ∙ ap (λ (l : List ℕ). label_of f.name ++ l) m.first.value.text)
                ∙ append_assoc (label_of f.name) (K.text f.shape x.0) m.right ∙ ap (λ (l : List ℕ). label_of f.name ++ (K.text f.shape x.0 ++ l)) m.second.text;
          })
          (λ x u m. record {
            left = label_of f.name ++ K.text f.shape x.0;
            right = text_all K fs x.1;
            first = record { rest = K.text f.shape x.0; value = record { fits = m.fit.0; text = refl }; parts = refl };
            second = record { fit = m.fit.1; text = refl };
            parts = m.text ∙ sym (append_assoc (label_of f.name) (K.text f.shape x.0) (text_all K fs x.1));
          }) pair;
    }

-- ---- a table

abbrev pub IsRow : {E : Type 0} (K : Kit) → Row K E → E → List ℕ → Type 0
IsRow K r = Named r.make (AreFields K r.fields)

row_exact : {E : Type 0} (K : Kit) → IsKit K → (r : Row K E) → SomeExact (IsRow K r) (row_at K r)
row_exact K kit r = let x = fields_exact K kit r.fields in record { stays = x.stays; blank = x.blank; exact = IsExact-named r.make (AreFields K r.fields) x.stays (fields_at K r.fields) x.exact }

-- what stands in the table for a value
pub record Listed {E : Type 0} (K : Kit) (r : Row K E) (rs : List (Row K E)) (Fits : E → Type 0) (line : E → List ℕ) (e : E) : Type 0 where
  pub place : ℕ
  pub within : IsWord (words_of K (r ∷ rs)) place (nth_row K r rs place).word
  pub values : Values K (nth_row K r rs place).fields
  pub fit : AllFit K (nth_row K r rs place).fields values
  pub is : e ≡ (nth_row K r rs place).make values

-- what a row's values make has its line
abbrev pub Told : {E : Type 0} (K : Kit) (Fits : E → Type 0) (line : E → List ℕ) → Row K E → Type 0
Told K Fits line r = (x : Values K r.fields) → AllFit K r.fields x → Fits (r.make x) × (line (r.make x) ≡ text_onto K r.word r.fields x)

abbrev pub AllTold : {E : Type 0} (K : Kit) (Fits : E → Type 0) (line : E → List ℕ) → List (Row K E) → Type 0
AllTold K Fits line [] = Unit {0}
AllTold K Fits line (r ∷ rs) = Told K Fits line r × AllTold K Fits line rs

told_at : {E : Type 0} (K : Kit) (Fits : E → Type 0) (line : E → List ℕ) (r : Row K E) (rs : List (Row K E)) → AllTold K Fits line (r ∷ rs) → (i : ℕ) → Told K Fits line (nth_row K r rs i)
told_at K Fits line r rs h zero = h.0
told_at K Fits line r [] h (suc i) = h.0
told_at K Fits line r (s ∷ rs) h (suc i) = told_at K Fits line s rs h.1 i

word_is : {E : Type 0} (K : Kit) (k : ℕ) (r : Row K E) (rs : List (Row K E)) (i : ℕ) (u : List ℕ) → IsWordFrom k (words_of K (r ∷ rs)) (k + i) u → u ≡ (nth_row K r rs i).word
word_is K k r rs zero u (inl h) = h.1
word_is K k r [] zero u (inr h) = absurd h
word_is K k r (s ∷ rs) zero u (inr h) = absurd (too_far K (k + 1) (s ∷ rs) (k + 0) u (omega arith) h)
  where
    too_far : {E : Type 0} (K : Kit) (k : ℕ) (rs : List (Row K E)) (i : ℕ) (u : List ℕ) → i < k → IsWordFrom k (words_of K rs) i u → ⊥
    too_far K k [] i u lt h = h
    too_far K k (r ∷ rs) i u lt (inl h) = absurd (omega (arith, h.0))
    too_far K k (r ∷ rs) i u lt (inr h) = too_far K (k + 1) rs i u (omega arith) h
word_is K k r rs (suc i) u (inl h) = absurd (omega (arith, h.0))
word_is K k r [] (suc i) u (inr h) = absurd h
word_is K k r (s ∷ rs) (suc i) u (inr h) =
    let e : k + suc i ≡ (k + 1) + i = omega arith in
    word_is K (k + 1) s rs i u (subst (λ (n : ℕ). IsWordFrom (k + 1) (words_of K (s ∷ rs)) n u) e h)

word_within_from : {E : Type 0} (K : Kit) (k : ℕ) (r : Row K E) (rs : List (Row K E)) (i : ℕ) → i < length (r ∷ rs) → IsWordFrom k (words_of K (r ∷ rs)) (k + i) (nth_row K r rs i).word
word_within_from K k r rs zero lt = inl (omega arith, refl)
word_within_from K k r [] (suc i) lt = absurd (omega (arith, lt))
word_within_from K k r (s ∷ rs) (suc i) lt =
    let e : (k + 1) + i ≡ k + suc i = omega arith in
    inr (subst (λ (n : ℕ). IsWordFrom (k + 1) (words_of K (s ∷ rs)) n (nth_row K s rs i).word) e (word_within_from K (k + 1) s rs i (omega (arith, lt))))

-- each row's word stands at its place
pub word_within : {E : Type 0} (K : Kit) (r : Row K E) (rs : List (Row K E)) (i : ℕ) → i < length (r ∷ rs) → IsWord (words_of K (r ∷ rs)) i (nth_row K r rs i).word
word_within K r rs i lt =
    let e : 0 + i ≡ i = omega arith in
    subst (λ (n : ℕ). IsWord (words_of K (r ∷ rs)) n (nth_row K r rs i).word) e (word_within_from K 0 r rs i lt)

abbrev pub but_blank : ℕ → Bool
but_blank c = not (eqb c 32)

is_wider : (stays : ℕ → Bool) → stays 32 ≡ false → (c : ℕ) → stays c ≡ true → but_blank c ≡ true
is_wider stays blank c e =
    (elim (eqb c 32) as (λ b. eqb c 32 ≡ b → not b ≡ true) [
      | true ↦ λ g. absurd (both_ways (stays 32) blank (subst (λ (k : ℕ). stays k ≡ true) (eqb-true c 32 g) e))
      | false ↦ λ g. refl
    ]) refl

pub loosely : {A : Type 0} (L : A → List ℕ → Type 0) (read : List ℕ → Read A) → SomeExact L read → IsExact L but_blank read
loosely L read x = record { set = IsSet-wider L x.stays but_blank (is_wider x.stays x.blank) x.exact.set; tells = x.exact.tells }

nth_exact : {E : Type 0} (K : Kit) → IsKit K → (r : Row K E) (rs : List (Row K E)) (i : ℕ) → IsExact (IsRow K (nth_row K r rs i)) but_blank (nth_at K r rs i)
nth_exact K kit r rs zero = loosely (IsRow K r) (row_at K r) (row_exact K kit r)
nth_exact K kit r [] (suc i) = loosely (IsRow K r) (row_at K r) (row_exact K kit r)
nth_exact K kit r (s ∷ rs) (suc i) = nth_exact K kit s rs i

line_from : {E : Type 0} (K : Kit) (Fits : E → Type 0) (line : E → List ℕ) (r : Row K E) (rs : List (Row K E)) → AllTold K Fits line (r ∷ rs) → (e : E) (u : List ℕ)
    → Named (λ (p : ℕ × E). p.1) (Both (IsWord (words_of K (r ∷ rs))) (λ i. IsRow K (nth_row K r rs i))) e u → IsLine Fits line e u
line_from {E = E} K Fits line r rs told e u m =
    let i = m.0.0 in
    let b = m.2 in
    let row = nth_row K r rs i in
    let x = b.second.0 in
    let t = told_at K Fits line r rs told i x b.second.2.fit in
    let w = word_is K 0 r rs i b.left (subst (λ (n : ℕ). IsWord (words_of K (r ∷ rs)) n b.left) (omega arith) b.first) in
    let is : e ≡ row.make x = m.1 ∙ b.second.1 in
    record {
      fits = subst Fits (sym is) t.0;
      text = b.parts ∙ ap (λ (l : List ℕ). l ++ b.right) w ∙ ap (λ (l : List ℕ). row.word ++ l) b.second.2.text ∙ sym (text_onto_is K row.word row.fields x) ∙ sym t.1 ∙ ap line (sym is);
    }

line_back : {E : Type 0} (K : Kit) (Fits : E → Type 0) (line : E → List ℕ) (r : Row K E) (rs : List (Row K E)) → AllTold K Fits line (r ∷ rs) → (e : E) (u : List ℕ) → IsLine Fits line e u → Listed K r rs Fits line e
    → Named (λ (p : ℕ × E). p.1) (Both (IsWord (words_of K (r ∷ rs))) (λ i. IsRow K (nth_row K r rs i))) e u
line_back K Fits line r rs told e u m l =
    let row = nth_row K r rs l.place in
    let t = told_at K Fits line r rs told l.place l.values l.fit in (
      (l.place, e),
      refl,
      record {
        left = row.word;
        right = text_all K row.fields l.values;
        first = l.within;
        second = (l.values, l.is, record { fit = l.fit; text = refl });
        parts = m.text ∙ ap line l.is ∙ t.1 ∙ text_onto_is K row.word row.fields l.values;
      },
    )

-- Reading a table is right for the lines of the values that it lists.
pub table_exact : {E : Type 0} (K : Kit) → IsKit K → (r : Row K E) (rs : List (Row K E)) (Fits : E → Type 0) (line : E → List ℕ)
    → repeats (words_of K (r ∷ rs)) ≡ false → word_stays (words_of K (r ∷ rs)) 32 ≡ false → AllTold K Fits line (r ∷ rs) → ((e : E) → Fits e → Listed K r rs Fits line e)
    → SomeExact (IsLine Fits line) (line_at K r rs)
table_exact {E = E} K kit r rs Fits line once apart told listed =
    let words = words_of K (r ∷ rs) in
    let pair = both_exact (IsWord words) (λ i. IsRow K (nth_row K r rs i)) (word_stays words) but_blank (word_at words) (λ i. nth_at K r rs i)
    (word_exact r.word (words_of K rs) once)
    (λ i u h. nth_exact K kit r rs i)
    (λ i e c v h. subst (λ (k : ℕ). word_stays words k ≡ false) (sym (fields_open K (nth_row K r rs i).fields h.0 c v h.2)) apart) in
    let named = IsExact-named (λ (p : ℕ × E). p.1) (Both (IsWord words) (λ i. IsRow K (nth_row K r rs i))) (either (word_stays words) but_blank) _ pair in
    let same = IsExact-same (Named (λ (p : ℕ × E). p.1) (Both (IsWord words) (λ i. IsRow K (nth_row K r rs i)))) (IsLine Fits line) (either (word_stays words) but_blank) _
    (λ e u m. line_from K Fits line r rs told e u m)
    (λ e u m. line_back K Fits line r rs told e u m (listed e m.fits)) named in
    record {
      stays = either (word_stays words) but_blank;
      blank = rw apart refl;
      exact = IsExact-read (IsLine Fits line) (either (word_stays words) but_blank) _ (line_at K r rs) (λ t. seconds_are (word_at words t) (λ i rest. nth_at K r rs i rest)) same;
    }
