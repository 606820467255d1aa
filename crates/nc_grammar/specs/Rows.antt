-- Lines that begin with a word and have the fields of that word, as rows of a table.
use Rattle.std.specs.Prelude.{ℕ, zero, suc, List, [], ◌∷◌, ◌++◌, map}
use Rattle.nc_grammar.specs.Reading.{Read, Found, go_on, map_read, with_first}
use Rattle.nc_grammar.specs.Label.{field_at, word_at}

-- the shapes that fields can have: their values, those that have a text, the text, and reading it
pub record Kit : Type 1 where
  pub Shape : Type 0
  pub Value : Shape → Type 0
  pub Fits : (s : Shape) → Value s → Type 0
  pub text : (s : Shape) → Value s → List ℕ
  pub read : (s : Shape) → List ℕ → Read (Value s)

-- a field: its name and the shape of its value
pub record Field (K : Kit) : Type 0 where
  pub name : List ℕ
  pub shape : K.Shape

-- the text of the name of a field: a blank, the name and `=`
abbrev pub label_of : List ℕ → List ℕ
label_of name = 32 ∷ name ++ 61 ∷ []

-- a value for each field
abbrev pub Values : (K : Kit) → List (Field K) → Type 0
Values K [] = Unit {0}
Values K (f ∷ fs) = K.Value f.shape × Values K fs

-- reads fields, each behind its label
abbrev pub fields_at : (K : Kit) (fs : List (Field K)) → List ℕ → Read (Values K fs)
fields_at K [] t = Found tt t
fields_at K (f ∷ fs) t = go_on (field_at (label_of f.name) (K.read f.shape) t) (λ a r. with_first a (fields_at K fs r))

-- a row: its word, its fields and what their values make
pub record Row (K : Kit) (E : Type 0) : Type 0 where
  pub word : List ℕ
  pub fields : List (Field K)
  pub make : Values K fields → E

-- reads the fields of a row
abbrev pub row_at : {E : Type 0} (K : Kit) (r : Row K E) → List ℕ → Read E
row_at K r t = map_read r.make (fields_at K r.fields t)

-- the words of some rows
abbrev pub words_of : {E : Type 0} (K : Kit) → List (Row K E) → List (List ℕ)
words_of K rs = map (λ r. r.word) rs

-- reads the fields of the row at a place
abbrev pub nth_at : {E : Type 0} (K : Kit) → Row K E → List (Row K E) → ℕ → List ℕ → Read E
nth_at K r rs zero t = row_at K r t
nth_at K r [] (suc i) t = row_at K r t
nth_at K r (s ∷ rs) (suc i) t = nth_at K s rs i t

-- reads the word, and then the fields of its row
abbrev pub line_at : {E : Type 0} (K : Kit) → Row K E → List (Row K E) → List ℕ → Read E
line_at K r rs t = go_on (word_at (words_of K (r ∷ rs)) t) (λ i rest. nth_at K r rs i rest)
