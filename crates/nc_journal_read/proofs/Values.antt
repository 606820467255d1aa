-- Reading a value of a line is right.
use Rattle.std.proofs.Common.{◌≡◌, ◌≢◌, ℕ, ℤ, pos, negsuc, zero, suc, ◌<◌, ◌^◌, ◌≤◌, Bool, true, false, List, [], ◌∷◌, ◌++◌, length, Option, Some, None, refl, sym, ap, subst, ◌∙◌, append_assoc, arith}
use Rattle.std.specs.Prelude.{codes}
use Rattle.std.specs.Fmt.{decimal}
use Rattle.std.proofs.lemmas.Fmt.{decimal_digit}
use Rattle.std.proofs.lemmas.Int.{ints}
use Rattle.nc_types.specs.Id.{Id, IsTime, IsTag, last_second}
use Rattle.nc_types.specs.Cursor.{AreTags, as_cursor}
use Rattle.nc_types.specs.Text.{quoted}
use Rattle.nc_types.specs.declared.start.Start.{Start}
use Rattle.nc_types.specs.declared.start.Start.TheVariants.{Oldest, Newest, Given}
use Rattle.nc_grammar.specs.Reading.{Read, Found, Stuck, map_read}
use Rattle.nc_grammar.specs.Number.{is_digit, number_at}
use Rattle.nc_grammar.specs.Label.{label_at}
use Rattle.nc_grammar.specs.Quoted.{AreBytes}
use Rattle.nc_grammar.specs.Maybe.{option_at, joined_at, two_at, OrNone}
use Rattle.nc_grammar.proofs.Texts.{AtMost, or_dash, SomeFit}
use Rattle.nc_grammar.specs.Whole.{IsLine}
use Rattle.nc_grammar.proofs.Split.{head_is, not_nil}
use Rattle.nc_grammar.proofs.Exact.{IsExact, IsExact-same, IsExact-named, IsExact-read, Named}
use Rattle.nc_grammar.proofs.Number.{number_first, number_some}
use Rattle.nc_grammar.proofs.Label.{IsLabel, label_exact, nothing}
use Rattle.nc_grammar.proofs.Maybe.{NoDash}
use Rattle.nc_grammar.proofs.More.{or_comma, Shortens, shortens}
use Rattle.nc_grammar.proofs.Seq.{either}
use Rattle.nc_grammar.proofs.Two.{IsTwo, two_exact, IsEither, on_left, on_right, IsChoice, choice_exact}
use Rattle.nc_grammar.proofs.Forms.{number_form, maybe_form, joined_form}
use Rattle.nc_journal_field.specs.Field.{truth_text, optional, start_text, info_text, full_text}
use Rattle.nc_types.specs.Written.{joined, tag_text, id_text, cursor_text}
use Rattle.nc_journal_read.specs.Fit.{IsU64, IsId, IsCursor, IsCursorIfGiven, IsInfo, IsFull}
use Rattle.nc_journal_read.specs.ValueReader.{u64_at, time_at, truth_of, truth_at, tag_of, tag_at, id_of, written_id_at, cursor_at, start_word_at, start_at, info_of, info_at, full_of, full_at}

-- the same values and texts in other words
pub reworded : {A : Type 0} (F G : A → Type 0) (f g : A → List ℕ) (stays : ℕ → Bool) (read : List ℕ → Read A) → ((a : A) → F a → G a) → ((a : A) → G a → F a) → ((a : A) → G a → f a ≡ g a) → IsExact (IsLine F f) stays read → IsExact (IsLine G g) stays read
reworded F G f g stays read to from same x =
    IsExact-same (IsLine F f) (IsLine G g) stays read
    (λ a u m. record { fits = to a m.fits; text = m.text ∙ same a (to a m.fits) })
    (λ a u m. record { fits = from a m.fits; text = m.text ∙ sym (same a m.fits) }) x

-- ---- texts that begin with a number

-- each text begins with a digit
pub record IsDigitFirst {A : Type 0} (L : A → List ℕ → Type 0) : Type 0 where
  pub some : (a : A) → L a [] → ⊥
  pub first : (a : A) (c : ℕ) (s : List ℕ) → L a (c ∷ s) → is_digit c ≡ true

-- what stands behind a number
pub record IsNumberFront (u : List ℕ) : Type 0 where
  pub number : ℕ
  pub within : number < 2 ^ 64
  pub behind : List ℕ
  pub text : u ≡ decimal number ++ behind

pub front_some : (u : List ℕ) → IsNumberFront u → u ≢ []
front_some u m e = by_digits (decimal m.number) refl
  where
    by_digits : (d : List ℕ) → decimal m.number ≡ d → ⊥
    by_digits [] h = number_some 18446744073709551615 m.number (omega arith) (record { within = omega (arith, m.within); text = sym h })
    by_digits (c ∷ d) h = not_nil c (d ++ m.behind) (ap (λ (l : List ℕ). l ++ m.behind) (sym h) ∙ sym m.text ∙ e)

pub front_first : (u : List ℕ) → IsNumberFront u → (c : ℕ) (s : List ℕ) → u ≡ c ∷ s → is_digit c ≡ true
front_first u m c s e = by_digits (decimal m.number) refl
  where
    by_digits : (d : List ℕ) → decimal m.number ≡ d → is_digit c ≡ true
    by_digits [] h = absurd (number_some 18446744073709551615 m.number (omega arith) (record { within = omega (arith, m.within); text = sym h }))
    by_digits (b ∷ d) h =
        subst (λ (k : ℕ). is_digit k ≡ true) (head_is b c (d ++ m.behind) s (ap (λ (l : List ℕ). l ++ m.behind) (sym h) ∙ sym m.text ∙ e))
        (number_first 18446744073709551615 m.number (omega arith) b d (record { within = omega (arith, m.within); text = sym h }))

pub digit_first : {A : Type 0} (L : A → List ℕ → Type 0) → ((a : A) (u : List ℕ) → L a u → IsNumberFront u) → IsDigitFirst L
digit_first L f = record { some = λ a m. front_some [] (f a [] m) refl; first = λ a c s m. front_first (c ∷ s) (f a (c ∷ s) m) c s refl }

pub no_dash : {A : Type 0} (L : A → List ℕ → Type 0) → IsDigitFirst L → NoDash L
no_dash L d = record { some = d.some; other = λ a s m. dash (d.first a 45 s m) }
  where
    dash : is_digit 45 ≡ true → ⊥
    dash e = absurd cc

-- ---- a value or `-`

pub optional_form : {A : Type 0} (F : A → Type 0) (text : A → List ℕ) (stays : ℕ → Bool) (read : List ℕ → Read A) → NoDash (IsLine F text) → IsExact (IsLine F text) stays read → IsExact (IsLine (OrNone F) (optional text)) stays (option_at read)
optional_form {A = A} F text stays read d x = reworded (OrNone F) (OrNone F) (or_dash text) (optional text) stays (option_at read) (λ o h. h) (λ o h. h) (λ o h. dash_is o) (maybe_form F text stays read d x)
  where
    dash_is : (o : Option A) → or_dash text o ≡ optional text o
    dash_is None = refl
    dash_is (Some a) = refl

-- ---- numbers and truth values

pub u64_form : IsExact (IsLine IsU64 decimal) is_digit u64_at
u64_form = number_form 18446744073709551615 (omega arith)

pub u64_first : IsDigitFirst (IsLine IsU64 decimal)
u64_first = digit_first (IsLine IsU64 decimal) (λ n u m. record { number = n; within = omega (arith, m.fits); behind = []; text = m.text ∙ sym (nil (decimal n)) })
  where
    nil : (p : List ℕ) → p ++ [] ≡ p
    nil [] = refl
    nil (c ∷ p) = ap (λ (l : List ℕ). c ∷ l) (nil p)

pub optional_u64_form : IsExact (IsLine (OrNone IsU64) (optional decimal)) is_digit (option_at u64_at)
optional_u64_form = optional_form IsU64 decimal is_digit u64_at (no_dash (IsLine IsU64 decimal) u64_first) u64_form

abbrev pub Always : {A : Type 0} → A → Type 0
Always a = Unit {0}

truth_there : (b : Bool) (u : List ℕ) → Named truth_of (IsLine (AtMost 1) decimal) b u → IsLine Always truth_text b u
truth_there b u m = by_number m.0 m.1 m.2
  where
    by_number : (n : ℕ) → b ≡ truth_of n → IsLine (AtMost 1) decimal n u → IsLine Always truth_text b u
    by_number zero e l = subst (λ (c : Bool). IsLine Always truth_text c u) (sym e) (record { fits = tt; text = l.text ∙ decimal_digit 0 (omega arith) })
    by_number (suc zero) e l = subst (λ (c : Bool). IsLine Always truth_text c u) (sym e) (record { fits = tt; text = l.text ∙ decimal_digit 1 (omega arith) })
    by_number (suc (suc n)) e l = absurd (omega (arith, l.fits))

truth_back : (b : Bool) (u : List ℕ) → IsLine Always truth_text b u → Named truth_of (IsLine (AtMost 1) decimal) b u
truth_back true u m = (1, refl, record { fits = omega arith; text = m.text ∙ sym (decimal_digit 1 (omega arith)) })
truth_back false u m = (0, refl, record { fits = omega arith; text = m.text ∙ sym (decimal_digit 0 (omega arith)) })

pub truth_form : IsExact (IsLine Always truth_text) is_digit truth_at
truth_form =
    IsExact-same (Named truth_of (IsLine (AtMost 1) decimal)) (IsLine Always truth_text) is_digit truth_at truth_there truth_back
    (IsExact-named truth_of (IsLine (AtMost 1) decimal) is_digit (number_at 1) (number_form 1 (omega arith)))

-- ---- tags, ids, cursors

short_first : IsDigitFirst (IsLine (AtMost 65535) decimal)
short_first = record { some = λ n m. u64_first.some n (record { fits = omega (arith, m.fits); text = m.text }); first = λ n c s m. u64_first.first n c s (record { fits = omega (arith, m.fits); text = m.text }) }

tag_there : (z : ℤ) (u : List ℕ) → Named tag_of (IsLine (OrNone (AtMost 65535)) (or_dash decimal)) z u → IsLine IsTag tag_text z u
tag_there z u m = by_option m.0 m.1 m.2
  where
    by_option : (o : Option ℕ) → z ≡ tag_of o → IsLine (OrNone (AtMost 65535)) (or_dash decimal) o u → IsLine IsTag tag_text z u
    by_option None e l = subst (λ (y : ℤ). IsLine IsTag tag_text y u) (sym e) (record { fits = (omega (arith, ints), omega (arith, ints)); text = l.text })
    by_option (Some g) e l = subst (λ (y : ℤ). IsLine IsTag tag_text y u) (sym e) (record { fits = (omega (arith, ints), omega (arith, ints, l.fits)); text = l.text })

tag_back : (z : ℤ) (u : List ℕ) → IsLine IsTag tag_text z u → Named tag_of (IsLine (OrNone (AtMost 65535)) (or_dash decimal)) z u
tag_back (pos g) u m = (Some g, refl, record { fits = omega (arith, ints, m.fits.1); text = m.text })
tag_back (negsuc n) u m = let is : n ≡ 0 = omega (arith, ints, m.fits.0) in (None, ap negsuc is, record { fits = tt; text = m.text })

pub tag_form : IsExact (IsLine IsTag tag_text) is_digit tag_at
tag_form =
    IsExact-same (Named tag_of (IsLine (OrNone (AtMost 65535)) (or_dash decimal))) (IsLine IsTag tag_text) is_digit tag_at tag_there tag_back
    (IsExact-named tag_of (IsLine (OrNone (AtMost 65535)) (or_dash decimal)) is_digit (option_at (number_at 65535)) (maybe_form (AtMost 65535) decimal is_digit (number_at 65535) (no_dash (IsLine (AtMost 65535) decimal) short_first) (number_form 65535 (omega arith))))

pub tag_shortens : Shortens tag_at
tag_shortens = shortens (IsLine IsTag tag_text) is_digit tag_at tag_form

-- two values with a text between them, as one value
pub two_named : {A B C : Type 0} (c : ℕ) (cs : List ℕ) (to : A × B → C) (F : A → Type 0) (f : A → List ℕ) (G : B → Type 0) (g : B → List ℕ) (H : C → Type 0) (h : C → List ℕ) (stays later : ℕ → Bool) (read : List ℕ → Read A) (more : List ℕ → Read B)
    → stays c ≡ false → IsExact (IsLine F f) stays read → IsExact (IsLine G g) later more
    → ((x : A × B) → F x.0 → G x.1 → H (to x) × (h (to x) ≡ f x.0 ++ ((c ∷ cs) ++ g x.1)))
    → ((y : C) → H y → (x : A × B) × (y ≡ to x) × F x.0 × G x.1)
    → IsExact (IsLine H h) (either stays (either nothing later)) (λ t. map_read to (two_at (c ∷ cs) read more t))
two_named c cs to F f G g H h stays later read more apart x y there back =
    IsExact-same (Named to (IsTwo (c ∷ cs) (IsLine F f) (IsLine G g))) (IsLine H h) (either stays (either nothing later)) (λ t. map_read to (two_at (c ∷ cs) read more t))
    (λ z u m. let k = there m.0 m.2.first.fits m.2.second.fits in
    record { fits = subst H (sym m.1) k.0; text = m.2.parts ∙ ap (λ (l : List ℕ). l ++ ((c ∷ cs) ++ m.2.right)) m.2.first.text ∙ ap (λ (l : List ℕ). f m.0.0 ++ ((c ∷ cs) ++ l)) m.2.second.text ∙ sym k.1 ∙ ap h (sym m.1) })
    (λ z u m. let b = back z m.fits in let k = there b.0 b.2 b.3 in
    (b.0, b.1, record { left = f b.0.0; right = g b.0.1; first = record { fits = b.2; text = refl }; second = record { fits = b.3; text = refl }; parts = m.text ∙ ap h b.1 ∙ k.1 }))
    (IsExact-named to (IsTwo (c ∷ cs) (IsLine F f) (IsLine G g)) (either stays (either nothing later)) (two_at (c ∷ cs) read more) (two_exact c cs (IsLine F f) (IsLine G g) stays later read more apart x y))

pub time_form : IsExact (IsLine IsTime decimal) is_digit time_at
time_form = number_form last_second (omega arith)

abbrev pub id_stays : ℕ → Bool
id_stays = either is_digit (either nothing is_digit)

pub id_form : IsExact (IsLine IsId id_text) (either is_digit (either nothing is_digit)) written_id_at
id_form =
    two_named 58 [] id_of IsTime decimal IsTag tag_text IsId id_text is_digit is_digit time_at tag_at refl time_form tag_form
    (λ x p q. (record { time = p; tag = q }, append_assoc (decimal x.0) (58 ∷ []) (tag_text x.1))) (λ y m. ((y.time, y.tag), refl, m.time, m.tag))

id_first : IsDigitFirst (IsLine IsId id_text)
id_first = digit_first (IsLine IsId id_text) (λ id u m. record { number = id.time; within = omega (arith, m.fits.time); behind = 58 ∷ tag_text id.tag; text = m.text ∙ append_assoc (decimal id.time) (58 ∷ []) (tag_text id.tag) })

pub optional_id_form : IsExact (IsLine (OrNone IsId) (optional id_text)) (either is_digit (either nothing is_digit)) (option_at written_id_at)
optional_id_form = optional_form IsId id_text (either is_digit (either nothing is_digit)) written_id_at (no_dash (IsLine IsId id_text) id_first) id_form

pub tags_form : IsExact (IsLine (SomeFit IsTag) (joined tag_text)) (either is_digit (or_comma is_digit)) (joined_at tag_at)
tags_form = joined_form IsTag tag_text is_digit tag_at refl tag_form

pub some_tags : (tags : List ℤ) → SomeFit IsTag tags → (0 < length tags) × AreTags tags
some_tags [] h = absurd h
some_tags (g ∷ tags) h = (omega arith, h)

pub tags_some : (tags : List ℤ) → 0 < length tags → AreTags tags → SomeFit IsTag tags
tags_some [] lt h = absurd (omega (arith, lt))
tags_some (g ∷ tags) lt h = h

abbrev pub tags_stay : ℕ → Bool
tags_stay = either is_digit (or_comma is_digit)

pub cursor_form : IsExact (IsLine IsCursor (cursor_text None)) (either is_digit (either nothing (either is_digit (or_comma is_digit)))) cursor_at
cursor_form =
    two_named 58 [] as_cursor IsTime decimal (SomeFit IsTag) (joined tag_text) IsCursor (cursor_text None) is_digit (either is_digit (or_comma is_digit)) time_at (joined_at tag_at) refl time_form tags_form
    (λ x p q. (let k = some_tags x.1 q in record { time = p; some = k.0; tags = k.1 }, append_assoc (decimal x.0) (58 ∷ []) (joined tag_text x.1))) (λ y m. ((y.time, y.tags), refl, m.time, tags_some y.tags m.some m.tags))

cursor_first : IsDigitFirst (IsLine IsCursor (cursor_text None))
cursor_first = digit_first (IsLine IsCursor (cursor_text None)) (λ cur u m. record { number = cur.time; within = omega (arith, m.fits.time); behind = 58 ∷ joined tag_text cur.tags; text = m.text ∙ append_assoc (decimal cur.time) (58 ∷ []) (joined tag_text cur.tags) })

-- ---- where a subscriber begins

abbrev IsGiven : Start → List ℕ → Type 0
IsGiven = Named Given (IsLine IsCursor (cursor_text None))

abbrev IsWordOf : Start → List ℕ → Start → List ℕ → Type 0
IsWordOf start word = Named (λ (x : Unit {0}). start) (IsLabel word)

abbrev IsLater : Start → List ℕ → Type 0
IsLater = IsEither (IsWordOf Newest (codes "newest")) IsGiven

abbrev IsAnyStart : Start → List ℕ → Type 0
IsAnyStart = IsEither (IsWordOf Oldest (codes "oldest")) IsLater

no_letter : (c b : ℕ) → is_digit c ≡ true → 58 ≤ b → c ≢ b
no_letter c b d le e = absurd (by_digit (subst (λ (k : ℕ). is_digit k ≡ true) e d) le)
  where
    by_digit : is_digit b ≡ true → 58 ≤ b → ⊥
    by_digit h le = absurd (grind (arith, h, le))

newest_or_given : IsChoice 110 (IsWordOf Newest (codes "newest")) IsGiven
newest_or_given =
    record {
      begins = λ a c s m. head_is c 110 s (codes "ewest") m.2;
      others = λ a c s m. no_letter c 110 (cursor_first.first m.0 c s m.2) (omega arith);
      some = λ a m. not_nil 110 (codes "ewest") (sym m.2);
      some_others = λ a m. cursor_first.some m.0 m.2;
    }

oldest_or_later : IsChoice 111 (IsWordOf Oldest (codes "oldest")) IsLater
oldest_or_later =
    record {
      begins = λ a c s m. head_is c 111 s (codes "ldest") m.2;
      others = λ a c s m. later_first a c s m;
      some = λ a m. not_nil 111 (codes "ldest") (sym m.2);
      some_others = λ a m. later_some a m;
    }
  where
    later_first : (a : Start) (c : ℕ) (s : List ℕ) → IsLater a (c ∷ s) → c ≢ 111
    later_first a c s (on_left m) e = absurd (omega (arith, e, head_is c 110 s (codes "ewest") m.2))
    later_first a c s (on_right m) e = no_letter c 111 (cursor_first.first m.0 c s m.2) (omega arith) e

    later_some : (a : Start) → IsLater a [] → ⊥
    later_some a (on_left m) = not_nil 110 (codes "ewest") (sym m.2)
    later_some a (on_right m) = cursor_first.some m.0 m.2

word_of : (start : Start) (word : List ℕ) → IsExact (IsWordOf start word) nothing (start_word_at start word)
word_of start word = IsExact-named (λ (x : Unit {0}). start) (IsLabel word) nothing (label_at word) (label_exact word)

abbrev cursor_stays : ℕ → Bool
cursor_stays = either is_digit (either nothing (either is_digit (or_comma is_digit)))

any_start_form : IsExact IsAnyStart (either nothing (either nothing cursor_stays)) start_at
any_start_form =
    choice_exact 111 (IsWordOf Oldest (codes "oldest")) IsLater nothing (either nothing cursor_stays) _ _ oldest_or_later (word_of Oldest (codes "oldest"))
    (choice_exact 110 (IsWordOf Newest (codes "newest")) IsGiven nothing cursor_stays _ _ newest_or_given (word_of Newest (codes "newest")) (IsExact-named Given (IsLine IsCursor (cursor_text None)) cursor_stays cursor_at cursor_form))

start_there : (a : Start) (u : List ℕ) → IsAnyStart a u → IsLine IsCursorIfGiven start_text a u
start_there a u (on_left m) = subst (λ (b : Start). IsLine IsCursorIfGiven start_text b u) (sym m.1) (record { fits = tt; text = m.2 })
start_there a u (on_right (on_left m)) = subst (λ (b : Start). IsLine IsCursorIfGiven start_text b u) (sym m.1) (record { fits = tt; text = m.2 })
start_there a u (on_right (on_right m)) = subst (λ (b : Start). IsLine IsCursorIfGiven start_text b u) (sym m.1) (record { fits = m.2.fits; text = m.2.text })

start_back : (a : Start) (u : List ℕ) → IsLine IsCursorIfGiven start_text a u → IsAnyStart a u
start_back Oldest u m = on_left (tt, refl, m.text)
start_back Newest u m = on_right (on_left (tt, refl, m.text))
start_back (Given cursor) u m = on_right (on_right (cursor, refl, record { fits = m.fits; text = m.text }))

pub start_form : IsExact (IsLine IsCursorIfGiven start_text) (either nothing (either nothing cursor_stays)) start_at
start_form = IsExact-same IsAnyStart (IsLine IsCursorIfGiven start_text) (either nothing (either nothing cursor_stays)) start_at start_there start_back any_start_form

-- ---- what is told of a channel, and of full slots

abbrev LaterFits : ℕ × Option Id → Type 0
LaterFits x = IsU64 x.0 × OrNone IsId x.1

abbrev later_text : ℕ × Option Id → List ℕ
later_text x = decimal x.0 ++ (47 ∷ optional id_text x.1)

map_same : {A : Type 0} (x : Read A) → map_read (λ (a : A). a) x ≡ x
map_same (Found a r) = refl
map_same (Stuck r) = refl

later_form : IsExact (IsLine LaterFits later_text) (either is_digit (either nothing id_stays)) (λ t. map_read (λ (x : ℕ × Option Id). x) (two_at (47 ∷ []) u64_at (option_at written_id_at) t))
later_form =
    two_named 47 [] (λ x. x) IsU64 decimal (OrNone IsId) (optional id_text) LaterFits later_text is_digit id_stays u64_at (option_at written_id_at) refl u64_form optional_id_form
    (λ x p q. ((p, q), refl)) (λ y m. (y, refl, m.0, m.1))

left_grouped : (a b c d e : List ℕ) → a ++ b ++ c ++ d ++ e ≡ a ++ (b ++ (c ++ (d ++ e)))
left_grouped a b c d e = append_assoc (a ++ b ++ c) d e ∙ append_assoc (a ++ b) c (d ++ e) ∙ append_assoc a b (c ++ (d ++ e))

info_form : IsExact (IsLine IsInfo info_text) (either is_digit (either nothing (either is_digit (either nothing id_stays)))) info_at
info_form =
    two_named 47 [] info_of (AtMost 4294967295) decimal LaterFits later_text IsInfo info_text is_digit (either is_digit (either nothing id_stays)) (number_at 4294967295) (two_at (47 ∷ []) u64_at (option_at written_id_at)) refl (number_form 4294967295 (omega arith))
    (IsExact-read (IsLine LaterFits later_text) (either is_digit (either nothing id_stays)) _ (two_at (47 ∷ []) u64_at (option_at written_id_at)) (λ t. map_same (two_at (47 ∷ []) u64_at (option_at written_id_at) t)) later_form)
    (λ x p q. (record { messages = p; members = q.0; last = q.1 }, left_grouped (decimal x.0) (47 ∷ []) (decimal x.1.0) (47 ∷ []) (optional id_text x.1.1))) (λ y m. ((y.messages, (y.members, y.last)), refl, m.messages, (m.members, m.last)))

info_first : IsDigitFirst (IsLine IsInfo info_text)
info_first =
    digit_first (IsLine IsInfo info_text) (λ i u m. record {
      number = i.messages;
      within = omega (arith, m.fits.messages);
      behind = (47 ∷ []) ++ (decimal i.members ++ ((47 ∷ []) ++ optional id_text i.last));
      text = m.text ∙ left_grouped (decimal i.messages) (47 ∷ []) (decimal i.members) (47 ∷ []) (optional id_text i.last);
    })

pub optional_info_form : IsExact (IsLine (OrNone IsInfo) (optional info_text)) (either is_digit (either nothing (either is_digit (either nothing id_stays)))) (option_at info_at)
optional_info_form = optional_form IsInfo info_text (either is_digit (either nothing (either is_digit (either nothing id_stays)))) info_at (no_dash (IsLine IsInfo info_text) info_first) info_form

full_form : IsExact (IsLine IsFull full_text) (either is_digit (either nothing is_digit)) full_at
full_form =
    two_named 44 [] full_of IsU64 decimal IsU64 decimal IsFull full_text is_digit is_digit u64_at u64_at refl u64_form u64_form
    (λ x p q. (record { buffered = p; held = q }, append_assoc (decimal x.0) (44 ∷ []) (decimal x.1))) (λ y m. ((y.buffered, y.held), refl, m.buffered, m.held))

full_first : IsDigitFirst (IsLine IsFull full_text)
full_first = digit_first (IsLine IsFull full_text) (λ f u m. record { number = f.buffered; within = omega (arith, m.fits.buffered); behind = 44 ∷ decimal f.held; text = m.text ∙ append_assoc (decimal f.buffered) (44 ∷ []) (decimal f.held) })

pub optional_full_form : IsExact (IsLine (OrNone IsFull) (optional full_text)) (either is_digit (either nothing is_digit)) (option_at full_at)
optional_full_form = optional_form IsFull full_text (either is_digit (either nothing is_digit)) full_at (no_dash (IsLine IsFull full_text) full_first) full_form

-- ---- quoted texts

pub text_no_dash : NoDash (IsLine AreBytes quoted)
text_no_dash = record { some = λ a m. not_nil 34 _ (sym m.text); other = λ a s m. absurd (omega (arith, head_is 45 34 s _ m.text)) }
