-- Sets of texts in the form "it fits, and this is its text".
use Rattle.std.proofs.Common.{◌≡◌, ℕ, ◌<◌, ◌^◌, Bool, false, List, [], ◌∷◌, ◌++◌, Option, Some, None, refl, sym, ap, subst, ◌∙◌}
use Rattle.std.specs.List.{flat_map, AllByRecursion}
use Rattle.std.specs.Fmt.{decimal}
use Rattle.nc_types.specs.Text.{quoted}
use Rattle.nc_types.specs.Written.{comma, joined}
use Rattle.nc_grammar.specs.Reading.{Read}
use Rattle.nc_grammar.specs.Number.{IsNumber, is_digit, number_at}
use Rattle.nc_grammar.specs.Quoted.{AreBytes, IsQuoted, quoted_at}
use Rattle.nc_grammar.specs.Maybe.{option_at, joined_at, OrNone}
use Rattle.nc_grammar.proofs.Texts.{IsMaybe, AtMost, or_dash, SomeFit}
use Rattle.nc_grammar.specs.Whole.{IsLine}
use Rattle.nc_grammar.proofs.Exact.{IsExact, IsExact-same}
use Rattle.nc_grammar.proofs.Number.{number_exact}
use Rattle.nc_grammar.proofs.Quoted.{quoted_exact}
use Rattle.nc_grammar.specs.Label.{nothing}
use Rattle.nc_grammar.proofs.Maybe.{maybe_exact, NoDash}
use Rattle.nc_grammar.proofs.More.{IsMore, IsJoined, joined_exact, or_comma}
use Rattle.nc_grammar.proofs.Seq.{either}

pub number_form : (limit : ℕ) → limit < 2 ^ 64 → IsExact (IsLine (AtMost limit) decimal) is_digit (number_at limit)
number_form limit lt = IsExact-same (IsNumber limit) (IsLine (AtMost limit) decimal) is_digit (number_at limit) (λ a u m. record { fits = m.within; text = m.text }) (λ a u m. record { within = m.fits; text = m.text }) (number_exact limit lt)

pub text_form : IsExact (IsLine AreBytes quoted) nothing quoted_at
text_form = IsExact-same IsQuoted (IsLine AreBytes quoted) nothing quoted_at (λ a u m. record { fits = m.bytes; text = m.spelled }) (λ a u m. record { bytes = m.fits; spelled = m.text }) quoted_exact

maybe_there : {A : Type 0} (F : A → Type 0) (text : A → List ℕ) (o : Option A) (u : List ℕ) → IsMaybe (IsLine F text) o u → IsLine (OrNone F) (or_dash text) o u
maybe_there F text None u m = record { fits = tt; text = m }
maybe_there F text (Some a) u m = record { fits = m.fits; text = m.text }

maybe_back : {A : Type 0} (F : A → Type 0) (text : A → List ℕ) (o : Option A) (u : List ℕ) → IsLine (OrNone F) (or_dash text) o u → IsMaybe (IsLine F text) o u
maybe_back F text None u m = m.text
maybe_back F text (Some a) u m = record { fits = m.fits; text = m.text }

pub maybe_form : {A : Type 0} (F : A → Type 0) (text : A → List ℕ) (stays : ℕ → Bool) (read : List ℕ → Read A) → NoDash (IsLine F text) → IsExact (IsLine F text) stays read → IsExact (IsLine (OrNone F) (or_dash text)) stays (option_at read)
maybe_form F text stays read d x = IsExact-same (IsMaybe (IsLine F text)) (IsLine (OrNone F) (or_dash text)) stays (option_at read) (maybe_there F text) (maybe_back F text) (maybe_exact (IsLine F text) stays read d x)

-- ---- joined by commas

pub more_there : {A : Type 0} (F : A → Type 0) (text : A → List ℕ) (xs : List A) (u : List ℕ) → IsMore (IsLine F text) xs u → IsLine (AllByRecursion F) (flat_map (comma text)) xs u
more_there F text [] u m = record { fits = tt; text = m }
more_there F text (a ∷ xs) u m =
    let h = more_there F text xs m.1 m.3 in
    record { fits = (m.2.fits, h.fits); text = m.4 ∙ ap (λ (l : List ℕ). 44 ∷ l ++ m.1) m.2.text ∙ ap (λ (l : List ℕ). 44 ∷ text a ++ l) h.text }

pub more_back : {A : Type 0} (F : A → Type 0) (text : A → List ℕ) (xs : List A) (u : List ℕ) → IsLine (AllByRecursion F) (flat_map (comma text)) xs u → IsMore (IsLine F text) xs u
more_back F text [] u m = m.text
more_back F text (a ∷ xs) u m = (text a, flat_map (comma text) xs, record { fits = m.fits.0; text = refl }, more_back F text xs (flat_map (comma text) xs) (record { fits = m.fits.1; text = refl }), m.text)

pub joined_there : {A : Type 0} (F : A → Type 0) (text : A → List ℕ) (xs : List A) (u : List ℕ) → IsJoined (IsLine F text) xs u → IsLine (SomeFit F) (joined text) xs u
joined_there F text xs u m =
    let h = more_there F text m.others m.text.right m.text.second in
    let e : IsLine (SomeFit F) (joined text) (m.first ∷ m.others) u =
    record { fits = (m.text.first.fits, h.fits); text = m.text.parts ∙ ap (λ (l : List ℕ). l ++ m.text.right) m.text.first.text ∙ ap (λ (l : List ℕ). text m.first ++ l) h.text } in
    subst (λ (ys : List _). IsLine (SomeFit F) (joined text) ys u) (sym m.is) e

pub joined_back : {A : Type 0} (F : A → Type 0) (text : A → List ℕ) (xs : List A) (u : List ℕ) → IsLine (SomeFit F) (joined text) xs u → IsJoined (IsLine F text) xs u
joined_back F text [] u m = absurd m.fits
joined_back F text (a ∷ xs) u m =
    record {
      first = a;
      others = xs;
      is = refl;
      text = record {
        left = text a;
        right = flat_map (comma text) xs;
        first = record { fits = m.fits.0; text = refl };
        second = more_back F text xs (flat_map (comma text) xs) (record { fits = m.fits.1; text = refl });
        parts = m.text;
      };
    }

pub joined_form : {A : Type 0} (F : A → Type 0) (text : A → List ℕ) (stays : ℕ → Bool) (read : List ℕ → Read A) → stays 44 ≡ false → IsExact (IsLine F text) stays read → IsExact (IsLine (SomeFit F) (joined text)) (either stays (or_comma stays)) (joined_at read)
joined_form F text stays read f x = IsExact-same (IsJoined (IsLine F text)) (IsLine (SomeFit F) (joined text)) (either stays (or_comma stays)) (joined_at read) (joined_there F text) (joined_back F text) (joined_exact (IsLine F text) stays read f x)
