-- Tests of bytes, and lists whose bytes all pass one.
use Rattle.std.proofs.Common.{◌≡◌, ℕ, Bool, true, false, not, List, [], ◌∷◌, ◌++◌, refl, arith, ◌==◌, ◌&&◌}
use Rattle.std.specs.List.{list_all}
use Rattle.std.proofs.lemmas.Bool.Decides.{nat_tests}
use Rattle.nc_conf_lex.specs.Byte.{is_blank, goes_on, is_refused, is_allowed, is_quote}
use Rattle.nc_conf_lex.specs.Spelling.{can_escape, is_plain, begins_plain}

pub both : (a b : Bool) → (a && b) ≡ true → (a ≡ true) × (b ≡ true)
both true b h = (refl, h)
both false b h = absurd (cc)

pub of_not : (b : Bool) → not b ≡ true → b ≡ false
of_not true h = absurd (cc)
of_not false h = refl

pub clash : (b : Bool) → b ≡ false → b ≡ true → ⊥
clash true h k = cc
clash false h k = cc

pub same : (b : ℕ) → (b == b) ≡ true
same b = grind (arith, nat_tests)

pub is_byte : (b c : ℕ) → (b == c) ≡ true → b ≡ c
is_byte b c h = grind (arith, nat_tests)

pub swapped : (b c : ℕ) → (b == c) ≡ false → (c == b) ≡ false
swapped b c h = grind (arith, nat_tests)

-- a byte that is no sign and no filler, so that it begins a plain word or a fault in one
pub record BeginsWord (b : ℕ) : Type 0 where
  pub no_end : (b == 59) ≡ false
  pub no_opening : (b == 123) ≡ false
  pub no_closing : (b == 125) ≡ false
  pub no_quote : is_quote b ≡ false
  pub no_hash : (b == 35) ≡ false
  pub no_blank : is_blank b ≡ false

pub plain_begins : (b : ℕ) → begins_plain b ≡ true → BeginsWord b
plain_begins b h = record {
  no_end = grind (arith, nat_tests);
  no_opening = grind (arith, nat_tests);
  no_closing = grind (arith, nat_tests);
  no_quote = grind (arith, nat_tests);
  no_hash = grind (arith, nat_tests);
  no_blank = grind (arith, nat_tests);
}

pub refused_begins : (b : ℕ) → is_refused b ≡ true → BeginsWord b
refused_begins b h = record {
  no_end = grind (arith, nat_tests);
  no_opening = grind (arith, nat_tests);
  no_closing = grind (arith, nat_tests);
  no_quote = grind (arith, nat_tests);
  no_hash = grind (arith, nat_tests);
  no_blank = grind (arith, nat_tests);
}

pub refused_goes_on : (b : ℕ) → is_refused b ≡ true → goes_on b ≡ true
refused_goes_on b h = grind (arith, nat_tests)

pub word_goes_on : (b : ℕ) → BeginsWord b → goes_on b ≡ true
word_goes_on b h = rw (h.no_blank, h.no_end, h.no_opening, h.no_closing) refl

pub word_begins_plain : (b : ℕ) → BeginsWord b → is_allowed b ≡ true → begins_plain b ≡ true
word_begins_plain b h k = rw (word_goes_on b h, k, h.no_hash, h.no_quote) refl

pub begins_is_plain : (b : ℕ) → begins_plain b ≡ true → is_plain b ≡ true
begins_is_plain b h = (both (is_plain b) (not (b == 35)) (both (is_plain b && not (b == 35)) (not (is_quote b)) h).0).0

-- a quotation sign is no other sign, no filler and no backslash
pub record IsQuoteAlone (b : ℕ) : Type 0 where
  pub no_end : (b == 59) ≡ false
  pub no_opening : (b == 123) ≡ false
  pub no_closing : (b == 125) ≡ false
  pub no_slash : (b == 92) ≡ false
  pub no_hash : (b == 35) ≡ false
  pub no_blank : is_blank b ≡ false

pub quote_alone : (b : ℕ) → is_quote b ≡ true → IsQuoteAlone b
quote_alone b h = record {
  no_end = grind (arith, nat_tests);
  no_opening = grind (arith, nat_tests);
  no_closing = grind (arith, nat_tests);
  no_slash = grind (arith, nat_tests);
  no_hash = grind (arith, nat_tests);
  no_blank = grind (arith, nat_tests);
}

pub blank_is_no_hash : (b : ℕ) → is_blank b ≡ true → (b == 35) ≡ false
blank_is_no_hash b h = grind (arith, nat_tests)

pub cannot : (sign b : ℕ) → (b == sign) ≡ false → (b == 92) ≡ false → can_escape sign b ≡ false
cannot sign b p q = rw (p, q) refl

pub neither : (sign b : ℕ) → can_escape sign b ≡ false → ((b == sign) ≡ false) × ((b == 92) ≡ false)
neither sign b h = (grind (arith, nat_tests), grind (arith, nat_tests))

-- lists

pub plain_parts : (xs : List ℕ) → list_all is_plain xs ≡ true → (list_all goes_on xs ≡ true) × (list_all is_allowed xs ≡ true)
plain_parts [] h = (refl, refl)
plain_parts (x ∷ xs) h =
    let here = both (is_plain x) (list_all is_plain xs) h in
    let parts = both (goes_on x) (is_allowed x) here.0 in
    let more = plain_parts xs here.1 in
    (rw (parts.0, more.0) refl, rw (parts.1, more.1) refl)

pub plain_of_parts : (xs : List ℕ) → list_all goes_on xs ≡ true → list_all is_allowed xs ≡ true → list_all is_plain xs ≡ true
plain_of_parts [] h k = refl
plain_of_parts (x ∷ xs) h k =
    let goes = both (goes_on x) (list_all goes_on xs) h in
    let allowed = both (is_allowed x) (list_all is_allowed xs) k in
    rw (goes.0, allowed.0, plain_of_parts xs goes.1 allowed.1) refl

pub all_of_front : (p : ℕ → Bool) (xs ys : List ℕ) → list_all p (xs ++ ys) ≡ true → list_all p xs ≡ true
all_of_front p [] ys h = refl
all_of_front p (x ∷ xs) ys h =
    let here = both (p x) (list_all p (xs ++ ys)) h in
    rw (here.0, all_of_front p xs ys here.1) refl
