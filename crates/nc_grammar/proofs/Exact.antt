-- Readers that are right stay right for the same texts in other words.
use Rattle.std.proofs.Common.{◌≡◌, ℕ, Bool, true, List, [], ◌∷◌, ◌++◌, refl, sym, ap, subst, ◌∙◌}
use Rattle.nc_grammar.specs.Reading.{Read, Found, Stuck, map_read}
pub use Rattle.nc_grammar.specs.Exact.{Blocked, IsFound, IsStuck, IsRightReading, IsSet, IsExact}

-- the same set of texts in other words
Blocked-same : {A : Type 0} (L M : A → List ℕ → Type 0) → ((a : A) (u : List ℕ) → M a u → L a u) → (p r : List ℕ) → Blocked L p r → Blocked M p r
Blocked-same L M back p [] h = tt
Blocked-same L M back p (c ∷ r) h = λ a s m. h a s (back a (p ++ c ∷ s) m)

pub IsRightReading-same : {A : Type 0} (L M : A → List ℕ → Type 0) → ((a : A) (u : List ℕ) → L a u → M a u) → ((a : A) (u : List ℕ) → M a u → L a u) → (t : List ℕ) (x : Read A) → IsRightReading L t x → IsRightReading M t x
IsRightReading-same L M to back t (Found a r) h = record { front = h.front; text = to a h.front h.text; parts = h.parts; blocked = Blocked-same L M back h.front r h.blocked }
IsRightReading-same L M to back t (Stuck r) h =
    record {
      front = h.front;
      begun = record { value = h.begun.value; rest = h.begun.rest; text = to h.begun.value (h.front ++ h.begun.rest) h.begun.text };
      parts = h.parts;
      blocked = Blocked-same L M back h.front r h.blocked;
      none = λ a m. h.none a (back a h.front m);
    }

pub IsSet-same : {A : Type 0} (L M : A → List ℕ → Type 0) (stays : ℕ → Bool) → ((a : A) (u : List ℕ) → L a u → M a u) → ((a : A) (u : List ℕ) → M a u → L a u) → IsSet L stays → IsSet M stays
IsSet-same L M stays to back x =
    record {
      unique = λ a b u m n. x.unique a b u (back a u m) (back b u n);
      stay = λ a b u c s m n. x.stay a b u c s (back a u m) (back b (u ++ c ∷ s) n);
      some = x.some;
      some_text = x.some_text;
      has_some = to x.some x.some_text x.has_some;
    }

pub IsExact-same : {A : Type 0} (L M : A → List ℕ → Type 0) (stays : ℕ → Bool) (read : List ℕ → Read A) → ((a : A) (u : List ℕ) → L a u → M a u) → ((a : A) (u : List ℕ) → M a u → L a u) → IsExact L stays read → IsExact M stays read
IsExact-same L M stays read to back x = record { set = IsSet-same L M stays to back x.set; tells = λ t. IsRightReading-same L M to back t (read t) (x.tells t) }

-- values under another name
abbrev pub Named : {A B : Type 0} → (A → B) → (A → List ℕ → Type 0) → B → List ℕ → Type 0
Named {A} {B} to L b u = (a : A) × (b ≡ to a) × L a u

Blocked-named : {A B : Type 0} (to : A → B) (L : A → List ℕ → Type 0) (p r : List ℕ) → Blocked L p r → Blocked (Named to L) p r
Blocked-named to L p [] h = tt
Blocked-named to L p (c ∷ r) h = λ b s m. h m.0 s m.2

pub IsRightReading-named : {A B : Type 0} (to : A → B) (L : A → List ℕ → Type 0) (t : List ℕ) (x : Read A) → IsRightReading L t x → IsRightReading (Named to L) t (map_read to x)
IsRightReading-named to L t (Found a r) h = record { front = h.front; text = (a, refl, h.text); parts = h.parts; blocked = Blocked-named to L h.front r h.blocked }
IsRightReading-named to L t (Stuck r) h =
    record {
      front = h.front;
      begun = record { value = to h.begun.value; rest = h.begun.rest; text = (h.begun.value, refl, h.begun.text) };
      parts = h.parts;
      blocked = Blocked-named to L h.front r h.blocked;
      none = λ b m. h.none m.0 m.2;
    }

pub IsSet-named : {A B : Type 0} (to : A → B) (L : A → List ℕ → Type 0) (stays : ℕ → Bool) → IsSet L stays → IsSet (Named to L) stays
IsSet-named to L stays x =
    record {
      unique = λ a b u m n. m.1 ∙ ap to (x.unique m.0 n.0 u m.2 n.2) ∙ sym n.1;
      stay = λ a b u c s m n. x.stay m.0 n.0 u c s m.2 n.2;
      some = to x.some;
      some_text = x.some_text;
      has_some = (x.some, refl, x.has_some);
    }

pub IsExact-named : {A B : Type 0} (to : A → B) (L : A → List ℕ → Type 0) (stays : ℕ → Bool) (read : List ℕ → Read A) → IsExact L stays read → IsExact (Named to L) stays (λ t. map_read to (read t))
IsExact-named to L stays read x = record { set = IsSet-named to L stays x.set; tells = λ t. IsRightReading-named to L t (read t) (x.tells t) }

-- the bytes that go on are told more loosely
pub IsSet-wider : {A : Type 0} (L : A → List ℕ → Type 0) (stays wider : ℕ → Bool) → ((c : ℕ) → stays c ≡ true → wider c ≡ true) → IsSet L stays → IsSet L wider
IsSet-wider L stays wider f x = record { unique = x.unique; stay = λ a b u c s m n. f c (x.stay a b u c s m n); some = x.some; some_text = x.some_text; has_some = x.has_some }

-- the same reader in other words
pub IsExact-read : {A : Type 0} (L : A → List ℕ → Type 0) (stays : ℕ → Bool) (f g : List ℕ → Read A) → ((t : List ℕ) → f t ≡ g t) → IsExact L stays f → IsExact L stays g
IsExact-read L stays f g e x = record { set = x.set; tells = λ t. subst (λ (y : Read _). IsRightReading L t y) (e t) (x.tells t) }
