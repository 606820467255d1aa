-- The set of the names behind the first few.
use Rattle.std.proofs.Common.{Ordering, Less, Equal, Greater, min, ℕ, ◌<◌, ◌≤◌, List, [], ◌∷◌, ◌++◌, length, length-append, arith, ◌≡◌, ◌∙◌, refl, sym, ap, Bool, true, false, take, drop}
use Rattle.std.specs.Prelude.{◌||◌, bytes_eq}
use Rattle.std.specs.List.{list_any}
use Rattle.std.specs.Ordering.{nat_cmp, is_eq, match_ordering}
use Rattle.std.specs.Cmp.Lexicographic.{slice_cmp, same_text, texts_ties}
use Rattle.std.specs.BTreeSet.{BTreeSet, insert_key}
use Rattle.std.specs.Global.{Vec}
use Rattle.std.proofs.lemmas.List.{take-append-drop, take_min, drop_all, drop-append-le}
use Rattle.std.proofs.lemmas.List.Folds.{list_any-append}
use Rattle.nc_types.specs.Names.{IsSetOf}

-- how the set orders its keys, and whether one of them has these bytes
abbrev order : Vec ℕ → Vec ℕ → Ordering
order x y = slice_cmp nat_cmp x.items y.items

abbrev has : List ℕ → Vec ℕ → Bool
has name key = is_eq (slice_cmp nat_cmp name key.items)

-- ---- one key more

twice : (a b : Bool) → (a || b) ≡ (a || (a || b))
twice true b = refl
twice false b = refl

turned : (a b c : Bool) → (a || (b || c)) ≡ (b || (a || c))
turned true true c = refl
turned true false c = refl
turned false true c = refl
turned false false c = refl

alike : (x y : Vec ℕ) → order x y ≡ Equal → (name : List ℕ) → has name x ≡ has name y
alike x y e name = ap (λ (bytes : List ℕ). is_eq (slice_cmp nat_cmp name bytes)) (same_text x.items y.items (sym (texts_ties x.items y.items ∙ ap is_eq e)))

one_key_more : (name : List ℕ) (key : Vec ℕ) (keys : List (Vec ℕ)) → list_any (has name) (insert_key order keys key) ≡ (has name key || list_any (has name) keys)
one_key_more name key [] = refl
one_key_more name key (x ∷ keys) =
    (elim (order key x) as (λ o. order key x ≡ o → list_any (has name) (match_ordering o (key ∷ x ∷ keys) (x ∷ keys) (x ∷ insert_key order keys key)) ≡ (has name key || (has name x || list_any (has name) keys))) [
      | Less ↦ λ e. refl
      | Equal ↦ λ e. twice (has name x) (list_any (has name) keys) ∙ ap (λ (b : Bool). b || (has name x || list_any (has name) keys)) (sym (alike key x e name))
      | Greater ↦ λ e. ap (λ (b : Bool). has name x || b) (one_key_more name key keys) ∙ turned (has name x) (has name key) (list_any (has name) keys)
    ]) refl

-- ---- the names behind the first few

pub none_yet : (names more : List (List ℕ)) (name : List ℕ) (set same : BTreeSet (Vec ℕ)) → length names < 8 → more ≡ names ++ name ∷ [] → same ≡ set → IsSetOf (drop 8 names) set → IsSetOf (drop 8 more) same
none_yet names more name set same lt e f h = λ q.
    ap (λ (s : BTreeSet (Vec ℕ)). list_any (has q) s.keys) f
    ∙ h q
    ∙ ap (list_any (bytes_eq q)) (drop_all 8 names (omega (arith, lt)))
    ∙ ap (list_any (bytes_eq q)) (sym (drop_all 8 more (omega (arith, lt, ap length e, length-append names (name ∷ [])))))

pub one_more : (names more : List (List ℕ)) (name : List ℕ) (key : Vec ℕ) (set wider : BTreeSet (Vec ℕ)) → 8 ≤ length names → more ≡ names ++ name ∷ [] → key.items ≡ name → wider.keys ≡ insert_key order set.keys key → IsSetOf (drop 8 names) set → IsSetOf (drop 8 more) wider
one_more names more name key set wider le e same put h = λ q.
    ap (list_any (has q)) put
    ∙ one_key_more q key set.keys
    ∙ ap (λ (b : Bool). has q key || b) (h q)
    ∙ ap (λ (bytes : List ℕ). is_eq (slice_cmp nat_cmp q bytes) || list_any (bytes_eq q) (drop 8 names)) same
    ∙ ap (λ (b : Bool). b || list_any (bytes_eq q) (drop 8 names)) (sym (texts_ties q name))
    ∙ at_the_end (bytes_eq q name) (list_any (bytes_eq q) (drop 8 names))
    ∙ sym (list_any-append (bytes_eq q) (drop 8 names) (name ∷ []))
    ∙ ap (list_any (bytes_eq q)) (sym (drop-append-le 8 names (name ∷ []) le) ∙ ap (drop 8) (sym e))
  where
    at_the_end : (a b : Bool) → (a || b) ≡ (b || (a || false))
    at_the_end true true = refl
    at_the_end true false = refl
    at_the_end false true = refl
    at_the_end false false = refl

-- ---- a name is among the first few, or among those behind them

pub not_before : (names : List (List ℕ)) (name : List ℕ) (few : ℕ) → few ≡ min (length names) 8 → list_any (bytes_eq name) (take few names) ≡ false → list_any (bytes_eq name) (drop 8 names) ≡ list_any (bytes_eq name) names
not_before names name few e f =
    ap (λ (b : Bool). b || list_any (bytes_eq name) (drop 8 names)) (sym f ∙ ap (list_any (bytes_eq name)) first)
    ∙ sym (list_any-append (bytes_eq name) (take 8 names) (drop 8 names))
    ∙ ap (list_any (bytes_eq name)) (take-append-drop 8 names)
  where
    first : take few names ≡ take 8 names
    first = ap (λ (n : ℕ). take n names) (omega (arith, e)) ∙ take_min 8 names
