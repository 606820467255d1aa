-- What is written is a spelling of its cursor.
use Rattle.std.proofs.Common.{◌≡◌, ℕ, ℤ, pos, negsuc, ◌+◌, ◌<◌, ◌≤◌, true, false, cond, eqb, List, [], ◌∷◌, ◌++◌, length, map, Option, Some, None, refl, sym, ap, arith, append-nil}
use Rattle.std.specs.Prelude.{filter, ◌==◌}
use Rattle.std.specs.List.{AllByRecursion, flat_map}
use Rattle.std.specs.Fmt.{decimal}
use Rattle.std.proofs.lemmas.Int.{ints}
use Rattle.std.proofs.lemmas.Bool.{eqb-true}
use Rattle.std.proofs.lemmas.Fmt.{decimal_is_IsNumeral, length-decimal-le}
use Rattle.nc_types.specs.Id.{IsTime, IsTag}
use Rattle.nc_types.specs.Cursor.{CursorAt, AreTags}
use Rattle.nc_types.specs.Written.{tag_text, comma, joined, tags_from, sent_tags, tags_text, cursor_text}
use Rattle.nc_ident.specs.Spelling.{SpellsTag, SpellsTime, Piece, piece_text, SpellsTags, SpellsId}
use Rattle.nc_ident.proofs.Pieces.{tag_in, Spelled, brackets_in}

time_spells : (time : ℕ) → IsTime time → SpellsTime (decimal time) time
time_spells time le =
    let n = decimal_is_IsNumeral time (omega (arith, le)) in
    record { numeral = n.0; few = length-decimal-le 12 time (omega arith) (omega (arith, le)) (omega (arith, le)); value = n.1; within = le }

tag_spells : (g : ℤ) → IsTag g → SpellsTag (tag_text g) g
tag_spells (pos n) h =
    let le : n ≤ 65535 = grind (arith, ints, h.1) in
    let m = decimal_is_IsNumeral n (omega (arith, le)) in
    record { numeral = m.0; few = length-decimal-le 5 n (omega arith) (omega (arith, le)) (omega (arith, le)); value = m.1; within = le }
tag_spells (negsuc n) h = (grind (arith, ints, h.0), refl)

-- ---- tags without brackets

plain : ℤ → Piece
plain g = record { tag = g; spelled = tag_text g; in_brackets = false }

plain_tags : (gs : List ℤ) → gs ≡ map tag_in (map plain gs)
unfolding plain
plain_tags [] = refl
plain_tags (g ∷ gs) = ap (λ (l : List ℤ). g ∷ l) (plain_tags gs)

plain_text : (gs : List ℤ) → flat_map (comma tag_text) gs ≡ flat_map (comma piece_text) (map plain gs)
unfolding plain
plain_text [] = refl
plain_text (g ∷ gs) = ap (λ (l : List ℕ). 44 ∷ tag_text g ++ l) (plain_text gs)

plain_each : (gs : List ℤ) → AreTags gs → AllByRecursion Spelled (map plain gs)
unfolding plain
plain_each [] h = tt
plain_each (g ∷ gs) h = (tag_spells g h.0, plain_each gs h.1)

plain_brackets : (gs : List ℤ) → brackets_in (map plain gs) ≡ 0
unfolding plain
plain_brackets [] = refl
plain_brackets (g ∷ gs) = plain_brackets gs

plain_spell : (gs : List ℤ) → 0 < length gs → AreTags gs → SpellsTags (joined tag_text gs) gs
unfolding plain
plain_spell [] some h = absurd (omega (arith, some))
plain_spell (g ∷ gs) some h =
    record {
      pieces = plain g ∷ map plain gs;
      tags_are = plain_tags (g ∷ gs);
      text_is = ap (λ (l : List ℕ). tag_text g ++ l) (plain_text gs);
      some = omega arith;
      each = plain_each (g ∷ gs) h;
      brackets = omega (arith, plain_brackets (g ∷ gs));
    }

-- ---- with brackets at the sending place i

abbrev at_place : ℕ → ℕ → ℤ → Piece
at_place i j g = record { tag = g; spelled = tag_text g; in_brackets = i == j }

abbrev places : ℕ → ℕ → List ℤ → List Piece
places i j [] = []
places i j (g ∷ gs) = at_place i j g ∷ places i (j + 1) gs

places_tags : (i j : ℕ) (gs : List ℤ) → gs ≡ map tag_in (places i j gs)
places_tags i j [] = refl
places_tags i j (g ∷ gs) = ap (λ (l : List ℤ). g ∷ l) (places_tags i (j + 1) gs)

places_text : (i j : ℕ) (gs : List ℤ) → tags_from i j gs ≡ flat_map (comma piece_text) (places i j gs)
places_text i j [] = refl
places_text i j (g ∷ gs) = ap (λ (l : List ℕ). 44 ∷ piece_text (at_place i j g) ++ l) (places_text i (j + 1) gs)

places_each : (i j : ℕ) (gs : List ℤ) → AreTags gs → AllByRecursion Spelled (places i j gs)
places_each i j [] h = tt
places_each i j (g ∷ gs) h = (tag_spells g h.0, places_each i (j + 1) gs h.1)

none_behind : (i j : ℕ) (gs : List ℤ) → i < j → brackets_in (places i j gs) ≡ 0
none_behind i j [] lt = refl
none_behind i j (g ∷ gs) lt =
    (elim (eqb i j) as (λ b. eqb i j ≡ b → length (cond b (at_place i j g ∷ filter (λ p. p.in_brackets) (places i (j + 1) gs)) (filter (λ p. p.in_brackets) (places i (j + 1) gs))) ≡ 0) [
      | true ↦ λ e. absurd (omega (arith, lt, eqb-true i j e))
      | false ↦ λ e. none_behind i (j + 1) gs (omega (arith, lt))
    ]) refl

one_at_most : (i j : ℕ) (gs : List ℤ) → brackets_in (places i j gs) ≤ 1
one_at_most i j [] = omega arith
one_at_most i j (g ∷ gs) =
    (elim (eqb i j) as (λ b. eqb i j ≡ b → length (cond b (at_place i j g ∷ filter (λ p. p.in_brackets) (places i (j + 1) gs)) (filter (λ p. p.in_brackets) (places i (j + 1) gs))) ≤ 1) [
      | true ↦ λ e. omega (arith, none_behind i (j + 1) gs (omega (arith, eqb-true i j e)))
      | false ↦ λ e. one_at_most i (j + 1) gs
    ]) refl

sent_spell : (i : ℕ) (gs : List ℤ) → 0 < length gs → AreTags gs → SpellsTags (sent_tags i gs) gs
unfolding plain
sent_spell i [] some h = absurd (omega (arith, some))
sent_spell i (g ∷ []) some h =
    record { pieces = plain g ∷ []; tags_are = refl; text_is = sym (append-nil (tag_text g)); some = omega arith; each = (tag_spells g h.0, tt); brackets = omega arith }
sent_spell i (g ∷ f ∷ gs) some h =
    record {
      pieces = places i 0 (g ∷ f ∷ gs);
      tags_are = places_tags i 0 (g ∷ f ∷ gs);
      text_is = ap (λ (l : List ℕ). piece_text (at_place i 0 g) ++ l) (places_text i 1 (f ∷ gs));
      some = omega arith;
      each = places_each i 0 (g ∷ f ∷ gs) h;
      brackets = one_at_most i 0 (g ∷ f ∷ gs);
    }

pub written_tags_spell : (sent : Option ℕ) (gs : List ℤ) → 0 < length gs → AreTags gs → SpellsTags (tags_text sent gs) gs
written_tags_spell None gs some h = plain_spell gs some h
written_tags_spell (Some i) gs some h = sent_spell i gs some h

pub written_id_spells : (sent : Option ℕ) (cursor : CursorAt) → IsTime cursor.time → 0 < length cursor.tags → AreTags cursor.tags → SpellsId (cursor_text sent cursor) cursor
written_id_spells sent cursor le some h =
    record { before = decimal cursor.time; behind = tags_text sent cursor.tags; text_is = refl; time = time_spells cursor.time le; tags = written_tags_spell sent cursor.tags some h }
