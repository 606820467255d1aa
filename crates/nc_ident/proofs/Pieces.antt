-- The tags that are read are those that a text spells.
use Rattle.std.proofs.Common.{◌≡◌, ℕ, ℤ, pos, negsuc, suc, ◌+◌, ◌<◌, ◌≤◌, Bool, true, false, cond, List, [], ◌∷◌, ◌++◌, length, map, refl, sym, ap, subst, ◌∙◌, append_assoc, arith, Result}
use Rattle.std.specs.Prelude.{filter}
use Rattle.std.specs.List.{AllByRecursion, flat_map}
use Rattle.std.proofs.lemmas.Int.{ints}
use Rattle.std.proofs.lemmas.List.{length-map}
use Rattle.nc_types.specs.Id.{IsTag, last_second}
use Rattle.nc_types.specs.Cursor.{CursorAt, AreTags, as_cursor}
use Rattle.nc_grammar.specs.declared.fault.Fault.{Fault}
use Rattle.nc_grammar.specs.Gives.{Gives}
use Rattle.nc_grammar.specs.Whole.{IsWhole, IsBad, ended}
use Rattle.nc_grammar.proofs.Whole.{whole_is}
use Rattle.nc_grammar.specs.Digits.{digits_at}
use Rattle.nc_grammar.specs.Number.{is_digit}
use Rattle.nc_grammar.proofs.Exact.{IsExact, IsExact-same, IsExact-named, Named}
use Rattle.nc_grammar.proofs.Seq.{either}
use Rattle.nc_grammar.proofs.Digits.{digits_exact}
use Rattle.nc_grammar.proofs.Label.{nothing}
use Rattle.nc_grammar.proofs.Two.{IsTwo, two_exact}
use Rattle.nc_grammar.specs.Maybe.{two_at}
use Rattle.nc_types.specs.Written.{comma, joined}
use Rattle.nc_ident.specs.Spelling.{SpellsTag, SpellsTime, Piece, piece_text, SpellsTags, SpellsId, AreTagsOf, IsIdOf}
use Rattle.nc_ident.specs.Reader.{spelled_tags_at, spelled_id_at}
use Rattle.nc_ident.proofs.Tag.{IsElement, bare, boxed}
use Rattle.nc_ident.proofs.Tags.{IsMore, AreTagTexts, tags_stay, joined_exact}

-- the tag of a piece
abbrev pub tag_in : Piece → ℤ
tag_in piece = piece.tag

-- a piece spells its tag
abbrev pub Spelled : Piece → Type 0
Spelled piece = SpellsTag piece.spelled piece.tag

-- how many stand in brackets
abbrev pub brackets_in : List Piece → ℕ
brackets_in pieces = length (filter (λ piece. piece.in_brackets) pieces)

-- how many more may
abbrev left_for : Bool → ℕ
left_for true = 1
left_for false = 0

pub brackets_cons : (piece : Piece) (pieces : List Piece) → brackets_in (piece ∷ pieces) ≡ brackets_in (piece ∷ []) + brackets_in pieces
brackets_cons piece pieces =
    elim piece.in_brackets as (λ b. length (cond b (piece ∷ filter (λ p. p.in_brackets) pieces) (filter (λ p. p.in_brackets) pieces)) ≡ length (cond b (piece ∷ []) []) + brackets_in pieces) [
      | true ↦ omega arith
      | false ↦ omega arith
    ]

-- ---- from what is read

record One (unused still : Bool) (g : ℤ) (u : List ℕ) : Type 0 where
  piece : Piece
  tag : g ≡ piece.tag
  text : u ≡ piece_text piece
  spelled : Spelled piece
  brackets : brackets_in (piece ∷ []) + left_for still ≤ left_for unused

one_piece : (unused still : Bool) (g : ℤ) (u : List ℕ) → IsElement unused (g, still) u → One unused still g u
one_piece unused still g u (bare m e) =
    record { piece = record { tag = g; spelled = u; in_brackets = false }; tag = refl; text = refl; spelled = m; brackets = omega (arith, ap left_for e) }
one_piece unused still g u (boxed v m e f h) =
    record { piece = record { tag = g; spelled = v; in_brackets = true }; tag = refl; text = h; spelled = m; brackets = omega (arith, ap left_for e, ap left_for f) }

record Pieces (unused : Bool) (gs : List ℤ) (u : List ℕ) : Type 0 where
  pieces : List Piece
  tags : gs ≡ map tag_in pieces
  text : u ≡ flat_map (comma piece_text) pieces
  each : AllByRecursion Spelled pieces
  brackets : brackets_in pieces ≤ left_for unused

pieces_read : (gs : List ℤ) (unused : Bool) (u : List ℕ) → IsMore unused gs u → Pieces unused gs u
pieces_read [] unused u m = record { pieces = []; tags = refl; text = m; each = tt; brackets = omega arith }
pieces_read (g ∷ gs) unused u m =
    let p = one_piece unused m.0 g m.1 m.3 in
    let h = pieces_read gs m.0 m.2 m.4 in
    record {
      pieces = p.piece ∷ h.pieces;
      tags = ap (λ (x : ℤ). x ∷ gs) p.tag ∙ ap (λ (l : List ℤ). p.piece.tag ∷ l) h.tags;
      text = m.5 ∙ ap (λ (l : List ℕ). 44 ∷ l ++ m.2) p.text ∙ ap (λ (l : List ℕ). 44 ∷ piece_text p.piece ++ l) h.text;
      each = (p.spelled, h.each);
      brackets = omega (arith, brackets_cons p.piece h.pieces, p.brackets, h.brackets);
    }

tags_there : (gs : List ℤ) (u : List ℕ) → AreTagTexts gs u → SpellsTags u gs
tags_there gs u m =
    let both = m.2 in
    let p = one_piece true m.0.0.1 m.0.0.0 both.left both.first in
    let h = pieces_read m.0.1 m.0.0.1 both.right both.second in
    record {
      pieces = p.piece ∷ h.pieces;
      tags_are = m.1 ∙ ap (λ (x : ℤ). x ∷ m.0.1) p.tag ∙ ap (λ (l : List ℤ). p.piece.tag ∷ l) h.tags;
      text_is = both.parts ∙ ap (λ (l : List ℕ). l ++ both.right) p.text ∙ ap (λ (l : List ℕ). piece_text p.piece ++ l) h.text;
      some = omega arith;
      each = (p.spelled, h.each);
      brackets = omega (arith, brackets_cons p.piece h.pieces, p.brackets, h.brackets);
    }

-- ---- and back

record Element (unused : Bool) (piece : Piece) (pieces : List Piece) : Type 0 where
  still : Bool
  element : IsElement unused (piece.tag, still) (piece_text piece)
  brackets : brackets_in pieces ≤ left_for still

some_left : (unused : Bool) (n : ℕ) → suc n ≤ left_for unused → unused ≡ true
some_left true n le = refl
some_left false n le = absurd (omega (arith, le))

element_of : (unused : Bool) (g : ℤ) (v : List ℕ) (b : Bool) (pieces : List Piece) → SpellsTag v g → (let piece : Piece = record { tag = g; spelled = v; in_brackets = b } in brackets_in (piece ∷ pieces) ≤ left_for unused)
    → Element unused (record { tag = g; spelled = v; in_brackets = b }) pieces
element_of unused g v true pieces m le =
    record { still = false; element = boxed v m (some_left unused (brackets_in pieces) le) refl refl; brackets = most unused le }
  where
    most : (unused : Bool) → suc (brackets_in pieces) ≤ left_for unused → brackets_in pieces ≤ 0
    most true le = omega (arith, le)
    most false le = absurd (omega (arith, le))
element_of unused g v false pieces m le = record { still = unused; element = bare m refl; brackets = le }

more_pieces : (pieces : List Piece) (unused : Bool) → AllByRecursion Spelled pieces → brackets_in pieces ≤ left_for unused → IsMore unused (map tag_in pieces) (flat_map (comma piece_text) pieces)
more_pieces [] unused h le = refl
more_pieces (p ∷ ps) unused h le =
    let e = element_of unused p.tag p.spelled p.in_brackets ps h.0 le in
    (e.still, piece_text p, flat_map (comma piece_text) ps, e.element, more_pieces ps e.still h.1 e.brackets, refl)

tags_back : (gs : List ℤ) (u : List ℕ) → SpellsTags u gs → AreTagTexts gs u
tags_back gs u m = by_pieces m.pieces m.tags_are m.text_is m.some m.each m.brackets
  where
    by_pieces : (pieces : List Piece) → gs ≡ map tag_in pieces → u ≡ joined piece_text pieces → 0 < length pieces → AllByRecursion Spelled pieces → brackets_in pieces ≤ 1 → AreTagTexts gs u
    by_pieces [] is text some each le = absurd (omega (arith, some))
    by_pieces (p ∷ ps) is text some each le =
        let e = element_of true p.tag p.spelled p.in_brackets ps each.0 le in
        (((p.tag, e.still), map tag_in ps), is, record { left = piece_text p; right = flat_map (comma piece_text) ps; first = e.element; second = more_pieces ps e.still each.1 e.brackets; parts = text })

-- ---- tags and ids

abbrev IsTimeOf : ℕ → List ℕ → Type 0
IsTimeOf time u = SpellsTime u time

pub tags_exact : IsExact AreTagsOf tags_stay spelled_tags_at
tags_exact = IsExact-same AreTagTexts AreTagsOf tags_stay spelled_tags_at tags_there tags_back joined_exact

-- which bytes can go on behind an id
abbrev pub id_stays : ℕ → Bool
id_stays = either is_digit (either nothing tags_stay)

id_there : (cursor : CursorAt) (u : List ℕ) → Named as_cursor (IsTwo (58 ∷ []) IsTimeOf AreTagsOf) cursor u → IsIdOf cursor u
id_there cursor u m =
    let two = m.2 in
    subst (λ (c : CursorAt). IsIdOf c u) (sym m.1) (record { before = two.left; behind = two.right; text_is = two.parts ∙ sym (append_assoc two.left (58 ∷ []) two.right); time = two.first; tags = two.second })

id_back : (cursor : CursorAt) (u : List ℕ) → IsIdOf cursor u → Named as_cursor (IsTwo (58 ∷ []) IsTimeOf AreTagsOf) cursor u
id_back cursor u m = ((cursor.time, cursor.tags), refl, record { left = m.before; right = m.behind; first = m.time; second = m.tags; parts = m.text_is ∙ append_assoc m.before (58 ∷ []) m.behind })

pub id_exact : IsExact IsIdOf id_stays spelled_id_at
id_exact =
    IsExact-same (Named as_cursor (IsTwo (58 ∷ []) IsTimeOf AreTagsOf)) IsIdOf id_stays spelled_id_at id_there id_back
    (IsExact-named as_cursor (IsTwo (58 ∷ []) IsTimeOf AreTagsOf) id_stays (two_at (58 ∷ []) (digits_at 12 last_second) spelled_tags_at)
    (two_exact 58 [] IsTimeOf AreTagsOf is_digit tags_stay (digits_at 12 last_second) spelled_tags_at refl (digits_exact 12 last_second (omega arith)) tags_exact))

-- ---- whole texts

pub tags_end : (t rest : List ℕ) (outcome : Result (List ℤ) Fault) → Gives rest outcome (spelled_tags_at t) → IsWhole AreTagsOf t (ended (length t) rest outcome)
tags_end = whole_is AreTagsOf tags_stay spelled_tags_at tags_exact

pub id_ends : (t rest : List ℕ) (outcome : Result CursorAt Fault) → Gives rest outcome (spelled_id_at t) → IsWhole IsIdOf t (ended (length t) rest outcome)
id_ends = whole_is IsIdOf id_stays spelled_id_at id_exact

pub one_list : (text : List ℕ) (a b : List ℤ) → SpellsTags text a → SpellsTags text b → a ≡ b
one_list text a b m n = tags_exact.set.unique a b text m n

pub one_cursor : (text : List ℕ) (a b : CursorAt) → SpellsId text a → SpellsId text b → a ≡ b
one_cursor text a b m n = id_exact.set.unique a b text m n

-- ---- what is spelled are tags

spelled_tag : (text : List ℕ) (g : ℤ) → SpellsTag text g → IsTag g
spelled_tag text (pos n) m = let le : n ≤ 65535 = m.within in (grind (arith, ints), grind (arith, ints, le))
spelled_tag text (negsuc n) m = let none : n ≡ 0 = m.0 in (grind (arith, ints, none), grind (arith, ints))

spelled_pieces : (pieces : List Piece) → AllByRecursion Spelled pieces → AreTags (map tag_in pieces)
spelled_pieces [] h = tt
spelled_pieces (p ∷ ps) h = (spelled_tag p.spelled p.tag h.0, spelled_pieces ps h.1)

pub spelled_are_tags : (text : List ℕ) (tags : List ℤ) → SpellsTags text tags → (0 < length tags) × AreTags tags
spelled_are_tags text tags m =
    (omega (arith, ap length m.tags_are, length-map m.pieces tag_in, m.some), subst (λ (l : List ℤ). AreTags l) (sym m.tags_are) (spelled_pieces m.pieces m.each))

pub one_place : (text : List ℕ) (a b : ℕ) → IsBad IsIdOf text a → IsBad IsIdOf text b → a ≡ b
one_place text a b m n = let le = n.place.longest a m.place.within m.place.begun in let ge = m.place.longest b n.place.within n.place.begun in omega (arith, le, ge)
