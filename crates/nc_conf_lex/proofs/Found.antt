-- What comes next in a text is what the lexer's parts find.
use Rattle.std.proofs.Common.{◌≡◌, ℕ, ◌+◌, Bool, true, false, List, [], ◌∷◌, ◌++◌, length, drop, map, Option, Some, None, refl, sym, ◌∙◌, subst, ap, append_assoc, inl, inr, arith, length-append, ◌==◌}
use Rattle.std.specs.Prelude.{position, if◌then◌else◌}
use Rattle.std.specs.List.{list_all, AllByRecursion, take_while}
use Rattle.std.proofs.lemmas.List.{drop-drop}
use Rattle.std.proofs.Math.Seq.{drop-append_seam, drop-length}
use Rattle.nc_conf_lex.specs.declared.token.Token.TheVariants.{Word}
use Rattle.nc_conf_lex.specs.Byte.{goes_on, is_refused, is_quote, may_follow}
use Rattle.nc_conf_lex.specs.Spelling.{Filler, IsFiller, fillers_text, Piece, piece_byte, pieces_text, ArePieces, Spelling, Plain, Quoted, Semicolon, OpeningBrace, ClosingBrace, spelling_text, token_of, is_plain, IsPlainFront, IsSpelling, IsFlaw}
use Rattle.nc_conf_lex.specs.Reading.{IsEndAt, Next, Holds, Ends, Breaks, Comes}
use Rattle.nc_conf_lex.specs.Scan.{gap_len, closing, unless_refused, plain_at, closed_at, quoted_at, token_at, next_at}
use Rattle.nc_conf_lex.proofs.Bytes.{BeginsWord, plain_begins, refused_begins, refused_goes_on, begins_is_plain, quote_alone, plain_parts}
use Rattle.nc_conf_lex.proofs.Cut.{none_refused, one_refused, taken_through, taken_whole}
use Rattle.nc_conf_lex.proofs.Fillers.{gap_filled, gap_last}
use Rattle.nc_conf_lex.proofs.Quoted.{shut, closed_end, quoted_is}

-- what begins at a place of a text that begins with no filler
pub record Begins (next : Next) (place : ℕ) (text : List ℕ) : Type 0 where
  pub no_gap : gap_len false text ≡ 0
  pub found : token_at place text ≡ next

-- plain words

last_of : {X : Type 0} (a b c d : Bool) (u w x y z : X) → a ≡ false → b ≡ false → c ≡ false → d ≡ false → (if a then u else (if b then w else (if c then x else (if d then y else z)))) ≡ z
last_of a b c d u w x y z p q r s = rw (p, q, r, s) refl

fourth_of : {X : Type 0} (a b c d : Bool) (u w x y z : X) → a ≡ false → b ≡ false → c ≡ false → d ≡ true → (if a then u else (if b then w else (if c then x else (if d then y else z)))) ≡ y
fourth_of a b c d u w x y z p q r s = rw (p, q, r, s) refl

in_word : (place b : ℕ) (bs : List ℕ) (next : Next) → BeginsWord b → plain_at place (b ∷ bs) ≡ next → Begins next place (b ∷ bs)
in_word place b bs next n e = record {
  no_gap = rw (n.no_hash, n.no_blank) refl;
  found = last_of (b == 59) (b == 123) (b == 125) (is_quote b) _ _ _ _ (plain_at place (b ∷ bs)) n.no_end n.no_opening n.no_closing n.no_quote ∙ e;
}

plain_found : (place : ℕ) (word after : List ℕ) → list_all is_plain word ≡ true → may_follow after ≡ true → plain_at place (word ++ after) ≡ Holds (Word place word) (place + length word)
plain_found place word after h k =
    let parts = plain_parts word h in
    rw (taken_whole word after parts.0 k, none_refused word parts.1) refl

front_is_plain : (word : List ℕ) → IsPlainFront word → list_all is_plain word ≡ true
front_is_plain [] h = refl
front_is_plain (b ∷ bs) h = rw (begins_is_plain b h.0, h.1) refl

refused_found : (place : ℕ) (word : List ℕ) (byte : ℕ) (after : List ℕ) → IsPlainFront word → is_refused byte ≡ true → plain_at place (word ++ byte ∷ after) ≡ Breaks (place + length word)
refused_found place word byte after h r =
    let parts = plain_parts word (front_is_plain word h) in
    let more : take_while goes_on (byte ∷ after) ≡ byte ∷ take_while goes_on after = taken_through (byte ∷ []) after (rw (refused_goes_on byte r) refl) in
    rw (taken_through word (byte ∷ after) parts.0, more, one_refused word byte (take_while goes_on after) parts.1 r) refl

refused_in_plain : (place : ℕ) (word : List ℕ) (byte : ℕ) (after : List ℕ) → IsPlainFront word → is_refused byte ≡ true → Begins (Breaks (place + length word)) place (word ++ byte ∷ after)
refused_in_plain place [] byte after h r = in_word place byte after _ (refused_begins byte r) (refused_found place [] byte after h r)
refused_in_plain place (b ∷ bs) byte after h r = in_word place b (bs ++ byte ∷ after) _ (plain_begins b h.0) (refused_found place (b ∷ bs) byte after h r)

-- quoted words

in_quotes : (place sign : ℕ) (bs : List ℕ) (next : Next) → is_quote sign ≡ true → quoted_at place sign bs ≡ next → Begins next place (sign ∷ bs)
in_quotes place sign bs next q e =
    let n = quote_alone sign q in
    record {
      no_gap = rw (n.no_hash, n.no_blank) refl;
      found = fourth_of (sign == 59) (sign == 123) (sign == 125) (is_quote sign) _ _ _ (quoted_at place sign bs) _ n.no_end n.no_opening n.no_closing q ∙ e;
    }

-- a quoted word with what follows it
quoted_found : (place sign : ℕ) (pieces : List Piece) (after : List ℕ) (next : Next) → is_quote sign ≡ true → ArePieces sign pieces → unless_refused (place + 1) (position is_refused (pieces_text pieces)) (closed_end place pieces after) ≡ next → Begins next place (spelling_text (Quoted sign pieces) ++ after)
quoted_found place sign pieces after next q are e =
    let regroup : (pieces_text pieces ++ sign ∷ []) ++ after ≡ pieces_text pieces ++ sign ∷ after = append_assoc (pieces_text pieces) (sign ∷ []) after in
    in_quotes place sign ((pieces_text pieces ++ sign ∷ []) ++ after) next q (ap (λ (l : List ℕ). quoted_at place sign l) regroup ∙ quoted_is place sign pieces after q are ∙ e)

quoted_len : (place sign : ℕ) (pieces : List Piece) → place + 2 + length (pieces_text pieces) ≡ place + length (spelling_text (Quoted sign pieces))
quoted_len place sign pieces = omega (arith, length-append (pieces_text pieces) (sign ∷ []))

open_found : (place sign : ℕ) (inside : List ℕ) → ((pieces : List Piece) (after : List ℕ) → ArePieces sign pieces → inside ≡ pieces_text pieces ++ sign ∷ after → ⊥) → quoted_at place sign inside ≡ Breaks place
open_found place sign inside unclosed = by_place (closing sign false inside) refl
  where
    by_place : (o : Option ℕ) → closing sign false inside ≡ o → closed_at place sign inside o ≡ Breaks place
    by_place None e = refl
    by_place (Some n) e = let s = shut sign inside n e in absurd (unclosed s.pieces s.after s.are s.split)

-- a spelling is found, with the place behind it
spelling_found : (place : ℕ) (spelling : Spelling) (after : List ℕ) → IsSpelling spelling after → Begins (Holds (token_of place spelling) (place + length (spelling_text spelling))) place (spelling_text spelling ++ after)
spelling_found place Semicolon after h = record { no_gap = refl; found = refl }
spelling_found place OpeningBrace after h = record { no_gap = refl; found = refl }
spelling_found place ClosingBrace after h = record { no_gap = refl; found = refl }
spelling_found place (Plain []) after h = absurd h.0
spelling_found place (Plain (b ∷ bs)) after h =
    in_word place b (bs ++ after) _ (plain_begins b h.0.0) (plain_found place (b ∷ bs) after (front_is_plain (b ∷ bs) h.0) h.1)
spelling_found place (Quoted sign pieces) after h =
    let word = Word place (map piece_byte pieces) in
    let end : closed_end place pieces after ≡ Holds word (place + length (spelling_text (Quoted sign pieces))) = rw h.3 (ap (λ (n : ℕ). Holds word n) (quoted_len place sign pieces)) in
    quoted_found place sign pieces after _ h.0 h.1 (rw (none_refused (pieces_text pieces) h.2) end)

-- a flaw is found, at its place
flaw_found : (place : ℕ) (text : List ℕ) (n : ℕ) → IsFlaw text n → Begins (Breaks (place + n)) place text
flaw_found place text n (inl h) =
    subst (λ (k : ℕ). Begins (Breaks (place + k)) place text) (sym h.place)
    (subst (λ (l : List ℕ). Begins (Breaks (place + length h.word)) place l) (sym h.split) (refused_in_plain place h.word h.byte h.after h.front h.refused))
flaw_found place text n (inr (inl h)) =
    let zero : place ≡ place + n = omega (arith, h.place) in
    subst (λ (l : List ℕ). Begins (Breaks (place + n)) place l) (sym h.split)
    (in_quotes place h.sign h.inside _ h.quote (open_found place h.sign h.inside h.unclosed ∙ ap (λ (k : ℕ). Breaks k) zero))
flaw_found place text n (inr (inr (inl h))) =
    let refused : position is_refused (pieces_text h.pieces) ≡ Some (length h.before) = ap (λ (l : List ℕ). position is_refused l) h.inside ∙ one_refused h.before h.byte h.later h.allowed h.refused in
    let at : place + 1 + length h.before ≡ place + n = omega (arith, h.place) in
    subst (λ (l : List ℕ). Begins (Breaks (place + n)) place l) (sym h.split)
    (quoted_found place h.sign h.pieces h.after _ h.quote h.are (rw refused (ap (λ (k : ℕ). Breaks k) at)))
flaw_found place text n (inr (inr (inr h))) =
    let at : place + 2 + length (pieces_text h.pieces) ≡ place + n = quoted_len place h.sign h.pieces ∙ ap (λ (k : ℕ). place + k) (sym h.place) in
    subst (λ (l : List ℕ). Begins (Breaks (place + n)) place l) (sym h.split)
    (quoted_found place h.sign h.pieces (h.byte ∷ h.after) _ h.quote h.are (rw (none_refused (pieces_text h.pieces) h.allowed, h.follows) (ap (λ (k : ℕ). Breaks k) at)))

-- behind fillers

pub at_rest : (text : List ℕ) (at : ℕ) (fillers : List Filler) (rest : List ℕ) → AllByRecursion IsFiller fillers → drop at text ≡ fillers_text fillers ++ rest → gap_len false rest ≡ 0 → next_at text at ≡ token_at (at + length (fillers_text fillers)) rest
at_rest text at fillers rest are split none =
    let gap = fillers_text fillers in
    let skip : gap_len false (drop at text) ≡ length gap = ap (λ (l : List ℕ). gap_len false l) split ∙ gap_filled fillers rest are ∙ omega (arith, none) in
    let behind : drop (at + length gap) text ≡ rest = sym (drop-drop (length gap) at text) ∙ ap (λ (l : List ℕ). drop (length gap) l) split ∙ drop-append_seam gap rest in
    ap (λ (n : ℕ). token_at (at + n) (drop (at + n) text)) skip ∙ ap (λ (l : List ℕ). token_at (at + length gap) l) behind

pub end_found : (text : List ℕ) (at : ℕ) → IsEndAt text at → next_at text at ≡ Ends
end_found text at h =
    let left = drop at text in
    let skip : gap_len false left ≡ length left = ap (λ (l : List ℕ). gap_len false l) h.split ∙ gap_filled h.fillers h.last h.are ∙ ap (λ (n : ℕ). length (fillers_text h.fillers) + n) (gap_last h.last h.comment) ∙ sym (length-append (fillers_text h.fillers) h.last) ∙ ap (λ (l : List ℕ). length l) (sym h.split) in
    let behind : drop (at + length left) text ≡ [] = sym (drop-drop (length left) at text) ∙ drop-length left in
    ap (λ (n : ℕ). token_at (at + n) (drop (at + n) text)) skip ∙ ap (λ (l : List ℕ). token_at (at + length left) l) behind

pub found : (text : List ℕ) (at : ℕ) (next : Next) → Comes text at next → next_at text at ≡ next
found text at (Holds token next) h =
    let place = at + length (fillers_text h.fillers) in
    let b = spelling_found place h.spelling h.after h.spelled in
    at_rest text at h.fillers (spelling_text h.spelling ++ h.after) h.are h.split b.no_gap ∙ b.found
    ∙ ap (λ (t : _). Holds t (place + length (spelling_text h.spelling))) (sym h.is) ∙ ap (λ (n : ℕ). Holds token n) (sym h.behind)
found text at Ends h = end_found text at h
found text at (Breaks bad) h =
    let place = at + length (fillers_text h.fillers) in
    let b = flaw_found place h.rest h.count h.flaw in
    at_rest text at h.fillers h.rest h.are h.split b.no_gap ∙ b.found ∙ ap (λ (n : ℕ). Breaks n) (sym h.place)
