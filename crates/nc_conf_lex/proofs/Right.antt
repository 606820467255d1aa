-- What the lexer's parts find comes next in the text.
use Rattle.std.proofs.Common.{◌≡◌, ℕ, ◌+◌, Bool, true, false, not, List, [], ◌∷◌, ◌++◌, length, drop, map, Option, Some, None, refl, sym, ◌∙◌, subst, ap, append_assoc, inl, inr, arith, length-append, ◌==◌}
use Rattle.std.specs.Prelude.{position, if◌then◌else◌}
use Rattle.std.specs.List.{list_all, AllByRecursion, take_while, prefix_len}
use Rattle.std.proofs.lemmas.List.{take-append-drop}
use Rattle.std.proofs.lemmas.List.Sums.{take_while-cons}
use Rattle.nc_conf_lex.specs.declared.token.Token.{Token}
use Rattle.nc_conf_lex.specs.declared.token.Token.TheVariants.{Word, Opening, Closing, End}
use Rattle.nc_conf_lex.specs.Byte.{is_blank, ends_word, goes_on, is_refused, is_allowed, is_quote, may_follow}
use Rattle.nc_conf_lex.specs.Spelling.{Filler, IsFiller, fillers_text, Piece, piece_byte, pieces_text, ArePieces, Spelling, Plain, Quoted, Semicolon, OpeningBrace, ClosingBrace, spelling_text, token_of, IsPlainFront, IsSpelling, IsFlaw}
use Rattle.nc_conf_lex.specs.Reading.{IsEndAt, Next, Holds, Ends, Breaks, Comes}
use Rattle.nc_conf_lex.specs.Scan.{gap_len, closing, unless_refused, plain_at, closed_at, quoted_at, token_at, next_at}
use Rattle.nc_conf_lex.proofs.Bytes.{both, of_not, is_byte, BeginsWord, word_goes_on, word_begins_plain, quote_alone, plain_of_parts, all_of_front}
use Rattle.nc_conf_lex.proofs.Cut.{Refuses, refuses, all_taken, follows}
use Rattle.nc_conf_lex.proofs.Fillers.{begins_no_filler, Filled, filled}
use Rattle.nc_conf_lex.proofs.Quoted.{Shut, shut, closed, closed_end, quoted_is}
use Rattle.nc_conf_lex.proofs.Found.{at_rest, end_found}

-- a text begins with a spelling of the token
pub record Spelt (place : ℕ) (text : List ℕ) (token : Token) (next : ℕ) : Type 0 where
  pub spelling : Spelling
  pub after : List ℕ
  pub split : text ≡ spelling_text spelling ++ after
  pub spelled : IsSpelling spelling after
  pub is : token ≡ token_of place spelling
  pub behind : next ≡ place + length (spelling_text spelling)

-- a text begins with a flaw
pub record Flawed (place : ℕ) (text : List ℕ) (bad : ℕ) : Type 0 where
  pub count : ℕ
  pub flaw : IsFlaw text count
  pub is : bad ≡ place + count

-- what begins a text is this
abbrev pub Right : ℕ → List ℕ → Next → Type 0
Right place text (Holds token next) = Spelt place text token next
Right place text Ends = text ≡ []
Right place text (Breaks bad) = Flawed place text bad

-- signs

sign_right : (place b : ℕ) (bs : List ℕ) (spelling : Spelling) → b ∷ [] ≡ spelling_text spelling → IsSpelling spelling bs → Right place (b ∷ bs) (Holds (token_of place spelling) (place + 1))
sign_right place b bs spelling e h = record {
  spelling = spelling;
  after = bs;
  split = ap (λ (l : List ℕ). l ++ bs) e;
  spelled = h;
  is = refl;
  behind = ap (λ (l : List ℕ). place + length l) e;
}

one_byte : (b c : ℕ) → (b == c) ≡ true → b ∷ [] ≡ c ∷ []
one_byte b c e = ap (λ (x : ℕ). x ∷ []) (is_byte b c e)

-- plain words

first_is : (c b : ℕ) (cs bs : List ℕ) → b ∷ bs ≡ c ∷ cs → b ≡ c
first_is c b cs bs e = cc

front_of : (b : ℕ) (bs before later : List ℕ) (byte : ℕ) → BeginsWord b → b ∷ bs ≡ before ++ byte ∷ later → list_all goes_on (b ∷ bs) ≡ true → list_all is_allowed before ≡ true → IsPlainFront before
front_of b bs [] later byte w e g a = tt
front_of b bs (c ∷ cs) later byte w e g a =
    let allowed = both (is_allowed c) (list_all is_allowed cs) a in
    let goes : list_all goes_on (c ∷ cs) ≡ true = all_of_front goes_on (c ∷ cs) (byte ∷ later) (subst (λ (l : List ℕ). list_all goes_on l ≡ true) e g) in
    let begins : BeginsWord c = subst (λ (x : ℕ). BeginsWord x) (first_is c b (cs ++ byte ∷ later) bs e) w in
    (word_begins_plain c begins allowed.0, plain_of_parts cs (both (goes_on c) (list_all goes_on cs) goes).1 allowed.1)

plain_right : (place b : ℕ) (bs : List ℕ) → BeginsWord b → Right place (b ∷ bs) (plain_at place (b ∷ bs))
plain_right place b bs w = by_refused (position is_refused word) (refuses word)
  where
    word : List ℕ
    word = take_while goes_on (b ∷ bs)

    after : List ℕ
    after = drop (prefix_len goes_on (b ∷ bs)) (b ∷ bs)

    split : b ∷ bs ≡ word ++ after
    split = sym (take-append-drop (prefix_len goes_on (b ∷ bs)) (b ∷ bs))

    begun : word ≡ b ∷ take_while goes_on bs
    begun = take_while-cons goes_on b bs ∙ ap (λ (v : Bool). if v then b ∷ take_while goes_on bs else []) (word_goes_on b w)

    goes : list_all goes_on (b ∷ take_while goes_on bs) ≡ true
    goes = subst (λ (l : List ℕ). list_all goes_on l ≡ true) begun (all_taken (b ∷ bs))

    by_refused : (o : Option ℕ) → Refuses word o → Right place (b ∷ bs) (unless_refused place o (Holds (Word place word) (place + length word)))
    by_refused None h =
        let free = both (is_allowed b) (list_all is_allowed (take_while goes_on bs)) (subst (λ (l : List ℕ). list_all is_allowed l ≡ true) begun h) in
        record {
          spelling = Plain (b ∷ take_while goes_on bs);
          after = after;
          split = split ∙ ap (λ (l : List ℕ). l ++ after) begun;
          spelled = ((word_begins_plain b w free.0, plain_of_parts (take_while goes_on bs) (both (goes_on b) (list_all goes_on (take_while goes_on bs)) goes).1 free.1), follows (b ∷ bs));
          is = ap (λ (l : List ℕ). Word place l) begun;
          behind = ap (λ (l : List ℕ). place + length l) begun;
        }
    by_refused (Some n) h = record {
      count = n;
      flaw = inl (record {
        word = h.before;
        byte = h.byte;
        after = h.later ++ after;
        split = split ∙ ap (λ (l : List ℕ). l ++ after) h.split ∙ append_assoc h.before (h.byte ∷ h.later) after;
        front = front_of b (take_while goes_on bs) h.before h.later h.byte w (sym begun ∙ h.split) goes h.allowed;
        refused = h.refused;
        place = h.place;
      });
      is = refl;
    }

-- quoted words

not_none : (o : Option ℕ) (n : ℕ) → o ≡ None → o ≡ Some n → ⊥
not_none o n e k = cc

open_right : (place sign : ℕ) (bs : List ℕ) → is_quote sign ≡ true → closing sign false bs ≡ None → Right place (sign ∷ bs) (Breaks place)
open_right place sign bs q e = record {
  count = 0;
  flaw = inr (inl (record {
    sign = sign;
    inside = bs;
    split = refl;
    quote = q;
    unclosed = λ pieces after are h. not_none (closing sign false bs) (length (pieces_text pieces)) e (ap (λ (l : List ℕ). closing sign false l) h ∙ closed sign pieces after (quote_alone sign q).no_slash are);
    place = refl;
  }));
  is = omega arith;
}

closed_right : (place sign : ℕ) (pieces : List Piece) (after : List ℕ) → is_quote sign ≡ true → ArePieces sign pieces → list_all is_allowed (pieces_text pieces) ≡ true → Right place (spelling_text (Quoted sign pieces) ++ after) (closed_end place pieces after)
closed_right place sign pieces after q are free = by_after after refl
  where
    len : place + 2 + length (pieces_text pieces) ≡ place + length (spelling_text (Quoted sign pieces))
    len = omega (arith, length-append (pieces_text pieces) (sign ∷ []))

    fits : (rest : List ℕ) → may_follow rest ≡ true → Right place (spelling_text (Quoted sign pieces) ++ rest) (Holds (Word place (map piece_byte pieces)) (place + 2 + length (pieces_text pieces)))
    fits rest f = record { spelling = Quoted sign pieces; after = rest; split = refl; spelled = (q, are, free, f); is = refl; behind = len }

    by_after : (rest : List ℕ) → after ≡ rest → Right place (spelling_text (Quoted sign pieces) ++ rest) (closed_end place pieces rest)
    by_after [] e = fits [] refl
    by_after (b ∷ bs) e =
        (elim (ends_word b) as (λ t. ends_word b ≡ t → Right place (spelling_text (Quoted sign pieces) ++ b ∷ bs) (if t then Holds (Word place (map piece_byte pieces)) (place + 2 + length (pieces_text pieces)) else Breaks (place + 2 + length (pieces_text pieces)))) [
          | true ↦ λ f. fits (b ∷ bs) f
          | false ↦ λ f. record {
            count = length (spelling_text (Quoted sign pieces));
            flaw = inr (inr (inr (record { sign = sign; pieces = pieces; byte = b; after = bs; split = refl; quote = q; are = are; allowed = free; follows = f; place = refl })));
            is = len;
          }
        ]) refl

shut_right : (place sign : ℕ) (pieces : List Piece) (after : List ℕ) → is_quote sign ≡ true → ArePieces sign pieces → (o : Option ℕ) → Refuses (pieces_text pieces) o → Right place (spelling_text (Quoted sign pieces) ++ after) (unless_refused (place + 1) o (closed_end place pieces after))
shut_right place sign pieces after q are None h = closed_right place sign pieces after q are h
shut_right place sign pieces after q are (Some n) h = record {
  count = 1 + length h.before;
  flaw = inr (inr (inl (record {
    sign = sign;
    pieces = pieces;
    after = after;
    split = refl;
    quote = q;
    are = are;
    before = h.before;
    byte = h.byte;
    later = h.later;
    inside = h.split;
    allowed = h.allowed;
    refused = h.refused;
    place = refl;
  })));
  is = omega (arith, h.place);
}

quoted_right : (place sign : ℕ) (bs : List ℕ) → is_quote sign ≡ true → Right place (sign ∷ bs) (quoted_at place sign bs)
quoted_right place sign bs q = by_place (closing sign false bs) refl
  where
    by_shut : (n : ℕ) → Shut sign bs n → Right place (sign ∷ bs) (quoted_at place sign bs)
    by_shut n s =
        let inside = pieces_text s.pieces in
        let regroup : (inside ++ sign ∷ []) ++ s.after ≡ inside ++ sign ∷ s.after = append_assoc inside (sign ∷ []) s.after in
        let right = shut_right place sign s.pieces s.after q s.are (position is_refused inside) (refuses inside) in
        let text : sign ∷ bs ≡ spelling_text (Quoted sign s.pieces) ++ s.after = ap (λ (l : List ℕ). sign ∷ l) (s.split ∙ sym regroup) in
        let next : quoted_at place sign bs ≡ unless_refused (place + 1) (position is_refused inside) (closed_end place s.pieces s.after) = ap (λ (l : List ℕ). quoted_at place sign l) s.split ∙ quoted_is place sign s.pieces s.after q s.are in
        subst (λ (l : List ℕ). Right place l (quoted_at place sign bs)) (sym text) (subst (λ (x : Next). Right place (spelling_text (Quoted sign s.pieces) ++ s.after) x) (sym next) right)

    by_place : (o : Option ℕ) → closing sign false bs ≡ o → Right place (sign ∷ bs) (quoted_at place sign bs)
    by_place None e = subst (λ (x : Next). Right place (sign ∷ bs) x) (sym (ap (λ (o : Option ℕ). closed_at place sign bs o) e)) (open_right place sign bs q e)
    by_place (Some n) e = by_shut n (shut sign bs n e)

-- tokens

begins_word : (b : ℕ) (bs : List ℕ) → begins_no_filler (b ∷ bs) ≡ true → (b == 59) ≡ false → (b == 123) ≡ false → (b == 125) ≡ false → is_quote b ≡ false → BeginsWord b
begins_word b bs h p q r s =
    let parts = both (not (b == 35)) (not (is_blank b)) h in
    record { no_end = p; no_opening = q; no_closing = r; no_quote = s; no_hash = of_not (b == 35) parts.0; no_blank = of_not (is_blank b) parts.1 }

token_right : (place : ℕ) (text : List ℕ) → begins_no_filler text ≡ true → Right place text (token_at place text)
token_right place [] h = refl
token_right place (b ∷ bs) h =
    (elim (b == 59) as (λ v. (b == 59) ≡ v → Right place (b ∷ bs) (if v then Holds (End place) (place + 1) else (if b == 123 then Holds (Opening place) (place + 1) else (if b == 125 then Holds (Closing place) (place + 1) else (if is_quote b then quoted_at place b bs else plain_at place (b ∷ bs)))))) [
      | true ↦ λ e. sign_right place b bs Semicolon (one_byte b 59 e) tt
      | false ↦ λ p. (elim (b == 123) as (λ v. (b == 123) ≡ v → Right place (b ∷ bs) (if v then Holds (Opening place) (place + 1) else (if b == 125 then Holds (Closing place) (place + 1) else (if is_quote b then quoted_at place b bs else plain_at place (b ∷ bs))))) [
        | true ↦ λ e. sign_right place b bs OpeningBrace (one_byte b 123 e) tt
        | false ↦ λ q. (elim (b == 125) as (λ v. (b == 125) ≡ v → Right place (b ∷ bs) (if v then Holds (Closing place) (place + 1) else (if is_quote b then quoted_at place b bs else plain_at place (b ∷ bs)))) [
          | true ↦ λ e. sign_right place b bs ClosingBrace (one_byte b 125 e) tt
          | false ↦ λ r. (elim (is_quote b) as (λ v. is_quote b ≡ v → Right place (b ∷ bs) (if v then quoted_at place b bs else plain_at place (b ∷ bs))) [
            | true ↦ λ e. quoted_right place b bs e
            | false ↦ λ s. plain_right place b bs (begins_word b bs h p q r s)
          ]) refl
        ]) refl
      ]) refl
    ]) refl

-- behind fillers

no_gap : (text : List ℕ) → begins_no_filler text ≡ true → gap_len false text ≡ 0
no_gap [] h = refl
no_gap (b ∷ bs) h =
    let parts = both (not (b == 35)) (not (is_blank b)) h in
    rw (of_not (b == 35) parts.0, of_not (is_blank b) parts.1) refl

comes : (text : List ℕ) (at : ℕ) (fillers : List Filler) (rest : List ℕ) (next : Next) → AllByRecursion IsFiller fillers → drop at text ≡ fillers_text fillers ++ rest → Right (at + length (fillers_text fillers)) rest next → Comes text at next
comes text at fillers rest (Holds token next) are split h = record {
  fillers = fillers;
  spelling = h.spelling;
  after = h.after;
  are = are;
  split = split ∙ ap (λ (l : List ℕ). fillers_text fillers ++ l) h.split;
  spelled = h.spelled;
  is = h.is;
  behind = h.behind;
}
comes text at fillers rest Ends are split h = record { fillers = fillers; last = []; are = are; comment = tt; split = split ∙ ap (λ (l : List ℕ). fillers_text fillers ++ l) h }
comes text at fillers rest (Breaks bad) are split h = record { fillers = fillers; rest = rest; count = h.count; are = are; split = split; flaw = h.flaw; place = h.is }

pub right : (text : List ℕ) (at : ℕ) → Comes text at (next_at text at)
right text at = by_rest (filled (drop at text))
  where
    by_rest : Filled (drop at text) → Comes text at (next_at text at)
    by_rest f = elim f.stops [
      | inl last ↦ let end : IsEndAt text at = record { fillers = f.fillers; last = f.rest; are = f.are; comment = last; split = f.split } in subst (λ (x : Next). Comes text at x) (sym (end_found text at end)) end
      | inr none ↦ subst (λ (x : Next). Comes text at x) (sym (at_rest text at f.fillers f.rest f.are f.split (no_gap f.rest none)))
          (comes text at f.fillers f.rest _ f.are f.split (token_right (at + length (fillers_text f.fillers)) f.rest none))
    ]
