-- The inside of quoted words: where it ends, and what it stands for.
use Rattle.std.proofs.Common.{◌≡◌, ℕ, ◌+◌, Bool, true, false, List, [], ◌∷◌, ◌++◌, length, map, Option, Some, None, refl, sym, ◌∙◌, ap, ◌⊎◌, inl, inr, arith, drop, ◌==◌}
use Rattle.std.specs.Prelude.{if◌then◌else◌, position}
use Rattle.std.specs.Option.{option_map}
use Rattle.std.proofs.Math.Seq.{take-append_seam, drop-append-add}
use Rattle.nc_conf_lex.specs.declared.token.Token.TheVariants.{Word}
use Rattle.nc_conf_lex.specs.Byte.{is_refused, is_quote, may_follow}
use Rattle.nc_conf_lex.specs.Spelling.{Piece, Itself, Escaped, piece_byte, pieces_text, can_escape, IsLone, ArePieces}
use Rattle.nc_conf_lex.specs.Reading.{Next, Holds, Breaks}
use Rattle.nc_conf_lex.specs.Scan.{next_place, closing, unescape, unless_refused, quoted_at}
use Rattle.nc_conf_lex.proofs.Bytes.{clash, same, is_byte, swapped, cannot, neither, quote_alone}

-- pieces are closed by the sign behind them

-- a byte that cannot be escaped is read behind a backslash as any other
unescaped : (sign b : ℕ) (bs : List ℕ) → can_escape sign b ≡ false → closing sign true (b ∷ bs) ≡ closing sign false (b ∷ bs)
unescaped sign b bs h = rw h refl

pub closed : (sign : ℕ) (pieces : List Piece) (after : List ℕ) → (sign == 92) ≡ false → ArePieces sign pieces → closing sign false (pieces_text pieces ++ sign ∷ after) ≡ Some (length (pieces_text pieces))
closed sign [] after s h = rw (same sign) refl
closed sign (Escaped b ∷ pieces) after s h =
    let k : length (pieces_text pieces) + 1 + 1 ≡ length (pieces_text (Escaped b ∷ pieces)) = omega arith in
    rw (swapped sign 92 s, h.0, closed sign pieces after s h.1) (ap (λ (n : ℕ). Some n) k)
closed sign (Itself b ∷ pieces) after s h =
    (elim (b == 92) as (λ t. (b == 92) ≡ t → closing sign false (pieces_text (Itself b ∷ pieces) ++ sign ∷ after) ≡ Some (length (pieces_text (Itself b ∷ pieces)))) [
      | true ↦ λ e. lone b pieces h.0 e (h.1 e) h.2 (closed sign pieces after s h.2)
      | false ↦ λ e. rw (h.0, e, closed sign pieces after s h.2) (longer b pieces)
    ]) refl
  where
    longer : (b : ℕ) (ps : List Piece) → option_map next_place (Some (length (pieces_text ps))) ≡ Some (length (pieces_text (Itself b ∷ ps)))
    longer b ps = let k : length (pieces_text ps) + 1 ≡ length (pieces_text (Itself b ∷ ps)) = omega arith in ap (λ (n : ℕ). Some n) k

    lone : (b : ℕ) (ps : List Piece) → (b == sign) ≡ false → (b == 92) ≡ true → IsLone ps → ArePieces sign ps → closing sign false (pieces_text ps ++ sign ∷ after) ≡ Some (length (pieces_text ps)) → closing sign false (pieces_text (Itself b ∷ ps) ++ sign ∷ after) ≡ Some (length (pieces_text (Itself b ∷ ps)))
    lone b [] p e l k ih = absurd l
    lone b (Escaped c ∷ ps) p e l k ih = absurd l
    lone b (Itself c ∷ ps) p e l k ih =
        let u = unescaped sign c (pieces_text ps ++ sign ∷ after) (cannot sign c k.0 l) in
        let k : length (pieces_text (Itself c ∷ ps)) + 1 ≡ length (pieces_text (Itself b ∷ Itself c ∷ ps)) = omega arith in
        rw (p, e) (ap (λ (o : Option ℕ). option_map next_place o) (u ∙ ih) ∙ ap (λ (n : ℕ). Some n) k)

-- what stands before the closing sign is pieces

pub record Shut (sign : ℕ) (bs : List ℕ) (n : ℕ) : Type 0 where
  pub pieces : List Piece
  pub after : List ℕ
  pub are : ArePieces sign pieces
  pub split : bs ≡ pieces_text pieces ++ sign ∷ after
  pub len : n ≡ length (pieces_text pieces)

-- behind a backslash: a byte that it escapes, and the rest; or none
record Escapes (sign : ℕ) (bs : List ℕ) (n : ℕ) : Type 0 where
  byte : ℕ
  others : List ℕ
  count : ℕ
  can : can_escape sign byte ≡ true
  begins : bs ≡ byte ∷ others
  more : n ≡ count + 1
  shut : Shut sign others count

record Lone (sign : ℕ) (bs : List ℕ) (n : ℕ) : Type 0 where
  shut : Shut sign bs n
  lone : IsLone shut.pieces

abbrev Closes : Bool → ℕ → List ℕ → ℕ → Type 0
Closes false sign bs n = Shut sign bs n
Closes true sign bs n = Escapes sign bs n ⊎ Lone sign bs n

no_place : {P : Type 0} (n : ℕ) → (let o : Option ℕ = None in o) ≡ Some n → P
no_place n e = absurd (cc)

one_less : (o : Option ℕ) (n : ℕ) → option_map next_place o ≡ Some n → (m : ℕ) × (o ≡ Some m) × (n ≡ m + 1)
one_less None n e = no_place n e
one_less (Some m) n e = let k : m + 1 ≡ n = cc in (m, refl, sym k)

here : (n : ℕ) → Some 0 ≡ Some n → n ≡ 0
here n e = cc

shut_here : (sign b : ℕ) (bs : List ℕ) (n : ℕ) → (b == sign) ≡ true → n ≡ 0 → Shut sign (b ∷ bs) n
shut_here sign b bs n e z = record { pieces = []; after = bs; are = tt; split = ap (λ (x : ℕ). x ∷ bs) (is_byte b sign e); len = z }

shut_itself : (sign b : ℕ) (bs : List ℕ) (n m : ℕ) → (b == sign) ≡ false → (b == 92) ≡ false → n ≡ m + 1 → Shut sign bs m → Shut sign (b ∷ bs) n
shut_itself sign b bs n m p q k s = record {
  pieces = Itself b ∷ s.pieces;
  after = s.after;
  are = (p, λ e. absurd (clash (b == 92) q e), s.are);
  split = ap (λ (l : List ℕ). b ∷ l) s.split;
  len = omega (arith, k, s.len);
}

shut_lone : (sign b : ℕ) (bs : List ℕ) (n m : ℕ) → (b == sign) ≡ false → n ≡ m + 1 → Lone sign bs m → Shut sign (b ∷ bs) n
shut_lone sign b bs n m p k s = record {
  pieces = Itself b ∷ s.shut.pieces;
  after = s.shut.after;
  are = (p, λ e. s.lone, s.shut.are);
  split = ap (λ (l : List ℕ). b ∷ l) s.shut.split;
  len = omega (arith, k, s.shut.len);
}

shut_escaped : (sign b : ℕ) (bs : List ℕ) (n m : ℕ) → (b == 92) ≡ true → n ≡ m + 1 → Escapes sign bs m → Shut sign (b ∷ bs) n
shut_escaped sign b bs n m e k s = record {
  pieces = Escaped s.byte ∷ s.shut.pieces;
  after = s.shut.after;
  are = (s.can, s.shut.are);
  split = ap (λ (x : ℕ). x ∷ bs) (is_byte b 92 e) ∙ ap (λ (l : List ℕ). 92 ∷ l) (s.begins ∙ ap (λ (l : List ℕ). s.byte ∷ l) s.shut.split);
  len = omega (arith, k, s.more, s.shut.len);
}

closes : (escaped : Bool) (sign : ℕ) (bs : List ℕ) (n : ℕ) → closing sign escaped bs ≡ Some n → Closes escaped sign bs n
unfolding shut_itself
closes false sign [] n h = no_place n h
closes true sign [] n h = no_place n h
closes false sign (b ∷ bs) n h =
    (elim (b == sign) as (λ t. (b == sign) ≡ t → (if t then Some 0 else option_map next_place (closing sign (b == 92) bs)) ≡ Some n → Shut sign (b ∷ bs) n) [
      | true ↦ λ e k. shut_here sign b bs n e (here n k)
      | false ↦ λ e k. let m = one_less (closing sign (b == 92) bs) n k in
          (elim (b == 92) as (λ u. (b == 92) ≡ u → closing sign u bs ≡ Some m.0 → Shut sign (b ∷ bs) n) [
            | true ↦ λ f c. elim (closes true sign bs m.0 c) [ inl x ↦ shut_escaped sign b bs n m.0 f m.2 x | inr x ↦ shut_lone sign b bs n m.0 e m.2 x ]
            | false ↦ λ f c. shut_itself sign b bs n m.0 e f m.2 (closes false sign bs m.0 c)
          ]) refl m.1
    ]) refl h
closes true sign (b ∷ bs) n h =
    (elim (can_escape sign b) as (λ t. can_escape sign b ≡ t → (if t then option_map next_place (closing sign false bs) else (if b == sign then Some 0 else option_map next_place (closing sign (b == 92) bs))) ≡ Some n → Escapes sign (b ∷ bs) n ⊎ Lone sign (b ∷ bs) n) [
      | true ↦ λ e k. let m = one_less (closing sign false bs) n k in inl (record { byte = b; others = bs; count = m.0; can = e; begins = refl; more = m.2; shut = closes false sign bs m.0 m.1 })
      | false ↦ λ e k.
          let s = neither sign b e in
          let c : option_map next_place (closing sign false bs) ≡ Some n = rw (s.0, s.1) at k in
          let m = one_less (closing sign false bs) n c in
          inr (record { shut = shut_itself sign b bs n m.0 s.0 s.1 m.2 (closes false sign bs m.0 m.1); lone = s.1 })
    ]) refl h

pub shut : (sign : ℕ) (bs : List ℕ) (n : ℕ) → closing sign false bs ≡ Some n → Shut sign bs n
shut sign bs n h = closes false sign bs n h

-- what the pieces stand for

stands_for : (sign : ℕ) (pieces : List Piece) → ArePieces sign pieces → unescape sign false (pieces_text pieces) ≡ map piece_byte pieces
stands_for sign [] h = refl
stands_for sign (Escaped b ∷ pieces) h = rw (h.0, stands_for sign pieces h.1) refl
stands_for sign (Itself b ∷ pieces) h =
    (elim (b == 92) as (λ t. (b == 92) ≡ t → unescape sign false (pieces_text (Itself b ∷ pieces)) ≡ map piece_byte (Itself b ∷ pieces)) [
      | true ↦ λ e. lone b pieces e (h.1 e) h.2 (stands_for sign pieces h.2)
      | false ↦ λ e. rw (e, stands_for sign pieces h.2) refl
    ]) refl
  where
    lone : (b : ℕ) (ps : List Piece) → (b == 92) ≡ true → IsLone ps → ArePieces sign ps → unescape sign false (pieces_text ps) ≡ map piece_byte ps → unescape sign false (pieces_text (Itself b ∷ ps)) ≡ map piece_byte (Itself b ∷ ps)
    lone b [] e l k ih = absurd l
    lone b (Escaped c ∷ ps) e l k ih = absurd l
    lone b (Itself c ∷ ps) e l k ih =
        let i : unescape sign false (c ∷ pieces_text ps) ≡ c ∷ unescape sign false (pieces_text ps) = rw l refl in
        rw (e, cannot sign c k.0 l, sym i ∙ ih, sym (is_byte b 92 e)) refl

-- what a closed word comes to, where none of its bytes is refused
abbrev pub closed_end : ℕ → List Piece → List ℕ → Next
closed_end place pieces after = if may_follow after then Holds (Word place (map piece_byte pieces)) (place + 2 + length (pieces_text pieces)) else Breaks (place + 2 + length (pieces_text pieces))

pub quoted_is : (place sign : ℕ) (pieces : List Piece) (after : List ℕ) → is_quote sign ≡ true → ArePieces sign pieces → quoted_at place sign (pieces_text pieces ++ sign ∷ after) ≡ unless_refused (place + 1) (position is_refused (pieces_text pieces)) (closed_end place pieces after)
quoted_is place sign pieces after q are =
    let inside = pieces_text pieces in
    let rest : drop (length inside + 1) (inside ++ sign ∷ after) ≡ after = drop-append-add inside (sign ∷ after) 1 in
    rw (closed sign pieces after (quote_alone sign q).no_slash are, take-append_seam inside (sign ∷ after), rest, stands_for sign pieces are) refl
