-- Blanks and comments: as many bytes are passed over as the fillers of a text have.
use Rattle.std.proofs.Common.{◌≡◌, ℕ, ◌+◌, Bool, true, false, not, List, [], ◌∷◌, ◌++◌, length, refl, sym, ◌∙◌, ap, append_assoc, ◌⊎◌, inl, inr, arith, length-append, ◌==◌, ◌&&◌}
use Rattle.std.specs.List.{list_all, AllByRecursion}
use Rattle.nc_conf_lex.specs.Byte.{is_blank}
use Rattle.nc_conf_lex.specs.Spelling.{Filler, Blank, Comment, fillers_text, in_line, IsFiller}
use Rattle.nc_conf_lex.specs.Reading.{IsLastComment}
use Rattle.nc_conf_lex.specs.Scan.{gap_len}
use Rattle.nc_conf_lex.proofs.Bytes.{both, of_not, is_byte, blank_is_no_hash}

in_comment : (line rest : List ℕ) → list_all in_line line ≡ true → gap_len true ((line ++ 10 ∷ []) ++ rest) ≡ length (line ++ 10 ∷ []) + gap_len false rest
in_comment [] rest h = refl
in_comment (b ∷ line) rest h =
    let here = both (in_line b) (list_all in_line line) h in
    rw (of_not (b == 10) here.0) (omega (arith, in_comment line rest here.1))

-- fillers are passed over
pub gap_filled : (fillers : List Filler) (rest : List ℕ) → AllByRecursion IsFiller fillers → gap_len false (fillers_text fillers ++ rest) ≡ length (fillers_text fillers) + gap_len false rest
gap_filled [] rest h = omega arith
gap_filled (Blank b ∷ fillers) rest h =
    let ih = gap_filled fillers rest h.1 in
    rw (blank_is_no_hash b h.0, h.0) (omega (arith, ih))
gap_filled (Comment line ∷ fillers) rest h =
    let ih = gap_filled fillers rest h.1 in
    rw (append_assoc (line ++ 10 ∷ []) (fillers_text fillers) rest)
    (omega (arith, in_comment line (fillers_text fillers ++ rest) h.0, ih, length-append (line ++ 10 ∷ []) (fillers_text fillers)))

-- a last comment is passed over
pub gap_last : (last : List ℕ) → IsLastComment last → gap_len false last ≡ length last
gap_last [] h = refl
gap_last (b ∷ line) h = rw h.0 (omega (arith, whole line h.1))
  where
    whole : (l : List ℕ) → list_all in_line l ≡ true → gap_len true l ≡ length l
    whole [] k = refl
    whole (c ∷ l) k =
        let here = both (in_line c) (list_all in_line l) k in
        rw (of_not (c == 10) here.0) (omega (arith, whole l here.1))

abbrev pub begins_no_filler : List ℕ → Bool
begins_no_filler [] = true
begins_no_filler (b ∷ bs) = not (b == 35) && not (is_blank b)

-- fillers, and then the last comment, or what begins no filler
pub record Filled (text : List ℕ) : Type 0 where
  pub fillers : List Filler
  pub rest : List ℕ
  pub are : AllByRecursion IsFiller fillers
  pub split : text ≡ fillers_text fillers ++ rest
  pub stops : IsLastComment rest ⊎ (begins_no_filler rest ≡ true)

-- the rest of a comment up to the end of its line, and then the same
record Ended (text : List ℕ) : Type 0 where
  line : List ℕ
  after : List ℕ
  is_line : list_all in_line line ≡ true
  split : text ≡ (line ++ 10 ∷ []) ++ after
  filled : Filled after

abbrev Gap : Bool → List ℕ → Type 0
Gap false text = Filled text
Gap true text = Ended text ⊎ (list_all in_line text ≡ true)

line_ends : (b : ℕ) (bs : List ℕ) → (b == 10) ≡ true → Filled bs → Gap true (b ∷ bs)
line_ends b bs e f = inl (record { line = []; after = bs; is_line = refl; split = ap (λ (x : ℕ). x ∷ bs) (is_byte b 10 e); filled = f })

line_goes_on : (b : ℕ) (bs : List ℕ) → (b == 10) ≡ false → Gap true bs → Gap true (b ∷ bs)
line_goes_on b bs e (inl g) = inl (record { line = b ∷ g.line; after = g.after; is_line = rw (e, g.is_line) refl; split = ap (λ (l : List ℕ). b ∷ l) g.split; filled = g.filled })
line_goes_on b bs e (inr h) = inr (rw (e, h) refl)

comment : (b : ℕ) (bs : List ℕ) → (b == 35) ≡ true → Gap true bs → Filled (b ∷ bs)
comment b bs e (inl g) =
    let f = g.filled in
    record {
      fillers = Comment g.line ∷ f.fillers;
      rest = f.rest;
      are = (g.is_line, f.are);
      split = ap (λ (x : ℕ). x ∷ bs) (is_byte b 35 e) ∙ ap (λ (l : List ℕ). 35 ∷ l) (g.split ∙ ap (λ (l : List ℕ). (g.line ++ 10 ∷ []) ++ l) f.split ∙ sym (append_assoc (g.line ++ 10 ∷ []) (fillers_text f.fillers) f.rest));
      stops = f.stops;
    }
comment b bs e (inr h) = record { fillers = []; rest = b ∷ bs; are = tt; split = refl; stops = inl (is_byte b 35 e, h) }

blank : (b : ℕ) (bs : List ℕ) → is_blank b ≡ true → Filled bs → Filled (b ∷ bs)
blank b bs e f = record { fillers = Blank b ∷ f.fillers; rest = f.rest; are = (e, f.are); split = ap (λ (l : List ℕ). b ∷ l) f.split; stops = f.stops }

none : (b : ℕ) (bs : List ℕ) → (b == 35) ≡ false → is_blank b ≡ false → Filled (b ∷ bs)
none b bs e k = record { fillers = []; rest = b ∷ bs; are = tt; split = refl; stops = inr (rw (e, k) refl) }

gaps : (comment : Bool) (text : List ℕ) → Gap comment text
gaps true [] = inr refl
gaps false [] = record { fillers = []; rest = []; are = tt; split = refl; stops = inr refl }
gaps true (b ∷ bs) =
    (elim (b == 10) as (λ t. (b == 10) ≡ t → Gap true (b ∷ bs)) [ true ↦ λ e. line_ends b bs e (gaps false bs) | false ↦ λ e. line_goes_on b bs e (gaps true bs) ]) refl
gaps false (b ∷ bs) =
    (elim (b == 35) as (λ t. (b == 35) ≡ t → Filled (b ∷ bs)) [
      | true ↦ λ e. comment b bs e (gaps true bs)
      | false ↦ λ e. (elim (is_blank b) as (λ u. is_blank b ≡ u → Filled (b ∷ bs)) [ true ↦ λ k. blank b bs k (gaps false bs) | false ↦ λ k. none b bs e k ]) refl
    ]) refl

pub filled : (text : List ℕ) → Filled text
filled text = gaps false text
