-- Each part of a line says one thing, or breaks its rule at one place.
use Rattle.std.proofs.Common.{◌≡◌, ◌≢◌, ℕ, ◌+◌, ◌<◌, Bool, true, false, ◌==◌, ◌||◌, List, [], ◌∷◌, ◌++◌, codes, length, map, inl, inr, subst, sym, ap, ◌∙◌, refl, arith}
use Rattle.std.specs.List.{AllByRecursion, slice_split}
use Rattle.std.proofs.lemmas.List.Splits.{length-slice_split}
use Rattle.std.specs.declared.result.Result.TheVariants.{Err}
use Rattle.nc_types.specs.Unquote.{OneMeaning, OnePlace}
use Rattle.nc_types.specs.Cursor.{CursorAt}
use Rattle.nc_types.specs.declared.start.Start.{Start}
use Rattle.nc_types.specs.declared.start.Start.TheVariants.{Oldest, Newest, Given}
use Rattle.nc_ident.specs.declared.refusal.IdRefusal.{IdRefusal}
use Rattle.nc_ident.specs.declared.refusal.IdRefusal.TheVariants.{Malformed, TagCount, NoMemory}
use Rattle.nc_ident.specs.Spelling.{SpellsId}
use Rattle.nc_ident.specs.Refusal.{IsRefusedId}
use Rattle.nc_ident.proofs.Pieces.{one_cursor}
use Rattle.nc_script.specs.Word.{Word, placed}
use Rattle.nc_script.specs.Judge.{Judged, IsSure}
use Rattle.nc_script.specs.Part.{IsBody, IsNoBody, IsName, IsFirstBad, names_in, number, worker, body, name, names, distinct_names, list, start, start_fault, SpellsStart}
use Rattle.nc_script.proofs.Sure.{must_sure, next_sure}

pub number_sure : (limit : ℕ) (word : Word) → IsSure (number limit word)
number_sure limit word = must_sure 4 word.at _ (λ n m h k. h.0.value ∙ sym k.0.value)

pub worker_sure : (workers : ℕ) (word : Word) (n : ℕ) → IsSure (worker workers word n)
worker_sure workers word n = must_sure 5 word.at _ (λ w v h k. h.0 ∙ sym k.0)

pub name_sure : (word : Word) → IsSure (name word)
name_sure word = must_sure 7 word.at _ (λ c d h k. h.0 ∙ sym k.0)

-- where a text is quoted for one list of bytes, and stops being a quoted text at one place, at most
module _ (one_meaning : (text : List ℕ) → OneMeaning text) (one_place : (text : List ℕ) → OnePlace text) where
  body_or_none : (text : Word) (bytes : List ℕ) (at : ℕ) → IsBody text.bytes bytes → IsNoBody text at → ⊥
  body_or_none text bytes at is (inl (place, none, here)) = none.none bytes is.quoted
  body_or_none text bytes at is (inr (other, quoted, many, here)) =
      let same = one_meaning text.bytes bytes other is.quoted quoted in
      omega (arith, is.few, ap length same)

  one_no_body : (text : Word) (at place : ℕ) → IsNoBody text at → IsNoBody text place → at ≡ place
  one_no_body text at place (inl (a, none, here)) (inl (b, other, there)) = here ∙ ap (λ (n : ℕ). text.at + n) (one_place text.bytes a b none.place other.place) ∙ sym there
  one_no_body text at place (inl (a, none, here)) (inr (bytes, quoted, many, there)) = absurd (none.none bytes quoted)
  one_no_body text at place (inr (bytes, quoted, many, here)) (inl (b, none, there)) = absurd (none.none bytes quoted)
  one_no_body text at place (inr (bytes, quoted, many, here)) (inr (other, again, more, there)) = here ∙ sym there

  pub body_sure : (text : Word) → IsSure (body text)
  body_sure text = record {
    one = λ a b h k. one_meaning text.bytes a b h.quoted k.quoted;
    either = λ bytes rule at h b. body_or_none text bytes at h b.1;
    first = λ rule at other place h k. (h.0 ∙ sym k.0, one_no_body text at place h.1 k.1);
  }

none_is_bad : (words : List Word) (at : ℕ) → AllByRecursion IsName (map (λ w. w.bytes) words) → IsFirstBad words at → ⊥
none_is_bad [] at each bad = bad
none_is_bad (word ∷ words) at each (inl (none, here)) = none each.0
none_is_bad (word ∷ words) at each (inr (is, bad)) = none_is_bad words at each.1 bad

one_first_bad : (words : List Word) (at place : ℕ) → IsFirstBad words at → IsFirstBad words place → at ≡ place
one_first_bad [] at place h k = absurd h
one_first_bad (word ∷ words) at place (inl (none, here)) (inl (other, there)) = here ∙ sym there
one_first_bad (word ∷ words) at place (inl (none, here)) (inr (is, bad)) = absurd (none is)
one_first_bad (word ∷ words) at place (inr (is, bad)) (inl (none, there)) = absurd (none is)
one_first_bad (word ∷ words) at place (inr (is, bad)) (inr (same, again)) = one_first_bad words at place bad again

pub names_sure : (word : Word) → IsSure (names word)
names_sure word = record {
  one = λ a b h k. h.0 ∙ sym k.0;
  either = λ cs rule at h b. none_is_bad (names_in word) at (subst (λ (list : List (List ℕ)). AllByRecursion IsName list) h.0 h.1) b.1;
  first = λ rule at other place h k. (h.0 ∙ sym k.0, one_first_bad (names_in word) at place h.1 k.1);
}

pub list_sure : (word : Word) → IsSure (list word)
list_sure word = next_sure (names word) (distinct_names word) (names_sure word) (λ cs. must_sure 8 word.at _ (λ a b h k. h.0 ∙ sym k.0))

abbrev has_colon : List ℕ → Bool
has_colon [] = false
has_colon (b ∷ text) = (b == 58) || has_colon text

behind_any : (before behind : List ℕ) → has_colon (before ++ codes ":" ++ behind) ≡ true
behind_any [] behind = refl
behind_any (b ∷ before) behind = let rest = behind_any before behind in elim (b == 58) as (λ x. (x || has_colon (before ++ codes ":" ++ behind)) ≡ true) [ true ↦ refl | false ↦ rest ]

-- words without a colon are no ids
oldest_is_no_id : (cursor : CursorAt) → SpellsId (codes "oldest") cursor → ⊥
oldest_is_no_id cursor id =
    let colon : has_colon (codes "oldest") ≡ true = ap has_colon id.text_is ∙ behind_any id.before id.behind in
    let none : false ≡ true = colon in cc

newest_is_no_id : (cursor : CursorAt) → SpellsId (codes "newest") cursor → ⊥
newest_is_no_id cursor id =
    let colon : has_colon (codes "newest") ≡ true = ap has_colon id.text_is ∙ behind_any id.before id.behind in
    let none : false ≡ true = colon in cc

-- and the two are apart
abbrev begins_with_o : List ℕ → Bool
begins_with_o [] = false
begins_with_o (b ∷ text) = b == 111

apart_words : codes "oldest" ≡ codes "newest" → ⊥
apart_words same = let first : true ≡ false = ap begins_with_o same in cc

one_start : (n : ℕ) (text : List ℕ) (a b : Start) → SpellsStart n text a → SpellsStart n text b → a ≡ b
one_start n text Oldest Oldest h k = refl
one_start n text Oldest Newest h k = absurd (apart_words (sym h ∙ k))
one_start n text Oldest (Given cursor) h k = absurd (oldest_is_no_id cursor (subst (λ (t : List ℕ). SpellsId t cursor) h k.0))
one_start n text Newest Oldest h k = absurd (apart_words (sym k ∙ h))
one_start n text Newest Newest h k = refl
one_start n text Newest (Given cursor) h k = absurd (newest_is_no_id cursor (subst (λ (t : List ℕ). SpellsId t cursor) h k.0))
one_start n text (Given cursor) Oldest h k = absurd (oldest_is_no_id cursor (subst (λ (t : List ℕ). SpellsId t cursor) k h.0))
one_start n text (Given cursor) Newest h k = absurd (newest_is_no_id cursor (subst (λ (t : List ℕ). SpellsId t cursor) k h.0))
one_start n text (Given cursor) (Given other) h k = ap Given (one_cursor text cursor other h.0 k.0)

pub start_sure : (n : ℕ) (word : Word) → IsSure (start n word)
start_sure n word = must_sure 9 word.at _ (one_start n word.bytes)

no_start : (n : ℕ) (text : List ℕ) (a : CursorAt) → SpellsId text a → length a.tags ≢ n → text ≢ codes "oldest" → text ≢ codes "newest" → (s : Start) → SpellsStart n text s → ⊥
no_start n text a spelled other old new Oldest is = old is
no_start n text a spelled other old new Newest is = new is
no_start n text a spelled other old new (Given cursor) is =
    let same = ap (λ (c : CursorAt). length c.tags) (one_cursor text a cursor spelled is.0) in
    other (same ∙ is.1)

no_id : (n : ℕ) (text : List ℕ) → ((a : CursorAt) → SpellsId text a → ⊥) → text ≢ codes "oldest" → text ≢ codes "newest" → (s : Start) → SpellsStart n text s → ⊥
no_id n text none old new Oldest is = old is
no_id n text none old new Newest is = new is
no_id n text none old new (Given cursor) is = none cursor is.0

-- a word that is refused as an id, and is neither `oldest` nor `newest`, is no start
pub refused_start : (n : ℕ) (word : Word) (refusal : IdRefusal) → word.bytes ≢ codes "oldest" → word.bytes ≢ codes "newest" → IsRefusedId word.bytes n refusal → Judged (start n word) (Err (start_fault word.at refusal))
refused_start n word (Malformed place) old new refused = (refl, refl, no_id n word.bytes refused.none old new)
refused_start n word (TagCount found) old new refused = (refl, refl, no_start n word.bytes refused.0 refused.1 (λ same. refused.3 (sym refused.2 ∙ same)) old new)
refused_start n word NoMemory old new refused = tt

some_placed : (at : ℕ) (pieces : List (List ℕ)) → 0 < length pieces → 0 < length (map (λ w. w.bytes) (placed at pieces))
some_placed at [] some = some
some_placed at (piece ∷ pieces) some = omega arith

-- a list has a name
pub some_name : (word : Word) → 0 < length (map (λ w. w.bytes) (names_in word))
some_name word = some_placed word.at (slice_split (λ b. b == 44) word.bytes) (omega (arith, length-slice_split (λ b. b == 44) word.bytes))
