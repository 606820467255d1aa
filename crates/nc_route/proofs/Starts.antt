-- What is given, read as a start.
use Rattle.std.proofs.Common.{◌≡◌, ℕ, zero, suc, List, [], ◌∷◌, length, Option, Some, None, refl, sym, ◌∙◌, ap, subst, arith, replicate, negsuc}
use Rattle.std.specs.Prelude.{Result, Err, IfErr, false, ◌==◌}
use Rattle.std.proofs.lemmas.Int.{ints}
use Rattle.nc_types.specs.Id.{IsTime}
use Rattle.nc_types.specs.Cursor.{CursorAt, AreTags}
use Rattle.nc_types.specs.Settings.{SettingsAt}
use Rattle.nc_types.specs.declared.start.Start.{Start}
use Rattle.nc_types.specs.declared.start.Start.TheVariants as starts
use Rattle.nc_route.specs.declared.start.StartRefusal.{StartRefusal}
use Rattle.nc_ident.specs.Date.{SpellsDate}
use Rattle.nc_ident.specs.Spelling.{SpellsTags}
use Rattle.nc_ident.specs.Refusal.{AreRefusedTags, IsRefusedId}
use Rattle.nc_ident.specs.declared.refusal.IdRefusal.{IdRefusal}
use Rattle.nc_ident.specs.declared.refusal.IdRefusal.TheVariants.{Malformed, TagCount, NoMemory}
use Rattle.nc_ident.proofs.Pieces.{one_list, one_cursor}
use Rattle.nc_route.specs.Begin.{Given, IsNoDate, given_by_date, given_by_socket, start_at, HasNoDate, AreMalformed, AreOthers, IsGivenStart}
use Rattle.nc_route.specs.Begin.Given.{Nothing, Date, DateAndTags, Id}
use Rattle.nc_route.specs.Steps.{IsNoStart, unread}

pub all_blank : (n : ℕ) → AreTags (replicate n (negsuc 0))
all_blank zero = tt
all_blank (suc n) = ((grind (arith, ints), grind (arith, ints)), all_blank n)

pub tags_refused : (n : ℕ) (date text : List ℕ) (time : ℕ) (refusal : IdRefusal) → SpellsDate date time → AreRefusedTags text n refusal → IsNoStart n (DateAndTags date text) (unread refusal)
tags_refused n date text time (Malformed at) is bad = (λ none. none time is, bad.none)
tags_refused n date text time (TagCount found) is bad =
    (λ none. none time is, λ none. none bad.0 bad.1, (bad.0, bad.1, λ same. bad.3 (sym bad.2 ∙ same)))
tags_refused n date text time NoMemory is bad = tt

pub id_refused : (n : ℕ) (text : List ℕ) (refusal : IdRefusal) → IsRefusedId text n refusal → IsNoStart n (Id text) (unread refusal)
id_refused n text (Malformed at) bad = (λ none. none, bad.none)
id_refused n text (TagCount found) bad = (λ none. none, λ none. none bad.0 bad.1, (bad.0, bad.1, λ same. bad.3 (sym bad.2 ∙ same)))
id_refused n text NoMemory bad = tt

pub no_date : (n : ℕ) (date : List ℕ) (tags : Option (List ℕ)) → IsNoDate date → HasNoDate (given_by_date date tags)
no_date n date None none = none
no_date n date (Some text) none = none

pub told : {T : Type 0} (P : StartRefusal → Type 0) (r : Result T StartRefusal) (e refusal : StartRefusal) → r ≡ Err e → e ≡ refusal → P refusal → IfErr r P
told P r e refusal is same h = subst (λ x. IfErr x P) (sym is) (subst P (sym same) h)

pub id_given : (id : List ℕ) → false ≡ (length id == 0) → given_by_socket id ≡ Id id
id_given [] e = absurd cc
id_given (b ∷ bs) e = refl

pub tags_started : (settings : SettingsAt) (n : ℕ) (date text : List ℕ) (time : ℕ) (cursor : CursorAt) → SpellsDate date time → cursor.time ≡ time → SpellsTags text cursor.tags → length cursor.tags ≡ n → IsGivenStart settings n (DateAndTags date text) (starts.Given cursor)
tags_started settings n date text time cursor is same spelled count =
    (time, is, cursor.tags, spelled, count, ap (λ t. start_at t cursor.tags) same)

-- ---- a start breaks none of the rules

pub has_date : (settings : SettingsAt) (n : ℕ) (g : Given) (start : Start) → IsGivenStart settings n g start → HasNoDate g → ⊥
has_date settings n Nothing start h bad = bad
has_date settings n (Date date) start h bad = bad h.0 h.1
has_date settings n (DateAndTags date text) start h bad = bad h.0 h.1
has_date settings n (Id text) start h bad = bad

pub well_formed : (settings : SettingsAt) (n : ℕ) (g : Given) (start : Start) → IsGivenStart settings n g start → AreMalformed g → ⊥
well_formed settings n Nothing start h bad = bad
well_formed settings n (Date date) start h bad = bad
well_formed settings n (DateAndTags date text) start h bad = bad h.2 h.3
well_formed settings n (Id text) start h bad = bad h.0 h.1

pub of_the_names : (settings : SettingsAt) (n : ℕ) (g : Given) (start : Start) → IsGivenStart settings n g start → AreOthers n g → ⊥
of_the_names settings n Nothing start h bad = bad
of_the_names settings n (Date date) start h bad = bad
of_the_names settings n (DateAndTags date text) start h bad = bad.2 (ap length (one_list text bad.0 h.2 bad.1 h.3) ∙ h.4)
of_the_names settings n (Id text) start h bad = bad.2 (ap (λ (c : CursorAt). length c.tags) (one_cursor text bad.0 h.0 bad.1 h.1) ∙ h.2)
