-- A history on which the events of a step on one channel are put tells the owner after the step.
use Rattle.std.proofs.Common.{◌≡◌, ℕ, ◌+◌, ◌<◌, Bool, true, false, cond, List, [], ◌∷◌, Some, None, refl, sym, ap, ◌∙◌, subst, arith, fold, Ordering}
use Rattle.std.specs.Prelude.{◌&&◌, bytes_eq}
use Rattle.std.specs.Ordering.{nat_cmp, is_eq, MatchOrdering}
use Rattle.std.specs.Cmp.Lexicographic.{slice_cmp, same_text}
use Rattle.std.specs.List.{AllByRecursion, flat_map}
use Rattle.std.specs.List.Sorted.{IsStrictlySortedBy}
use Rattle.std.specs.Map.{keys_of, values_of, lookup}
use Rattle.std.proofs.lemmas.Bool.{eq-eqb, ne_eqb}
use Rattle.std.proofs.lemmas.Cmp.{nat_list_cmp_total, same_from_slice_cmp, ranked}
use Rattle.std.specs.declared.cmp.Ordering.TheVariants.{Less, Equal, Greater}
use Rattle.nc_journal.specs.History.{onto}
use Rattle.nc_journal.specs.declared.event.Event.{Event}
use Rattle.nc_journal.specs.declared.event.Event.TheVariants.{Removed, Stored}
use Rattle.nc_owner.specs.declared.channel.Channel.{Channel}
use Rattle.nc_owner.specs.declared.desk.Desk.{Desk}
use Rattle.nc_owner.specs.State.{OwnerAt, Bench, entries_of, is_name, found, others, after}
use Rattle.nc_owner_laws.specs.Used.{times}
use Rattle.nc_owner_laws.specs.Kept.{slots_in}
use Rattle.nc_owner_laws.specs.OwnerTold.{desk_with, channel_with, desk_of, channel_of, HistoryTells}
use Rattle.nc_owner_laws.proofs.Used.{times-append}
use Rattle.nc_owner_laws.proofs.Leaving.{slots_append}
use Rattle.nc_owner_laws.proofs.Shelf.{lookup_removed, lookup_inserted, lookup_other}
use Rattle.nc_owner_laws.proofs.Opening.{rest_of}
use Rattle.nc_owner_laws.proofs.Events.{IsWithout}

-- ---- histories

-- no channel is removed
abbrev pub Stays : Event → Type 0
Stays (Removed w c last cause) = ⊥
Stays _ = Unit {0}

spent_stays : (d : Desk) (e : Event) → Stays e → (desk_with d e).spent ≡ d.spent
spent_stays d (Removed w c last cause) n = absurd n
spent_stays d (Stored w c id slot len exp true members from r ct body) n = refl
spent_stays d (Stored w c id slot len exp false members from r ct body) n = refl
spent_stays d e n = refl

pub onto_desk : (first : Desk) (es h : List Event) → desk_of first (onto es h) ≡ fold desk_with (desk_of first h) es
onto_desk first [] h = refl
onto_desk first (e ∷ es) h = onto_desk first es (e ∷ h)

pub onto_channel : (first : Desk) (c : List ℕ) (es h : List Event) → AllByRecursion Stays es → channel_of first c (onto es h) ≡ fold (channel_with c (desk_of first h).spent) (channel_of first c h) es
onto_channel first c [] h n = refl
onto_channel first c (e ∷ es) h n =
    onto_channel first c es (e ∷ h) n.1
    ∙ ap (λ spent. fold (channel_with c spent) (channel_with c (desk_of first h).spent (channel_of first c h) e) es) (spent_stays (desk_of first h) e n.0)

-- ---- names

more : (x y : ℕ) (xs ys : List ℕ) (o : Ordering) → o ≡ nat_cmp x y → MatchOrdering o (bytes_eq (x ∷ xs) (y ∷ ys) ≡ false) (bytes_eq (x ∷ xs) (y ∷ ys) ≡ bytes_eq xs ys) (bytes_eq (x ∷ xs) (y ∷ ys) ≡ false)
more x y xs ys Less e = let r : x < y = ranked x y Less e in ap (λ b. b && bytes_eq xs ys) (ne_eqb x y (λ same. omega (arith, r, same)))
more x y xs ys Equal e = let r : x ≡ y = ranked x y Equal e in ap (λ b. b && bytes_eq xs ys) (eq-eqb x y r)
more x y xs ys Greater e = let r : y < x = ranked x y Greater e in ap (λ b. b && bytes_eq xs ys) (ne_eqb x y (λ same. omega (arith, r, same)))

pub name_is : (c d : List ℕ) → is_eq (slice_cmp nat_cmp c d) ≡ bytes_eq c d
name_is c d = same_from_slice_cmp nat_cmp is_eq bytes_eq refl (λ y ys. refl) (λ x xs. refl) more c d (slice_cmp nat_cmp c d) refl

-- what is found after a step
pub found_after : (c d : List ℕ) (stays : Bool) (b : Bench) (s : OwnerAt) → IsStrictlySortedBy (slice_cmp nat_cmp) (keys_of s.channels) → found d (after c stays b s) ≡ cond (is_eq (slice_cmp nat_cmp c d)) (cond stays (Some b.channel) None) (found d s)
found_after c d true b s sorted =
    lookup_inserted nat_list_cmp_total d c b.channel (others c s.channels) (lookup_removed nat_list_cmp_total c s.channels sorted)
    ∙ ap (cond (is_eq (slice_cmp nat_cmp c d)) (Some b.channel)) (lookup_other nat_list_cmp_total d c s.channels sorted)
    ∙ twice (is_eq (slice_cmp nat_cmp c d))
  where
    twice : (t : Bool) → cond t (Some b.channel) (cond t None (found d s)) ≡ cond t (Some b.channel) (found d s)
    twice true = refl
    twice false = refl
found_after c d false b s sorted = lookup_other nat_list_cmp_total d c s.channels sorted

-- ---- a step on one channel

pub after_tells : (first : Desk) (h es : List Event) (c : List ℕ) (stays : Bool) (b : Bench) (s : OwnerAt) → IsStrictlySortedBy (slice_cmp nat_cmp) (keys_of s.channels) → HistoryTells first h s → AllByRecursion Stays es
    → fold desk_with s.desk es ≡ b.desk → fold (channel_with c s.desk.spent) (found c s) es ≡ cond stays (Some b.channel) None → ((d : List ℕ) → bytes_eq c d ≡ false → fold (channel_with d s.desk.spent) (found d s) es ≡ found d s)
    → HistoryTells first (onto es h) (after c stays b s)
after_tells first h es c stays b s sorted t keeps desk own others = record {
  desk = sym desk ∙ ap (λ d. fold desk_with d es) t.desk ∙ sym (onto_desk first es h);
  channels = λ d. found_after c d stays b s sorted ∙ ap (λ x. cond x (cond stays (Some b.channel) None) (found d s)) (name_is c d) ∙ by d (bytes_eq c d) refl ∙ told d;
}
  where
    told : (d : List ℕ) → fold (channel_with d s.desk.spent) (found d s) es ≡ channel_of first d (onto es h)
    told d = ap (λ k. fold (channel_with d k.spent) (found d s) es) t.desk ∙ ap (λ o. fold (channel_with d (desk_of first h).spent) o es) (t.channels d) ∙ sym (onto_channel first d es h keeps)

    by : (d : List ℕ) (x : Bool) → bytes_eq c d ≡ x → cond x (cond stays (Some b.channel) None) (found d s) ≡ fold (channel_with d s.desk.spent) (found d s) es
    by d true e = subst (λ (n : List ℕ). cond stays (Some b.channel) None ≡ fold (channel_with n s.desk.spent) (found n s) es) (same_text c d (sym e)) (sym own)
    by d false e = sym (others d e)

-- ---- slots of the other channels

none_each : (k : ℕ) (chs : List Channel) → times k (slots_in (flat_map entries_of chs)) ≡ 0 → AllByRecursion (λ ch. times k (slots_in (entries_of ch)) ≡ 0) chs
none_each k [] e = tt
none_each k (ch ∷ chs) e =
    let parts : times k (slots_in (entries_of ch)) + times k (slots_in (flat_map entries_of chs)) ≡ 0 = sym (times-append k (slots_in (entries_of ch)) (slots_in (flat_map entries_of chs))) ∙ ap (times k) (sym (slots_append (entries_of ch) (flat_map entries_of chs))) ∙ e in
    (omega (arith, parts), none_each k chs (omega (arith, parts)))

lookup_without : (k : ℕ) (test : List ℕ → Bool) (es : List (List ℕ × Channel)) → AllByRecursion (λ ch. times k (slots_in (entries_of ch)) ≡ 0) (values_of es) → IsWithout k (lookup test es)
lookup_without k test [] a = tt
lookup_without k test (e ∷ es) a = by (test e.0) (lookup_without k test es a.1)
  where
    by : (b : Bool) → IsWithout k (lookup test es) → IsWithout k (cond b (Some e.1) (lookup test es))
    by true h = a.0
    by false h = h

pub other_without : (c d : List ℕ) (k : ℕ) (s : OwnerAt) → IsStrictlySortedBy (slice_cmp nat_cmp) (keys_of s.channels) → bytes_eq c d ≡ false → times k (slots_in (rest_of c s)) ≡ 0 → IsWithout k (found d s)
other_without c d k s sorted n none =
    subst (IsWithout k) (lookup_other nat_list_cmp_total d c s.channels sorted ∙ ap (λ b. cond b None (found d s)) (name_is c d ∙ n))
    (lookup_without k (is_name d) (others c s.channels) (none_each k (values_of (others c s.channels)) none))
