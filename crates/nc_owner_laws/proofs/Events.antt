-- What the events of a step tell of the desk and of a channel.
use Rattle.std.proofs.Common.{◌≡◌, ℕ, zero, suc, ◌+◌, ◌-◌, ◌<◌, ◌≤◌, Bool, true, false, cond, not, List, [], ◌∷◌, ◌++◌, Option, Some, None, refl, sym, ap, ◌∙◌, subst, arith, length, map, filter, fold, take, drop, eqb}
use Rattle.std.specs.Prelude.{unwrap_or, bytes_eq}
use Rattle.std.specs.Option.{option_map}
use Rattle.std.specs.List.{AllByRecursion, slice_get}
use Rattle.std.proofs.lemmas.Bool.{true≢false, eq-eqb, ne_eqb}
use Rattle.std.proofs.lemmas.Cmp.{nat_list_eq_equiv}
use Rattle.std.proofs.lemmas.Int.{ints}
use Rattle.std.proofs.lemmas.List.{take-append-drop}
use Rattle.nc_types.specs.Id.{Id, IsPast, id_eq}
use Rattle.nc_journal.specs.declared.word.LeftCause.{LeftCause}
use Rattle.nc_buffer.specs.declared.entry.Entry.{Entry}
use Rattle.nc_buffer.specs.Buffer.{IsRising, with_grant}
use Rattle.nc_owner.specs.declared.channel.Channel.{Channel}
use Rattle.nc_owner.specs.declared.desk.Desk.{Desk}
use Rattle.nc_owner.specs.declared.poll.PollAnswer.{PollAnswer}
use Rattle.nc_owner.specs.Ascending.{with_number, without_number}
use Rattle.nc_owner.specs.State.{Bench, entries_of, with_entries}
use Rattle.nc_owner.specs.Leave.{left_event, left_desk, left_by, with_slot, stayers, let_go_events}
use Rattle.nc_owner.specs.Poll.{slot_of, is_held, is_free, held_slots, free_slots, freed_event}
use Rattle.nc_owner.specs.Publish.{granted_events}
use Rattle.nc_owner_laws.specs.Used.{bit, times}
use Rattle.nc_owner_laws.specs.Kept.{slots_in}
use Rattle.nc_owner_laws.specs.OwnerTold.{desk_with, channel_with, without_id, counted, with_grants, left_channel, made}
use Rattle.nc_owner_laws.proofs.Used.{eqb_self, times_here}
use Rattle.nc_owner_laws.proofs.Looking.{stands}
use Rattle.nc_owner_laws.proofs.Gone.{without, Lacks, Apart, gone, front_gone}

-- ---- names and ids

pub name_self : (c : List ℕ) → bytes_eq c c ≡ true
name_self c = nat_list_eq_equiv.refl c

pub id_self : (a : Id) → id_eq a a ≡ true
id_self a = grind (arith, ints)

id_apart : (a b : Id) → IsPast a b → (id_eq a b ≡ false) × (id_eq b a ≡ false)
id_apart a b p = (grind (arith, ints), grind (arith, ints))

abbrev pub id_in : Entry → Id
id_in e = e.id

rising_lacks : (id : Id) (es : List Entry) → AllByRecursion (λ later. IsPast later.id id) es → Lacks id_in id_eq id es
rising_lacks id [] a = tt
rising_lacks id (e ∷ es) a = (id_apart e.id id a.0, rising_lacks id es a.1)

pub rising_apart : (es : List Entry) → IsRising es → Apart id_in id_eq es
rising_apart [] r = tt
rising_apart (e ∷ es) r = (rising_lacks e.id es r.0, rising_apart es r.1)

-- ---- the desk

left_none : (d : Desk) → left_by [] d ≡ d
left_none d = λ i. record d { buffered = (none d.buffered) i }
  where
    none : (n : ℕ) → n - 0 ≡ n
    none n = omega arith

left_more : (e : Entry) (es : List Entry) (d : Desk) → left_by es (left_desk d e) ≡ left_by (e ∷ es) d
left_more e es d = λ i. record d { retired = fold with_slot (with_number d.retired e.slot) es; buffered = (more d.buffered (length es)) i }
  where
    more : (n k : ℕ) → (n - 1) - k ≡ n - suc k
    more n k = omega arith

pub desk_left : (w : ℕ) (c : List ℕ) (cause : LeftCause) (es : List Entry) (d : Desk) → fold desk_with d (map (left_event w c cause) es) ≡ left_by es d
desk_left w c cause [] d = sym (left_none d)
desk_left w c cause (e ∷ es) d = desk_left w c cause es (left_desk d e) ∙ left_more e es d

pub desk_freed : (w : ℕ) (ks : List ℕ) (d : Desk) → fold desk_with d (map (freed_event w) ks) ≡ record d { retired = fold without_number d.retired ks }
desk_freed w [] d = refl
desk_freed w (k ∷ ks) d = desk_freed w ks (record d { retired = without_number d.retired k })

pub desk_granted : (w slot : ℕ) (marks : List ℕ) (g : ℕ) (d : Desk) → d.grants ≡ g → fold desk_with d (granted_events w slot g marks) ≡ record d { grants = g + length marks }
desk_granted w slot [] g d e = λ i. record d { grants = (e ∙ none g) i }
  where
    none : (n : ℕ) → n ≡ n + 0
    none n = omega arith
desk_granted w slot (to ∷ marks) g d e = desk_granted w slot marks (g + 1) (record d { grants = g + 1 }) refl ∙ (λ i. record d { grants = (more g (length marks)) i })
  where
    more : (n k : ℕ) → (n + 1) + k ≡ n + suc k
    more n k = omega arith

-- free slots go, and those that are held stay
lacks_case : (k : ℕ) (x : PollAnswer) (xs : List PollAnswer) (b : Bool) → eqb x.slot k ≡ b → times k (map slot_of (x ∷ xs)) ≡ 0 → Lacks slot_of eqb k xs → Lacks slot_of eqb k (x ∷ xs)
lacks_case k x xs true is e l = absurd (omega (arith, e, ap bit is))
lacks_case k x xs false is e l = ((is, ne_eqb k x.slot (λ same. true≢false (sym (eq-eqb x.slot k (sym same)) ∙ is))), l)

times_lacks : (k : ℕ) (xs : List PollAnswer) → times k (map slot_of xs) ≡ 0 → Lacks slot_of eqb k xs
times_lacks k [] e = tt
times_lacks k (x ∷ xs) e = lacks_case k x xs (eqb x.slot k) refl e (times_lacks k xs (omega (arith, e)))

slots_apart : (xs : List PollAnswer) → ((s : ℕ) → times s (map slot_of xs) ≤ 1) → Apart slot_of eqb xs
slots_apart [] f = tt
slots_apart (x ∷ xs) f = (times_lacks x.slot xs (omega (arith, f x.slot, times_here x.slot (map slot_of xs))), slots_apart xs (λ s. omega (arith, f s)))

same_case : (k : ℕ) (a : PollAnswer) (xs : List PollAnswer) (b : Bool) → map slot_of (without slot_of eqb xs k) ≡ without_number (map slot_of xs) k
    → map slot_of (cond b (a ∷ without slot_of eqb xs k) (without slot_of eqb xs k)) ≡ cond b (a.slot ∷ without_number (map slot_of xs) k) (without_number (map slot_of xs) k)
same_case k a xs true e = ap (λ (l : List ℕ). a.slot ∷ l) e
same_case k a xs false e = e

same_without : (k : ℕ) (xs : List PollAnswer) → map slot_of (without slot_of eqb xs k) ≡ without_number (map slot_of xs) k
same_without k [] = refl
same_without k (a ∷ xs) = same_case k a xs (not (eqb a.slot k)) (same_without k xs)

same_fold : (xs : List PollAnswer) (ks : List ℕ) → map slot_of (fold (without slot_of eqb) xs ks) ≡ fold without_number (map slot_of xs) ks
same_fold xs [] = refl
same_fold xs (k ∷ ks) = same_fold (without slot_of eqb xs k) ks ∙ ap (λ (l : List ℕ). fold without_number l ks) (same_without k xs)

held_case : (a : PollAnswer) (xs ys : List PollAnswer) (b : Bool) → xs ≡ ys → cond (not (not b)) (a ∷ xs) xs ≡ cond b (a ∷ ys) ys
held_case a xs ys true e = ap (λ (l : List PollAnswer). a ∷ l) e
held_case a xs ys false e = e

held_is : (xs : List PollAnswer) → filter (λ a. not (is_free a)) xs ≡ filter is_held xs
held_is [] = refl
held_is (a ∷ xs) = held_case a (filter (λ x. not (is_free x)) xs) (filter is_held xs) a.held (held_is xs)

-- of polled slots the free ones go
pub held_stay : (answers : List PollAnswer) → ((s : ℕ) → times s (map slot_of answers) ≤ 1) → fold without_number (map slot_of answers) (free_slots answers) ≡ held_slots answers
held_stay answers f =
    sym (same_fold answers (free_slots answers))
    ∙ ap (map slot_of) (gone slot_of eqb eqb_self is_free [] answers (slots_apart answers f) ∙ held_is answers)

-- ---- a channel

-- entries leave it
pub own_left : (w : ℕ) (c : List ℕ) (cause : LeftCause) (spent : Id) (ch : Channel) (es : List Entry) → fold (channel_with c spent) (Some ch) (map (left_event w c cause) es) ≡ Some (with_entries (fold without_id (entries_of ch) (map id_in es)) ch)
own_left w c cause spent ch [] = refl
own_left w c cause spent ch (e ∷ es) =
    ap (λ b. fold (channel_with c spent) (cond b (Some (left_channel e.id ch)) (Some ch)) (map (left_event w c cause) es)) (name_self c)
    ∙ own_left w c cause spent (left_channel e.id ch) es

-- those that pass a test leave it, if it exists
pub own_let_go : (cause : LeftCause) (test : Entry → Bool) (c : List ℕ) (spent : Id) (o : Option Channel) (b : Bench) → b.channel ≡ unwrap_or o (made spent) → IsRising (entries_of b.channel)
    → fold (channel_with c spent) o (let_go_events cause test c b) ≡ option_map (λ ch. with_entries (stayers test (entries_of ch)) ch) o
own_let_go cause test c spent None b is r = ap (λ ch. fold (channel_with c spent) None (map (left_event b.desk.me c cause) (filter test (entries_of ch)))) is
own_let_go cause test c spent (Some ch) b is r =
    ap (λ x. fold (channel_with c spent) (Some ch) (map (left_event b.desk.me c cause) (filter test (entries_of x)))) is
    ∙ own_left b.desk.me c cause spent ch (filter test (entries_of ch))
    ∙ ap (λ es. Some (with_entries es ch)) (gone id_in id_eq id_self test [] (entries_of ch) (rising_apart (entries_of ch) (subst (λ (x : Channel). IsRising (entries_of x)) is r)))

pub opened_let_go : (test : Entry → Bool) (spent : Id) (o : Option Channel) (ch : Channel) → ch ≡ unwrap_or o (made spent) → with_entries (stayers test (entries_of ch)) ch ≡ unwrap_or (option_map (λ x. with_entries (stayers test (entries_of x)) x) o) (made spent)
opened_let_go test spent None ch is = ap (λ x. with_entries (stayers test (entries_of x)) x) is
opened_let_go test spent (Some x) ch is = ap (λ y. with_entries (stayers test (entries_of y)) y) is

-- the oldest leave it
pub own_oldest : (cause : LeftCause) (n : ℕ) (w : ℕ) (c : List ℕ) (spent : Id) (o : Option Channel) (ch : Channel) → ch ≡ unwrap_or o (made spent) → IsRising (entries_of ch)
    → fold (channel_with c spent) o (map (left_event w c cause) (take n (entries_of ch))) ≡ option_map (λ x. with_entries (drop n (entries_of x)) x) o
own_oldest cause n w c spent None ch is r = ap (λ x. fold (channel_with c spent) None (map (left_event w c cause) (take n (entries_of x)))) is ∙ take_none n
  where
    take_none : (n : ℕ) → fold (channel_with c spent) None (map (left_event w c cause) (take n [])) ≡ None
    take_none zero = refl
    take_none (suc n) = refl
own_oldest cause n w c spent (Some x) ch is r =
    ap (λ y. fold (channel_with c spent) (Some x) (map (left_event w c cause) (take n (entries_of y)))) is
    ∙ own_left w c cause spent x (take n (entries_of x))
    ∙ ap (λ es. Some (with_entries es x)) (
    ap (λ es. fold without_id es (map id_in (take n (entries_of x)))) (sym (take-append-drop n (entries_of x)))
    ∙ front_gone id_in id_eq id_self (take n (entries_of x)) (drop n (entries_of x)) (subst (Apart id_in id_eq) (sym (take-append-drop n (entries_of x))) (rising_apart (entries_of x) (subst (λ (y : Channel). IsRising (entries_of y)) is r))))

drop_none : {X : Type 0} (n : ℕ) → drop n (let xs : List X = [] in xs) ≡ []
drop_none zero = refl
drop_none (suc n) = refl

pub opened_oldest : (n : ℕ) (spent : Id) (o : Option Channel) (ch : Channel) → ch ≡ unwrap_or o (made spent) → with_entries (drop n (entries_of ch)) ch ≡ unwrap_or (option_map (λ x. with_entries (drop n (entries_of x)) x) o) (made spent)
opened_oldest n spent None ch is = ap (λ x. with_entries (drop n (entries_of x)) x) is ∙ ap (λ es. with_entries es (made spent)) (drop_none n)
opened_oldest n spent (Some x) ch is = ap (λ y. with_entries (drop n (entries_of y)) y) is

pub own_freed : (w : ℕ) (c : List ℕ) (spent : Id) (o : Option Channel) (ks : List ℕ) → fold (channel_with c spent) o (map (freed_event w) ks) ≡ o
own_freed w c spent o [] = refl
own_freed w c spent o (k ∷ ks) = own_freed w c spent o ks

-- ---- grants

abbrev pub counts : ℕ → List ℕ → List Entry → List Entry
counts slot marks es = fold (λ xs to. map (counted slot) xs) es marks

pub own_granted : (w slot g : ℕ) (c : List ℕ) (spent : Id) (ch : Channel) (marks : List ℕ) → fold (channel_with c spent) (Some ch) (granted_events w slot g marks) ≡ Some (with_entries (counts slot marks (entries_of ch)) ch)
own_granted w slot g c spent ch [] = refl
own_granted w slot g c spent ch (to ∷ marks) = own_granted w slot (g + 1) c spent (with_grants slot ch) marks

counted_other : (slot : ℕ) (e : Entry) → eqb e.slot slot ≡ false → counted slot e ≡ e
counted_other slot e n = ap (λ b. cond b (record e { grants = e.grants + 1 }) e) n

none_case : (slot : ℕ) (e : Entry) (es : List Entry) (b : Bool) → eqb e.slot slot ≡ b → times slot (slots_in (e ∷ es)) ≡ 0 → eqb e.slot slot ≡ false
none_case slot e es true is n = absurd (omega (arith, n, ap bit is))
none_case slot e es false is n = is

pub counted_none : (slot : ℕ) (es : List Entry) → times slot (slots_in es) ≡ 0 → map (counted slot) es ≡ es
counted_none slot [] n = refl
counted_none slot (e ∷ es) n = let one : counted slot e ≡ e = counted_other slot e (none_case slot e es (eqb e.slot slot) refl n) in (λ i. one i ∷ counted_none slot es (omega (arith, n)) i)

pub counts_none : (slot : ℕ) (marks : List ℕ) (es : List Entry) → times slot (slots_in es) ≡ 0 → counts slot marks es ≡ es
counts_none slot [] es n = refl
counts_none slot (to ∷ marks) es n = ap (counts slot marks) (counted_none slot es n) ∙ counts_none slot marks es n

abbrev pub granted_more : Entry → ℕ → Entry
granted_more e n = record e { grants = e.grants + n }

counted_last : (slot : ℕ) (es : List Entry) (e : Entry) → times slot (slots_in es) ≡ 0 → e.slot ≡ slot → map (counted slot) (es ++ e ∷ []) ≡ es ++ granted_more e 1 ∷ []
counted_last slot [] e n is = ap (λ b. cond b (granted_more e 1) e ∷ []) (eq-eqb e.slot slot is)
counted_last slot (x ∷ es) e n is = let one : counted slot x ≡ x = counted_other slot x (none_case slot x es (eqb x.slot slot) refl n) in (λ i. one i ∷ counted_last slot es e (omega (arith, n)) is i)

pub counts_last : (slot : ℕ) (marks : List ℕ) (es : List Entry) (e : Entry) → times slot (slots_in es) ≡ 0 → e.slot ≡ slot → counts slot marks (es ++ e ∷ []) ≡ es ++ granted_more e (length marks) ∷ []
counts_last slot [] es e n is = ap (λ k. es ++ record e { grants = k } ∷ []) (none e.grants)
  where
    none : (n : ℕ) → n ≡ n + 0
    none n = omega arith
counts_last slot (to ∷ marks) es e n is =
    ap (counts slot marks) (counted_last slot es e n is) ∙ counts_last slot marks es (granted_more e 1) n is ∙ ap (λ k. es ++ record e { grants = k } ∷ []) (more e.grants (length marks))
  where
    more : (n k : ℕ) → (n + 1) + k ≡ n + suc k
    more n k = omega arith

-- the entry at a place, which is alone in its slot, counts a grant
pub counted_at_place : (place : ℕ) (es : List Entry) (e : Entry) → slice_get es place ≡ Some e → times e.slot (slots_in es) ≤ 1 → map (counted e.slot) es ≡ with_grant place es
counted_at_place zero [] e is once = refl
counted_at_place (suc place) [] e is once = refl
counted_at_place zero (x ∷ es) e is once =
    let h : x ≡ e = cc in
    let none : times e.slot (slots_in es) ≡ 0 = omega (arith, once, ap bit (eq-eqb x.slot e.slot (ap (λ (y : Entry). y.slot) h))) in
    (λ i. cond ((eq-eqb x.slot e.slot (ap (λ (y : Entry). y.slot) h)) i) (record x { grants = x.grants + 1 }) x ∷ (counted_none e.slot es none) i)
counted_at_place (suc place) (x ∷ es) e is once =
    let here : 0 < times e.slot (slots_in es) = stands place es e is in
    let other : eqb x.slot e.slot ≡ false = apart (eqb x.slot e.slot) (omega (arith, once, here)) in
    (λ i. (counted_other e.slot x other) i ∷ (counted_at_place place es e is (omega (arith, once))) i)
  where
    apart : (b : Bool) → bit b ≡ 0 → b ≡ false
    apart true z = absurd (omega (arith, z))
    apart false z = refl

-- ---- the other channels

-- no entry of it is in a slot
abbrev pub IsWithout : ℕ → Option Channel → Type 0
IsWithout slot None = Unit {0}
IsWithout slot (Some ch) = times slot (slots_in (entries_of ch)) ≡ 0

pub other_left : (w : ℕ) (c d : List ℕ) (cause : LeftCause) (spent : Id) (o : Option Channel) (es : List Entry) → bytes_eq c d ≡ false → fold (channel_with d spent) o (map (left_event w c cause) es) ≡ o
other_left w c d cause spent o [] n = refl
other_left w c d cause spent o (e ∷ es) n = ap (λ b. fold (channel_with d spent) (cond b (option_map (left_channel e.id) o) o) (map (left_event w c cause) es)) n ∙ other_left w c d cause spent o es n

pub other_granted : (w slot g : ℕ) (d : List ℕ) (spent : Id) (o : Option Channel) (marks : List ℕ) → IsWithout slot o → fold (channel_with d spent) o (granted_events w slot g marks) ≡ o
other_granted w slot g d spent o [] n = refl
other_granted w slot g d spent None (to ∷ marks) n = other_granted w slot (g + 1) d spent None marks n
other_granted w slot g d spent (Some ch) (to ∷ marks) n =
    ap (λ es. fold (channel_with d spent) (Some (with_entries es ch)) (granted_events w slot (g + 1) marks)) (counted_none slot (entries_of ch) n) ∙ other_granted w slot (g + 1) d spent (Some ch) marks n
