-- Numbers of looks and of grants are drawn once.
use Rattle.std.proofs.Common.{◌≡◌, inl, inr, ℕ, ◌+◌, ◌<◌, ◌≤◌, Bool, true, false, cond, List, [], ◌∷◌, ◌++◌, Option, Some, None, refl, sym, ap, ◌∙◌, subst, arith}
use Rattle.std.specs.Prelude.{◌&&◌, ◌==◌, bytes_eq}
use Rattle.std.specs.List.{AllByRecursion}
use Rattle.std.proofs.lemmas.Bool.{and_parts, eqb-true, ne_eqb}
use Rattle.nc_types.specs.Id.{Id}
use Rattle.nc_journal.specs.History.{Along}
use Rattle.nc_journal.specs.declared.event.Event.{Event}
use Rattle.nc_journal.specs.declared.event.Event.TheVariants.{Stored, Looked, Edged, Granted, Removed, Made}
use Rattle.nc_journal.specs.declared.alert.AlertLine.TheVariants.{LookAnswer}
use Rattle.nc_journal.proofs.Cuts.{all-weaker}
use Rattle.nc_owner.specs.declared.desk.Desk.{Desk}
use Rattle.nc_owner_laws.specs.Used.{bit, times}
use Rattle.nc_owner_laws.specs.Filters.{new_desk}
use Rattle.nc_owner_laws.specs.Wake.{Wake, NotYet, Waiting, wake, IsOnlyAt}
use Rattle.nc_owner_laws.specs.InOrder.{next_look, next_grant, DrawsNext, HasLook, AnswersAt}
use Rattle.nc_owner_laws.specs.Behind.{AnswersPlace, AnswerTellsLook}
use Rattle.nc_owner_laws.specs.Drawn.{look_numbers, grant_numbers, AreDrawn, DrawnOnce}
use Rattle.nc_owner_laws.proofs.Behind.{wake_stored, wake_removed}
use Rattle.nc_owner_laws.proofs.InOrder.{looks_law, grants_law}

-- ---- one number more

times_none : (n : ℕ) (ns : List ℕ) → AllByRecursion (λ m. m < n) ns → times n ns ≡ 0
times_none n [] a = refl
times_none n (m ∷ ns) a = (let other : bit (m == n) ≡ 0 = ap bit (ne_eqb m n (λ e. omega (arith, a.0, e))) in omega (arith, other, times_none n ns a.1))

last : (n : ℕ) → n < n + 1
last n = omega arith

drawn_one : (n : ℕ) (ns : List ℕ) → AreDrawn n ns → AreDrawn (n + 1) (n ∷ ns)
drawn_one n ns k = record {
  below = (last n, all-weaker (λ m. m < n) (λ m. m < n + 1) (λ m le. omega (arith, le)) ns k.below);
  once = λ m. once_case (n == m) m refl;
}
  where
    once_case : (b : Bool) (m : ℕ) → (n == m) ≡ b → bit (n == m) + times m ns ≤ 1
    once_case true m is = (let same : n ≡ m = eqb-true n m is in let none : times m ns ≡ 0 = subst (λ (x : ℕ). times x ns ≡ 0) same (times_none n ns k.below) in let one : bit (n == m) ≡ 1 = ap bit is in omega (arith, none, one))
    once_case false m is = (let none : bit (n == m) ≡ 0 = ap bit is in omega (arith, none, k.once m))

drawn_next : (n next : ℕ) (ns : List ℕ) → n ≡ next → AreDrawn next ns → AreDrawn (n + 1) (n ∷ ns)
drawn_next n next ns e k = drawn_one n ns (subst (λ (x : ℕ). AreDrawn x ns) (sym e) k)

looks_drawn : (first : ℕ) (h : List Event) → Along (DrawsNext first) h → AreDrawn (next_look first h) (look_numbers h)
looks_drawn first [] d = record { below = tt; once = λ n. omega arith }
looks_drawn first (Looked w q from number c after floor past ∷ h) d = drawn_next q (next_look first h) (look_numbers h) d.1 (looks_drawn first h d.0)
looks_drawn first (Edged w q from number k c floor last ∷ h) d = drawn_next q (next_look first h) (look_numbers h) d.1 (looks_drawn first h d.0)
looks_drawn first (e ∷ h) d = looks_drawn first h d.0

grants_drawn : (first : ℕ) (h : List Event) → Along (DrawsNext first) h → AreDrawn (next_grant first h) (grant_numbers h)
grants_drawn first [] d = record { below = tt; once = λ n. omega arith }
grants_drawn first (Granted w g slot to ∷ h) d = drawn_next g (next_grant first h) (grant_numbers h) d.1 (grants_drawn first h d.0)
grants_drawn first (e ∷ h) d = grants_drawn first h d.0

-- ---- a look was made at one channel

only_none : (c : List ℕ) (q : ℕ) (h : List Event) → AllByRecursion (λ n. n < q) (look_numbers h) → IsOnlyAt c q h
only_none c q [] a = tt
only_none c q (Looked v p u number d after floor past ∷ h) a = ((λ e. absurd (omega (arith, a.0, e))), only_none c q h a.1)
only_none c q (Edged w p from number k d floor last ∷ h) a = only_none c q h a.1
only_none c q (e ∷ h) a = only_none c q h a

-- what a look's event adds, where it is this look and where it is another
below_case : (b : Bool) (p q next : ℕ) (t : Wake) → (b ≡ true → p ≡ q) → p ≡ next → ((t ≡ NotYet → ⊥) → q < next) → (cond b Waiting t ≡ NotYet → ⊥) → q < p + 1
below_case true p q next t same e rest n = omega (arith, same refl)
below_case false p q next t same e rest n = omega (arith, rest n, e)

same_number : (p q u w : ℕ) (d c : List ℕ) → ((p == q) && ((u == w) && bytes_eq d c)) ≡ true → p ≡ q
same_number p q u w d c b = eqb-true p q (and_parts (p == q) ((u == w) && bytes_eq d c) b).0

same_name : (p q u w : ℕ) (d c : List ℕ) → ((p == q) && ((u == w) && bytes_eq d c)) ≡ true → bytes_eq d c ≡ true
same_name p q u w d c b = (and_parts (u == w) (bytes_eq d c) (and_parts (p == q) ((u == w) && bytes_eq d c) b).1).1

made_below : (first w : ℕ) (c : List ℕ) (q : ℕ) (h : List Event) → Along (DrawsNext first) h → (wake w c q h ≡ NotYet → ⊥) → q < next_look first h
made_below first w c q [] a n = absurd (n refl)
made_below first w c q (Looked v p u number d after floor None ∷ h) a n = below_case ((p == q) && ((u == w) && bytes_eq d c)) p q (next_look first h) (wake w c q h) (same_number p q u w d c) a.1 (made_below first w c q h a.0) n
made_below first w c q (Looked v p u number d after floor (Some id) ∷ h) a n = omega (arith, made_below first w c q h a.0 n, a.1)
made_below first w c q (Edged v p u number k d floor last ∷ h) a n = omega (arith, made_below first w c q h a.0 n, a.1)
made_below first w c q (Stored v d id slot len exp kept members from r ct body ∷ h) a n = made_below first w c q h a.0 (wake_stored (bytes_eq d c) id (wake w c q h) n)
made_below first w c q (Removed v d last cause ∷ h) a n = made_below first w c q h a.0 (wake_removed (bytes_eq d c) (wake w c q h) n)
made_below first w c q (e ∷ h) a n = made_below first w c q h a.0 n

only_case : (b : Bool) (p q next : ℕ) (m : Bool) (t : Wake) (P : Type 0) → (b ≡ true → (p ≡ q) × (m ≡ true)) → p ≡ next → (p ≡ q → P) → ((t ≡ NotYet → ⊥) → P × (q < next)) → (cond b Waiting t ≡ NotYet → ⊥) → (p ≡ q → m ≡ true) × P
only_case true p q next m t P here e fresh rest n = ((λ x. (here refl).1), fresh (here refl).0)
only_case false p q next m t P here e fresh rest n = let r = rest n in ((λ x. absurd (omega (arith, r.1, x, e))), r.0)

only_at : (first w : ℕ) (c : List ℕ) (q : ℕ) (h : List Event) → Along (DrawsNext first) h → (wake w c q h ≡ NotYet → ⊥) → IsOnlyAt c q h
only_at first w c q [] a n = tt
only_at first w c q (Looked v p u number d after floor None ∷ h) a n =
    only_case ((p == q) && ((u == w) && bytes_eq d c)) p q (next_look first h) (bytes_eq d c) (wake w c q h) (IsOnlyAt c q h)
    (λ b. (same_number p q u w d c b, same_name p q u w d c b)) a.1
    (λ e. only_none c q h (subst (λ (x : ℕ). AllByRecursion (λ m. m < x) (look_numbers h)) (sym a.1 ∙ e) (looks_drawn first h a.0).below))
    (λ m. (only_at first w c q h a.0 m, made_below first w c q h a.0 m)) n
only_at first w c q (Looked v p u number d after floor (Some id) ∷ h) a n =
    ((λ e. absurd (let lt = made_below first w c q h a.0 n in omega (arith, lt, e, a.1))), only_at first w c q h a.0 n)
only_at first w c q (Stored v d id slot len exp kept members from r ct body ∷ h) a n = only_at first w c q h a.0 (wake_stored (bytes_eq d c) id (wake w c q h) n)
only_at first w c q (Removed v d last cause ∷ h) a n = only_at first w c q h a.0 (wake_removed (bytes_eq d c) (wake w c q h) n)
only_at first w c q (e ∷ h) a n = only_at first w c q h a.0 n

pub drawn_once : DrawnOnce
drawn_once me workers slots first row h s k o = record {
  looks = subst (λ (n : ℕ). AreDrawn n (look_numbers h)) (sym (ap (λ (d : Desk). d.looks) k.tells.desk ∙ looks_law (new_desk me workers slots first) h)) (looks_drawn first h o.draws);
  grants = subst (λ (n : ℕ). AreDrawn n (grant_numbers h)) (sym (ap (λ (d : Desk). d.grants) k.tells.desk ∙ grants_law (new_desk me workers slots first) h)) (grants_drawn first h o.draws);
  only = λ w c q n. only_at first w c q h o.draws n;
}

-- ---- the answer to a look

has_below : (v q u number floor : ℕ) (found : Option Id) (h : List Event) (next : ℕ) → AllByRecursion (λ n. n < next) (look_numbers h) → HasLook v q u number floor found h → q < next
has_below v q u number floor found [] next a k = absurd k
has_below v q u number floor found (Looked w p from n c after f past ∷ h) next a (inl k) = subst (λ (x : ℕ). x < next) k.1 a.0
has_below v q u number floor found (Looked w p from n c after f past ∷ h) next a (inr k) = has_below v q u number floor found h next a.1 k
has_below v q u number floor found (Edged w p from n m c f last ∷ h) next a k = has_below v q u number floor found h next a.1 k
has_below v q u number floor found (e ∷ h) next a k = has_below v q u number floor found h next a k

has_later : (v q u number floor : ℕ) (found : Option Id) (newer older : List Event) → HasLook v q u number floor found older → HasLook v q u number floor found (newer ++ older)
has_later v q u number floor found [] older k = k
has_later v q u number floor found (Looked w p from n c after f past ∷ newer) older k = inr (has_later v q u number floor found newer older k)
has_later v q u number floor found (e ∷ newer) older k = has_later v q u number floor found newer older k

along_right : (P : List Event → Event → Type 0) (newer h : List Event) → Along P (newer ++ h) → Along P h
along_right P [] h a = a
along_right P (e ∷ newer) h a = along_right P newer h a.0

-- a look of this number that stands there is the only one
one_look : (first me q w n : ℕ) (c : List ℕ) (after : Id) (f : ℕ) (since seen : List Event) (v number floor : ℕ) (found : Option Id) → Along (DrawsNext first) (since ++ Looked me q w n c after f None ∷ seen) → HasLook v q w number floor found (since ++ Looked me q w n c after f None ∷ seen)
    → AnswersPlace number floor found n f
one_look first me q w n c after f [] seen v number floor found a (inl k) = record { same_number = k.3; same_floor = k.4; nothing = sym k.5 }
one_look first me q w n c after f [] seen v number floor found a (inr k) =
    absurd (let lt = has_below v q w number floor found seen (next_look first seen) (looks_drawn first seen a.0).below k in omega (arith, lt, a.1))
one_look first me q w n c after f (Looked v' p u m d after' f' past ∷ since) seen v number floor found a (inl k) =
    let h = since ++ Looked me q w n c after f None ∷ seen in
    let here : HasLook me q w n f None h = has_later me q w n f None since (Looked me q w n c after f None ∷ seen) (inl (refl, refl, refl, refl, refl, refl)) in
    absurd (let lt = has_below me q w n f None h (next_look first h) (looks_drawn first h a.0).below here in omega (arith, lt, a.1, k.1))
one_look first me q w n c after f (Looked v' p u m d after' f' past ∷ since) seen v number floor found a (inr k) = one_look first me q w n c after f since seen v number floor found a.0 k
one_look first me q w n c after f (e ∷ since) seen v number floor found a k = one_look first me q w n c after f since seen v number floor found a.0 k

pub answer_tells_look : AnswerTellsLook
answer_tells_look first h o me w c q look v n number floor found g slot newer older is =
    let made = Made v w n (LookAnswer number q floor found g slot) in
    let answers : HasLook v q w number floor found older = (along_right AnswersAt newer (made ∷ older) (subst (Along AnswersAt) is o.answers)).1 in
    let has : HasLook v q w number floor found h = subst (HasLook v q w number floor found) (sym is) (has_later v q w number floor found newer (made ∷ older) answers) in
    one_look first me q w look.number c look.after look.floor look.since look.seen v number floor found (subst (Along (DrawsNext first)) look.place o.draws) (subst (HasLook v q w number floor found) look.place has)
