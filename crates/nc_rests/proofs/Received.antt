-- What a worker took of another, as the history goes on, and what it takes next.
use Rattle.std.proofs.Common.{◌≡◌, ℕ, Bool, true, false, cond, List, [], ◌∷◌, ◌++◌, drop, refl, ap, ◌∙◌, subst, arith}
use Rattle.std.specs.Prelude.{◌&&◌, ◌==◌}
use Rattle.std.specs.List.{AllByRecursion}
use Rattle.std.proofs.lemmas.Bool.{eq-eqb, cond_both}
use Rattle.nc_journal.specs.History.{own, is_by}
use Rattle.nc_journal.specs.declared.event.Event.{Event}
use Rattle.nc_journal.specs.declared.event.Event.TheVariants.{Made, Took}
use Rattle.nc_journal.specs.declared.alert.AlertLine.{AlertLine}
use Rattle.nc_journal.specs.declared.word.AlertKind.{AlertKind}
use Rattle.nc_owner_laws.specs.Wake.{made_to}
use Rattle.nc_history.specs.Packets.{Packet, is_pair, takes, pending, lines_of, first_line, sent_lines, received, IsNext}
use Rattle.nc_history.proofs.Prefixes.{taken_is_prefix}

pub received_same : (o w : ℕ) (e : Event) (h : List Event) → takes o w e ≡ false → received o w (e ∷ h) ≡ received o w h
received_same o w (Took y x n kind) h other = ap (λ b. cond b (received o w h ++ first_line (pending o w h)) (received o w h)) other
received_same o w e h other = refl

pub eqb_self : (n : ℕ) → (n == n) ≡ true
eqb_self n = eq-eqb n n refl

pub pair_self : (o w : ℕ) → is_pair o w o w ≡ true
pair_self o w = rw (eqb_self o, eqb_self w) refl

pub received_more : (o w n : ℕ) (kind : AlertKind) (a : AlertLine) (h : List Event) → IsNext o w a h → received o w (Took w o n kind ∷ h) ≡ received o w h ++ a ∷ []
received_more o w n kind a h next = ap (λ b. cond b (received o w h ++ first_line (pending o w h)) (received o w h)) (pair_self o w) ∙ ap (λ l. received o w h ++ l) next

-- ---- what was made is what was taken and then what is pending

made_by : (x w v y n : ℕ) (a : AlertLine) (h : List Event) → (b : Bool) → (v == x) ≡ b → made_to w (cond b (Made x y n a ∷ own v h) (own v h)) ≡ cond (b && (y == w)) (made_to w (own v h) ++ a ∷ []) (made_to w (own v h))
made_by x w v y n a h true is = refl
made_by x w v y n a h false is = refl

eqb_turn : (a b : ℕ) → (a == b) ≡ (b == a)
eqb_turn a b = grind arith

sent_is : (v w : ℕ) (h : List Event) → made_to w (own v h) ≡ sent_lines v w h
sent_is v w [] = refl
sent_is v w (Made x y n a ∷ h) =
    made_by x w v y n a h (v == x) refl
    ∙ ap (λ b. cond ((v == x) && b) (made_to w (own v h) ++ a ∷ []) (made_to w (own v h))) (eqb_turn y w)
    ∙ ap (λ l. cond (is_pair v w x y) (l ++ a ∷ []) l) (sent_is v w h)
sent_is v w (e ∷ h) = cond_both (is_by v e) (e ∷ own v h) (own v h) (λ l. made_to w l ≡ made_to w (own v h)) (λ _. refl) (λ _. refl) ∙ sent_is v w h

pub made_is : (v w : ℕ) (h : List Event) → made_to w (own v h) ≡ received v w h ++ lines_of (pending v w h)
made_is v w h = sent_is v w h ∙ taken_is_prefix v w h

pub next_split : (ps : List Packet) (a : AlertLine) → first_line ps ≡ a ∷ [] → lines_of ps ≡ a ∷ lines_of (drop 1 ps)
next_split [] a is = absurd cc
next_split (p ∷ ps) a is = let same : p.line ≡ a = cc in ap (λ (l : AlertLine). l ∷ lines_of ps) same

middle : (P : AlertLine → Type 0) (xs : List AlertLine) (a : AlertLine) (ys : List AlertLine) → AllByRecursion P (xs ++ a ∷ ys) → P a
middle P [] a ys all = all.0
middle P (x ∷ xs) a ys all = middle P xs a ys all.1

-- what holds of each alert that was made holds of the next one
pub of_next : (P : AlertLine → Type 0) (v w : ℕ) (a : AlertLine) (h : List Event) → AllByRecursion P (made_to w (own v h)) → IsNext v w a h → P a
of_next P v w a h all next = middle P (received v w h) a (lines_of (drop 1 (pending v w h))) (subst (AllByRecursion P) (made_is v w h ∙ ap (λ l. received v w h ++ l) (next_split (pending v w h) a next)) all)
