-- What was taken is a prefix of what was made.
use Rattle.std.proofs.Common.{◌≡◌, ℕ, Bool, true, false, cond, List, [], ◌∷◌, ◌++◌, refl, ap, ◌∙◌, sym}
use Rattle.std.specs.Prelude.{drop}
use Rattle.std.proofs.lemmas.List.{append_assoc, map-append}
use Rattle.nc_journal.specs.declared.event.Event.{Event}
use Rattle.nc_journal.specs.declared.event.Event.TheVariants.{Made, Took}
use Rattle.nc_journal.specs.declared.alert.AlertLine.{AlertLine}
use Rattle.nc_history.specs.Packets.{Packet, packet, is_pair, pending, lines_of, first_line, sent_lines, received, TakenIsPrefix}

-- one packet more
made_one : (b : Bool) (n : ℕ) (a : AlertLine) (sent got : List AlertLine) (ps : List Packet) → sent ≡ got ++ lines_of ps
    → cond b (sent ++ a ∷ []) sent ≡ got ++ lines_of (cond b (ps ++ packet n a ∷ []) ps)
made_one true n a sent got ps same = ap (λ (l : List AlertLine). l ++ a ∷ []) same ∙ append_assoc got (lines_of ps) (a ∷ []) ∙ ap (λ (l : List AlertLine). got ++ l) (sym (map-append (λ (p : Packet). p.line) ps (packet n a ∷ [])))
made_one false n a sent got ps same = same

-- the first of some packets is taken
first_and_rest : (ps : List Packet) → lines_of ps ≡ first_line ps ++ lines_of (drop 1 ps)
first_and_rest [] = refl
first_and_rest (p ∷ ps) = refl

took_one : (b : Bool) (sent got : List AlertLine) (ps : List Packet) → sent ≡ got ++ lines_of ps
    → sent ≡ cond b (got ++ first_line ps) got ++ lines_of (cond b (drop 1 ps) ps)
took_one true sent got ps same = same ∙ ap (λ (l : List AlertLine). got ++ l) (first_and_rest ps) ∙ sym (append_assoc got (first_line ps) (lines_of (drop 1 ps)))
took_one false sent got ps same = same

pub taken_is_prefix : TakenIsPrefix
taken_is_prefix v w [] = refl
taken_is_prefix v w (Made x y n a ∷ h) = made_one (is_pair v w x y) n a (sent_lines v w h) (received v w h) (pending v w h) (taken_is_prefix v w h)
taken_is_prefix v w (Took y x n kind ∷ h) = took_one (is_pair v w x y) (sent_lines v w h) (received v w h) (pending v w h) (taken_is_prefix v w h)
taken_is_prefix v w (e ∷ h) = taken_is_prefix v w h
