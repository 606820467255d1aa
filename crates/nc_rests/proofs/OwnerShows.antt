-- What an owner that stands for its local history tells and keeps.
use Rattle.std.proofs.Common.{◌≡◌, ℕ, suc, ◌≤◌, Bool, true, false, cond, List, [], ◌∷◌, ◌++◌, length, refl, sym, ap, ◌∙◌, arith}
use Rattle.std.specs.Prelude.{◌==◌, bytes_eq}
use Rattle.std.specs.List.{AllByRecursion}
use Rattle.std.specs.Cmp.Lexicographic.{same_text}
use Rattle.std.proofs.lemmas.Bool.{eqb-true}
use Rattle.nc_types.specs.Id.{Id}
use Rattle.nc_types.specs.Channel.{owner_of}
use Rattle.nc_journal.specs.History.{Along, own, is_by}
use Rattle.nc_journal.specs.Stamp.{IsStamped}
use Rattle.nc_journal.specs.Message.{published, stored_message}
use Rattle.nc_journal.specs.Sending.{HasId}
use Rattle.nc_journal.specs.declared.event.Event.{Event}
use Rattle.nc_journal.specs.declared.event.Event.TheVariants.{Stored, Left, Looked, Edged}
use Rattle.nc_owner_laws.specs.Buffered.{LeavesStored}
use Rattle.nc_owner_laws.proofs.AnsweredOnce.{answered_once}
use Rattle.nc_owner_laws.proofs.Behind.{notice_is_first}
use Rattle.nc_owner_laws.proofs.Drawn.{drawn_once}
use Rattle.nc_rests.specs.Owners.{IsByOwner}
use Rattle.nc_rests.specs.ShowsForSends.{AskIsOfOwner, StandsForSends}

-- ---- a local history is by its owner

own_length : (w : ℕ) (h : List Event) → length (own w h) ≤ length h
own_length w [] = omega arith
own_length w (e ∷ h) = by (is_by w e) (own_length w h)
  where
    by : (b : Bool) → length (own w h) ≤ length h → length (cond b (e ∷ own w h) (own w h)) ≤ suc (length h)
    by true le = omega (arith, le)
    by false le = omega (arith, le)

own_case : (b : Bool) (e : Event) (l h : List Event) → length l ≤ length h → cond b (e ∷ l) l ≡ e ∷ h → (b ≡ true) × (l ≡ h)
own_case true e l h le is = (refl, (let rest : l ≡ h = cc in rest))
own_case false e l h le is = absurd (let long : length l ≡ suc (length h) = ap length is in omega (arith, le, long))

own_parts : (me : ℕ) (e : Event) (h : List Event) → own me (e ∷ h) ≡ e ∷ h → (is_by me e ≡ true) × (own me h ≡ h)
own_parts me e h is = own_case (is_by me e) e (own me h) h (own_length me h) is

-- who stored a message of a channel owns it
owns : (workers me : ℕ) (c : List ℕ) (id : Id) (h : List Event) → IsStamped workers h → own me h ≡ h → HasId (published c h) id → me ≡ owner_of workers c
owns workers me c id [] stamped local has = absurd has
owns workers me c id (Stored v d m slot len exp kept members from r ct body ∷ h) stamped local has =
    let p = own_parts me (Stored v d m slot len exp kept members from r ct body) h local in
    by (bytes_eq d c) refl p.0 (owns workers me c id h stamped.0 p.1) has
  where
    by : (b : Bool) → bytes_eq d c ≡ b → (me == v) ≡ true → (HasId (published c h) id → me ≡ owner_of workers c) → HasId (cond b (published c h ++ stored_message m slot exp ct body ∷ []) (published c h)) id → me ≡ owner_of workers c
    by true same mine rest there = eqb-true me v mine ∙ stamped.1.owner ∙ ap (owner_of workers) (same_text d c (sym same))
    by false other mine rest there = rest there
owns workers me c id (e ∷ h) stamped local has = owns workers me c id h stamped.0 (own_parts me e h local).1 has

by_owner : (workers me : ℕ) (h : List Event) → IsStamped workers h → own me h ≡ h → Along LeavesStored h → AllByRecursion (AskIsOfOwner workers) h → AllByRecursion (IsByOwner workers) h
by_owner workers me [] stamped local leaves edges = tt
by_owner workers me (Stored w c id slot len exp kept members from r ct body ∷ h) stamped local leaves edges = (stamped.1.owner, by_owner workers me h stamped.0 (own_parts me (Stored w c id slot len exp kept members from r ct body) h local).1 leaves.0 edges.1)
by_owner workers me (Left w c id slot cause ∷ h) stamped local leaves edges =
    let p = own_parts me (Left w c id slot cause) h local in
    (sym (eqb-true me w p.0) ∙ owns workers me c id h stamped.0 p.1 leaves.1, by_owner workers me h stamped.0 p.1 leaves.0 edges.1)
by_owner workers me (Edged w q from number k c floor last ∷ h) stamped local leaves edges = (edges.0, by_owner workers me h stamped.0 (own_parts me (Edged w q from number k c floor last) h local).1 leaves.0 edges.1)
by_owner workers me (Looked w q from number c after floor found ∷ h) stamped local leaves edges = (edges.0, by_owner workers me h stamped.0 (own_parts me (Looked w q from number c after floor found) h local).1 leaves.0 edges.1)
by_owner workers me (e ∷ h) stamped local leaves edges = (tt, by_owner workers me h stamped.0 (own_parts me e h local).1 leaves.0 edges.1)

pub stands_for_sends : StandsForSends
stands_for_sends me workers slots first row h s k o new edges =
    let d = drawn_once me workers slots first row h s k o in
    record {
      tells = record {
        heard = k.wakes.same;
        only = d.only;
        first = notice_is_first me workers slots first row h s k o;
        past = k.past;
        once = d.looks.once;
        answered_once = answered_once h new;
      };
      keeps = record { stamped = k.stamped; by_owner = by_owner workers me h k.stamped k.local k.stored edges; looks = o.looks };
    }
