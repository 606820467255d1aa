-- What the steps of a head find out.
use Rattle.std.proofs.Common.{◌≡◌, ℕ, ◌<◌, ◌≤◌, inl, inr, List, [], ◌++◌, length, take, drop, Some, None, refl, sym, subst, arith, length-drop}
use Rattle.std.proofs.lemmas.List.{take-append-le, drop-append-le, append-nil}
use Rattle.httparse.specs.Grammar.{RequestHead}
use Rattle.nc_types.specs.declared.request.Request.{Request}
use Rattle.nc_http_head.specs.declared.ends.Place.{Place}
use Rattle.nc_http_head.specs.declared.ends.Place.TheVariants.{Inside}
use Rattle.nc_http_head.specs.Ends.{head_end, place_over}
use Rattle.nc_http_head.specs.Heads.{IsHead, request_of}
use Rattle.nc_http_head.specs.Framing.{framing_of}
use Rattle.nc_http_head.specs.declared.framing.Framing.{Framing}
use Rattle.nc_http_head.specs.declared.framing.Framing.TheVariants.{Chunked, Long, Faulty}
use Rattle.nc_http_head.proofs.Scans.{head_scan}
use Rattle.nc_http_head.proofs.Continued.{seen_all}
use Rattle.nc_http_in.specs.Items.{Item, refused, neither, Within, Framed, Headed, IsItem}
use Rattle.nc_http_in.specs.Bodies.{with_body}
use Rattle.nc_http_in.specs.Held.{begun}
use Rattle.nc_http_in.specs.declared.stage.Stage.TheVariants as stages
use Rattle.nc_http_in.specs.declared.stage.Found.TheVariants as founds
use Rattle.nc_http_in.specs.Reading.{IsBegun, IsTurn, StillWaits, turn_behind_head}
use Rattle.nc_http_in.proofs.Blanks.{begun-append}
use Rattle.nc_http_in.proofs.Steps.{stays_there}

head_item : (bytes : List ℕ) (i : Item) → IsBegun bytes → Within 16384 (head_end bytes) bytes Headed i → IsItem bytes i
head_item bytes i b w = rw b.1 w

pub head_far : (bytes : List ℕ) (n : ℕ) → IsBegun bytes → head_end bytes ≡ Some n → 16384 < n → IsItem bytes (refused 400)
head_far bytes n b end far = head_item bytes (refused 400) b (rw end (inr (far, refl)))

pub head_bad : (bytes : List ℕ) (n : ℕ) → IsBegun bytes → head_end bytes ≡ Some n → n ≤ 16384 → ((h : RequestHead) → ¬ (IsHead (take n bytes) h)) → IsItem bytes (refused 400)
head_bad bytes n b end le none = head_item bytes (refused 400) b (rw end (inl (le, inr (none, refl))))

pub head_long : (bytes : List ℕ) → IsBegun bytes → head_end bytes ≡ None → 16384 ≤ length bytes → IsItem bytes (refused 400)
head_long bytes b end long = head_item bytes (refused 400) b (rw end (inl (long, refl)))

pub head_waits : (bytes : List ℕ) (place : Place) → IsBegun bytes → head_end bytes ≡ None → place ≡ place_over Inside bytes → length bytes < 16384 → IsTurn begun bytes (record { taken = 0; found = founds.Waits (stages.Head (length bytes) place) })
head_waits bytes place b end is short =
    (omega arith, (((b, seen_all Inside (length bytes) place bytes refl end is), stays_there begun bytes), head_item bytes neither b (rw end (inr (short, refl)))))

pub head_still : (bytes : List ℕ) (seen : ℕ) (place next : Place) → IsBegun bytes → head_end bytes ≡ None → next ≡ place_over Inside bytes → length bytes < 16384 → StillWaits (stages.Head seen place) (stages.Head (length bytes) next) bytes
head_still bytes seen place next b end is short =
    ((b, seen_all Inside (length bytes) next bytes refl end is), refl, head_item bytes neither b (rw end (inr (short, refl))))

pub head_short : (bytes : List ℕ) → IsBegun bytes → IsTurn begun bytes (record { taken = 0; found = founds.Short (stages.Head 0 Inside) })
head_short bytes b = (omega arith, ((b, (omega arith, refl, refl)), stays_there begun bytes))

-- a head leads to what it frames
head_leads : (bytes : List ℕ) (n : ℕ) (h : RequestHead) → IsBegun bytes → head_end bytes ≡ Some n → n ≤ 16384 → IsHead (take n bytes) h → (more : List ℕ) (i : Item) → Framed (framing_of h.minor (request_of h).fields) (request_of h) (drop n bytes ++ more) i → IsItem (bytes ++ more) i
head_leads bytes n h b end le is more i framed =
    let w = (head_scan.within bytes n end).1 in
    let there : Within 16384 (Some n) (bytes ++ more) Headed i = inl (le, rw (take-append-le n bytes more w, drop-append-le n bytes more w) (inl (h, is, framed))) in
    rw (begun-append bytes more b.0 b.1, head_scan.kept bytes more n end) there

head_framed : (bytes : List ℕ) (n : ℕ) (h : RequestHead) (f : Framing) → IsBegun bytes → head_end bytes ≡ Some n → n ≤ 16384 → IsHead (take n bytes) h → framing_of h.minor (request_of h).fields ≡ f → IsTurn begun bytes (turn_behind_head n (request_of h) f)
head_framed bytes n h Chunked b end le is e =
    let w = head_scan.within bytes n end in
    (w.1, ((((omega arith, refl), omega arith), λ more i p. head_leads bytes n h b end le is more i (rw e p)), omega (arith, w.0, w.1, length-drop n bytes)))
head_framed bytes n h (Long need) b end le is e =
    let w = head_scan.within bytes n end in
    (w.1, ((tt, λ more i p. head_leads bytes n h b end le is more i (rw e p)), omega (arith, w.0, w.1, length-drop n bytes)))
head_framed bytes n h (Faulty status) b end le is e =
    (omega arith, subst (λ (l : List ℕ). IsItem l (refused status)) (append-nil bytes) (head_leads bytes n h b end le is [] (refused status) (rw e refl)))

pub head_turn : (bytes : List ℕ) (n : ℕ) (q : Request) → IsBegun bytes → head_end bytes ≡ Some n → n ≤ 16384 → ((h : RequestHead) × IsHead (take n bytes) h × (q ≡ request_of h)) → IsTurn begun bytes (turn_behind_head n (with_body q []) (framing_of q.minor q.fields))
head_turn bytes n q b end le h =
    subst (λ (r : Request). IsTurn begun bytes (turn_behind_head n (with_body r []) (framing_of r.minor r.fields))) (sym h.2)
    (head_framed bytes n h.0 (framing_of h.0.minor (request_of h.0).fields) b end le h.1 refl)
