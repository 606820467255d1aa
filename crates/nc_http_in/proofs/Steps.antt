-- How one part leads to the next, and what steps find out one behind the other.
use Rattle.std.proofs.Common.{◌≡◌, ℕ, ◌+◌, ◌-◌, ◌≤◌, inr, List, [], length, drop, refl, sym, ap, ◌∙◌, subst, arith, length-drop}
use Rattle.std.proofs.lemmas.List.{append-nil, drop-drop}
use Rattle.nc_http_head.specs.Ends.{unblanked}
use Rattle.nc_http_in.specs.Items.{Item, whole, refused, neither, IsItem}
use Rattle.nc_http_in.specs.Held.{Part, begun, IsItemFrom, LeadsFrom}
use Rattle.nc_http_in.specs.declared.stage.Stage.{Stage}
use Rattle.nc_http_in.specs.declared.stage.Stage.TheVariants as stages
use Rattle.nc_http_in.specs.declared.stage.Found.{Found}
use Rattle.nc_http_in.specs.declared.stage.Found.TheVariants as founds
use Rattle.nc_http_in.specs.declared.stage.Turn.{Turn}
use Rattle.nc_http_in.specs.Reading.{part_of, Reaches, IsFound, IsTurn}
use Rattle.nc_http_in.proofs.Blanks.{length-unblanked, unblanked_is_drop, unblanked-append, no_bytes}

pub stays_there : (part : Part) (bytes : List ℕ) → LeadsFrom part bytes part bytes
stays_there part bytes more i p = p

pub leads_on : (a b c : Part) (x y z : List ℕ) → LeadsFrom a x b y → LeadsFrom b y c z → LeadsFrom a x c z
leads_on a b c x y z f g more i p = f more i (g more i p)

-- where nothing follows
pub now_from : (a b : Part) (x y : List ℕ) → LeadsFrom a x b y → (i : Item) → IsItemFrom b y i → IsItemFrom a x i
now_from a b x y f i p = subst (λ l. IsItemFrom a l i) (append-nil x) (f [] i (subst (λ l. IsItemFrom b l i) (sym (append-nil y)) p))

-- what is found behind a part that this one leads to is found of this one
pub found_from : (a b : Part) (x y left : List ℕ) (found : Found) → LeadsFrom a x b y → length y ≤ length x → IsFound b y left found → IsFound a x left found
found_from a b x y left (founds.On stage) f le p = ((p.0.0, leads_on a b (part_of stage) x y left f p.0.1), omega (arith, p.1, le))
found_from a b x y left (founds.Waits stage) f le p = ((p.0.0, leads_on a b (part_of stage) x y left f p.0.1), now_from a b x y f neither p.1)
found_from a b x y left (founds.Whole q) f le p = (now_from a b x y f (whole q left) p.0, p.1)
found_from a b x y left (founds.Refused status) f le p = now_from a b x y f (refused status) p
found_from a b x y left (founds.Short stage) f le p = (p.0, leads_on a b (part_of stage) x y left f p.1)

-- what a step finds out behind those before, of so many bytes that were taken off
pub turn_found : (part : Part) (text : List ℕ) (from : ℕ) (stage : Stage) (turn : Turn) → from ≤ length text → Reaches part text stage (drop from text) → IsTurn (part_of stage) (drop from text) turn → IsFound part text (drop (from + turn.taken) text) turn.found
turn_found part text from stage turn le r t =
    subst (λ (l : List ℕ). IsFound part text l turn.found) (drop-drop turn.taken from text)
    (found_from part (part_of stage) text (drop from text) (drop turn.taken (drop from text)) turn.found r.1 (omega (arith, length-drop from text)) t.1)

pub turn_within : (text : List ℕ) (from taken : ℕ) → from ≤ length text → taken ≤ length (drop from text) → from + taken ≤ length text
turn_within text from taken le t = omega (arith, le, t, length-drop from text)

pub turn_reached : (part : Part) (text rest : List ℕ) (from : ℕ) (stage : Stage) (turn : Turn) (found : Found) → from ≤ length text → Reaches part text stage (drop from text) → rest ≡ drop from text → IsTurn (part_of stage) rest turn → turn.found ≡ found → (from + turn.taken ≤ length text) × IsFound part text (drop (from + turn.taken) text) found
turn_reached part text rest from stage turn found le r cut t is =
    let there : IsTurn (part_of stage) (drop from text) turn = subst (λ (l : List ℕ). IsTurn (part_of stage) l turn) cut t in (
      turn_within text from turn.taken le there.0,
      subst (λ (f : Found). IsFound part text (drop (from + turn.taken) text) f) is (turn_found part text from stage turn le r there),
    )

-- ---- before a request

start_leads : (text : List ℕ) → LeadsFrom begun text begun (unblanked text)
start_leads text more i p = rw (unblanked-append text more) p

nothing_yet : (text : List ℕ) → unblanked text ≡ [] → IsItem text neither
nothing_yet text e = rw e (inr (omega arith, refl))

pub start_waits : (text rest : List ℕ) → rest ≡ unblanked text → length rest ≡ 0 → IsTurn begun text (record { taken = length text - length rest; found = founds.Waits stages.Start })
start_waits text rest is none =
    let cut : unblanked text ≡ drop (length text - length rest) text = unblanked_is_drop text ∙ ap (λ (l : List ℕ). drop (length text - length l) text) (sym is) in
    let leads : LeadsFrom begun text begun (drop (length text - length rest) text) = subst (λ (l : List ℕ). LeadsFrom begun text begun l) cut (start_leads text) in
    (omega arith, ((tt, leads), nothing_yet text (sym is ∙ no_bytes rest none)))

pub start_on : (text rest : List ℕ) (turn : Turn) → rest ≡ unblanked text → IsTurn begun rest turn → IsTurn begun text (record { taken = length text - length rest + turn.taken; found = turn.found })
start_on text rest turn is t =
    let le : length rest ≤ length text = rw is (length-unblanked text) in
    let cut : rest ≡ drop (length text - length rest) text = is ∙ (unblanked_is_drop text ∙ ap (λ (l : List ℕ). drop (length text - length l) text) (sym is)) in
    let leads : LeadsFrom begun text begun rest = subst (λ (l : List ℕ). LeadsFrom begun text begun l) (sym is) (start_leads text) in
    let left : drop turn.taken rest ≡ drop (length text - length rest + turn.taken) text = ap (drop turn.taken) cut ∙ drop-drop turn.taken (length text - length rest) text in
    (omega (arith, le, t.0), subst (λ (l : List ℕ). IsFound begun text l turn.found) left (found_from begun begun text rest (drop turn.taken rest) turn.found leads le t.1))
