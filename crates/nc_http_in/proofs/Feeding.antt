-- A reader that is fed, and the items of all bytes.
use Rattle.std.proofs.Common.{◌≡◌, ℕ, Bool, true, false, List, [], ◌∷◌, ◌++◌, refl, sym, ap, ◌∙◌, subst, arith, length-append}
use Rattle.std.specs.Prelude.{if◌then◌else◌, Result, Ok, Err, OnOk, OnErr}
use Rattle.std.proofs.lemmas.List.{append_assoc}
use Rattle.nc_types.specs.declared.request.Request.{Request}
use Rattle.nc_http_head.specs.declared.ends.Place.TheVariants.{Start as LineStart, Inside}
use Rattle.nc_http_head.proofs.Continued.{seen_stays, seen_line_stays}
use Rattle.nc_http_in.specs.Items.{Item, whole, refused, neither, IsItem}
use Rattle.nc_http_in.specs.Lists.{Begins, End, bad, unended, IsEnd, Items}
use Rattle.nc_http_in.specs.Held.{Part, begun, counted, line, chunk, trailer, over, Held, IsItemFrom, fresh, is_over, fed, GoesOn, Answers, StandsFor, HasRead, HasLeft, AnswerTells}
use Rattle.nc_http_in.specs.declared.next.Next.{Next}
use Rattle.nc_http_in.specs.declared.next.Next.TheVariants.{Request as Asked, More, Bad}
use Rattle.nc_http_in.specs.declared.stage.Stage.{Stage}
use Rattle.nc_http_in.specs.declared.stage.Stage.TheVariants as stages
use Rattle.nc_http_in.specs.Reading.{part_of, Notes}
use Rattle.nc_http_in.proofs.Blanks.{begun-append}
use Rattle.nc_http_in.proofs.Stays.{item_stays}
use Rattle.nc_http_in.proofs.Unique.{item_unique}
use Rattle.nc_http_in.proofs.Steps.{now_from}

-- notes stay when more comes, but behind a refusal
pub notes_stay : (stage : Stage) (bytes more : List ℕ) → is_over (part_of stage) ≡ false → Notes stage bytes → Notes stage (bytes ++ more)
notes_stay stages.Start bytes more e n = tt
notes_stay (stages.Head seen place) bytes more e n =
    ((omega (arith, n.0.0, length-append bytes more), begun-append bytes more n.0.0 n.0.1), seen_stays Inside seen place bytes more n.1)
notes_stay (stages.Body q need) bytes more e n = tt
notes_stay (stages.Line q seen) bytes more e n = (seen_line_stays seen bytes more n.0, n.1)
notes_stay (stages.Data q size) bytes more e n = n
notes_stay (stages.Trailer q seen place) bytes more e n = seen_stays LineStart seen place bytes more n
notes_stay (stages.Bad status) bytes more e n = cc e

-- so they do where the piece is put behind the bytes, or there is no memory for it
pub notes_put : {A E : Type 0} (result : Result A E) (stage : Stage) (bytes piece after : List ℕ) → OnOk result (after ≡ bytes ++ piece) → OnErr result (after ≡ bytes) → is_over (part_of stage) ≡ false → Notes stage bytes → Notes stage after
notes_put (Ok done) stage bytes piece after ok err e n = subst (λ (l : List ℕ). Notes stage l) (sym ok) (notes_stay stage bytes piece e n)
notes_put (Err fault) stage bytes piece after ok err e n = subst (λ (l : List ℕ). Notes stage l) (sym err) n

-- ---- lists of items

begins_fed : (bytes piece : List ℕ) (requests : List Request) (rest : List ℕ) → Begins bytes requests rest → Begins (bytes ++ piece) requests (rest ++ piece)
begins_fed bytes piece [] rest b = ap (λ l. l ++ piece) b
begins_fed bytes piece (q ∷ requests) rest b = (b.0 ++ piece, item_stays bytes piece (whole q b.0) (λ e. cc e) b.1, begins_fed b.0 piece requests rest b.2)

begins_asked : (bytes : List ℕ) (requests : List Request) (rest : List ℕ) (q : Request) (behind : List ℕ) → Begins bytes requests rest → IsItem rest (whole q behind) → Begins bytes (requests ++ q ∷ []) behind
begins_asked bytes [] rest q behind b i = (behind, subst (λ (l : List ℕ). IsItem l (whole q behind)) (sym b) i, refl)
begins_asked bytes (r ∷ requests) rest q behind b i = (b.0, b.1, begins_asked b.0 requests rest q behind b.2 i)

abbrev status_of : Item → ℕ
status_of neither = 0
status_of (refused status) = status
status_of (whole q rest) = 0

-- what ends the items is no whole request
no_end : (bytes : List ℕ) (end : End) (q : Request) (behind : List ℕ) → IsEnd bytes end → IsItem bytes (whole q behind) → ⊥
no_end bytes (bad status) q behind e i = let same = item_unique bytes (refused status) (whole q behind) e i in cc same
no_end bytes unended q behind e i = let same = item_unique bytes neither (whole q behind) e i in cc same

one_end : (bytes : List ℕ) (end other : End) → IsEnd bytes end → IsEnd bytes other → end ≡ other
one_end bytes (bad status) (bad another) e f = ap bad (ap status_of (item_unique bytes (refused status) (refused another) e f))
one_end bytes (bad status) unended e f = let same = item_unique bytes (refused status) neither e f in cc same
one_end bytes unended (bad another) e f = let same = item_unique bytes neither (refused another) e f in cc same
one_end bytes unended unended e f = refl

pub one_list : (bytes : List ℕ) (requests others : List Request) (end other : End) → Items bytes requests end → Items bytes others other → (requests ≡ others) × (end ≡ other)
one_list bytes [] [] end other x y = (refl, one_end bytes end other (subst (λ (l : List ℕ). IsEnd l end) (sym x.1) x.2) (subst (λ (l : List ℕ). IsEnd l other) (sym y.1) y.2))
one_list bytes [] (q ∷ others) end other x y = absurd (no_end bytes end q y.1.0 (subst (λ (l : List ℕ). IsEnd l end) (sym x.1) x.2) y.1.1)
one_list bytes (q ∷ requests) [] end other x y = absurd (no_end bytes other q x.1.0 (subst (λ (l : List ℕ). IsEnd l other) (sym y.1) y.2) x.1.1)
one_list bytes (q ∷ requests) (r ∷ others) end other x y =
    let same = item_unique bytes (whole q x.1.0) (whole r y.1.0) x.1.1 y.1.1 in
    let first : q ≡ r = cc same in
    let behind : x.1.0 ≡ y.1.0 = cc same in
    let later = one_list y.1.0 requests others end other (x.0, subst (λ (l : List ℕ). Begins l requests x.0) behind x.1.2, x.2) (y.0, y.1.2, y.2) in
    (ap (λ (s : Request). s ∷ requests) first ∙ ap (λ (l : List Request). r ∷ l) later.0, later.1)

-- ---- what a reader has read

pub reads_nothing : HasRead (fresh []) [] []
reads_nothing = ([], refl, λ more i p. p)

stands_fed : (held : Held) (rest piece : List ℕ) → StandsFor held rest → StandsFor (fed held piece) (rest ++ piece)
stands_fed held rest piece s = by_over (is_over held.part) refl where
  behind : (more : List ℕ) (i : Item) → IsItemFrom held.part ((held.behind ++ piece) ++ more) i → IsItem ((rest ++ piece) ++ more) i
  behind more i p =
      subst (λ (l : List ℕ). IsItem l i) (sym (append_assoc rest piece more))
      (s (piece ++ more) i (subst (λ (l : List ℕ). IsItemFrom held.part l i) (append_assoc held.behind piece more) p))

  any_bytes : (part : Part) (x y : List ℕ) (i : Item) → is_over part ≡ true → IsItemFrom part x i → IsItemFrom part y i
  any_bytes begun x y i e p = cc e
  any_bytes (counted q n) x y i e p = cc e
  any_bytes (line q) x y i e p = cc e
  any_bytes (chunk q size) x y i e p = cc e
  any_bytes (trailer q) x y i e p = cc e
  any_bytes (over status) x y i e p = p

  by_over : (t : Bool) → is_over held.part ≡ t → StandsFor (if t then held else record { part = held.part; behind = held.behind ++ piece }) (rest ++ piece)
  by_over true e more i p = behind more i (any_bytes held.part (held.behind ++ more) ((held.behind ++ piece) ++ more) i e p)
  by_over false e more i p = behind more i p

pub reads_piece : (held : Held) (bytes : List ℕ) (requests : List Request) (piece : List ℕ) → HasRead held bytes requests → HasRead (fed held piece) (bytes ++ piece) requests
reads_piece held bytes requests piece r = (r.0 ++ piece, begins_fed bytes piece requests r.0 r.1, stands_fed held r.0 piece r.2)

pub stays_read : (old new : Held) (bytes : List ℕ) (requests : List Request) → HasRead old bytes requests → GoesOn old new → HasRead new bytes requests
stays_read old new bytes requests r goes = (r.0, r.1, λ more i p. r.2 more i (goes more i p))

-- the item that the reader finds is that of the bytes that it stands for
item_now : (held : Held) (rest : List ℕ) (i : Item) → StandsFor held rest → IsItemFrom held.part held.behind i → IsItem rest i
item_now held rest i s p = now_from begun held.part rest held.behind s i p

stands_over : (rest : List ℕ) (status : ℕ) → IsItem rest (refused status) → StandsFor (record { part = over status; behind = [] }) rest
stands_over rest status it more i e = subst (λ (j : Item). IsItem (rest ++ more) j) (sym e) (item_stays rest more (refused status) (λ is. cc is) it)

pub tells_next : (old new : Held) (next : Next) (bytes : List ℕ) (requests : List Request) → HasRead old bytes requests → Answers old new next → AnswerTells bytes requests new next
tells_next old new (Asked q) bytes requests r a = (
  new.behind,
  begins_asked bytes requests r.0 q new.behind r.1 (item_now old r.0 (whole q new.behind) r.2 a.0),
  λ more i p. subst (λ (part : Part). IsItemFrom part (new.behind ++ more) i) a.1 p,
)
tells_next old new More bytes requests r a =
    ((r.0, r.1, item_now old r.0 neither r.2 a.0), stays_read old new bytes requests r a.1)
tells_next old new (Bad status) bytes requests r a =
    let it = item_now old r.0 (refused status) r.2 a.0 in
    ((r.0, r.1, it), (r.0, r.1, subst (λ (held : Held). StandsFor held r.0) (sym a.1) (stands_over r.0 status it)))

pub leaves_rest : (old new : Held) (q : Request) (bytes : List ℕ) (requests : List Request) → HasRead old bytes requests → Answers old new (Asked q) → HasLeft new bytes (requests ++ q ∷ [])
leaves_rest old new q bytes requests r a = (begins_asked bytes requests r.0 q new.behind r.1 (item_now old r.0 (whole q new.behind) r.2 a.0), a.1)

pub rest_grows : (held : Held) (bytes : List ℕ) (requests : List Request) (piece : List ℕ) → HasLeft held bytes requests → HasLeft (fed held piece) (bytes ++ piece) requests
rest_grows held bytes requests piece l =
    subst (λ (t : Bool). HasLeft (if t then held else record { part = held.part; behind = held.behind ++ piece }) (bytes ++ piece) requests) (sym (ap is_over l.1))
    (begins_fed bytes piece requests held.behind l.0, l.1)
