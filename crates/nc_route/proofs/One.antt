-- A request has one decision.
use Rattle.std.proofs.Common.{◌≡◌, ℕ, ◌<◌, ◌≤◌, Bool, true, false, List, [], ◌∷◌, ◌++◌, length, Option, Some, None, refl, sym, ◌∙◌, ap, subst, inl, inr, arith, replicate, negsuc}
use Rattle.std.specs.Prelude.{cond, nat_lt, ◌&&◌, fold}
use Rattle.std.specs.List.{AllByRecursion, find}
use Rattle.std.specs.Option.{option_or}
use Rattle.nc_types.specs.Settings.{SettingsAt}
use Rattle.nc_types.specs.Config.{ConfigAt}
use Rattle.nc_types.specs.declared.config.Location.{Location}
use Rattle.nc_types.specs.declared.request.Request.{Request}
use Rattle.nc_types.specs.declared.request.Field.{Field}
use Rattle.nc_types.specs.declared.start.Start.{Start}
use Rattle.nc_types.specs.declared.start.Start.TheVariants as starts
use Rattle.nc_ident.specs.Date.{SpellsOneSecond}
use Rattle.nc_ident.proofs.Pieces.{one_list, one_cursor}
use Rattle.nc_accept.specs.declared.opening.Opening.{Opening}
use Rattle.nc_accept.specs.Opening.{IsOpening}
use Rattle.nc_route.specs.declared.decision.Decision.{Decision}
use Rattle.nc_route.specs.declared.decision.Decision.TheVariants as decisions
use Rattle.nc_route.specs.declared.reason.Reason.{Reason}
use Rattle.nc_route.specs.declared.kind.Kind.{Kind}
use Rattle.nc_route.specs.declared.kind.Kind.TheVariants as kinds
use Rattle.nc_route.specs.Place.{is_exactly, is_front, NoneOf, IsLongest, IsLocationOf}
use Rattle.nc_route.specs.Begin.{Given, IsGivenStart, start_at, given, asks_socket}
use Rattle.nc_route.specs.Begin.Given.{Nothing, Date, DateAndTags, Id}
use Rattle.nc_route.specs.Rules.{content_type, Decides, DecidesBy, all_rules, IsAction, IsActionOf, IsSubscription, kind_of, names_of}
use Rattle.nc_route.specs.Steps.{longer, longest, location_of}

-- ---- one location

none_found : (test : Location → Bool) (ls : List Location) → NoneOf test ls → find test ls ≡ None
none_found test [] none = refl
none_found test (l ∷ ls) none = ap (λ b. cond b (Some l) (find test ls)) none.0 ∙ none_found test ls none.1

first_found : (test : Location → Bool) (earlier : List Location) (l : Location) (later : List Location) → NoneOf test earlier → test l ≡ true → find test (earlier ++ l ∷ later) ≡ Some l
first_found test [] l later none passes = ap (λ b. cond b (Some l) (find test later)) passes
first_found test (x ∷ earlier) l later none passes = ap (λ b. cond b (Some x) (find test (earlier ++ l ∷ later))) none.0 ∙ first_found test earlier l later none.1 passes

none_longest : (path : List ℕ) (ls : List Location) → NoneOf (is_front path) ls → longest path ls ≡ None
none_longest path [] none = refl
none_longest path (l ∷ ls) none = ap (λ b. fold (longer path) (cond b (Some l) None) ls) none.0 ∙ none_longest path ls none.1

-- the best one so far, if there is one, is shorter than another
abbrev IsShort : Location → Option Location → Type 0
IsShort l None = Unit {0}
IsShort l (Some best) = length best.path < length l.path

shorter_kept : (path : List ℕ) (l x : Location) (best : Option Location) → IsShort l best → (is_front path x ≡ true → length x.path < length l.path) → IsShort l (longer path best x)
shorter_kept path l x None short h =
    (elim (is_front path x) as (λ b. is_front path x ≡ b → IsShort l (cond b (Some x) None)) [
      | true ↦ λ e. h e
      | false ↦ λ e. tt
    ]) refl
shorter_kept path l x (Some best) short h =
    (elim (is_front path x) as (λ b. is_front path x ≡ b → IsShort l (cond (b && nat_lt (length best.path) (length x.path)) (Some x) (Some best))) [
      | true ↦ λ e. elim (nat_lt (length best.path) (length x.path)) as (λ b. IsShort l (cond b (Some x) (Some best))) [
        | true ↦ h e
        | false ↦ short
      ]
      | false ↦ λ e. short
    ]) refl

all_shorter : (path : List ℕ) (l : Location) (ls : List Location) (best : Option Location) → IsShort l best → AllByRecursion (λ other. is_front path other ≡ true → length other.path < length l.path) ls → IsShort l (fold (longer path) best ls)
all_shorter path l [] best short h = short
all_shorter path l (x ∷ ls) best short h = all_shorter path l ls (longer path best x) (shorter_kept path l x best short h.0) h.1

true_of : (a b : ℕ) → a < b → nat_lt a b ≡ true
true_of a b lt = grind (arith, lt)

false_of : (a b : ℕ) → b ≤ a → nat_lt a b ≡ false
false_of a b le = grind (arith, le)

taken : (path : List ℕ) (l : Location) (best : Option Location) → IsShort l best → is_front path l ≡ true → longer path best l ≡ Some l
taken path l None short begins = ap (λ b. cond b (Some l) None) begins
taken path l (Some best) short begins =
    ap (λ b. cond (b && nat_lt (length best.path) (length l.path)) (Some l) (Some best)) begins
    ∙ ap (λ b. cond b (Some l) (Some best)) (true_of (length best.path) (length l.path) short)

stays : (path : List ℕ) (l x : Location) → (is_front path x ≡ true → length x.path ≤ length l.path) → longer path (Some l) x ≡ Some l
stays path l x h =
    (elim (is_front path x) as (λ b. is_front path x ≡ b → cond (b && nat_lt (length l.path) (length x.path)) (Some x) (Some l) ≡ Some l) [
      | true ↦ λ e. ap (λ b. cond b (Some x) (Some l)) (false_of (length l.path) (length x.path) (h e))
      | false ↦ λ e. refl
    ]) refl

all_stay : (path : List ℕ) (l : Location) (ls : List Location) → AllByRecursion (λ other. is_front path other ≡ true → length other.path ≤ length l.path) ls → fold (longer path) (Some l) ls ≡ Some l
all_stay path l [] h = refl
all_stay path l (x ∷ ls) h = ap (λ o. fold (longer path) o ls) (stays path l x h.0) ∙ all_stay path l ls h.1

fold_both : (path : List ℕ) (xs ys : List Location) (best : Option Location) → fold (longer path) best (xs ++ ys) ≡ fold (longer path) (fold (longer path) best xs) ys
fold_both path [] ys best = refl
fold_both path (x ∷ xs) ys best = fold_both path xs ys (longer path best x)

longest_found : (path : List ℕ) (ls : List Location) (l : Location) → IsLongest path ls l → longest path ls ≡ Some l
longest_found path ls l h =
    let before = fold (longer path) None h.earlier in
    ap (longest path) h.place
    ∙ fold_both path h.earlier (l ∷ h.later) None
    ∙ ap (λ o. fold (longer path) o h.later) (taken path l before (all_shorter path l h.earlier None tt h.shorter) h.begins)
    ∙ all_stay path l h.later h.no_longer

the_location : (path : List ℕ) (ls : List Location) (o : Option Location) → IsLocationOf path ls o → location_of path ls ≡ o
the_location path ls (Some l) (inl h) =
    ap (λ (all : List Location). option_or (find (is_exactly path) all) (longest path ls)) h.place
    ∙ ap (λ o. option_or o (longest path ls)) (first_found (is_exactly path) h.earlier l h.later h.none h.passes)
the_location path ls (Some l) (inr h) =
    ap (λ o. option_or o (longest path ls)) (none_found (is_exactly path) ls h.0) ∙ longest_found path ls l h.1
the_location path ls None h =
    ap (λ o. option_or o (longest path ls)) (none_found (is_exactly path) ls h.0) ∙ none_longest path ls h.1

-- ---- one start, and one opening

one_start : SpellsOneSecond → (settings : SettingsAt) (n : ℕ) (g : Given) (a b : Start) → IsGivenStart settings n g a → IsGivenStart settings n g b → a ≡ b
one_start second settings n Nothing a b x y = x ∙ sym y
one_start second settings n (Date date) a b x y = x.2 ∙ ap (λ t. start_at t (replicate n (negsuc 0))) (second date x.0 y.0 x.1 y.1) ∙ sym y.2
one_start second settings n (DateAndTags date text) a b x y =
    x.5 ∙ ap (λ t. start_at t x.2) (second date x.0 y.0 x.1 y.1) ∙ ap (start_at y.0) (one_list text x.2 y.2 x.3 y.3) ∙ sym y.5
one_start second settings n (Id text) a b x y = x.3 ∙ ap (λ c. starts.Given c) (one_cursor text x.0 y.0 x.1 y.1) ∙ sym y.3

same_key : (a b : List ℕ) → Some a ≡ Some b → a ≡ b
same_key a b e = cc

abbrev made : List ℕ → Bool → Opening
made key meta = record { key = key; meta = meta }

one_opening : (fields : List Field) (a b : Opening) → IsOpening fields a → IsOpening fields b → a ≡ b
one_opening fields a b x y = ap (λ k. made k a.meta) (same_key a.key b.key (sym x.key ∙ y.key)) ∙ ap (made b.key) (x.meta ∙ sym y.meta)

-- ---- one action

same_name : (a b : List ℕ) → a ∷ [] ≡ b ∷ [] → a ≡ b
same_name a b e = cc

one_chan : (names : List (List ℕ)) (action : List ℕ → Decision) (a b : Decision) → (chan : List ℕ) × (names ≡ chan ∷ []) × (a ≡ action chan) → (chan : List ℕ) × (names ≡ chan ∷ []) × (b ≡ action chan) → a ≡ b
one_chan names action a b x y = x.2 ∙ ap action (same_name x.0 y.0 (sym x.1 ∙ y.1)) ∙ sym y.2

one_subscription : SpellsOneSecond → (way : Bool) (l : Location) (q : Request) (a b : Decision) → IsSubscription way l q a → IsSubscription way l q b → a ≡ b
one_subscription second true l q a b x y =
    x.4 ∙ ap (λ s. decisions.Socket (names_of l q) s l.settings x.2) (one_start second l.settings (length (names_of l q)) (given q) x.0 y.0 x.1 y.1)
    ∙ ap (λ o. decisions.Socket (names_of l q) y.0 l.settings o) (one_opening q.fields x.2 y.2 x.3 y.3) ∙ sym y.4
one_subscription second false l q a b x y =
    x.2 ∙ ap (λ s. decisions.LongPoll (names_of l q) s l.settings) (one_start second l.settings (length (names_of l q)) (given q) x.0 y.0 x.1 y.1) ∙ sym y.2

one_action_of : SpellsOneSecond → (kind : Option Kind) (l : Location) (q : Request) (a b : Decision) → IsActionOf kind l q a → IsActionOf kind l q b → a ≡ b
one_action_of second (Some kinds.Publish) l q a b x y = one_chan (names_of l q) (λ chan. decisions.Publish chan l.settings (content_type q) q.body) a b x y
one_action_of second (Some kinds.Inform) l q a b x y = one_chan (names_of l q) decisions.Inform a b x y
one_action_of second (Some kinds.Delete) l q a b x y = one_chan (names_of l q) decisions.Delete a b x y
one_action_of second (Some kinds.Subscribe) l q a b x y = one_subscription second (asks_socket q) l q a b x y
one_action_of second None l q a b x y = absurd x

one_action : SpellsOneSecond → (o : Option Location) (q : Request) (a b : Decision) → IsAction o q a → IsAction o q b → a ≡ b
one_action second None q a b x y = absurd x
one_action second (Some l) q a b x y = one_action_of second (kind_of l q.method) l q a b x y

one_by : SpellsOneSecond → (rs : List Reason) (o : Option Location) (q : Request) (a b : Decision) → DecidesBy rs o q a → DecidesBy rs o q b → a ≡ b
one_by second [] o q a b x y = one_action second o q a b x y
one_by second (r ∷ rs) o q a b (inl x) (inl y) = x.1 ∙ sym y.1
one_by second (r ∷ rs) o q a b (inl x) (inr y) = absurd (y.0 x.0)
one_by second (r ∷ rs) o q a b (inr x) (inl y) = absurd (x.0 y.0)
one_by second (r ∷ rs) o q a b (inr x) (inr y) = one_by second rs o q a b x.1 y.1

pub one_decision : SpellsOneSecond → (conf : ConfigAt) (q : Request) (a b : Decision) → Decides conf q a → Decides conf q b → a ≡ b
one_decision second conf q a b x y =
    let same : x.location ≡ y.location = sym (the_location q.path conf.locations x.location x.is_location) ∙ the_location q.path conf.locations y.location y.is_location in
    one_by second all_rules y.location q a b (subst (λ (o : Option Location). DecidesBy all_rules o q a) same x.decided) y.decided
