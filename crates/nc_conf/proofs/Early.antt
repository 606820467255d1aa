-- A fault before the place up to which a text was read is the text's first, whatever follows.
use Rattle.std.proofs.Common.{◌≡◌, ℕ, zero, suc, ◌+◌, ◌<◌, ◌≤◌, ◌⊎◌, Bool, true, false, List, [], ◌∷◌, ◌++◌, length, Option, Some, None, refl, sym, ◌∙◌, subst, ap, append_assoc, inl, inr, arith}
use Rattle.std.specs.Prelude.{not, ◌&&◌, ◌||◌, if◌then◌else◌, slice_get, codes, bytes_eq}
use Rattle.std.specs.List.{AllByRecursion, list_any, flat_map}
use Rattle.std.specs.Option.{option_and_then}
use Rattle.std.proofs.lemmas.Bool.Decides.{nat_tests}
use Rattle.std.proofs.lemmas.List.Folds.{list_any-append}
use Rattle.nc_conf_lex.specs.Reading.{OneComes}
use Rattle.nc_conf.specs.declared.fault.Fault.{Fault}
use Rattle.nc_conf.specs.declared.table.Block.{Block}
use Rattle.nc_conf.specs.declared.table.Row.{Row}
use Rattle.nc_conf.specs.declared.table.Shape.{Shape}
use Rattle.nc_conf.specs.declared.syntax.Word.{Word}
use Rattle.nc_conf.specs.declared.syntax.Directive.{Directive}
use Rattle.nc_conf.specs.declared.syntax.Close.{Close}
use Rattle.nc_conf.specs.declared.syntax.Begun.{Begun}
use Rattle.nc_conf.specs.Table.{row_of}
use Rattle.nc_conf.specs.Faults.{fault, fault_if, opened_by, kind_of, same_block, is_named, may_stand, misplaced, repeated, miscounted, too_many, breaks, rule_of, bad_args, path_of, is_path, again_at, again, is_same_location, faults_by, directive_faults, each_directive, has_line, has_role, is_location, nameless, unended, is_like, are_enough}
use Rattle.nc_conf.specs.First.{is_before, IsIn, IsNotBefore, IsFirstFault}
use Rattle.nc_conf.specs.Reader.{SyntaxAt, words_of, all_faults}
use Rattle.nc_conf.specs.Reading.{HasFirst}
use Rattle.nc_conf.proofs.SoFar.{ReadSoFar}
use Rattle.nc_conf.proofs.Texts.{has_first}
use Rattle.nc_conf.proofs.Tidy.{all_append, NotIn, IsBelow, IsWithin, IsShut, Tidy}
use Rattle.nc_conf.proofs.Grown.{AreBehind, IsLater, IsClosedLater, IsPlaceBehind, IsNotOf, Grown, Finished, finish}

-- ---- faults of what stands behind a place

abbrev Behind : ℕ → List Fault → Type 0
Behind p fs = AllByRecursion (λ (f : Fault). p ≤ f.at) fs

behind_both : (p : ℕ) (xs ys : List Fault) → Behind p xs → Behind p ys → Behind p (xs ++ ys)
behind_both p xs ys h k = all_append (λ (f : Fault). p ≤ f.at) xs ys h k

if_behind : (p : ℕ) (broken : Bool) (rule at : ℕ) → p ≤ at → Behind p (fault_if broken rule at)
if_behind p true rule at h = (h, tt)
if_behind p false rule at h = tt

many_behind : (p : ℕ) (args : List Word) (i : ℕ) → AreBehind p args → Behind p (too_many (slice_get args i))
many_behind p [] i h = tt
many_behind p (w ∷ args) zero h = (h.0, tt)
many_behind p (w ∷ args) (suc i) h = many_behind p args i h.1

args_behind : (p : ℕ) (shape : Shape) (before args : List Word) → AreBehind p args → Behind p (bad_args shape before args)
args_behind p shape before [] h = tt
args_behind p shape before (w ∷ later) h = behind_both p (fault_if (breaks shape before w.text later) (rule_of shape) w.at) (bad_args shape (before ++ w ∷ []) later) (if_behind p (breaks shape before w.text later) (rule_of shape) w.at h.0) (args_behind p shape (before ++ w ∷ []) later h.1)

path_behind : (p : ℕ) (before : List Directive) (d : Directive) (args : List Word) → AreBehind p args → Behind p (again_at before d (path_of args))
path_behind p before d [] h = tt
path_behind p before d (w ∷ []) h = if_behind p (list_any (is_same_location d w.text) before) 13 w.at h.0
path_behind p before d (w ∷ v ∷ ws) h = if_behind p (list_any (is_same_location d v.text) before) 13 v.at h.1.0

again_behind : (p : ℕ) (before : List Directive) (shape : Shape) (d : Directive) → AreBehind p d.args → Behind p (again before shape d)
again_behind p before shape d h = by_path (is_path shape)
  where
    by_path : (b : Bool) → Behind p (if b then again_at before d (path_of d.args) else [])
    by_path true = path_behind p before d d.args h
    by_path false = tt

row_behind : (p : ℕ) (ds before : List Directive) (d : Directive) (row : Option Row) → IsLater p d → Behind p (faults_by ds before d row)
row_behind p ds before d None h = (h.name, tt)
row_behind p ds before d (Some r) h =
    behind_both p (misplaced ds r d ++ repeated before r d ++ miscounted r d ++ bad_args r.shape [] d.args) (again before r.shape d)
    (behind_both p (misplaced ds r d ++ repeated before r d ++ miscounted r d) (bad_args r.shape [] d.args)
    (behind_both p (misplaced ds r d ++ repeated before r d) (miscounted r d)
    (behind_both p (misplaced ds r d) (repeated before r d) (if_behind p _ 4 d.name.at h.name) (if_behind p _ 5 d.name.at h.name))
    (behind_both p (too_many (slice_get d.args r.most)) _ (many_behind p d.args r.most h.args) (if_behind p _ 6 d.end h.end)))
    (args_behind p r.shape [] d.args h.args))
    (again_behind p before r.shape d h.args)

each_behind : (p : ℕ) (all before later : List Directive) → AllByRecursion (IsLater p) later → Behind p (each_directive all before later)
each_behind p all before [] h = tt
each_behind p all before (d ∷ later) h = behind_both p (directive_faults all before d) (each_directive all (before ++ d ∷ []) later) (row_behind p all before d (row_of d.name.text) h.0) (each_behind p all (before ++ d ∷ []) later h.1)

closes_behind : (p : ℕ) (ds : List Directive) (cs : List Close) → AllByRecursion (IsClosedLater p) cs → Behind p (flat_map (nameless ds) cs)
closes_behind p ds [] h = tt
closes_behind p ds (c ∷ cs) h = behind_both p (nameless ds c) (flat_map (nameless ds) cs) (if_behind p _ 14 c.at h.0) (closes_behind p ds cs h.1)

unended_behind : (p len : ℕ) (bs : List ℕ) (words : List Word) (broken bad : Option ℕ) → p ≤ len → IsPlaceBehind p broken → IsPlaceBehind p bad → Behind p (unended len bs words broken bad)
unended_behind p len bs words (Some q) bad e h k = (h, tt)
unended_behind p len bs words None (Some q) e h k = (k, tt)
unended_behind p len [] [] None None e h k = tt
unended_behind p len [] (w ∷ words) None None e h k = (e, tt)
unended_behind p len (b ∷ bs) [] None None e h k = (e, tt)
unended_behind p len (b ∷ bs) (w ∷ words) None None e h k = (e, tt)

-- ---- what was read keeps its faults

nil_behind : {X : Type 0} (xs : List X) → xs ++ [] ≡ xs
nil_behind [] = refl
nil_behind (x ∷ xs) = ap (λ l. x ∷ l) (nil_behind xs)

each_append : (all before xs ys : List Directive) → each_directive all before (xs ++ ys) ≡ each_directive all before xs ++ each_directive all (before ++ xs) ys
each_append all before [] ys = ap (λ (l : List Directive). each_directive all l ys) (sym (nil_behind before))
each_append all before (d ∷ xs) ys =
    ap (λ (l : List Fault). directive_faults all before d ++ l) (each_append all (before ++ d ∷ []) xs ys)
    ∙ ap (λ (l : List Directive). directive_faults all before d ++ (each_directive all (before ++ d ∷ []) xs ++ each_directive all l ys)) (append_assoc before (d ∷ []) xs)
    ∙ sym (append_assoc (directive_faults all before d) (each_directive all (before ++ d ∷ []) xs) (each_directive all (before ++ (d ∷ xs)) ys))

get_front : (ds more : List Directive) (i : ℕ) → i < length ds → slice_get (ds ++ more) i ≡ slice_get ds i
get_front [] more i h = absurd (omega (arith, h))
get_front (d ∷ ds) more zero h = refl
get_front (d ∷ ds) more (suc i) h = get_front ds more i (omega (arith, h))

kind_stays : (ds more : List Directive) (w : Option ℕ) → IsBelow (length ds) w → kind_of (ds ++ more) w ≡ kind_of ds w
kind_stays ds more None h = refl
kind_stays ds more (Some i) h = ap (option_and_then opened_by) (get_front ds more i h)

row_stays : (ds more before : List Directive) (d : Directive) (row : Option Row) → IsWithin (length ds) d → faults_by (ds ++ more) before d row ≡ faults_by ds before d row
row_stays ds more before d None h = refl
row_stays ds more before d (Some r) h = ap (λ (kind : Option Block). fault_if (not (may_stand r kind)) 4 d.name.at ++ repeated before r d ++ miscounted r d ++ bad_args r.shape [] d.args ++ again before r.shape d) (kind_stays ds more d.within h)

each_stays : (ds more before xs : List Directive) → AllByRecursion (IsWithin (length ds)) xs → each_directive (ds ++ more) before xs ≡ each_directive ds before xs
each_stays ds more before [] h = refl
each_stays ds more before (d ∷ xs) h =
    ap (λ (l : List Fault). l ++ each_directive (ds ++ more) (before ++ d ∷ []) xs) (row_stays ds more before d (row_of d.name.text) h.0)
    ∙ ap (λ (l : List Fault). directive_faults ds before d ++ l) (each_stays ds more (before ++ d ∷ []) xs h.1)

none_named : (b : ℕ) (name : List ℕ) (more : List Directive) → AllByRecursion (IsNotOf b) more → list_any (is_named (Some b) name) more ≡ false
none_named b name [] h = refl
none_named b name (d ∷ more) h =
    ap (λ (v : Bool). (v && bytes_eq d.name.text name) || list_any (is_named (Some b) name) more) h.0 ∙ none_named b name more h.1

or_none : (v w : Bool) → w ≡ false → (v || w) ≡ v
or_none true w h = refl
or_none false w h = h

line_stays : (ds more : List Directive) (b : ℕ) (name : List ℕ) → AllByRecursion (IsNotOf b) more → has_line (ds ++ more) b name ≡ has_line ds b name
line_stays ds more b name h =
    list_any-append (is_named (Some b) name) ds more ∙ or_none (list_any (is_named (Some b) name) ds) (list_any (is_named (Some b) name) more) (none_named b name more h)

abbrev nameless_by : Option Directive → Bool → Bool → Bool → Bool → ℕ → List Fault
nameless_by place publisher subscriber pubsub id at = fault_if (is_location place && (publisher || subscriber || pubsub) && not id) 14 at

close_stays : (ds more : List Directive) (c : Close) → c.of < length ds → AllByRecursion (IsNotOf c.of) more → nameless (ds ++ more) c ≡ nameless ds c
close_stays ds more c low h =
    let line = λ (name : List ℕ). line_stays ds more c.of name h in
    let all = ds ++ more in
    let a = codes "nchan_publisher" in
    let b = codes "nchan_subscriber" in
    let p = codes "nchan_pubsub" in
    let i = codes "nchan_channel_id" in
    ap (λ (o : Option Directive). nameless_by o (has_line all c.of a) (has_line all c.of b) (has_line all c.of p) (has_line all c.of i) c.at) (get_front ds more c.of low)
    ∙ ap (λ (v : Bool). nameless_by (slice_get ds c.of) v (has_line all c.of b) (has_line all c.of p) (has_line all c.of i) c.at) (line a)
    ∙ ap (λ (v : Bool). nameless_by (slice_get ds c.of) (has_line ds c.of a) v (has_line all c.of p) (has_line all c.of i) c.at) (line b)
    ∙ ap (λ (v : Bool). nameless_by (slice_get ds c.of) (has_line ds c.of a) (has_line ds c.of b) v (has_line all c.of i) c.at) (line p)
    ∙ ap (λ (v : Bool). nameless_by (slice_get ds c.of) (has_line ds c.of a) (has_line ds c.of b) (has_line ds c.of p) v c.at) (line i)

closes_stay : (ds more : List Directive) (bs : List ℕ) (cs : List Close) → AllByRecursion (IsShut (length ds) bs) cs → ((b : ℕ) → b < length ds → NotIn b bs → AllByRecursion (IsNotOf b) more) → flat_map (nameless (ds ++ more)) cs ≡ flat_map (nameless ds) cs
closes_stay ds more bs [] h quiet = refl
closes_stay ds more bs (c ∷ cs) h quiet =
    ap (λ (l : List Fault). l ++ flat_map (nameless (ds ++ more)) cs) (close_stays ds more c h.0.0 (quiet c.of h.0.0 h.0.1))
    ∙ ap (λ (l : List Fault). nameless ds c ++ l) (closes_stay ds more bs cs h.1 quiet)

flat_append : (f : Close → List Fault) (xs ys : List Close) → flat_map f (xs ++ ys) ≡ flat_map f xs ++ flat_map f ys
flat_append f [] ys = refl
flat_append f (x ∷ xs) ys = ap (λ (l : List Fault). f x ++ l) (flat_append f xs ys) ∙ sym (append_assoc (f x) (flat_map f xs) (flat_map f ys))

-- ---- the first fault

in_left : (f : Fault) (xs ys : List Fault) → IsIn xs f → IsIn (xs ++ ys) f
in_left f [] ys h = absurd h
in_left f (x ∷ xs) ys (inl e) = inl e
in_left f (x ∷ xs) ys (inr h) = inr (in_left f xs ys h)

in_right : (f : Fault) (xs ys : List Fault) → IsIn ys f → IsIn (xs ++ ys) f
in_right f [] ys h = h
in_right f (x ∷ xs) ys h = inr (in_right f xs ys h)

in_either : (f : Fault) (xs ys : List Fault) → IsIn (xs ++ ys) f → IsIn xs f ⊎ IsIn ys f
in_either f [] ys h = inr h
in_either f (x ∷ xs) ys (inl e) = inl (inl e)
in_either f (x ∷ xs) ys (inr h) = elim (in_either f xs ys h) [ inl i ↦ inl (inr i) | inr i ↦ inr i ]

not_behind : (p : ℕ) (f : Fault) (xs : List Fault) → f.at < p → Behind p xs → IsIn xs f → ⊥
not_behind p f [] low h i = i
not_behind p f (x ∷ xs) low h (inl e) = let at : x.at ≡ f.at = ap (λ (g : Fault). g.at) e in omega (arith, low, h.0, at)
not_behind p f (x ∷ xs) low h (inr i) = not_behind p f xs low h.1 i

later_one : (p : ℕ) (f g : Fault) → f.at < p → p ≤ g.at → is_before g f ≡ false
later_one p f g low h = grind (arith, nat_tests)

later_ones : (p : ℕ) (f : Fault) (xs : List Fault) → f.at < p → Behind p xs → AllByRecursion (IsNotBefore f) xs
later_ones p f [] low h = tt
later_ones p f (x ∷ xs) low h = (later_one p f x low h.0, later_ones p f xs low h.1)

all_front : (P : Fault → Type 0) (xs ys : List Fault) → AllByRecursion P (xs ++ ys) → AllByRecursion P xs
all_front P [] ys h = tt
all_front P (x ∷ xs) ys h = (h.0, all_front P xs ys h.1)

all_back : (P : Fault → Type 0) (xs ys : List Fault) → AllByRecursion P (xs ++ ys) → AllByRecursion P ys
all_back P [] ys h = h
all_back P (x ∷ xs) ys h = all_back P xs ys h.1

-- faults of what stands behind a place change nothing before it
first_stays : (p : ℕ) (f : Fault) (es cs us xs ys vs : List Fault) → f.at < p → IsFirstFault (es ++ cs ++ us) (Some f) → Behind p us → Behind p xs → Behind p ys → Behind p vs → IsFirstFault ((es ++ xs) ++ (cs ++ ys) ++ vs) (Some f)
first_stays p f es cs us xs ys vs low h bu bx by bv =
    let P = IsNotBefore f in
    let front = all_front P (es ++ cs) us h.1 in (
      member (in_either f (es ++ cs) us h.0),
      all_append P ((es ++ xs) ++ (cs ++ ys)) vs
          (all_append P (es ++ xs) (cs ++ ys)
          (all_append P es xs (all_front P es cs front) (later_ones p f xs low bx))
          (all_append P cs ys (all_back P es cs front) (later_ones p f ys low by)))
          (later_ones p f vs low bv),
    )
  where
    early : IsIn es f ⊎ IsIn cs f → IsIn ((es ++ xs) ++ (cs ++ ys) ++ vs) f
    early (inl i) = in_left f ((es ++ xs) ++ (cs ++ ys)) vs (in_left f (es ++ xs) (cs ++ ys) (in_left f es xs i))
    early (inr i) = in_left f ((es ++ xs) ++ (cs ++ ys)) vs (in_right f (es ++ xs) (cs ++ ys) (in_left f cs ys i))

    member : IsIn (es ++ cs) f ⊎ IsIn us f → IsIn ((es ++ xs) ++ (cs ++ ys) ++ vs) f
    member (inl i) = early (in_either f es cs i)
    member (inr i) = absurd (not_behind p f us low bu i)

-- the faults of a text are those of what was read and others behind its place
whole : (len p : ℕ) (s t : SyntaxAt) (bad : Option ℕ) (f : Fault) → Tidy s → (h : Grown p s t) → IsPlaceBehind p bad → p ≤ len → f.at < p → Behind p (unended len s.blocks (words_of s.begun) s.broken None) → IsFirstFault (all_faults len s None) (Some f) → IsFirstFault (all_faults len t bad) (Some f)
whole len p s t bad f clean h place within low bu first =
    let all = s.directives ++ h.ds in
    let e : each_directive t.directives [] t.directives ≡ each_directive s.directives [] s.directives ++ each_directive all s.directives h.ds =
    ap (λ (ds : List Directive). each_directive ds [] ds) h.directives
    ∙ each_append all [] s.directives h.ds
    ∙ ap (λ (l : List Fault). l ++ each_directive all s.directives h.ds) (each_stays s.directives h.ds [] s.directives clean.within) in
    let c : flat_map (nameless t.directives) t.closes ≡ flat_map (nameless s.directives) s.closes ++ flat_map (nameless all) h.cs =
    ap (λ (ds : List Directive). flat_map (nameless ds) t.closes) h.directives
    ∙ ap (λ (cs : List Close). flat_map (nameless all) cs) h.closes
    ∙ flat_append (nameless all) s.closes h.cs
    ∙ ap (λ (l : List Fault). l ++ flat_map (nameless all) h.cs) (closes_stay s.directives h.ds s.blocks s.closes clean.shut h.quiet) in
    let last = unended len t.blocks (words_of t.begun) t.broken bad in
    let so = first_stays p f (each_directive s.directives [] s.directives) (flat_map (nameless s.directives) s.closes) (unended len s.blocks (words_of s.begun) s.broken None)
    (each_directive all s.directives h.ds) (flat_map (nameless all) h.cs) last low first bu
    (each_behind p all s.directives h.ds h.later) (closes_behind p all h.cs h.shut) (unended_behind p len t.blocks (words_of t.begun) t.broken bad within h.broken place) in
    subst (λ (l : List Fault). IsFirstFault (l ++ flat_map (nameless t.directives) t.closes ++ last) (Some f)) (sym e)
    (subst (λ (l : List Fault). IsFirstFault ((each_directive s.directives [] s.directives ++ each_directive all s.directives h.ds) ++ l ++ last) (Some f)) (sym c) so)

pub early : OneComes → (text : List ℕ) (p : ℕ) (s : SyntaxAt) (f : Fault) → ReadSoFar text p s → Tidy s → s.begun ≡ None → s.broken ≡ None → p ≤ length text → f.at < p → IsFirstFault (all_faults (length text) s None) (Some f) → HasFirst text (Some f)
early one text p s f read clean begun broken within low first =
    let rest = finish one text p s begun broken read in
    let unclosed : Behind p (unended (length text) s.blocks (words_of s.begun) s.broken None) = unended_behind p (length text) s.blocks (words_of s.begun) s.broken None within (subst (λ (o : Option ℕ). IsPlaceBehind p o) (sym broken) tt) tt in
    has_first text rest.t rest.bad (Some f) rest.reading (whole (length text) p s rest.t rest.bad f clean rest.grown rest.place within low unclosed first)
