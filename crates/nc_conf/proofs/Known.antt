-- What is known of directives, and of one directive more.
use Rattle.std.proofs.Common.{Bor, ◌≡◌, ℕ, ◌+◌, ◌<◌, ◌^◌, Bool, true, false, List, [], ◌∷◌, ◌++◌, length, Option, Some, None, refl, sym, ◌∙◌, ap, arith}
use Rattle.std.specs.Prelude.{codes, if◌then◌else◌, ◌&&◌, ◌||◌, find, count_by, is_some, IfSome, bytes_eq}
use Rattle.std.specs.List.{AllByRecursion, list_any}
use Rattle.std.specs.declared.cmp.Ordering.{Ordering}
use Rattle.std.specs.declared.cmp.Ordering.TheVariants.{Less, Equal, Greater}
use Rattle.std.specs.Ordering.{is_eq, nat_cmp, ordering_then}
use Rattle.std.specs.Option.{option_cmp, option_or, option_copied}
use Rattle.std.specs.Cmp.{unsigned_ties}
use Rattle.std.specs.Cmp.Lexicographic.{slice_cmp, texts_ties}
use Rattle.std.specs.BTreeMap as tree
use Rattle.std.specs.BTreeMap.{BTreeMap}
use Rattle.std.specs.BTreeSet as trees
use Rattle.std.specs.BTreeSet.{BTreeSet}
use Rattle.std.proofs.lemmas.Bool.Decides.{nat_tests}
use Rattle.std.proofs.lemmas.List.Folds.{find-append, list_any-append}
use Rattle.std.proofs.lemmas.List.Sums.{count_by-le-length, sum_by-append}
use Rattle.nc_conf.specs.declared.syntax.Word.{Word}
use Rattle.nc_conf.specs.declared.syntax.Directive.{Directive}
use Rattle.nc_conf.specs.declared.lines.Key.{Key}
use Rattle.nc_conf.specs.declared.lines.Entry.{Entry}
use Rattle.nc_conf.specs.declared.table.Row.{Row}
use Rattle.nc_conf.specs.Table.{rows, row_in, row_of}
use Rattle.nc_conf.specs.Faults.{same_block, is_named, same_bool, is_exact, path_of, has_path, is_path, is_same_location, fault_if, again_at, again}
use Rattle.nc_conf.specs.Config.{line_in, has_name}
use Rattle.nc_conf.specs.Lines.{key_order, first_in, count_in, entry_with, KnowsLines, path_at, is_location_at, KnowsPaths}
use Rattle.nc_conf.proofs.Ranges.{same_is, both_left, both_right}

-- keys

then_ties : (a b : Ordering) → is_eq (ordering_then a b) ≡ (is_eq a && is_eq b)
then_ties Less b = refl
then_ties Equal b = refl
then_ties Greater b = refl

block_ties : (a b : Option ℕ) → is_eq (option_cmp nat_cmp a b) ≡ same_block a b
block_ties None None = refl
block_ties None (Some j) = refl
block_ties (Some i) None = refl
block_ties (Some i) (Some j) = sym (unsigned_ties i j)

key_ties : (k q : Key) → is_eq (key_order k q) ≡ (same_block k.block q.block && bytes_eq k.text.now q.text.now)
key_ties k q =
    then_ties (option_cmp nat_cmp k.block q.block) (slice_cmp nat_cmp k.text.now q.text.now)
    ∙ ap (λ (b : Bool). b && is_eq (slice_cmp nat_cmp k.text.now q.text.now)) (block_ties k.block q.block)
    ∙ ap (λ (b : Bool). same_block k.block q.block && b) (sym (texts_ties k.text.now q.text.now))

-- a key of this block and text
key_at : (k q : Key) (block : Option ℕ) (text : List ℕ) → k.block ≡ block → k.text.now ≡ text → is_eq (key_order k q) ≡ (same_block block q.block && bytes_eq text q.text.now)
key_at k q block text e f =
    key_ties k q
    ∙ ap (λ (o : Option ℕ). same_block o q.block && bytes_eq k.text.now q.text.now) e
    ∙ ap (λ (t : List ℕ). same_block block q.block && bytes_eq t q.text.now) f

same_number : (i j : ℕ) → same_block (Some i) (Some j) ≡ true → i ≡ j
same_number i j e = grind (arith, nat_tests)

one_block : (a b : Option ℕ) → same_block a b ≡ true → a ≡ b
one_block None None e = refl
one_block None (Some j) e = absurd (cc)
one_block (Some i) None e = absurd (cc)
one_block (Some i) (Some j) e = ap (λ (n : ℕ). Some n) (same_number i j e)

-- one directive more

found_behind : (p : Directive → Bool) (ds : List Directive) (d : Directive) → find p (ds ++ d ∷ []) ≡ option_or (find p ds) (if p d then Some d else None)
found_behind p ds d = find-append p ds (d ∷ [])

or_none : (o : Option Directive) → o ≡ option_or o None
or_none None = refl
or_none (Some d) = refl

count_behind : (p : Directive → Bool) (ds : List Directive) (d : Directive) → count_by p (ds ++ d ∷ []) ≡ count_by p ds + (if p d then 1 else 0)
count_behind p ds d = sum_by-append (λ (e : Directive). if p e then 1 else 0) ds (d ∷ []) ∙ one (count_by p ds) (if p d then 1 else 0)
  where
    one : (some more : ℕ) → some + (0 + more) ≡ some + more
    one some more = omega arith

first_with : (o : Option Entry) (d : Directive) → first_in (Some (entry_with o d)) ≡ option_or (first_in o) (Some d)
first_with None d = refl
first_with (Some e) d = refl

count_with : (o : Option Entry) (d : Directive) → count_in (Some (entry_with o d)) ≡ count_in o + 1
count_with None d = refl
count_with (Some e) d = refl

pub lines_with : (ds : List Directive) (d : Directive) (k : Key) (old new : BTreeMap Key Entry) (entry : Entry) → k.block ≡ d.within → k.text.now ≡ d.name.text → entry ≡ entry_with (tree.get key_order old k) d → tree.Updates key_order old new k (Some entry) → KnowsLines ds old → KnowsLines (ds ++ d ∷ []) new
lines_with ds d k old new entry block text is put h = record { first = λ q. first_at q; count = λ q. count_at q }
  where
    put_at : (q : Key) → tree.get key_order new q ≡ (if is_named q.block q.text.now d then Some (entry_with (tree.get key_order old k) d) else tree.get key_order old q)
    put_at q =
        put.0 q
        ∙ ap (λ (b : Bool). if b then Some entry else tree.get key_order old q) (key_at k q d.within d.name.text block text)
        ∙ ap (λ (e : Entry). if is_named q.block q.text.now d then Some e else tree.get key_order old q) is

    first_at : (q : Key) → first_in (tree.get key_order new q) ≡ line_in (ds ++ d ∷ []) q.block q.text.now
    first_at q = ap first_in (put_at q) ∙ by_test (is_named q.block q.text.now d) refl ∙ sym (found_behind (is_named q.block q.text.now) ds d)
      where
        by_test : (b : Bool) → is_named q.block q.text.now d ≡ b → first_in (if b then Some (entry_with (tree.get key_order old k) d) else tree.get key_order old q) ≡ option_or (line_in ds q.block q.text.now) (if b then Some d else None)
        by_test true e =
            first_with (tree.get key_order old k) d
            ∙ ap (λ (o : Option Directive). option_or o (Some d)) (h.first k ∙ ap (λ (o : Option ℕ). line_in ds o k.text.now) (block ∙ one_block d.within q.block (both_left (same_block d.within q.block) (bytes_eq d.name.text q.text.now) e)) ∙ ap (line_in ds q.block) (text ∙ same_is d.name.text q.text.now (both_right (same_block d.within q.block) (bytes_eq d.name.text q.text.now) e)))
        by_test false e = h.first q ∙ or_none (line_in ds q.block q.text.now)

    count_at : (q : Key) → count_in (tree.get key_order new q) ≡ count_by (is_named q.block q.text.now) (ds ++ d ∷ [])
    count_at q = ap count_in (put_at q) ∙ by_test (is_named q.block q.text.now d) refl ∙ sym (count_behind (is_named q.block q.text.now) ds d)
      where
        by_test : (b : Bool) → is_named q.block q.text.now d ≡ b → count_in (if b then Some (entry_with (tree.get key_order old k) d) else tree.get key_order old q) ≡ count_by (is_named q.block q.text.now) ds + (if b then 1 else 0)
        by_test true e =
            count_with (tree.get key_order old k) d
            ∙ ap (λ (n : ℕ). n + 1) (h.count k ∙ ap (λ (o : Option ℕ). count_by (is_named o k.text.now) ds) (block ∙ one_block d.within q.block (both_left (same_block d.within q.block) (bytes_eq d.name.text q.text.now) e)) ∙ ap (λ (t : List ℕ). count_by (is_named q.block t) ds) (text ∙ same_is d.name.text q.text.now (both_right (same_block d.within q.block) (bytes_eq d.name.text q.text.now) e)))
        by_test false e = let told = h.count q in omega (arith, told)

-- a count is at most the number of directives
pub count_fits : (ds : List Directive) (entries : BTreeMap Key Entry) (k : Key) → KnowsLines ds entries → length ds + 1 < 2 ^ 64 → IfSome (tree.get key_order entries k) (λ e. e.count + 1 < 2 ^ 64)
count_fits ds entries k h lt = by_case (tree.get key_order entries k) (h.count k)
  where
    by_case : (o : Option Entry) → count_in o ≡ count_by (is_named k.block k.text.now) ds → IfSome o (λ e. e.count + 1 < 2 ^ 64)
    by_case None e = tt
    by_case (Some entry) e = let most = count_by-le-length (is_named k.block k.text.now) ds in omega (arith, e, most, lt)

-- paths

or_behind : (a b : Bool) → (if a then true else b) ≡ (b || (a || false))
or_behind true true = refl
or_behind true false = refl
or_behind false true = refl
or_behind false false = refl

pub path_with : (exact : Bool) (ds : List Directive) (d : Directive) (path : Word) (k : Key) (old new : BTreeSet Key) → path_at exact d ≡ Some path → k.block ≡ d.within → k.text.now ≡ path.text → trees.Updates key_order old new k true → KnowsPaths exact ds old → KnowsPaths exact (ds ++ d ∷ []) new
path_with exact ds d path k old new is block text put h = λ q.
    put.0 q
    ∙ ap (λ (b : Bool). if b then true else trees.contains key_order old q) (key_at k q d.within path.text block text ∙ ap (λ (o : Option Word). same_block d.within q.block && has_path q.text.now o) (sym is))
    ∙ ap (λ (b : Bool). if is_location_at exact q.block q.text.now d then true else b) (h q)
    ∙ or_behind (is_location_at exact q.block q.text.now d) (list_any (is_location_at exact q.block q.text.now) ds)
    ∙ sym (list_any-append (is_location_at exact q.block q.text.now) ds (d ∷ []))

-- what is asked for

pub any_found : (p : Directive → Bool) (ds : List Directive) → is_some (find p ds) ≡ list_any p ds
any_found p [] = refl
any_found p (d ∷ ds) = by_test (p d) (find p ds) (list_any p ds) (any_found p ds)
  where
    by_test : (b : Bool) (o : Option Directive) (c : Bool) → is_some o ≡ c → is_some (if b then Some d else o) ≡ (b || c)
    by_test true o c e = refl
    by_test false o c e = e

pub if_copied : (o : Option (Bor Directive)) → is_some o ≡ is_some (option_copied o)
if_copied None = refl
if_copied (Some d) = refl

-- an earlier location of this path, with an `=` or without

flat : (a b c : Bool) (path : List ℕ) (o : Option Word) → ((a && b) && c && has_path path o) ≡ (a && has_path path (if b && c then o else None))
flat true true true path o = refl
flat true true false path o = refl
flat true false c path o = refl
flat false b c path o = refl

earlier_is : (d e : Directive) (path : List ℕ) → d.name.text ≡ codes "location" → is_same_location d path e ≡ is_location_at (is_exact d.args) d.within path e
earlier_is d e path is =
    ap (λ (name : List ℕ). is_named d.within name e && same_bool (is_exact e.args) (is_exact d.args) && has_path path (path_of e.args)) is
    ∙ flat (same_block e.within d.within) (has_name (codes "location") e) (same_bool (is_exact e.args) (is_exact d.args)) path (path_of e.args)

any_earlier : (ds : List Directive) (d : Directive) (path : List ℕ) → d.name.text ≡ codes "location" → list_any (is_same_location d path) ds ≡ list_any (is_location_at (is_exact d.args) d.within path) ds
any_earlier [] d path is = refl
any_earlier (e ∷ ds) d path is = λ i. earlier_is d e path is i || any_earlier ds d path is i

-- a directive of the shape of a path is a location

abbrev IsLocation : List ℕ × Row → Type 0
IsLocation row = is_path row.1.shape ≡ true → row.0 ≡ codes "location"

not_true : {P : Type 0} → false ≡ true → P
not_true e = absurd (cc)

each_row : AllByRecursion IsLocation rows
each_row = (not_true, (not_true, (not_true, (not_true, (not_true, (not_true, (not_true, (λ e. refl, (not_true, (not_true, (not_true, (not_true, (not_true, (not_true, (not_true, (not_true, (not_true, (not_true, tt))))))))))))))))))

some_row : (a b : Row) → (let o : Option Row = Some a in o) ≡ Some b → a ≡ b
some_row a b e = cc

no_row : {P : Type 0} (r : Row) → (let o : Option Row = None in o) ≡ Some r → P
no_row r e = absurd (cc)

row_located : (all : List (List ℕ × Row)) (name : List ℕ) (r : Row) → AllByRecursion IsLocation all → row_in all name ≡ Some r → is_path r.shape ≡ true → name ≡ codes "location"
row_located [] name r h e p = no_row r e
row_located (row ∷ all) name r h e p = by_test (bytes_eq name row.0) (λ f. row_located all name r h.1 f p) refl e
  where
    by_test : (b : Bool) → (row_in all name ≡ Some r → name ≡ codes "location") → bytes_eq name row.0 ≡ b → (if b then Some row.1 else row_in all name) ≡ Some r → name ≡ codes "location"
    by_test true later k f = same_is name row.0 k ∙ h.0 (ap (λ (s : Row). is_path s.shape) (some_row row.1 r f) ∙ p)
    by_test false later k f = later f

pub again_is : (ds : List Directive) (d : Directive) (r : Row) (path : Word) → row_of d.name.text ≡ Some r → is_path r.shape ≡ true → path_of d.args ≡ Some path → again ds r.shape d ≡ fault_if (list_any (is_location_at (is_exact d.args) d.within path.text) ds) 13 path.at
again_is ds d r path row shape is =
    ap (λ (b : Bool). if b then again_at ds d (path_of d.args) else []) shape
    ∙ ap (again_at ds d) is
    ∙ ap (λ (b : Bool). fault_if b 13 path.at) (any_earlier ds d path.text (row_located rows d.name.text r each_row row shape))
