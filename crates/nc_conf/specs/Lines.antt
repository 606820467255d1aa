-- What is kept of directives, so that those of a name are found in a block without going through all.
use Rattle.std.specs.Prelude.{◌≡◌, ℕ, ◌+◌, Bool, List, codes, if◌then◌else◌, ◌&&◌, Option, Some, None, count_by}
use Rattle.std.specs.declared.cmp.Ordering.{Ordering}
use Rattle.std.specs.List.{list_any}
use Rattle.std.specs.Ordering.{nat_cmp, ordering_then}
use Rattle.std.specs.Option.{option_cmp}
use Rattle.std.specs.Cmp.Lexicographic.{slice_cmp}
use Rattle.std.specs.BTreeMap.{BTreeMap, get}
use Rattle.std.specs.BTreeSet.{BTreeSet, contains}
use Rattle.nc_conf.specs.declared.syntax.Word.{Word}
use Rattle.nc_conf.specs.declared.syntax.Directive.{Directive}
use Rattle.nc_conf.specs.declared.lines.Key.{Key}
use Rattle.nc_conf.specs.declared.lines.Entry.{Entry}
use Rattle.nc_conf.specs.Faults.{is_named, same_block, same_bool, is_exact, path_of, has_path}
use Rattle.nc_conf.specs.Config.{line_in, has_name}

-- keys by their block, and within it by their text
abbrev pub key_order : Key → Key → Ordering
key_order k q = ordering_then (option_cmp nat_cmp k.block q.block) (slice_cmp nat_cmp k.text.now q.text.now)

abbrev pub first_in : Option Entry → Option Directive
first_in None = None
first_in (Some e) = Some e.first

abbrev pub count_in : Option Entry → ℕ
count_in None = 0
count_in (Some e) = e.count

-- one directive more
abbrev pub entry_with : Option Entry → Directive → Entry
entry_with None d = record { first = d; count = 1 }
entry_with (Some e) d = record { first = e.first; count = e.count + 1 }

-- for each block and name, which of some directives is the first, and how many there are
pub record KnowsLines (ds : List Directive) (entries : BTreeMap Key Entry) : Type 0 where
  pub first : (q : Key) → first_in (get key_order entries q) ≡ line_in ds q.block q.text.now
  pub count : (q : Key) → count_in (get key_order entries q) ≡ count_by (is_named q.block q.text.now) ds

-- the path of a location with an `=`, or of one without
abbrev pub path_at : Bool → Directive → Option Word
path_at exact d = if has_name (codes "location") d && same_bool (is_exact d.args) exact then path_of d.args else None

-- a directive is a location of this block and path, with an `=` or without
abbrev pub is_location_at : Bool → Option ℕ → List ℕ → Directive → Bool
is_location_at exact block path e = same_block e.within block && has_path path (path_at exact e)

-- for each block and path, whether one of some directives is a location there, with an `=` or without
abbrev pub KnowsPaths : Bool → List Directive → BTreeSet Key → Type 0
KnowsPaths exact ds paths = (q : Key) → contains key_order paths q ≡ list_any (is_location_at exact q.block q.text.now) ds
