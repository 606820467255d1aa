-- The rules, and all faults of a text.
use Rattle.std.specs.Prelude.{ℕ, Bool, true, false, not, List, [], ◌∷◌, ◌++◌, length, codes, if◌then◌else◌, ◌==◌, ◌&&◌, ◌||◌, nat_lt, nat_le, Option, Some, None, slice_get, count_by, bytes_eq}
use Rattle.std.specs.List.{list_any, flat_map}
use Rattle.std.specs.Option.{option_and_then, is_some}
use Rattle.nc_types.specs.Text.{begins_slash}
use Rattle.nc_conf.specs.declared.fault.Fault.{Fault}
use Rattle.nc_conf.specs.declared.table.Block.{Block}
use Rattle.nc_conf.specs.declared.table.Block.TheVariants.{Main}
use Rattle.nc_conf.specs.declared.table.Shape.{Shape}
use Rattle.nc_conf.specs.declared.table.Shape.TheVariants as shapes
use Rattle.nc_conf.specs.declared.table.Row.{Row}
use Rattle.nc_conf.specs.declared.syntax.Word.{Word}
use Rattle.nc_conf.specs.declared.syntax.Directive.{Directive}
use Rattle.nc_conf.specs.declared.syntax.Close.{Close}
use Rattle.nc_conf.specs.Syntax.{Item, directives_of, closes_of, open_behind}
use Rattle.nc_conf.specs.Value.{number, seconds, size, address, is_id}
use Rattle.nc_conf.specs.Table.{row_of, stands_in}

abbrev pub fault : ℕ → ℕ → Fault
fault rule at = record { at = at; rule = rule }

abbrev pub fault_if : Bool → ℕ → ℕ → List Fault
fault_if broken rule at = if broken then fault rule at ∷ [] else []

-- what a directive stands in

abbrev pub opens_of : Row → Option Block
opens_of r = r.opens

abbrev pub opened_by : Directive → Option Block
opened_by d = option_and_then opens_of (row_of d.name.text)

-- the kind of the block of that number, or of what is outside of all blocks
abbrev pub kind_of : List Directive → Option ℕ → Option Block
kind_of ds None = Some Main
kind_of ds (Some i) = option_and_then opened_by (slice_get ds i)

abbrev pub same_block : Option ℕ → Option ℕ → Bool
same_block None None = true
same_block (Some i) (Some j) = i == j
same_block _ _ = false

-- a directive has this name and stands in this block
abbrev pub is_named : Option ℕ → List ℕ → Directive → Bool
is_named block name e = same_block e.within block && bytes_eq e.name.text name

-- 4: a directive in a wrong block

abbrev pub may_stand : Row → Option Block → Bool
may_stand r None = false
may_stand r (Some kind) = stands_in r.standing kind

abbrev pub misplaced : List Directive → Row → Directive → List Fault
misplaced ds r d = fault_if (not (may_stand r (kind_of ds d.within))) 4 d.name.at

-- 5: more directives of one name in one block than may stand there

abbrev pub is_like : Directive → Directive → Bool
is_like d e = is_named d.within d.name.text e

abbrev pub are_enough : Option ℕ → ℕ → Bool
are_enough None n = false
are_enough (Some times) n = nat_le times n

abbrev pub repeated : List Directive → Row → Directive → List Fault
repeated before r d = fault_if (are_enough r.times (count_by (is_like d) before)) 5 d.name.at

-- 6: a wrong number of arguments, a block where none belongs, or none where one does

abbrev pub same_bool : Bool → Bool → Bool
same_bool true b = b
same_bool false b = not b

abbrev pub too_many : Option Word → List Fault
too_many None = []
too_many (Some w) = fault 6 w.at ∷ []

abbrev pub miscounted : Row → Directive → List Fault
miscounted r d = too_many (slice_get d.args r.most) ++ fault_if (nat_lt (length d.args) r.least || not (same_bool (is_some r.opens) d.block)) 6 d.end

-- 7 to 12: an argument that isn't what it should be

abbrev pub is_word : List ℕ → Word → Bool
is_word text w = bytes_eq w.text text

-- a word is among the earlier arguments
abbrev pub is_again : List Word → List ℕ → Bool
is_again before text = list_any (is_word text) before

abbrev pub is_way : List ℕ → Bool
is_way text = bytes_eq text (codes "longpoll") || bytes_eq text (codes "websocket")

abbrev pub is_first_word : List ℕ → Bool
is_first_word text = bytes_eq text (codes "oldest") || bytes_eq text (codes "newest")

-- the first of two or more arguments
abbrev pub is_before_path : List Word → List Word → Bool
is_before_path [] (v ∷ later) = true
is_before_path _ _ = false

-- the arguments before one of a location are the `=` alone, or none
abbrev pub is_path_place : List Word → Bool
is_path_place (w ∷ v ∷ before) = false
is_path_place _ = true

-- an argument of a location: `=` before the path, and the path
abbrev pub breaks_location : List Word → List ℕ → List Word → Bool
breaks_location before text later = if is_before_path before later then not (bytes_eq text (codes "=")) else is_path_place before && not (begins_slash text)

-- an argument breaks the rule of its shape, between those before and behind it
abbrev pub breaks : Shape → List Word → List ℕ → List Word → Bool
breaks shapes.Nothing before text later = false
breaks (shapes.Number low high) before text later = not (is_some (number low high text))
breaks shapes.Address before text later = not (is_some (address text))
breaks shapes.Seconds before text later = not (is_some (seconds text))
breaks shapes.Size before text later = not (is_some (size text))
breaks shapes.HttpWord before text later = not (bytes_eq text (codes "http"))
breaks shapes.Ways before text later = not (is_way text) || is_again before text
breaks shapes.First before text later = not (is_first_word text)
breaks shapes.ChannelId before text later = not (is_id text)
breaks shapes.Path before text later = breaks_location before text later

-- the rule of a shape
abbrev pub rule_of : Shape → ℕ
rule_of shapes.Nothing = 6
rule_of (shapes.Number low high) = 7
rule_of shapes.Address = 7
rule_of shapes.Seconds = 8
rule_of shapes.Size = 9
rule_of shapes.HttpWord = 10
rule_of shapes.Ways = 10
rule_of shapes.First = 10
rule_of shapes.ChannelId = 11
rule_of shapes.Path = 12

abbrev pub bad_args : Shape → List Word → List Word → List Fault
bad_args shape before [] = []
bad_args shape before (w ∷ later) = fault_if (breaks shape before w.text later) (rule_of shape) w.at ++ bad_args shape (before ++ w ∷ []) later

-- 13: a location with the bytes_eq `=` and path as an earlier one

abbrev pub is_exact : List Word → Bool
is_exact (w ∷ v ∷ ws) = true
is_exact _ = false

abbrev pub path_of : List Word → Option Word
path_of [] = None
path_of (w ∷ []) = Some w
path_of (w ∷ v ∷ ws) = Some v

abbrev pub has_path : List ℕ → Option Word → Bool
has_path text None = false
has_path text (Some v) = bytes_eq v.text text

abbrev pub is_same_location : Directive → List ℕ → Directive → Bool
is_same_location d path e = is_like d e && same_bool (is_exact e.args) (is_exact d.args) && has_path path (path_of e.args)

abbrev pub again_at : List Directive → Directive → Option Word → List Fault
again_at before d None = []
again_at before d (Some w) = fault_if (list_any (is_same_location d w.text) before) 13 w.at

abbrev pub is_path : Shape → Bool
is_path shapes.Path = true
is_path _ = false

abbrev pub again : List Directive → Shape → Directive → List Fault
again before shape d = if is_path shape then again_at before d (path_of d.args) else []

-- a directive's faults, after those before it; 3: an unknown directive
abbrev pub faults_by : List Directive → List Directive → Directive → Option Row → List Fault
faults_by ds before d None = fault 3 d.name.at ∷ []
faults_by ds before d (Some r) = misplaced ds r d ++ repeated before r d ++ miscounted r d ++ bad_args r.shape [] d.args ++ again before r.shape d

abbrev pub directive_faults : List Directive → List Directive → Directive → List Fault
directive_faults ds before d = faults_by ds before d (row_of d.name.text)

abbrev pub each_directive : List Directive → List Directive → List Directive → List Fault
each_directive ds before [] = []
each_directive ds before (d ∷ later) = directive_faults ds before d ++ each_directive ds (before ++ d ∷ []) later

-- 14: a location with a role and without `nchan_channel_id`

abbrev pub has_line : List Directive → ℕ → List ℕ → Bool
has_line ds block name = list_any (is_named (Some block) name) ds

abbrev pub has_role : List Directive → ℕ → Bool
has_role ds block = has_line ds block (codes "nchan_publisher") || has_line ds block (codes "nchan_subscriber") || has_line ds block (codes "nchan_pubsub")

abbrev pub is_location : Option Directive → Bool
is_location None = false
is_location (Some d) = bytes_eq d.name.text (codes "location")

abbrev pub nameless : List Directive → Close → List Fault
nameless ds c = fault_if (is_location (slice_get ds c.of) && has_role ds c.of && not (has_line ds c.of (codes "nchan_channel_id"))) 14 c.at

-- 1 and 2: where reading ended, by a sign that cannot stand there, by a lexical fault, or by the end of the text
abbrev pub unended : ℕ → List ℕ → List Word → Option ℕ → Option ℕ → List Fault
unended len blocks words (Some p) bad = fault 2 p ∷ []
unended len blocks words None (Some p) = fault 1 p ∷ []
unended len [] [] None None = []
unended len blocks words None None = fault 2 len ∷ []

-- all faults of a text of some bytes, with its syntax and the place of a lexical fault
abbrev pub faults_of : ℕ → List Item → List Word → Option ℕ → Option ℕ → List Fault
faults_of len items words broken bad =
    let ds = directives_of 0 [] items in
    each_directive ds [] ds ++ flat_map (nameless ds) (closes_of 0 [] items) ++ unended len (open_behind 0 [] items) words broken bad
