-- The fields of a line by the shapes of their values.
use Rattle.std.specs.Prelude.{ℕ, Bool, List, Option, None}
use Rattle.std.specs.Fmt.{decimal}
use Rattle.nc_types.specs.Id.{Id}
use Rattle.nc_types.specs.Cursor.{CursorAt}
use Rattle.nc_types.specs.Text.{quoted}
use Rattle.nc_types.specs.declared.info.Info.{Info as InfoOf}
use Rattle.nc_types.specs.declared.info.FullLine.{FullLine}
use Rattle.nc_types.specs.declared.start.Start.{Start}
use Rattle.nc_grammar.specs.Reading.{Read}
use Rattle.nc_grammar.specs.Quoted.{AreBytes, quoted_at}
use Rattle.nc_grammar.specs.Maybe.{OrNone, option_at}
use Rattle.nc_grammar.specs.Rows.{Kit, Field}
use Rattle.nc_journal_field.specs.Field.{truth_text, optional, list_text, numbers_text, subs_text, start_text, info_text, full_text}
use Rattle.nc_types.specs.Written.{id_text, cursor_text}
use Rattle.nc_journal_read.specs.Fit.{IsU64, AreNumbers, IsId, IsCursor, IsCursorIfGiven, IsList, IsInfo, IsFull}
use Rattle.nc_journal_read.specs.ValueReader.{u64_at, truth_at, written_id_at, cursor_at, start_at, info_at, full_at, numbers_at, subs_at}
use Rattle.nc_journal_list.specs.NameReader.{list_at}

-- what a field can have
pub data Shape : Type 0 where
  number : Shape
  truth : Shape
  text : Shape
  id : Shape
  cursor : Shape
  start : Shape
  list : Shape
  looks : Shape
  subs : Shape
  optional_number : Shape
  optional_text : Shape
  optional_id : Shape
  optional_info : Shape
  optional_full : Shape
  optional_list : Shape

-- the values of a shape
abbrev pub ValueOf : Shape → Type 0
ValueOf number = ℕ
ValueOf truth = Bool
ValueOf text = List ℕ
ValueOf id = Id
ValueOf cursor = CursorAt
ValueOf start = Start
ValueOf list = List (List ℕ)
ValueOf looks = List ℕ
ValueOf subs = List ℕ
ValueOf optional_number = Option ℕ
ValueOf optional_text = Option (List ℕ)
ValueOf optional_id = Option Id
ValueOf optional_info = Option InfoOf
ValueOf optional_full = Option FullLine
ValueOf optional_list = Option (List (List ℕ))

-- those that an event can keep
abbrev pub FitsOf : (s : Shape) → ValueOf s → Type 0
FitsOf number x = IsU64 x
FitsOf truth x = Unit {0}
FitsOf text x = AreBytes x
FitsOf id x = IsId x
FitsOf cursor x = IsCursor x
FitsOf start x = IsCursorIfGiven x
FitsOf list x = IsList x
FitsOf looks x = AreNumbers x
FitsOf subs x = AreNumbers x
FitsOf optional_number x = OrNone IsU64 x
FitsOf optional_text x = OrNone AreBytes x
FitsOf optional_id x = OrNone IsId x
FitsOf optional_info x = OrNone IsInfo x
FitsOf optional_full x = OrNone IsFull x
FitsOf optional_list x = OrNone IsList x

-- their texts
abbrev pub value_text : (s : Shape) → ValueOf s → List ℕ
value_text number x = decimal x
value_text truth x = truth_text x
value_text text x = quoted x
value_text id x = id_text x
value_text cursor x = cursor_text None x
value_text start x = start_text x
value_text list x = list_text x
value_text looks x = numbers_text x
value_text subs x = subs_text x
value_text optional_number x = optional decimal x
value_text optional_text x = optional quoted x
value_text optional_id x = optional id_text x
value_text optional_info x = optional info_text x
value_text optional_full x = optional full_text x
value_text optional_list x = optional list_text x

-- reading such a text
abbrev pub value_at : (s : Shape) → List ℕ → Read (ValueOf s)
value_at number t = u64_at t
value_at truth t = truth_at t
value_at text t = quoted_at t
value_at id t = written_id_at t
value_at cursor t = cursor_at t
value_at start t = start_at t
value_at list t = list_at t
value_at looks t = numbers_at t
value_at subs t = subs_at t
value_at optional_number t = option_at u64_at t
value_at optional_text t = option_at quoted_at t
value_at optional_id t = option_at written_id_at t
value_at optional_info t = option_at info_at t
value_at optional_full t = option_at full_at t
value_at optional_list t = option_at list_at t

-- the shapes with their texts and readers
abbrev pub kit : Kit
kit = record { Shape = Shape; Value = ValueOf; Fits = FitsOf; text = value_text; read = value_at }

-- a field of this name and shape
abbrev pub field : List ℕ → Shape → Field kit
field name shape = record { name = name; shape = shape }
