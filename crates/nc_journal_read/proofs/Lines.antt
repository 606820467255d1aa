-- Reading a line is right.
use Rattle.std.proofs.Common.{◌≡◌, ℕ, Bool, List, ◌∷◌, ◌++◌, refl, ap, ◌∙◌, append_assoc, arith, Some}
use Rattle.std.specs.Prelude.{codes}
use Rattle.std.specs.Fmt.{decimal}
use Rattle.nc_types.specs.Id.{Id}
use Rattle.nc_types.specs.Cursor.{CursorAt}
use Rattle.nc_types.specs.Text.{quoted}
use Rattle.nc_grammar.specs.Quoted.{AreBytes}
use Rattle.nc_grammar.specs.Rows.{Kit}
use Rattle.nc_grammar.specs.Whole.{IsLine}
use Rattle.nc_grammar.proofs.Exact.{IsExact, IsExact-same}
use Rattle.nc_grammar.proofs.Rows.{Spells, IsShape, IsKit, SomeExact, Listed, AllTold, table_exact, word_within}
use Rattle.nc_grammar.proofs.Forms.{text_form}
use Rattle.nc_journal_field.specs.Field.{list_text, numbers_text}
use Rattle.nc_types.specs.Written.{id_text, cursor_text}
use Rattle.nc_journal.specs.Word.{act_word, mode_word, left_word, removed_word, ended_word, shut_word, kind_word}
use Rattle.nc_journal.specs.EventLine.{line, alert_text}
use Rattle.nc_journal_read.specs.Fit.{IsList, AlertFits, EventFits}
use Rattle.nc_journal_read.specs.PlaceReader.{sending_text}
use Rattle.nc_journal_read.specs.Shape.{number, truth, text, id, cursor, start, list, looks, subs, optional_number, optional_text, optional_id, optional_info, optional_full, optional_list, kit, value_at}
use Rattle.nc_journal_read.specs.WordTable.{word_row, act_rows, mode_rows, left_rows, removed_rows, ended_rows, shut_rows, kind_rows, act_at, mode_at, left_at, removed_at, ended_at, shut_at, kind_at}
use Rattle.nc_journal_read.specs.AlertTable.{publish_row, alert_rows, alert_at}
use Rattle.nc_journal_read.specs.EventTable.{Part, plain, act, mode, left_cause, removed_cause, ended_cause, shut_cause, kind, alert, place, PartFits, part_text, part_at, parts, clock_row, event_rows, event_at}
use Rattle.nc_journal_read.proofs.Values.{Always, optional_form, text_no_dash, u64_form, optional_u64_form, truth_form, id_form, optional_id_form, cursor_form, start_form, optional_info_form, optional_full_form}
use Rattle.nc_journal_read.proofs.Numbers.{numbers_form, subs_form}
use Rattle.nc_journal_read.proofs.Names.{list_form, list_no_dash}
use Rattle.nc_journal_read.proofs.Places.{sending_form}
use Rattle.nc_journal.specs.declared.word.Act.{Act}
use Rattle.nc_journal.specs.declared.word.Act.TheVariants as acts
use Rattle.nc_journal.specs.declared.word.ModeLine.{ModeLine}
use Rattle.nc_journal.specs.declared.word.ModeLine.TheVariants as modes
use Rattle.nc_journal.specs.declared.word.LeftCause.{LeftCause}
use Rattle.nc_journal.specs.declared.word.LeftCause.TheVariants as lefts
use Rattle.nc_journal.specs.declared.word.RemovedCause.{RemovedCause}
use Rattle.nc_journal.specs.declared.word.RemovedCause.TheVariants as removals
use Rattle.nc_journal.specs.declared.word.EndedCause.{EndedCause}
use Rattle.nc_journal.specs.declared.word.EndedCause.TheVariants as endings
use Rattle.nc_journal.specs.declared.word.ShutCause.{ShutCause}
use Rattle.nc_journal.specs.declared.word.ShutCause.TheVariants as shuts
use Rattle.nc_journal.specs.declared.word.AlertKind.{AlertKind}
use Rattle.nc_journal.specs.declared.word.AlertKind.TheVariants as kinds
use Rattle.nc_journal.specs.declared.alert.AlertLine.{AlertLine}
use Rattle.nc_journal.specs.declared.alert.AlertLine.TheVariants as alerts
use Rattle.nc_journal.specs.declared.event.Event.{Event}
use Rattle.nc_journal.specs.declared.event.Event.TheVariants.{Clock, Opened, Got, Asked, Answered, Subscribed, Started, Joined, Parted, Raised, Stored, Left, Looked, Edged, Granted, Released, Freed, Removed, Sent, Ended, Replied, Wrote, Shut, Made, Took, Pending, Quiet}

to_spells : (K : Kit) (s : K.Shape) (stays : ℕ → Bool) → IsExact (IsLine (K.Fits s) (K.text s)) stays (K.read s) → IsExact (Spells K s) stays (K.read s)
to_spells K s stays x = IsExact-same (IsLine (K.Fits s) (K.text s)) (Spells K s) stays (K.read s) (λ a u m. record { fits = m.fits; text = m.text }) (λ a u m. record { fits = m.fits; text = m.text }) x

kit_is : IsKit kit
kit_is number = record { stays = _; blank = refl; exact = to_spells kit number _ u64_form }
kit_is truth = record { stays = _; blank = refl; exact = to_spells kit truth _ truth_form }
kit_is text = record { stays = _; blank = refl; exact = to_spells kit text _ text_form }
kit_is id = record { stays = _; blank = refl; exact = to_spells kit id _ id_form }
kit_is cursor = record { stays = _; blank = refl; exact = to_spells kit cursor _ cursor_form }
kit_is start = record { stays = _; blank = refl; exact = to_spells kit start _ start_form }
kit_is list = record { stays = _; blank = refl; exact = to_spells kit list _ list_form }
kit_is looks = record { stays = _; blank = refl; exact = to_spells kit looks _ numbers_form }
kit_is subs = record { stays = _; blank = refl; exact = to_spells kit subs _ subs_form }
kit_is optional_number = record { stays = _; blank = refl; exact = to_spells kit optional_number _ optional_u64_form }
kit_is optional_text = record { stays = _; blank = refl; exact = to_spells kit optional_text _ (optional_form AreBytes quoted _ _ text_no_dash text_form) }
kit_is optional_id = record { stays = _; blank = refl; exact = to_spells kit optional_id _ optional_id_form }
kit_is optional_info = record { stays = _; blank = refl; exact = to_spells kit optional_info _ optional_info_form }
kit_is optional_full = record { stays = _; blank = refl; exact = to_spells kit optional_full _ optional_full_form }
kit_is optional_list = record { stays = _; blank = refl; exact = to_spells kit optional_list _ (optional_form IsList list_text _ _ list_no_dash list_form) }

-- ---- words

act_listed : (a : Act) → Always a → Listed kit (word_row act_word acts.Publish) act_rows Always act_word a
act_listed acts.Publish h = record { place = 0; within = word_within kit (word_row act_word acts.Publish) act_rows 0 (omega arith); values = tt; fit = tt; is = refl }
act_listed acts.Info h = record { place = 1; within = word_within kit (word_row act_word acts.Publish) act_rows 1 (omega arith); values = tt; fit = tt; is = refl }
act_listed acts.Delete h = record { place = 2; within = word_within kit (word_row act_word acts.Publish) act_rows 2 (omega arith); values = tt; fit = tt; is = refl }
act_listed acts.LongPoll h = record { place = 3; within = word_within kit (word_row act_word acts.Publish) act_rows 3 (omega arith); values = tt; fit = tt; is = refl }
act_listed acts.Socket h = record { place = 4; within = word_within kit (word_row act_word acts.Publish) act_rows 4 (omega arith); values = tt; fit = tt; is = refl }
act_listed acts.Refuse h = record { place = 5; within = word_within kit (word_row act_word acts.Publish) act_rows 5 (omega arith); values = tt; fit = tt; is = refl }
act_listed acts.Bad h = record { place = 6; within = word_within kit (word_row act_word acts.Publish) act_rows 6 (omega arith); values = tt; fit = tt; is = refl }

act_exact : SomeExact (IsLine Always act_word) act_at
act_exact = table_exact kit kit_is (word_row act_word acts.Publish) act_rows Always act_word refl refl (λ x h. (tt, refl), (λ x h. (tt, refl), (λ x h. (tt, refl), (λ x h. (tt, refl), (λ x h. (tt, refl), (λ x h. (tt, refl), (λ x h. (tt, refl), tt))))))) act_listed

mode_listed : (a : ModeLine) → Always a → Listed kit (word_row mode_word modes.Direct) mode_rows Always mode_word a
mode_listed modes.Direct h = record { place = 0; within = word_within kit (word_row mode_word modes.Direct) mode_rows 0 (omega arith); values = tt; fit = tt; is = refl }
mode_listed modes.LongPoll h = record { place = 1; within = word_within kit (word_row mode_word modes.Direct) mode_rows 1 (omega arith); values = tt; fit = tt; is = refl }
mode_listed modes.Socket h = record { place = 2; within = word_within kit (word_row mode_word modes.Direct) mode_rows 2 (omega arith); values = tt; fit = tt; is = refl }
mode_listed modes.Meta h = record { place = 3; within = word_within kit (word_row mode_word modes.Direct) mode_rows 3 (omega arith); values = tt; fit = tt; is = refl }

mode_exact : SomeExact (IsLine Always mode_word) mode_at
mode_exact = table_exact kit kit_is (word_row mode_word modes.Direct) mode_rows Always mode_word refl refl (λ x h. (tt, refl), (λ x h. (tt, refl), (λ x h. (tt, refl), (λ x h. (tt, refl), tt)))) mode_listed

left_listed : (a : LeftCause) → Always a → Listed kit (word_row left_word lefts.Length) left_rows Always left_word a
left_listed lefts.Length h = record { place = 0; within = word_within kit (word_row left_word lefts.Length) left_rows 0 (omega arith); values = tt; fit = tt; is = refl }
left_listed lefts.Expired h = record { place = 1; within = word_within kit (word_row left_word lefts.Length) left_rows 1 (omega arith); values = tt; fit = tt; is = refl }
left_listed lefts.Deleted h = record { place = 2; within = word_within kit (word_row left_word lefts.Length) left_rows 2 (omega arith); values = tt; fit = tt; is = refl }
left_listed lefts.Spent h = record { place = 3; within = word_within kit (word_row left_word lefts.Length) left_rows 3 (omega arith); values = tt; fit = tt; is = refl }

left_exact : SomeExact (IsLine Always left_word) left_at
left_exact = table_exact kit kit_is (word_row left_word lefts.Length) left_rows Always left_word refl refl (λ x h. (tt, refl), (λ x h. (tt, refl), (λ x h. (tt, refl), (λ x h. (tt, refl), tt)))) left_listed

removed_listed : (a : RemovedCause) → Always a → Listed kit (word_row removed_word removals.Deleted) removed_rows Always removed_word a
removed_listed removals.Deleted h = record { place = 0; within = word_within kit (word_row removed_word removals.Deleted) removed_rows 0 (omega arith); values = tt; fit = tt; is = refl }
removed_listed removals.Reaped h = record { place = 1; within = word_within kit (word_row removed_word removals.Deleted) removed_rows 1 (omega arith); values = tt; fit = tt; is = refl }

removed_exact : SomeExact (IsLine Always removed_word) removed_at
removed_exact = table_exact kit kit_is (word_row removed_word removals.Deleted) removed_rows Always removed_word refl refl (λ x h. (tt, refl), (λ x h. (tt, refl), tt)) removed_listed

ended_listed : (a : EndedCause) → Always a → Listed kit (word_row ended_word endings.Answered) ended_rows Always ended_word a
ended_listed endings.Answered h = record { place = 0; within = word_within kit (word_row ended_word endings.Answered) ended_rows 0 (omega arith); values = tt; fit = tt; is = refl }
ended_listed endings.Timeout h = record { place = 1; within = word_within kit (word_row ended_word endings.Answered) ended_rows 1 (omega arith); values = tt; fit = tt; is = refl }
ended_listed endings.Deleted h = record { place = 2; within = word_within kit (word_row ended_word endings.Answered) ended_rows 2 (omega arith); values = tt; fit = tt; is = refl }
ended_listed endings.Peer h = record { place = 3; within = word_within kit (word_row ended_word endings.Answered) ended_rows 3 (omega arith); values = tt; fit = tt; is = refl }
ended_listed endings.Closed h = record { place = 4; within = word_within kit (word_row ended_word endings.Answered) ended_rows 4 (omega arith); values = tt; fit = tt; is = refl }
ended_listed endings.Frame h = record { place = 5; within = word_within kit (word_row ended_word endings.Answered) ended_rows 5 (omega arith); values = tt; fit = tt; is = refl }

ended_exact : SomeExact (IsLine Always ended_word) ended_at
ended_exact = table_exact kit kit_is (word_row ended_word endings.Answered) ended_rows Always ended_word refl refl (λ x h. (tt, refl), (λ x h. (tt, refl), (λ x h. (tt, refl), (λ x h. (tt, refl), (λ x h. (tt, refl), (λ x h. (tt, refl), tt)))))) ended_listed

shut_listed : (a : ShutCause) → Always a → Listed kit (word_row shut_word shuts.Asked) shut_rows Always shut_word a
shut_listed shuts.Asked h = record { place = 0; within = word_within kit (word_row shut_word shuts.Asked) shut_rows 0 (omega arith); values = tt; fit = tt; is = refl }
shut_listed shuts.Refused h = record { place = 1; within = word_within kit (word_row shut_word shuts.Asked) shut_rows 1 (omega arith); values = tt; fit = tt; is = refl }
shut_listed shuts.Peer h = record { place = 2; within = word_within kit (word_row shut_word shuts.Asked) shut_rows 2 (omega arith); values = tt; fit = tt; is = refl }
shut_listed shuts.Closed h = record { place = 3; within = word_within kit (word_row shut_word shuts.Asked) shut_rows 3 (omega arith); values = tt; fit = tt; is = refl }
shut_listed shuts.Deleted h = record { place = 4; within = word_within kit (word_row shut_word shuts.Asked) shut_rows 4 (omega arith); values = tt; fit = tt; is = refl }
shut_listed shuts.Timeout h = record { place = 5; within = word_within kit (word_row shut_word shuts.Asked) shut_rows 5 (omega arith); values = tt; fit = tt; is = refl }
shut_listed shuts.Frame h = record { place = 6; within = word_within kit (word_row shut_word shuts.Asked) shut_rows 6 (omega arith); values = tt; fit = tt; is = refl }

shut_exact : SomeExact (IsLine Always shut_word) shut_at
shut_exact = table_exact kit kit_is (word_row shut_word shuts.Asked) shut_rows Always shut_word refl refl (λ x h. (tt, refl), (λ x h. (tt, refl), (λ x h. (tt, refl), (λ x h. (tt, refl), (λ x h. (tt, refl), (λ x h. (tt, refl), (λ x h. (tt, refl), tt))))))) shut_listed

kind_listed : (a : AlertKind) → Always a → Listed kit (word_row kind_word kinds.Publish) kind_rows Always kind_word a
kind_listed kinds.Publish h = record { place = 0; within = word_within kit (word_row kind_word kinds.Publish) kind_rows 0 (omega arith); values = tt; fit = tt; is = refl }
kind_listed kinds.PubAnswer h = record { place = 1; within = word_within kit (word_row kind_word kinds.Publish) kind_rows 1 (omega arith); values = tt; fit = tt; is = refl }
kind_listed kinds.Look h = record { place = 2; within = word_within kit (word_row kind_word kinds.Publish) kind_rows 2 (omega arith); values = tt; fit = tt; is = refl }
kind_listed kinds.LookAnswer h = record { place = 3; within = word_within kit (word_row kind_word kinds.Publish) kind_rows 3 (omega arith); values = tt; fit = tt; is = refl }
kind_listed kinds.Notice h = record { place = 4; within = word_within kit (word_row kind_word kinds.Publish) kind_rows 4 (omega arith); values = tt; fit = tt; is = refl }
kind_listed kinds.Edge h = record { place = 5; within = word_within kit (word_row kind_word kinds.Publish) kind_rows 5 (omega arith); values = tt; fit = tt; is = refl }
kind_listed kinds.EdgeAnswer h = record { place = 6; within = word_within kit (word_row kind_word kinds.Publish) kind_rows 6 (omega arith); values = tt; fit = tt; is = refl }
kind_listed kinds.Join h = record { place = 7; within = word_within kit (word_row kind_word kinds.Publish) kind_rows 7 (omega arith); values = tt; fit = tt; is = refl }
kind_listed kinds.Part h = record { place = 8; within = word_within kit (word_row kind_word kinds.Publish) kind_rows 8 (omega arith); values = tt; fit = tt; is = refl }
kind_listed kinds.Delete h = record { place = 9; within = word_within kit (word_row kind_word kinds.Publish) kind_rows 9 (omega arith); values = tt; fit = tt; is = refl }
kind_listed kinds.DelAnswer h = record { place = 10; within = word_within kit (word_row kind_word kinds.Publish) kind_rows 10 (omega arith); values = tt; fit = tt; is = refl }
kind_listed kinds.Gone h = record { place = 11; within = word_within kit (word_row kind_word kinds.Publish) kind_rows 11 (omega arith); values = tt; fit = tt; is = refl }
kind_listed kinds.Info h = record { place = 12; within = word_within kit (word_row kind_word kinds.Publish) kind_rows 12 (omega arith); values = tt; fit = tt; is = refl }
kind_listed kinds.InfoAnswer h = record { place = 13; within = word_within kit (word_row kind_word kinds.Publish) kind_rows 13 (omega arith); values = tt; fit = tt; is = refl }

kind_exact : SomeExact (IsLine Always kind_word) kind_at
kind_exact = table_exact kit kit_is (word_row kind_word kinds.Publish) kind_rows Always kind_word refl refl (λ x h. (tt, refl), (λ x h. (tt, refl), (λ x h. (tt, refl), (λ x h. (tt, refl), (λ x h. (tt, refl), (λ x h. (tt, refl), (λ x h. (tt, refl), (λ x h. (tt, refl), (λ x h. (tt, refl), (λ x h. (tt, refl), (λ x h. (tt, refl), (λ x h. (tt, refl), (λ x h. (tt, refl), (λ x h. (tt, refl), tt)))))))))))))) kind_listed

-- ---- alerts

alerts_told : AllTold kit AlertFits alert_text (publish_row ∷ alert_rows)
alerts_told = (λ x h. ((h.0, h.1.0, h.1.1.0, h.1.1.1.0, h.1.1.1.1.0, h.1.1.1.1.1.0), refl), (λ x h. ((h.0, h.1.0, h.1.1.0, h.1.1.1.0), refl), (λ x h. ((h.0, h.1.0, h.1.1.0, h.1.1.1.0), refl), (λ x h. ((h.0, h.1.0, h.1.1.0, h.1.1.1.0, h.1.1.1.1.0, h.1.1.1.1.1.0), refl), (λ x h. ((h.0, h.1.0, h.1.1.0, h.1.1.1.0), refl), (λ x h. ((h.0, h.1.0, h.1.1.0, h.1.1.1.0), refl), (λ x h. ((h.0, h.1.0, h.1.1.0, h.1.1.1.0), refl), (λ x h. ((h.0, h.1.0), refl), (λ x h. ((h.0, h.1.0), refl), (λ x h. ((h.0, h.1.0), refl), (λ x h. ((h.0, h.1.0, h.1.1.0), refl), (λ x h. ((h.0, h.1.0), refl), (λ x h. ((h.0, h.1.0), refl), (λ x h. ((h.0, h.1.0, h.1.1.0), refl), tt))))))))))))))

alerts_listed : (a : AlertLine) → AlertFits a → Listed kit publish_row alert_rows AlertFits alert_text a
alerts_listed (alerts.Publish r c len timeout ct body) h = record { place = 0; within = word_within kit publish_row alert_rows 0 (omega arith); values = (r, (c, (len, (timeout, (ct, (body, tt)))))); fit = (h.0, (h.1, (h.2, (h.3, (h.4, (h.5, tt)))))); is = refl }
alerts_listed (alerts.PubAnswer r status about full) h = record { place = 1; within = word_within kit publish_row alert_rows 1 (omega arith); values = (r, (status, (about, (full, tt)))); fit = (h.0, (h.1, (h.2, (h.3, tt)))); is = refl }
alerts_listed (alerts.Look look c after fence) h = record { place = 2; within = word_within kit publish_row alert_rows 2 (omega arith); values = (look, (c, (after, (fence, tt)))); fit = (h.0, (h.1, (h.2, (h.3, tt)))); is = refl }
alerts_listed (alerts.LookAnswer look q floor found g slot) h = record { place = 3; within = word_within kit publish_row alert_rows 3 (omega arith); values = (look, (q, (floor, (found, (g, (slot, tt)))))); fit = (h.0, (h.1, (h.2, (h.3, (h.4, (h.5, tt)))))); is = refl }
alerts_listed (alerts.Notice c stamp g slot) h = record { place = 4; within = word_within kit publish_row alert_rows 4 (omega arith); values = (c, (stamp, (g, (slot, tt)))); fit = (h.0, (h.1, (h.2, (h.3, tt)))); is = refl }
alerts_listed (alerts.Edge look k c fence) h = record { place = 5; within = word_within kit publish_row alert_rows 5 (omega arith); values = (look, (k, (c, (fence, tt)))); fit = (h.0, (h.1, (h.2, (h.3, tt)))); is = refl }
alerts_listed (alerts.EdgeAnswer look q floor last) h = record { place = 6; within = word_within kit publish_row alert_rows 6 (omega arith); values = (look, (q, (floor, (last, tt)))); fit = (h.0, (h.1, (h.2, (h.3, tt)))); is = refl }
alerts_listed (alerts.Join c k) h = record { place = 7; within = word_within kit publish_row alert_rows 7 (omega arith); values = (c, (k, tt)); fit = (h.0, (h.1, tt)); is = refl }
alerts_listed (alerts.Part c k) h = record { place = 8; within = word_within kit publish_row alert_rows 8 (omega arith); values = (c, (k, tt)); fit = (h.0, (h.1, tt)); is = refl }
alerts_listed (alerts.Delete r c) h = record { place = 9; within = word_within kit publish_row alert_rows 9 (omega arith); values = (r, (c, tt)); fit = (h.0, (h.1, tt)); is = refl }
alerts_listed (alerts.DelAnswer r status about) h = record { place = 10; within = word_within kit publish_row alert_rows 10 (omega arith); values = (r, (status, (about, tt))); fit = (h.0, (h.1, (h.2, tt))); is = refl }
alerts_listed (alerts.Gone c members_of) h = record { place = 11; within = word_within kit publish_row alert_rows 11 (omega arith); values = (c, (members_of, tt)); fit = (h.0, (h.1, tt)); is = refl }
alerts_listed (alerts.Info r c) h = record { place = 12; within = word_within kit publish_row alert_rows 12 (omega arith); values = (r, (c, tt)); fit = (h.0, (h.1, tt)); is = refl }
alerts_listed (alerts.InfoAnswer r status about) h = record { place = 13; within = word_within kit publish_row alert_rows 13 (omega arith); values = (r, (status, (about, tt))); fit = (h.0, (h.1, (h.2, tt))); is = refl }

alert_exact : SomeExact (IsLine AlertFits alert_text) alert_at
alert_exact = table_exact kit kit_is publish_row alert_rows AlertFits alert_text refl refl alerts_told alerts_listed

-- ---- events

as_shape : (p : Part) → SomeExact (IsLine (PartFits p) (part_text p)) (part_at p) → IsShape parts p
as_shape p x = record { stays = x.stays; blank = x.blank; exact = to_spells parts p x.stays x.exact }

parts_are : IsKit parts
parts_are (plain s) = (let x = kit_is s in record { stays = x.stays; blank = x.blank; exact = IsExact-same (Spells kit s) (Spells parts (plain s)) x.stays (value_at s) (λ a u m. record { fits = m.fits; text = m.text }) (λ a u m. record { fits = m.fits; text = m.text }) x.exact })
parts_are act = as_shape act act_exact
parts_are mode = as_shape mode mode_exact
parts_are left_cause = as_shape left_cause left_exact
parts_are removed_cause = as_shape removed_cause removed_exact
parts_are ended_cause = as_shape ended_cause ended_exact
parts_are shut_cause = as_shape shut_cause shut_exact
parts_are kind = as_shape kind kind_exact
parts_are alert = as_shape alert alert_exact
parts_are place = as_shape place (record { stays = _; blank = refl; exact = sending_form })

-- the fields of a sent, with the place and what goes with it as one
as_one : (front a b c d e f g : List ℕ) → front ++ a ++ b ++ c ++ d ++ e ++ f ++ g ≡ front ++ (a ++ b ++ c ++ d ++ e ++ f ++ g)
as_one front a b c d e f g =
    let two = append_assoc front a b in
    let three = ap (λ (l : List ℕ). l ++ c) two ∙ append_assoc front (a ++ b) c in
    let four = ap (λ (l : List ℕ). l ++ d) three ∙ append_assoc front (a ++ b ++ c) d in
    let five = ap (λ (l : List ℕ). l ++ e) four ∙ append_assoc front (a ++ b ++ c ++ d) e in
    let six = ap (λ (l : List ℕ). l ++ f) five ∙ append_assoc front (a ++ b ++ c ++ d ++ e) f in
    ap (λ (l : List ℕ). l ++ g) six ∙ append_assoc front (a ++ b ++ c ++ d ++ e ++ f) g

sent_line : (w k i : ℕ) (c : List ℕ) (stamp : Id) (cur : CursorAt) (looked : List ℕ)
    → line (Sent w k i c stamp cur looked) ≡ codes "sent w=" ++ decimal w ++ codes " k=" ++ decimal k ++ codes " i=" ++ sending_text (i, (c, (stamp, cur))) ++ codes " looks=" ++ numbers_text looked
sent_line w k i c stamp cur looked =
    ap (λ (l : List ℕ). l ++ codes " looks=" ++ numbers_text looked)
    (as_one (codes "sent w=" ++ decimal w ++ codes " k=" ++ decimal k ++ codes " i=") (decimal i) (codes " c=") (quoted c) (codes " id=") (id_text stamp) (codes " cur=") (cursor_text (Some i) cur))

told : AllTold parts EventFits line (clock_row ∷ event_rows)
told = (λ x h. ((h.0, h.1.0), refl), (λ x h. ((h.0, h.1.0), refl), (λ x h. ((h.0, h.1.0, h.1.1.0), refl), (λ x h. ((h.0, h.1.0, h.1.1.0, h.1.1.1.1.0, h.1.1.1.1.1.0, h.1.1.1.1.1.1.0), refl), (λ x h. ((h.0, h.1.0, h.1.1.0, h.1.1.1.0, h.1.1.1.1.0), refl), (λ x h. ((h.0, h.1.0, h.1.1.0, h.1.1.1.0, h.1.1.1.1.1.0, h.1.1.1.1.1.1.0), refl), (λ x h. ((h.0, h.1.0, h.1.1.0), refl), (λ x h. ((h.0, h.1.0, h.1.1.0, h.1.1.1.0), refl), (λ x h. ((h.0, h.1.0, h.1.1.0, h.1.1.1.0), refl), (λ x h. ((h.0, h.1.0), refl), (λ x h. ((h.0, h.1.0, h.1.1.0, h.1.1.1.0, h.1.1.1.1.0, h.1.1.1.1.1.0, h.1.1.1.1.1.1.1.0, h.1.1.1.1.1.1.1.1.0, h.1.1.1.1.1.1.1.1.1.0, h.1.1.1.1.1.1.1.1.1.1.0, h.1.1.1.1.1.1.1.1.1.1.1.0), refl), (λ x h. ((h.0, h.1.0, h.1.1.0, h.1.1.1.0), refl), (λ x h. ((h.0, h.1.0, h.1.1.0, h.1.1.1.0, h.1.1.1.1.0, h.1.1.1.1.1.0, h.1.1.1.1.1.1.0, h.1.1.1.1.1.1.1.0), refl), (λ x h. ((h.0, h.1.0, h.1.1.0, h.1.1.1.0, h.1.1.1.1.0, h.1.1.1.1.1.0, h.1.1.1.1.1.1.0, h.1.1.1.1.1.1.1.0), refl), (λ x h. ((h.0, h.1.0, h.1.1.0, h.1.1.1.0), refl), (λ x h. ((h.0, h.1.0, h.1.1.0, h.1.1.1.0), refl), (λ x h. ((h.0, h.1.0), refl), (λ x h. ((h.0, h.1.0, h.1.1.0), refl), (λ x h. ((h.0, h.1.0, h.1.1.0.place, h.1.1.0.name, h.1.1.0.id, h.1.1.0.cursor, h.1.1.0.below, h.1.1.1.0), sent_line x.0 x.1.0 x.1.1.0.0 x.1.1.0.1.0 x.1.1.0.1.1.0 x.1.1.0.1.1.1 x.1.1.1.0), (λ x h. ((h.0, h.1.0), refl), (λ x h. ((h.0, h.1.0, h.1.1.0), refl), (λ x h. ((h.0, h.1.0, h.1.1.0), refl), (λ x h. ((h.0, h.1.0), refl), (λ x h. ((h.0, h.1.0, h.1.1.0, h.1.1.1.0), refl), (λ x h. ((h.0, h.1.0, h.1.1.0), refl), (λ x h. (h.0, refl), (λ x h. (tt, refl), tt)))))))))))))))))))))))))))

listed : (e : Event) → EventFits e → Listed parts clock_row event_rows EventFits line e
listed (Clock w t) h = record { place = 0; within = word_within parts clock_row event_rows 0 (omega arith); values = (w, (t, tt)); fit = (h.0, (h.1, tt)); is = refl }
listed (Opened w conn) h = record { place = 1; within = word_within parts clock_row event_rows 1 (omega arith); values = (w, (conn, tt)); fit = (h.0, (h.1, tt)); is = refl }
listed (Got w conn bytes) h = record { place = 2; within = word_within parts clock_row event_rows 2 (omega arith); values = (w, (conn, (bytes, tt))); fit = (h.0, (h.1, (h.2, tt))); is = refl }
listed (Asked w r conn asked_act names status rule) h = record { place = 3; within = word_within parts clock_row event_rows 3 (omega arith); values = (w, (r, (conn, (asked_act, (names, (status, (rule, tt))))))); fit = (h.0, (h.1, (h.2, (tt, (h.3, (h.4, (h.5, tt))))))); is = refl }
listed (Answered w r conn status about json close) h = record { place = 4; within = word_within parts clock_row event_rows 4 (omega arith); values = (w, (r, (conn, (status, (about, (json, (close, tt))))))); fit = (h.0, (h.1, (h.2, (h.3, (h.4, (tt, (tt, tt))))))); is = refl }
listed (Subscribed w k conn names served begin timeout close) h = record { place = 5; within = word_within parts clock_row event_rows 5 (omega arith); values = (w, (k, (conn, (names, (served, (begin, (timeout, (close, tt)))))))); fit = (h.0, (h.1, (h.2, (h.3, (tt, (h.4, (h.5, (tt, tt)))))))); is = refl }
listed (Started w k cur) h = record { place = 6; within = word_within parts clock_row event_rows 6 (omega arith); values = (w, (k, (cur, tt))); fit = (h.0, (h.1, (h.2, tt))); is = refl }
listed (Joined w c from k) h = record { place = 7; within = word_within parts clock_row event_rows 7 (omega arith); values = (w, (c, (from, (k, tt)))); fit = (h.0, (h.1, (h.2, (h.3, tt)))); is = refl }
listed (Parted w c from k) h = record { place = 8; within = word_within parts clock_row event_rows 8 (omega arith); values = (w, (c, (from, (k, tt)))); fit = (h.0, (h.1, (h.2, (h.3, tt)))); is = refl }
listed (Raised w t) h = record { place = 9; within = word_within parts clock_row event_rows 9 (omega arith); values = (w, (t, tt)); fit = (h.0, (h.1, tt)); is = refl }
listed (Stored w c stamp slot len exp kept members from r ct body) h = record { place = 10; within = word_within parts clock_row event_rows 10 (omega arith); values = (w, (c, (stamp, (slot, (len, (exp, (kept, (members, (from, (r, (ct, (body, tt)))))))))))); fit = (h.0, (h.1, (h.2, (h.3, (h.4, (h.5, (tt, (h.6, (h.7, (h.8, (h.9, (h.10, tt)))))))))))); is = refl }
listed (Left w c stamp slot cause) h = record { place = 11; within = word_within parts clock_row event_rows 11 (omega arith); values = (w, (c, (stamp, (slot, (cause, tt))))); fit = (h.0, (h.1, (h.2, (h.3, (tt, tt))))); is = refl }
listed (Looked w q from look c after floor found) h = record { place = 12; within = word_within parts clock_row event_rows 12 (omega arith); values = (w, (q, (from, (look, (c, (after, (floor, (found, tt)))))))); fit = (h.0, (h.1, (h.2, (h.3, (h.4, (h.5, (h.6, (h.7, tt)))))))); is = refl }
listed (Edged w q from look k c floor last) h = record { place = 13; within = word_within parts clock_row event_rows 13 (omega arith); values = (w, (q, (from, (look, (k, (c, (floor, (last, tt)))))))); fit = (h.0, (h.1, (h.2, (h.3, (h.4, (h.5, (h.6, (h.7, tt)))))))); is = refl }
listed (Granted w g slot to) h = record { place = 14; within = word_within parts clock_row event_rows 14 (omega arith); values = (w, (g, (slot, (to, tt)))); fit = (h.0, (h.1, (h.2, (h.3, tt)))); is = refl }
listed (Released w owner g slot) h = record { place = 15; within = word_within parts clock_row event_rows 15 (omega arith); values = (w, (owner, (g, (slot, tt)))); fit = (h.0, (h.1, (h.2, (h.3, tt)))); is = refl }
listed (Freed w slot) h = record { place = 16; within = word_within parts clock_row event_rows 16 (omega arith); values = (w, (slot, tt)); fit = (h.0, (h.1, tt)); is = refl }
listed (Removed w c last cause) h = record { place = 17; within = word_within parts clock_row event_rows 17 (omega arith); values = (w, (c, (last, (cause, tt)))); fit = (h.0, (h.1, (h.2, (tt, tt)))); is = refl }
listed (Sent w k i c stamp cur looked) h = record { place = 18; within = word_within parts clock_row event_rows 18 (omega arith); values = (w, (k, ((i, (c, (stamp, cur))), (looked, tt)))); fit = (h.0, (h.1, (record { place = h.2; name = h.3; id = h.4; cursor = h.5; below = h.6 }, (h.7, tt)))); is = refl }
listed (Ended w k cause) h = record { place = 19; within = word_within parts clock_row event_rows 19 (omega arith); values = (w, (k, (cause, tt))); fit = (h.0, (h.1, (tt, tt))); is = refl }
listed (Replied w conn bytes) h = record { place = 20; within = word_within parts clock_row event_rows 20 (omega arith); values = (w, (conn, (bytes, tt))); fit = (h.0, (h.1, (h.2, tt))); is = refl }
listed (Wrote w conn bytes) h = record { place = 21; within = word_within parts clock_row event_rows 21 (omega arith); values = (w, (conn, (bytes, tt))); fit = (h.0, (h.1, (h.2, tt))); is = refl }
listed (Shut w conn cause) h = record { place = 22; within = word_within parts clock_row event_rows 22 (omega arith); values = (w, (conn, (cause, tt))); fit = (h.0, (h.1, (tt, tt))); is = refl }
listed (Made w to n a) h = record { place = 23; within = word_within parts clock_row event_rows 23 (omega arith); values = (w, (to, (n, (a, tt)))); fit = (h.0, (h.1, (h.2, (h.3, tt)))); is = refl }
listed (Took w from n a) h = record { place = 24; within = word_within parts clock_row event_rows 24 (omega arith); values = (w, (from, (n, (a, tt)))); fit = (h.0, (h.1, (h.2, (tt, tt)))); is = refl }
listed (Pending n) h = record { place = 25; within = word_within parts clock_row event_rows 25 (omega arith); values = (n, tt); fit = (h, tt); is = refl }
listed Quiet h = record { place = 26; within = word_within parts clock_row event_rows 26 (omega arith); values = tt; fit = tt; is = refl }

-- a line is read as the event that has it, and else stops where no event's line goes on
pub event_exact : SomeExact (IsLine EventFits line) event_at
event_exact = table_exact parts parts_are clock_row event_rows EventFits line refl refl told listed

pub one_line : (a b : Event) → EventFits a → EventFits b → line a ≡ line b → a ≡ b
one_line a b f g e = event_exact.exact.set.unique a b (line a) (record { fits = f; text = refl }) (record { fits = g; text = e })
