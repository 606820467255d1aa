-- The alerts as a table: the word, the fields in their order, and what they make.
use Rattle.std.specs.Prelude.{ℕ, List, [], ◌∷◌, codes}
use Rattle.nc_grammar.specs.Reading.{Read}
use Rattle.nc_grammar.specs.Rows.{Row, line_at}
use Rattle.nc_journal_read.specs.Shape.{number, text, id, subs, optional_number, optional_text, optional_id, optional_info, optional_full, kit, field}
use Rattle.nc_journal.specs.declared.alert.AlertLine.{AlertLine}
use Rattle.nc_journal.specs.declared.alert.AlertLine.TheVariants as alerts

-- `publish` and its fields
abbrev pub publish_row : Row kit AlertLine
publish_row = record {
  word = codes "publish";
  fields = field (codes "r") number ∷ field (codes "c") text ∷ field (codes "len") number ∷ field (codes "timeout") number
      ∷ field (codes "ct") optional_text ∷ field (codes "body") text ∷ [];
  make = λ x. alerts.Publish x.0 x.1.0 x.1.1.0 x.1.1.1.0 x.1.1.1.1.0 x.1.1.1.1.1.0;
}

-- `pubanswer` and its fields
abbrev pub publish_answer_row : Row kit AlertLine
publish_answer_row = record {
  word = codes "pubanswer";
  fields = field (codes "r") number ∷ field (codes "status") number ∷ field (codes "info") optional_info ∷ field (codes "full") optional_full ∷ [];
  make = λ x. alerts.PubAnswer x.0 x.1.0 x.1.1.0 x.1.1.1.0;
}

-- `look` and its fields
abbrev pub look_row : Row kit AlertLine
look_row = record {
  word = codes "look";
  fields = field (codes "no") number ∷ field (codes "c") text ∷ field (codes "after") id ∷ field (codes "fence") number ∷ [];
  make = λ x. alerts.Look x.0 x.1.0 x.1.1.0 x.1.1.1.0;
}

-- `lookanswer` and its fields
abbrev pub look_answer_row : Row kit AlertLine
look_answer_row = record {
  word = codes "lookanswer";
  fields = field (codes "no") number ∷ field (codes "q") number ∷ field (codes "floor") number ∷ field (codes "found") optional_id
      ∷ field (codes "g") optional_number ∷ field (codes "slot") optional_number ∷ [];
  make = λ x. alerts.LookAnswer x.0 x.1.0 x.1.1.0 x.1.1.1.0 x.1.1.1.1.0 x.1.1.1.1.1.0;
}

-- `notice` and its fields
abbrev pub notice_row : Row kit AlertLine
notice_row = record {
  word = codes "notice";
  fields = field (codes "c") text ∷ field (codes "id") id ∷ field (codes "g") number ∷ field (codes "slot") number ∷ [];
  make = λ x. alerts.Notice x.0 x.1.0 x.1.1.0 x.1.1.1.0;
}

-- `edge` and its fields
abbrev pub edge_row : Row kit AlertLine
edge_row = record {
  word = codes "edge";
  fields = field (codes "no") number ∷ field (codes "k") number ∷ field (codes "c") text ∷ field (codes "fence") number ∷ [];
  make = λ x. alerts.Edge x.0 x.1.0 x.1.1.0 x.1.1.1.0;
}

-- `edgeanswer` and its fields
abbrev pub edge_answer_row : Row kit AlertLine
edge_answer_row = record {
  word = codes "edgeanswer";
  fields = field (codes "no") number ∷ field (codes "q") number ∷ field (codes "floor") number ∷ field (codes "last") id ∷ [];
  make = λ x. alerts.EdgeAnswer x.0 x.1.0 x.1.1.0 x.1.1.1.0;
}

-- `join` and its fields
abbrev pub join_row : Row kit AlertLine
join_row = record {
  word = codes "join";
  fields = field (codes "c") text ∷ field (codes "k") number ∷ [];
  make = λ x. alerts.Join x.0 x.1.0;
}

-- `part` and its fields
abbrev pub part_row : Row kit AlertLine
part_row = record {
  word = codes "part";
  fields = field (codes "c") text ∷ field (codes "k") number ∷ [];
  make = λ x. alerts.Part x.0 x.1.0;
}

-- `delete` and its fields
abbrev pub delete_row : Row kit AlertLine
delete_row = record {
  word = codes "delete";
  fields = field (codes "r") number ∷ field (codes "c") text ∷ [];
  make = λ x. alerts.Delete x.0 x.1.0;
}

-- `delanswer` and its fields
abbrev pub delete_answer_row : Row kit AlertLine
delete_answer_row = record {
  word = codes "delanswer";
  fields = field (codes "r") number ∷ field (codes "status") number ∷ field (codes "info") optional_info ∷ [];
  make = λ x. alerts.DelAnswer x.0 x.1.0 x.1.1.0;
}

-- `gone` and its fields
abbrev pub gone_row : Row kit AlertLine
gone_row = record {
  word = codes "gone";
  fields = field (codes "c") text ∷ field (codes "subs") subs ∷ [];
  make = λ x. alerts.Gone x.0 x.1.0;
}

-- `info` and its fields
abbrev pub info_row : Row kit AlertLine
info_row = record {
  word = codes "info";
  fields = field (codes "r") number ∷ field (codes "c") text ∷ [];
  make = λ x. alerts.Info x.0 x.1.0;
}

-- `infoanswer` and its fields
abbrev pub info_answer_row : Row kit AlertLine
info_answer_row = record {
  word = codes "infoanswer";
  fields = field (codes "r") number ∷ field (codes "status") number ∷ field (codes "info") optional_info ∷ [];
  make = λ x. alerts.InfoAnswer x.0 x.1.0 x.1.1.0;
}

-- the alerts behind the first
abbrev pub alert_rows : List (Row kit AlertLine)
alert_rows = publish_answer_row ∷ look_row ∷ look_answer_row ∷ notice_row ∷ edge_row ∷ edge_answer_row ∷ join_row ∷ part_row
    ∷ delete_row ∷ delete_answer_row ∷ gone_row ∷ info_row ∷ info_answer_row ∷ []

-- reads an alert: its word, and its fields
abbrev pub alert_at : List ℕ → Read AlertLine
alert_at t = line_at kit publish_row alert_rows t
