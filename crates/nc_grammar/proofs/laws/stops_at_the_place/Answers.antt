use Rattle.std.proofs.Common.{◌∷◌}
use Rattle.nc_grammar.specs.Number.{is_digit, IsNumber, number_at}
use Rattle.nc_grammar.specs.Digits.{IsDigits, digits_at}
use Rattle.nc_grammar.specs.Label.{IsLabel, nothing, label_at, IsWord, word_stays, word_at}
use Rattle.nc_grammar.specs.Quoted.{IsQuoted, quoted_at}
use Rattle.nc_grammar.proofs.Label.{label_exact}
use Rattle.nc_grammar.proofs.Number.{number_exact}
use Rattle.nc_grammar.proofs.Digits.{digits_exact}
use Rattle.nc_grammar.proofs.Word.{word_exact}
use Rattle.nc_grammar.proofs.Quoted.{quoted_exact}
use Rattle.nc_grammar.proofs.Whole.{whole_is}
use Rattle.nc_grammar.proofs.laws.stops_at_the_place.Goals as goal

pub returns : goal.returns
returns c =
    record {
      labels = λ label. whole_is (IsLabel label) nothing (label_at label) (label_exact label);
      numbers = λ limit small. whole_is (IsNumber limit) is_digit (number_at limit) (number_exact limit small);
      digits = λ most limit some. whole_is (IsDigits most limit) is_digit (digits_at most limit) (digits_exact most limit some);
      words = λ word words once. whole_is (IsWord (word ∷ words)) (word_stays (word ∷ words)) (word_at (word ∷ words)) (word_exact word words once);
      quoted_texts = whole_is IsQuoted nothing quoted_at quoted_exact;
    }
