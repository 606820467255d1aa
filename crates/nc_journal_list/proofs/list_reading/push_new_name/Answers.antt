use Rattle.std.proofs.Common.{arith, sym, ap, ◌∙◌, ◌-◌, drop, take, length}
use Rattle.nc_journal_list.specs.NameReader.{is_among}
use Rattle.nc_journal_list.proofs.Listing.{closing, repeated_name, distinct_put}
use Rattle.nc_journal_list.proofs.list_reading.push_new_name.Goals as goal

pub overflow_sub-read : goal.overflow_sub-read
overflow_sub-read c = let k = closing c.args.reader.now _ c.quoted.new.self c.in_ok-bytes.ensures in omega (arith, k.shorter, c.left.ensures, ap length c.rest-start.ensures)

pub overflow_sub-read-then-has : goal.overflow_sub-read-then-has
overflow_sub-read-then-has c = let k = closing c.args.reader.now _ c.quoted.new.self c.in_ok-bytes.ensures in omega (arith, k.shorter, c.left.ensures, ap length c.rest-start.ensures)

pub returns-then-has-clause-read : goal.returns-then-has-clause-read
returns-then-has-clause-read c =
    repeated_name c.args.names.now c.args.reader.now _ c.quoted.new.self c.new.result (length c.rest-start.result.now - c.left.result - 1) c.in_ok-bytes.ensures
    (ap (λ n. is_among n c.args.names.now) (sym c.as_slice.ensures) ∙ sym c.has.ensures ∙ c.if-has.true)
    (ap (λ s. length s - c.left.result - 1) c.rest-start.ensures ∙ ap (λ n. length c.args.reader.now - n - 1) c.left.ensures)
    (c.new.ensures ∙ ap (λ s. take (length s - (length c.rest-start.result.now - c.left.result - 1)) (drop (length c.rest-start.result.now - c.left.result - 1) s)) c.rest-start.ensures)

pub returns-clause-distinct : goal.returns-clause-distinct
returns-clause-distinct c =
    distinct_put c.args.names.now c.push.new.self _
    (ap (λ n. is_among n c.args.names.now) (sym c.as_slice.ensures) ∙ sym c.has.ensures ∙ c.if-has.false)
    c.in_ok-push.ensures.ok
