use Rattle.std.proofs.Common.{◌≡◌, ◌++◌, ◌∷◌, [], ℕ, ◌+◌, ◌/◌, ◌%◌, ap, sym, ◌∙◌, append_assoc, arith, List, subst}
use Rattle.std.specs.Prelude.{OnOk}
use Rattle.std.specs.Fmt.{decimal}
use Rattle.std.proofs.lemmas.Fmt.{decimal_digit, decimal_step}
use Rattle.nc_types.proofs.Behind.{on-err, stays}
use Rattle.nc_types.proofs.text.+put_digits.Goals as goal

pub returns-then-n-lt10-clause-ok : goal.returns-then-n-lt10-clause-ok
returns-then-n-lt10-clause-ok t c = rw (decimal_digit c.args.n c.if-n-lt10.true) c.put_digit.ensures.ok

pub returns-then-n-lt10-clause-err : goal.returns-then-n-lt10-clause-err
returns-then-n-lt10-clause-err t c = on-err c.put_digit.result _ _ (stays c.args.out.now.items c.put_digit.new.out.items) c.put_digit.ensures.err

-- the last digit stands behind the others
pub returns-clause-ok : goal.returns-clause-ok
returns-clause-ok t c =
    subst (λ (text : List ℕ). OnOk c.put_digit-2.result (c.put_digit-2.new.out.items ≡ text))
    (ap (λ (text : List ℕ). text ++ (48 + c.args.n % 10) ∷ []) c.in_ok-put_digits.ensures.ok
    ∙ append_assoc c.args.out.now.items (decimal (c.args.n / 10)) ((48 + c.args.n % 10) ∷ [])
    ∙ ap (λ (text : List ℕ). c.args.out.now.items ++ text) (sym (decimal_step c.args.n (omega arith) (omega arith))))
    c.put_digit-2.ensures.ok

pub returns-clause-err : goal.returns-clause-err
returns-clause-err t c = on-err c.put_digit-2.result _ _ (λ e. (decimal (c.args.n / 10), e ∙ c.in_ok-put_digits.ensures.ok)) c.put_digit-2.ensures.err
