use Rattle.std.proofs.Common.{ℕ, List, ◌∷◌, [], ◌++◌, ◌≡◌, ◌∙◌, ap, subst, OnOk}
use Rattle.nc_load.specs.DrawnLine.{clock_line}
use Rattle.nc_load.specs.Script.{configuration, rule_line, ended, text_of}
use Rattle.nc_load.proofs.Text.{five_more}
use Rattle.nc_load.proofs.script.put_front.Goals as goal

pub returns : goal.returns
returns c =
    subst (λ (text : List ℕ). OnOk c.put_first_clock-4.result (c.put_first_clock-4.new.out.items ≡ text))
    (ap (λ (text : List ℕ). text ++ ended (clock_line 3 1000))
    (c.in_ok-put_first_clock-3.ensures ∙ ap (λ (text : List ℕ). text ++ ended (clock_line 2 1000))
    (c.in_ok-put_first_clock-2.ensures ∙ ap (λ (text : List ℕ). text ++ ended (clock_line 1 1000))
    (c.in_ok-put_first_clock.ensures ∙ ap (λ (text : List ℕ). text ++ ended (clock_line 0 1000)) c.in_ok-put_configuration.ensures)))
    ∙ five_more c.args.out.now.items (text_of (configuration ++ rule_line ∷ [])) (ended (clock_line 0 1000)) (ended (clock_line 1 1000)) (ended (clock_line 2 1000)) (ended (clock_line 3 1000)))
    c.put_first_clock-4.ensures
