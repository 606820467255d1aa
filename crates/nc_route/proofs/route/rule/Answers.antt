use Rattle.std.proofs.Common.{rules, ◌≡◌, sym, ap, subst, true, false, Some}
use Rattle.std.specs.Option.{option_copied}
use Rattle.nc_route.specs.declared.decision.Decision.{Decision}
use Rattle.nc_types.specs.Text.{begins_slash}
use Rattle.nc_route.specs.Rules.{has_role, Decides}
use Rattle.nc_route.specs.Place.{IsLocationOf}
use Rattle.nc_route.proofs.Steps.{no_slash, no_place, placed, keeps_early, found_so}
use Rattle.nc_route.proofs.route.rule.Goals as goal

pub returns-then-not-begins_slash-clause-decided : goal.returns-then-not-begins_slash-clause-decided
returns-then-not-begins_slash-clause-decided c =
    let conf = c.args.conf.now in
    let q = c.args.request.now in
    let slash : begins_slash q.path ≡ false = search rules in
    subst (λ (d : Decision). Decides conf q d) (sym c.refuse.ensures) (no_slash conf q slash)

pub returns-then-not-has_role-clause-decided : goal.returns-then-not-has_role-clause-decided
returns-then-not-has_role-clause-decided c =
    let conf = c.args.conf.now in
    let q = c.args.request.now in
    let l = c.in-Some.location.now in
    let slash : begins_slash q.path ≡ true = search rules in
    let role : has_role l ≡ false = search rules in
    let ls : c.as_slice.result.now ≡ conf.locations = search rules in
    let is : IsLocationOf q.path conf.locations (Some l) = found_so c.as_slice-path.result.now q.path c.as_slice.result.now conf.locations (option_copied c.location_of.result) (Some l) c.as_slice-path.ensures ls (ap option_copied c.in-Some.is) c.location_of.ensures in
    subst (λ (d : Decision). Decides conf q d) (sym c.refuse-then-not-has_role.ensures) (no_place conf q (Some l) is slash role)

pub returns-clause-decided : goal.returns-clause-decided
returns-clause-decided c =
    let conf = c.args.conf.now in
    let q = c.args.request.now in
    let l = c.in-Some.location.now in
    let slash : begins_slash q.path ≡ true = search rules in
    let role : has_role l ≡ true = search rules in
    let ls : c.as_slice.result.now ≡ conf.locations = search rules in
    let is : IsLocationOf q.path conf.locations (Some l) = found_so c.as_slice-path.result.now q.path c.as_slice.result.now conf.locations (option_copied c.location_of.result) (Some l) c.as_slice-path.ensures ls (ap option_copied c.in-Some.is) c.location_of.ensures in
    placed conf q l c.at_location.result is slash role c.at_location.ensures.decided

pub returns-clause-wanting : goal.returns-clause-wanting
returns-clause-wanting c =
    let conf = c.args.conf.now in
    let q = c.args.request.now in
    let l = c.in-Some.location.now in
    let slash : begins_slash q.path ≡ true = search rules in
    let role : has_role l ≡ true = search rules in
    let ls : c.as_slice.result.now ≡ conf.locations = search rules in
    let is : IsLocationOf q.path conf.locations (Some l) = found_so c.as_slice-path.result.now q.path c.as_slice.result.now conf.locations (option_copied c.location_of.result) (Some l) c.as_slice-path.ensures ls (ap option_copied c.in-Some.is) c.location_of.ensures in
    keeps_early conf q l c.at_location.result is slash role c.at_location.ensures.wanting
