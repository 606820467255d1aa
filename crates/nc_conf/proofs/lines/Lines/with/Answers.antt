use Rattle.std.proofs.Common.{◌+◌, ◌<◌, ◌^◌, ◌∷◌, [], length, map, refl, sym, subst, ap, ◌∙◌}
use Rattle.std.proofs.lemmas.List.{map-append}
use Rattle.std.specs.Prelude.{IfSome, true, false}
use Rattle.nc_conf.specs.Lines.{entry_with, KnowsLines, KnowsPaths}
use Rattle.nc_conf.proofs.Known.{lines_with, count_fits}
use Rattle.nc_conf.proofs.lines.Lines.with.Goals as goal

pub entry_with-entry-requires : goal.entry_with-entry-requires
entry_with-entry-requires c =
    let few = subst (λ ds. length ds + 1 < 2 ^ 64) (sym c.self.view_is) c.requires in
    subst (λ o. IfSome o (λ e. e.count + 1 < 2 ^ 64)) (sym c.get.ensures.value) (count_fits _ c.self.inside.entries (record { block = c.args.d.now.within; text = c.as_slice.result }) c.self.invariant.0 few)

pub invariant_of-result : goal.invariant_of-result
invariant_of-result c =
    let more = ap (map (λ d. d.now)) c.in_ok-push.ensures.items ∙ map-append (λ d. d.now) c.self.inside.directives.items (c.args.d ∷ []) in
    let entry = c.entry_with-entry.ensures ∙ ap (λ o. entry_with o c.args.d.now) c.get.ensures.value in
    let lines = lines_with _ c.args.d.now (record { block = c.args.d.now.within; text = c.as_slice.result }) c.self.inside.entries c.insert.new.self c.entry_with-entry.result refl c.as_slice.ensures entry c.in_ok-insert.ensures.updates c.self.invariant.0 in
    (subst (λ ds. KnowsLines ds c.insert.new.self) (sym more) lines, subst (λ ds. KnowsPaths true ds c.add_path.new.paths) (sym more) (c.in_ok-add_path.ensures _ c.self.invariant.1), subst (λ ds. KnowsPaths false ds c.add_path-2.new.paths) (sym more) (c.in_ok-add_path-2.ensures _ c.self.invariant.2))
