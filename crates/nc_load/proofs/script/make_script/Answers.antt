use Rattle.std.proofs.Common.{◌≡◌, ◌∙◌, ℕ, List, ap, arith, length}
use Rattle.nc_load.specs.Script.{front, script}
use Rattle.nc_load.proofs.Text.{grown, settled, stepped}
use Rattle.nc_load.proofs.Short.{script_short}
use Rattle.nc_load.proofs.script.make_script.Goals as goal

pub loop-i-preserved : goal.loop-i-preserved
loop-i-preserved c = record {
  text = grown front c.args.seed c.loop-i.i c.loop-i.x c.next-x.result c.draw_of.result c.loop-i.out.items c.put_drawn.new.out.items c.loop-i.invariant.number c.next-x.ensures c.draw_of.ensures c.loop-i.invariant.text c.in_ok-put_drawn.ensures;
  number = stepped c.args.seed c.loop-i.i c.loop-i.x c.next-x.result c.loop-i.invariant.number c.next-x.ensures;
}

pub returns-clause-text : goal.returns-clause-text
returns-clause-text c =
    c.of.ensures
    ∙ settled front c.args.seed c.loop-i.i c.args.size c.loop-i.out.items c.put_settled_at_end.new.out.items (omega arith) c.loop-i.invariant.text c.in_ok-put_settled_at_end.ensures

pub returns-clause-few : goal.returns-clause-few
returns-clause-few c =
    let is : _ ≡ script c.args.seed c.args.size = c.of.ensures ∙ settled front c.args.seed c.loop-i.i c.args.size c.loop-i.out.items c.put_settled_at_end.new.out.items (omega arith) c.loop-i.invariant.text c.in_ok-put_settled_at_end.ensures in
    λ few. omega (arith, script_short c.args.seed c.args.size few, ap (λ (t : List ℕ). length t) is)
