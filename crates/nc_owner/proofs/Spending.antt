-- Where no entry passes a test, none is taken out, and none passes it then.
use Rattle.std.proofs.Common.{◌≡◌, ◌∙◌, Bool, List, find, None, sym, ap}
use Rattle.nc_buffer.specs.declared.entry.Entry.{Entry}
use Rattle.nc_buffer.specs.Buffer.{without_first}
use Rattle.nc_buffer.proofs.BufferLaws.{takes-one}
use Rattle.nc_owner.specs.Backlog.{BacklogAt}
use Rattle.nc_owner.proofs.Leaves.{with_rest}

pub none_left : (test : Entry → Bool) (b rest : BacklogAt) → None ≡ find test b.entries → rest ≡ with_rest (without_first test b.entries) b → find test rest.entries ≡ None
none_left test b rest is kept =
    ap (λ (r : BacklogAt). find test r.entries) kept ∙ (ap (λ (l : List Entry). find test l) ((takes-one test b.entries).none_leaves (sym is)) ∙ sym is)
