use Rattle.std.proofs.Common.{◌≡◌, List, ℕ, sym, subst}
use Rattle.httparse.specs.Grammar.{RequestHead}
use Rattle.nc_http_head.specs.Heads.{IsHead, request_of}
use Rattle.nc_http_in.specs.Held.{begun}
use Rattle.nc_http_in.specs.Reading.{IsTurn}
use Rattle.nc_http_in.specs.declared.stage.Turn.{Turn}
use Rattle.nc_http_in.proofs.Heads as heads
use Rattle.nc_http_in.proofs.read.read_whole_head.Goals as goal

pub returns-in-Ok-Some : goal.returns-in-Ok-Some
returns-in-Ok-Some c =
    let found = rw c.in-Ok-Some.field-0-is at c.in-Ok-Some.ensures.some in
    let head = subst (λ (t : List ℕ). (h : RequestHead) × IsHead t h × (c.in-Ok-Some.request ≡ request_of h)) c.front.ensures found in
    subst (λ (t : Turn). IsTurn begun c.args.text.now t) (sym c.behind_head.ensures)
    (heads.head_turn c.args.text.now c.args.len c.in-Ok-Some.request c.requires.begun c.requires.end c.requires.fits head)
