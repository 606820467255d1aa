use Rattle.std.proofs.Common.{subst}
use Rattle.nc_ident.specs.Refusal.{IsRefusedId}
use Rattle.nc_script.specs.Word.{Word}
use Rattle.nc_script.proofs.Parts.{refused_start}
use Rattle.nc_script.proofs.part.given.Goals as goal

pub returns-in-Err : goal.returns-in-Err
returns-in-Err c =
    let refused = subst (λ (word : Word). IsRefusedId word.bytes c.args.n c.in-Err.refusal) c.word.view_is c.in-Err.ensures.err in
    rw c.start_fault.ensures (refused_start c.args.n c.args.word.now c.in-Err.refusal c.requires.oldest c.requires.newest refused)
