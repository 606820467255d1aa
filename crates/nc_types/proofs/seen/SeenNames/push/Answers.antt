use Rattle.std.proofs.Common.{arith, ◌∙◌, ◌++◌, ◌∷◌, [], ap, length}
use Rattle.nc_types.proofs.LaterNames.{none_yet, one_more}
use Rattle.nc_types.proofs.seen.SeenNames.push.Goals as goal
use Rattle.nc_types.proofs.seen.SeenNames.push.Goals.{then-len-ge-FEW+in_ok-bytes+in_ok-insert, else-len-ge-FEW}

pub invariant_of-self-2 : goal.invariant_of-self-2
invariant_of-self-2 c =
    let kept = c.in_ok-reserve.ensures.items in
    elim c.if-len-ge-FEW.branch [
      | then-len-ge-FEW+in_ok-bytes+in_ok-insert w ↦
          let same = ap (λ s. s.names.items) w.self-inside-is ∙ kept in
          one_more c.self.inside.names.items c.push_reserved.new.self.items c.args.name w.into_vec.result c.self.inside.later c.if-len-ge-FEW.self-inside.later
          (omega (arith, ap length kept, c.len.ensures))
          (c.push_reserved.ensures.items ∙ ap (λ names. names ++ c.args.name ∷ []) same)
          (w.into_vec.ensures ∙ w.in_ok-bytes.ensures ∙ c.name.view_is)
          (ap (λ s. s.later.keys) w.self-inside-is ∙ w.in_ok-insert.ensures.keys)
          c.self.invariant
      | else-len-ge-FEW w ↦
          let same = ap (λ s. s.names.items) w.self-inside-is ∙ kept in
          none_yet c.self.inside.names.items c.push_reserved.new.self.items c.args.name c.self.inside.later c.if-len-ge-FEW.self-inside.later
          (omega (arith, ap length kept, c.len.ensures, w.if-len-ge-FEW.false))
          (c.push_reserved.ensures.items ∙ ap (λ names. names ++ c.args.name ∷ []) same)
          (ap (λ s. s.later) w.self-inside-is)
          c.self.invariant
    ]
