use Rattle.std.proofs.Common.{ℕ, List, [], ◌++◌, drop, length, arith, sym, ap, ◌≡◌, length-drop, length-append, Ok}
use Rattle.httparse.specs.Grammar.{ChunkLine, print_chunk_line}
use Rattle.httparse.specs.Spans.{IsChunkLineAt}
use Rattle.httparse.specs.Outcome.{IfComplete}
use Rattle.httparse.specs.declared.InvalidChunkSize.{InvalidChunkSize}
use Rattle.httparse.proofs.ChunkLemmas.{chunk_line_unique}
use Rattle.nc_http_head.specs.Heads.{IsLineOf}
use Rattle.nc_http_head.proofs.chunk.size_of_line.Goals as goal

-- a text that is a whole line has no line at its front but itself
line_fills : (text : List ℕ) (len size other : ℕ) (l : ChunkLine) → IsChunkLineAt text len size l → IsLineOf text other → len ≡ length text
line_fills text len size other l at h =
    let same = chunk_line_unique text l h.0 _ _ at.reads h.1 in
    let whole = ap length at.reads.1 in
    let nothing = ap length same.1 in
    let n = at.len_is in
    omega (arith, length-append (print_chunk_line l) (drop len text))

pub returns-else-len-text-clause-none : goal.returns-else-len-text-clause-none
returns-else-len-text-clause-none c size h =
    let at : IfComplete {E = InvalidChunkSize} (Ok c.in-Ok-Complete.field-0) (λ r. (l : ChunkLine) × IsChunkLineAt c.args.text.now r.0 r.1 l) = c.in-Ok-Complete.ensures.complete in
    let there = rw c.in-Ok-Complete.field-0-is at at in
    c.if-len-text.false (line_fills c.args.text.now c.in-Ok-Complete.len c.in-Ok-Complete.size size there.0 there.1 h)
