use Rattle.nc_http_head.proofs.Scans.{head_scan}
use Rattle.nc_http_in.proofs.read.read_head.Goals as goal

pub read_whole_head-requires-clause-within : goal.read_whole_head-requires-clause-within
read_whole_head-requires-clause-within c = (head_scan.within c.args.text.now c.in-At.len c.in-At.ensures).1
