use Rattle.nc_exact.proofs.Exacts.{resumes_exactly}
use Rattle.nc_exact.proofs.resuming.resumes_exactly.Goals as goal

pub returns : goal.returns
returns c = resumes_exactly
