-- What the report of a copy that is done tells (this project's own).
use Rattle.std.specs.Prelude.{◌≡◌, ℕ, true, List, length}
use Rattle.copy_runs.specs.Runs.{request_messages}
use Rattle.copy_parts.specs.declared.options.CopyOptions.{CopyOptions}
use Rattle.end_workers.specs.declared.copy.CopyReport.{CopyReport}

-- the number of the bytes, and that of the requests for them, END included
pub record TellsAll (o : CopyOptions) (bytes : List ℕ) (report : CopyReport) : Type 0 where
  pub bytes_read : report.length ≡ length bytes
  pub requests_made : report.requests ≡ length (request_messages o.kind o.channel o.limits.pages true bytes)
