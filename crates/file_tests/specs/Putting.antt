-- A client of a put that was asked for a request so many times, and has no job under way.
use Rattle.std.specs.Prelude.{◌≡◌, ℕ, ◌≤◌, List, [], length}
use Rattle.file_pasts.specs.ClientPast.{ClientEvent, requests_sent, open_jobs}
use Rattle.file_pasts.specs.PutDue.{Setup}
use Rattle.file_transfer.specs.declared.put_client.PutClient.{PutClient}
use Rattle.file_transfer.specs.PutClientStands.{CameBy}

pub record IsPutting (m : PutClient) (asked : ℕ) : Type 0 where
  pub setup : Setup
  pub past : List ClientEvent
  pub came : CameBy setup past m
  pub idle : open_jobs past ≡ []
  pub few : length (requests_sent past) ≤ asked
