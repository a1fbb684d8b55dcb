-- A client of a get that was asked for a request so many times, and has no job under way.
use Rattle.std.specs.Prelude.{◌≡◌, ℕ, ◌≤◌, List, [], length}
use Rattle.file_messages.specs.declared.kind.Channel.{Channel}
use Rattle.file_pasts.specs.ClientPast.{ClientEvent, requests_sent, open_jobs}
use Rattle.file_transfer.specs.declared.get_client.GetClient.{GetClient}
use Rattle.file_transfer.specs.GetClientStands.{CameBy}

pub record IsGetting (m : GetClient) (asked : ℕ) : Type 0 where
  pub channel : Channel
  pub past : List ClientEvent
  pub came : CameBy channel past m
  pub idle : open_jobs past ≡ []
  pub few : length (requests_sent past) ≤ asked
