-- What comes of a job, and the event of its page (this project's own).
use Rattle.std.specs.Prelude.{◌≡◌, ℕ, List, length}
use Rattle.smbd_base.specs.declared.token.TheConstants.{PAGE_SIZE}
use Rattle.smbd_base.specs.declared.right.Right.{Right}
use Rattle.smbd_base.specs.declared.page_event.PageEvent.{PageEvent}
use Rattle.smbd_base.specs.declared.page_event.PageEvent.TheVariants as events
use Rattle.smbd_base.specs.Tokens.{PageToken, IsToken, number_of}
use Rattle.buffer_descriptor.specs.declared.descriptor.Descriptor.{Descriptor}
use Rattle.file_messages.specs.declared.job.Job.{Job}
use Rattle.file_messages.specs.declared.job.Work.{Work}
use Rattle.file_messages.specs.declared.job.Work.TheVariants.{Load, Fetch, Place, Unload}
use Rattle.file_messages.specs.declared.job.WorkResult.{WorkResult}
use Rattle.file_messages.specs.declared.job.WorkResult.TheVariants.{Loaded, Fetched, Placed, Unloaded}
use Rattle.file_messages.specs.declared.job.Completion.{Completion}
use Rattle.registration.specs.Regions.{descriptor_of_page}
use Rattle.remote_access.specs.Covers.{place_in_page}

-- a load of a page: it has the page's next token, which its descriptor names
pub record IsLoad (page : ℕ) (right : Right) (bytes : List ℕ) (d : Descriptor) (token : PageToken) (given : Right) (loaded : List ℕ) : Type 0 where
  pub lawful : IsToken token
  pub page_is : token.page ≡ page
  pub right_is : given ≡ right
  pub bytes_are : loaded ≡ bytes
  pub named : d ≡ descriptor_of_page token (length bytes)

-- an access of these bytes by a descriptor: its token's page, at the descriptor's place there
pub record IsAccess (d : Descriptor) (bytes : List ℕ) (token : PageToken) (at : ℕ) (moved : List ℕ) : Type 0 where
  pub token_is : number_of token ≡ d.token
  pub place_is : at ≡ place_in_page token.page d
  pub bytes_are : moved ≡ bytes
  pub length_is : length moved ≡ d.length

-- the bytes that a page had when it was unloaded
pub record IsUnload (token : PageToken) (bytes : List ℕ) (of : PageToken) (left : List ℕ) : Type 0 where
  pub token_is : of ≡ token
  pub bytes_are : left ≡ bytes
  pub whole : length bytes ≡ PAGE_SIZE

-- the result of a piece of work, and the event that it makes; a worker refuses nothing
abbrev pub IsDoneBy : Work → WorkResult → PageEvent → Type 0
IsDoneBy (Load page right bytes) (Loaded d) (events.Load token given loaded) = IsLoad page right bytes d token given loaded
IsDoneBy (Fetch d) (Fetched bytes) (events.Fetch token at fetched) = IsAccess d bytes token at fetched
IsDoneBy (Place d bytes) Placed (events.Place token order at placed) = IsAccess d bytes token at placed
IsDoneBy (Unload token) (Unloaded bytes) (events.Unload of left) = IsUnload token bytes of left
IsDoneBy work result event = ⊥

-- a finished job: its completion has its number
pub record IsDone (j : Job) (c : Completion) (e : PageEvent) : Type 0 where
  pub number : c.number ≡ j.number
  pub done : IsDoneBy j.work c.result e
