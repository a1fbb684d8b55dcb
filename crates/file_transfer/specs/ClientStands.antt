-- How the requests of a client's machine, of a put or of a get, stand after its past.
use Rattle.std.specs.Prelude.{◌≡◌, Option, Some, None, Result, Ok, Err, List, [], ◌∷◌, length, map}
use Rattle.std.specs.declared.vec.Vec.{Vec}
use Rattle.std.specs.declared.alloc.Global.{Global}
use Rattle.buffer_descriptor.specs.declared.descriptor.Descriptor.{Descriptor}
use Rattle.file_messages.specs.declared.fault.ReplyFault.{ReplyFault}
use Rattle.file_messages.specs.declared.message.Request.{Request}
use Rattle.file_messages.specs.declared.message.Asked.{Asked}
use Rattle.file_transfer.specs.declared.loaded_page.LoadedPage.{LoadedPage}
use Rattle.file_transfer.specs.declared.client_requests.ClientRequests.{ClientRequests}
use Rattle.file_transfer.specs.declared.client_requests.Unanswered.{Unanswered}
use Rattle.file_messages.specs.Messages.{asked_by}
use Rattle.file_pasts.specs.ClientPast.{ClientEvent, Sent, requests_sent, answers}

-- what a reply has to answer, and the descriptors that the request named
pub record Awaited : Type 0 where
  pub asked : Asked
  pub named : List Descriptor

abbrev pub descriptor_in : LoadedPage → Descriptor
descriptor_in page = page.descriptor

abbrev pub pages_named : Vec LoadedPage Global → List Descriptor
pages_named pages = map descriptor_in pages.items

abbrev pub awaited_in : Unanswered → Awaited
awaited_in request = record { asked = request.asked; named = pages_named request.pages }

abbrev pub awaited_by : Request → Awaited
awaited_by r = record { asked = asked_by r; named = r.descriptors }

-- what the oldest of these requests named
abbrev pub first_named : List Request → List Descriptor
first_named [] = []
first_named (r ∷ later) = r.descriptors

abbrev pub first_asked : List Unanswered → Option Asked
first_asked [] = None
first_asked (request ∷ later) = Some request.asked

pub record AskedStand (past : List ClientEvent) (q : ClientRequests) : Type 0 where
  pub unanswered : map awaited_in q.unanswered.items ≡ map awaited_by (answers past).unanswered
  pub sent : q.sent ≡ length (requests_sent past)
  pub fault : q.fault ≡ (answers past).fault

abbrev pub past_after_sending : Option Request → List ClientEvent → List ClientEvent
past_after_sending None past = past
past_after_sending (Some r) past = Sent r ∷ past

abbrev pub with_error : {A : Type 0} → Result A ReplyFault → Option ReplyFault
with_error (Ok value) = None
with_error (Err fault) = Some fault
