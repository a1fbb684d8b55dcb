-- Worked servers: what is due after each call, found by computation.
use Rattle.std.specs.Prelude.{◌≡◌, ℕ, Some, None, List, [], ◌∷◌, replicate, option_map}
use Rattle.file_messages.specs.declared.kind.Channel.TheVariants as channels
use Rattle.file_messages.specs.declared.kind.CopyKind.TheVariants as kinds
use Rattle.file_messages.specs.declared.fault.FileFault.TheVariants.{Order}
use Rattle.file_messages.specs.declared.job.Work.TheVariants.{Fetch, Place}
use Rattle.file_messages.specs.declared.job.WorkResult.TheVariants.{Fetched, Placed, Refused}
use Rattle.file_messages.specs.declared.job.Work.{Work}
use Rattle.file_messages.specs.declared.message.Reply.{Reply}
use Rattle.file_messages.specs.Messages.{request_bytes, reply_bytes, success, refusal}
use Rattle.file_messages.specs.Runs.{registered_write, end_request, descriptor_of_load, read_of}
use Rattle.file_messages.specs.WorkedMessages.{abc, inline_abc, registered_abc, end_abc}
use Rattle.file_pasts.specs.ServerDue.{ServerEvent, Asked, Filled, Gave, Completed, Replied, Stored, requests, next_job, next_reply, next_group, wants_source}

-- the WRITE of `abc` over page 0
abbrev pub write_abc : List ServerEvent
write_abc = Asked registered_abc ∷ []

abbrev pub fetches : Work
fetches = Fetch (descriptor_of_load 0 0 3)

abbrev pub fetched_abc : List ServerEvent
fetched_abc = Completed (record { number = 0; result = Fetched abc }) ∷ Gave fetches ∷ write_abc

abbrev pub write_reply : Reply
write_reply = success (registered_write 1 0 abc (descriptor_of_load 0 0 3 ∷ [])) 3 []

-- it can't be read: the page is stale
abbrev pub refused_abc : List ServerEvent
refused_abc = Completed (record { number = 0; result = Refused 2 }) ∷ Gave fetches ∷ write_abc

abbrev pub refused_reply : Reply
refused_reply = refusal (registered_write 1 0 abc (descriptor_of_load 0 0 3 ∷ [])) 2

abbrev pub second_write : List ℕ
second_write = request_bytes (registered_write 2 3 abc (descriptor_of_load 1 0 3 ∷ []))

abbrev pub then_second : List ServerEvent
then_second = Asked second_write ∷ Replied refused_reply ∷ refused_abc

pub record ServesSo : Type 0 where
  -- a WRITE without registered pages
  pub at_once : option_map reply_bytes (next_reply kinds.Put (Asked inline_abc ∷ [])) ≡ Some (1 ∷ 128 ∷ 0 ∷ 0 ∷ 1 ∷ 0 ∷ 0 ∷ 0 ∷ 3 ∷ 0 ∷ 0 ∷ 0 ∷ [])
  pub group : next_group kinds.Put (Asked inline_abc ∷ []) ≡ Some abc
  pub no_job : next_job kinds.Put (Asked inline_abc ∷ []) ≡ None
  -- the same again is out of turn, and so is each later request
  pub twice : (requests kinds.Put (Asked inline_abc ∷ Asked inline_abc ∷ [])).fault ≡ Some Order
  pub lasts : (requests kinds.Put (Asked end_abc ∷ Asked inline_abc ∷ Asked inline_abc ∷ [])).fault ≡ Some Order
  pub at_get : (requests kinds.Get (Asked inline_abc ∷ [])).fault ≡ Some Order
  -- over a page
  pub job : next_job kinds.Put write_abc ≡ Some (record { number = 0; work = fetches })
  pub not_yet : next_reply kinds.Put write_abc ≡ None
  pub none_yet : next_group kinds.Put (Gave fetches ∷ write_abc) ≡ None
  pub given_once : next_job kinds.Put (Gave fetches ∷ write_abc) ≡ None
  pub replies : next_reply kinds.Put fetched_abc ≡ Some write_reply
  pub stores : next_group kinds.Put fetched_abc ≡ Some abc
  pub stores_later : next_group kinds.Put (Replied write_reply ∷ fetched_abc) ≡ Some abc
  pub stores_once : next_group kinds.Put (Stored abc ∷ Replied write_reply ∷ fetched_abc) ≡ None
  pub end : next_reply kinds.Put (Asked end_abc ∷ Replied write_reply ∷ fetched_abc) ≡ Some (success (end_request 2 3) 0 [])
  -- an access is refused: with it each later request, without jobs
  pub refuses : option_map reply_bytes (next_reply kinds.Put refused_abc) ≡ Some (1 ∷ 128 ∷ 2 ∷ 0 ∷ 1 ∷ 0 ∷ 0 ∷ 0 ∷ 0 ∷ 0 ∷ 0 ∷ 0 ∷ [])
  pub no_group : next_group kinds.Put refused_abc ≡ None
  pub no_job_then : next_job kinds.Put then_second ≡ None
  pub refuses_then : option_map reply_bytes (next_reply kinds.Put then_second) ≡ Some (1 ∷ 128 ∷ 2 ∷ 0 ∷ 2 ∷ 0 ∷ 0 ∷ 0 ∷ 0 ∷ 0 ∷ 0 ∷ 0 ∷ [])
  pub nothing_stored : next_group kinds.Put (Replied (refusal (registered_write 2 3 abc (descriptor_of_load 1 0 3 ∷ [])) 2) ∷ then_second) ≡ None

-- a READ over registered pages, and the three bytes for it
abbrev pub read_v1 : List ServerEvent
read_v1 = Asked (request_bytes (read_of channels.V1 1)) ∷ []

abbrev pub filled : List ServerEvent
filled = Filled abc ∷ read_v1

abbrev pub places : Work
places = Place (descriptor_of_load 0 0 3) abc

-- 5,000 bytes for it: two pages, and only what is left on the second
abbrev pub filled_5000 : List ServerEvent
filled_5000 = Filled (replicate 5000 7) ∷ read_v1

abbrev pub first_place : Work
first_place = Place (descriptor_of_load 0 0 4096) (replicate 4096 7)

abbrev pub second_place : Work
second_place = Place (descriptor_of_load 1 0 904) (replicate 904 7)

abbrev pub both_placed : List ServerEvent
both_placed =
    Completed (record { number = 0; result = Placed }) ∷ Completed (record { number = 1; result = Placed })
    ∷ Gave second_place ∷ Gave first_place ∷ filled_5000

pub record GivesSo : Type 0 where
  pub wants : wants_source kinds.Get read_v1 ≡ Some 65536
  pub no_job_yet : next_job kinds.Get read_v1 ≡ None
  pub no_reply_yet : next_reply kinds.Get read_v1 ≡ None
  pub wants_once : wants_source kinds.Get filled ≡ None
  pub job : next_job kinds.Get filled ≡ Some (record { number = 0; work = places })
  pub one_job : next_job kinds.Get (Gave places ∷ filled) ≡ None
  pub waits : next_reply kinds.Get (Gave places ∷ filled) ≡ None
  pub replies : next_reply kinds.Get (Completed (record { number = 0; result = Placed }) ∷ Gave places ∷ filled)
      ≡ Some (success (read_of channels.V1 1) 3 [])
  pub empty : next_reply kinds.Get (Filled [] ∷ read_v1) ≡ Some (success (read_of channels.V1 1) 0 [])
  pub inline : next_reply kinds.Get (Filled abc ∷ Asked (request_bytes (read_of channels.None 1)) ∷ []) ≡ Some (success (read_of channels.None 1) 3 abc)
  -- two Places, in the order of the pages; the reply waits for both
  pub places_first : next_job kinds.Get filled_5000 ≡ Some (record { number = 0; work = first_place })
  pub places_second : next_job kinds.Get (Gave first_place ∷ filled_5000) ≡ Some (record { number = 1; work = second_place })
  pub waits_for_both : next_reply kinds.Get (Completed (record { number = 1; result = Placed }) ∷ Gave second_place ∷ Gave first_place ∷ filled_5000) ≡ None
  pub replies_5000 : next_reply kinds.Get both_placed ≡ Some (success (read_of channels.V1 1) 5000 [])
  -- of two refused jobs the first in the list gives the status
  pub first_refusal : next_reply kinds.Get
      (Completed (record { number = 0; result = Refused 3 }) ∷ Completed (record { number = 1; result = Refused 5 }) ∷ Gave second_place ∷ Gave first_place ∷ filled_5000)
      ≡ Some (refusal (read_of channels.V1 1) 3)
  -- END before a reply is out of turn, and at the offset of the bytes given it ends the get
  pub ends : next_reply kinds.Get (Asked (request_bytes (end_request 2 3)) ∷ Replied (success (read_of channels.None 1) 3 abc) ∷ Filled abc ∷ Asked (request_bytes (read_of channels.None 1)) ∷ [])
      ≡ Some (success (end_request 2 3) 0 [])
  pub ends_elsewhere : (requests kinds.Get (Asked (request_bytes (end_request 2 4)) ∷ Replied (success (read_of channels.None 1) 3 abc) ∷ Filled abc ∷ Asked (request_bytes (read_of channels.None 1)) ∷ [])).fault ≡ Some Order
