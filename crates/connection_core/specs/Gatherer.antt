-- What an end has gathered of the message that is begun (MS-SMBD 3.1.5.8).
use Rattle.std.specs.Prelude.{ℕ, ◌==◌, Option, None, Result, Ok, Err, List, length, if◌then◌else◌}
use Rattle.smbd_base.specs.declared.end_id.EndId.{EndId}
use Rattle.smbd_base.specs.declared.event.Event.{Event}
use Rattle.smbd_base.specs.declared.faults.FrameFault.{FrameFault}
use Rattle.smbd_base.specs.DataFrame.{DataFrame}
use Rattle.smbd_base.specs.Delivery.{gathered}
use Rattle.smbd_base.specs.History.{bytes_expected}
use Rattle.smbd_base.specs.Limits.{Limits}
use Rattle.reassembly.specs.Gathering.{Gathering, piece_of, with_accepted, message_of}

-- the gatherer of an end: what its past has begun and still expects, of a message of at most so many bytes
abbrev pub gatherer_of : EndId → Limits → List Event → Gathering
gatherer_of side limits past = record {
  max = limits.fragmented_size;
  begun = (gathered side limits past).begun;
  expected = bytes_expected side limits past;
  broken = None;
}

-- with the piece of a data transfer message, where it has one
abbrev pub gatherer_with : Gathering → Result DataFrame FrameFault → Gathering
gatherer_with g (Err fault) = g
gatherer_with g (Ok d) = if length d.payload == 0 then g else with_accepted g (piece_of d.payload d.remaining)

-- the message that the piece of a data transfer message ends, where it ends one
abbrev pub message_in : Gathering → Result DataFrame FrameFault → Option (List ℕ)
message_in g (Err fault) = None
message_in g (Ok d) = if length d.payload == 0 then None else message_of g (piece_of d.payload d.remaining)
