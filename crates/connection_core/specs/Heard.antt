-- What a frame says to the end that takes it.
use Rattle.std.specs.Prelude.{◌≡◌, ℕ, Bool, true, false, Option, Some, None, Result, Ok, Err, List}
use Rattle.smbd_base.specs.declared.end_id.EndId.{EndId}
use Rattle.smbd_base.specs.declared.event.Event.{Event}
use Rattle.smbd_base.specs.declared.faults.NegotiateFault.{NegotiateFault}
use Rattle.smbd_base.specs.declared.faults.TakeFault.{TakeFault}
use Rattle.smbd_base.specs.declared.faults.TakeFault.TheVariants as faults
use Rattle.smbd_base.specs.Counts.{is_unheard}
use Rattle.smbd_base.specs.DataFrame.{data_frame_of}
use Rattle.smbd_base.specs.History.{asks, data_fault, negotiation_fault}
use Rattle.smbd_base.specs.Limits.{Limits}
use Rattle.transfer_msg.specs.Shown.{shown_result}
use Rattle.reassembly.specs.Gathering.{Gathering}
use Rattle.connection_core.specs.Gatherer.{gatherer_with, message_in}
use Rattle.connection_core.specs.Peers.{Says}
use Rattle.connection_core.specs.declared.heard.Heard.{Heard}
use Rattle.connection_core.specs.declared.heard.Heard.TheVariants.{Negotiation, Data}
use Rattle.connection_core.specs.declared.peer.Peer.{Peer}

-- the negotiation message says this, or is refused for this
abbrev pub IsNegotiation : EndId → Limits → List ℕ → Result Peer NegotiateFault → Type 0
IsNegotiation side limits frame (Ok peer) = (negotiation_fault side limits frame ≡ None) × Says side limits frame peer
IsNegotiation side limits frame (Err fault) = negotiation_fault side limits frame ≡ Some fault

-- an end of this past reads the frame so: the first one as a negotiation message, and a later one as a data transfer message
abbrev pub IsHeard : EndId → Limits → List Event → List ℕ → Heard → Type 0
IsHeard side limits past frame (Negotiation said) = (is_unheard past ≡ true) × IsNegotiation side limits frame said
IsHeard side limits past frame (Data read) = (is_unheard past ≡ false) × (shown_result read ≡ data_frame_of frame)

-- why it is refused by an end that gathers messages of at most so many bytes, while so many are expected
abbrev pub fault_in : ℕ → ℕ → Heard → Option TakeFault
fault_in max expected (Negotiation (Ok peer)) = None
fault_in max expected (Negotiation (Err fault)) = Some (faults.Negotiate fault)
fault_in max expected (Data read) = data_fault max expected (shown_result read)

-- it asks for a response: a negotiation message never does
abbrev pub asks_in : Heard → Bool
asks_in (Negotiation said) = false
asks_in (Data read) = asks (shown_result read)

-- with the piece that it has, where it has one
abbrev pub gathered_with : Gathering → Heard → Gathering
gathered_with g (Negotiation said) = g
gathered_with g (Data read) = gatherer_with g (shown_result read)

-- the message that its piece ends, where it ends one
abbrev pub message_heard : Gathering → Heard → Option (List ℕ)
message_heard g (Negotiation said) = None
message_heard g (Data read) = message_in g (shown_result read)
