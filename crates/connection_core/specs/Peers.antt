-- What an end keeps of its peer's negotiation message.
use Rattle.std.specs.Prelude.{◌≡◌, ℕ, true, false, List}
use Rattle.smbd_base.specs.declared.agreed.Agreed.{Agreed}
use Rattle.smbd_base.specs.declared.end_id.EndId.{EndId}
use Rattle.smbd_base.specs.declared.end_id.EndId.TheVariants.{Client, Server}
use Rattle.smbd_base.specs.declared.event.Event.{Event}
use Rattle.smbd_base.specs.Limits.{Limits}
use Rattle.smbd_base.specs.Counts.{is_unheard}
use Rattle.smbd_base.specs.History.{is_welcomed, peer_negotiation, settled_by}
use Rattle.smbd_base.specs.NegotiateMessages.{request_fields, IsLawfulRequest, IsLawfulAgreement}
use Rattle.negotiate_msg.specs.Shown.{shown_request}
use Rattle.negotiate_msg.specs.declared.request.NegotiateRequest.{NegotiateRequest}
use Rattle.connection_core.specs.declared.peer.Peer.{Peer}
use Rattle.connection_core.specs.declared.peer.Peer.TheVariants.{Unheard, Requests, Responds, Refused}

-- the bytes are a request with these fields, which a server accepts
pub record IsRequest (bytes : List ℕ) (request : NegotiateRequest) : Type 0 where
  pub fields : shown_request request ≡ request_fields bytes
  pub lawful : IsLawfulRequest (shown_request request)

-- the bytes are a response that settles this with a client of these limits
pub record IsResponse (limits : Limits) (bytes : List ℕ) (agreed : Agreed) : Type 0 where
  pub settles : agreed ≡ settled_by Client limits bytes
  pub lawful : IsLawfulAgreement agreed

-- a message that a client accepts
abbrev pub SaysResponse : Limits → List ℕ → Peer → Type 0
SaysResponse limits bytes Unheard = ⊥
SaysResponse limits bytes (Requests request) = ⊥
SaysResponse limits bytes (Responds agreed) = IsResponse limits bytes agreed
SaysResponse limits bytes Refused = ⊥

-- a message that a server accepts
abbrev pub SaysRequest : List ℕ → Peer → Type 0
SaysRequest bytes Unheard = ⊥
SaysRequest bytes (Requests request) = IsRequest bytes request
SaysRequest bytes (Responds agreed) = ⊥
SaysRequest bytes Refused = ⊥

-- what a negotiation message that is not refused says to an end
abbrev pub Says : EndId → Limits → List ℕ → Peer → Type 0
Says Client limits bytes peer = SaysResponse limits bytes peer
Says Server limits bytes peer = SaysRequest bytes peer

-- what was heard of the peer
pub record HasHeard (side : EndId) (limits : Limits) (past : List Event) (peer : Peer) : Type 0 where
  pub heard : is_unheard past ≡ false
  pub welcomed : is_welcomed side limits past ≡ true
  pub says : Says side limits (peer_negotiation past) peer

pub record HasRefused (side : EndId) (limits : Limits) (past : List Event) : Type 0 where
  pub heard : is_unheard past ≡ false
  pub unwelcome : is_welcomed side limits past ≡ false

abbrev pub Knows : EndId → Limits → List Event → Peer → Type 0
Knows side limits past Unheard = is_unheard past ≡ true
Knows side limits past (Requests request) = HasHeard side limits past (Requests request)
Knows side limits past (Responds agreed) = HasHeard side limits past (Responds agreed)
Knows side limits past Refused = HasRefused side limits past
