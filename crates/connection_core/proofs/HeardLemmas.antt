-- What a frame that is not refused does to the gatherer, by what it says.
use Rattle.std.proofs.Common.{◌≡◌, ℕ, true, List, ◌∷◌, Option, None, is_none, Ok, Err, refl, sym, ◌∙◌}
use Rattle.smbd_base.specs.declared.end_id.EndId.{EndId}
use Rattle.smbd_base.specs.declared.event.Event.{Event}
use Rattle.smbd_base.specs.declared.event.Event.TheVariants.{Take}
use Rattle.smbd_base.specs.declared.faults.TakeFault.{TakeFault}
use Rattle.smbd_base.specs.Limits.{Limits}
use Rattle.smbd_base.specs.Delivery.{message_brought}
use Rattle.smbd_base.specs.History.{take_fault}
use Rattle.reassembly.specs.Gathering.{Gathering}
use Rattle.connection_core.specs.Gatherer.{gatherer_of}
use Rattle.connection_core.specs.Heard.{IsHeard, fault_in, gathered_with, message_heard}
use Rattle.connection_core.specs.declared.heard.Heard.{Heard}
use Rattle.connection_core.specs.declared.heard.Heard.TheVariants.{Negotiation, Data}
use Rattle.connection_core.proofs.GatherLemmas.{accepted_data, brought-is, gatherer-added, gatherer-opened}
use Rattle.connection_core.proofs.PeerLemmas.{first_accepted}

accepted : (o : Option TakeFault) → o ≡ None → is_none o ≡ true
accepted o e = rw e refl

-- a frame that is not refused says nothing for which it would be
pub fits_heard : (side : EndId) (limits : Limits) (past : List Event) (frame : List ℕ) (heard : Heard) (g : Gathering) → g ≡ gatherer_of side limits past → IsHeard side limits past frame heard
    → take_fault side limits past frame ≡ None → fault_in g.max g.expected heard ≡ None
fits_heard side limits past frame (Negotiation (Ok peer)) g g_is h e = refl
fits_heard side limits past frame (Negotiation (Err fault)) g g_is h e =
    let none = first_accepted side limits past frame h.0 (accepted (take_fault side limits past frame) e) in
    let some = h.1 in
    absurd (let b : ⊥ = cc in b)
fits_heard side limits past frame (Data read) g g_is h e = rw (g_is, h.1) (accepted_data side limits past frame e h.0)

-- it adds its piece
pub added_heard : (side : EndId) (limits : Limits) (past : List Event) (frame : List ℕ) (heard : Heard) (g : Gathering) → g ≡ gatherer_of side limits past → IsHeard side limits past frame heard
    → take_fault side limits past frame ≡ None → gathered_with g heard ≡ gatherer_of side limits (Take frame ∷ past)
added_heard side limits past frame (Negotiation said) g g_is h e = g_is ∙ sym (gatherer-opened side limits past frame h.0)
added_heard side limits past frame (Data read) g g_is h e = rw (g_is, h.1) (sym (gatherer-added side limits past frame e h.0))

-- and ends the message that its piece ends
pub brought_heard : (side : EndId) (limits : Limits) (past : List Event) (frame : List ℕ) (heard : Heard) (g : Gathering) → g ≡ gatherer_of side limits past → IsHeard side limits past frame heard
    → take_fault side limits past frame ≡ None → message_heard g heard ≡ message_brought side limits past frame
brought_heard side limits past frame (Negotiation said) g g_is h e = rw (h.0) refl
brought_heard side limits past frame (Data read) g g_is h e = rw (g_is, h.1) (sym (brought-is side limits past frame e h.0))
