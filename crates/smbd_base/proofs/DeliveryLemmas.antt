-- What a taken frame delivers.
use Rattle.std.proofs.Common.{◌≡◌, ℕ, ◌==◌, Bool, true, false, cond, List, [], ◌∷◌, ◌++◌, Option, Some, None, option_to_list, refl, sym, append-nil}
use Rattle.smbd_base.specs.declared.end_id.EndId.{EndId}
use Rattle.smbd_base.specs.declared.event.Event.{Event}
use Rattle.smbd_base.specs.declared.event.Event.TheVariants.{Take}
use Rattle.smbd_base.specs.Limits.{Limits}
use Rattle.smbd_base.specs.Pieces.{Piece, Gathered}
use Rattle.smbd_base.specs.Delivery.{gather, gathered, messages_delivered, message_brought, message_ended, piece_brought}

gather_more : (g : Gathered) (o : Option Piece) → (gather g o).messages ≡ g.messages ++ option_to_list (message_ended g o)
gather_more g None = sym (append-nil g.messages)
gather_more g (Some p) = by_end (p.remaining == 0) where
  by_end : (ends : Bool) → (cond {A = Gathered} ends (record { messages = g.messages ++ (g.begun ++ p.payload) ∷ []; begun = [] }) (record { messages = g.messages; begun = g.begun ++ p.payload })).messages
      ≡ g.messages ++ option_to_list (cond ends (Some (g.begun ++ p.payload)) None)
  by_end true = refl
  by_end false = sym (append-nil g.messages)

-- the messages delivered gain the one that the frame ends, and nothing where it ends none
pub delivered-take : (side : EndId) (limits : Limits) (past : List Event) (frame : List ℕ)
    → messages_delivered side limits (Take frame ∷ past) ≡ messages_delivered side limits past ++ option_to_list (message_brought side limits past frame)
delivered-take side limits past frame = gather_more (gathered side limits past) (piece_brought side limits past frame)
