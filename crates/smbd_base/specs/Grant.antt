-- The credits that a frame grants (MS-SMBD 2.2.2 and 2.2.3).
use Rattle.std.specs.Prelude.{ℕ, Bool, true, false, List}
use Rattle.smbd_base.specs.declared.end_id.EndId.{EndId}
use Rattle.smbd_base.specs.declared.end_id.EndId.TheVariants.{Client, Server}
use Rattle.smbd_base.specs.Fields.{u16_at}

-- A client's first frame, its negotiate request, grants none. A server's first frame is a negotiate response,
-- and each later frame a data transfer message.
abbrev pub credits_in : EndId → Bool → List ℕ → ℕ
credits_in Client true frame = 0
credits_in Server true frame = u16_at 10 frame
credits_in side false frame = u16_at 2 frame
