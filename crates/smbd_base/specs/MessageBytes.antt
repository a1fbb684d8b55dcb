-- The bytes of a message.
use Rattle.std.specs.Prelude.{ℕ, List}
use Rattle.std.specs.Arc.{arc_slice_items}
use Rattle.smbd_base.specs.declared.message.Bytes.{Bytes}
use Rattle.smbd_base.specs.declared.message.Bytes.TheVariants.{Shared, Owned}

-- the bytes, shared or owned
abbrev pub bytes_of : Bytes → List ℕ
bytes_of (Shared bytes) = arc_slice_items bytes
bytes_of (Owned bytes) = bytes.items
