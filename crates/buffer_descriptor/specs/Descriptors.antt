-- Buffer Descriptor V1 (MS-SMBD 2.2.3.1): Offset, Token and Length, little-endian. That a descriptor neither wraps nor
-- is empty is this project's own.
use Rattle.std.specs.Prelude.{◌≡◌, ℕ, ◌+◌, ◌*◌, ◌-◌, ◌^◌, ◌==◌, ◌<◌, ◌≤◌, nat_lt, nat_le, ◌&&◌, Bool, List, ◌++◌, length, drop, slice_index_or, count_by, is_ok, Result, Ok, Err, true, if◌then◌else◌}
use Rattle.std.specs.Int.{w32, w64, to_le_bytes}
use Rattle.std.specs.List.Sorted.{IsPermutation, IsNonDecreasingBy}
use Rattle.smbd_base.specs.Fields.{u32_at}
use Rattle.buffer_descriptor.specs.declared.descriptor.Descriptor.{Descriptor}
use Rattle.buffer_descriptor.specs.declared.descriptor.DescriptorFault.{DescriptorFault}
use Rattle.buffer_descriptor.specs.declared.descriptor.DescriptorFault.TheVariants.{Short, Wraps, Zero}
use Rattle.buffer_descriptor.specs.declared.descriptors.ListFault.{ListFault}
use Rattle.buffer_descriptor.specs.declared.descriptors.ListFault.TheVariants.{At, NoMemory}

-- the place after a descriptor's last byte
abbrev pub place_after : Descriptor → ℕ
place_after d = d.offset + d.length

-- a descriptor names at least one byte, and its interval ends below 2^64
pub record IsSound (d : Descriptor) : Type 0 where
  pub some : 1 ≤ d.length
  pub within : place_after d < 2 ^ 64

-- the fields that stand in the first 16 bytes
abbrev pub fields_of : List ℕ → Descriptor
fields_of bytes = record {
  offset = u32_at 0 bytes + u32_at 4 bytes * 4294967296;
  token = u32_at 8 bytes;
  length = u32_at 12 bytes;
}

-- the descriptor that bytes begin with, or the first fault that applies
unfoldable pub descriptor_of : List ℕ → Result Descriptor DescriptorFault
descriptor_of bytes =
    if nat_lt (length bytes) 16 then Err Short
    else if nat_lt (2 ^ 64 - 1) (place_after (fields_of bytes)) then Err Wraps
    else if (fields_of bytes).length == 0 then Err Zero
    else Ok (fields_of bytes)

-- the one written form
abbrev pub descriptor_bytes : Descriptor → List ℕ
descriptor_bytes d = to_le_bytes w64 d.offset ++ to_le_bytes w32 d.token ++ to_le_bytes w32 d.length

-- what the bytes of a list of descriptors say at this place
abbrev pub descriptor_at : ℕ → List ℕ → Result Descriptor DescriptorFault
descriptor_at place bytes = descriptor_of (drop (16 * place) bytes)

-- the bytes begin with so many descriptors, which are these
pub record ListsAs (bytes : List ℕ) (count : ℕ) (list : List Descriptor) : Type 0 where
  pub as_many : length list ≡ count
  pub each : (k : ℕ) (d : Descriptor) → k < count → descriptor_at k bytes ≡ Ok (slice_index_or list k d)

-- of so many descriptors the one at this place is the first that can't be read
pub record FirstFails (bytes : List ℕ) (count place : ℕ) (fault : DescriptorFault) : Type 0 where
  pub among : place < count
  pub fails : descriptor_at place bytes ≡ Err fault
  pub before : (k : ℕ) → k < place → is_ok (descriptor_at k bytes) ≡ true

-- what a refused list says of its bytes; want of memory says nothing
abbrev pub FailsAsList : List ℕ → ℕ → ListFault → Type 0
FailsAsList bytes count (At place fault) = FirstFails bytes count place fault
FailsAsList bytes count NoMemory = Unit {0}

-- the byte place lies in the descriptor's interval
abbrev pub names : ℕ → Descriptor → Bool
names x d = nat_le d.offset x && nat_lt x (place_after d)

-- each byte place lies in at most one of the descriptors of a list
abbrev pub AreDisjoint : List Descriptor → Type 0
AreDisjoint list = (x : ℕ) → count_by (names x) list ≤ 1

-- the descriptor's interval lies in the one from base up to, not including, base plus length
pub record IsCovered (base len : ℕ) (d : Descriptor) : Type 0 where
  pub begins : base ≤ d.offset
  pub ends : place_after d ≤ base + len

-- the same descriptors in the order of their offsets
pub record IsByOffset (list by_offset : List Descriptor) : Type 0 where
  pub same : IsPermutation list by_offset
  pub rising : IsNonDecreasingBy (λ (d : Descriptor). d.offset) by_offset
