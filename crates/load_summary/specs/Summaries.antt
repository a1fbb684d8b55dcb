-- The line that tells what the put of a made input came to (this project's own).
use Rattle.std.specs.Prelude.{ℕ, ◌+◌, ◌/◌, List, ◌++◌, codes, decimal}
use Rattle.hex.specs.Hex.{encode_lower}
use Rattle.sha2.specs.Sha256.{sha256}
use Rattle.made_input.specs.Made.{made_bytes}

-- how many requests a put of so many bytes has: one for each 65,536 bytes, the last of them for fewer where fewer are left, and END
abbrev pub requests_of_put : ℕ → ℕ
requests_of_put size = (size + 65535) / 65536 + 1

-- how many bytes were copied by how many requests, and the SHA-256 (FIPS 180-4) of the bytes that came, in lower-case hex
abbrev pub summary_text : ℕ → ℕ → List ℕ → List ℕ
summary_text size requests bytes =
    codes "length " ++ decimal size ++ codes " requests " ++ decimal requests ++ codes " sha256 " ++ encode_lower (sha256 bytes) ++ codes "\n"

-- the line of the made input of so many bytes: what it was asked for alone says what it is
unfoldable pub load_line : ℕ → ℕ → List ℕ
load_line first size = summary_text size (requests_of_put size) (made_bytes first size)
