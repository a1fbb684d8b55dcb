-- Each byte so far is that of its place.
use Rattle.std.proofs.Common.{◌≡◌, ℕ, ◌+◌, ◌<◌, get_or}
use Rattle.made_input.specs.Made.{made_byte}
use Rattle.made_input.proofs.input.make.Given as goal

abbrev pub invariant-loop-byte : goal.invariant-loop-byte
invariant-loop-byte l = record {
  at_is : l.at ≡ l.place + l.byte-index;
  so_far : (k : ℕ) → k < l.byte-index → get_or l.room k 0 ≡ made_byte l.first (l.place + k);
}
