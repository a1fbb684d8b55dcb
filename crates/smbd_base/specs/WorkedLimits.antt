-- Worked limits: both bounds of each range, and which of two faults comes first, found by computation.
use Rattle.std.specs.Prelude.{◌≡◌, ℕ, Ok, Err}
use Rattle.smbd_base.specs.declared.limits.LimitFault.TheVariants.{Credits, SendSize, ReceiveSize, FragmentedSize, Pages}
use Rattle.smbd_base.specs.declared.token.TheConstants.{PAGE_SIZE, LAST_GENERATION}
use Rattle.smbd_base.specs.Limits.{Limits, checked}
use Rattle.smbd_base.specs.Tokens.{start_of_page}

abbrev pub of_numbers : ℕ → ℕ → ℕ → ℕ → ℕ → Limits
of_numbers credits send receive fragmented pages =
    record { credits = credits; send_size = send; receive_size = receive; fragmented_size = fragmented; pages = pages }

pub record LimitsSo : Type 0 where
  -- the least and the greatest of each
  pub least : checked (of_numbers 3 128 128 131072 16) ≡ Ok (of_numbers 3 128 128 131072 16)
  pub greatest : checked (of_numbers 255 8192 8192 1048576 255) ≡ Ok (of_numbers 255 8192 8192 1048576 255)
  -- one less and one more of each
  pub few_credits : checked (of_numbers 2 128 128 131072 16) ≡ Err Credits
  pub many_credits : checked (of_numbers 256 8192 8192 1048576 255) ≡ Err Credits
  pub short_sends : checked (of_numbers 3 127 128 131072 16) ≡ Err SendSize
  pub long_sends : checked (of_numbers 255 8193 8192 1048576 255) ≡ Err SendSize
  pub short_receives : checked (of_numbers 3 128 127 131072 16) ≡ Err ReceiveSize
  pub long_receives : checked (of_numbers 255 8192 8193 1048576 255) ≡ Err ReceiveSize
  pub short_messages : checked (of_numbers 3 128 128 131071 16) ≡ Err FragmentedSize
  pub long_messages : checked (of_numbers 255 8192 8192 1048577 255) ≡ Err FragmentedSize
  pub few_pages : checked (of_numbers 3 128 128 131072 15) ≡ Err Pages
  pub many_pages : checked (of_numbers 255 8192 8192 1048576 256) ≡ Err Pages
  -- of two faults the one further to the left
  pub first : checked (of_numbers 2 127 128 131072 16) ≡ Err Credits
  pub second : checked (of_numbers 3 127 127 131072 16) ≡ Err SendSize
  pub third : checked (of_numbers 3 128 127 131071 16) ≡ Err ReceiveSize
  pub fourth : checked (of_numbers 3 128 128 131071 15) ≡ Err FragmentedSize
  -- pages and their tokens
  pub page : PAGE_SIZE ≡ 4096
  pub second_page : start_of_page 1 ≡ 4096
  pub generations : LAST_GENERATION ≡ 16777215
