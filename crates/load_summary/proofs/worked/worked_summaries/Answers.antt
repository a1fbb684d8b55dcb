use Rattle.std.proofs.Common.{refl}
use Rattle.std.specs.Fmt.{digits}
use Rattle.hex.specs.Hex.{encode_with}
use Rattle.sha2.specs.Sha256.{first_words, schedule, rounds, compress, hash_after, digest_bytes, sha256}
use Rattle.made_input.specs.Made.{made_bytes}
use Rattle.load_summary.specs.Summaries.{load_line}
use Rattle.load_summary.proofs.worked.worked_summaries.Goals as goal

pub returns-clause-lines : goal.returns-clause-lines
unfolding digits encode_with first_words schedule rounds compress hash_after digest_bytes sha256 made_bytes load_line
returns-clause-lines c = record { none = refl; three = refl }
