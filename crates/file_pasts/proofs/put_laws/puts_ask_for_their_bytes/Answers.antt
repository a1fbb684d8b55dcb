use Rattle.file_pasts.proofs.PutLaw.{puts_ask, registered_puts_ask}
use Rattle.file_pasts.proofs.Naming.{registered_puts_name}
use Rattle.file_pasts.proofs.put_laws.puts_ask_for_their_bytes.Goals as goal

pub returns-clause-inline : goal.returns-clause-inline
returns-clause-inline c = puts_ask

pub returns-clause-registered : goal.returns-clause-registered
returns-clause-registered c = registered_puts_ask

pub returns-clause-tokens : goal.returns-clause-tokens
returns-clause-tokens c = registered_puts_name
