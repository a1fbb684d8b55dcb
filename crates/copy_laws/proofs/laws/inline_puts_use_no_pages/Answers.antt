use Rattle.copy_laws.proofs.InlinePuts.{inline-puts-come}
use Rattle.copy_laws.proofs.laws.inline_puts_use_no_pages.Goals as goal

pub returns : goal.returns
returns c = inline-puts-come
