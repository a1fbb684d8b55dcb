use Rattle.copy_texts.proofs.Fixing.{texts-fix}
use Rattle.copy_texts.proofs.laws.texts_fix_what_they_tell.Goals as goal

pub returns : goal.returns
returns c = texts-fix
