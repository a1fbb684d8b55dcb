-- Where the reply to END was taken and no group waits, a copy is whole.
use Rattle.file_messages.specs.declared.kind.CopyKind.TheVariants as kinds
use Rattle.copy_runs.specs.Laws.{CopiesEnd}
use Rattle.copy_runs.proofs.PutsEnd.{put-whole}
use Rattle.copy_runs.proofs.GetsEnd.{get-whole}

pub copies-end : CopiesEnd
copies-end kinds.Put channel workers count p pages cs ss c over none = put-whole channel workers count p pages cs ss c over none
copies-end kinds.Get channel workers count p pages cs ss c over none = get-whole channel workers count p pages cs ss c over none
