-- Whatever its machines do, a get is handed the bytes of the copy and answered by them.
use Rattle.file_messages.specs.declared.kind.CopyKind.TheVariants as kinds
use Rattle.file_pasts.specs.ServerDue.{Asked, Filled, Gave, Completed, Replied, Stored}
use Rattle.copy_laws.specs.Growing.{bytes_filled}
use Rattle.copy_laws.proofs.Growing.{gets-grow, get-answered}
use Rattle.copy_runs.specs.Laws.{ClientsCarry, ServersCarry}
use Rattle.copy_runs.proofs.GetsOfCopies.{get-runs}

pub clients-carry : ClientsCarry
clients-carry kinds.Put channel workers count p pages cs ss client c between = tt
clients-carry kinds.Get channel workers count p pages cs ss client c between =
    let runs = get-runs channel workers count p pages cs ss c in
    (c.carried.0, get-answered channel (bytes_filled p.server) (record p { client = client }) runs.is_get.answered between)

pub servers-carry : ServersCarry
servers-carry kinds.Put channel workers count p pages cs ss e c follows = tt
servers-carry kinds.Get channel workers count p pages cs ss (Asked m) c follows = c.carried
servers-carry kinds.Get channel workers count p pages cs ss (Filled bytes) c follows =
    let runs = get-runs channel workers count p pages cs ss c in
    gets-grow channel p bytes c.server c.between c.copyable c.carried.0 c.carried.1 runs.is_get follows
servers-carry kinds.Get channel workers count p pages cs ss (Gave work) c follows = c.carried
servers-carry kinds.Get channel workers count p pages cs ss (Completed d) c follows = c.carried
servers-carry kinds.Get channel workers count p pages cs ss (Replied r) c follows = c.carried
servers-carry kinds.Get channel workers count p pages cs ss (Stored bytes) c follows = c.carried
