use Rattle.file_pasts.specs.PutLaws.{put_over}
use Rattle.file_transfer.proofs.put_client.PutClient.open.Goals as goal

pub returns : goal.returns
returns c = record { requests = c.new.ensures (put_over c.args.channel c.args.pages); groups = c.in_ok-groups.ensures }
