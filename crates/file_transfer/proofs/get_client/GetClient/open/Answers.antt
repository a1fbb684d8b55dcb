use Rattle.file_transfer.proofs.get_client.GetClient.open.Goals as goal

pub returns : goal.returns
returns c = record { requests = c.new.ensures c.args.channel; groups = c.new-2.ensures c.args.channel; rounds = c.in_ok-rounds.ensures }
