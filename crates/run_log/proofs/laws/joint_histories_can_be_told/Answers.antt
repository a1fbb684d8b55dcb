use Rattle.run_log.proofs.Tellable.{client_tellable, server_tellable}
use Rattle.run_log.proofs.laws.joint_histories_can_be_told.Goals as goal

pub returns : goal.returns
returns c = record {
  client = λ client_limits server_limits client server lawful lawful' joint few. client_tellable client_limits server_limits client server lawful lawful' joint.linked few;
  server = λ client_limits server_limits client server lawful lawful' joint few. server_tellable client_limits server_limits client server lawful lawful' joint.linked few;
}
