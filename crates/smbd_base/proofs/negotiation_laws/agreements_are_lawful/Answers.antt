use Rattle.smbd_base.proofs.NegotiationLaws.{lawful_agreement_with_client, lawful_agreement_with_server}
use Rattle.smbd_base.proofs.negotiation_laws.agreements_are_lawful.Goals as goal

pub returns-clause-server : goal.returns-clause-server
returns-clause-server c = lawful_agreement_with_client

pub returns-clause-client : goal.returns-clause-client
returns-clause-client c = lawful_agreement_with_server
