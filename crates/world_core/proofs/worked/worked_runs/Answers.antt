use Rattle.std.proofs.Common.{refl}
use Rattle.smbd_base.specs.History.{next_event, take_fault, fault_expecting}
use Rattle.smbd_base.specs.NegotiateMessages.{request_fault, fault_in_request}
use Rattle.world_core.proofs.worked.worked_runs.Goals as goal

pub returns : goal.returns
unfolding next_event take_fault fault_expecting request_fault fault_in_request
returns c = record {
  none = refl;
  cut = refl;
  link = refl;
  unaware = refl;
  finds = refl;
  lost = refl;
  posts = refl;
  submits = refl;
  sends_none = refl;
  post_due = refl;
  after_cut = refl;
  order = refl;
}
