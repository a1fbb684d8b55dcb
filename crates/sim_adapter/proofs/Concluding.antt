-- What follows for two ends that have met.
use Rattle.std.proofs.Common.{◌≡◌, ℕ, sym, ap, subst, ◌∙◌}
use Rattle.smbd_base.specs.Limits.{IsLawful}
use Rattle.empty_frames.specs.EmptyFrames.{SendFewEmpty}
use Rattle.empty_frames.proofs.Bounding.{few_empty}
use Rattle.quiet_ends.specs.QuietEnds.{DeliverAllOnceQuiet}
use Rattle.quiet_ends.proofs.Quieting.{all_once_quiet}
use Rattle.sim_adapter.specs.declared.view.Ends.{Ends}
use Rattle.sim_adapter.specs.declared.view.EndView.{EndView}
use Rattle.sim_adapter.specs.Plays.{learned, AreMet}

abbrev AreLawful : Ends → Type 0
AreLawful k = IsLawful k.client × IsLawful k.server

module _ (k : Ends) (client server before : EndView) (n : ℕ) (told : client ≡ learned before n) (keyed : before.ends ≡ k) (lawful : AreLawful k) (met : AreMet client server) where
  lawful_now : AreLawful client.ends
  lawful_now = subst (λ (x : Ends). AreLawful x) (sym (ap (λ (e : EndView). e.ends) told ∙ keyed)) lawful

  pub few_met : SendFewEmpty client.ends.client client.ends.server client.past server.past
  few_met = few_empty client.ends.client client.ends.server client.past server.past lawful_now.0 lawful_now.1 met.fit.joint

  pub quiet_met : DeliverAllOnceQuiet client.ends.client client.ends.server client.past server.past
  quiet_met = all_once_quiet client.ends.client client.ends.server client.past server.past lawful_now.0 lawful_now.1 met.fit.joint
