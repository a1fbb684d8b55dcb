use Rattle.std.proofs.Common.{◌∙◌, ap, fold, arith}
use Rattle.world_core.specs.Run.{State, step_of}
use Rattle.sim_script.specs.Scripts.{script_of}
use Rattle.smbd_cli.proofs.plain.log_of_script.Goals as goal

pub lines_of_run-requires : goal.lines_of_run-requires
lines_of_run-requires c = record {
  client = c.args.limits;
  server = c.args.limits;
  choices = script_of c.args.text.now;
  client_lawful = c.credits.ensures.lawful;
  server_lawful = c.credits.ensures.lawful;
  few = omega (arith, c.in-Ok-run_text.ensures.few, c.requires);
  run = c.in-Ok-run_text.ensures.run ∙ ap (λ (w : State). fold step_of w (script_of c.args.text.now)) c.in-Ok.ensures.opened;
}
