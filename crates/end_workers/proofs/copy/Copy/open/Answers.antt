use Rattle.std.proofs.Common.{false, refl, arith}
use Rattle.end_workers.specs.declared.copy.Copy.{Copy}
use Rattle.end_workers.proofs.Beginning.{is-fresh, fresh-opened, fresh-on, unopened}
use Rattle.end_workers.proofs.copy.Copy.open.Goals as goal

pub returns-in_err-group-clause-stops : goal.returns-in_err-group-clause-stops
returns-in_err-group-clause-stops c = λ from to log reads writes logs.
    unopened c.from_residual.result c.args.options.now from to log c.requires c.credits-credits.ensures.lawful reads writes logs

pub returns-in_err-open-clause-stops : goal.returns-in_err-open-clause-stops
returns-in_err-open-clause-stops c = λ from to log reads writes logs.
    unopened c.from_residual-in_err-open.result c.args.options.now from to log c.requires c.credits-credits.ensures.lawful reads writes logs

pub returns-clause-opened : goal.returns-clause-opened
returns-clause-opened c =
    let copy : Copy = record {
      alloc = c.args.alloc;
      options = c.args.options.now;
      parts = c.in_ok-open.field-0;
      client_told = c.nothing.result;
      server_told = c.nothing-2.result;
      group = c.in_ok-group.group;
      read = 0;
      ended = false;
    } in
    fresh-opened c.args.options.now copy
    (is-fresh c.args.options.now copy refl c.in_ok-open.ensures c.nothing.ensures c.nothing-2.ensures refl refl (omega (arith, c.in_ok-group.ensures.capacity)))

pub returns-clause-on : goal.returns-clause-on
returns-clause-on c =
    let copy : Copy = record {
      alloc = c.args.alloc;
      options = c.args.options.now;
      parts = c.in_ok-open.field-0;
      client_told = c.nothing.result;
      server_told = c.nothing-2.result;
      group = c.in_ok-group.group;
      read = 0;
      ended = false;
    } in
    fresh-on c.args.options.now copy
    (is-fresh c.args.options.now copy refl c.in_ok-open.ensures c.nothing.ensures c.nothing-2.ensures refl refl (omega (arith, c.in_ok-group.ensures.capacity)))
