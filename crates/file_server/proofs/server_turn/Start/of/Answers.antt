use Rattle.std.proofs.Common.{◌≡◌, List, map, refl, sym, ap, ◌∙◌, arith, None}
use Rattle.buffer_descriptor.specs.declared.descriptor.Descriptor.{Descriptor}
use Rattle.file_messages.specs.declared.job.Work.{Work}
use Rattle.file_messages.specs.declared.job.Work.TheVariants.{Fetch}
use Rattle.file_server.specs.ServerTurn.{first_jobs}
use Rattle.file_server.proofs.ServerStarts.{jobs-fetched, group-fetched, room-fetched}
use Rattle.file_server.proofs.server_turn.Start.of.Goals as goal

pub returns : goal.returns
returns c =
    let due : c.in_ok-due.due.items ≡ first_jobs c.args.status c.args.request.now =
    c.in_ok-due.ensures ∙ ap (λ (ds : List Descriptor). map (λ (d : Descriptor). Fetch d) ds) c.list.ensures
    ∙ sym (jobs-fetched c.args.status c.args.request.now c.if-status-ne0.false c.if-request-ne-WRITE.false) in
    let size = room-fetched c.args.status c.args.request.now c.if-status-ne0.false c.if-request-ne-WRITE.false c.if-request-eq0.false c.requires in
    record {
      first_is = refl;
      due = due;
      outcomes = c.in_ok-none_yet.ensures ∙ ap (λ (ws : List Work). map (λ (w : Work). None) ws) due;
      filled = refl;
      empty = c.in_ok-with_capacity.ensures.items;
      room = omega (arith, size, c.in_ok-with_capacity.ensures.exact);
      group = sym (group-fetched c.args.status c.args.request.now c.if-request-eq0.false);
    }
