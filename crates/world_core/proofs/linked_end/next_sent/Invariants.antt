-- The events that were looked through so far sent no more frames.
use Rattle.std.proofs.Common.{◌≡◌, ◌-◌, ◌≤◌, length, take, reverse}
use Rattle.smbd_base.specs.Joint.{emitted_frames}
use Rattle.world_core.proofs.linked_end.next_sent.Given as goal

abbrev pub invariant-loop-event : goal.invariant-loop-event
invariant-loop-event l = record {
  within : l.looked ≤ length l.history;
  same : emitted_frames (reverse (take l.looked l.history)) ≡ emitted_frames (reverse (take l.initial.looked l.history));
}

abbrev pub decreases-loop-event : goal.decreases-loop-event
decreases-loop-event l = length l.history - l.looked
